mod Opcodes
