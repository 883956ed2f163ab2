-- The executable is run with its input, or there is none.
use Rattle.std.specs.Option.{option_map}
use Rattle.ppclink.proofs.Executing.{run_causes, run_no_input}
use Rattle.ppclink.proofs.running.run_with_input.Goals as goal

pub returns-in-Ok : goal.returns-in-Ok
returns-in-Ok g c =
    run_causes _ _ c.args.image.now c.args.file.items (option_map (λ i. i.now) c.args.options.input) c.in-Ok.given.items
    c.args.options.budget c.run_fetched.result c.in-Ok.ensures.kept c.requires c.in-Ok.ensures.ok c.run_fetched.ensures

pub returns-in-Err : goal.returns-in-Err
returns-in-Err g c =
    run_no_input _ _ c.args.image.now c.args.file.items (option_map (λ i. i.now) c.args.options.input) c.args.options.budget
    c.in-Err.report c.requires c.in-Err.ensures.report
