use Rattle.std.proofs.Common.{◌≡◌, ◌≤◌, ◌++◌, map, take}
use Rattle.std.specs.List.{range_with_len}
use Rattle.toc_groups.specs.declared.extents.TheConstants.{DATA_END}
use Rattle.toc_groups.specs.Runs.{run_end, run_place}
use Rattle.toc_groups.proofs.pieces.push_places.Given as goal

-- the first pieces are laid out
abbrev pub invariant-loop-k : goal.invariant-loop-k
invariant-loop-k l = record {
  low : l.end ≤ DATA_END;
  end : l.end ≡ run_end l.start (take l.k l.pieces);
  addresses : l.addresses.items ≡ l.fn.addresses.items ++ map (run_place l.start l.pieces) (range_with_len 0 l.k);
}
