use Rattle.std.proofs.Common.{◌≡◌, ◌≤◌, take}
use Rattle.std.specs.List.{sum_by}
use Rattle.symbol_table.specs.Text.{text_sections}
use Rattle.ppc_bytes.specs.declared.constants.TheConstants.{TEXT_LIMIT}
use Rattle.call_sites.specs.Refusals.{section_size}
use Rattle.call_sites.proofs.finding.check_text_size.Given as goal

-- the first sections together are no more than the limit
abbrev pub invariant-loop-number : goal.invariant-loop-number
invariant-loop-number l = record {
  total : l.total ≡ sum_by (section_size l.res.files) (take l.number (text_sections l.res.files));
  small : l.total ≤ TEXT_LIMIT;
}
