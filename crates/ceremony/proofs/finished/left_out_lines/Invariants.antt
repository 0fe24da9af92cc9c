use Rattle.std.proofs.Common.{◌≡◌, string_bytes}
use Rattle.ceremony.specs.Reports.{left_out_lines}
use Rattle.ceremony.proofs.finished.left_out_lines.Given as goal

abbrev pub invariant-loop-party : goal.invariant-loop-party
invariant-loop-party l = string_bytes l.text ≡ left_out_lines l.records.bytes.now l.records.length l.party
