use Rattle.output.specs.Writes.{Writes}
use Rattle.report_text.specs.Report.{party_lines}
use Rattle.report_text.proofs.parties.put_parties.Given as goal

abbrev pub invariant-loop-party : goal.invariant-loop-party
invariant-loop-party l = Writes l.initial.out l.out (party_lines l.protocol l.party)
