use Rattle.std.proofs.Common.{[], List, ℕ, map, sym, ap, ◌∙◌, arith}
use Rattle.std.specs.List.{range_with_len, flat_map}
use Rattle.std.proofs.lemmas.List.{flat_map_more}
use Rattle.std.proofs.lemmas.List.FromFn.{map-range_with_len_more}
use Rattle.output.proofs.Writing.{writes_none, writes_then, writes_as}
use Rattle.report_text.specs.Report.{party_line}
use Rattle.report_text.proofs.parties.put_parties.Goals as goal

pub loop-party-init : goal.loop-party-init
loop-party-init c = writes_none _

pub loop-party-preserved : goal.loop-party-preserved
loop-party-preserved c =
    let k = c.loop-party.party in
    let line = party_line c.args.protocol.now in
    let id = λ (x : List ℕ). x in
    let more = flat_map_more id [] (map line (range_with_len 0 k)) (line k) ∙ ap (flat_map id) (sym (map-range_with_len_more line 0 k k (omega arith))) in
    writes_as more (writes_then c.loop-party.invariant c.put_party.ensures)
