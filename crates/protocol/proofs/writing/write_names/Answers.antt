use Rattle.std.proofs.Common.{ℕ, ◌<◌, [], ◌++◌, map, length, get_or, take, List, vec_items, ap, ◌∙◌, arith}
use Rattle.std.proofs.lemmas.List.{map_more, get_or-map, length-map, length-take}
use Rattle.entries.specs.Rows.{name_in, packed}
use Rattle.protocol.proofs.Writes.{joined_on}
use Rattle.protocol.proofs.writing.write_names.Goals as goal

pub loop-number-preserved : goal.loop-number-preserved
loop-number-preserved c =
    let name = name_in c.args.names.now.slots.now in
    let index = c.args.names.now.index.now in
    let k = c.loop-number.number in
    let h : k < length index = omega (arith, c.len-count.ensures, length-map (take c.args.names.now.count index) name, length-take c.args.names.now.count index) in
    joined_on packed _ _ _ (map name (take k index)) _ (name (get_or index k 0)) c.loop-number.invariant
    (c.in_ok-write_name.ensures ∙ ap (λ (z : List ℕ). vec_items c.loop-number.out ++ packed z) (c.name.ensures.is ∙ get_or-map name index k 0 [] h)) (map_more name index k 0 h)
