use Rattle.std.proofs.Common.{◌≡◌, ℕ, ◌+◌, ◌<◌, List, [], ◌∷◌, ◌++◌, map, length, get_or, take, ap, ◌∙◌, arith}
use Rattle.sha256.specs.Absorbed.{fresh, absorbed}
use Rattle.sha256.proofs.Laws.{parts_none, parts_more, parts_hash}
use Rattle.std.proofs.lemmas.Grind.{common_steps}
use Rattle.std.proofs.lemmas.List.{map_more}
use Rattle.entries.specs.Rows.{name_in, packed_rows}
use Rattle.entries.proofs.hash_names.Goals as goal

-- one more row, after its length
one_more : (slots numbers row : List ℕ) (i : ℕ) → i < length numbers → row ≡ name_in slots (get_or numbers i 0)
    → (packed_rows (map (name_in slots) (take i numbers)) ++ (length row ∷ [])) ++ row ≡ packed_rows (map (name_in slots) (take (i + 1) numbers))
one_more slots numbers row i l e = rw (map_more (name_in slots) numbers i 0 l) (grind (arith, common_steps))

pub loop-slot-init : goal.loop-slot-init
loop-slot-init c = parts_none c.new-hasher.result c.new-hasher.ensures

pub loop-slot-preserved : goal.loop-slot-preserved
loop-slot-preserved c =
    parts_more _ _ _ _ (parts_more _ _ _ _ c.loop-slot.invariant c.update.ensures) c.update-in-loop-slot.ensures
    ∙ ap (absorbed fresh) (one_more c.args.slots.now c.args.numbers.now c.name_in-name.result.now c.loop-slot.slot-index c.loop-slot-test.true c.name_in-name.ensures.is)

pub returns : goal.returns
returns c = grind (arith, common_steps, parts_hash)
