-- A name written into the slot behind the others: it stands there, and the names before it stay. Assumes nothing.
use Rattle.std.proofs.lemmas.Grind.{common_steps}
use Rattle.std.proofs.Common.{◌≡◌, ℕ, ◌+◌, ◌*◌, ◌<◌, ◌≤◌, List, ◌++◌, length, get_or, take, drop, sym, ap, ◌∙◌, arith}
use lib.Seq.{paste}
use Rattle.std.proofs.lemmas.List.{take-append-drop}
use Rattle.std.proofs.lemmas.List.Edits.{length-paste}
use Rattle.entries.specs.Rows.{name_in, packed, slot_size, longest_name}

-- the name in a slot, with or without what stands behind the slot
name_front : (front rest : List ℕ) (i : ℕ) → slot_size * i + slot_size ≤ length front → get_or front (slot_size * i) 0 ≤ longest_name → name_in (front ++ rest) i ≡ name_in front i
name_front front rest i h b = grind (arith, common_steps)

-- memory after a name is written into slot `count`
abbrev pub written : List ℕ → List ℕ → ℕ → List ℕ
written slots x count = paste slots (slot_size * count) (packed x) (1 + length x)

module _ (slots x : List ℕ) (count : ℕ) (room : slot_size * count + slot_size ≤ length slots) where
  written_is : written slots x count ≡ take (slot_size * count) slots ++ (packed x ++ drop (slot_size * count + (1 + length x)) slots)
  written_is = grind (arith, common_steps)

  pub name_new : name_in (written slots x count) count ≡ x
  name_new = grind (arith, common_steps)

  module _ (i : ℕ) (l : i < count) where
    pub name_kept : get_or slots (slot_size * i) 0 ≤ longest_name → name_in (written slots x count) i ≡ name_in slots i
    name_kept b =
        let front : List ℕ = take (slot_size * count) slots in
        let within : slot_size * i + slot_size ≤ length front = grind (arith, common_steps) in
        let short : get_or front (slot_size * i) 0 ≤ longest_name = grind (arith, common_steps) in
        let whole : front ++ drop (slot_size * count) slots ≡ slots = take-append-drop (slot_size * count) slots in
        simp written_is (name_front front _ i within short) ∙ sym (name_front front (drop (slot_size * count) slots) i within short) ∙ ap (λ (l : List ℕ). name_in l i) whole

  pub length_written : length x ≤ longest_name → length (written slots x count) ≡ length slots
  length_written short = length-paste slots (slot_size * count) (packed x) (1 + length x) (omega arith) (omega arith)
