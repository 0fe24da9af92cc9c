-- What is read of bytes. Assumes nothing.
use Rattle.std.proofs.Common.{◌≡◌, ℕ, ◌+◌, ◌*◌, ◌/◌, ◌%◌, ◌<◌, ◌≤◌, List, [], ◌∷◌, length, get_or, take, drop, ap, ◌∙◌, arith}
use Rattle.std.proofs.lemmas.List.{drop_more}
use Rattle.std.proofs.lemmas.Grind.{common_steps}
use Rattle.protocol.specs.Draws.{Bytes}
use Rattle.protocol.specs.Layout.{word_at}
use Rattle.protocol.specs.Protocol.{word}

module _ (B : List ℕ) where
  pub part_long : (at m : ℕ) → at + m ≤ length B → length (take m (drop at B)) ≡ m
  part_long at m h = grind (arith, common_steps)

  -- two bytes are those of their number
  pub word_read : Bytes B → (at : ℕ) → at + 2 ≤ length B → take 2 (drop at B) ≡ word (word_at B at)
  word_read byte at h =
      let x : ℕ = get_or B at 0 in
      let y : ℕ = get_or B (at + 1) 0 in
      let two : drop at B ≡ x ∷ (y ∷ drop (at + 1 + 1) B) = drop_more B at 0 (omega arith) ∙ ap (λ (z : List ℕ). x ∷ z) (drop_more B (at + 1) 0 (omega arith)) in
      let a : x < 256 = byte at in
      let low : x ≡ (x + 256 * y) % 256 = omega arith in
      let high : y ≡ (x + 256 * y) / 256 = omega arith in
      ap (take 2) two ∙ (ap (λ (z : ℕ). z ∷ (y ∷ [])) low ∙ ap (λ (z : ℕ). (x + 256 * y) % 256 ∷ (z ∷ [])) high)

  pub bytes_part : Bytes B → (at m : ℕ) → Bytes (take m (drop at B))
  bytes_part byte at m i = grind (arith, common_steps, byte (at + i))
