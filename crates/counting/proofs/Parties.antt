-- What one party puts in is added to what the others put in. Assumes nothing.
use Rattle.std.proofs.Common.{◌≡◌, ℕ, ◌*◌, ◌<◌, List, length, set, ap, ◌∙◌}
use Rattle.counting.proofs.Bytes.{bits_added_holds, packed_holds}
use Rattle.counting.specs.Rows.{add_bits, bytes_of}
use Rattle.sum.proofs.Sums.{but, sum_set, length_sum}
use Rattle.sum.specs.Sums.{sum_of}
use Rattle.uniform.proofs.Bits.{bits_are, length_bits}
use Rattle.uniform.specs.Bits.{bits, Bits}

-- what the others put in, and what party i puts in
module _ (L : ℕ) (parties : List (List ℕ)) (i : ℕ) (l : i < length parties) where
  pub others : List ℕ
  others = bits (sum_of L (but i parties))

  pub others_are : Bits others
  unfolding others
  others_are = bits_are (sum_of L (but i parties))

  pub others_long : length others ≡ 8 * L
  unfolding others
  others_long = length_bits (sum_of L (but i parties)) ∙ ap (λ z. 8 * z) (length_sum L (but i parties))

  pub sum_mine : (mine : List ℕ) → length mine ≡ 8 * L → Bits mine → bits (sum_of L (set parties i (bytes_of L mine))) ≡ add_bits others mine
  unfolding others
  sum_mine mine e b =
      ap bits (sum_set L parties i (bytes_of L mine) l)
      ∙ bits_added_holds (sum_of L (but i parties)) (bytes_of L mine)
      ∙ ap (add_bits (bits (sum_of L (but i parties)))) (packed_holds L mine e b).0
