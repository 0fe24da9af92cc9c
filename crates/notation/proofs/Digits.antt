-- Decimal digits gone through one after another. Assumes nothing.
use Rattle.std.proofs.Common.{◌≡◌, ℕ, ◌+◌, ◌<◌, ◌≤◌, List, [], ◌∷◌, length, get_or, drop, Some, None, Option, sym, refl, ap, ◌∙◌, arith}
use Rattle.std.proofs.lemmas.List.{at_drop_more, at_drop_all}
use Rattle.std.specs.Prelude.{option_and_then}
use Rattle.notation.specs.Numbers.{digit_more, number_from, number}

pub number_some : (ds : List ℕ) → 0 < length ds → number_from 0 ds ≡ number ds
number_some [] l = absurd (omega arith)
number_some (d ∷ ds) l = refl

module _ (ds : List ℕ) (i n : ℕ) {all : Option ℕ} (known : number_from n (drop i ds) ≡ all) where
  turn : i < length ds → option_and_then (λ m. number_from m (drop (i + 1) ds)) (digit_more n (get_or ds i 0)) ≡ all
  unfolding number_from
  turn l = sym (at_drop_more (number_from n) ds i 0 l) ∙ known

  pub number_more : {m : ℕ} → i < length ds → Some m ≡ digit_more n (get_or ds i 0) → number_from m (drop (i + 1) ds) ≡ all
  number_more l e = ap (option_and_then (λ m. number_from m (drop (i + 1) ds))) e ∙ turn l

  pub number_ends : i < length ds → None ≡ digit_more n (get_or ds i 0) → None ≡ all
  number_ends l e = ap (option_and_then (λ m. number_from m (drop (i + 1) ds))) e ∙ turn l

  pub number_all : length ds ≤ i → Some n ≡ all
  unfolding number_from
  number_all l = sym (at_drop_all (number_from n) ds i l) ∙ known
