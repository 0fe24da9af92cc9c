-- What stands from a place on. Assumes nothing.
use Rattle.std.proofs.Common.{◌≡◌, ℕ, ◌+◌, ◌-◌, ◌*◌, ◌/◌, ◌%◌, ◌<◌, List, ◌++◌, length, get_or, take, drop, sym, refl, ap, ◌∙◌, add-zero, arith}
use Rattle.std.proofs.lemmas.List.{get_or-drop, drop-drop, drop_at, take_at, length-drop}
use Rattle.protocol.specs.Layout.{word_at}
use Rattle.protocol.specs.Protocol.{word}

module _ (B : List ℕ) (at : ℕ) (ys : List ℕ) (e : drop at B ≡ ys) where
  pub tail_at : (i : ℕ) → get_or B (at + i) 0 ≡ get_or ys i 0
  tail_at i = rw (← get_or-drop at B i 0, e) refl

  pub tail_first : get_or B at 0 ≡ get_or ys 0 0
  tail_first = rw add-zero at (tail_at 0)

  pub tail_drop : (n : ℕ) → drop (at + n) B ≡ drop n ys
  tail_drop n = sym (drop-drop n at B) ∙ ap (drop n) e

  pub tail_long : 0 < length ys → length B ≡ at + length ys
  tail_long h = let l : length ys ≡ length B - at = ap length (sym e) ∙ length-drop at B in omega arith

module _ (B : List ℕ) (at : ℕ) (xs ys : List ℕ) (n : ℕ) (e : drop at B ≡ xs ++ ys) (l : length xs ≡ n) where
  pub tail_part : take n (drop at B) ≡ xs
  tail_part = ap (take n) e ∙ take_at xs ys n l

  pub tail_on : drop (at + n) B ≡ ys
  tail_on = tail_drop B at (xs ++ ys) e n ∙ drop_at xs ys n l

-- a number is that of its two bytes
pub word_is : (n : ℕ) → n % 256 + 256 * (n / 256) ≡ n
word_is n = omega arith

pub tail_word : (B : List ℕ) (at n : ℕ) (ys : List ℕ) → drop at B ≡ word n ++ ys → word_at B at ≡ n
tail_word B at n ys e =
    let a : get_or B at 0 ≡ n % 256 = tail_first B at (word n ++ ys) e in
    let b : get_or B (at + 1) 0 ≡ n / 256 = tail_at B at (word n ++ ys) e 1 in
    rw (a, b) (word_is n)
