-- What text is free of. Assumes nothing.
use Rattle.std.specs.Prelude.{◌≡◌, ℕ, ◌≤◌, Bool, true, cond, ◌&&◌, List, [], ◌∷◌, nat_le, nat_lt}
use Rattle.std.proofs.Math.Utf8.{scalar, encodes}
use Rattle.names_text.specs.Text.{is_text}

-- no byte is below a bound
abbrev pub NoLess : ℕ → List ℕ → Type 0
NoLess low [] = Unit {0}
NoLess low (b ∷ bs) = (low ≤ b) × NoLess low bs

-- so text has no tab, no line end and no carriage return, and stands on one line
abbrev pub OneLine : Type 0
OneLine = (bs : List ℕ) → is_text bs ≡ true → NoLess 32 bs

-- a character that is no control character: U+0000 to U+001F and U+007F to U+009F are
abbrev pub is_printed : ℕ → Bool
is_printed c = scalar c && cond (nat_lt c 127) (nat_le 32 c) (nat_le 160 c)

abbrev pub are_printed : List ℕ → Bool
are_printed [] = true
are_printed (c ∷ cs) = is_printed c && are_printed cs

-- at least one such character, in UTF-8
abbrev pub Characters : List ℕ → Type 0
Characters bs = (c : ℕ) × (cs : List ℕ) × (are_printed (c ∷ cs) ≡ true) × (encodes (c ∷ cs) ≡ bs)
