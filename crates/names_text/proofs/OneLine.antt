-- Text has no byte below 32. Assumes nothing.
use Rattle.std.proofs.Common.{◌≡◌, ℕ, ◌<◌, ◌≤◌, true, ◌⊎◌, List, [], ◌∷◌, ◌++◌, inl, inr, arith}
use Rattle.std.proofs.Math.Utf8.{encode, encodes}
use Rattle.std.proofs.lemmas.Bool.{and_parts, cases_lt, lt-ltb, le-ltb}
use Rattle.std.proofs.lemmas.Bool.Decides.{nat_tests}
use Rattle.names_text.specs.Laws.{NoLess, OneLine, is_printed, are_printed}
use Rattle.names_text.proofs.Characters.{of_text}

character : (c : ℕ) (bs : List ℕ) → 32 ≤ c → NoLess 32 bs → NoLess 32 (encode c ++ bs)
unfolding encode
character c bs l h = go (cases_lt c 128) (cases_lt c 2048) (cases_lt c 65536)
  where
    go : (c < 128) ⊎ (128 ≤ c) → (c < 2048) ⊎ (2048 ≤ c) → (c < 65536) ⊎ (65536 ≤ c) → NoLess 32 (encode c ++ bs)
    go (inl p) q r = rw (lt-ltb c 128 p) (l, h)
    go (inr p) (inl q) r = rw (le-ltb c 128 p, lt-ltb c 2048 q) (omega arith, (omega arith, h))
    go (inr p) (inr q) (inl r) = rw (le-ltb c 128 p, le-ltb c 2048 q, lt-ltb c 65536 r) (omega arith, (omega arith, (omega arith, h)))
    go (inr p) (inr q) (inr r) = rw (le-ltb c 128 p, le-ltb c 2048 q, le-ltb c 65536 r) (omega arith, (omega arith, (omega arith, (omega arith, h))))

high : (c : ℕ) → is_printed c ≡ true → 32 ≤ c
high c e = grind (arith, nat_tests)

pub characters : (cs : List ℕ) → are_printed cs ≡ true → NoLess 32 (encodes cs)
characters [] e = tt
characters (c ∷ cs) e = let p = and_parts (is_printed c) (are_printed cs) e in character c (encodes cs) (high c p.0) (characters cs p.1)

pub one_line : OneLine
one_line bs e = let t = of_text bs e in rw t.3 at (characters (t.0 ∷ t.1) t.2)
