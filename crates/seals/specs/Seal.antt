-- What a seal is. Assumes nothing.
use Rattle.std.specs.Prelude.{◌≡◌, ℕ, List, ◌∷◌, ◌++◌, length, take, drop, ◌≢◌}
use Rattle.sha256.specs.Sha256.{sha256}

-- the message that is hashed: the 32 bytes chosen at will, the context, the party's number, and its bits
abbrev pub sealed_message : List ℕ → ℕ → List ℕ → List ℕ
sealed_message context party opening = take 32 opening ++ (context ++ (party ∷ drop 32 opening))

unfoldable pub seal_of : List ℕ → ℕ → List ℕ → List ℕ
seal_of context party opening = sha256 (sealed_message context party opening)

-- TWO OPENINGS: who opens one seal in two ways shows two different rows of bytes with one hash
abbrev pub TwoOpenings : Type 0
TwoOpenings =
    (context : List ℕ) (party : ℕ) (x y : List ℕ) → length x ≡ length y → (x ≢ y) → seal_of context party x ≡ seal_of context party y →
    (sealed_message context party x ≢ sealed_message context party y)
    × (sha256 (sealed_message context party x) ≡ sha256 (sealed_message context party y))
