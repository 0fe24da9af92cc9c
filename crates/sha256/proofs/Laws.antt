-- What callers of this crate cite: how parts of a message join, and that a hash is 32 bytes.
-- Assumes nothing.
use Rattle.std.proofs.Common.{◌≡◌, ℕ, zero, suc, ◌/◌, ◌<◌, List, [], ◌∷◌, ◌++◌, length, get_or, refl, ap, ◌∙◌, arith}
use Rattle.std.specs.List.{flat_map}
use Rattle.sha256.specs.declared.stream.Hasher.{Hasher}
use Rattle.sha256.specs.Absorbed.{fresh, one_more, absorbed, finished}
use Rattle.sha256.specs.Padding.{padding, padded}
use Rattle.sha256.specs.Sha256.{after, four_bytes, words_of, bytes_of, sha256}
use Rattle.sha256.proofs.Blocks.{Holds, holds_none, holds_all}
use Rattle.sha256.proofs.Tail.{padding_mod}

-- two parts one after the other are as one
pub absorbed_append : (h : Hasher) (a b : List ℕ) → absorbed (absorbed h a) b ≡ absorbed h (a ++ b)
unfolding absorbed
absorbed_append h [] b = refl
absorbed_append h (x ∷ a) b = absorbed_append (one_more h x) a b

-- a hasher that has taken in a message ends with the message's hash
pub finished_absorbed : (m : List ℕ) → finished (absorbed fresh m) ≡ sha256 m
unfolding finished sha256
finished_absorbed m =
    let h : Hasher = absorbed fresh m in
    let held : Holds h m = holds_all fresh [] m holds_none in
    let pad : padding h.total ≡ padding (length m) = ap padding held.counted ∙ padding_mod (length m) in
    ap (λ (p : List ℕ). bytes_of (absorbed h p).state) pad
    ∙ ap bytes_of (holds_all h m (padding (length m)) held).reached

-- a hasher that is new, one that takes in a part, and one that ends, in the form of the contracts: m is all that has come in
pub parts_none : (h : Hasher) → h ≡ fresh → h ≡ absorbed fresh []
unfolding absorbed
parts_none h e = e

pub parts_more : (m part : List ℕ) (h g : Hasher) → h ≡ absorbed fresh m → g ≡ absorbed h part → g ≡ absorbed fresh (m ++ part)
parts_more m part h g e f = f ∙ ap (λ (x : Hasher). absorbed x part) e ∙ absorbed_append fresh m part

pub parts_hash : (m r : List ℕ) (h : Hasher) → h ≡ absorbed fresh m → r ≡ finished h → r ≡ sha256 m
parts_hash m r h e f = f ∙ ap finished e ∙ finished_absorbed m

-- a hash is 32 bytes long
pub length_sha256 : (m : List ℕ) → length (sha256 m) ≡ 32
unfolding sha256 bytes_of
length_sha256 m = refl

-- the bytes of words are below 256
bytes_word : (x : ℕ) (xs : List ℕ) → ((i : ℕ) → get_or xs i 0 < 256) → (i : ℕ) → get_or (four_bytes x ++ xs) i 0 < 256
bytes_word x xs more zero = omega arith
bytes_word x xs more (suc zero) = omega arith
bytes_word x xs more (suc (suc zero)) = omega arith
bytes_word x xs more (suc (suc (suc zero))) = omega arith
bytes_word x xs more (suc (suc (suc (suc i)))) = more i

bytes_words : (xs : List ℕ) (i : ℕ) → get_or (flat_map four_bytes xs) i 0 < 256
bytes_words [] i = omega arith
bytes_words (x ∷ xs) i = bytes_word x (flat_map four_bytes xs) (bytes_words xs) i

-- each of them a byte
pub sha256_below : (m : List ℕ) (i : ℕ) → get_or (sha256 m) i 0 < 256
unfolding sha256 bytes_of
sha256_below m i = bytes_words (words_of (after (length (padded m) / 64) (padded m))) i
