-- A file of steps that fit is a file of bytes. Assumes nothing.
use Rattle.std.proofs.Common.{ℕ, suc, ◌/◌, ◌%◌, ◌<◌, List, [], ◌∷◌, ◌++◌, map, length, get_or, arith}
use Rattle.protocol.specs.Draws.{Bytes}
use Rattle.protocol.specs.Protocol.{word}
use Rattle.step_file.specs.File.{step_bytes, file_of}
use Rattle.laws.proofs.Bytes.{bytes_cons, bytes_append}
use Rattle.scripts.specs.Script.{opening_steps}

-- bytes whose number stands in two bytes
abbrev pub Row : List ℕ → Type 0
Row x = Bytes x × (length x < 65536)

-- steps that fit into a file
abbrev pub Fits : List (ℕ × List ℕ) → Type 0
Fits [] = Unit {0}
Fits ((kind, x) ∷ ss) = (kind < 256) × Row x × Fits ss

pub fits_append : (xs ys : List (ℕ × List ℕ)) → Fits xs → Fits ys → Fits (xs ++ ys)
fits_append [] ys f g = g
fits_append ((kind, x) ∷ xs) ys f g = (f.0, f.1, fits_append xs ys f.2 g)

-- rows of bytes as steps of one kind
pub fits_map : (kind : ℕ) (xs : List (List ℕ)) → kind < 256 → ((k : ℕ) → k < length xs → Row (get_or xs k [])) → Fits (map (λ (x : List ℕ). (kind, x)) xs)
fits_map kind [] l f = tt
fits_map kind (x ∷ xs) l f = (l, f 0 (omega arith), fits_map kind xs l (λ k m. f (suc k) (omega (arith, m))))

pub fits_openings : (openings : List (List ℕ)) (ks : List ℕ)
    → ((i : ℕ) → i < length ks → (get_or ks i 0 < 256) × Bytes (get_or openings (get_or ks i 0) []) × (length (get_or openings (get_or ks i 0) []) < 65535))
    → Fits (opening_steps openings ks)
unfolding opening_steps
fits_openings openings [] f = tt
fits_openings openings (k ∷ ks) f =
    let g = f 0 (omega arith) in
    let n = g.2 in
    (omega arith, (bytes_cons k (get_or openings k []) g.0 g.1, omega (arith, n)), fits_openings openings ks (λ i l. f (suc i) (omega (arith, l))))

pub row_word : (n : ℕ) → n < 65536 → Row (word n)
row_word n l = (bytes_cons (n % 256) (n / 256 ∷ []) (omega arith) (bytes_cons (n / 256) [] (omega (arith, l)) (λ i. omega arith)), omega arith)

pub file_bytes : (ss : List (ℕ × List ℕ)) → Fits ss → Bytes (file_of ss)
file_bytes [] f = λ i. omega arith
file_bytes ((kind, x) ∷ ss) f =
    let l = f.1.1 in
    bytes_append (step_bytes (kind, x)) (file_of ss)
    (bytes_cons kind (length x % 256 ∷ length x / 256 ∷ x) f.0
    (bytes_cons (length x % 256) (length x / 256 ∷ x) (omega arith) (bytes_cons (length x / 256) x (omega (arith, l)) f.1.0)))
    (file_bytes ss f.2)
