-- A file read step by step. Assumes nothing.
use Rattle.std.proofs.Common.{◌≡◌, ℕ, zero, suc, ◌+◌, ◌<◌, ◌≤◌, Bool, true, false, cond, ltb, leb, List, [], ◌∷◌, length, get_or, take, drop, refl, ap, arith}
use Rattle.std.proofs.lemmas.List.{length-drop}
use Rattle.std.proofs.lemmas.Bool.{leb-true}
use Rattle.step_file.specs.Reading.{Found, end, cut, step, length_of, first_step}
use Rattle.step_file.specs.File.{more_steps, more_cut, steps_of, cut_in, file_steps, file_cut}

-- the rest behind a step is shorter than the file
abbrev Shorter : List ℕ → Found → Type 0
Shorter file end = Unit {0}
Shorter file cut = Unit {0}
Shorter file (step kind x rest) = length rest < length file

pub shorter : (file : List ℕ) → Shorter file (first_step file)
shorter file = go (ltb 0 (length file)) (leb (3 + length_of file) (length file)) refl
  where
    go : (a b : Bool) → leb (3 + length_of file) (length file) ≡ b
        → Shorter file (cond a (cond b (step (get_or file 0 0) (take (length_of file) (drop 3 file)) (drop (3 + length_of file) file)) cut) end)
    go false b e = tt
    go true false e = tt
    go true true e = omega (arith, leb-true _ _ e, length-drop (3 + length_of file) file)

-- any two bounds that are enough for the bytes give the same
abbrev Same : (List ℕ → List (ℕ × List ℕ)) → (List ℕ → Bool) → (List ℕ → List (ℕ × List ℕ)) → (List ℕ → Bool) → Found → Type 0
Same f p g q found = (more_steps f found ≡ more_steps g found) × (more_cut p found ≡ more_cut q found)

-- it is enough if the rests are read alike
by_rests : (f : List ℕ → List (ℕ × List ℕ)) (p : List ℕ → Bool) (g : List ℕ → List (ℕ × List ℕ)) (q : List ℕ → Bool) (file : List ℕ)
    → ((rest : List ℕ) → length rest < length file → (f rest ≡ g rest) × (p rest ≡ q rest)) → Same f p g q (first_step file)
by_rests f p g q file alike = go (first_step file) (shorter file)
  where
    go : (found : Found) → Shorter file found → Same f p g q found
    go end s = (refl, refl)
    go cut s = (refl, refl)
    go (step kind x rest) s = (ap (λ (ss : List (ℕ × List ℕ)). (kind, x) ∷ ss) (alike rest s).0, (alike rest s).1)

enough : (n m : ℕ) (file : List ℕ) → length file ≤ n → length file ≤ m → (steps_of n file ≡ steps_of m file) × (cut_in n file ≡ cut_in m file)
unfolding steps_of cut_in
enough zero zero file h k = (refl, refl)
enough zero (suc m) [] h k = (refl, refl)
enough zero (suc m) (b ∷ bs) h k = absurd (omega arith)
enough (suc n) zero [] h k = (refl, refl)
enough (suc n) zero (b ∷ bs) h k = absurd (omega arith)
enough (suc n) (suc m) file h k =
    by_rests (λ r. steps_of n r) (λ r. cut_in n r) (λ r. steps_of m r) (λ r. cut_in m r) file
    (λ rest s. enough n m rest (omega arith) (omega arith))

-- so a file is its first step, and then the rest
pub once : (file : List ℕ) → (file_steps file ≡ more_steps (λ r. file_steps r) (first_step file)) × (file_cut file ≡ more_cut (λ r. file_cut r) (first_step file))
unfolding steps_of cut_in
once [] = (refl, refl)
once (b ∷ bs) =
    let n = length bs in
    by_rests (λ r. steps_of n r) (λ r. cut_in n r) (λ r. file_steps r) (λ r. file_cut r) (b ∷ bs)
    (λ rest s. enough n (length rest) rest (omega arith) (omega arith))
