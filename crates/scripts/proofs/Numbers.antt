-- The numbers of the parties that opened. Assumes nothing.
use Rattle.std.proofs.Common.{◌≡◌, ℕ, zero, suc, ◌<◌, ◌≤◌, Bool, true, false, cond, List, [], ◌∷◌, ◌++◌, map, length, get_or, take, is_some, Some, None, Option, unwrap_or, sym, refl, ap, ◌∙◌, subst, ⊎_elim, append-nil, add-one, arith}
use Rattle.std.specs.Option.{option_to_list}
use Rattle.std.proofs.lemmas.List.{get_or_append_left, get_or_push, length_push, map-append, take_more, flat_map_more}
use Rattle.std.proofs.lemmas.Bool.{cases_lt, cases_eq}
use Rattle.protocol.specs.Protocol.{Party, openings}
use Rattle.protocol.specs.Draws.{no_party}
use Rattle.scripts.specs.Script.{among}
use Rattle.scripts.proofs.Opening.{among_last, among_other}

-- the first n parties' numbers, of those that opened
unfoldable pub opened_numbers : List Party → ℕ → List ℕ
opened_numbers ps zero = []
opened_numbers ps (suc n) = opened_numbers ps n ++ cond (is_some (get_or ps n no_party).opening) (n ∷ []) []

-- the opening of a party that opened
abbrev pub opening_or_none : Party → List ℕ
opening_or_none p = unwrap_or p.opening []

module _ (ps : List Party) where
  abbrev opened : ℕ → Bool
  opened n = is_some (get_or ps n no_party).opening

  -- what holds of each number: it is below n, and that party opened
  abbrev Fine : ℕ → List ℕ → Type 0
  Fine n ks = (i : ℕ) → i < length ks → (get_or ks i 0 < n) × (opened (get_or ks i 0) ≡ true)

  fine_more : (n : ℕ) (ks : List ℕ) → Fine n ks → opened n ≡ true → Fine (suc n) (ks ++ n ∷ [])
  fine_more n ks f o i l =
      ⊎_elim (λ (h : i < length ks). let e = get_or_append_left ks (n ∷ []) 0 i h in (let b = (f i h).0 in omega (arith, e, b), ap opened e ∙ (f i h).1))
      (λ (h : length ks ≤ i). let z : length ks ≡ i = omega (arith, length_push ks n, l) in let e = get_or_push ks n 0 i z in (omega (arith, e), ap opened e ∙ o))
      (cases_lt i (length ks))

  pub numbers_fine : (n : ℕ) → Fine n (opened_numbers ps n)
  unfolding opened_numbers
  numbers_fine zero = λ i l. absurd (omega arith)
  numbers_fine (suc n) = go (opened n) refl (numbers_fine n)
    where
      go : (b : Bool) → opened n ≡ b → Fine n (opened_numbers ps n) → Fine (suc n) (opened_numbers ps n ++ cond b (n ∷ []) [])
      go true e f = fine_more n (opened_numbers ps n) f e
      go false e f = subst (Fine (suc n)) (sym (append-nil (opened_numbers ps n))) (λ i l. (let b = (f i l).0 in omega (arith, b), (f i l).1))

  -- they rise
  abbrev Rising : List ℕ → Type 0
  Rising ks = (i j : ℕ) → i < j → j < length ks → get_or ks i 0 < get_or ks j 0

  rising_more : (n : ℕ) (ks : List ℕ) → Fine n ks → Rising ks → Rising (ks ++ n ∷ [])
  rising_more n ks f r i j l m =
      let a = get_or_append_left ks (n ∷ []) 0 i (omega (arith, length_push ks n, l, m)) in
      ⊎_elim (λ (h : j < length ks). let b = get_or_append_left ks (n ∷ []) 0 j h in let q = r i j l h in omega (arith, a, b, q))
      (λ (h : length ks ≤ j).
      let z : length ks ≡ j = omega (arith, length_push ks n, m) in
      let b = get_or_push ks n 0 j z in
      let q = (f i (omega (arith, z, l))).0 in
      omega (arith, a, b, q))
      (cases_lt j (length ks))

  pub numbers_rise : (n : ℕ) → Rising (opened_numbers ps n)
  unfolding opened_numbers
  numbers_rise zero = λ i j l m. absurd (omega arith)
  numbers_rise (suc n) = go (opened n) (numbers_rise n)
    where
      go : (b : Bool) → Rising (opened_numbers ps n) → Rising (opened_numbers ps n ++ cond b (n ∷ []) [])
      go true r = rising_more n (opened_numbers ps n) (numbers_fine n) r
      go false r = subst Rising (sym (append-nil (opened_numbers ps n))) r

  -- a party's number is among them if it opened
  among_none : (j n : ℕ) → n ≤ j → among j (opened_numbers ps n) ≡ false
  unfolding opened_numbers
  among_none j zero l = refl
  among_none j (suc n) l = go (opened n) (among_none j n (omega arith))
    where
      go : (b : Bool) → among j (opened_numbers ps n) ≡ false → among j (opened_numbers ps n ++ cond b (n ∷ []) []) ≡ false
      go true h = among_other j n (opened_numbers ps n) (λ e. omega (arith, e, l)) ∙ h
      go false h = ap (among j) (append-nil (opened_numbers ps n)) ∙ h

  pub among_numbers : (j n : ℕ) → j < n → among j (opened_numbers ps n) ≡ opened j
  unfolding opened_numbers
  among_numbers j zero l = absurd (omega arith)
  among_numbers j (suc n) l = go (opened n) refl (λ h. among_numbers j n h)
    where
      go : (b : Bool) → opened n ≡ b → (j < n → among j (opened_numbers ps n) ≡ opened j) → among j (opened_numbers ps n ++ cond b (n ∷ []) []) ≡ opened j
      go true e ih =
          ⊎_elim (λ (q : j ≡ n). among_last j n (opened_numbers ps n) q ∙ sym (ap opened q ∙ e))
          (λ (q : j ≡ n → ⊥). among_other j n (opened_numbers ps n) q ∙ ih (omega (arith, q, l))) (cases_eq j n)
      go false e ih =
          ap (among j) (append-nil (opened_numbers ps n))
          ∙ ⊎_elim (λ (q : j ≡ n). among_none j n (omega arith) ∙ sym (ap opened q ∙ e)) (λ (q : j ≡ n → ⊥). ih (omega (arith, q, l))) (cases_eq j n)

  -- their openings, one after another
  openings_more : (n : ℕ) → n < length ps → openings (take (suc n) ps) ≡ openings (take n ps) ++ option_to_list (get_or ps n no_party).opening
  openings_more n l =
      ap openings (ap (λ (k : ℕ). take k ps) (sym (add-one n)) ∙ take_more ps n no_party l) ∙ sym (flat_map_more (λ (q : Party). option_to_list q.opening) [] (take n ps) (get_or ps n no_party))

  pub numbers_openings : (n : ℕ) → n ≤ length ps → map (λ (k : ℕ). opening_or_none (get_or ps k no_party)) (opened_numbers ps n) ≡ openings (take n ps)
  unfolding opened_numbers
  numbers_openings zero l = refl
  numbers_openings (suc n) l =
      map-append (λ (k : ℕ). opening_or_none (get_or ps k no_party)) (opened_numbers ps n) _
      ∙ (ap (λ (z : List (List ℕ)). z ++ map (λ (k : ℕ). opening_or_none (get_or ps k no_party)) (cond (opened n) (n ∷ []) [])) (numbers_openings n (omega arith))
      ∙ (ap (λ (z : List (List ℕ)). openings (take n ps) ++ z) (last (get_or ps n no_party).opening refl) ∙ sym (openings_more n l)))
    where
      last : (o : Option (List ℕ)) → (get_or ps n no_party).opening ≡ o → map (λ (k : ℕ). opening_or_none (get_or ps k no_party)) (cond (is_some o) (n ∷ []) []) ≡ option_to_list o
      last None e = refl
      last (Some x) e = ap (λ (q : Option (List ℕ)). unwrap_or q [] ∷ []) e
