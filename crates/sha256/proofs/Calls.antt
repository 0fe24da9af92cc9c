-- Arrays made by a call for each element.
-- Assumes nothing.
use Rattle.std.proofs.Common.{◌≡◌, ℕ, zero, suc, ◌+◌, ◌<◌, List, length, get_or, map, sym, ◌∙◌, subst, add-zero, arith}
use Rattle.std.proofs.lemmas.List.{ext_get_or, get_or-map, length-map}
use Rattle.std.specs.Array.{IsFromFnResultFrom, IsMapOf}
use denote.Param.Members.{Mut, Called}

module _ {F B : Type 0} (g : Mut F (ℕ × Unit {0}) B) (P : ℕ → B → Type 0) (f : F) (step : (i : ℕ) (r : B) (q : F) → Called g f (i, tt) r q → P i r × (q ≡ f)) where
  -- by a closure that stays as it is: what a call answers, at each place
  pub each_call : (n i : ℕ) (p : F) (ys : List B) (d : B) → p ≡ f → IsFromFnResultFrom g p ys i n → (j : ℕ) → j < n → P (i + j) (get_or ys (i + j) d)
  each_call zero i p ys d e h j l = absurd (omega arith)
  each_call (suc n) i p ys d e (q, y, at, call, more) zero l =
      let k : i + 0 ≡ i = add-zero i in
      let same : Called g f (i, tt) y q = subst (λ (s : F). Called g s (i, tt) y q) e call in
      subst (λ (m : ℕ). P m (get_or ys m d)) (sym k) (subst (P i) (sym (at.1 d)) (step i y q same).0)
  each_call (suc n) i p ys d e (q, y, at, call, more) (suc j) l =
      let k : i + 1 + j ≡ i + suc j = omega arith in
      let same : Called g f (i, tt) y q = subst (λ (s : F). Called g s (i, tt) y q) e call in
      subst (λ (m : ℕ). P m (get_or ys m d)) k (each_call n (i + 1) q ys d (step i y q same).1 more j (omega arith))

module _ {F A B : Type 0} (g : Mut F (A × Unit {0}) B) (v : A → B) (post : (p q : F) (x : A) (y : B) → Called g p (x, tt) y q → y ≡ v x) where
  -- by a call that answers v x: the same as the map of v
  pub map_is : (d : A) (e : B) (f : F) (xs : List A) (ys : List B) (n : ℕ) → length xs ≡ n → IsMapOf g f xs ys n → ys ≡ map v xs
  map_is d e f xs ys n long m =
      ext_get_or e ys (map v xs) (m.long ∙ sym (length-map xs v ∙ long))
      (λ i l.
      let place : i < n = subst (λ (k : ℕ). i < k) m.long l in
      let within : i < length xs = subst (λ (k : ℕ). i < k) (sym long) place in
      let h = m.at i d e place in
      post h.0 h.1 (get_or xs i d) (get_or ys i e) h.2 ∙ sym (get_or-map v xs i d e within))
