-- Who gets a place in the whole draw. Assumes nothing.
use Rattle.std.proofs.Common.{◌≡◌, ℕ, zero, suc, ◌*◌, ◌<◌, ◌&&◌, eqb, List, length, get_or, set, sym, ◌∙◌, arith}
use Rattle.counting.proofs.Draws.{by_tally}
use Rattle.counting.proofs.Places.{place_all, pair_all}
use Rattle.counting.specs.Counting.{count, gives}
use Rattle.counting.specs.Draws.{drawn}
use Rattle.counting.specs.Places.{at_place}
use Rattle.counting.specs.Rows.{bytes_of}

pub fair_place_draw_holds : (n L : ℕ) (parties : List (List ℕ)) (i : ℕ) (k x y : ℕ) → i < length parties → k < n → x < n → y < n →
    count (8 * L) (λ mine. gives (λ p. eqb (get_or p k 0) x) (drawn n L (set parties i (bytes_of L mine)))) ≡
    count (8 * L) (λ mine. gives (λ p. eqb (get_or p k 0) y) (drawn n L (set parties i (bytes_of L mine))))
unfolding at_place
fair_place_draw_holds zero L parties i k x y l hk hx hy = absurd (omega arith)
fair_place_draw_holds (suc n) L parties i k x y l hk hx hy =
    by_tally (suc n) L parties i (λ p. eqb (get_or p k 0) x) (λ p. eqb (get_or p k 0) y) l (place_all n k x hk hx ∙ sym (place_all n k y hk hy))

pub fair_places_draw_holds : (n L : ℕ) (parties : List (List ℕ)) (i : ℕ) (k l x x' y y' : ℕ) → i < length parties →
    k < n → l < n → (k ≡ l → ⊥) → x < n → x' < n → (x ≡ x' → ⊥) → y < n → y' < n → (y ≡ y' → ⊥) →
    count (8 * L) (λ mine. gives (λ p. eqb (get_or p k 0) x && eqb (get_or p l 0) x') (drawn n L (set parties i (bytes_of L mine)))) ≡
    count (8 * L) (λ mine. gives (λ p. eqb (get_or p k 0) y && eqb (get_or p l 0) y') (drawn n L (set parties i (bytes_of L mine))))
unfolding at_place
fair_places_draw_holds zero L parties i k l x x' y y' m hk hl kl hx hx' nx hy hy' ny = absurd (omega arith)
fair_places_draw_holds (suc zero) L parties i k l x x' y y' m hk hl kl hx hx' nx hy hy' ny = absurd (omega arith)
fair_places_draw_holds (suc (suc n)) L parties i k l x x' y y' m hk hl kl hx hx' nx hy hy' ny =
    by_tally (suc (suc n)) L parties i (λ p. eqb (get_or p k 0) x && eqb (get_or p l 0) x') (λ p. eqb (get_or p k 0) y && eqb (get_or p l 0) y') m
    (pair_all n k l x x' hk hl kl hx hx' nx ∙ sym (pair_all n k l y y' hk hl kl hy hy' ny))
