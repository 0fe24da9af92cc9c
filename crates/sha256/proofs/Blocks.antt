-- The hash value after some blocks of a message, and what one more byte does to it and to the bytes that wait for their block to
-- be whole.
-- Assumes nothing.
use Rattle.std.proofs.Common.{◌≡◌, ℕ, zero, suc, ◌+◌, ◌*◌, ◌/◌, ◌%◌, ◌^◌, ◌<◌, ◌≤◌, eqb, List, [], ◌∷◌, ◌++◌, length, take, drop, sym, refl, ap, ◌∙◌, inl, inr, add-one, arith}
use Rattle.std.proofs.lemmas.List.{take_all, take-take, take-append-le, drop-append-le, drop_all, append_assoc, append-nil, take_more_set, length_push, length-drop, length-set}
use Rattle.std.proofs.lemmas.Bool.{cases_eq, eq-eqb, ne_eqb, cond-true, cond-false}
use Rattle.sha256.specs.declared.state.State.{State}
use Rattle.sha256.specs.declared.stream.Hasher.{Hasher}
use Rattle.sha256.specs.Absorbed.{fresh, filled, one_more, absorbed}
use Rattle.sha256.specs.Sha256.{compressed, block_at, after}

after_more : (n : ℕ) (bytes : List ℕ) → after (n + 1) bytes ≡ compressed (after n bytes) (block_at n bytes)
unfolding after
after_more n bytes = ap (λ (k : ℕ). after k bytes) (add-one n)

-- a block that is whole stays as it is
block_append : (n : ℕ) (xs ys : List ℕ) → suc n * 64 ≤ length xs → block_at n (xs ++ ys) ≡ block_at n xs
block_append n xs ys h =
    let start : n * 64 ≤ length xs = omega arith in
    let whole : 64 ≤ length (drop (n * 64) xs) = simp length-drop (omega arith) in
    ap (take 64) (drop-append-le (n * 64) xs ys start) ∙ take-append-le 64 (drop (n * 64) xs) ys whole

-- more bytes leave the hash value of whole blocks as it is
after_append : (n : ℕ) (xs ys : List ℕ) → n * 64 ≤ length xs → after n (xs ++ ys) ≡ after n xs
unfolding after
after_append zero xs ys h = refl
after_append (suc n) xs ys h =
    ap (λ (s : State). compressed s (block_at n (xs ++ ys))) (after_append n xs ys (omega arith))
    ∙ ap (compressed (after n xs)) (block_append n xs ys h)

-- what a hasher holds once the bytes of the message m have come in
pub record Holds (h : Hasher) (m : List ℕ) : Type 0 where
  pub sized : length h.pending ≡ 64
  pub counted : h.total ≡ length m % 2 ^ 64
  pub reached : h.state ≡ after (length m / 64) m
  pub waiting : take (length m % 64) h.pending ≡ drop (length m / 64 * 64) m

pub holds_none : Holds fresh []
unfolding after
holds_none = record { sized = refl; counted = refl; reached = refl; waiting = refl }

module _ (h : Hasher) (m : List ℕ) (byte : ℕ) (held : Holds h m) where
  fill : h.total % 64 ≡ length m % 64
  fill = omega (arith, held.counted)

  long : length (m ++ byte ∷ []) ≡ length m + 1
  long = length_push m byte

  -- the bytes that wait, with one more
  front : (n : ℕ) → n ≡ length m % 64 + 1 → take n (filled h byte) ≡ drop (length m / 64 * 64) (m ++ byte ∷ [])
  front n e =
      let place : h.total % 64 < length h.pending = omega (arith, held.sized) in
      let end : n ≡ h.total % 64 + 1 = omega (arith, fill) in
      ap (λ (k : ℕ). take k (filled h byte)) end ∙ take_more_set h.pending (h.total % 64) byte place
      ∙ ap (λ (k : ℕ). take k h.pending ++ byte ∷ []) fill
      ∙ ap (λ (p : List ℕ). p ++ byte ∷ []) held.waiting
      ∙ sym (drop-append-le (length m / 64 * 64) m (byte ∷ []) (omega arith))

  size : length (filled h byte) ≡ 64
  size = length-set h.pending (h.total % 64) byte ∙ held.sized

  count : (h.total + 1) % 2 ^ 64 ≡ length (m ++ byte ∷ []) % 2 ^ 64
  count = omega (arith, held.counted, long)

  -- the block is short of a byte still
  module _ (short : h.total % 64 ≡ 63 → ⊥) where
    short_blocks : length (m ++ byte ∷ []) / 64 ≡ length m / 64
    short_blocks = omega (arith, fill, long, short)

    short_reached : h.state ≡ after (length (m ++ byte ∷ []) / 64) (m ++ byte ∷ [])
    short_reached =
        held.reached ∙ sym (after_append (length m / 64) m (byte ∷ []) (omega arith))
        ∙ ap (λ (n : ℕ). after n (m ++ byte ∷ [])) (sym short_blocks)

    short_waiting : take (length (m ++ byte ∷ []) % 64) (filled h byte) ≡ drop (length (m ++ byte ∷ []) / 64 * 64) (m ++ byte ∷ [])
    short_waiting =
        let rest : length (m ++ byte ∷ []) % 64 ≡ length m % 64 + 1 = omega (arith, fill, long, short) in
        front (length (m ++ byte ∷ []) % 64) rest ∙ ap (λ (n : ℕ). drop (n * 64) (m ++ byte ∷ [])) (sym short_blocks)

  -- the byte makes the block whole
  module _ (whole : h.total % 64 ≡ 63) where
    block : filled h byte ≡ block_at (length m / 64) (m ++ byte ∷ [])
    block =
        sym (take_all 64 (filled h byte) (omega (arith, size))) ∙ sym (take-take 64 64 (filled h byte) (omega arith))
        ∙ ap (take 64) (front 64 (omega (arith, fill, whole)))

    whole_reached : compressed h.state (filled h byte) ≡ after (length (m ++ byte ∷ []) / 64) (m ++ byte ∷ [])
    whole_reached =
        let blocks : length m / 64 + 1 ≡ length (m ++ byte ∷ []) / 64 = omega (arith, fill, long, whole) in
        ap (λ (s : State). compressed s (filled h byte))
        (held.reached ∙ sym (after_append (length m / 64) m (byte ∷ []) (omega arith)))
        ∙ ap (compressed (after (length m / 64) (m ++ byte ∷ []))) block
        ∙ sym (after_more (length m / 64) (m ++ byte ∷ []))
        ∙ ap (λ (n : ℕ). after n (m ++ byte ∷ [])) blocks

    whole_waiting : take (length (m ++ byte ∷ []) % 64) (filled h byte) ≡ drop (length (m ++ byte ∷ []) / 64 * 64) (m ++ byte ∷ [])
    whole_waiting =
        let rest : length (m ++ byte ∷ []) % 64 ≡ 0 = omega (arith, fill, long, whole) in
        ap (λ (n : ℕ). take n (filled h byte)) rest
        ∙ sym (drop_all (length (m ++ byte ∷ []) / 64 * 64) (m ++ byte ∷ []) (omega arith))

  holds_more : Holds (one_more h byte) (m ++ byte ∷ [])
  unfolding one_more
  holds_more =
      elim (cases_eq (h.total % 64) 63) [
        | inl whole ↦
            record {
              sized = size;
              counted = count;
              reached = cond-true (eqb (h.total % 64) 63) _ _ (eq-eqb (h.total % 64) 63 whole) ∙ whole_reached whole;
              waiting = whole_waiting whole;
            }
        | inr short ↦
            record {
              sized = size;
              counted = count;
              reached = cond-false (eqb (h.total % 64) 63) _ _ (ne_eqb (h.total % 64) 63 short) ∙ short_reached short;
              waiting = short_waiting short;
            }
      ]

pub holds_all : (h : Hasher) (m bytes : List ℕ) → Holds h m → Holds (absorbed h bytes) (m ++ bytes)
unfolding absorbed
holds_all h m [] held = rw append-nil held
holds_all h m (byte ∷ bytes) held =
    rw (append_assoc m (byte ∷ []) bytes) at (holds_all (one_more h byte) (m ++ byte ∷ []) bytes (holds_more h m byte held))
