-- The parties of a written protocol, as they are read again. Assumes nothing.
use Rattle.std.proofs.Common.{◌≡◌, ℕ, zero, suc, ◌+◌, ◌<◌, ◌≤◌, List, ◌∷◌, ◌++◌, length, get_or, drop, IfSome, Some, None, Option, refl, ◌∙◌, append_assoc, add-zero, add-one, arith}
use Rattle.std.specs.List.{flat_map}
use Rattle.std.proofs.lemmas.List.{drop_more}
use Rattle.protocol.specs.Draws.{no_party}
use Rattle.protocol.specs.Layout.{bits_length, opening_size, party_at, party_in, party_of}
use Rattle.protocol.specs.Protocol.{Party, written_opening, written_party}
use Rattle.protocol.proofs.Tails.{tail_first, tail_drop, tail_part, tail_on}

-- the byte that tells whether a party opened
abbrev pub mark : Option (List ℕ) → ℕ
mark None = 0
mark (Some x) = 1

-- an opening has its length
abbrev pub Long : ℕ → Option (List ℕ) → Type 0
Long L o = IfSome o (λ x. length x ≡ 32 + L)

-- what is read at the place of a party
pub record Stands (B : List ℕ) (L at : ℕ) (p : Party) (ys : List ℕ) : Type 0 where
  pub told : get_or B (at + 32) 0 ≡ mark p.opening
  pub whole : party_in B L at ≡ p
  pub next : drop (at + 33 + opening_size (get_or B (at + 32) 0) L) B ≡ ys

module _ (B : List ℕ) (L at : ℕ) (seal ys : List ℕ) (l : length seal ≡ 32) where
  told_by : (o : Option (List ℕ)) → drop at B ≡ seal ++ (written_opening o ++ ys) → get_or B (at + 32) 0 ≡ mark o
  told_by None e = tail_first B (at + 32) _ (tail_on B at seal (0 ∷ ys) 32 e l)
  told_by (Some x) e = tail_first B (at + 32) _ (tail_on B at seal (1 ∷ (x ++ ys)) 32 e l)

  behind : (b : ℕ) (zs : List ℕ) → drop at B ≡ seal ++ (b ∷ zs) → drop (at + 33) B ≡ zs
  behind b zs e =
      let z : at + 33 ≡ at + 32 + 1 = omega arith in rw z (tail_drop B (at + 32) (b ∷ zs) (tail_on B at seal (b ∷ zs) 32 e l) 1)

  pub stands : (o : Option (List ℕ)) → Long L o → drop at B ≡ seal ++ (written_opening o ++ ys) → Stands B L at (record { seal = seal; opening = o }) ys
  stands None h e =
      let t = told_by None e in
      record {
        told = t;
        whole = rw (t, tail_part B at seal (0 ∷ ys) 32 e l) refl;
        next = rw (t, add-zero (at + 33)) (behind 0 ys e);
      }
  stands (Some x) h e =
      let t = told_by (Some x) e in
      let b = behind 1 (x ++ ys) e in
      record {
        told = t;
        whole = rw (t, tail_part B at seal (1 ∷ (x ++ ys)) 32 e l, tail_part B (at + 33) x ys (32 + L) b h) refl;
        next = rw t (tail_on B (at + 33) x ys (32 + L) b h);
      }

-- a party has a seal of 32 bytes and an opening of its length
pub record Shaped (L : ℕ) (p : Party) : Type 0 where
  pub seal_long : length p.seal ≡ 32
  pub long : Long L p.opening

module _ (B : List ℕ) (parties : List Party) (post : List ℕ) (start : drop (party_at B 0) B ≡ flat_map written_party parties ++ post)
    (each : (k : ℕ) → k < length parties → Shaped (bits_length B) (get_or parties k no_party)) where
  read : (k : ℕ) → k < length parties → drop (party_at B k) B ≡ flat_map written_party (drop k parties) ++ post
      → Stands B (bits_length B) (party_at B k) (get_or parties k no_party) (flat_map written_party (drop (k + 1) parties) ++ post)
  read k h t =
      let p : Party = get_or parties k no_party in
      let rest : List ℕ = flat_map written_party (drop (k + 1) parties) in
      stands B (bits_length B) (party_at B k) p.seal (rest ++ post) (each k h).seal_long p.opening (each k h).long
      (t ∙ rw (drop_more parties k no_party h) (simp append_assoc))

  pub party_tail : (k : ℕ) → k ≤ length parties → drop (party_at B k) B ≡ flat_map written_party (drop k parties) ++ post
  unfolding party_at
  party_tail zero h = start
  party_tail (suc k) h =
      rw (← add-one k) (read k (omega arith) (party_tail k (omega arith))).next

  module _ (k : ℕ) (h : k < length parties) where
    pub party_told : get_or B (party_at B k + 32) 0 ≡ mark (get_or parties k no_party).opening
    party_told = (read k h (party_tail k (omega arith))).told

    pub party_is : party_of B k ≡ get_or parties k no_party
    party_is = (read k h (party_tail k (omega arith))).whole
