-- What a seal and an opening that are taken leave in memory. Assumes nothing.
use Rattle.std.proofs.Common.{◌≡◌, ℕ, ◌+◌, ◌*◌, ◌<◌, ◌≤◌, ltb, List, [], ◌∷◌, ◌++◌, length, sym, refl, ap, ◌∙◌, subst, inl, inr, ⊎_elim, arith}
use lib.Seq.{paste}
use Rattle.std.proofs.lemmas.List.{take_at, take_all, get_or_at, length_push}
use Rattle.std.proofs.lemmas.List.Edits.{length-paste}
use Rattle.std.proofs.lemmas.Bool.{cases_lt}
use Rattle.seals.specs.Records.{record_size}
use Rattle.records.specs.Laws.{SealKept, SealTaken, OpeningKept, OpeningTaken}
use Rattle.records.proofs.Pasted.{part_before, part_inside, element_inside}
use Rattle.records.proofs.Places.{next_place, later_place, same_apart}
use Rattle.records.proofs.Passed.{seal_passed, opening_passed}

pub seal_taken : SealTaken
seal_taken seals x len parties n e =
    let p = seal_passed seals x len parties n e in
    let at : ℕ = record_size len * parties in
    let s : List ℕ = x ++ 0 ∷ [] in
    let whole : 33 ≡ length s = omega (arith, length_push x 0, p.long) in
    let fits : at + 33 ≤ length seals = omega (arith, p.room, next_place (record_size len) parties) in
    let kept : SealKept seals (paste seals at s 33) x len parties =
    record {
      few = λ h. omega (arith, p.few);
      long = p.long;
      room = p.room;
      size = length-paste seals at s 33 fits (omega arith);
      seal = part_inside seals at s 33 whole fits at 0 32 (omega arith) (omega arith) ∙ take_at x (0 ∷ []) 32 p.long;
      unopened = ap (ltb 0) (element_inside seals at s 33 whole fits (at + 32) 32 0 refl (omega arith) ∙ get_or_at x 0 [] 0 32 p.long);
      others = λ k h. same_apart seals at s 33 len k whole fits (inl (later_place (record_size len) k parties h));
    } in
    (p.next, subst (λ (after : List ℕ). SealKept seals after x len parties) (sym p.after) kept)

pub opening_taken : OpeningTaken
opening_taken seals context x len parties party e =
    let p = opening_passed seals context x len parties party e in
    let size : ℕ = record_size len in
    let at : ℕ = size * party + 32 in
    let m : ℕ = 1 + length x in
    let long : length x ≡ 32 + len = p.long in
    let whole : m ≡ length (1 ∷ x) = omega arith in
    let fits : at + m ≤ length seals = omega (arith, p.room) in
    let kept : OpeningKept seals (paste seals at (1 ∷ x) m) context x len parties party =
    record {
      exists = p.exists;
      first = p.first;
      long = long;
      gives = p.gives;
      size = length-paste seals at (1 ∷ x) m fits (omega arith);
      seal = part_before seals at (1 ∷ x) m whole fits (size * party) 32 (omega arith);
      mark = ap (ltb 0) (element_inside seals at (1 ∷ x) m whole fits at 0 0 (omega arith) (omega arith));
      opening = part_inside seals at (1 ∷ x) m whole fits (size * party + 33) 1 (32 + len) (omega arith) (omega arith) ∙ take_all (32 + len) x (omega arith);
      others = λ k other.
          same_apart seals at (1 ∷ x) m len k whole fits
          (⊎_elim
          (λ (h : k < party). inl (omega (arith, later_place size k party h)))
          (λ (h : party ≤ k). inr (omega (arith, later_place size party k (omega arith))))
          (cases_lt k party));
    } in
    subst (λ (after : List ℕ). OpeningKept seals after context x len parties party) (sym p.after) kept
