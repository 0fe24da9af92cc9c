-- The openings of a script are all taken. Assumes nothing.
use Rattle.std.proofs.Common.{◌≡◌, ℕ, zero, suc, ◌+◌, ◌*◌, ◌<◌, ◌≤◌, Bool, true, false, cond, ◌||◌, eqb, ltb, leb, List, [], ◌∷◌, ◌++◌, map, length, get_or, take, drop, None, Ok, Err, Result, sym, refl, ap, ◌∙◌, subst, ⊎_elim, append_assoc, append-nil, arith}
use Rattle.std.specs.Str.{bytes_eq}
use Rattle.std.proofs.lemmas.Slice.Eq.{bytes_eq-Decides}
use Rattle.std.proofs.lemmas.List.{length-append, map_push}
use Rattle.std.proofs.lemmas.Bool.{eq-eqb, ne_eqb, le-ltb, lt-ltb, lt-leb, or_from, or_left, or_right, cases_eq, cases_order}
use Rattle.refusals.specs.declared.Refusal.{Refusal}
use Rattle.refusals.specs.declared.Refusal.TheVariants.{OpeningLength}
use Rattle.seals.specs.Seal.{seal_of}
use Rattle.seals.specs.Records.{record_size, seal_in, has_opened, opening_in, opened_count}
use Rattle.seals.specs.Steps.{opening_fault, opened_at, opened}
use Rattle.records.specs.Laws.{Same, OpeningKept}
use Rattle.records.proofs.Kept.{opening_taken}
use Rattle.records.proofs.Places.{later_place}
use Rattle.records.proofs.Turned.{sum_push}
use Rattle.sum.specs.Sums.{xor_bytes, sum_of}
use Rattle.ceremony.specs.Model.{Sealed}
use Rattle.ceremony.specs.Steps.{with_seals, sum_after, opened_by, opening_step}
use Rattle.ceremony.specs.Draws.{State, opening, step, stepped}
use Rattle.laws.specs.Sound.{SoundState, InOpening}
use Rattle.laws.proofs.Openings.{take_xor}
use Rattle.laws.proofs.Runs.{step_sound}
use Rattle.scripts.specs.Script.{opening_steps, row_of, among}
use Rattle.scripts.proofs.Chains.{Leads, more, SameList}

opening_ok : (seals hash x : List ℕ) (len parties k : ℕ) → k < parties → has_opened seals len k ≡ false → length x ≡ 32 + len → seal_of hash k x ≡ seal_in seals len k
    → record_size len * k + 33 + length x ≤ length seals → (opened seals len parties hash k x).answer ≡ Ok tt
opening_ok seals hash x len parties k l u n g r =
    let a = or_from (leb parties k) (has_opened seals len k) (lt-leb parties k l) u in
    let b = eq-eqb (length x) (32 + len) n in
    let s : bytes_eq (seal_of hash k x) (seal_in seals len k) ≡ true = (bytes_eq-Decides (seal_of hash k x) (seal_in seals len k)).1 g in
    let t = le-ltb (length seals) (record_size len * k + 33 + length x) r in
    let f : opening_fault seals len parties hash k x ≡ Ok (record_size len * k + 32) = simp (a, b, s, t) in
    ap (λ (z : Result ℕ Refusal). (opened_at seals x z).answer) f

-- one more party has opened
count_more : (before after : List ℕ) (len party : ℕ) → has_opened before len party ≡ false → has_opened after len party ≡ true
    → ((k : ℕ) → (k ≡ party → ⊥) → Same before after len k) → (n : ℕ) → opened_count after len n ≡ opened_count before len n + cond (ltb party n) 1 0
count_more before after len party b a s zero = simp (le-ltb party 0 (omega arith))
count_more before after len party b a s (suc n) =
    let ih = count_more before after len party b a s n in
    ⊎_elim (λ (e : n ≡ party).
    let t : ltb party (suc n) ≡ true = lt-ltb party (suc n) (omega arith) in
    let u : ltb party n ≡ false = le-ltb party n (omega arith) in
    let v : has_opened after len n ≡ true = ap (has_opened after len) e ∙ a in
    let w : has_opened before len n ≡ false = ap (has_opened before len) e ∙ b in
    simp (t, v, w) (omega (arith, ih ∙ ap (λ (q : Bool). opened_count before len n + cond q 1 0) u)))
    (λ (e : n ≡ party → ⊥).
    let t : ltb party (suc n) ≡ ltb party n = same_test e in
    simp (t, (s n e).mark) (omega (arith, ih)))
    (cases_eq n party)
  where
    same_test : (n ≡ party → ⊥) → ltb party (suc n) ≡ ltb party n
    same_test e =
        ⊎_elim (λ (q : party ≡ n). absurd (e (sym q)))
        (⊎_elim (λ (h : party < n). lt-ltb party (suc n) (omega arith) ∙ sym (lt-ltb party n h)) (λ (h : n < party). le-ltb party (suc n) h ∙ sym (le-ltb party n (omega arith))))
        (cases_order party n)

-- one number more in a list
pub among_last : (j k : ℕ) (ks : List ℕ) → j ≡ k → among j (ks ++ k ∷ []) ≡ true
among_last j k [] e = or_left (eqb j k) false (eq-eqb j k e)
among_last j k (i ∷ ks) e = or_right (eqb j i) (among j (ks ++ k ∷ [])) (among_last j k ks e)

pub among_other : (j k : ℕ) (ks : List ℕ) → (j ≡ k → ⊥) → among j (ks ++ k ∷ []) ≡ among j ks
among_other j k [] e = ap (λ (b : Bool). b || false) (ne_eqb j k e)
among_other j k (i ∷ ks) e = ap (λ (b : Bool). eqb j i || b) (among_other j k ks e)

-- the record of a party that has opened, or has not
pub record Marked (ops : List (List ℕ)) (s : Sealed) (j : ℕ) (b : Bool) : Type 0 where
  pub mark : has_opened s.held.seals s.list.length j ≡ b
  pub opening : b ≡ true → opening_in s.held.seals s.list.length j ≡ get_or ops j []

-- so far: these parties have opened and their rows are added up, and the parties in the rest have not
pub record SoFar (xs ops : List (List ℕ)) (opened_by rest : List ℕ) (s : Sealed) : Type 0 where
  pub sound : InOpening s
  pub parties : s.parties ≡ length xs
  pub seals : (j : ℕ) → j < length xs → seal_in s.held.seals s.list.length j ≡ get_or xs j []
  pub gives : (i : ℕ) → i < length rest → seal_of s.list.hash (get_or rest i 0) (get_or ops (get_or rest i 0) []) ≡ get_or xs (get_or rest i 0) []
  pub long : (i : ℕ) → i < length rest → length (get_or ops (get_or rest i 0) []) ≡ 32 + s.list.length
  pub comes : (i : ℕ) → i < length rest → get_or rest i 0 < length xs
  pub once : (i j : ℕ) → i < j → j < length rest → get_or rest i 0 ≡ get_or rest j 0 → ⊥
  pub unopened : (i : ℕ) → i < length rest → has_opened s.held.seals s.list.length (get_or rest i 0) ≡ false
  pub marked : (j : ℕ) → j < length xs → Marked ops s j (among j opened_by)
  pub sum : take s.list.length s.held.bits ≡ sum_of s.list.length (map (row_of ops) opened_by)
  pub count : opened_count s.held.seals s.list.length s.parties ≡ length opened_by

module _ (xs ops : List (List ℕ)) where
  -- the state after an opening that is taken
  abbrev pub after : Sealed → ℕ → Sealed
  after s k =
      record {
        held = with_seals s.held (opened s.held.seals s.list.length s.parties s.list.hash k (get_or ops k [])).seals (xor_bytes s.held.bits (row_of ops k));
        list = s.list;
        parties = s.parties;
      }

  module _ (s : Sealed) (k : ℕ) (before ks : List ℕ) (i : SoFar xs ops before (k ∷ ks) s) where
    here : k < length xs
    here = i.comes 0 (omega arith)

    ok : (opened s.held.seals s.list.length s.parties s.list.hash k (get_or ops k [])).answer ≡ Ok tt
    ok =
        let r = later_place (record_size s.list.length) k s.parties (omega (arith, here, i.parties)) in
        let n = i.long 0 (omega arith) in
        opening_ok s.held.seals s.list.hash (get_or ops k []) s.list.length s.parties k (omega (arith, here, i.parties)) (i.unopened 0 (omega arith)) n
        (i.gives 0 (omega arith) ∙ sym (i.seals k here)) (omega (arith, r, i.sound.closed.records_room, n))

    taken : opening_step s (k ∷ get_or ops k []) ≡ (after s k, Ok tt)
    taken =
        let x : List ℕ = get_or ops k [] in
        let t = opened s.held.seals s.list.length s.parties s.list.hash k x in
        ap (λ (b : Bool). cond b (s, Err (OpeningLength 0)) (opened_by s x t)) (ne_eqb (length (k ∷ x)) 0 (λ z. omega arith))
        ∙ ap (λ (r : Result (Unit {0}) Refusal). (record { held = with_seals s.held t.seals (sum_after r s.held.bits (drop 32 x)); list = s.list; parties = s.parties }, r)) ok

    kept : OpeningKept s.held.seals (opened s.held.seals s.list.length s.parties s.list.hash k (get_or ops k [])).seals s.list.hash (get_or ops k []) s.list.length s.parties k
    kept = opening_taken s.held.seals s.list.hash (get_or ops k []) s.list.length s.parties k ok

    marked_now : (j : ℕ) → j < length xs → Marked ops (after s k) j (among j (before ++ k ∷ []))
    marked_now j l =
        ⊎_elim (λ (b : j ≡ k).
        subst (Marked ops (after s k) j) (sym (among_last j k before b))
        (subst (λ (q : ℕ). Marked ops (after s k) q true) (sym b) (record { mark = kept.mark; opening = λ _. kept.opening })))
        (λ (b : j ≡ k → ⊥).
        let same = kept.others j b in
        let m = i.marked j l in
        subst (Marked ops (after s k) j) (sym (among_other j k before b)) (record { mark = same.mark ∙ m.mark; opening = λ e. same.opening ∙ m.opening e }))
        (cases_eq j k)

    pub next_opening : ((step (opening s) 5 (k ∷ get_or ops k [])).1 ≡ None) × ((step (opening s) 5 (k ∷ get_or ops k [])).0 ≡ opening (after s k)) × SoFar xs ops (before ++ k ∷ []) ks (after s k)
    next_opening =
        let e = ap (stepped opening) taken in (
          ap (λ (p : State × _). p.1) e,
          ap (λ (p : State × _). p.0) e,
          record {
            sound = subst SoundState (ap (λ (p : State × _). p.0) e) (step_sound (opening s) 5 (k ∷ get_or ops k []) i.sound);
            parties = i.parties;
            seals =
                λ j l.
                ⊎_elim (λ (b : j ≡ k). ap (seal_in (opened s.held.seals s.list.length s.parties s.list.hash k (get_or ops k [])).seals s.list.length) b ∙ (kept.seal ∙ (ap (seal_in s.held.seals s.list.length) (sym b) ∙ i.seals j l)))
                (λ (b : j ≡ k → ⊥). (kept.others j b).seal ∙ i.seals j l) (cases_eq j k);
            gives = λ j l. i.gives (suc j) (omega arith);
            long = λ j l. i.long (suc j) (omega arith);
            comes = λ j l. i.comes (suc j) (omega arith);
            once = λ a b l m. i.once (suc a) (suc b) (omega arith) (omega arith);
            unopened = λ j l. (kept.others (get_or ks j 0) (λ z. i.once 0 (suc j) (omega arith) (omega arith) (sym z))).mark ∙ i.unopened (suc j) (omega arith);
            marked = marked_now;
            sum =
                take_xor s.list.length s.held.bits (row_of ops k)
                ∙ (ap (λ (z : List ℕ). xor_bytes z (row_of ops k)) i.sum
                ∙ (sym (sum_push s.list.length (map (row_of ops) before) (row_of ops k)) ∙ ap (sum_of s.list.length) (sym (map_push (row_of ops) before k))));
            count =
                count_more s.held.seals _ s.list.length k (i.unopened 0 (omega arith)) kept.mark kept.others s.parties
                ∙ (ap (λ (b : Bool). opened_count s.held.seals s.list.length s.parties + cond b 1 0) (lt-ltb k s.parties (omega (arith, here, i.parties)))
                ∙ (ap (λ (n : ℕ). n + 1) i.count ∙ sym (length-append before (k ∷ []))));
          },
        )

  abbrev pub AllOpened : List ℕ → List ℕ → Sealed → Type 0
  AllOpened before ks s = (t : Sealed) × Leads (opening s) (opening_steps ops ks) (opening t) × SoFar xs ops (before ++ ks) [] t × SameList t s

  pub openings_lead : (ks before : List ℕ) (s : Sealed) → SoFar xs ops before ks s → AllOpened before ks s
  unfolding opening_steps
  openings_lead [] before s i = (s, refl, subst (λ (d : List ℕ). SoFar xs ops d [] s) (sym (append-nil before)) i, (refl, refl, refl))
  openings_lead (k ∷ ks) before s i =
      let n = next_opening s k before ks i in
      let r = openings_lead ks (before ++ k ∷ []) (after s k) n.2 in (
        r.0,
        more (opening s) (opening (after s k)) (opening r.0) 5 (k ∷ get_or ops k []) (opening_steps ops ks) n.1 n.0 r.1,
        subst (λ (d : List ℕ). SoFar xs ops d [] r.0) (append_assoc before (k ∷ []) ks) r.2,
        r.3,
      )
