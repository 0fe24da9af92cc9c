-- Memory holds bytes where the file does. Assumes nothing.
use Rattle.std.proofs.Common.{◌≡◌, ℕ, zero, suc, ◌+◌, ◌<◌, ◌≤◌, Bool, true, false, cond, ◌||◌, eqb, ltb, leb, List, [], ◌∷◌, ◌++◌, length, get_or, take, drop, replicate, Ok, Err, Result, sym, subst, ⊎_elim, arith}
use lib.Seq.{paste}
use Rattle.std.proofs.lemmas.List.{get_or-drop}
use Rattle.std.proofs.lemmas.Bool.{cases_lt, lt-ltb, or_right}
use Rattle.refusals.specs.declared.Missing.TheVariants.{Seal}
use Rattle.refusals.specs.declared.Refusal.{Refusal}
use Rattle.refusals.specs.declared.Refusal.TheVariants.{NameLength, Nothing}
use Rattle.protocol.specs.Draws.{Bytes}
use Rattle.entries.specs.Rows.{packed, longest_name}
use Rattle.entries.specs.Place.{place_for}
use Rattle.entries.specs.Entry.{entered_at}
use Rattle.ceremony.specs.Model.{Held, Listed, Sealed, Ended}
use Rattle.ceremony.specs.Steps.{entry_step, listed_by, length_given, listing_closed, seal_step, opening_step, may_draw, closed_with}
use Rattle.ceremony.specs.Draws.{State, listing, sealing, opening, ended, stepped, step}
use Rattle.step_file.specs.Reading.{end, cut, length_of}
use Rattle.step_file.specs.Reading as reading
use Rattle.step_file.specs.File.{more_steps, steps_of, file_steps}
use Rattle.runs.specs.Runs.{after_steps}
use Rattle.runs.specs.Reports.{fresh, run_of}
use Rattle.runs.specs.Rooms.{room_for}
use Rattle.laws.proofs.Turns.{each_step, entry_cases, seal_cases, opening_cases}
use Rattle.laws.proofs.Answers.{passed, ok_is}

-- rows of bytes put together and taken apart
pub bytes_cons : (b : ℕ) (xs : List ℕ) → b < 256 → Bytes xs → Bytes (b ∷ xs)
bytes_cons b xs l h zero = l
bytes_cons b xs l h (suc i) = h i

pub bytes_tail : (b : ℕ) (xs : List ℕ) → Bytes (b ∷ xs) → Bytes xs
bytes_tail b xs h i = h (suc i)

pub bytes_append : (xs ys : List ℕ) → Bytes xs → Bytes ys → Bytes (xs ++ ys)
bytes_append [] ys h k = k
bytes_append (x ∷ xs) ys h k = bytes_cons x (xs ++ ys) (h 0) (bytes_append xs ys (bytes_tail x xs h) k)

pub bytes_take : (n : ℕ) (xs : List ℕ) → Bytes xs → Bytes (take n xs)
bytes_take zero xs h = λ i. omega arith
bytes_take (suc n) [] h = λ i. omega arith
bytes_take (suc n) (x ∷ xs) h = bytes_cons x (take n xs) (h 0) (bytes_take n xs (bytes_tail x xs h))

pub bytes_drop : (n : ℕ) (xs : List ℕ) → Bytes xs → Bytes (drop n xs)
bytes_drop n xs h i = subst (λ (b : ℕ). b < 256) (sym (get_or-drop n xs i 0)) (h (n + i))

bytes_replicate : (n : ℕ) → Bytes (replicate n 0)
bytes_replicate zero = λ i. omega arith
bytes_replicate (suc n) = bytes_cons 0 (replicate n 0) (omega arith) (bytes_replicate n)

bytes_paste : (d : List ℕ) (at : ℕ) (s : List ℕ) (n : ℕ) → Bytes d → Bytes s → Bytes (paste d at s n)
bytes_paste d at s n h k =
    bytes_append (take at d ++ take n s) (drop (at + n) d) (bytes_append (take at d) (take n s) (bytes_take at d h) (bytes_take n s k)) (bytes_drop (at + n) d h)

-- what a state holds of names and records is bytes
abbrev pub held_of : State → Held
held_of (listing s) = s.held
held_of (sealing s) = s.held
held_of (opening s) = s.held
held_of (ended e) = e.held

abbrev pub Typed : State → Type 0
Typed s = Bytes (held_of s).slots × Bytes (held_of s).seals

entry : (s : Listed) (x : List ℕ) → Typed (listing s) → Bytes x → length x < 256 → Typed (stepped listing (entry_step s x)).0
entry s x h b l =
    entry_cases s x (λ r. Typed (stepped listing r).0) (λ why. h)
    (λ at slot. (bytes_paste s.held.slots slot (packed x) (1 + length x) h.0 (bytes_cons (length x) x l b), h.1))

seal : (s : Sealed) (x : List ℕ) → Typed (sealing s) → Bytes x → Typed (stepped sealing (seal_step s x)).0
seal s x h b =
    seal_cases s x (λ r. Typed (stepped sealing r).0) (λ why. h)
    (λ at. (h.0, bytes_paste s.held.seals at (x ++ 0 ∷ []) 33 h.1 (bytes_append x (0 ∷ []) b (bytes_cons 0 [] (omega arith) (λ i. omega arith)))))

opens : (s : Sealed) (x : List ℕ) → Typed (opening s) → Bytes x → Typed (stepped opening (opening_step s x)).0
opens s x h b =
    opening_cases s x (λ r. Typed (stepped opening r).0) (λ why. h)
    (λ at. (h.0, bytes_paste s.held.seals at (1 ∷ drop 1 x) (1 + length (drop 1 x)) h.1 (bytes_cons 1 (drop 1 x) (omega arith) (bytes_drop 1 x b))))

-- an entry that is too long for its length to be a byte is refused, and changes nothing
long_entry : (s : Listed) (x : List ℕ) → Typed (listing s) → Bytes x → Typed (stepped listing (entry_step s x)).0
long_entry s x h b =
    ⊎_elim (λ (l : length x < 256). entry s x h b l)
    (λ (l : 256 ≤ length x).
    let t : ltb longest_name (length x) ≡ true = lt-ltb longest_name (length x) (omega arith) in
    let o : (eqb (length x) 0 || ltb longest_name (length x)) ≡ true = or_right (eqb (length x) 0) (ltb longest_name (length x)) t in
    let e : place_for s.held.slots s.held.index s.count x ≡ Err (NameLength (length x)) = simp o in
    subst (λ (p : Result ℕ Refusal). Typed (stepped listing (listed_by s (entered_at s.held.slots s.held.index s.count x p))).0) (sym e) h)
    (cases_lt (length x) 256)

list_typed : (s : Listed) (r : Result ℕ Refusal) (t : Sealed) → Typed (listing s) → listing_closed s r ≡ Ok t → Typed (sealing t)
list_typed s (Ok n) t h e = subst (λ (q : Sealed). Typed (sealing q)) (ok_is _ _ e) h
list_typed s (Err w) t h e = absurd cc

end_typed : (s : Sealed) (r : Result (Unit {0}) Refusal) (t : Ended) → Typed (opening s) → closed_with s r ≡ Ok t → Typed (ended t)
end_typed s (Ok u) t h e = subst (λ (q : Ended). Typed (ended q)) (ok_is _ _ e) h
end_typed s (Err w) t h e = absurd cc

pub step_typed : (s : State) (kind : ℕ) (x : List ℕ) → Typed s → Bytes x → Typed (step s kind x).0
step_typed s kind x =
    each_step x (λ s r. Typed s → Bytes x → Typed r.0)
    (record {
      refused = λ s why h b. h;
      entry = λ s. long_entry s x;
      list_closed = λ s t e h b. list_typed s (length_given s x) t h e;
      seal = λ s. seal s x;
      seals_closed = λ s t e h b. subst (λ (q : Sealed). Typed (opening q)) (ok_is _ _ (passed (eqb s.parties 0) (Nothing Seal) (Ok s) t e).1) h;
      opens = λ s. opens s x;
      ends = λ s e k h b. end_typed s (may_draw s) e h k;
    }) s kind

-- the bytes of each step of a file are bytes
abbrev AllBytes : List (ℕ × List ℕ) → Type 0
AllBytes [] = Unit {0}
AllBytes (x ∷ xs) = Bytes x.1 × AllBytes xs

steps_bytes : (n : ℕ) (rest : List ℕ) → Bytes rest → AllBytes (steps_of n rest)
unfolding steps_of
steps_bytes zero rest h = tt
steps_bytes (suc n) rest h =
    go (ltb 0 (length rest)) (leb (3 + length_of rest) (length rest)) (steps_bytes n (drop (3 + length_of rest) rest) (bytes_drop (3 + length_of rest) rest h))
  where
    go : (a b : Bool) → AllBytes (steps_of n (drop (3 + length_of rest) rest))
        → AllBytes (more_steps (λ r. steps_of n r) (cond a (cond b (reading.step (get_or rest 0 0) (take (length_of rest) (drop 3 rest)) (drop (3 + length_of rest) rest)) cut) end))
    go true true ih = (bytes_take (length_of rest) (drop 3 rest) (bytes_drop 3 rest h), ih)
    go true false ih = tt
    go false b ih = tt

steps_typed : (s : State) (xs : List (ℕ × List ℕ)) → Typed s → AllBytes xs → Typed (after_steps s xs)
unfolding after_steps
steps_typed s [] h b = h
steps_typed s (x ∷ xs) h b = steps_typed (step s x.0 x.1).0 xs (step_typed s x.0 x.1 h b.0) b.1

pub runs_typed : (file : List ℕ) → Bytes file → Typed (run_of file)
unfolding room_for
runs_typed file h = steps_typed fresh (file_steps file) (bytes_replicate 130000, bytes_replicate 2105535) (steps_bytes (length file) file h)
