-- The rounds and the schedule of a block, one step after another.
-- Assumes nothing.
use Rattle.std.proofs.Common.{◌≡◌, ℕ, zero, suc, ◌+◌, ◌-◌, ◌*◌, ◌<◌, ◌≤◌, List, [], ◌∷◌, ◌++◌, length, get_or, take, drop, set, sym, refl, ap, ◌∙◌, add-zero, add-one, zero-mul, suc-mul, arith}
use Rattle.std.proofs.lemmas.List.{take_more_set, get_or_append_left, get_or_push, get_or-take, get_or-drop, drop-drop, length_push}
use Rattle.std.specs.Int.{from_be_bytes}
use Rattle.std.specs.Simd.{first_chunks}
use mir.Syntax.{w32}
use Rattle.sha256.specs.declared.state.State.{State}
use Rattle.sha256.specs.Constants.{constants}
use Rattle.sha256.specs.Rounds.{round, rounds}
use Rattle.sha256.specs.Schedule.{word, first_words, next, longer, schedule}

pub rounds_none : (ws : List ℕ) (s : State) → rounds 0 ws s ≡ s
unfolding rounds
rounds_none ws s = refl

-- one more round
pub turned_more : (t n : ℕ) (ws : List ℕ) (start s r : State) → n ≡ t + 1 → s ≡ rounds t ws start
    → r ≡ round (get_or constants t 0) (get_or ws t 0) s → r ≡ rounds n ws start
unfolding rounds
turned_more t n ws start s r e f g =
    g ∙ ap (λ (z : State). round (get_or constants t 0) (get_or ws t 0) z) f ∙ ap (λ (k : ℕ). rounds k ws start) (sym (e ∙ add-one t))

-- the block's own words at the front
pub first_taken : (block words more : List ℕ) → words ≡ first_words 16 block → length more ≡ 48
    → (take 16 (words ++ more) ≡ schedule 0 block) × (length (words ++ more) ≡ 64)
unfolding schedule first_words
first_taken block words more e l = (
  ap (λ (ws : List ℕ). take 16 (ws ++ more)) e,
  ap (λ (ws : List ℕ). length (ws ++ more)) e ∙ omega arith,
)

-- the next word is of the four words that it comes from
next_same : (t : ℕ) (ws vs : List ℕ) → ((k : ℕ) → k < t + 16 → get_or ws k 0 ≡ get_or vs k 0) → next t ws ≡ next t vs
unfolding next
next_same t ws vs h =
    let a = h (t + 14) (omega arith) in
    let b = h (t + 9) (omega arith) in
    let c = h (t + 1) (omega arith) in
    let d = h t (omega arith) in
    cc

-- one more word of the schedule, behind those that are there
pub schedule_more : (t v : ℕ) (ws block : List ℕ) → t + 16 < length ws → take (t + 16) ws ≡ schedule t block → v ≡ next t ws
    → take (t + 1 + 16) (set ws (t + 16) v) ≡ schedule (t + 1) block
unfolding schedule longer
schedule_more t v ws block h e f =
    let same : next t ws ≡ next t (take (t + 16) ws) = next_same t ws (take (t + 16) ws) (λ k l. sym (get_or-take (t + 16) ws k 0 l)) in
    let end : t + 1 + 16 ≡ t + 16 + 1 = omega arith in
    ap (λ (n : ℕ). take n (set ws (t + 16) v)) end
    ∙ take_more_set ws (t + 16) v h
    ∙ ap (λ (x : ℕ). take (t + 16) ws ++ x ∷ []) (f ∙ same)
    ∙ ap (λ (vs : List ℕ). vs ++ next t vs ∷ []) e
    ∙ ap (λ (n : ℕ). schedule n block) (sym (add-one t))

-- a schedule with one word more, and how long it is
schedule_next : (t : ℕ) (block : List ℕ) → schedule (t + 1) block ≡ schedule t block ++ next t (schedule t block) ∷ []
unfolding schedule longer
schedule_next t block = ap (λ (n : ℕ). schedule n block) (add-one t)

length_schedule : (t : ℕ) (block : List ℕ) → length (schedule t block) ≡ t + 16
unfolding schedule longer first_words
length_schedule zero block = refl
length_schedule (suc t) block =
    length_push (schedule t block) (next t (schedule t block)) ∙ ap (λ (n : ℕ). n + 1) (length_schedule t block) ∙ omega arith

-- it grows at its end, so a word that is there stays
schedule_front : (n t : ℕ) (block : List ℕ) (k : ℕ) → k < t + 16 → get_or (schedule (t + n) block) k 0 ≡ get_or (schedule t block) k 0
schedule_front zero t block k h = ap (λ (m : ℕ). get_or (schedule m block) k 0) (add-zero t)
schedule_front (suc n) t block k h =
    let long : length (schedule (t + n) block) ≡ t + n + 16 = length_schedule (t + n) block in
    let place : t + suc n ≡ t + n + 1 = omega arith in
    ap (λ (m : ℕ). get_or (schedule m block) k 0) place ∙ ap (λ (ws : List ℕ). get_or ws k 0) (schedule_next (t + n) block)
    ∙ get_or_append_left (schedule (t + n) block) (next (t + n) (schedule (t + n) block) ∷ []) 0 k (omega arith)
    ∙ schedule_front n t block k h

whole_front : (t : ℕ) (block : List ℕ) → t ≤ 48 → (k : ℕ) → k < t + 16 → get_or (schedule t block) k 0 ≡ get_or (schedule 48 block) k 0
whole_front t block g k h =
    let all : t + (48 - t) ≡ 48 = omega arith in
    sym (schedule_front (48 - t) t block k h) ∙ ap (λ (m : ℕ). get_or (schedule m block) k 0) all

-- the word at t + 16 of the whole schedule is the one that comes of the words before it
pub schedule_word : (t : ℕ) (block : List ℕ) → t < 48 → next t (schedule 48 block) ≡ get_or (schedule 48 block) (t + 16) 0
schedule_word t block h =
    sym (next_same t (schedule t block) (schedule 48 block) (whole_front t block (omega arith)))
    ∙ sym (get_or_push (schedule t block) (next t (schedule t block)) 0 (t + 16) (length_schedule t block))
    ∙ ap (λ (ws : List ℕ). get_or ws (t + 16) 0) (sym (schedule_next t block))
    ∙ whole_front (t + 1) block (omega arith) (t + 16) (omega arith)

-- the chunks of a list, and the words of the chunks of a block
chunk_at : (n k : ℕ) (xs : List ℕ) (i : ℕ) → i < k → get_or (first_chunks n k xs) i [] ≡ take n (drop (i * n) xs)
chunk_at n zero xs i l = absurd (omega arith)
chunk_at n (suc k) xs zero l = ap (λ (j : ℕ). take n (drop j xs)) (sym (zero-mul n))
chunk_at n (suc k) xs (suc i) l =
    chunk_at n k (drop n xs) i (omega arith) ∙ ap (take n) (drop-drop (i * n) n xs) ∙ ap (λ (j : ℕ). take n (drop j xs)) (rw suc-mul (omega arith))

pub word_of_chunks : (block : List ℕ) (i : ℕ) → i < 16 → from_be_bytes w32 (get_or (first_chunks 4 16 block) i []) ≡ word block i
word_of_chunks block i l =
    let place : i * 4 ≡ 4 * i = omega arith in
    let byte : (j : ℕ) → j < 4 → get_or (take 4 (drop (i * 4) block)) j 0 ≡ get_or block (4 * i + j) 0 =
    λ j h. get_or-take 4 (drop (i * 4) block) j 0 h ∙ get_or-drop (i * 4) block j 0 ∙ ap (λ (k : ℕ). get_or block (k + j) 0) place
    in
    let a : get_or (take 4 (drop (i * 4) block)) 0 0 ≡ get_or block (4 * i) 0 = byte 0 (omega arith) ∙ ap (λ (k : ℕ). get_or block k 0) (add-zero (4 * i)) in
    let b = byte 1 (omega arith) in
    let c = byte 2 (omega arith) in
    let d = byte 3 (omega arith) in
    ap (from_be_bytes w32) (chunk_at 4 16 block i l) ∙ cc
