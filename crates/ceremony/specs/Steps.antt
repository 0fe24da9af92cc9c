-- Each step of a draw as a function of the state: what it answers, and the state after it. Assumes nothing.
use Rattle.std.specs.Prelude.{ℕ, ◌+◌, ◌*◌, cond, not, ◌||◌, List, ◌++◌, length, take, drop, replicate, Ok, Err, Result, ◌==◌, nat_lt, slice_index}
use Rattle.refusals.specs.Answers.{done, number_or}
use Rattle.refusals.specs.declared.Lent.TheVariants.{Bits, Order}
use Rattle.refusals.specs.declared.Missing.TheVariants.{Entry, Seal, Opening}
use Rattle.refusals.specs.declared.Refusal.{Refusal}
use Rattle.refusals.specs.declared.Refusal.TheVariants.{WrongTime, BitsLength, OpeningLength, Nothing, NoRoom}
use Rattle.entries.specs.Rows.{list_hash}
use Rattle.entries.specs.Place.{place_for}
use Rattle.entries.specs.Entry.{Entered, entered}
use Rattle.seals.specs.Records.{opened_count}
use Rattle.seals.specs.Steps.{Sealed as SealTaken, Opened as OpeningTaken, sealed, opened}
use Rattle.sum.specs.Sums.{xor_bytes}
use Rattle.order.specs.Drawings.{Drawing, drawn_order, outcome, left_in}
use Rattle.ceremony.specs.declared.memory.ClosedList.{ClosedList}
use Rattle.ceremony.specs.Model.{Held, Listed, Sealed, Ended}

-- how many bytes each party may put in
abbrev pub shortest : ℕ
shortest = 64

abbrev pub longest : ℕ
longest = 8192

abbrev pub with_list : Held → List ℕ → List ℕ → Held
with_list m slots index = record { slots = slots; index = index; seals = m.seals; bits = m.bits; order = m.order }

abbrev pub with_seals : Held → List ℕ → List ℕ → Held
with_seals m seals bits = record { slots = m.slots; index = m.index; seals = seals; bits = bits; order = m.order }

abbrev pub with_order : Held → List ℕ → Held
with_order m order = record { slots = m.slots; index = m.index; seals = m.seals; bits = m.bits; order = order }

-- ---- an entry

abbrev pub listed_by : Listed → Entered → Listed × Result (Unit {0}) Refusal
listed_by s e = (record { held = with_list s.held e.slots e.index; count = number_or e.answer s.count }, done e.answer)

abbrev pub entry_step : Listed → List ℕ → Listed × Result (Unit {0}) Refusal
entry_step s x = listed_by s (entered s.held.slots s.held.index s.count x)

-- once the list is closed an entry is refused for what is wrong with it, else for its time
abbrev pub else_late : Result ℕ Refusal → Refusal
else_late (Ok at) = WrongTime
else_late (Err why) = why

abbrev pub late_entry : Held → ℕ → List ℕ → Refusal
late_entry m count x = else_late (place_for m.slots m.index count x)

-- ---- the list closes: with how many bytes each party puts in, as two bytes, low byte first

abbrev pub two_bytes : List ℕ → ℕ
two_bytes x = slice_index x 0 + 256 * slice_index x 1

abbrev pub length_given : Listed → List ℕ → Result ℕ Refusal
length_given s x =
    cond (not (length x == 2)) (Err BitsLength)
    (cond (nat_lt (two_bytes x) shortest || nat_lt longest (two_bytes x)) (Err BitsLength)
    (cond (s.count == 0) (Err (Nothing Entry))
    (cond (nat_lt (length s.held.bits) (two_bytes x)) (Err (NoRoom Bits))
    (cond (nat_lt (length s.held.order) s.count) (Err (NoRoom Order)) (Ok (two_bytes x))))))

abbrev pub closed_list : Listed → ℕ → ClosedList
closed_list s n = record { count = s.count; length = n; hash = list_hash s.held.slots s.held.index s.count }

abbrev pub listing_closed : Listed → Result ℕ Refusal → Result Sealed Refusal
listing_closed s (Err why) = Err why
listing_closed s (Ok n) = Ok (record { held = with_seals s.held s.held.seals (replicate n 0 ++ drop n s.held.bits); list = closed_list s n; parties = 0 })

abbrev pub list_close : Listed → List ℕ → Result Sealed Refusal
list_close s x = listing_closed s (length_given s x)

-- ---- a seal

abbrev pub sealed_by : Sealed → SealTaken → Sealed × Result (Unit {0}) Refusal
sealed_by s t = (record { held = with_seals s.held t.seals s.held.bits; list = s.list; parties = number_or t.answer s.parties }, done t.answer)

abbrev pub seal_step : Sealed → List ℕ → Sealed × Result (Unit {0}) Refusal
seal_step s x = sealed_by s (sealed s.held.seals s.list.length s.parties x)

-- ---- the seals close

abbrev pub seals_close : Sealed → Result Sealed Refusal
seals_close s = cond (s.parties == 0) (Err (Nothing Seal)) (Ok s)

-- ---- an opening: the party's byte, and then its 32 bytes and its bits, which are added to the sum

abbrev pub sum_after : Result (Unit {0}) Refusal → List ℕ → List ℕ → List ℕ
sum_after (Ok u) bits row = xor_bytes bits row
sum_after (Err why) bits row = bits

abbrev pub opened_by : Sealed → List ℕ → OpeningTaken → Sealed × Result (Unit {0}) Refusal
opened_by s x t = (record { held = with_seals s.held t.seals (sum_after t.answer s.held.bits (drop 32 x)); list = s.list; parties = s.parties }, t.answer)

abbrev pub opening_step : Sealed → List ℕ → Sealed × Result (Unit {0}) Refusal
opening_step s x =
    cond (length x == 0) (s, Err (OpeningLength 0))
    (opened_by s (drop 1 x) (opened s.held.seals s.list.length s.parties s.list.hash (slice_index x 0) (drop 1 x)))

-- ---- the final close: the order is drawn from the sum

abbrev pub drawing_of : Sealed → Drawing
drawing_of s = drawn_order s.list.count (take s.list.length s.held.bits) 0

-- the order stands in the first places of its slice; where the bits ran out the slice is as it was
abbrev pub order_after : Sealed → List ℕ
order_after s = left_in (drawing_of s) s.held.order

-- whether it may be drawn; room was asked for when the list was closed
abbrev pub may_draw : Sealed → Result (Unit {0}) Refusal
may_draw s =
    cond (opened_count s.held.seals s.list.length s.parties == 0) (Err (Nothing Opening))
    (cond (nat_lt (length s.held.bits) s.list.length) (Err (NoRoom Bits))
    (cond (nat_lt (length s.held.order) s.list.count) (Err (NoRoom Order)) (Ok tt)))

abbrev pub after_drawing : Sealed → Ended
after_drawing s = record { held = with_order s.held (order_after s); list = s.list; parties = s.parties; outcome = outcome (drawing_of s) }

abbrev pub closed_with : Sealed → Result (Unit {0}) Refusal → Result Ended Refusal
closed_with s (Err why) = Err why
closed_with s (Ok u) = Ok (after_drawing s)

abbrev pub final_close : Sealed → Result Ended Refusal
final_close s = closed_with s (may_draw s)
