-- What holds of the state in every run. Assumes nothing.
use Rattle.std.specs.Prelude.{◌≡◌, ℕ, ◌*◌, ◌<◌, ◌≤◌, true, false, length, take}
use Rattle.entries.specs.Rows.{list_hash, most_names}
use Rattle.listing.specs.Listing.{Listing, Sound}
use Rattle.seals.specs.Seal.{seal_of}
use Rattle.seals.specs.Records.{record_size, seal_in, has_opened, opening_in, opened_count}
use Rattle.seals.specs.Steps.{most_parties}
use Rattle.records.specs.Records.{opened_rows}
use Rattle.sum.specs.Sums.{sum_of}
use Rattle.order.specs.Drawings.{drawn_order}
use Rattle.protocol.specs.Protocol.{ordered}
use Rattle.ceremony.specs.Model.{Held, Listed, Sealed, Ended}
use Rattle.ceremony.specs.Steps.{shortest, longest}
use Rattle.ceremony.specs.Reports.{order_of}
use Rattle.ceremony.specs.Draws.{State, listing, sealing, opening, ended}

-- the memory of the list
abbrev pub list_of : Held → ℕ → Listing
list_of m count = record { slots = m.slots; index = m.index; count = count }

-- once the list is closed: it is sound and its hash is told; the length of the bits is in range, and there is room for all; each opening that stands in memory
-- gives its seal; and the bits are the sum of exactly those openings
pub record Closed (s : Sealed) : Type 0 where
  pub names : Sound (list_of s.held s.list.count)
  pub some_names : 0 < s.list.count
  pub few_names : s.list.count ≤ most_names
  pub hash : s.list.hash ≡ list_hash s.held.slots s.held.index s.list.count
  pub enough_bits : shortest ≤ s.list.length
  pub few_bits : s.list.length ≤ longest
  pub bits_room : s.list.length ≤ length s.held.bits
  pub order_room : s.list.count ≤ length s.held.order
  pub few_parties : s.parties ≤ most_parties
  pub records_room : record_size s.list.length * s.parties ≤ length s.held.seals
  pub given : (k : ℕ) → k < s.parties → has_opened s.held.seals s.list.length k ≡ true
      → seal_of s.list.hash k (opening_in s.held.seals s.list.length k) ≡ seal_in s.held.seals s.list.length k
  pub sum : take s.list.length s.held.bits ≡ sum_of s.list.length (opened_rows s.held.seals s.list.length s.parties)

-- while seals are taken nobody has opened
pub record InSealing (s : Sealed) : Type 0 where
  pub closed : Closed s
  pub unopened : (k : ℕ) → k < s.parties → has_opened s.held.seals s.list.length k ≡ false

pub record InOpening (s : Sealed) : Type 0 where
  pub closed : Closed s
  pub some_parties : 0 < s.parties

-- the state that was closed, with the order beside it
abbrev pub before_end : Ended → Sealed
before_end e = record { held = e.held; list = e.list; parties = e.parties }

-- at the end a party has opened, and the order is the one drawn from the sum
pub record AtEnd (e : Ended) : Type 0 where
  pub closed : Closed (before_end e)
  pub some_parties : 0 < e.parties
  pub some_opened : 0 < opened_count e.held.seals e.list.length e.parties
  pub order : order_of e ≡ ordered (drawn_order e.list.count (take e.list.length e.held.bits) 0)

pub record InListing (s : Listed) : Type 0 where
  pub names : Sound (list_of s.held s.count)
  pub few_names : s.count ≤ most_names

abbrev pub SoundState : State → Type 0
SoundState (listing s) = InListing s
SoundState (sealing s) = InSealing s
SoundState (opening s) = InOpening s
SoundState (ended e) = AtEnd e
