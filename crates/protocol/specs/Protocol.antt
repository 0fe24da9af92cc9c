-- A protocol, which tells a finished draw, and the bytes that it is written as. Assumes nothing.
use Rattle.std.specs.Prelude.{ℕ, ◌/◌, ◌%◌, List, [], ◌∷◌, ◌++◌, map, length, drop, Some, None, Option}
use Rattle.std.specs.List.{flat_map}
use Rattle.std.specs.Option.{option_to_list}
use Rattle.entries.specs.Rows.{packed_rows}
use Rattle.sum.specs.Sums.{sum_of}
use Rattle.order.specs.Drawings.{Drawing, drawn, run_out, drawn_order}

-- a party: its seal, and its opening if it opened, 32 bytes and its bits
pub record Party : Type 0 where
  pub seal : List ℕ
  pub opening : Option (List ℕ)

-- the names in the order of the list, how many bytes each party puts in, the parties in the order of their seals, and the order as numbers of the list,
-- if there is one
pub record Protocol : Type 0 where
  pub names : List (List ℕ)
  pub bits_length : ℕ
  pub parties : List Party
  pub order : Option (List ℕ)

-- a number in two bytes, low byte first
abbrev pub word : ℕ → List ℕ
word n = n % 256 ∷ n / 256 ∷ []

-- one byte 1 and the opening, or one byte 0
abbrev pub written_opening : Option (List ℕ) → List ℕ
written_opening None = 0 ∷ []
written_opening (Some x) = 1 ∷ x

abbrev pub written_party : Party → List ℕ
written_party p = p.seal ++ written_opening p.opening

-- one byte 1 and the order, two bytes for each name, or one byte 0
abbrev pub written_order : Option (List ℕ) → List ℕ
written_order None = 0 ∷ []
written_order (Some ns) = 1 ∷ flat_map word ns

-- the number of names, the names, each after one byte of its length, how many bytes each party puts in, the number of parties, the parties, the order
abbrev pub written : Protocol → List ℕ
written d =
    word (length d.names)
    ++ (packed_rows d.names ++ (word d.bits_length ++ (length d.parties ∷ (flat_map written_party d.parties ++ written_order d.order))))

-- the openings of the parties that opened, in the order of the parties
abbrev pub openings : List Party → List (List ℕ)
openings ps = flat_map (λ (p : Party). option_to_list p.opening) ps

-- the drawing of n names from the sum of the opened parties' bits, L bytes each: those behind the first 32 of an opening
abbrev pub drawing_from : ℕ → ℕ → List Party → Drawing
drawing_from n L ps = drawn_order n (sum_of L (map (drop 32) (openings ps))) 0

-- the order that was drawn, if there is one
abbrev pub ordered : Drawing → Option (List ℕ)
ordered (drawn ns used) = Some ns
ordered run_out = None
