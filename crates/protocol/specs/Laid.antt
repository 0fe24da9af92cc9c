-- The layout of a protocol as the code holds it. Assumes nothing.
use Rattle.std.specs.Prelude.{◌≡◌, ℕ, ◌^◌, ◌<◌, ◌≤◌, List}
use Rattle.protocol.specs.Layout.{name_count, length_at, party_count, order_at}

-- numbers and places are those of these bytes, and the places are far from the end of memory
pub record LaidOut (bytes : List ℕ) (names length_place parties order_place : ℕ) : Type 0 where
  pub names_are : names ≡ name_count bytes
  pub length_place_is : length_place ≡ length_at bytes
  pub parties_are : parties ≡ party_count bytes
  pub few_parties : parties < 256
  pub order_place_is : order_place ≡ order_at bytes
  pub behind : 2 ≤ length_place
  pub near : length_place < 2 ^ 31
  pub far : order_place < 2 ^ 33
