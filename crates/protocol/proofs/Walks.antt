-- From one name, or party, to the next. Assumes nothing.
use Rattle.std.proofs.Common.{◌≡◌, ℕ, ◌+◌, List, get_or, refl, add-one}
use Rattle.protocol.specs.Layout.{name_at, bits_length, opening_size, party_at}

module _ (bytes : List ℕ) where
  pub name_more : (k : ℕ) → name_at bytes (k + 1) ≡ name_at bytes k + 1 + get_or bytes (name_at bytes k) 0
  unfolding name_at
  name_more k = rw (add-one k) refl

  pub party_more : (k : ℕ) → party_at bytes (k + 1) ≡ party_at bytes k + 33 + opening_size (get_or bytes (party_at bytes k + 32) 0) (bits_length bytes)
  unfolding party_at
  party_more k = rw (add-one k) refl
