-- What an iterator over the names, or over the parties, has left. Assumes nothing.
use Rattle.std.specs.Prelude.{ℕ, ◌-◌, List, map}
use Rattle.std.specs.List.{range_with_len}
use Rattle.protocol.specs.declared.names.EachName.{EachName}
use Rattle.protocol.specs.declared.names.Name.{Name}
use Rattle.protocol.specs.declared.parties.EachParty.{EachParty}
use Rattle.protocol.specs.declared.parties.Party.{Party}

-- a name, or a party, by its bytes and its number
abbrev pub numbered_name : Name → List ℕ × ℕ
numbered_name n = (n.bytes.now, n.number)

abbrev pub numbered_party : Party → List ℕ × ℕ
numbered_party p = (p.bytes.now, p.number)

-- those from one number on, up to an end
abbrev pub numbers_between : List ℕ → ℕ → ℕ → List (List ℕ × ℕ)
numbers_between bytes from end = map (λ (k : ℕ). (bytes, k)) (range_with_len from (end - from))

abbrev pub names_left : EachName → List (List ℕ × ℕ)
names_left s = numbers_between s.first.bytes.now s.first.number s.end

abbrev pub parties_left : EachParty → List (List ℕ × ℕ)
parties_left s = numbers_between s.first.bytes.now s.first.number s.end
