-- A seal and an opening: what each answers, and what it leaves in memory. Assumes nothing.
use Rattle.std.specs.Prelude.{ℕ, ◌+◌, ◌*◌, cond, not, ◌||◌, List, [], ◌∷◌, ◌++◌, length, Ok, Err, Result, ◌==◌, nat_le, nat_lt}
use Rattle.std.proofs.Math.Seq.{paste}
use Rattle.std.specs.Str.{bytes_eq}
use Rattle.refusals.specs.declared.Lent.TheVariants.{Seals}
use Rattle.refusals.specs.declared.Refusal.{Refusal}
use Rattle.refusals.specs.declared.Refusal.TheVariants.{SealLength, TooManySeals, NoSuchParty, OpeningLength, WrongOpening, NoRoom}
use Rattle.seals.specs.Seal.{seal_of}
use Rattle.seals.specs.Records.{record_size, seal_in, has_opened}

-- at most 255 parties put in bits
abbrev pub most_parties : ℕ
most_parties = 255

pub record Sealed : Type 0 where
  pub answer : Result ℕ Refusal
  pub seals : List ℕ

-- a seal has 32 bytes, it is not the 256th, and there is room for its record; it has not opened
abbrev pub seal_fault : List ℕ → ℕ → ℕ → List ℕ → Result ℕ Refusal
seal_fault seals len parties x =
    cond (not (length x == 32)) (Err (SealLength (length x)))
    (cond (parties == most_parties) (Err TooManySeals)
    (cond (nat_lt (length seals) (record_size len * (parties + 1))) (Err (NoRoom Seals)) (Ok (record_size len * parties))))

abbrev pub sealed_at : List ℕ → ℕ → List ℕ → Result ℕ Refusal → Sealed
sealed_at seals parties x (Err why) = record { answer = Err why; seals = seals }
sealed_at seals parties x (Ok at) = record { answer = Ok (parties + 1); seals = paste seals at (x ++ 0 ∷ []) 33 }

abbrev pub sealed : List ℕ → ℕ → ℕ → List ℕ → Sealed
sealed seals len parties x = sealed_at seals parties x (seal_fault seals len parties x)

pub record Opened : Type 0 where
  pub answer : Result (Unit {0}) Refusal
  pub seals : List ℕ

-- an opening is that of a party that has not opened, has 32 bytes and the party's bits, and gives the seal; else why it is refused
abbrev pub opening_fault : List ℕ → ℕ → ℕ → List ℕ → ℕ → List ℕ → Result ℕ Refusal
opening_fault seals len parties context party x =
    cond (nat_le parties party || has_opened seals len party) (Err (NoSuchParty party))
    (cond (not (length x == 32 + len)) (Err (OpeningLength (length x)))
    (cond (not (bytes_eq (seal_of context party x) (seal_in seals len party))) (Err (WrongOpening party))
    (cond (nat_lt (length seals) (record_size len * party + 33 + length x)) (Err (NoRoom Seals)) (Ok (record_size len * party + 32)))))

abbrev pub opened_at : List ℕ → List ℕ → Result ℕ Refusal → Opened
opened_at seals x (Err why) = record { answer = Err why; seals = seals }
opened_at seals x (Ok at) = record { answer = Ok tt; seals = paste seals at (1 ∷ x) (1 + length x) }

abbrev pub opened : List ℕ → ℕ → ℕ → List ℕ → ℕ → List ℕ → Opened
opened seals len parties context party x = opened_at seals x (opening_fault seals len parties context party x)
