-- What is told of a protocol in words for people. Assumes nothing.
use Rattle.std.specs.Prelude.{ℕ, ◌+◌, ◌*◌, cond, List, [], ◌∷◌, ◌++◌, map, position, Some, None, Ok, Err, codes, decimal, Option, Result}
use Rattle.std.specs.Option.{option_map, ok_or}
use Rattle.std.specs.List.{range_with_len, flat_map}
use Rattle.std.specs.Str.{bytes_eq}
use Rattle.names_text.specs.Text.{is_text}
use Rattle.output.specs.Hex.{hex}
use Rattle.refusals.specs.Numbered.{number, place}
use Rattle.refusals.specs.declared.Refusal.{Refusal}
use Rattle.refusals.specs.declared.Refusal.TheVariants.{ProtocolLength, OutOfRange, BadOpening, NoneOpened}
use Rattle.protocol.specs.Check.{Verdict, accepted, refused, verdict, drawing_of, hash_of}
use Rattle.protocol.specs.Layout.{name_of, opened_in, bits_length}
use Rattle.protocol.specs.Numbers.{bits_read}
use Rattle.report_text.specs.declared.report.NoPlace.{NoPlace}
use Rattle.report_text.specs.declared.report.NoPlace.TheVariants.{Refused, NoOrder, NotInList}

-- 5 names, 3 parties, 2 opened
abbrev pub counts_line : ℕ → ℕ → ℕ → List ℕ
counts_line names parties opened =
    decimal names ++ (codes " names, " ++ (decimal parties ++ (codes " parties, " ++ (decimal opened ++ codes " opened\n"))))

-- party 1 opened, or: party 1 left out
abbrev pub party_line : List ℕ → ℕ → List ℕ
party_line bytes k = codes "party " ++ (decimal k ++ cond (opened_in bytes k) (codes " opened\n") (codes " left out\n"))

abbrev pub party_lines : List ℕ → ℕ → List ℕ
party_lines bytes parties = flat_map (λ (x : List ℕ). x) (map (party_line bytes) (range_with_len 0 parties))

abbrev pub hash_line : List ℕ → List ℕ
hash_line bytes = codes "list hash " ++ (hex (hash_of bytes) ++ codes "\n")

-- bits used 13 of 512, or that they ran out
abbrev pub bits_words : Option ℕ → List ℕ
bits_words (Some used) = codes "bits used " ++ (decimal used ++ codes " of ")
bits_words None = codes "bits ran out, of "

abbrev pub bits_line : Option ℕ → ℕ → List ℕ
bits_line used all = bits_words used ++ (decimal all ++ codes "\n")

-- a name as it stands if it is text, else in hex; what stands before it tells which
abbrev pub shown_name : List ℕ → List ℕ
shown_name x = cond (is_text x) (codes ": " ++ (x ++ codes "\n")) (codes " in hex: " ++ (hex x ++ codes "\n"))

-- place 1: Anna Berg; places are counted from 1
abbrev pub place_line : ℕ → List ℕ → List ℕ
place_line k x = codes "place " ++ (decimal k ++ shown_name x)

-- a line for each place, the first of which is k
abbrev pub place_lines : List ℕ → ℕ → List ℕ → List ℕ
place_lines bytes k [] = []
place_lines bytes k (n ∷ ns) = place_line k (name_of bytes n) ++ place_lines bytes (k + 1) ns

abbrev pub no_order : List ℕ
no_order = codes "no order\n"

abbrev pub order_lines : List ℕ → Option (List ℕ) → List ℕ
order_lines bytes (Some ns) = place_lines bytes 1 ns
order_lines bytes None = no_order

-- why a protocol is refused
abbrev pub reason : Refusal → List ℕ
reason (ProtocolLength at) = codes "the protocol ends too early, or goes on behind its end"
reason (OutOfRange at) = codes "a count, a length, a name or an opened byte is out of range, or a name is not above the one before"
reason (BadOpening party) = codes "the opening of this party does not give its seal, or, at 255, no party opened"
reason NoneOpened = codes "the opening of this party does not give its seal, or, at 255, no party opened"
reason why = codes "the order is not the one that is drawn from the openings"

-- refused 12 at 5: and the reason
abbrev pub sentence : Refusal → List ℕ
sentence why = codes "refused " ++ (decimal (number why) ++ (codes " at " ++ (decimal (place why) ++ (codes ": " ++ (reason why ++ codes "\n")))))

-- the report of a protocol
abbrev pub told : List ℕ → Verdict → List ℕ
told bytes (accepted names parties opened order) =
    counts_line names parties opened
    ++ (party_lines bytes parties ++ (hash_line bytes ++ (bits_line (bits_read (drawing_of bytes)) (8 * bits_length bytes) ++ order_lines bytes order)))
told bytes (refused why) = sentence why

abbrev pub report : List ℕ → List ℕ
report bytes = told bytes (verdict bytes)

abbrev pub accepted_or_refused : Verdict → Result (Unit {0}) Refusal
accepted_or_refused (accepted names parties opened order) = Ok tt
accepted_or_refused (refused why) = Err why

-- the place of a name in an order, counted from 1
abbrev pub place_in : List ℕ → List ℕ → List ℕ → Option ℕ
place_in bytes x ns = option_map (λ k. k + 1) (position (λ n. bytes_eq (name_of bytes n) x) ns)

-- the place of one name alone, or why there is none
abbrev pub place_among : List ℕ → List ℕ → Option (List ℕ) → Result ℕ NoPlace
place_among bytes x (Some ns) = ok_or (place_in bytes x ns) NotInList
place_among bytes x None = Err NoOrder

abbrev pub found : List ℕ → List ℕ → Verdict → Result ℕ NoPlace
found bytes x (accepted names parties opened order) = place_among bytes x order
found bytes x (refused why) = Err (Refused why)

abbrev pub place_for : List ℕ → List ℕ → Result ℕ NoPlace
place_for bytes x = found bytes x (verdict bytes)

abbrev pub no_place_line : NoPlace → List ℕ
no_place_line (Refused why) = sentence why
no_place_line NoOrder = no_order
no_place_line NotInList = codes "no such name in the list\n"

abbrev pub place_told : List ℕ → Result ℕ NoPlace → List ℕ
place_told x (Ok k) = place_line k x
place_told x (Err why) = no_place_line why
