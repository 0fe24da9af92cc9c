-- What is printed of a checked protocol. Assumes nothing.
use Rattle.std.specs.Prelude.{◌≡◌, ℕ, Bool, true, false, List, ◌++◌, length, Ok, Err, Result, String, string_bytes, codes}
use Rattle.refusals.specs.Numbered.{refused_words}
use Rattle.refusals.specs.declared.Refusal.{Refusal}
use Rattle.texts.specs.Lines.{summary_lines}
use Rattle.protocol.specs.Check.{Verdict, accepted, refused}
use Rattle.protocol.specs.Draws.{OfDraw}
use Rattle.protocol.specs.Protocol.{Protocol, written, openings}

-- refused 12 at 5
abbrev pub refused_line : Refusal → List ℕ
refused_line why = refused_words why ++ codes "\n"

-- the two lines of the draw, or why the protocol is refused
abbrev pub verdict_text : Verdict → List ℕ
verdict_text (accepted names parties opened order) = summary_lines names parties opened order
verdict_text (refused why) = refused_line why

abbrev pub is_accepted : Verdict → Bool
is_accepted (accepted names parties opened order) = true
is_accepted (refused why) = false

-- the text that is answered, of an accepted protocol or of a refused one
abbrev pub answered_text : {Z : Type 0} → Result (String Z) (String Z) → List ℕ
answered_text (Ok text) = string_bytes text
answered_text (Err text) = string_bytes text

-- the text that a draw ends with
abbrev pub draw_text : Protocol → List ℕ
draw_text d = summary_lines (length d.names) (length d.parties) (length (openings d.parties)) d.order

-- of the protocol of a draw the repeating program prints what the draw ends with, and accepts it
abbrev pub RepeatsDrawn : List ℕ → List ℕ → Bool → Type 0
RepeatsDrawn bytes text answer = (d : Protocol) → OfDraw d → written d ≡ bytes → (text ≡ draw_text d) × (answer ≡ true)

-- and what it accepts is the protocol of a draw that ends with what it prints
abbrev pub RepeatsOnlyDrawn : List ℕ → List ℕ → Bool → Type 0
RepeatsOnlyDrawn bytes text answer = answer ≡ true → (d : Protocol) × OfDraw d × (written d ≡ bytes) × (text ≡ draw_text d)
