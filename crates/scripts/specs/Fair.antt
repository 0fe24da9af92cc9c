-- THE MAIN THEOREM, of the program itself: of all the files that differ only in what one party puts in, as many print one order as any other. Assumes nothing.
use Rattle.std.specs.Prelude.{◌≡◌, ℕ, ◌*◌, ◌^◌, ◌<◌, ◌≤◌, Bool, List, [], ◌++◌, length, take, Some, None, Option, slice_index, slice_index_or, slice_set}
use Rattle.std.specs.Str.{bytes_eq}
use Rattle.uniform.specs.Draws.{width}
use Rattle.order.specs.Drawings.{drawn_order}
use Rattle.sum.specs.Sums.{sum_of}
use Rattle.protocol.specs.Protocol.{ordered}
use Rattle.texts.specs.Lines.{summary_lines}
use Rattle.step_file.specs.File.{file_of}
use Rattle.runs.specs.Reports.{report_of}
use Rattle.counting.specs.Counting.{count, few}
use Rattle.counting.specs.Rows.{bytes_of}
use Rattle.counting.specs.Orders.{Arrangement}
use Rattle.seals.specs.Seal.{seal_of}
use Rattle.scripts.specs.Script.{Script, Right, hash_of, script_steps, rows_of}

-- the file of steps of a script
abbrev pub script_file : Script → List ℕ
script_file s = file_of (script_steps s)

-- what the draw of a file prints: the lines of its refusals, and its summary
abbrev pub printed : List ℕ → List ℕ
printed file = (report_of file).refusals ++ (report_of file).summary

-- the text of a draw of this script that ends with this order, or with none
abbrev pub text_of : Script → Option (List ℕ) → List ℕ
text_of s order = summary_lines (length s.names) (length s.seals) (length s.comes) order

-- PRINTS WHOLE: the draw of every script's file prints its counts, and the order drawn from the sum of its openings
abbrev pub PrintsWhole : Type 0
PrintsWhole = (s : Script) → Right s → printed (script_file s) ≡ text_of s (ordered (drawn_order (length s.names) (sum_of s.len (rows_of s)) 0))

-- a party's opening with other bits: its 32 bytes stay
abbrev pub opening_with : Script → ℕ → List ℕ → List ℕ
opening_with s party row = take 32 (slice_index_or s.openings party []) ++ row

-- the script in which a party puts in other bits, with the seal that they give
abbrev pub with_bits : Script → ℕ → List ℕ → Script
with_bits s party row =
    record {
      names = s.names;
      entered = s.entered;
      len = s.len;
      seals = slice_set s.seals party (seal_of (hash_of s) party (opening_with s party row));
      openings = slice_set s.openings party (opening_with s party row);
      comes = s.comes;
    }

-- the file in which the party whose opening comes at place j puts in this row of bits
abbrev pub file_with : Script → ℕ → List ℕ → List ℕ
file_with s j mine = script_file (with_bits s (slice_index s.comes j) (bytes_of s.len mine))

abbrev pub prints : Script → Option (List ℕ) → List ℕ → Bool
prints s order file = bytes_eq (printed file) (text_of s order)

-- FAIR FILE: fix a script and a party whose opening comes. Over all rows of that party's bits, each with its seal, as many files print one order as any other
abbrev pub FairFile : Type 0
FairFile =
    (s : Script) (j : ℕ) (p q : List ℕ) → Right s → j < length s.comes → Arrangement (length s.names) p → Arrangement (length s.names) q →
    count (8 * s.len) (λ mine. prints s (Some p) (file_with s j mine)) ≡ count (8 * s.len) (λ mine. prints s (Some q) (file_with s j mine))

-- and few of them print that there is none: no larger part than the part of t coins with fewer heads than there are names, for w times t bits
abbrev pub SeldomNone : Type 0
SeldomNone =
    (s : Script) (j w t : ℕ) → Right s → j < length s.comes → width (length s.names) ≤ w → w * t ≤ 8 * s.len →
    count (8 * s.len) (λ mine. prints s None (file_with s j mine)) * 2 ^ t ≤ few (length s.names) t * 2 ^ (8 * s.len)
