-- What an iterator over a text is still to give. Assumes nothing.
use Rattle.std.specs.Prelude.{ℕ, List}
use Rattle.notation.specs.declared.lines.Lines.{Lines}
use Rattle.notation.specs.declared.paths.NamedFile.{NamedFile}
use Rattle.notation.specs.declared.paths.Paths.{Paths}
use Rattle.notation.specs.Lines.{lines}
use Rattle.notation.specs.Paths.{Named, named_at}

abbrev pub lines_left : Lines → List (List ℕ)
lines_left it = lines it.rest.now

abbrev pub named_of : NamedFile → Named
named_of f = record { path = f.path.now; start = f.start; end = f.end; next = f.next }

abbrev pub named_left : Paths → List Named
named_left it = named_at it.text.now it.at
