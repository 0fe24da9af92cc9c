-- A text read line after line. Assumes nothing.
use Rattle.std.proofs.Common.{◌≡◌, ℕ, ◌+◌, arith, List, [], ◌∷◌, ◌++◌, Ok, Err, sym, refl, ap, ◌∙◌, append_assoc, append-nil}
use Rattle.output.specs.Writes.{Writes}
use Rattle.output.specs.declared.Output.{Output}
use Rattle.output.proofs.Writing.{writes_none, writes_then}
use Rattle.step_file.specs.File.{file_steps, step_bytes}
use Rattle.notation.specs.declared.faults.Fault.{Fault}
use Rattle.notation.specs.Lines.{lines, without_return}
use Rattle.notation.specs.Meanings.{Meaning, nothing, step, file, bad, meaning}
use Rattle.notation.specs.Read.{filled, Answer, written, wrong, before, line_then, read_lines}
use Rattle.notation.specs.Reads.{PutsLine}

-- the steps so far are written, and the lines that are left answer for the whole text
pub record Reading (answer : Answer) (begun here : Output) (done : ℕ) (rest files : List ℕ) : Type 0 where
  pub so_far : List ℕ
  pub writes : Writes begun here so_far
  pub answers : answer ≡ before so_far (read_lines done (lines rest) (file_steps files))

before_before : (x y : List ℕ) (a : Answer) → before x (before y a) ≡ before (x ++ y) a
before_before x y (written z) = ap written (sym (append_assoc x y z))
before_before x y (wrong n why) = refl

before_none : (a : Answer) → a ≡ before [] a
before_none (written x) = refl
before_none (wrong n why) = refl

pub begins : (begun : Output) (rest files : List ℕ) → Reading (read_lines 0 (lines rest) (file_steps files)) begun begun 0 rest files
begins begun rest files = record { so_far = []; writes = writes_none begun; answers = before_none _ }

-- what a line means, and the files that are left
abbrev Line : Type 0
Line = Meaning × List (ℕ × List ℕ)

module _ {answer : Answer} {begun here : Output} {done : ℕ} {rest files : List ℕ} (known : Reading answer begun here done rest files) where
  pub all_read : lines rest ≡ [] → (x : List ℕ) × (answer ≡ written x) × Writes begun here x
  unfolding read_lines
  all_read e = (
    known.so_far,
    known.answers ∙ (ap (λ (ls : List (List ℕ)). before known.so_far (read_lines done ls (file_steps files))) e ∙ ap written (append-nil known.so_far)),
    known.writes,
  )

  module _ (line left : List ℕ) (next : lines rest ≡ line ∷ lines left) where
    abbrev this : Line
    this = filled (file_steps files) (meaning (without_return line))

    abbrev others : List (ℕ × List ℕ) → Answer
    others fs = read_lines (done + 1) (lines left) fs

    one_line : answer ≡ before known.so_far (line_then done others this)
    unfolding read_lines
    one_line = known.answers ∙ ap (λ (ls : List (List ℕ)). before known.so_far (read_lines done ls (file_steps files))) next

    pub read_more : (more : Output) (others_left : List ℕ) → PutsLine this.0 here more (Ok tt) → file_steps others_left ≡ this.1 → Reading answer begun more (done + 1) left others_left
    read_more more others_left = go this one_line
      where
        go : (m : Line) → answer ≡ before known.so_far (line_then done others m) → PutsLine m.0 here more (Ok tt) → file_steps others_left ≡ m.1
            → Reading answer begun more (done + 1) left others_left
        go (nothing, fs) e p f = record { so_far = known.so_far; writes = rw p.1 known.writes; answers = e ∙ ap (λ z. before known.so_far (others z)) (sym f) }
        go (step kind x, fs) e p f = record {
          so_far = known.so_far ++ step_bytes (kind, x);
          writes = writes_then known.writes p.1;
          answers = e ∙ (before_before known.so_far (step_bytes (kind, x)) (others fs) ∙ ap (λ z. before (known.so_far ++ step_bytes (kind, x)) (others z)) (sym f));
        }
        go (file party path, fs) e p f = record { so_far = known.so_far; writes = rw p.1 known.writes; answers = e ∙ ap (λ z. before known.so_far (others z)) (sym f) }
        go (bad why, fs) e p f = absurd (let z : ◌≡◌ {A = ℕ} 0 1 = cc in omega arith)

    pub read_bad : (more : Output) (why : Fault) → PutsLine this.0 here more (Err why) → (answer ≡ wrong (done + 1) why) × (more.memory.ghost_name ≡ begun.memory.ghost_name)
    read_bad more why = go this one_line
      where
        go : (m : Line) → answer ≡ before known.so_far (line_then done others m) → PutsLine m.0 here more (Err why) → (answer ≡ wrong (done + 1) why) × (more.memory.ghost_name ≡ begun.memory.ghost_name)
        go (nothing, fs) e p = absurd (let z : ◌≡◌ {A = ℕ} 0 1 = cc in omega arith)
        go (step kind x, fs) e p = absurd (let z : ◌≡◌ {A = ℕ} 0 1 = cc in omega arith)
        go (file party path, fs) e p = absurd (let z : ◌≡◌ {A = ℕ} 0 1 = cc in omega arith)
        go (bad other, fs) e p = (e ∙ ap (wrong (done + 1)) (let same : other ≡ why = cc in same), ap (λ (o : Output). o.memory.ghost_name) p.1 ∙ known.writes.same)
