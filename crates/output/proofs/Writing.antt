-- Writing one thing after another. Assumes nothing.
use Rattle.std.proofs.Common.{◌≡◌, List, [], ◌++◌, ℕ, sym, refl, ap, ◌∙◌}
use Rattle.output.proofs.Puts.{put_append, put_none}
use Rattle.output.specs.Output.{put}
use Rattle.output.specs.Writes.{Writes}
use Rattle.output.specs.declared.Output.{Output}

pub writes_none : (o : Output) → Writes o o []
writes_none o = record { same = refl; written = sym (put_none (o.memory.now, o.at)) }

-- one row after another
pub writes_then : {o p q : Output} {xs ys : List ℕ} → Writes o p xs → Writes p q ys → Writes o q (xs ++ ys)
writes_then {o} {xs = xs} {ys = ys} f g = record {
  same = g.same ∙ f.same;
  written = g.written ∙ (ap (λ (z : List ℕ × ℕ). put z ys) f.written ∙ sym (put_append (o.memory.now, o.at) xs ys));
}

-- the same bytes in other words
pub writes_as : {o p : Output} {xs ys : List ℕ} → xs ≡ ys → Writes o p xs → Writes o p ys
writes_as {o} e f = record { same = f.same; written = f.written ∙ ap (put (o.memory.now, o.at)) e }

-- a loop that writes: to write what is left here ends as to write all where it began
pub record Underway (begun here : Output) (all left : List ℕ) : Type 0 where
  pub same : here.memory.ghost_name ≡ begun.memory.ghost_name
  pub ends : put (here.memory.now, here.at) left ≡ put (begun.memory.now, begun.at) all

-- what is left gets shorter by what a turn wrote
pub underway_turn : {o p q : Output} {all left xs rest : List ℕ} → left ≡ xs ++ rest → Underway o p all left → Writes p q xs → Underway o q all rest
underway_turn {p = p} {xs = xs} {rest = rest} e u w = record {
  same = w.same ∙ u.same;
  ends = ap (λ (z : List ℕ × ℕ). put z rest) w.written ∙ (sym (put_append (p.memory.now, p.at) xs rest) ∙ (ap (put (p.memory.now, p.at)) (sym e) ∙ u.ends));
}

-- where nothing is left all is written
pub underway_done : {o p : Output} {all left : List ℕ} → left ≡ [] → Underway o p all left → Writes o p all
underway_done {p = p} e u = record { same = u.same; written = sym (put_none (p.memory.now, p.at)) ∙ (ap (put (p.memory.now, p.at)) (sym e) ∙ u.ends) }
