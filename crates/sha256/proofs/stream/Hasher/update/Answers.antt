use Rattle.std.proofs.Common.{◌≡◌, List, take, drop, sym, ap, ◌∙◌, rules, ℕ, []}
use Rattle.std.proofs.lemmas.List.{take-append-drop, nil_from_length}
use Rattle.sha256.specs.declared.stream.Hasher.{Hasher}
use Rattle.sha256.specs.Absorbed.{absorbed}
use Rattle.sha256.proofs.Laws.{absorbed_append}
use Rattle.sha256.proofs.stream.Hasher.update.Goals as goal

-- one more piece, and what is left after it
pub loop-left-preserved : goal.loop-left-preserved
loop-left-preserved c =
    let left : List ℕ = c.loop-left.left.now in
    let now : Hasher = c.loop-left.self in
    let n : ℕ = c.min.result in
    ap (absorbed c.absorb.new.self) c.split_at.ensures.back
    ∙ ap (λ (h : Hasher). absorbed h (drop n left)) (c.absorb.ensures ∙ ap (absorbed now) c.split_at.ensures.front)
    ∙ absorbed_append now (take n left) (drop n left)
    ∙ ap (absorbed now) (take-append-drop n left)
    ∙ c.loop-left.invariant

pub returns : goal.returns
unfolding absorbed
returns c =
    let none : c.loop-left.left.now ≡ [] = nil_from_length c.loop-left.left.now (search rules) in
    sym (ap (absorbed c.loop-left.self) none) ∙ c.loop-left.invariant
