use Rattle.std.proofs.Common.{◌≡◌, ℕ, ◌*◌, List, sym, ap, ◌∙◌, arith}
use Rattle.sha256.specs.declared.state.State.{State}
use Rattle.sha256.specs.Rounds.{rounds, summed}
use Rattle.sha256.specs.Sha256.{compressed}
use Rattle.sha256.proofs.Steps.{rounds_none}
use Rattle.sha256.proofs.block.compress.Goals as goal

pub loop-run-init : goal.loop-run-init
loop-run-init c = sym (rounds_none c.whole-words.result c.args.s)

pub returns : goal.returns
unfolding compressed
returns c =
    let s : State = c.args.s in
    let end : 4 * c.loop-run.run ≡ 64 = omega arith in
    c.add.ensures
    ∙ ap (summed s) (c.loop-run.invariant ∙ ap (λ (n : ℕ). rounds n c.whole-words.result s) end ∙ ap (λ (ws : List ℕ). rounds 64 ws s) c.whole-words.ensures)
