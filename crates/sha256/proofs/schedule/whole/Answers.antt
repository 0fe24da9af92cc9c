use Rattle.std.proofs.Common.{◌≡◌, ℕ, ◌+◌, take, sym, refl, ap, ◌∙◌, arith, rules}
use Rattle.std.proofs.lemmas.List.{take_all}
use Rattle.sha256.proofs.Steps.{first_taken, schedule_more}
use Rattle.sha256.specs.Schedule.{schedule}
use Rattle.sha256.proofs.schedule.whole.Goals as goal

pub loop-t-init : goal.loop-t-init
loop-t-init c = first_taken c.args.block.now c.copy_from_slice.new.self _ (c.copy_from_slice.ensures.after ∙ c.first_words.ensures) refl

pub loop-t-preserved : goal.loop-t-preserved
loop-t-preserved c = (
  schedule_more c.loop-t.t c.next_word.result c.loop-t.words c.args.block.now (omega arith) c.loop-t.invariant.0 c.next_word.ensures,
  search rules,
)

pub returns : goal.returns
returns c =
    let end : c.loop-t.t ≡ 48 = omega arith in
    sym (take_all 64 c.loop-t.words (omega arith))
    ∙ ap (λ (t : ℕ). take (t + 16) c.loop-t.words) (sym end)
    ∙ c.loop-t.invariant.0
    ∙ ap (λ (t : ℕ). schedule t c.args.block.now) end
