use Rattle.std.proofs.Common.{rules, ◌≡◌, ◌+◌, Ok, Err}
use Rattle.notation.proofs.Turns.{begins, all_read, read_more, read_bad}
use Rattle.notation.proofs.reading.put_steps.Goals as goal

pub loop-done-init : goal.loop-done-init
loop-done-init c =
    let start = begins c.args.out.now c.args.text.now c.args.files.now in
    rw (c.into_iter-done-iterator.ensures.into_iter_gives, c.enumerate-done-items.ensures.source, c.enumerate-done-items.ensures.count, c.new-files.ensures) start

pub loop-done-preserved : goal.loop-done-preserved
loop-done-preserved c =
    let next = c.in-Some.ensures.steps in
    let good : c.put_line.result ≡ Ok tt = search rules in
    let line = rw (c.without_return.ensures, good) at c.put_line.ensures in
    rw next.2 (read_more c.loop-done.invariant c.in-Some.line.now c.next.new.self.iter.rest.now next.0 c.put_line.new.out c.put_line.new.files.rest.now line.0 line.1)

pub returns-in_err-map_err : goal.returns-in_err-map_err
returns-in_err-map_err c =
    let next = c.in-Some.ensures.steps in
    let why = c.in_err-map_err.field-0.0 in
    let bad : c.put_line.result ≡ Err why.fault = search rules in
    let number : why.line ≡ c.loop-done.done-iterator.count + 1 = search rules in
    let line = rw (c.without_return.ensures, bad) at c.put_line.ensures in
    let told = read_bad c.loop-done.invariant c.in-Some.line.now c.next.new.self.iter.rest.now next.0 c.put_line.new.out why.fault line.0 in
    let result : c.from_residual.result ≡ Err why = search rules in
    rw (result, number) told

pub returns : goal.returns
returns c = all_read c.loop-done.invariant c.in-None.ensures.steps.0.0
