use Rattle.std.proofs.Common.{◌≡◌, true, false, sym, ◌∙◌, arith}
use Rattle.std.specs.Ordering.{is_lt}
use Rattle.std.proofs.lemmas.Bool.Decides.{nat_tests}
use Rattle.entries.specs.Rows.{row_order}
use Rattle.protocol.specs.Layout.{name_of}
use Rattle.protocol.proofs.Faults.{less_is}
use Rattle.protocol.proofs.ranges.check_name.Goals as goal

pub returns-then-lt : goal.returns-then-lt
returns-then-lt c =
    let e = less_is c.args.before.now c.text.result.now in
    let above : is_lt (row_order c.args.before.now (name_of c.args.name.now.bytes.now c.args.name.now.number)) ≡ true =
    rw (sym c.text.ensures) (sym (c.lt.ensures ∙ e) ∙ c.if-lt.true) in
    grind (arith, nat_tests)

pub returns : goal.returns
returns c =
    let e = less_is c.args.before.now c.text.result.now in
    let below : is_lt (row_order c.args.before.now (name_of c.args.name.now.bytes.now c.args.name.now.number)) ≡ false =
    rw (sym c.text.ensures) (sym (c.lt.ensures ∙ e) ∙ c.if-lt.false) in
    let at = c.args.name.now.placed in
    grind (arith, nat_tests)
