use Rattle.std.proofs.Common.{rules}
use Rattle.step_file.specs.declared.kind.Kind.TheVariants.{Entry, CloseList, Seal, CloseSeals, Opening, Close}
use Rattle.notation.proofs.shown.form_to_show.Goals as goal

pub returns-in-Err : goal.returns-in-Err
returns-in-Err c =
    let other = c.in-Err.ensures.1 in
    let e1 = other Entry in
    let e2 = other CloseList in
    let e3 = other Seal in
    let e4 = other CloseSeals in
    let e5 = other Opening in
    let e6 = other Close in
    search rules
