use Rattle.std.proofs.Common.{◌≡◌, ◌<◌, length, rules}
use Rattle.output.proofs.Writing.{writes_then}
use Rattle.notation.specs.Numbers.{two_bytes}
use Rattle.notation.specs.Steps.{step_told}
use Rattle.notation.proofs.step.Told.put.Goals as goal

pub returns : goal.returns
returns c =
    let size : c.in_ok-length.length ≡ length (step_told c.args.self) = search rules in
    let small : length (step_told c.args.self) < 65536 = search rules in
    let two : c.to_le_bytes.result ≡ two_bytes (length (step_told c.args.self)) = search rules in
    let all = writes_then c.put_byte.ensures (writes_then c.put.ensures c.put_bytes.ensures) in
    (small, rw two at all)
