use Rattle.std.proofs.Common.{rules, ◌≡◌, ◌<◌, ◌≤◌, true, length, take, drop, sym, ap, ◌∙◌}
use Rattle.notation.specs.Hex.{are_pairs, bytes_of}
use Rattle.notation.specs.Meanings.{step}
use Rattle.notation.proofs.Pairs.{any_few, any_two}
use Rattle.notation.proofs.parsed.any_step.Goals as goal

pub returns-in_err-high : goal.returns-in_err-high
returns-in_err-high c =
    let pairs : are_pairs c.args.digits.now ≡ true = search rules in
    let few : length c.args.digits.now < 2 = search rules in
    let none = any_few c.args.digits.now pairs few in
    search rules

pub returns : goal.returns
returns c =
    let pairs : are_pairs c.args.digits.now ≡ true = search rules in
    let two : 2 ≤ length c.args.digits.now = search rules in
    let front : c.in_ok-high.field-0-0.now ≡ take 2 c.args.digits.now = search rules in
    let behind : c.in_ok-high.digits.now ≡ drop 2 c.args.digits.now = search rules in
    ap (λ k. step k (bytes_of c.in_ok-high.digits.now)) c.pair_value.ensures ∙ sym (any_two c.args.digits.now pairs two front behind)
