use Rattle.std.proofs.Common.{ℕ, ◌+◌, ◌*◌, length, arith, rules, tests}
use Rattle.std.proofs.lemmas.Bool.Decides.{same_from_decides}
use Rattle.std.proofs.lemmas.Iterator.{YieldsList-from_range, YieldsList-from_slice, YieldsList-from_map, YieldsList-from_zip, same_from_all}
use Rattle.std.proofs.lemmas.Iterator.Consumers.{YieldsList-at}
use Rattle.std.proofs.lemmas.List.FromFn.{length-map-range_with_len}
use Rattle.std.proofs.lemmas.Slice.Eq.{bytes_eq-Decides}
use Rattle.protocol.specs.Layout.{word_at, numbers_at}
use Rattle.protocol.proofs.orders.is_order.Goals as goal

pub returns : goal.returns
returns c =
    let ns = c.args.order.now in
    let f : ℕ → ℕ = λ k. word_at c.args.bytes.now (c.args.at + 2 * k) in
    let n = numbers_at c.args.bytes.now c.args.at (length ns) in
    same_from_decides _ _
    (same_from_all c.all.new.self _ _ n ns c.all.ensures.ran
    (YieldsList-from_zip (YieldsList-at c.zip.ensures.first (YieldsList-from_map _ f (YieldsList-from_range 0 (length ns) (length ns) (cc) (omega arith)) c.map-numbers.ensures.closure (λ x r q k. search rules))) (YieldsList-from_slice ns (cc)))
    (length-map-range_with_len f 0 (length ns)) (λ x q k. search (rules, tests)) (λ x q k. search (rules, tests)))
    (bytes_eq-Decides n ns)
