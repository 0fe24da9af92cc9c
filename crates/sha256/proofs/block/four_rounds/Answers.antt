use Rattle.std.proofs.Common.{◌≡◌, ℕ, ◌+◌, List, refl, arith}
use Rattle.sha256.specs.Rounds.{rounds}
use Rattle.sha256.proofs.Steps.{turned_more}
use Rattle.sha256.proofs.block.four_rounds.Goals as goal

-- one round after the other
pub returns : goal.returns
returns c = λ start h.
    let t : ℕ = c.args.t in
    let ws : List ℕ = c.args.words.now in
    let h1 : c.turn-s.result ≡ rounds (t + 1) ws start = turned_more t (t + 1) ws start c.args.s c.turn-s.result refl h c.turn-s.ensures in
    let h2 : c.turn-s-2.result ≡ rounds (t + 2) ws start = turned_more (t + 1) (t + 2) ws start c.turn-s.result c.turn-s-2.result (omega arith) h1 c.turn-s-2.ensures in
    let h3 : c.turn-s-3.result ≡ rounds (t + 3) ws start = turned_more (t + 2) (t + 3) ws start c.turn-s-2.result c.turn-s-3.result (omega arith) h2 c.turn-s-3.ensures in
    turned_more (t + 3) (t + 4) ws start c.turn-s-3.result c.turn.result (omega arith) h3 c.turn.ensures
