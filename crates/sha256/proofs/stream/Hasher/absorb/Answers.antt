use Rattle.std.proofs.Common.{◌≡◌, ℕ, ◌+◌, ◌-◌, ◌%◌, ◌^◌, ◌<◌, List, length, arith, rules}
use Rattle.sha256.proofs.Pieces.{piece_whole, piece_short}
use Rattle.sha256.proofs.stream.Hasher.absorb.Goals as goal

-- the piece makes the block whole
pub returns-then-end-eq64 : goal.returns-then-end-eq64
returns-then-end-eq64 c =
    let was = c.args.self.now in
    let piece : List ℕ = c.args.piece.now in
    let k : ℕ = was.total % 64 + length piece - was.total % 64 in
    let low : was.total < 2 ^ 64 = omega arith in
    let size : length was.pending ≡ 64 = search rules in
    piece_whole was piece c.copy_from_slice.new.self k low size c.requires c.copy_from_slice.ensures.after (omega arith)
    c.compress-self.result c.if-end-eq64.true c.compress-self.ensures

-- the piece leaves the block short
pub returns-else-end-eq64 : goal.returns-else-end-eq64
returns-else-end-eq64 c =
    let was = c.args.self.now in
    let piece : List ℕ = c.args.piece.now in
    let k : ℕ = was.total % 64 + length piece - was.total % 64 in
    let low : was.total < 2 ^ 64 = omega arith in
    let size : length was.pending ≡ 64 = search rules in
    piece_short was piece c.copy_from_slice.new.self k low size c.requires c.copy_from_slice.ensures.after (omega arith)
    c.if-end-eq64.false
