use Rattle.std.proofs.Common.{[]}
use Rattle.sha256.proofs.Laws.{parts_none, parts_more, parts_hash}
use Rattle.sha256.proofs.hash.Goals as goal

pub returns : goal.returns
returns c =
    parts_hash c.args.message.now c.finish.result c.update.new.self
    (parts_more [] c.args.message.now c.new-hasher.result c.update.new.self (parts_none c.new-hasher.result c.new-hasher.ensures) c.update.ensures)
    c.finish.ensures
