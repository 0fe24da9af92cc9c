use Rattle.std.proofs.Common.{rules}
use Rattle.entries.proofs.Index.{put_in}
use Rattle.entries.proofs.insert_number.Goals as goal

pub returns : goal.returns
returns c = put_in c.args.index.now _ c.args.count c.args.at c.requires.within c.requires.room (search rules)
