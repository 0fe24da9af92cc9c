use Rattle.order.proofs.Moves.{gap_closed, gap_opened}
use Rattle.order.proofs.take_out.Goals as goal

pub returns-then-k-names-clause-left : goal.returns-then-k-names-clause-left
returns-then-k-names-clause-left c = gap_opened c.args.k c.args.names.now _ c.requires c.copy_within.ensures.after c.copy_within.ensures.len

pub returns-else-k-names-clause-left : goal.returns-else-k-names-clause-left
returns-else-k-names-clause-left c = gap_closed c.args.k c.args.names.now _ c.requires c.copy_within-else-k-names.ensures.after
