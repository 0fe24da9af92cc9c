use Rattle.texts.proofs.Told.{order_told, summary_told}
use Rattle.texts.proofs.summary_told_stands.Goals as goal

pub returns : goal.returns
returns c = record { order = order_told; summary = summary_told }
