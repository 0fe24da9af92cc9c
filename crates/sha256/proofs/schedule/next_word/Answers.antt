use Rattle.sha256.specs.Schedule.{next}
use Rattle.sha256.proofs.schedule.next_word.Goals as goal

pub returns : goal.returns
unfolding next
returns c = cc
