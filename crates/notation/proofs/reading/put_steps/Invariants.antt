use Rattle.notation.specs.Read.{read_text}
use Rattle.notation.proofs.Turns.{Reading}
use Rattle.notation.proofs.reading.put_steps.Given as goal

abbrev pub invariant-loop-done : goal.invariant-loop-done
invariant-loop-done l = Reading (read_text l.text l.fn.files) l.initial.out l.out l.done-iterator.count l.done-iterator.iter.rest.now l.files.rest.now
