use Rattle.std.proofs.Common.{[], ◌∷◌, sym, refl}
use Rattle.output.proofs.Puts.{put_full, put_one}
use Rattle.output.proofs.Output.put_byte.Goals as goal

pub returns-then-self : goal.returns-then-self
returns-then-self c = record { same = refl; written = sym (put_one c.args.self.now.memory.now c.args.self.now.at c.args.byte c.if-self.true) }

pub returns-else-self : goal.returns-else-self
returns-else-self c = record { same = refl; written = sym (put_full c.args.self.now.memory.now c.args.self.now.at (c.args.byte ∷ []) c.if-self.false) }
