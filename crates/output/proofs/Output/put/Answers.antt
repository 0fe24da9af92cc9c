use Rattle.std.proofs.Common.{ℕ, ◌+◌, ◌-◌, List, take, sym, refl, ap, ◌∙◌, arith}
use Rattle.std.proofs.lemmas.List.{length-take-le}
use Rattle.std.proofs.lemmas.Slice.{put_mid-paste}
use Rattle.output.proofs.Puts.{put_full, put_front}
use Rattle.output.proofs.Output.put.Goals as goal

pub returns-then-self : goal.returns-then-self
returns-then-self c = record { same = refl; written = sym (put_full c.args.self.now.memory.now c.args.self.now.at c.args.bytes.now c.if-self.true) }

pub returns : goal.returns
returns c = record {
  same = refl;
  written =
      let m = c.args.self.now.memory.now in
      let at = c.args.self.now.at in
      let n = c.min-size.result in
      let front = take n c.args.bytes.now in
      ap (λ (z : List ℕ). (z, at + n))
      (put_mid-paste at (at + n - at) m c.copy_from_slice.new.self front n c.copy_from_slice.ensures.after (omega arith) (sym (length-take-le n c.args.bytes.now (omega arith))))
      ∙ sym (put_front m at c.args.bytes.now n (omega arith) c.min-size.ensures);
}
