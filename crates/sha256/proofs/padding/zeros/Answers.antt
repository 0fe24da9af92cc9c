use Rattle.std.proofs.Common.{ℕ, replicate, ap, ◌∙◌, arith}
use Rattle.std.proofs.lemmas.List.{take-replicate}
use Rattle.sha256.proofs.padding.zeros.Goals as goal

pub returns : goal.returns
returns c = take-replicate c.zero_bytes.result 64 0 (omega arith) ∙ ap (λ (n : ℕ). replicate n 0) c.zero_bytes.ensures
