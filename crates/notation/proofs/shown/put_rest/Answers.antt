use Rattle.std.proofs.Common.{rules, [], ◌∷◌, sym}
use Rattle.output.proofs.Hexes.{hex_append}
use Rattle.output.proofs.Writing.{writes_none, writes_then, writes_as}
use Rattle.notation.proofs.shown.put_rest.Goals as goal

pub returns-in-Opening : goal.returns-in-Opening
returns-in-Opening c = let w = writes_then c.put_decimal-in-Opening.ensures (writes_then c.put_byte.ensures c.put_hex-in-Opening.ensures) in search rules

pub returns-in-StepHex : goal.returns-in-StepHex
returns-in-StepHex c = let w = writes_as (sym (hex_append (c.args.step.kind ∷ []) c.args.step.bytes.now)) (writes_then c.put_hex-in-StepHex.ensures c.put_hex-in-StepHex-2.ensures) in search rules

pub returns-in-CloseSeals : goal.returns-in-CloseSeals
returns-in-CloseSeals c = let w = writes_none c.args.out.now in search rules
