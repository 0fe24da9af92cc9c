use Rattle.std.proofs.Common.{[], ap, ◌∙◌, append_assoc}
use Rattle.sha256.specs.Sha256.{sha256}
use Rattle.sha256.proofs.Laws.{parts_none, parts_more, parts_hash}
use Rattle.seals.specs.Seal.{seal_of}
use Rattle.seals.proofs.seal.Goals as goal

pub returns : goal.returns
unfolding seal_of
returns c =
    let a = parts_none c.new-hasher.result c.new-hasher.ensures in
    let b = parts_more [] _ _ c.update.new.self a c.update.ensures in
    let d = parts_more _ _ _ c.update-2.new.self b c.update-2.ensures in
    let e = parts_more _ _ _ c.update-3.new.self d c.update-3.ensures in
    let f = parts_more _ _ _ c.update-4.new.self e c.update-4.ensures in
    parts_hash _ c.finish.result _ f c.finish.ensures ∙ ap sha256 (simp (c.front-salt.ensures, c.behind.ensures, append_assoc))
