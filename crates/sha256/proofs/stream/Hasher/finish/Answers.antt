use Rattle.std.proofs.Common.{ℕ, ◌*◌, ◌%◌, ◌^◌, List, [], ◌∷◌, replicate, ap, ◌∙◌}
use Rattle.sha256.specs.declared.stream.Hasher.{Hasher}
use Rattle.sha256.specs.Absorbed.{absorbed, finished}
use Rattle.sha256.specs.Padding.{zeros, eight_bytes, padding}
use Rattle.sha256.specs.Sha256.{bytes_of}
use Rattle.sha256.proofs.Laws.{absorbed_append}
use Rattle.sha256.proofs.stream.Hasher.finish.Goals as goal

-- the three parts of the padding come in as the padding
pub returns : goal.returns
unfolding finished padding
returns c =
    let h : Hasher = c.args.self in
    let first : List ℕ = 128 ∷ [] in
    let middle : List ℕ = replicate (zeros h.total) 0 in
    let last : List ℕ = eight_bytes (8 * h.total % 2 ^ 64) in
    c.digest.ensures
    ∙ ap (λ (g : Hasher). bytes_of g.state)
    (c.update-3.ensures
    ∙ ap (absorbed c.update-2.new.self) c.length.ensures
    ∙ ap (λ (g : Hasher). absorbed g last) (c.update-2.ensures ∙ ap (absorbed c.update.new.self) c.zeros.ensures ∙ ap (λ (g : Hasher). absorbed g middle) c.update.ensures)
    ∙ ap (λ (g : Hasher). absorbed g last) (absorbed_append h first middle)
    ∙ absorbed_append h (128 ∷ middle) last)
