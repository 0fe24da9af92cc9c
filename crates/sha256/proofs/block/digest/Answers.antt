use Rattle.std.proofs.Common.{◌≡◌, ℕ, List, [], map, refl, ap, ◌∙◌, rules}
use Rattle.std.specs.List.{flat_map}
use Rattle.sha256.specs.Sha256.{four_bytes, words_of, bytes_of}
use Rattle.sha256.proofs.Calls.{map_is}
use Rattle.sha256.proofs.block.digest.Goals as goal

pub returns : goal.returns
unfolding bytes_of
returns c =
    let words : List ℕ = words_of c.args.s in
    let each : c.map.result ≡ map four_bytes words = map_is _ four_bytes (λ p q x y h. search rules) 0 [] _ words c.map.result 8 refl c.map.ensures.items in
    c.copy_from_slice.ensures.after ∙ c.as_flattened.ensures.value ∙ ap (flat_map (λ (bytes : List ℕ). bytes)) each
