use Rattle.std.proofs.Common.{◌≡◌, ℕ, ◌+◌, ◌/◌, ◌<◌, List, [], get_or, refl, length, ap, ◌∙◌, subst, arith, rules}
use Rattle.std.proofs.lemmas.List.FromFn.{fill_by_all}
use Rattle.std.specs.Int.{from_be_bytes}
use Rattle.std.specs.Simd.{first_chunks}
use mir.Syntax.{w32}
use Rattle.sha256.specs.Schedule.{word, first_words}
use Rattle.sha256.proofs.Calls.{each_call}
use Rattle.sha256.proofs.Steps.{word_of_chunks}
use Rattle.sha256.proofs.schedule.first_words.Goals as goal

pub returns : goal.returns
unfolding first_words
returns c =
    let block : List ℕ = c.args.block.now in
    let chunks : List (List ℕ) = c.as_chunks.result.0.now in
    let count : length block / 4 ≡ 16 = omega arith in
    let same : chunks ≡ first_chunks 4 16 block = c.as_chunks.ensures.front ∙ ap (λ (k : ℕ). first_chunks 4 k block) count in
    let value : (i : ℕ) → i < 16 → get_or c.from_fn.result (0 + i) 0 ≡ from_be_bytes w32 (get_or chunks (0 + i) []) =
    each_call _ (λ (i x : ℕ). x ≡ from_be_bytes w32 (get_or chunks i [])) _ (λ i r q h. (search rules, search rules)) 16 0 _ c.from_fn.result 0 refl c.from_fn.ensures.items.each
    in
    fill_by_all (word block) c.from_fn.result 16 0 c.from_fn.ensures.items.long
    (λ i l.
    let place : 0 + i ≡ i = omega arith in
    subst (λ (k : ℕ). get_or c.from_fn.result k 0 ≡ from_be_bytes w32 (get_or chunks k [])) place (value i l)
    ∙ ap (λ (cs : List (List ℕ)). from_be_bytes w32 (get_or cs i [])) same
    ∙ word_of_chunks block i l)
