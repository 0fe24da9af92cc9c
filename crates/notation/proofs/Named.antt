-- The files that the lines of a text name, line after line. Assumes nothing.
use Rattle.std.proofs.Common.{◌≡◌, ℕ, zero, suc, ◌+◌, ◌-◌, ◌<◌, ◌≤◌, not, eqb, All, List, [], ◌∷◌, length, get_or, take, drop, Some, None, Option, sym, refl, ap, ◌∙◌, subst, ⊎_elim, arith}
use Rattle.std.proofs.lemmas.List.{drop_all, drop-drop, length-drop, length-take-le, take_all, take-take}
use Rattle.std.proofs.lemmas.List.Elements.{All-nil, All-cons}
use Rattle.std.proofs.lemmas.List.Sums.{prefix_len-le-length}
use Rattle.std.proofs.lemmas.Slice.{between_is, between_to_end}
use Rattle.std.proofs.lemmas.Bool.{cases_lt, cond_both}
use Rattle.std.specs.List.{between, position_or_len, before_first, after_first}
use Rattle.notation.specs.Lines.{lines, without_return}
use Rattle.notation.specs.Paths.{path_of, named_then, named_from, named_at, There, NamedThere}
use Rattle.notation.proofs.Ends.{path_ends}
use Rattle.notation.proofs.Parts.{first_line}

-- a line without its carriage return is a front of it
return_front : (l : List ℕ) → (without_return l ≡ take (length (without_return l)) l) × (length (without_return l) ≤ length l)
return_front l =
    cond_both (eqb (get_or l (length l - 1) 0) 13) (take (length l - 1) l) l (λ z. (z ≡ take (length z) l) × (length z ≤ length l))
    (λ _. let n = length-take-le (length l - 1) l (omega arith) in (ap (λ (k : ℕ). take k l) (sym n), omega (arith, n))) (λ _. (sym (take_all (length l) l (omega arith)), omega arith))

module _ (text : List ℕ) (at : ℕ) where
  pub named_none : length text ≤ at → named_at text at ≡ []
  unfolding named_from lines
  named_none l = ap (λ (z : List ℕ). named_from at (lines z)) (drop_all at text l)

  module _ (l : at < length text) (whole line : List ℕ) (sliced : whole ≡ before_first (λ b. eqb b 10) (between at (length text) text)) (is_line : line ≡ without_return whole) where
    place : ℕ
    place = position_or_len (λ b. eqb b 10) (drop at text)

    is_whole : whole ≡ before_first (λ b. eqb b 10) (drop at text)
    is_whole = sliced ∙ ap (before_first (λ b. eqb b 10)) (between_to_end text at (length text) (omega arith))

    within : place ≤ length (drop at text)
    unfolding place
    within = prefix_len-le-length (λ b. not (eqb b 10)) (drop at text)

    size : length whole ≡ place
    unfolding place
    size = ap length is_whole ∙ length-take-le place (drop at text) within

    pub named_next : named_at text at ≡ named_then (at + length line) (at + (length whole + 1)) (named_at text (at + (length whole + 1))) (path_of line)
    unfolding place named_from
    named_next =
        let behind : after_first (λ b. eqb b 10) (drop at text) ≡ drop (at + (length whole + 1)) text = drop-drop (place + 1) at text ∙ ap (λ k. drop (at + (k + 1)) text) (sym size) in
        let first : lines (drop at text) ≡ whole ∷ lines (drop (at + (length whole + 1)) text) =
        first_line (drop at text) (omega (arith, length-drop at text)) ∙ (ap (λ (z : List (List ℕ)). before_first (λ b. eqb b 10) (drop at text) ∷ z) (ap lines behind) ∙ ap (λ (z : List ℕ). z ∷ lines (drop (at + (length whole + 1)) text)) (sym is_whole)) in
        ap (named_from at) first ∙ ap (λ (z : List ℕ). named_then (at + length z) (at + (length whole + 1)) (named_at text (at + (length whole + 1))) (path_of z)) (sym is_line)

    short : length line ≤ place
    short = omega (arith, ap length is_line, (return_front whole).1, size)

    line_front : line ≡ take (length line) (drop at text)
    unfolding place
    line_front =
        is_line ∙ ((return_front whole).0 ∙ (ap (λ (k : ℕ). take k whole) (sym (ap length is_line)) ∙ (ap (take (length line)) is_whole ∙ take-take (length line) place (drop at text) short)))

    -- what stands from the path's start to the line's end is the path
    path_there : (path : List ℕ) → path_of line ≡ Some path
        → There text (record { path = path; start = at + length line - length path; end = at + length line; next = at + (length whole + 1) })
    path_there path e =
        let ends = path_ends line path e in
        let j = ends.0.0 in
        let long : length path ≡ length line - j = ap length ends.0.1 ∙ length-drop j line in
        let start : at + j ≡ at + length line - length path = omega (arith, long, ends.0.2) in
        let rest : length line - j ≡ at + length line - (at + length line - length path) = omega (arith, long, ends.0.2) in
        let within_text : at + length line ≤ length text = omega (arith, short, within, length-drop at text) in
        let stands : path ≡ take (at + length line - (at + length line - length path)) (drop (at + length line - length path) text) =
        ends.0.1 ∙ (ap (drop j) line_front ∙ (sym (between_is (drop at text) j (length line)) ∙ (ap (take (length line - j)) (drop-drop j at text) ∙ (ap (λ (k : ℕ). take k (drop (at + j) text)) rest
        ∙ ap (λ (k : ℕ). take (at + length line - (at + length line - length path)) (drop k text)) start)))) in
        (omega arith, within_text, stands, ends.1, line, ends.2)

    next_there : All (There text) (named_at text (at + (length whole + 1))) → All (There text) (named_at text at)
    next_there more = subst (All (There text)) (sym named_next) (go (path_of line) path_there)
      where
        go : (o : Option (List ℕ)) → ((path : List ℕ) → o ≡ Some path → There text (record { path = path; start = at + length line - length path; end = at + length line; next = at + (length whole + 1) }))
            → All (There text) (named_then (at + length line) (at + (length whole + 1)) (named_at text (at + (length whole + 1))) o)
        go None h = more
        go (Some path) h = All-cons (There text) _ _ (h path refl) more

there_from : (text : List ℕ) (n at : ℕ) → length text ≤ at + n → All (There text) (named_at text at)
there_from text zero at l = subst (All (There text)) (sym (named_none text at (omega arith))) (All-nil (There text))
there_from text (suc n) at l =
    ⊎_elim (λ m. next_there text at m _ _ refl refl (there_from text n _ (omega arith)))
    (λ m. subst (All (There text)) (sym (named_none text at m)) (All-nil (There text))) (cases_lt at (length text))

pub there : (text : List ℕ) → NamedThere text
there text at = there_from text (length text) at (omega arith)
