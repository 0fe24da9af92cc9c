-- Every run leaves a sound state. Assumes nothing.
use Rattle.std.proofs.Common.{◌≡◌, ℕ, eqb, List, [], ◌∷◌, length, get_or, take, drop, Some, None, Err, Option, sym, refl, ap, ◌∙◌, subst, arith}
use Rattle.std.proofs.lemmas.Bool.{cond_both}
use Rattle.refusals.specs.declared.Refusal.{Refusal}
use Rattle.refusals.specs.declared.Refusal.TheVariants.{OpeningLength}
use Rattle.seals.specs.Steps.{opened}
use Rattle.listing.proofs.Memory.{sound_none}
use Rattle.order.specs.Drawings.{drawn_order}
use Rattle.texts.specs.Lines.{order_words}
use Rattle.protocol.specs.Protocol.{ordered}
use Rattle.ceremony.specs.Model.{Sealed, Ended}
use Rattle.ceremony.specs.Steps.{opening_step, opened_by}
use Rattle.ceremony.specs.Draws.{State, opening, ended, stepped, step}
use Rattle.step_file.specs.File.{file_steps}
use Rattle.runs.specs.Runs.{after_steps}
use Rattle.runs.specs.Reports.{zeros, fresh, run_of}
use Rattle.laws.specs.Sound.{SoundState, InOpening, AtEnd}
use Rattle.laws.specs.Laws.{RunsSound, SumOfOpenings, Independence}
use Rattle.laws.proofs.Refusals.{refused_unchanged}
use Rattle.laws.proofs.Listings.{entry_sound, list_close_sound}
use Rattle.laws.proofs.Sealings.{seal_sound, seals_close_sound}
use Rattle.laws.proofs.Openings.{opening_sound}
use Rattle.laws.proofs.Turns.{each_step}
use Rattle.laws.proofs.Endings.{final_sound}

-- the state after a step that was taken is sound
abbrev TakenSound : State × Option Refusal → Type 0
TakenSound r = r.1 ≡ None → SoundState r.0

opens : (s : Sealed) (x : List ℕ) → InOpening s → TakenSound (stepped opening (opening_step s x))
opens s x i =
    cond_both (eqb (length x) 0) (s, Err (OpeningLength 0)) (opened_by s (drop 1 x) (opened s.held.seals s.list.length s.parties s.list.hash (get_or x 0 0) (drop 1 x))) (λ r. TakenSound (stepped opening r)) (λ e h. absurd cc)
    (λ e h. opening_sound s (get_or x 0 0) (drop 1 x) i _ refl h)

taken_sound : (s : State) (kind : ℕ) (x : List ℕ) → SoundState s → TakenSound (step s kind x)
taken_sound s kind x =
    each_step x (λ s r. SoundState s → TakenSound r)
    (record {
      refused = λ s why i h. absurd cc;
      entry = λ s i h. entry_sound s x i;
      list_closed = λ s t e i h. list_close_sound s x t i e;
      seal = λ s i h. seal_sound s x i _ refl h;
      seals_closed = λ s t e i h. seals_close_sound s t i e;
      opens = λ s. opens s x;
      ends = λ s e h i k. final_sound s i e h;
    }) s kind

pub step_sound : (s : State) (kind : ℕ) (x : List ℕ) → SoundState s → SoundState (step s kind x).0
step_sound s kind x i = go (step s kind x).1 refl
  where
    go : (r : Option Refusal) → (step s kind x).1 ≡ r → SoundState (step s kind x).0
    go None e = taken_sound s kind x i e
    go (Some w) e = subst SoundState (sym (refused_unchanged s kind x w e)) i

pub steps_sound : (s : State) (xs : List (ℕ × List ℕ)) → SoundState s → SoundState (after_steps s xs)
unfolding after_steps
steps_sound s [] i = i
steps_sound s (x ∷ xs) i = steps_sound (step s x.0 x.1).0 xs (step_sound s x.0 x.1 i)

pub fresh_sound : SoundState fresh
fresh_sound = record { names = sound_none zeros.slots zeros.index; few_names = omega arith }

pub runs_sound : RunsSound
runs_sound file = steps_sound fresh (file_steps file) fresh_sound

pub end_sound : (file : List ℕ) (e : Ended) → run_of file ≡ ended e → AtEnd e
end_sound file e h = subst SoundState h (runs_sound file)

pub sum_of_openings : SumOfOpenings
sum_of_openings file e h = (end_sound file e h).closed.sum

pub independence : Independence
independence file file' e e' h h' n b =
    ap order_words
    ((end_sound file e h).order
    ∙ (ap (λ (k : ℕ). ordered (drawn_order k (take e.list.length e.held.bits) 0)) n
    ∙ (ap (λ (x : List ℕ). ordered (drawn_order e'.list.count x 0)) b ∙ sym (end_sound file' e' h').order)))
