-- The final close: the order is the one drawn from the sum. Assumes nothing.
use Rattle.std.proofs.Common.{◌≡◌, ℕ, ◌<◌, ◌≤◌, eqb, List, length, take, drop, Some, Ok, Err, Result, refl, ap, subst, arith}
use Rattle.std.proofs.lemmas.List.{take_at, length-append, length-drop}
use Rattle.std.proofs.lemmas.Bool.{eqb-false}
use Rattle.refusals.specs.declared.Missing.TheVariants.{Opening}
use Rattle.refusals.specs.declared.Refusal.{Refusal}
use Rattle.refusals.specs.declared.Refusal.TheVariants.{Nothing}
use Rattle.order.specs.Drawings.{Drawing, drawn, run_out, drawn_order, outcome, left_in}
use Rattle.order.proofs.Slices.{drawn_length}
use Rattle.protocol.specs.Protocol.{ordered}
use Rattle.ceremony.specs.Model.{Sealed, Ended}
use Rattle.ceremony.specs.Steps.{after_drawing, may_draw, closed_with, final_close}
use Rattle.seals.specs.Records.{opened_count}
use Rattle.ceremony.specs.Reports.{drawn_part}
use Rattle.laws.specs.Sound.{InOpening, AtEnd}
use Rattle.laws.proofs.Answers.{passed, ok_is}

module _ (n : ℕ) (bytes order : List ℕ) (l : n ≤ length order) where
  -- the first places of the slice hold the order that was drawn
  order_is : drawn_part (left_in (drawn_order n bytes 0) order) n (outcome (drawn_order n bytes 0)) ≡ ordered (drawn_order n bytes 0)
  order_is = go (drawn_order n bytes 0) refl
    where
      go : (d : Drawing) → drawn_order n bytes 0 ≡ d → drawn_part (left_in d order) n (outcome d) ≡ ordered d
      go (drawn ns used) e = ap Some (take_at ns (drop (length ns) order) n (drawn_length n bytes 0 ns used e))
      go run_out e = refl

  -- and the slice is as long as it was
  order_length : length (left_in (drawn_order n bytes 0) order) ≡ length order
  order_length = go (drawn_order n bytes 0) refl
    where
      go : (d : Drawing) → drawn_order n bytes 0 ≡ d → length (left_in d order) ≡ length order
      go (drawn ns used) e =
          let k = drawn_length n bytes 0 ns used e in
          omega (arith, length-append ns (drop (length ns) order), length-drop (length ns) order, k, l)
      go run_out e = refl

module _ (s : Sealed) (i : InOpening s) where
  at_end : 0 < opened_count s.held.seals s.list.length s.parties → AtEnd (after_drawing s)
  at_end o =
      let c = i.closed in
      let bytes : List ℕ = take s.list.length s.held.bits in
      record {
        closed =
            record {
              names = c.names;
              some_names = c.some_names;
              few_names = c.few_names;
              hash = c.hash;
              enough_bits = c.enough_bits;
              few_bits = c.few_bits;
              bits_room = c.bits_room;
              order_room = let q = order_length s.list.count bytes s.held.order c.order_room in omega (arith, q, c.order_room);
              few_parties = c.few_parties;
              records_room = c.records_room;
              given = c.given;
              sum = c.sum;
            };
        some_parties = i.some_parties;
        some_opened = o;
        order = order_is s.list.count bytes s.held.order c.order_room;
      }

  pub final_sound : (e : Ended) → final_close s ≡ Ok e → AtEnd e
  final_sound e h = go (may_draw s) refl h
    where
      go : (r : Result (Unit {0}) Refusal) → may_draw s ≡ r → closed_with s r ≡ Ok e → AtEnd e
      go (Ok u) p q =
          let a = passed (eqb (opened_count s.held.seals s.list.length s.parties) 0) (Nothing Opening) _ u p in
          subst AtEnd (ok_is _ _ q) (at_end (let n = eqb-false _ 0 a.0 in omega (arith, n)))
      go (Err why) p q = absurd cc
