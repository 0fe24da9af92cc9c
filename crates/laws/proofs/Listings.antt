-- Entries, and the closing of the list, keep the state sound. Assumes nothing.
use Rattle.std.proofs.Common.{◌≡◌, ℕ, ◌*◌, ◌<◌, ◌≤◌, not, ◌||◌, eqb, ltb, List, ◌++◌, length, drop, replicate, Ok, Err, Result, sym, refl, ◌∙◌, subst, arith}
use Rattle.std.proofs.lemmas.List.{take_at, length-replicate, length-append}
use Rattle.std.proofs.lemmas.Bool.{or_parts, ltb-false, eqb-false}
use Rattle.refusals.specs.Answers.{number_or}
use Rattle.refusals.specs.declared.Lent.TheVariants.{Bits, Order}
use Rattle.refusals.specs.declared.Missing.TheVariants.{Entry}
use Rattle.refusals.specs.declared.Refusal.{Refusal}
use Rattle.refusals.specs.declared.Refusal.TheVariants.{BitsLength, Nothing, NoRoom}
use Rattle.entries.specs.Rows.{most_names}
use Rattle.entries.specs.Entry.{entered}
use Rattle.listing.specs.Listing.{Listing, Sound, counted}
use Rattle.listing.proofs.Entry.{entry_keeps, entry_needs}
use Rattle.seals.specs.Records.{record_size}
use Rattle.records.specs.Records.{opened_rows}
use Rattle.sum.specs.Sums.{sum_of, sum_from}
use Rattle.ceremony.specs.Model.{Listed, Sealed}
use Rattle.ceremony.specs.Steps.{closed_list, entry_step, two_bytes, length_given, listing_closed, list_close, shortest, longest}
use Rattle.laws.specs.Sound.{list_of, InListing, InSealing}
use Rattle.laws.proofs.Answers.{passed, ok_is}

same_count : (r : Result ℕ Refusal) (count : ℕ) → counted r count ≡ number_or r count
same_count (Ok n) count = refl
same_count (Err why) count = refl

pub entry_sound : (s : Listed) (x : List ℕ) → InListing s → InListing (entry_step s x).0
entry_sound s x i =
    let l : Listing = list_of s.held s.count in
    let e = entered s.held.slots s.held.index s.count x in
    record {
      names =
          subst (λ (n : ℕ). Sound (record { slots = e.slots; index = e.index; count = n })) (same_count e.answer s.count) (entry_keeps l x i.names);
      few_names = go e.answer refl;
    }
  where
    go : (r : Result ℕ Refusal) → (entered s.held.slots s.held.index s.count x).answer ≡ r → number_or r s.count ≤ most_names
    go (Ok n) h = let p = entry_needs (list_of s.held s.count) x n i.names h in omega (arith, p.0, p.3)
    go (Err why) h = i.few_names

-- what the tests of a closing have shown
pub record LengthFacts (s : Listed) (x : List ℕ) (n : ℕ) : Type 0 where
  pub is : n ≡ two_bytes x
  pub enough : shortest ≤ n
  pub few : n ≤ longest
  pub some : 0 < s.count
  pub bits_room : n ≤ length s.held.bits
  pub order_room : s.count ≤ length s.held.order

pub length_passed : (s : Listed) (x : List ℕ) (n : ℕ) → length_given s x ≡ Ok n → LengthFacts s x n
length_passed s x n e =
    let a = passed (not (eqb (length x) 2)) BitsLength _ n e in
    let b = passed (ltb (two_bytes x) shortest || ltb longest (two_bytes x)) BitsLength _ n a.1 in
    let c = passed (eqb s.count 0) (Nothing Entry) _ n b.1 in
    let d = passed (ltb (length s.held.bits) (two_bytes x)) (NoRoom Bits) _ n c.1 in
    let f = passed (ltb (length s.held.order) s.count) (NoRoom Order) _ n d.1 in
    let o = or_parts (ltb (two_bytes x) shortest) (ltb longest (two_bytes x)) b.0 in
    let g : two_bytes x ≡ n = ok_is _ _ f.1 in
    let h1 = ltb-false _ _ o.0 in
    let h2 = ltb-false _ _ o.1 in
    let h3 = eqb-false s.count 0 c.0 in
    let h4 = ltb-false _ _ d.0 in
    let h5 = ltb-false _ _ f.0 in
    record {
      is = sym g;
      enough = omega (arith, g, h1);
      few = omega (arith, g, h2);
      some = omega (arith, h3);
      bits_room = omega (arith, g, h4);
      order_room = h5;
    }

-- no party, no sum
no_sum : (n : ℕ) (seals : List ℕ) → replicate n 0 ≡ sum_of n (opened_rows seals n 0)
unfolding sum_of sum_from opened_rows
no_sum n seals = refl

pub closed_sound : (s : Listed) (x : List ℕ) (n : ℕ) (t : Sealed) → InListing s → LengthFacts s x n → listing_closed s (Ok n) ≡ Ok t → InSealing t
closed_sound s x n t i f e = subst InSealing (ok_is _ _ e) sealed
  where
    sealed : InSealing (record { held = record { slots = s.held.slots; index = s.held.index; seals = s.held.seals; bits = replicate n 0 ++ drop n s.held.bits; order = s.held.order }; list = closed_list s n; parties = 0 })
    sealed =
        record {
          closed =
              record {
                names = i.names;
                some_names = f.some;
                few_names = i.few_names;
                hash = refl;
                enough_bits = f.enough;
                few_bits = f.few;
                bits_room = omega (arith, length-append (replicate n 0) (drop n s.held.bits), length-replicate {A = ℕ} n 0);
                order_room = f.order_room;
                few_parties = omega arith;
                records_room = let z : record_size n * 0 ≡ 0 = omega arith in omega (arith, z);
                given = λ k l h. absurd (omega arith);
                sum = take_at (replicate n 0) (drop n s.held.bits) n (length-replicate n 0) ∙ no_sum n s.held.seals;
              };
          unopened = λ k l. absurd (omega arith);
        }

pub list_close_sound : (s : Listed) (x : List ℕ) (t : Sealed) → InListing s → list_close s x ≡ Ok t → InSealing t
list_close_sound s x t i e = go (length_given s x) refl e
  where
    go : (r : Result ℕ Refusal) → length_given s x ≡ r → listing_closed s r ≡ Ok t → InSealing t
    go (Ok n) h e = closed_sound s x n t i (length_passed s x n h) e
    go (Err why) h e = absurd cc
