-- The run of a script, from its first entry to its end. Assumes nothing.
use Rattle.std.proofs.Common.{◌≡◌, ℕ, zero, suc, ◌+◌, ◌<◌, true, false, List, [], ◌∷◌, ◌++◌, map, length, get_or, take, drop, replicate, Ok, sym, refl, ap, ◌∙◌, arith}
use Rattle.std.proofs.lemmas.List.{length-replicate}
use Rattle.std.proofs.lemmas.List.Sorted.{length_permutation}
use Rattle.std.proofs.lemmas.Bool.{ne_eqb, le-ltb}
use Rattle.sha256.specs.Sha256.{sha256}
use Rattle.entries.specs.Rows.{listed, packed_rows}
use Rattle.listing.specs.Listing.{Listing, names, after_entries, no_entries}
use Rattle.listing.specs.Laws.{RoomFor}
use Rattle.listing.proofs.Memory.{sound_none, length_names}
use Rattle.listing.proofs.Runs.{entries_keep}
use Rattle.seals.specs.Seal.{seal_of}
use Rattle.seals.specs.Records.{seal_in, has_opened, opening_in, opened_count}
use Rattle.records.specs.Records.{row_of as record-row, opened_rows}
use Rattle.records.proofs.Rows.{row_none}
use Rattle.sum.specs.Sums.{sum_of}
use Rattle.order.specs.Drawings.{drawn_order}
use Rattle.protocol.specs.Protocol.{word, ordered}
use Rattle.ceremony.specs.declared.memory.ClosedList.{ClosedList}
use Rattle.ceremony.specs.Model.{Listed, Sealed, Ended}
use Rattle.ceremony.specs.Steps.{with_seals, closed_list, listing_closed, list_close, seals_close, after_drawing, may_draw, closed_with, final_close}
use Rattle.ceremony.specs.Draws.{listing, sealing, opening, ended}
use Rattle.runs.specs.Reports.{zeros, fresh}
use Rattle.runs.specs.Rooms.{room_for}
use Rattle.laws.specs.Sound.{InListing}
use Rattle.laws.proofs.Listings.{list_close_sound}
use Rattle.laws.proofs.Sealings.{seals_close_sound}
use Rattle.laws.proofs.Endings.{final_sound}
use Rattle.scripts.specs.Script.{Script, Right, hash_of, seal_step_of, opening_steps, entry_of, script_steps, rows_of, among}
use Rattle.scripts.specs.Whole.{Ends, RunsWhole}
use Rattle.scripts.proofs.Chains.{Leads, more, joined, leads_to, none_refused}
use Rattle.scripts.proofs.Entries.{with_listing, list_is, entries_lead}
use Rattle.scripts.proofs.Closing.{given, passes}
use Rattle.scripts.proofs.Sealing as sealings
use Rattle.scripts.proofs.Opening as openings

-- the memory of a run is large enough
zeros_slots : length zeros.slots ≡ 130000
unfolding room_for
zeros_slots = length-replicate {A = ℕ} 130000 0

zeros_index : length zeros.index ≡ 2000
unfolding room_for
zeros_index = length-replicate {A = ℕ} 2000 0

zeros_seals : length zeros.seals ≡ 2105535
unfolding room_for
zeros_seals = length-replicate {A = ℕ} 2105535 0

zeros_bits : length zeros.bits ≡ 8192
unfolding room_for
zeros_bits = length-replicate {A = ℕ} 8192 0

zeros_order : length zeros.order ≡ 2000
unfolding room_for
zeros_order = length-replicate {A = ℕ} 2000 0

-- where nobody has opened there is nothing to add up
module _ (seals : List ℕ) (len : ℕ) where
  no_rows : (n : ℕ) → ((k : ℕ) → k < n → has_opened seals len k ≡ false) → opened_rows seals len n ≡ []
  unfolding opened_rows
  no_rows zero h = refl
  no_rows (suc n) h = ap (λ (rows : List (List ℕ)). rows ++ record-row seals len n) (no_rows n (λ k l. h k (omega arith))) ∙ row_none seals len n (h n (omega arith))

  none_counted : (n : ℕ) → ((k : ℕ) → k < n → has_opened seals len k ≡ false) → opened_count seals len n ≡ 0
  none_counted zero h = refl
  none_counted (suc n) h = simp (h n (omega arith)) (omega (arith, none_counted n (λ k l. h k (omega arith))))

module _ (σ : Script) (r : Right σ) where
  entered_count : length σ.entered ≡ length σ.names
  entered_count = length_permutation σ.names σ.entered r.same_names

  room : RoomFor (no_entries zeros.slots zeros.index) (length σ.entered)
  room = (omega (arith, entered_count, r.few_names), omega (arith, entered_count, r.few_names, zeros_slots), omega (arith, entered_count, r.few_names, zeros_index))

  -- the list after the entries
  list : Listing
  list = after_entries (no_entries zeros.slots zeros.index) σ.entered

  listed_all : Listed
  listed_all = with_listing zeros list

  list_names : names list ≡ σ.names
  unfolding list
  list_names = list_is zeros.slots zeros.index σ.names σ.entered r.sorted r.same_names r.each_name room

  list_count : list.count ≡ length σ.names
  unfolding list
  list_count = sym (length_names list (entries_keep (no_entries zeros.slots zeros.index) σ.entered (sound_none zeros.slots zeros.index))) ∙ ap length list_names

  entries : Leads fresh (map entry_of σ.entered) (listing listed_all)
  unfolding list listed_all
  entries = entries_lead zeros.slots zeros.index σ.names σ.entered r.sorted r.same_names r.each_name room zeros

  listed_sound : InListing listed_all
  unfolding list listed_all
  listed_sound =
      record {
        names = entries_keep (no_entries zeros.slots zeros.index) σ.entered (sound_none zeros.slots zeros.index);
        few_names = omega (arith, list_count, r.few_names);
      }

  -- the closed list
  closed_all : Sealed
  closed_all =
      record {
        held = with_seals listed_all.held listed_all.held.seals (replicate σ.len 0 ++ drop σ.len listed_all.held.bits);
        list = closed_list listed_all σ.len;
        parties = 0;
      }

  list_closes : list_close listed_all (word σ.len) ≡ Ok closed_all
  unfolding listed_all closed_all
  list_closes =
      ap (listing_closed listed_all)
      (given listed_all σ.len r.enough_bits r.few_bits (omega (arith, list_count, r.some_names)) (omega (arith, zeros_bits, r.few_bits)) (omega (arith, zeros_order, list_count, r.few_names)))

  hash_is : closed_all.list.hash ≡ hash_of σ
  unfolding list listed_all closed_all
  hash_is = ap (λ (ns : List (List ℕ)). sha256 (packed_rows ns)) list_names

  sealing_starts : sealings.SoFar σ.seals 0 closed_all
  unfolding listed_all closed_all
  sealing_starts =
      record {
        sound = list_close_sound listed_all (word σ.len) closed_all listed_sound list_closes;
        parties = refl;
        room = omega (arith, r.few_bits, zeros_seals);
        seals = λ j l. absurd (omega arith);
      }

  all_sealed : sealings.AllSealed σ.seals r.few_parties r.each_seal 0 closed_all
  all_sealed = sealings.seals_lead σ.seals r.few_parties r.each_seal (length σ.seals) 0 closed_all (omega arith) sealing_starts

  -- every party has sealed
  sealed_all : Sealed
  sealed_all = all_sealed.0

  sealed_list : sealed_all.list ≡ closed_all.list
  unfolding sealed_all
  sealed_list = all_sealed.3.0

  seals : Leads (sealing closed_all) (map seal_step_of σ.seals) (sealing sealed_all)
  unfolding sealed_all
  seals = all_sealed.1

  sealed_so : sealings.SoFar σ.seals (length σ.seals) sealed_all
  unfolding sealed_all
  sealed_so = all_sealed.2

  seals_end : seals_close sealed_all ≡ Ok sealed_all
  seals_end = simp (ne_eqb sealed_all.parties 0 (λ e. omega (arith, e, sealed_so.parties, r.some_parties)))

  length_is : sealed_all.list.length ≡ σ.len
  unfolding listed_all closed_all
  length_is = ap (λ (l : ClosedList). l.length) sealed_list

  sealed_hash : sealed_all.list.hash ≡ hash_of σ
  sealed_hash = ap (λ (l : ClosedList). l.hash) sealed_list ∙ hash_is

  opening_starts : openings.SoFar σ.seals σ.openings [] σ.comes sealed_all
  opening_starts =
      let i = sealed_so.sound in
      let len : ℕ = sealed_all.list.length in
      let memory : List ℕ = sealed_all.held.seals in
      record {
        sound = seals_close_sound sealed_all sealed_all i seals_end;
        parties = sealed_so.parties;
        seals = sealed_so.seals;
        gives = λ j l. ap (λ (h : List ℕ). seal_of h (get_or σ.comes j 0) (get_or σ.openings (get_or σ.comes j 0) [])) sealed_hash ∙ r.gives j l;
        long = λ j l. r.each_opening j l ∙ ap (λ (n : ℕ). 32 + n) (sym length_is);
        comes = r.each_comes;
        once = r.comes_once;
        unopened = λ j l. i.unopened (get_or σ.comes j 0) (let h = r.each_comes j l in omega (arith, h, sealed_so.parties));
        marked = λ j l. record { mark = i.unopened j (omega (arith, l, sealed_so.parties)); opening = λ e. absurd cc };
        sum = i.closed.sum ∙ ap (sum_of len) (no_rows memory len sealed_all.parties i.unopened);
        count = none_counted memory len sealed_all.parties i.unopened;
      }

  all_opened : openings.AllOpened σ.seals σ.openings [] σ.comes sealed_all
  all_opened = openings.openings_lead σ.seals σ.openings σ.comes [] sealed_all opening_starts

  -- every opening that was to come has come
  opened_all : Sealed
  opened_all = all_opened.0

  opened_so : openings.SoFar σ.seals σ.openings σ.comes [] opened_all
  unfolding opened_all
  opened_so = all_opened.2

  opened_list : opened_all.list ≡ closed_all.list
  unfolding opened_all
  opened_list = all_opened.3.0 ∙ sealed_list

  -- the names stay where they are
  slots_stay : opened_all.held.slots ≡ list.slots
  unfolding sealed_all opened_all closed_all listed_all
  slots_stay = all_opened.3.1 ∙ all_sealed.3.1

  index_stays : opened_all.held.index ≡ list.index
  unfolding sealed_all opened_all closed_all listed_all
  index_stays = all_opened.3.2 ∙ all_sealed.3.2

  -- the end
  end : Ended
  end = after_drawing opened_all

  ends : final_close opened_all ≡ Ok end
  unfolding end
  ends =
      let c = opened_so.sound.closed in
      let n = ne_eqb (opened_count opened_all.held.seals opened_all.list.length opened_all.parties) 0 (λ e. omega (arith, e, opened_so.count, r.some_comes)) in
      let f : may_draw opened_all ≡ Ok tt = simp (n, le-ltb _ _ c.bits_room, le-ltb _ _ c.order_room) in
      ap (closed_with opened_all) f

  whole : Leads fresh (script_steps σ) (ended end)
  unfolding opened_all
  whole =
      let c1 = passes (listing listed_all) sealing (list_close listed_all (word σ.len)) closed_all list_closes in
      let c2 = passes (sealing sealed_all) opening (seals_close sealed_all) sealed_all seals_end in
      let c3 = passes (opening opened_all) ended (final_close opened_all) end ends in
      let last : Leads (opening opened_all) ((6, []) ∷ []) (ended end) = more (opening opened_all) (ended end) (ended end) 6 [] [] c3.0 c3.1 refl in
      let third = joined (opening sealed_all) (opening opened_all) (ended end) (opening_steps σ.openings σ.comes) _ all_opened.1 last in
      let second = joined (sealing closed_all) (sealing sealed_all) (ended end) (map seal_step_of σ.seals) _ seals (more (sealing sealed_all) (opening sealed_all) (ended end) 4 [] _ c2.0 c2.1 third) in
      joined fresh (listing listed_all) (ended end) (map entry_of σ.entered) _ entries (more (listing listed_all) (sealing closed_all) (ended end) 2 (word σ.len) _ c1.0 c1.1 second)

  script_ends : Ends σ end
  unfolding end listed_all closed_all
  script_ends =
      let at = final_sound opened_all opened_so.sound end ends in
      let n : opened_all.list.count ≡ length σ.names = ap (λ (l : ClosedList). l.count) opened_list ∙ list_count in
      let m : opened_all.list.length ≡ σ.len = ap (λ (l : ClosedList). l.length) opened_list in
      record {
        run = leads_to fresh (ended end) (script_steps σ) whole;
        none_refused = none_refused fresh (ended end) (script_steps σ) 1 whole;
        names = n;
        parties = opened_so.parties;
        opened = opened_so.count;
        order =
            at.order
            ∙ (ap (λ (k : ℕ). ordered (drawn_order k (take opened_all.list.length opened_all.held.bits) 0)) n
            ∙ (ap (λ (bytes : List ℕ). ordered (drawn_order (length σ.names) bytes 0)) opened_so.sum
            ∙ ap (λ (k : ℕ). ordered (drawn_order (length σ.names) (sum_of k (rows_of σ)) 0)) m));
      }

-- what the run of a script leaves in memory
pub record Left (σ : Script) (e : Ended) : Type 0 where
  pub names : listed e.held.slots e.held.index e.list.count ≡ σ.names
  pub len : e.list.length ≡ σ.len
  pub seals : (k : ℕ) → k < length σ.seals → seal_in e.held.seals e.list.length k ≡ get_or σ.seals k []
  pub marks : (k : ℕ) → k < length σ.seals → has_opened e.held.seals e.list.length k ≡ among k σ.comes
  pub openings : (k : ℕ) → k < length σ.seals → among k σ.comes ≡ true → opening_in e.held.seals e.list.length k ≡ get_or σ.openings k []

module _ (σ : Script) (r : Right σ) where
  leaves : Left σ (end σ r)
  unfolding end list listed_all closed_all
  leaves =
      let so = opened_so σ r in
      record {
        names =
            ap (λ (x : List ℕ). listed x (opened_all σ r).held.index (opened_all σ r).list.count) (slots_stay σ r)
            ∙ (ap (λ (x : List ℕ). listed (list σ r).slots x (opened_all σ r).list.count) (index_stays σ r)
            ∙ (ap (λ (l : ClosedList). listed (list σ r).slots (list σ r).index l.count) (opened_list σ r) ∙ list_names σ r));
        len = ap (λ (l : ClosedList). l.length) (opened_list σ r);
        seals = so.seals;
        marks = λ k l. (so.marked k l).mark;
        openings = λ k l. (so.marked k l).opening;
      }

pub script_run : (σ : Script) → Right σ → (e : Ended) × Ends σ e × Left σ e
script_run σ r = (end σ r, script_ends σ r, leaves σ r)

pub runs_whole : RunsWhole
runs_whole σ r = (end σ r, script_ends σ r)
