-- An exchange of a handle's word brings an offer to stand.
use Rattle.history.specs.declared.calls.Call.{Call}
use Rattle.std.proofs.Common.{◌≡◌, ◌≢◌, ◌+◌, ◌*◌, ◌⊎◌, ◌^◌, ℕ, ◌<◌, ◌≤◌, inl, inr, true, List, [], ◌∷◌, ◌++◌, Contains, set, slice_index, is_some, Some, None, refl, sym}
use Rattle.std.proofs.Common.{ap, subst, ◌∙◌, arith, append-nil}
use Rattle.std.specs.Prelude.{option_map, ◌==◌}
use Rattle.std.proofs.lemmas.Bool.{cases_eq}
use Rattle.std.proofs.lemmas.Option.{same_Some, none-some}
use Rattle.std.proofs.lemmas.List.Elements.{All-cons, All-nil, All-append}
use mathlib.Core.Option.{some, some-injective}
use lib.ListN.{get_elem?}
use Rattle.atomic_table.specs.Table as Table
use Rattle.trie_words.specs.Codes.{root_code, IsRootWord}
use Rattle.trie_words.specs.declared.roots.RootWord.TheVariants as word
use Rattle.history.specs.declared.calls.Access.TheVariants.{Writable}
use Rattle.machine_model.specs.declared.roots.Descriptor.{Descriptor}
use Rattle.machine_model.specs.Beneath.slot_arena.specs.declared.nodes.Slot.{Slot}
use Rattle.machine_model.specs.declared.steps.Step.TheVariants as step
use Rattle.machine_model.specs.declared.operations.Operation.{Operation}
use Rattle.machine_model.specs.Acting.{operation_after}
use Rattle.machine_model.specs.Calls.{handle_of}
use Rattle.machine_model.specs.Keys.{FitsKey}
use Rattle.machine_model.specs.States.{State, operation_of, root_at, word_of, handle_limit}
use Rattle.lock_free.specs.declared.accounts.Account.{Account}
use Rattle.lock_free.specs.declared.accounts.Known.{Known}
use Rattle.lock_free.specs.declared.rules.View.{View}
use Rattle.lock_free.specs.declared.sizes.Sizes.{Sizes}
use Rattle.lock_free.specs.Accounts.{state_of, place_at, HasWaited, IsOfOther, HasStood}
use Rattle.lock_free.specs.Offering.{DraftsOffer, Offers, known_at, offered_at, offered_by}
use Rattle.lock_free.specs.Places.{pin_word, root_word, IsTaken}
use Rattle.lock_free.specs.Roots.{MeansRoot, SaysOpening, NoOffer, IsWritten, IsItsTry, AreMarked, IsPending, fate, undecided, meant, opened_by, open_with, carried_out}
use Rattle.lock_free.specs.Fates.{TellsFate}
use Rattle.lock_free.specs.Rules.{Stands, IsClosing, SaysClosing, IsFree, IsSpare, IsOpening, IsHeld, Reserves, IsSeat, IsKept, pool_of}
use Rattle.lock_free.specs.Trying.{try_of, KeepsTries, anew}
use Rattle.lock_free.specs.Holdings.{AreHeld}
use Rattle.lock_free.proofs.Assembling.{AllStand, all_stand, closing_stays, opening_stays, Numbers, assembled}
use Rattle.lock_free.proofs.CellsStay.{beside_cell, cells_spent, handle_before, word_loosens_none}
use Rattle.lock_free.proofs.CountWords.{handle_apart}
use Rattle.lock_free.proofs.Geometry.{IsWordOf}
use Rattle.lock_free.proofs.Meanings.{means_then, stood_still, ran, reserved, reserves_on, marks_kept}
use Rattle.lock_free.proofs.OpenHandles.{not_closing}
use Rattle.lock_free.proofs.OneOffer.{fates_more, single_more, tries_more}
use Rattle.lock_free.proofs.Pools.{first_there, more_there}
use Rattle.lock_free.proofs.RootCodes.{same_kind, kind, slot_in}
use Rattle.lock_free.proofs.RootFound.{not_plain, slot_fits, offered_is, opening_is, later_is}
use Rattle.lock_free.proofs.RootSteps as root
use Rattle.lock_free.proofs.SeatOwing.{seat_owing}
use Rattle.lock_free.proofs.PlainStay.{plain_running}
use Rattle.lock_free.proofs.Seats.{ran_so, Stays, other_kept, own_kept}
use Rattle.lock_free.proofs.Spending as spending
use Rattle.lock_free.proofs.Stood.{plain_not}
use Rattle.lock_free.proofs.Waiting.{waited_more, quiet_more}
use Rattle.lock_free.proofs.PartingStay.{NamesLess, names_over}
use Rattle.lock_free.proofs.PartingMore.{knows_more, knows_own, parted_more, seat_offering, each_more}
use Rattle.lock_free.specs.Parting.{IsParted}

module _ (sizes : Sizes) (s : Table.State Call View) (kept : IsKept sizes s) (id : ℕ) (v : View) (at : get_elem? s.views id ≡ some v) (operation : Operation)
    (runs : operation_of (state_of sizes kept.account) v.actor ≡ Some operation) (slot : ℕ) (offer : Descriptor) (offers : Offers sizes kept.account v.actor slot operation offer)
    (rest : List ℕ) (pool : pool_of v.pool 1 ≡ rest ++ slot ∷ []) (drafted : DraftsOffer kept.account v.drafts slot offer) (names_it : (g : ℕ) → offer.opens ≡ Some g → v.opening ≡ Some slot) where
  abbrev all : AllStand sizes kept.account kept.stands s.words
  all = all_stand sizes s kept

  abbrev now : State
  now = state_of sizes kept.account

  abbrev pub account_then : Account
  account_then = offered_at v.actor slot (handle_of operation.call) offer kept.account

  abbrev next : State
  next = state_of sizes account_then

  abbrev handle : ℕ
  handle = handle_of operation.call

  abbrev pub words_then : List ℕ
  words_then = set s.words (root_word handle) (root_code (word.Offered slot))

  abbrev pub view_then : View
  view_then = offered_by v slot (handle_of operation.call) rest offer kept.account

  abbrev new : Known
  new = known_at v.actor slot (handle_of operation.call) offer

  seat : IsSeat sizes kept.account kept.stands s.words v
  seat = kept.seats id v at

  low : handle < handle_limit
  low = (seat.entered handle (seat.calls operation runs)).0

  medium : 1 < 3
  medium = omega arith

  its_own : IsFree v 1 slot
  its_own = spending.its_own sizes s kept id v at 1 medium slot rest pool

  spare : IsTaken sizes s.words 1 slot × IsSpare sizes kept.account kept.stands slot
  spare = spending.its_spare sizes s kept id v at 1 medium slot rest pool

  slot_same : (b name : ℕ) → b < 3 → IsTaken sizes s.words b name → (j : ℕ) → IsWordOf b name j → slice_index words_then j ≡ slice_index s.words j
  slot_same = root.slot_rooted sizes kept.account kept.stands s.words all handle low (root_code (word.Offered slot))

  its_word : (j value : ℕ) → Contains v.drafts (j, value) → IsWordOf 1 slot j → slice_index words_then j ≡ value
  its_word j value c its = slot_same 1 slot medium spare.0 j its ∙ (seat.drafts (j, value) c).0

  fate_new : fate words_then new ≡ 0
  fate_new = its_word (2 * slot) 0 drafted.first (record { low = omega arith; high = omega arith })

  fits : slot < 2 ^ 27
  fits = slot_fits sizes s.words kept.range kept.taken slot spare.0

  keeps : KeepsTries kept.account.offers now next
  keeps = anew v.actor (record {
    was = operation;
    ran = runs;
    unmarked = offers.unmarked;
    now = operation_after now operation;
    runs = offers.own;
    still_unmarked = offers.still_unmarked;
    fresh = offers.fresh;
    others = λ a differs. ap (λ o. option_map try_of o) (offers.others a differs);
  })

  fate_old : (k : Known) → Contains kept.account.offers k → fate words_then k ≡ fate s.words k
  fate_old = root.fate_rooted sizes kept.account kept.stands s.words all handle low (root_code (word.Offered slot))

  -- ---- what words of handles mean

  -- who waits for the slot's offer is this seat, and it is to open the handle
  opens_this : (g found_slot : ℕ) → g < handle_limit → IsRootWord (word.Opening found_slot) → slice_index s.words (root_word g) ≡ root_code (word.Opening found_slot) → NoOffer kept.account
      found_slot → found_slot ≡ slot →
      offer.opens ≡ Some g
  opens_this g found_slot below in_range is nothing same =
      let o = kept.openings g found_slot below in_range is nothing in
      let mine : o.id ≡ id = kept.pools o.id id o.view v 1 1 slot o.at at (subst (λ n. IsFree o.view 1 n) same o.free) its_own in
      let view_is : o.view ≡ v = some-injective o.view v (sym o.at ∙ ap (λ n. get_elem? s.views n) mine ∙ at) in
      offers.opens ∙ sym (seat.reserves operation runs) ∙ ap (λ (x : View). x.opens) (sym view_is) ∙ o.reserves.0

  names : (g found_slot : ℕ) → g < handle_limit → slice_index s.words (root_word g) ≡ root_code (word.Opening found_slot) → IsRootWord (word.Opening found_slot) → NoOffer kept.account found_slot →
      root_at now g ≡ None →
      SaysOpening account_then words_then g found_slot (root_at now g) ⊎ NoOffer account_then found_slot
  names g found_slot below is in_range nothing closed = elim (cases_eq found_slot slot) [
    | inl same ↦ inl (record {
      its = new;
      here = first_there new kept.account.offers;
      place = same;
      opens = opens_this g found_slot below in_range is nothing same;
      is = closed ∙ ap (λ n. opened_by n offer) (sym fate_new);
    })
    | inr differs ↦ inr (each_more (λ k. k.slot ≢ found_slot) new kept.account.offers (λ e. differs (sym e)) nothing)
  ]

  means_else : (g : ℕ) → g < handle_limit → MeansRoot account_then words_then g (slice_index s.words (root_word g)) (root_at now g)
  means_else g below =
      means_then kept.account account_then s.words words_then g (slice_index s.words (root_word g)) (root_at now g) (λ access q is. refl)
      (λ k c is says. (more_there new kept.account.offers k c, fate_old k c)) (λ k c opens. (more_there new kept.account.offers k c, fate_old k c))
      (λ found_slot is in_range nothing closed. names g found_slot below is in_range nothing closed) (kept.roots.means g below)

  means_here : MeansRoot account_then words_then handle (root_code (word.Offered slot)) (root_at next handle)
  means_here = record {
    what = word.Offered slot;
    fits = fits;
    code = refl;
    says = record { its = new; here = first_there new kept.account.offers; on = refl; place = refl; is = offers.stands ∙ ap (λ n. open_with Writable (meant n offer)) (sym fate_new) };
  }

  root_beside : (g : ℕ) → g ≢ handle → slice_index words_then (root_word g) ≡ slice_index s.words (root_word g)
  root_beside = root.else_root sizes kept.account kept.stands s.words all handle low (root_code (word.Offered slot))

  root_here : slice_index words_then (root_word handle) ≡ root_code (word.Offered slot)
  root_here = root.at_it sizes kept.account kept.stands s.words all handle low (root_code (word.Offered slot))

  means_all : (g : ℕ) → g < handle_limit → MeansRoot account_then words_then g (slice_index words_then (root_word g)) (root_at next g)
  means_all g below = elim (cases_eq g handle) [
    | inl same ↦
        subst (λ n. MeansRoot account_then words_then n (slice_index words_then (root_word n)) (root_at next n)) (sym same)
        (subst (λ n. MeansRoot account_then words_then handle n (root_at next handle)) (sym root_here) means_here)
    | inr differs ↦
        subst (λ n. MeansRoot account_then words_then g n (root_at next g)) (sym (root_beside g differs))
        (subst (λ r. MeansRoot account_then words_then g (slice_index s.words (root_word g)) r) (sym (offers.roots g differs)) (means_else g below))
  ]

  less : NamesLess kept.account.offers s.words words_then
  less =
      names_over kept.account.offers s.words words_then handle (word.Offered slot) fits root_beside root_here
      (λ k c. (λ e. spare.1.1 k c (sym (ap slot_in e)), λ e. (let wrong = ap kind e in omega (arith, wrong))))

  unparted : IsParted kept.account.parted new → ⊥
  unparted p = offers.never (subst (λ (x : Known). HasStood sizes kept.account x.offer) p.2 (kept.roots.came p.0 p.1))

  -- ---- offers

  written_new : IsWritten account_then words_then new
  written_new = record {
    olds = its_word (2 * slot + 1) _ drafted.olds (record { low = omega arith; high = omega arith });
    news = its_word (2 * slot + 2) _ (subst (λ n. Contains v.drafts (2 * slot + 2, n)) refl drafted.news) (record { low = omega arith; high = omega arith });
  }

  written_all : (k : Known) → Contains account_then.offers k → IsWritten account_then words_then k
  written_all =
      each_more (IsWritten account_then words_then) new kept.account.offers written_new
      (λ k old. root.written_left sizes kept.account account_then.steps account_then offers.leaves kept.stands words_then k
      (root.written_rooted sizes kept.account kept.stands s.words all handle low (root_code (word.Offered slot)) k old))

  still_taken : (b n : ℕ) → b < 3 → IsTaken sizes s.words b n → IsTaken sizes words_then b n
  still_taken = root.taken_rooted sizes kept.account kept.stands s.words all handle low (root_code (word.Offered slot))

  blocks_all : (k : Known) → Contains account_then.offers k → IsTaken sizes words_then 1 k.slot
  blocks_all =
      each_more (λ k. IsTaken sizes words_then 1 k.slot) new kept.account.offers (still_taken 1 slot medium spare.0) (λ k old. still_taken 1 k.slot medium (kept.roots.blocks k old))

  single_all : (k l : Known) → Contains account_then.offers k → Contains account_then.offers l → k.slot ≡ l.slot → k ≡ l
  single_all = single_more new kept.account.offers spare.1.1 kept.roots.single

  tries_all : (k l : Known) → Contains account_then.offers k → Contains account_then.offers l → k.offer.operation ≡ l.offer.operation → k.offer.attempt ≡ l.offer.attempt → k ≡ l
  tries_all =
      tries_more new kept.account.offers
      (λ k c same_id same_try. offers.fresh k c (record { its = offers.its_try.its ∙ sym same_id; now = offers.its_try.now ∙ sym same_try })) kept.roots.tries

  stood_all : (k : Known) → Contains account_then.offered k → HasStood sizes account_then k.offer
  stood_all =
      each_more (λ k. HasStood sizes account_then k.offer) new kept.account.offered
      (record { steps = account_then.steps; more = []; goes_on = sym (append-nil account_then.steps); handle = handle; stood = ap word_of offers.stands })
      (λ k old. stood_still sizes kept.account account_then (step.Go v.actor ∷ []) refl k.offer (kept.roots.stood k old))

  marks_new : (a : ℕ) (o : Operation) → operation_of next a ≡ Some o → IsItsTry o offer → o.is_marked ≡ (fate words_then new == carried_out)
  marks_new a o e its = elim (cases_eq a v.actor) [
    | inl own ↦
        (let is : o ≡ operation_after now operation = same_Some o (operation_after now operation) (sym e ∙ ap (operation_of next) own ∙ offers.own) in
        ap (λ (x : Operation). x.is_marked) is ∙ offers.still_unmarked ∙ ap (λ n. n == carried_out) (sym fate_new))
    | inr other ↦ absurd (offers.alone a o other (sym (offers.others a other) ∙ e) its.its)
  ]

  marks_all : AreMarked next words_then account_then.offers
  marks_all =
      each_more (λ k. (a : ℕ) (o : Operation) → operation_of next a ≡ Some o → IsItsTry o k.offer → o.is_marked ≡ (fate words_then k == carried_out)) new kept.account.offers marks_new
      (λ k old. marks_kept kept.account.offers now next keeps s.words words_then fate_old kept.roots.marks k old)

  not_open : (g : ℕ) → root_at now g ≡ None → g ≢ handle
  not_open g closed same = none-some _ (sym closed ∙ ap (root_at now) same ∙ offers.stood)

  old_fits : (k : Known) → Contains kept.account.offers k → k.slot < 2 ^ 27
  old_fits k c = slot_fits sizes s.words kept.range kept.taken k.slot (kept.roots.blocks k c)

  pending_new : IsPending words_then new
  pending_new = record {
    low = low;
    stands = root_here;
    opens = λ g e.
        (let x = seat.opening g slot (seat.reserves operation runs ∙ sym offers.opens ∙ e) (names_it g e) in
        (x.low, root_beside g (not_open g (later_is sizes kept.account s.words kept.roots g x.low slot fits x.is spare.1.1)) ∙ x.is));
  }

  pending_old : (k : Known) → Contains kept.account.offers k → fate words_then k ≡ undecided → IsPending words_then k
  pending_old k old stands =
      let before = sym (fate_old k old) ∙ stands in
      root.pending_rooted sizes kept.account kept.stands s.words all handle low (root_code (word.Offered slot)) k
      (λ is. not_plain k.offer Writable offer.root (sym (offered_is sizes kept.account s.words kept.roots handle low k old (old_fits k old) is ∙ ap (λ n. open_with Writable (meant n k.offer))
      before) ∙ offers.stood))
      (λ is. not_open handle ((opening_is sizes kept.account s.words kept.roots handle low k old (old_fits k old) is).1 ∙ ap (λ n. opened_by n k.offer) before) refl)
      (kept.roots.pending k old before)

  pending_all : (k : Known) → Contains account_then.offers k → fate words_then k ≡ undecided → IsPending words_then k
  pending_all = each_more (λ k. fate words_then k ≡ undecided → IsPending words_then k) new kept.account.offers (λ stands. pending_new) pending_old

  fates_all : (k : Known) → Contains account_then.offers k → TellsFate sizes account_then k (fate words_then k)
  fates_all =
      fates_more sizes kept.account account_then (step.Go v.actor) refl new offers.never (λ d e. plain_not offer.root d (sym (ap word_of offers.stood) ∙ e))
      (λ h differs. ap word_of (offers.roots h differs)) s.words words_then fate_new fate_old kept.roots.fates

  -- ---- all that stands

  not_its_slot : (x : Known) → Contains account_then.offers x → (k : ℕ) (n : Slot) → Stands kept.stands now k n → place_at kept.account k ≢ x.slot
  not_its_slot =
      each_more (λ x. (k : ℕ) (n : Slot) → Stands kept.stands now k n → place_at kept.account k ≢ x.slot) new kept.account.offers
      (λ k n h e. spare.1.0 k n h e) (λ x old k n h. kept.nodes.offers x old k n h)

  pub all_then : AllStand sizes account_then kept.stands words_then
  all_then = record {
    bounds = offers.leaves.bounds;
    keys = All-append FitsKey kept.account.steps (step.Go v.actor ∷ []) kept.keys (All-cons FitsKey (step.Go v.actor) [] tt (All-nil FitsKey));
    quiet = quiet_more kept.account.steps (step.Go v.actor) kept.quiet tt;
    counted = kept.counted ∙ sym offers.leaves.births;
    size = root.size_rooted sizes kept.account kept.stands s.words all handle low (root_code (word.Offered slot));
    taken = root.have_rooted sizes kept.account kept.stands s.words all handle low (root_code (word.Offered slot));
    generations = root.generations_rooted sizes kept.account kept.stands s.words all handle low (root_code (word.Offered slot)) ∙ sym offers.leaves.generations;
    nodes = root.nodes_left sizes kept.account account_then.steps account_then offers.leaves kept.stands words_then (step.Go v.actor ∷ []) refl not_its_slot
        (root.nodes_rooted sizes kept.account kept.stands s.words all handle low (root_code (word.Offered slot)));
    roots = record {
      means = means_all;
      offers = written_all;
      blocks = blocks_all;
      single = single_all;
      tries = tries_all;
      stood = stood_all;
      came = λ x c. stood_still sizes kept.account account_then (step.Go v.actor ∷ []) refl x.known.offer (kept.roots.came x c);
      parting = parted_more kept.account.offered kept.account.offers kept.account.parted s.words words_then less new unparted kept.roots.parting;
      marks = marks_all;
      fates = fates_all;
      pending = pending_all;
    };
  }

  -- ---- seats

  waits : (actor : ℕ) (first : Account) → actor ≢ v.actor → HasWaited actor first kept.account → HasWaited actor first account_then
  waits actor first differs h =
      subst (λ names. HasWaited actor first (record account_then { names = names })) (append-nil kept.account.names)
      (waited_more actor first kept.account (step.Go v.actor ∷ []) [] [] (new ∷ []) (All-cons (IsOfOther actor) (step.Go v.actor) [] (λ e. differs (sym e)) (All-nil (IsOfOther actor))) h)

  held : (other : ℕ) (w : View) → get_elem? s.views other ≡ some w → (g : ℕ) → Reserves next w g → IsHeld next words_then g
  held other w e g h =
      let x = (kept.seats other w e).opens g (reserved kept.account.offers now next keeps w g h) in
      let differs = not_open g x.closed in
      record { low = x.low; taken = λ none. x.taken (sym (root_beside g differs) ∙ none); closed = offers.roots g differs ∙ x.closed }

  open_still : (g : ℕ) → is_some (root_at now g) ≡ true → is_some (root_at next g) ≡ true
  open_still g e = elim (cases_eq g handle) [
    | inl same ↦ ap (λ n. is_some (root_at next n)) same ∙ ap is_some offers.stands
    | inr differs ↦ ap is_some (offers.roots g differs) ∙ e
  ]

  -- a slot that is another one is spare still
  spare_then : (other : ℕ) → other ≢ slot → IsSpare sizes kept.account kept.stands other → IsSpare sizes account_then kept.stands other
  spare_then other differs h = (
    λ k n e. h.0 k n (e.0, sym (offers.leaves.nodes k) ∙ e.1),
    each_more (λ k. k.slot ≢ other) new kept.account.offers (λ e. differs (sym e)) h.1,
  )

  pin_same : (a : ℕ) → 1 ≤ a → slice_index words_then (pin_word a) ≡ slice_index s.words (pin_word a)
  pin_same = root.pin_rooted sizes kept.account kept.stands s.words all handle low (root_code (word.Offered slot))

  stays : Stays sizes s kept id v at account_then kept.stands words_then
  stays = record {
    waits = waits;
    still = λ x h. h.still;
    others = λ a differs. ran_so now next a (offers.others a differs);
    pins = λ a positive most apart. pin_same a positive;
    named = λ other w e apart g found_slot o x. root_beside g (not_open g
        (later_is sizes kept.account s.words kept.roots g x.low found_slot x.fits x.is ((kept.seats other w e).spare 1 found_slot x.free).1.1));
    numbers = λ other w e apart. held other w e;
    still_open = λ other w at_w g inside e. open_still g e;
    taken = still_taken;
    spare = λ other w b name e apart free.
        (let x = (kept.seats other w e).spare b name free in
        let differs : name ≢ slot = λ same. apart (kept.pools other id w v b 1 slot e at (subst (λ n. IsFree w b n) same free) its_own) in
        (spare_then name differs x.1, slot_same b name free.0 x.0));
    plain = plain_running sizes kept.account account_then kept.bounds ((step.Go v.actor) ∷ []) refl s.words words_then v.actor operation runs;
    offering = knows_more kept.account.offered kept.account.offers kept.account.parted s.words words_then less new unparted;
  }

  own_then : IsSeat sizes account_then kept.stands words_then view_then
  own_then =
      seat_owing sizes account_then kept.stands words_then (record view_then { owed = v.owed }) view_then.owed
      (seat_offering sizes account_then kept.stands words_then (record view_then { owed = v.owed; offer = v.offer }) view_then.offer
      (own_kept sizes s kept id v at account_then kept.stands words_then stays operation (operation_after now operation) runs offers.own refl refl (held id v at) all_then.counted
      (pin_same v.actor seat.low) view_then.pool None (λ g n o e. absurd (none-some n e)) []
      (λ b name f. (let before = spending.was_free sizes s kept id v at 1 medium slot rest pool b name f.0 f.1 in
      let x = seat.spare b name before.0 in (still_taken b name f.0 x.0, spare_then name before.1 x.1)))
      (spending.once_then sizes s kept id v at 1 medium slot rest pool) (λ d c. absurd (omega (arith, c.1)))
      (knows_more kept.account.offered kept.account.offers kept.account.parted s.words words_then less new unparted v.actor v.pin v.offer v.pool.parted seat.offering))
      (knows_own kept.account.offered kept.account.offers kept.account.parted s.words words_then less new unparted v.pin v.offer v.pool.parted seat.offering))

  closings_then : (g who : ℕ) → g < handle_limit → SaysClosing (slice_index words_then (root_word g)) who → IsClosing (set s.views id view_then) g who
  closings_then g who below says = elim (cases_eq g handle) [
    | inl same ↦ absurd (not_closing (word.Offered slot) who fits (omega arith) (subst (λ n. SaysClosing n who) (ap (λ n. slice_index words_then (root_word n)) same ∙ root_here) says))
    | inr apart ↦ closing_stays sizes s kept id v at view_then refl refl (λ h e. (e, refl)) refl (λ c. c) g who (kept.closings g who below (subst (λ n. SaysClosing n who) (root_beside g apart) says))
  ]

  openings_then : (g found_slot : ℕ) → g < handle_limit → IsRootWord (word.Opening found_slot) → slice_index words_then (root_word g) ≡ root_code (word.Opening found_slot) → NoOffer account_then
      found_slot →
      IsOpening next (set s.views id view_then) g found_slot
  openings_then g found_slot below in_range is nothing = elim (cases_eq g handle) [
    | inl same ↦
        (let wrong = same_kind (word.Offered slot) (word.Opening found_slot) fits in_range (sym root_here ∙ ap (λ n. slice_index words_then (root_word n)) (sym same) ∙ is) in absurd
        (omega (arith, wrong)))
    | inr differs ↦
        opening_stays sizes s kept id v at view_then refl refl next g found_slot
        (λ r f.
        (let other : found_slot ≢ slot = λ same. nothing new (first_there new kept.account.offers) (sym same) in
        (reserves_on kept.account.offers now next keeps v g r, (medium, spending.still_free sizes s kept id v at 1 medium slot rest pool 1 found_slot other f))))
        (λ other w e apart f r. reserves_on kept.account.offers now next keeps w g r)
        (kept.openings g found_slot below in_range (sym (root_beside g differs) ∙ is) (λ k c. nothing k (more_there new kept.account.offers k c)))
  ]

  numbers_then : Numbers sizes s kept id v at view_then refl refl account_then words_then
  numbers_then = record {
    openings = openings_then;
    number = λ g h. inl (reserved kept.account.offers now next keeps v g h);
    others = λ other w e apart g h. reserved kept.account.offers now next keeps w g h;
    runners = λ a o e. inr (ran kept.account.offers now next keeps a o e);
  }

  -- the rule holds, where each reference is counted still
  pub offered_kept : AreHeld sizes account_then kept.stands words_then (set s.views id view_then) → IsKept sizes (record { words = words_then; homes = s.homes; views = set s.views id view_then })
  offered_kept held_still =
      assembled sizes s kept id v at view_then refl refl account_then kept.stands words_then all_then closings_then own_then (other_kept sizes s kept id v at account_then kept.stands words_then stays)
      (λ b name f. inl (spending.was_free sizes s kept id v at 1 medium slot rest pool b name f.0 f.1).0) numbers_then held_still
      (cells_spent sizes s kept id v at view_then account_then kept.stands words_then (beside_cell sizes s.words (root_word handle) (root_code (word.Offered slot))
      (handle_before sizes handle low)) (word_loosens_none sizes s.words (root_word handle) (root_code (word.Offered slot)) (handle_apart sizes handle low).1) 1 slot
      its_own still_taken spare_then (λ b n f. (spending.was_free sizes s kept id v at 1 medium slot rest pool b n f.0 f.1).0))
