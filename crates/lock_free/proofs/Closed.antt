-- The exchange that takes a closer's mark for 0 closes the handle, once the closer has found all other seats in no call on it.
use Rattle.history.specs.declared.calls.Call.{Call}
use Rattle.history.specs.declared.calls.Call.TheVariants.{Close}
use Rattle.std.proofs.Common.{◌≡◌, ◌≢◌, ◌^◌, ℕ, ◌<◌, ◌≤◌, inl, inr, true, Option, List, [], ◌∷◌, ◌++◌, Contains, get_or, is_some, set, slice_index, Some, None, refl, sym, ap}
use Rattle.std.proofs.Common.{append_assoc, subst, ◌∙◌, arith, append-nil}
use Rattle.std.specs.Prelude.{option_map}
use Rattle.std.proofs.lemmas.Bool.{cases_eq, true≢false}
use Rattle.std.proofs.lemmas.Option.{none-some, same_Some}
use Rattle.std.proofs.lemmas.List.{get_or-set_other}
use Rattle.std.proofs.lemmas.List.Elements.{All-cons, All-nil, All-append, Contains-push}
use mathlib.Core.Option.{some, some-injective}
use lib.ListN.{get_elem?}
use Rattle.atomic_table.specs.Table as Table
use Rattle.trie_words.specs.Codes.{root_code, IsRootWord}
use Rattle.trie_words.specs.declared.roots.RootWord.{RootWord as HandleWord}
use Rattle.trie_words.specs.declared.roots.RootWord.TheVariants as word
use Rattle.machine_model.specs.declared.operations.Operation.{Operation}
use Rattle.machine_model.specs.declared.steps.Step.{Step}
use Rattle.machine_model.specs.declared.steps.Step.TheVariants as step
use Rattle.machine_model.specs.Calls.{handle_of}
use Rattle.machine_model.specs.Keys.{FitsKey}
use Rattle.machine_model.specs.declared.roots.Descriptor.{Descriptor}
use Rattle.machine_model.specs.declared.roots.RootWord.TheVariants.{Offer, Plain}
use Rattle.machine_model.specs.States.{State, operation_of, handle_limit, root_at, word_at, word_of}
use Rattle.proof_waiting.specs.Beneath.proof_slots.specs.Unswept.{HasNoSweeps}
use Rattle.lock_free.specs.declared.accounts.Account.{Account}
use Rattle.lock_free.specs.declared.accounts.Known.{Known}
use Rattle.lock_free.specs.declared.rules.Closing.{Closing}
use Rattle.lock_free.specs.declared.rules.View.{View}
use Rattle.lock_free.specs.declared.sizes.Sizes.{Sizes}
use Rattle.lock_free.specs.Accounts.{bounds_for, state_of, HasWaited, IsOfOther}
use Rattle.lock_free.specs.Beginning.{Closes, closed_by}
use Rattle.lock_free.specs.Fates.{TellsFate}
use Rattle.lock_free.specs.Places.{pin_word, root_word}
use Rattle.lock_free.specs.Roots.{MeansRoot, IsPending, NoOffer, fate, undecided, open_with}
use Rattle.lock_free.specs.Rules.{IsClosing, SaysClosing, IsFree, IsHeld, IsSpare, Reserves, Names, NamesOffer, IsOpening, IsSeat, IsKept, latest, first_account}
use Rattle.lock_free.specs.Trying.{try_of, KeepsTries, as_before}
use Rattle.lock_free.proofs.Assembling.{AllStand, all_stand, closing_at, opening_stays, assembled}
use Rattle.lock_free.proofs.CellsStay.{cells_step, handle_before}
use Rattle.lock_free.proofs.Closers.{newest}
use Rattle.lock_free.proofs.Fates.{fate_said}
use Rattle.lock_free.proofs.Keeping.{meaning_kept}
use Rattle.lock_free.proofs.Meanings.{ran, reserved, reserves_on, marks_kept, stood_still}
use Rattle.lock_free.proofs.RootCodes.{kind, same_kind}
use Rattle.lock_free.proofs.RootFound.{said, slot_fits}
use Rattle.lock_free.proofs.RootSteps as root
use Rattle.lock_free.proofs.PlainStay.{names_none, plain_still}
use Rattle.lock_free.proofs.Seats.{idle_then as pinned_then, ran_so, Stays, StaysSpare, other_kept, own_else}
use Rattle.lock_free.proofs.Stood.{plain_not}
use Rattle.lock_free.proofs.Waiting.{grown_steps, waited_none, waited_more, quiet_more}
use Rattle.history.specs.declared.calls.Access.{Access}
use Rattle.machine_model.specs.Beneath.slot_arena.specs.declared.refs.Ref.{Ref}
use Rattle.machine_model.specs.Counting.{refs_of_root}
use Rattle.machine_model.specs.Machine.{begin_denial}
use Rattle.machine_model.proofs.Fates.{place_of_actor}
use Rattle.proof_garbage.proofs.Private.{private_along}
use Rattle.proof_memory.specs.Laws.{IsInUse}
use Rattle.lock_free.specs.declared.rules.Pinned.{Pinned}
use Rattle.lock_free.specs.Counts.{IsCount, references, references_in}
use Rattle.lock_free.specs.HandleWords.{owes_closed}
use Rattle.lock_free.specs.Holdings.{AreHeld, IsHere}
use Rattle.lock_free.specs.Live.{from_root, IsLive}
use Rattle.lock_free.specs.Owing.{owing}
use Rattle.lock_free.proofs.ClosedClaims.{close_fewer, close_less, close_let_go}
use Rattle.lock_free.proofs.CountWords.{handle_apart}
use Rattle.lock_free.proofs.GivenCounted.{given_counted, given_unlet}
use Rattle.lock_free.proofs.HeldGives.{held_gives}
use Rattle.lock_free.proofs.HeldLeads.{alike_slots}
use Rattle.lock_free.proofs.OneStep.Found.{live_used}
use Rattle.lock_free.proofs.SeatOwing.{seat_owing}
use Rattle.lock_free.proofs.HeldStep.{held_step}
use Rattle.lock_free.proofs.LinesStay.{lines_idle}
use Rattle.lock_free.proofs.HeldFrom.{live_from}
use Rattle.lock_free.proofs.PartingStay.{knows_still, names_kind, parted_still}

module _ (sizes : Sizes) (s : Table.State Call View) (kept : IsKept sizes s) (id : ℕ) (v : View) (at : get_elem? s.views id ≡ some v) (handle : ℕ) (low : handle < handle_limit) (looked : ℕ)
    (others : List Closing) (closing : v.closing ≡ record { handle = handle; looked = looked } ∷ others)
    (all_looked : sizes.seats ≤ looked) (says : SaysClosing (slice_index s.words (root_word handle)) v.actor)
    (outside : v.entered ≡ Some handle → ⊥) (idle : operation_of (state_of sizes kept.account) v.actor ≡ None) where
  abbrev now : State
  now = state_of sizes kept.account

  abbrev all : AllStand sizes kept.account kept.stands s.words
  all = all_stand sizes s kept

  seat : IsSeat sizes kept.account kept.stands s.words v
  seat = kept.seats id v at

  -- nobody is in a call on the handle
  closer : IsClosing s.views handle v.actor
  closer = kept.closings handle v.actor low says

  closing_is : closer.closing ≡ record { handle = handle; looked = looked }
  closing_is =
      let top = (kept.seats closer.id closer.view closer.at).top in let is = closer.its in
      let same : closer.id ≡ id = kept.alone closer.id id closer.view v v.actor closer.at at (omega (arith, is), omega (arith, is, top)) (omega arith, seat.top) in
      let mine : closer.view ≡ v = some-injective closer.view v (sym closer.at ∙ ap (λ n. get_elem? s.views n) same ∙ at) in
      same_Some closer.closing (record { handle = handle; looked = looked })
      (sym closer.is ∙ ap (λ (x : View). latest x.closing handle) mine ∙ ap (λ marks. latest marks handle) closing ∙ newest (record { handle = handle; looked = looked }) others)

  has_looked : closer.closing.looked ≡ looked
  has_looked = ap (λ (c : Closing). c.looked) closing_is

  pub nobody_inside : (other : ℕ) (w : View) → get_elem? s.views other ≡ some w → w.entered ≡ Some handle → ⊥
  nobody_inside other w e inside = elim (cases_eq other id) [
    | inl same ↦
        (let mine : w ≡ v = some-injective w v (sym e ∙ ap (λ n. get_elem? s.views n) same ∙ at) in outside (ap (λ (x : View). x.entered) (sym mine) ∙ inside))
    | inr apart ↦
        (let x = kept.seats other w e in
        let differs : w.actor ≢ v.actor =
        λ same. apart (kept.alone other id w v w.actor e at (omega arith, x.top) (let top = seat.top in (omega (arith, same), omega (arith, same, top)))) in
        let some : 1 ≤ closer.closing.looked = (let low = seat.low in let top = seat.top in let most = seat.most in omega (arith, low, top, most, all_looked, has_looked)) in
        let more = closer.none other w e inside differs (closer.clear (inr some) other w e inside differs) in omega (arith, more, has_looked, all_looked, x.top, x.most))
  ]

  pub nobody_runs : (a : ℕ) (o : Operation) → operation_of now a ≡ Some o → handle_of o.call ≢ handle
  nobody_runs a o e same =
      let it = kept.runners a o e in nobody_inside it.id it.view it.at ((kept.seats it.id it.view it.at).calls o (ap (operation_of now) it.its ∙ e) ∙ ap Some same)

  open_by : SaysClosing (slice_index s.words (root_word handle)) v.actor → is_some (root_at now handle) ≡ true
  open_by (inl h) = ap is_some (said sizes kept.account s.words kept.roots handle low (word.ClosingWritable h.0 v.actor) h.1 h.2).is
  open_by (inr h) = ap is_some (said sizes kept.account s.words kept.roots handle low (word.ClosingReadOnly h.0 v.actor) h.1 h.2).is

  pub is_open : is_some (root_at now handle) ≡ true
  is_open = open_by says

  -- its root stands by no offer
  no_offer_by : (d : Descriptor) → SaysClosing (slice_index s.words (root_word handle)) v.actor → word_at now handle ≡ Offer d → ⊥
  no_offer_by d (inl h) e =
      let x = said sizes kept.account s.words kept.roots handle low (word.ClosingWritable h.0 v.actor) h.1 h.2 in plain_not x.root d (sym (ap word_of x.is) ∙ e)
  no_offer_by d (inr h) e =
      let x = said sizes kept.account s.words kept.roots handle low (word.ClosingReadOnly h.0 v.actor) h.1 h.2 in plain_not x.root d (sym (ap word_of x.is) ∙ e)

  no_offer_here : (d : Descriptor) → word_at now handle ≡ Offer d → ⊥
  no_offer_here d = no_offer_by d says

  not_closed : (g : ℕ) → root_at now g ≡ None → g ≢ handle
  not_closed g shut same = true≢false (sym is_open ∙ ap (λ n. is_some (root_at now n)) (sym same) ∙ ap is_some shut)

  -- its word names no offer
  not_kind : (w : HandleWord) → IsRootWord w → kind w < 6 → SaysClosing (slice_index s.words (root_word handle)) v.actor → slice_index s.words (root_word handle) ≡ root_code w → ⊥
  not_kind w fits few (inl h) is = let same = same_kind w (word.ClosingWritable h.0 v.actor) fits h.1 (sym is ∙ h.2) in omega (arith, same, few)
  not_kind w fits few (inr h) is = let same = same_kind w (word.ClosingReadOnly h.0 v.actor) fits h.1 (sym is ∙ h.2) in omega (arith, same, few)

  -- ---- the exchange

  module _ (closes : Closes sizes kept.account v.actor handle) (may : begin_denial now v.actor (Close handle) None ≡ None) (access : Access) (its_root : Ref)
      (was : root_at now handle ≡ open_with access (Plain its_root)) where
    abbrev pub account_then : Account
    account_then = closed_by v.actor handle kept.account

    abbrev next : State
    next = state_of sizes account_then

    abbrev both : List Step
    both = step.Begin v.actor (Close handle) None ∷ step.Go v.actor ∷ []

    abbrev pub words_then : List ℕ
    words_then = set s.words (root_word handle) (root_code word.Closed)

    abbrev seen_then : View
    seen_then = record v { account = account_then }

    abbrev pub view_then : View
    view_then = owing seen_then (owes_closed v.pin its_root v.owed)

    keeps : KeepsTries kept.account.offers now next
    keeps = as_before (λ a. ap (λ o. option_map try_of o) (closes.operations a))

    root_beside : (g : ℕ) → g ≢ handle → slice_index words_then (root_word g) ≡ slice_index s.words (root_word g)
    root_beside = root.else_root sizes kept.account kept.stands s.words all handle low (root_code word.Closed)

    root_here : slice_index words_then (root_word handle) ≡ root_code word.Closed
    root_here = root.at_it sizes kept.account kept.stands s.words all handle low (root_code word.Closed)

    fates : (k : Known) → Contains kept.account.offers k → fate words_then k ≡ fate s.words k
    fates = root.fate_rooted sizes kept.account kept.stands s.words all handle low (root_code word.Closed)

    means_else : (g : ℕ) → g < handle_limit → MeansRoot kept.account words_then g (slice_index s.words (root_word g)) (root_at now g)
    means_else g below = root.meaning_rooted sizes kept.account kept.stands s.words all handle low (root_code word.Closed) g (slice_index s.words (root_word g)) (root_at now g)
        (kept.roots.means g below)

    means_all : (g : ℕ) → g < handle_limit → MeansRoot account_then words_then g (slice_index words_then (root_word g)) (root_at next g)
    means_all g below = elim (cases_eq g handle) [
      | inl same ↦ record {
        what = word.Closed;
        fits = tt;
        code = ap (λ n. slice_index words_then (root_word n)) same ∙ root_here;
        says = ap (root_at next) same ∙ closes.closed;
      }
      | inr differs ↦
          subst (λ n. MeansRoot account_then words_then g n (root_at next g)) (sym (root_beside g differs))
          (subst (λ r. MeansRoot account_then words_then g (slice_index s.words (root_word g)) r) (sym (closes.roots g differs))
          (meaning_kept kept.account account_then.steps words_then g (slice_index s.words (root_word g)) (root_at now g) (means_else g below)))
    ]

    k_fits : (k : Known) → Contains kept.account.offers k → k.slot < 2 ^ 27
    k_fits k c = slot_fits sizes s.words kept.range kept.taken k.slot (kept.roots.blocks k c)

    pending_all : (k : Known) → Contains kept.account.offers k → fate words_then k ≡ undecided → IsPending words_then k
    pending_all k c stands =
        root.pending_rooted sizes kept.account kept.stands s.words all handle low (root_code word.Closed) k (λ is. not_kind (word.Offered k.slot) (k_fits k c) (omega arith) says is)
        (λ is. not_kind (word.Opening k.slot) (k_fits k c) (omega arith) says is) (kept.roots.pending k c (sym (fates k c) ∙ stands))

    fates_all : (k : Known) → Contains kept.account.offers k → TellsFate sizes account_then k (fate words_then k)
    fates_all k c =
        fate_said sizes account_then k (fate s.words k) (fate words_then k) (fates k c)
        (closes.fates k (fate s.words k) (λ e same. no_offer_here k.offer (ap (word_at now) (sym same) ∙ e)) (kept.roots.fates k c))

    quiet : HasNoSweeps (kept.account.steps ++ both)
    quiet =
        subst HasNoSweeps (append_assoc kept.account.steps (step.Begin v.actor (Close handle) None ∷ []) (step.Go v.actor ∷ []))
        (quiet_more (kept.account.steps ++ step.Begin v.actor (Close handle) None ∷ []) (step.Go v.actor) (quiet_more kept.account.steps (step.Begin v.actor (Close handle) None) kept.quiet tt) tt)

    pub all_then : AllStand sizes account_then kept.stands words_then
    all_then = record {
      bounds = closes.leaves.bounds;
      keys = All-append FitsKey kept.account.steps both kept.keys
          (All-cons FitsKey (step.Begin v.actor (Close handle) None) (step.Go v.actor ∷ []) (omega arith) (All-cons FitsKey (step.Go v.actor) [] tt (All-nil FitsKey)));
      quiet = quiet;
      counted = kept.counted ∙ sym closes.leaves.births;
      size = root.size_rooted sizes kept.account kept.stands s.words all handle low (root_code word.Closed);
      taken = root.have_rooted sizes kept.account kept.stands s.words all handle low (root_code word.Closed);
      generations = root.generations_rooted sizes kept.account kept.stands s.words all handle low (root_code word.Closed) ∙ sym closes.leaves.generations;
      nodes = root.nodes_left sizes kept.account account_then.steps kept.account closes.leaves kept.stands words_then both refl kept.nodes.offers
          (root.nodes_rooted sizes kept.account kept.stands s.words all handle low (root_code word.Closed));
      roots = record {
        means = means_all;
        offers = λ k c. root.written_left sizes kept.account account_then.steps kept.account closes.leaves kept.stands words_then k
            (root.written_rooted sizes kept.account kept.stands s.words all handle low (root_code word.Closed) k c);
        blocks = λ k c. root.taken_rooted sizes kept.account kept.stands s.words all handle low (root_code word.Closed) 1 k.slot (omega arith) (kept.roots.blocks k c);
        single = kept.roots.single;
        tries = kept.roots.tries;
        stood = λ k c. stood_still sizes kept.account account_then both refl k.offer (kept.roots.stood k c);
        came = λ x c. stood_still sizes kept.account account_then both refl x.known.offer (kept.roots.came x c);
        parting = parted_still kept.account.offered kept.account.offers kept.account.parted s.words words_then
            (names_kind kept.account.offers s.words words_then handle word.Closed tt root_beside root_here (λ e. omega (arith, e)) (λ e. omega (arith, e))) kept.roots.parting;
        marks = marks_kept kept.account.offers now next keeps s.words words_then fates kept.roots.marks;
        fates = fates_all;
        pending = pending_all;
      };
    }

    waits : (actor : ℕ) (first : Account) → actor ≢ v.actor → HasWaited actor first kept.account → HasWaited actor first account_then
    waits actor first differs h =
        subst (λ names. HasWaited actor first (record account_then { names = names })) (append-nil kept.account.names)
        (waited_more actor first kept.account both [] [] []
        (All-cons (IsOfOther actor) (step.Begin v.actor (Close handle) None) (step.Go v.actor ∷ []) (λ e. differs (sym e))
        (All-cons (IsOfOther actor) (step.Go v.actor) [] (λ e. differs (sym e)) (All-nil (IsOfOther actor)))) h)

    held : (other : ℕ) (w : View) → get_elem? s.views other ≡ some w → (g : ℕ) → Reserves next w g → IsHeld next words_then g
    held other w e g r =
        let h = (kept.seats other w e).opens g (reserved kept.account.offers now next keeps w g r) in
        let differs = not_closed g h.closed in
        record { low = h.low; taken = λ none. h.taken (sym (root_beside g differs) ∙ none); closed = closes.roots g differs ∙ h.closed }

    spare_then : (name : ℕ) → IsSpare sizes kept.account kept.stands name → IsSpare sizes account_then kept.stands name
    spare_then name h = (λ k slot x. h.0 k slot (x.0, sym (closes.leaves.nodes k) ∙ x.1), h.1)

    spare_by : (other : ℕ) (w : View) (b name : ℕ) → get_elem? s.views other ≡ some w → IsFree w b name → StaysSpare sizes s kept id v at account_then kept.stands words_then b name
    spare_by other w b name e free =
        let h = (kept.seats other w e).spare b name free in
        (spare_then name h.1, root.slot_rooted sizes kept.account kept.stands s.words all handle low (root_code word.Closed) b name free.0 h.0)

    still_open : (other : ℕ) (w : View) → get_elem? s.views other ≡ some w → (g : ℕ) → w.entered ≡ Some g → is_some (root_at now g) ≡ true → is_some (root_at next g) ≡ true
    still_open other w e g inside was =
        ap is_some (closes.roots g (λ same. nobody_inside other w e (inside ∙ ap Some same))) ∙ was

    pin_same : (a : ℕ) → 1 ≤ a → slice_index words_then (pin_word a) ≡ slice_index s.words (pin_word a)
    pin_same = root.pin_rooted sizes kept.account kept.stands s.words all handle low (root_code word.Closed)

    named : (w : View) (g slot : ℕ) → Names s.words w g slot → slice_index words_then (root_word g) ≡ slice_index s.words (root_word g)
    named w g slot n = root_beside g (λ same. not_kind (word.Opening slot) n.fits (omega arith) says (ap (λ m. slice_index s.words (root_word m)) (sym same) ∙ n.is))

    stays : Stays sizes s kept id v at account_then kept.stands words_then
    stays = record {
      waits = waits;
      still = λ x h. h.still;
      others = λ a differs. ran_so now next a (closes.operations a);
      pins = λ a positive most differs. pin_same a positive;
      named = λ other w e apart g slot p n. named w g slot n;
      numbers = λ other w e apart. held other w e;
      still_open = still_open;
      taken = root.taken_rooted sizes kept.account kept.stands s.words all handle low (root_code word.Closed);
      spare = λ other w b name e apart free. spare_by other w b name e free;
      plain =
          plain_still sizes kept.account account_then kept.bounds both refl s.words words_then closes.operations
          (λ g below slot named. elim (cases_eq g handle) [
            | inl same ↦
                absurd (names_none word.Closed tt (λ e. omega (arith, e)) (λ e. omega (arith, e)) slot
                (subst (λ n. NamesOffer n slot) (ap (λ n. slice_index words_then (root_word n)) same ∙ root_here) named))
            | inr differs ↦ subst (λ n. NamesOffer n slot) (root_beside g differs) named
          ]);
      offering = knows_still kept.account.offered kept.account.offers kept.account.parted s.words words_then
          (names_kind kept.account.offers s.words words_then handle word.Closed tt root_beside root_here (λ e. omega (arith, e)) (λ e. omega (arith, e)));
    }

    idle_then : (o : Operation) → operation_of next v.actor ≡ Some o → ⊥
    idle_then o e = none-some o (sym idle ∙ sym (closes.operations v.actor) ∙ e)

    seat_then : IsSeat sizes account_then kept.stands words_then seen_then
    seat_then =
        own_else sizes s kept id v at account_then kept.stands words_then stays account_then (waited_none v.actor account_then)
        (λ a above below. waits a (first_account sizes) (λ is. absurd (omega (arith, above, is))) (seat.rested a above below)) all_then.counted v.pin v.entered v.closing v.opens v.opening
        (pin_same v.actor seat.low ∙ seat.pinned) (λ p is. pinned_then sizes s kept id v at account_then kept.stands words_then stays v.actor p (seat.pinned_idle p is))
        (λ g e. (let x = seat.entered g e in (x.0, still_open id v at g e x.1, x.2))) (λ o e. absurd (idle_then o e)) (held id v at)
        (λ o e. absurd (idle_then o e))
        (λ g slot o n. (let x = seat.opening g slot o n in record { low = x.low; fits = x.fits; is = named v g slot x ∙ x.is; free = x.free })) (λ b name free. spare_by id v b name at free)
        (stays.offering v.actor v.pin v.offer v.pool.parted seat.offering)

    own_then : IsSeat sizes account_then kept.stands words_then view_then
    own_then = seat_owing sizes account_then kept.stands words_then seen_then (owes_closed v.pin its_root v.owed) seat_then

    closed_says : (who : ℕ) → SaysClosing (root_code word.Closed) who → ⊥
    closed_says who (inl h) = let same = same_kind word.Closed (word.ClosingWritable h.0 who) tt h.1 h.2 in omega (arith, same)
    closed_says who (inr h) = let same = same_kind word.Closed (word.ClosingReadOnly h.0 who) tt h.1 h.2 in omega (arith, same)

    openings_then : (g slot : ℕ) → g < handle_limit → IsRootWord (word.Opening slot) → slice_index words_then (root_word g) ≡ root_code (word.Opening slot) → NoOffer account_then slot →
        IsOpening next (set s.views id view_then) g slot
    openings_then g slot below fits is nothing = elim (cases_eq g handle) [
      | inl same ↦
          (let wrong = same_kind word.Closed (word.Opening slot) tt fits (sym root_here ∙ ap (λ n. slice_index words_then (root_word n)) (sym same) ∙ is) in absurd (omega (arith, wrong)))
      | inr differs ↦
          opening_stays sizes s kept id v at view_then refl refl next g slot (λ r f. (reserves_on kept.account.offers now next keeps v g r, f))
          (λ other w e apart f r. reserves_on kept.account.offers now next keeps w g r) (kept.openings g slot below fits (sym (root_beside g differs) ∙ is) nothing)
    ]

    -- ---- claims

    few : v.actor ≤ sizes.seats
    few = let top = seat.top in let most = seat.most in omega (arith, top, most)

    same_counts : (c : ℕ) → IsCount sizes c → references words_then c ≡ references s.words c
    same_counts c is = ap references_in (get_or-set_other s.words (root_word handle) c (root_code word.Closed) 0 ((handle_apart sizes handle low).1 c is))

    -- where it doesn't hold the root, and where it does
    held_seen : AreHeld sizes account_then kept.stands words_then (set s.views id seen_then)
    held_seen =
        held_step sizes s kept id v at account_then (grown_steps kept.account account_then both refl refl) refl refl (alike_slots now next closes.leaves.nodes) closes.leaves.live
        (λ a o e r c. (o, sym (closes.operations a) ∙ e, c))
        (close_less sizes kept.account kept.bounds kept.keys v.actor handle few low idle may kept.stands)
        (λ k gone stood. inl (close_let_go sizes kept.account kept.bounds kept.keys v.actor handle few low idle may kept.stands k gone)) seen_then refl refl (λ k. omega arith)
        (lines_idle sizes s kept id v at account_then seen_then (λ a differs. closes.operations a) (closes.operations v.actor ∙ idle)) words_then same_counts

    root_lives : IsLive now its_root
    root_lives = from_root handle its_root (subst (λ r. Contains (refs_of_root r) its_root) (sym was) (Contains-push [] its_root))

    pub root_used : IsInUse now.heap its_root
    root_used = live_used sizes kept.account kept.bounds its_root root_lives

    root_stands : IsHere sizes account_then kept.stands its_root
    root_stands = ((alike_slots now next closes.leaves.nodes).stays its_root root_used, kept.nodes.live its_root root_lives)

    -- no operation has a root to itself
    root_known : (a : ℕ) (operation : Operation) → operation_of next a ≡ Some operation → Contains operation.private its_root → ⊥
    root_known a operation runs c =
        let (j, its, at_j) = place_of_actor now a operation (sym (closes.operations a) ∙ runs) in
        private_along (bounds_for sizes kept.account.steps) kept.bounds kept.account.steps j operation at_j its_root c
        (from_root handle its_root (subst (λ r. Contains (refs_of_root r) its_root) (sym was) (Contains-push [] its_root)))

    one_there : (k : Ref) → Contains (its_root ∷ []) k → its_root ≡ k
    one_there k (i, within, at_i) = let zero_is : i ≡ 0 = omega arith in subst (λ n. get_or (its_root ∷ []) n k ≡ k) zero_is at_i

    held_root : AreHeld sizes account_then kept.stands words_then (set s.views id (owing seen_then (its_root ∷ v.owed)))
    held_root =
        held_gives sizes account_then kept.stands words_then s.views id v at seen_then (its_root ∷ []) held_seen (λ k c. subst (IsHere sizes account_then kept.stands) (one_there k c) root_stands)
        (λ k c a o runs its. absurd (root_known a o runs (subst (λ r. Contains o.private r) (sym (one_there k c)) its)))
        (given_counted sizes s kept id v at account_then refl (alike_slots now next closes.leaves.nodes) words_then same_counts seen_then refl refl (its_root ∷ [])
        (close_fewer sizes kept.account kept.bounds kept.keys v.actor handle few low idle may kept.stands access its_root was))
        (λ k gone.
        given_unlet sizes s kept id v at account_then refl (alike_slots now next closes.leaves.nodes) words_then same_counts seen_then refl refl (its_root ∷ [])
        (close_fewer sizes kept.account kept.bounds kept.keys v.actor handle few low idle may kept.stands access its_root was) k
        (close_let_go sizes kept.account kept.bounds kept.keys v.actor handle few low idle may kept.stands k gone))
        (λ k from. kept.nodes.live k (live_from sizes s kept account_then (alike_slots now next closes.leaves.nodes).names (Contains (its_root ∷ []))
        (λ r c. subst (IsLive now) (one_there r c) root_lives) k from))

    held_by : (pin : Option Pinned) → AreHeld sizes account_then kept.stands words_then (set s.views id (owing seen_then (owes_closed pin its_root v.owed)))
    held_by None = held_seen
    held_by (Some pinned) = held_root

    held_closed : AreHeld sizes account_then kept.stands words_then (set s.views id view_then)
    held_closed = held_by v.pin

    pub close_kept : IsKept sizes (record { words = words_then; homes = s.homes; views = set s.views id view_then })
    close_kept =
        assembled sizes s kept id v at view_then refl refl account_then kept.stands words_then all_then
        (λ g who below marked. elim (cases_eq g handle) [
          | inl same ↦ absurd (closed_says who (subst (λ n. SaysClosing n who) (ap (λ n. slice_index words_then (root_word n)) same ∙ root_here) marked))
          | inr differs ↦
              closing_at sizes s kept id v at view_then refl refl g who (λ e. (e, refl)) (λ c is this its. is) (λ c. c)
              (kept.closings g who below (subst (λ n. SaysClosing n who) (root_beside g differs) marked))
        ]) own_then (other_kept sizes s kept id v at account_then kept.stands words_then stays) (λ b name f. inl f)
        (record {
          openings = openings_then;
          number = λ g r. inl (reserved kept.account.offers now next keeps v g r);
          others = λ other w e apart g r. reserved kept.account.offers now next keeps w g r;
          runners = λ a o e. inr (ran kept.account.offers now next keeps a o e);
        }) held_closed
        (cells_step sizes s kept id v at view_then account_then kept.stands (root_word handle) (root_code word.Closed) (handle_before sizes handle low)
        (handle_apart sizes handle low).1 stays.taken spare_then (λ b n f. f))
