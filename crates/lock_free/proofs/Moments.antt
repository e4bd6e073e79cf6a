-- What the rule says at the moment of an access: of the seat's operation, of nodes, and what a load leaves.
use Rattle.history.specs.declared.calls.Call.{Call}
use Rattle.std.proofs.Common.{◌≡◌, ◌+◌, ◌*◌, ◌<◌, ◌≤◌, ℕ, inl, inr, Bool, [], Contains, set, get_or, slice_index, length, Some, None, refl, sym, ap, subst, ◌∙◌, arith}
use Rattle.std.proofs.lemmas.List.{set-get_or}
use Rattle.std.proofs.lemmas.Option.{same_Some}
use mathlib.Core.Option.{some, none}
use lib.ListN.{get_elem?}
use Rattle.atomic_table.specs.Table.{Me, Allows, step, keeps}
use Rattle.atomic_table.specs.Table as Table
use Rattle.machine_model.specs.Beneath.slot_arena.specs.declared.refs.Ref.{Ref}
use Rattle.machine_model.specs.Beneath.slot_arena.specs.declared.nodes.Slot.{Slot}
use Rattle.machine_model.specs.Beneath.slot_arena.specs.Refs.{slot_of}
use Rattle.machine_model.specs.declared.operations.Operation.{Operation}
use Rattle.machine_model.specs.Acting.{operation_after}
use Rattle.machine_model.specs.Machine.{AreBounds}
use Rattle.machine_model.specs.Operations.{action_of}
use Rattle.machine_model.specs.States.{operation_of}
use Rattle.lock_free.specs.declared.accounts.Account.{Account}
use Rattle.lock_free.specs.declared.rules.Pinned.{Pinned}
use Rattle.lock_free.specs.declared.rules.View.{View}
use Rattle.lock_free.specs.declared.sizes.Sizes.{Sizes}
use Rattle.lock_free.specs.Accounts.{bounds_for, state_of, place_at, place_of, running, gone_on, OwnIs}
use Rattle.lock_free.specs.Links.{AreLinked, link_in}
use Rattle.lock_free.specs.Live.{at_hand, from_operation, IsLive}
use Rattle.lock_free.specs.Loading.{now, IsUsed, IsSound, seen, Waited, Took, has_seen, has_gone, Holds}
use Rattle.lock_free.specs.Nodes.{StandsAs, InTable, class_of}
use Rattle.lock_free.specs.Places.{words_in, words_of}
use Rattle.lock_free.specs.Shadows.{IsShadowed}
use Rattle.lock_free.specs.Rules.{AreEpochs, AreOwed, AreRetired, IsFree, IsKept, IsSeat}
use Rattle.lock_free.specs.Shadows.{IsShadowed}
use Rattle.lock_free.specs.Steps.{Reads}
use Rattle.lock_free.proofs.Asked.{in_use_made, live_in_use, nodes_stay}
use Rattle.lock_free.proofs.Assembling.{all_stand, closing_stays, numbers_stay, assembled}
use Rattle.lock_free.proofs.CellsStay.{cells_seen}
use Rattle.lock_free.proofs.Meanings.{no_tries}
use Rattle.lock_free.proofs.Definition.{IsReading, reads_of, waits, bounds_before}
use Rattle.lock_free.proofs.Framing.{class_small, first_word}
use Rattle.lock_free.proofs.Geometry.{end_inside}
use Rattle.lock_free.proofs.CountWords.{Apart, Beside, aside_so, count_same, elsewhere_so, slot_apart}
use Rattle.lock_free.proofs.Idle.{empty_has}
use Rattle.lock_free.proofs.OwedStay.{owed_same, owed_then}
use Rattle.lock_free.proofs.LinksStay.{linked_then}
use Rattle.lock_free.proofs.EpochStays.{Elsewhere, IsAsWas, epochs_stay, rest_of, rest_unpinned, stays_elsewhere, unpinned_as_was, was_then, rest_beside, beside_as_was}
use Rattle.lock_free.proofs.GoneSeats.{heard_still}
use Rattle.lock_free.proofs.LastingNodes.{place_stays, owns_in_front, same_entries, entry_lives, hand_by, same_hash}
use Rattle.lock_free.proofs.OneGlance.Shadowed.{AllowsRuled, Stays, lifted, stays_by}
use Rattle.lock_free.proofs.RetiredStay.{epoch_still, retired_then}
use Rattle.lock_free.proofs.Keeping.{keys_gone, kept_then}
use Rattle.lock_free.proofs.Waiting.{waited_none}
use Rattle.lock_free.proofs.HeldStill.{held_views}
use Rattle.lock_free.proofs.Lettings.{reading_takes}

-- An access is allowed where the rule holds after it, by the sizes that the seat knows.
module _ (sizes : Sizes) (size id : ℕ) (me : Me Call View) (word : ℕ) (f : ℕ → ℕ) (then : ℕ → Me Call View → Type 0) where
  abbrev pub after_it : Table.State Call View → View → Table.State Call View
  after_it s w = record { words = set s.words word (f (slice_index s.words word)); homes = s.homes; views = set s.views id w }

  abbrev pub CanBe : Type 0
  CanBe = (s : Table.State Call View) → IsKept me.0.sizes s → get_elem? s.views id ≡ some me.0 → (w : View) × IsKept me.0.sizes (after_it s w) × then (slice_index s.words word) (w, me.1)

  -- This is so of all that the access may find.
  abbrev pub Always : ((s : Table.State Call View) → IsKept me.0.sizes s → get_elem? s.views id ≡ some me.0 → Type 0) → Type 0
  Always Is = (s : Table.State Call View) (kept : IsKept me.0.sizes s) (at : get_elem? s.views id ≡ some me.0) → Is s kept at

  -- The seat wasn't given up, has heard of nobody more, and what the rule says of the epoch and of retired slots holds after it too.
  abbrev pub CanBeBy : Type 0
  CanBeBy = (s : Table.State Call View) → IsKept me.0.sizes s → AreEpochs s.words s.views → AreRetired me.0.sizes s.words s.views → AreOwed s.views →
      AreLinked me.0.sizes s.words s.views → get_elem? s.views id ≡ some me.0 →
      (w : View) × Stays sizes size id me word f then s w × IsKept me.0.sizes (after_it s w) × AreEpochs (after_it s w).words (after_it s w).views × AreRetired me.0.sizes
      (after_it s w).words (after_it s w).views
      × AreOwed (after_it s w).views × AreLinked me.0.sizes (after_it s w).words (after_it s w).views × (w.heard ≡ me.0.heard)
      × then (slice_index s.words word) (w, me.1)

  pub ruled_by : 1 ≤ me.0.sizes.seats → CanBeBy → AllowsRuled sizes size id me word f then
  ruled_by some_seats h s ruled at =
      let its = (ruled.kept.seats id me.0 at).same some_seats in
      let x = h s (subst (λ z. IsKept z s) (sym its) ruled.kept) ruled.epochs (subst (λ z. AreRetired z s.words s.views) (sym its) ruled.retired)
      ruled.owed (subst (λ z. AreLinked z s.words s.views) (sym its) ruled.linked) at in (
        x.0,
        keeps,
        x.1,
        tt,
        record {
          kept = subst (λ z. IsKept z (after_it s x.0)) its x.2;
          epochs = x.3;
          retired = subst (λ z. AreRetired z (after_it s x.0).words (after_it s x.0).views) its x.4;
          owed = x.5;
          linked = subst (λ z. AreLinked z (after_it s x.0).words (after_it s x.0).views) its x.6;
          heard = heard_still s.views id me.0 at some_seats x.0 x.7 ruled.heard;
        },
        x.8,
      )

  pub allowed_by : 1 ≤ me.0.sizes.seats → CanBeBy → Allows (IsShadowed sizes) size id me word f then
  allowed_by some_seats h = lifted sizes size id me word f then some_seats (ruled_by some_seats h)

  -- where the word isn't the epoch's, or has what it had
  epochs_then : (s : Table.State Call View) → get_elem? s.views id ≡ some me.0 → Elsewhere word f s.words → (w : View) → IsAsWas me.0 w → AreEpochs s.words s.views →
      AreEpochs (after_it s w).words (after_it s w).views
  epochs_then s at elsewhere w it h =
      epochs_stay s.words (after_it s w).words s.views (after_it s w).views (stays_elsewhere s.words word f elsewhere) (was_then s.views id me.0 at w it) h

  -- and where it has retired no more, and isn't pinned anew
  slots_then : (s : Table.State Call View) → get_elem? s.views id ≡ some me.0 → Elsewhere word f s.words → (w : View) → w.retired ≡ me.0.retired →
      ((p : Pinned) → w.pin ≡ Some p → me.0.pin ≡ Some p) → AreRetired me.0.sizes s.words s.views → AreRetired me.0.sizes (after_it s w).words (after_it s w).views
  slots_then s at elsewhere w same pin h =
      retired_then s.views id me.0 at w same pin me.0.sizes s.words (after_it s w).words (epoch_still s.words (after_it s w).words (stays_elsewhere s.words word f elsewhere)) h

  -- and where it holds what it held
  owes_then : (s : Table.State Call View) → get_elem? s.views id ≡ some me.0 → (w : View) → rest_of w ≡ rest_of me.0 → AreOwed s.views → AreOwed (after_it s w).views
  owes_then s at w same h = owed_same s.views id me.0 at w (ap (λ r. r.6) same) (ap (λ r. r.4) same) (ap (λ r. r.5) same) h

  -- and where it knows the links that it knew
  links_then : (s : Table.State Call View) → get_elem? s.views id ≡ some me.0 → Beside me.0.sizes word f s.words → (w : View) → w.retired ≡ me.0.retired → w.links ≡ me.0.links →
      AreLinked me.0.sizes s.words s.views → AreLinked me.0.sizes (after_it s w).words (after_it s w).views
  links_then s at beside w retired links h =
      linked_then s.views id me.0 at w links (λ x c. subst (λ xs. Contains xs x) (sym retired) c) me.0.sizes s.words (after_it s w).words
      (λ c is. ap link_in (count_same me.0.sizes word f s.words beside c is)) h

  -- where it holds other references then, of nodes to which its operation leads, all else stays as above
  pub ruled_giving : 1 ≤ me.0.sizes.seats → Always (λ s kept at. Beside me.0.sizes word f s.words) → (h : CanBe) → Always (λ s kept at. rest_beside (h s kept at).0 ≡ rest_beside me.0) →
      Always (λ s kept at. AreRetired me.0.sizes s.words s.views → AreOwed s.views → AreOwed (set s.views id (h s kept at).0)) → AllowsRuled sizes size id me word f then
  ruled_giving some_seats beside h same owes =
      ruled_by some_seats
      (λ s kept epochs retired owed linked at. (let x = h s kept at in (
        x.0,
        stays_by sizes size id me word f then s (aside_so me.0.sizes word f s.words (beside s kept at)) x.0 (beside_as_was me.0 x.0 (same s kept at)),
        x.1,
        epochs_then s at (elsewhere_so me.0.sizes word f s.words (beside s kept at)) x.0 (beside_as_was me.0 x.0 (same s kept at)) epochs,
        slots_then s at (elsewhere_so me.0.sizes word f s.words (beside s kept at)) x.0 (ap (λ r. r.5) (same s kept at)) (beside_as_was me.0 x.0 (same s kept at)).pinned retired,
        owes s kept at retired owed,
        links_then s at (beside s kept at) x.0 (ap (λ r. r.5) (same s kept at)) (ap (λ r. r.7) (same s kept at)) linked,
        ap (λ r. r.0) (same s kept at),
        x.2,
      )))

  pub ruled_owing : 1 ≤ me.0.sizes.seats → Always (λ s kept at. Beside me.0.sizes word f s.words) → (h : CanBe) → Always (λ s kept at. rest_beside (h s kept at).0 ≡ rest_beside me.0) →
      Always (λ s kept at. AreOwed s.views → AreOwed (set s.views id (h s kept at).0)) → AllowsRuled sizes size id me word f then
  ruled_owing some_seats beside h same owes = ruled_giving some_seats beside h same (λ s kept at retired owed. owes s kept at owed)

  pub ruled_still : 1 ≤ me.0.sizes.seats → Always (λ s kept at. Beside me.0.sizes word f s.words) → (h : CanBe) → Always (λ s kept at. rest_of (h s kept at).0 ≡ rest_of me.0) →
      AllowsRuled sizes size id me word f then
  ruled_still some_seats beside h same =
      ruled_owing some_seats beside h (λ s kept at. ap (λ r. (r.0, r.1, r.2, r.3, r.4, r.5, [], r.7, r.8)) (same s kept at)) (λ s kept at. owes_then s at (h s kept at).0 (same s kept at))

  -- the seat isn't pinned then, and holds no reference
  pub ruled_unpinned : 1 ≤ me.0.sizes.seats → Always (λ s kept at. Beside me.0.sizes word f s.words) → (h : CanBe) →
      Always (λ s kept at. rest_of (h s kept at).0 ≡ rest_unpinned me.0) → AllowsRuled sizes size id me word f then
  ruled_unpinned some_seats beside h same =
      ruled_by some_seats
      (λ s kept epochs retired owed linked at. (let x = h s kept at in (
        x.0,
        stays_by sizes size id me word f then s (aside_so me.0.sizes word f s.words (beside s kept at)) x.0 (unpinned_as_was me.0 x.0 (same s kept at)),
        x.1,
        epochs_then s at (elsewhere_so me.0.sizes word f s.words (beside s kept at)) x.0 (unpinned_as_was me.0 x.0 (same s kept at)) epochs,
        slots_then s at (elsewhere_so me.0.sizes word f s.words (beside s kept at)) x.0 (ap (λ r. r.5) (same s kept at)) (unpinned_as_was me.0 x.0 (same s kept at)).pinned retired,
        owed_then s.views id me.0 at x.0 (λ k c. absurd (empty_has k (subst (λ ks. Contains ks k) (ap (λ r. r.6) (same s kept at)) c)))
            (λ y c. subst (λ ys. Contains ys y) (ap (λ r. r.5) (same s kept at)) c) owed,
        links_then s at (beside s kept at) x.0 (ap (λ r. r.5) (same s kept at)) (ap (λ r. r.7) (same s kept at)) linked,
        ap (λ r. r.0) (same s kept at),
        x.2,
      )))

  pub allowed_giving : 1 ≤ me.0.sizes.seats → Always (λ s kept at. Beside me.0.sizes word f s.words) → (h : CanBe) → Always (λ s kept at. rest_beside (h s kept at).0 ≡ rest_beside me.0) →
      Always (λ s kept at. AreRetired me.0.sizes s.words s.views → AreOwed s.views → AreOwed (set s.views id (h s kept at).0)) → Allows (IsShadowed sizes) size id me word f then
  allowed_giving some_seats beside h same owes = lifted sizes size id me word f then some_seats (ruled_giving some_seats beside h same owes)

  pub allowed_owing : 1 ≤ me.0.sizes.seats → Always (λ s kept at. Beside me.0.sizes word f s.words) → (h : CanBe) → Always (λ s kept at. rest_beside (h s kept at).0 ≡ rest_beside me.0) →
      Always (λ s kept at. AreOwed s.views → AreOwed (set s.views id (h s kept at).0)) → Allows (IsShadowed sizes) size id me word f then
  allowed_owing some_seats beside h same owes = lifted sizes size id me word f then some_seats (ruled_owing some_seats beside h same owes)

  pub allowed : 1 ≤ me.0.sizes.seats → Always (λ s kept at. Beside me.0.sizes word f s.words) → (h : CanBe) → Always (λ s kept at. rest_of (h s kept at).0 ≡ rest_of me.0) → Allows
      (IsShadowed sizes) size id me word f then
  allowed some_seats beside h same = lifted sizes size id me word f then some_seats (ruled_still some_seats beside h same)

module _ (v : View) (s : Table.State Call View) (kept : IsKept v.sizes s) (id : ℕ) (at : get_elem? s.views id ≡ some v) where
  abbrev pub there : Account
  there = kept.account

  pub seat : IsSeat v.sizes there kept.stands s.words v
  seat = kept.seats id v at

  -- ---- the seat's account, and the present one

  pub before : AreBounds (bounds_for v.sizes v.account.steps)
  before = bounds_before v.sizes v.account there seat.waited kept.bounds

  pub made : (k : ℕ) (slot : Slot) → get_or (now v).heap.slots k None ≡ Some slot → k < length v.account.names
  made k slot is = let low = in_use_made v.sizes v.account before k slot is in let counts = seat.counts in omega (arith, low, counts)

  pub same_place : (k : ℕ) (slot : Slot) → get_or (now v).heap.slots k None ≡ Some slot → place_at there k ≡ place_at v.account k
  same_place k slot is = ap (λ xs. get_or xs k 0) seat.waited.more_names ∙ place_stays v.account.names seat.waited.names k (made k slot is)

  -- what is free for the seat is the table's
  pub free_inside : (class name : ℕ) → IsFree v class name → 2 * name + words_in class ≤ words_of v.sizes
  free_inside class name free = end_inside v.sizes s.words kept.taken class name free.0 (seat.spare class name free).0

  pub waited_so : Waited v there
  waited_so = record {
    waited = seat.waited;
    sound = record { size = refl; range = kept.range.within; bounds = kept.bounds; keys = kept.keys; counted = kept.counted; inside = kept.nodes.inside; free = free_inside };
    stays = λ o runs. waits v.sizes v.actor v.account there seat.waited kept.bounds o runs;
  }

  -- ---- nodes

  pub stands_there : (r : Ref) (slot : Slot) → IsLive (state_of v.sizes there) r → get_or (state_of v.sizes there).heap.slots (slot_of r) None ≡ Some slot →
      StandsAs there (state_of v.sizes there) (InTable s.words) (place_of there r) (slot_of r) slot slot.node
  stands_there r slot live is = kept.nodes.written (slot_of r) slot (kept.nodes.live r live, is)

  -- a node that was in use, and is live there
  pub record IsThere (r : Ref) : Type 0 where
    pub was : Slot
    pub was_used : IsUsed v r was
    pub was_live : IsLive (now v) r
    pub lives : IsLive (state_of v.sizes there) r
    pub slot : Slot
    pub used : get_or (state_of v.sizes there).heap.slots (slot_of r) None ≡ Some slot

  pub is_there : (r : Ref) → IsLive (now v) r → IsLive (state_of v.sizes there) r → IsThere r
  is_there r first second =
      let was = live_in_use v.sizes v.account before r first in
      let is = live_in_use v.sizes there kept.bounds r second in
      record { was = was.0; was_used = was.1; was_live = first; lives = second; slot = is.0; used = is.1 }

  -- its place is the one that the seat knows
  pub its_place : (r : Ref) → IsThere r → place_of there r ≡ place_of v.account r
  its_place r h = same_place (slot_of r) h.was h.was_used

  pub node_apart : (r : Ref) → IsThere r → (word : ℕ) → word ≡ 2 * place_of v.account r → Apart v.sizes word
  node_apart r h word is =
      subst (Apart v.sizes) (ap (λ n. 2 * n) (its_place r h) ∙ sym is)
      (slot_apart v.sizes s.words kept.taken (class_of h.slot.node) (place_of there r) (2 * place_of there r) (class_small h.slot.node)
      (kept.nodes.within (slot_of r) h.slot (kept.nodes.live r h.lives, h.used)) (first_word h.slot.node (place_of there r)))

  -- nor is one that is free for the seat
  pub own_apart : (class name : ℕ) → IsFree v class name → (word : ℕ) → 2 * name ≤ word → word < 2 * name + words_in class → Apart v.sizes word
  own_apart class name free word low high = slot_apart v.sizes s.words kept.taken class name word free.0 (seat.spare class name free).0 (record { low = low; high = high })

  -- so is that of each node that was live
  pub live_place : (r : Ref) → IsLive (now v) r → place_of there r ≡ place_of v.account r
  live_place r live = let is = live_in_use v.sizes v.account before r live in same_place (slot_of r) is.0 is.1

  -- whose own a node was it is
  pub still_own : (k m : ℕ) (b : Bool) → OwnIs v.account.owned k m b → OwnIs there.owned k m b
  still_own k m b h = subst (λ xs. OwnIs xs k m b) (sym seat.waited.more_owned) (owns_in_front seat.waited.owned v.account.owned k m b h)

  module _ (o : Operation) (runs : running v.sizes v.account v.actor o) where
    hand_lives : (r : Ref) → Contains (at_hand (now v) o) r → IsLive (now v) r × IsLive (state_of v.sizes there) r
    hand_lives r c =
        let here = waited_so.stays o runs in (
          from_operation v.actor o r runs tt c,
          from_operation v.actor (record o { is_marked = here.0 }) r here.1 tt (subst (λ h. Contains (hand_by h o) r) (same_hash v.sizes v.account there) c),
        )

  pub held_there : (r : Ref) → Holds v r → IsThere r
  held_there r (o, runs, inl c) = let x = hand_lives o runs r c in is_there r x.0 x.1
  held_there r (o, runs, inr (main, slot, c, is, e)) =
      let x = hand_lives o runs main c in
      let now_is = nodes_stay v.sizes v.actor v.account there seat.waited kept.bounds (slot_of main) slot is in
      is_there r (entry_lives v.sizes v.account main r slot x.0 is e)
      (entry_lives v.sizes there main r now_is.0 x.1 now_is.1 (subst (λ xs. Contains xs r) (sym (same_entries slot.node now_is.0.node now_is.2)) e))

  -- its operation's step was taken where it then is on the next line
  pub took_by : (o : Operation) → running v.sizes there v.actor o → (account : Account) → operation_of (state_of v.sizes account) v.actor ≡ Some (operation_after (state_of v.sizes there) o) →
      Took v there (seen v account)
  took_by o runs account own q runs_q = own ∙ ap (λ x. Some (operation_after (state_of v.sizes there) x)) (same_Some o q (sym runs ∙ runs_q))

  -- ---- a load that is no step

  abbrev pub seen_view : View
  seen_view = seen v there

  seen_seat : IsSeat v.sizes there kept.stands s.words seen_view
  seen_seat = record {
    same = λ some. refl;
    low = seat.low;
    top = seat.top;
    most = seat.most;
    waited = waited_none v.actor there;
    counts = kept.counted;
    rested = seat.rested;
    rests = seat.rests;
    pinned = seat.pinned;
    pinned_idle = seat.pinned_idle;
    retired = seat.retired;
    entered = seat.entered;
    calls = seat.calls;
    opens = seat.opens;
    opening = λ handle slot o n. (let x = seat.opening handle slot o n in record { low = x.low; fits = x.fits; is = x.is; free = x.free });
    reserves = seat.reserves;
    spare = seat.spare;
    once = seat.once;
    drafts = seat.drafts;
    plain = seat.plain;
    offering = seat.offering;
  }

  pub seen_kept : IsKept v.sizes (record { words = s.words; homes = s.homes; views = set s.views id seen_view })
  seen_kept =
      assembled v.sizes s kept id v at seen_view refl refl there kept.stands s.words (all_stand v.sizes s kept)
      (λ handle who low says. closing_stays v.sizes s kept id v at seen_view refl refl (λ h e. (e, refl)) refl (λ c. c) handle who (kept.closings handle who low says)) seen_seat
      (λ other w e apart. kept.seats other w e) (λ b n f. inl f)
      (numbers_stay v.sizes s kept id v at seen_view refl refl there s.words (no_tries there.offers (state_of v.sizes there)) (λ slot none. none) (λ handle low. refl) refl
      (λ slot handle e free. free)) (held_views v.sizes s kept id v at seen_view refl refl refl) (cells_seen v.sizes s kept id v at seen_view (λ b n f. f))

  -- ---- a load that is the operation's step

  module _ (o : Operation) (runs : running v.sizes v.account v.actor o) (reading : IsReading (action_of (now v) o)) where
    here : (mark : Bool) × running v.sizes there v.actor (record o { is_marked = mark }) × (action_of (state_of v.sizes there) (record o { is_marked = mark }) ≡ action_of (now v) o)
    here = waited_so.stays o runs

    abbrev o_there : Operation
    o_there = record o { is_marked = here.0 }

    reads : Reads v.sizes there v.actor o_there
    reads = reads_of v.sizes there kept.bounds v.actor o_there here.1 (subst IsReading (sym here.2) reading)

    abbrev pub gone_view : View
    gone_view = seen v (gone_on v.actor there)

    pub gone_kept : IsKept v.sizes (record { words = s.words; homes = s.homes; views = set s.views id gone_view })
    gone_kept =
        kept_then v.sizes s kept id v at o_there here.1 reads (reading_takes kept.stands (state_of v.sizes there) o_there (action_of (state_of v.sizes there) o_there)
        (subst IsReading (sym here.2) reading))

    pub gone_sound : IsSound (words_of v.sizes) gone_view
    gone_sound = record {
      size = refl;
      range = kept.range.within;
      bounds = reads.bounds;
      keys = keys_gone there.steps v.actor kept.keys;
      counted = kept.counted ∙ sym reads.births;
      inside = λ k slot e. kept.nodes.inside k slot
          (sym (reads.nodes k) ∙ e);
      free = free_inside;
    }

    pub gone_took : Took v there gone_view
    gone_took = took_by o_there here.1 (gone_on v.actor there) reads.own

-- ---- loads are allowed

module _ (sizes : Sizes) (size id : ℕ) (me : Me Call View) (word : ℕ) where
  unchanged : (s : Table.State Call View) (w : View) → IsKept me.0.sizes (record { words = s.words; homes = s.homes; views = set s.views id w }) →
      IsKept me.0.sizes (record { words = set s.words word (slice_index s.words word); homes = s.homes; views = set s.views id w })
  unchanged s w h = subst (λ ws. IsKept me.0.sizes (record { words = ws; homes = s.homes; views = set s.views id w })) (sym (set-get_or s.words word 0)) h

  pub load_ruled : 1 ≤ me.0.sizes.seats → AllowsRuled sizes size id me word (λ n. n) (has_seen (step size word 0 0 none) me)
  load_ruled some_seats =
      ruled_still sizes size id me word (λ n. n) (has_seen (step size word 0 0 none) me)
      some_seats (λ s kept at. inr refl)
      (λ s kept at. (
        seen_view me.0 s kept id at,
        unchanged s (seen_view me.0 s kept id at) (seen_kept me.0 s kept id at),
        ((record { table = s; kept = kept; id = id; at = at; finds = refl }, refl), (waited_so me.0 s kept id at).sound, refl),
      ))
      (λ s kept at. refl)

  pub load_allowed : 1 ≤ me.0.sizes.seats → Allows (IsShadowed sizes) size id me word (λ n. n) (has_seen (step size word 0 0 none) me)
  load_allowed some_seats = lifted sizes size id me word (λ n. n) (has_seen (step size word 0 0 none) me) some_seats (load_ruled some_seats)

  pub go_ruled : 1 ≤ me.0.sizes.seats → (o : Operation) → running me.0.sizes me.0.account me.0.actor o → IsReading (action_of (now me.0) o) → AllowsRuled sizes size id me word (λ n. n)
      (has_gone (step size word 0 0 none) me)
  go_ruled some_seats o runs reading =
      ruled_still sizes size id me word (λ n. n) (has_gone (step size word 0 0 none) me)
      some_seats (λ s kept at. inr refl)
      (λ s kept at. (
        gone_view me.0 s kept id at o runs reading,
        unchanged s (gone_view me.0 s kept id at o runs reading) (gone_kept me.0 s kept id at o runs reading),
        ((record { table = s; kept = kept; id = id; at = at; finds = refl }, refl, gone_took me.0 s kept id at o runs reading), gone_sound me.0 s kept id at o runs reading, refl),
      ))
      (λ s kept at. refl)

  pub go_allowed : 1 ≤ me.0.sizes.seats → (o : Operation) → running me.0.sizes me.0.account me.0.actor o → IsReading (action_of (now me.0) o) → Allows (IsShadowed sizes) size id me word (λ n. n)
      (has_gone (step size word 0 0 none) me)
  go_allowed some_seats o runs reading = lifted sizes size id me word (λ n. n) (has_gone (step size word 0 0 none) me) some_seats (go_ruled some_seats o runs reading)
