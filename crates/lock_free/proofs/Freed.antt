-- The slot of a node that had no reference any more is free for its seat, which holds what the node held: the rule is kept.
use Rattle.history.specs.declared.calls.Call.{Call}
use Rattle.std.proofs.Common.{◌≡◌, ◌≢◌, ◌+◌, ◌*◌, ◌%◌, ◌^◌, ◌<◌, ◌≤◌, inl, inr, ℕ, true, List, Contains, Some, None}
use Rattle.std.proofs.Common.{get_or, set, slice_index, refl, sym, ap, subst, ◌∙◌, arith}
use Rattle.std.proofs.lemmas.Bool.{cases_Bool, cases_eq}
use Rattle.std.proofs.lemmas.List.{get_or-set_same, get_or-set_other, set-set}
use Rattle.std.proofs.lemmas.List.Elements.{Contains-append_cases, Contains-append_right}
use Rattle.std.proofs.lemmas.Option.{same_Some}
use mathlib.Core.Option.{some}
use lib.ListN.{get_elem?}
use Rattle.atomic_table.proofs.Lists.{at_set, set_here}
use Rattle.atomic_table.specs.Table as Table
use Rattle.machine_model.specs.Beneath.slot_arena.specs.declared.nodes.Slot.{Slot}
use Rattle.machine_model.specs.Beneath.slot_arena.specs.declared.refs.Ref.{Ref}
use Rattle.machine_model.specs.Beneath.slot_arena.specs.Heaps.{node_at, refs_of_node}
use Rattle.machine_model.specs.Beneath.slot_arena.specs.Refs.{slot_of}
use Rattle.machine_model.specs.Calls.{handle_of}
use Rattle.machine_model.specs.declared.operations.Operation.{Operation}
use Rattle.machine_model.specs.States.{State, operation_of}
use Rattle.machine_model.proofs.Grown.{node_standing}
use Rattle.proof_claims.specs.Claims.{Has}
use Rattle.proof_claims.specs.Held.{OfNode}
use Rattle.proof_memory.specs.Laws.{IsInUse}
use Rattle.proof_memory.proofs.Safety.AtEachTime.{safe_along}
use Rattle.proof_claims.specs.Beneath.proof_reuse.specs.Beneath.proof_followed.proofs.Live.{followed_known}
use Rattle.proof_claims.specs.Beneath.proof_reuse.specs.Beneath.proof_followed.specs.Followed.{IsFollowedByAny}
use Rattle.lock_free.specs.declared.rules.Pinned.{Pinned}
use Rattle.lock_free.specs.declared.rules.Retired.{Retired}
use Rattle.lock_free.specs.declared.rules.View.{View}
use Rattle.lock_free.specs.Accounts.{bounds_for, place_at, place_of, state_of}
use Rattle.lock_free.specs.Calling.{IsRunning}
use Rattle.lock_free.specs.Claims.{held_now}
use Rattle.lock_free.specs.Counts.{IsCount, references_in}
use Rattle.lock_free.specs.Freeing.{freeing, held_by}
use Rattle.lock_free.specs.Holdings.{AreHeld, IsHere, count_of}
use Rattle.lock_free.specs.Links.{AreLinked, link_in}
use Rattle.lock_free.specs.Live.{IsLive, from_operation, line_claims, refs_of_claims}
use Rattle.lock_free.specs.Nodes.{class_of}
use Rattle.lock_free.specs.Places.{count_word, words_in}
use Rattle.lock_free.specs.Rules.{AreEpochs, AreOwed, AreRetired, IsKept, IsRetired}
use Rattle.lock_free.proofs.Assembling.{within}
use Rattle.lock_free.proofs.CellsStay.{beside_cell, count_before, links_loosen_none}
use Rattle.lock_free.proofs.CountKept.{all_then, else_same, root_same, seats_then, taken_then}
use Rattle.lock_free.proofs.CountWords.{count_beside, count_beside_slots, count_inside, count_not_epoch, count_not_glance, Aside, IsBesideSlots}
use Rattle.lock_free.proofs.Drafts.{left}
use Rattle.lock_free.proofs.EpochStays.{epoch_in, epochs_stay, stays_elsewhere, was_then}
use Rattle.lock_free.proofs.HeldFreed as freed
use Rattle.lock_free.proofs.HeldStill.{here_count}
use Rattle.lock_free.proofs.Knowing.{from_is, words_from}
use Rattle.lock_free.proofs.LinksStay.{SameLinks, linked_then}
use Rattle.lock_free.proofs.Moments.{waited_so}
use Rattle.lock_free.proofs.NamedHeld.{deep_names, private_held, shallow_unheld}
use Rattle.lock_free.proofs.OneStep.Found.{slot_at}
use Rattle.lock_free.proofs.OneStep.Retired.{retired_used}
use Rattle.lock_free.proofs.Reclaimable.{not_live}
use Rattle.lock_free.proofs.Reclaimed.{reclaim_kept, reclaim_linked, reclaim_retired}
use Rattle.lock_free.proofs.RetiredSlots.{place_still, retired_small, retired_taken, stands_still}
use Rattle.lock_free.proofs.Waiting.{waited_none}
use Rattle.lock_free.specs.Reached.{HoldsNamed}

-- ---- a count of none becomes one

one_more : (found : ℕ) → references_in found ≡ 0 → references_in ((found + 2 ^ 32) % 2 ^ 64) ≡ 1
one_more found none = omega (arith, none)

more_link : (found : ℕ) → link_in ((found + 2 ^ 32) % 2 ^ 64) ≡ link_in found
more_link found = omega arith

-- ---- the slot

module _ (v : View) (running : IsRunning v) (x : Retired) (c : Contains v.retired x) (late : x.stamp + 3 ≤ v.epoch) (deep : x.deep ≡ true) (s : Table.State Call View) (kept : IsKept v.sizes s)
    (epochs : AreEpochs s.words s.views) (old : AreRetired v.sizes s.words s.views) (owed : AreOwed s.views) (linked : AreLinked v.sizes s.words s.views) (id : ℕ)
    (at : get_elem? s.views id ≡ some v) where
  abbrev state : State
  state = state_of v.sizes kept.account

  abbrev is : IsRetired v.sizes kept.account kept.stands x
  is = (kept.seats id v at).retired x c

  abbrev pub node : Ref
  node = ((kept.seats id v at).retired x c).was.node

  ripe : x.stamp + 3 ≤ epoch_in s.words
  ripe = let seen = epochs.seen id v at in omega (arith, seen, late)

  pub used : IsInUse state.heap node
  used = retired_used v.sizes kept.account kept.bounds kept.quiet x is.was is.grown

  pub stood : kept.stands (slot_of node) ≡ true
  stood = ap kept.stands is.was.number ∙ is.still

  here : IsHere v.sizes kept.account kept.stands node
  here = (used, stood)

  pub dead : ¬ IsLive state node
  dead live = not_live v.sizes s kept epochs old id v at x c ripe node live is.was.number

  pub unfollowed : ¬ IsFollowedByAny state node
  unfollowed f = dead (followed_known state (safe_along (bounds_for v.sizes kept.account.steps) kept.bounds kept.account.steps) (λ n. Unit {0}) f)

  pub its_place : place_of kept.account node ≡ x.name
  its_place = ap (place_at kept.account) is.was.number ∙ place_still v.sizes s kept id v at x c

  -- what stands under it is what stands in the slot
  pub one_slot : used.0 ≡ (stands_still v.sizes s kept id v at x c).0
  one_slot =
      let there = stands_still v.sizes s kept id v at x c in
      same_Some used.0 there.0 (sym (slot_at state.heap node used.0 used.1) ∙ ap (λ n. get_or state.heap.slots n None) is.was.number ∙ there.1)

  pub its_class : class_of used.0.node ≡ x.class
  its_class = ap (λ (z : Slot). class_of z.node) one_slot ∙ (stands_still v.sizes s kept id v at x c).2

  abbrev pub word : ℕ
  word = count_of v.sizes kept.account node

  pub word_is : word ≡ count_word v.sizes x.class x.name
  word_is =
      ap (λ n. count_word v.sizes (class_of n) (place_of kept.account node)) (node_standing state.heap node used.0 used.1) ∙ ap (λ b. count_word v.sizes b (place_of kept.account node)) its_class
      ∙ ap (count_word v.sizes x.class) its_place

  is_count : IsCount v.sizes word
  is_count = here_count v.sizes s kept node here

  pub aside : Aside (count_word v.sizes x.class x.name) (λ n. (n + 2 ^ 32) % 2 ^ 64) s.words
  aside = inl (count_not_glance v.sizes (count_word v.sizes x.class x.name) (subst (IsCount v.sizes) word_is is_count))

  no_slots : IsBesideSlots v.sizes s.words word
  no_slots = count_beside_slots v.sizes s.words kept.taken word is_count

  abbrev pub new : ℕ
  new = (slice_index s.words word + 2 ^ 32) % 2 ^ 64

  one : references_in new ≡ 1
  one = one_more (slice_index s.words word) (kept.held.dead id v at x c deep node here is.was.number)

  abbrev words_then : List ℕ
  words_then = set s.words word new

  abbrev pub known : List (ℕ × ℕ)
  known = words_from s.words (2 * x.name) (words_in x.class)

  abbrev pub gives : List Ref
  gives = held_by (refs_of_node (node_at state.heap node)) node (held_now v.sizes kept.account).claims

  abbrev pub then : View
  then = freeing v kept.account x.class x.name node known

  pub unshared : (k : Ref) → Has (held_now v.sizes kept.account) (OfNode node) k → (a : ℕ) (o : Operation) → operation_of state a ≡ Some o → ¬ Contains o.private k
  unshared k has a o runs private =
      dead (from_operation a o node runs tt (Contains-append_right (refs_of_claims (line_claims state o)) o.private node (private_held v.sizes s kept node k has a o runs private)))

  named : (k : Ref) → HoldsNamed v.sizes kept.account node k →
      (kept.stands (slot_of k) ≡ true) × ((a : ℕ) (o : Operation) → operation_of state a ≡ Some o → ¬ Contains o.private k)
  named k holds = (deep_names v.sizes s kept id v at x c deep k holds, unshared k holds.0)

  apart : (other : ℕ) (w : View) → get_elem? s.views other ≡ some w → (y : Retired) → Contains w.retired y → y.number ≡ x.number → (other ≡ id) × (y.name ≡ x.name)
  apart other w e y there same = (
    old.apart other id w v e at y x there c same,
    sym (place_still v.sizes s kept other w e y there) ∙ ap (place_at kept.account) same ∙ place_still v.sizes s kept id v at x c,
  )

  -- ---- the rule

  held_then : AreHeld v.sizes kept.account (freed.stands_then v.sizes s kept id v at x c deep known new one named apart) words_then (set s.views id then)
  held_then = freed.held_freed v.sizes s kept id v at x c deep known new one named apart

  says : (d : ℕ × ℕ) → Contains known d → (slice_index words_then d.0 ≡ d.1) × (2 * x.name ≤ d.0) × (d.0 < 2 * x.name + words_in x.class)
  says d there =
      let h = from_is s.words (2 * x.name) (words_in x.class) d there in
      let beside =
      count_beside v.sizes s.words kept.taken word is_count x.class x.name d.0 (retired_small v.sizes s kept id v at x c) (retired_taken v.sizes s kept id v at x c)
      (record { low = h.1; high = h.2 }) in
      (else_same v.sizes s kept id v at word no_slots new d.0 beside ∙ h.0, h.1, h.2)

  same_links : SameLinks v.sizes s.words words_then
  same_links i is_i = elim (cases_eq i word) [
    | inl same ↦
        subst (λ n. link_in (slice_index words_then n) ≡ link_in (slice_index s.words n)) (sym same)
        (ap link_in (get_or-set_same s.words word new 0 (subst (λ n. word < n) (sym kept.size) (count_inside v.sizes word is_count))) ∙ more_link (slice_index s.words word))
    | inr differs ↦ ap link_in (get_or-set_other s.words word i new 0 differs)
  ]

  pub kept_then : IsKept v.sizes (record { words = words_then; homes = s.homes; views = set s.views id then })
  kept_then =
      reclaim_kept v.sizes s kept epochs old id v at x c ripe kept.account gives known words_then (root_same v.sizes s kept id v at word no_slots new) (waited_none v.actor kept.account) kept.counted
      (all_then v.sizes s kept id v at word no_slots new) (seats_then v.sizes s kept id v at word no_slots new) says held_then
      (beside_cell v.sizes s.words word new (count_before v.sizes word is_count)) (links_loosen_none v.sizes s.words words_then same_links) (taken_then v.sizes s kept id v at word no_slots new)

  epoch_same : epoch_in words_then ≡ epoch_in s.words
  epoch_same = stays_elsewhere s.words word (λ n. new) (inl (count_not_epoch v.sizes word is_count))

  pub epochs_then : AreEpochs words_then (set s.views id then)
  epochs_then = epochs_stay s.words words_then s.views (set s.views id then) epoch_same (was_then s.views id v at then
      (record { actor = refl; epoch = refl; passed = refl; glance = refl; pinned = λ p e. e })) epochs

  pub retired_then : AreRetired v.sizes words_then (set s.views id then)
  retired_then = reclaim_retired v.sizes s kept epochs old id v at x c ripe kept.account gives known words_then epoch_same

  pub links_then : AreLinked v.sizes words_then (set s.views id then)
  links_then =
      subst (AreLinked v.sizes words_then) (set-set s.views id then then)
      (linked_then (set s.views id then) id then (set_here s.views id then (within s.views id v at)) then refl (λ y there. there) v.sizes s.words words_then same_links
      (reclaim_linked v.sizes s kept epochs old id v at x c ripe kept.account gives known refl linked))

  -- ---- references that seats hold

  its_pin : (p : Pinned) × (v.pin ≡ Some p)
  its_pin =
      let (o, r) = running in
      let (b, there, acts) = (waited_so v s kept id at).stays (record o { is_marked = r.0 }) r.1 in
      let inside = (kept.seats id v at).entered (handle_of o.call) ((kept.seats id v at).calls (record o { is_marked = b }) there) in
      (inside.2.0, inside.2.1)

  was_retired : (i : ℕ) (u : View) → get_elem? (set s.views id then) i ≡ some u → (y : Retired) → Contains u.retired y → (j : ℕ) × (z : View) × (get_elem? s.views j ≡ some z) × Contains z.retired y
  was_retired i u e y there = elim (at_set s.views id i then u e) [
    | inl p ↦ (id, v, at, (left (λ (z : Retired). z.name) x.name v.retired y (subst (λ (z : View). Contains z.retired y) (sym p.1) there)).1)
    | inr p ↦ (i, u, p.1, there)
  ]

  -- what it holds from now on nobody has retired
  unretired : (k : Ref) → Contains gives k → (i : ℕ) (u : View) → get_elem? s.views i ≡ some u → (y : Retired) → Contains u.retired y → y.number ≢ slot_of k
  unretired k gained i u e y there same = elim (cases_Bool y.deep) [
    | inl is_deep ↦
        (let has = freed.is_claim v.sizes s kept id v at x c deep known new one named apart k gained in
        let its : IsHere v.sizes kept.account kept.stands k = (kept.held.used (record { by = OfNode node; on = k }) has.0, (named k has).0) in
        let none = kept.held.dead i u e y there is_deep k its (sym same) in
        let all = kept.held.counted k its in
        let some_claim = freed.claim_there v.sizes s kept id v at x c deep known new one named apart k has.0 in
        omega (arith, none, all, some_claim))
    | inr shallow ↦ shallow_unheld v.sizes s kept i u e y there shallow node k unfollowed (freed.is_claim v.sizes s kept id v at x c deep known new one named apart k gained).0 same
  ]

  pub owed_then : AreOwed (set s.views id then)
  owed_then = record {
    pinned = λ i u e k there. elim (at_set s.views id i then u e) [
      | inl p ↦ (its_pin.0, ap (λ (z : View). z.pin) (sym p.1) ∙ its_pin.1)
      | inr p ↦ owed.pinned i u p.1 k there
    ];
    early = λ i j u w ei ej y k cy ck same p is_pin.
        (let b = was_retired i u ei y cy in
        elim (at_set s.views id j then w ej) [
          | inl q ↦ elim (Contains-append_cases gives v.owed k (subst (λ (z : View). Contains z.owed k) (sym q.1) ck)) [
            | inl new_one ↦ absurd (unretired k new_one b.0 b.1 b.2 y b.3 same)
            | inr old_one ↦ owed.early b.0 id b.1 v b.2 at y k b.3 old_one same p (ap (λ (z : View). z.pin) q.1 ∙ is_pin)
          ]
          | inr q ↦ owed.early b.0 j b.1 w b.2 q.1 y k b.3 ck same p is_pin
        ]);
  }
