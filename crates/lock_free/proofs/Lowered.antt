-- The word of a count says one less, and its seat holds one reference less; where it was the last one the seat has retired the slot.
use Rattle.history.specs.declared.calls.Call.{Call}
use Rattle.std.proofs.Common.{◌≡◌, ◌≢◌, ◌+◌, ◌-◌, ◌<◌, ◌≤◌, ◌⊎◌, ◌%◌, ◌^◌, ◌==◌, ℕ, true, List, [], ◌∷◌, Contains, Option, Some, None, inl, inr, set, slice_index, refl}
use Rattle.std.proofs.Common.{sym, ap, subst, ◌∙◌, arith, eqb-true}
use Rattle.std.proofs.lemmas.Bool.{cases_Bool, cases_eq, true≢false}
use Rattle.std.proofs.lemmas.List.{get_or-set_same, set-set}
use Rattle.std.proofs.lemmas.List.Elements.{Contains-append_cases, Contains-append_left}
use Rattle.std.proofs.lemmas.Option.{none-some, same_Some}
use mathlib.Core.Option.{some, none}
use lib.ListN.{get_elem?}
use Rattle.atomic_table.proofs.Lists.{set_here}
use Rattle.atomic_table.specs.Table.{Me, Allows, step}
use Rattle.atomic_table.specs.Table as Table
use Rattle.machine_model.specs.Beneath.slot_arena.specs.declared.refs.Ref.{Ref}
use Rattle.machine_model.specs.Beneath.slot_arena.specs.Heaps.{node_at}
use Rattle.machine_model.specs.Beneath.slot_arena.specs.Refs.{slot_of}
use Rattle.machine_model.specs.declared.operations.Operation.{Operation}
use Rattle.machine_model.specs.States.{State, operation_of}
use Rattle.machine_model.proofs.Grown.{node_standing}
use Rattle.proof_waiting.specs.Beneath.proof_slots.proofs.Unswept.Kept.{one_ref}
use Rattle.lock_free.specs.declared.rules.Retired.{Retired}
use Rattle.lock_free.specs.declared.rules.View.{View}
use Rattle.lock_free.specs.declared.sizes.Sizes.{Sizes}
use Rattle.lock_free.specs.Accounts.{place_of, state_of, bounds_for}
use Rattle.lock_free.specs.Claims.{claims_there, held_now}
use Rattle.lock_free.specs.Counting.{Owes, has_lowered, lowering}
use Rattle.lock_free.specs.Counts.{how_often, owed_on, references, references_in, without_one, IsCount}
use Rattle.lock_free.specs.Holdings.{IsHere, count_of, retired_of}
use Rattle.lock_free.specs.Links.{AreLinked, link_in}
use Rattle.lock_free.specs.Loading.{IsSound, now}
use Rattle.lock_free.specs.Nodes.{class_of}
use Rattle.lock_free.specs.Owing.{owing}
use Rattle.lock_free.specs.Places.{count_word}
use Rattle.lock_free.specs.Reclaiming.{HasRetiredIt, kind_of, kind_of_node, retiring}
use Rattle.lock_free.specs.Shadows.{IsShadowed}
use Rattle.lock_free.specs.Rules.{AreEpochs, AreOwed, AreRetired, IsKept, IsRetired, WasGarbage}
use Rattle.lock_free.proofs.OneGlance.Shadowed.{Stays}
use Rattle.lock_free.proofs.Asked.{nodes_stay}
use Rattle.lock_free.proofs.Assembling.{within}
use Rattle.lock_free.proofs.ClaimsThere.{has_often, often_has}
use Rattle.lock_free.proofs.CountsStay.{often_less, often_same, owed_set, often_none}
use Rattle.lock_free.proofs.CountSteps.{leaves, held_then, retires, same_epoch, same_links}
use Rattle.lock_free.proofs.CountWords.{count_inside, count_not_glance, Aside}
use Rattle.lock_free.proofs.Dead.{dead_is_garbage}
use Rattle.lock_free.proofs.EpochStays.{epoch_in, epochs_stay, was_then}
use Rattle.lock_free.proofs.GivenBack.{node_is}
use Rattle.lock_free.proofs.HandHolds.{class_stays, slot_word}
use Rattle.lock_free.proofs.HeldCount.{one_here}
use Rattle.lock_free.proofs.HeldReclaimed.{some_retired}
use Rattle.lock_free.proofs.HeldRetiring.{held_dying}
use Rattle.lock_free.proofs.HeldStill.{here_count, retired_before, retired_set}
use Rattle.lock_free.proofs.KindsApart.{kind_same, stored_kind}
use Rattle.lock_free.proofs.LinksStay.{linked_then}
use Rattle.lock_free.proofs.Moments.{allowed_by, same_place, seat, waited_so}
use Rattle.lock_free.proofs.OneStep.Found.{slot_at, used_made}
use Rattle.lock_free.proofs.OneStep.Idle.{idle_stays}
use Rattle.lock_free.proofs.OwedStay.{owed_retiring, owed_then}
use Rattle.lock_free.proofs.RetiredMore.{only_one, retired_more}
use Rattle.lock_free.proofs.Waiting.{grown_none}
use Rattle.lock_free.specs.OwesAt.{owes_at}
use Rattle.lock_free.proofs.OwesPrivate.{owes_private}
use Rattle.lock_free.proofs.HeldFrom.{below_owed, held_within}
use Rattle.lock_free.specs.Reached.{IsHeldFrom, at_first}
use Rattle.proof_memory.specs.Laws.{IsInUse}

-- what goes out at the top is lost
less_of : (found : ℕ) → 1 ≤ references_in found → references_in ((found + (2 ^ 64 - 2 ^ 32)) % 2 ^ 64) + 1 ≡ references_in found
less_of found some_left = omega (arith, some_left)

less_link : (found : ℕ) → link_in ((found + (2 ^ 64 - 2 ^ 32)) % 2 ^ 64) ≡ link_in found
less_link found = omega arith

module _ (v : View) (s : Table.State Call View) (kept : IsKept v.sizes s) (epochs : AreEpochs s.words s.views) (retired : AreRetired v.sizes s.words s.views) (owed : AreOwed s.views)
    (linked : AreLinked v.sizes s.words s.views) (id : ℕ) (at : get_elem? s.views id ≡ some v) (k : Ref) (class name : ℕ) (owes : Owes v k class name) where
  abbrev state : State
  state = state_of v.sizes kept.account

  pub here : IsHere v.sizes kept.account kept.stands k
  here = kept.held.owed id v at k owes.0

  abbrev word : ℕ
  word = count_of v.sizes kept.account k

  pub its : word ≡ count_word v.sizes class name
  its = slot_word v s kept id at k class name owes.1

  -- glances are counted elsewhere
  pub aside : Aside (count_word v.sizes class name) (λ n. (n + (2 ^ 64 - 2 ^ 32)) % 2 ^ 64) s.words
  aside = inl (count_not_glance v.sizes (count_word v.sizes class name) (subst (IsCount v.sizes) its (here_count v.sizes s kept k here)))

  -- whichever node the word is said to be of, it is that one
  pub one : (j : Ref) (b n : ℕ) → Owes v j b n → count_word v.sizes class name ≡ count_word v.sizes b n → j ≡ k
  one j b n h e = one_here v.sizes s kept j k (kept.held.owed id v at j h.0) here (slot_word v s kept id at j b n h.1 ∙ sym e ∙ sym its)

  abbrev found : ℕ
  found = slice_index s.words word

  abbrev new : ℕ
  new = (found + (2 ^ 64 - 2 ^ 32)) % 2 ^ 64

  some_owed : 1 ≤ how_often k v.owed
  some_owed = has_often k v.owed owes.0

  all_owed : how_often k v.owed ≤ owed_on k s.views
  all_owed = let all = owed_set k s.views id v at (record v { owed = [] }) in omega (arith, all)

  pub some_left : 1 ≤ references_in found
  some_left = let all = kept.held.counted k here in omega (arith, all, some_owed, all_owed)

  abbrev less : List Ref
  less = without_one k v.owed

  fewer : (j : Ref) → Contains less j → Contains v.owed j
  fewer j c = elim (cases_eq j k) [
    | inl same ↦ subst (Contains v.owed) (sym same) owes.0
    | inr differs ↦ (let some_now = has_often j less c in let others = often_same j k v.owed (λ e. differs (sym e)) in often_has j v.owed (omega (arith, some_now, others)))
  ]

  -- it is private to nobody
  unshared : (a : ℕ) (o : Operation) → operation_of state a ≡ Some o → ¬ Contains o.private k
  unshared a o runs c =
      let mine = sym (ap (operation_of state) (kept.held.known id v at k owes.0 a o runs c)) ∙ runs in by (operation_of (now v) v.actor) refl mine
    where
      by : (found : Option Operation) → operation_of (now v) v.actor ≡ found → operation_of state v.actor ≡ Some o → ⊥
      by None idle mine = none-some o (sym (idle_stays v.sizes v.actor v.account kept.account (seat v s kept id at).waited kept.bounds idle) ∙ mine)
      by (Some p) was mine =
          let there = (waited_so v s kept id at).stays p was in
          owes.2 p was (subst (λ ks. Contains ks k) (ap (λ (x : Operation). x.private) (same_Some o (record p { is_marked = there.0 }) (sym mine ∙ there.1))) c)

  grows : how_often k less + references s.words word ≤ how_often k v.owed + references_in new
  grows = let one_less = often_less k v.owed owes.0 in let count = less_of found some_left in omega (arith, one_less, count)

  abbrev lowered : View
  lowered = lowering v k

  abbrev words_then : List ℕ
  words_then = set s.words word new

  others : (j : Ref) → j ≢ k → how_often j less ≡ how_often j v.owed
  others j differs = often_same j k v.owed (λ e. differs (sym e))

  own : (a : ℕ) (o : Operation) → operation_of state a ≡ Some o → Contains o.private k → (a ≡ v.actor) × (1 ≤ references_in new)
  own a o runs c = absurd (unshared a o runs c)

  never : references s.words word ≡ 0 → references_in new ≡ 0
  never zero_is = absurd (omega (arith, zero_is, some_left))

  -- what its operation owes is private to it
  holds_made : (o : Operation) → operation_of state v.actor ≡ Some o → how_often k (owes_at o) ≤ how_often k less
  holds_made o runs =
      let none = often_none k (owes_at o) (λ c. unshared v.actor o runs (owes_private (bounds_for v.sizes kept.account.steps) kept.bounds kept.account.steps v.actor o runs k c)) in
      omega (arith, none)

  below : (r : Ref) → IsHeldFrom v.sizes kept.account (λ z. z ≡ k) r → kept.stands (slot_of r) ≡ true
  below = below_owed v.sizes s kept k id v at owes.0

  pub owed_less : AreOwed (set s.views id lowered)
  owed_less = owed_then s.views id v at lowered (λ j c. (fewer j c, refl)) (λ y c. c) owed

  abbrev Left : View → Type 0
  Left w =
      IsKept v.sizes (record { words = words_then; homes = s.homes; views = set s.views id w }) × AreEpochs words_then (set s.views id w) × AreRetired v.sizes words_then (set s.views id w)
      × AreOwed (set s.views id w) × AreLinked v.sizes words_then (set s.views id w)

  pub lowers : Left lowered
  lowers =
      let x = leaves v s kept epochs retired linked id at k here new (less_link found) less grows others own never holds_made below in (x.0, x.1, x.2, owed_less, x.3)

  -- ---- it was the last one

  module _ (last : references_in found ≡ 1) where
    abbrev pub x : Retired
    x = record { class = class_of here.0.0.node; name = place_of kept.account k; number = slot_of k; stamp = epoch_in s.words; account = kept.account; deep = true }

    unclaimed : claims_there kept.stands k (held_now v.sizes kept.account).claims ≡ 0
    unclaimed = let all = kept.held.counted k here in omega (arith, all, last, some_owed, all_owed)

    was : WasGarbage v.sizes x
    was = record {
      node = k;
      number = refl;
      garbage = dead_is_garbage v.sizes s kept k here unclaimed unshared;
      let_go = λ shallow. absurd (true≢false shallow);
      slot = here.0.0;
      stored = slot_at state.heap k here.0.0 here.0.1;
      class = refl;
      made = (let low = used_made v.sizes kept.account kept.bounds k here.0 in let counted = kept.counted in omega (arith, low, counted));
      place = refl;
    }

    pub is : IsRetired v.sizes kept.account kept.stands x
    is = record { was = was; grown = grown_none kept.account; still = here.1 }

    none_left : (j : Ref) → IsHere v.sizes kept.account kept.stands j → slot_of j ≡ x.number → references words_then (count_of v.sizes kept.account j) ≡ 0
    none_left j there same =
        let its_word = ap (λ r. references words_then (count_of v.sizes kept.account r)) (one_ref state.heap j k there.0 here.0 same) in
        let there_is = ap references_in (get_or-set_same s.words word new 0 (subst (λ n. word < n) (sym kept.size) (count_inside v.sizes word (here_count v.sizes s kept k here)))) in
        let count = less_of found some_left in
        omega (arith, its_word, there_is, count, last)

    dying_below : (r : Ref) → IsHeldFrom v.sizes kept.account (λ z. (x.deep ≡ true) × IsInUse state.heap z × (slot_of z ≡ x.number)) r → kept.stands (slot_of r) ≡ true
    dying_below r from =
        below r
        (held_within v.sizes kept.account (λ z. (x.deep ≡ true) × IsInUse state.heap z × (slot_of z ≡ x.number)) (λ z. z ≡ k)
        (λ z its. at_first z (one_ref state.heap z k its.1 here.0 its.2)) r from)

    abbrev pub dying : View
    dying = retiring lowered x

    dying_kept : IsKept v.sizes (record { words = words_then; homes = s.homes; views = set s.views id dying })
    dying_kept =
        retires v s kept epochs retired linked id at k here new (less_link found) less grows others own never holds_made below x is
        (held_dying v.sizes kept.account kept.stands words_then s.views id v at lowered x
        (held_then v s kept epochs retired linked id at k here new (less_link found) less grows others own never holds_made below) refl none_left dying_below)

    epoch_same : epoch_in words_then ≡ epoch_in s.words
    epoch_same = same_epoch v s kept epochs retired linked id at k here new (less_link found) less grows others own never holds_made below

    -- nobody has retired it: it would be dead, or counted once more
    unretired : (i : ℕ) (u : View) → get_elem? (set s.views id lowered) i ≡ some u → (y : Retired) → Contains u.retired y → y.number ≢ x.number
    unretired i u e y c same =
        let z = retired_before s.views id v at lowered (λ r has. has) i u e y c in
        elim (cases_Bool y.deep) [
          | inl deep ↦ (let none = kept.held.dead z.0 z.1 z.2 y z.3 deep k here (sym same) in omega (arith, none, last))
          | inr shallow ↦
              (let all = kept.held.counted k here in
              let some_there = some_retired z.1.retired y z.3 shallow in
              let number = ap (λ n. retired_of n z.1.retired) same in
              let seats = retired_set (slot_of k) s.views z.0 z.1 z.2 (record z.1 { retired = [] }) in
              omega (arith, all, last, some_owed, all_owed, some_there, number, seats))
        ]

    at_lowered : get_elem? (set s.views id lowered) id ≡ some lowered
    at_lowered = set_here s.views id lowered (within s.views id v at)

    both : set (set s.views id lowered) id dying ≡ set s.views id dying
    both = set-set s.views id lowered dying

    dying_retired : AreRetired v.sizes words_then (set s.views id dying)
    dying_retired =
        subst (AreRetired v.sizes words_then) both
        (retired_more v.sizes words_then (set s.views id lowered) id lowered at_lowered x (sym epoch_same) lowers.1 lowers.2 unretired)

    new_or : (y : Retired) → Contains dying.retired y → Contains lowered.retired y ⊎ (y.stamp ≡ epoch_in words_then)
    new_or y c = elim (Contains-append_cases v.retired (x ∷ []) y c) [
      | inl old ↦ inl old
      | inr new_one ↦ inr (ap (λ (z : Retired). z.stamp) (sym (only_one x y new_one)) ∙ sym epoch_same)
    ]

    dying_owed : AreOwed (set s.views id dying)
    dying_owed =
        subst AreOwed both
        (owed_retiring (set s.views id lowered) id lowered at_lowered dying refl refl (epoch_in words_then) new_or (λ j u e p pinned. (lowers.1.pinned j u e p pinned).since) owed_less)

    pub dies : Left dying
    dies = (
      dying_kept,
      epochs_stay s.words words_then s.views (set s.views id dying) epoch_same (was_then s.views id v at dying
          (record { actor = refl; epoch = refl; passed = refl; glance = refl; pinned = λ p e. e })) epochs,
      dying_retired,
      dying_owed,
      linked_then s.views id v at dying refl (λ y c. Contains-append_left v.retired (x ∷ []) y c) v.sizes s.words words_then
          (same_links v s kept epochs retired linked id at k here new (less_link found) less grows others own never holds_made below) linked,
    )

    class_is : x.class ≡ class_of (node_at (now v).heap k)
    class_is =
        let h = owes.1 in
        let later = nodes_stay v.sizes v.actor v.account kept.account (seat v s kept id at).waited kept.bounds (slot_of k) h.slot h.used in
        ap class_of (sym (node_standing state.heap k here.0.0 here.0.1)) ∙ ap class_of (node_is state k later.0 later.1) ∙ class_stays h.slot.node later.0.node later.2
        ∙ ap class_of (sym (node_is (now v) k h.slot h.used))

    what_is : kind_of v.sizes x ≡ kind_of_node (node_at (now v).heap k)
    what_is =
        let h = owes.1 in
        let later = nodes_stay v.sizes v.actor v.account kept.account (seat v s kept id at).waited kept.bounds (slot_of k) h.slot h.used in
        stored_kind v.sizes x here.0.0 (slot_at state.heap k here.0.0 here.0.1) ∙ ap kind_of_node (sym (node_standing state.heap k here.0.0 here.0.1))
        ∙ ap kind_of_node (node_is state k later.0 later.1) ∙ kind_same h.slot.node later.0.node later.2 ∙ ap kind_of_node (sym (node_is (now v) k h.slot h.used))

    pub retired_it : HasRetiredIt v k true lowered dying
    retired_it = record {
      item = x;
      number = refl;
      name = same_place v s kept id at (slot_of k) owes.1.slot owes.1.used;
      class = class_is;
      kind = refl;
      what = what_is;
      is = refl;
    }

pub lower_allowed : (sizes : Sizes) (size id : ℕ) (me : Me Call View) (some_seats : 1 ≤ me.0.sizes.seats) (k : Ref) (class name : ℕ) → Owes me.0 k class name →
    Allows (IsShadowed sizes) size id me (count_word me.0.sizes class name) (λ n. (n + (2 ^ 64 - 2 ^ 32)) % 2 ^ 64)
    (has_lowered (step size (count_word me.0.sizes class name) (2 ^ 64 - 2 ^ 32) 0 none) me)
lower_allowed sizes size id me some_seats k class name owes =
    allowed_by sizes size id me (count_word me.0.sizes class name) (λ n. (n + (2 ^ 64 - 2 ^ 32)) % 2 ^ 64) (has_lowered (step size (count_word me.0.sizes class name) (2 ^ 64 - 2 ^ 32) 0 none) me)
    some_seats
    (λ s kept epochs retired owed linked at.
    (let v = me.0 in
    subst (λ c. (w : View) × Stays sizes size id me (count_word me.0.sizes class name) (λ n. (n + (2 ^ 64 - 2 ^ 32)) % 2 ^ 64)
    (has_lowered (step size (count_word me.0.sizes class name) (2 ^ 64 - 2 ^ 32) 0 none) me) s w × IsKept v.sizes (record {
      words = set s.words c ((slice_index s.words c +
          (2 ^ 64 - 2 ^ 32)) % 2 ^ 64);
      homes = s.homes;
      views = set s.views id w;
    })
    × AreEpochs (set s.words c ((slice_index s.words c + (2 ^ 64 - 2 ^ 32)) % 2 ^ 64)) (set s.views id w)
    × AreRetired v.sizes (set s.words c ((slice_index s.words c + (2 ^ 64 - 2 ^ 32)) % 2 ^ 64)) (set s.views id w)
    × AreOwed (set s.views id w) × AreLinked v.sizes (set s.words c ((slice_index s.words c + (2 ^ 64 - 2 ^ 32)) % 2 ^ 64)) (set s.views id w) × (w.heard ≡ v.heard)
    × has_lowered (step size (count_word v.sizes class name) (2 ^ 64 - 2 ^ 32) 0 none) me (slice_index s.words c) (w, me.1)) (its v s kept epochs retired owed linked id at k class name owes)
    (elim (cases_Bool (references_in (slice_index s.words (count_of v.sizes kept.account k)) == 1)) [
      | inl is_last ↦
          (let last = eqb-true (references_in (slice_index s.words (count_of v.sizes kept.account k))) 1 is_last in
          let x = dies v s kept epochs retired owed linked id at k class name owes last in (
            dying v s kept epochs retired owed linked id at k class name owes last,
            (aside v s kept epochs retired owed linked id at k class name owes, refl, λ shown. shown),
            x.0,
            x.1,
            x.2,
            x.3,
            x.4,
            refl,
            (
              λ j b n h e. (
                λ says. subst (λ r. HasRetiredIt v r true (lowering v r) (dying v s kept epochs retired owed linked id at k class name owes last))
                    (sym (one v s kept epochs retired owed linked id at k class name owes j b n h e)) (retired_it v s kept epochs retired owed linked id at k class name owes last),
                λ says. absurd (true≢false (sym is_last ∙ says)),
              ),
              refl,
            ),
          ))
      | inr isnt ↦
          (let x = lowers v s kept epochs retired owed linked id at k class name owes in (
            lowering v k,
            (aside v s kept epochs retired owed linked id at k class name owes, refl, λ shown. shown),
            x.0,
            x.1,
            x.2,
            x.3,
            x.4,
            refl,
            (
              λ j b n h e. (
                λ says. absurd (true≢false (sym says ∙ isnt)),
                λ says. ap (lowering v) (sym (one v s kept epochs retired owed linked id at k class name owes j b n h e)),
              ),
              refl,
            ),
          ))
    ])))

-- the word is that one
pub lower_by : (sizes : Sizes) (size id : ℕ) (me : Me Call View) (some_seats : 1 ≤ me.0.sizes.seats) (k : Ref) (class name : ℕ) → Owes me.0 k class name → (count : ℕ) →
    count ≡ count_word me.0.sizes class name →
    Allows (IsShadowed sizes) size id me count (λ n. (n + (2 ^ 64 - 2 ^ 32)) % 2 ^ 64) (has_lowered (step size count (2 ^ 64 - 2 ^ 32) 0 none) me)
lower_by sizes size id me some_seats k class name owes count is =
    subst (λ n. Allows (IsShadowed sizes) size id me n (λ m. (m + (2 ^ 64 - 2 ^ 32)) % 2 ^ 64) (has_lowered (step size n (2 ^ 64 - 2 ^ 32) 0 none) me)) (sym is)
    (lower_allowed sizes size id me some_seats k class name owes)

pub retiring_sound : (words : ℕ) (v : View) (owed : List ℕ) (x : Retired) → IsSound words v → IsSound words (retiring (owing v owed) x)
retiring_sound words v owed x h = record { size = h.size; range = h.range; bounds = h.bounds; keys = h.keys; counted = h.counted; inside = h.inside; free = h.free }
