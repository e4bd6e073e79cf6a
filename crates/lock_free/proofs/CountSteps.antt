-- The word of a count changes, and its seat holds so much more or less: one more.
use Rattle.history.specs.declared.calls.Call.{Call}
use Rattle.std.proofs.Common.{◌≡◌, ◌≢◌, ◌+◌, ◌/◌, ◌<◌, ◌≤◌, ◌⊎◌, ◌^◌, ◌==◌, ℕ, List, [], ◌∷◌, Contains, Some, inl, inr, set, slice_index, refl, sym, ap, subst, ◌∙◌, true}
use Rattle.std.proofs.Common.{arith, get_or}
use Rattle.std.proofs.lemmas.Bool.{cases_eq}
use Rattle.std.proofs.lemmas.List.{get_or-set_same, get_or-set_other}
use Rattle.std.proofs.lemmas.List.Elements.{Contains-append_cases}
use mathlib.Core.Option.{some, none}
use lib.ListN.{get_elem?}
use prog.Atomic.{either}
use Rattle.atomic_table.specs.Table.{Me, Allows, step}
use Rattle.atomic_table.specs.Table as Table
use Rattle.machine_model.specs.Beneath.slot_arena.specs.declared.refs.Ref.{Ref}
use Rattle.machine_model.specs.declared.operations.Operation.{Operation}
use Rattle.machine_model.specs.States.{operation_of}
use Rattle.lock_free.specs.declared.rules.Retired.{Retired}
use Rattle.lock_free.specs.declared.rules.View.{View}
use Rattle.lock_free.specs.declared.sizes.Sizes.{Sizes}
use Rattle.lock_free.specs.Accounts.{state_of}
use Rattle.lock_free.specs.Counting.{HasAtHand, has_raised}
use Rattle.lock_free.specs.Counts.{IsCount, how_often, references, references_in}
use Rattle.lock_free.specs.Holdings.{AreHeld, IsHere, count_of}
use Rattle.lock_free.specs.Links.{AreLinked, link_in}
use Rattle.lock_free.specs.Loading.{IsSound}
use Rattle.lock_free.specs.Owing.{owing}
use Rattle.lock_free.specs.Places.{count_word, IsSlot}
use Rattle.lock_free.specs.Reclaiming.{retiring}
use Rattle.lock_free.specs.Shadows.{IsShadowed}
use Rattle.lock_free.specs.Rules.{AreEpochs, AreOwed, AreRetired, IsKept, IsRetired}
use Rattle.lock_free.proofs.OneGlance.Shadowed.{Stays}
use Rattle.lock_free.proofs.CountKept.{count_kept, count_retiring}
use Rattle.lock_free.proofs.CountsStay.{often_first, often_other}
use Rattle.lock_free.proofs.ClaimsThere.{has_often, often_has}
use Rattle.lock_free.proofs.CellsStay.{count_before, links_loosen_none}
use Rattle.lock_free.proofs.CountWords.{count_beside_slots, count_inside, count_not_epoch, count_not_glance, Aside}
use Rattle.lock_free.proofs.EpochStays.{epoch_in, epochs_stay, stays_elsewhere, was_then}
use Rattle.lock_free.proofs.Exchanged.{either_hit, either_miss}
use Rattle.lock_free.proofs.HandHolds.{early_hand, hand_here, hand_own, hand_pinned, slot_word, hand_lives}
use Rattle.lock_free.proofs.HeldCount.{counted_more, one_here}
use Rattle.lock_free.proofs.HeldStill.{here_count}
use Rattle.lock_free.proofs.LinksStay.{SameLinks, linked_then}
use Rattle.lock_free.proofs.Moments.{allowed_by}
use Rattle.lock_free.proofs.OwedStay.{owed_more, owed_then}
use Rattle.lock_free.proofs.RetiredStay.{epoch_still, retired_then}
use Rattle.lock_free.specs.OwesAt.{owes_at}
use Rattle.lock_free.proofs.HeldFrom.{below_live}
use Rattle.lock_free.specs.Reached.{IsHeldFrom}
use Rattle.machine_model.specs.Beneath.slot_arena.specs.Refs.{slot_of}

-- ---- the rule with another count of a node that stands, and what its seat holds

module _ (v : View) (s : Table.State Call View) (kept : IsKept v.sizes s) (epochs : AreEpochs s.words s.views) (retired : AreRetired v.sizes s.words s.views)
    (linked : AreLinked v.sizes s.words s.views)
    (id : ℕ) (at : get_elem? s.views id ≡ some v) (k : Ref) (here : IsHere v.sizes kept.account kept.stands k) (new : ℕ)
    (link : link_in new ≡ link_in (slice_index s.words (count_of v.sizes kept.account k))) (owed : List Ref)
    (grows : how_often k owed + references s.words (count_of v.sizes kept.account k) ≤ how_often k v.owed + references_in new) (others : (j : Ref) → j ≢ k → how_often j owed ≡ how_often j v.owed)
    (own : (a : ℕ) (operation : Operation) → operation_of (state_of v.sizes kept.account) a ≡ Some operation → Contains operation.private k → (a ≡ v.actor) × (1 ≤ references_in new))
    (dead : references s.words (count_of v.sizes kept.account k) ≡ 0 → references_in new ≡ 0)
    (owes : (o : Operation) → operation_of (state_of v.sizes kept.account) v.actor ≡ Some o → how_often k (owes_at o) ≤ how_often k owed)
    (below : (r : Ref) → IsHeldFrom v.sizes kept.account (λ z. z ≡ k) r → kept.stands (slot_of r) ≡ true) where
  abbrev word : ℕ
  word = count_of v.sizes kept.account k

  abbrev words_then : List ℕ
  words_then = set s.words word new

  abbrev w : View
  w = owing v owed

  is : IsCount v.sizes word
  is = here_count v.sizes s kept k here

  had : (j : Ref) → Contains owed j → Contains v.owed j ⊎ (j ≡ k)
  had j c = elim (cases_eq j k) [
    | inl same ↦ inr same
    | inr differs ↦ (let some_now = has_often j owed c in let all = others j differs in inl (often_has j v.owed (omega (arith, some_now, all))))
  ]

  pub same_epoch : epoch_in words_then ≡ epoch_in s.words
  same_epoch = stays_elsewhere s.words word (λ n. new) (inl (count_not_epoch v.sizes word is))

  pub same_links : SameLinks v.sizes s.words words_then
  same_links c is_c = elim (cases_eq c word) [
    | inl same ↦
        subst (λ n. link_in (slice_index words_then n) ≡ link_in (slice_index s.words n)) (sym same)
        (ap link_in (get_or-set_same s.words word new 0 (subst (λ n. word < n) (sym kept.size) (count_inside v.sizes word is))) ∙ link)
    | inr differs ↦ ap link_in (get_or-set_other s.words word c new 0 differs)
  ]

  pub held_then : AreHeld v.sizes kept.account kept.stands words_then (set s.views id w)
  held_then = counted_more v.sizes s kept id v at k here new w refl (omega (arith, grows)) (omega arith) others (λ n differs. refl) had (λ y c. inl c) dead own owes below

  -- what the rule says of the seat with these references, but for when it pinned itself
  pub leaves : IsKept v.sizes (record { words = words_then; homes = s.homes; views = set s.views id w }) × AreEpochs words_then (set s.views id w)
      × AreRetired v.sizes words_then (set s.views id w) × AreLinked v.sizes words_then (set s.views id w)
  leaves = (
    count_kept v.sizes s kept id v at word (count_beside_slots v.sizes s.words kept.taken word is) new (count_before v.sizes word is)
        (links_loosen_none v.sizes s.words words_then same_links) owed v.links held_then,
    epochs_stay s.words words_then s.views (set s.views id w) same_epoch (was_then s.views id v at w (record { actor = refl; epoch = refl; passed = refl; glance = refl; pinned = λ p e. e })) epochs,
    retired_then s.views id v at w refl (λ p e. e) v.sizes s.words words_then (epoch_still s.words words_then same_epoch) retired,
    linked_then s.views id v at w refl (λ y c. c) v.sizes s.words words_then same_links linked,
  )

  -- the same where it has retired one slot more
  pub retires : (y : Retired) → IsRetired v.sizes kept.account kept.stands y → AreHeld v.sizes kept.account kept.stands words_then (set s.views id (retiring w y)) →
      IsKept v.sizes (record { words = words_then; homes = s.homes; views = set s.views id (retiring w y) })
  retires y its held = count_retiring v.sizes s kept id v at word (count_beside_slots v.sizes s.words kept.taken word is) new (count_before v.sizes word is)
      (links_loosen_none v.sizes s.words words_then same_links) owed v.links held_then y its held

-- ---- where a count stands

pub count_is : (v : View) (sizes : Sizes) → v.sizes ≡ sizes → (class name word : ℕ) → class < 3 → IsSlot sizes class name → word ≡ count_word sizes class name → IsCount v.sizes word
count_is v sizes same class name word small slot is = subst (λ z. IsCount z word) (sym same) (record { class = class; small = small; name = name; slot = slot; is = is })

pub count_in : (words : ℕ) (v : View) → IsSound words v → (word : ℕ) → IsCount v.sizes word → word < words
count_in words v h word is = subst (λ n. word < n) (sym h.size) (count_inside v.sizes word is)

pub held_sound : (words : ℕ) (v : View) (owed : List ℕ) → IsSound words v → IsSound words (owing v owed)
held_sound words v owed h = record { size = h.size; range = h.range; bounds = h.bounds; keys = h.keys; counted = h.counted; inside = h.inside; free = h.free }

-- ---- one more

-- where the exchange finds what it replaces, and where it doesn't
module _ (found count : ℕ) (fits : count < 2 ^ 64) (room : count / 2 ^ 32 < 2 ^ 31) where
  abbrev left : ℕ
  left = either (found == count) (count + 2 ^ 32) found

  left_link : link_in left ≡ link_in found
  left_link = elim (cases_eq found count) [
    | inl hit ↦ (let new = either_hit found count (count + 2 ^ 32) hit in omega (arith, new, hit))
    | inr differs ↦ ap link_in (either_miss found count (count + 2 ^ 32) differs)
  ]

  left_more : found ≡ count → references_in left ≡ references_in found + 1
  left_more hit = let new = either_hit found count (count + 2 ^ 32) hit in omega (arith, new, hit, fits, room)

  left_same : found ≢ count → references_in left ≡ references_in found
  left_same differs = ap references_in (either_miss found count (count + 2 ^ 32) differs)

pub raise_allowed : (sizes : Sizes) (size id : ℕ) (me : Me Call View) (some_seats : 1 ≤ me.0.sizes.seats) (k : Ref) (class name : ℕ) → HasAtHand me.0 k class name → (count : ℕ) → count < 2 ^ 64 →
    count / 2 ^ 32 < 2 ^ 31 →
    Allows (IsShadowed sizes) size id me (count_word me.0.sizes class name) (λ n. either (n == count) (count + 2 ^ 32) n)
    (has_raised (step size (count_word me.0.sizes class name) count (count + 2 ^ 32) none) me)
raise_allowed sizes size id me some_seats k class name hand count fits room =
    allowed_by sizes size id me (count_word me.0.sizes class name) (λ n. either (n == count) (count + 2 ^ 32) n)
    (has_raised (step size (count_word me.0.sizes class name) count (count + 2 ^ 32) none) me)
    some_seats
    (λ s kept epochs retired owed linked at.
    (let v = me.0 in
    let there = hand_here v s kept id at k hand.0 in
    let its = slot_word v s kept id at k class name hand.1 in
    let found = slice_index s.words (count_of v.sizes kept.account k) in
    let new = left found count fits room in
    let own : references_in found ≤ references_in new → (a : ℕ) (operation : Operation) → operation_of (state_of v.sizes kept.account) a ≡ Some operation → Contains operation.private k →
    (a ≡ v.actor) × (1 ≤ references_in new) =
    λ grown a operation runs c. (hand_own v s kept id at k hand.0 a operation runs c, (let some_left = kept.held.fresh a operation runs k c in omega (arith, some_left, grown))) in
    let aside : Aside (count_word v.sizes class name) (λ n. either (n == count) (count + 2 ^ 32) n) s.words = inl (count_not_glance v.sizes (count_word v.sizes class name) (subst
    (IsCount v.sizes) its (here_count v.sizes s kept k there))) in
    let fresh_count : found ≡ count → 1 ≤ references_in found = λ hit. omega (arith, hit, fits, room) in
    -- whichever node the word is said to be of, it is that one
    let one = λ (j : Ref) (b n : ℕ) (h : HasAtHand v j b n) (e : count_word v.sizes class name ≡ count_word v.sizes b n).
    one_here v.sizes s kept j k (hand_here v s kept id at j h.0) there (slot_word v s kept id at j b n h.1 ∙ sym e ∙ sym its) in
    subst (λ c. (w : View) × Stays sizes size id me (count_word v.sizes class name) (λ n. either (n == count) (count + 2 ^ 32) n)
    (has_raised (step size (count_word v.sizes class name) count (count + 2 ^ 32) none) me) s w × IsKept v.sizes (record {
      words = set s.words c (either (slice_index s.words c == count) (count + 2 ^ 32) (slice_index s.words c));
      homes = s.homes;
      views =
          set s.views id w;
    })
    × AreEpochs (set s.words c (either (slice_index s.words c == count) (count + 2 ^ 32) (slice_index s.words c))) (set s.views id w)
    × AreRetired v.sizes (set s.words c (either (slice_index s.words c == count) (count + 2 ^ 32) (slice_index s.words c))) (set s.views id w)
    × AreOwed (set s.views id w) × AreLinked v.sizes (set s.words c (either (slice_index s.words c == count) (count + 2 ^ 32) (slice_index s.words c))) (set s.views id w) × (w.heard ≡ v.heard)
    × has_raised (step size (count_word v.sizes class name) count (count + 2 ^ 32) none) me (slice_index s.words c) (w, me.1)) its
    (elim (cases_eq found count) [
      | inl hit ↦
          (let first = often_first k v.owed in
          let more = left_more found count fits room hit in
          let x = leaves v s kept epochs retired linked id at k there new (left_link found count fits room) (k ∷ v.owed) (omega (arith, first, more))
          (λ j differs. often_other j k v.owed (λ e. differs (sym e)))
          (own (omega (arith, more))) (λ none. (let some = fresh_count hit in absurd (omega (arith, none, some))))
          (λ o e. (let held = kept.held.lines id v at o e k in omega (arith, held, first))) (below_live v.sizes s kept k (hand_lives v s kept id at k hand.0)) in (
            owing v (k ∷ v.owed),
            (aside, refl, λ shown. shown),
            x.0,
            x.1,
            x.2,
            owed_more s.views id v at (owing v (k ∷ v.owed)) k (λ j c. first_or j c) refl (hand_pinned v s kept id at k hand.0) refl
                (λ i u e y c same p is. early_hand v s kept id at k hand.0 retired i u e y c same p is) owed,
            x.3,
            refl,
            λ j b n h e. (λ got. ap (λ r. (owing v (r ∷ v.owed), me.1)) (sym (one j b n h e)), λ other. absurd (other hit)),
          ))
      | inr differs ↦
          (let same = left_same found count fits room differs in
          let x = leaves v s kept epochs retired linked id at k there new (left_link found count fits room) v.owed (omega (arith, same)) (λ j e. refl) (own (omega (arith, same))) (λ none. same ∙ none)
          (λ o e. kept.held.lines id v at o e k) (below_live v.sizes s kept k (hand_lives v s kept id at k hand.0)) in
          (v, (aside, refl, λ shown. shown), x.0, x.1, x.2, owed_then s.views id v at v (λ j c. (c, refl)) (λ y c. c) owed, x.3, refl, λ j b n h e. (λ got. absurd (differs got), λ other. refl)))
    ])))
  where
    first_or : (j : Ref) → Contains (k ∷ me.0.owed) j → Contains me.0.owed j ⊎ (j ≡ k)
    first_or j c = elim (Contains-append_cases (k ∷ []) me.0.owed j c) [
      | inl first ↦ inr (sym (only j first))
      | inr rest ↦ inl rest
    ]
      where
        only : (z : Ref) → Contains (k ∷ []) z → k ≡ z
        only z (i, within, at_i) = let zero_is : i ≡ 0 = omega arith in subst (λ n. get_or (k ∷ []) n z ≡ z) zero_is at_i

-- the word is that one
pub raise_by : (sizes : Sizes) (size id : ℕ) (me : Me Call View) (some_seats : 1 ≤ me.0.sizes.seats) (k : Ref) (class name : ℕ) → HasAtHand me.0 k class name → (its : ℕ) →
    its ≡ count_word me.0.sizes class name → (count : ℕ) → count < 2 ^ 64 → count / 2 ^ 32 < 2 ^ 31 →
    Allows (IsShadowed sizes) size id me its (λ n. either (n == count) (count + 2 ^ 32) n) (has_raised (step size its count (count + 2 ^ 32) none) me)
raise_by sizes size id me some_seats k class name hand its is count fits room =
    subst (λ n. Allows (IsShadowed sizes) size id me n (λ m. either (m == count) (count + 2 ^ 32) m) (has_raised (step size n count (count + 2 ^ 32) none) me)) (sym is)
    (raise_allowed sizes size id me some_seats k class name hand count fits room)
