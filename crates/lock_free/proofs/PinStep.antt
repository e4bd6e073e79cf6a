-- An exchange of a seat's own word pins the seat, a store takes its pin away.
use Rattle.lock_free.proofs.Waiting.{grown_none}
use Rattle.lock_free.proofs.BegunSince.{begun_since, begun_grown, first_bounds}
use Rattle.machine_model.specs.Calls.{handle_of}
use Rattle.lock_free.specs.declared.rules.Checked.{Checked}
use Rattle.lock_free.specs.declared.rules.Retired.{Retired}
use Rattle.proof_garbage.specs.Grace.{HaveEnded}
use Rattle.history.specs.declared.calls.Call.{Call}
use Rattle.std.proofs.Common.{◌≤◌, ◌≡◌, ◌≢◌, ◌⊎◌, inl, inr, List, slice_index, ◌+◌, ◌-◌, ◌*◌, ◌/◌, ◌%◌, ◌^◌, ◌<◌, ◌==◌, ℕ, Bool, true, set, Option, []}
use Rattle.std.proofs.Common.{Contains, map, Some, None, refl, sym, ap, subst, ◌∙◌, arith, ne_eqb, if◌then◌else◌}
use Rattle.std.proofs.lemmas.List.{set-set}
use Rattle.std.proofs.lemmas.Option.{same_Some, none-some}
use mathlib.Core.Option.{some, none, some-injective}
use lib.ListN.{get_elem?}
use prog.Atomic.{either}
use Rattle.atomic_table.specs.Table.{Me, Allows, step}
use Rattle.atomic_table.specs.Table as Table
use Rattle.atomic_table.proofs.Lists.{at_set}
use Rattle.trie_words.specs.Codes.{pin_code, pin_of, IsPin}
use Rattle.trie_words.specs.declared.pins.Pin.{Pin}
use Rattle.machine_model.specs.States.{operation_of}
use Rattle.lock_free.specs.declared.rules.Pinned.{Pinned}
use Rattle.lock_free.specs.declared.rules.View.{View}
use Rattle.lock_free.specs.declared.sizes.Sizes.{Sizes}
use Rattle.lock_free.specs.Accounts.{state_of, HasGrown}
use Rattle.lock_free.specs.Loading.{IsSound}
use Rattle.lock_free.specs.Places.{pin_word}
use Rattle.lock_free.specs.Shadows.{IsShadowed}
use Rattle.lock_free.specs.Rules.{AreEpochs, IsKept, IsPinned, pin_word_of, HasPinnedIdle, AreRetired, IsApartFrom, IsFarFrom, Once}
use Rattle.lock_free.specs.SeatWords.{IsIdle, pinned_for, unpinned, has_pinned, has_unpinned}
use Rattle.lock_free.proofs.PinnedFor.{asks_kept}
use Rattle.lock_free.proofs.Assembling.{here}
use Rattle.lock_free.proofs.CountWords.{count_same, pin_apart}
use Rattle.lock_free.proofs.OwedStay.{owed_then}
use Rattle.lock_free.proofs.LinksStay.{linked_then}
use Rattle.lock_free.specs.Links.{link_in}
use Rattle.lock_free.proofs.EpochStays.{epoch_in, pinned_still, stays_elsewhere}
use Rattle.lock_free.proofs.Exchanged.{words_hit}
use Rattle.lock_free.proofs.Idle.{empty_has}
use Rattle.lock_free.proofs.Moments.{allowed_by, ruled_unpinned}
use Rattle.lock_free.proofs.OneGlance.Shadowed.{AllowsRuled, lifted}
use Rattle.lock_free.proofs.OneStep.Idle.{idle_stays}
use Rattle.lock_free.proofs.Pinning.{pin_kept}
use Rattle.lock_free.proofs.PartingStay.{knows_pinning, knows_unpinned}

-- the pin comes back from its word
parts_back : (n epoch handle : ℕ) → n ≡ 1 + handle + 2 ^ 9 * epoch → handle < 2 ^ 9 → ((n - 1) / 2 ^ 9 ≡ epoch) × ((n - 1) % 2 ^ 9 ≡ handle) × (n ≢ 0)
parts_back n epoch handle is low = (omega (arith, is, low), omega (arith, is, low), λ e. omega (arith, is, e))

pub low_back : (pin : Pin) → pin.handle < 2 ^ 9 → pin_of (pin_code pin) ≡ Some pin
low_back pin low =
    let n = pin_code pin in
    let parts = parts_back n pin.epoch pin.handle refl low in
    ap (λ b. if b then None else Some (record { epoch = (n - 1) / 2 ^ 9; handle = (n - 1) % 2 ^ 9 })) (ne_eqb n 0 parts.2) ∙ ap (λ e. Some (record { epoch = e; handle = (n - 1) % 2 ^ 9 })) parts.0
    ∙ ap (λ h. Some (record { epoch = pin.epoch; handle = h })) parts.1

pub pin_back : (pin : Pin) → IsPin pin → pin_of (pin_code pin) ≡ Some pin
pin_back pin fits = low_back pin fits.1

-- the seat runs nothing yet
idle_there : (v : View) (s : Table.State Call View) (kept : IsKept v.sizes s) (id : ℕ) → get_elem? s.views id ≡ some v → IsIdle v → operation_of (state_of v.sizes kept.account) v.actor ≡ None
idle_there v s kept id at idle = idle_stays v.sizes v.actor v.account kept.account (kept.seats id v at).waited kept.bounds idle

module _ (v : View) (idle : IsIdle v) (s : Table.State Call View) (kept : IsKept v.sizes s) (id : ℕ) (at : get_elem? s.views id ≡ some v) where
  abbrev Leaves : Option Pinned → View → Type 0
  Leaves pin after = IsKept v.sizes (record { words = set s.words (pin_word v.actor) (pin_word_of pin); homes = s.homes; views = set s.views id after })

  pub unpins : Leaves None (unpinned v)
  unpins = pin_kept v.sizes s kept id v at (idle_there v s kept id at idle) None [] (λ k. omega arith) (λ p is. absurd (none-some p is))
      (knows_unpinned kept.account.offered kept.account.offers kept.account.parted s.words v.actor v.pin v.offer v.pool.parted (kept.seats id v at).offering)

  -- who is pinned then has pinned itself while nothing ran there
  its_idle : (pin : Pinned) → pin.account ≡ kept.account → (p : Pinned) → Some pin ≡ Some p → HasPinnedIdle v.sizes kept.account v.actor p
  its_idle pin same p is =
      subst (HasPinnedIdle v.sizes kept.account v.actor) (same_Some pin p is) (record {
        grown = subst (λ a. HasGrown a kept.account) (sym same) (grown_none kept.account);
        idle = subst (λ a. operation_of (state_of v.sizes a) v.actor ≡ None) (sym same) (idle_there v s kept id at idle);
      })

  pub asks : (pin : Pinned) (call : Call) → pin.account ≡ kept.account → Leaves (Some pin) (pinned_for v pin call)
  asks pin call its_account =
      let pinned = record v { pin = Some pin; entered = None; owed = [] } in
      let first = pin_kept v.sizes s kept id v at (idle_there v s kept id at idle) (Some pin) [] (λ k. omega arith) (its_idle pin its_account)
      (knows_pinning kept.account s.words v.actor pin v.offer v.pool.parted its_account kept.roots.parting
      (knows_unpinned kept.account.offered kept.account.offers kept.account.parted s.words v.actor v.pin v.offer v.pool.parted (kept.seats id v at).offering)) in
      subst (λ views. IsKept v.sizes (record { words = set s.words (pin_word v.actor) (pin_word_of (Some pin)); homes = s.homes; views = views })) (set-set s.views id pinned (pinned_for v pin call))
      (asks_kept v.sizes (record { words = set s.words (pin_word v.actor) (pin_word_of (Some pin)); homes = s.homes; views = set s.views id pinned }) first id pinned
      (here v.sizes s kept id v at pinned refl refl) (Some call) v.epoch v.passed (λ c. c))

far : (m n : ℕ) → (m ≤ n) ⊎ (n < m)
far m n = grind arith

-- the epoch is known to be as late as its word says
module _ (v : View) (pin : Pin) (fits : IsPin pin) (late : pin.epoch ≤ v.epoch) (shown : Bool) (call : Call) where
  abbrev pub pinned_at : (s : Table.State Call View) → IsKept v.sizes s → Pinned
  pinned_at s kept = record { pin = pin; since = epoch_in s.words; account = kept.account; shown = shown }

  abbrev pub pinning : (s : Table.State Call View) → IsKept v.sizes s → View
  pinning s kept = pinned_for v (pinned_at s kept) call

  module _ (s : Table.State Call View) (kept : IsKept v.sizes s) (id : ℕ) (at : get_elem? s.views id ≡ some v) (h : AreEpochs s.words s.views) (words : List ℕ)
      (same : epoch_in words ≡ epoch_in s.words) where
    abbrev views_then : List View
    views_then = set s.views id (pinning s kept)

    -- what it was, but for its pin
    abbrev Before : View → Type 0
    Before w = (k : ℕ) × (x : View) × (get_elem? s.views k ≡ some x) × (w.actor ≡ x.actor) × (w.epoch ≡ x.epoch) × (w.passed ≡ x.passed)
        × ((p : Pinned) → w.pin ≡ Some p → (p ≡ pinned_at s kept) ⊎ (x.pin ≡ Some p))

    before : (k : ℕ) (w : View) → get_elem? views_then k ≡ some w → Before w
    before k w e = elim (at_set s.views id k (pinning s kept) w e) [
      | inl q ↦ subst Before q.1 (id, v, at, refl, refl, refl, λ p is. inl (sym (same_Some (pinned_at s kept) p is)))
      | inr q ↦ (k, w, q.1, refl, refl, refl, λ p is. inr is)
    ]

    is_pinned : IsPinned words (pinned_at s kept)
    is_pinned = record {
      fits = fits;
      read = (let seen = h.seen id v at in omega (arith, late, seen));
      since = subst (λ n. epoch_in s.words ≤ n) (sym same) (omega arith);
      soon = subst (λ n. n ≤ epoch_in s.words + 1) (sym same) (omega arith);
    }

    pub epochs_pinned : AreEpochs words views_then
    epochs_pinned = record {
      seen = λ k w e. (let b = before k w e in let seen = h.seen b.0 b.1 b.2 in let its = b.4 in omega (arith, seen, its, same));
      pinned = λ k w e p is. (let b = before k w e in elim (b.6 p is) [
        | inl new ↦ subst (IsPinned words) (sym new) is_pinned
        | inr old ↦ pinned_still s.words words same p (h.pinned b.0 b.1 b.2 p old)
      ]);
      passed = λ i j x w ei ej fell below p is shown. (let b = before i x ei in let c = before j w ej in
          let its = b.4 in let its_passed = ap (λ (k : Checked). k.seats) b.5 in let its_actor = c.3 in elim (c.6 p is) [
            | inl new ↦ (let seen = h.seen b.0 b.1 b.2 in subst (λ q. x.epoch ≤ q.since) (sym new) (omega (arith, seen, its)))
            | inr old ↦ (let all = h.passed b.0 c.0 b.1 c.1 b.2 c.2 (ap (λ (k : Checked). k.cleared) (sym b.5) ∙ fell) (omega (arith, below, its_passed, its_actor)) p old shown in omega
                (arith, all, its))
          ]);
      cleared = λ i j x w ei ej all p is hidden. (let b = before i x ei in let c = before j w ej in
          let its = b.4 in elim (c.6 p is) [
            | inl new ↦ (let seen = h.seen b.0 b.1 b.2 in subst (λ q. x.epoch ≤ q.since) (sym new) (omega (arith, seen, its)))
            | inr old ↦ (let low = h.cleared b.0 c.0 b.1 c.1 b.2 c.2 (ap (λ (k : Checked). k.cleared) (sym b.5) ∙ all) p old hidden in omega (arith, low, its))
          ]);
    }

    -- ---- retired slots

    module _ (old : AreRetired v.sizes s.words s.views) where
      -- what was retired before
      retired_was : (k : ℕ) (w : View) → get_elem? views_then k ≡ some w → (x : Retired) → Contains w.retired x → (y : View) × (get_elem? s.views k ≡ some y) × Contains y.retired x
      retired_was k w e x c = elim (at_set s.views id k (pinning s kept) w e) [
        | inl q ↦ (v, ap (λ n. get_elem? s.views n) q.0 ∙ at, subst (λ (y : View). Contains y.retired x) (sym q.1) c)
        | inr q ↦ (w, q.1, c)
      ]

      -- who runs then has begun since the slot was retired, where the epoch has grown twice
      ended : (k : ℕ) (y : View) → get_elem? s.views k ≡ some y → (x : Retired) → Contains y.retired x → x.stamp + 2 ≤ epoch_in s.words →
          HaveEnded (state_of v.sizes x.account) (state_of v.sizes kept.account)
      ended k y e x c grown a o runs =
          let its = kept.runners a o runs in
          let seat = kept.seats its.id its.view its.at in
          let inside = (seat.entered (handle_of o.call) (seat.calls o (ap (operation_of (state_of v.sizes kept.account)) its.its ∙ runs))).2 in
          let idle = seat.pinned_idle inside.0 inside.1 in
          let soon = (h.pinned its.id its.view its.at inside.0 inside.1).soon in
          let begun = begun_since v.sizes inside.0.account kept.account kept.bounds idle.grown its.view.actor idle.idle o (ap (operation_of (state_of v.sizes kept.account)) its.its ∙ runs) in
          elim (old.pins k its.id y its.view e its.at x c inside.0 inside.1).0 [
            | inl early ↦ absurd (omega (arith, early, soon, grown))
            | inr late ↦
                (let first = begun_grown v.sizes x.account inside.0.account (first_bounds v.sizes inside.0.account kept.account kept.bounds idle.grown) late in
                omega (arith, first, begun))
          ]

      apart_from : (k : ℕ) (y : View) → get_elem? s.views k ≡ some y → (x : Retired) → Contains y.retired x →
          IsApartFrom x (pinned_at s kept) × IsFarFrom v.sizes x (pinned_at s kept)
      apart_from k y e x c = (
        inr ((kept.seats k y e).retired x c).grown,
        elim (far (epoch_in s.words) (x.stamp + 1)) [ inl near ↦ inl near | inr grown ↦ inr (ended k y e x c (omega (arith, grown))) ],
      )

      pub retired_pinned : AreRetired v.sizes words views_then
      retired_pinned = record {
        stamps = λ k w e x c. (let b = retired_was k w e x c in let low = old.stamps k b.0 b.1 x b.2 in omega (arith, low, same));
        pins = λ i j u w ei ej x c p is. (let b = retired_was i u ei x c in elim (at_set s.views id j (pinning s kept) w ej) [
          | inl q ↦
              (let its : pinned_at s kept ≡ p = same_Some (pinned_at s kept) p (ap (λ (y : View). y.pin) q.1 ∙ is) in
              subst (λ (z : Pinned). IsApartFrom x z × IsFarFrom v.sizes x z) its (apart_from i b.0 b.1 x b.2))
          | inr q ↦ old.pins i j b.0 w b.1 q.1 x b.2 p is
        ]);
        once = λ k w e. elim (at_set s.views id k (pinning s kept) w e) [
          | inl q ↦ subst (λ (y : View). Once (map (λ (x : Retired). x.number) y.retired)) q.1 (old.once id v at)
          | inr q ↦ old.once k w q.1
        ];
        apart = λ i j u w ei ej x y cx cy eq.
            (let b = retired_was i u ei x cx in let d = retired_was j w ej y cy in old.apart i j b.0 d.0 b.1 d.1 x y b.2 d.2 eq);
      }

-- its word says that it isn't pinned
pub pin_allowed : (sizes : Sizes) (size id : ℕ) (me : Me Call View) (some_seats : 1 ≤ me.0.sizes.seats) (pin : Pin) (call : Call) → IsPin pin → pin.epoch ≤ me.0.epoch → IsIdle me.0 → me.0.pin ≡ None →
    Allows (IsShadowed sizes) size id me (pin_word me.0.actor) (λ n. either (n == 0) (pin_code pin) n) (has_pinned (step size (pin_word me.0.actor) 0 (pin_code pin) (some call)) me)
pin_allowed sizes size id me some_seats pin call fits late idle free =
    allowed_by sizes size id me (pin_word me.0.actor) (λ n. either (n == 0) (pin_code pin) n) (has_pinned (step size (pin_word me.0.actor) 0 (pin_code pin) (some call)) me)
    some_seats
    (λ s kept epochs retired owed linked at. (
      pinning me.0 pin fits late true call s kept,
      (inl (λ e. omega (arith, e)), refl, λ shown p is. ap (λ (q : Pinned). q.shown) (sym (same_Some (pinned_at me.0 pin fits late true call s kept) p is))),
      subst (λ ws. IsKept me.0.sizes (record { words = ws; homes = s.homes; views = set s.views id (pinning me.0 pin fits late true call s kept) }))
          (words_hit me.0 s kept id at (pin_word me.0.actor) 0 (pin_code pin) ((kept.seats id me.0 at).pinned ∙ ap pin_word_of free) (pin_word me.0.actor) refl)
          (asks me.0 idle s kept id at (pinned_at me.0 pin fits late true call s kept) call refl),
      epochs_pinned me.0 pin fits late true call s kept id at epochs
          (set s.words (pin_word me.0.actor) (either (slice_index s.words (pin_word me.0.actor) == 0) (pin_code pin) (slice_index s.words (pin_word me.0.actor))))
          (stays_elsewhere s.words (pin_word me.0.actor) (λ n. either (n == 0) (pin_code pin) n) (inl (λ e. omega (arith, e)))),
      retired_pinned me.0 pin fits late true call s kept id at epochs
          (set s.words (pin_word me.0.actor) (either (slice_index s.words (pin_word me.0.actor) == 0) (pin_code pin) (slice_index s.words (pin_word me.0.actor))))
          (stays_elsewhere s.words (pin_word me.0.actor) (λ n. either (n == 0) (pin_code pin) n) (inl (λ e. omega (arith, e)))) retired,
      owed_then s.views id me.0 at (pinning me.0 pin fits late true call s kept) (λ k c. absurd (empty_has k c)) (λ x c. c) owed,
      linked_then s.views id me.0 at (pinning me.0 pin fits late true call s kept) refl (λ x c. c) me.0.sizes s.words
          (set s.words (pin_word me.0.actor) (either (slice_index s.words (pin_word me.0.actor) == 0) (pin_code pin) (slice_index s.words (pin_word me.0.actor))))
          (λ c is. ap link_in (count_same me.0.sizes (pin_word me.0.actor) (λ n. either (n == 0) (pin_code pin) n) s.words
          (inl (pin_apart me.0.sizes me.0.actor (let seat = kept.seats id me.0 at in omega (arith, seat.top, seat.most)))) c is)) linked,
      refl,
      λ other said back is. (
        pinned_at me.0 pin fits late true call s kept,
        same_Some pin other (sym (pin_back pin fits) ∙ back),
        ap (λ c. (pinned_for me.0 (pinned_at me.0 pin fits late true call s kept) c, me.1)) (some-injective call said is),
      ),
    ))

pub unpin_ruled : (sizes : Sizes) (size id : ℕ) (me : Me Call View) (some_seats : 1 ≤ me.0.sizes.seats) → IsIdle me.0 →
    AllowsRuled sizes size id me (pin_word me.0.actor) (λ n. 0) (λ n. has_unpinned (step size (pin_word me.0.actor) 0 0 none) me 0)
unpin_ruled sizes size id me some_seats idle =
    ruled_unpinned sizes size id me (pin_word me.0.actor) (λ n. 0) (λ n. has_unpinned (step size (pin_word me.0.actor) 0 0 none) me 0)
    some_seats
    (λ s kept at. inl (pin_apart me.0.sizes me.0.actor (let seat = kept.seats id me.0 at in omega (arith, seat.top, seat.most))))
    (λ s kept at. (unpinned me.0, unpins me.0 idle s kept id at, refl))
    (λ s kept at. refl)

pub unpin_allowed : (sizes : Sizes) (size id : ℕ) (me : Me Call View) (some_seats : 1 ≤ me.0.sizes.seats) → IsIdle me.0 →
    Allows (IsShadowed sizes) size id me (pin_word me.0.actor) (λ n. 0) (λ n. has_unpinned (step size (pin_word me.0.actor) 0 0 none) me 0)
unpin_allowed sizes size id me some_seats idle =
    lifted sizes size id me (pin_word me.0.actor) (λ n. 0) (λ n. has_unpinned (step size (pin_word me.0.actor) 0 0 none) me 0) some_seats (unpin_ruled sizes size id me some_seats idle)

-- what is sound stays so
pub pin_sound : (words : ℕ) (v : View) (pin : Pinned) (call : Call) → IsSound words v → IsSound words (pinned_for v pin call)
pin_sound words v pin call h = record { size = h.size; range = h.range; bounds = h.bounds; keys = h.keys; counted = h.counted; inside = h.inside; free = h.free }

pub unpin_sound : (words : ℕ) (v : View) → IsSound words v → IsSound words (unpinned v)
unpin_sound words v h = record { size = h.size; range = h.range; bounds = h.bounds; keys = h.keys; counted = h.counted; inside = h.inside; free = h.free }
