-- A load of the epoch by which a seat parts its own offer, which no handle's word names any more.
use Rattle.history.specs.declared.calls.Call.{Call}
use Rattle.std.proofs.Common.{◌≡◌, ◌+◌, ◌<◌, ◌≤◌, ◌++◌, ◌∷◌, [], ℕ, inl, inr, ◌⊎◌, List, Contains, Some, None, set, slice_index, refl, sym, ap, subst, ◌∙◌, arith}
use Rattle.std.proofs.lemmas.List.{map-append, set-get_or}
use Rattle.std.proofs.lemmas.List.Elements.{Contains-append_cases}
use Rattle.std.proofs.lemmas.Option.{none-some, same_Some}
use mathlib.Core.Option.{some, none}
use lib.ListN.{get_elem?}
use Rattle.atomic_table.specs.Table.{Me, Allows, step}
use Rattle.atomic_table.specs.Table as Table
use Rattle.trie_words.specs.Codes.{root_code, IsRootWord}
use Rattle.trie_words.specs.declared.roots.RootWord.{RootWord as HandleWord}
use Rattle.trie_words.specs.declared.roots.RootWord.TheVariants as word
use Rattle.machine_model.specs.States.{handle_limit, root_at}
use Rattle.lock_free.specs.declared.accounts.Known.{Known}
use Rattle.lock_free.specs.declared.accounts.Parted.{Parted}
use Rattle.lock_free.specs.declared.accounts.OwnOffer.{OwnOffer}
use Rattle.lock_free.specs.declared.accounts.PartedSlot.{PartedSlot}
use Rattle.lock_free.specs.declared.rules.Pinned.{Pinned}
use Rattle.lock_free.specs.declared.rules.View.{View}
use Rattle.lock_free.specs.declared.sizes.Sizes.{Sizes}
use Rattle.lock_free.specs.Accounts.{state_of, HasStood}
use Rattle.lock_free.specs.OwnOffers.{has_parted, parting, with_parted, IsToPart}
use Rattle.lock_free.specs.Parting.{slots_of, AreParted, HasParted, KnowsOffers, NamesOffer, Once, OwnStands}
use Rattle.lock_free.specs.Places.{epoch_word, root_word}
use Rattle.lock_free.specs.Roots.{SaysRoot}
use Rattle.lock_free.specs.Links.{AreLinked}
use Rattle.lock_free.specs.Rules.{AreEpochs, AreRetired, IsKept, IsSeat}
use Rattle.lock_free.specs.Shadows.{IsShadowed}
use Rattle.lock_free.proofs.CellsStay.{cells_still}
use Rattle.lock_free.proofs.Assembling.{assembled, closing_stays, opening_stays, other_actor}
use Rattle.lock_free.proofs.EpochStays.{epoch_in, epochs_stay, was_then}
use Rattle.lock_free.proofs.HeldStill.{held_views}
use Rattle.lock_free.proofs.LinksStay.{linked_then}
use Rattle.lock_free.proofs.Moments.{allowed_by}
use Rattle.lock_free.proofs.OwedStay.{owed_same}
use Rattle.lock_free.proofs.PartingStay.{standing_stood}
use Rattle.lock_free.proofs.Pools.{first_or_more, first_there, mapped, more_there, once_more}
use Rattle.lock_free.proofs.Relisted.{all_to, held_to, none_stands, other_to, relisted, seat_to}
use Rattle.lock_free.proofs.RetiredStay.{retired_then}
use Rattle.lock_free.proofs.RootCodes.{same_word}

only_one : {A : Type 0} (x y : A) → Contains (x ∷ []) y → y ≡ x
only_one x y c = elim (first_or_more x [] y c) [ inl is ↦ is | inr more ↦ absurd (let low = more.1 in omega (arith, low)) ]

module _ (v : View) (slot : ℕ) (to : IsToPart v slot) (s : Table.State Call View) (kept : IsKept v.sizes s) (epochs : AreEpochs s.words s.views) (id : ℕ) (at : get_elem? s.views id ≡ some v) where
  abbrev known : Known
  known = to.0.known

  seat : IsSeat v.sizes kept.account kept.stands s.words v
  seat = kept.seats id v at

  own : OwnStands kept.account.offers kept.account.parted s.words v.actor to.0
  own = seat.offering.its_own to.0 to.1

  abbrev x : Parted
  x = record { known = known; stamp = epoch_in s.words }

  abbrev parted : List Parted
  parted = x ∷ kept.account.parted

  -- ---- no word names it

  said : (handle : ℕ) → handle < handle_limit → (w : HandleWord) → IsRootWord w → slice_index s.words (root_word handle) ≡ root_code w →
      SaysRoot kept.account s.words handle w (root_at (state_of v.sizes kept.account) handle)
  said handle low w fits is =
      let means = kept.roots.means handle low in
      subst (λ z. SaysRoot kept.account s.words handle z (root_at (state_of v.sizes kept.account) handle)) (same_word means.what w means.fits fits (sym means.code ∙ is)) means.says

  -- the handle on which it was made is the one that would name it
  it_is : (k : Known) → Contains kept.account.offers k → known.slot ≡ k.slot → known ≡ k
  it_is k c same = kept.roots.single known k own.stands c same

  unnamed : (handle : ℕ) → handle < handle_limit → NamesOffer (slice_index s.words (root_word handle)) known.slot → ⊥
  unnamed handle low (inl (fits, is)) =
      let h = said handle low (word.Offered known.slot) fits is in
      let on : known.handle ≡ handle = ap (λ (k : Known). k.handle) (it_is h.its h.here h.place) ∙ h.on in
      own.unnamed to.3 (subst (λ n. n < handle_limit) (sym on) low) fits (ap (λ n. slice_index s.words (root_word n)) on ∙ is)
  unnamed handle low (inr (fits, is)) = elim (said handle low (word.Opening known.slot) fits is) [
    | inl h ↦ own.unopening to.4 handle (ap (λ (k : Known). k.offer.opens) (it_is h.its h.here h.place) ∙ h.opens) low fits is
    | inr h ↦ h.0 known own.stands refl
  ]

  -- ---- which offers are parted

  came : (y : Parted) → Contains parted y → HasStood v.sizes kept.account y.known.offer
  came y c = elim (first_or_more x kept.account.parted y c) [
    | inl is ↦ subst (λ (z : Parted). HasStood v.sizes kept.account z.known.offer) (sym is) (standing_stood v.sizes kept.account s.words kept.roots known own.stands)
    | inr old ↦ kept.roots.came y old
  ]

  parts : AreParted kept.account.offered kept.account.offers parted s.words
  parts = record {
    known = kept.roots.parting.known;
    left = λ k c. elim (kept.roots.parting.left k c) [
      | inl stands ↦ inl stands
      | inr gone ↦ inr (gone.0, more_there x kept.account.parted gone.0 gone.1, gone.2)
    ];
    unnamed = λ k c p handle low names. elim (first_or_more x kept.account.parted p.0 p.1) [
      | inl is ↦
          unnamed handle low
          (subst (λ (z : Known). NamesOffer (slice_index s.words (root_word handle)) z.slot) (sym p.2 ∙ ap (λ (z : Parted). z.known) is) names)
      | inr old ↦ kept.roots.parting.unnamed k c (p.0, old, p.2) handle low names
    ];
  }

  -- ---- what seats know

  waiting_to : (actor : ℕ) (y : PartedSlot) → HasParted kept.account.offers kept.account.parted actor y → HasParted kept.account.offers parted actor y
  waiting_to actor y h = record { its = h.its; here = more_there x kept.account.parted h.its h.here; stands = h.stands; place = h.place; maker = h.maker; stamp = h.stamp }

  early_to : (k : ℕ) (u : View) → get_elem? s.views k ≡ some u → (p : Pinned) → u.pin ≡ Some p → (y : Parted) → Contains parted y → (p.since ≤ y.stamp + 1) ⊎ Contains p.account.parted y
  early_to k u e p is y c = elim (first_or_more x kept.account.parted y c) [
    | inl new ↦ inl (let since = (epochs.pinned k u e p is).since in subst (λ (z : Parted). p.since ≤ z.stamp + 1) (sym new) (omega (arith, since)))
    | inr old ↦ (kept.seats k u e).offering.early p is y old
  ]

  knows_other : (k : ℕ) (u : View) → get_elem? s.views k ≡ some u → (k ≡ id → ⊥) → KnowsOffers kept.account.offered kept.account.offers parted s.words u.actor u.pin u.offer u.pool.parted
  knows_other k u e apart =
      let h = (kept.seats k u e).offering in
      record {
        grown = λ p is y c. more_there x kept.account.parted y (h.grown p is y c);
        early = early_to k u e;
        met = h.met;
        its_own = λ o is. (let y = h.its_own o is in record {
          stands = y.stands;
          maker = y.maker;
          unparted = λ p. elim (first_or_more x kept.account.parted p.0 p.1) [
            | inl new ↦
                (let same : known ≡ o.known = sym (ap (λ (z : Parted). z.known) new) ∙ p.2 in
                other_actor v.sizes s kept id v at v refl refl k u e apart (sym y.maker ∙ ap (λ (z : Known). z.maker) (sym same) ∙ own.maker))
            | inr old ↦ y.unparted (p.0, old, p.2)
          ];
          unnamed = y.unnamed;
          unopening = y.unopening;
        });
        waiting = λ y c. waiting_to u.actor y (h.waiting y c);
        once = h.once;
      }

  abbrev item : PartedSlot
  item = record { slot = slot; stamp = epoch_in s.words }

  abbrev slots : List PartedSlot
  slots = v.pool.parted ++ item ∷ []

  -- none of its slots is this one already
  new_slot : Contains (slots_of v.pool.parted) slot → ⊥
  new_slot c =
      let y = mapped (λ (z : PartedSlot). z.slot) v.pool.parted slot c in
      let h = seat.offering.waiting y.0 y.1 in
      let same : known ≡ h.its.known = it_is h.its.known h.stands (to.2 ∙ sym y.2 ∙ sym h.place) in
      own.unparted (h.its, h.here, sym same)

  knows_own : KnowsOffers kept.account.offered kept.account.offers parted s.words v.actor v.pin None slots
  knows_own =
      let h = seat.offering in
      record {
        grown = λ p is y c. more_there x kept.account.parted y (h.grown p is y c);
        early = early_to id v at;
        met = h.met;
        its_own = λ o is. absurd (none-some o is);
        waiting = λ y c. elim (Contains-append_cases v.pool.parted (item ∷ []) y c) [
          | inl old ↦ waiting_to v.actor y (h.waiting y old)
          | inr new ↦
              subst (HasParted kept.account.offers parted v.actor) (sym (only_one item y new))
              (record { its = x; here = first_there x kept.account.parted; stands = own.stands; place = to.2; maker = own.maker; stamp = omega arith })
        ];
        once = subst Once (sym (map-append (λ (z : PartedSlot). z.slot) v.pool.parted (item ∷ []))) (once_more (slots_of v.pool.parted) slot h.once new_slot);
      }

  -- ---- the rule holds

  abbrev pub then : View
  then = parting v slot (epoch_in s.words)

  named : (k : Known) → Contains kept.account.offers k → (handle : ℕ) → handle < handle_limit → NamesOffer (slice_index s.words (root_word handle)) k.slot → Contains kept.account.offers k
  named k c handle low names = c

  pub part_kept : IsKept v.sizes (record { words = s.words; homes = s.homes; views = set s.views id then })
  part_kept =
      assembled v.sizes s kept id v at then refl refl (relisted v.sizes s kept kept.account.offers parted) kept.stands s.words
      (all_to v.sizes s kept kept.account.offers parted (λ k c. c) named came parts)
      (λ handle who low says. closing_stays v.sizes s kept id v at then refl refl (λ h e. (e, refl)) refl (λ c. c) handle who (kept.closings handle who low says))
      (seat_to v.sizes s kept kept.account.offers parted (λ k c. c) named came parts v None (with_parted v.pool slot (epoch_in s.words)) seat (λ b name free. free.1)
      (λ b name low c. (let y = seat.spare b name (low, c) in (y.0, (y.1.0, y.1.1)))) seat.once knows_own)
      (λ k u e apart. other_to v.sizes s kept kept.account.offers parted (λ k c. c) named came parts u (kept.seats k u e) (knows_other k u e apart)) (λ b name free. inl free)
      (record {
        openings = λ handle at_slot low fits is nothing.
            opening_stays v.sizes s kept id v at then refl refl (state_of v.sizes kept.account) handle at_slot (λ r f. (r, f)) (λ other u e apart f r. r)
            (kept.openings handle at_slot low fits is
            (none_stands v.sizes s kept kept.account.offers parted (λ k c. c) named came parts handle at_slot low (inr (fits, is)) nothing));
        number = λ handle h. inl h;
        others = λ other u e apart handle h. h;
        runners = λ a o e. inr (o, e);
      })
      (held_to v.sizes s kept kept.account.offers parted (set s.views id then) (held_views v.sizes s kept id v at then refl refl refl))
      (cells_still v.sizes s kept id v at then (relisted v.sizes s kept kept.account.offers parted) kept.stands (λ n is. (is.0, is.1)) (λ b n f. f))

pub part_allowed : (sizes : Sizes) (size id : ℕ) (me : Me Call View) (some_seats : 1 ≤ me.0.sizes.seats) (slot : ℕ) → IsToPart me.0 slot →
    Allows (IsShadowed sizes) size id me epoch_word (λ n. n) (has_parted (step size epoch_word 0 0 none) me)
part_allowed sizes size id me some_seats slot to =
    allowed_by sizes size id me epoch_word (λ n. n) (has_parted (step size epoch_word 0 0 none) me)
    some_seats
    (λ s kept epochs retired owed linked at. (let w = then me.0 slot to s kept epochs id at in let same = sym (set-get_or s.words epoch_word 0) in (
      w,
      (inr refl, refl, λ shown. shown),
      subst (λ ws. IsKept me.0.sizes (record { words = ws; homes = s.homes; views = set s.views id w })) same (part_kept me.0 slot to s kept epochs id at),
      subst (λ ws. AreEpochs ws (set s.views id w)) same
          (epochs_stay s.words s.words s.views (set s.views id w) refl
          (was_then s.views id me.0 at w (record { actor = refl; epoch = refl; passed = refl; glance = refl; pinned = λ p is. is })) epochs),
      subst (λ ws. AreRetired me.0.sizes ws (set s.views id w)) same (retired_then s.views id me.0 at w refl (λ p is. is) me.0.sizes s.words s.words (omega arith) retired),
      owed_same s.views id me.0 at w refl refl refl owed,
      subst (λ ws. AreLinked me.0.sizes ws (set s.views id w)) same (linked_then s.views id me.0 at w refl (λ x c. c) me.0.sizes s.words s.words (λ c is. refl) linked),
      refl,
      (λ other its. ap (λ n. parting me.0 n (epoch_in s.words)) (slot_is other its), refl),
    )))
  where
    slot_is : (other : ℕ) → IsToPart me.0 other → slot ≡ other
    slot_is other its = sym to.2 ∙ ap (λ (o : OwnOffer). o.known.slot) (same_Some to.0 its.0 (sym to.1 ∙ its.1)) ∙ its.2
