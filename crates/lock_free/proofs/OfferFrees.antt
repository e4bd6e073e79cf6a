-- A load by which the slot of an offer that a seat has parted is free for it again: the epoch is later by three, so nobody may rely on the offer.
use Rattle.history.specs.declared.calls.Call.{Call}
use Rattle.std.proofs.Common.{◌≡◌, ◌≢◌, ◌+◌, ◌<◌, ◌≤◌, ◌∷◌, [], ◌==◌, ℕ, inl, inr, not, List, Contains, Some, filter, set, slice_index, refl, sym, ap, subst, ◌∙◌, arith}
use Rattle.std.proofs.lemmas.Bool.{cases_eq}
use Rattle.std.proofs.lemmas.List.{set-get_or}
use mathlib.Core.Option.{some, none}
use lib.ListN.{get_elem?}
use Rattle.atomic_table.specs.Table.{Me, Allows, step}
use Rattle.atomic_table.specs.Table as Table
use Rattle.machine_model.specs.States.{handle_limit}
use Rattle.lock_free.specs.declared.accounts.Known.{Known}
use Rattle.lock_free.specs.declared.accounts.OwnOffer.{OwnOffer}
use Rattle.lock_free.specs.declared.accounts.PartedSlot.{PartedSlot}
use Rattle.lock_free.specs.declared.rules.Pinned.{Pinned}
use Rattle.lock_free.specs.declared.rules.Pool.{Pool}
use Rattle.lock_free.specs.declared.rules.View.{View}
use Rattle.lock_free.specs.declared.sizes.Sizes.{Sizes}
use Rattle.lock_free.specs.Accounts.{state_of}
use Rattle.lock_free.specs.Links.{AreLinked}
use Rattle.lock_free.specs.Loading.{IsSound}
use Rattle.lock_free.specs.OwnOffers.{has_freed_offer, freeing_first, without_first, IsRipeOffer}
use Rattle.lock_free.specs.Parting.{slots_of, AreParted, HasParted, IsParted, KnowsOffers, NamesOffer, Once, OwnStands}
use Rattle.lock_free.specs.Places.{root_word, words_of, IsTaken}
use Rattle.lock_free.specs.Rules.{pool_of, AreEpochs, AreRetired, IsFree, IsKept, IsSeat, IsSpare}
use Rattle.lock_free.specs.Shadows.{IsShadowed}
use Rattle.lock_free.proofs.CellsStay.{cells_stay}
use Rattle.lock_free.proofs.Assembling.{assembled, closing_stays, here, opening_stays, other_actor}
use Rattle.lock_free.proofs.Drafts.{left, others_left}
use Rattle.lock_free.proofs.EpochStays.{epoch_in, epochs_stay, was_then}
use Rattle.lock_free.proofs.HeldStill.{held_views}
use Rattle.lock_free.proofs.LinksStay.{linked_then}
use Rattle.lock_free.proofs.Moments.{allowed_by, free_inside}
use Rattle.lock_free.proofs.OwedStay.{owed_same}
use Rattle.lock_free.proofs.Pools.{contains_map, first_there, free_still, more_there, once_with, was_free}
use Rattle.lock_free.proofs.Relisted.{all_to, held_to, none_stands, other_to, relisted, seat_to}
use Rattle.lock_free.proofs.RetiredStay.{retired_then}

module _ (v : View) (y : PartedSlot) (rest : List PartedSlot) (ripe : IsRipeOffer v y rest) (s : Table.State Call View) (kept : IsKept v.sizes s) (epochs : AreEpochs s.words s.views) (id : ℕ)
    (at : get_elem? s.views id ≡ some v) where
  seat : IsSeat v.sizes kept.account kept.stands s.words v
  seat = kept.seats id v at

  there : (z : PartedSlot) → Contains (y ∷ rest) z → Contains v.pool.parted z
  there z c = subst (λ zs. Contains zs z) (sym ripe.0) c

  its : HasParted kept.account.offers kept.account.parted v.actor y
  its = seat.offering.waiting y (there y (first_there y rest))

  abbrev known : Known
  known = its.its.known

  -- the others that stand
  abbrev offers : List Known
  offers = filter (λ (k : Known). not (k.slot == y.slot)) kept.account.offers

  fewer : (k : Known) → Contains offers k → Contains kept.account.offers k
  fewer k c = (left (λ (k : Known). k.slot) y.slot kept.account.offers k c).1

  others : (k : Known) → Contains kept.account.offers k → k.slot ≢ y.slot → Contains offers k
  others k c apart = others_left (λ (k : Known). k.slot) y.slot kept.account.offers k apart c

  -- what has the slot is this offer
  it_is : (k : Known) → Contains kept.account.offers k → k.slot ≡ y.slot → known ≡ k
  it_is k c same = kept.roots.single known k its.stands c (its.place ∙ sym same)

  named : (k : Known) → Contains kept.account.offers k → (handle : ℕ) → handle < handle_limit → NamesOffer (slice_index s.words (root_word handle)) k.slot → Contains offers k
  named k c handle low names = elim (cases_eq k.slot y.slot) [
    | inl same ↦ absurd (kept.roots.parting.unnamed k c (its.its, its.here, it_is k c same) handle low names)
    | inr apart ↦ others k c apart
  ]

  parts : AreParted kept.account.offered offers kept.account.parted s.words
  parts = record {
    known = λ k c. kept.roots.parting.known k (fewer k c);
    left = λ k c. elim (kept.roots.parting.left k c) [
      | inl stands ↦ elim (cases_eq k.slot y.slot) [
        | inl same ↦ inr (its.its, its.here, it_is k stands same)
        | inr apart ↦ inl (others k stands apart)
      ]
      | inr gone ↦ inr gone
    ];
    unnamed = λ k c. kept.roots.parting.unnamed k (fewer k c);
  }

  -- ---- who is pinned has pinned itself since

  late : y.stamp + 3 ≤ epoch_in s.words
  late = let seen = epochs.seen id v at in let ripe_so = ripe.1 in omega (arith, seen, ripe_so)

  since : (k : ℕ) (u : View) → get_elem? s.views k ≡ some u → (p : Pinned) → u.pin ≡ Some p → IsParted p.account.parted known
  since k u e p is = elim ((kept.seats k u e).offering.early p is its.its its.here) [
    | inl early ↦ absurd (let soon = (epochs.pinned k u e p is).soon in let stamp = its.stamp in omega (arith, early, soon, stamp, late))
    | inr gone ↦ (its.its, gone, refl)
  ]

  met_to : (k : ℕ) (u : View) → get_elem? s.views k ≡ some u → (p : Pinned) → u.pin ≡ Some p → (l : Known) → Contains kept.account.offered l → (IsParted p.account.parted l → ⊥) → Contains offers l
  met_to k u e p is l c unparted =
      let stands = (kept.seats k u e).offering.met p is l c unparted in
      others l stands (λ same. unparted (subst (IsParted p.account.parted) (it_is l stands same) (since k u e p is)))

  own_to : (k : ℕ) (u : View) → get_elem? s.views k ≡ some u → (o : OwnOffer) → u.offer ≡ Some o → OwnStands offers kept.account.parted s.words u.actor o
  own_to k u e o is =
      let h = (kept.seats k u e).offering.its_own o is in
      record {
        stands = others o.known h.stands (λ same. h.unparted (its.its, its.here, it_is o.known h.stands same));
        maker = h.maker;
        unparted = h.unparted;
        unnamed = h.unnamed;
        unopening = h.unopening;
      }

  waiting_to : (actor : ℕ) (z : PartedSlot) → z.slot ≢ y.slot → HasParted kept.account.offers kept.account.parted actor z → HasParted offers kept.account.parted actor z
  waiting_to actor z apart h = record {
    its = h.its;
    here = h.here;
    stands = others h.its.known h.stands (λ same. apart (sym h.place ∙ same));
    place = h.place;
    maker = h.maker;
    stamp = h.stamp;
  }

  knows_other : (k : ℕ) (u : View) → get_elem? s.views k ≡ some u → (k ≡ id → ⊥) → KnowsOffers kept.account.offered offers kept.account.parted s.words u.actor u.pin u.offer u.pool.parted
  knows_other k u e apart =
      let h = (kept.seats k u e).offering in
      record {
        grown = h.grown;
        early = h.early;
        met = met_to k u e;
        its_own = own_to k u e;
        waiting = λ z c. (let w = h.waiting z c in
            waiting_to u.actor z
            (λ same. (let one = it_is w.its.known w.stands (w.place ∙ same) in
            other_actor v.sizes s kept id v at v refl refl k u e apart (sym w.maker ∙ ap (λ (l : Known). l.maker) (sym one) ∙ its.maker))) w);
        once = h.once;
      }

  once_all : Once (slots_of (y ∷ rest))
  once_all = subst (λ zs. Once (slots_of zs)) ripe.0 seat.offering.once

  knows_own : KnowsOffers kept.account.offered offers kept.account.parted s.words v.actor v.pin v.offer rest
  knows_own =
      let h = seat.offering in
      record {
        grown = h.grown;
        early = h.early;
        met = met_to id v at;
        its_own = own_to id v at;
        waiting = λ z c.
            waiting_to v.actor z (λ same. once_all.0 (subst (Contains (slots_of rest)) same (contains_map (λ (w : PartedSlot). w.slot) rest z c))) (h.waiting z (there z (more_there y rest z c)));
        once = once_all.1;
      }

  -- ---- the slot

  medium : 1 < 3
  medium = omega arith

  abbrev pool : Pool
  pool = without_first v.pool y.slot rest

  given : IsTaken v.sizes s.words 1 y.slot × IsSpare v.sizes (relisted v.sizes s kept offers kept.account.parted) kept.stands y.slot
  given = (
    subst (IsTaken v.sizes s.words 1) its.place (kept.roots.blocks known its.stands),
    (λ k slot h same. kept.nodes.offers known its.stands k slot h (same ∙ sym its.place), λ k c. (left (λ (k : Known). k.slot) y.slot kept.account.offers k c).0),
  )

  -- it was free for nobody
  not_free : (k : ℕ) (u : View) (c : ℕ) → get_elem? s.views k ≡ some u → IsFree u c y.slot → ⊥
  not_free k u c e f = ((kept.seats k u e).spare c y.slot f).1.1 known its.stands its.place

  spare : (b name : ℕ) → b < 3 → Contains (pool_of pool b) name → IsTaken v.sizes s.words b name × IsSpare v.sizes (relisted v.sizes s kept offers kept.account.parted) kept.stands name
  spare b name low c = elim (was_free v.pool 1 y.slot medium b name low c) [
    | inl old ↦ (let z = seat.spare b name (low, old) in (z.0, (z.1.0, λ k stands. z.1.1 k (fewer k stands))))
    | inr new ↦
        subst (λ n. IsTaken v.sizes s.words b n × IsSpare v.sizes (relisted v.sizes s kept offers kept.account.parted) kept.stands n) new.1
        (subst (λ n. IsTaken v.sizes s.words n y.slot × IsSpare v.sizes (relisted v.sizes s kept offers kept.account.parted) kept.stands y.slot) (sym new.0) given)
  ]

  abbrev pub then : View
  then = freeing_first v y rest

  pub free_kept : IsKept v.sizes (record { words = s.words; homes = s.homes; views = set s.views id then })
  free_kept =
      assembled v.sizes s kept id v at then refl refl (relisted v.sizes s kept offers kept.account.parted) kept.stands s.words
      (all_to v.sizes s kept offers kept.account.parted fewer named kept.roots.came parts)
      (λ handle who low says. closing_stays v.sizes s kept id v at then refl refl (λ h e. (e, refl)) refl (λ c. c) handle who (kept.closings handle who low says))
      (seat_to v.sizes s kept offers kept.account.parted fewer named kept.roots.came parts v v.offer pool seat (λ b name free. free_still v.pool 1 y.slot medium b name free.0 free.1) spare
      (once_with v.pool 1 y.slot medium seat.once (λ c. not_free id v 1 at (medium, c))) knows_own)
      (λ k u e apart. other_to v.sizes s kept offers kept.account.parted fewer named kept.roots.came parts u (kept.seats k u e) (knows_other k u e apart))
      (λ b name free. elim (was_free v.pool 1 y.slot medium b name free.0 free.1) [
        | inl old ↦ inl (free.0, old)
        | inr new ↦ inr (λ k u c e apart f. not_free k u c e (subst (IsFree u c) (sym new.1) f))
      ])
      (record {
        openings = λ handle slot low fits is nothing.
            opening_stays v.sizes s kept id v at then refl refl (state_of v.sizes kept.account) handle slot (λ r f. (r, (f.0, free_still v.pool 1 y.slot medium 1 slot f.0 f.1)))
            (λ other u e apart f r. r)
            (kept.openings handle slot low fits is (none_stands v.sizes s kept offers kept.account.parted fewer named kept.roots.came parts handle slot low (inr (fits, is)) nothing));
        number = λ handle h. inl h;
        others = λ other u e apart handle h. h;
        runners = λ a o e. inr (o, e);
      })
      (held_to v.sizes s kept offers kept.account.parted (set s.views id then) (held_views v.sizes s kept id v at then refl refl refl))
      (cells_stay v.sizes s kept id v at then (relisted v.sizes s kept offers kept.account.parted) kept.stands s.words (λ c n cell. refl) (λ c n h. h)
      (λ c n low was is no. (was, (is.0, λ k stands. is.1 k (fewer k stands))))
      (λ c n b it was is f. elim (was_free v.pool 1 y.slot medium b n f.0 f.1) [
        | inl old ↦ (f.0, old)
        | inr new ↦ absurd (is.1 known its.stands (its.place ∙ new.1))
      ]))

  pub free_sound : IsSound (words_of v.sizes) v → IsSound (words_of v.sizes) then
  free_sound sound = record {
    size = sound.size;
    range = sound.range;
    bounds = sound.bounds;
    keys = sound.keys;
    counted = sound.counted;
    inside = sound.inside;
    free = free_inside then (record { words = s.words; homes = s.homes; views = set s.views id then }) free_kept id (here v.sizes s kept id v at then refl refl);
  }

pub free_offer_allowed : (sizes : Sizes) (size id : ℕ) (me : Me Call View) (some_seats : 1 ≤ me.0.sizes.seats) → IsSound (words_of me.0.sizes) me.0 → (y : PartedSlot) (rest : List PartedSlot) →
    IsRipeOffer me.0 y rest → (word : ℕ) → Allows (IsShadowed sizes) size id me word (λ n. n) (has_freed_offer (step size word 0 0 none) me)
free_offer_allowed sizes size id me some_seats sound y rest ripe word =
    allowed_by sizes size id me word (λ n. n) (has_freed_offer (step size word 0 0 none) me)
    some_seats
    (λ s kept epochs retired owed linked at. (let w = then me.0 y rest ripe s kept epochs id at in let same = sym (set-get_or s.words word 0) in (
      w,
      (inr refl, refl, λ shown. shown),
      subst (λ ws. IsKept me.0.sizes (record { words = ws; homes = s.homes; views = set s.views id w })) same (free_kept me.0 y rest ripe s kept epochs id at),
      subst (λ ws. AreEpochs ws (set s.views id w)) same
          (epochs_stay s.words s.words s.views (set s.views id w) refl
          (was_then s.views id me.0 at w (record { actor = refl; epoch = refl; passed = refl; glance = refl; pinned = λ p is. is })) epochs),
      subst (λ ws. AreRetired me.0.sizes ws (set s.views id w)) same (retired_then s.views id me.0 at w refl (λ p is. is) me.0.sizes s.words s.words (omega arith) retired),
      owed_same s.views id me.0 at w refl refl refl owed,
      subst (λ ws. AreLinked me.0.sizes ws (set s.views id w)) same (linked_then s.views id me.0 at w refl (λ x c. c) me.0.sizes s.words s.words (λ c is. refl) linked),
      refl,
      (λ z more it. its_first z more it, free_sound me.0 y rest ripe s kept epochs id at sound, refl),
    )))
  where
    first_of : List PartedSlot → PartedSlot
    first_of [] = y
    first_of (z ∷ zs) = z

    rest_of : List PartedSlot → List PartedSlot
    rest_of [] = []
    rest_of (z ∷ zs) = zs

    its_first : (z : PartedSlot) (more : List PartedSlot) → IsRipeOffer me.0 z more → freeing_first me.0 y rest ≡ freeing_first me.0 z more
    its_first z more it =
        let both = sym ripe.0 ∙ it.0 in
        ap (λ (u : PartedSlot). freeing_first me.0 u rest) (ap first_of both) ∙ ap (freeing_first me.0 z) (ap rest_of both)
