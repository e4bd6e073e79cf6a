-- A retired slot on whose node nobody is any more is free for its seat: the rule is kept.
use Rattle.history.specs.declared.calls.Call.{Call}
use Rattle.std.proofs.Common.{◌≡◌, ◌≢◌, ◌⊎◌, ◌==◌, ◌+◌, ◌*◌, ◌++◌, ◌∷◌, [], ◌<◌, ◌≤◌, inl, inr, ℕ, Bool, true, false, not, List, Contains, get_or, length, map, set, slice_index, if◌then◌else◌}
use Rattle.std.proofs.Common.{Some, None, refl, sym, ap, subst, ◌∙◌, eq-eqb, ne_eqb}
use Rattle.std.proofs.lemmas.List.Elements.{Contains-append_cases, Contains-push}
use Rattle.std.proofs.lemmas.Bool.{true≢false}
use mathlib.Core.Option.{some}
use lib.ListN.{get_elem?}
use Rattle.atomic_table.proofs.Lists.{at_set}
use Rattle.atomic_table.specs.Table as Table
use Rattle.machine_model.specs.Beneath.slot_arena.specs.declared.nodes.Slot.{Slot}
use Rattle.machine_model.specs.Beneath.slot_arena.specs.Refs.{slot_of}
use Rattle.machine_model.specs.States.{State, handle_limit}
use Rattle.lock_free.specs.declared.accounts.Account.{Account}
use Rattle.lock_free.specs.declared.rules.Pinned.{Pinned}
use Rattle.lock_free.specs.declared.rules.Retired.{Retired}
use Rattle.lock_free.specs.declared.rules.View.{View}
use Rattle.lock_free.specs.declared.sizes.Sizes.{Sizes}
use Rattle.lock_free.specs.Accounts.{state_of, place_at, HasWaited}
use Rattle.lock_free.specs.Holdings.{AreHeld}
use Rattle.lock_free.specs.Nodes.{class_of}
use Rattle.lock_free.specs.Links.{AreLinked, IsLinked}
use Rattle.lock_free.specs.Making.{with_slot}
use Rattle.lock_free.specs.Cells.{IsCell}
use Rattle.lock_free.specs.Places.{cell_word, count_word, root_word, words_in, IsSlot, IsTaken}
use Rattle.lock_free.specs.Reclaiming.{reclaiming, without}
use Rattle.lock_free.specs.Rules.{AreDrafts, AreEpochs, AreRetired, IsFree, IsKept, IsSeat, IsSpare, NodesStand, Once, SaysClosing, Standing, Stands, pool_of}
use Rattle.lock_free.proofs.Assembling.{AllStand, assembled, closing_stays, numbers_stay}
use Rattle.lock_free.proofs.CellsStay.{cells_stay, NoneLoosened}
use Rattle.lock_free.proofs.CountWords.{one_class}
use Rattle.lock_free.proofs.Drafts.{left, others_left}
use Rattle.lock_free.proofs.EpochStays.{epoch_in}
use Rattle.lock_free.proofs.Meanings.{no_tries}
use Rattle.lock_free.proofs.Pools.{free_still, once_with, pool_same, was_free, parted_same}
use Rattle.lock_free.proofs.Reclaimable.{not_found, not_live}
use Rattle.lock_free.proofs.RetiredSlots.{it_stands, place_still, retired_slot, retired_small, stands_still}
use Rattle.lock_free.proofs.Hanging.{once_left}
use Rattle.lock_free.specs.Parting.{KnowsOffers}

gone_by : (gone stood : Bool) → (if gone then false else stood) ≡ true → (gone ≡ false) × (stood ≡ true)
gone_by true stood e = absurd (true≢false (sym e))
gone_by false stood e = (refl, e)

module _ (sizes : Sizes) (s : Table.State Call View) (kept : IsKept sizes s) (epochs : AreEpochs s.words s.views) (old : AreRetired sizes s.words s.views)
    (id : ℕ) (v : View) (at : get_elem? s.views id ≡ some v) (x : Retired) (here : Contains v.retired x) (ripe : x.stamp + 3 ≤ epoch_in s.words) (first : Account) (more : List ℕ) (known : List
    (ℕ × ℕ)) where
  abbrev state : State
  state = state_of sizes kept.account

  abbrev pub stands_then : Standing
  stands_then k = if k == x.number then false else kept.stands k

  -- what the seat has seen, and what it holds and knows besides
  abbrev pub view_then : View
  view_then = record (reclaiming v x.class x.name) { account = first; owed = more ++ v.owed; drafts = known ++ v.drafts }

  -- what it has retired then
  abbrev rest : List Retired
  rest = without x.name v.retired

  -- ---- nodes

  stood : (k : ℕ) (slot : Slot) → Stands stands_then state k slot → Stands kept.stands state k slot × (k ≢ x.number)
  stood k slot h = let b = gone_by (k == x.number) (kept.stands k) h.0 in ((b.1, h.1), λ same. true≢false (sym (eq-eqb k x.number same) ∙ b.0))

  still : (k : ℕ) → k ≢ x.number → kept.stands k ≡ true → stands_then k ≡ true
  still k differs h = ap (λ b. if b then false else kept.stands k) (ne_eqb k x.number differs) ∙ h

  -- ---- the slot

  abbrev its_slot : (slot : Slot) × (get_or state.heap.slots x.number None ≡ Some slot) × (class_of slot.node ≡ x.class)
  its_slot = stands_still sizes s kept id v at x here

  stands_there : Stands kept.stands state x.number its_slot.0
  stands_there = it_stands sizes s kept id v at x here

  place : place_at kept.account x.number ≡ x.name
  place = place_still sizes s kept id v at x here

  small : x.class < 3
  small = retired_small sizes s kept id v at x here

  spare_then : (name : ℕ) → IsSpare sizes kept.account kept.stands name → IsSpare sizes kept.account stands_then name
  spare_then name h = (λ k slot e. h.0 k slot (stood k slot e).0, h.1)

  -- it is nobody's
  not_free : (name : ℕ) → IsSpare sizes kept.account kept.stands name → x.name ≢ name
  not_free name h same = h.0 x.number its_slot.0 stands_there (place ∙ same)

  spare_now : IsSpare sizes kept.account stands_then x.name
  spare_now = (
    λ k slot e same. (let was = stood k slot e in was.1 (kept.nodes.apart k x.number slot its_slot.0 was.0 stands_there (same ∙ sym place))),
    λ k c same. kept.nodes.offers k c x.number its_slot.0 stands_there (place ∙ sym same),
  )

  -- ---- seats

  was_mine : (y : Retired) → Contains rest y → Contains v.retired y
  was_mine y c = (left (λ (z : Retired). z.name) x.name v.retired y c).1

  mine : (y : Retired) → Contains rest y → y.number ≢ x.number
  mine y c same =
      (left (λ (z : Retired). z.name) x.name v.retired y c).0
      (sym (place_still sizes s kept id v at y (was_mine y c)) ∙ ap (place_at kept.account) same ∙ place)

  theirs : (other : ℕ) (w : View) → get_elem? s.views other ≡ some w → (other ≡ id → ⊥) → (y : Retired) → Contains w.retired y → y.number ≢ x.number
  theirs other w e apart y c same = apart (old.apart other id w v e at y x c here same)

  free_too : (b name : ℕ) → IsFree v b name → (b < 3) × Contains (pool_of (with_slot v.pool x.class x.name) b) name
  free_too b name f = (f.0, free_still v.pool x.class x.name small b name f.0 f.1)

  free_now : (x.class < 3) × Contains (pool_of (with_slot v.pool x.class x.name) x.class) x.name
  free_now = (small, subst (λ xs. Contains xs x.name) (sym (pool_same v.pool x.class _ small)) (Contains-push (pool_of v.pool x.class) x.name))

  -- ---- with words in which all nodes stand, and what the seat holds and knows then

  module _ (words : List ℕ) (roots : (handle : ℕ) → handle < handle_limit → slice_index words (root_word handle) ≡ slice_index s.words (root_word handle))
      (waited : HasWaited v.actor first kept.account) (counts : length first.names ≡ (state_of sizes first).heap.births) (all : AllStand sizes kept.account kept.stands words) (seats :
      (other : ℕ) (w : View) → get_elem? s.views other ≡ some w → IsSeat sizes kept.account kept.stands words w)
      (says : (d : ℕ × ℕ) → Contains known d → (slice_index words d.0 ≡ d.1) × (2 * x.name ≤ d.0) × (d.0 < 2 * x.name + words_in x.class)) where
    seat : IsSeat sizes kept.account kept.stands words v
    seat = seats id v at

    nodes_then : NodesStand sizes kept.account stands_then words
    nodes_then = record {
      within = λ k slot h. all.nodes.within k slot (stood k slot h).0;
      small = λ k slot h. all.nodes.small k slot (stood k slot h).0;
      apart = λ j k a b h g same. all.nodes.apart j k a b (stood j a h).0 (stood k b g).0 same;
      offers = λ y c k slot h. all.nodes.offers y c k slot (stood k slot h).0;
      written = λ k slot h. all.nodes.written k slot (stood k slot h).0;
      inside = all.nodes.inside;
      owners = all.nodes.owners;
      owned = all.nodes.owned;
      live = λ r h. still (slot_of r) (not_live sizes s kept epochs old id v at x here ripe r h) (all.nodes.live r h);
      reached = λ r h. still (slot_of r) (not_found sizes s kept epochs old id v at x here ripe r h) (all.nodes.reached r h);
    }

    all_then : AllStand sizes kept.account stands_then words
    all_then = record {
      bounds = all.bounds;
      keys = all.keys;
      quiet = all.quiet;
      counted = all.counted;
      size = all.size;
      taken = all.taken;
      generations = all.generations;
      nodes = nodes_then;
      roots = all.roots;
    }

    given : IsTaken sizes words x.class x.name × IsSpare sizes kept.account stands_then x.name
    given = (
      subst (λ n. IsTaken sizes words n x.name) its_slot.2 (subst (λ n. IsTaken sizes words (class_of its_slot.0.node) n) place (all.nodes.within x.number its_slot.0 stands_there)),
      spare_now,
    )

    others_then : (other : ℕ) (w : View) → get_elem? s.views other ≡ some w → (other ≡ id → ⊥) → IsSeat sizes kept.account stands_then words w
    others_then other w e apart =
        let h = seats other w e in
        record {
          same = h.same;
          low = h.low;
          top = h.top;
          most = h.most;
          waited = h.waited;
          counts = h.counts;
          rested = h.rested;
          rests = h.rests;
          pinned = h.pinned;
          pinned_idle = h.pinned_idle;
          retired = λ y c. (let z = h.retired y c in record { was = z.was; grown = z.grown; still = still y.number (theirs other w e apart y c) z.still });
          entered = h.entered;
          calls = h.calls;
          opens = h.opens;
          reserves = h.reserves;
          opening = h.opening;
          spare = λ b name f. (let y = h.spare b name f in (y.0, spare_then name y.1));
          once = h.once;
          drafts = h.drafts;
          plain = h.plain;
          offering = h.offering;
        }

    none_there : Contains (pool_of v.pool x.class) x.name → ⊥
    none_there c = not_free x.name (seat.spare x.class x.name (small, c)).1 refl

    drafts_then : (d : ℕ × ℕ) → Contains (known ++ v.drafts) d → AreDrafts words view_then d
    drafts_then d c = elim (Contains-append_cases known v.drafts d c) [
      | inl new ↦ (let h = says d new in (h.0, (x.class, x.name, free_now, h.1, h.2)))
      | inr old_one ↦ (let h = seat.drafts d old_one in (h.0, (h.1.0, h.1.1, free_too h.1.0 h.1.1 h.1.2, h.1.3, h.1.4)))
    ]

    own_then : IsSeat sizes kept.account stands_then words view_then
    own_then = record {
      same = seat.same;
      low = seat.low;
      top = seat.top;
      most = seat.most;
      waited = waited;
      counts = counts;
      rested = seat.rested;
      rests = seat.rests;
      pinned = seat.pinned;
      pinned_idle = seat.pinned_idle;
      retired = λ y c. (let z = seat.retired y (was_mine y c) in record { was = z.was; grown = z.grown; still = still y.number (mine y c) z.still });
      entered = seat.entered;
      calls = seat.calls;
      opens = seat.opens;
      reserves = seat.reserves;
      opening = λ handle slot o n. (let y = seat.opening handle slot o n in record { low = y.low; fits = y.fits; is = y.is; free = free_too 1 slot y.free });
      spare = λ b name f. elim (was_free v.pool x.class x.name small b name f.0 f.1) [
        | inl before ↦ (let y = seat.spare b name (f.0, before) in (y.0, spare_then name y.1))
        | inr (class, new) ↦
            subst (λ n. IsTaken sizes words b n × IsSpare sizes kept.account stands_then n) new
            (subst (λ c. IsTaken sizes words c x.name × IsSpare sizes kept.account stands_then x.name) (sym class) given)
      ];
      once = once_with v.pool x.class x.name small seat.once none_there;
      drafts = drafts_then;
      plain = seat.plain;
      offering = subst (λ xs. KnowsOffers kept.account.offered kept.account.offers kept.account.parted words v.actor v.pin v.offer xs)
          (sym (parted_same v.pool x.class (pool_of v.pool x.class ++ x.name ∷ []))) seat.offering;
    }

    not_others : (b name : ℕ) → IsFree view_then b name → IsFree v b name ⊎ ((other : ℕ) (w : View) (c : ℕ) → get_elem? s.views other ≡ some w → (other ≡ id → ⊥) → IsFree w c name → ⊥)
    not_others b name f = elim (was_free v.pool x.class x.name small b name f.0 f.1) [
      | inl before ↦ inl (f.0, before)
      | inr (class, new) ↦ inr (λ other w c e apart g. not_free name ((kept.seats other w e).spare c name g).1 new)
    ]

    -- ---- the rule holds

    pub reclaim_kept : AreHeld sizes kept.account stands_then words (set s.views id view_then) →
        ((c n : ℕ) → IsCell c n → slice_index words (cell_word sizes c n) ≡ slice_index s.words (cell_word sizes c n)) → NoneLoosened sizes s.words words →
        ((c n : ℕ) → c < 3 → IsTaken sizes s.words c n → IsTaken sizes words c n) → IsKept sizes (record { words = words; homes = s.homes; views = set s.views id view_then })
    reclaim_kept held cells_same loose taken =
        assembled sizes s kept id v at view_then refl refl kept.account stands_then words all_then
        (λ handle who low says_so. closing_stays sizes s kept id v at view_then refl refl (λ h e. (e, refl)) refl (λ c. c) handle who
        (kept.closings handle who low (subst (λ n. SaysClosing n who) (roots handle low) says_so))) own_then others_then not_others
        (numbers_stay sizes s kept id v at view_then refl refl kept.account words (no_tries kept.account.offers state) (λ slot none. none) roots refl
        (λ slot handle e f. free_too 1 slot f))
        held
        (cells_stay sizes s kept id v at view_then kept.account stands_then words cells_same loose (λ c n low was spare no. (taken c n low was, spare_then n spare))
        (λ c n b it was spare f. elim (was_free v.pool x.class x.name small b n f.0 f.1) [
          | inl before ↦ (f.0, before)
          | inr (class, new) ↦ absurd (not_free n spare new)
        ]))

  -- what a seat has retired then it had retired before
  had : (k : ℕ) (w : View) → get_elem? (set s.views id view_then) k ≡ some w → (y : Retired) → Contains w.retired y → (u : View) × (get_elem? s.views k ≡ some u) × Contains u.retired y
  had k w e y c = elim (at_set s.views id k view_then w e) [
    | inl p ↦ (v, ap (λ n. get_elem? s.views n) p.0 ∙ at, was_mine y (subst (λ (u : View). Contains u.retired y) (sym p.1) c))
    | inr p ↦ (w, p.1, c)
  ]

  pins_had : (k : ℕ) (w : View) → get_elem? (set s.views id view_then) k ≡ some w → (p : Pinned) → w.pin ≡ Some p → (u : View) × (get_elem? s.views k ≡ some u) × (u.pin ≡ Some p)
  pins_had k w e p is = elim (at_set s.views id k view_then w e) [
    | inl q ↦ (v, ap (λ n. get_elem? s.views n) q.0 ∙ at, ap (λ (u : View). u.pin) q.1 ∙ is)
    | inr q ↦ (w, q.1, is)
  ]

  pub reclaim_retired : (words : List ℕ) → epoch_in words ≡ epoch_in s.words → AreRetired sizes words (set s.views id view_then)
  reclaim_retired words same = record {
    stamps = λ k w e y c. (let b = had k w e y c in subst (λ n. y.stamp ≤ n) (sym same) (old.stamps k b.0 b.1 y b.2));
    pins = λ i j u w ei ej y c p is. (let b = had i u ei y c in let d = pins_had j w ej p is in old.pins i j b.0 d.0 b.1 d.1 y b.2 p d.2);
    once = λ k w e. elim (at_set s.views id k view_then w e) [
      | inl p ↦ subst (λ (u : View). Once (map (λ (y : Retired). y.number) u.retired)) p.1 (once_left (λ (y : Retired). y.number) (λ (y : Retired). not (y.name == x.name)) v.retired
          (old.once id v at))
      | inr p ↦ old.once k w p.1
    ];
    apart = λ i j u w ei ej y z cy cz eq. (let b = had i u ei y cy in let d = had j w ej z cz in old.apart i j b.0 d.0 b.1 d.1 y z b.2 d.2 eq);
  }

  -- ---- links

  -- a link that it knows then is another slot's
  own_link : sizes ≡ v.sizes → (d : ℕ × ℕ) → Contains view_then.links d → IsLinked sizes s.words v d → IsLinked sizes s.words view_then d
  own_link its_sizes d has z = record {
    count = z.count;
    item = z.item;
    its = others_left (λ (y : Retired). y.name) x.name v.retired z.item apart z.its;
    word = z.word;
    is = z.is;
  }
    where
      apart : z.item.name ≢ x.name
      apart same =
          let class : z.item.class ≡ x.class =
          one_class sizes z.item.class x.class x.name (retired_small sizes s kept id v at z.item z.its) small
          (subst (IsSlot sizes z.item.class) same (retired_slot sizes s kept id v at z.item z.its)) (retired_slot sizes s kept id v at x here) in
          (left (λ (e : ℕ × ℕ). e.0) (count_word v.sizes x.class x.name) v.links d has).0
          (z.word ∙ ap (λ n. count_word sizes n z.item.name) class ∙ ap (count_word sizes x.class) same ∙ ap (λ z. count_word z x.class x.name) its_sizes)

  pub reclaim_linked : sizes ≡ v.sizes → AreLinked sizes s.words s.views → AreLinked sizes s.words (set s.views id view_then)
  reclaim_linked its_sizes h = record {
    linked = λ k w e d has. elim (at_set s.views id k view_then w e) [
      | inl p ↦
          (let has_own = subst (λ (u : View). Contains u.links d) (sym p.1) has in
          subst (λ u. IsLinked sizes s.words u d) p.1
          (own_link its_sizes d has_own (h.linked id v at d (left (λ (e : ℕ × ℕ). e.0) (count_word v.sizes x.class x.name) v.links d has_own).1)))
      | inr p ↦ h.linked k w p.1 d has
    ];
  }
