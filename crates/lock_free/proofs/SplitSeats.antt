-- A seat is split: its last actor gets a seat of its own.
use Rattle.std.proofs.Common.{◌≡◌, ◌≢◌, ℕ, true, zero, suc, ◌<◌, ◌≤◌, ◌⊎◌, Contains, inl, inr, List, [], ◌∷◌, ◌++◌, Some, length, set, length-set, refl, sym, ap, subst, ◌∙◌, arith}
use Rattle.std.proofs.lemmas.Bool.{cases_eq}
use Rattle.std.proofs.lemmas.Option.{none-some}
use Rattle.std.proofs.lemmas.List.Sums.{sum_by_push}
use mathlib.Core.Option.{some, some-injective, some-ne-none}
use lib.ListN.{get_elem?}
use Rattle.atomic_table.specs.Table.{Splits}
use Rattle.atomic_table.specs.Table as Table
use Rattle.atomic_table.proofs.Lists.{at_set, at_longer, set_here, set_else}
use Rattle.history.specs.declared.calls.Call.{Call}
use Rattle.machine_model.specs.Beneath.slot_arena.specs.Refs.{slot_of}
use Rattle.machine_model.specs.declared.operations.Operation.{Operation}
use Rattle.machine_model.specs.States.{State, operation_of}
use Rattle.lock_free.specs.declared.rules.Heard.{Heard}
use Rattle.lock_free.specs.declared.rules.Retired.{Retired}
use Rattle.lock_free.specs.declared.rules.View.{View}
use Rattle.lock_free.specs.declared.sizes.Sizes.{Sizes}
use Rattle.lock_free.specs.Accounts.{state_of}
use Rattle.lock_free.specs.Loading.{IsSound}
use Rattle.lock_free.specs.Counts.{how_often, owed_on}
use Rattle.lock_free.specs.Holdings.{AreHeld, retired_in, retired_on}
use Rattle.lock_free.specs.Cells.{IsAside}
use Rattle.lock_free.specs.Shadows.{IsShadowed}
use Rattle.lock_free.specs.Rules.{AreEpochs, AreOwed, AreRetired, HasActor, HasSeat, IsClosing, IsFree, IsKept, IsOpening, IsRuled, IsSeat, IsShown, latest, Reserves, WasGivenUp}
use Rattle.lock_free.specs.Splitting.{without_last, of_last}
use Rattle.lock_free.proofs.Assembling.{cleared_or}
use Rattle.lock_free.proofs.OneGlance.Shadowed.{lifted_split}
use Rattle.lock_free.proofs.CountsStay.{owed_set}
use Rattle.lock_free.proofs.HeldStill.{retired_set}
use Rattle.lock_free.proofs.OwedStay.{Owed, owed_as, owed_none, owed_self, owed_stay}
use Rattle.lock_free.proofs.LinksStay.{Knew, knew, knew_none, knew_self, links_stay}
use Rattle.lock_free.specs.Links.{AreLinked}
use Rattle.lock_free.proofs.EpochStays.{IsAsWas, Was as Before, as_was, epochs_stay, is_new, was_one}
use Rattle.lock_free.proofs.Idle.{empty_has, none_free, none_twice}
use Rattle.lock_free.proofs.RetiredStay.{Retires, retired_stay, retires_as, retires_none, retires_self}
use Rattle.lock_free.proofs.Silent.{waited_since}
use Rattle.lock_free.specs.Claims.{HoldsAll}
use Rattle.lock_free.specs.OwesAt.{owes_at}
use Rattle.lock_free.specs.Reached.{IsDead, IsOwed, IsReached, at_first}
use Rattle.lock_free.proofs.HeldFrom.{held_within}
use Rattle.machine_model.specs.Beneath.slot_arena.specs.declared.refs.Ref.{Ref}
use Rattle.lock_free.proofs.PartingStay.{knows_nothing}

at_more : (xs : List View) (x w : View) (k : ℕ) → get_elem? (xs ++ x ∷ []) k ≡ some w → (get_elem? xs k ≡ some w) ⊎ ((k ≡ length xs) × (x ≡ w))
at_more [] x w zero e = inr (refl, some-injective x w e)
at_more [] x w (suc k) e = absurd (some-ne-none w (sym e))
at_more (y ∷ ys) x w zero e = inl e
at_more (y ∷ ys) x w (suc k) e = elim (at_more ys x w k e) [ inl h ↦ inl h | inr h ↦ inr (ap suc h.0, h.1) ]

at_within : (xs : List View) (w : View) (k : ℕ) → get_elem? xs k ≡ some w → k < length xs
at_within [] w k e = absurd (some-ne-none w (sym e))
at_within (y ∷ ys) w zero e = omega arith
at_within (y ∷ ys) w (suc k) e = omega (arith, at_within ys w k e)

module _ (sizes : Sizes) (s : Table.State Call View) (kept : IsKept sizes s) (id : ℕ) (v : View) (at : get_elem? s.views id ≡ some v) (more : v.actor < v.last) where
  abbrev first : View
  first = without_last v

  abbrev second : View
  second = of_last v

  abbrev split_views : List View
  split_views = set s.views id first ++ second ∷ []

  -- which seat it was
  data Was (k : ℕ) (w : View) : Type 0 where
    was_first : k ≡ id → first ≡ w → Was k w
    was_other : (k ≡ id → ⊥) → get_elem? s.views k ≡ some w → Was k w
    was_second : k ≡ length s.views → second ≡ w → Was k w

  was : (k : ℕ) (w : View) → get_elem? split_views k ≡ some w → Was k w
  was k w e = elim (at_more (set s.views id first) second w k e) [
    | inl h ↦ elim (at_set s.views id k first w h) [ inl g ↦ was_first g.0 g.1 | inr g ↦ was_other g.0 g.1 ]
    | inr h ↦ was_second (h.0 ∙ length-set s.views id first) h.1
  ]

  -- ---- what each has

  -- something that no seat has twice, of which the first seat has no more than before, and the second one none, or only what the first has no more
  module _ (Has : View → Type 0) (Has' : View → Type 0) (alone : (i j : ℕ) (x y : View) → get_elem? s.views i ≡ some x → get_elem? s.views j ≡ some y → Has x → Has' y → i ≡ j)
      (first_had : Has first → Has v) (second_had : Has second → Has v) (first_had' : Has' first → Has' v) (second_had' : Has' second → Has' v)
      (never : Has first → Has' second → ⊥) (never' : Has second → Has' first → ⊥) where
    alone_by : (i j : ℕ) (x y : View) → Was i x → Was j y → Has x → Has' y → i ≡ j
    alone_by i j x y (was_first e p) (was_first f q) hx hy = e ∙ sym f
    alone_by i j x y (was_first e p) (was_other f q) hx hy = e ∙ alone id j v y at q (first_had (subst Has (sym p) hx)) hy
    alone_by i j x y (was_first e p) (was_second f q) hx hy = absurd (never (subst Has (sym p) hx) (subst Has' (sym q) hy))
    alone_by i j x y (was_other e p) (was_first f q) hx hy = alone i id x v p at hx (first_had' (subst Has' (sym q) hy)) ∙ sym f
    alone_by i j x y (was_other e p) (was_other f q) hx hy = alone i j x y p q hx hy
    alone_by i j x y (was_other e p) (was_second f q) hx hy = absurd (e (alone i id x v p at hx (second_had' (subst Has' (sym q) hy))))
    alone_by i j x y (was_second e p) (was_first f q) hx hy = absurd (never' (subst Has (sym p) hx) (subst Has' (sym q) hy))
    alone_by i j x y (was_second e p) (was_other f q) hx hy = absurd (f (sym (alone id j v y at q (second_had (subst Has (sym p) hx)) hy)))
    alone_by i j x y (was_second e p) (was_second f q) hx hy = e ∙ sym f

    pub alone_then : (i j : ℕ) (x y : View) → get_elem? split_views i ≡ some x → get_elem? split_views j ≡ some y → Has x → Has' y → i ≡ j
    alone_then i j x y ei ej hx hy = alone_by i j x y (was i x ei) (was j y ej) hx hy

  none_second : (b name : ℕ) → IsFree second b name → ⊥
  none_second b name free = none_free v.sizes v.last v.last v.account b name free

  -- what stands in a cell, or is loose, is free for none
  not_free : (class name : ℕ) → IsAside sizes s.words class name → (k : ℕ) (x : View) (b : ℕ) → Was k x → IsFree x b name → ⊥
  not_free class name h k x b (was_first e p) f = kept.cells.nobodys class name h id v b at (subst (λ (y : View). IsFree y b name) (sym p) f)
  not_free class name h k x b (was_other e p) f = kept.cells.nobodys class name h k x b p f
  not_free class name h k x b (was_second e p) f = none_second b name (subst (λ (y : View). IsFree y b name) (sym p) f)

  -- ---- each is a seat

  abbrev state : State
  state = state_of sizes kept.account

  abbrev SeatThen : View → Type 0
  SeatThen w = IsSeat sizes kept.account kept.stands s.words w

  first_seat : SeatThen first
  first_seat =
      let seat = kept.seats id v at in
      record {
        same = seat.same;
        low = seat.low;
        top = omega (arith, more);
        most = omega (arith, seat.most);
        waited = seat.waited;
        counts = seat.counts;
        rested = λ a above below. seat.rested a above (omega (arith, below));
        rests = λ a above below. seat.rests a above (omega (arith, below));
        pinned = seat.pinned;
        pinned_idle = seat.pinned_idle;
        retired = seat.retired;
        entered = seat.entered;
        calls = seat.calls;
        opens = seat.opens;
        reserves = seat.reserves;
        opening = λ handle slot o n. (let x = seat.opening handle slot o n in record { low = x.low; fits = x.fits; is = x.is; free = x.free });
        spare = seat.spare;
        once = seat.once;
        drafts = seat.drafts;
        plain = seat.plain;
        offering = seat.offering;
      }

  idle : (o : Operation) → operation_of state v.last ≡ Some o → ⊥
  idle o e = none-some o (sym ((kept.seats id v at).rests v.last more (omega arith)).0 ∙ e)

  second_seat : SeatThen second
  second_seat =
      let seat = kept.seats id v at in
      record {
        same = seat.same;
        low = omega (arith, more);
        top = omega arith;
        most = seat.most;
        waited = waited_since v.last v.actor sizes v.account kept.account seat.waited (seat.rested v.last more (omega arith));
        counts = seat.counts;
        rested = λ a above below. absurd (omega (arith, above, below));
        rests = λ a above below. absurd (omega (arith, above, below));
        pinned = (seat.rests v.last more (omega arith)).1;
        pinned_idle = λ p is. absurd (none-some p is);
        retired = λ x c. absurd (empty_has x c);
        entered = λ handle e. absurd (none-some handle e);
        calls = λ o e. absurd (idle o e);
        opens = λ handle r. absurd (none-some handle r.0);
        reserves = λ o e. absurd (idle o e);
        opening = λ handle slot e. absurd (none-some handle e);
        spare = λ b name free. absurd (none_second b name free);
        once = none_twice v.sizes v.last v.last v.account;
        drafts = λ d c. absurd (empty_has d c);
        plain = λ d c. absurd (empty_has d c);
        offering = knows_nothing kept.account.offered kept.account.offers kept.account.parted s.words v.last;
      }

  seat_by : (k : ℕ) (w : View) → Was k w → SeatThen w
  seat_by k w (was_first e p) = subst SeatThen p first_seat
  seat_by k w (was_other e p) = kept.seats k w p
  seat_by k w (was_second e p) = subst SeatThen p second_seat

  -- ---- what is said of seats

  first_at : get_elem? split_views id ≡ some first
  first_at = at_longer (set s.views id first) (second ∷ []) id first (set_here s.views id first (at_within s.views v id at))

  other_at : (k : ℕ) (w : View) → (k ≡ id → ⊥) → get_elem? s.views k ≡ some w → get_elem? split_views k ≡ some w
  other_at k w apart e = at_longer (set s.views id first) (second ∷ []) k w (set_else s.views id k first apart ∙ e)

  mine : (k : ℕ) (w : View) → get_elem? s.views k ≡ some w → k ≡ id → w ≡ v
  mine k w e same = some-injective w v (sym e ∙ ap (λ n. get_elem? s.views n) same ∙ at)

  has_still : (a : ℕ) → HasSeat s.views a → HasSeat split_views a
  has_still a h = elim (cases_eq h.id id) [
    | inl same ↦ record { id = id; view = first; at = first_at; its = ap (λ (x : View). x.actor) (sym (mine h.id h.view h.at same)) ∙ h.its }
    | inr apart ↦ record { id = h.id; view = h.view; at = other_at h.id h.view apart h.at; its = h.its }
  ]

  opening_still : (handle slot : ℕ) → IsOpening state s.views handle slot → IsOpening state split_views handle slot
  opening_still handle slot h = elim (cases_eq h.id id) [
    | inl same ↦
        (let is = mine h.id h.view h.at same in
        record { id = id; view = first; at = first_at; reserves = subst (λ x. Reserves state x handle) is h.reserves; free = subst (λ x. IsFree x 1 slot) is h.free })
    | inr apart ↦ record { id = h.id; view = h.view; at = other_at h.id h.view apart h.at; reserves = h.reserves; free = h.free }
  ]

  closing_still : (handle who : ℕ) → IsClosing s.views handle who → IsClosing split_views handle who
  closing_still handle who h = elim (cases_eq h.id id) [
    | inl same ↦
        (let is = sym (mine h.id h.view h.at same) in
        record {
          id = id;
          view = first;
          at = first_at;
          its = ap (λ (x : View). x.actor) is ∙ h.its;
          closing = h.closing;
          is = ap (λ (x : View). latest x.closing handle) is ∙ h.is;
          this = h.this;
          none = λ other w e inside apart. none_by other w (was other w e) inside apart;
          clear = λ fell other w e inside apart. clear_by (cleared_or (λ so. ap (λ (x : View). x.passed.cleared) (sym is) ∙ so) fell) other w (was other w e) inside apart;
        })
    | inr differs ↦ record {
      id = h.id;
      view = h.view;
      at = other_at h.id h.view differs h.at;
      its = h.its;
      closing = h.closing;
      is = h.is;
      this = h.this;
      none = λ other w e inside apart. none_by other w (was other w e) inside apart;
      clear = λ fell other w e inside apart. clear_by fell other w (was other w e) inside apart;
    }
  ]
    where
      none_by : (other : ℕ) (w : View) → Was other w → w.entered ≡ Some handle → w.actor ≢ who → IsShown w → h.closing.looked < w.actor
      none_by other w (was_first e p) inside apart shown =
          subst (λ n. h.closing.looked < n) (ap (λ (x : View). x.actor) p)
          (h.none id v at (ap (λ (x : View). x.entered) p ∙ inside) (λ is. apart (ap (λ (x : View). x.actor) (sym p) ∙ is)) (λ q is. shown q (ap (λ (x : View). x.pin) (sym p) ∙ is)))
      none_by other w (was_other e p) inside apart shown = h.none other w p inside apart shown
      none_by other w (was_second e p) inside apart shown = absurd (none-some handle (ap (λ (x : View). x.entered) p ∙ inside))

      clear_by : (h.view.passed.cleared ≡ true) ⊎ (1 ≤ h.closing.looked) → (other : ℕ) (w : View) → Was other w → w.entered ≡ Some handle → w.actor ≢ who → IsShown w
      clear_by fell other w (was_first e p) inside apart =
          λ q is. h.clear fell id v at (ap (λ (x : View). x.entered) p ∙ inside) (λ same. apart (ap (λ (x : View). x.actor) (sym p) ∙ same)) q (ap (λ (x : View). x.pin) p ∙ is)
      clear_by fell other w (was_other e p) inside apart = h.clear fell other w p inside apart
      clear_by fell other w (was_second e p) inside apart = absurd (none-some handle (ap (λ (x : View). x.entered) p ∙ inside))

  split_owed : (k : ℕ) → owed_on k split_views ≡ owed_on k s.views
  split_owed k =
      let both = sum_by_push (λ (x : View). how_often k x.owed) (set s.views id first) second in let one = owed_set k s.views id v at first in omega (arith, both, one)

  split_retired : (n : ℕ) → retired_on n split_views ≡ retired_on n s.views
  split_retired n = let both = sum_by_push (retired_in n) (set s.views id first) second in let one = retired_set n s.views id v at first in omega (arith, both, one)

  owed_was : (k : ℕ) (x : View) → Was k x → (r : ℕ) → Contains x.owed r → (other : ℕ) × (y : View) × (get_elem? s.views other ≡ some y) × Contains y.owed r × (y.actor ≡ x.actor)
  owed_was k x (was_first e p) r c = (id, v, at, subst (λ (y : View). Contains y.owed r) (sym p) c, ap (λ (y : View). y.actor) p)
  owed_was k x (was_other e p) r c = (k, x, p, c, refl)
  owed_was k x (was_second e p) r c = absurd (empty_has r (subst (λ (y : View). Contains y.owed r) (sym p) c))

  retired_was : (k : ℕ) (x : View) → Was k x → (y : Retired) → Contains x.retired y → (other : ℕ) × (z : View) × (get_elem? s.views other ≡ some z) × Contains z.retired y
  retired_was k x (was_first e p) y c = (id, v, at, subst (λ (z : View). Contains z.retired y) (sym p) c)
  retired_was k x (was_other e p) y c = (k, x, p, c)
  retired_was k x (was_second e p) y c = absurd (empty_has y (subst (λ (z : View). Contains z.retired y) (sym p) c))

  lines_was : (k : ℕ) (x : View) → Was k x → (o : Operation) → operation_of (state_of sizes kept.account) x.actor ≡ Some o → HoldsAll (owes_at o) x.owed
  lines_was k x (was_first e p) o runs =
      subst (λ (y : View). HoldsAll (owes_at o) y.owed) p
      (kept.held.lines id v at o (subst (λ (y : View). operation_of (state_of sizes kept.account) y.actor ≡ Some o) (sym p) runs))
  lines_was k x (was_other e p) o runs = kept.held.lines k x p o runs
  lines_was k x (was_second e p) o runs =
      absurd (none-some o (sym ((kept.seats id v at).rests v.last more (omega arith)).0 ∙ subst (λ (y : View). operation_of (state_of sizes kept.account) y.actor ≡ Some o) (sym p) runs))

  first_was : (r : Ref) → IsOwed split_views r ⊎ IsDead sizes kept.account split_views r → IsReached sizes kept.account s.views r
  first_was r (inl o) = let y = owed_was o.0 o.1 (was o.0 o.1 o.2) r o.3 in at_first r (inl (y.0, y.1, y.2, y.3))
  first_was r (inr d) =
      let z = retired_was d.id d.view (was d.id d.view d.at) d.item d.its in
      at_first r (inr (record { used = d.used; id = z.0; view = z.1; at = z.2; item = d.item; its = z.3; deep = d.deep; number = d.number }))

  split_held : AreHeld sizes kept.account kept.stands s.words split_views
  split_held = record {
    counted = λ k here. (let old = kept.held.counted k here in let seats = split_owed k in let slots = split_retired (slot_of k) in omega (arith, old, seats, slots));
    spare = kept.held.spare;
    fresh = kept.held.fresh;
    owed = λ k x e r c. (let y = owed_was k x (was k x e) r c in kept.held.owed y.0 y.1 y.2 r y.3);
    known = λ k x e r c a o runs its. (let y = owed_was k x (was k x e) r c in kept.held.known y.0 y.1 y.2 r y.3 a o runs its ∙ y.4);
    lines = λ k x e. lines_was k x (was k x e);
    dead = λ k x e y c deep r here is. (let z = retired_was k x (was k x e) y c in kept.held.dead z.0 z.1 z.2 y z.3 deep r here is);
    unlet = λ k gone here. (let old = kept.held.unlet k gone here in let seats = split_owed k in omega (arith, old, seats));
    reached = λ r from. kept.held.reached r (held_within sizes kept.account (λ q. IsOwed split_views q ⊎ IsDead sizes kept.account split_views q)
        (λ q. IsOwed s.views q ⊎ IsDead sizes kept.account s.views q) first_was r from);
    unborn = kept.held.unborn;
    gone = kept.held.gone;
    used = kept.held.used;
    owned = kept.held.owned;
    owns = kept.held.owns;
  }

  pub split_kept : IsKept sizes (record { words = s.words; homes = s.homes; views = split_views })
  split_kept = record {
    account = kept.account;
    stands = kept.stands;
    range = kept.range;
    bounds = kept.bounds;
    keys = kept.keys;
    quiet = kept.quiet;
    counted = kept.counted;
    size = kept.size;
    taken = kept.taken;
    generations = kept.generations;
    nodes = kept.nodes;
    roots = kept.roots;
    closings = λ handle who low says. closing_still handle who (kept.closings handle who low says);
    openings = λ handle slot low fits is none. opening_still handle slot (kept.openings handle slot low fits is none);
    seats = λ k w e. seat_by k w (was k w e);
    runners = λ a o e. has_still a (kept.runners a o e);
    alone = λ i j x y a ei ej hx hy.
        alone_then (λ w. HasActor w a) (λ w. HasActor w a) (λ i j x y ei ej hx hy. kept.alone i j x y a ei ej hx hy) (λ h. (h.0, omega (arith, h.1))) (λ h. (omega (arith, h.0, more), h.1))
        (λ h. (h.0, omega (arith, h.1))) (λ h. (omega (arith, h.0, more), h.1)) (λ h g. absurd (omega (arith, h.1, g.0, more))) (λ h g. absurd (omega (arith, h.0, g.1, more))) i j x y ei ej hx hy;
    pools = λ i j x y b c name ei ej hx hy.
        alone_then (λ w. IsFree w b name) (λ w. IsFree w c name) (λ i j x y ei ej hx hy. kept.pools i j x y b c name ei ej hx hy) (λ h. h) (λ h. absurd (none_second b name h)) (λ h. h)
        (λ h. absurd (none_second c name h)) (λ h g. none_second c name g) (λ h g. none_second b name h) i j x y ei ej hx hy;
    numbers = λ i j x y handle ei ej hx hy.
        alone_then (λ w. Reserves state w handle) (λ w. Reserves state w handle) (λ i j x y ei ej hx hy. kept.numbers i j x y handle ei ej hx hy) (λ h. h) (λ h. absurd (none-some handle h.0)) (λ h. h)
        (λ h. absurd (none-some handle h.0)) (λ h g. none-some handle g.0) (λ h g. none-some handle h.0) i j x y ei ej hx hy;
    held = split_held;
    cells = record {
      spare = kept.cells.spare;
      nobodys = λ class name h k x b e f. not_free class name h k x b (was k x e) f;
      once = kept.cells.once;
      apart = kept.cells.apart;
    };
  }

  -- ---- whom seats have heard of

  module _ (some_seats : 1 ≤ v.sizes.seats) (heard : (k : ℕ) (x : View) → get_elem? s.views k ≡ some x → (h : Heard) → Contains x.heard h → WasGivenUp s.views h) where
    gone_still : (h : Heard) → WasGivenUp s.views h → WasGivenUp split_views h
    gone_still h g = record { id = g.id; view = g.view; at = other_at g.id g.view apart g.at; spent = g.spent; actor = g.actor; last = g.last; account = g.account; bare = g.bare }
      where
        apart : g.id ≡ id → ⊥
        apart same = let none = ap (λ (x : View). x.sizes.seats) (sym (mine g.id g.view g.at same)) ∙ g.spent in omega (arith, some_seats, none)

    heard_by : (k : ℕ) (x : View) → Was k x → (h : Heard) → Contains x.heard h → WasGivenUp split_views h
    heard_by k x (was_first e p) h c = gone_still h (heard id v at h (subst (λ hs. Contains hs h) (ap (λ (y : View). y.heard) (sym p)) c))
    heard_by k x (was_other e p) h c = gone_still h (heard k x p h c)
    heard_by k x (was_second e p) h c = let none = (subst (λ hs. Contains hs h) (ap (λ (y : View). y.heard) (sym p)) c).1 in absurd (omega (arith, none))

    was_before : (k : ℕ) (x : View) → Was k x → Before s.views x
    was_before k x (was_first e p) = was_one id v at (subst (IsAsWas v) p (record { actor = refl; epoch = refl; passed = refl; glance = refl; pinned = λ q e. e }))
    was_before k x (was_other e p) = was_one k x p (as_was x)
    was_before k x (was_second e p) = is_new (ap (λ (y : View). y.pin) (sym p)) (ap (λ (y : View). y.epoch) (sym p))

    retires_before : (k : ℕ) (x : View) → Was k x → Retires s.views k x
    retires_before k x (was_first e p) = subst (Retires s.views k) p (retires_as v (ap (λ n. get_elem? s.views n) e ∙ at) refl (λ q is. is))
    retires_before k x (was_other e p) = retires_self s.views k x p
    retires_before k x (was_second e p) = retires_none (ap (λ (y : View). y.retired) (sym p)) (ap (λ (y : View). y.pin) (sym p))

    knew_before : (k : ℕ) (x : View) → Was k x → Knew s.views x
    knew_before k x (was_first e p) = subst (Knew s.views) p (knew id v at (λ d c. c) (λ y c. c))
    knew_before k x (was_other e p) = knew_self s.views k x p
    knew_before k x (was_second e p) = knew_none (ap (λ (y : View). y.links) (sym p))

    owed_before : (k : ℕ) (x : View) → Was k x → Owed s.views x
    owed_before k x (was_first e p) = subst (Owed s.views) p (owed_as id v at (λ r c. (c, refl)) (λ y c. c))
    owed_before k x (was_other e p) = owed_self s.views k x p
    owed_before k x (was_second e p) = owed_none (ap (λ (y : View). y.owed) (sym p)) (ap (λ (y : View). y.retired) (sym p))

    pub split_ruled : AreEpochs s.words s.views → AreRetired sizes s.words s.views → AreOwed s.views → AreLinked sizes s.words s.views →
        IsRuled sizes (record { words = s.words; homes = s.homes; views = split_views })
    split_ruled epochs retired owed linked = record {
      kept = split_kept;
      epochs = epochs_stay s.words s.words s.views split_views refl (λ k x e. was_before k x (was k x e)) epochs;
      retired = retired_stay sizes s.words s.words s.views split_views (omega arith) (λ k x e. retires_before k x (was k x e)) retired;
      owed = owed_stay s.views split_views (λ k x e. owed_before k x (was k x e)) owed;
      linked = links_stay sizes s.words s.words s.views split_views (λ c is. refl) (λ k x e. knew_before k x (was k x e)) linked;
      heard = λ k x e h c. heard_by k x (was k x e) h c;
    }

pub splits : (sizes : Sizes) (id : ℕ) (v : View) → 1 ≤ v.sizes.seats → v.actor < v.last → Splits (IsShadowed sizes) id v (without_last v) (of_last v)
splits sizes id v some_seats more =
    lifted_split sizes id v some_seats (without_last v) (of_last v) (refl, refl) (refl, refl)
    (λ s ruled at. split_ruled sizes s ruled.kept id v at more some_seats ruled.heard ruled.epochs ruled.retired ruled.owed ruled.linked)

pub left_sound : (words : ℕ) (v : View) → IsSound words v → IsSound words (without_last v)
left_sound words v h = record { size = h.size; range = h.range; bounds = h.bounds; keys = h.keys; counted = h.counted; inside = h.inside; free = h.free }

pub right_sound : (words : ℕ) (v : View) → IsSound words v → IsSound words (of_last v)
right_sound words v h =
    record {
      size = h.size;
      range = h.range;
      bounds = h.bounds;
      keys = h.keys;
      counted = h.counted;
      inside = h.inside;
      free = λ b name free. absurd
          (none_free v.sizes v.last v.last v.account b name free);
    }
