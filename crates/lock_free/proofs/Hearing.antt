-- A seat hears of another one, which is given up.
use Rattle.history.specs.declared.calls.Call.{Call}
use Rattle.std.proofs.Common.{◌≡◌, ◌≢◌, ◌≤◌, ℕ, inl, inr, List, [], ◌∷◌, Contains, None, set, slice_index, refl, sym, ap, subst, ◌∙◌, arith}
use Rattle.std.proofs.lemmas.List.{set-get_or}
use Rattle.std.proofs.lemmas.Option.{none-some}
use mathlib.Core.Option.{Option, some, none}
use lib.ListN.{get_elem?}
use Rattle.atomic_table.specs.Table as Table
use Rattle.atomic_table.specs.Table.{Me, Act, gives, keeps, chain, carried_after, homes_after, Valid, Allows, Joins, step}
use Rattle.atomic_table.proofs.Lists.{at_set, set_else}
use Rattle.lock_free.proofs.OneGlance.Shadowed.{lifted, lifted_join}
use Rattle.lock_free.proofs.CountWords.{count_same}
use Rattle.lock_free.proofs.OwedStay.{owed_same, owed_then}
use Rattle.lock_free.proofs.LinksStay.{Knew, knew_none, knew_then, linked_then, links_stay}
use Rattle.lock_free.specs.Links.{link_in}
use Rattle.lock_free.proofs.EpochStays.{IsAsWas, Was, epochs_stay, stays_elsewhere, was_one, was_then}
use Rattle.lock_free.specs.declared.rules.Heard.{Heard}
use Rattle.lock_free.specs.declared.rules.View.{View}
use Rattle.lock_free.specs.declared.sizes.Sizes.{Sizes}
use Rattle.lock_free.specs.Accounts.{state_of}
use Rattle.lock_free.specs.Finishing.{gone, has_emptied, hearing, seen_by, unoffered, HasHeard, HasHeardMore}
use Rattle.lock_free.specs.Loading.{HasSeen, IsSound}
use Rattle.lock_free.specs.Shadows.{IsShadowed}
use Rattle.lock_free.specs.Rules.{IsFree, IsSeat, IsKept, IsRuled, WasGivenUp}
use Rattle.lock_free.proofs.Assembling.{all_stand, closing_stays, here, numbers_stay, assembled}
use Rattle.lock_free.proofs.CellsStay.{cells_seen}
use Rattle.lock_free.proofs.GivenBack.{first_or}
use Rattle.lock_free.proofs.GoneSeats.{given_up_still, heard_still}
use Rattle.lock_free.proofs.Meanings.{no_tries}
use Rattle.lock_free.proofs.Moments.{seen_view, seen_kept}
use Rattle.lock_free.proofs.Idle.{empty_has, none_free, none_twice}
use Rattle.lock_free.proofs.RetiredStay.{Retires, epoch_still, retired_stay, retired_then, retires_none, retires_then}
use Rattle.lock_free.proofs.Pools.{first_there, more_there}
use Rattle.lock_free.proofs.HeldStill.{held_fewer, held_views}
use Rattle.lock_free.proofs.Waiting.{waited_unoffered}
use Rattle.lock_free.proofs.LinesStay.{lines_idle, unpinned_idle}
use Rattle.lock_free.proofs.PartingStay.{knows_spent}

-- ---- the rule

-- it doesn't speak of the table's slots
pub homed : (sizes : Sizes) (s : Table.State Call View) → IsKept sizes s → (homes : _) → IsKept sizes (record { words = s.words; homes = homes; views = s.views })
homed sizes s kept homes = record {
  account = kept.account;
  stands = kept.stands;
  range = kept.range;
  bounds = kept.bounds;
  keys = kept.keys;
  quiet = kept.quiet;
  counted = kept.counted;
  size = kept.size;
  taken = kept.taken;
  generations = kept.generations;
  nodes = kept.nodes;
  roots = kept.roots;
  closings = kept.closings;
  openings = kept.openings;
  seats = kept.seats;
  runners = kept.runners;
  alone = kept.alone;
  pools = kept.pools;
  numbers = kept.numbers;
  held = kept.held;
  cells = kept.cells;
}

-- nor of whom a seat has heard
module _ (sizes : Sizes) (s : Table.State Call View) (kept : IsKept sizes s) (id : ℕ) (v : View) (at : get_elem? s.views id ≡ some v) (heard : List Heard) where
  abbrev later : View
  later = record v { heard = heard }

  mine : IsSeat sizes kept.account kept.stands s.words v
  mine = kept.seats id v at

  later_seat : IsSeat sizes kept.account kept.stands s.words later
  later_seat = record {
    same = mine.same;
    low = mine.low;
    top = mine.top;
    most = mine.most;
    waited = mine.waited;
    counts = mine.counts;
    rested = mine.rested;
    rests = mine.rests;
    pinned = mine.pinned;
    pinned_idle = mine.pinned_idle;
    retired = mine.retired;
    entered = mine.entered;
    calls = mine.calls;
    opens = mine.opens;
    opening = λ handle slot o n. (let x = mine.opening handle slot o n in record { low = x.low; fits = x.fits; is = x.is; free = x.free });
    reserves = mine.reserves;
    spare = mine.spare;
    once = mine.once;
    drafts = mine.drafts;
    plain = mine.plain;
    offering = mine.offering;
  }

  later_kept : IsKept sizes (record { words = s.words; homes = s.homes; views = set s.views id later })
  later_kept =
      assembled sizes s kept id v at later refl refl kept.account kept.stands s.words (all_stand sizes s kept)
      (λ handle who low says. closing_stays sizes s kept id v at later refl refl (λ h e. (e, refl)) refl (λ c. c) handle who (kept.closings handle who low says)) later_seat
      (λ other w e apart. kept.seats other w e) (λ b n f. inl f)
      (numbers_stay sizes s kept id v at later refl refl kept.account s.words (no_tries kept.account.offers (state_of sizes kept.account)) (λ slot none. none) (λ handle low. refl) refl
      (λ slot handle e free. free)) (held_views sizes s kept id v at later refl refl refl) (cells_seen sizes s kept id v at later (λ b n f. f))

-- nor of the slots of a seat that is given up while it rests
module _ (sizes : Sizes) (s : Table.State Call View) (kept : IsKept sizes s) (id : ℕ) (v : View) (at : get_elem? s.views id ≡ some v) (unpinned : v.pin ≡ None) (opens_none : v.opens ≡ None) where
  abbrev emptied : View
  emptied = gone v

  its : IsSeat sizes kept.account kept.stands s.words v
  its = kept.seats id v at

  pub nothing_free : (b name : ℕ) → IsFree emptied b name → ⊥
  nothing_free = none_free sizes v.actor v.last v.account

  left_seat : IsSeat sizes kept.account kept.stands s.words emptied
  left_seat = record {
    same = λ some_seats. absurd (omega (arith, some_seats));
    low = its.low;
    top = its.top;
    most = its.most;
    waited = waited_unoffered v.actor v.account kept.account its.waited;
    counts = its.counts;
    rested = its.rested;
    rests = its.rests;
    pinned = its.pinned;
    pinned_idle = its.pinned_idle;
    retired = λ x c. absurd (empty_has x c);
    entered = its.entered;
    calls = its.calls;
    opens = its.opens;
    opening = λ handle slot o n. absurd (none-some handle (sym opens_none ∙ o));
    reserves = its.reserves;
    spare = λ b name f. absurd (nothing_free b name f);
    once = none_twice sizes v.actor v.last v.account;
    drafts = λ d c. absurd (empty_has d c);
    plain = its.plain;
    offering = knows_spent kept.account.offered kept.account.offers kept.account.parted s.words v.actor v.pin v.offer v.pool.parted its.offering;
  }

  left_kept : IsKept sizes (record { words = s.words; homes = s.homes; views = set s.views id emptied })
  left_kept =
      assembled sizes s kept id v at emptied refl refl kept.account kept.stands s.words (all_stand sizes s kept)
      (λ handle who low says. closing_stays sizes s kept id v at emptied refl refl (λ h e. (e, refl)) refl (λ c. c) handle who (kept.closings handle who low says)) left_seat
      (λ other w e apart. kept.seats other w e) (λ b n f. absurd (nothing_free b n f))
      (numbers_stay sizes s kept id v at emptied refl refl kept.account s.words (no_tries kept.account.offers (state_of sizes kept.account)) (λ slot none. none) (λ handle low. refl) refl
      (λ slot handle o free. absurd (none-some handle (sym opens_none ∙ o))))
      (held_fewer sizes s kept id v at emptied refl (λ k. omega arith) (λ k c. absurd (empty_has k c)) (λ n. omega arith) (λ y c. absurd (empty_has y c))
      (lines_idle sizes s kept id v at kept.account emptied (λ a differs. refl) (unpinned_idle sizes s kept id v at unpinned)) s.words (λ c is. refl))
      (cells_seen sizes s kept id v at emptied (λ b n f. absurd (nothing_free b n f)))

-- ---- the one hears of the other

module _ (sizes : Sizes) (id : ℕ) (v : View) (some_v : 1 ≤ v.sizes.seats) (other : ℕ) (w : View) (some_w : 1 ≤ w.sizes.seats) (rests : (w.pin ≡ None) × (w.opens ≡ None))
    (s : Table.State Call View) (ruled : IsRuled sizes s) (at : get_elem? s.views id ≡ some v) (apart : other ≢ id) (e : get_elem? (set s.views id (hearing v w)) other ≡ some w) where
  abbrev there : Table.State Call View
  there = record { words = s.words; homes = s.homes; views = set s.views id (hearing v w) }

  abbrev views_then : List View
  views_then = set (set s.views id (hearing v w)) other (gone w)

  kept_there : IsKept sizes there
  kept_there = later_kept sizes s ruled.kept id v at (seen_by w (unoffered w.account) ∷ v.heard)

  kept_then : IsKept sizes (record { words = s.words; homes = s.homes; views = views_then })
  kept_then = left_kept sizes there kept_there other w e rests.0 rests.1

  old : (h : Heard) → WasGivenUp s.views h → WasGivenUp views_then h
  old h g = given_up_still (set s.views id (hearing v w)) other w e some_w (gone w) h (given_up_still s.views id v at some_v (hearing v w) h g)

  new : (h : Heard) → seen_by w (unoffered w.account) ≡ h → WasGivenUp views_then h
  new h same = record {
    id = other;
    view = gone w;
    at = here sizes there kept_there other w e (gone w) refl refl;
    spent = refl;
    actor = ap (λ (x : Heard). x.actor) same;
    last = ap (λ (x : Heard). x.last) same;
    account = ap (λ (x : Heard). x.account) same;
    bare = (refl, refl, refl, refl, refl);
  }

  was_there : get_elem? s.views other ≡ some w
  was_there = sym (set_else s.views id other (hearing v w) apart) ∙ e

  heard_then : (k : ℕ) (x : View) → get_elem? views_then k ≡ some x → (h : Heard) → Contains x.heard h → WasGivenUp views_then h
  heard_then k x f h c = elim (at_set (set s.views id (hearing v w)) other k (gone w) x f) [
    | inl p ↦ old h (ruled.heard other w was_there h (subst (λ (y : View). Contains y.heard h) (sym p.1) c))
    | inr p ↦ elim (at_set s.views id k (hearing v w) x p.1) [
      | inl q ↦ elim (first_or (seen_by w (unoffered w.account)) v.heard h (subst (λ (y : View). Contains y.heard h) (sym q.1) c)) [
        | inl same ↦ new h same
        | inr before ↦ old h (ruled.heard id v at h before)
      ]
      | inr q ↦ old h (ruled.heard k x q.1 h c)
    ]
  ]

  pub heard_ruled : IsRuled sizes (record { words = s.words; homes = s.homes; views = views_then })
  heard_ruled = record {
    kept = kept_then;
    epochs = epochs_stay s.words s.words s.views views_then refl (λ k x f. was k x f) ruled.epochs;
    retired = retired_stay sizes s.words s.words s.views views_then (omega arith) retires ruled.retired;
    owed = owed_then (set s.views id (hearing v w)) other w e (gone w) (λ k c. absurd (empty_has k c)) (λ x c. absurd (empty_has x c))
        (owed_same s.views id v at (hearing v w) refl refl refl ruled.owed);
    linked = links_stay sizes s.words s.words s.views views_then (λ c is. refl) knows ruled.linked;
    heard = heard_then;
  }
    where
      was : (k : ℕ) (x : View) → get_elem? views_then k ≡ some x → Was s.views x
      was k x f = elim (at_set (set s.views id (hearing v w)) other k (gone w) x f) [
        | inl p ↦ was_one other w was_there (subst (IsAsWas w) p.1 (record { actor = refl; epoch = refl; passed = refl; glance = refl; pinned = λ q e. e }))
        | inr p ↦ was_then s.views id v at (hearing v w) (record { actor = refl; epoch = refl; passed = refl; glance = refl; pinned = λ q e. e }) k x p.1
      ]

      retires : (k : ℕ) (x : View) → get_elem? views_then k ≡ some x → Retires s.views k x
      retires k x f = elim (at_set (set s.views id (hearing v w)) other k (gone w) x f) [
        | inl p ↦ retires_none (ap (λ (y : View). y.retired) (sym p.1)) (ap (λ (y : View). y.pin) (sym p.1) ∙ rests.0)
        | inr p ↦ retires_then s.views id v at (hearing v w) refl (λ q is. is) k x p.1
      ]

      knows : (k : ℕ) (x : View) → get_elem? views_then k ≡ some x → Knew s.views x
      knows k x f = elim (at_set (set s.views id (hearing v w)) other k (gone w) x f) [
        | inl p ↦ knew_none (ap (λ (y : View). y.links) (sym p.1))
        | inr p ↦ knew_then s.views id v at (hearing v w) refl (λ y c. c) k x p.1
      ]

pub hearing_joins : (sizes : Sizes) (id : ℕ) (v : View) → 1 ≤ v.sizes.seats → (other : ℕ) (w : View) → 1 ≤ w.sizes.seats → (w.pin ≡ None) × (w.opens ≡ None) →
    Joins (IsShadowed sizes) id v other w (hearing v w) (gone w)
hearing_joins sizes id v some_v other w some_w rests =
    lifted_join sizes id v some_v other w (hearing v w) (gone w) some_w (refl, refl) (refl, refl)
    (λ s ruled at apart e. heard_ruled sizes id v some_v other w some_w rests s ruled at apart e)

-- ---- a seat gives back whatever slots it has

gives_all : List (ℕ × Call) → Act Call
gives_all [] = keeps
gives_all (x ∷ xs) = chain gives (gives_all xs)

none_left : (xs : List (ℕ × Call)) → carried_after xs (gives_all xs) ≡ []
unfolding gives_all
none_left [] = refl
none_left (x ∷ xs) = none_left xs

may_give : (homes : List (Option Call)) (xs : List (ℕ × Call)) → Valid homes xs (gives_all xs)
unfolding gives_all
may_give homes [] = tt
may_give homes (x ∷ xs) = (tt, may_give (set homes x.0 (some x.1)) xs)

module _ (sizes : Sizes) (size id : ℕ) (me : Me Call View) (word : ℕ) (some_seats : 1 ≤ me.0.sizes.seats) where
  pub empties : Allows (IsShadowed sizes) size id me word (λ n. n) (has_emptied (step size word 0 0 none) me)
  empties =
      lifted sizes size id me word (λ n. n) (has_emptied (step size word 0 0 none) me) some_seats
      (λ s ruled at.
      (let its = (ruled.kept.seats id me.0 at).same some_seats in
      let own = subst (λ z. IsKept z s) (sym its) ruled.kept in
      let view = seen_view me.0 s own id at in
      let after = homed me.0.sizes (record { words = s.words; homes = s.homes; views = set s.views id view }) (seen_kept me.0 s own id at) (homes_after s.homes me.1 (gives_all me.1)) in
      let there : IsKept me.0.sizes (record { words = set s.words word (slice_index s.words word); homes = homes_after s.homes me.1 (gives_all me.1); views = set s.views id view }) =
      subst (λ ws. IsKept me.0.sizes (record { words = ws; homes = homes_after s.homes me.1 (gives_all me.1); views = set s.views id view })) (sym (set-get_or s.words word 0)) after in (
        view,
        gives_all me.1,
        (inr refl, refl, λ shown. shown),
        may_give s.homes me.1,
        record {
          kept =
              subst (λ z. IsKept z (record { words = set s.words word (slice_index s.words word); homes = homes_after s.homes me.1 (gives_all me.1); views = set s.views id view })) its there;
          epochs =
              epochs_stay s.words (set s.words word (slice_index s.words word)) s.views (set s.views id view) (stays_elsewhere s.words word (λ n. n) (inr refl))
              (was_then s.views id me.0 at view (record { actor = refl; epoch = refl; passed = refl; glance = refl; pinned = λ q e. e })) ruled.epochs;
          retired =
              retired_then s.views id me.0 at view refl (λ p is. is) sizes s.words (set s.words word (slice_index s.words word))
              (epoch_still s.words (set s.words word (slice_index s.words word)) (stays_elsewhere s.words word (λ n. n) (inr refl))) ruled.retired;
          owed = owed_same s.views id me.0 at view refl refl refl ruled.owed;
          linked =
              linked_then s.views id me.0 at view refl (λ x c. c) sizes s.words (set s.words word (slice_index s.words word))
              (λ c is. ap link_in (count_same sizes word (λ n. n) s.words (inr refl) c is)) ruled.linked;
          heard = heard_still s.views id me.0 at some_seats view refl ruled.heard;
        },
        ((record { table = s; kept = own; id = id; at = at; finds = refl }, refl), none_left me.1),
      )))

-- ---- what is known then

pub emptied_some : (w : View) (word found : ℕ) (left : View) → HasSeen w word found left → 1 ≤ w.sizes.seats → 1 ≤ left.sizes.seats
emptied_some w word found left (m, is) some_seats = subst (λ (x : View). 1 ≤ x.sizes.seats) (sym is) some_seats

-- it rests still
pub emptied_rests : (w : View) (word found : ℕ) (left : View) → HasSeen w word found left → (w.pin ≡ None) × (w.opens ≡ None) → (left.pin ≡ None) × (left.opens ≡ None)
emptied_rests w word found left (m, is) rests = subst (λ (x : View). (x.pin ≡ None) × (x.opens ≡ None)) (sym is) rests

pub has_heard : (v w : View) (word found : ℕ) (left : View) → HasSeen w word found left → (after : View) → after ≡ hearing v left → HasHeard after w
has_heard v w word found left (m, is) after heard = record {
  account = m.kept.account;
  it =
      subst (λ (x : View). Contains x.heard (seen_by w (unoffered m.kept.account))) (sym (heard ∙ ap (hearing v) is))
      (first_there (seen_by w (unoffered m.kept.account)) v.heard);
  waited = (m.kept.seats m.id w m.at).waited;
}

pub has_heard_more : (v left after : View) → after ≡ hearing v left → HasHeardMore v after
has_heard_more v left after heard = record {
  is = heard ∙ ap (λ (x : View). record v { heard = x.heard }) (sym heard);
  all = λ h c. subst (λ (x : View). Contains x.heard h) (sym heard) (more_there (seen_by left (unoffered left.account)) v.heard h c);
}

-- ---- more and more

pub heard_both : (u v w : View) → HasHeardMore u v → HasHeardMore v w → HasHeardMore u w
heard_both u v w p q = record { is = q.is ∙ ap (λ (x : View). record x { heard = w.heard }) p.is; all = λ h c. q.all h (p.all h c) }

pub still_heard : (v w other : View) → HasHeardMore v w → HasHeard v other → HasHeard w other
still_heard v w other more h = record { account = h.account; it = more.all (seen_by other (unoffered h.account)) h.it; waited = h.waited }

pub heard_sound : (n : ℕ) (v w : View) → HasHeardMore v w → IsSound n v → IsSound n w
heard_sound n v w more s =
    subst (IsSound n) (sym more.is)
    (record { size = s.size; range = s.range; bounds = s.bounds; keys = s.keys; counted = s.counted; inside = s.inside; free = s.free })
