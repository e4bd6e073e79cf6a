-- The rule after an access: put together from what it leaves of each part.
use Rattle.history.specs.declared.calls.Call.{Call}
use Rattle.std.proofs.Common.{◌≡◌, ◌≢◌, ◌⊎◌, ℕ, zero, suc, ◌<◌, ◌≤◌, inl, inr, true, List, [], ◌∷◌, length, set, slice_index, Some, refl, sym, ap, subst, ◌∙◌, arith}
use mathlib.Core.Option.{some, some-injective, some-ne-none}
use lib.ListN.{get_elem?}
use Rattle.atomic_table.specs.Table as Table
use Rattle.atomic_table.proofs.Lists.{at_set, set_else, set_here}
use Rattle.std.proofs.lemmas.Bool.{cases_eq}
use Rattle.trie_words.specs.Codes.{root_code, IsRootWord}
use Rattle.trie_words.specs.declared.roots.RootWord.TheVariants as word
use Rattle.machine_model.specs.Keys.{KeysFit}
use Rattle.machine_model.specs.declared.operations.Operation.{Operation}
use Rattle.machine_model.specs.Machine.{AreBounds}
use Rattle.machine_model.specs.States.{State, operation_of, handle_limit}
use Rattle.proof_waiting.specs.Beneath.proof_slots.specs.Unswept.{HasNoSweeps}
use Rattle.lock_free.specs.declared.accounts.Account.{Account}
use Rattle.lock_free.specs.declared.rules.View.{View}
use Rattle.lock_free.specs.declared.rules.Closing.{Closing}
use Rattle.lock_free.specs.declared.sizes.Sizes.{Sizes}
use Rattle.lock_free.specs.Accounts.{bounds_for, state_of}
use Rattle.lock_free.specs.Cells.{AreCells}
use Rattle.lock_free.specs.Holdings.{AreHeld}
use Rattle.lock_free.specs.Places.{HaveTaken, words_of, generation_word, root_word}
use Rattle.lock_free.specs.Rules.{Standing, NodesStand, RootsStand, IsClosing, SaysClosing, latest, IsFree, IsOpening, IsSpare, Reserves, HasSeat, IsSeat, HasActor, IsKept}
use Rattle.lock_free.specs.Roots.{NoOffer}
use Rattle.lock_free.specs.Trying.{KeepsTries}
use Rattle.lock_free.proofs.Meanings.{ran, reserved, reserves_on}

pub within : {A : Type 0} (xs : List A) (n : ℕ) (x : A) → get_elem? xs n ≡ some x → n < length xs
within [] n x e = absurd (some-ne-none x (sym e))
within (y ∷ ys) zero x e = omega arith
within (y ∷ ys) (suc n) x e = let h = within ys n x e in omega (arith, h)

-- what is said of words, steps and nodes, apart from seats
pub record AllStand (sizes : Sizes) (account : Account) (stands : Standing) (words : List ℕ) : Type 0 where
  pub bounds : AreBounds (bounds_for sizes account.steps)
  pub keys : KeysFit account.steps
  pub quiet : HasNoSweeps account.steps
  pub counted : length account.names ≡ (state_of sizes account).heap.births
  pub size : length words ≡ words_of sizes
  pub taken : HaveTaken sizes words
  pub generations : slice_index words generation_word ≡ (state_of sizes account).generations
  pub nodes : NodesStand sizes account stands words
  pub roots : RootsStand sizes account words

pub all_stand : (sizes : Sizes) (s : Table.State Call View) (kept : IsKept sizes s) → AllStand sizes kept.account kept.stands s.words
all_stand sizes s kept = record {
  bounds = kept.bounds;
  keys = kept.keys;
  quiet = kept.quiet;
  counted = kept.counted;
  size = kept.size;
  taken = kept.taken;
  generations = kept.generations;
  nodes = kept.nodes;
  roots = kept.roots;
}

-- one of two, where the first gives another
pub cleared_or : {A B C : Type 0} → (A → B) → A ⊎ C → B ⊎ C
cleared_or f (inl a) = inl (f a)
cleared_or f (inr c) = inr c

module _ (sizes : Sizes) (s : Table.State Call View) (kept : IsKept sizes s) (id : ℕ) (v : View) (at : get_elem? s.views id ≡ some v) (later : View) (actor : later.actor ≡ v.actor)
    (last : later.last ≡ v.last) where
  abbrev pub later_views : List View
  later_views = set s.views id later

  pub here : get_elem? later_views id ≡ some later
  here = set_here s.views id later (within s.views id v at)

  -- another seat's actors aren't this one's
  pub not_its : (other : ℕ) (w : View) → get_elem? s.views other ≡ some w → (other ≡ id → ⊥) → (a : ℕ) → HasActor w a → a ≢ v.actor
  not_its other w e apart a has same =
      apart (kept.alone other id w v a e at has (subst (λ n. (v.actor ≤ n) × (n ≤ v.last)) (sym same) (omega arith, (kept.seats id v at).top)))

  pub other_actor : (other : ℕ) (w : View) → get_elem? s.views other ≡ some w → (other ≡ id → ⊥) → w.actor ≢ v.actor
  other_actor other w e apart = not_its other w e apart w.actor (omega arith, (kept.seats other w e).top)

  had : (a : ℕ) → HasActor later a → HasActor v a
  had a h = (subst (λ n. n ≤ a) actor h.0, subst (λ n. a ≤ n) last h.1)

  alone_then : (i j : ℕ) (x y : View) (a : ℕ) → get_elem? later_views i ≡ some x → get_elem? later_views j ≡ some y → HasActor x a → HasActor y a → i ≡ j
  alone_then i j x y a ei ej hx hy = elim (at_set s.views id i later x ei) [
    | inl p ↦ elim (at_set s.views id j later y ej) [
      | inl q ↦ p.0 ∙ sym q.0
      | inr q ↦ p.0 ∙ kept.alone id j v y a at q.1 (had a (subst (λ z. HasActor z a) (sym p.1) hx)) hy
    ]
    | inr p ↦ elim (at_set s.views id j later y ej) [
      | inl q ↦ kept.alone i id x v a p.1 at hx (had a (subst (λ z. HasActor z a) (sym q.1) hy)) ∙ sym q.0
      | inr q ↦ kept.alone i j x y a p.1 q.1 hx hy
    ]
  ]

  -- ---- closers

  -- Where the seat doesn't enter the handle, and would close it still if it would before.
  module _ (handle who : ℕ) (entered : later.entered ≡ Some handle → (v.entered ≡ Some handle) × (v.pin ≡ later.pin))
      (closing : (c : Closing) → latest v.closing handle ≡ Some c → c.handle ≡ handle → v.actor ≡ who → latest later.closing handle ≡ Some c)
      (clears : later.passed.cleared ≡ true → v.passed.cleared ≡ true) where
    becomes : (other : ℕ) (u : View) (c : Closing) → get_elem? s.views other ≡ some u → latest u.closing handle ≡ Some c → c.handle ≡ handle → u.actor ≡ who →
        (w : View) × (get_elem? later_views other ≡ some w) × (w.actor ≡ u.actor) × (latest w.closing handle ≡ Some c) × (w.passed.cleared ≡ true → u.passed.cleared ≡ true)
    becomes other u c e is this its = elim (cases_eq other id) [
      | inl same ↦
          (let mine : v ≡ u = some-injective v u (sym at ∙ ap (λ n. get_elem? s.views n) (sym same) ∙ e) in (
            later,
            ap (λ n. get_elem? later_views n) same ∙ here,
            actor ∙ ap (λ (x : View). x.actor) mine,
            closing c (ap (λ (x : View). latest x.closing handle) mine ∙ is) this
                (ap (λ (x : View). x.actor) mine ∙ its),
            λ so. ap (λ (x : View). x.passed.cleared) (sym mine) ∙ clears so,
          ))
      | inr apart ↦ (u, set_else s.views id other later apart ∙ e, refl, is, λ so. so)
    ]

    was_inside : (other : ℕ) (w : View) → get_elem? later_views other ≡ some w → w.entered ≡ Some handle → (u : View) × (get_elem? s.views other ≡ some u) × (u.entered ≡ Some handle) ×
        (u.actor ≡ w.actor) × (u.pin ≡ w.pin)
    was_inside other w e inside = elim (at_set s.views id other later w e) [
      | inl h ↦
          (let its = entered (ap (λ (x : View). x.entered) h.1 ∙ inside) in
          (v, ap (λ n. get_elem? s.views n) h.0 ∙ at, its.0, sym actor ∙ ap (λ (x : View). x.actor) h.1, its.1 ∙ ap (λ (x : View). x.pin) h.1))
      | inr h ↦ (w, h.1, inside, refl, refl)
    ]

    pub closing_at : IsClosing s.views handle who → IsClosing later_views handle who
    closing_at h =
        let b = becomes h.id h.view h.closing h.at h.is h.this h.its in
        record {
          id = h.id;
          view = b.0;
          at = b.1;
          its = b.2 ∙ h.its;
          closing = h.closing;
          is = b.3;
          this = h.this;
          none = λ other w e inside apart shown.
              (let u = was_inside other w e inside in
              subst (λ n. h.closing.looked < n) u.3 (h.none other u.0 u.1 u.2 (λ same. apart (sym u.3 ∙ same)) (λ p is. shown p (sym u.4 ∙ is))));
          clear = λ cleared other w e inside apart.
              (let u = was_inside other w e inside in λ p is. h.clear (cleared_or b.4 cleared) other u.0 u.1 u.2 (λ same. apart (sym u.3 ∙ same)) p (u.4 ∙ is));
        }

  -- where the seat enters no handle and would close none that it didn't before
  pub closing_stays : ((handle : ℕ) → later.entered ≡ Some handle → (v.entered ≡ Some handle) × (v.pin ≡ later.pin)) → later.closing ≡ v.closing →
      (later.passed.cleared ≡ true → v.passed.cleared ≡ true) → (handle who : ℕ) → IsClosing s.views handle who → IsClosing later_views handle who
  closing_stays entered closing clears handle who h = closing_at handle who (entered handle) (λ c is this its. ap (λ marks. latest marks handle) closing ∙ is) clears h

  -- ---- reserved numbers, and who runs what

  has_still : (a : ℕ) → HasSeat s.views a → HasSeat later_views a
  has_still a h = elim (cases_eq h.id id) [
    | inl same ↦
        (let mine : v ≡ h.view = some-injective v h.view (sym at ∙ ap (λ n. get_elem? s.views n) (sym same) ∙ h.at) in
        record { id = id; view = later; at = here; its = actor ∙ ap (λ (x : View). x.actor) mine ∙ h.its })
    | inr apart ↦ record { id = h.id; view = h.view; at = set_else s.views id h.id later apart ∙ h.at; its = h.its }
  ]

  -- who has reserved a number for an offer that it writes has still
  pub opening_stays : (state : State) (handle slot : ℕ) → (Reserves (state_of sizes kept.account) v handle → IsFree v 1 slot → Reserves state later handle × IsFree later 1 slot) →
      ((other : ℕ) (w : View) → get_elem? s.views other ≡ some w → (other ≡ id → ⊥) → IsFree w 1 slot → Reserves (state_of sizes kept.account) w handle → Reserves state w handle) →
      IsOpening (state_of sizes kept.account) s.views handle slot → IsOpening state later_views handle slot
  opening_stays state handle slot still others h = elim (cases_eq h.id id) [
    | inl same ↦
        (let mine : h.view ≡ v = some-injective h.view v (sym h.at ∙ ap (λ n. get_elem? s.views n) same ∙ at) in
        let both = still (subst (λ x. Reserves (state_of sizes kept.account) x handle) mine h.reserves) (subst (λ x. IsFree x 1 slot) mine h.free) in
        record { id = id; view = later; at = here; reserves = both.0; free = both.1 })
    | inr apart ↦
        record { id = h.id; view = h.view; at = set_else s.views id h.id later apart ∙ h.at; reserves = others h.id h.view h.at apart h.free h.reserves; free = h.free }
  ]

  pub record Numbers (account : Account) (words : List ℕ) : Type 0 where
    pub openings : (handle slot : ℕ) → handle < handle_limit → IsRootWord (word.Opening slot) → slice_index words (root_word handle) ≡ root_code (word.Opening slot) → NoOffer account slot →
        IsOpening (state_of sizes account) later_views handle slot
    -- the seat's number is what it was, or nobody else's
    pub number : (handle : ℕ) → Reserves (state_of sizes account) later handle →
        Reserves (state_of sizes kept.account) v handle ⊎ ((other : ℕ) (w : View) → get_elem? s.views other ≡ some w → (other ≡ id → ⊥) → Reserves (state_of sizes account) w handle → ⊥)
    pub others : (other : ℕ) (w : View) → get_elem? s.views other ≡ some w → (other ≡ id → ⊥) → (handle : ℕ) → Reserves (state_of sizes account) w handle → Reserves (state_of sizes kept.account) w
        handle
    -- nobody else runs anything who ran nothing
    pub runners : (a : ℕ) (o : Operation) → operation_of (state_of sizes account) a ≡ Some o → (a ≡ v.actor) ⊎ ((p : Operation) × (operation_of (state_of sizes kept.account) a ≡ Some p))

  -- where operations keep their tries, and no word of a handle changes
  pub numbers_stay : (account : Account) (words : List ℕ) → KeepsTries kept.account.offers (state_of sizes kept.account) (state_of sizes account) →
      ((slot : ℕ) → NoOffer account slot → NoOffer kept.account slot) →
      ((handle : ℕ) → handle < handle_limit → slice_index words (root_word handle) ≡ slice_index s.words (root_word handle)) → later.opens ≡ v.opens →
      ((slot handle : ℕ) → v.opens ≡ Some handle → IsFree v 1 slot → IsFree later 1 slot) → Numbers account words
  numbers_stay account words tries none same opens still = record {
    openings = λ handle slot low fits is new.
        opening_stays (state_of sizes account) handle slot
        (λ r f. (let after = reserves_on kept.account.offers (state_of sizes kept.account) (state_of sizes account) tries v handle r in
        ((opens ∙ after.0, λ o e. after.1 o (ap (operation_of (state_of sizes account)) (sym actor) ∙ e)), still slot handle r.0 f)))
        (λ other w e apart f r. reserves_on kept.account.offers (state_of sizes kept.account) (state_of sizes account) tries w handle r)
        (kept.openings handle slot low fits (sym (same handle low) ∙ is) (none slot new));
    number = λ handle h. inl (reserved kept.account.offers (state_of sizes kept.account) (state_of sizes account) tries v handle
        (sym opens ∙ h.0, λ o e. h.1 o (ap (operation_of (state_of sizes account)) actor ∙ e)));
    others = λ other w e apart handle h. reserved kept.account.offers (state_of sizes kept.account) (state_of sizes account) tries w handle h;
    runners = λ a o e. inr (ran kept.account.offers (state_of sizes kept.account) (state_of sizes account) tries a o e);
  }

  -- ---- all of it

  -- Each slot that is free for the seat then was so before, or is free for nobody else.
  module _ (account : Account) (stands : Standing) (words : List ℕ) (all : AllStand sizes account stands words)
      (closings : (handle who : ℕ) → handle < handle_limit → SaysClosing (slice_index words (root_word handle)) who → IsClosing later_views handle who)
      (own : IsSeat sizes account stands words later)
      (others : (other : ℕ) (w : View) → get_elem? s.views other ≡ some w → (other ≡ id → ⊥) → IsSeat sizes account stands words w)
      (free : (b name : ℕ) → IsFree later b name → IsFree v b name ⊎ ((other : ℕ) (w : View) (c : ℕ) → get_elem? s.views other ≡ some w → (other ≡ id → ⊥) → IsFree w c name → ⊥))
      (reserves : Numbers account words) (held : AreHeld sizes account stands words later_views)
      (cells : AreCells sizes (IsSpare sizes account stands) words later_views) where
    seats_then : (other : ℕ) (w : View) → get_elem? later_views other ≡ some w → IsSeat sizes account stands words w
    seats_then other w e = elim (at_set s.views id other later w e) [
      | inl h ↦ subst (λ x. IsSeat sizes account stands words x) h.1 own
      | inr h ↦ others other w h.1 h.0
    ]

    free_by : (i : ℕ) (x : View) (b c name : ℕ) → get_elem? s.views i ≡ some x → (i ≡ id → ⊥) → IsFree later b name → IsFree x c name → i ≡ id
    free_by i x b c name e apart f g = elim (free b name f) [
      | inl h ↦ kept.pools i id x v c b name e at g h
      | inr none ↦ absurd (none i x c e apart g)
    ]

    pools_then : (i j : ℕ) (x y : View) (b c name : ℕ) → get_elem? later_views i ≡ some x → get_elem? later_views j ≡ some y → IsFree x b name → IsFree y c name → i ≡ j
    pools_then i j x y b c name ei ej hx hy = elim (at_set s.views id i later x ei) [
      | inl p ↦ elim (at_set s.views id j later y ej) [
        | inl q ↦ p.0 ∙ sym q.0
        | inr q ↦ p.0 ∙ sym (free_by j y b c name q.1 q.0 (subst (λ z. IsFree z b name) (sym p.1) hx) hy)
      ]
      | inr p ↦ elim (at_set s.views id j later y ej) [
        | inl q ↦ free_by i x c b name p.1 p.0 (subst (λ z. IsFree z c name) (sym q.1) hy) hx ∙ sym q.0
        | inr q ↦ kept.pools i j x y b c name p.1 q.1 hx hy
      ]
    ]

    number_by : (i : ℕ) (x : View) (handle : ℕ) → get_elem? s.views i ≡ some x → (i ≡ id → ⊥) → Reserves (state_of sizes account) later handle → Reserves (state_of sizes account) x handle → i ≡ id
    number_by i x handle e apart f g = elim (reserves.number handle f) [
      | inl h ↦ kept.numbers i id x v handle e at (reserves.others i x e apart handle g) h
      | inr none ↦ absurd (none i x e apart g)
    ]

    numbers_then : (i j : ℕ) (x y : View) (handle : ℕ) → get_elem? later_views i ≡ some x → get_elem? later_views j ≡ some y → Reserves (state_of sizes account) x handle →
        Reserves (state_of sizes account) y handle → i ≡ j
    numbers_then i j x y handle ei ej hx hy = elim (at_set s.views id i later x ei) [
      | inl p ↦ elim (at_set s.views id j later y ej) [
        | inl q ↦ p.0 ∙ sym q.0
        | inr q ↦ p.0 ∙ sym (number_by j y handle q.1 q.0 (subst (λ z. Reserves (state_of sizes account) z handle) (sym p.1) hx) hy)
      ]
      | inr p ↦ elim (at_set s.views id j later y ej) [
        | inl q ↦ number_by i x handle p.1 p.0 (subst (λ z. Reserves (state_of sizes account) z handle) (sym q.1) hy) hx ∙ sym q.0
        | inr q ↦ kept.numbers i j x y handle p.1 q.1 (reserves.others i x p.1 p.0 handle hx) (reserves.others j y q.1 q.0 handle hy)
      ]
    ]

    runners_then : (a : ℕ) (o : Operation) → operation_of (state_of sizes account) a ≡ Some o → HasSeat later_views a
    runners_then a o e = elim (reserves.runners a o e) [
      | inl own ↦ record { id = id; view = later; at = here; its = actor ∙ sym own }
      | inr before ↦ has_still a (kept.runners a before.0 before.1)
    ]

    pub assembled : IsKept sizes (record { words = words; homes = s.homes; views = later_views })
    assembled = record {
      account = account;
      stands = stands;
      range = kept.range;
      bounds = all.bounds;
      keys = all.keys;
      quiet = all.quiet;
      counted = all.counted;
      size = all.size;
      taken = all.taken;
      generations = all.generations;
      nodes = all.nodes;
      roots = all.roots;
      closings = closings;
      openings = reserves.openings;
      seats = seats_then;
      runners = runners_then;
      alone = alone_then;
      pools = pools_then;
      numbers = numbers_then;
      held = held;
      cells = cells;
    }
