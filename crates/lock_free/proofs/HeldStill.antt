-- Each reference is counted still where no step is taken, and where one is that adds no claim.
use Rattle.history.specs.declared.calls.Call.{Call}
use Rattle.std.proofs.Common.{◌≡◌, ◌≢◌, ◌⊎◌, ◌+◌, ◌≤◌, inl, inr, ℕ, List, Contains, Some, set, refl, sym, ap}
use Rattle.std.proofs.Common.{subst, ◌∙◌, arith}
use Rattle.std.proofs.lemmas.List.Elements.{Contains-append_right}
use Rattle.std.proofs.lemmas.List.{get_or-set_other}
use Rattle.std.proofs.lemmas.List.Sums.{sum_by-set}
use mathlib.Core.Option.{some}
use lib.ListN.{get_elem?}
use Rattle.atomic_table.proofs.Lists.{at_set}
use Rattle.atomic_table.specs.Table as Table
use Rattle.machine_model.specs.Beneath.slot_arena.specs.declared.refs.Ref.{Ref}
use Rattle.machine_model.specs.Beneath.slot_arena.specs.Heaps.{node_at}
use Rattle.machine_model.specs.Beneath.slot_arena.specs.Refs.{slot_of}
use Rattle.machine_model.specs.declared.operations.Operation.{Operation}
use Rattle.machine_model.specs.States.{operation_of}
use Rattle.machine_model.proofs.Grown.{node_standing}
use Rattle.lock_free.specs.declared.rules.Retired.{Retired}
use Rattle.lock_free.specs.declared.rules.View.{View}
use Rattle.lock_free.specs.declared.sizes.Sizes.{Sizes}
use Rattle.lock_free.specs.Accounts.{place_of, state_of}
use Rattle.lock_free.specs.Counts.{IsCount, how_often, references, references_in}
use Rattle.lock_free.specs.Holdings.{AreHeld, IsHere, count_of, retired_in, retired_on}
use Rattle.lock_free.specs.Live.{from_operation, line_claims, refs_of_claims}
use Rattle.lock_free.specs.Nodes.{class_of}
use Rattle.lock_free.specs.Places.{count_word, IsSlot}
use Rattle.lock_free.specs.Reached.{IsDead, IsOwed, IsReached, at_first}
use Rattle.lock_free.specs.Rules.{IsKept}
use Rattle.lock_free.proofs.CountsStay.{found_at, owed_set}
use Rattle.lock_free.proofs.CountWords.{slot_taken}
use Rattle.lock_free.proofs.Framing.{class_small}
use Rattle.lock_free.proofs.HeldFrom.{held_within}
use Rattle.lock_free.proofs.LinesStay.{LinesStay, lines_still, lines_then}
use Rattle.lock_free.proofs.OneStep.Found.{live_used, slot_at}

-- ---- where counts stand

module _ (sizes : Sizes) (s : Table.State Call View) (kept : IsKept sizes s) (k : Ref) (here : IsHere sizes kept.account kept.stands k) where
  pub here_slot : IsSlot sizes (class_of (node_at (state_of sizes kept.account).heap k)) (place_of kept.account k)
  here_slot =
      let state = state_of sizes kept.account in
      let (slot, stands) = here.0 in
      subst (λ n. IsSlot sizes (class_of n) (place_of kept.account k)) (sym (node_standing state.heap k slot stands))
      (slot_taken sizes s.words kept.taken (class_of slot.node) (place_of kept.account k) (class_small slot.node)
      (kept.nodes.within (slot_of k) slot (here.1, slot_at state.heap k slot stands)))

  pub here_count : IsCount sizes (count_of sizes kept.account k)
  here_count =
      let node = node_at (state_of sizes kept.account).heap k in record { class = class_of node; small = class_small node; name = place_of kept.account k; slot = here_slot; is = refl }

-- what an operation has made and nobody else knows stands
pub here_private : (sizes : Sizes) (s : Table.State Call View) (kept : IsKept sizes s) (a : ℕ) (operation : Operation) → operation_of (state_of sizes kept.account) a ≡ Some operation → (k : Ref) →
    Contains operation.private k → IsHere sizes kept.account kept.stands k
here_private sizes s kept a operation runs k c =
    let state = state_of sizes kept.account in
    let live = from_operation a operation k runs tt (Contains-append_right (refs_of_claims (line_claims state operation)) operation.private k c) in
    (live_used sizes kept.account kept.bounds k live, kept.nodes.live k live)

-- ---- what seats have retired

pub retired_set : (n : ℕ) (views : List View) (id : ℕ) (v : View) → get_elem? views id ≡ some v → (w : View) → retired_on n (set views id w) + retired_in n v ≡ retired_on n views + retired_in n w
retired_set n views id v at w =
    let h = found_at views id v v at in subst (λ x. retired_on n (set views id w) + retired_in n x ≡ retired_on n views + retired_in n w) h.1 (sum_by-set (retired_in n) views id w v h.0)

-- what a seat has retired then it had before, where the one that changes has retired no more
pub retired_before : (views : List View) (id : ℕ) (v : View) → get_elem? views id ≡ some v → (w : View) → ((y : Retired) → Contains w.retired y → Contains v.retired y) → (other : ℕ) (x : View) →
    get_elem? (set views id w) other ≡ some x → (y : Retired) → Contains x.retired y → (j : ℕ) × (z : View) × (get_elem? views j ≡ some z) × Contains z.retired y
retired_before views id v at w had other x e y c = elim (at_set views id other w x e) [
  | inl p ↦ (id, v, at, had y (subst (λ (z : View). Contains z.retired y) (sym p.1) c))
  | inr p ↦ (other, x, p.1, c)
]

-- ---- no step

-- it holds no more than it held, and has retired no more
module _ (sizes : Sizes) (s : Table.State Call View) (kept : IsKept sizes s) (id : ℕ) (v : View) (at : get_elem? s.views id ≡ some v) (w : View) (actor : w.actor ≡ v.actor)
    (owed : (k : Ref) → how_often k w.owed ≤ how_often k v.owed) (had : (k : Ref) → Contains w.owed k → Contains v.owed k) (slots : (n : ℕ) → retired_in n w ≤ retired_in n v)
    (retired : (y : Retired) → Contains w.retired y → Contains v.retired y) (lines : LinesStay sizes kept.account kept.account v w) (words_then : List ℕ)
    (same : (c : ℕ) → IsCount sizes c → references words_then c ≡ references s.words c) where
  abbrev views_then : List View
  views_then = set s.views id w

  -- whose a reference is was a seat's with the same actor
  owed_before : (k : Ref) (other : ℕ) (x : View) → get_elem? views_then other ≡ some x → Contains x.owed k → (y : View) × (get_elem? s.views other ≡ some y) × Contains y.owed k × (y.actor ≡ x.actor)
  owed_before k other x e c = elim (at_set s.views id other w x e) [
    | inl p ↦ (
      v,
      ap (λ n. get_elem? s.views n) p.0 ∙ at,
      had k (subst (λ ks. Contains ks k) (ap (λ (y : View). y.owed) (sym p.1)) c),
      sym actor ∙ ap (λ (y : View). y.actor) p.1,
    )
    | inr p ↦ (x, p.1, c, refl)
  ]

  first_before : (k : Ref) → IsOwed views_then k ⊎ IsDead sizes kept.account views_then k → IsReached sizes kept.account s.views k
  first_before k (inl o) = let y = owed_before k o.0 o.1 o.2 o.3 in at_first k (inl (o.0, y.0, y.1, y.2))
  first_before k (inr d) =
      let z = retired_before s.views id v at w retired d.id d.view d.at d.item d.its in
      at_first k (inr (record { used = d.used; id = z.0; view = z.1; at = z.2; item = d.item; its = z.3; deep = d.deep; number = d.number }))

  pub held_fewer : AreHeld sizes kept.account kept.stands words_then views_then
  held_fewer = record {
    counted = λ k here.
        (let old = kept.held.counted k here in
        let seats = owed_set k s.views id v at w in
        let own = owed k in
        let retirees = retired_set (slot_of k) s.views id v at w in
        let fewer = slots (slot_of k) in
        let count = same (count_of sizes kept.account k) (here_count sizes s kept k here) in omega (arith, old, seats, own, retirees, fewer, count));
    spare = λ class name small slot none.
        (let old = kept.held.spare class name small slot none in
        let count = same (count_word sizes class name) (record { class = class; small = small; name = name; slot = slot; is = refl }) in omega (arith, old, count));
    fresh = λ a operation runs k c.
        (let old = kept.held.fresh a operation runs k c in
        let count = same (count_of sizes kept.account k) (here_count sizes s kept k (here_private sizes s kept a operation runs k c)) in omega (arith, old, count));
    owed = λ other x e k c. (let y = owed_before k other x e c in kept.held.owed other y.0 y.1 k y.2);
    known = λ other x e k c a operation runs its. (let y = owed_before k other x e c in kept.held.known other y.0 y.1 k y.2 a operation runs its ∙ y.3);
    lines = lines_then sizes s kept id v at kept.account w actor lines;
    dead = λ other x e y c deep k here is.
        (let z = retired_before s.views id v at w retired other x e y c in
        let old = kept.held.dead z.0 z.1 z.2 y z.3 deep k here is in
        let count = same (count_of sizes kept.account k) (here_count sizes s kept k here) in omega (arith, old, count));
    unlet = λ k gone here.
        (let old = kept.held.unlet k gone here in
        let seats = owed_set k s.views id v at w in
        let own = owed k in
        let count = same (count_of sizes kept.account k) (here_count sizes s kept k here) in omega (arith, old, seats, own, count));
    reached = λ k from. kept.held.reached k (held_within sizes kept.account (λ r. IsOwed views_then r ⊎ IsDead sizes kept.account views_then r)
        (λ r. IsOwed s.views r ⊎ IsDead sizes kept.account s.views r) first_before k from);
    unborn = kept.held.unborn;
    gone = kept.held.gone;
    used = kept.held.used;
    owned = kept.held.owned;
    owns = kept.held.owns;
  }

module _ (sizes : Sizes) (s : Table.State Call View) (kept : IsKept sizes s) (id : ℕ) (v : View) (at : get_elem? s.views id ≡ some v) (w : View) (actor : w.actor ≡ v.actor) (owed : w.owed ≡ v.owed)
    (retired : w.retired ≡ v.retired) (words_then : List ℕ) (same : (c : ℕ) → IsCount sizes c → references words_then c ≡ references s.words c) where
  own_slots : (n : ℕ) → retired_in n w ≡ retired_in n v
  own_slots n = ap (λ (xs : List Retired). retired_in n (record v { retired = xs })) retired

  pub held_then : AreHeld sizes kept.account kept.stands words_then (set s.views id w)
  held_then =
      held_fewer sizes s kept id v at w actor (λ k. (let own = ap (how_often k) owed in omega (arith, own))) (λ k c. subst (λ ks. Contains ks k) owed c)
      (λ n. (let own = own_slots n in omega (arith, own))) (λ y c. subst (λ ys. Contains ys y) retired c)
      (lines_still sizes s kept id v at w (λ k. (let own = ap (how_often k) owed in omega (arith, own)))) words_then same

module _ (sizes : Sizes) (s : Table.State Call View) (kept : IsKept sizes s) (id : ℕ) (v : View) (at : get_elem? s.views id ≡ some v) (w : View) (actor : w.actor ≡ v.actor) (owed : w.owed ≡ v.owed)
    (retired : w.retired ≡ v.retired) where
  -- no word changes
  pub held_views : AreHeld sizes kept.account kept.stands s.words (set s.views id w)
  held_views = held_then sizes s kept id v at w actor owed retired s.words (λ c is. refl)

  -- one does that is no count's
  pub held_words : (word x : ℕ) → ((c : ℕ) → IsCount sizes c → c ≢ word) → AreHeld sizes kept.account kept.stands (set s.words word x) (set s.views id w)
  held_words word x apart = held_then sizes s kept id v at w actor owed retired (set s.words word x) (λ c is. ap references_in (get_or-set_other s.words word c x 0 (apart c is)))
