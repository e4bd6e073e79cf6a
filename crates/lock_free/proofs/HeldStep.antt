-- Each reference is counted still where a step adds no claim and drops nothing: nodes stay in use, but for a word of one, and no word of a count changes.
use Rattle.history.specs.declared.calls.Call.{Call}
use Rattle.std.proofs.Common.{◌≡◌, ◌≢◌, ◌⊎◌, ◌<◌, ◌++◌, inl, inr, ℕ, List, [], ◌∷◌, Contains, Option, Some, None, get_or, set, if◌then◌else◌, refl, sym, ap, subst, ◌∙◌, arith, ◌≤◌}
use Rattle.std.proofs.lemmas.Bool.{cases_eq}
use Rattle.std.proofs.lemmas.List.{get_or-set_other}
use Rattle.std.proofs.lemmas.List.Elements.{Contains-append_right}
use Rattle.std.proofs.lemmas.Option.{same_Some}
use mathlib.Core.Option.{some}
use lib.ListN.{get_elem?}
use Rattle.atomic_table.specs.Table as Table
use Rattle.machine_model.specs.Beneath.slot_arena.specs.declared.nodes.Slot.{Slot}
use Rattle.machine_model.specs.Beneath.slot_arena.specs.declared.refs.Ref.{Ref}
use Rattle.machine_model.specs.Beneath.slot_arena.specs.Heaps.{node_at, node_of, refs_of_node, stored}
use Rattle.machine_model.specs.Beneath.slot_arena.specs.Refs.{birth_of, slot_of}
use Rattle.machine_model.specs.declared.operations.Operation.{Operation}
use Rattle.machine_model.specs.declared.steps.Step.TheVariants as step
use Rattle.machine_model.specs.Acting.{operation_after}
use Rattle.machine_model.specs.Grown.{standing}
use Rattle.machine_model.specs.Machine.{AreBounds, is_taken_step}
use Rattle.machine_model.specs.Moves.{GoesOn}
use Rattle.machine_model.specs.Operations.{action_of}
use Rattle.proof_claims.specs.Claims.{held_of}
use Rattle.proof_claims.specs.Held.{held_after}
use Rattle.machine_model.specs.States.{State, operation_of}
use Rattle.machine_model.proofs.Grown.{node_standing, standing_parts}
use Rattle.proof_claims.specs.Changes.{change_going, change_of}
use Rattle.proof_memory.specs.Laws.{IsInUse}
use Rattle.proof_memory.specs.Wants.{is_indirection}
use Rattle.lock_free.specs.declared.accounts.Account.{Account}
use Rattle.lock_free.specs.declared.rules.View.{View}
use Rattle.lock_free.specs.declared.sizes.Sizes.{Sizes}
use Rattle.lock_free.specs.Accounts.{bounds_for, state_of, HasGrown}
use Rattle.lock_free.specs.Claims.{held_now}
use Rattle.lock_free.specs.Counts.{IsCount, how_often, references, references_in}
use Rattle.lock_free.specs.Holdings.{AreHeld, IsHere}
use Rattle.lock_free.specs.Live.{from_operation, line_claims, refs_of_claims, IsLive}
use Rattle.lock_free.specs.Nodes.{class_of}
use Rattle.lock_free.specs.Places.{IsTaken}
use Rattle.lock_free.specs.Rules.{IsKept}
use Rattle.lock_free.proofs.CountWords.{slot_apart}
use Rattle.lock_free.proofs.Geometry.{IsWordOf}
use Rattle.lock_free.proofs.HeldGone.{AreAlike, HoldsLess, IsLetting, LetsGoSince, held_gone, less_next}
use Rattle.lock_free.proofs.Lettings.{TakesNone, going_lets, private_fewer}
use Rattle.lock_free.proofs.OneStep.Found.{live_used}
use Rattle.lock_free.proofs.OneStep.Going.{next_ok}
use Rattle.lock_free.proofs.OneStep.HeldLonger.{held_next}
use Rattle.lock_free.proofs.OneStep.LinksWide.{standing_by}
use Rattle.lock_free.proofs.LinesStay.{LinesStay}
use Rattle.lock_free.proofs.ClaimsThere.{has_often, often_has}

-- ---- where slots are written, and each has the node that it had, but for its main word or its previous one

-- this slot has what it had, or what is like it
pub data IsLike (before after : State) (k : ℕ) : Type 0 where
  is_same : get_or after.heap.slots k None ≡ get_or before.heap.slots k None → IsLike before after k
  is_like : (old new : Slot) → get_or before.heap.slots k None ≡ Some old → get_or after.heap.slots k None ≡ Some new → new.birth ≡ old.birth → class_of new.node ≡ class_of old.node →
      is_indirection new.node ≡ is_indirection old.node →
      ((r : Ref) → Contains (refs_of_node new.node) r → Contains (refs_of_node old.node) r ⊎ IsLive before r) → IsLike before after k

module _ (before after : State) (like : (k : ℕ) → IsLike before after k) where
  -- what stands there after it stood there before
  record Stood (r : Ref) (now : Slot) : Type 0 where
    slot : Slot
    stands : standing before.heap r ≡ Some slot
    same_class : class_of now.node ≡ class_of slot.node
    same_link : is_indirection now.node ≡ is_indirection slot.node

  stood_by : (r : Ref) (now : Slot) → get_or after.heap.slots (slot_of r) None ≡ Some now → now.birth ≡ birth_of r → IsLike before after (slot_of r) → Stood r now
  stood_by r now at its (is_same same) = record { slot = now; stands = standing_by before.heap r now (sym same ∙ at) its; same_class = refl; same_link = refl }
  stood_by r now at its (is_like old new was is birth class link names) =
      let new_is : new ≡ now = same_Some new now (sym is ∙ at) in
      record {
        slot = old;
        stands = standing_by before.heap r old was (sym birth ∙ ap (λ (x : Slot). x.birth) new_is ∙ its);
        same_class = ap (λ (x : Slot). class_of x.node) (sym new_is) ∙ class;
        same_link = ap (λ (x : Slot). is_indirection x.node) (sym new_is) ∙ link;
      }

  stood : (r : Ref) (now : Slot) → standing after.heap r ≡ Some now → Stood r now
  unfolding stored
  stood r now stands = let (at, its) = standing_parts after.heap r now stands in stood_by r now at its (like (slot_of r))

  stays_by : (r : Ref) (first : Slot) → get_or before.heap.slots (slot_of r) None ≡ Some first → first.birth ≡ birth_of r → IsLike before after (slot_of r) → IsInUse after.heap r
  stays_by r first at its (is_same same) = (first, standing_by after.heap r first (same ∙ at) its)
  stays_by r first at its (is_like old new was is birth class link names) =
      let old_is : old ≡ first = same_Some old first (sym was ∙ at) in (new, standing_by after.heap r new is (birth ∙ ap (λ (x : Slot). x.birth) old_is ∙ its))

  names_by : (j k : Ref) → IsLike before after (slot_of j) → Contains (refs_of_node (node_at after.heap j)) k → Contains (refs_of_node (node_at before.heap j)) k ⊎ IsLive before k
  unfolding node_at stored
  names_by j k (is_same same) c = inl (subst (λ (x : Option Slot). Contains (refs_of_node (node_of x)) k) same c)
  names_by j k (is_like old new was is birth class link names) c = elim (names k (subst (λ (x : Option Slot). Contains (refs_of_node (node_of x)) k) is c)) [
    | inl named ↦ inl (subst (λ (x : Option Slot). Contains (refs_of_node (node_of x)) k) (sym was) named)
    | inr live ↦ inr live
  ]

  pub alike_each : AreAlike before after
  unfolding stored
  alike_each = record {
    used = λ r u. (let x = stood r u.0 u.1 in (x.slot, x.stands));
    stays = λ r u. (let (at, its) = standing_parts before.heap r u.0 u.1 in stays_by r u.0 at its (like (slot_of r)));
    classes = λ r u. (let x = stood r u.0 u.1 in ap class_of (node_standing after.heap r u.0 u.1) ∙ x.same_class ∙ ap class_of (sym (node_standing before.heap r x.slot x.stands)));
    links = λ i h.
        (let x = stood i h.0.0 h.0.1 in (
          (x.slot, x.stands),
          ap is_indirection (node_standing before.heap i x.slot x.stands) ∙ sym x.same_link ∙ ap is_indirection (sym (node_standing after.heap i h.0.0 h.0.1)) ∙ h.1,
        ));
    names = λ j k c. names_by j k (like (slot_of j)) c;
  }

-- one alone
module _ (before after : State) (k : ℕ) (old new : Slot) (was : get_or before.heap.slots k None ≡ Some old) (is : get_or after.heap.slots k None ≡ Some new) (birth : new.birth ≡ old.birth)
    (class : class_of new.node ≡ class_of old.node) (link : is_indirection new.node ≡ is_indirection old.node)
    (names : (r : Ref) → Contains (refs_of_node new.node) r → Contains (refs_of_node old.node) r ⊎ IsLive before r)
    (nodes : (j : ℕ) → j ≢ k → get_or after.heap.slots j None ≡ get_or before.heap.slots j None) where
  like_at : (j : ℕ) → IsLike before after j
  like_at j = elim (cases_eq j k) [
    | inl same ↦ subst (IsLike before after) (sym same) (is_like old new was is birth class link names)
    | inr differs ↦ is_same (nodes j differs)
  ]

  pub alike_written : AreAlike before after
  alike_written = alike_each before after like_at

-- two of them
module _ (before after : State) (k l : ℕ) (old new first last : Slot) (was : get_or before.heap.slots k None ≡ Some old) (is : get_or after.heap.slots k None ≡ Some new)
    (birth : new.birth ≡ old.birth)
    (class : class_of new.node ≡ class_of old.node) (link : is_indirection new.node ≡ is_indirection old.node)
    (names : (r : Ref) → Contains (refs_of_node new.node) r → Contains (refs_of_node old.node) r ⊎ IsLive before r) (second_was : get_or before.heap.slots l None ≡ Some first)
    (second_is : get_or after.heap.slots l None ≡ Some last) (second_birth : last.birth ≡ first.birth) (second_node : last.node ≡ first.node)
    (nodes : (j : ℕ) → j ≢ k → j ≢ l → get_or after.heap.slots j None ≡ get_or before.heap.slots j None) where
  like_two : (j : ℕ) → IsLike before after j
  like_two j = elim (cases_eq j k) [
    | inl same ↦ subst (IsLike before after) (sym same) (is_like old new was is birth class link names)
    | inr differs ↦ elim (cases_eq j l) [
      | inl same ↦ subst (IsLike before after) (sym same) (is_like first last second_was second_is second_birth (ap class_of second_node) (ap is_indirection second_node)
          (λ r c. inl (subst (λ n. Contains (refs_of_node n) r) second_node c)))
      | inr apart ↦ is_same (nodes j differs apart)
    ]
  ]

  pub alike_two : AreAlike before after
  alike_two = alike_each before after like_two

-- ---- the step

module _ (sizes : Sizes) (s : Table.State Call View) (kept : IsKept sizes s) (id : ℕ) (v : View) (at : get_elem? s.views id ≡ some v) (after : Account) (grown : HasGrown kept.account after)
    (names : after.names ≡ kept.account.names) (owned : after.owned ≡ kept.account.owned)
    (alike : AreAlike (state_of sizes kept.account) (state_of sizes after)) (live : (r : Ref) → IsLive (state_of sizes after) r → IsLive (state_of sizes kept.account) r)
    -- no operation has made more
    (private : (a : ℕ) (o : Operation) → operation_of (state_of sizes after) a ≡ Some o → (k : Ref) → Contains o.private k →
    (p : Operation) × (operation_of (state_of sizes kept.account) a ≡ Some p) × Contains p.private k)
    (less : HoldsLess kept.stands kept.stands (IsLive (state_of sizes kept.account)) (held_now sizes kept.account) (held_now sizes after))
    (let_go : LetsGoSince sizes kept.account after kept.stands kept.stands) where
  private_then : (a : ℕ) (o : Operation) → operation_of (state_of sizes after) a ≡ Some o → (k : Ref) → Contains o.private k →
      ((p : Operation) × (operation_of (state_of sizes kept.account) a ≡ Some p) × Contains p.private k) × IsHere sizes after kept.stands k
  private_then a o runs k c =
      let was = live k (from_operation a o k runs tt (Contains-append_right (refs_of_claims (line_claims (state_of sizes after) o)) o.private k c)) in (
        private a o runs k c,
        (alike.stays k (live_used sizes kept.account kept.bounds k was), kept.nodes.live k was),
      )

  pub held_step : (w : View) → w.actor ≡ v.actor → w.retired ≡ v.retired → ((k : Ref) → how_often k w.owed ≤ how_often k v.owed) → LinesStay sizes kept.account after v w → (words_then : List ℕ) →
      ((c : ℕ) → IsCount sizes c → references words_then c ≡ references s.words c) → AreHeld sizes after kept.stands words_then (set s.views id w)
  held_step w actor retired owed lines words_then same =
      held_gone sizes s kept id v at after grown names owned alike kept.stands (λ j e. e) kept.held.unborn (λ k here. inl here.1) private_then less (λ j k has stood. stood)
      (λ j k has stood. stood) let_go w actor retired
      owed (λ k c. (let some_now = has_often k w.owed c in let most = owed k in (kept.held.owed id v at k (often_has k v.owed (omega (arith, some_now, most)))).1)) lines words_then same

-- where it is one of its operation
module _ (sizes : Sizes) (s : Table.State Call View) (kept : IsKept sizes s) (actor : ℕ) (operation : Operation) (runs : operation_of (state_of sizes kept.account) actor ≡ Some operation)
    (takes : TakesNone kept.stands (state_of sizes kept.account) operation (action_of (state_of sizes kept.account) operation)) (after : Account)
    (steps : after.steps ≡ kept.account.steps ++ step.Go actor ∷ []) where
  pub going_less : HoldsLess kept.stands kept.stands (IsLive (state_of sizes kept.account)) (held_now sizes kept.account) (held_now sizes after)
  going_less =
      let now = state_of sizes kept.account in
      less_next sizes kept.account kept.bounds kept.stands kept.stands (λ j e. e) (IsLive now) (step.Go actor)
      (subst (λ o. IsLetting kept.stands kept.stands (IsLive now) (change_going now (held_now sizes kept.account) o)) (sym runs)
      (going_lets kept.stands kept.stands (λ j e. e) now (held_now sizes kept.account) operation (action_of now operation) takes)) after steps

  pub going_private : (state : State) → ((a : ℕ) → a ≢ actor → operation_of state a ≡ operation_of (state_of sizes kept.account) a) →
      operation_of state actor ≡ Some (operation_after (state_of sizes kept.account) operation) → (a : ℕ) (o : Operation) → operation_of state a ≡ Some o → (k : Ref) → Contains o.private k →
      (p : Operation) × (operation_of (state_of sizes kept.account) a ≡ Some p) × Contains p.private k
  going_private state others own a o is k c = elim (cases_eq a actor) [
    | inl same ↦
        (let now = state_of sizes kept.account in
        let its = same_Some o (operation_after now operation) (sym is ∙ ap (operation_of state) same ∙ own) in (
          operation,
          ap (operation_of now) same ∙ runs,
          private_fewer kept.stands now operation (action_of now operation) takes k (subst (λ (x : Operation). Contains x.private k) its c),
        ))
    | inr differs ↦ (o, sym (others a differs) ∙ is, c)
  ]

-- a step of an operation that isn't its end is taken
pub taken_now : (sizes : Sizes) (account : Account) (bounds : AreBounds (bounds_for sizes account.steps)) (actor : ℕ) (operation : Operation) →
    operation_of (state_of sizes account) actor ≡ Some operation → GoesOn (action_of (state_of sizes account) operation) → (after : Account) → after.steps ≡ account.steps ++ step.Go actor ∷ [] →
    held_now sizes after ≡ held_after (change_of (state_of sizes account) (held_now sizes account) (step.Go actor)) (held_now sizes account)
taken_now sizes account bounds actor operation runs goes after steps =
    let now = state_of sizes account in
    let held = held_now sizes account in
    ap (λ l. held_of (bounds_for sizes l) l) steps ∙ held_next sizes account.steps bounds (step.Go actor)
    ∙ ap (λ a. if is_taken_step a then held_after (change_of now held (step.Go actor)) held else held) (next_ok sizes account bounds actor operation runs goes)

-- a word of a slot is no count's
pub slot_beside : (sizes : Sizes) (s : Table.State Call View) (kept : IsKept sizes s) (class name : ℕ) → class < 3 → IsTaken sizes s.words class name → (i : ℕ) → IsWordOf class name i →
    (value c : ℕ) →
    IsCount sizes c → references (set s.words i value) c ≡ references s.words c
slot_beside sizes s kept class name small taken i its value c is =
    ap references_in (get_or-set_other s.words i c value 0 ((slot_apart sizes s.words kept.taken class name i small taken its).1 c is))
