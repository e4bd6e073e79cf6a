-- Each reference is counted still where a step changes no word and adds no claim, and drops what its operation alone knew, if anything.
use Rattle.history.specs.declared.calls.Call.{Call}
use Rattle.std.proofs.Common.{◌≡◌, ◌≤◌, ◌⊎◌, ◌++◌, inl, inr, ℕ, Bool, true, false, [], ◌∷◌, Contains, Some, None, get_or, set, if◌then◌else◌, refl, sym, ap, subst, ◌∙◌, arith, length, ◌<◌}
use Rattle.std.proofs.lemmas.Bool.{cases_eq, true≢false}
use Rattle.std.proofs.lemmas.List.Elements.{Contains-append_right}
use Rattle.std.proofs.lemmas.Option.{same_Some}
use mathlib.Core.Option.{some}
use lib.ListN.{get_elem?}
use Rattle.atomic_table.specs.Table as Table
use Rattle.machine_model.specs.Beneath.slot_arena.specs.declared.refs.Ref.{Ref}
use Rattle.machine_model.specs.Beneath.slot_arena.specs.Heaps.{node_at, node_of, refs_of_node, stored}
use Rattle.machine_model.specs.Beneath.slot_arena.specs.Refs.{birth_of, slot_of}
use Rattle.machine_model.specs.declared.operations.Operation.{Operation}
use Rattle.machine_model.specs.declared.steps.Step.{Step}
use Rattle.machine_model.specs.Grown.{of_birth, standing}
use Rattle.machine_model.specs.States.{State, operation_of}
use Rattle.proof_claims.specs.Claims.{Has}
use Rattle.proof_claims.specs.Held.{OfNode}
use Rattle.proof_memory.specs.Wants.{is_indirection}
use Rattle.lock_free.specs.declared.accounts.Account.{Account}
use Rattle.lock_free.specs.declared.rules.View.{View}
use Rattle.lock_free.specs.declared.sizes.Sizes.{Sizes}
use Rattle.lock_free.specs.Accounts.{state_of}
use Rattle.lock_free.specs.Claims.{HoldsAll, held_now}
use Rattle.lock_free.specs.Counts.{how_often}
use Rattle.lock_free.specs.Holdings.{AreHeld, IsHere}
use Rattle.lock_free.specs.Live.{from_operation, line_claims, refs_of_claims, IsLive}
use Rattle.lock_free.specs.Nodes.{class_of}
use Rattle.lock_free.specs.OwesAt.{owes_at}
use Rattle.lock_free.specs.Rules.{IsKept, Standing}
use Rattle.lock_free.specs.Steps.{Dropped, Leads}
use Rattle.lock_free.proofs.ClaimsThere.{has_often, often_has}
use Rattle.lock_free.proofs.HeldGone.{AreAlike, HoldsLess, LetsGoSince, held_gone}
use Rattle.lock_free.proofs.LinesStay.{LinesStay}
use Rattle.lock_free.proofs.OneStep.Found.{live_used}
use Rattle.lock_free.proofs.Waiting.{grown_steps}

-- where each slot has what it had
module _ (before after : State) (same : (k : ℕ) → get_or after.heap.slots k None ≡ get_or before.heap.slots k None) where
  stored_same : (r : Ref) → stored after.heap r ≡ stored before.heap r
  unfolding stored
  stored_same r = same (slot_of r)

  standing_same : (r : Ref) → standing after.heap r ≡ standing before.heap r
  standing_same r = ap (of_birth (birth_of r)) (stored_same r)

  node_same : (r : Ref) → node_at after.heap r ≡ node_at before.heap r
  unfolding node_at
  node_same r = ap node_of (stored_same r)

  pub alike_slots : AreAlike before after
  alike_slots = record {
    used = λ k u. (u.0, sym (standing_same k) ∙ u.1);
    stays = λ k u. (u.0, standing_same k ∙ u.1);
    classes = λ k u. ap class_of (node_same k);
    links = λ i h. ((h.0.0, sym (standing_same i) ∙ h.0.1), ap is_indirection (sym (node_same i)) ∙ h.1);
    names = λ j k c. inl (subst (λ n. Contains (refs_of_node n) k) (node_same j) c);
  }

abbrev with_step : Account → Step → Account
with_step account taken = record account { steps = account.steps ++ taken ∷ [] }

abbrev pub left_standing : Standing → Dropped → Standing
left_standing stands dropped k = if dropped k then false else stands k

left_by : (gone stood : Bool) → (if gone then false else stood) ≡ true → (gone ≡ false) × (stood ≡ true)
left_by true stood e = absurd (true≢false (sym e))
left_by false stood e = (refl, e)

pub left_before : (stands : Standing) (dropped : Dropped) (k : ℕ) → left_standing stands dropped k ≡ true → stands k ≡ true
left_before stands dropped k e = (left_by (dropped k) (stands k) e).1

left_so : (stands : Standing) (dropped : Dropped) (k : ℕ) → dropped k ≡ false → stands k ≡ true → left_standing stands dropped k ≡ true
left_so stands dropped k none h = ap (λ b. if b then false else stands k) none ∙ h

module _ (sizes : Sizes) (s : Table.State Call View) (kept : IsKept sizes s) (id : ℕ) (v : View) (at : get_elem? s.views id ≡ some v) (operation next : Operation)
    (runs : operation_of (state_of sizes kept.account) v.actor ≡ Some operation) (taken : Step) (dropped : Dropped)
    (leads : Leads sizes kept.account (with_step kept.account taken) v.actor dropped next)
    -- what is dropped its operation alone knew, and it has made no more
    (private : (k : Ref) → IsHere sizes kept.account kept.stands k → dropped (slot_of k) ≡ true → Contains operation.private k)
    (low : (k : ℕ) → dropped k ≡ true → k < length kept.account.names) (fewer_own : (k : Ref) → Contains next.private k → Contains
    operation.private k)
    (less : HoldsLess kept.stands (left_standing kept.stands dropped) (IsLive (state_of sizes kept.account)) (held_now sizes kept.account) (held_now sizes (with_step kept.account taken)))
    -- and holds nothing then, and is held by no node
    (unheld : (j k : Ref) → Has (held_now sizes (with_step kept.account taken)) (OfNode j) k → kept.stands (slot_of j) ≡ true → dropped (slot_of j) ≡ false)
    (unnamed : (j k : Ref) → Has (held_now sizes (with_step kept.account taken)) (OfNode j) k → dropped (slot_of k) ≡ false)
    (let_go : LetsGoSince sizes kept.account (with_step kept.account taken) kept.stands (left_standing kept.stands dropped))
    (w : View) (actor : w.actor ≡ v.actor) (retired : w.retired ≡ v.retired) (owed : (k : Ref) → how_often k w.owed ≤ how_often k v.owed)
    (owed_then : (k : Ref) → Contains w.owed k → dropped (slot_of k) ≡ false) (owes : HoldsAll (owes_at next) w.owed) where
  abbrev after : Account
  after = with_step kept.account taken

  abbrev stands_then : Standing
  stands_then = left_standing kept.stands dropped

  live_stands : (r : Ref) → IsLive (state_of sizes after) r → IsHere sizes after stands_then r
  live_stands r live =
      let was = leads.live r live in (
        (alike_slots (state_of sizes kept.account) (state_of sizes after) leads.nodes).stays r (live_used sizes kept.account kept.bounds r was.0),
        left_so kept.stands dropped (slot_of r) was.1 (kept.nodes.live r was.0),
      )

  private_then : (a : ℕ) (o : Operation) → operation_of (state_of sizes after) a ≡ Some o → (k : Ref) → Contains o.private k →
      ((p : Operation) × (operation_of (state_of sizes kept.account) a ≡ Some p) × Contains p.private k) × IsHere sizes after stands_then k
  private_then a o is k c = (
    elim (cases_eq a v.actor) [
      | inl same ↦ (
        operation,
        ap (operation_of (state_of sizes kept.account)) same ∙ runs,
        fewer_own k (subst (λ (p : Operation). Contains p.private k) (same_Some o next (sym is ∙ ap (operation_of (state_of sizes after)) same ∙ leads.own)) c),
      )
      | inr differs ↦ (o, sym (leads.others a differs) ∙ is, c)
    ],
    live_stands k (from_operation a o k is tt (Contains-append_right (refs_of_claims (line_claims (state_of sizes after) o)) o.private k c)),
  )

  dropped_or : (k : Ref) → IsHere sizes kept.account kept.stands k → stands_then (slot_of k) ≡ true ⊎ ((o : Operation) × (operation_of (state_of sizes kept.account) v.actor ≡ Some o) ×
      Contains o.private k)
  dropped_or k here = by (dropped (slot_of k)) refl
    where
      by : (b : Bool) → dropped (slot_of k) ≡ b → stands_then (slot_of k) ≡ true ⊎ ((o : Operation) × (operation_of (state_of sizes kept.account) v.actor ≡ Some o) × Contains o.private k)
      by true e = inr (operation, runs, private k here e)
      by false e = inl (left_so kept.stands dropped (slot_of k) e here.1)

  unborn_then : (k : ℕ) → length kept.account.names ≤ k → stands_then k ≡ true
  unborn_then k high = by (dropped k) refl
    where
      by : (b : Bool) → dropped k ≡ b → stands_then k ≡ true
      by true e = let few = low k e in absurd (omega (arith, few, high))
      by false e = left_so kept.stands dropped k e (kept.held.unborn k high)

  owed_stands : (k : Ref) → Contains w.owed k → stands_then (slot_of k) ≡ true
  owed_stands k c =
      let some_now = has_often k w.owed c in
      let most = owed k in
      let here = kept.held.owed id v at k (often_has k v.owed (omega (arith, some_now, most))) in left_so kept.stands dropped (slot_of k) (owed_then k c) here.1

  lines : LinesStay sizes kept.account after v w
  lines = record {
    others = λ a differs o e. (o, sym (leads.others a differs) ∙ e, λ k. omega arith);
    own = λ o e k.
        (let its = ap (λ (x : Operation). how_often k (owes_at x)) (same_Some o next (sym e ∙ leads.own)) in let all = owes k in omega (arith, its, all));
  }

  pub held_leads : AreHeld sizes after stands_then s.words (set s.views id w)
  held_leads =
      held_gone sizes s kept id v at after (grown_steps kept.account after (taken ∷ []) refl refl) refl refl (alike_slots (state_of sizes kept.account) (state_of sizes after) leads.nodes) stands_then
      (λ j e. (left_by (dropped j) (kept.stands j) e).1) unborn_then dropped_or private_then less
      (λ j k has stood. left_so kept.stands dropped (slot_of j) (unheld j k has stood) stood)
      (λ j k has stood. left_so kept.stands dropped (slot_of k) (unnamed j k has) stood) let_go w actor retired owed
      owed_stands lines s.words (λ c is. refl)
