-- The definition lets a seat's operation begin where the rule says that its handle is open, and lets a closer close its handle.
use Rattle.history.specs.declared.calls.Call.{Call}
use Rattle.history.specs.declared.calls.Call.TheVariants.{Close}
use Rattle.std.proofs.Common.{◌≡◌, ◌≢◌, ◌+◌, ℕ, zero, suc, Bool, true, false, List, [], ◌∷◌, length, Option, Some, None, get_or, is_some, refl, ap, ◌∙◌, arith, not, ne_eqb}
use Rattle.std.specs.Prelude.{◌&&◌, ◌||◌}
use Rattle.std.specs.List.{list_any}
use Rattle.std.proofs.lemmas.Bool.{lt-leb}
use mathlib.Core.Option.{some}
use lib.ListN.{get_elem?}
use Rattle.atomic_table.specs.Table as Table
use Rattle.machine_model.specs.Beneath.ctrie_base.specs.declared.refusals.Refusal.TheVariants as refuse
use Rattle.history.specs.declared.calls.Access.TheVariants.{Writable, ReadOnly}
use Rattle.machine_model.specs.declared.operations.Operation.{Operation}
use Rattle.machine_model.specs.declared.roots.Root.{Root}
use Rattle.machine_model.specs.declared.steps.Bounds.{Bounds}
use Rattle.machine_model.specs.Calls.{handle_of, is_close, opens_handle, needs_writable, needs_read_only}
use Rattle.machine_model.specs.Machine.{begin_denial, is_actor, is_running, is_spent, is_access, access_of, lacks_number, runs_on, names, first_reason}
use Rattle.machine_model.specs.States.{State, operation_of, root_at, first_state}
use Rattle.machine_model.proofs.Actors.{actor_by}
use Rattle.machine_model.proofs.Along.{limits_along}
use Rattle.lock_free.specs.declared.rules.View.{View}
use Rattle.lock_free.specs.declared.sizes.Sizes.{Sizes}
use Rattle.lock_free.specs.Accounts.{bounds_for, state_of}
use Rattle.lock_free.specs.Rules.{IsSeat, IsKept}
use Rattle.lock_free.proofs.OneStep.Going.{steps_from, first_none}

-- no reason holds
none_by : (actor running is_open write read busy full spent : Bool) → actor ≡ true → running ≡ false → is_open ≡ true → write ≡ false → read ≡ false → busy ≡ false → full ≡ false → spent ≡ false →
    first_reason ((not actor, refuse.NoActor) ∷ (running, refuse.ActorBusy) ∷ (not is_open, refuse.NoHandle) ∷ (write, refuse.ReadOnly) ∷ (read, refuse.NotReadOnly) ∷ (busy, refuse.Busy) ∷
    (full, refuse.HandlesFull)
    ∷ (spent, refuse.Spent) ∷ []) ≡ None
none_by actor running is_open write read busy full spent a b c d e f g h = grind (arith, a, b, c, d, e, f, g, h)

-- the first reason that holds
closed_by : (actor running is_open write read busy full spent : Bool) → actor ≡ true → running ≡ false → is_open ≡ false →
    first_reason ((not actor, refuse.NoActor) ∷ (running, refuse.ActorBusy) ∷ (not is_open, refuse.NoHandle) ∷ (write, refuse.ReadOnly) ∷ (read, refuse.NotReadOnly) ∷ (busy, refuse.Busy) ∷
    (full, refuse.HandlesFull)
    ∷ (spent, refuse.Spent) ∷ []) ≡ Some refuse.NoHandle
closed_by actor running is_open write read busy full spent a b c = grind (arith, a, b, c)

write_by : (actor running is_open write read busy full spent : Bool) → actor ≡ true → running ≡ false → is_open ≡ true → write ≡ true →
    first_reason ((not actor, refuse.NoActor) ∷ (running, refuse.ActorBusy) ∷ (not is_open, refuse.NoHandle) ∷ (write, refuse.ReadOnly) ∷ (read, refuse.NotReadOnly) ∷ (busy, refuse.Busy) ∷
    (full, refuse.HandlesFull)
    ∷ (spent, refuse.Spent) ∷ []) ≡ Some refuse.ReadOnly
write_by actor running is_open write read busy full spent a b c d = grind (arith, a, b, c, d)

read_by : (actor running is_open write read busy full spent : Bool) → actor ≡ true → running ≡ false → is_open ≡ true → write ≡ false → read ≡ true →
    first_reason ((not actor, refuse.NoActor) ∷ (running, refuse.ActorBusy) ∷ (not is_open, refuse.NoHandle) ∷ (write, refuse.ReadOnly) ∷ (read, refuse.NotReadOnly) ∷ (busy, refuse.Busy) ∷
    (full, refuse.HandlesFull)
    ∷ (spent, refuse.Spent) ∷ []) ≡ Some refuse.NotReadOnly
read_by actor running is_open write read busy full spent a b c d e = grind (arith, a, b, c, d, e)

-- nobody in the list runs an operation on the handle
none_on : (h : ℕ) (xs : List (Option Operation)) → ((k : ℕ) (o : Operation) → get_or xs k None ≡ Some o → handle_of o.call ≢ h) → list_any (names h) xs ≡ false
none_on h [] each = refl
none_on h (None ∷ xs) each = none_on h xs (λ k o e. each (suc k) o e)
none_on h (Some p ∷ xs) each = ap (λ b. b || list_any (names h) xs) (ne_eqb (handle_of p.call) h (each zero p refl)) ∙ none_on h xs (λ k o e. each (suc k) o e)

pub and_false : (a b : Bool) → b ≡ false → (a && b) ≡ false
and_false true b e = e
and_false false b e = refl

module _ (sizes : Sizes) (s : Table.State Call View) (kept : IsKept sizes s) (id : ℕ) (v : View) (at : get_elem? s.views id ≡ some v)
    (idle : operation_of (state_of sizes kept.account) v.actor ≡ None) where
  abbrev state : State
  state = state_of sizes kept.account

  seat : IsSeat sizes kept.account kept.stands s.words v
  seat = kept.seats id v at

  its_actor : is_actor state v.actor ≡ true
  its_actor =
      let most : state.limits.actors ≡ sizes.seats = ap (λ (b : Bounds). b.actors) (limits_along (bounds_for sizes kept.account.steps) kept.account.steps) in
      actor_by v.actor state.limits.actors seat.low (let top = seat.top in let few = seat.most in omega (arith, most, top, few))

  unspent : is_spent state ≡ false
  unspent =
      let most : state.limits.steps ≡ length kept.account.steps + 1 = ap (λ (b : Bounds). b.steps) (limits_along (bounds_for sizes kept.account.steps) kept.account.steps) in
      lt-leb state.limits.steps state.steps (omega (arith, most, steps_from kept.account.steps (first_state (bounds_for sizes kept.account.steps)), first_none (bounds_for sizes kept.account.steps)))

  access_is : (h : ℕ) (root : Root) → root_at state h ≡ Some root → access_of (root_at state h) ≡ Some root.access
  access_is h root e = ap access_of e

  -- a call that fits its handle's access, and opens no handle, or has a number for it
  module _ (call : Call) (number : Option ℕ) (root : Root) (is_open : root_at state (handle_of call) ≡ Some root) (write : (needs_writable call && is_access ReadOnly (Some root.access)) ≡ false)
      (read : (needs_read_only call && is_access Writable (Some root.access)) ≡ false) (has_number : (opens_handle call && lacks_number state number) ≡ false) where
    pub begin_allowed : (is_close call && runs_on state (handle_of call)) ≡ false → begin_denial state v.actor call number ≡ None
    begin_allowed free =
        none_by (is_actor state v.actor) (is_running state v.actor) (is_some (access_of (root_at state (handle_of call))))
        (needs_writable call && is_access ReadOnly (access_of (root_at state (handle_of call))))
        (needs_read_only call && is_access Writable (access_of (root_at state (handle_of call)))) (is_close call && runs_on state (handle_of call))
        (opens_handle call && lacks_number state number) (is_spent state) its_actor (ap is_some idle)
        (ap is_some (access_is (handle_of call) root is_open)) (ap (λ a. needs_writable call && is_access ReadOnly a) (access_is (handle_of call) root is_open) ∙ write)
        (ap (λ a. needs_read_only call && is_access Writable a) (access_is (handle_of call) root is_open) ∙ read) free has_number unspent

  -- a call that doesn't fit it
  module _ (call : Call) (number : Option ℕ) where
    pub no_handle : root_at state (handle_of call) ≡ None → begin_denial state v.actor call number ≡ Some refuse.NoHandle
    no_handle closed =
        closed_by (is_actor state v.actor) (is_running state v.actor) (is_some (access_of (root_at state (handle_of call)))) _ _ _ _ _ its_actor (ap is_some idle)
        (ap (λ r. is_some (access_of r)) closed)

    pub read_only : (root : Root) → root_at state (handle_of call) ≡ Some root → root.access ≡ ReadOnly → needs_writable call ≡ true → begin_denial state v.actor call number ≡ Some refuse.ReadOnly
    read_only root is_open access needs =
        write_by (is_actor state v.actor) (is_running state v.actor) (is_some (access_of (root_at state (handle_of call)))) _ _ _ _ _ its_actor (ap is_some idle)
        (ap is_some (access_is (handle_of call) root is_open))
        (ap (λ a. needs_writable call && is_access ReadOnly a) (access_is (handle_of call) root is_open ∙ ap Some access) ∙ ap (λ b. b && true) needs)

    pub not_read_only : (root : Root) → root_at state (handle_of call) ≡ Some root → root.access ≡ Writable → needs_read_only call ≡ true → begin_denial state v.actor call number ≡
        Some refuse.NotReadOnly
    not_read_only root is_open access needs =
        read_by (is_actor state v.actor) (is_running state v.actor) (is_some (access_of (root_at state (handle_of call)))) _ _ _ _ _ its_actor (ap is_some idle)
        (ap is_some (access_is (handle_of call) root is_open))
        (ap (λ a. needs_writable call && is_access ReadOnly a) (access_is (handle_of call) root is_open ∙ ap Some access) ∙ and_false (needs_writable call) false refl)
        (ap (λ a. needs_read_only call && is_access Writable a) (access_is (handle_of call) root is_open ∙ ap Some access) ∙ ap (λ b. b && true) needs)

  -- closing a handle on which nobody runs anything
  pub close_allowed : (h : ℕ) (root : Root) → root_at state h ≡ Some root → ((a : ℕ) (o : Operation) → operation_of state a ≡ Some o → handle_of o.call ≢ h) → begin_denial state v.actor
      (Close h) None ≡ None
  close_allowed h root is_open nobody =
      begin_allowed (Close h) None root is_open refl refl refl (none_on h state.actors (λ k o e. nobody (suc k) o e))
