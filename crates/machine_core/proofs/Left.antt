-- What an end leaves: the state is the definition's, and all that is kept is kept.
use Rattle.std.proofs.Common.{◌≡◌, ℕ, ◌+◌, ◌-◌, ◌≤◌, set, Some, None, refl, sym, ap, ◌∙◌, subst, arith, inl, inr}
use Rattle.std.specs.Prelude.{option_map, slice_get}
use Rattle.std.proofs.lemmas.Option.{none-some, same_Some}
use Rattle.machine_core.specs.Vocabulary.{HashKind, Ref, times, Operation, Offer, ended, reserved_by, operation_of, Table, word_in, AreHeld, Programs, IsOfRun, KnowsNumbers, ended_on}
use Rattle.handle_table.specs.Numbers.{Numbers}
use Rattle.epochs.specs.Memories.{Memory}
use Rattle.machine_core.specs.declared.parts.Actor.{Actor}
use Rattle.machine_core.specs.declared.parts.Parts.{Parts}
use Rattle.machine_core.specs.declared.parts.UnderWay.{UnderWay}
use Rattle.machine_core.specs.Beginnings.{Leaves}
use Rattle.machine_core.specs.Keeping.{AreSeated, IsKept, IsNoted, IsSeated, Replaces}
use Rattle.machine_core.specs.Seen.{actors_seen, operation_at, seen, under_way_of}
use Rattle.machine_core.specs.Ties.{IsTied}
use Rattle.machine_core.proofs.Kept.{seat_of, operation_there, replaced_seated, replaced_seen}
use Rattle.machine_core.proofs.Knows.{offerers_over, runs_set}
use Rattle.proof_core.proofs.Reserved.{known_ended}
use Rattle.machine_core.proofs.Tied.{ended_tied, operation_stands, private_held}
use Rattle.running.proofs.Asks.{handle_named}

-- what the operation made is held
pub held_there : (parts : Parts) (actor : ℕ) (u : UnderWay) → under_way_of parts actor ≡ Some u → IsKept parts → (found : Actor) → slice_get parts.actors.items (actor - 1) ≡ Some found →
    (r : Ref) → times r found.programs.key.work.private ≤ times r parts.heap.outside
held_there parts actor u e h found here r =
    let seat = seat_of parts actor u e in
    let operation : Operation = operation_at parts.table seat.found.programs u in
    let at = operation_stands (seen parts) actor operation (operation_there parts actor u seat) in
    let same : found ≡ seat.found = same_Some found seat.found (sym here ∙ seat.at) in
    omega (arith, private_held parts.heap parts.table.roots (seen parts).actors actor operation h.tied at r, ap (λ (x : Actor). times r x.programs.key.work.private) same)

-- once the reply was taken out it is held still
pub held_still : (before after : Programs) (memory : Memory) → after ≡ record before { walk = after.walk } → AreHeld before.key.work.private memory → AreHeld after.key.work.private memory
held_still before after memory same held r = omega (arith, held r, ap (λ (p : Programs). times r p.key.work.private) same)

-- the parts after the end of the actor's operation
pub record EndsAt (before after : Parts) (actor : ℕ) (u : UnderWay) : Type 0 where
  pub limits : after.limits ≡ before.limits
  pub table : after.table ≡ before.table
  pub middle : Memory
  pub left : Replaces before.actors.items (actor - 1) (Leaves before.heap middle) after.actors.items
  pub outside : after.heap.outside ≡ middle.outside
  pub pins : after.heap.pins ≡ set before.heap.pins (actor - 1) None
  pub heap : after.heap.heap ≡ before.heap.heap
  pub limbo : after.heap.limbo ≡ before.heap.limbo
  pub epoch : after.heap.epoch ≡ before.heap.epoch
  pub cursor : after.heap.cursor ≡ before.heap.cursor
  pub generations : after.generations ≡ before.generations
  pub numbers : after.handles ≡ ended_on before.handles u.job.handle (reserved_by (Some (operation_at before.table left.was.programs u)))
  pub begun : after.begun ≡ before.begun
  pub steps : after.steps ≡ before.steps

module _ (before after : Parts) (actor : ℕ) (u : UnderWay) (a : EndsAt before after actor u) where
  actors_left : (seen after).actors ≡ set (seen before).actors (actor - 1) None
  actors_left =
      ap (λ t. actors_seen t after.actors.items) a.table
      ∙ replaced_seen before.table before.table before.actors.items after.actors.items (actor - 1) (Leaves before.heap a.middle) a.left (λ j other apart at. refl)
      ∙ ap (λ o. set (actors_seen before.table before.actors.items) (actor - 1) (option_map (operation_at before.table a.left.is.programs) o)) a.left.does.under_way

  -- the state is the definition's
  pub seen_ended : seen after ≡ ended (seen before) actor
  seen_ended = rw (actors_left, a.limits, a.heap, a.limbo, a.epoch, a.cursor, a.generations, a.table, a.begun, a.steps) refl

  seated : IsKept before → IsSeated before.limits.hash (actor - 1) a.left.is
  seated h = record {
    hashes_are = a.left.does.hashes ∙ (h.seats (actor - 1) a.left.was a.left.found).hashes_are;
    number = λ v e. absurd (none-some v (sym a.left.does.under_way ∙ e));
    sound = λ v e. absurd (none-some v (sym a.left.does.under_way ∙ e));
    idle = λ e. a.left.does.private;
  }

  -- and all is kept
  pub kept_ended : under_way_of before actor ≡ Some u → IsOfRun (seen before) → IsKept before → IsKept after
  kept_ended e run h =
      let seat = seat_of before actor u e in
      let operation : Operation = operation_at before.table seat.found.programs u in
      let at = operation_stands (seen before) actor operation (operation_there before actor u seat) in
      let same : a.left.was ≡ seat.found = same_Some a.left.was seat.found (sym a.left.found ∙ seat.at) in
      let given : (r : Ref) → times r after.heap.outside + times r operation.private ≡ times r before.heap.outside =
      λ r. omega (arith, a.left.does.others r, ap (times r) a.outside, ap (λ (x : Actor). times r x.programs.key.work.private) same) in
      let runs : (other : ℕ) (o : Operation) → operation_of (seen after) other ≡ Some o → operation_of (seen before) other ≡ Some o =
      λ other o found. elim (runs_set (seen before) (seen after) (actor - 1) None actors_left other o found) [ inl ran ↦ ran | inr put ↦ absurd (none-some o put) ] in
      record {
        tied = subst (λ (t : Table). IsTied after.heap t.roots (seen after).actors) (sym a.table)
            (subst (IsTied after.heap before.table.roots) (sym actors_left)
            (ended_tied before.heap after.heap before.table.roots (seen before).actors actor operation at h.tied given a.pins));
        seats = subst (λ (hashes : HashKind). AreSeated hashes after.actors.items) (sym (ap (λ l. l.hash) a.limits))
            (replaced_seated before.limits.hash before.actors.items after.actors.items (actor - 1) (Leaves before.heap a.middle) a.left h.seats (seated h));
        noted = subst (λ (t : Table). IsNoted t after.limits.actors) (sym a.table) (subst (λ l. IsNoted before.table l.actors) (sym a.limits) h.noted);
        offerers = offerers_over before.table after.table (seen before) (seen after) (ap (λ (t : Table). t.offerers) a.table)
            (λ handle offer stands. subst (λ (t : Table). word_in t handle ≡ Offer offer) a.table stands) (λ handle offer stands other o found is. runs other o found) h.offerers;
        numbers = subst (KnowsNumbers after.handles) (sym seen_ended)
            (subst (λ (n : Numbers). KnowsNumbers n (ended (seen before) actor))
            (sym (a.numbers ∙ ap (λ (x : Actor). ended_on before.handles u.job.handle (reserved_by (Some (operation_at before.table x.programs u)))) same
            ∙ ap (λ n. ended_on before.handles n (reserved_by (Some operation))) (sym (handle_named u.job.handle u.program))))
            (known_ended before.handles (seen before) actor operation run at h.numbers));
      }
