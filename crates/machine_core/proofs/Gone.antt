-- What a step of an operation comes to is what the definition says.
use Rattle.std.proofs.Common.{arith, ◌≡◌, ℕ, ◌-◌, ◌<◌, List, length, Option, Some, None, refl, sym, ap, subst, ◌∙◌}
use Rattle.std.specs.Prelude.{option_map, slice_index_or, slice_set}
use Rattle.machine_core.specs.Vocabulary.{Action, Operation, Descriptor, gone, operation_after, handle_of, action_of, State, Table, acted_table, word_in, carried_offer, line_for, Changes, Takes}
use Rattle.machine_core.specs.Vocabulary.{at_scene, scene, Taken, IsOfRun}
use Rattle.machine_model.proofs.Actors.{after_marks}
use Rattle.running.proofs.Offers.{carried_or, marked_at, marks_by, unmarked}
use Rattle.running.proofs.Asks.{handle_named}
use Rattle.machine_core.specs.declared.parts.Actor.{Actor}
use Rattle.machine_core.specs.declared.parts.Parts.{Parts}
use Rattle.machine_core.specs.declared.parts.UnderWay.{UnderWay}
use Rattle.machine_core.specs.Keeping.{IsKept, IsSeated}
use Rattle.machine_core.specs.Seen.{actors_seen, operation_at, seen}
use Rattle.machine_core.proofs.Allowed.{there_is}
use Rattle.machine_core.proofs.Marking.{Offered, marks_alike, stood}
use Rattle.machine_core.proofs.Becomes.{became, carried_now, gone_so}
use Rattle.machine_core.proofs.Took.{Took}

-- ---- a step that was taken

module _ (before : Parts) (actor : ℕ) (u : UnderWay) (taken : Taken) (now : Parts) (t : Took before actor u taken now) (run : IsOfRun (seen before)) (kept : IsKept before) where
  seated : IsSeated before.limits.hash (actor - 1) t.seat.found
  seated = kept.seats (actor - 1) t.seat.found t.seat.at

  there : at_scene (seen before) (scene before.heap before.table before.generations t.seat.found.programs) ≡ seen before
  there = there_is before (actor - 1) t.seat.found seated

  pub takes : Takes (seen before) (operation_at before.table t.seat.found.programs u) (line_for u.program t.seat.found.programs) taken (line_for u.program t.programs)
  takes =
      subst (λ (s : State). Takes s (operation_at before.table t.seat.found.programs u) (line_for u.program t.seat.found.programs) taken (line_for u.program t.programs)) there
      (t.does.takes (seen before) (operation_at before.table t.seat.found.programs u))

  pub changes : Changes u.job (scene before.heap before.table before.generations t.seat.found.programs) (action_of (seen before) (operation_at before.table t.seat.found.programs u))
      (scene now.heap now.table now.generations t.programs)
  changes =
      subst
      (λ (s : State). Changes u.job (scene before.heap before.table before.generations t.seat.found.programs) (action_of s (operation_at before.table t.seat.found.programs u))
      (scene now.heap now.table now.generations t.programs))
      there (t.does.changes (seen before) (operation_at before.table t.seat.found.programs u))

  pub handle_is : handle_of (operation_at before.table t.seat.found.programs u).call ≡ u.job.handle
  handle_is = handle_named u.job.handle u.program

  pub number_is : u.job.actor ≡ actor
  number_is = omega (arith, seated.number u t.seat.runs, t.seat.counts)

  -- ---- the operation

  pub becomes : operation_at (record now.table { marks = unmarked before.table.marks u.job.actor (action_of (seen before) (operation_at before.table t.seat.found.programs u)) }) t.programs u
      ≡ operation_after (seen before) (operation_at before.table t.seat.found.programs u)
  becomes =
      let own : Operation = operation_at before.table t.seat.found.programs u in
      let table : Table = record now.table { marks = unmarked before.table.marks u.job.actor (action_of (seen before) own) } in
      subst (λ (s : State). operation_at table t.programs u ≡ operation_after s own) there
      (became (seen before) u table (scene before.heap before.table before.generations t.seat.found.programs) (scene now.heap now.table now.generations t.programs) taken t.does
      (subst (λ (s : State). table.marks ≡ unmarked before.table.marks u.job.actor (action_of s own)) (sym there) refl))

  -- ---- the state

  marks_are : now.table.marks
      ≡ marked_at (unmarked before.table.marks u.job.actor (action_of (seen before) (operation_at before.table t.seat.found.programs u)))
      (slice_index_or before.table.offerers u.job.handle 0) (carried_now (seen before) (operation_at before.table t.seat.found.programs u))
  marks_are =
      let action : Action = action_of (seen before) (operation_at before.table t.seat.found.programs u) in
      ap (λ (x : Table). x.marks) changes.table ∙ (marks_by before.table u.job.handle u.job.actor action).marks
      ∙ ap (λ h. marked_at (unmarked before.table.marks u.job.actor action) (slice_index_or before.table.offerers u.job.handle 0) (carried_offer (word_in before.table h) action)) (sym handle_is)

  -- who offered what the step carries out is known
  abbrev pub KnowsOffered : Type 0
  KnowsOffered =
      (offer : Descriptor) → carried_now (seen before) (operation_at before.table t.seat.found.programs u) ≡ Some offer →
      (slice_index_or before.table.offerers u.job.handle 0
      < length (unmarked before.table.marks u.job.actor (action_of (seen before) (operation_at before.table t.seat.found.programs u))))
      × Offered offer.operation (slice_index_or before.table.offerers u.job.handle 0)
      (slice_set before.actors.items (actor - 1) (record { programs = t.programs; under_way = Some u }))

  pub actors_are : KnowsOffered → actors_seen now.table now.actors.items
      ≡ after_marks (option_map (λ (offer : Descriptor). offer.operation) (carried_now (seen before) (operation_at before.table t.seat.found.programs u)))
      (slice_set (seen before).actors (actor - 1) (Some (operation_after (seen before) (operation_at before.table t.seat.found.programs u))))
  actors_are offered =
      let own : Operation = operation_at before.table t.seat.found.programs u in
      let action : Action = action_of (seen before) own in
      let is' : Actor = record { programs = t.programs; under_way = Some u } in
      let table : Table = record now.table { marks = unmarked before.table.marks u.job.actor action } in
      let carried : Option Descriptor = carried_now (seen before) own in
      let offerer : ℕ = slice_index_or before.table.offerers u.job.handle 0 in
      let xs : List Actor = slice_set before.actors.items (actor - 1) is' in
      ap (actors_seen now.table) t.set
      ∙ sym (marks_alike table now.table xs carried offerer marks_are offered)
      ∙ ap (after_marks (option_map (λ (offer : Descriptor). offer.operation) carried))
      (sym (stood before.limits.hash before.table table before.actors.items actor is' action (operation_after (seen before) own) kept.seats t.seat.counts
      (ap (λ a. unmarked before.table.marks a action) number_is) (ap Some becomes)))

  -- the state is then the definition's
  pub gone_seen : KnowsOffered → gone (seen before) actor (operation_at before.table t.seat.found.programs u) ≡ seen now
  gone_seen offered =
      let own : Operation = operation_at before.table t.seat.found.programs u in
      let action : Action = action_of (seen before) own in
      gone_so (seen before) actor own before.table (seen now) refl (record {
        limits = ap (λ (x : Parts). x.limits) t.rest;
        heap = changes.acts.heap;
        generations = changes.drawn;
        limbo = changes.acts.epochs.0;
        epoch = changes.acts.epochs.1;
        cursor = changes.acts.epochs.2;
        roots = ap (λ (x : Table). x.roots) changes.table
            ∙ ap (λ h. (acted_table before.table h u.job.actor action).roots) (sym handle_is) ∙ ap (λ a. (acted_table before.table (handle_of own.call) a action).roots) number_is;
        actors = actors_are offered;
        begun = ap (λ (x : Parts). x.begun) t.rest;
        steps = ap (λ (x : Parts). x.steps) t.rest;
      })

  -- ---- the offer that it carried out

  or_none : (carried : Option Descriptor) → carried_or None carried ≡ carried
  or_none None = refl
  or_none (Some offer) = refl

  pub carried_is : now.table.carried ≡ carried_now (seen before) (operation_at before.table t.seat.found.programs u)
  carried_is =
      let action : Action = action_of (seen before) (operation_at before.table t.seat.found.programs u) in
      ap (λ (x : Table). x.carried) changes.table
      ∙ (marks_by before.table u.job.handle u.job.actor action).carried
      ∙ ap (λ c. carried_or c (carried_offer (word_in before.table u.job.handle) action)) kept.noted.carried
      ∙ or_none (carried_offer (word_in before.table u.job.handle) action)
      ∙ ap (λ h. carried_offer (word_in before.table h) action) (sym handle_is)
