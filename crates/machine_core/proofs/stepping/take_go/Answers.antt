use Rattle.std.proofs.Common.{◌≡◌, None, sym, ap, subst, ◌∙◌, arith}
use Rattle.epochs.specs.Memories.{Memory}
use Rattle.machine_model.specs.declared.steps.Step.TheVariants as steps
use Rattle.machine_core.specs.Vocabulary.{go_denial, next, State, WorksUpTo, ticks_of_a_step}
use Rattle.machine_core.specs.Seen.{seen}
use Rattle.machine_core.specs.Told.{published_in}
use Rattle.proof_core.proofs.Bounded.{bounded, taken_run}
use Rattle.machine_core.proofs.Steps.{go_leads, leads_taken}
use Rattle.machine_core.proofs.Working.{operation_little}
use Rattle.machine_core.proofs.stepping.take_go.Goals as goal

pub go_telling-stepped-requires-clause-told : goal.go_telling-stepped-requires-clause-told
go_telling-stepped-requires-clause-told c = c.requires.told ∙ ap (λ (s : State). published_in s c.args.actor) (sym c.give_room.ensures.same)

pub settle-requires-clause-steps : goal.settle-requires-clause-steps
settle-requires-clause-steps c =
    let room = seen c.give_room.new.parts in
    let allowed = subst (λ (s : State). go_denial s c.args.actor ≡ None) (sym c.give_room.ensures.same) c.requires.allowed in
    let leads = go_leads room (seen c.go_telling-stepped.new.parts) c.args.actor _ allowed c.go_telling-stepped.ensures.goes in
    omega (arith, (bounded room c.give_room.ensures.core.run).steps, leads.steps)

pub returns-clause-taken : goal.returns-clause-taken
returns-clause-taken c =
    let room = seen c.give_room.new.parts in
    let middle = seen c.go_telling-stepped.new.parts in
    let allowed = subst (λ (s : State). go_denial s c.args.actor ≡ None) (sym c.give_room.ensures.same) c.requires.allowed in
    ap (λ (s : State). next s (steps.Go c.args.actor)) (sym c.give_room.ensures.same)
    ∙ leads_taken room middle (seen c.settle.new.parts) (steps.Go c.args.actor) _ (go_leads room middle c.args.actor _ allowed c.go_telling-stepped.ensures.goes) c.settle.ensures.settled

pub returns-clause-core : goal.returns-clause-core
returns-clause-core c = record {
  run = taken_run (seen c.args.parts.now) _ (steps.Go c.args.actor) _ (returns-clause-taken c) tt c.requires.core.run;
  kept = c.settle.ensures.kept;
  settled = c.settle.ensures.noted;
}

pub returns-clause-work : goal.returns-clause-work
returns-clause-work c =
    let after = c.settle.new.parts.heap in
    subst (λ (m : Memory). WorksUpTo ticks_of_a_step m.ticks m.limbo after.ticks after.limbo) c.give_room.ensures.heap
    (operation_little c.give_room.new.parts c.go_telling-stepped.new.parts c.settle.new.parts c.args.actor c.give_room.ensures.core.run c.give_room.ensures.core.settled
    c.go_telling-stepped.ensures.work c.settle.ensures.work)
