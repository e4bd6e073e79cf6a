use Rattle.std.proofs.Common.{Ok, arith, refl, subst}
use Rattle.proof_runs.specs.Machines.{Taken, Applied}
use Rattle.machine_model.specs.declared.steps.Outcome.TheVariants as outcome
use Rattle.machine_model.specs.declared.steps.Step.TheVariants as steps
use Rattle.machine_core.specs.Asking.{asked_all}
use Rattle.machine_core.specs.declared.asked.Step.TheVariants as step
use Rattle.step_machine.proofs.Asked.{pushed}
use Rattle.step_machine.proofs.Feeding.{can_tell}
use Rattle.step_machine.proofs.Steps.{holds_after, holds_roomy, taken_applied, machine_of}
use Rattle.step_machine.proofs.machine.Machine.go_publishing.Goals as goal

pub go-requires-clause-fits : goal.go-requires-clause-fits
go-requires-clause-fits c =
    can_tell c.tellings_fit.ensures c.self.inside.limits (asked_all c.self.inside.steps.items) c.self.inside.body.state c.self.inside.kept c.make_room.new.kept c.self.invariant
    c.make_room.ensures.past c.make_room.ensures.slots (grind (arith, c.generations.ensures, c.make_room.ensures.generations, c.is_err.ensures, c.if-is_err.false))

pub invariant_of-self-2 : goal.invariant_of-self-2
invariant_of-self-2 c =
    holds_after c.self.inside.limits c.self.inside.body.state c.go.new.body.state c.make_room.new.kept c.go.new.kept (asked_all c.self.inside.steps.items) (asked_all c.push_reserved.new.self.items)
    (steps.Go c.args.actor) (outcome.Went c.in_ok-kind.kind)
    (holds_roomy c.self.inside.limits (asked_all c.self.inside.steps.items) (asked_all c.self.inside.steps.items) c.self.inside.body.state c.self.inside.kept c.make_room.new.kept c.self.invariant
    c.make_room.ensures.past c.make_room.ensures.slots refl)
    c.in_ok-kind.ensures (pushed c.self.inside.steps.items c.push_reserved.new.self.items (step.Go c.args.actor) (grind (arith, c.push_reserved.ensures, c.make_room.ensures.steps))) c.fits.ensures

pub returns : goal.returns
returns c =
    subst (λ (m : Taken). Applied (Ok (outcome.Went c.in_ok-kind.kind)) m (steps.Go c.args.actor) (machine_of c.self.inside.limits (asked_all c.push_reserved.new.self.items))) c.self.view_is (
    taken_applied c.self.inside.limits c.self.inside.body.state c.go.new.body.state (asked_all c.self.inside.steps.items) (asked_all c.push_reserved.new.self.items) (steps.Go c.args.actor)
    (outcome.Went c.in_ok-kind.kind) c.self.invariant.led c.in_ok-kind.ensures.0
    (pushed c.self.inside.steps.items c.push_reserved.new.self.items (step.Go c.args.actor) (grind (arith, c.push_reserved.ensures, c.make_room.ensures.steps))))
