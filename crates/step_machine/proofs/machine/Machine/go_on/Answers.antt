use Rattle.std.proofs.Common.{arith, ◌≡◌, ◌+◌, Ok, None, subst, sym}
use Rattle.machine_model.specs.declared.steps.Outcome.TheVariants as outcome
use Rattle.proof_runs.specs.Callers.{going_on}
use Rattle.proof_runs.specs.Machines.{Taken}
use Rattle.proof_runs.proofs.Going.{goes, reached, replies, stays}
use Rattle.step_machine.proofs.machine.Machine.go_on.Goals.{then-goes_on+in_ok-go_once, else-goes_on+in_ok-reply+in_default}
use Rattle.step_machine.proofs.machine.Machine.go_on.Goals as goal

pub returns-in-Some : goal.returns-in-Some
returns-in-Some c =
    replies c.loop.counter c.args.actor c.in-Some.reply c.in_ok-reply.field-0 c.args.self.now c.loop.self c.reply.new.self (omega (arith, c.loop-test.true)) c.loop.invariant c.in-Some.is
    c.in_ok-reply.ensures

pub loop-preserved : goal.loop-preserved
loop-preserved c = elim c.if-goes_on.branch [
  | then-goes_on+in_ok-go_once w ↦ subst (λ (m : Taken). going_on (c.loop.counter + 1) c.args.actor c.args.self.now ≡ (Ok None, m)) (sym w.self-is)
      (goes c.loop.counter c.args.actor (outcome.Went w.in_ok-go_once.field-0) c.args.self.now c.loop.self w.go_once.new.self c.loop.invariant w.in_ok-go_once.ensures (λ id answer e. cc e))
  | else-goes_on+in_ok-reply+in_default w ↦ subst (λ (m : Taken). going_on (c.loop.counter + 1) c.args.actor c.args.self.now ≡ (Ok None, m)) (sym w.self-is)
      (stays c.loop.counter c.args.actor w.in_ok-reply.field-0 c.args.self.now c.loop.self w.reply.new.self c.loop.invariant w.in_ok-reply.ensures w.in_default.not-Some)
]

pub returns : goal.returns
returns c = reached c.loop.counter c.args.actor c.args.self.now c.loop.self (omega (arith, c.loop-test.false)) (omega (arith, c.loop.auto.counter-end)) c.loop.invariant
