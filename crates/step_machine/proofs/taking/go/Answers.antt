use Rattle.std.proofs.Common.{sym, subst}
use Rattle.chronicle.specs.Chronicled.{CanGo}
use Rattle.step_machine.proofs.Feeding.{can_go}
use Rattle.step_machine.proofs.taking.go.Goals as goal

pub go-requires-clause-can : goal.go-requires-clause-can
go-requires-clause-can c =
    subst (λ n. CanGo c.args.kept.now n c.args.actor c.in_ok-stepped.stepped.progress) (sym c.steps_taken-step.ensures.number)
    (can_go c.args.body.now.state c.args.kept.now c.args.actor c.in_ok-stepped.stepped c.requires.fits c.in_ok-stepped.ensures.tells)
