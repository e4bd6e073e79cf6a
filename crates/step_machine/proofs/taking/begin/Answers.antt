use Rattle.step_machine.proofs.Feeding.{can_begin}
use Rattle.step_machine.proofs.taking.begin.Goals as goal

pub begin-requires-2-clause-can : goal.begin-requires-2-clause-can
begin-requires-2-clause-can c =
    can_begin c.args.body.now.state c.args.kept.now c.args.actor c.args.call c.in_ok-begun.begun _ _ c.requires.fits c.in_ok-begun.ensures.answers c.in_ok-begun.ensures.tells
