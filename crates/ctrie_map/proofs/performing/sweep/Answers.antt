use Rattle.ctrie_map.proofs.Stepping.{is_swept, unspent}
use Rattle.ctrie_map.proofs.performing.sweep.Goals as goal

pub returns-clause-swept : goal.returns-clause-swept
returns-clause-swept c = is_swept c.args.core.now c.reclaim.new.self c.reclaim.ensures.reclaims

pub returns-clause-clean : goal.returns-clause-clean
returns-clause-clean c =
    c.reclaim.ensures.clean (unspent c.args.core.now.state c.sweeps_leave.ensures c.limits.ensures.of_run c.requires.rest c.requires.left c.reclaim.new.self.state
    (is_swept c.args.core.now c.reclaim.new.self c.reclaim.ensures.reclaims))
