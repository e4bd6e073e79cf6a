use Rattle.rdcss_root.proofs.Completing.{reads_on, reads_done}
use Rattle.rdcss_root.proofs.complete.Complete.read.Goals as goal

pub returns-in-More-clause-follows : goal.returns-in-More-clause-follows
returns-in-More-clause-follows c = reads_on _ _ _ _ c.args.read.now c.step.new.self c.requires.0 c.step.ensures.same (rw c.in-More.is at c.step.ensures.follows)

pub returns-in-Done-clause-follows : goal.returns-in-Done-clause-follows
returns-in-Done-clause-follows c = reads_done _ _ _ _ _ c.args.read.now c.step.new.self c.requires.0 c.step.ensures.same (rw c.in-Done.is at c.step.ensures.follows)
