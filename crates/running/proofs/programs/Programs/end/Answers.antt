use Rattle.std.proofs.Common.{arith, ap}
use Rattle.running.specs.Vocabulary.{times}
use Rattle.running.proofs.programs.Programs.end.Goals as goal

pub returns-clause-others : goal.returns-clause-others
returns-clause-others c = λ r. omega (arith, c.give_up.ensures.others r, ap (times r) c.give_up.ensures.private)
