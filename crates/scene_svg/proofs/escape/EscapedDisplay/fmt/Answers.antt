use Rattle.std.proofs.Common.{arith, rules, ap}
use Rattle.std.proofs.Output.{has_written_append, has_written_of_eq}
use Rattle.std.proofs.lemmas.List.{take_all}
use Rattle.scene_svg.specs.Escapes.{escape, escaped}
use Rattle.scene_svg.proofs.Loops.{written_more}
use Rattle.scene_svg.proofs.escape.EscapedDisplay.fmt.Goals as goal

pub loop-byte-preserved : goal.loop-byte-preserved
loop-byte-preserved g c =
    λ p. has_written_of_eq _ _ _ _ _ (written_more escape c.args.self.now.0.now c.loop-byte.byte-index 0 (omega arith)) (has_written_append _ _ _ _ _ _ (c.loop-byte.invariant p) (search rules))

pub returns-clause-writes : goal.returns-clause-writes
returns-clause-writes g c =
    λ p ok. has_written_of_eq _ _ _ _ _ (ap escaped (take_all c.loop-byte.byte-index c.args.self.now.0.now (omega arith))) (c.loop-byte.invariant p)
