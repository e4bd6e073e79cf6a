use Rattle.std.proofs.Common.{sym, ◌∙◌}
use Rattle.std.proofs.lemmas.Option.{none-some}
use Rattle.machine_core.proofs.Underway.{at_work, tells_some}
use Rattle.machine_core.proofs.ending.end_operation.Goals as goal

pub finish-requires-clause-over : goal.finish-requires-clause-over
finish-requires-clause-over c = tells_some c.args.parts.now c.args.actor c.requires.ends c.in-Some.under_way (sym c.under_way.ensures ∙ c.in-Some.is)

pub unreachable-requires : goal.unreachable-requires
unreachable-requires c =
    let (u, runs) = at_work c.args.parts.now c.args.actor c.requires.allowed in
    none-some u (sym c.in-None.is ∙ c.under_way.ensures ∙ runs)
