use Rattle.std.proofs.Common.{sym, ap₂, ◌∙◌}
use Rattle.shared_map.specs.Asking.{denial_from}
use Rattle.shared_map.proofs.CallAll.{if_denied, if_turned}
use Rattle.shared_map.proofs.wholes.change_all.Goals as goal

pub returns-in-Some-clause-answered : goal.returns-in-Some-clause-answered
returns-in-Some-clause-answered g c =
    if_denied c.args.first.now (g.S.Shards.items c.args.shards.now) c.args.turn c.in-Some.denial
    (ap₂ (λ w o. denial_from w o c.args.first.now.writable c.args.first.now.handles) (sym c.writes.ensures) (sym c.opens.ensures) ∙ sym c.denial.ensures ∙ c.in-Some.is)

pub returns-in-None-clause-answered : goal.returns-in-None-clause-answered
returns-in-None-clause-answered g c =
    if_turned c.args.first.now (g.S.Shards.items c.args.shards.now) c.args.turn c.turn_all.result (g.S.Shards.items c.turn_all.new.shards) c.requires.many
    (ap₂ (λ w o. denial_from w o c.args.first.now.writable c.args.first.now.handles) (sym c.writes.ensures) (sym c.opens.ensures) ∙ sym c.denial.ensures ∙ c.in-None.is)
    c.requires.next c.turn_all.ensures.turns
