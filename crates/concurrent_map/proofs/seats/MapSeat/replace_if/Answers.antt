use Rattle.std.proofs.Common.{ap}
use Rattle.history.specs.declared.calls.Call.TheVariants.{ReplaceIf}
use Rattle.history.specs.declared.replies.Reply.TheVariants as reply
use Rattle.concurrent_map.proofs.Told.{told_at_last}
use Rattle.concurrent_map.proofs.seats.MapSeat.replace_if.Goals as goal

pub returns-clause-told : goal.returns-clause-told
returns-clause-told g c =
    let laws = c.histories_stay.ensures in
    told_at_last reply.Truth _ _ _ _ _ _ c.self.view_is (ap (λ h. ReplaceIf h c.args.key c.args.old c.args.new) c.number.ensures)
    laws.go_on laws.others laws.denials c.self.invariant c.replace_if.ensures.seat c.replace_if.ensures.told
