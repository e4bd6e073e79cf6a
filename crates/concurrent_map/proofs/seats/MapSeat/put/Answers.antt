use Rattle.std.proofs.Common.{ap}
use Rattle.history.specs.declared.calls.Call.TheVariants.{Put}
use Rattle.history.specs.declared.replies.Reply.TheVariants as reply
use Rattle.concurrent_map.proofs.Told.{told_at_last}
use Rattle.concurrent_map.proofs.seats.MapSeat.put.Goals as goal

pub returns-clause-told : goal.returns-clause-told
returns-clause-told g c =
    let laws = c.histories_stay.ensures in
    told_at_last reply.Found _ _ _ _ _ _ c.self.view_is (ap (λ h. Put h c.args.key c.args.value) c.number.ensures)
    laws.go_on laws.others laws.denials c.self.invariant c.put.ensures.seat c.put.ensures.told
