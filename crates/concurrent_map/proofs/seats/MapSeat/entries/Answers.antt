use Rattle.std.proofs.Common.{ap}
use Rattle.history.specs.declared.calls.Call.TheVariants.{Entries}
use Rattle.history.specs.declared.replies.Reply.TheVariants as reply
use Rattle.concurrent_map.proofs.Told.{told_reply}
use Rattle.concurrent_map.proofs.seats.MapSeat.entries.Goals as goal

pub returns-clause-told : goal.returns-clause-told
returns-clause-told g c =
    let laws = c.histories_stay.ensures in
    told_reply (λ pairs. reply.Pairs pairs.items) _ _ _ _ _ _ c.self.view_is (ap (λ h. Entries h) c.number.ensures)
    laws.go_on laws.others laws.denials c.self.invariant c.entries.ensures.seat c.entries.ensures.told
