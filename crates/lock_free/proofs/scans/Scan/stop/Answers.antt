use Rattle.std.proofs.Common.{sym, ap, subst, ◌∙◌}
use Rattle.atomic_table.specs.Seated.{TableId}
use Rattle.history.specs.declared.replies.Reply.TheVariants as reply
use Rattle.lock_free.specs.Loading.{IsSound}
use Rattle.lock_free.specs.Scans.{IsScanning}
use Rattle.lock_free.specs.Seated.{HasGoneOn, Seated}
use Rattle.lock_free.proofs.Scannings.{ended_answered, left_gone_on, seat_left, stopped_ended, stopped_left}
use Rattle.lock_free.proofs.scans.Scan.stop.Goals as goal

pub invariant_of-result : goal.invariant_of-result
invariant_of-result c =
    let inv = c.self.invariant in
    let v = c.self.inside.actor.me.0 in
    let x = c.refuse.new.actor.me.0 in
    let same = c.refuse.ensures.table ∙ ap (λ (s : Seated). s.table) c.self.view_is ∙ c.requires.table in
    seat_left c.refuse.new.actor.table_id.words v x _ _ c.refuse.new.stock inv.actors inv.its inv.its_last (stopped_left _ v inv.sound _ _ inv.listing x c.refuse.ensures.refused)
    (subst (λ (t : TableId). IsSound t.words x) (sym same) c.refuse.ensures.sound) c.refuse.ensures.stock

pub returns-clause-seat : goal.returns-clause-seat
returns-clause-seat c =
    let inv = c.self.invariant in
    let before = c.self.inside.actor in
    let after = c.refuse.new.actor in
    subst (λ (s : Seated). HasGoneOn s (record { table = after.table_id; view = after.me.0 })) c.self.view_is
    (left_gone_on (record { table = before.table_id; view = before.me.0 }) (record { table = after.table_id; view = after.me.0 }) c.refuse.ensures.table
    (stopped_left _ before.me.0 inv.sound _ _ inv.listing after.me.0 c.refuse.ensures.refused).same)

pub returns-clause-stopped : goal.returns-clause-stopped
returns-clause-stopped c first handle told scanning =
    let inv = c.self.invariant in
    let v = c.self.inside.actor.me.0 in
    let x = c.refuse.new.actor.me.0 in
    let s = subst (λ (q : Seated). IsScanning first handle told q.view) (sym c.self.view_is) scanning in
    ended_answered first handle told v s x reply.NoSlots (stopped_ended _ v inv.sound _ _ inv.listing x c.refuse.ensures.refused)
