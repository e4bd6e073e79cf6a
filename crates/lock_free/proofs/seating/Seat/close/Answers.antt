use Rattle.std.proofs.Common.{inl, inr, ap, sym, subst, ◌∙◌}
use Rattle.lock_free.specs.Loading.{IsSound}
use Rattle.lock_free.specs.Seated.{HasGoneOn}
use Rattle.lock_free.specs.WholeCalls.{IsToldClose}
use Rattle.lock_free.proofs.Answered.{closes_are_answered}
use Rattle.lock_free.proofs.BetweenCalls.{gone_on, seat_after}
use Rattle.lock_free.proofs.Waiting.{waited_none}
use Rattle.lock_free.proofs.WholeClose.{leaves_shut, waited_found, waited_watched}
use Rattle.lock_free.proofs.seating.Seat.close.Goals as goal
use Rattle.lock_free.proofs.seating.Seat.close.Goals.{in-Closed, in-Busy, in-NoHandle}

pub returns-then-handle-ge-HANDLES-clause-told : goal.returns-then-handle-ge-HANDLES-clause-told
returns-then-handle-ge-HANDLES-clause-told c = (waited_none c.args.self.now.view.actor c.args.self.now.view.account, inl (c.if-handle-ge-HANDLES.true))

pub invariant_of-self : goal.invariant_of-self
invariant_of-self c =
    let v = c.self.inside.actor.me.0 in
    let w = c.close_handle.new.actor.me.0 in
    let left = leaves_shut v w c.args.handle c.close_handle.result c.self.invariant.rests c.close_handle.ensures.shut in
    seat_after c.self.inside.actor.table_id.words c.close_handle.new.actor.table_id.words c.self.inside.number c.self.inside.last c.self.inside.stock.value
    c.close_handle.new.stock v w c.self.invariant (ap (λ t. t.words) c.close_handle.ensures.table)
    (subst (λ n. IsSound n w) (ap (λ t. t.words) (sym (ap (λ s. s.table) c.self.view_is ∙ c.requires.table))) c.close_handle.ensures.sound)
    left c.close_handle.ensures.stock

pub returns-clause-seat : goal.returns-clause-seat
returns-clause-seat c =
    let v = c.self.inside.actor.me.0 in
    let w = c.close_handle.new.actor.me.0 in
    let left = leaves_shut v w c.args.handle c.close_handle.result c.self.invariant.rests c.close_handle.ensures.shut in
    subst (λ s. HasGoneOn s (record { table = c.close_handle.new.actor.table_id; view = w })) c.self.view_is
    (gone_on c.self.inside.actor.table_id c.close_handle.new.actor.table_id v w c.close_handle.ensures.table left.same)

pub returns-clause-told : goal.returns-clause-told
returns-clause-told c =
    let v = c.self.inside.actor.me.0 in
    let w = c.close_handle.new.actor.me.0 in
    let n = c.self.inside.actor.table_id.words in
    let told : IsToldClose v c.args.handle c.match-close_handle.result w = elim c.match-close_handle.branch [
      | in-Closed b ↦ subst (λ r. IsToldClose v c.args.handle r w) (sym b.result-is) (closes_are_answered n v w c.args.handle c.self.invariant.sound (b.in-Closed.ensures {u = tt}).shut)
      | in-Busy b ↦ subst (λ r. IsToldClose v c.args.handle r w) (sym b.result-is) (waited_watched v w (b.in-Busy.ensures {u = tt}).shut)
      | in-NoHandle b ↦
          let found = (b.in-NoHandle.ensures {u = tt}).shut in
          subst (λ r. IsToldClose v c.args.handle r w) (sym b.result-is) (waited_found v w c.args.handle found, inr found)
    ] in
    subst (λ s. IsToldClose s.view c.args.handle c.match-close_handle.result w) c.self.view_is told
