use Rattle.std.proofs.Common.{sym, subst, ◌∙◌}
use Rattle.lock_free.specs.Attempts.{IsTried}
use Rattle.lock_free.specs.Loading.{IsSound}
use Rattle.lock_free.specs.Stocks.{IsStock}
use Rattle.lock_free.specs.TriedCalls.{HasRunTry, IsParkedCall}
use Rattle.lock_free.specs.UnderWay.{HasLeftWith}
use Rattle.lock_free.proofs.CallsUnderWay.{parked_runs}
use Rattle.lock_free.proofs.TriesTold.{holds_left, settled_owns, settled_run}
use Rattle.lock_free.proofs.try_runs.try_on.Goals as goal

pub returns-clause-run : goal.returns-clause-run
returns-clause-run c before any tried on =
    let v = c.args.actor.now.me.0 in
    let ran = c.run_on_within-ran in
    let words = c.args.words.now.table_id.words in
    let is = c.settle_number.ensures.settled in
    let running = parked_runs v c.args.parked c.requires.going.its in
    -- it is this call that is under way
    let same = sym (on.its running.0 running.1) ∙ (c.requires.going.called running.0 running.1).0 in
    let its = subst (λ k. IsParkedCall before k v) same on in
    let left = subst (λ n. HasLeftWith v c.args.call n ran.result ran.new.actor.me.0) (sym c.opens-opens.ensures) ran.ensures.left in
    subst (λ k. HasRunTry before k ran.result c.settle_number.new.actor.me.0) (sym same)
    (subst (HasRunTry before c.args.call ran.result) (sym is)
    (settled_run words before ran.new.actor.me.0 c.args.call (subst IsTried same tried) c.seats_are_explained.ensures its.opens its.number c.opens-opens.result ran.result
    (subst (IsSound words) is c.settle_number.ensures.sound) (ran.ensures.run before its.opens its.is) v left))

pub returns-clause-stock : goal.returns-clause-stock
returns-clause-stock c =
    let v = c.args.actor.now.me.0 in
    let ran = c.run_on_within-ran in
    let w = ran.new.actor.me.0 in
    let left = subst (λ n. HasLeftWith v c.args.call n ran.result w) (sym c.opens-opens.ensures) ran.ensures.left in
    subst (IsStock ran.new.stock) (sym c.settle_number.ensures.settled)
    (settled_owns w c.opens-opens.result ran.result (holds_left v w c.args.call c.opens-opens.result ran.result left) ran.new.stock ran.ensures.stock)
