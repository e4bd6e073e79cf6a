use Rattle.std.proofs.Common.{◌≤◌, ◌⊎◌, inl, inr, sym, ap, subst, ◌∙◌}
use Rattle.lock_free.specs.declared.rules.View.{View}
use Rattle.lock_free.specs.BegunCalls.{with_number}
use Rattle.lock_free.specs.Loading.{IsSound}
use Rattle.lock_free.specs.Stocks.{IsStock}
use Rattle.lock_free.specs.TriedCalls.{settled, HasRunTry}
use Rattle.lock_free.specs.UnderWay.{HasLeftBy, HasLeftWith, HasRunOut, HasRunWith}
use Rattle.lock_free.specs.WholeCalls.{HasLeft, RestsWith}
use Rattle.lock_free.proofs.CallsUnderWay.{rests_still}
use Rattle.lock_free.proofs.TriesTold.{holds_left, left_with, ran_out_with, run_first, settled_left, settled_owns, unreserved, unreserved_is, with_actor, with_few, with_rests, with_stock}
use Rattle.lock_free.proofs.try_runs.try_within.Goals as goal

pub run_within-ran-requires-clause-stock : goal.run_within-ran-requires-clause-stock
run_within-ran-requires-clause-stock c =
    let v = c.args.actor.now.me.0 in
    let r = (c.in-Ok.ensures {u = tt}).reserved in
    let opens = c.in-Ok.opens in
    subst (IsStock c.args.stock.now) (sym r.0) (with_stock v opens c.requires.ready c.args.stock.now c.requires.stock)

pub run_within-ran-requires-clause-its : goal.run_within-ran-requires-clause-its
run_within-ran-requires-clause-its c =
    let v = c.args.actor.now.me.0 in
    let r = (c.in-Ok.ensures {u = tt}).reserved in
    let opens = c.in-Ok.opens in
    ap (λ (x : View). x.actor) r.0 ∙ with_actor v opens ∙ c.requires.its

pub run_within-ran-requires-clause-few : goal.run_within-ran-requires-clause-few
run_within-ran-requires-clause-few c =
    let v = c.args.actor.now.me.0 in
    let r = (c.in-Ok.ensures {u = tt}).reserved in
    let opens = c.in-Ok.opens in
    subst (λ (x : View). x.actor ≤ x.sizes.seats) (sym r.0) (with_few v opens c.requires.few)

pub run_within-ran-requires-clause-ready : goal.run_within-ran-requires-clause-ready
run_within-ran-requires-clause-ready c =
    let v = c.args.actor.now.me.0 in
    let r = (c.in-Ok.ensures {u = tt}).reserved in
    let opens = c.in-Ok.opens in
    subst (λ x. RestsWith x opens) (sym r.0) (with_rests v opens c.requires.ready)

pub returns-clause-run : goal.returns-clause-run
returns-clause-run c =
    let v = c.args.actor.now.me.0 in
    let r = (c.in-Ok.ensures {u = tt}).reserved in
    let opens = c.in-Ok.opens in
    let ran = c.run_within-ran in
    let w = ran.new.actor.me.0 in
    let first = subst (λ x. HasLeftWith x c.args.call opens ran.result w) r.0 ran.ensures.left in
    let is = c.settle_number.ensures.settled in
    subst (λ x. HasRunTry v c.args.call ran.result x ⊎ HasRunOut v ran.result x) (sym is)
    (elim (subst (λ x. HasRunWith x c.args.call opens ran.result w ⊎ HasRunOut x ran.result w) r.0 ran.ensures.run) [
      | inl run ↦ inl (run_first c.args.words.now.table_id.words v c.requires.ready c.args.call c.requires.tried c.seats_are_explained.ensures w opens r.1 ran.result
          (subst (IsSound c.args.words.now.table_id.words) is c.settle_number.ensures.sound) run first)
      | inr out ↦ inr (ran_out_with v w opens ran.result out)
    ])

pub returns-clause-left : goal.returns-clause-left
returns-clause-left c =
    let v = c.args.actor.now.me.0 in
    let r = (c.in-Ok.ensures {u = tt}).reserved in
    let opens = c.in-Ok.opens in
    let ran = c.run_within-ran in
    let w = ran.new.actor.me.0 in
    let first = subst (λ x. HasLeftWith x c.args.call opens ran.result w) r.0 ran.ensures.left in
    let is = c.settle_number.ensures.settled in
    subst (HasLeftBy v c.args.call ran.result) (sym is)
    (left_with v (settled opens ran.result w) opens c.args.call ran.result (settled_left (with_number opens v) w c.args.call opens ran.result first))

pub returns-clause-stock : goal.returns-clause-stock
returns-clause-stock c =
    let v = c.args.actor.now.me.0 in
    let r = (c.in-Ok.ensures {u = tt}).reserved in
    let opens = c.in-Ok.opens in
    let ran = c.run_within-ran in
    let w = ran.new.actor.me.0 in
    let first = subst (λ x. HasLeftWith x c.args.call opens ran.result w) r.0 ran.ensures.left in
    let is = c.settle_number.ensures.settled in
    subst (IsStock ran.new.stock) (sym is) (settled_owns w opens ran.result (holds_left (with_number opens v) w c.args.call opens ran.result first) ran.new.stock ran.ensures.stock)

pub returns-in-Err-clause-run : goal.returns-in-Err-clause-run
returns-in-Err-clause-run c =
    let v = c.args.actor.now.me.0 in
    let x = c.reserve_for.new.actor.me.0 in
    let r = (c.in-Err.ensures {u = tt}).reserved in
    inl (unreserved v x c.args.call c.in-Err.why r)

pub returns-in-Err-clause-left : goal.returns-in-Err-clause-left
returns-in-Err-clause-left c =
    let v = c.args.actor.now.me.0 in
    let x = c.reserve_for.new.actor.me.0 in
    let r = (c.in-Err.ensures {u = tt}).reserved in
    subst (HasLeft v) (sym (unreserved_is v x c.args.call c.in-Err.why r)) (rests_still v c.requires.ready)

pub returns-in-Err-clause-stock : goal.returns-in-Err-clause-stock
returns-in-Err-clause-stock c =
    let v = c.args.actor.now.me.0 in
    let x = c.reserve_for.new.actor.me.0 in
    let r = (c.in-Err.ensures {u = tt}).reserved in
    subst (IsStock c.args.stock.now) (sym (unreserved_is v x c.args.call c.in-Err.why r)) c.requires.stock
