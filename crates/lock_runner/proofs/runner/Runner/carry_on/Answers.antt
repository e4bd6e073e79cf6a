use Rattle.std.proofs.Common.{Ok, subst, refl, ◌∙◌}
use Rattle.std.proofs.lemmas.Result.{err_from_is_err_and}
use Rattle.lock_runner.specs.Stepping.{Goes}
use Rattle.lock_runner.proofs.Steps.{untold_same}
use Rattle.lock_runner.proofs.Whole.{untold_more, carried_on, carry_stops}
use Rattle.lock_runner.proofs.runner.Runner.carry_on.Goals as goal

pub go-requires : goal.go-requires
go-requires g c = c.loop.invariant.2.on.runner ∙ c.requires

pub loop-init : goal.loop-init
loop-init g c = (tt, tt, untold_same _, refl)

pub loop-preserved : goal.loop-preserved
loop-preserved g c =
    let goes = subst (λ b. Goes (Ok b) c.loop.seat c.go.new.seat) c.if-branch.false c.in_ok-go.ensures in
    (tt, tt, untold_more _ _ _ c.loop.invariant.2 goes.0, goes.1 ∙ c.loop.invariant.3)

pub returns-then-branch : goal.returns-then-branch
returns-then-branch g c =
    let ends = subst (λ b. Goes (Ok b) c.loop.seat c.go.new.seat) c.if-branch.true c.in_ok-go.ensures in
    carried_on _ _ _ c.loop.invariant.2 c.loop.invariant.3 ends

pub returns-in_err-go : goal.returns-in_err-go
returns-in_err-go g c =
    let p = err_from_is_err_and c.from_residual.result c.from_residual.ensures.1 in
    rw (p.1, p.2) (carry_stops c.in_err-go.field-0.0 _ _ _ c.loop.invariant.2 c.loop.invariant.3 c.in_err-go.ensures)
