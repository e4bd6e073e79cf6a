use Rattle.std.proofs.Common.{◌≡◌, [], ◌++◌, ap, sym, ◌∙◌, append-nil, map}
use Rattle.lock_runner.specs.Opening.{IsFreshPass, opened}
use Rattle.lock_runner.proofs.Making.{fresh_seated, opened_next}
use Rattle.lock_runner.proofs.Ends.{of_each, next_at, moved_on, none_left}
use Rattle.lock_runner.proofs.opening.seats_of.Goals as goal

pub loop-pass-init : goal.loop-pass-init
loop-pass-init c = record { seats = c.new-seats.ensures.items; left = sym c.into_iter-pass-iterator.ensures.into_iter_gives.0 }

pub invariant_of-push : goal.invariant_of-push
invariant_of-push c =
    let at = next_at _ _ _ _ c.in-Some.pass c.loop-pass.invariant.left c.in-Some.ensures.steps.0 in
    fresh_seated c.args.limits c.in-Some.pass c.new.result.items (of_each (λ pass. IsFreshPass c.args.limits pass) _ _ _ c.requires at) c.new.ensures.items

pub loop-pass-preserved : goal.loop-pass-preserved
loop-pass-preserved c = record {
  seats = opened_next c.loop-pass.yielded c.in-Some.pass _ _ c.new.result.items c.loop-pass.invariant.seats c.new.ensures.items c.in_ok-push.ensures.items;
  left = moved_on _ _ _ _ c.in-Some.pass c.loop-pass.invariant.left c.in-Some.ensures.steps.0;
}

pub returns : goal.returns
returns c =
    let none : c.loop-pass.pass-iterator.rest.items ≡ [] = none_left _ _ c.loop-pass.pass-iterator.rest.ok.0 c.in-None.ensures.steps.0 in
    let whole = c.loop-pass.invariant.left ∙ ap (λ xs. c.loop-pass.yielded ++ xs) none ∙ append-nil _ in
    c.loop-pass.invariant.seats ∙ ap (λ xs. map opened xs) (sym whole)
