use Rattle.std.proofs.Common.{◌≡◌, sym, ap, ◌∙◌, eqb}
use Rattle.std.specs.List.{list_any}
use Rattle.history_text.specs.Running.{running}
use Rattle.history_text.proofs.Runs.{busy_err, idle_ok}
use Rattle.history_text.proofs.log.Log.idle_actor.Goals as goal

pub returns-then-has_actor : goal.returns-then-has_actor
returns-then-has_actor c =
    let same : c.deref.result.now ≡ running c.args.self.now.1 = c.deref.ensures.value ∙ c.self.invariant.1 ∙ ap (λ x. running x.1) c.self.view_is in
    let any = ap (list_any (λ one. eqb one.1 c.in_ok-actor.actor)) (sym same) ∙ sym c.has_actor.ensures ∙ c.if-has_actor.true in
    sym (busy_err c.args.self.now.1 c.args.word.now c.in_ok-actor.actor (sym c.in_ok-actor.ensures) any)

pub returns : goal.returns
returns c =
    let same : c.deref.result.now ≡ running c.args.self.now.1 = c.deref.ensures.value ∙ c.self.invariant.1 ∙ ap (λ x. running x.1) c.self.view_is in
    let any = ap (list_any (λ one. eqb one.1 c.in_ok-actor.actor)) (sym same) ∙ sym c.has_actor.ensures ∙ c.if-has_actor.false in
    sym (idle_ok c.args.self.now.1 c.args.word.now c.in_ok-actor.actor (sym c.in_ok-actor.ensures) any)
