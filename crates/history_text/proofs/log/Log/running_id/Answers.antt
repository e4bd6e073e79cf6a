use Rattle.std.proofs.Common.{◌≡◌, sym, ap, ◌∙◌, eqb}
use Rattle.std.specs.List.{list_any}
use Rattle.history_text.specs.Running.{running}
use Rattle.history_text.proofs.Runs.{runs_ok, stopped_err}
use Rattle.history_text.proofs.log.Log.running_id.Goals as goal

pub returns-then-has_id : goal.returns-then-has_id
returns-then-has_id c =
    let same : c.deref.result.now ≡ running c.args.self.now.1 = c.deref.ensures.value ∙ c.self.invariant.1 ∙ ap (λ x. running x.1) c.self.view_is in
    let any = ap (list_any (λ one. eqb one.0 c.in_ok-id.id)) (sym same) ∙ sym c.has_id.ensures ∙ c.if-has_id.true in
    sym (runs_ok c.args.self.now.1 c.args.word.now c.in_ok-id.id (sym c.in_ok-id.ensures) any)

pub returns : goal.returns
returns c =
    let same : c.deref.result.now ≡ running c.args.self.now.1 = c.deref.ensures.value ∙ c.self.invariant.1 ∙ ap (λ x. running x.1) c.self.view_is in
    let any = ap (list_any (λ one. eqb one.0 c.in_ok-id.id)) (sym same) ∙ sym c.has_id.ensures ∙ c.if-has_id.false in
    sym (stopped_err c.args.self.now.1 c.args.word.now c.in_ok-id.id (sym c.in_ok-id.ensures) any)
