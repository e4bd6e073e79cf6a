use Rattle.std.proofs.Common.{refl, ◌+◌, ◌++◌, ◌∷◌, [], sym, ap, ◌∙◌, eqb, rules, tests}
use Rattle.std.specs.Prelude.{not, filter}
use Rattle.std.proofs.lemmas.Fn.{filter_same}
use Rattle.history.specs.declared.events.Event.TheVariants.{Begin, End}
use Rattle.history_text.proofs.Runs.{running_push}
use Rattle.history.proofs.Begins.{begun_push, begun_same}
use Rattle.history_text.proofs.log.Log.with.Goals as goal
use Rattle.history_text.proofs.log.Log.with.Goals.{in-Begin+in_ok-push-in-Begin, in-End}

pub invariant_of-result : goal.invariant_of-result
invariant_of-result c =
    let es = c.self.inside.events.items in
    let inv = c.self.invariant in
    elim c.match-event.branch [
      | in-Begin+in_ok-push-in-Begin w ↦
          let e = Begin w.in-Begin.id w.in-Begin.actor w.in-Begin.call w.in-Begin.opens in
          rw (c.in_ok-push.ensures.items, w.in-Begin.is) (
            w.next-is ∙ ap (λ n. n + 1) inv.0 ∙ sym (begun_push es (Begin w.in-Begin.id w.in-Begin.actor w.in-Begin.call w.in-Begin.opens) refl),
            ap (λ v. v.items) w.active-is ∙ w.in_ok-push-in-Begin.ensures.items ∙ ap (λ l. l ++ (w.in-Begin.id, w.in-Begin.actor) ∷ []) inv.1 ∙ sym (running_push es e),
          )
      | in-End w ↦
          let e = End w.in-End.id w.in-End.reply in
          rw (c.in_ok-push.ensures.items, w.in-End.is) (
            w.next-is ∙ inv.0 ∙ sym (begun_same es (End w.in-End.id w.in-End.reply) refl),
            ap (λ v. v.items) w.active-is ∙ filter_same _ (λ one. not (eqb one.0 w.in-End.id)) _ (λ x b q k. search (rules, tests)) _ _ w.retain.ensures.filtered
                ∙ ap (filter (λ one. not (eqb one.0 w.in-End.id))) inv.1 ∙ sym (running_push es e),
          )
    ]
