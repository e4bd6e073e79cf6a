use Rattle.std.proofs.Common.{◌≡◌, ◌++◌, ap, ◌∙◌}
use Rattle.std.specs.String.{string_bytes}
use Rattle.script_commands.specs.Reports.{denied_lines}
use Rattle.ctrie_commands.proofs.Gathering.{gathered_more, moved_on}
use Rattle.ctrie_commands.proofs.threads.gathered.Goals as goal

pub loop-worker-preserved : goal.loop-worker-preserved
loop-worker-preserved c =
    let denied = c.deref.ensures.value in
    let told : string_bytes c.tell_denied.new.text
    ≡ string_bytes c.loop-worker.denied ++ denied_lines c.in-Some.worker.seat.actor c.in-Some.worker.denied.items =
    c.in_ok-tell_denied.ensures ∙ ap (λ a. string_bytes c.loop-worker.denied ++ denied_lines a c.deref.result.now) c.actor.ensures.number
    ∙ ap (λ d. string_bytes c.loop-worker.denied ++ denied_lines c.in-Some.worker.seat.actor d) denied in
    record {
      so_far = gathered_more _ _ _ _ _ _ c.loop-worker.invariant.so_far c.in_ok-push.ensures.items told;
      left = moved_on _ _ _ _ _ c.loop-worker.invariant.left c.in-Some.ensures.steps.0;
    }
