use Rattle.std.proofs.Common.{ap, refl, ◌∙◌}
use Rattle.machine_core.specs.Asking.{asked_all}
use Rattle.step_machine.specs.Vocabulary.{bounded, first_state}
use Rattle.step_machine.proofs.Steps.{holds_at_first}
use Rattle.step_machine.proofs.machine.Machine.new.Goals as goal

pub invariant_of-result : goal.invariant_of-result
invariant_of-result c =
    holds_at_first c.args.limits c.in_ok-new.field-0.state c.in_ok-new-2.field-0 (asked_all c.new-3.result.items) (c.in_ok-new.ensures.made ∙ ap first_state c.bounds_of.ensures)
    (c.in_ok-new-2.ensures.past (bounded c.args.limits) refl) (c.in_ok-new-2.ensures.slots) (ap asked_all c.new-3.ensures.items)
    (c.if-not-are_limits.ensures.0 refl)
