use Rattle.std.proofs.Common.{sym, ap, ◌∙◌}
use Rattle.std.specs.Prelude.{is_some}
use Rattle.std.specs.List.{list_any}
use Rattle.machine_core.specs.Seen.{operation_seen}
use Rattle.proof_core.proofs.Mapped.{any_mapped}
use Rattle.machine_core.proofs.actors.is_busy.Goals as goal

pub returns : goal.returns
returns c =
    let parts = c.args.parts.now in
    c.is_busy_among.ensures ∙ ap (list_any (λ actor. is_some (operation_seen parts.table actor))) c.as_slice.ensures.value
    ∙ sym (any_mapped (λ operation. is_some operation) (operation_seen parts.table) parts.actors.items)
