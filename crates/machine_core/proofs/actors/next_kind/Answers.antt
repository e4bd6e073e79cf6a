use Rattle.std.proofs.Common.{sym, ap, ◌∙◌}
use Rattle.std.specs.Prelude.{option_and_then, option_map}
use Rattle.machine_core.specs.Vocabulary.{action_of, kind_of}
use Rattle.machine_core.specs.Seen.{operation_seen, seen}
use Rattle.machine_core.proofs.Kept.{found_operation, sound_there}
use Rattle.machine_core.proofs.actors.next_kind.Goals as goal

pub kind_for-requires : goal.kind_for-requires
kind_for-requires c = sound_there c.args.parts.now c.args.parts.now.limits.hash c.args.actor c.in-Some.found.now c.requires c.in-Some.ensures

pub returns-in-None : goal.returns-in-None
returns-in-None c =
    let parts = c.args.parts.now in
    ap (λ o. option_map (λ operation. kind_of (action_of (seen parts) operation)) (option_and_then (operation_seen parts.table) o)) c.in-None.ensures
    ∙ ap (option_map (λ operation. kind_of (action_of (seen parts) operation))) (sym (found_operation parts c.args.actor))

pub returns-in-Some : goal.returns-in-Some
returns-in-Some c =
    let parts = c.args.parts.now in
    c.kind_for.ensures (seen parts) parts.table
    ∙ ap (λ o. option_map (λ operation. kind_of (action_of (seen parts) operation)) (option_and_then (operation_seen parts.table) o)) c.in-Some.ensures
    ∙ ap (option_map (λ operation. kind_of (action_of (seen parts) operation))) (sym (found_operation parts c.args.actor))
