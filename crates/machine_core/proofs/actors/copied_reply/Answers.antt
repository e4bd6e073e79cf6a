use Rattle.std.proofs.Common.{sym, ap, ◌∙◌}
use Rattle.std.specs.Prelude.{option_and_then}
use Rattle.machine_core.specs.Vocabulary.{answer_of}
use Rattle.machine_core.specs.Seen.{operation_seen}
use Rattle.machine_core.proofs.Kept.{found_operation}
use Rattle.machine_core.proofs.actors.copied_reply.Goals as goal

pub returns-in-None-clause-reply : goal.returns-in-None-clause-reply
returns-in-None-clause-reply c =
    let parts = c.args.parts.now in
    ap (λ o. option_and_then (λ operation. answer_of operation.line) (option_and_then (operation_seen parts.table) o)) c.in-None.ensures
    ∙ ap (option_and_then (λ operation. answer_of operation.line)) (sym (found_operation parts c.args.actor))
