use Rattle.std.proofs.Common.{sym, ap, ◌∙◌}
use Rattle.std.specs.Prelude.{option_map}
use Rattle.machine_core.specs.Vocabulary.{Operation}
use Rattle.machine_core.specs.Seen.{operation_at}
use Rattle.machine_core.specs.Told.{published_of}
use Rattle.machine_core.proofs.parts.Actor.published.Goals as goal

pub returns-in-Some : goal.returns-in-Some
returns-in-Some c = λ table.
    let programs = c.args.self.now.programs in
    let own : Operation = operation_at table programs c.in-Some.under_way in
    c.published.ensures table own ∙ ap (λ o. published_of (option_map (operation_at table programs) o)) (sym c.in-Some.is)
