use Rattle.std.proofs.Common.{[], sym, ap, subst, ◌∙◌}
use Rattle.machine_core.specs.Vocabulary.{most_levels, root_of, walked}
use Rattle.machine_core.specs.Scanning.{IsOnWay, with_next}
use Rattle.machine_core.specs.Seen.{seen}
use Rattle.machine_core.proofs.Scans.{all_scanned, root_on_way}
use Rattle.machine_core.proofs.scanning.scanned.Goals as goal

pub scan-requires-clause-placed : goal.scan-requires-clause-placed
scan-requires-clause-placed c =
    let state = seen c.args.parts.now in
    subst (IsOnWay state.limits.hash state.heap most_levels 0 c.args.after) (sym (c.root_of-root.ensures ∙ ap root_of c.word.ensures))
    (root_on_way state c.requires.core.run c.args.handle c.args.after c.requires.open)

pub returns : goal.returns
returns c =
    let state = seen c.args.parts.now in
    let root = c.root_of-root.ensures ∙ ap root_of c.word.ensures in
    c.from_vec-2.ensures ∙ c.in_ok-scan.ensures
    ∙ ap (λ pairs. with_next state.limits.hash c.args.after c.args.room pairs (walked most_levels state.heap c.root_of-root.result)) c.new-pairs.ensures.items
    ∙ ap (λ r. with_next state.limits.hash c.args.after c.args.room [] (walked most_levels state.heap r)) root
    ∙ all_scanned state c.requires.core.run c.args.handle c.args.after c.args.room c.requires.open
