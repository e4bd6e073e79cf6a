use Rattle.std.proofs.Common.{ap, ◌∙◌}
use Rattle.std.specs.List.{flat_map}
use Rattle.machine_core.specs.Vocabulary.{entries_of, node_at, pairs_below, by_key, next_of}
use Rattle.machine_core.proofs.Selections.{selects_next}
use Rattle.machine_core.proofs.scanning.next_listed.Goals as goal

pub returns : goal.returns
returns c =
    let heap = c.args.parts.now.heap.heap in
    let first = c.new-selection.result in
    let pairs = flat_map (pairs_below c.args.levels heap) (entries_of (node_at heap c.args.main)) in
    c.into_sorted.ensures ∙ c.in_ok-select_each.ensures.2
    ∙ selects_next first pairs c.new-selection.ensures.nothing
    ∙ ap (λ after. next_of after first.room (by_key pairs)) c.new-selection.ensures.after
    ∙ ap (λ room. next_of c.args.after room (by_key pairs)) c.new-selection.ensures.room
