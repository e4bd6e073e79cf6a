use Rattle.std.proofs.Common.{ap, ◌∙◌}
use Rattle.machine_core.specs.Vocabulary.{content_at, most_levels, pairs_below, by_key, root_of, next_of}
use Rattle.machine_core.specs.Seen.{seen}
use Rattle.machine_core.proofs.Selections.{selects_next}
use Rattle.machine_core.proofs.listing.next_of.Goals as goal

pub returns : goal.returns
returns c =
    let heap = (seen c.args.parts.now).heap in
    let first = c.new-selection.result in
    let content = content_at (seen c.args.parts.now) c.args.handle in
    c.from_vec.ensures ∙ c.into_sorted.ensures ∙ c.in_ok-select.ensures.2
    ∙ selects_next first (pairs_below most_levels heap c.root_of.result) c.new-selection.ensures.nothing
    ∙ ap (λ r. next_of first.after first.room (by_key (pairs_below most_levels heap r))) (c.root_of.ensures ∙ ap root_of c.word.ensures)
    ∙ ap (λ after. next_of after first.room content) c.new-selection.ensures.after
    ∙ ap (λ room. next_of c.args.after room content) c.new-selection.ensures.room
