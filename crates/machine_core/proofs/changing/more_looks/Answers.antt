use Rattle.std.proofs.Common.{ap, arith, ◌∙◌}
use Rattle.machine_core.specs.Vocabulary.{viewed}
use Rattle.machine_core.proofs.Changes.{leaves_at_root, leaves_indirection, leaves_others}
use Rattle.machine_core.proofs.changing.more_looks.Goals as goal
use Rattle.machine_core.proofs.changing.more_looks.Goals.{then-place-eq0-via-then-place-eq0, then-place-eq0-via-else-place-eq0+then-entries_at-ne2}

pub returns-then-place-eq0 : goal.returns-then-place-eq0
returns-then-place-eq0 c =
    let heap = c.args.heap.now.heap in
    let place = c.args.place.now in
    elim c.then-place-eq0.branch [
      | then-place-eq0-via-then-place-eq0 w ↦ (
        omega arith,
        leaves_at_root heap place.main place.indirection place.flag c.requires.here.0 place.position place.depth place.entry c.requires.main c.requires.here.1 (omega (arith, w.if-place-eq0.true)),
      )
      | then-place-eq0-via-else-place-eq0+then-entries_at-ne2 w ↦ (
        omega arith,
        leaves_others heap place.main place.indirection place.flag c.requires.here.0 place.position place.depth place.entry c.requires.main c.requires.here.1 w.entries_at.result.now
            w.entries_at.ensures.entries (λ two. omega (arith, two, w.if-entries_at-ne2.true)),
      )
    ]

pub returns-in-Some-Indirection : goal.returns-in-Some-Indirection
returns-in-Some-Indirection c =
    let heap = c.args.heap.now.heap in
    let place = c.args.place.now in (
      omega arith,
      leaves_indirection heap place.main place.indirection place.flag c.requires.here.0 place.position place.depth place.entry c.requires.main c.requires.here.1 c.entries_at.result.now
          c.entry_at-other.result c.saturating_sub.result c.entries_at.ensures.entries (omega (arith, c.if-place-eq0.false)) (omega (arith, c.if-entries_at-ne2.false)) c.entry_at-other.ensures
          (omega (arith, c.saturating_sub.ensures)) (c.in-Some-Indirection.ensures ∙ ap viewed c.in-Some-Indirection.field-0-is),
    )
