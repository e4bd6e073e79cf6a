use Rattle.std.proofs.Common.{◌<◌, ap, set, sym, subst}
use Rattle.slot_arena.specs.Refs.{slot_of}
use Rattle.chronicle.specs.Published.{Published, AreLast, IsNewestPublished}
use Rattle.chronicle.proofs.Publishing.{last_noted}
use Rattle.chronicle.proofs.publications.Publications.note.Goals as goal

pub invariant_of-self : goal.invariant_of-self
invariant_of-self c =
    let p = c.args.publication in
    let latest = c.self.inside.latest.items in
    let after = set latest c.slot-slot.result p in
    let within = subst (λ (v : Published). slot_of p.main < v.slots) (sym c.self.view_is) c.requires.room in
    let newest = subst (λ (v : Published). IsNewestPublished v.published p.main) (sym c.self.view_is) c.requires.newest in
    subst (AreLast after) (sym c.with_first-self-inside.ensures)
    (last_noted latest after c.self.inside.listed.items p c.self.invariant newest within (ap (λ i. set latest i p) c.slot-slot.ensures))
