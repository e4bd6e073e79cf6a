use Rattle.std.proofs.Common.{◌++◌, length, arith, ap, ◌∙◌, subst}
use Rattle.slot_arena.specs.Heaps.{entries_from}
use Rattle.slot_arena.specs.Pools.{IsPut}
use Rattle.slot_arena.proofs.Staying.{few_parts}
use Rattle.slot_arena.proofs.rows.Rows.add_changed.Goals as goal

pub joined-requires : goal.joined-requires
joined-requires c =
    omega (arith, few_parts c.args.change.now c.args.refs.now c.staying.result.0.now c.staying.result.1.now c.requires.fits c.staying.ensures c.requires.few, ap length c.coming.ensures)

pub returns : goal.returns
returns c =
    subst (λ entries. IsPut c.args.self.now entries c.add.result c.add.new.self)
    (c.joined.ensures.entries ∙ ap (λ middle. entries_from (c.staying.result.0.now ++ middle ++ c.staying.result.1.now)) c.coming.ensures ∙ ap entries_from c.staying.ensures) c.add.ensures
