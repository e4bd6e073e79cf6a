use Rattle.std.proofs.Common.{◌++◌, length, arith, ap, sym, ◌∙◌}
use Rattle.slot_arena.specs.Entries.{entries_after}
use Rattle.slot_arena.proofs.Joining.{whole}
use Rattle.slot_arena.proofs.Staying.{few_after, few_parts}
use Rattle.slot_arena.proofs.entries.put_changed.Goals as goal

pub append-requires-clause-room : goal.append-requires-clause-room
append-requires-clause-room c =
    omega (arith, few_parts c.args.change.now c.args.refs.now c.staying.result.0.now c.staying.result.1.now c.requires.fits c.staying.ensures c.requires.few, ap length c.coming.ensures)

pub returns : goal.returns
returns c =
    ap (λ rs. record { items = rs }) (c.append.ensures ∙ ap (λ middle. c.staying.result.0.now ++ middle ++ c.staying.result.1.now) c.coming.ensures ∙ c.staying.ensures
    ∙ sym (whole (entries_after c.args.change.now c.args.refs.now) (few_after c.args.change.now c.args.refs.now c.requires.fits c.requires.few)))
