use Rattle.std.proofs.Common.{◌≡◌, replicate, rules}
use Rattle.slot_arena.specs.declared.stored_nodes.Cell.TheVariants as cell
use Rattle.slot_arena.proofs.Pools.{no_nodes}
use Rattle.slot_arena.proofs.stored_nodes.StoredNodes.new.Goals as goal

pub returns : goal.returns
returns c =
    let cells : c.in_ok-vec.field-0.items ≡ replicate c.args.slots cell.Free = search rules in no_nodes _ c.args.slots c.in_ok-vec.field-0.items cells
