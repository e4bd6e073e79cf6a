use Rattle.std.proofs.Common.{sym, subst, arith}
use Rattle.std.proofs.lemmas.List.{get_or_read}
use Rattle.slot_arena.specs.declared.stored_nodes.Cell.TheVariants as cell
use Rattle.slot_arena.specs.Pools.{RowStands}
use Rattle.slot_arena.proofs.Pools.{owner_within}
use Rattle.slot_arena.proofs.stored_nodes.StoredNodes.stored.Goals as goal

pub shown-requires : goal.shown-requires
shown-requires c =
    let there = get_or_read c.self.inside.cells.items c.args.slot c.index.result.now (omega arith) c.index.ensures cell.Free in
    subst (λ own. RowStands own c.self.inside.rows.rows) (sym there) (owner_within c.self.inside.cells.items c.self.inside.rows c.self.invariant c.args.slot (omega arith))
