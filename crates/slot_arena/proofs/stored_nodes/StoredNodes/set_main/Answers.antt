use Rattle.std.proofs.Common.{List, Option, None, get_or, set, ap, ◌∙◌}
use Rattle.std.specs.Prelude.{option_map}
use Rattle.std.proofs.lemmas.List.{get_or_read}
use Rattle.slot_arena.specs.declared.nodes.Node.{Node}
use Rattle.slot_arena.specs.declared.stored_nodes.Cell.TheVariants as cell
use Rattle.slot_arena.specs.Heaps.{with_main_word}
use Rattle.slot_arena.specs.Pools.{with_main_cell}
use Rattle.slot_arena.proofs.Pools.{cell_within, main_rows, main_nodes}
use Rattle.slot_arena.proofs.stored_nodes.StoredNodes.set_main.Goals as goal

pub invariant_of-self : goal.invariant_of-self
invariant_of-self c =
    let within = cell_within c.self.inside.rows.rows c.self.inside.cells.items c.args.self.now c.args.slot c.self.view_is c.requires in
    main_rows c.self.inside.cells.items c.self.inside.rows c.self.invariant c.args.slot within c.args.main c.set_main_word.new.cell
    (c.set_main_word.ensures ∙ ap (with_main_cell c.args.main) (get_or_read c.self.inside.cells.items c.args.slot c.index_mut.result.now within c.index_mut.ensures.value cell.Free))

pub returns : goal.returns
returns c =
    let within = cell_within c.self.inside.rows.rows c.self.inside.cells.items c.args.self.now c.args.slot c.self.view_is c.requires in
    main_nodes c.self.inside.cells.items c.self.inside.rows c.self.invariant c.args.slot within c.args.main c.set_main_word.new.cell
    (c.set_main_word.ensures ∙ ap (with_main_cell c.args.main) (get_or_read c.self.inside.cells.items c.args.slot c.index_mut.result.now within c.index_mut.ensures.value cell.Free))
    ∙ ap (λ (ns : List (Option Node)). set ns c.args.slot (option_map (with_main_word c.args.main) (get_or ns c.args.slot None))) c.self.view_is
