use Rattle.std.proofs.Common.{◌≡◌, List, Option, None, get_or, map, set, sym, ap, ◌∙◌, subst}
use Rattle.std.proofs.lemmas.List.{get_or_read}
use Rattle.slot_arena.specs.declared.nodes.Node.{Node}
use Rattle.slot_arena.specs.declared.stored_nodes.Cell.TheVariants as cell
use Rattle.slot_arena.specs.Pools.{Pool, HasRows, given_back, node_in}
use Rattle.slot_arena.proofs.Pools.{cell_within, can_give_back, given, cleared_nodes}
use Rattle.slot_arena.proofs.stored_nodes.StoredNodes.clear.Goals as goal

pub give_back-requires : goal.give_back-requires
give_back-requires c =
    let within = cell_within c.self.inside.rows.rows c.self.inside.cells.items c.args.self.now c.args.slot c.self.view_is c.requires in
    let there = get_or_read c.self.inside.cells.items c.args.slot c.index-before.result.now within c.index-before.ensures cell.Free in
    can_give_back c.self.inside.cells.items c.self.inside.rows c.self.invariant c.args.slot within c.index-before.result.now (sym there)

pub invariant_of-self : goal.invariant_of-self
invariant_of-self c =
    let within = cell_within c.self.inside.rows.rows c.self.inside.cells.items c.args.self.now c.args.slot c.self.view_is c.requires in
    let there = get_or_read c.self.inside.cells.items c.args.slot c.index-before.result.now within c.index-before.ensures cell.Free in
    let same : c.give_back.new.rows ≡ given_back (get_or c.self.inside.cells.items c.args.slot cell.Free) c.self.inside.rows = c.give_back.ensures ∙ ap (λ x. given_back x c.self.inside.rows) there in
    subst (λ (p : Pool). HasRows (set c.self.inside.cells.items c.args.slot cell.Free) p) (sym same) (given c.self.inside.cells.items c.self.inside.rows c.self.invariant c.args.slot within)

pub returns : goal.returns
returns c =
    let within = cell_within c.self.inside.rows.rows c.self.inside.cells.items c.args.self.now c.args.slot c.self.view_is c.requires in
    let there = get_or_read c.self.inside.cells.items c.args.slot c.index-before.result.now within c.index-before.ensures cell.Free in
    let same : c.give_back.new.rows ≡ given_back (get_or c.self.inside.cells.items c.args.slot cell.Free) c.self.inside.rows = c.give_back.ensures ∙ ap (λ x. given_back x c.self.inside.rows) there in
    ap (λ (p : Pool). map (node_in p.rows) (set c.self.inside.cells.items c.args.slot cell.Free)) same
    ∙ cleared_nodes c.self.inside.cells.items c.self.inside.rows c.args.slot ∙ ap (λ (ns : List (Option Node)). set ns c.args.slot None) c.self.view_is
