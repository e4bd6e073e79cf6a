use Rattle.std.proofs.Common.{eq-eqb, refl, ap, ◌∙◌}
use Rattle.slot_arena.specs.Pools.{has}
use Rattle.slot_arena.proofs.stored_nodes.shown.Goals as goal

pub get-requires : goal.get-requires
get-requires c = c.requires c.in-Branch.row (ap (has c.in-Branch.row) c.in-Branch.is ∙ eq-eqb c.in-Branch.row c.in-Branch.row refl)

pub get-requires-in-List : goal.get-requires-in-List
get-requires-in-List c = c.requires c.in-List.row (ap (has c.in-List.row) c.in-List.is ∙ eq-eqb c.in-List.row c.in-List.row refl)
