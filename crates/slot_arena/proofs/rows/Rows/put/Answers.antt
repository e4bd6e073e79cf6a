use Rattle.std.proofs.Common.{◌≡◌, ◌++◌, ◌∷◌, [], length, sym, ap, ◌∙◌, arith}
use Rattle.slot_arena.specs.Pools.{Pool}
use Rattle.slot_arena.proofs.Pools.{spare_within}
use Rattle.slot_arena.proofs.rows.Rows.put.Goals as goal

pub index_mut-requires : goal.index_mut-requires
index_mut-requires c =
    let spare : c.args.self.now.spare ≡ c.pop.new.self.items ++ c.in-Some.row ∷ [] = sym (ap (λ (p : Pool). p.spare) c.self.view_is) ∙ c.in-Some.ensures.items in
    let rows = ap (λ (p : Pool). length p.rows) c.self.view_is in
    let below = spare_within c.args.self.now c.requires c.pop.new.self.items c.in-Some.row spare in
    omega arith
