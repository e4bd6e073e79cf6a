use Rattle.std.proofs.Common.{◌≡◌, true, get_or, None, is_some, sym, ap, ◌∙◌, subst}
use Rattle.slot_arena.specs.Refs.{slot_of}
use Rattle.slot_arena.specs.Heaps.{prev_of}
use Rattle.slot_arena.specs.Arenas.{Contents}
use Rattle.slot_arena.proofs.Reading.{live_inside, used_seen, prev_seen}
use Rattle.slot_arena.proofs.arena.Arena.prev.Goals as goal

pub prev-requires : goal.prev-requires
prev-requires c =
    let has = live_inside _ _ c.self.view_is c.args.at c.requires.live in
    subst (λ k. is_some (get_or c.self.inside.cells k None) ≡ true) (sym c.slot.ensures) (used_seen c.self.inside.cells c.args.at has)

pub returns : goal.returns
returns c =
    let slots = ap (λ (a : Contents). a.heap.slots) c.self.view_is in
    c.prev.ensures ∙ ap (λ k. prev_of (get_or c.self.inside.cells k None)) c.slot.ensures
    ∙ ap (λ s. prev_of (get_or s (slot_of c.args.at) None)) slots ∙ prev_seen c.args.self.now.heap c.args.at
