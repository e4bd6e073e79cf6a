use Rattle.std.proofs.Common.{◌<◌, length, false, true, set, sym, ap, ◌∙◌, subst, arith}
use Rattle.std.proofs.lemmas.List.{get_or_read, length-set}
use Rattle.slot_arena.specs.Tallies.{Tally, AreMarks}
use Rattle.slot_arena.specs.Times.{times}
use Rattle.slot_arena.proofs.Times.{times_push, once_same}
use Rattle.slot_arena.proofs.Marks.{marks_noted, marks_room}
use Rattle.slot_arena.proofs.tally.Tally.enlist.Goals as goal

pub push_reserved-requires : goal.push_reserved-requires
push_reserved-requires c =
    let size = ap (λ (t : Tally). length t.counts) c.self.view_is in
    let within : c.args.slot < length c.self.inside.is_noted.items = omega arith in
    let free = sym (get_or_read c.self.inside.is_noted.items c.args.slot c.index.result.now within c.index.ensures false) ∙ c.if-not-index.true in
    omega (arith, marks_room c.self.inside.noted.items c.self.inside.is_noted.items c.args.slot c.self.invariant.0 within free)

pub invariant_of-self : goal.invariant_of-self
invariant_of-self c =
    let size = ap (λ (t : Tally). length t.counts) c.self.view_is in
    let within : c.args.slot < length c.self.inside.is_noted.items = omega arith in
    let free = sym (get_or_read c.self.inside.is_noted.items c.args.slot c.index.result.now within c.index.ensures false) ∙ c.if-not-index.true in
    let marks = marks_noted c.self.inside.noted.items c.self.inside.is_noted.items c.args.slot c.self.invariant.0 within free in (
      subst (λ ns. AreMarks ns (set c.self.inside.is_noted.items c.args.slot true)) (sym c.push_reserved.ensures.items) marks,
      omega (arith, length-set c.self.inside.is_noted.items c.args.slot true),
      omega (arith, c.push_reserved.ensures.capacity),
    )

pub returns-then-not-index-clause-noted : goal.returns-then-not-index-clause-noted
returns-then-not-index-clause-noted c =
    omega (arith, times_push c.args.slot c.args.slot c.self.inside.noted.items, once_same c.args.slot, ap (times c.args.slot) c.push_reserved.ensures.items)
