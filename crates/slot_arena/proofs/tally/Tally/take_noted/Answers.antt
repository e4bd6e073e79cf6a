use Rattle.std.proofs.Common.{false, sym, ap, ◌∙◌, subst, arith}
use Rattle.std.proofs.lemmas.List.{length-set}
use Rattle.slot_arena.specs.Tallies.{Tally, AreMarks}
use Rattle.slot_arena.proofs.Marks.{noted_within, taken_once, marks_taken}
use Rattle.slot_arena.proofs.tally.Tally.take_noted.Goals as goal

pub index_mut-requires : goal.index_mut-requires
index_mut-requires c =
    omega (
      arith,
      noted_within c.pop.new.self.items c.self.inside.is_noted.items c.in_ok-slot.slot
          (subst (λ ns. AreMarks ns c.self.inside.is_noted.items) c.in_ok-slot.ensures.items c.self.invariant.0),
    )

pub invariant_of-self-2 : goal.invariant_of-self-2
invariant_of-self-2 c =
    let are = subst (λ ns. AreMarks ns c.self.inside.is_noted.items) c.in_ok-slot.ensures.items c.self.invariant.0 in (
      marks_taken c.pop.new.self.items c.self.inside.is_noted.items c.in_ok-slot.slot are,
      omega (arith, length-set c.self.inside.is_noted.items c.in_ok-slot.slot false),
      omega (arith, c.pop.ensures.capacity),
    )

pub returns-clause-noted : goal.returns-clause-noted
returns-clause-noted c =
    let are = subst (λ ns. AreMarks ns c.self.inside.is_noted.items) c.in_ok-slot.ensures.items c.self.invariant.0 in (
      sym (ap (λ (t : Tally). t.noted) c.self.view_is) ∙ c.in_ok-slot.ensures.items,
      taken_once c.pop.new.self.items c.self.inside.is_noted.items c.in_ok-slot.slot are,
      omega (arith, noted_within c.pop.new.self.items c.self.inside.is_noted.items c.in_ok-slot.slot are),
    )
