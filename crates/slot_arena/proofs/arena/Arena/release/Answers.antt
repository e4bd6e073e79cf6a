use Rattle.std.proofs.Common.{◌≡◌, ◌+◌, ℕ, ◌<◌, ◌≤◌, true, [], ◌∷◌, length, slice_index, All, refl, sym, ap, subst, arith}
use Rattle.slot_arena.specs.declared.refs.Ref.{Ref}
use Rattle.slot_arena.specs.Refs.{slot_of}
use Rattle.slot_arena.specs.Times.{times, without}
use Rattle.slot_arena.specs.Tallies.{naming}
use Rattle.slot_arena.specs.Arenas.{Contents, NotesWaiting}
use Rattle.slot_arena.specs.Kept.{live, IsKept}
use Rattle.slot_arena.proofs.Times.{times-cons, times-without}
use Rattle.slot_arena.proofs.Live.{all_within}
use Rattle.slot_arena.proofs.Exact.{part_live, part_counted}
use Rattle.slot_arena.proofs.Waiting.{notes_waiting}
use Rattle.slot_arena.proofs.Holds.{hold_kept, held_less, part_held}
use Rattle.std.proofs.lemmas.List.Elements.{All-nil}
use Rattle.slot_arena.proofs.Lenders.{lending_kept}
use Rattle.slot_arena.proofs.arena.Arena.release.Goals as goal

pub lower_all-requires-clause-within : goal.lower_all-requires-clause-within
lower_all-requires-clause-within c =
    let some : 0 < times c.args.at c.self.inside.outside.items = subst (λ (a : Contents). 0 < times c.args.at a.outside) (sym c.self.view_is) c.requires in
    subst (λ rs. All (λ r. slot_of r < length c.self.inside.ledger.tally.counts) rs) (sym c.from_ref.ensures.value)
    (all_within c.self.inside.cells (length c.self.inside.ledger.tally.counts) (c.args.at ∷ []) (sym c.self.invariant.0.sizes)
    (part_live c.self.inside.cells c.self.inside.ledger.tally.counts c.self.inside.outside.items c.self.invariant.0.exact (c.args.at ∷ [])
    (part_held c.self.inside.cells c.self.inside.outside.items c.args.at some)))

pub lower_all-requires-clause-some : goal.lower_all-requires-clause-some
lower_all-requires-clause-some c =
    let some : 0 < times c.args.at c.self.inside.outside.items = subst (λ (a : Contents). 0 < times c.args.at a.outside) (sym c.self.view_is) c.requires in
    subst (λ rs. (k : ℕ) → naming k rs ≤ slice_index c.self.inside.ledger.tally.counts k) (sym c.from_ref.ensures.value)
    (part_counted c.self.inside.cells c.self.inside.ledger.tally.counts c.self.inside.outside.items c.self.invariant.0.exact (c.args.at ∷ [])
    (part_held c.self.inside.cells c.self.inside.outside.items c.args.at some))

pub invariant_of-self : goal.invariant_of-self
invariant_of-self c = (
  let at : Ref = c.args.at in
      let some : 0 < times at c.self.inside.outside.items = subst (λ (a : Contents). 0 < times at a.outside) (sym c.self.view_is) c.requires in
      subst (λ os. IsKept c.self.inside.cells c.lower_all.new.self.tally.counts c.self.inside.free c.self.inside.used os) (sym c.changed-self-inside.ensures)
      (hold_kept c.self.inside.cells c.self.inside.ledger.tally.counts c.lower_all.new.self.tally.counts c.self.inside.free c.self.inside.used c.self.inside.outside.items
      (without at c.self.inside.outside.items) [] (at ∷ [])
      c.self.invariant.0 (λ r. omega (arith, times-without r at c.self.inside.outside.items some, times-cons r at [])) c.lower_all.ensures.size
      (λ i. omega (arith, c.lower_all.ensures.counts i, ap (naming i) c.from_ref.ensures.value))
      (All-nil (λ q. live c.self.inside.cells q ≡ true)) (part_held c.self.inside.cells c.self.inside.outside.items at some)
      (λ r. held_less c.self.inside.outside.items at r some c.self.invariant.0.held)),
  lending_kept c.self.inside.cells c.self.inside.ledger.loan c.lower_all.new.self.loan c.lower_all.ensures.loan c.self.invariant.1,
  c.self.invariant.2,
)

pub returns-clause-noted : goal.returns-clause-noted
returns-clause-noted c =
    let now : Contents = record {
      heap = record { slots = c.self.inside.cells; free = c.self.inside.free.slots; births = c.self.inside.births };
      outside = c.changed-self-inside.result.items;
      noted = c.lower_all.new.self.tally.noted;
      ticks = c.self.inside.free.ticks + c.self.inside.ledger.tally.ticks;
    } in
    subst (λ (a : Contents). NotesWaiting a now) c.self.view_is
    (notes_waiting (record {
      heap = record { slots = c.self.inside.cells; free = c.self.inside.free.slots; births = c.self.inside.births };
      outside = c.self.inside.outside.items;
      noted =
          c.self.inside.ledger.tally.noted;
      ticks = c.self.inside.free.ticks + c.self.inside.ledger.tally.ticks;
    }) now
    c.self.inside.ledger.tally.counts c.lower_all.new.self.tally.counts c.self.inside.free c.self.inside.free c.self.inside.used c.self.inside.used c.self.invariant.0 (invariant_of-self c).0
    c.lower_all.ensures.noted (λ k none. refl))
