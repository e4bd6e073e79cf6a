use Rattle.std.proofs.Common.{◌≡◌, ◌+◌, ℕ, ◌<◌, ◌≤◌, ◌^◌, true, [], ◌∷◌, length, All, refl, sym, ap, subst, inl, arith}
use Rattle.slot_arena.specs.declared.refs.Ref.{Ref}
use Rattle.slot_arena.specs.Refs.{slot_of}
use Rattle.slot_arena.specs.Times.{times}
use Rattle.slot_arena.specs.Tallies.{naming}
use Rattle.slot_arena.specs.Arenas.{Contents, NotesWaiting}
use Rattle.slot_arena.specs.Kept.{live, IsKept}
use Rattle.slot_arena.proofs.Times.{times-cons}
use Rattle.slot_arena.proofs.Live.{live_within}
use Rattle.slot_arena.proofs.Changed.{counts_small}
use Rattle.slot_arena.proofs.Waiting.{notes_waiting}
use Rattle.slot_arena.proofs.Reading.{live_inside}
use Rattle.slot_arena.proofs.Holds.{hold_kept, held_more}
use Rattle.std.proofs.lemmas.List.Elements.{All-nil, All-cons}
use Rattle.slot_arena.proofs.Lenders.{lending_kept}
use Rattle.slot_arena.proofs.arena.Arena.hold.Goals as goal

pub raise_all-requires-clause-within : goal.raise_all-requires-clause-within
raise_all-requires-clause-within c =
    let has = live_inside _ _ c.self.view_is c.args.at c.requires.live in
    let within = live_within c.self.inside.cells c.args.at has in
    let sizes = c.self.invariant.0.sizes in
    subst (λ rs. All (λ r. slot_of r < length c.self.inside.ledger.tally.counts) rs) (sym c.from_ref.ensures.value)
    (All-cons (λ r. slot_of r < length c.self.inside.ledger.tally.counts) c.args.at [] (omega arith) (All-nil (λ r. slot_of r < length c.self.inside.ledger.tally.counts)))

pub raise_all-requires-clause-room : goal.raise_all-requires-clause-room
raise_all-requires-clause-room c slot =
    omega (arith, c.from_ref.ensures.len, counts_small c.self.inside.cells c.self.inside.ledger.tally.counts c.self.inside.free c.self.inside.used c.self.inside.outside.items c.self.invariant.0 slot)

pub invariant_of-self : goal.invariant_of-self
invariant_of-self c = (
  let at : Ref = c.args.at in
      let has = live_inside _ _ c.self.view_is c.args.at c.requires.live in
      let kept = c.self.invariant.0 in
      let few : times at c.self.inside.outside.items < 2 ^ 31 = subst (λ (a : Contents). times at a.outside < 2 ^ 31) (sym c.self.view_is) c.requires.room in
      let held : (r : ℕ) → times r (at ∷ c.self.inside.outside.items) ≤ 2 ^ 31 = λ r. held_more c.self.inside.outside.items at r kept.held few in
      subst (λ os. IsKept c.self.inside.cells c.raise_all.new.self.tally.counts c.self.inside.free c.self.inside.used os) (sym c.with_first-self-inside.ensures)
      (hold_kept c.self.inside.cells c.self.inside.ledger.tally.counts c.raise_all.new.self.tally.counts c.self.inside.free c.self.inside.used c.self.inside.outside.items
      (at ∷ c.self.inside.outside.items)
      (at ∷ []) []
      kept (λ r. omega (arith, times-cons r at c.self.inside.outside.items, times-cons r at [])) c.raise_all.ensures.size
      (λ i. omega (arith, c.raise_all.ensures.counts i, ap (naming i) c.from_ref.ensures.value))
      (All-cons (λ q. live c.self.inside.cells q ≡ true) at [] has (All-nil (λ q. live c.self.inside.cells q ≡ true)))
      (λ q. omega arith) held),
  lending_kept c.self.inside.cells c.self.inside.ledger.loan c.raise_all.new.self.loan (inl c.raise_all.ensures.loan) c.self.invariant.1,
  c.self.invariant.2,
)

pub returns-clause-noted : goal.returns-clause-noted
returns-clause-noted c =
    let now : Contents = record {
      heap = record { slots = c.self.inside.cells; free = c.self.inside.free.slots; births = c.self.inside.births };
      outside =
          c.with_first-self-inside.result.items;
      noted = c.raise_all.new.self.tally.noted;
      ticks = c.self.inside.free.ticks + c.self.inside.ledger.tally.ticks;
    } in
    subst (λ (a : Contents). NotesWaiting a now) c.self.view_is
    (notes_waiting (record {
      heap = record { slots = c.self.inside.cells; free = c.self.inside.free.slots; births = c.self.inside.births };
      outside = c.self.inside.outside.items;
      noted =
          c.self.inside.ledger.tally.noted;
      ticks = c.self.inside.free.ticks + c.self.inside.ledger.tally.ticks;
    }) now
    c.self.inside.ledger.tally.counts c.raise_all.new.self.tally.counts c.self.inside.free c.self.inside.free c.self.inside.used c.self.inside.used c.self.invariant.0 (invariant_of-self c).0
    c.raise_all.ensures.noted (λ k none. refl))
