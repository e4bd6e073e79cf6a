use Rattle.std.proofs.Common.{get_or, slice_index, Some, None, inl, inr, refl, sym, ap, ◌∙◌, eq-eqb, eqb-true}
use Rattle.std.proofs.lemmas.Bool.{false≢true}
use Rattle.slot_arena.specs.Refs.{slot_of}
use Rattle.slot_arena.specs.Heaps.{Heap}
use Rattle.slot_arena.specs.Cells.{birth_of_slot}
use Rattle.slot_arena.specs.Arenas.{Contents, waiting}
use Rattle.slot_arena.specs.Kept.{live}
use Rattle.slot_arena.proofs.Live.{slot_of_ref, live_read}
use Rattle.slot_arena.proofs.Reading.{live_shown}
use Rattle.slot_arena.proofs.Waiting.{waits_read}
use Rattle.slot_arena.proofs.arena.Arena.waiting.Goals as goal
use Rattle.slot_arena.proofs.arena.Arena.waiting.Goals.{then-birth-eq0-via-then-birth-eq0, then-birth-eq0-via-else-birth-eq0+then-not-is_zero}

pub returns-then-birth-eq0-clause-waiting : goal.returns-then-birth-eq0-clause-waiting
returns-then-birth-eq0-clause-waiting c =
    let heap : Heap = record { slots = c.self.inside.cells; free = c.self.inside.free.slots; births = c.self.inside.births } in
    let none = (waits_read heap c.self.inside.ledger.tally.counts c.self.inside.free c.self.inside.used c.self.inside.outside.items c.self.invariant.0 c.args.slot c.birth-birth.result
    (slice_index c.self.inside.ledger.tally.counts c.args.slot) c.birth-birth.ensures.birth c.birth-birth.ensures.unused refl).1 in
    sym (elim c.then-birth-eq0.branch [
      | then-birth-eq0-via-then-birth-eq0 w ↦ none (inl w.if-birth-eq0.true)
      | then-birth-eq0-via-else-birth-eq0+then-not-is_zero w ↦ none (inr (λ zero. false≢true (sym w.if-not-is_zero.true ∙ c.is_zero-is_zero.ensures.zero
          ∙ eq-eqb (slice_index c.self.inside.ledger.tally.counts c.args.slot) 0 zero)))
    ]) ∙ ap (λ (a : Contents). waiting a c.args.slot) c.self.view_is

pub returns-clause-waiting : goal.returns-clause-waiting
returns-clause-waiting c =
    let heap : Heap = record { slots = c.self.inside.cells; free = c.self.inside.free.slots; births = c.self.inside.births } in
    ap Some c.new.ensures
    ∙ sym ((waits_read heap c.self.inside.ledger.tally.counts c.self.inside.free c.self.inside.used c.self.inside.outside.items c.self.invariant.0 c.args.slot c.birth-birth.result
    (slice_index c.self.inside.ledger.tally.counts c.args.slot) c.birth-birth.ensures.birth c.birth-birth.ensures.unused refl).0 c.if-birth-eq0.false
    (eqb-true (slice_index c.self.inside.ledger.tally.counts c.args.slot) 0 (sym c.is_zero-is_zero.ensures.zero ∙ c.if-not-is_zero.false)))
    ∙ ap (λ (a : Contents). waiting a c.args.slot) c.self.view_is

pub returns-clause-live : goal.returns-clause-live
returns-clause-live c = (
  ap slot_of c.new.ensures ∙ slot_of_ref c.birth-birth.result c.args.slot,
  live_shown c.args.self.now.heap c.new.result
      (ap (λ r. live c.args.self.now.heap.slots r) c.new.ensures
      ∙ live_read c.args.self.now.heap.slots c.args.slot c.birth-birth.result (c.birth-birth.ensures.birth
      ∙ ap (λ (a : Contents). birth_of_slot (get_or a.heap.slots c.args.slot None)) c.self.view_is) c.if-birth-eq0.false),
)
