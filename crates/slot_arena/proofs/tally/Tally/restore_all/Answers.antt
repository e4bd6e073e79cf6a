use Rattle.std.proofs.Common.{◌≡◌, ℕ, List, get_or, ◌+◌, ◌<◌, ◌^◌, length, take, slice_index, ap, ◌∙◌, inl, inr, arith}
use Rattle.std.proofs.lemmas.Bool.{cases_lt}
use Rattle.slot_arena.specs.declared.refs.Ref.{Ref}
use Rattle.slot_arena.specs.Tallies.{naming}
use Rattle.std.proofs.lemmas.List.{length-set}
use Rattle.slot_arena.specs.Refs.{slot_of}
use Rattle.slot_arena.proofs.Marks.{zeros_trans}
use Rattle.slot_arena.proofs.Times.{once, once_same}
use Rattle.slot_arena.proofs.Namings.{naming_more, naming_part-le, raised_at}
use Rattle.slot_arena.proofs.tally.Tally.restore_all.Goals as goal

-- the slot has some from the start, since one of the references names it
some_at : (counts now : List ℕ) (refs : List Ref) (i at r : ℕ) → i < length refs → r ≡ get_or refs i r → at ≡ slot_of r →
    slice_index now at ≡ slice_index counts at + naming at (take i refs) → (slice_index counts at ≡ 0 → naming at refs ≡ 0) → 0 < slice_index now at
some_at counts now refs i at r within is names grown some = elim (cases_lt 0 (slice_index counts at)) [
  | inl more ↦ omega arith
  | inr none ↦ absurd (omega (arith, some (omega arith), naming_part-le at refs (i + 1), naming_more at refs i r within is, ap (once at) names, once_same at))
]

-- and less than what is counted in the end
room_at : (counts now : List ℕ) (refs : List Ref) (i at r : ℕ) → i < length refs → r ≡ get_or refs i r → at ≡ slot_of r →
    slice_index now at ≡ slice_index counts at + naming at (take i refs) → slice_index counts at + naming at refs < 2 ^ 32 → slice_index now at + 1 < 2 ^ 32
room_at counts now refs i at r within is names grown room =
    omega (arith, naming_part-le at refs (i + 1), naming_more at refs i r within is, ap (once at) names, once_same at)

pub restore-requires-clause-some : goal.restore-requires-clause-some
restore-requires-clause-some c =
    let at : ℕ = c.slot.result in
    some_at c.args.self.now.counts c.loop-one.self.counts c.args.refs.now c.loop-one.one-index at c.one-item.result c.loop-one-test.true c.one-item.is c.slot.ensures
    (c.loop-one.invariant.counts at) (c.requires.some at)

pub restore-requires-clause-room : goal.restore-requires-clause-room
restore-requires-clause-room c =
    let at : ℕ = c.slot.result in
    room_at c.args.self.now.counts c.loop-one.self.counts c.args.refs.now c.loop-one.one-index at c.one-item.result c.loop-one-test.true c.one-item.is c.slot.ensures
    (c.loop-one.invariant.counts at) (c.requires.room at)

pub loop-one-preserved : goal.loop-one-preserved
loop-one-preserved c =
    let counts : List ℕ = c.loop-one.self.counts in
    let at : ℕ = c.slot.result in
    let within : at < length counts = let bound : slot_of (get_or c.args.refs.now c.loop-one.one-index c.one-item.result) < length c.args.self.now.counts =
    c.requires.within c.loop-one.one-index c.one-item.result c.loop-one-test.true in omega (arith, c.loop-one.invariant.size, ap slot_of c.one-item.is, c.slot.ensures) in
    record {
      size = ap length c.restore.ensures.counts ∙ length-set counts at (slice_index counts at + 1) ∙ c.loop-one.invariant.size;
      counts = λ slot. omega (
        arith,
        ap (λ cs. slice_index cs slot) c.restore.ensures.counts,
        raised_at counts at slot within,
        c.loop-one.invariant.counts slot,
        naming_more slot c.args.refs.now c.loop-one.one-index c.one-item.result c.loop-one-test.true c.one-item.is,
        ap (once slot) c.slot.ensures,
      );
      zeros = zeros_trans c.args.self.now c.loop-one.self c.restore.new.self c.loop-one.invariant.zeros c.restore.ensures.zeros;
      noted = c.restore.ensures.noted ∙ c.loop-one.invariant.noted;
      ticks = c.restore.ensures.ticks ∙ c.loop-one.invariant.ticks;
    }
