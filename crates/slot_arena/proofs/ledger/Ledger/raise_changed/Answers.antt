use Rattle.std.proofs.Common.{◌≡◌, ◌+◌, ◌<◌, ◌≤◌, ◌^◌, ℕ, List, length, remove, slice_index, All, sym, ap, ◌∙◌, subst, arith}
use Rattle.slot_arena.specs.Refs.{slot_of}
use Rattle.slot_arena.specs.declared.refs.Ref.{Ref}
use Rattle.slot_arena.specs.declared.entries.EntryChange.{EntryChange}
use Rattle.slot_arena.specs.declared.entries.EntryChange.TheVariants.{Set, Insert, Remove}
use Rattle.slot_arena.specs.Entries.{coming}
use Rattle.slot_arena.specs.Tallies.{Tally, naming, NotesZeros}
use Rattle.slot_arena.specs.Loans.{IsBacked, lent, owed}
use Rattle.slot_arena.proofs.Namings.{naming-le}
use Rattle.slot_arena.proofs.Lendings.{all_lent, lent-le, length-owed, owed_at, plain_seen, within_size, zeros_seen}
use Rattle.slot_arena.proofs.ledger.Ledger.raise_changed.Goals as goal

-- one entry comes at most
one_comes : (change : EntryChange) → length (coming change) ≤ 1
one_comes (Set position entry) = omega arith
one_comes (Insert position entry) = omega arith
one_comes (Remove position) = omega arith

-- what stays can be lent, where all that the node refers to is counted
lent_backed : (was now : List ℕ) (refs more : List Ref) (kept : ℕ) → length now ≡ length was → ((k : ℕ) → slice_index now k ≡ slice_index was k + naming k more) → length more ≤ 1 → length refs ≤ 32 →
    All (λ r. slot_of r < length was) refs → ((k : ℕ) → slice_index was k + 33 < 2 ^ 32) → ((k : ℕ) → naming k refs ≤ slice_index was k) → IsBacked now (remove refs kept)
lent_backed was now refs more kept size grown one few within room counted = record {
  within = within_size _ _ (remove refs kept) (sym size) (all_lent (λ r. slot_of r < length was) refs kept within);
  some = λ k none. omega (arith, lent-le refs kept k, counted k, grown k);
  room = λ k. omega (arith, lent-le refs kept k, naming-le k refs, naming-le k more, room k, grown k);
}

-- the counts in the end
counts_are : (c : goal.After-charge-2) → c.charge-2.new.self.counts ≡ c.raise_all.new.self.counts
counts_are c = ap (λ (t : Tally). t.counts) c.charge-2.ensures ∙ ap (λ (t : Tally). t.counts) c.charge.ensures

-- the counts at the start
counts_were : (c : goal.After-charge-2) → c.self.inside.tally.counts ≡ c.args.self.now.tally.counts
counts_were c = plain_seen _ _ _ c.self.view_is c.repay.ensures.over ∙ ap (λ (t : Tally). t.counts) c.repay.ensures.tally

lent_is : (c : goal.After-charge-2) → lent c.begin.new.self ≡ remove c.args.refs.now c.going.result
lent_is c = ap lent c.begin.ensures

pub invariant_of-self : goal.invariant_of-self
invariant_of-self c =
    let coming_is = c.coming.ensures in
    subst (λ cs. IsBacked cs (lent c.begin.new.self)) (sym (counts_are c))
    (subst (λ rs. IsBacked c.raise_all.new.self.counts rs) (sym (lent_is c))
    (lent_backed c.args.self.now.tally.counts c.raise_all.new.self.counts c.args.refs.now c.coming.result.now c.going.result (c.raise_all.ensures.size ∙ ap length (counts_were c))
    (λ k. c.raise_all.ensures.counts k ∙ ap (λ cs. slice_index cs k + naming k c.coming.result.now) (counts_were c)) (omega (arith, ap length coming_is, one_comes c.args.change.now))
    c.requires.few c.requires.within c.requires.room c.requires.some))

pub returns-clause-size : goal.returns-clause-size
returns-clause-size c =
    length-owed c.charge-2.new.self.counts (lent c.begin.new.self) ∙ ap length (counts_are c) ∙ c.raise_all.ensures.size ∙ ap length (counts_were c)

pub returns-clause-counts : goal.returns-clause-counts
returns-clause-counts c slot =
    omega (
      arith,
      owed_at c.charge-2.new.self.counts (lent c.begin.new.self) slot (invariant_of-self c).within,
      ap (naming slot) (lent_is c),
      ap (λ cs. slice_index cs slot) (counts_are c),
      c.raise_all.ensures.counts slot,
      ap (λ cs. slice_index cs slot) (counts_were c),
      ap (naming slot) c.coming.ensures,
      c.going.ensures.counted slot,
    )

pub returns-clause-noted : goal.returns-clause-noted
returns-clause-noted c =
    let notes : NotesZeros c.self.inside.tally c.charge-2.new.self = subst (λ (t : Tally). NotesZeros c.self.inside.tally t)
    (sym (c.charge-2.ensures ∙ ap (λ (t : Tally). record { counts = t.counts; noted = t.noted; ticks = t.ticks + length c.parts.result.1.now }) c.charge.ensures)) c.raise_all.ensures.noted in
    subst (λ (t : Tally). NotesZeros t (record { counts = owed c.charge-2.new.self.counts (lent c.begin.new.self); noted = c.charge-2.new.self.noted; ticks = 0 })) c.repay.ensures.tally
    (zeros_seen _ _ _ c.self.view_is c.charge-2.new.self c.begin.new.self 0 c.self.invariant (invariant_of-self c) notes)
