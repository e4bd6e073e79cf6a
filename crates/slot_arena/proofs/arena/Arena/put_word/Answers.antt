use Rattle.std.proofs.Common.{◌≡◌, ◌<◌, true, List, length, get_or, set, All, None, is_some, sym, ap, ◌∙◌, subst, inl, arith}
use Rattle.std.specs.Prelude.{option_map}
use Rattle.slot_arena.specs.declared.refs.Ref.{Ref}
use Rattle.slot_arena.specs.Refs.{slot_of}
use Rattle.slot_arena.specs.Tallies.{Tally, naming, NotesZeros}
use Rattle.slot_arena.specs.WordSwaps.{coming, word_changed}
use Rattle.slot_arena.specs.Arenas.{Contents, AreLive}
use Rattle.slot_arena.specs.Kept.{live, IsKept, IsRising}
use Rattle.slot_arena.proofs.Live.{all_within}
use Rattle.slot_arena.proofs.Changed.{counts_small}
use Rattle.slot_arena.proofs.Reading.{live_inside, all_seen, used_seen}
use Rattle.slot_arena.proofs.Words.{changed_by, word_changes, one_comes, one_goes, word_seen, word_within, word_counted, word_kept, word_noted, word_stays}
use Rattle.slot_arena.specs.Loans.{IsLending}
use Rattle.slot_arena.proofs.Rising.{rising_changed}
use Rattle.slot_arena.proofs.Lenders.{lending_apart, lending_kept}
use Rattle.slot_arena.proofs.Lendings.{keeps_trans}
use Rattle.slot_arena.proofs.arena.Arena.put_word.Goals as goal

-- what comes is in use
all_inside : (before seen : Contents) → before ≡ seen → (rs : List Ref) → AreLive seen.heap rs → All (λ q. live before.heap.slots q ≡ true) rs
all_inside before seen same rs has = subst (λ (a : Contents). All (λ q. live a.heap.slots q ≡ true) rs) (sym same) (all_seen seen.heap rs has)

pub raise_all-requires-clause-within : goal.raise_all-requires-clause-within
raise_all-requires-clause-within c =
    subst (λ rs. All (λ r. slot_of r < length c.self.inside.ledger.tally.counts) rs) (sym c.coming.ensures)
    (all_within c.self.inside.cells (length c.self.inside.ledger.tally.counts) (coming c.args.swap) (sym c.self.invariant.0.sizes) (all_inside _ _ c.self.view_is _ c.requires.new_live))

pub raise_all-requires-clause-room : goal.raise_all-requires-clause-room
raise_all-requires-clause-room c slot = omega (arith, one_comes c.args.swap, ap length c.coming.ensures, counts_small _ _ _ _ _ c.self.invariant.0 slot)

pub lower_all-requires-clause-within : goal.lower_all-requires-clause-within
lower_all-requires-clause-within c =
    let change = word_changes _ _ c.self.view_is c.args.at c.args.swap c.requires.stands in
    subst (λ rs. All (λ r. slot_of r < length c.raise_all.new.self.tally.counts) rs) (sym c.going.ensures)
    (word_within _ _ _ _ _ c.self.invariant.0 _ (live_inside _ _ c.self.view_is c.args.at c.requires.live) _ _ _ change _ (c.raise_all.ensures.size ∙ c.self.invariant.0.sizes))

pub lower_all-requires-clause-some : goal.lower_all-requires-clause-some
lower_all-requires-clause-some c i =
    let change = word_changes _ _ c.self.view_is c.args.at c.args.swap c.requires.stands in
    let some = word_counted _ _ _ _ _ c.self.invariant.0 _ (live_inside _ _ c.self.view_is c.args.at c.requires.live) _ _ _ change i in
    omega (arith, c.raise_all.ensures.counts i, ap (naming i) c.going.ensures, some)

pub set_word-requires : goal.set_word-requires
set_word-requires c =
    let has = live_inside _ _ c.self.view_is c.args.at c.requires.live in
    subst (λ k. is_some (get_or c.self.inside.cells k None) ≡ true) (sym c.slot.ensures) (used_seen c.self.inside.cells c.args.at has)

slots_are : (c : goal.After-settle) → c.set_word.new.self ≡ changed_by (word_changed c.args.swap) c.self.inside.cells c.args.at
slots_are c = c.set_word.ensures ∙ ap (λ k. set c.self.inside.cells k (option_map (word_changed c.args.swap) (get_or c.self.inside.cells k None))) c.slot.ensures

pub invariant_of-self : goal.invariant_of-self
invariant_of-self c = (
  let change = word_changes _ _ c.self.view_is c.args.at c.args.swap c.requires.stands in
      subst (λ (t : Tally). IsKept c.set_word.new.self t.counts c.self.inside.free c.self.inside.used c.self.inside.outside.items) (sym c.settle.ensures.tally)
      (subst (λ s. IsKept s c.lower_all.new.self.tally.counts c.self.inside.free c.self.inside.used c.self.inside.outside.items) (sym (slots_are c))
      (word_kept _ _ _ _ _ c.self.invariant.0 _ (live_inside _ _ c.self.view_is c.args.at c.requires.live) _ _ _ change _ (c.lower_all.ensures.size ∙ c.raise_all.ensures.size)
      (λ i. omega (arith, c.lower_all.ensures.counts i, c.raise_all.ensures.counts i, ap (naming i) c.going.ensures, ap (naming i) c.coming.ensures))
      (all_inside _ _ c.self.view_is _ c.requires.new_live))),
  subst (λ s. IsLending s c.settle.new.self.loan) (sym (slots_are c))
      (lending_apart c.self.inside.cells c.settle.new.self.loan c.args.at (option_map (word_changed c.args.swap) (get_or c.self.inside.cells (slot_of c.args.at) None))
      (lending_kept c.self.inside.cells c.self.inside.ledger.loan c.settle.new.self.loan
      (keeps_trans c.self.inside.ledger.loan c.lower_all.new.self.loan c.settle.new.self.loan
      (keeps_trans c.self.inside.ledger.loan c.raise_all.new.self.loan c.lower_all.new.self.loan (inl c.raise_all.ensures.loan) c.lower_all.ensures.loan) c.settle.ensures.loan) c.self.invariant.1)
      c.settle.ensures.none (live_inside _ _ c.self.view_is c.args.at c.requires.live)),
  subst (λ s. IsRising s c.self.inside.births) (sym (slots_are c))
      (rising_changed _ _ c.self.invariant.2 _ (live_inside _ _ c.self.view_is c.args.at c.requires.live) _ _ _ (word_changes _ _ c.self.view_is c.args.at c.args.swap c.requires.stands)),
)

pub returns-clause-heap : goal.returns-clause-heap
returns-clause-heap c =
    ap (λ s. record { slots = s; free = c.self.inside.free.slots; births = c.self.inside.births }) (slots_are c)
    ∙ ap (λ (a : Contents). record { slots = changed_by (word_changed c.args.swap) a.heap.slots c.args.at; free = a.heap.free; births = a.heap.births }) c.self.view_is
    ∙ sym (word_seen c.args.self.now.heap c.args.at c.args.swap)

pub returns-clause-noted : goal.returns-clause-noted
returns-clause-noted c =
    word_noted _ _ c.self.view_is _ (live_inside _ _ c.self.view_is c.args.at c.requires.live) _ _ _ (word_changes _ _ c.self.view_is c.args.at c.args.swap c.requires.stands)
    _ (slots_are c) _ _ _ _ c.raise_all.new.self.tally c.settle.new.self.tally.noted 0 c.self.invariant.0 (invariant_of-self c).0 c.raise_all.ensures.noted
    (subst (λ (t : Tally). NotesZeros c.raise_all.new.self.tally t) (sym c.settle.ensures.tally) c.lower_all.ensures.noted)

pub returns-clause-stay : goal.returns-clause-stay
returns-clause-stay c =
    word_stays _ _ c.self.view_is _ (live_inside _ _ c.self.view_is c.args.at c.requires.live) _ _ _ (word_changes _ _ c.self.view_is c.args.at c.args.swap c.requires.stands) _ (slots_are c)

pub returns-clause-few : goal.returns-clause-few
returns-clause-few c =
    let was = ap (λ (a : Contents). length a.noted) c.self.view_is in
    omega (
      arith,
      one_comes c.args.swap,
      one_goes c.args.swap,
      ap length c.coming.ensures,
      ap length c.going.ensures,
      c.raise_all.ensures.few,
      c.lower_all.ensures.few,
      ap
          (λ (t : Tally). length t.noted) c.settle.ensures.tally,
    )

pub returns-clause-ticks : goal.returns-clause-ticks
returns-clause-ticks c =
    let was = ap (λ (a : Contents). a.ticks) c.self.view_is in
    let up = one_comes c.args.swap in
    let down = one_goes c.args.swap in (
      omega (arith, ap length c.coming.ensures, ap length c.going.ensures, c.raise_all.ensures.ticks, c.lower_all.ensures.ticks, ap (λ (t : Tally). t.ticks) c.settle.ensures.tally),
      omega (arith, ap length c.coming.ensures, ap length c.going.ensures, c.raise_all.ensures.ticks, c.lower_all.ensures.ticks, ap (λ (t : Tally). t.ticks) c.settle.ensures.tally),
    )
