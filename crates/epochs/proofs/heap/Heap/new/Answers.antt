use Rattle.std.proofs.Common.{◌≡◌, ℕ, ◌+◌, ◌<◌, [], length, replicate, Option, None, sym, ap, ◌∙◌, subst, arith, rules}
use Rattle.std.proofs.lemmas.List.{length-replicate}
use Rattle.slot_arena.specs.declared.nodes.Slot.{Slot}
use Rattle.slot_arena.specs.Arenas.{Contents, new_arena}
use Rattle.epochs.specs.Rings.{Bags, Ringed}
use Rattle.epochs.specs.Memories.{Lists, IsMemory}
use Rattle.epochs.proofs.Sweeps.{lists_new}
use Rattle.epochs.proofs.Recents.{recent_new}
use Rattle.epochs.proofs.heap.Heap.new.Goals as goal

pub invariant_of-result : goal.invariant_of-result
invariant_of-result c =
    let n : ℕ = c.args.slots in
    let arena_is = c.in_ok-arena.ensures.made.0 in
    let size = ap (λ (a : Contents). length a.heap.slots) arena_is ∙ length-replicate {A = Option Slot} n None in
    let empty : Bags = record { oldest = []; middle = []; present = []; size = n } in
    let bags_are : c.in_ok-bags.bags.bags ≡ empty = ap (λ (r : Ringed). r.bags) c.in_ok-bags.ensures in
    let pins_are : c.in_ok-vec.field-0.items ≡ replicate c.args.actors None = search rules in
    let lists : Lists c.in_ok-arena.arena c.in_ok-bags.bags.bags =
    subst (λ a. Lists a c.in_ok-bags.bags.bags) (sym arena_is) (subst (λ b. Lists (new_arena n) b) (sym bags_are) (lists_new n)) in
    let kept : IsMemory c.in_ok-arena.arena c.in_ok-bags.bags.bags 0 1 (replicate c.args.actors None) = record {
      lists = lists;
      oldest_first = λ some. absurd (omega (arith, ap (λ (b : Bags). length b.oldest) bags_are));
      middle_next = λ some. absurd (omega (arith, ap (λ (b : Bags). length b.middle) bags_are));
      started = omega arith;
      passed = omega arith;
      few = omega (arith, length-replicate {A = Option ℕ} c.args.actors None);
      recent = λ actor. recent_new c.args.actors 0 (actor + 1 < 1) actor;
    } in (
      subst (IsMemory c.in_ok-arena.arena c.in_ok-bags.bags.bags 0 1) (sym pins_are) kept,
      c.in_ok-fresh.ensures.refs,
      omega (arith, size, c.in_ok-fresh.ensures.room),
      c.ticks_of.ensures,
    )
