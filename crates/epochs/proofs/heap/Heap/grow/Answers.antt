use Rattle.std.specs.Prelude.{slice_index_or, None}
use Rattle.std.proofs.Common.{◌<◌, ◌≡◌, true, ℕ, ◌+◌, List, [], length, sym, ap, ◌∙◌, subst, arith}
use Rattle.std.specs.List.{list_all}
use Rattle.std.proofs.lemmas.Option.{MatchOption-at_none}
use Rattle.epochs.specs.declared.limbo.Zeroed.{Zeroed}
use Rattle.epochs.specs.Limbo.{limbo_after}
use Rattle.epochs.specs.Memories.{IsMemory, IsRecent, Memory, limbo_of, reclaimer_of}
use Rattle.epochs.specs.Rings.{Bags, Ringed, turned}
use Rattle.epochs.specs.Sweeping.{Reclaimer, is_passed, passes_all, swept_times}
use Rattle.epochs.proofs.Growing.{grown_at_once, limbo_turned, not_there, passing, recent_grown}
use Rattle.epochs.proofs.Settled.{settled_already}
use Rattle.epochs.proofs.Sweeps.{lists_turned, ripe_none}
use Rattle.epochs.proofs.heap.Heap.grow.Goals as goal

pub returns-then-is_ripe-clause-settled : goal.returns-then-is_ripe-clause-settled
returns-then-is_ripe-clause-settled c =
    let none : c.self.inside.arena.noted ≡ [] = ap (λ (m : Memory). m.noted) c.self.view_is ∙ c.requires.settled in
    subst (λ (r : Ringed). limbo_of c.self.inside.epoch r.bags ≡ limbo_after c.self.inside.arena.heap c.self.inside.arena.outside c.self.inside.epoch (limbo_of c.self.inside.epoch r.bags))
    (sym c.first.ensures.same) (settled_already c.self.inside.arena c.self.inside.bags.bags c.self.invariant.0.lists none c.self.inside.epoch)

empty_so : (c : goal.After-self-2-1) → c.self.inside.bags.bags.oldest ≡ []
empty_so c = MatchOption-at_none _ _ (not_there c.first.result (sym c.is_some-is_ripe.ensures ∙ c.if-is_ripe.false)) c.first.ensures.first

turned_so : (c : goal.After-self-2-1) → c.turn.new.self.bags ≡ turned c.self.inside.bags.bags
turned_so c = ap (λ (r : Ringed). r.bags) c.turn.ensures ∙ ap (λ (r : Ringed). turned r.bags) c.first.ensures.same

pub invariant_of-self-2 : goal.invariant_of-self-2
invariant_of-self-2 c =
    let memory = c.self.invariant.0 in
    let n : ℕ = c.self.inside.epoch in
    let bags : Bags = c.self.inside.bags.bags in
    let passed : list_all (is_passed n) c.self.inside.pins.items ≡ true = sym (ap (list_all (is_passed n)) c.as_slice.ensures.value) ∙ sym c.are_passed.ensures ∙ c.if-not-are_passed.false in
    let kept : IsMemory c.self.inside.arena (turned bags) (n + 1) c.self.inside.cursor c.self.inside.pins.items = record {
      lists = lists_turned c.self.inside.arena bags (empty_so c) memory.lists;
      oldest_first = λ some. let one = memory.middle_next some in omega arith;
      middle_next = λ some. omega arith;
      started = memory.started;
      passed = memory.passed;
      few = memory.few;
      recent = let first : 1 ≡ c.self.inside.cursor = omega (arith, c.if-self-ne1.false) in
          subst (λ k. (actor : ℕ) → IsRecent (n + 1) (actor + 1 < k) (slice_index_or c.self.inside.pins.items actor None)) first
          (recent_grown c.self.inside.pins.items n passed c.self.inside.cursor memory.recent);
    } in (
      subst (λ bs. IsMemory c.self.inside.arena bs (n + 1) c.self.inside.cursor c.self.inside.pins.items) (sym (turned_so c)) kept,
      c.self.invariant.1,
      c.self.invariant.2,
      c.ticks_of-self-inside.ensures ∙ omega (arith, ap (λ (r : Ringed). r.ticks) c.turn.ensures),
    )

-- what the sweep worked on before
abbrev was : goal.After-self-2-1 → Reclaimer
was c = record { heap = c.self.inside.arena.heap; limbo = limbo_of c.self.inside.epoch c.self.inside.bags.bags; epoch = c.self.inside.epoch; cursor = c.self.inside.cursor }

passes_so : (c : goal.After-self-2-1) → true ≡ passes_all c.self.inside.pins.items (was c)
passes_so c =
    let n : ℕ = c.self.inside.epoch in
    let bags : Bags = c.self.inside.bags.bags in
    let passed : list_all (is_passed n) c.self.inside.pins.items ≡ true = sym (ap (list_all (is_passed n)) c.as_slice.ensures.value) ∙ sym c.are_passed.ensures ∙ c.if-not-are_passed.false in
    passing c.self.inside.pins.items (was c) (ripe_none n bags (empty_so c) c.self.invariant.0.middle_next) (omega (arith, c.if-self-ne1.false)) passed

pub returns-clause-passes : goal.returns-clause-passes
returns-clause-passes c = passes_so c ∙ ap (λ (m : Memory). passes_all m.pins (reclaimer_of m)) c.self.view_is

pub returns-clause-swept : goal.returns-clause-swept
returns-clause-swept c is =
    let n : ℕ = c.self.inside.epoch in
    let bags : Bags = c.self.inside.bags.bags in
    let to : List Zeroed → ℕ → Reclaimer = λ limbo cursor. record { heap = c.self.inside.arena.heap; limbo = limbo; epoch = n + 1; cursor = cursor } in
    let cursor : c.self.inside.cursor ≡ 1 = omega (arith, c.if-self-ne1.false) in
    ap (λ bs. to (limbo_of (n + 1) bs) c.self.inside.cursor) (turned_so c) ∙ ap (λ l. to l c.self.inside.cursor) (limbo_turned n bags (empty_so c)) ∙ ap (to (limbo_of n bags)) cursor
    ∙ sym (grown_at_once c.self.inside.pins.items (was c) (sym (passes_so c))) ∙ ap (λ (m : Memory). swept_times m.pins (length m.pins + 1) (reclaimer_of m)) c.self.view_is

pub returns-clause-settled : goal.returns-clause-settled
returns-clause-settled c =
    let memory = c.self.invariant.0 in
    let n : ℕ = c.self.inside.epoch in
    let bags : Bags = c.self.inside.bags.bags in
    let none : c.self.inside.arena.noted ≡ [] = ap (λ (m : Memory). m.noted) c.self.view_is ∙ c.requires.settled in
    subst (λ bs. limbo_of (n + 1) bs ≡ limbo_after c.self.inside.arena.heap c.self.inside.arena.outside (n + 1) (limbo_of (n + 1) bs)) (sym (turned_so c))
    (settled_already c.self.inside.arena (turned bags) (lists_turned c.self.inside.arena bags (empty_so c) memory.lists) none (n + 1))
