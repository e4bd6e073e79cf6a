use Rattle.std.proofs.Common.{◌≡◌, ℕ, ◌+◌, ◌-◌, ◌<◌, cond, List, [], length, take, drop, All, Option, Some, None, refl, sym, ap, ◌∙◌, subst, inl, inr, arith}
use Rattle.std.proofs.lemmas.Bool.{cases_lt}
use Rattle.std.proofs.lemmas.Option.{same_Some}
use Rattle.slot_arena.specs.declared.refs.Ref.{Ref}
use Rattle.slot_arena.specs.Refs.{slot_of}
use Rattle.slot_arena.specs.Heaps.{Heap, freed}
use Rattle.slot_arena.specs.Times.{times}
use Rattle.slot_arena.specs.Arenas.{Contents, waiting}
use Rattle.epochs.specs.Rings.{Bags, Ringed, all_of, turned}
use Rattle.epochs.specs.Memories.{Memory, Lists, IsMemory, IsRecent, limbo_of, reclaimer_of}
use Rattle.epochs.specs.Settling.{bags_after}
use Rattle.epochs.specs.Sweeping.{ripe, is_passed, IsOlder}
use Rattle.std.specs.Prelude.{slice_index_or}
use Rattle.epochs.specs.declared.limbo.Swept.TheVariants as swept
use Rattle.epochs.proofs.Sweeps.{outcome, one_step}
use Rattle.epochs.proofs.Listing.{lists_freed, lists_same, length-freed}
use Rattle.epochs.proofs.Sweeps.{ripe_none, scans, advances, lists_turned, first_member, first_waits, limbo_rest}
use Rattle.epochs.proofs.Bags.{length-other_slots}
use Rattle.epochs.proofs.Recents.{recent_advanced, recent_scanned, first_older}
use Rattle.epochs.proofs.heap.Heap.sweep.Goals as goal

pub invariant_of-self : goal.invariant_of-self
invariant_of-self c =
    let memory = c.self.invariant.0 in
    let empty : c.self.inside.bags.bags.oldest ≡ [] = c.in_default.ensures.first in
    let pins = c.as_slice-pins.ensures.value in
    let n : ℕ = length c.self.inside.pins.items in
    let ps : List (Option ℕ) = c.self.inside.pins.items in
    let cursor : ℕ = c.self.inside.cursor in
    let kept : IsMemory c.self.inside.arena c.advance-swept.new.bags.bags c.advance-swept.new.epoch c.advance-swept.new.cursor ps =
    elim (cases_lt n c.self.inside.cursor) [
      | inl past ↦
          let to = c.advance-swept.ensures.advanced (omega (arith, ap length pins)) in
          subst (λ b. IsMemory c.self.inside.arena b c.advance-swept.new.epoch c.advance-swept.new.cursor ps)
          (sym (ap (λ (r : Ringed). r.bags) to.3 ∙ ap (λ (r : Ringed). turned r.bags) c.first.ensures.same))
          (subst (λ e. IsMemory c.self.inside.arena (turned c.self.inside.bags.bags) e c.advance-swept.new.cursor ps) (sym to.2)
          (subst (λ k. IsMemory c.self.inside.arena (turned c.self.inside.bags.bags) (c.self.inside.epoch + 1) k ps) (sym to.1)
          (record {
            lists = lists_turned c.self.inside.arena c.self.inside.bags.bags empty memory.lists;
            oldest_first = λ some. let one = memory.middle_next some in omega arith;
            middle_next = λ some. omega arith;
            started = omega arith;
            passed = omega arith;
            few = memory.few;
            recent = recent_advanced ps c.self.inside.epoch cursor memory.recent past;
          })))
      | inr within ↦
          let to = c.advance-swept.ensures.scanned (omega (arith, ap length pins)) in
          subst (λ b. IsMemory c.self.inside.arena b c.advance-swept.new.epoch c.advance-swept.new.cursor ps)
          (sym (ap (λ (r : Ringed). r.bags) to.3 ∙ ap (λ (r : Ringed). r.bags) c.first.ensures.same))
          (subst (λ e. IsMemory c.self.inside.arena c.self.inside.bags.bags e c.advance-swept.new.cursor ps) (sym to.2)
          (record {
            lists = memory.lists;
            oldest_first = memory.oldest_first;
            middle_next = memory.middle_next;
            started = let is = memory.started in omega (arith, to.1);
            passed = omega (arith, to.1, one_step (is_passed c.self.inside.epoch (slice_index_or c.as_slice-pins.result.now (c.self.inside.cursor - 1) None)));
            few = memory.few;
            recent = subst (λ k. (actor : ℕ) → IsRecent c.self.inside.epoch (actor + 1 < k) (slice_index_or ps actor None))
                (sym (to.1 ∙ ap (λ qs. cursor + (cond (is_passed c.self.inside.epoch (slice_index_or qs (cursor - 1) None)) 1 0)) pins))
                (recent_scanned ps c.self.inside.epoch cursor memory.recent (is_passed c.self.inside.epoch (slice_index_or ps (cursor - 1) None)) refl memory.started);
          }))
    ] in
    (kept, c.self.invariant.1, c.self.invariant.2, c.ticks_of-self-inside.ensures)

pub returns-in_default-clause-swept : goal.returns-in_default-clause-swept
returns-in_default-clause-swept c =
    let now : Memory = c.args.self.now in
    let pins = c.as_slice-pins.ensures.value ∙ ap (λ (m : Memory). m.pins) c.self.view_is in
    let cursor : c.self.inside.cursor ≡ now.cursor = ap (λ (m : Memory). m.cursor) c.self.view_is in
    let none : ripe now.epoch now.limbo ≡ None = sym (ap (λ (m : Memory). ripe m.epoch m.limbo) c.self.view_is)
    ∙ ripe_none c.self.inside.epoch c.self.inside.bags.bags c.in_default.ensures.first c.self.invariant.0.middle_next in
    elim (cases_lt (length now.pins) now.cursor) [
      | inl past ↦
          let to = c.advance-swept.ensures.advanced (omega (arith, ap length pins)) in
          ap (λ s. outcome s c.self.inside.arena.heap now.limbo c.advance-swept.new.epoch c.advance-swept.new.cursor) to.0
          ∙ ap (λ e. outcome (swept.Advanced (c.self.inside.epoch + 1)) c.self.inside.arena.heap now.limbo e c.advance-swept.new.cursor) to.2
          ∙ ap (λ k. outcome (swept.Advanced (c.self.inside.epoch + 1)) c.self.inside.arena.heap now.limbo (c.self.inside.epoch + 1) k) to.1
          ∙ ap (λ (m : Memory). outcome (swept.Advanced (m.epoch + 1)) m.heap now.limbo (m.epoch + 1) 1) c.self.view_is
          ∙ sym (advances now.pins (reclaimer_of now) none past)
      | inr within ↦
          let to = c.advance-swept.ensures.scanned (omega (arith, ap length pins)) in
          ap (λ s. outcome s c.self.inside.arena.heap now.limbo c.advance-swept.new.epoch c.advance-swept.new.cursor) to.0
          ∙ ap (λ e. outcome (swept.Scanned (is_passed c.self.inside.epoch (slice_index_or c.as_slice-pins.result.now (c.self.inside.cursor - 1) None))) c.self.inside.arena.heap now.limbo e
          c.advance-swept.new.cursor) to.2
          ∙ ap (λ k. outcome (swept.Scanned (is_passed c.self.inside.epoch (slice_index_or c.as_slice-pins.result.now (c.self.inside.cursor - 1) None))) c.self.inside.arena.heap now.limbo
          c.self.inside.epoch k) to.1
          ∙ ap (λ ps. outcome (swept.Scanned (is_passed c.self.inside.epoch (slice_index_or ps (c.self.inside.cursor - 1) None))) c.self.inside.arena.heap now.limbo c.self.inside.epoch
          (c.self.inside.cursor + (cond (is_passed c.self.inside.epoch (slice_index_or ps (c.self.inside.cursor - 1) None)) 1 0))) pins
          ∙ ap (λ (m : Memory). outcome (swept.Scanned (is_passed m.epoch (slice_index_or now.pins (m.cursor - 1) None))) m.heap now.limbo m.epoch
          (m.cursor + (cond (is_passed m.epoch (slice_index_or now.pins (m.cursor - 1) None)) 1 0))) c.self.view_is
          ∙ sym (scans now.pins (reclaimer_of now) none within)
    ]

pub invariant_of-self-2 : goal.invariant_of-self-2
invariant_of-self-2 c =
    let found = c.in-Some.ensures.first in
    let r : Ref = found.0 in
    let settled : c.self.inside.arena.noted ≡ [] = ap (λ (m : Memory). m.noted) c.self.view_is ∙ c.requires.settled in
    let lists = c.self.invariant.0.lists in
    let waits : waiting c.self.inside.arena c.in-Some.slot ≡ Some r = ap (waiting c.self.inside.arena) (sym found.3)
    ∙ first_waits c.self.inside.arena c.self.inside.bags.bags lists r found.1 found.2 settled in
    let at_is : c.in-Some-waiting.at ≡ r = same_Some c.in-Some-waiting.at r (sym c.in-Some-waiting.is ∙ c.waiting.ensures.waiting ∙ waits) in
    let slot_is : c.in-Some.slot ≡ slot_of c.in-Some-waiting.at = sym found.3 ∙ ap slot_of (sym at_is) in
    let memory = c.self.invariant.0 in
    let b : Bags = bags_after None (slot_of c.in-Some-waiting.at) c.self.inside.bags.bags in
    let some : 0 < times c.in-Some-waiting.at (all_of c.self.inside.bags.bags) =
    subst (λ q. 0 < times q (all_of c.self.inside.bags.bags)) (sym at_is) (first_member c.self.inside.arena c.self.inside.bags.bags lists r found.1 found.2 settled) in
    let looked = c.waiting.ensures.same in
    let lists_now : Lists c.waiting.new.self c.self.inside.bags.bags =
    lists_same c.self.inside.arena c.waiting.new.self c.self.inside.bags.bags (ap (λ (x : Contents). x.heap) looked) (ap (λ (x : Contents). x.outside) looked)
    (ap (λ (x : Contents). x.noted) looked) lists in
    let freed_is : c.free.new.self.heap ≡ freed c.self.inside.arena.heap c.in-Some-waiting.at = c.free.ensures.heap ∙ ap (λ (x : Contents). freed x.heap c.in-Some-waiting.at) looked in
    let after : Lists c.free.new.self b = lists_freed c.waiting.new.self c.free.new.self c.self.inside.bags.bags c.in-Some-waiting.at lists_now some c.free.ensures.heap c.free.ensures.stay
    c.free.ensures.noted in
    let kept : IsMemory c.free.new.self b c.self.inside.epoch c.self.inside.cursor c.self.inside.pins.items = record {
      lists = after;
      oldest_first = λ more. memory.oldest_first (omega (arith, length-other_slots (slot_of c.in-Some-waiting.at) c.self.inside.bags.bags.oldest));
      middle_next = λ more. memory.middle_next (omega (arith, length-other_slots (slot_of c.in-Some-waiting.at) c.self.inside.bags.bags.middle));
      started = memory.started;
      passed = memory.passed;
      few = memory.few;
      recent = memory.recent;
    } in (
      subst (λ bs. IsMemory c.free.new.self bs c.self.inside.epoch c.self.inside.cursor c.self.inside.pins.items)
          (sym ((c.leave.ensures.bags ∙ ap (λ (r : Ringed). bags_after None c.in-Some.slot r.bags) c.first.ensures.same) ∙ ap (λ k. bags_after None k c.self.inside.bags.bags) slot_is)) kept,
      c.self.invariant.1,
      omega (arith, c.self.invariant.2, ap (λ (h : Heap). length h.slots) freed_is, length-freed c.self.inside.arena.heap c.in-Some-waiting.at),
      c.ticks_of-self-inside-2.ensures,
    )

pub returns-clause-limbo : goal.returns-clause-limbo
returns-clause-limbo c =
    let found = c.in-Some.ensures.first in
    let r : Ref = found.0 in
    let settled : c.self.inside.arena.noted ≡ [] = ap (λ (m : Memory). m.noted) c.self.view_is ∙ c.requires.settled in
    let lists = c.self.invariant.0.lists in
    let waits : waiting c.self.inside.arena c.in-Some.slot ≡ Some r = ap (waiting c.self.inside.arena) (sym found.3)
    ∙ first_waits c.self.inside.arena c.self.inside.bags.bags lists r found.1 found.2 settled in
    let at_is : c.in-Some-waiting.at ≡ r = same_Some c.in-Some-waiting.at r (sym c.in-Some-waiting.is ∙ c.waiting.ensures.waiting ∙ waits) in
    let slot_is : c.in-Some.slot ≡ slot_of c.in-Some-waiting.at = sym found.3 ∙ ap slot_of (sym at_is) in
    ap (limbo_of c.self.inside.epoch) ((c.leave.ensures.bags ∙ ap (λ (r : Ringed). bags_after None c.in-Some.slot r.bags) c.first.ensures.same)
    ∙ ap (λ k. bags_after None k c.self.inside.bags.bags) (sym found.3)) ∙ limbo_rest c.self.inside.arena c.self.inside.bags.bags lists r found.1 found.2 settled c.self.inside.epoch
    ∙ ap (λ (m : Memory). drop 1 m.limbo) c.self.view_is

pub returns-clause-older : goal.returns-clause-older
returns-clause-older c =
    let found = c.in-Some.ensures.first in
    let memory = c.self.invariant.0 in
    subst (λ (m : Memory). All (λ entry. All (IsOlder entry.epoch) m.pins) (take 1 m.limbo)) c.self.view_is
    (first_older c.self.inside.pins.items c.self.inside.epoch c.self.inside.cursor memory.recent c.self.inside.bags.bags found.0 found.1 found.2
    (memory.oldest_first (omega (arith, ap length found.2))))
