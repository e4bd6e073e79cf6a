use Rattle.std.proofs.Common.{◌≡◌, ℕ, ◌<◌, ◌++◌, length, None, sym, ap, ◌∙◌, inl, inr, arith}
use Rattle.std.proofs.lemmas.Bool.{cases_lt, false≢true}
use Rattle.slot_arena.specs.Times.{other_slots}
use Rattle.slot_arena.specs.Tallies.{naming}
use Rattle.slot_arena.proofs.Namings.{naming-append}
use Rattle.epochs.specs.Rings.{Bags, Ringed, all_of}
use Rattle.epochs.specs.Settling.{bags_after}
use Rattle.epochs.proofs.Bags.{other_slots-all, length-other_slots, other_slots-none}
use Rattle.epochs.proofs.settling.sift_one.Goals as goal

pub returns-then-is_in-clause-ticks : goal.returns-then-is_in-clause-ticks
returns-then-is_in-clause-ticks c =
    let k : ℕ = c.args.slot in
    let was : Bags = c.args.bags.now.bags in
    let some : 0 < naming k (all_of was) = c.contains-is_in.ensures.is_in.0 c.if-is_in.true in
    let looked = c.contains-is_in.ensures.same in
    let same : all_of c.leave.new.self.bags ≡ other_slots k (all_of was) =
    ap all_of c.leave.ensures.bags ∙ ap (λ (b : Ringed). all_of (bags_after None k b.bags)) looked ∙ sym (other_slots-all k was.oldest was.middle was.present) in
    omega (arith, ap length same, length-other_slots k (all_of was), c.requires.single, c.leave.ensures.ticks, ap (λ (b : Ringed). b.ticks) looked)

pub returns-else-is_in-clause-bags : goal.returns-else-is_in-clause-bags
returns-else-is_in-clause-bags c =
    let k : ℕ = c.args.slot in
    let was : Bags = c.args.bags.now.bags in
    let none : naming k (all_of was) ≡ 0 = elim (cases_lt 0 (naming k (all_of was))) [
      | inl some ↦ absurd (false≢true (sym c.if-is_in.false ∙ c.contains-is_in.ensures.is_in.1 some))
      | inr not_in ↦ omega arith
    ] in
    let sum = naming-append k (was.oldest ++ was.middle) was.present in
    let sum_2 = naming-append k was.oldest was.middle in
    ap (λ (b : Ringed). b.bags) c.contains-is_in.ensures.same
    ∙ sym (ap (λ w. bags_after w k was) (sym c.waiting.ensures.waiting ∙ c.in-None.is)
    ∙ ap (λ rs. record { oldest = rs; middle = other_slots k was.middle; present = other_slots k was.present; size = was.size }) (other_slots-none k was.oldest (omega arith))
    ∙ ap (λ rs. record { oldest = was.oldest; middle = rs; present = other_slots k was.present; size = was.size }) (other_slots-none k was.middle (omega arith))
    ∙ ap (λ rs. record { oldest = was.oldest; middle = was.middle; present = rs; size = was.size }) (other_slots-none k was.present (omega arith)))
