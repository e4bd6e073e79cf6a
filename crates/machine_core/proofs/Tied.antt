-- What a step leaves tied: the references that the heap holds are those of root words and private lists.
use Rattle.std.proofs.Common.{◌≡◌, ℕ, zero, suc, ◌+◌, ◌-◌, ◌≤◌, List, [], length, set, get_or, Option, Some, None, refl, sym, ap, ◌∙◌, arith}
use Rattle.std.proofs.lemmas.List.{map-set, length-map}
use Rattle.std.proofs.lemmas.Option.{none-some}
use Rattle.machine_core.specs.Vocabulary.{Ref, times, Operation, Root, State, operation_of, refs_of_operation, pin_of, root_refs, StandsAt}
use Rattle.epochs.specs.Memories.{Memory}
use Rattle.machine_model.proofs.Found.{found_within}
use Rattle.machine_core.specs.Ties.{IsTied}
use Rattle.machine_core.specs.Beneath.rdcss_root.proofs.Rewriting.{times_set}
use Rattle.machine_core.proofs.Tying.{times_part}

-- ---- the operation of an actor

pub operation_stands : (state : State) (actor : ℕ) (operation : Operation) → operation_of state actor ≡ Some operation → StandsAt state.actors actor (Some operation)
operation_stands state zero operation e = absurd (none-some _ e)
operation_stands state (suc n) operation e = record {
  counts = omega arith;
  within = let less = found_within state.actors n operation e in omega (arith, less);
  is = ap (λ i. get_or state.actors i None) (let same : suc n - 1 ≡ n = omega arith in same) ∙ e;
}

-- its private list is held
pub private_held : (memory : Memory) (roots : List (Option Root)) (actors : List (Option Operation)) (actor : ℕ) (operation : Operation) → IsTied memory roots actors →
    StandsAt actors actor (Some operation) → (r : Ref) → times r operation.private + times r (root_refs roots) ≤ times r memory.outside
private_held memory roots actors actor operation tied at r =
    omega (arith, tied.held r, times_part r refs_of_operation actors (actor - 1) None None refl at.within, ap (λ o. times r (refs_of_operation o)) at.is)

-- ---- an end, and a begin

pub ended_tied : (before after : Memory) (roots : List (Option Root)) (actors : List (Option Operation)) (actor : ℕ) (operation : Operation) →
    StandsAt actors actor (Some operation) → IsTied before roots actors → ((r : Ref) → times r after.outside + times r operation.private ≡ times r before.outside) →
    after.pins ≡ set before.pins (actor - 1) None → IsTied after roots (set actors (actor - 1) None)
ended_tied before after roots actors actor operation at tied given pins = record {
  held = λ r. omega (arith, tied.held r, given r, times_set r refs_of_operation actors (actor - 1) None None at.within, ap (λ o. times r (refs_of_operation o)) at.is);
  pins = pins ∙ ap (λ ps. set ps (actor - 1) None) tied.pins ∙ sym (map-set pin_of actors (actor - 1) None);
}

pub begun_tied : (before after : Memory) (roots now : List (Option Root)) (actors : List (Option Operation)) (actor : ℕ) (operation : Operation) →
    StandsAt actors actor None → IsTied before roots actors →
    ((r : Ref) → times r after.outside + times r (root_refs roots) ≡ times r before.outside + times r (root_refs now)) → operation.private ≡ [] →
    after.pins ≡ set before.pins (actor - 1) (Some operation.epoch) → IsTied after now (set actors (actor - 1) (Some operation))
begun_tied before after roots now actors actor operation at tied moves none pins = record {
  held = λ r. omega (
    arith,
    tied.held r,
    moves r,
    times_set r refs_of_operation actors (actor - 1) (Some operation) None at.within,
    ap (λ o. times r (refs_of_operation o)) at.is,
    ap (times r) none,
  );
  pins = pins ∙ ap (λ ps. set ps (actor - 1) (Some operation.epoch)) tied.pins ∙ sym (map-set pin_of actors (actor - 1) (Some operation));
}

-- ---- actors

-- an actor that the machine has, with what it runs, can record an epoch
pub pins_within : (memory : Memory) (roots : List (Option Root)) (actors : List (Option Operation)) (actor : ℕ) (found : Option Operation) → IsTied memory roots actors →
    StandsAt actors actor found → (1 ≤ actor) × (actor ≤ length memory.pins)
pins_within memory roots actors actor found tied at = (at.counts, omega (arith, at.within, at.counts, ap length tied.pins, length-map actors pin_of))
