-- Without sweeps what is in use stays in use.
use Rattle.std.proofs.Common.{◌≡◌, List, [], ◌∷◌, ◌++◌, get_or, Option, Some, None, refl, sym, ap, ◌∙◌, subst}
use Rattle.std.proofs.lemmas.List.{append_assoc, append-nil}
use Rattle.std.proofs.lemmas.Option.{none-some, same_Some}
use Rattle.proof_slots.specs.Vocabulary.{Ref, Slot, slot_of, Heap, stored, Bounds, Step, standing, first_state, AreBounds, next_state, run}
use Rattle.proof_slots.specs.Beneath.slot_arena.proofs.Live.{same_ref}
use Rattle.machine_model.proofs.Along.{run_push}
use Rattle.machine_model.proofs.Grown.{standing_parts}
use Rattle.proof_memory.specs.Laws.{IsInUse}
use Rattle.proof_memory.proofs.Heap.Later.{one_node}
use Rattle.proof_memory.proofs.Limbo.Zeros.{freed_late}
use Rattle.proof_slots.specs.Unswept.{IsNoSweep, HasNoSweeps, NothingIsFreed, SlotsTellApart}

module _ (limits : Bounds) (ok : AreBounds limits) (r : Ref) where
  -- after one step
  stays_once : (steps : List Step) (s : Step) → IsNoSweep s → IsInUse (run limits steps).heap r → IsInUse (next_state (run limits steps) s).heap r
  stays_once steps s quiet used = by (standing (next_state (run limits steps) s).heap r) refl
    where
      by : (o : Option Slot) → standing (next_state (run limits steps) s).heap r ≡ o → IsInUse (next_state (run limits steps) s).heap r
      by (Some slot) e = (slot, e)
      by None e = absurd (subst IsNoSweep (freed_late limits ok steps s r used (λ now. none-some now.0 (sym e ∙ now.1))).0 quiet)

  stays : (steps more : List Step) → HasNoSweeps more → IsInUse (run limits steps).heap r → IsInUse (run limits (steps ++ more)).heap r
  stays steps [] quiet used = subst (λ l. IsInUse (run limits l).heap r) (sym (append-nil steps)) used
  stays steps (s ∷ more) quiet used =
      subst (λ l. IsInUse (run limits l).heap r) (append_assoc steps (s ∷ []) more)
      (stays (steps ++ s ∷ []) more quiet.1 (subst (λ x. IsInUse x.heap r) (sym (run_push (first_state limits) steps s)) (stays_once steps s quiet.0 used)))

pub nothing_is_freed : NothingIsFreed
nothing_is_freed limits steps more r was ok quiet found =
    let (now, later) = stays limits ok r steps more quiet (was, found) in (now, later, one_node limits ok steps more r was now found later)

-- what stands in one slot at one time has one reference
pub one_ref : (heap : Heap) (q r : Ref) → IsInUse heap q → IsInUse heap r → slot_of q ≡ slot_of r → q ≡ r
unfolding stored
one_ref heap q r (a, at_q) (b, at_r) same =
    let (in_q, birth_q) = standing_parts heap q a at_q in
    let (in_r, birth_r) = standing_parts heap r b at_r in
    let one : a ≡ b = same_Some _ _ (sym in_q ∙ ap (λ k. get_or heap.slots k None) same ∙ in_r) in
    same_ref q r same (sym birth_q ∙ ap (λ (x : Slot). x.birth) one ∙ birth_r)

pub slots_tell_apart : SlotsTellApart
slots_tell_apart limits steps more q r ok quiet used now same = one_ref (run limits (steps ++ more)).heap q r (stays limits ok q steps more quiet used) now same
