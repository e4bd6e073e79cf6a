-- What a root led to once is garbage when none leads to it any more.
use Rattle.std.proofs.Common.{zero, suc, List, ◌++◌, Contains, Some, subst, sym}
use Rattle.std.proofs.lemmas.Option.{none-some}
use Rattle.proof_reuse.specs.Beneath.slot_arena.specs.declared.refs.Ref.{Ref}
use Rattle.proof_reuse.specs.Beneath.machine_model.specs.declared.steps.Bounds.{Bounds}
use Rattle.proof_reuse.specs.Beneath.machine_model.specs.declared.steps.Step.{Step}
use Rattle.proof_reuse.specs.Beneath.machine_model.specs.Contents as contents
use Rattle.proof_reuse.specs.Beneath.machine_model.specs.Contents.{IsReached}
use Rattle.proof_reuse.specs.Beneath.machine_model.specs.Machine.{AreBounds, run}
use Rattle.proof_reuse.specs.Beneath.machine_model.specs.Counting.{refs_of_root}
use Rattle.proof_reuse.specs.Beneath.machine_model.specs.States.{State}
use Rattle.proof_reuse.specs.Beneath.proof_memory.specs.Laws.{IsInUse}
use Rattle.proof_reuse.specs.Beneath.proof_garbage.proofs.Public.{IsPublic, public_along}
use Rattle.proof_fresh.specs.Grace.{IsPrivateToNone}
use Rattle.proof_followed.specs.Followed.{IsFollowedByRoots, from_root, from_operation, from_slot}
use Rattle.proof_followed.proofs.NeverBrought.{never_brought}
use Rattle.proof_reuse.specs.Laws.{IsGarbage}
use Rattle.proof_reuse.proofs.SwapIns.{root_named}

followed_reached : (state : State) {r : Ref} → IsFollowedByRoots state r → IsReached state r
followed_reached state (from_root handle root r e is) =
    contents.from_root handle r (subst (λ o. Contains (refs_of_root o) r) (sym e) (subst (Contains (refs_of_root (Some root))) is (root_named root.word)))
followed_reached state (from_operation actor operation r e never c) = absurd never
followed_reached state (from_slot q r k c) = contents.from_slot q r (followed_reached state k) c

module _ (limits : Bounds) (ok : AreBounds limits) (before since : List Step) (r : Ref) (once : IsFollowedByRoots (run limits before) r) where
  is_public : IsPublic r (run limits (before ++ since))
  is_public = public_along limits ok before since r (followed_reached (run limits before) once)

  private_to_none : IsPrivateToNone (run limits (before ++ since)) r
  private_to_none zero operation e c = none-some operation e
  private_to_none (suc k) operation e c = is_public.apart k operation e c

  pub unlinked_garbage : IsInUse (run limits (before ++ since)).heap r → (IsFollowedByRoots (run limits (before ++ since)) r → ⊥) → IsGarbage (run limits (before ++ since)) r
  unlinked_garbage used unfollowed =
      record { in_use = used; unfollowed = unfollowed; private_to_none = private_to_none; unbrought = never_brought limits ok before since r once }
