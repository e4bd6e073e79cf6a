-- A step that is to carry an offer out keeps each reference held in its place, whatever comes of the offer; so each is held so after every list of steps.
use Rattle.std.proofs.Common.{◌≡◌, Bool, true, false, List, refl, ap}
use Rattle.proof_claims.specs.Beneath.slot_arena.specs.declared.refs.Ref.{Ref}
use Rattle.proof_claims.specs.Beneath.machine_model.specs.declared.copying.CopyLine.TheVariants as copy
use Rattle.proof_claims.specs.Beneath.machine_model.specs.declared.lines.Line.{Line}
use Rattle.proof_claims.specs.Beneath.machine_model.specs.declared.lines.Line.TheVariants as line
use Rattle.proof_claims.specs.Beneath.machine_model.specs.declared.roots.Complete.{Complete}
use Rattle.proof_claims.specs.Beneath.machine_model.specs.declared.steps.Bounds.{Bounds}
use Rattle.proof_claims.specs.Beneath.machine_model.specs.declared.steps.Step.{Step}
use Rattle.proof_claims.specs.Beneath.machine_model.specs.declared.steps.Step.TheVariants as step
use Rattle.proof_claims.specs.Beneath.machine_model.specs.Acting.{gone}
use Rattle.proof_claims.specs.Beneath.machine_model.specs.Calls.{handle_of}
use Rattle.proof_claims.specs.Beneath.machine_model.specs.Counting.{settled}
use Rattle.proof_claims.specs.Beneath.machine_model.specs.Machine.{AreBounds, run}
use Rattle.proof_claims.specs.Beneath.machine_model.specs.States.{word_at}
use Rattle.proof_claims.specs.Beneath.machine_model.specs.Swapping.{is_carried_out}
use Rattle.proof_claims.specs.Beneath.proof_followed.specs.Followed.{IsFollowedByRoots}
use Rattle.proof_claims.specs.Changes.{outcome_at}
use Rattle.proof_claims.specs.Claims.{held_of}
use Rattle.proof_claims.specs.Laws.{EachHeld, IsHeldFromRoots}
use Rattle.proof_claims.proofs.CarriedBefore.{marked_keeps}
use Rattle.proof_claims.proofs.Completing.{by_offer, heap, others_keep}
use Rattle.proof_claims.proofs.EachStep.{CompletesKeep, each_step}
use Rattle.proof_claims.proofs.OwnStanding.{own_stands}
use Rattle.proof_claims.proofs.Spine.{EachAfter, each_is_held, followed_is_held}
use Rattle.proof_claims.proofs.TakenBack.{taken_back_keeps}
use Rattle.proof_claims.proofs.Unlinked.{dropped_unlinked}

module _ (limits : Bounds) (ok : AreBounds limits) where
  -- by whether it is carried out, and whose offer it is
  completes_keep : CompletesKeep limits
  completes_keep xs actor operation o offer main h runs m is_after acts = by_out (is_carried_out (word_at (run limits xs) (handle_of operation.call)) offer main) refl
    where
      by_mark : is_carried_out (word_at (run limits xs) (handle_of operation.call)) offer main ≡ false → (c : Complete) → operation.line ≡ line.Copy (copy.Complete c) → (b : Bool) →
          operation.is_marked ≡ b → EachAfter limits xs (step.Go actor) (settled (run limits xs) (gone (run limits xs) actor operation))
      by_mark not_out c on true marked = marked_keeps limits ok xs actor operation offer main runs acts c on marked o h m is_after not_out
      by_mark not_out c on false unmarked =
          taken_back_keeps limits ok xs h actor operation runs o m is_after offer main acts c on (heap limits ok xs actor operation o offer main h runs m is_after acts) not_out unmarked

      by_line : is_carried_out (word_at (run limits xs) (handle_of operation.call)) offer main ≡ false → (l : Line) → operation.line ≡ l →
          EachAfter limits xs (step.Go actor) (settled (run limits xs) (gone (run limits xs) actor operation))
      by_line not_out (line.Copy (copy.Complete c)) on = by_mark not_out c on operation.is_marked refl
      by_line not_out l on =
          others_keep limits ok xs actor operation o offer main h runs m is_after acts not_out (ap (λ x. outcome_at (handle_of operation.call) offer x operation.is_marked) on)

      by_out : (b : Bool) → is_carried_out (word_at (run limits xs) (handle_of operation.call)) offer main ≡ b →
          EachAfter limits xs (step.Go actor) (settled (run limits xs) (gone (run limits xs) actor operation))
      by_out true e = by_offer limits ok xs actor operation o offer main h runs m is_after acts e offer.second offer.opens refl refl
      by_out false e = by_line e operation.line refl

  -- each reference is held in its place, but by nodes that were dropped
  pub each_held : (xs : List Step) → EachHeld limits xs
  each_held = each_is_held limits ok (each_step limits ok (own_stands limits ok) completes_keep)

  -- so what roots lead to is held
  pub followed_held : (xs : List Step) (k : Ref) → IsFollowedByRoots (run limits xs) k → IsHeldFromRoots (run limits xs) (held_of limits xs) k
  followed_held xs = followed_is_held limits ok (each_step limits ok (own_stands limits ok) completes_keep) xs (dropped_unlinked limits ok xs)
