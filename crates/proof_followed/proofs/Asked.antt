-- What a line claims of its references it claims of those that it follows; and a READ that meets an offer follows what it followed before.
use Rattle.std.proofs.Common.{◌∷◌, ◌++◌, [], List}
use Rattle.proof_followed.specs.Beneath.ctrie_base.specs.declared.hashes.HashKind.{HashKind}
use Rattle.proof_followed.specs.Beneath.history.specs.declared.calls.Access.{Access}
use Rattle.proof_followed.specs.Beneath.history.specs.declared.calls.Call.{Call}
use Rattle.proof_followed.specs.Beneath.slot_arena.specs.declared.refs.Ref.{Ref}
use Rattle.proof_followed.specs.Beneath.slot_arena.specs.Heaps.{Heap}
use Rattle.proof_followed.specs.Beneath.machine_model.specs.declared.copying.CopyLine.{CopyLine}
use Rattle.proof_followed.specs.Beneath.machine_model.specs.declared.copying.CopyLine.TheVariants as copy
use Rattle.proof_followed.specs.Beneath.machine_model.specs.declared.finding.KeyLine.{KeyLine}
use Rattle.proof_followed.specs.Beneath.machine_model.specs.declared.finding.KeyLine.TheVariants as key
use Rattle.proof_followed.specs.Beneath.machine_model.specs.declared.lines.Line.{Line}
use Rattle.proof_followed.specs.Beneath.machine_model.specs.declared.lines.Line.TheVariants as line
use Rattle.proof_followed.specs.Beneath.machine_model.specs.declared.lines.Purpose.{Purpose}
use Rattle.proof_followed.specs.Beneath.machine_model.specs.declared.reading.ReadLine.{ReadLine}
use Rattle.proof_followed.specs.Beneath.machine_model.specs.declared.reading.ReadLine.TheVariants as read
use Rattle.proof_followed.specs.Beneath.machine_model.specs.declared.reading.SwapLine.{SwapLine}
use Rattle.proof_followed.specs.Beneath.machine_model.specs.declared.reading.SwapLine.TheVariants as swap
use Rattle.proof_followed.specs.Beneath.machine_model.specs.declared.repairs.CleanLine.{CleanLine}
use Rattle.proof_followed.specs.Beneath.machine_model.specs.declared.repairs.CleanLine.TheVariants as clean
use Rattle.proof_followed.specs.Beneath.machine_model.specs.declared.repairs.ClimbLine.{ClimbLine}
use Rattle.proof_followed.specs.Beneath.machine_model.specs.declared.repairs.ClimbLine.TheVariants as climb
use Rattle.proof_followed.specs.Beneath.machine_model.specs.declared.repairs.RenewLine.{RenewLine}
use Rattle.proof_followed.specs.Beneath.machine_model.specs.declared.repairs.RenewLine.TheVariants as renew
use Rattle.proof_followed.specs.Beneath.machine_model.specs.declared.roots.CompleteLine.{CompleteLine}
use Rattle.proof_followed.specs.Beneath.machine_model.specs.declared.roots.CompleteLine.TheVariants as complete
use Rattle.proof_followed.specs.Beneath.machine_model.specs.declared.roots.Descriptor.{Descriptor}
use Rattle.proof_followed.specs.Beneath.machine_model.specs.declared.roots.RootLine.{RootLine}
use Rattle.proof_followed.specs.Beneath.machine_model.specs.declared.roots.RootLine.TheVariants as root
use Rattle.proof_followed.specs.Beneath.machine_model.specs.declared.walking.WalkLine.{WalkLine}
use Rattle.proof_followed.specs.Beneath.machine_model.specs.declared.walking.WalkLine.TheVariants as walk
use Rattle.proof_followed.specs.Beneath.proof_memory.specs.Wants.{AMain, Claim, Is, AllHold, line_wants, read_wants, complete_wants, root_wants, offer_wants}
use Rattle.proof_followed.specs.Beneath.proof_memory.specs.Wants.{path_wants, purpose_wants, climb_carries, done_wants}
use Rattle.proof_followed.specs.Beneath.proof_memory.specs.Wants.{swap_wants}
use Rattle.proof_followed.specs.Beneath.proof_memory.proofs.Claims.Uses.{both_hold, first_hold, last_hold}
use Rattle.proof_followed.specs.Followed.{asked, met_wants, met_root_wants, followed_wants}

module _ (S : Ref → Type 0) (heap : Heap) where
  -- a READ without the offer that it met
  pub asked_of : (i : Ref) (l : ReadLine) → AllHold S heap (read_wants i l) → AllHold S heap (read_wants i (asked l))
  asked_of i (read.Abort main previous offer) h = (h.0, (h.1.0, (h.1.1.0, tt)))
  asked_of i l h = h

  -- the same after other claims
  behind_asked : (first : List Claim) (i : Ref) (l : ReadLine) → AllHold S heap (first ++ read_wants i l) → AllHold S heap (first ++ read_wants i (asked l))
  behind_asked first i l h =
      both_hold S heap first (read_wants i (asked l)) (first_hold S heap first (read_wants i l) h) (asked_of i l (last_hold S heap first (read_wants i l) h))

  pub met_of : (offer : Descriptor) (l : CompleteLine) → AllHold S heap (complete_wants offer l) → AllHold S heap (met_wants offer.root l)
  met_of offer (complete.Reading l) h = (h.0, asked_of offer.root l (last_hold S heap (offer_wants offer) (read_wants offer.root l) h))
  met_of offer (complete.Swap main) h = (h.0, last_hold S heap (offer_wants offer) (Is main AMain ∷ []) h)

  pub met_root_of : (l : RootLine) → AllHold S heap (root_wants l) → AllHold S heap (met_root_wants l)
  met_root_of root.Read h = tt
  met_root_of (root.Completing c) h = met_of c.offer c.line h

  module _ (kind : HashKind) (call : Call) (access : Access) where
    abbrev Of : Line → Type 0
    Of l = AllHold S heap (line_wants kind call access l) → AllHold S heap (followed_wants kind call access l)

    of_key : (l : KeyLine) → Of (line.Key l)
    of_key (key.Read path r) h = behind_asked (path_wants path) r.indirection r.line h
    of_key (key.Main path main) h = h
    of_key (key.Entry path main position) h = h
    of_key (key.Listed path main position) h = h
    of_key (key.Sibling path main position former) h = h

    of_swap : (why : Purpose) (i a f : Ref) (l : SwapLine) → Of (line.Swap why (record { indirection = i; replaced = a; fresh = f; line = l }))
    of_swap why i a f (swap.Deciding l) h =
        let its = first_hold S heap (swap_wants (record { indirection = i; replaced = a; fresh = f; line = swap.Deciding l })) (purpose_wants why) h in
        both_hold S heap (swap_wants (record { indirection = i; replaced = a; fresh = f; line = swap.Deciding (asked l) })) (purpose_wants why)
        (its.0, (its.1.0, (its.1.1.0, asked_of i l its.1.1.1))) (last_hold S heap (swap_wants (record { indirection = i; replaced = a; fresh = f; line = swap.Deciding l })) (purpose_wants why) h)
    of_swap why i a f swap.Publish h = h
    of_swap why i a f swap.Check h = h

    of_renew : (l : RenewLine) → Of (line.Renew l)
    of_renew (renew.Read path main done r) h = behind_asked (done_wants path main done) r.indirection r.line h
    of_renew (renew.Entry path main done) h = h
    of_renew (renew.Link path main done child) h = h
    of_renew (renew.Branch path main done) h = h

    of_clean : (l : CleanLine) → Of (line.Clean l)
    of_clean (clean.Read path r) h = behind_asked (path_wants path) r.indirection r.line h
    of_clean (clean.Child path main done r) h = behind_asked (done_wants path main done) r.indirection r.line h
    of_clean (clean.Main path main) h = h
    of_clean (clean.Entry path main done) h = h
    of_clean (clean.Tomb path main done child) h = h
    of_clean (clean.Contracted path main done) h = h

    of_climb : (l : ClimbLine) → Of (line.Climb l)
    of_climb (climb.Read c r) h = behind_asked (climb_carries c) r.indirection r.line h
    of_climb (climb.Root c l) h = (h.0, (h.1.0, (h.1.1.0, met_root_of l h.1.1.1)))
    of_climb (climb.Main c main) h = h
    of_climb (climb.Contracted c main) h = h

    of_complete : (offer : Descriptor) (l : CompleteLine) → Of (line.Copy (copy.Complete (record { offer = offer; line = l })))
    of_complete offer (complete.Reading l) h = behind_asked (offer_wants offer) offer.root l h
    of_complete offer (complete.Swap main) h = h

    of_copy : (l : CopyLine) → Of (line.Copy l)
    of_copy (copy.Read at r) h = (h.0, asked_of r.indirection r.line h.1)
    of_copy (copy.Complete c) h = of_complete c.offer c.line h
    of_copy (copy.Successor r main) h = h
    of_copy (copy.Second r main successor) h = h
    of_copy (copy.Empty r main) h = h
    of_copy (copy.Cleared r main branch) h = h
    of_copy (copy.Offer offer) h = h

    of_walk : (l : WalkLine) → Of (line.Walk l)
    of_walk (walk.Read r todo pairs) h = (h.0, asked_of r.indirection r.line h.1)
    of_walk walk.Root h = h
    of_walk (walk.Main main todo pairs) h = h
    of_walk (walk.Entry todo pairs) h = h

    -- any line
    pub followed_of : (l : Line) → Of l
    followed_of (line.Root l) h = met_root_of l h
    followed_of (line.Key l) h = of_key l h
    followed_of (line.Build l) h = h
    followed_of (line.Swap why s) h = of_swap why s.indirection s.replaced s.fresh s.line h
    followed_of (line.Renew l) h = of_renew l h
    followed_of (line.Clean l) h = of_clean l h
    followed_of (line.Climb l) h = of_climb l h
    followed_of (line.Copy l) h = of_copy l h
    followed_of (line.Walk l) h = of_walk l h
    followed_of (line.End answer) h = h
    followed_of line.Impossible h = h
