-- READ, and a COMPLETE and a ROOT that met an offer: what they follow gives what the lines after them follow.
use Rattle.std.proofs.Common.{◌∷◌, [], Bool, List}
use Rattle.proof_followed.specs.Beneath.history.specs.declared.calls.Access.{Access}
use Rattle.proof_followed.specs.Beneath.slot_arena.specs.declared.refs.Ref.{Ref}
use Rattle.proof_followed.specs.Beneath.slot_arena.specs.Heaps.{Heap}
use Rattle.proof_followed.specs.Beneath.machine_model.specs.declared.reading.After.{After}
use Rattle.proof_followed.specs.Beneath.machine_model.specs.declared.reading.After.TheVariants.{Goes, Gives}
use Rattle.proof_followed.specs.Beneath.machine_model.specs.declared.reading.ReadLine.{ReadLine}
use Rattle.proof_followed.specs.Beneath.machine_model.specs.declared.reading.ReadLine.TheVariants as read
use Rattle.proof_followed.specs.Beneath.machine_model.specs.declared.roots.CompleteLine.{CompleteLine}
use Rattle.proof_followed.specs.Beneath.machine_model.specs.declared.roots.CompleteLine.TheVariants as complete
use Rattle.proof_followed.specs.Beneath.machine_model.specs.declared.roots.Descriptor.{Descriptor}
use Rattle.proof_followed.specs.Beneath.machine_model.specs.declared.roots.RootLine.{RootLine}
use Rattle.proof_followed.specs.Beneath.machine_model.specs.declared.roots.RootLine.TheVariants as root
use Rattle.proof_followed.specs.Beneath.machine_model.specs.declared.roots.RootWord.{RootWord}
use Rattle.proof_followed.specs.Beneath.machine_model.specs.declared.roots.RootWord.TheVariants.{Plain, Offer}
use Rattle.proof_followed.specs.Beneath.machine_model.specs.Reading.{after_ask, read_after}
use Rattle.proof_followed.specs.Beneath.machine_model.specs.States.{root_of}
use Rattle.proof_followed.specs.Beneath.machine_model.specs.Swapping.{after_complete, after_completing, after_reading, after_root_word, of_offer, root_after}
use Rattle.proof_followed.specs.Beneath.proof_memory.specs.Wants.{AnIndirection, AMain, Claim, Is, Holds, AllHold, read_wants}
use Rattle.proof_followed.specs.Beneath.proof_memory.proofs.Claims.Nodes.{Heaped}
use Rattle.proof_followed.specs.Beneath.proof_memory.proofs.Lines.Read.{after_read_wants, read_next}
use Rattle.proof_followed.specs.Followed.{asked, met_wants, met_root_wants}
use Rattle.proof_followed.proofs.Asked.{asked_of}

-- ---- what is followed after a step

abbrev pub after_asked_wants : Ref → After ReadLine Ref → List Claim
after_asked_wants i (Goes l) = read_wants i (asked l)
after_asked_wants i (Gives main) = Is main AMain ∷ []

abbrev pub after_met_wants : Ref → After CompleteLine Bool → List Claim
after_met_wants r (Goes l) = met_wants r l
after_met_wants r (Gives done) = []

abbrev pub after_met_root_wants : After RootLine Ref → List Claim
after_met_root_wants (Goes l) = met_root_wants l
after_met_root_wants (Gives r) = Is r AnIndirection ∷ []

module _ (S : Ref → Type 0) (heap : Heap) where
  out_asked : (i : Ref) (a : After ReadLine Ref) → AllHold S heap (after_read_wants i a) → AllHold S heap (after_asked_wants i a)
  out_asked i (Goes l) h = asked_of S heap i l h
  out_asked i (Gives main) h = h

  ask_asked : (i main previous : Ref) (word : RootWord) → AllHold S heap (read_wants i (read.AskRoot main previous)) → AllHold S heap (after_asked_wants i (after_ask heap main previous word))
  ask_asked i main previous (Plain r) h = h
  ask_asked i main previous (Offer offer) h = h

  reading_met : (r : Ref) (a : After ReadLine Ref) → Holds S heap (Is r AnIndirection) → AllHold S heap (after_asked_wants r a) → AllHold S heap (after_met_wants r (after_reading a))
  reading_met r (Goes l) root h = (root, h)
  reading_met r (Gives main) root h = (root, h)

  completing_met : (offer : Descriptor) (a : After CompleteLine Bool) → AllHold S heap (after_met_wants offer.root a) → AllHold S heap (after_met_root_wants (after_completing (of_offer offer a)))
  completing_met offer (Goes l) h = h
  completing_met offer (Gives done) h = tt

  word_met : (word : RootWord) → Holds S heap (Is (root_of word) AnIndirection) → AllHold S heap (after_met_root_wants (after_root_word word))
  word_met (Plain r) h = (h, tt)
  word_met (Offer offer) h = (h, (h, tt))

  module _ (H : Heaped S heap) (access : Access) (word : RootWord) where
    -- any line but those at which the root word is read or written
    plain_asked : (i : Ref) (l : ReadLine) → Holds S heap (Is i AnIndirection) → AllHold S heap (read_wants i l) → AllHold S heap (after_asked_wants i (read_after heap access (Plain i) i l))
    plain_asked i l link h = out_asked i (read_after heap access (Plain i) i l) (read_next S heap H access (Plain i) (link, tt) i l h)

    pub read_asked : (i : Ref) (l : ReadLine) → AllHold S heap (read_wants i (asked l)) → AllHold S heap (after_asked_wants i (read_after heap access word i l))
    read_asked i (read.AskRoot main previous) h = ask_asked i main previous word h
    read_asked i (read.Abort main previous offer) h = h
    read_asked i read.Main h = plain_asked i read.Main h.0 h
    read_asked i (read.Prev main) h = plain_asked i (read.Prev main) h.0 h
    read_asked i (read.Decide main previous told) h = plain_asked i (read.Decide main previous told) h.0 h
    read_asked i (read.Restore main previous) h = plain_asked i (read.Restore main previous) h.0 h

    complete_met : (offer : Descriptor) (l : CompleteLine) → AllHold S heap (met_wants offer.root l) → AllHold S heap (after_met_wants offer.root (after_complete heap access word offer l))
    complete_met offer (complete.Reading l) h = reading_met offer.root (read_after heap access word offer.root l) h.0 (read_asked offer.root l h.1)
    complete_met offer (complete.Swap main) h = tt

    pub root_met : (l : RootLine) → AllHold S heap (met_root_wants l) → Holds S heap (Is (root_of word) AnIndirection) → AllHold S heap (after_met_root_wants (root_after heap access word l))
    root_met root.Read h standing = word_met word standing
    root_met (root.Completing c) h standing = completing_met c.offer (after_complete heap access word c.offer c.line) (complete_met c.offer c.line h)
