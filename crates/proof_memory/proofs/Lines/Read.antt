-- READ, COMPLETE and ROOT: what their lines want gives what their steps want, and what the lines after them do.
use Rattle.std.proofs.Common.{◌==◌, Bool, true, false, List, ◌∷◌, []}
use Rattle.proof_memory.specs.Vocabulary.{Access, Writable, ReadOnly, Ref, Prev, Heap, prev_at, main_at, After, Gives, Read, ReadLine, Complete, CompleteLine, Descriptor, RootLine, RootWord, Plain}
use Rattle.proof_memory.specs.Vocabulary.{Offer, Verdict, Commits, Fails, Overtaken, read_action, read_after, after_prev, after_ask, after_decide, after_restore, verdict, at_indirection}
use Rattle.proof_memory.specs.Vocabulary.{complete_action_at, after_reading, after_complete, of_offer, complete_after, completing, root_action, after_root_word, after_completing, root_after}
use Rattle.proof_memory.specs.Beneath.slot_arena.specs.declared.nodes.Prev.TheVariants as prev
use Rattle.machine_model.specs.declared.reading.After.TheVariants.{Goes}
use Rattle.machine_model.specs.declared.reading.ReadLine.TheVariants as read
use Rattle.machine_model.specs.declared.roots.CompleteLine.TheVariants as complete
use Rattle.machine_model.specs.declared.roots.RootLine.TheVariants as root
use Rattle.proof_memory.specs.Wants.{AnIndirection, AMain, Claim, Is, Holds, AllHold, prev_wants, offer_wants, word_wants, action_wants, read_wants, complete_wants, root_wants}
use Rattle.proof_memory.proofs.Claims.Uses.{safe_of, both_hold, first_hold, last_hold}
use Rattle.proof_memory.proofs.Claims.Nodes.{Heaped, main_read}
use Rattle.proof_memory.proofs.Claims.Named.{third_claim, past_third}

-- ---- what is wanted after a step

abbrev pub after_read_wants : Ref → After ReadLine Ref → List Claim
after_read_wants i (Goes l) = read_wants i l
after_read_wants i (Gives main) = Is main AMain ∷ []

abbrev pub step_wants : After Read Ref → List Claim
step_wants (Goes r) = read_wants r.indirection r.line
step_wants (Gives main) = Is main AMain ∷ []

abbrev pub after_complete_wants : Descriptor → After CompleteLine Bool → List Claim
after_complete_wants offer (Goes l) = complete_wants offer l
after_complete_wants offer (Gives done) = []

abbrev pub completed_wants : After Complete Bool → List Claim
completed_wants (Goes c) = complete_wants c.offer c.line
completed_wants (Gives done) = []

abbrev pub after_root_wants : After RootLine Ref → List Claim
after_root_wants (Goes l) = root_wants l
after_root_wants (Gives r) = Is r AnIndirection ∷ []

-- ---- actions

module _ (S : Ref → Type 0) (heap : Heap) where
  pub read_acts : (i : Ref) (l : ReadLine) → AllHold S heap (read_wants i l) → AllHold S heap (action_wants (read_action i l))
  read_acts i read.Main h = h
  read_acts i (read.Prev main) h = h.1
  read_acts i (read.AskRoot main previous) h = tt
  read_acts i (read.Abort main previous offer) h = past_third h
  read_acts i (read.Decide main previous told) h = h
  read_acts i (read.Restore main previous) h = h

  pub complete_acts : (offer : Descriptor) (l : CompleteLine) → AllHold S heap (complete_wants offer l) → AllHold S heap (action_wants (complete_action_at offer l))
  complete_acts offer (complete.Reading l) h = read_acts offer.root l (last_hold S heap (offer_wants offer) (read_wants offer.root l) h)
  complete_acts offer (complete.Swap main) h =
      ((last_hold S heap (offer_wants offer) (Is main AMain ∷ []) h).0, first_hold S heap (offer_wants offer) (Is main AMain ∷ []) h)

  pub root_acts : (l : RootLine) → AllHold S heap (root_wants l) → AllHold S heap (action_wants (root_action l))
  root_acts root.Read h = tt
  root_acts (root.Completing c) h = complete_acts c.offer c.line h

  -- ---- what comes after

  prev_next : (access : Access) (i main : Ref) (p : Prev) → AllHold S heap (prev_wants p) → Holds S heap (Is i AnIndirection) → Holds S heap (Is main AMain) →
      AllHold S heap (after_read_wants i (after_prev access main p))
  prev_next access i main prev.None p h m = (m, tt)
  prev_next access i main (prev.Failed previous) p h m = (h, (m, (p.0, tt)))
  prev_next Writable i main (prev.Pending previous) p h m = (h, (m, (p.0, tt)))
  prev_next ReadOnly i main (prev.Pending previous) p h m = (h, (m, (p.0, tt)))

  ask_next : (i main previous : Ref) (word : RootWord) → AllHold S heap (word_wants word) → Holds S heap (Is i AnIndirection) → Holds S heap (Is main AMain) →
      Holds S heap (Is previous AMain) → AllHold S heap (after_read_wants i (after_ask heap main previous word))
  ask_next i main previous (Plain r) w h m p = (h, (m, (p, tt)))
  ask_next i main previous (Offer offer) w h m p = (h, (m, (p, w)))

  decide_next : (i main : Ref) (v : Verdict) → Holds S heap (Is i AnIndirection) → Holds S heap (Is main AMain) →
      AllHold S heap (after_read_wants i (after_decide main v))
  decide_next i main Commits h m = (m, tt)
  decide_next i main Fails h m = (h, tt)
  decide_next i main (Overtaken true) h m = (h, (m, tt))
  decide_next i main (Overtaken false) h m = (h, tt)

  restore_next : (i previous : Ref) (b : Bool) → Holds S heap (Is i AnIndirection) → Holds S heap (Is previous AMain) →
      AllHold S heap (after_read_wants i (after_restore previous b))
  restore_next i previous true h p = (p, tt)
  restore_next i previous false h p = (h, tt)

  reading_next : (offer : Descriptor) (a : After ReadLine Ref) → AllHold S heap (offer_wants offer) → AllHold S heap (after_read_wants offer.root a) →
      AllHold S heap (after_complete_wants offer (after_reading a))
  reading_next offer (Goes l) o h = both_hold S heap (offer_wants offer) (read_wants offer.root l) o h
  reading_next offer (Gives main) o h = both_hold S heap (offer_wants offer) (Is main AMain ∷ []) o h

  offer_next : (offer : Descriptor) (a : After CompleteLine Bool) → AllHold S heap (after_complete_wants offer a) → AllHold S heap (completed_wants (of_offer offer a))
  offer_next offer (Goes l) h = h
  offer_next offer (Gives done) h = tt

  completing_next : (a : After Complete Bool) → AllHold S heap (completed_wants a) → AllHold S heap (after_root_wants (after_completing a))
  completing_next (Goes c) h = h
  completing_next (Gives done) h = tt

  -- a READ of what an offer swaps
  pub offer_begun : (offer : Descriptor) → AllHold S heap (offer_wants offer) → AllHold S heap (complete_wants offer (completing offer).line)
  offer_begun offer w = both_hold S heap (offer_wants offer) (read_wants offer.root read.Main) w (w.0, tt)

  word_next : (word : RootWord) → AllHold S heap (word_wants word) → AllHold S heap (after_root_wants (after_root_word word))
  word_next (Plain r) w = w
  word_next (Offer offer) w = offer_begun offer w

  pub indirection_next : (i : Ref) (a : After ReadLine Ref) → AllHold S heap (after_read_wants i a) → AllHold S heap (step_wants (at_indirection i a))
  indirection_next i (Goes l) h = h
  indirection_next i (Gives main) h = h

  module _ (H : Heaped S heap) (access : Access) (word : RootWord) (W : AllHold S heap (word_wants word)) where
    pub read_next : (i : Ref) (l : ReadLine) → AllHold S heap (read_wants i l) → AllHold S heap (after_read_wants i (read_after heap access word i l))
    read_next i read.Main h = (h.0, (main_read S heap H h.0, tt))
    read_next i (read.Prev main) h = prev_next access i main (prev_at heap main) (H.before main (safe_of h.1.0)) h.0 h.1.0
    read_next i (read.AskRoot main previous) h = ask_next i main previous word W h.0 h.1.0 (third_claim h)
    read_next i (read.Abort main previous offer) h = (h.0, (h.1.0, (third_claim h, tt)))
    read_next i (read.Decide main previous told) h = decide_next i main (verdict heap i main previous told) h.0 h.1.0
    read_next i (read.Restore main previous) h = restore_next i previous (main_at heap i == main) h.0 (third_claim h)

    complete_next_at : (offer : Descriptor) (l : CompleteLine) → AllHold S heap (complete_wants offer l) →
        AllHold S heap (after_complete_wants offer (after_complete heap access word offer l))
    complete_next_at offer (complete.Reading l) h =
        reading_next offer (read_after heap access word offer.root l) (first_hold S heap (offer_wants offer) (read_wants offer.root l) h)
        (read_next offer.root l (last_hold S heap (offer_wants offer) (read_wants offer.root l) h))
    complete_next_at offer (complete.Swap main) h = tt

    pub complete_next : (c : Complete) → AllHold S heap (complete_wants c.offer c.line) → AllHold S heap (completed_wants (complete_after heap access word c))
    complete_next c h = offer_next c.offer (after_complete heap access word c.offer c.line) (complete_next_at c.offer c.line h)

    pub root_next : (l : RootLine) → AllHold S heap (root_wants l) → AllHold S heap (after_root_wants (root_after heap access word l))
    root_next root.Read h = word_next word W
    root_next (root.Completing c) h = completing_next (complete_after heap access word c) (complete_next c h)
