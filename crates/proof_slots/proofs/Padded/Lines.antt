-- What an operation's next step does in a padded state, and what becomes of the operation: as where contents are the same, and the word that the step names.
use Rattle.std.proofs.Common.{◌≡◌, ℕ, refl, ap}
use Rattle.proof_slots.specs.Vocabulary.{Ref, main_of, node_at, prev_at, Operation, Action, Line, Read, ReadLine, handle_of, State, read_step, read_action, changed, action_of, operation_after}
use Rattle.proof_slots.specs.Vocabulary.{SameContents, SameWord, content_of}
use Rattle.machine_model.specs.declared.actions.Action.TheVariants as act
use Rattle.machine_model.specs.declared.building.BuildLine.TheVariants as build
use Rattle.machine_model.specs.declared.lines.Line.TheVariants as line
use Rattle.machine_model.specs.declared.reading.ReadLine.TheVariants as read
use Rattle.machine_model.proofs.LooksOn.{MakesAlike, line_acts}
use Rattle.machine_model.proofs.LooksAfter.{operation_same, step_same}
use Rattle.proof_slots.specs.Padding.{padded}
use Rattle.proof_slots.proofs.Padded.Heaps.{HasFree, next_wide, node_wide, prev_wide}

module _ (more : ℕ) (state : State) (operation : Operation) where
  abbrev wider : State
  wider = padded more state

  nodes : (r : Ref) → node_at wider.heap r ≡ node_at state.heap r
  nodes r = node_wide more state.limits.slots state.heap r

  prevs : (r : Ref) → prev_at wider.heap r ≡ prev_at state.heap r
  prevs r = prev_wide more state.limits.slots state.heap r

  alike : SameContents wider state
  alike = record { hash = refl; contents = λ r. ap content_of (nodes r) }

  read_word : (i : Ref) (l : ReadLine) → SameWord wider state (handle_of operation.call) (read_action i l)
  read_word i read.Main = ap main_of (nodes i)
  read_word i (read.Prev main) = prevs main
  read_word i (read.AskRoot main previous) = refl
  read_word i (read.Abort main previous offer) = refl
  read_word i (read.Decide main previous told) = prevs main
  read_word i (read.Restore main previous) = ap main_of (nodes i)

  pub step_wide : (r : Read) → read_step wider operation r ≡ read_step state operation r
  step_wide r = step_same wider state alike operation r (read_word r.indirection r.line)

  makes : (l : Line) → MakesAlike wider state alike operation l
  makes (line.Build (build.Main path main c former)) = λ flag. ap (λ n. changed flag n c) (nodes main)
  makes (line.Build (build.Single path main s former)) = tt
  makes (line.Build (build.Pair path main position single depth)) = tt
  makes (line.Build (build.Link path main position below depth)) = tt
  makes (line.Build (build.Rung path main position below depth)) = tt
  makes (line.Root l) = tt
  makes (line.Key l) = tt
  makes (line.Swap why s) = tt
  makes (line.Renew l) = tt
  makes (line.Clean l) = tt
  makes (line.Climb l) = tt
  makes (line.Copy l) = tt
  makes (line.Walk l) = tt
  makes (line.End answer) = tt
  makes line.Impossible = tt

  pub acts_wide : action_of wider operation ≡ action_of state operation
  acts_wide = line_acts wider state alike operation operation.line (makes operation.line)

  -- if a slot is free
  word : HasFree state.heap → (action : Action) → SameWord wider state (handle_of operation.call) action
  word free (act.ReadMain i) = ap main_of (nodes i)
  word free (act.Publish i replaced fresh) = ap main_of (nodes i)
  word free (act.Restore i main previous) = ap main_of (nodes i)
  word free (act.ReadPrev main) = prevs main
  word free (act.Decide i main previous told) = prevs main
  word free (act.Make node) = next_wide more state.limits.slots state.heap free
  word free (act.MakeRoot main) = next_wide more state.limits.slots state.heap free
  word free (act.Look at) = tt
  word free (act.End answer) = tt
  word free act.ReadRoot = refl
  word free (act.Abort offer) = refl
  word free (act.Offer offer) = refl
  word free (act.Complete offer main) = refl

  pub operation_wide : HasFree state.heap → operation_after wider operation ≡ operation_after state operation
  operation_wide free = operation_same wider state alike operation acts_wide (word free (action_of wider operation))
