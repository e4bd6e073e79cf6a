-- How an indirection that a step makes comes about: BUILD's over a main node that it made, RENEW's over one that a READ gave, or a new root.
use Rattle.std.proofs.Common.{◌≡◌, ℕ, suc, ◌<◌, true, false, List, Option, Some, None, refl, sym, ap, ◌∙◌, arith}
use Rattle.std.proofs.lemmas.Bool.{true≢false}
use Rattle.proof_owned.specs.Beneath.slot_arena.specs.declared.refs.Ref.{Ref}
use Rattle.proof_owned.specs.Beneath.slot_arena.specs.declared.nodes.Node.TheVariants.{Indirection}
use Rattle.proof_owned.specs.Beneath.slot_arena.specs.declared.nodes.Slot.{Slot}
use Rattle.proof_owned.specs.Beneath.slot_arena.specs.Heaps.{node_of, main_of}
use Rattle.proof_owned.specs.Beneath.machine_model.specs.declared.building.BuildLine.TheVariants as build
use Rattle.proof_owned.specs.Beneath.machine_model.specs.declared.repairs.RenewLine.TheVariants as renew
use Rattle.proof_owned.specs.Beneath.machine_model.specs.declared.lines.Line.{Line}
use Rattle.proof_owned.specs.Beneath.machine_model.specs.declared.lines.Line.TheVariants as line
use Rattle.proof_owned.specs.Beneath.machine_model.specs.declared.operations.Operation.{Operation}
use Rattle.proof_owned.specs.Beneath.machine_model.specs.declared.steps.Bounds.{Bounds}
use Rattle.proof_owned.specs.Beneath.machine_model.specs.States.{State, operation_of}
use Rattle.proof_owned.specs.Beneath.machine_model.specs.Grown.{grown}
use Rattle.proof_owned.specs.Beneath.machine_model.specs.Times.{IsRun}
use Rattle.proof_owned.specs.Beneath.proof_memory.specs.Laws.{IsInUse}
use Rattle.proof_owned.specs.Beneath.proof_memory.specs.Wants.{is_indirection}
use Rattle.proof_owned.specs.Beneath.proof_memory.proofs.Safety.AtEachTime.{safe_at}
use Rattle.proof_owned.specs.Beneath.proof_memory.proofs.Safety.AtTimes.{line_finds}
use Rattle.proof_owned.specs.Beneath.proof_memory.proofs.Heap.Moves.{word_move, grown_stays}
use Rattle.proof_owned.specs.Beneath.proof_commits.specs.Protocol.{Words}
use Rattle.proof_owned.specs.Beneath.proof_commits.proofs.Words.OfRuns.{link_kept}
use Rattle.proof_owned.specs.Beneath.proof_generations.proofs.Counter.Drawn.{Made, new_is_made}
use Rattle.proof_owned.specs.Beneath.proof_generations.proofs.Falling.KnownRoots.{words}
use Rattle.proof_owned.specs.Beneath.proof_generations.proofs.Falling.Nodes.{told_generation, link_made as link_stands}
use Rattle.proof_owned.specs.Beneath.proof_generations.proofs.Falling.Runs.{gen_of}
use Rattle.proof_owned.specs.Beneath.proof_generations.proofs.Lines.ReaderKnows.{indirection_is}
use Rattle.proof_owned.specs.Beneath.machine_model.specs.Paths.{start_of}
use Rattle.proof_owned.proofs.Makers.{LinkBy, link_by}

module _ {limits : Bounds} {states : ℕ → State} {last : ℕ} (run : IsRun limits states last) where
  abbrev w : Words
  w = words states run.records last

  -- ---- an indirection that a step makes

  record NewMade (t : ℕ) (j : Ref) : Type 0 where
    slot : Slot
    here : grown states (suc t) j ≡ Some slot
    made : Made (states t) j slot
    link : is_indirection slot.node ≡ true

  new_made : (t : ℕ) → t < last → (j : Ref) (was after : Option Slot) → grown states t j ≡ was → grown states (suc t) j ≡ after → is_indirection (node_of was) ≡ false →
      is_indirection (node_of after) ≡ true → NewMade t j
  new_made t lt j was None at_t at_next none is = absurd (true≢false (sym is))
  new_made t lt j None (Some slot) at_t at_next none is = record {
    slot = slot;
    here = at_next;
    made = new_is_made (states t) (grown states t) (grown states (suc t)) (word_move run t lt) j slot at_t at_next;
    link = is;
  }
  new_made t lt j (Some old) (Some slot) at_t at_next none is =
      let (now, found, ((m, e), birth)) = grown_stays run t (suc t) (omega arith) lt j old at_t in
      let same : is_indirection (node_of (Some slot)) ≡ is_indirection old.node = ap (λ o. is_indirection (node_of o)) (sym at_next ∙ found) ∙ ap is_indirection e ∙ link_kept m old.node in
      absurd (true≢false (sym is ∙ same ∙ none))

  pub data LinkMade (t : ℕ) (j m : Ref) : Type 0 where
    by_build : (k : ℕ) (operation : Operation) → operation_of (states t) k ≡ Some operation → (path : List Ref) (main : Ref) (position depth : ℕ) →
        operation.line ≡ line.Build (build.Link path main position m depth) → LinkMade t j m
    by_renew : (k : ℕ) (operation : Operation) → operation_of (states t) k ≡ Some operation → (path : List Ref) (main : Ref) (done : List Ref) →
        operation.line ≡ line.Renew (renew.Link path main done m) → gen_of states last j ≡ start_of operation → LinkMade t j m
    by_copy : gen_of states last j ≡ (states t).generations → LinkMade t j m

  module _ (t : ℕ) (lt : t < last) (j m : Ref) (main_is : w.main (suc t) j ≡ m) where
    module _ (n : NewMade t j) (h : ℕ) (word : Ref) (node : n.slot.node ≡ Indirection h word) where
      word_is : word ≡ m
      word_is = sym (ap main_of node) ∙ sym (ap (λ o. main_of (node_of o)) n.here) ∙ main_is

      generation_is : gen_of states last j ≡ h
      generation_is = told_generation states last h j (link_stands run (suc t) lt j n.slot n.here h word node)

      by_line : (l : Line) → n.made.operation.line ≡ l → LinkBy (states t) n.made.operation (IsInUse (states t).heap) l h word → LinkMade t j m
      by_line (line.Build (build.Link path main position below depth)) at e =
          by_build n.made.actor n.made.operation n.made.runs path main position depth (at ∙ ap (λ x. line.Build (build.Link path main position x depth)) (e ∙ word_is))
      by_line (line.Build (build.Single path main s former)) at e = absurd e
      by_line (line.Build (build.Pair path main position single depth)) at e = absurd e
      by_line (line.Build (build.Rung path main position below depth)) at e = absurd e
      by_line (line.Build (build.Main path main c former)) at e = absurd e
      by_line (line.Renew (renew.Link path main done child)) at (own, e) =
          by_renew n.made.actor n.made.operation n.made.runs path main done (at ∙ ap (λ x. line.Renew (renew.Link path main done x)) (e ∙ word_is)) (generation_is ∙ sym own)
      by_line (line.Renew (renew.Entry path main done)) at e = absurd e
      by_line (line.Renew (renew.Read path main done r)) at e = absurd e
      by_line (line.Renew (renew.Branch path main done)) at e = absurd e
      by_line (line.Copy l) at e = by_copy (generation_is ∙ e)
      by_line (line.Root l) at e = absurd e
      by_line (line.Key l) at e = absurd e
      by_line (line.Swap why s) at e = absurd e
      by_line (line.Clean l) at e = absurd e
      by_line (line.Climb l) at e = absurd e
      by_line (line.Walk l) at e = absurd e
      by_line (line.End answer) at e = absurd e
      by_line line.Impossible at e = absurd e

      by_made : LinkMade t j m
      by_made =
          by_line n.made.operation.line refl
          (link_by (states t) n.made.operation (IsInUse (states t).heap) n.made.operation.line
          (line_finds (states t) (safe_at run t (omega arith)) n.made.actor n.made.operation n.made.runs) h word
          (n.made.makes_it ∙ ap (λ y. Some y) (sym n.made.its_node ∙ node)))

    made_so : w.link t j ≡ false → w.link (suc t) j ≡ true → LinkMade t j m
    made_so none is =
        let n = new_made t lt j (grown states t j) (grown states (suc t) j) refl refl none is in
        let (h, word, node) = indirection_is n.slot.node n.link in
        by_made n h word node

  pub link_is_made : (t : ℕ) → t < last → (j m : Ref) → w.link t j ≡ false → w.link (suc t) j ≡ true → w.main (suc t) j ≡ m → LinkMade t j m
  link_is_made t lt j m none is main_is = made_so t lt j m main_is none is
