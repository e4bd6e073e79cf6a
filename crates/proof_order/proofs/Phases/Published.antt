-- A SWAP that has swapped its node in, along a run: a commit is of a pending node, a committed one stays so and is seen so, and it is one actor's.
use Rattle.std.proofs.Common.{◌≡◌, ℕ, suc, ◌<◌, ◌≤◌, Some, sym, ap, ◌∙◌, subst, arith}
use Rattle.proof_order.specs.Beneath.slot_arena.specs.declared.nodes.Prev.TheVariants as prev
use Rattle.proof_order.specs.Vocabulary.{Ref, prev_at, prev_of, Purpose, Operation, Swap, SwapLine, Bounds, Outcome, State, operation_of, action_of, line_action, Moves, grown, prev_word, IsRun}
use Rattle.proof_order.specs.Vocabulary.{committed_now, Protocol, stage_of, stage_of_actor, stage_of_swap}
use Rattle.proof_order.specs.Beneath.machine_model.specs.declared.actions.Action.TheVariants as act
use Rattle.proof_order.specs.Beneath.machine_model.specs.declared.lines.Line.TheVariants as line
use Rattle.proof_order.specs.Beneath.machine_model.specs.declared.reading.SwapLine.TheVariants as swap
use Rattle.proof_order.specs.Beneath.machine_model.specs.declared.steps.Step.TheVariants as step
use Rattle.proof_order.specs.Beneath.proof_memory.proofs.Safety.AtTimes.{prev_found}
use Rattle.proof_order.specs.Beneath.proof_commits.proofs.Words.Stood.{Stood}
use Rattle.proof_order.specs.Beneath.proof_commits.proofs.Known.Owners.{Staged}
use Rattle.proof_order.specs.Beneath.proof_commits.proofs.Known.Sounds.{sound_at}
use Rattle.proof_order.specs.Beneath.proof_commits.proofs.Course.Finals.{none_final}
use Rattle.proof_order.specs.Beneath.proof_commits.proofs.Known.Given.{Known, Decided, ActsOn}
use Rattle.proof_order.specs.Beneath.proof_commits.proofs.Known.Acts.{known_run}
use Rattle.proof_order.specs.Beneath.proof_commits.proofs.Known.Claims.{HasMain, Finds, finds}
use Rattle.proof_order.specs.Beneath.proof_commits.proofs.Words.Along.{protocol}
use Rattle.proof_order.specs.Facts.{Runs}
use Rattle.proof_order.specs.Phases.{IsPublished}
use Rattle.proof_order.proofs.Phases.Commits.{line_decides, now_none}
use Rattle.proof_order.specs.Beneath.proof_commits.proofs.Lines.Read.{was_pending}

module _ {limits : Bounds} {states : ℕ → State} {last : ℕ} (run : IsRun limits states last) where
  abbrev known : Known limits states last
  known = known_run run

  -- the words of the run
  abbrev pub run_words : Protocol
  run_words = protocol limits states last known

  -- ---- a SWAP

  module _ (t k : ℕ) (within : t ≤ last) (operation : Operation) (runs : Runs (states t) k operation) (why : Purpose) (s : Swap) (at : operation.line ≡ line.Swap why s) where
    stage_so : run_words.words.stage t (suc k) ≡ stage_of_swap s.indirection s.replaced s.fresh s.line
    stage_so = ap stage_of_actor runs ∙ ap stage_of at

    staged_so : Staged run_words.words t (suc k) (stage_of_swap s.indirection s.replaced s.fresh s.line)
    staged_so = subst (λ x. Staged run_words.words t (suc k) x) stage_so ((sound_at run_words t within).staged (suc k))

    stood_so : IsPublished s.line → Stood run_words.words t s.indirection s.fresh
    stood_so published = by s.line published staged_so
      where
        by : (l : SwapLine) → IsPublished l → Staged run_words.words t (suc k) (stage_of_swap s.indirection s.replaced s.fresh l) → Stood run_words.words t s.indirection s.fresh
        by swap.Publish none h = absurd none
        by (swap.Deciding l) tt h = h.1
        by swap.Check tt h = h.0

    -- a committed node stays committed
    pub stays_none : t < last → IsPublished s.line → prev_word states t s.fresh ≡ prev.None → prev_word states (suc t) s.fresh ≡ prev.None
    stays_none lt published none = none_final run_words s.indirection s.fresh t (suc t) (omega arith) lt (stood_so published) none

    -- a pending one was swapped in
    pub pending_published : (q : Ref) → prev_word states t s.fresh ≡ prev.Pending q → IsPublished s.line
    pending_published q pending = by s.line staged_so
      where
        clash : prev.None ≡ prev.Pending q → ⊥
        clash e = cc e

        by : (l : SwapLine) → Staged run_words.words t (suc k) (stage_of_swap s.indirection s.replaced s.fresh l) → IsPublished l
        by swap.Publish h = absurd (clash (sym (h.0.none) ∙ pending))
        by (swap.Deciding l) h = tt
        by swap.Check h = tt

    -- and is seen so
    pub seen : t < last → s.line ≡ swap.Check → prev_at (states t).heap s.fresh ≡ prev_word states t s.fresh
    seen lt is =
        let does : action_of (states t) operation ≡ act.ReadPrev s.fresh =
        ap (line_action (states t) operation) at ∙ ap (λ l. line_action (states t) operation (line.Swap why (record s { line = l }))) is in
        let h : HasMain (states t) s.fresh = subst (Finds (states t)) does (finds run t lt (suc k) operation runs) in
        prev_found states t s.fresh (h.slot, h.stands)

  -- ---- a commit

  -- what it commits was pending, and isn't any more
  pub record Committed (t : ℕ) (main : Ref) : Type 0 where
    pub previous : Ref
    pub was : prev_word states t main ≡ prev.Pending previous
    pub is : prev_word states (suc t) main ≡ prev.None

  pub committed_so : (t actor : ℕ) (operation : Operation) (o : Outcome) (main : Ref) → t < last → Moves (states t) (step.Go actor) o (states (suc t)) →
      operation_of (states t) actor ≡ Some operation →
      committed_now (states t) operation ≡ Some main → Committed t main
  committed_so t actor operation o main lt m is now =
      let d = line_decides (states t) operation main operation.line now in
      let (i, found, g, does) = subst (ActsOn states t) d.is_it (known.acts t lt actor o m operation is) in
      let change = subst (λ v. Decided states t main d.previous v) d.commits does in
      record {
        previous = d.previous;
        was = sym found.prev ∙ was_pending (states t).heap d.indirection main d.previous d.told d.commits;
        is = ap prev_of change.here ∙ now_none (grown states t main);
      }
