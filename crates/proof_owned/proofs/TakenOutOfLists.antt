-- The laws of indirections that were taken out, for every list of steps.
use Rattle.std.proofs.Common.{◌≡◌, ℕ, ◌≤◌, true, Contains, List, sym, ap, ◌∙◌, subst, arith}
use Rattle.proof_owned.specs.Beneath.slot_arena.specs.declared.refs.Ref.{Ref}
use Rattle.proof_owned.specs.Beneath.slot_arena.specs.Heaps.{entries_of, logical_main, node_at}
use Rattle.proof_owned.specs.Beneath.machine_model.specs.declared.steps.Bounds.{Bounds}
use Rattle.proof_owned.specs.Beneath.machine_model.specs.declared.steps.Step.{Step}
use Rattle.proof_owned.specs.Beneath.machine_model.specs.Machine.{AreBounds}
use Rattle.proof_owned.specs.Beneath.machine_model.specs.States.{State}
use Rattle.proof_owned.specs.Beneath.machine_model.specs.Times.{IsRun, states_of, last_of}
use Rattle.proof_owned.specs.Beneath.machine_model.proofs.Times.{run_is}
use Rattle.proof_owned.specs.Beneath.proof_memory.specs.Wants.{is_indirection}
use Rattle.proof_owned.specs.Beneath.proof_commits.specs.Protocol.{logical_at}
use Rattle.proof_owned.specs.Beneath.proof_commits.specs.Runs.{HasIndirection}
use Rattle.proof_owned.specs.Beneath.proof_generations.proofs.Falling.KnownRoots.{words}
use Rattle.proof_owned.specs.Beneath.proof_generations.proofs.Falling.Nodes.{link_used, used_entries, used_generation}
use Rattle.proof_owned.specs.Beneath.proof_generations.proofs.Lines.ReaderKnows.{indirection_is}
use Rattle.proof_shape.proofs.Held.Fresh.{Names}
use Rattle.proof_owned.specs.Beneath.proof_generations.proofs.Falling.Runs.{gen_of}
use Rattle.proof_owned.specs.Beneath.machine_model.specs.Grown.{node_under}
use Rattle.proof_owned.specs.Owned.{IsOwn, IsLinked}
use Rattle.proof_owned.specs.Laws.{IsTakenOut, TakenOutIsUnlinked, MainsOfTakenOutAreUnlinked}
use Rattle.proof_owned.proofs.MainsInUse.{link_at, logical_is, logical_used}
use Rattle.proof_owned.proofs.Earlier.{IsLink}
use Rattle.proof_owned.proofs.TakenOut.{unlinked, main_unlinked}
use Rattle.proof_owned.proofs.Theirs.{theirs}

module _ (limits : Bounds) (steps : List Step) (ok : AreBounds limits) (a c : Ref) (out : IsTakenOut limits steps a c) where
  abbrev states : ℕ → State
  states = states_of limits steps

  abbrev last : ℕ
  last = last_of limits steps

  abbrev is_run : IsRun limits states last
  is_run = run_is limits steps ok

  is_link : IsLink is_run c
  is_link =
      let (h, word, node) = indirection_is (node_at (states out.before).heap c) out.link.1 in
      let (now, is) = link_used is_run out.before (omega (arith, out.order, out.within)) c out.link.0 h word node in
      (h, now, is)

  own : gen_of states last c ≡ gen_of states last a
  own =
      used_generation is_run out.before (omega (arith, out.order, out.within)) c out.link.0 ∙ out.own
      ∙ sym (used_generation is_run out.before (omega (arith, out.order, out.within)) a out.had.0)

  -- the main node that counts has the entry, as a node in use and in the heap that only grows
  named_is : (t : ℕ) → t ≤ last → HasIndirection (states t) a →
      Contains (entries_of (node_at (states t).heap (logical_main (states t).heap a))) c ≡ Names is_run (logical_at (words states is_run.records last) t a) c
  named_is t within has =
      ap (λ es. Contains es c) (sym (used_entries is_run t within (logical_main (states t).heap a) (logical_used is_run t within a has)))
      ∙ ap (λ m. Names is_run m c) (logical_is is_run t within a has)

  linked : is_indirection (node_under states out.before a) ≡ true
  linked = link_at is_run out.before a out.had

  was : Names is_run (logical_at (words states is_run.records last) out.before a) c
  was = subst (λ X. X) (named_is out.before (omega (arith, out.order, out.within)) out.had) out.was

  gone : Names is_run (logical_at (words states is_run.records last) out.after a) c → ⊥
  gone names = out.gone (subst (λ X. X) (sym (named_is out.after out.within out.has)) names)

  it_is_unlinked : IsLinked (states last) c → ⊥
  it_is_unlinked = unlinked is_run a c is_link own out.before out.after out.order out.within linked was gone

  main_is_unlinked : (m : Ref) → IsOwn states last c m → IsLinked (states last) m → ⊥
  main_is_unlinked m its = main_unlinked is_run a c is_link own out.before out.after out.order out.within linked was gone m (theirs is_run c m its)

pub taken_out_is_unlinked : TakenOutIsUnlinked
taken_out_is_unlinked limits steps ok a c out = it_is_unlinked limits steps ok a c out

pub mains_of_taken_out_are_unlinked : MainsOfTakenOutAreUnlinked
mains_of_taken_out_are_unlinked limits steps ok a c m out its = main_is_unlinked limits steps ok a c out m its
