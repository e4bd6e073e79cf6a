-- In a fresh root that is still to be opened stands the node that its maker was given and expects, or, by a clear, an empty branch that it made.
use Rattle.std.proofs.Common.{◌≡◌, ℕ, suc, ◌<◌, ◌≤◌, ◌⊎◌, Bool, true, false, inl, inr, Some, refl, sym, ap, ◌∙◌, subst, arith}
use Rattle.std.proofs.lemmas.Bool.{true≢false}
use Rattle.std.proofs.lemmas.Option.{none-some}
use Rattle.proof_owned.specs.Beneath.slot_arena.specs.declared.refs.Ref.{Ref}
use Rattle.proof_owned.specs.Beneath.slot_arena.specs.declared.nodes.Node.TheVariants.{Indirection}
use Rattle.proof_owned.specs.Beneath.slot_arena.specs.Heaps.{node_at, node_of, main_of, next_ref, empty_branch}
use Rattle.proof_owned.specs.Beneath.machine_model.specs.declared.operations.Operation.{Operation}
use Rattle.proof_owned.specs.Beneath.machine_model.specs.declared.steps.Bounds.{Bounds}
use Rattle.proof_owned.specs.Beneath.machine_model.specs.declared.steps.Outcome.{Outcome}
use Rattle.proof_owned.specs.Beneath.machine_model.specs.declared.steps.Step.{Step}
use Rattle.proof_owned.specs.Beneath.machine_model.specs.States.{State}
use Rattle.proof_owned.specs.Beneath.machine_model.specs.Grown.{main_word, node_under}
use Rattle.proof_owned.specs.Beneath.machine_model.specs.Moves.{Moves}
use Rattle.proof_owned.specs.Beneath.machine_model.specs.Times.{IsRun}
use Rattle.proof_owned.specs.Beneath.proof_memory.specs.Laws.{IsInUse}
use Rattle.proof_owned.specs.Beneath.proof_memory.specs.Wants.{is_indirection}
use Rattle.proof_owned.specs.Beneath.proof_memory.proofs.Safety.AtEachTime.{safe_at}
use Rattle.proof_owned.specs.Beneath.proof_memory.proofs.Safety.AtTimes.{node_found}
use Rattle.proof_owned.specs.Beneath.proof_memory.proofs.Heap.Moves.{not_yet_drawn}
use Rattle.proof_owned.specs.Beneath.proof_commits.specs.Protocol.{Words, Builds, Protocol}
use Rattle.proof_owned.specs.Beneath.proof_commits.specs.Stages.{stage_of, stage_of_actor}
use Rattle.proof_owned.specs.Beneath.proof_commits.proofs.Words.Stood.{Stood}
use Rattle.proof_owned.specs.Beneath.proof_commits.proofs.Known.Owners.{Staged}
use Rattle.proof_owned.specs.Beneath.proof_commits.proofs.Known.Sounds.{sound_at}
use Rattle.proof_owned.specs.Beneath.proof_generations.specs.Running.{Runs}
use Rattle.proof_owned.specs.Beneath.proof_generations.proofs.Falling.KnownRoots.{words, protocol_of}
use Rattle.proof_owned.specs.Beneath.proof_generations.proofs.Falling.Brought.{Brought, makes, swaps, comes_in}
use Rattle.proof_owned.specs.Beneath.proof_generations.proofs.Falling.FreshRoots.{fresh_stands}
use Rattle.proof_owned.specs.Beneath.proof_generations.proofs.Roots.Kept.{fresh_in}
use Rattle.proof_owned.specs.Beneath.proof_generations.proofs.Roots.Along.{ordered_at}
use Rattle.proof_order.proofs.Openings.AlongMoves.{along_moves}
use Rattle.proof_order.proofs.Openings.Fresh.{FreshBehind, stays, made, fresh_behind}
use Rattle.proof_order.proofs.Openings.Copy.{copied, copied_kept, copied_made, MakesOver, over_found, over_branch, makes_over}
use Rattle.proof_owned.specs.Beneath.proof_generations.specs.Falling.{WasOpened}
use Rattle.proof_owned.specs.Beneath.proof_generations.proofs.Falling.Nodes.{used_generation}
use Rattle.proof_owned.specs.Beneath.proof_generations.proofs.Falling.Runs.{gen_of}
use Rattle.proof_owned.specs.Beneath.proof_generations.proofs.Falling.Counted.{fresh_used}
use Rattle.proof_order.proofs.Openings.Branches as branch
use Rattle.proof_order.proofs.Openings.Branches.{empty_at}
use Rattle.proof_order.proofs.Openings.NeverStood.{new_at}
use Rattle.proof_owned.proofs.Brought.{IsBrought, builds}
use Rattle.proof_owned.proofs.Reading.{publishing_opened}

module _ {limits : Bounds} {states : ℕ → State} {last : ℕ} (run : IsRun limits states last) where
  abbrev w : Words
  w = words states run.records last

  abbrev p : Protocol
  p = protocol_of run

  -- no handle had its generation
  pub fresh_unopened : (t : ℕ) → t ≤ last → (k : ℕ) (operation : Operation) (x : Bool) (q : Ref) → Runs (states t) k operation → operation.is_marked ≡ false → fresh_in x operation.line ≡ Some q →
      WasOpened states t (gen_of states last q) → ⊥
  fresh_unopened t within k operation x q at_k unmarked f (u, le, (handle, root, e, its)) =
      (new_at run t within k operation x q at_k unmarked f).never u handle root le e (its ∙ used_generation run t within q (fresh_used run t within k operation x q at_k f))

  -- an empty branch that a clear made for this root
  pub record IsCleared (q m : Ref) : Type 0 where
    pub brought : IsBrought (words states run.records last) last q m
    pub empty : node_under states last m ≡ empty_branch

  abbrev pub IsExpected : ℕ → Type 0
  IsExpected t =
      (k : ℕ) (operation : Operation) (x : Bool) (q m : Ref) → Runs (states t) k operation → operation.is_marked ≡ false → fresh_in x operation.line ≡ Some q →
      Stood (words states run.records last) t q m → (m ≡ (copied operation.line).1) ⊎ IsCleared q m

  module _ (t : ℕ) (lt : t < last) (so_far : IsExpected t) (s : Step) (o : Outcome) (mv : Moves (states t) s o (states (suc t))) where
    -- ---- a root that was there

    stays_by : (k : ℕ) (was : Operation) (x : Bool) (q m : Ref) → Runs (states t) k was → was.is_marked ≡ false → fresh_in x was.line ≡ Some q →
        Stood w t q m ⊎ Brought w t q m → (m ≡ (copied was.line).1) ⊎ IsCleared q m
    stays_by k was x q m at_k unmarked f (inl before) = so_far k was x q m at_k unmarked f before
    stays_by k was x q m at_k unmarked f (inr (makes none is main)) = absurd (true≢false (sym (fresh_stands run t (omega arith) k was x q at_k f) ∙ none))
    stays_by k was x q m at_k unmarked f (inr (swaps l a stage)) =
        absurd (fresh_unopened t (omega arith) k was x q at_k unmarked f (publishing_opened run t (omega arith) l q a m stage))

    -- ---- a root that is made

    module _ (k : ℕ) (was : Operation) (main q m : Ref) (at_k : Runs (states t) k was) (n : next_ref (states t).heap ≡ Some q)
        (used : IsInUse (states (suc t)).heap q) (node : node_at (states (suc t)).heap q ≡ Indirection (states t).generations main) (now : Stood w (suc t) q m) where
      its_main : main_word states (suc t) q ≡ main
      its_main = ap main_of (sym (node_found states (suc t) q used) ∙ node)

      no_link : w.link t q ≡ false
      no_link = ap (λ x. is_indirection (node_of x)) (not_yet_drawn run t (omega arith) q n)

      main_by : Stood w t q m ⊎ Brought w t q m → main ≡ m
      main_by (inl before) = absurd (true≢false (sym ((sound_at p t (omega arith)).words.link q m before) ∙ no_link))
      main_by (inr (makes none is word)) = sym its_main ∙ word
      main_by (inr (swaps l a stage)) =
          let given = (subst (λ s. Staged w t l s) stage ((sound_at p t (omega arith)).staged l)).1 in
          absurd (true≢false (sym ((sound_at p t (omega arith)).words.link q a ((sound_at p t (omega arith)).given l q a given).stood) ∙ no_link))

      is_link : w.link (suc t) q ≡ true
      is_link = (sound_at p (suc t) lt).words.link q m now

      made_by : main ≡ m → MakesOver (states t) was was.line main → (m ≡ (copied was.line).1) ⊎ IsCleared q m
      made_by same (over_found root clear (inl e)) = inl (sym same ∙ sym (ap (λ l. (copied l).1) e))
      made_by same (over_found root clear (inr (successor, e))) = inl (sym same ∙ sym (ap (λ l. (copied l).1) e))
      made_by same (over_branch root found clear e) = inr (record {
        brought = record { at = t; before = lt; actor = suc k; stood = now; how = builds (ap stage_of_actor at_k ∙ ap stage_of e ∙ ap Builds same) no_link is_link };
        empty = ap (node_under states last) (sym same) ∙ empty_at run t (omega arith) k was main at_k (subst (λ l. branch.IsCleared l main) (sym e) refl);
      })

    -- ---- all of them

    carried_on : (c d : Ref × Ref) (q m : Ref) → c ≡ d → (m ≡ d.1) ⊎ IsCleared q m → (m ≡ c.1) ⊎ IsCleared q m
    carried_on c d q m same x = subst (λ y. (m ≡ y.1) ⊎ IsCleared q m) (sym same) x

    expected_by : (k : ℕ) (found : Operation) (x : Bool) (q m : Ref) → Runs (states (suc t)) k found → found.is_marked ≡ false → fresh_in x found.line ≡ Some q →
        Stood w (suc t) q m →
        FreshBehind (states t) (run.records t) (safe_at run t (omega arith)) (ordered_at run t (omega arith)) s o (states (suc t)) mv k found x q →
        (m ≡ (copied found.line).1) ⊎ IsCleared q m
    expected_by k found x q m now_runs unmarked e now (stays ran f kept) =
        carried_on (copied found.line) (copied ran.was.line) q m
        (elim ran.line [
          | inl stood ↦ ap copied stood
          | inr (inl goes) ↦ ap copied goes.1 ∙ copied_kept (states t) ran.was ran.was.line x x q q f (ap (fresh_in x) (sym goes.1) ∙ e)
          | inr (inr ended) ↦ absurd (none-some q (sym (ap (fresh_in x) ended.1) ∙ e))
        ])
        (stays_by k ran.was x q m ran.at_k (ran.unmarked unmarked) f (comes_in p t lt q m now))
    expected_by k found x q m now_runs unmarked e now (made ran main go does n side goes used node) =
        let over = makes_over (states t) ran.was ran.was.line main ((ordered_at run t (omega arith)).offers.own k ran.was ran.at_k) does in
        carried_on (copied found.line) (copied ran.was.line) q m (ap copied goes ∙ copied_made (states t) ran.was ran.was.line main q does n)
        (made_by k ran.was main q m ran.at_k n used node now (main_by k ran.was main q m ran.at_k n used node now (comes_in p t lt q m now)) over)

    expected_next : IsExpected (suc t)
    expected_next k found x q m now_runs unmarked e now =
        expected_by k found x q m now_runs unmarked e now
        (fresh_behind (states t) (run.records t) (safe_at run t (omega arith)) (ordered_at run t (omega arith)) s o (states (suc t)) mv k found now_runs x q e)

  pub expected_at : (t : ℕ) → t ≤ last → IsExpected t
  expected_at = along_moves run IsExpected (λ none k operation x q m at_k. absurd (none k operation at_k)) (λ t h so_far s o mv notes. expected_next t h so_far s o mv)
