-- The fresh roots that an operation is to offer: while it is to offer them none is swapped into, and no other indirection has their generation.
use Rattle.std.proofs.Common.{◌≡◌, ℕ, suc, ◌<◌, ◌≤◌, ◌⊎◌, Bool, true, false, Option, Some, None, inl, inr, refl, sym, ap, ◌∙◌, subst, arith}
use Rattle.std.proofs.lemmas.Bool.{true≢false}
use Rattle.std.proofs.lemmas.Option.{none-some, same_Some}
use Rattle.proof_generations.specs.Vocabulary.{Writable, Indirection, Slot, Outcome, handle_of, action_of, Moves, GoesOn, main_word, Ref, node_at, node_of, generation_at, main_of, next_ref}
use Rattle.proof_generations.specs.Vocabulary.{Operation, Bounds, State, IsRun, grown, Record, noted_progress, progress_of, made_node, IsInUse}
use Rattle.proof_generations.specs.Beneath.machine_model.specs.declared.steps.Step.TheVariants as step
use Rattle.proof_generations.specs.Beneath.proof_memory.proofs.Heap.Moves.{not_yet_drawn}
use Rattle.proof_commits.proofs.Known.Sounds.{sound_at}
use Rattle.proof_generations.proofs.Falling.Nodes.{link_used, told_generation}
use Rattle.proof_generations.proofs.Lines.Knows.{IsInner}
use Rattle.proof_generations.proofs.Falling.Runs.{MainsFall}
use Rattle.proof_generations.proofs.Falling.Counted.{made_below, start_below}
use Rattle.proof_generations.proofs.Lines.OwnKnows.{new_used}
use Rattle.proof_generations.specs.Beneath.machine_model.specs.declared.actions.Action.TheVariants as act
use Rattle.proof_generations.specs.Beneath.proof_memory.specs.Wants.{is_indirection}
use Rattle.proof_generations.specs.Beneath.proof_memory.proofs.Safety.AtEachTime.{safe_at}
use Rattle.proof_generations.specs.Beneath.proof_memory.proofs.Safety.AtTimes.{line_finds, node_found}
use Rattle.proof_generations.specs.Beneath.proof_memory.proofs.Claims.Uses.{safe_of, meets_of}
use Rattle.proof_commits.proofs.Words.Stood.{Stood}
use Rattle.proof_generations.proofs.Counter.Below.{below_at, looked_up_below}
use Rattle.proof_generations.proofs.Roots.Own.{IsUnused}
use Rattle.proof_generations.proofs.Roots.Along.{ordered_at}
use Rattle.proof_generations.proofs.Roots.Kept.{fresh_in, fresh_link}
use Rattle.proof_generations.specs.Running.{Runs}
use Rattle.proof_generations.proofs.Falling.KnownRoots.{words, protocol_of}
use Rattle.proof_generations.proofs.Falling.Nodes.{used_generation}
use Rattle.proof_generations.proofs.Falling.Runs.{gen_of, FallsBelow, AllKnow, FreshFalls, falls_next}
use Rattle.proof_generations.proofs.Falling.NewLinks.{new_link}
use Rattle.proof_generations.proofs.Falling.Counted.{fresh_used}
use Rattle.proof_generations.proofs.Falling.MainsNext.{inner_rooted, swaps_in}
use Rattle.proof_generations.proofs.Falling.Brought.{Brought, makes, swaps, comes_in}
use Rattle.proof_generations.proofs.Lines.ReaderKnows.{indirection_is}
use Rattle.proof_generations.specs.Standing.{IsRooted}
use Rattle.proof_generations.proofs.Roots.Rooted.{standing_root}

-- a generation that no root has isn't that of an operation
pub not_rooted : (states : ℕ → State) (records : ℕ → Record) (t handle g : ℕ) → IsUnused (states t) (records t) g → IsRooted states records t handle g → ⊥
not_rooted states records t handle g u (inl on) = let (root, is, writable, its) = standing_root (states t) handle Writable g on in u.alone handle root is its
not_rooted states records t handle g u (inr (c, before, closed, on)) = none-some c (sym u.unclosed ∙ closed)

module _ {limits : Bounds} {states : ℕ → State} {last : ℕ} (run : IsRun limits states last) where
  pub fresh_stands : (t : ℕ) → t ≤ last → (k : ℕ) (operation : Operation) (x : Bool) (r : Ref) → Runs (states t) k operation → fresh_in x operation.line ≡ Some r →
      (words states run.records last).link t r ≡ true
  fresh_stands t within k operation x r runs e =
      let claim = fresh_link (IsInUse (states t).heap) (states t) operation operation.line
      (line_finds (states t) (safe_at run t within) (suc k) operation runs) x r e in
      let (h, word, is) = indirection_is (node_at (states t).heap r) (meets_of claim) in
      ap is_indirection (sym (node_found states t r (safe_of claim)) ∙ is)

  module _ (t : ℕ) (lt : t < last) (know : AllKnow states run.records last t) (k : ℕ) (was : Operation) (x : Bool) (r : Ref) (runs : Runs (states t) k was)
      (unmarked : was.is_marked ≡ false) (has : fresh_in x was.line ≡ Some r)
      (falls : FreshFalls states run.records last t was r) where
    at_end : gen_of states last r ≡ generation_at (states t).heap r
    at_end = used_generation run t (omega arith) r (fresh_used run t (omega arith) k was x r runs has)

    unused : IsUnused (states t) (run.records t) (gen_of states last r)
    unused = subst (IsUnused (states t) (run.records t)) (sym at_end) ((ordered_at run t (omega arith)).roots.fresh k was x r runs unmarked has)

    counted : gen_of states last r < (states t).generations
    counted = omega (arith, at_end, looked_up_below (states t) (below_at run t (omega arith)) r)

    -- no operation has its generation
    no_start : (j : ℕ) (other : Operation) → Runs (states t) j other → other.access ≡ Writable → IsInner other.line → (g : ℕ) → other.generation ≡ Some g → gen_of states last r ≡ g → ⊥
    no_start j other runs w inner g begun same =
        not_rooted states run.records t (handle_of other.call) g (subst (IsUnused (states t) (run.records t)) same unused) (inner_rooted run t lt j other runs w inner g begun)

    only_by : (i : Ref) (b : Bool) → (words states run.records last).link t i ≡ b → (words states run.records last).link (suc t) i ≡ true → gen_of states last i ≡ gen_of states last r → i ≡ r
    only_by i true was now same = falls.only i was same
    only_by i false was now same =
        let n = new_link run t lt know i was now in
        absurd (elim n.kind [
          | inl own ↦ no_start n.k n.operation n.runs n.writable n.inner n.g n.begun (sym same ∙ own)
          | inr drawn ↦ omega (arith, counted, drawn, same)
        ])

    falls_by : (m : Ref) (g : ℕ) → was.generation ≡ Some g → Stood (words states run.records last) t r m ⊎ Brought (words states run.records last) t r m →
        FallsBelow states run.records last (suc t) g m
    falls_by m g begun (inl stood) = falls_next run t lt g m (falls.falls m g stood begun)
    falls_by m g begun (inr (makes none is main)) = absurd (true≢false (sym (fresh_stands t (omega arith) k was x r runs has) ∙ none))
    falls_by m g begun (inr (swaps j a stage)) =
        let s = swaps_in run t lt know j r a m stage in
        absurd (no_start s.k s.operation s.runs s.writable s.inner s.g s.begun s.own)

    pub fresh_still : (found : Operation) → found.generation ≡ was.generation → FreshFalls states run.records last (suc t) found r
    fresh_still found same = record {
      only = λ i link gen. only_by i ((words states run.records last).link t i) refl link gen;
      falls = λ m g stood begun. falls_by m g (sym same ∙ begun) (comes_in (protocol_of run) t lt r m stood);
      newer = λ g begun. falls.newer g (sym same ∙ begun);
    }

  -- ---- a root that is made now

  module _ (t : ℕ) (lt : t < last) (know : AllKnow states run.records last t) (k : ℕ) (was : Operation) (r main : Ref) (runs : Runs (states t) k was) (o : Outcome)
      (moves : Moves (states t) (step.Go (suc k)) o (states (suc t)))
      (goes : GoesOn (action_of (states t) was)) (mains : MainsFall states run.records last (suc t)) (makes_it : action_of (states t) was ≡ act.MakeRoot main)
      (takes : next_ref (states t).heap ≡ Some r)
      (noted : run.records (suc t) ≡ noted_progress (run.records t) (states t).steps (suc k) (progress_of (states t) was)) where
    new_used_root : IsInUse (states (suc t)).heap r × (node_at (states (suc t)).heap r ≡ Indirection (states t).generations main)
    new_used_root = new_used run t lt mains k was runs o moves goes noted (Indirection (states t).generations main) r (ap (made_node (states t)) makes_it) takes

    drawn : gen_of states last r ≡ (states t).generations
    drawn =
        told_generation states last (states t).generations r (link_used run (suc t) lt r new_used_root.0 (states t).generations main new_used_root.1)

    its_main : main_word states (suc t) r ≡ main
    its_main = ap main_of (sym (node_found states (suc t) r new_used_root.0) ∙ new_used_root.1)

    unmade : grown states t r ≡ None
    unmade = not_yet_drawn run t (omega arith) r takes

    no_link : (words states run.records last).link t r ≡ false
    no_link = ap (λ q. is_indirection (node_of q)) unmade

    new_only_by : (i : Ref) (before : Option Slot) → grown states t i ≡ before → is_indirection (node_of before) ≡ false → (words states run.records last).link (suc t) i ≡ true → i ≡ r
    new_only_by i before was none now = same_Some _ _ (sym (new_link run t lt know i (ap (λ q. is_indirection (node_of q)) was ∙ none) now).takes ∙ takes)

    new_only : (i : Ref) (before : Option Slot) → grown states t i ≡ before → (words states run.records last).link (suc t) i ≡ true → gen_of states last i ≡ gen_of states last r → i ≡ r
    new_only i None was now same = new_only_by i None was refl now
    new_only i (Some slot) was now same = absurd (omega (arith, made_below run t (omega arith) i slot was, same, drawn))

    module _ (g : ℕ) (begun : was.generation ≡ Some g) (falls : FallsBelow states run.records last t g main) where
      new_falls_by : (m : Ref) → Stood (words states run.records last) t r m ⊎ Brought (words states run.records last) t r m → FallsBelow states run.records last (suc t) g m
      new_falls_by m (inl stood) =
          absurd (true≢false (sym ((sound_at (protocol_of run) t (omega arith)).words.link r m stood) ∙ no_link))
      new_falls_by m (inr (makes none is word)) = subst (FallsBelow states run.records last (suc t) g) (sym its_main ∙ word) (falls_next run t lt g main falls)
      new_falls_by m (inr (swaps j a stage)) =
          let s = swaps_in run t lt know j r a m stage in
          absurd (omega (arith, start_below run t (omega arith) (suc s.k) s.operation s.g s.runs s.begun, s.own, drawn))

      pub fresh_new : (found : Operation) → found.generation ≡ was.generation → FreshFalls states run.records last (suc t) found r
      fresh_new found same = record {
        only = λ i link gen. new_only i (grown states t i) refl link gen;
        falls = λ m h stood told.
            subst (λ y. FallsBelow states run.records last (suc t) y m) (same_Some _ _ (sym begun ∙ sym same ∙ told)) (new_falls_by m (comes_in (protocol_of run) t lt r m stood));
        newer = λ h told.
            omega (arith, start_below run t (omega arith) (suc k) was h runs (sym same ∙ told), drawn);
      }
