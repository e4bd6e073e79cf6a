-- A root that an operation is still to offer, or whose offer is still to be carried out, has the one main node over which it was made: nobody swaps into it.
use Rattle.std.proofs.Common.{◌≡◌, ℕ, suc, ◌<◌, ◌≤◌, Bool, true, false, ◌⊎◌, inl, inr, Some, refl, sym, ap, ◌∙◌, subst, arith}
use Rattle.std.proofs.lemmas.Bool.{true≢false}
use Rattle.proof_followed.specs.Beneath.slot_arena.specs.declared.refs.Ref.{Ref}
use Rattle.proof_followed.specs.Beneath.slot_arena.specs.declared.nodes.Prev.{Prev}
use Rattle.proof_followed.specs.Beneath.slot_arena.specs.declared.nodes.Prev.TheVariants as over
use Rattle.proof_followed.specs.Beneath.slot_arena.specs.Heaps.{empty_branch, generation_of, logical, node_of}
use Rattle.proof_followed.specs.Beneath.slot_arena.specs.Arenas.{is_indirection}
use Rattle.proof_followed.specs.Beneath.machine_model.specs.declared.operations.Operation.{Operation}
use Rattle.proof_followed.specs.Beneath.machine_model.specs.declared.steps.Bounds.{Bounds}
use Rattle.proof_followed.specs.Beneath.machine_model.specs.declared.steps.Outcome.{Outcome}
use Rattle.proof_followed.specs.Beneath.machine_model.specs.declared.steps.Step.{Step}
use Rattle.proof_followed.specs.Beneath.machine_model.specs.Calls.{handle_of, is_clear}
use Rattle.proof_followed.specs.Beneath.machine_model.specs.Grown.{grown, main_word, node_under, prev_word}
use Rattle.proof_followed.specs.Beneath.machine_model.specs.Moves.{Moves}
use Rattle.proof_followed.specs.Beneath.machine_model.specs.States.{State, operation_of}
use Rattle.proof_followed.specs.Beneath.machine_model.specs.Times.{IsRun}
use Rattle.proof_followed.specs.Beneath.machine_model.proofs.Fates.{place_of_actor}
use Rattle.proof_followed.specs.Beneath.proof_memory.specs.Laws.{is_end}
use Rattle.proof_followed.specs.Beneath.proof_memory.proofs.Heap.Moves.{not_yet_drawn}
use Rattle.proof_followed.specs.Beneath.proof_memory.proofs.Safety.AtEachTime.{safe_at}
use Rattle.proof_followed.specs.Beneath.proof_commits.specs.Protocol.{Words, Publishes}
use Rattle.proof_followed.specs.Beneath.proof_commits.proofs.Known.Owners.{Staged}
use Rattle.proof_followed.specs.Beneath.proof_commits.proofs.Known.Sounds.{sound_at}
use Rattle.proof_followed.specs.Beneath.proof_commits.proofs.Lines.Swap.{runs_publishing}
use Rattle.proof_followed.specs.Beneath.proof_commits.proofs.Words.OfRuns.{link_made}
use Rattle.proof_followed.specs.Beneath.proof_commits.proofs.Words.Stood.{Stood, IsOver, stands_now, over_pending, over_failed, none≢pending}
use Rattle.proof_followed.specs.Beneath.proof_generations.specs.Running.{Runs}
use Rattle.proof_followed.specs.Beneath.proof_generations.proofs.Falling.Brought.{makes, swaps, comes_in}
use Rattle.proof_followed.specs.Beneath.proof_generations.proofs.Falling.Counted.{fresh_used}
use Rattle.proof_followed.specs.Beneath.proof_generations.proofs.Falling.FreshRoots.{fresh_stands, not_rooted}
use Rattle.proof_followed.specs.Beneath.proof_generations.proofs.Falling.KnownRoots.{words, protocol_of}
use Rattle.proof_followed.specs.Beneath.proof_generations.proofs.Falling.Nodes.{used_generation}
use Rattle.proof_followed.specs.Beneath.proof_generations.proofs.Falling.OwnSwaps.{swaps_in_own_generation}
use Rattle.proof_followed.specs.Beneath.proof_generations.proofs.Roots.Along.{ordered_at}
use Rattle.proof_followed.specs.Beneath.proof_generations.proofs.Roots.Kept.{fresh_in}
use Rattle.proof_followed.specs.Beneath.proof_generations.proofs.Roots.Open.{no_close_at}
use Rattle.proof_followed.specs.Beneath.proof_generations.proofs.Roots.Own.{IsUnused}
use Rattle.proof_followed.specs.Beneath.proof_generations.proofs.Roots.Rooted.{rooted_at}
use Rattle.proof_order.specs.Beneath.proof_contents.specs.Runs.{counting_main}
use Rattle.proof_order.specs.Beneath.proof_contents.proofs.Values.Runs.{counting_main-made}
use Rattle.proof_order.proofs.Openings.AlongMoves.{along_moves}
use Rattle.proof_order.proofs.Openings.Copy.{copied}
use Rattle.proof_order.proofs.Openings.Fresh.{FreshBehind, stays, made, fresh_behind}
use Rattle.proof_order.proofs.Openings.FreshMains.{ShowsMain, show_at}

module _ {limits : Bounds} {states : ℕ → State} {last : ℕ} (run : IsRun limits states last) where
  abbrev pub w : Words
  w = words states run.records last

  -- nobody swaps into it
  module _ (t : ℕ) (within : t ≤ last) (k : ℕ) (operation : Operation) (x : Bool) (q : Ref) (runs : Runs (states t) k operation) (unmarked : operation.is_marked ≡ false)
      (has : fresh_in x operation.line ≡ Some q) where
    unused : IsUnused (states t) (run.records t) (generation_of (node_under states last q))
    unused =
        subst (IsUnused (states t) (run.records t)) (sym (used_generation run t within q (fresh_used run t within k operation x q runs has)))
        ((ordered_at run t within).roots.fresh k operation x q runs unmarked has)

    unswapped : (actor : ℕ) (a m : Ref) → w.stage t actor ≡ Publishes q a m → ⊥
    unswapped actor a m stage =
        let by = runs_publishing (operation_of (states t) actor) q a m stage in
        let (writable, its) = swaps_in_own_generation run t within actor by.operation by.is by.swaps.0 _ by.swaps.1 in
        let (j, place, at_j) = place_of_actor (states t) actor by.operation by.is in
        let going : is_end by.operation.line ≡ false = ap is_end by.swaps.1 in
        not_rooted states run.records t (handle_of by.operation.call) (generation_of (node_under states last q)) unused
        (rooted_at run t within j by.operation (generation_of (node_under states last q)) at_j (no_close_at run t within j by.operation at_j going) writable its)

  -- what stood there by the next step stood there before
  pub stood_before : (t : ℕ) → t < last → (k : ℕ) (operation : Operation) (x : Bool) (q : Ref) → Runs (states t) k operation → operation.is_marked ≡ false → fresh_in x operation.line ≡ Some q →
      (m : Ref) → Stood w (suc t) q m → Stood w t q m
  stood_before t lt k operation x q runs unmarked has m now = elim (comes_in (protocol_of run) t lt q m now) [
    | inl before ↦ before
    | inr (makes none is main) ↦ absurd (true≢false (sym (fresh_stands run t (omega (arith, lt)) k operation x q runs has) ∙ none))
    | inr (swaps actor a stage) ↦ absurd (unswapped t (omega (arith, lt)) k operation x q runs unmarked has actor a m stage)
  ]

  -- what stood there stands there
  abbrev AllStand : ℕ → Type 0
  AllStand t = (k : ℕ) (operation : Operation) (x : Bool) (q : Ref) → Runs (states t) k operation → operation.is_marked ≡ false → fresh_in x operation.line ≡ Some q →
      (m : Ref) → Stood w t q m → w.main t q ≡ m

  module _ (t : ℕ) (lt : t < last) (so_far : AllStand t) (s : Step) (o : Outcome) (mv : Moves (states t) s o (states (suc t))) where
    stand_by : (k : ℕ) (found : Operation) (x : Bool) (q : Ref) → Runs (states (suc t)) k found → found.is_marked ≡ false → fresh_in x found.line ≡ Some q →
        FreshBehind (states t) (run.records t) (safe_at run t (omega (arith, lt))) (ordered_at run t (omega (arith, lt))) s o (states (suc t)) mv k found x q →
        (m : Ref) → Stood w (suc t) q m → w.main (suc t) q ≡ m
    stand_by k found x q runs unmarked has (stays ran f kept) m stood =
        let was : (y : Ref) → Stood w (suc t) q y → w.main t q ≡ y =
        λ y there. so_far k ran.was x q ran.at_k (ran.unmarked unmarked) f y (stood_before t lt k ran.was x q ran.at_k (ran.unmarked unmarked) f y there) in
        sym (was (w.main (suc t) q) (stands_now (fresh_stands run (suc t) lt k found x q runs has) refl)) ∙ was m stood
    stand_by k found x q runs unmarked has (made ran main go does n side goes used node) m stood =
        let no_link : w.link t q ≡ false = ap (λ y. is_indirection (node_of y)) (not_yet_drawn run t (omega (arith, lt)) q n) in
        let sound = sound_at (protocol_of run) t (omega (arith, lt)) in
        elim (comes_in (protocol_of run) t lt q m stood) [
          | inl before ↦ absurd (true≢false (sym (sound.words.link q m before) ∙ no_link))
          | inr (makes none is word) ↦ word
          | inr (swaps actor a stage) ↦
              absurd (true≢false (sym (sound.words.link q a (sound.given actor q a (subst (Staged w t actor) stage (sound.staged actor)).1).stood) ∙ no_link))
        ]

    stand_next : AllStand (suc t)
    stand_next k found x q runs unmarked has m stood =
        stand_by k found x q runs unmarked has
        (fresh_behind (states t) (run.records t) (safe_at run t (omega (arith, lt))) (ordered_at run t (omega (arith, lt))) s o (states (suc t)) mv k found runs x q has) m stood

  pub stand_at : (t : ℕ) → t ≤ last → AllStand t
  stand_at = along_moves run AllStand (λ none k operation x q runs. absurd (none k operation runs)) (λ t lt so_far s o mv notes. stand_next t lt so_far s o mv)

  -- ---- so it is decided, and the expected one or, for a clear, an empty branch

  module _ (t : ℕ) (within : t ≤ last) (k : ℕ) (operation : Operation) (x : Bool) (q : Ref) (runs : Runs (states t) k operation) (unmarked : operation.is_marked ≡ false)
      (has : fresh_in x operation.line ≡ Some q) where
    link : w.link t q ≡ true
    link = fresh_stands run t within k operation x q runs has

    over_none : (p : Ref) → (w.prev t (w.main t q) ≡ over.None → ⊥) → IsOver (w.prev t (w.main t q)) p → ⊥
    over_none p undecided is =
        let sound = sound_at (protocol_of run) t within in
        let o = sound.words.over (w.main t q) p is in
        let same = sound.words.one_word (w.main t q) o.link q undecided o.stood (stands_now link refl) in
        let stands : w.main t q ≡ p = stand_at t within k operation x q runs unmarked has p (subst (λ i. Stood w t i p) same o.before) in
        undecided (subst (λ y. w.prev t y ≡ over.None) (sym stands) o.none)

    decided_by : (p : Prev) → w.prev t (w.main t q) ≡ p → w.prev t (w.main t q) ≡ over.None
    decided_by over.None e = e
    decided_by (over.Pending p) e = absurd (over_none p (λ none. none≢pending none e) (over_pending e))
    decided_by (over.Failed p) e = absurd (over_none p (λ none. let both : over.None ≡ over.Failed p = sym none ∙ e in let wrong : ⊥ = cc both in wrong) (over_failed e))

    pub fresh_decided : prev_word states t (main_word states t q) ≡ over.None
    fresh_decided = decided_by (w.prev t (w.main t q)) refl

    counted : counting_main states last t q ≡ main_word states t q
    counted = counting_main-made states last t q (link_made (grown states t q) link) ∙ ap (logical (main_word states t q)) fresh_decided

    pub fresh_shows : (main_word states t q ≡ (copied operation.line).1) ⊎ (node_under states last (main_word states t q) ≡ empty_branch)
    fresh_shows = by (is_clear operation.call) (subst (ShowsMain run (is_clear operation.call) (copied operation.line).1) counted (show_at run t within k operation x q runs unmarked has).main_is)
      where
        by : (b : Bool) → ShowsMain run b (copied operation.line).1 (main_word states t q) →
            (main_word states t q ≡ (copied operation.line).1) ⊎ (node_under states last (main_word states t q) ≡ empty_branch)
        by true h = inr h
        by false h = inl h
