-- The roots that a copy has made for its offer stand over the main node that the offer expects or, for a clear, over one without entries, until it has found what came of the offer.
use Rattle.std.proofs.Common.{◌≡◌, ◌==◌, ◌++◌, ◌≤◌, ℕ, suc, Bool, true, false, List, [], ◌∷◌, Contains, Option, Some, None, is_some, get_or, length, refl, sym, ap, subst, ◌∙◌, arith, eq-eqb, eqb-true}
use Rattle.std.proofs.lemmas.Bool.{false≢true, true≢false}
use Rattle.std.proofs.lemmas.List.{length-append}
use Rattle.history.specs.declared.calls.Call.{Call}
use Rattle.history.specs.declared.calls.Call.TheVariants.{Clear, Snapshot, Freeze}
use Rattle.machine_model.specs.Beneath.slot_arena.specs.declared.nodes.Node.{Node}
use Rattle.machine_model.specs.Beneath.slot_arena.specs.declared.nodes.Node.TheVariants.{Indirection, Branch, Single, Tomb, List as Listed}
use Rattle.machine_model.specs.Beneath.slot_arena.specs.declared.refs.Ref.{Ref}
use Rattle.machine_model.specs.Beneath.slot_arena.specs.Heaps.{empty_branch, generation_of, logical, main_at, main_of, node_at, node_of, refs_of_node}
use Rattle.machine_model.specs.declared.copying.CopyLine.TheVariants as copy
use Rattle.machine_model.specs.declared.lines.Line.TheVariants as line
use Rattle.machine_model.specs.declared.operations.Operation.{Operation}
use Rattle.machine_model.specs.declared.roots.Complete.{Complete}
use Rattle.machine_model.specs.declared.steps.Bounds.{Bounds}
use Rattle.machine_model.specs.declared.steps.Step.{Step}
use Rattle.machine_model.specs.Calls.{is_clear, opens_handle}
use Rattle.machine_model.specs.Grown.{grown, main_word, node_under, standing}
use Rattle.machine_model.specs.Machine.{AreBounds, run, taken_from, taken_steps}
use Rattle.machine_model.specs.States.{State, first_state, operation_of}
use Rattle.machine_model.specs.Times.{IsRun, last_of, states_of}
use Rattle.machine_model.proofs.Fates.{place_of_actor}
use Rattle.machine_model.proofs.Grown.{grown_in_use, node_standing}
use Rattle.machine_model.proofs.Times.{run_ends, run_is}
use Rattle.proof_claims.specs.Beneath.proof_contents.proofs.Values.Runs.{counting_main-made}
use Rattle.proof_claims.specs.Beneath.proof_contents.specs.Runs.{counting_main}
use Rattle.proof_claims.specs.Beneath.proof_followed.proofs.FreshRoots.{fresh_decided, stand_at, w}
use Rattle.proof_claims.specs.Beneath.proof_generations.proofs.Lines.Copy.{IsOwn, second_fits}
use Rattle.proof_claims.specs.Beneath.proof_generations.proofs.Offers.Standing.{own_numbers, own_offer}
use Rattle.proof_claims.specs.Beneath.proof_generations.proofs.Roots.Kept.{fresh_in, fresh_link}
use Rattle.proof_claims.specs.Beneath.proof_generations.proofs.Roots.OfLists.{has_handles_along}
use Rattle.proof_claims.specs.Beneath.proof_generations.specs.Running.{Runs}
use Rattle.proof_claims.specs.Beneath.proof_order.proofs.Openings.Copy.{copied}
use Rattle.proof_claims.specs.Beneath.proof_order.proofs.Openings.FreshMains.{ShowsMain, show_at}
use Rattle.proof_claims.specs.Beneath.proof_shape.proofs.Sites.Fixed.{states_of-append, taken-append}
use Rattle.proof_claims.specs.Left.{is_freeze, names}
use Rattle.proof_claims.proofs.FromRoots.{main_in_use}
use Rattle.proof_claims.proofs.Keeping.{keeping}
use Rattle.proof_claims.proofs.Lists.{among, found_in}
use Rattle.proof_claims.proofs.PrivateClaims.{none_completing}
use Rattle.proof_claims.proofs.TakenBack.{made_by}
use Rattle.proof_commits.proofs.Words.OfRuns.{link_made}
use Rattle.proof_commits.proofs.Words.Stood.{Stood}
use Rattle.proof_garbage.proofs.Claims.{one_in}
use Rattle.proof_garbage.proofs.Fresh.{node_word_of}
use Rattle.proof_memory.specs.Laws.{IsInUse}
use Rattle.proof_memory.specs.Wants.{AnIndirection, Holds, Is, is_indirection}
use Rattle.proof_memory.proofs.Claims.Uses.{meets_of, safe_of}
use Rattle.proof_memory.proofs.Safety.AtEachTime.{safe_along}
use Rattle.proof_memory.proofs.Safety.AtTimes.{line_finds}
use Rattle.lock_free.specs.declared.copy_roots.CopyKind.{CopyKind}
use Rattle.lock_free.specs.declared.copy_roots.CopyKind.TheVariants as kind
use Rattle.lock_free.specs.CopySteps.{copy_kind, is_snapshot}
use Rattle.lock_free.specs.Outcomes.{made_for}
use Rattle.lock_free.proofs.Pools.{first_there}

pub link_node : (n : Node) → is_indirection n ≡ true → n ≡ Indirection (generation_of n) (main_of n)
link_node (Indirection generation main) e = refl
link_node (Branch bitmap entries) e = absurd (false≢true e)
link_node (Single key value) e = absurd (false≢true e)
link_node (Tomb single) e = absurd (false≢true e)
link_node (Listed singles) e = absurd (false≢true e)

same_truth : (a b : Bool) → (a ≡ true → b ≡ true) → (b ≡ true → a ≡ true) → a ≡ b
same_truth true b f g = sym (f refl)
same_truth false true f g = g refl
same_truth false false f g = refl

-- ---- by its call

-- a freeze opens a handle over the old root
abbrev pub is_frozen : CopyKind → Bool
is_frozen kind.Freeze = true
is_frozen k = false

abbrev pub is_cleared : CopyKind → Bool
is_cleared kind.Clear = true
is_cleared k = false

-- a snapshot alone makes a second root
second_by : (call : Call) (second : Option Ref) → second_fits call second ≡ true → is_some second ≡ is_snapshot (copy_kind call)
second_by (Snapshot h) (Some second) e = refl
second_by (Snapshot h) None e = absurd (false≢true e)
second_by (Clear h) None e = refl
second_by (Clear h) (Some second) e = absurd (false≢true e)
second_by (Freeze h) None e = refl
second_by (Freeze h) (Some second) e = absurd (false≢true e)
second_by call second e = absurd (false≢true e)

freeze_by : (call : Call) (opens : Option ℕ) (second : Option Ref) → is_some opens ≡ opens_handle call → second_fits call second ≡ true → is_freeze opens second ≡ is_frozen (copy_kind call)
freeze_by (Snapshot h) None (Some second) o e = refl
freeze_by (Snapshot h) (Some n) (Some second) o e = refl
freeze_by (Snapshot h) opens None o e = absurd (false≢true e)
freeze_by (Clear h) None None o e = refl
freeze_by (Clear h) (Some n) None o e = absurd (true≢false o)
freeze_by (Clear h) opens (Some second) o e = absurd (false≢true e)
freeze_by (Freeze h) None None o e = absurd (false≢true o)
freeze_by (Freeze h) (Some n) None o e = refl
freeze_by (Freeze h) opens (Some second) o e = absurd (false≢true e)
freeze_by call opens second o e = absurd (false≢true e)

clear_by : (call : Call) → is_clear call ≡ is_cleared (copy_kind call)
clear_by (Clear h) = refl
clear_by (Snapshot h) = refl
clear_by call = refl

module _ (limits : Bounds) (ok : AreBounds limits) (steps : List Step) (actor : ℕ) (operation : Operation) (runs : operation_of (run limits steps) actor ≡ Some operation)
    (c : Complete) (on : operation.line ≡ line.Copy (copy.Complete c)) where
  abbrev pub state : State
  state = run limits steps

  abbrev states : ℕ → State
  states = states_of limits steps

  abbrev last : ℕ
  last = last_of limits steps

  abbrev whole : IsRun limits (states_of limits steps) (last_of limits steps)
  whole = run_is limits steps ok

  place : (k : ℕ) × (actor ≡ suc k) × (operation_of state (suc k) ≡ Some operation)
  place = place_of_actor state actor operation runs

  -- ---- what it has offered

  own : IsOwn operation.call operation.id operation.opens operation.attempt c.offer
  own = own_numbers operation c.offer ((has_handles_along limits steps).0.own place.0 operation place.2) (ap own_offer on)

  pub second_is : is_some c.offer.second ≡ is_snapshot (copy_kind operation.call)
  second_is = second_by operation.call c.offer.second own.second

  pub freeze_is : is_freeze c.offer.opens c.offer.second ≡ is_frozen (copy_kind operation.call)
  freeze_is =
      freeze_by operation.call c.offer.opens c.offer.second
      (ap is_some own.number ∙ (keeping limits ok steps place.0 operation place.2).number) own.second

  -- nothing is its own any more
  pub private_none : operation.private ≡ []
  private_none = none_completing limits ok steps actor operation runs c on

  -- ---- its roots

  module _ (unmarked : operation.is_marked ≡ false) (q : Ref) (made : Contains (made_for c.offer) q) where
    side : (x : Bool) × (fresh_in x operation.line ≡ Some q)
    side = let (x, e) = made_by c.offer q made in (x, ap (fresh_in x) on ∙ e)

    claim : Holds (IsInUse state.heap) state.heap (Is q AnIndirection)
    claim = fresh_link (IsInUse state.heap) state operation operation.line (line_finds state (safe_along limits ok steps) actor operation runs) side.0 q side.1

    pub root_used : IsInUse state.heap q
    root_used = safe_of claim

    pub root_is_link : is_indirection (node_at state.heap q) ≡ true
    root_is_link = meets_of claim

    abbrev pub under : Ref
    under = main_at state.heap q

    pub root_node : node_at state.heap q ≡ Indirection (generation_of (node_at state.heap q)) (main_at state.heap q)
    root_node = link_node (node_at state.heap q) root_is_link

    -- it names that main node alone
    pub root_names : (r : Ref) → names (run limits steps) q r ≡ (main_at (run limits steps).heap q == r)
    root_names r =
        same_truth (names state q r) (under == r)
        (λ e. eq-eqb under r
        (one_in (λ z. under ≡ z) under refl r (subst (λ n. Contains (refs_of_node n) r) root_node (among (refs_of_node (node_at state.heap q)) r e))))
        (λ e. found_in (refs_of_node (node_at state.heap q)) r
        (subst (λ n. Contains (refs_of_node n) r) (sym root_node) (subst (λ z. Contains (under ∷ []) z) (eqb-true under r e) (first_there under []))))

    -- ---- over a run

    runs_then : Runs (states_of limits steps (last_of limits steps)) place.0 operation
    runs_then = ap (λ (s : State). get_or s.actors place.0 None) (run_ends limits steps) ∙ place.2

    node_then : node_under (states_of limits steps) (last_of limits steps) q ≡ node_at state.heap q
    node_then = node_word_of limits steps ok q root_used.0 root_used.1 ∙ sym (node_standing state.heap q root_used.0 root_used.1)

    main_then : main_word (states_of limits steps) (last_of limits steps) q ≡ under
    main_then = ap main_of node_then

    counted : counting_main (states_of limits steps) (last_of limits steps) (last_of limits steps) q ≡ under
    counted =
        counting_main-made states last last q (link_made (grown states last q) (ap is_indirection node_then ∙ root_is_link))
        ∙ ap (logical (main_word states last q)) (fresh_decided whole last (omega arith) place.0 operation side.0 q runs_then unmarked side.1) ∙ main_then

    shows : ShowsMain whole (is_clear operation.call) c.offer.expected under
    shows =
        subst (λ e. ShowsMain whole (is_clear operation.call) e under) (ap (λ l. (copied l).1) on)
        (subst (ShowsMain whole (is_clear operation.call) (copied operation.line).1) counted (show_at whole last (omega arith) place.0 operation side.0 q runs_then unmarked side.1).main_is)

    pub over_expected : is_cleared (copy_kind operation.call) ≡ false → main_at (run limits steps).heap q ≡ c.offer.expected
    over_expected e = subst (λ b. ShowsMain whole b c.offer.expected under) (clear_by operation.call ∙ e) shows

    pub over_empty : is_cleared (copy_kind operation.call) ≡ true → node_at (run limits steps).heap (main_at (run limits steps).heap q) ≡ empty_branch
    over_empty e =
        let used = main_in_use limits steps ok q root_used root_is_link in
        node_standing state.heap under used.0 used.1 ∙ sym (node_word_of limits steps ok under used.0 used.1)
        ∙ subst (λ b. ShowsMain whole b c.offer.expected under) (clear_by operation.call ∙ e) shows

    -- which it stood over before
    module _ (before since : List Step) (is : steps ≡ before ++ since) (used_before : IsInUse (run limits before).heap q)
        (link_before : is_indirection (node_at (run limits before).heap q) ≡ true) where
      abbrev early : ℕ
      early = last_of limits before

      state_early : states_of limits steps (last_of limits before) ≡ run limits before
      state_early = ap (λ l. states_of limits l early) is ∙ states_of-append limits before since early (omega arith) ∙ run_ends limits before

      later : early ≤ last_of limits steps
      later =
          let all = ap (λ l. length (taken_steps limits l)) is ∙ ap length (taken-append (first_state limits) before since)
          ∙ length-append (taken_steps limits before) (taken_from (run limits before) since) in
          omega (arith, all)

      node_early : node_under (states_of limits steps) (last_of limits before) q ≡ node_at (run limits before).heap q
      node_early =
          ap node_of (grown_in_use states early q used_before.0 (ap (λ (s : State). standing s.heap q) state_early ∙ used_before.1))
          ∙ sym (node_standing (run limits before).heap q used_before.0 used_before.1)

      stood : Stood (w whole) last q (main_at (run limits before).heap q)
      stood = record { at = early; past = later; link = ap is_indirection node_early ∙ link_before; is = ap main_of node_early }

      pub stays_over : main_at (run limits steps).heap q ≡ main_at (run limits before).heap q
      stays_over = sym main_then ∙ stand_at whole last (omega arith) place.0 operation side.0 q runs_then unmarked side.1 (main_at (run limits before).heap q) stood
