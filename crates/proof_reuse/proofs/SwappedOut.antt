-- A SWAP that sees its fresh node committed has replaced the other main node: that one is garbage if it was the indirection's own, and no other SWAP sees this of it.
use Rattle.std.proofs.Common.{◌≡◌, ◌<◌, ◌≤◌, ◌++◌, ℕ, suc, true, false, List, [], ◌∷◌, Some, Ok, inl, inr, refl, sym, ap, subst, ◌∙◌, append_assoc, append-nil, arith}
use Rattle.std.proofs.lemmas.Bool.{cases_eq}
use Rattle.std.proofs.lemmas.Option.{same_Some}
use Rattle.proof_reuse.specs.Beneath.slot_arena.specs.declared.nodes.Prev.TheVariants as prev
use Rattle.proof_reuse.specs.Beneath.slot_arena.specs.declared.refs.Ref.{Ref}
use Rattle.proof_reuse.specs.Beneath.slot_arena.specs.Heaps.{node_at, prev_at}
use Rattle.proof_reuse.specs.Beneath.slot_arena.specs.declared.nodes.Prev.{Prev}
use Rattle.proof_reuse.specs.Beneath.machine_model.specs.declared.actions.Action.TheVariants as act
use Rattle.proof_reuse.specs.Beneath.machine_model.specs.declared.reading.SwapLine.TheVariants as swap
use Rattle.proof_reuse.specs.Beneath.machine_model.specs.declared.steps.Bounds.{Bounds}
use Rattle.proof_reuse.specs.Beneath.machine_model.specs.declared.reading.Swap.{Swap}
use Rattle.proof_reuse.specs.Beneath.machine_model.specs.declared.steps.Outcome.{Outcome}
use Rattle.proof_reuse.specs.Beneath.machine_model.specs.declared.steps.Step.{Step}
use Rattle.proof_reuse.specs.Beneath.machine_model.specs.declared.steps.Step.TheVariants as step
use Rattle.proof_reuse.specs.Beneath.machine_model.specs.Acting.{gone, operation_after}
use Rattle.proof_reuse.specs.Beneath.machine_model.specs.Counting.{settled}
use Rattle.proof_reuse.specs.Beneath.machine_model.specs.Machine.{AreBounds, run, next, state_after}
use Rattle.proof_reuse.specs.Beneath.machine_model.specs.Moves.{Moves, Goes, Ends}
use Rattle.proof_reuse.specs.Beneath.machine_model.specs.Operations.{action_of, after_swap, line_action, line_after}
use Rattle.proof_reuse.specs.Beneath.machine_model.specs.Swapping.{after_check, on_line}
use Rattle.proof_reuse.specs.Beneath.machine_model.specs.States.{State, first_state, operation_of}
use Rattle.proof_reuse.specs.Beneath.machine_model.specs.Times.{IsRun, states_of, last_of}
use Rattle.proof_reuse.specs.Beneath.machine_model.proofs.Actors.{marks_by}
use Rattle.proof_reuse.specs.Beneath.machine_model.proofs.Along.{run_push}
use Rattle.proof_reuse.specs.Beneath.machine_model.proofs.Grown.{grown_in_use, prev_grown}
use Rattle.proof_reuse.specs.Beneath.machine_model.proofs.Moves.{moved}
use Rattle.proof_reuse.specs.Beneath.machine_model.proofs.Times.{run_is, run_ends}
use Rattle.proof_reuse.specs.Beneath.proof_commits.specs.Protocol.{Protocol, Decides, IsAtRest, logical_at}
use Rattle.proof_reuse.specs.Beneath.proof_commits.specs.Runs.{HasIndirection}
use Rattle.proof_reuse.specs.Beneath.proof_commits.specs.Stages.{stage_of, stage_of_actor}
use Rattle.proof_reuse.specs.Beneath.proof_commits.proofs.Course.Finals.{link_stays, pending_stands}
use Rattle.proof_reuse.specs.Beneath.proof_commits.proofs.Course.Mains.{main_when_none, main_when_pending}
use Rattle.proof_reuse.specs.Beneath.proof_commits.proofs.Course.Swaps.{HasCommitted, succeeded}
use Rattle.proof_reuse.specs.Beneath.proof_commits.proofs.Known.Owners.{Staged}
use Rattle.proof_reuse.specs.Beneath.proof_commits.proofs.Known.Sounds.{sound_at}
use Rattle.proof_reuse.specs.Beneath.proof_commits.proofs.Known.StepsAt.{actor_counts, go_others, go_own, mark_stage}
use Rattle.proof_reuse.specs.Beneath.proof_commits.proofs.Lines.Resting.{swapped_rest}
use Rattle.proof_reuse.specs.Beneath.proof_commits.proofs.Lines.Swap.{RunsSwap, runs_deciding}
use Rattle.proof_reuse.specs.Beneath.proof_commits.proofs.Words.Stood.{none≢pending}
use Rattle.proof_reuse.specs.Beneath.proof_generations.proofs.Falling.KnownRoots.{protocol_of}
use Rattle.proof_reuse.specs.Beneath.proof_memory.specs.Laws.{IsInUse}
use Rattle.proof_reuse.specs.Beneath.proof_memory.proofs.Heap.Moves.{grown_stays, used_before}
use Rattle.proof_reuse.specs.Beneath.proof_memory.specs.Wants.{AllHold, is_indirection, line_wants, purpose_wants, swap_wants}
use Rattle.proof_reuse.specs.Beneath.proof_memory.proofs.Claims.Uses.{first_hold, meets_of, safe_of}
use Rattle.proof_reuse.specs.Beneath.proof_memory.proofs.Safety.AtTimes.{line_at, node_found}
use Rattle.proof_owned.specs.Laws.{IsReplaced}
use Rattle.proof_owned.specs.Owned.{IsOwn}
use Rattle.proof_owned.proofs.MainsInUse.{link_at, logical_is}
use Rattle.proof_reuse.specs.Laws.{HasReplaced, IsFreshIn, IsFreshOf, IsGarbage, IsReplacedBy}
use Rattle.proof_reuse.proofs.InLists.{state_then, time_within}
use Rattle.proof_reuse.proofs.LeftForGood.{fresh_is_ones, left_for_good, rest_fresh}
use Rattle.proof_reuse.proofs.OnePlace.{one_takes_its_place}
use Rattle.proof_reuse.proofs.Own.{replaced_garbage}

-- some of the steps have led there
module _ (limits : Bounds) (before since : List Step) (ok : AreBounds limits) (actor : ℕ) (i m f : Ref) (h : HasReplaced (run limits before) actor i m f) where
  abbrev all : List Step
  all = before ++ since

  abbrev states : ℕ → State
  states = states_of limits all

  abbrev last : ℕ
  last = last_of limits all

  abbrev is_run : IsRun limits states last
  is_run = run_is limits all ok

  abbrev p : Protocol
  p = protocol_of is_run

  abbrev t : ℕ
  t = last_of limits before

  t_within : t ≤ last
  t_within = time_within limits all before since refl

  state_is : states t ≡ run limits before
  state_is = state_then limits all before since refl

  runs_then : operation_of (states t) actor ≡ Some h.operation
  runs_then = ap (λ (s : State). operation_of s actor) state_is ∙ h.runs

  -- ---- it is committed

  claims_now : AllHold (IsInUse (states t).heap) (states t).heap (swap_wants (record { indirection = i; replaced = m; fresh = f; line = swap.Check }))
  claims_now =
      first_hold (IsInUse (states t).heap) (states t).heap (swap_wants (record { indirection = i; replaced = m; fresh = f; line = swap.Check })) (purpose_wants h.why)
      (subst (λ l. AllHold (IsInUse (states t).heap) (states t).heap (line_wants limits.hash h.operation.call h.operation.access l)) h.checks
      (line_at is_run t t_within actor h.operation runs_then))

  used_f : IsInUse (states t).heap f
  used_f = safe_of claims_now.1.1.0

  has_now : HasIndirection (states t) i
  has_now = (safe_of claims_now.0, meets_of claims_now.0)

  prev_none : p.words.prev t f ≡ prev.None
  prev_none = sym (prev_grown states t f used_f.0 used_f.1) ∙ ap (λ (s : State). prev_at s.heap f) state_is ∙ h.decided

  c : HasCommitted p.words t actor i m f
  c = succeeded p t t_within actor i m f (ap stage_of_actor runs_then ∙ ap stage_of h.checks) prev_none

  -- ---- and was when the other one counted there

  within : c.at < last
  within = let past = c.past in let low = t_within in omega (arith, past, low)

  its : RunsSwap (operation_of (states c.at) actor) i m f (swap.Deciding c.line)
  its = runs_deciding (operation_of (states c.at) actor) i m f c.line c.stage

  claims_then : AllHold (IsInUse (states c.at).heap) (states c.at).heap (swap_wants (record { indirection = i; replaced = m; fresh = f; line = swap.Deciding c.line }))
  claims_then =
      first_hold (IsInUse (states c.at).heap) (states c.at).heap (swap_wants (record { indirection = i; replaced = m; fresh = f; line = swap.Deciding c.line })) (purpose_wants its.swaps.0)
      (subst (λ l. AllHold (IsInUse (states c.at).heap) (states c.at).heap (line_wants limits.hash its.operation.call its.operation.access l)) its.swaps.1
      (line_at is_run c.at (omega (arith, within)) actor its.operation its.is))

  had : HasIndirection (states c.at) i
  had = (safe_of claims_then.0, meets_of claims_then.0)

  -- the indirection is in use from then on
  has_then : HasIndirection (states (suc c.at)) i
  has_then =
      let made = grown_in_use states c.at i had.0.0 had.0.1 in
      let between = grown_stays is_run c.at (suc c.at) (omega arith) (omega (arith, within)) i had.0.0 made in
      let used = used_before is_run (suc c.at) t (let past = c.past in omega (arith, past)) t_within i between.0 between.1 has_now.0 in
      (used, ap is_indirection (node_found states (suc c.at) i used) ∙ link_stays p i c.at (suc c.at) (omega arith) (omega (arith, within)) (link_at is_run c.at i had))

  staged : Staged p.words c.at actor (Decides i m f c.line)
  staged = subst (λ s. Staged p.words c.at actor s) c.stage ((sound_at p c.at (omega (arith, within))).staged actor)

  stands : p.words.main c.at i ≡ f
  stands = pending_stands p.words c.at (sound_at p c.at (omega (arith, within))) i f m staged.1 c.commits.was

  was : logical_at p.words c.at i ≡ m
  was = main_when_pending p.words c.at i f m stands c.commits.was

  then : logical_at p.words (suc c.at) i ≡ f
  then = main_when_none p.words (suc c.at) i f (c.commits.main i ∙ stands) c.commits.prev.here

  apart : m ≡ f → ⊥
  apart e = none≢pending staged.2.none (ap (p.words.prev c.at) e ∙ c.commits.was)

  -- so its fresh node took the place of the other one
  pub took_its_place : IsReplacedBy limits (before ++ since) i m f
  took_its_place = record {
    at = c.at;
    within = within;
    had = had;
    has = has_then;
    was = logical_is is_run c.at (omega (arith, within)) i had ∙ was;
    is = logical_is is_run (suc c.at) (omega (arith, within)) i has_then ∙ then;
    apart = apart;
  }

  pub was_replaced : IsReplaced limits (before ++ since) i m
  was_replaced = record {
    before = c.at;
    after = suc c.at;
    order = omega arith;
    within = omega (arith, within);
    had = had;
    has = has_then;
    was = logical_is is_run c.at (omega (arith, within)) i had ∙ was;
    is = λ e. apart (sym e ∙ logical_is is_run (suc c.at) (omega (arith, within)) i has_then ∙ then);
  }

  pub swapped_out_garbage : IsOwn (states_of limits (before ++ since)) (last_of limits (before ++ since)) i m → IsInUse (run limits (before ++ since)).heap m →
      IsGarbage (run limits (before ++ since)) m
  swapped_out_garbage own used = replaced_garbage limits (before ++ since) ok i m own was_replaced used

  pub fresh_in_use : IsInUse (run limits before).heap f
  fresh_in_use = subst (λ (s : State). IsInUse s.heap f) state_is used_f

-- ---- the last step of the SWAP leaves the fresh node to nobody

module _ (limits : Bounds) (ok : AreBounds limits) (steps : List Step) (actor : ℕ) (i m f : Ref) (h : HasReplaced (run limits steps) actor i m f) (o : Outcome) (after : State)
    (taken : next (run limits steps) (step.Go actor) ≡ Ok (o, after)) where
  abbrev state : State
  state = run limits steps

  abbrev swap_is : Swap
  swap_is = record { indirection = i; replaced = m; fresh = f; line = swap.Check }

  mine : IsFreshOf state actor f
  mine = subst (λ x. IsFreshIn (stage_of_actor x) f) (sym h.runs) (subst (λ l. IsFreshIn (stage_of l) f) (sym h.checks) refl)

  acts : action_of state h.operation ≡ act.ReadPrev f
  acts = ap (line_action state h.operation) h.checks

  rests : (previous : Prev) → IsAtRest (stage_of (after_swap state h.operation h.why swap_is (on_line swap_is (after_check previous))))
  rests prev.None = (swapped_rest (λ j a. Unit {0}) (Unit {0}) h.operation (node_at state.heap f) h.why true).0
  rests (prev.Pending a) = (swapped_rest (λ j b. Unit {0}) (Unit {0}) h.operation (node_at state.heap f) h.why false).0
  rests (prev.Failed a) = (swapped_rest (λ j b. Unit {0}) (Unit {0}) h.operation (node_at state.heap f) h.why false).0

  its_rest : IsAtRest (stage_of (line_after state h.operation h.operation.line))
  its_rest = subst (λ l. IsAtRest (stage_of (line_after state h.operation l))) (sym h.checks) (rests (prev_at state.heap f))

  module _ (k : ℕ) (has : IsFreshOf (run limits (steps ++ step.Go actor ∷ [])) k f) where
    goes : run limits (steps ++ step.Go actor ∷ []) ≡ settled state (gone state actor h.operation) → ⊥
    goes e = elim (cases_eq k actor) [
      | inl same ↦
          (let own = ap (λ (s : State). operation_of s actor) e ∙ go_own state actor h.operation h.runs in
          let stage = ap stage_of_actor own ∙ mark_stage (marks_by state (Some h.operation)) (Some (operation_after state h.operation)) in
          rest_fresh (stage_of (line_after state h.operation h.operation.line)) f its_rest
          (subst (λ s. IsFreshIn s f) stage (subst (λ q. IsFreshOf (run limits (steps ++ step.Go actor ∷ [])) q f) same has)))
      | inr apart ↦
          (let other = ap (λ (s : State). operation_of s k) e ∙ go_others state actor h.operation (actor_counts state actor h.operation h.runs) k apart in
          let stage = ap stage_of_actor other ∙ mark_stage (marks_by state (Some h.operation)) (operation_of state k) in
          apart (fresh_is_ones limits ok steps k actor f (subst (λ s. IsFreshIn s f) stage has) mine))
    ]

    by_move : (o : Outcome) (s : State) → Moves state (step.Go actor) o s → run limits (steps ++ step.Go actor ∷ []) ≡ s → ⊥
    by_move o s (Goes {operation = found} d at_k x g) e = goes (e ∙ ap (λ q. settled state (gone state actor q)) (same_Some found h.operation (sym at_k ∙ h.runs)))
    by_move o s (Ends {operation = found} d at_k x) e =
        let wrong : act.ReadPrev f ≡ act.End _ = sym acts ∙ ap (action_of state) (same_Some h.operation found (sym h.runs ∙ at_k)) ∙ x in
        let bad : ⊥ = cc in absurd bad

  pub left_by_check : (k : ℕ) → IsFreshOf (run limits (steps ++ step.Go actor ∷ [])) k f → ⊥
  left_by_check k has =
      by_move k has o after (moved state (step.Go actor) o after taken) (run_push (first_state limits) steps (step.Go actor) ∙ ap (state_after state) taken)

-- ---- one operation sees that it has replaced it

module _ (limits : Bounds) (ok : AreBounds limits) (before since : List Step) (a b : ℕ) (i j m f g : Ref) (o : Outcome) (after : State)
    (taken : next (run limits before) (step.Go a) ≡ Ok (o, after)) (first : HasReplaced (run limits before) a i m f)
    (second : HasReplaced (run limits ((before ++ step.Go a ∷ []) ++ since)) b j m g) where
  abbrev through : List Step
  through = before ++ step.Go a ∷ []

  abbrev whole : List Step
  whole = through ++ since

  module _ (own : IsOwn (states_of limits whole) (last_of limits whole) i m) (other : IsOwn (states_of limits whole) (last_of limits whole) j m) where
    same : f ≡ g
    same =
        (one_takes_its_place limits whole ok i j m f g own other
        (subst (λ l. IsReplacedBy limits l i m f) (sym (append_assoc before (step.Go a ∷ []) since)) (took_its_place limits before (step.Go a ∷ since) ok a i m f first))
        (subst (λ l. IsReplacedBy limits l j m g) (append-nil whole) (took_its_place limits whole [] ok b j m g second))).1

    used_end : IsInUse (states_of limits whole (last_of limits whole)).heap f
    used_end = subst (λ (s : State). IsInUse s.heap f) (sym (run_ends limits whole)) (subst (λ x. IsInUse (run limits whole).heap x) (sym same) (fresh_in_use limits whole [] ok b j m g second))

    parts : whole ≡ before ++ (step.Go a ∷ since)
    parts = append_assoc before (step.Go a ∷ []) since

    used_first : IsInUse (states_of limits whole (last_of limits before)).heap f
    used_first = subst (λ (s : State). IsInUse s.heap f) (sym (state_then limits whole before (step.Go a ∷ since) parts)) (fresh_in_use limits before [] ok a i m f first)

    used_through : IsInUse (run limits through).heap f
    used_through =
        let low = time_within limits through before (step.Go a ∷ []) refl in
        let high = time_within limits whole through since refl in
        let made = grown_in_use (states_of limits whole) (last_of limits before) f used_first.0 used_first.1 in
        let between = grown_stays (run_is limits whole ok) (last_of limits before) (last_of limits through) low high f used_first.0 made in
        subst (λ (s : State). IsInUse s.heap f) (state_then limits whole through since refl)
        (used_before (run_is limits whole ok) (last_of limits through) (last_of limits whole) high (omega arith) f between.0 between.1 used_end)

    pub replaced_once : ⊥
    replaced_once =
        left_for_good limits ok through since f used_through (left_by_check limits ok before a i m f first o after taken) b
        (subst (λ x. IsFreshOf (run limits whole) b x) (sym same)
        (subst (λ x. IsFreshIn (stage_of_actor x) g) (sym second.runs) (subst (λ l. IsFreshIn (stage_of l) g) (sym second.checks) refl)))
