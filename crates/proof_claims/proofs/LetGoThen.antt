-- What is so after the step that lets go of all that a node holds: it has no claim then, and it is a main node that stood in an indirection's word, or nobody follows it.
use Rattle.std.proofs.Common.{◌≡◌, inl, inr, ℕ, suc, Bool, true, false, List, [], ◌∷◌, ◌++◌, Contains, Some, Ok, Err, cond, refl, sym, ap, subst, ◌∙◌}
use Rattle.std.proofs.lemmas.Bool.{true≢false}
use Rattle.proof_claims.specs.Beneath.slot_arena.specs.declared.refs.Ref.{Ref}
use Rattle.proof_claims.specs.Beneath.slot_arena.specs.Heaps.{prev_at, refs_of_option}
use Rattle.proof_claims.specs.Beneath.machine_model.specs.declared.actions.Action.TheVariants as act
use Rattle.proof_claims.specs.Beneath.machine_model.specs.declared.copying.CopyLine.TheVariants as copy
use Rattle.proof_claims.specs.Beneath.machine_model.specs.declared.lines.Line.TheVariants as line
use Rattle.proof_claims.specs.Beneath.machine_model.specs.declared.lines.Purpose.{Purpose}
use Rattle.proof_claims.specs.Beneath.machine_model.specs.declared.operations.Operation.{Operation}
use Rattle.proof_claims.specs.Beneath.machine_model.specs.declared.reading.SwapLine.TheVariants as swap
use Rattle.proof_claims.specs.Beneath.machine_model.specs.declared.roots.Complete.{Complete}
use Rattle.proof_claims.specs.Beneath.machine_model.specs.declared.roots.Descriptor.{Descriptor}
use Rattle.proof_claims.specs.Beneath.machine_model.specs.declared.steps.Bounds.{Bounds}
use Rattle.proof_claims.specs.Beneath.machine_model.specs.declared.steps.Outcome.{Outcome}
use Rattle.proof_claims.specs.Beneath.machine_model.specs.declared.steps.Step.{Step}
use Rattle.proof_claims.specs.Beneath.machine_model.specs.declared.steps.Step.TheVariants as step
use Rattle.proof_claims.specs.Beneath.machine_model.specs.Acting.{acted, gone, operation_after}
use Rattle.proof_claims.specs.Beneath.machine_model.specs.Calls.{handle_of}
use Rattle.proof_claims.specs.Beneath.machine_model.specs.Counting.{settled}
use Rattle.proof_claims.specs.Beneath.machine_model.specs.Machine.{Answer, AreBounds, is_taken_step, next, run, state_after}
use Rattle.proof_claims.specs.Beneath.machine_model.specs.Moves.{Moves, MovesIfTaken}
use Rattle.proof_claims.specs.Beneath.machine_model.specs.Operations.{line_action}
use Rattle.proof_claims.specs.Beneath.machine_model.specs.States.{State, first_state, operation_of, with_operation, word_at}
use Rattle.proof_claims.specs.Beneath.machine_model.specs.Swapping.{is_carried_out}
use Rattle.proof_claims.specs.Beneath.machine_model.proofs.Along.{run_push}
use Rattle.proof_claims.specs.Beneath.machine_model.proofs.Fates.{place_of_actor}
use Rattle.proof_claims.specs.Beneath.machine_model.proofs.Moves.{moves}
use Rattle.proof_claims.specs.Beneath.proof_followed.proofs.Live.{followed_known}
use Rattle.proof_claims.specs.Beneath.proof_followed.specs.Followed.{IsFollowedByAny}
use Rattle.proof_claims.specs.Beneath.proof_memory.proofs.Safety.AtEachTime.{safe_along}
use Rattle.proof_claims.specs.Beneath.proof_memory.proofs.Safety.Standing.{in_private_list}
use Rattle.proof_claims.specs.Beneath.proof_memory.specs.Laws.{IsInUse}
use Rattle.proof_claims.specs.Beneath.proof_generations.proofs.Roots.Kept.{fresh_in, fresh_link, fresh_of}
use Rattle.proof_claims.specs.Beneath.proof_memory.proofs.Claims.Uses.{safe_of}
use Rattle.proof_claims.specs.Beneath.proof_memory.proofs.Safety.AtTimes.{line_finds}
use Rattle.proof_claims.specs.Changes.{change_of, checks}
use Rattle.proof_claims.specs.Claims.{Has, held_of}
use Rattle.proof_claims.specs.Dropped.{IsLetGo}
use Rattle.proof_claims.specs.Held.{Held, Holder, OfNode, Stays, held_after, is_kept, is_owned}
use Rattle.proof_claims.proofs.Acted.{acted_after}
use Rattle.proof_claims.proofs.Along.{held_push}
use Rattle.proof_claims.proofs.ChangeKinds.{Acting, GivesUp, missed, no_slot, told, unoffered}
use Rattle.proof_claims.proofs.Checking.{checks_change}
use Rattle.proof_claims.proofs.Completing.{heap}
use Rattle.proof_claims.proofs.Differing.{nothing_in}
use Rattle.proof_claims.proofs.GivesDead.{gives_dead}
use Rattle.proof_claims.proofs.InSwap as in_swap
use Rattle.proof_claims.proofs.NewClaims.{IsPlain, checks_plain, finds_plain, given_up_plain, kept_from}
use Rattle.proof_claims.proofs.Outcomes.{each_held}
use Rattle.proof_claims.proofs.RootClaims.{sees_undone}
use Rattle.proof_claims.proofs.SwapOn.{swap_at}
use Rattle.proof_claims.proofs.TakenBack.{by_nobody, its_line, made_by}
use Rattle.proof_claims.proofs.Unlinked.{used}
use Rattle.proof_claims.proofs.WhoLetsGo.{LetsGoSo, lets_go_so, so_failed, so_given_up, so_offered, so_replaced}

-- the operation whose private nodes are given up
pub record Owner (state : State) (private : List Ref) : Type 0 where
  pub k : ℕ
  pub operation : Operation
  pub runs : operation_of state (suc k) ≡ Some operation
  pub its : operation.private ≡ private

pub owner : (state : State) (s : Step) (private : List Ref) → GivesUp state s private → Owner state private
owner state s private up = by up
  where
    at_place : (actor : ℕ) (operation : Operation) → operation_of state actor ≡ Some operation → operation.private ≡ private → Owner state private
    at_place actor operation runs same = let (k, place, at_k) = place_of_actor state actor operation runs in record { k = k; operation = operation; runs = at_k; its = same }

    by : GivesUp state s private → Owner state private
    by (no_slot node action a makes none same) = at_place a.actor a.operation a.runs same
    by (missed i q f a hit same) = at_place a.actor a.operation a.runs same
    by (unoffered offer a stands same) = at_place a.actor a.operation a.runs same
    by (told actor operation is runs same) = at_place actor operation runs same

module _ (limits : Bounds) (ok : AreBounds limits) (xs : List Step) (s : Step) (j : Ref) (h : IsLetGo limits xs s j) where
  abbrev state : State
  state = run limits xs

  abbrev after : State
  after = run limits (xs ++ s ∷ [])

  abbrev held : Held
  held = held_of limits xs

  -- ---- the step

  pub record Taken : Type 0 where
    pub outcome : Outcome
    pub moves : Moves (run limits xs) s outcome (run limits (xs ++ s ∷ []))
    pub is : next (run limits xs) s ≡ Ok (outcome, run limits (xs ++ s ∷ []))

  taken_as : (a : Answer) → next state s ≡ a → MovesIfTaken state s a → is_taken_step a ≡ true → Taken
  taken_as (Ok done) e m t =
      let is : done.1 ≡ after = sym (run_push (first_state limits) xs s ∙ ap (state_after state) e) in
      record { outcome = done.0; moves = subst (λ (z : State). Moves state s done.0 z) is m; is = e ∙ ap (λ (z : State). Ok (done.0, z)) is }
  taken_as (Err refusal) e m t = absurd (true≢false (sym t))

  pub taken : Taken
  taken = taken_as (next state s) refl (moves state s) h.taken

  pub held_then : held_of limits (xs ++ s ∷ []) ≡ held_after (change_of (run limits xs) (held_of limits xs) s) (held_of limits xs)
  held_then = held_push limits xs s ∙ ap (λ b. cond b (held_after (change_of state held s) held) held) h.taken

  -- ---- its change adds no claims

  pub at_check : (actor : ℕ) (operation : Operation) (why : Purpose) (i m f : Ref) → s ≡ step.Go actor → operation_of state actor ≡ Some operation →
      operation.line ≡ line.Swap why (swap_at i m f swap.Check) → change_of state held s ≡ checks (is_owned held i m) (prev_at state.heap f) (swap_at i m f swap.Check)
  at_check actor operation why i m f is_step runs on = ap (change_of state held) is_step ∙ checks_change state held actor operation why i m f runs on

  plain_so : LetsGoSo state held s j → IsPlain (change_of state held s)
  plain_so (so_replaced actor i f is_step r own) =
      subst IsPlain (sym (at_check actor r.operation r.why i j f is_step r.runs r.checks)) (checks_plain (is_owned held i j) (prev_at state.heap f) (swap_at i j f swap.Check))
  plain_so (so_failed actor i m is_step r) =
      subst IsPlain (sym (at_check actor r.operation r.why i m j is_step r.runs r.checks)) (checks_plain (is_owned held i m) (prev_at state.heap j) (swap_at i m j swap.Check))
  plain_so (so_given_up private up c is) = subst IsPlain (sym is) (given_up_plain private)
  plain_so (so_offered offer main c a on not_out unmarked d) =
      subst IsPlain (sym (sees_undone limits ok xs s taken.outcome taken.moves offer main a c on not_out unmarked)) (finds_plain (handle_of a.operation.call) offer false)

  pub plain : IsPlain (change_of (run limits xs) (held_of limits xs) s)
  plain = plain_so (lets_go_so limits ok xs s j h.lets)

  -- a claim that stands then stood before, and stays
  pub staying : (by : Holder) (k : Ref) → Has (held_of limits (xs ++ s ∷ [])) by k →
      Has (held_of limits xs) by k × ((change_of (run limits xs) (held_of limits xs) s).fate (record { by = by; on = k }) ≡ Stays by)
  staying by k has = elim (kept_from (change_of state held s) held by k (subst (λ x. Has x by k) held_then has)) [
    | inl from ↦
        let same : by ≡ from.holder = plain.unmoving (record { by = from.holder; on = k }) by from.fate in
        (subst (λ x. Has held x k) (sym same) from.had, subst (λ x. (change_of state held s).fate (record { by = x; on = k }) ≡ Stays by) (sym same) from.fate)
    | inr added ↦ nothing_in _ (subst (λ l. Contains l (record { by = by; on = k })) plain.nothing added)
  ]

  -- so none is left
  pub none_left : (k : Ref) → Has (held_of limits (xs ++ s ∷ [])) (OfNode j) k → ⊥
  none_left k has = true≢false (sym (ap is_kept (staying (OfNode j) k has).1) ∙ h.lets k)

  -- ---- who gives it up

  pub given_up_unfollowed : (private : List Ref) → GivesUp (run limits xs) s private → Contains private j → IsFollowedByAny (run limits (xs ++ s ∷ [])) j → ⊥
  given_up_unfollowed private up c followed =
      gives_dead limits ok xs j s taken.outcome after taken.moves refl private up c (followed_known after (safe_along limits ok (xs ++ s ∷ [])) (λ id. Unit {0}) followed)

  -- ---- who offered sees that its offer wasn't carried out

  module _ (offer : Descriptor) (main : Ref) (c : Complete) (a : Acting (run limits xs) s (act.Complete offer main)) (on : a.operation.line ≡ line.Copy (copy.Complete c))
      (not_out : is_carried_out (word_at (run limits xs) (handle_of a.operation.call)) offer main ≡ false) (unmarked : a.operation.is_marked ≡ false)
      (d : Contains (offer.successor ∷ refs_of_option offer.second) j) where
    gone_is : after ≡ settled state (gone state a.actor a.operation)
    gone_is =
        acted_after state s taken.outcome after taken.moves (act.Complete offer main) a tt
        ∙ ap (λ x. settled state (acted (with_operation state a.actor (Some (operation_after state a.operation))) (handle_of a.operation.call) x)) (sym a.acts)

    goes : Moves state (step.Go a.actor) taken.outcome (settled state (gone state a.actor a.operation))
    goes =
        subst (λ (x : Step). Moves state x taken.outcome (settled state (gone state a.actor a.operation))) a.is_step (subst (λ (z : State). Moves state s taken.outcome z) gone_is taken.moves)

    is_after : run limits (xs ++ step.Go a.actor ∷ []) ≡ settled state (gone state a.actor a.operation)
    is_after = ap (λ (x : Step). run limits (xs ++ x ∷ [])) (sym a.is_step) ∙ gone_is

    pub offered_unfollowed : IsFollowedByAny (run limits (xs ++ s ∷ [])) j → ⊥
    offered_unfollowed followed =
        by_nobody limits ok xs (each_held limits ok xs) a.actor a.operation a.runs taken.outcome goes is_after offer main a.acts c on
        (heap limits ok xs a.actor a.operation taken.outcome offer main (each_held limits ok xs) a.runs goes is_after a.acts) not_out unmarked j d
        (subst (λ (z : State). IsFollowedByAny z j) gone_is followed)

    -- it made this root for it
    pub its_root : (x : Bool) × (fresh_in x a.operation.line ≡ Some j)
    its_root =
        let (x, e) = made_by offer j d in
        let (same, at_swap) = its_line c offer main (ap (line_action state a.operation) (sym on) ∙ a.acts) in
        (x, ap (fresh_in x) on ∙ ap (fresh_of x) same ∙ e)

    pub offered_used : IsInUse (run limits xs).heap j
    offered_used =
        let (x, its) = its_root in
        safe_of (fresh_link (IsInUse state.heap) state a.operation a.operation.line (line_finds state (safe_along limits ok xs) a.actor a.operation a.runs) x j its)

  -- ---- it was in use before the step

  used_by : LetsGoSo state held s j → IsInUse state.heap j
  used_by (so_replaced actor i f is_step r own) =
      let (k, place, at_k) = place_of_actor state actor r.operation r.runs in in_swap.used_m limits ok xs k r.operation at_k r.why (swap_at i j f swap.Check) r.checks
  used_by (so_failed actor i m is_step r) = used limits ok xs actor i m j r
  used_by (so_given_up private up c is) =
      let it = owner state s private up in in_private_list state (safe_along limits ok xs) (suc it.k) it.operation j it.runs (subst (λ ps. Contains ps j) (sym it.its) c)
  used_by (so_offered offer main c a on not_out unmarked d) = offered_used offer main c a on not_out unmarked d

  pub used_then : IsInUse (run limits xs).heap j
  used_then = used_by (lets_go_so limits ok xs s j h.lets)
