-- What a node names that nobody follows any more it holds, unless it was dropped.
use Rattle.std.proofs.Common.{◌≡◌, ◌⊎◌, inl, inr, ℕ, List, Contains, Option, Some, None, refl, sym, ap, subst, ◌∙◌, arith, [], ◌∷◌}
use Rattle.proof_claims.specs.Beneath.slot_arena.specs.declared.nodes.Prev.{Prev}
use Rattle.proof_claims.specs.Beneath.slot_arena.specs.declared.nodes.Prev.TheVariants as prev
use Rattle.proof_claims.specs.Beneath.slot_arena.specs.declared.refs.Ref.{Ref}
use Rattle.proof_claims.specs.Beneath.slot_arena.specs.Heaps.{node_at, prev_at, refs_of_node, refs_of_prev}
use Rattle.proof_claims.specs.Beneath.machine_model.specs.declared.lines.Line.{Line}
use Rattle.proof_claims.specs.Beneath.machine_model.specs.declared.lines.Line.TheVariants as line
use Rattle.proof_claims.specs.Beneath.machine_model.specs.declared.lines.Purpose.{Purpose}
use Rattle.proof_claims.specs.Beneath.machine_model.specs.declared.operations.Operation.{Operation}
use Rattle.proof_claims.specs.Beneath.machine_model.specs.declared.reading.Swap.{Swap}
use Rattle.proof_claims.specs.Beneath.machine_model.specs.declared.reading.SwapLine.{SwapLine}
use Rattle.proof_claims.specs.Beneath.machine_model.specs.declared.reading.SwapLine.TheVariants as swap
use Rattle.proof_claims.specs.Beneath.machine_model.specs.declared.steps.Bounds.{Bounds}
use Rattle.proof_claims.specs.Beneath.machine_model.specs.declared.steps.Step.{Step}
use Rattle.proof_claims.specs.Beneath.machine_model.specs.Machine.{AreBounds, run}
use Rattle.proof_claims.specs.Beneath.machine_model.specs.States.{State, operation_of}
use Rattle.proof_claims.specs.Beneath.machine_model.specs.Times.{IsRun, last_of, states_of}
use Rattle.proof_claims.specs.Beneath.machine_model.proofs.Basics.{none≢failed}
use Rattle.proof_claims.specs.Beneath.machine_model.proofs.Fates.{place_of_actor}
use Rattle.proof_claims.specs.Beneath.machine_model.proofs.Grown.{prev_grown}
use Rattle.proof_claims.specs.Beneath.machine_model.proofs.Times.{run_ends, run_is}
use Rattle.proof_claims.specs.Beneath.proof_commits.specs.Protocol.{Protocol, Checks}
use Rattle.proof_claims.specs.Beneath.proof_commits.specs.Stages.{stage_of, stage_of_actor, stage_of_swap}
use Rattle.proof_claims.specs.Beneath.proof_commits.proofs.Course.AlongLists.{pending_has_owner}
use Rattle.proof_claims.specs.Beneath.proof_commits.proofs.Lines.Swap.{RunsSwap, runs_deciding}
use Rattle.proof_claims.specs.Beneath.proof_followed.specs.Followed.{IsFollowedByAny, from_operation}
use Rattle.proof_claims.specs.Beneath.proof_garbage.proofs.Claims.{none_in}
use Rattle.proof_claims.specs.Beneath.proof_garbage.proofs.Fresh.{prev_word_of}
use Rattle.proof_claims.specs.Beneath.proof_generations.proofs.Falling.KnownRoots.{protocol_of}
use Rattle.proof_claims.specs.Beneath.proof_memory.specs.Laws.{IsInUse}
use Rattle.proof_claims.specs.Beneath.proof_reuse.proofs.InLists.{state_then}
use Rattle.proof_claims.specs.Held.{OfNode}
use Rattle.proof_claims.specs.Claims.{Has, held_of}
use Rattle.proof_claims.specs.Clauses.{TakesOver, fresh, over}
use Rattle.proof_claims.specs.Dropped.{WasDropped, failed}
use Rattle.proof_claims.specs.Laws.{EachHeld}
use Rattle.proof_claims.proofs.Beginnings.{beginning}
use Rattle.proof_claims.proofs.InSwap as in_swap
use Rattle.proof_claims.proofs.Seen.{IsSeen, checking, deciding, failed_seen, seen}

-- ---- from what an actor is about back to its line

abbrev swap_of : Ref → Ref → Ref → SwapLine → Swap
swap_of i a f x = record { indirection = i; replaced = a; fresh = f; line = x }

swap_line : (i a f : Ref) (x : SwapLine) (j b g : Ref) → stage_of_swap i a f x ≡ Checks j b g → swap_of i a f x ≡ swap_of j b g swap.Check
swap_line i a f swap.Check j b g e = ap (λ z. swap_of z a f swap.Check) (cc e) ∙ ap (λ z. swap_of j z f swap.Check) (cc e) ∙ ap (λ z. swap_of j b z swap.Check) (cc e)
swap_line i a f swap.Publish j b g e = let bad : ⊥ = cc e in absurd bad
swap_line i a f (swap.Deciding y) j b g e = let bad : ⊥ = cc e in absurd bad

checks_line : (l : Line) (j b g : Ref) → stage_of l ≡ Checks j b g → (why : Purpose) × (l ≡ line.Swap why (record { indirection = j; replaced = b; fresh = g; line = swap.Check }))
checks_line (line.Swap why s) j b g e = (why, ap (line.Swap why) (swap_line s.indirection s.replaced s.fresh s.line j b g e))
checks_line (line.Root l) j b g e = let bad : ⊥ = grind arith in absurd bad
checks_line (line.Key l) j b g e = let bad : ⊥ = grind arith in absurd bad
checks_line (line.Build l) j b g e = let bad : ⊥ = grind arith in absurd bad
checks_line (line.Renew l) j b g e = let bad : ⊥ = grind arith in absurd bad
checks_line (line.Clean l) j b g e = let bad : ⊥ = grind arith in absurd bad
checks_line (line.Climb l) j b g e = let bad : ⊥ = grind arith in absurd bad
checks_line (line.Copy l) j b g e = let bad : ⊥ = grind arith in absurd bad
checks_line (line.Walk l) j b g e = let bad : ⊥ = grind arith in absurd bad
checks_line (line.End answer) j b g e = let bad : ⊥ = cc e in absurd bad
checks_line line.Impossible j b g e = let bad : ⊥ = cc e in absurd bad

runs_checking : (x : Option Operation) (i a f : Ref) → stage_of_actor x ≡ Checks i a f → RunsSwap x i a f swap.Check
runs_checking (Some operation) i a f e = record { operation = operation; is = refl; swaps = checks_line operation.line i a f e }
runs_checking None i a f e = let bad : ⊥ = cc e in absurd bad

-- who is in a SWAP follows its nodes
in_swap_followed : (state : State) (actor : ℕ) (operation : Operation) (why : Purpose) (i a f : Ref) (l : SwapLine) → operation_of state actor ≡ Some operation →
    operation.line ≡ line.Swap why (record { indirection = i; replaced = a; fresh = f; line = l }) → (r : Ref) → Contains (i ∷ a ∷ f ∷ []) r → IsFollowedByAny state r
in_swap_followed state actor operation why i a f l runs on r c = from_operation actor operation r runs tt (in_swap.in_followed state operation why (swap_of i a f l) on r c)

pub fresh_followed : (state : State) (actor : ℕ) (operation : Operation) (why : Purpose) (i a f : Ref) (l : SwapLine) → operation_of state actor ≡ Some operation →
    operation.line ≡ line.Swap why (record { indirection = i; replaced = a; fresh = f; line = l }) → IsFollowedByAny state f
fresh_followed state actor operation why i a f l runs on = in_swap_followed state actor operation why i a f l runs on f (2, omega arith, refl)

pub replaced_followed : (state : State) (actor : ℕ) (operation : Operation) (why : Purpose) (i a f : Ref) (l : SwapLine) → operation_of state actor ≡ Some operation →
    operation.line ≡ line.Swap why (record { indirection = i; replaced = a; fresh = f; line = l }) → IsFollowedByAny state a
replaced_followed state actor operation why i a f l runs on = in_swap_followed state actor operation why i a f l runs on a (1, omega arith, refl)

-- its fresh node is in use
pub fresh_used : (limits : Bounds) → AreBounds limits → (xs : List Step) (actor : ℕ) (operation : Operation) (why : Purpose) (i a f : Ref) (l : SwapLine) →
    operation_of (run limits xs) actor ≡ Some operation → operation.line ≡ line.Swap why (record { indirection = i; replaced = a; fresh = f; line = l }) → IsInUse (run limits xs).heap f
fresh_used limits ok xs actor operation why i a f l runs on =
    let (k, place, at_k) = place_of_actor (run limits xs) actor operation runs in
    in_swap.used_f limits ok xs k operation at_k why (swap_of i a f l) on

module _ (limits : Bounds) (ok : AreBounds limits) (xs : List Step) where
  abbrev state : State
  state = run limits xs

  abbrev states : ℕ → State
  states = states_of limits xs

  abbrev last : ℕ
  last = last_of limits xs

  abbrev is_run : IsRun limits states last
  is_run = run_is limits xs ok

  abbrev p : Protocol
  p = protocol_of is_run

  swap_followed : (k : ℕ) (i a m : Ref) (l : SwapLine) → RunsSwap (operation_of (states last) k) i a m l → IsFollowedByAny state m
  swap_followed k i a m l r =
      fresh_followed state k r.operation r.swaps.0 i a m l (ap (λ (s : State). operation_of s k) (sym (run_ends limits xs)) ∙ r.is) r.swaps.1

  -- an undecided one is followed by who decides it
  pending_followed : (m q : Ref) → IsInUse state.heap m → prev_at state.heap m ≡ prev.Pending q → IsFollowedByAny state m
  pending_followed m q used e =
      let (i, owner, only) = pending_has_owner limits xs ok m q used e in
      fresh_followed state owner.actor owner.operation owner.swaps.0 i q m (swap.Deciding owner.line) owner.runs owner.swaps.1

  -- so is one that has failed, or it was dropped
  failed_met : (m q : Ref) → IsInUse state.heap m → prev_at state.heap m ≡ prev.Failed q → IsFollowedByAny state m ⊎ WasDropped limits xs m
  failed_met m q used e = by (failed_seen p last (omega arith) m q (prev_word_of limits xs ok m used ∙ e))
    where
      by : IsSeen p.words last m → IsFollowedByAny state m ⊎ WasDropped limits xs m
      by (deciding k i a l is) = inl (swap_followed k i a m (swap.Deciding l) (runs_deciding (operation_of (states last) k) i a m l is))
      by (checking k i a is) = inl (swap_followed k i a m swap.Check (runs_checking (operation_of (states last) k) i a m is))
      by (seen u k i a x before is was) =
          let b = beginning limits xs u (omega (arith, before)) in
          let then : states u ≡ run limits b.before = ap states (sym b.last) ∙ state_then limits xs b.before b.since b.goes_on in
          let r = runs_checking (operation_of (states u) k) i a m is in
          inr (failed b.before b.since k i a b.goes_on
          (record {
            operation = r.operation;
            runs = ap (λ (s : State). operation_of s k) (sym then) ∙ r.is;
            why = r.swaps.0;
            checks = r.swaps.1;
            uncommitted = λ none.
                let there : IsInUse (states u).heap m = subst (λ (s : State). IsInUse s.heap m) (sym then)
                (fresh_used limits ok b.before k r.operation r.swaps.0 i a m swap.Check (ap (λ (s : State). operation_of s k) (sym then) ∙ r.is) r.swaps.1) in
                none≢failed (sym (prev_grown states u m there.0 there.1) ∙ ap (λ (s : State). prev_at s.heap m) then ∙ none) was;
          }))

  -- ---- what a node names

  module _ (j k : Ref) (used : IsInUse state.heap j) (unfollowed : IsFollowedByAny state j → ⊥) (kept : WasDropped limits xs j → ⊥) where
    over_none : (v : Prev) → prev_at state.heap j ≡ v → (q : Ref) → Contains (refs_of_prev v) q → ⊥
    over_none prev.None e q c = none_in q c
    over_none (prev.Pending x) e q c = unfollowed (pending_followed j x used e)
    over_none (prev.Failed x) e q c = elim (failed_met j x used e) [ inl followed ↦ unfollowed followed | inr dropped ↦ kept dropped ]

    takes_none : TakesOver state (held_of limits xs) j k → ⊥
    takes_none (fresh actor operation why i q runs on own names) = unfollowed (fresh_followed state actor operation why i q j swap.Publish runs on)
    takes_none (over q c names all) = over_none (prev_at state.heap j) refl q c

    pub names_held : EachHeld limits xs → Contains (refs_of_node (node_at state.heap j)) k → Has (held_of limits xs) (OfNode j) k
    names_held h c = elim (h.nodes j k used c) [
      | inl has ↦ has
      | inr other ↦ elim other [ inl gone ↦ absurd (kept gone) | inr takes ↦ absurd (takes_none takes) ]
    ]
