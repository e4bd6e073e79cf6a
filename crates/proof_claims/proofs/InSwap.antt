-- What the three nodes of a SWAP are, and that no other operation has made them.
use Rattle.std.proofs.Common.{◌≡◌, ℕ, suc, true, false, List, [], ◌∷◌, ◌++◌, Contains, Some, arith, refl, sym, ap, subst, ◌∙◌}
use Rattle.std.proofs.lemmas.List.Elements.{Contains-append_left}
use Rattle.std.proofs.lemmas.Bool.{true≢false}
use Rattle.proof_claims.specs.Beneath.slot_arena.specs.declared.nodes.Node.{Node}
use Rattle.proof_claims.specs.Beneath.slot_arena.specs.declared.nodes.Node.TheVariants.{Indirection, Branch, Single, Tomb, List as Listed}
use Rattle.proof_claims.specs.Beneath.slot_arena.specs.declared.refs.Ref.{Ref}
use Rattle.proof_claims.specs.Beneath.slot_arena.specs.Heaps.{main_at, main_of, node_at, refs_of_node}
use Rattle.proof_claims.specs.Beneath.machine_model.specs.declared.lines.Line.TheVariants as line
use Rattle.proof_claims.specs.Beneath.machine_model.specs.declared.lines.Purpose.{Purpose}
use Rattle.proof_claims.specs.Beneath.machine_model.specs.declared.operations.Operation.{Operation}
use Rattle.proof_claims.specs.Beneath.machine_model.specs.declared.reading.Swap.{Swap}
use Rattle.proof_claims.specs.Beneath.machine_model.specs.declared.reading.SwapLine.{SwapLine}
use Rattle.proof_claims.specs.Beneath.machine_model.specs.declared.reading.SwapLine.TheVariants as swap
use Rattle.proof_claims.specs.Beneath.machine_model.specs.declared.steps.Bounds.{Bounds}
use Rattle.proof_claims.specs.Beneath.machine_model.specs.declared.steps.Step.{Step}
use Rattle.proof_claims.specs.Beneath.machine_model.specs.Machine.{AreBounds, run}
use Rattle.proof_claims.specs.Beneath.machine_model.specs.States.{State, operation_of}
use Rattle.proof_claims.specs.Beneath.machine_model.specs.Swapping.{swapping}
use Rattle.proof_claims.specs.Beneath.proof_followed.specs.Followed.{followed_by, followed_claims, followed_wants}
use Rattle.proof_claims.specs.Beneath.proof_garbage.proofs.GivenUp.{fresh_private, other_id, private_known, slot_names_not}
use Rattle.proof_claims.specs.Beneath.proof_garbage.specs.Live.{at_hand, from_operation, line_claims, refs_of_claims}
use Rattle.proof_claims.specs.Beneath.proof_memory.proofs.Claims.Uses.{first_hold, meets_of, safe_of}
use Rattle.proof_claims.specs.Beneath.proof_memory.proofs.Safety.AtEachTime.{safe_along}
use Rattle.proof_claims.specs.Beneath.proof_memory.proofs.Safety.AtTimes.{line_finds}
use Rattle.proof_claims.specs.Beneath.proof_memory.specs.Laws.{IsInUse}
use Rattle.proof_claims.specs.Beneath.proof_memory.specs.Wants.{AMain, AllHold, is_indirection, line_wants, meets, purpose_wants, swap_wants}
use Rattle.proof_claims.proofs.FromRoots.{named_in_slot}

-- an indirection names its main node
pub link_has : (n : Node) (r : Ref) → is_indirection n ≡ true → main_of n ≡ r → Contains (refs_of_node n) r
link_has (Indirection generation main) r e same = (0, omega arith, same)
link_has (Branch bitmap entries) r e same = absurd (true≢false (sym e))
link_has (Single key value) r e same = absurd (true≢false (sym e))
link_has (Tomb single) r e same = absurd (true≢false (sym e))
link_has (Listed singles) r e same = absurd (true≢false (sym e))

-- a main node is no indirection
pub main_plain : (n : Node) → meets AMain n ≡ true → is_indirection n ≡ false
main_plain (Indirection generation main) e = absurd (true≢false (sym e))
main_plain (Branch bitmap entries) e = refl
main_plain (Single key value) e = refl
main_plain (Tomb single) e = refl
main_plain (Listed singles) e = refl

-- who is in a SWAP follows its three nodes
pub in_followed : (state : State) (operation : Operation) (why : Purpose) (w : Swap) → operation.line ≡ line.Swap why w → (r : Ref) → Contains (w.indirection ∷ w.replaced ∷ w.fresh ∷ []) r →
    Contains (followed_by state operation) r
in_followed state operation why w on r c =
    Contains-append_left (refs_of_claims (followed_claims state operation)) operation.private r
    (subst (λ l. Contains (refs_of_claims (followed_wants state.limits.hash operation.call operation.access l)) r) (sym on) (by w.line refl))
  where
    by : (l : SwapLine) → w.line ≡ l → Contains (refs_of_claims (followed_wants state.limits.hash operation.call operation.access (line.Swap why w))) r
    by swap.Publish e =
        subst (λ x. Contains (refs_of_claims (followed_wants state.limits.hash operation.call operation.access (line.Swap why (record w { line = x })))) r) (sym e)
        (Contains-append_left (w.indirection ∷ w.replaced ∷ w.fresh ∷ []) _ r c)
    by (swap.Deciding l) e =
        subst (λ x. Contains (refs_of_claims (followed_wants state.limits.hash operation.call operation.access (line.Swap why (record w { line = x })))) r) (sym e)
        (Contains-append_left (w.indirection ∷ w.replaced ∷ w.fresh ∷ []) _ r c)
    by swap.Check e =
        subst (λ x. Contains (refs_of_claims (followed_wants state.limits.hash operation.call operation.access (line.Swap why (record w { line = x })))) r) (sym e)
        (Contains-append_left (w.indirection ∷ w.replaced ∷ w.fresh ∷ []) _ r c)

module _ (limits : Bounds) (ok : AreBounds limits) (xs : List Step) (k : ℕ) (operation : Operation) (runs : operation_of (run limits xs) (suc k) ≡ Some operation) (why : Purpose) (w : Swap)
    (on : operation.line ≡ line.Swap why w) where
  abbrev state : State
  state = run limits xs

  claims : AllHold (IsInUse state.heap) state.heap (swap_wants w)
  claims =
      first_hold (IsInUse state.heap) state.heap (swap_wants w) (purpose_wants why)
      (subst (λ l. AllHold (IsInUse state.heap) state.heap (line_wants state.limits.hash operation.call operation.access l)) on (line_finds state (safe_along limits ok xs) (suc k) operation runs))

  pub used_i : IsInUse state.heap w.indirection
  used_i = safe_of claims.0

  pub link_i : is_indirection (node_at state.heap w.indirection) ≡ true
  link_i = meets_of claims.0

  pub used_m : IsInUse state.heap w.replaced
  used_m = safe_of claims.1.0

  pub main_m : meets AMain (node_at state.heap w.replaced) ≡ true
  main_m = meets_of claims.1.0

  pub used_f : IsInUse state.heap w.fresh
  used_f = safe_of claims.1.1.0

  pub main_f : meets AMain (node_at state.heap w.fresh) ≡ true
  main_f = meets_of claims.1.1.0

  pub plain_m : is_indirection (node_at state.heap w.replaced) ≡ false
  plain_m = main_plain (node_at state.heap w.replaced) main_m

  pub plain_f : is_indirection (node_at state.heap w.fresh) ≡ false
  plain_f = main_plain (node_at state.heap w.fresh) main_f

  pub fresh_no_link : w.fresh ≡ w.indirection → ⊥
  fresh_no_link same = true≢false (sym link_i ∙ ap (λ r. is_indirection (node_at state.heap r)) (sym same) ∙ plain_f)

  -- the three are at hand
  pub data IsOne (r : Ref) : Type 0 where
    the_indirection : w.indirection ≡ r → IsOne r
    the_replaced : w.replaced ≡ r → IsOne r
    the_fresh : w.fresh ≡ r → IsOne r

  in_line : (r : Ref) → IsOne r → Contains (refs_of_claims (swap_wants w)) r
  in_line r (the_indirection same) = (0, omega arith, same)
  in_line r (the_replaced same) = (1, omega arith, same)
  in_line r (the_fresh same) = (2, omega arith, same)

  pub in_hand : (r : Ref) → IsOne r → Contains (at_hand state operation) r
  in_hand r one =
      Contains-append_left (refs_of_claims (line_claims state operation)) operation.private r
      (subst (λ l. Contains (refs_of_claims (line_wants state.limits.hash operation.call operation.access l)) r) (sym on) (more r one))
    where
      more : (r : Ref) → IsOne r → Contains (refs_of_claims (swap_wants w ++ purpose_wants why)) r
      more r (the_indirection same) = (0, omega arith, same)
      more r (the_replaced same) = (1, omega arith, same)
      more r (the_fresh same) = (2, omega arith, same)

  -- so none of them is private to another operation
  pub not_theirs : (b : ℕ) (other : Operation) → operation_of state b ≡ Some other → (suc k ≡ b → ⊥) → (r : Ref) → IsOne r → Contains other.private r → ⊥
  not_theirs b other runs_b apart r one own =
      private_known limits xs ok b other runs_b r own (from_operation (suc k) operation r runs (other_id limits xs ok b other runs_b (suc k) operation apart runs) (in_hand r one))

-- who is about to swap a node in has it private, and it stands in no word
module _ (limits : Bounds) (ok : AreBounds limits) (xs : List Step) (actor : ℕ) (operation : Operation) (runs : operation_of (run limits xs) actor ≡ Some operation) (why : Purpose) (i a f : Ref)
    (on : operation.line ≡ line.Swap why (swapping i a f)) where
  pub its_private : Contains operation.private f
  its_private = fresh_private limits xs ok actor operation runs i a f why on

  pub stands_nowhere : (j : Ref) → IsInUse (run limits xs).heap j → is_indirection (node_at (run limits xs).heap j) ≡ true → main_at (run limits xs).heap j ≡ f → ⊥
  stands_nowhere j used link same =
      slot_names_not limits xs ok actor operation runs i a f why on j (named_in_slot limits xs ok j f used (link_has (node_at (run limits xs).heap j) f link same))
