-- What is given to who gives up what it made.
use Rattle.std.proofs.Common.{◌≡◌, ◌==◌, ◌&&◌, ℕ, suc, Bool, true, false, not, List, Contains, Some, cond, refl, sym, ap, subst, ◌∙◌, eqb-true, eq-eqb}
use Rattle.std.proofs.lemmas.Bool.{true≢false}
use Rattle.proof_claims.specs.Beneath.slot_arena.specs.declared.refs.Ref.{Ref}
use Rattle.proof_claims.specs.Beneath.slot_arena.specs.Heaps.{node_at, refs_of_node}
use Rattle.proof_claims.specs.Beneath.machine_model.specs.declared.lines.Line.{Line}
use Rattle.proof_claims.specs.Beneath.machine_model.specs.declared.lines.Line.TheVariants as line
use Rattle.proof_claims.specs.Beneath.machine_model.specs.declared.lines.Purpose.{Purpose}
use Rattle.proof_claims.specs.Beneath.machine_model.specs.declared.operations.Operation.{Operation}
use Rattle.proof_claims.specs.Beneath.machine_model.specs.declared.reading.Swap.{Swap}
use Rattle.proof_claims.specs.Beneath.machine_model.specs.declared.reading.SwapLine.{SwapLine}
use Rattle.proof_claims.specs.Beneath.machine_model.specs.declared.reading.SwapLine.TheVariants as swap
use Rattle.proof_claims.specs.Beneath.machine_model.specs.declared.steps.Bounds.{Bounds}
use Rattle.proof_claims.specs.Beneath.machine_model.specs.declared.steps.Step.{Step}
use Rattle.proof_claims.specs.Beneath.machine_model.specs.Keys.{KeysFit}
use Rattle.proof_claims.specs.Beneath.machine_model.specs.Machine.{AreBounds, run}
use Rattle.proof_claims.specs.Beneath.machine_model.specs.States.{State, operation_of}
use Rattle.proof_claims.specs.Beneath.machine_model.proofs.Fates.{place_of_actor}
use Rattle.proof_claims.specs.Beneath.proof_garbage.proofs.Claims.{none_in}
use Rattle.proof_claims.specs.Beneath.proof_reuse.specs.Laws.{IsReplacedBy}
use Rattle.proof_claims.specs.Changes.{fate_given_up, given_up}
use Rattle.proof_claims.specs.Claims.{Has, held_of, how_often}
use Rattle.proof_claims.specs.Held.{Change, Claim, Ends, Given, Held, OfNode, Stays, gives, is_by_nodes, is_in, is_owned}
use Rattle.proof_claims.specs.Left.{GivenByGivingUp, holds_made, names, takes_at, takes_over, times_made}
use Rattle.proof_claims.proofs.ByNodes.{by_these, count_same, count_these}
use Rattle.proof_claims.proofs.ClaimsDiffer.{ClaimsFit, claims_fit}
use Rattle.proof_claims.proofs.Differing.{count_none}
use Rattle.proof_claims.proofs.FreshClaims.{publishes}
use Rattle.proof_claims.proofs.Givings.{counts, gives_count, is_given}
use Rattle.proof_claims.proofs.Lists.{among, both_true, found_in}
use Rattle.proof_claims.proofs.PrivateClaims.{NotToSwap, PrivateHolds, none_past}
use Rattle.proof_claims.proofs.PrivatesDiffer.{privates_differ}
use Rattle.proof_claims.proofs.PrivatesHold.{privates_hold}
use Rattle.proof_claims.proofs.SwapClaims.{SwapHolds}
use Rattle.proof_claims.proofs.SwapsHold.{swaps_hold}

not_false : (b : Bool) → not b ≡ true → b ≡ false
not_false true e = absurd (true≢false (sym e))
not_false false e = refl

not_so : (a b : Bool) → (a && not b) ≡ false → a ≡ true → b ≡ true
not_so true true e is = refl
not_so true false e is = absurd (true≢false e)
not_so false b e is = absurd (true≢false (sym is))

-- whether the claim is given, by whether what it is on is given up as well
given_as : (private : List Ref) (k : Ref) (c : Claim) (inside : Bool) → is_in private k ≡ inside → (is_given (fate_given_up private c) && (c.on == k)) ≡ cond inside false (by_these k private c)
given_as private k c inside e = by (c.on == k) refl (is_by_nodes private c.by) refl
  where
    outside : (on by : Bool) → is_given (cond by (cond on Ends Given) (Stays c.by)) ≡ (by && not on)
    outside true true = refl
    outside false true = refl
    outside on false = refl

    last : (b i : Bool) → ((b && not i) && true) ≡ cond i false (b && true)
    last true true = refl
    last true false = refl
    last false true = refl
    last false false = refl

    none : (b i g : Bool) → (g && false) ≡ cond i false (b && false)
    none true true true = refl
    none true true false = refl
    none true false true = refl
    none true false false = refl
    none false true true = refl
    none false true false = refl
    none false false true = refl
    none false false false = refl

    by : (on : Bool) → (c.on == k) ≡ on → (b : Bool) → is_by_nodes private c.by ≡ b → (is_given (fate_given_up private c) && (c.on == k)) ≡ cond inside false (by_these k private c)
    by true on b is =
        let same : is_in private c.on ≡ inside = ap (is_in private) (eqb-true c.on k on) ∙ e in
        ap (λ x. x && (c.on == k)) (outside (is_in private c.on) (is_by_nodes private c.by))
        ∙ ap (λ x. (is_by_nodes private c.by && not (is_in private c.on)) && x) on
        ∙ ap (λ x. (is_by_nodes private c.by && not x) && true) same
        ∙ last (is_by_nodes private c.by) inside
        ∙ ap (λ x. cond inside false (is_by_nodes private c.by && x)) (sym on)
    by false on b is =
        ap (λ x. is_given (fate_given_up private c) && x) on ∙ none (is_by_nodes private c.by) inside (is_given (fate_given_up private c))
        ∙ ap (λ x. cond inside false (is_by_nodes private c.by && x)) (sym on)

module _ (limits : Bounds) (ok : AreBounds limits) (steps : List Step) (keys : KeysFit steps) (actor : ℕ) (operation : Operation) (runs : operation_of (run limits steps) actor ≡ Some operation)
    (k : Ref) where
  abbrev state : State
  state = run limits steps

  abbrev held : Held
  held = held_of limits steps

  its : (j : ℕ) × (actor ≡ suc j) × (operation_of state (suc j) ≡ Some operation)
  its = place_of_actor state actor operation runs

  fits : ClaimsFit state held
  fits = claims_fit limits ok steps keys

  private_holds : (x : Ref) → Contains operation.private x → PrivateHolds state held operation x
  private_holds x c = privates_hold limits ok steps keys its.0 operation its.2 x c

  swap_holds : (why : Purpose) (w : Swap) → operation.line ≡ line.Swap why w → SwapHolds state held (IsReplacedBy limits steps) w
  swap_holds why w on = swaps_hold limits ok steps keys its.0 operation why w its.2 on

  -- who has something private is at the first line of a SWAP, if it is in one
  at_publish : (x : Ref) → Contains operation.private x → (why : Purpose) (w : Swap) → operation.line ≡ line.Swap why w → w.line ≡ swap.Publish
  at_publish x c why w on = by w.line refl
    where
      past : (w.line ≡ swap.Publish → ⊥) → w.line ≡ swap.Publish
      past apart = absurd (none_in x (subst (λ ps. Contains ps x) (none_past limits ok steps actor operation runs why w on apart) c))

      by : (l : SwapLine) → w.line ≡ l → w.line ≡ swap.Publish
      by swap.Publish e = e
      by (swap.Deciding r) e = past (λ p. let wrong : swap.Publish ≡ swap.Deciding r = sym p ∙ e in let bad : ⊥ = cc wrong in bad)
      by swap.Check e = past (λ p. let wrong : swap.Publish ≡ swap.Check = sym p ∙ e in let bad : ⊥ = cc wrong in bad)

  module _ (x : Ref) (c : Contains operation.private x) where
    abbrev Its : Type 0
    Its = Has held (OfNode x) k

    -- it takes nothing over
    free_has : NotToSwap operation x → names state x k ≡ true → Its
    free_has free e = (private_holds x c).holds free k (among _ k e)

    named : Its → names state x k ≡ true
    named there = found_in _ k ((private_holds x c).names k there)

    has : (l : Line) → operation.line ≡ l → names state x k ≡ true → takes_at state held l x k ≡ false → Its
    has (line.Swap why w) on e isnt = by (w.fresh == x) refl
      where
        by : (b : Bool) → (w.fresh == x) ≡ b → Its
        by true is =
            let same = eqb-true w.fresh x is in
            let free : takes_over state held w.indirection w.replaced k ≡ false = sym (ap (λ b. b && takes_over state held w.indirection w.replaced k) is) ∙ isnt in
            subst (λ z. Has held (OfNode z) k) same
            ((swap_holds why w on).itself (publishes (at_publish x c why w on)) k (subst (λ z. Contains (refs_of_node (node_at state.heap z)) k) (sym same) (among _ k e))
            (λ own d. true≢false (sym (ap (λ b. b && names state w.replaced k) own ∙ found_in _ k d) ∙ free)))
        by false is =
            free_has
            (λ because v on_v same.
            let one : line.Swap why w ≡ line.Swap because v = sym on ∙ on_v in
            let same_swap : w ≡ v = cc one in
            true≢false (sym (eq-eqb w.fresh x (ap (λ (z : Swap). z.fresh) same_swap ∙ same)) ∙ is)) e
    has l on e isnt = free_has (λ why w on_w same. let wrong : l ≡ line.Swap why w = sym on ∙ on_w in let bad : ⊥ = cc wrong in bad) e

    has_not : (l : Line) → operation.line ≡ l → takes_at state held l x k ≡ true → Its → ⊥
    has_not (line.Swap why w) on e there =
        let (is, over) = both_true (w.fresh == x) (takes_over state held w.indirection w.replaced k) e in
        let (own, d) = both_true (is_owned held w.indirection w.replaced) (names state w.replaced k) over in
        (fits.swaps its.0 operation why w its.2 on).apart (publishes (at_publish x c why w on)) k (subst (λ z. Has held (OfNode z) k) (sym (eqb-true w.fresh x is)) there) own (among _ k d)
    has_not l on e there = true≢false (sym e)

    pub made_has : holds_made state held operation x k ≡ true → Its
    made_has e =
        let (a, b) = both_true (names state x k) (not (takes_at state held operation.line x k)) e in has operation.line refl a (not_false (takes_at state held operation.line x k) b)

    pub made_not : holds_made state held operation x k ≡ false → Its → ⊥
    made_not e there = has_not operation.line refl (not_so (names state x k) (takes_at state held operation.line x k) e (named there)) there

  pub given_times : (inside : Bool) → is_in operation.private k ≡ inside → how_often k (gives (given_up operation.private) held.claims) ≡ times_made inside state held operation k
  given_times true e =
      gives_count (given_up operation.private) k refl held.claims
      ∙ count_none (counts (given_up operation.private) k) held.claims (λ c stands. given_as operation.private k c true e)
  given_times false e =
      gives_count (given_up operation.private) k refl held.claims
      ∙ count_same (counts (given_up operation.private) k) (by_these k operation.private) (λ c. given_as operation.private k c false e) held.claims
      ∙ count_these k held.claims fits.differ (λ x. holds_made state held operation x k) operation.private (privates_differ limits ok steps actor operation runs) made_has made_not

pub given_by_giving_up : GivenByGivingUp
given_by_giving_up limits steps s actor operation k ok keys runs is =
    ap (λ (c : Change). how_often k (gives c (held_of limits steps).claims)) is ∙ given_times limits ok steps keys actor operation runs k (is_in operation.private k) refl
