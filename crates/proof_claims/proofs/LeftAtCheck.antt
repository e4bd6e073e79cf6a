-- What is given to who sees at the end of its SWAP how its fresh node was decided.
use Rattle.std.proofs.Common.{◌≡◌, ◌==◌, ◌&&◌, ℕ, suc, Bool, true, false, not, List, [], ◌∷◌, Contains, Some, cond, arith, refl, sym, ap, subst, ◌∙◌, eqb-true, eq-eqb}
use Rattle.std.proofs.lemmas.Bool.{true≢false}
use Rattle.proof_claims.specs.Beneath.slot_arena.specs.declared.nodes.Prev.{Prev}
use Rattle.proof_claims.specs.Beneath.slot_arena.specs.declared.nodes.Prev.TheVariants as prev
use Rattle.proof_claims.specs.Beneath.slot_arena.specs.declared.refs.Ref.{Ref}
use Rattle.proof_claims.specs.Beneath.slot_arena.specs.Heaps.{prev_at}
use Rattle.proof_claims.specs.Beneath.machine_model.specs.declared.lines.Line.TheVariants as line
use Rattle.proof_claims.specs.Beneath.machine_model.specs.declared.lines.Purpose.{Purpose}
use Rattle.proof_claims.specs.Beneath.machine_model.specs.declared.operations.Operation.{Operation}
use Rattle.proof_claims.specs.Beneath.machine_model.specs.declared.reading.Swap.{Swap}
use Rattle.proof_claims.specs.Beneath.machine_model.specs.declared.reading.SwapLine.TheVariants as swap
use Rattle.proof_claims.specs.Beneath.machine_model.specs.declared.steps.Bounds.{Bounds}
use Rattle.proof_claims.specs.Beneath.machine_model.specs.declared.steps.Step.{Step}
use Rattle.proof_claims.specs.Beneath.machine_model.specs.declared.steps.Step.TheVariants as step
use Rattle.proof_claims.specs.Beneath.machine_model.specs.Keys.{KeysFit}
use Rattle.proof_claims.specs.Beneath.machine_model.specs.Machine.{AreBounds, run}
use Rattle.proof_claims.specs.Beneath.machine_model.specs.Operations.{line_action}
use Rattle.proof_claims.specs.Beneath.machine_model.specs.States.{State, operation_of}
use Rattle.proof_claims.specs.Beneath.machine_model.proofs.Fates.{place_of_actor}
use Rattle.proof_claims.specs.Beneath.proof_reuse.specs.Laws.{IsReplacedBy}
use Rattle.proof_claims.specs.Changes.{change_by, change_going, change_of, checks, checks_at, fate_left, fate_let_go}
use Rattle.proof_claims.specs.Claims.{Has, held_of, how_often}
use Rattle.proof_claims.specs.Held.{Change, Claim, Ends, Given, Held, Holder, OfNode, Stays, gives, is_by_nodes, is_in, is_owned}
use Rattle.proof_claims.specs.Left.{GivenByFailed, GivenByOwn, GivenByShared, LinkHolds, given_by_step, names, once, takes_over}
use Rattle.proof_claims.proofs.ClaimsDiffer.{ClaimsFit, claims_fit}
use Rattle.proof_claims.proofs.FreshClaims.{stands_over}
use Rattle.proof_claims.proofs.Givings.{given_none, given_once}
use Rattle.proof_claims.proofs.InSwap.{plain_f, plain_m, used_f, used_m}
use Rattle.proof_claims.proofs.Lists.{among, both_true, found_in}
use Rattle.proof_claims.proofs.NewClaims.{by_one}
use Rattle.proof_claims.proofs.SwapClaims.{SwapHolds}
use Rattle.proof_claims.proofs.SwapsHold.{swaps_hold}

-- ---- tests

not_false : (b : Bool) → not b ≡ true → b ≡ false
not_false true e = absurd (true≢false (sym e))
not_false false e = refl

both_so : (a b : Bool) → a ≡ true → b ≡ false → (a && not b) ≡ true
both_so a b e f = ap (λ x. x && not b) e ∙ ap not f

ends_given : Ends ≡ Given → ⊥
ends_given e = cc e

stays_given : {h : Holder} → Stays h ≡ Given → ⊥
stays_given e = cc e

-- what fate_left gives is the node's
left_given : (i x : Ref) (c : Claim) → fate_left i x c ≡ Given → c.by ≡ OfNode x
left_given i x c e = by (is_by_nodes (x ∷ []) c.by) refl e
  where
    last : (b : Bool) → cond b Ends (Stays c.by) ≡ Given → c.by ≡ OfNode x
    last true e = absurd (ends_given e)
    last false e = absurd (stays_given e)

    by : (b : Bool) → is_by_nodes (x ∷ []) c.by ≡ b → cond b Given (cond (is_by_nodes (i ∷ []) c.by && (c.on == x)) Ends (Stays c.by)) ≡ Given → c.by ≡ OfNode x
    by true is e = by_one x c.by is
    by false is e = last (is_by_nodes (i ∷ []) c.by && (c.on == x)) e

node_given : (i x k : Ref) → fate_left i x (record { by = OfNode x; on = k }) ≡ Given
node_given i x k =
    ap (λ b. cond b Given (cond (is_in (i ∷ []) x && (k == x)) Ends (Stays (OfNode x)))) (found_in (x ∷ []) x (0, omega arith, refl))

let_go_given : (i x : Ref) (c : Claim) → fate_let_go (is_by_nodes (i ∷ []) c.by && (c.on == x)) c ≡ Given → (c.by ≡ OfNode i) × (c.on ≡ x)
let_go_given i x c e = by (is_by_nodes (i ∷ []) c.by && (c.on == x)) refl e
  where
    by : (b : Bool) → (is_by_nodes (i ∷ []) c.by && (c.on == x)) ≡ b → fate_let_go b c ≡ Given → (c.by ≡ OfNode i) × (c.on ≡ x)
    by true is e = let (a, same) = both_true (is_by_nodes (i ∷ []) c.by) (c.on == x) is in (by_one i c.by a, eqb-true c.on x same)
    by false is e = absurd (stays_given e)

same_claim : (c : Claim) (j k : Ref) → c.by ≡ OfNode j → c.on ≡ k → c ≡ record { by = OfNode j; on = k }
same_claim c j k by on = ap (λ b. record { by = b; on = c.on }) by ∙ ap (λ r. record { by = OfNode j; on = r }) on

module _ (limits : Bounds) (ok : AreBounds limits) (steps : List Step) (keys : KeysFit steps) (actor : ℕ) (i m f : Ref) (operation : Operation)
    (runs : operation_of (run limits steps) actor ≡ Some operation)
    (why : Purpose) (on : operation.line ≡ line.Swap why (record { indirection = i; replaced = m; fresh = f; line = swap.Check })) where
  abbrev state : State
  state = run limits steps

  abbrev held : Held
  held = held_of limits steps

  abbrev w : Swap
  w = record { indirection = i; replaced = m; fresh = f; line = swap.Check }

  fits : ClaimsFit state held
  fits = claims_fit limits ok steps keys

  its : (k : ℕ) × (actor ≡ suc k) × (operation_of state (suc k) ≡ Some operation)
  its = place_of_actor state actor operation runs

  holds : SwapHolds state held (IsReplacedBy limits steps) w
  holds = swaps_hold limits ok steps keys its.0 operation why w its.2 on

  past : swap.Check ≡ swap.Publish → ⊥
  past e = cc e

  change_is : change_of state held (step.Go actor) ≡ checks (is_owned held i m) (prev_at state.heap f) w
  change_is = ap (change_going state held) runs ∙ ap (change_by state held operation) (ap (line_action state operation) on) ∙ ap (checks_at state held) on

  -- by what it finds
  found_is : (b : Bool) (v : Prev) → is_owned held i m ≡ b → prev_at state.heap f ≡ v → change_of state held (step.Go actor) ≡ checks b v w
  found_is b v own is = change_is ∙ ap (λ x. checks x (prev_at state.heap f) w) own ∙ ap (λ x. checks b x w) is

  abbrev Gives : Ref → Change → Bool → Type 0
  Gives k change b = how_often k (gives change held.claims) ≡ once b

  -- ---- where a node lets go of all that it holds

  all_left : (x k : Ref) (change : Change) → ((c : Claim) → change.fate c ≡ fate_left i x c) → change.made ≡ [] → (b : Bool) → (b ≡ true → Has held (OfNode x) k) →
      (b ≡ false → Has held (OfNode x) k → ⊥) → Gives k change b
  all_left x k change fate nothing true has none =
      given_once change k nothing held.claims fits.differ (record { by = OfNode x; on = k }) (has refl) (fate _ ∙ node_given i x k) refl
      (λ d in_d is same. same_claim d x k (left_given i x d (sym (fate d) ∙ is)) same)
  all_left x k change fate nothing false has none =
      given_none change k nothing held.claims
      (λ c in_c is same. none refl (subst (λ z. Contains held.claims z) (same_claim c x k (left_given i x c (sym (fate c) ∙ is)) same) in_c))

  -- committed over its own
  pub own_given : (k : Ref) → prev_at state.heap f ≡ prev.None → is_owned held i m ≡ true → how_often k (given_by_step limits steps (step.Go actor)) ≡ once (names state m k && not (names state f k))
  own_given k none own =
      ap (λ (c : Change). how_often k (gives c held.claims)) (found_is true prev.None own none)
      ∙ all_left m k (checks true prev.None w) (λ c. refl) refl (names state m k && not (names state f k)) has (λ isnt there. true≢false (sym (both_so _ _ (named there) (unnamed there)) ∙ isnt))
    where
      has : (names state m k && not (names state f k)) ≡ true → Has held (OfNode m) k
      has e =
          let (a, b) = both_true (names state m k) (not (names state f k)) e in
          holds.rest past none own k (among _ k a) (λ c. true≢false (sym (found_in _ k c) ∙ not_false (names state f k) b))

      named : Has held (OfNode m) k → names state m k ≡ true
      named there = found_in _ k (fits.made.names m k there (used_m limits ok steps its.0 operation its.2 why w on) (plain_m limits ok steps its.0 operation its.2 why w on))

      unnamed : Has held (OfNode m) k → names state f k ≡ false
      unnamed there = by (names state f k) refl
        where
          by : (b : Bool) → names state f k ≡ b → b ≡ false
          by true e = absurd (holds.moved_on past none own k there (among _ k e))
          by false e = refl

  -- committed over a shared one
  pub shared_given : (k : Ref) → prev_at state.heap f ≡ prev.None → is_owned held i m ≡ false → how_often k (given_by_step limits steps (step.Go actor)) ≡ once (m == k)
  shared_given k none shared = ap (λ (c : Change). how_often k (gives c held.claims)) (found_is false prev.None shared none) ∙ by (m == k) refl
    where
      change : Change
      change = checks false prev.None w

      by : (b : Bool) → (m == k) ≡ b → how_often k (gives (checks false prev.None w) held.claims) ≡ once b
      by true e =
          let same = eqb-true m k e in
          given_once (checks false prev.None w) k refl held.claims fits.differ (record { by = OfNode i; on = m }) (holds.before past none)
          (ap (λ b. fate_let_go b (record { by = OfNode i; on = m })) (ap (λ b. b && (m == m)) (found_in (i ∷ []) i (0, omega arith, refl)) ∙ eq-eqb m m refl)) same
          (λ d in_d is on_k. let (at_i, on_m) = let_go_given i m d is in same_claim d i m at_i on_m)
      by false e =
          given_none (checks false prev.None w) k refl held.claims
          (λ c in_c is on_k. let (at_i, on_m) = let_go_given i m c is in true≢false (sym (eq-eqb m k (sym on_m ∙ on_k)) ∙ e))

  -- not committed
  module _ (k : Ref) (over : prev_at state.heap f ≡ prev.None → ⊥) where
    abbrev itself : Bool
    itself = names state f k && not (takes_over state held i m k)

    has : itself ≡ true → Has held (OfNode f) k
    has e =
        let (a, b) = both_true (names state f k) (not (takes_over state held i m k)) e in
        holds.itself (stands_over over) k (among _ k a)
        (λ own c. true≢false (sym (ap (λ x. x && names state m k) own ∙ found_in _ k c) ∙ not_false (takes_over state held i m k) b))

    none_else : itself ≡ false → Has held (OfNode f) k → ⊥
    none_else isnt there = true≢false (sym (both_so _ _ named (untaken (takes_over state held i m k) refl)) ∙ isnt)
      where
        named : names state f k ≡ true
        named = found_in _ k (fits.made.names f k there (used_f limits ok steps its.0 operation its.2 why w on) (plain_f limits ok steps its.0 operation its.2 why w on))

        untaken : (b : Bool) → takes_over state held i m k ≡ b → b ≡ false
        untaken true e =
            let (own, c) = both_true (is_owned held i m) (names state m k) e in
            absurd ((fits.swaps its.0 operation why w its.2 on).apart (stands_over over) k there own (among _ k c))
        untaken false e = refl

    by_found : (b : Bool) (v : Prev) → is_owned held i m ≡ b → prev_at state.heap f ≡ v → how_often k (given_by_step limits steps (step.Go actor)) ≡ once itself
    by_found b prev.None own is = absurd (over is)
    by_found true (prev.Pending p) own is =
        ap (λ (c : Change). how_often k (gives c held.claims)) (found_is true (prev.Pending p) own is) ∙ all_left f k (checks true (prev.Pending p) w) (λ c. refl) refl itself has none_else
    by_found false (prev.Pending p) own is =
        ap (λ (c : Change). how_often k (gives c held.claims)) (found_is false (prev.Pending p) own is) ∙ all_left f k (checks false (prev.Pending p) w) (λ c. refl) refl itself has none_else
    by_found true (prev.Failed p) own is =
        ap (λ (c : Change). how_often k (gives c held.claims)) (found_is true (prev.Failed p) own is) ∙ all_left f k (checks true (prev.Failed p) w) (λ c. refl) refl itself has none_else
    by_found false (prev.Failed p) own is =
        ap (λ (c : Change). how_often k (gives c held.claims)) (found_is false (prev.Failed p) own is) ∙ all_left f k (checks false (prev.Failed p) w) (λ c. refl) refl itself has none_else

    pub failed_given : how_often k (given_by_step limits steps (step.Go actor)) ≡ once itself
    failed_given = by_found (is_owned held i m) (prev_at state.heap f) refl refl

-- ---- the laws

pub given_by_own : GivenByOwn
given_by_own limits steps actor i m f k ok keys h own = own_given limits ok steps keys actor i m f h.operation h.runs h.why h.checks k h.decided own

pub given_by_shared : GivenByShared
given_by_shared limits steps actor i m f k ok keys h shared = shared_given limits ok steps keys actor i m f h.operation h.runs h.why h.checks k h.decided shared

pub given_by_failed : GivenByFailed
given_by_failed limits steps actor i m f k ok keys h = failed_given limits ok steps keys actor i m f h.operation h.runs h.why h.checks k h.uncommitted

pub link_holds : LinkHolds
link_holds limits steps actor i m f ok keys = (
  λ h. (holds limits ok steps keys actor i m f h.operation h.runs h.why h.checks).before (past limits ok steps keys actor i m f h.operation h.runs h.why h.checks) h.decided,
  λ h. (holds limits ok steps keys actor i m f h.operation h.runs h.why h.checks).link (past limits ok steps keys actor i m f h.operation h.runs h.why h.checks) h.uncommitted,
)
