-- A step that lets go of what a node that stands holds ends a claim on that one, unless it gives up what its operation has made.
use Rattle.history.specs.declared.calls.Call.{Call}
use Rattle.std.proofs.Common.{◌≡◌, ◌+◌, ◌≤◌, ◌&&◌, ◌||◌, ◌++◌, inl, inr, ℕ, Bool, true, false, List, [], ◌∷◌, Contains, Some, cond, flat_map, get_or, refl, sym, ap, subst, ◌∙◌, arith}
use Rattle.std.proofs.Common.{◌⊎◌, append_assoc, append-nil, eq-eqb, if◌then◌else◌}
use Rattle.std.proofs.lemmas.List.Concat.{flat_map-cons}
use Rattle.std.proofs.lemmas.List.Elements.{Contains-append_cases}
use Rattle.std.proofs.lemmas.List.Sums.{sum_by-append, sum_by-cons}
use Rattle.std.proofs.lemmas.Option.{same_Some}
use Rattle.std.proofs.lemmas.Bool.{true≢false}
use Rattle.atomic_table.specs.Table as Table
use Rattle.machine_model.specs.Beneath.slot_arena.specs.declared.refs.Ref.{Ref}
use Rattle.machine_model.specs.Beneath.slot_arena.specs.Heaps.{refs_of_option}
use Rattle.machine_model.specs.Beneath.slot_arena.specs.Refs.{slot_of}
use Rattle.machine_model.specs.declared.actions.Action.{Action}
use Rattle.machine_model.specs.declared.actions.Action.TheVariants as act
use Rattle.machine_model.specs.declared.copying.CopyLine.TheVariants as copy
use Rattle.machine_model.specs.declared.lines.Line.TheVariants as line
use Rattle.machine_model.specs.declared.operations.Operation.{Operation}
use Rattle.machine_model.specs.declared.roots.Complete.{Complete}
use Rattle.machine_model.specs.declared.roots.Descriptor.{Descriptor}
use Rattle.machine_model.specs.declared.steps.Step.{Step}
use Rattle.machine_model.specs.declared.steps.Step.TheVariants as step
use Rattle.machine_model.specs.Calls.{handle_of}
use Rattle.machine_model.specs.Machine.{AreBounds, is_taken_step, next}
use Rattle.machine_model.specs.Operations.{action_of}
use Rattle.machine_model.specs.States.{State, operation_of, word_at}
use Rattle.machine_model.specs.Swapping.{is_carried_out}
use Rattle.proof_claims.specs.Changes.{change_going, change_of}
use Rattle.proof_claims.specs.Claims.{Has, held_of}
use Rattle.proof_claims.specs.Dropped.{HasFailed, IsLetGo}
use Rattle.proof_claims.specs.Held.{Change, Claim, Ends, Held, Holder, OfHandle, OfNode, Stays, held_after, is_kept, is_owned, kept_by}
use Rattle.proof_claims.specs.Left.{SeesOutcome, is_done}
use Rattle.proof_claims.proofs.ChangeKinds.{Acting, GivesUp, MakesNode, a_node, a_root, missed, no_slot, told, unoffered}
use Rattle.proof_claims.proofs.WhoLetsGo.{LetsGoSo, lets_go_so, so_failed, so_given_up, so_offered, so_replaced}
use Rattle.proof_claims.proofs.LetGoThen.{used_then}
use Rattle.proof_memory.specs.Laws.{IsInUse}
use Rattle.proof_claims.specs.Beneath.proof_reuse.specs.Laws.{HasReplaced}
use Rattle.proof_waiting.specs.Beneath.proof_slots.specs.Unswept.{HasNoSweeps}
use Rattle.lock_free.specs.declared.accounts.Account.{Account}
use Rattle.lock_free.specs.declared.rules.View.{View}
use Rattle.lock_free.specs.declared.sizes.Sizes.{Sizes}
use Rattle.lock_free.specs.Accounts.{bounds_for, state_of}
use Rattle.lock_free.specs.Claims.{claims_there, held_now, is_claim_on, is_there}
use Rattle.lock_free.specs.Holdings.{HasBeenLetGo}
use Rattle.lock_free.specs.Live.{IsLive}
use Rattle.lock_free.specs.Rules.{IsKept, Standing}
use Rattle.lock_free.proofs.ClaimsThere.{claims_stay, fewer_there}
use Rattle.lock_free.proofs.HeldGone.{IsLetting, LetsGoSince}
use Rattle.lock_free.proofs.Idle.{empty_has}
use Rattle.lock_free.proofs.Lettings.{TakesNone, going_lets}
use Rattle.lock_free.proofs.OneStep.Parts.{used_by}
use Rattle.lock_free.proofs.OneStep.HeldLonger.{held_next, let_go_before}
use Rattle.lock_free.proofs.SwapChecks.{failed_ends, fresh_held, letting, link_lives, own_ends, replaced_held}
use Rattle.lock_free.proofs.TakenRoots.{root_ends, root_held}

-- ---- one claim ends

module _ (k : Ref) (before after : ℕ → Bool) (change : Change) (stays : (c : Claim) (by : Holder) → change.fate c ≡ Stays by → is_there after by ≡ true → is_there before c.by ≡ true)
    (ended : Claim) (ends : change.fate ended ≡ Ends) (is : is_claim_on before k ended ≡ true) where
  abbrev keeps_of : List Claim → List Claim
  keeps_of = flat_map (λ (c : Claim). kept_by (change.fate c) c.on)

  pub ended_fewer : (claims : List Claim) → Contains claims ended →
      claims_there after k (flat_map (λ (c : Claim). kept_by (change.fate c) c.on) claims) + 1 ≤ claims_there before k claims
  ended_fewer [] has = absurd (empty_has ended has)
  ended_fewer (c ∷ claims) has =
      let weight : Claim → ℕ = λ x. cond (is_claim_on after k x) 1 0 in
      let keeps = ap (claims_there after k) (flat_map-cons (λ (x : Claim). kept_by (change.fate x) x.on) c claims) ∙ sum_by-append weight (kept_by (change.fate c) c.on) (keeps_of claims) in
      let all = sum_by-cons (λ (x : Claim). cond {A = ℕ} (is_claim_on before k x) 1 0) c claims in
      elim (Contains-append_cases (c ∷ []) claims ended has) [
        | inl first ↦
            (let same = only c ended first in
            let fate : change.fate c ≡ Ends = ap change.fate same ∙ ends in
            let none = ap (λ f. claims_there after k (kept_by f c.on)) fate in
            let one = ap {B = ℕ} (λ b. cond b 1 0) (ap (is_claim_on before k) same ∙ is) in
            let rest = claims_stay k before after change stays claims in
            omega (arith, keeps, all, none, one, rest))
        | inr later ↦
            (let first = claims_stay k before after change stays (c ∷ []) in
            let alone = ap (claims_there after k) (flat_map-cons (λ (x : Claim). kept_by (change.fate x) x.on) c []) ∙ sum_by-append weight (kept_by (change.fate c) c.on) [] in
            let its = sum_by-cons (λ (x : Claim). cond {A = ℕ} (is_claim_on before k x) 1 0) c [] in
            let rest = ended_fewer claims later in
            omega (arith, keeps, all, first, alone, its, rest))
      ]
    where
      only : (y z : Claim) → Contains (y ∷ []) z → y ≡ z
      only y z (i, within, at_i) = let zero_is : i ≡ 0 = omega arith in subst (λ n. get_or (y ∷ []) n z ≡ z) zero_is at_i

-- ---- what was let go of

-- it is in use
pub let_go_used : (sizes : Sizes) (account : Account) → AreBounds (bounds_for sizes account.steps) → HasNoSweeps account.steps → (k : Ref) → HasBeenLetGo sizes account k →
    IsInUse (state_of sizes account).heap k
let_go_used sizes account bounds quiet k w =
    let limits = bounds_for sizes account.steps in
    let used = used_then limits bounds w.before w.s k w.by in
    let all = used_by sizes account.steps w.before (w.s ∷ w.since) (w.goes_on ∙ append_assoc w.before (w.s ∷ []) w.since) bounds quiet k used.0 used.1 in (all.0, all.1)

-- ---- a step

-- this claim on the node, of a holder that was there, ends by the step
pub record EndsOn (sizes : Sizes) (account : Account) (stands : Standing) (taken : Step) (k : Ref) : Type 0 where
  pub by : Holder
  pub has : Has (held_now sizes account) by k
  pub there : is_there stands by ≡ true
  pub ends : (change_of (state_of sizes account) (held_now sizes account) taken).fate (record { by = by; on = k }) ≡ Ends
  pub lets : IsLetting stands stands (IsLive (state_of sizes account)) (change_of (state_of sizes account) (held_now sizes account) taken)

-- or it gives up all that its operation has made, which this is among
pub data LetsGoNow (sizes : Sizes) (account : Account) (stands : Standing) (taken : Step) (k : Ref) : Type 0 where
  ends_one : EndsOn sizes account stands taken k → LetsGoNow sizes account stands taken k
  gives_up : (private : List Ref) → GivesUp (state_of sizes account) taken private → Contains private k → LetsGoNow sizes account stands taken k

module _ (sizes : Sizes) (s : Table.State Call View) (kept : IsKept sizes s) (taken : Step) where
  abbrev account : Account
  account = kept.account

  abbrev state : State
  state = state_of sizes account

  abbrev held : Held
  held = held_now sizes account

  abbrev change : Change
  change = change_of state held taken

  abbrev Now : Ref → Type 0
  Now = LetsGoNow sizes kept.account kept.stands taken

  by_node : (i k : Ref) → Has held (OfNode i) k → IsLive state i → (actor : ℕ) → taken ≡ step.Go actor → (change_of state held (step.Go actor)).fate (record { by = OfNode i; on = k }) ≡ Ends →
      IsLetting kept.stands kept.stands (IsLive state) (change_of state held (step.Go actor)) → Now k
  by_node i k has live actor is_step ends lets = ends_one (record {
    by = OfNode i;
    has = has;
    there = kept.nodes.live i live;
    ends = subst (λ (t : Step). (change_of state held t).fate (record { by = OfNode i; on = k }) ≡ Ends) (sym is_step) ends;
    lets = subst (λ (t : Step). IsLetting kept.stands kept.stands (IsLive state) (change_of state held t)) (sym is_step) lets;
  })

  by_replaced : (k : Ref) (actor : ℕ) (i f : Ref) → taken ≡ step.Go actor → HasReplaced state actor i k f → is_owned held i k ≡ true → Now k
  by_replaced k actor i f is_step r own =
      by_node i k (replaced_held sizes account kept.bounds actor r.operation r.runs r.why i k f r.checks kept.keys r.decided)
      (link_lives sizes account kept.bounds actor r.operation r.runs r.why i k f r.checks) actor is_step
      (own_ends sizes account kept.bounds actor r.operation r.runs r.why i k f r.checks kept.keys r.decided own)
      (letting sizes account kept.bounds actor r.operation r.runs r.why i k f r.checks kept.stands kept.nodes.live)

  by_failed : (k : Ref) (actor : ℕ) (i m : Ref) → taken ≡ step.Go actor → HasFailed state actor i m k → Now k
  by_failed k actor i m is_step r =
      by_node i k (fresh_held sizes account kept.bounds actor r.operation r.runs r.why i m k r.checks kept.keys r.uncommitted)
      (link_lives sizes account kept.bounds actor r.operation r.runs r.why i m k r.checks) actor is_step
      (failed_ends sizes account kept.bounds actor r.operation r.runs r.why i m k r.checks kept.keys r.uncommitted)
      (letting sizes account kept.bounds actor r.operation r.runs r.why i m k r.checks kept.stands kept.nodes.live)

  by_offered : (k : Ref) (offer : Descriptor) (main : Ref) (c : Complete) (a : Acting state taken (act.Complete offer main)) → a.operation.line ≡ line.Copy (copy.Complete c) →
      is_carried_out (word_at state (handle_of a.operation.call)) offer main ≡ false → a.operation.is_marked ≡ false → Contains (offer.successor ∷ refs_of_option offer.second) k → Now k
  by_offered k offer main c a on not_out unmarked d =
      let sees : SeesOutcome state a.actor offer main = record { operation = a.operation; runs = a.runs; completing = c; completes = on; acts = a.acts } in
      let undone : is_done state sees ≡ false = ap (λ b. b || a.operation.is_marked) not_out ∙ unmarked in
      let (g, holds) = root_held sizes account kept.bounds a.actor offer main sees undone k d in
      ends_one (record {
        by = OfHandle g;
        has = holds;
        there = refl;
        ends = subst (λ (t : Step). (change_of state held t).fate (record { by = OfHandle g; on = k }) ≡ Ends) (sym a.is_step)
            (root_ends sizes account kept.bounds a.actor offer main sees undone kept.keys k d g);
        lets = subst (λ (t : Step). IsLetting kept.stands kept.stands (IsLive state) (change_of state held t)) (sym a.is_step)
            (subst (λ o. IsLetting kept.stands kept.stands (IsLive state) (change_going state held o)) (sym a.runs)
            (going_lets kept.stands kept.stands (λ j e. e) state held a.operation (action_of state a.operation) (subst (TakesNone kept.stands state a.operation) (sym a.acts) tt)));
      })

  pub lets_go_now : (k : Ref) → IsLetGo (bounds_for sizes kept.account.steps) kept.account.steps taken k → LetsGoNow sizes kept.account kept.stands taken k
  lets_go_now k now = by (lets_go_so (bounds_for sizes account.steps) kept.bounds account.steps taken k now.lets)
    where
      by : LetsGoSo state held taken k → Now k
      by (so_replaced actor i f is_step r own) = by_replaced k actor i f is_step r own
      by (so_failed actor i m is_step r) = by_failed k actor i m is_step r
      by (so_given_up private up c is) = gives_up private up c
      by (so_offered offer main c a on not_out unmarked d) = by_offered k offer main c a on not_out unmarked d

  -- ---- after it

  module _ (after : Account) (steps : after.steps ≡ kept.account.steps ++ taken ∷ []) where
    pub let_go_then : (k : Ref) → HasBeenLetGo sizes after k →
        HasBeenLetGo sizes kept.account k ⊎ IsLetGo (bounds_for sizes kept.account.steps) kept.account.steps taken k
    let_go_then k gone = let_go_before sizes account.steps kept.bounds taken k (subst (λ l. HasBeenLetGo sizes (record after { steps = l }) k) steps gone)

    -- a step that leaves each claim to its holder lets go of nothing
    pub let_go_by_none : ((c : Claim) → (change_of (state_of sizes kept.account) (held_now sizes kept.account) taken).fate c ≡ Stays c.by) → (k : Ref) → HasBeenLetGo sizes after k →
        HasBeenLetGo sizes kept.account k
    let_go_by_none same k gone = elim (let_go_then k gone) [
      | inl was ↦ was
      | inr now ↦ absurd (true≢false (sym (ap is_kept (same (record { by = OfNode k; on = k }))) ∙ now.lets k))
    ]

    module _ (stands_then : Standing) (fewer : (j : ℕ) → stands_then j ≡ true → kept.stands j ≡ true) where
      still_there : (by : Holder) → is_there stands_then by ≡ true → is_there kept.stands by ≡ true
      still_there (OfHandle handle) e = e
      still_there (OfNode j) e = fewer (slot_of j) e

      one_less : (k : Ref) → is_taken_step (next state taken) ≡ true → EndsOn sizes kept.account kept.stands taken k →
          claims_there stands_then k (held_now sizes after).claims + 1 ≤ claims_there kept.stands k (held_now sizes kept.account).claims
      one_less k is_taken e =
          let kept_claims : List Claim = flat_map (λ (c : Claim). kept_by (change.fate c) c.on) held.claims in
          let is : held_now sizes after ≡ held_after change held =
          ap (λ l. held_of (bounds_for sizes l) l) steps ∙ held_next sizes account.steps kept.bounds taken ∙ ap (λ b. if b then held_after change held else held) is_taken in
          let all : (held_now sizes after).claims ≡ kept_claims =
          ap (λ (h : Held). h.claims) is ∙ ap (λ (cs : List Claim). kept_claims ++ cs) e.lets.added ∙ append-nil kept_claims in
          let less =
          ended_fewer k kept.stands kept.stands change e.lets.stays (record { by = e.by; on = k }) e.ends (ap (λ b. b && is_there kept.stands e.by) (eq-eqb k k refl) ∙ e.there) held.claims e.has in
          let there = fewer_there k kept.stands stands_then still_there kept_claims in
          let now = ap (claims_there stands_then k) all in
          omega (arith, less, there, now)

      -- what it gives up stands no more
      pub let_go_since : ((private : List Ref) → GivesUp (state_of sizes kept.account) taken private → (k : Ref) → Contains private k → stands_then (slot_of k) ≡ true → ⊥) →
          LetsGoSince sizes kept.account after kept.stands stands_then
      let_go_since given_up k gone stood = elim (let_go_then k gone) [
        | inl was ↦ inl was
        | inr now ↦ by now (lets_go_now k now)
      ]
        where
          by : IsLetGo (bounds_for sizes kept.account.steps) kept.account.steps taken k → Now k →
              HasBeenLetGo sizes kept.account k ⊎ (claims_there stands_then k (held_now sizes after).claims + 1 ≤ claims_there kept.stands k (held_now sizes kept.account).claims)
          by now (ends_one e) = inr (one_less k now.taken e)
          by now (gives_up private up c) = absurd (given_up private up k c stood)

-- ---- where it is one of an operation that takes nothing and gives up nothing

module _ (stands : Standing) (state : State) (actor : ℕ) (o : Operation) (runs : operation_of state actor ≡ Some o) (takes : TakesNone stands state o (action_of state o)) where
  acts_so : (action : Action) (a : Acting state (step.Go actor) action) → TakesNone stands state o action
  acts_so action a =
      let same_actor : actor ≡ a.actor = cc a.is_step in
      let same : o ≡ a.operation = same_Some o a.operation (sym runs ∙ ap (operation_of state) same_actor ∙ a.runs) in
      subst (TakesNone stands state o) (ap (action_of state) same ∙ a.acts) takes

  makes : (node : _) (action : Action) → MakesNode state node action → TakesNone stands state o action → ⊥
  makes node action a_node h = absurd h
  makes node action (a_root main is) h = absurd h

  pub none_given_up : (private : List Ref) → GivesUp state (step.Go actor) private → ⊥
  none_given_up private (no_slot node action a makes_it none same) = makes node action makes_it (acts_so action a)
  none_given_up private (missed i m f a differs same) = absurd (acts_so (act.Publish i m f) a)
  none_given_up private (unoffered offer a differs same) = absurd (acts_so (act.Offer offer) a)
  none_given_up private (told other operation is its_runs same) = let wrong : ⊥ = cc is in absurd wrong

pub going_let_go : (sizes : Sizes) (s : Table.State Call View) (kept : IsKept sizes s) (actor : ℕ) (o : Operation) → operation_of (state_of sizes kept.account) actor ≡ Some o →
    TakesNone kept.stands (state_of sizes kept.account) o (action_of (state_of sizes kept.account) o) → (after : Account) → after.steps ≡ kept.account.steps ++ step.Go actor ∷ [] →
    LetsGoSince sizes kept.account after kept.stands kept.stands
going_let_go sizes s kept actor o runs takes after steps =
    let_go_since sizes s kept (step.Go actor) after steps kept.stands (λ j e. e) (λ private up k c stood. none_given_up kept.stands (state_of sizes kept.account) actor o runs takes private up)

-- ---- where an operation begins

pub beginning_let_go : (sizes : Sizes) (s : Table.State Call View) (kept : IsKept sizes s) (actor : ℕ) (call : Call) (number : _) (after : Account) →
    after.steps ≡ kept.account.steps ++ step.Begin actor call number ∷ [] → LetsGoSince sizes kept.account after kept.stands kept.stands
beginning_let_go sizes s kept actor call number after steps =
    let_go_since sizes s kept (step.Begin actor call number) after steps kept.stands (λ j e. e) (λ private up k c stood. none private up)
  where
    none : (private : List Ref) → GivesUp (state_of sizes kept.account) (step.Begin actor call number) private → ⊥
    none private (no_slot node action a makes_it drawn same) = let wrong : ⊥ = cc a.is_step in absurd wrong
    none private (missed i m f a differs same) = let wrong : ⊥ = cc a.is_step in absurd wrong
    none private (unoffered offer a differs same) = let wrong : ⊥ = cc a.is_step in absurd wrong
    none private (told other operation is runs same) = let wrong : ⊥ = cc is in absurd wrong
