-- Of an operation in a SWAP: what it replaces is decided, its fresh node is its own, and what others do leaves the three nodes alone.
use Rattle.std.proofs.Common.{◌≡◌, ◌⊎◌, inl, inr, ◌==◌, ℕ, suc, Bool, true, false, List, [], ◌∷◌, Contains, Some, arith, refl, sym, ap, subst, ◌∙◌}
use Rattle.std.proofs.lemmas.Bool.{cases_eq, true≢false}
use Rattle.std.proofs.lemmas.List.Elements.{All-contains, Contains-append_cases}
use Rattle.std.proofs.lemmas.Option.{same_Some}
use Rattle.proof_claims.specs.Beneath.slot_arena.specs.declared.nodes.Node.{Node}
use Rattle.proof_claims.specs.Beneath.slot_arena.specs.declared.nodes.Prev.{Prev}
use Rattle.proof_claims.specs.Beneath.slot_arena.specs.declared.nodes.Prev.TheVariants as prev
use Rattle.proof_claims.specs.Beneath.slot_arena.specs.declared.refs.Ref.{Ref}
use Rattle.proof_claims.specs.Beneath.slot_arena.specs.Heaps.{main_at, node_at, prev_at, refs_of_option}
use Rattle.proof_claims.specs.Beneath.machine_model.specs.declared.actions.Action.{Action}
use Rattle.proof_claims.specs.Beneath.machine_model.specs.declared.actions.Action.TheVariants as act
use Rattle.proof_claims.specs.Beneath.machine_model.specs.declared.copying.CopyLine.TheVariants as copy
use Rattle.proof_claims.specs.Beneath.machine_model.specs.declared.lines.Line.TheVariants as line
use Rattle.proof_claims.specs.Beneath.machine_model.specs.declared.lines.Purpose.{Purpose}
use Rattle.proof_claims.specs.Beneath.machine_model.specs.declared.operations.Operation.{Operation}
use Rattle.proof_claims.specs.Beneath.machine_model.specs.declared.reading.After.{After}
use Rattle.proof_claims.specs.Beneath.machine_model.specs.declared.reading.After.TheVariants.{Goes, Gives}
use Rattle.proof_claims.specs.Beneath.machine_model.specs.declared.reading.Swap.{Swap}
use Rattle.proof_claims.specs.Beneath.machine_model.specs.declared.reading.SwapLine.{SwapLine}
use Rattle.proof_claims.specs.Beneath.machine_model.specs.declared.reading.SwapLine.TheVariants as swap
use Rattle.proof_claims.specs.Beneath.machine_model.specs.declared.roots.Complete.{Complete}
use Rattle.proof_claims.specs.Beneath.machine_model.specs.declared.roots.Descriptor.{Descriptor}
use Rattle.proof_claims.specs.Beneath.machine_model.specs.declared.steps.Bounds.{Bounds}
use Rattle.proof_claims.specs.Beneath.machine_model.specs.declared.steps.Step.{Step}
use Rattle.proof_claims.specs.Beneath.machine_model.specs.declared.steps.Step.TheVariants as step
use Rattle.proof_claims.specs.Beneath.machine_model.specs.Calls.{handle_of}
use Rattle.proof_claims.specs.Beneath.machine_model.specs.Machine.{AreBounds, run}
use Rattle.proof_claims.specs.Beneath.machine_model.specs.Operations.{action_of, line_action}
use Rattle.proof_claims.specs.Beneath.machine_model.specs.States.{State, operation_of, word_at}
use Rattle.proof_claims.specs.Beneath.machine_model.specs.Swapping.{action_at, after_check, after_publish, after_swap, on_line, swap_after, swapping}
use Rattle.proof_claims.specs.Beneath.machine_model.proofs.Actors.{IsOf}
use Rattle.proof_claims.specs.Beneath.machine_model.proofs.Fates.{place_of_actor}
use Rattle.proof_claims.specs.Beneath.proof_commits.proofs.Words.Stood.{Decided}
use Rattle.proof_claims.specs.Beneath.proof_commits.proofs.Known.Owners.{Staged}
use Rattle.proof_claims.specs.Beneath.proof_commits.specs.Stages.{stage_of, stage_of_actor}
use Rattle.proof_claims.specs.Beneath.proof_followed.proofs.NeverBrought.{offered_unknown}
use Rattle.proof_claims.specs.Beneath.proof_fresh.proofs.Publishing.{publishing}
use Rattle.proof_claims.specs.Beneath.proof_garbage.proofs.Claims.{one_in}
use Rattle.proof_claims.specs.Beneath.proof_memory.proofs.Claims.Uses.{all_of, meets_of}
use Rattle.proof_claims.specs.Beneath.proof_memory.proofs.Safety.AtEachTime.{safe_along}
use Rattle.proof_claims.specs.Beneath.proof_memory.proofs.Safety.AtTimes.{action_finds}
use Rattle.proof_claims.specs.Beneath.proof_followed.specs.Followed.{from_operation}
use Rattle.proof_claims.specs.Beneath.proof_followed.specs.Grace.{made_for_offer}
use Rattle.proof_claims.specs.Beneath.proof_garbage.proofs.Fresh.{prev_word_of, sound}
use Rattle.proof_claims.specs.Beneath.proof_garbage.proofs.GivenUp.{other_id}
use Rattle.proof_claims.specs.Beneath.proof_garbage.proofs.Restoring.{staged, w as words, last as end}
use Rattle.proof_claims.specs.Beneath.proof_memory.specs.Laws.{IsInUse}
use Rattle.proof_claims.specs.Beneath.proof_memory.specs.Wants.{AllHold, AnIndirection, action_wants, is_indirection, meets}
use Rattle.proof_claims.specs.Beneath.proof_reuse.proofs.LeftForGood.{fresh_is_ones}
use Rattle.proof_claims.specs.Beneath.proof_reuse.specs.Laws.{IsFreshIn, IsFreshOf}
use Rattle.proof_claims.proofs.ChangeKinds.{Acting, GivesUp, missed, no_slot, told, unoffered, a_node, a_root, MakesNode}
use Rattle.proof_claims.proofs.InSwap.{IsOne, not_theirs, used_m}
use Rattle.proof_claims.proofs.LiveLinks.{link_followed}
use Rattle.proof_claims.proofs.TakenBack.{its_line}

-- who goes on in its SWAP from the first line has swapped its node in
pub publish_hits : (state : State) (was : Operation) (i m f : Ref) (then : Swap) (b : Bool) → (main_at state.heap i == m) ≡ b →
    swap_after state.heap was.access (word_at state (handle_of was.call)) (swapping i m f) ≡ Goes then → (main_at state.heap i == m) ≡ true
publish_hits state was i m f then true e goes = e
publish_hits state was i m f then false e goes =
    let misses : swap_after state.heap was.access (word_at state (handle_of was.call)) (swapping i m f) ≡ Gives false = ap (λ b. on_line (swapping i m f) (after_publish f b)) e in
    let wrong : ◌≡◌ {A = After Swap Bool} (Gives false) (Goes then) = sym misses ∙ goes in
    let bad : ⊥ = cc wrong in absurd bad

module _ (limits : Bounds) (ok : AreBounds limits) (xs : List Step) (k : ℕ) (was : Operation) (runs : operation_of (run limits xs) (suc k) ≡ Some was) (why : Purpose) (w : Swap)
    (on : was.line ≡ line.Swap why w) where
  abbrev state : State
  state = run limits xs

  -- ---- what it replaces is decided

  decided_by : (l : SwapLine) → Staged (words limits xs ok) (end limits xs ok) (suc k) (stage_of (line.Swap why (record w { line = l }))) →
      Decided (words limits xs ok) (end limits xs ok) w.indirection w.replaced
  decided_by swap.Publish st = (sound limits xs ok).given (suc k) w.indirection w.replaced st.1
  decided_by (swap.Deciding r) st = st.2
  decided_by swap.Check st = st.1

  pub replaced_decided : prev_at state.heap w.replaced ≡ prev.None
  replaced_decided =
      sym (prev_word_of limits xs ok w.replaced (used_m limits ok xs k was runs why w on))
      ∙ (decided_by w.line (subst (λ l. Staged (words limits xs ok) (end limits xs ok) (suc k) (stage_of l)) on (staged limits xs ok (suc k) was runs))).none

  -- ---- its fresh node is its own

  fresh_by : (l : SwapLine) → IsFreshIn (stage_of (line.Swap why (record w { line = l }))) w.fresh
  fresh_by swap.Publish = refl
  fresh_by (swap.Deciding r) = refl
  fresh_by swap.Check = refl

  pub its_fresh : IsFreshOf state (suc k) w.fresh
  its_fresh = subst (λ x. IsFreshIn (stage_of_actor x) w.fresh) (sym runs) (subst (λ l. IsFreshIn (stage_of l) w.fresh) (sym on) (fresh_by w.line))

-- two in a SWAP of one fresh node are one
pub one_swapper : (limits : Bounds) → AreBounds limits → (xs : List Step) (k j : ℕ) (a b : Operation) (because why : Purpose) (v w : Swap) → operation_of (run limits xs) (suc k) ≡ Some a →
    operation_of (run limits xs) (suc j) ≡ Some b → a.line ≡ line.Swap because v → b.line ≡ line.Swap why w → v.fresh ≡ w.fresh → suc k ≡ suc j
one_swapper limits ok xs k j a b because why v w runs_a runs_b on_a on_b same =
    fresh_is_ones limits ok xs (suc k) (suc j) w.fresh (subst (IsFreshOf (run limits xs) (suc k)) same (its_fresh limits ok xs k a runs_a because v on_a))
    (its_fresh limits ok xs j b runs_b why w on_b)

-- ---- lines of a SWAP

pub swap_with : (a b : Swap) → a.indirection ≡ b.indirection → a.replaced ≡ b.replaced → a.fresh ≡ b.fresh → record b { line = a.line } ≡ a
swap_with a b i m f =
    ap (λ x. record { indirection = x; replaced = b.replaced; fresh = b.fresh; line = a.line }) (sym i) ∙ ap (λ x. record { indirection = a.indirection; replaced = x; fresh = b.fresh; line = a.line })
    (sym m)
    ∙ ap (λ x. record { indirection = a.indirection; replaced = a.replaced; fresh = x; line = a.line }) (sym f)

pub at_publish : (l : SwapLine) → (l ≡ swap.Publish) ⊎ (l ≡ swap.Publish → ⊥)
at_publish swap.Publish = inl refl
at_publish swap.Check = inr (λ e. let bad : ⊥ = cc e in bad)
at_publish (swap.Deciding r) = inr (λ e. let bad : ⊥ = cc e in bad)

-- ---- how it goes on

-- by another one's step, or by its own, which doesn't end the SWAP
pub data GoesOnBy (state : State) (s : Step) (k : ℕ) (was : Operation) (w w' : Swap) : Type 0 where
  others_step : (IsOf (suc k) s → ⊥) → w' ≡ w → GoesOnBy state s k was w w'
  own_step : s ≡ step.Go (suc k) → swap_after state.heap was.access (word_at state (handle_of was.call)) w ≡ Goes w' → GoesOnBy state s k was w w'

makes_not : (i a f : Ref) (l : SwapLine) (state : State) (node : Node) (action : Action) → MakesNode state node action → action_at i a f l ≡ action → ⊥
makes_not i a f l state node action a_node e = grind arith
makes_not i a f l state node action (a_root main is) e = grind arith

offers_not : (i a f : Ref) (l : SwapLine) (offer : Descriptor) → action_at i a f l ≡ act.Offer offer → ⊥
offers_not i a f l offer e = grind arith

module _ (limits : Bounds) (ok : AreBounds limits) (xs : List Step) (s : Step) (k : ℕ) (was : Operation) (runs : operation_of (run limits xs) (suc k) ≡ Some was) (why : Purpose) (w w' : Swap)
    (on : was.line ≡ line.Swap why w) (how : GoesOnBy (run limits xs) s k was w w') where
  abbrev before : State
  before = run limits xs

  -- where it takes the step itself, it is the acting one
  pub own_act : (action : Action) (a : Acting before s action) → suc k ≡ a.actor → (was ≡ a.operation) × (action_at w.indirection w.replaced w.fresh w.line ≡ action)
  own_act action a same =
      let one : was ≡ a.operation = same_Some was a.operation (sym runs ∙ ap (operation_of before) same ∙ a.runs) in
      (one, sym (ap (line_action before was) on) ∙ ap (action_of before) one ∙ a.acts)

  check_gives : (p : Prev) → prev_at before.heap w.fresh ≡ p → (x : Bool) × (after_swap before.heap was.access (word_at before (handle_of was.call)) w swap.Check ≡ Gives x)
  check_gives prev.None e = (true, ap after_check e)
  check_gives (prev.Pending q) e = (false, ap after_check e)
  check_gives (prev.Failed q) e = (false, ap after_check e)

  -- at the last line it ends by its own step
  not_at_check : s ≡ step.Go (suc k) → w.line ≡ swap.Check → ⊥
  not_at_check go at_check = by how
    where
      by : GoesOnBy before s k was w w' → ⊥
      by (others_step other same) = other (subst (IsOf (suc k)) (sym go) refl)
      by (own_step is goes) =
          let (x, gives) = check_gives (prev_at before.heap w.fresh) refl in
          let wrong : ◌≡◌ {A = After Swap Bool} (Gives x) (Goes w') =
          ap (on_line w) (sym gives) ∙ ap (λ l. on_line w (after_swap before.heap was.access (word_at before (handle_of was.call)) w l)) (sym at_check) ∙ goes in
          let bad : ⊥ = cc wrong in bad

  -- it doesn't give up
  pub gives_up_not : (private : List Ref) → GivesUp before s private → (r : Ref) → IsOne limits ok xs k was runs why w on r → Contains private r → ⊥
  gives_up_not private (no_slot node action a makes_it none same) r one own = elim (cases_eq (suc k) a.actor) [
    | inl here ↦ makes_not w.indirection w.replaced w.fresh w.line before node action makes_it (own_act action a here).1
    | inr apart ↦ not_theirs limits ok xs k was runs why w on a.actor a.operation a.runs apart r one (subst (λ ps. Contains ps r) (sym same) own)
  ]
  gives_up_not private (unoffered offer a stands same) r one own = elim (cases_eq (suc k) a.actor) [
    | inl here ↦ offers_not w.indirection w.replaced w.fresh w.line offer (own_act (act.Offer offer) a here).1
    | inr apart ↦ not_theirs limits ok xs k was runs why w on a.actor a.operation a.runs apart r one (subst (λ ps. Contains ps r) (sym same) own)
  ]
  gives_up_not private (missed i q f a hit same) r one own = elim (cases_eq (suc k) a.actor) [
    | inl here ↦ by here how
    | inr apart ↦ not_theirs limits ok xs k was runs why w on a.actor a.operation a.runs apart r one (subst (λ ps. Contains ps r) (sym same) own)
  ]
    where
      by : suc k ≡ a.actor → GoesOnBy before s k was w w' → ⊥
      by here (others_step other same) = other (subst (IsOf (suc k)) (sym a.is_step) (sym here))
      by here (own_step is goes) =
          let (because, its_line) = publishing before a.operation i q f a.acts in
          let (one_is, acts) = own_act (act.Publish i q f) a here in
          let both : line.Swap why w ≡ line.Swap because (swapping i q f) = sym on ∙ ap (λ (x : Operation). x.line) one_is ∙ its_line in
          let swaps : w ≡ swapping i q f = cc both in
          let misses : swap_after before.heap was.access (word_at before (handle_of was.call)) (swapping i q f) ≡ Gives false = ap (λ b. on_line (swapping i q f) (after_publish f b)) hit in
          let wrong : ◌≡◌ {A = After Swap Bool} (Gives false) (Goes w') = sym misses ∙ ap (swap_after before.heap was.access (word_at before (handle_of was.call))) (sym swaps) ∙ goes in
          let bad : ⊥ = cc wrong in bad
  gives_up_not private (told actor operation is runs_a same) r one own = elim (cases_eq (suc k) actor) [
    | inl here ↦ by here how
    | inr apart ↦ not_theirs limits ok xs k was runs why w on actor operation runs_a apart r one (subst (λ ps. Contains ps r) (sym same) own)
  ]
    where
      by : suc k ≡ actor → GoesOnBy before s k was w w' → ⊥
      by here (others_step other same) = other (subst (IsOf (suc k)) (sym is) (sym here))
      by here (own_step go goes) = let wrong : step.GiveUp actor ≡ step.Go (suc k) = sym is ∙ go in let bad : ⊥ = cc wrong in bad

  -- who looks is in another SWAP
  pub looks_apart : (because : Purpose) (v : Swap) (main : Ref) → (a : Acting before s (act.ReadPrev main)) → a.operation.line ≡ line.Swap because v → v.line ≡ swap.Check → v.fresh ≡ w.fresh → ⊥
  looks_apart because v main a on_v at_check same =
      let (j, place, at_j) = place_of_actor before a.actor a.operation a.runs in
      let here = one_swapper limits ok xs j k a.operation was because why v w at_j runs on_v on same in
      let one : was ≡ a.operation = same_Some was a.operation (sym runs ∙ ap (operation_of before) (sym here) ∙ at_j) in
      let both : line.Swap why w ≡ line.Swap because v = sym on ∙ ap (λ (x : Operation). x.line) one ∙ on_v in
      let swaps : w ≡ v = cc both in
      not_at_check (a.is_step ∙ ap (λ x. step.Go x) (place ∙ here)) (ap (λ (x : Swap). x.line) swaps ∙ at_check)

  -- ---- roots of an offer that is taken back

  module _ (offer : Descriptor) (main : Ref) (c : Complete) (a : Acting before s (act.Complete offer main)) (on_c : a.operation.line ≡ line.Copy (copy.Complete c))
      (unmarked : a.operation.is_marked ≡ false) where
    not_copy : suc k ≡ a.actor → ⊥
    not_copy here =
        let (one, acts) = own_act (act.Complete offer main) a here in
        let wrong : line.Swap why w ≡ line.Copy (copy.Complete c) = sym on ∙ ap (λ (x : Operation). x.line) one ∙ on_c in
        let bad : ⊥ = cc wrong in bad

    -- the indirection is none of them
    pub link_unoffered : Contains (offer.successor ∷ refs_of_option offer.second) w.indirection → ⊥
    link_unoffered d =
        let (j, place, at_j) = place_of_actor before a.actor a.operation a.runs in
        let same = (its_line c offer main (ap (line_action before a.operation) (sym on_c) ∙ a.acts)).0 in
        offered_unknown limits ok xs j a.operation at_j unmarked w.indirection
        (inl (subst (λ l. Contains (made_for_offer l) w.indirection) (sym on_c) (subst (λ (x : Descriptor). Contains (x.successor ∷ refs_of_option x.second) w.indirection) (sym same) d)))
        (from_operation (suc k) was w.indirection runs (other_id limits xs ok a.actor a.operation a.runs (suc k) was not_copy runs) (link_followed limits ok xs k was runs why w on))

    -- all of them are indirections
    are_links : (j : Ref) → Contains (offer.successor ∷ refs_of_option offer.second) j → is_indirection (node_at before.heap j) ≡ true
    are_links j d = elim (Contains-append_cases (offer.successor ∷ []) (refs_of_option offer.second) j d) [
      | inl first ↦ one_in (λ x. is_indirection (node_at before.heap x) ≡ true) offer.successor (meets_of wanted.1.1.1.0) j first
      | inr rest ↦ (All-contains (λ x. IsInUse before.heap x × (meets AnIndirection (node_at before.heap x) ≡ true)) (refs_of_option offer.second) j (all_of wanted.1.1.1.1.0) rest).1
    ]
      where
        wanted : AllHold (IsInUse before.heap) before.heap (action_wants (act.Complete offer main))
        wanted = subst (λ x. AllHold (IsInUse before.heap) before.heap (action_wants x)) a.acts (action_finds before (safe_along limits ok xs) a.actor a.operation a.runs)

    -- so no main node is
    pub main_unoffered : (j : Ref) → is_indirection (node_at before.heap j) ≡ false → Contains (offer.successor ∷ refs_of_option offer.second) j → ⊥
    main_unoffered j plain d = true≢false (sym (are_links j d) ∙ plain)
