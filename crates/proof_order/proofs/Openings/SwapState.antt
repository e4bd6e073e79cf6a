-- The state behind a root swap: the old root's generation is closed, for ever, and the new roots stand.
use Rattle.std.proofs.Common.{◌≡◌, ℕ, suc, ◌<◌, ◌≤◌, true, [], ◌∷◌, ◌++◌, set, get_or, Option, Some, None, refl, sym, ap, ◌∙◌, subst, arith}
use Rattle.std.proofs.lemmas.List.{get_or-set_same, length-set}
use Rattle.std.proofs.lemmas.Option.{none-some, same_Some}
use Rattle.proof_order.specs.Vocabulary.{Writable, Ref, generation_at, Operation, Descriptor, Plain, Bounds, Outcome, Step, handle_of, State, root_at, root_of, word_at, operation_of, rewritten}
use Rattle.proof_order.specs.Vocabulary.{with_operation, action_of, is_carried_out, acted, gone, carried_out, opened_root, operation_after, settled, Begins, Ends, Sweeps, GivesUp, Moves, IsRun}
use Rattle.proof_order.specs.Vocabulary.{closed_at, noted, Record, noted_progress, closed_by, told_in, progress_of, carried_by}
use Rattle.proof_order.specs.Beneath.machine_model.specs.declared.actions.Action.TheVariants as act
use Rattle.proof_order.specs.Beneath.machine_model.specs.Moves.{Goes}
use Rattle.proof_order.specs.Beneath.machine_model.proofs.Found.{found_within, found_elsewhere}
use Rattle.proof_order.specs.Beneath.machine_model.proofs.Times.{steps_at}
use Rattle.proof_generations.proofs.Lines.Copy.{IsOwn}
use Rattle.proof_generations.proofs.Offers.Standing.{StandsBy, own_numbers}
use Rattle.proof_generations.proofs.Offers.Swaps.{closing_of, closed_in, closed_last}
use Rattle.proof_generations.proofs.Falling.Opened.{closed_until}
use Rattle.proof_order.proofs.Views.Changes.{completed_is, roots_swapped, carried_roots, same_swapped, carries_some}
use Rattle.proof_order.proofs.Views.Handles.{opens_in_range}
use Rattle.proof_order.specs.Openings.{IsSwap, IsRootOf}
use Rattle.proof_order.proofs.Openings.Carried.{Carried, mover, root, word, IsOffered, ordered}
use Rattle.proof_order.specs.Beneath.machine_model.proofs.Notes.{noted_going}

-- the state behind the swap, as far as closings, roots and the heap go
pub record Swapped (state : State) (past : Record) (handle : ℕ) (offer : Descriptor) (after : State) (now : Record) : Type 0 where
  pub closings : now.closings ≡ past.closings ++ closing_of state offer ∷ []
  pub roots : after.roots ≡ roots_swapped state handle offer offer.opens
  pub heap : after.heap ≡ state.heap

gone_swapped : (state : State) (past : Record) (actor : ℕ) (operation : Operation) (offer : Descriptor) (main : Ref) → action_of state operation ≡ act.Complete offer main →
    is_carried_out (word_at state (handle_of operation.call)) offer main ≡ true → Swapped state past (handle_of operation.call) offer (settled state (gone state actor operation))
    (noted_progress past state.steps actor (progress_of state operation))
gone_swapped state past actor operation offer main does carried =
    let base = with_operation state actor (Some (operation_after state operation)) in
    let at = handle_of operation.call in
    let same : gone state actor operation ≡ carried_out base at offer = ap (acted base at) does ∙ completed_is base at offer main carried in
    let (roots, heap) = carried_roots base at offer offer.opens in
    record {
      closings = ap (λ c. past.closings ++ closed_by state.steps c) (ap (carried_by state at) does ∙ carries_some state at offer main carried);
      roots = ap (λ (q : State). q.roots) same ∙ roots ∙ same_swapped base state at offer offer.opens refl;
      heap = ap (λ (q : State). q.heap) same ∙ heap;
    }

swapped_by : (state : State) (past : Record) (s : Step) (o : Outcome) (after : State) (handle : ℕ) (offer : Descriptor) → Moves state s o after → Carried state s handle offer →
    Swapped state past handle offer after (noted past state.steps (told_in state s))
swapped_by state past s o after handle offer (Begins d) c = let go = c.go in let wrong : ⊥ = cc go in absurd wrong
swapped_by state past s o after handle offer (Goes {actor} {operation} {action} d is a g) c =
    let go = c.go in
    let place : actor ≡ c.actor = cc go in
    let one : operation ≡ c.mover = same_Some _ _ (sym is ∙ ap (operation_of state) place ∙ c.moves) in
    let on : handle_of operation.call ≡ handle = ap (λ (x : Operation). handle_of x.call) one ∙ c.on in
    subst (λ now. Swapped state past handle offer (settled state (gone state actor operation)) now) (sym (noted_going state past actor operation action is a g))
    (subst (λ h. Swapped state past h offer (settled state (gone state actor operation)) (noted_progress past state.steps actor (progress_of state operation))) on
    (gone_swapped state past actor operation offer c.main (ap (action_of state) one ∙ c.completes) (ap (λ h. is_carried_out (word_at state h) offer c.main) on ∙ c.carried)))
swapped_by state past s o after handle offer (Ends {actor} {operation} {answer} d is a) c =
    let go = c.go in
    let place : actor ≡ c.actor = cc go in
    let one : operation ≡ c.mover = same_Some _ _ (sym is ∙ ap (operation_of state) place ∙ c.moves) in
    let both : act.End answer ≡ act.Complete offer c.main = sym a ∙ ap (action_of state) one ∙ c.completes in
    let wrong : ⊥ = cc both in
    absurd wrong
swapped_by state past s o after handle offer (GivesUp d is a) c = let go = c.go in let wrong : ⊥ = cc go in absurd wrong
swapped_by state past s o after handle offer (Sweeps spent) c = let go = c.go in let wrong : ⊥ = cc go in absurd wrong

module _ {limits : Bounds} {states : ℕ → State} {last : ℕ} (r : IsRun limits states last) where
  module _ (t handle : ℕ) (offer : Descriptor) (swap : IsSwap states r.records last t handle offer) where
    pub swapped : Swapped (states t) (r.records t) handle offer (states (suc t)) (r.records (suc t))
    swapped =
        subst (λ now. Swapped (states t) (r.records t) handle offer (states (suc t)) now) (sym swap.notes)
        (swapped_by (states t) (r.records t) swap.step swap.outcome (states (suc t)) handle offer swap.moves (mover r t handle offer swap))

    abbrev old : IsOffered (states t) handle offer
    old = root r t handle offer swap

    -- the step closes the old root's generation
    pub closes : closed_at (r.records (suc t)) (generation_at (states t).heap offer.root) ≡ Some t
    closes =
        let g = generation_at (states t).heap offer.root in
        let open_then : closed_at (r.records t) g ≡ None =
        ap (closed_at (r.records t)) (ap (λ w. generation_at (states t).heap (root_of w)) (sym old.word))
        ∙ (ordered r t handle offer swap).roots.unclosed handle old.root old.is_open old.writable in
        ap (λ l. closed_in l g) swapped.closings ∙ closed_last (r.records t).closings (closing_of (states t) offer) g open_then refl
        ∙ ap Some (steps_at r t (omega (arith, swap.taken)))

    pub closed_for_ever : (u : ℕ) → t < u → u ≤ last → closed_at (r.records u) (generation_at (states t).heap offer.root) ≡ Some t
    closed_for_ever u after within = closed_until r (suc t) u after within (generation_at (states t).heap offer.root) t closes

    -- ---- the new roots

    -- the operation that offered runs, and completes the offer
    pub offerer : StandsBy (states t) handle offer
    offerer = (ordered r t handle offer swap).offers.offers handle offer (word r t handle offer swap)

    pub offers : IsOwn offerer.owner.call offerer.owner.id offerer.owner.opens offerer.owner.attempt offer
    offers = own_numbers offerer.owner offer ((ordered r t handle offer swap).offers.own offerer.k offerer.owner offerer.runs) offerer.completes

    -- the handle that it opens isn't open
    pub unopened : (n : ℕ) → offer.opens ≡ Some n → root_at (states t) n ≡ None
    unopened n e = (ordered r t handle offer swap).handles.unopened offerer.k n offerer.owner offerer.runs offerer.unmarked (sym offers.number ∙ e)

    here : get_or (set (states t).roots handle (rewritten (Plain offer.successor) (root_at (states t) handle))) handle None ≡ Some (record old.root { word = Plain offer.successor })
    here =
        get_or-set_same (states t).roots handle _ None (found_within (states t).roots handle old.root old.is_open) ∙ ap (rewritten (Plain offer.successor)) old.is_open

    successor_by : (opens : Option ℕ) → offer.opens ≡ opens → get_or (roots_swapped (states t) handle offer opens) handle None ≡ Some (record old.root { word = Plain offer.successor })
    successor_by None e = here
    successor_by (Some n) e =
        found_elsewhere _ n handle (Some (opened_root offer offer.second)) (λ same. none-some old.root (sym (unopened n e) ∙ ap (root_at (states t)) (sym same) ∙ old.is_open)) ∙ here

    -- the successor stands in the word of the handle
    pub successor_stands : IsRootOf states (suc t) handle offer.successor (generation_at (states t).heap offer.successor)
    successor_stands = record {
      root = record old.root { word = Plain offer.successor };
      is_open = ap (λ l. get_or l handle None) swapped.roots ∙ successor_by offer.opens refl;
      is = refl;
      its = ap (λ h. generation_at h offer.successor) swapped.heap;
    }

    second_by : (n : ℕ) (second : Ref) → offer.opens ≡ Some n → offer.second ≡ Some second → (opens : Option ℕ) → offer.opens ≡ opens →
        get_or (roots_swapped (states t) handle offer opens) n None ≡ Some (record { access = Writable; word = Plain second })
    second_by n second e f None is = absurd (none-some n (sym is ∙ e))
    second_by n second e f (Some m) is =
        let same : m ≡ n = same_Some _ _ (sym is ∙ e) in
        let within = opens_in_range r t (omega (arith, swap.taken)) offerer.k offerer.owner offerer.runs n (sym offers.number ∙ e) in
        ap (λ i. get_or (roots_swapped (states t) handle offer (Some i)) n None) same
        ∙ get_or-set_same _ n (Some (opened_root offer offer.second)) None (rw length-set within) ∙ ap (λ x. Some (opened_root offer x)) f

    -- the second root stands in the word of the handle that is opened
    pub second_stands : (n : ℕ) (second : Ref) → offer.opens ≡ Some n → offer.second ≡ Some second → IsRootOf states (suc t) n second (generation_at (states t).heap second)
    second_stands n second e f = record {
      root = record { access = Writable; word = Plain second };
      is_open = ap (λ l. get_or l n None) swapped.roots ∙ second_by n second e f offer.opens refl;
      is = refl;
      its = ap (λ h. generation_at h second) swapped.heap;
    }

    -- and the old one did before
    pub old_stands : IsRootOf states t handle offer.root (generation_at (states t).heap offer.root)
    old_stands = record { root = old.root; is_open = old.is_open; is = ap root_of old.word; its = refl }
