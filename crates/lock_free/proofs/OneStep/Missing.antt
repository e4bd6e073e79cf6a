-- What is left by the step that offers where its root stands no more: all that the operation made for the offer is given up.
use Rattle.std.proofs.Common.{◌≡◌, ℕ, false, [], All, Contains, Some, sym, ap, subst, ◌∙◌}
use Rattle.std.proofs.lemmas.Option.{same_Some}
use Rattle.machine_model.specs.Beneath.slot_arena.specs.declared.refs.Ref.{Ref}
use Rattle.machine_model.specs.Beneath.slot_arena.specs.Refs.{slot_of}
use Rattle.machine_model.specs.declared.actions.Action.TheVariants as act
use Rattle.machine_model.specs.declared.copying.CopyLine.TheVariants as copy
use Rattle.machine_model.specs.declared.lines.Line.TheVariants as line
use Rattle.machine_model.specs.declared.operations.Operation.{Operation}
use Rattle.machine_model.specs.declared.roots.Descriptor.{Descriptor}
use Rattle.machine_model.specs.declared.steps.Bounds.{Bounds}
use Rattle.machine_model.specs.Acting.{acted, gone, if_changed, operation_after, private_after}
use Rattle.machine_model.specs.Calls.{handle_of}
use Rattle.machine_model.specs.Copying.{after_offer}
use Rattle.machine_model.specs.Lines.{new_try}
use Rattle.machine_model.specs.Machine.{AreBounds}
use Rattle.machine_model.specs.Moves.{GoesOn}
use Rattle.machine_model.specs.Operations.{action_of, line_after}
use Rattle.machine_model.specs.States.{State, operation_of, word_at, with_word, with_operation}
use Rattle.machine_model.specs.declared.roots.RootWord.TheVariants.{Offer}
use Rattle.machine_model.specs.Swapping.{is_plain}
use Rattle.machine_model.proofs.Fates.{place_of_actor}
use Rattle.proof_garbage.proofs.GivenUp.{SameElsewhere, dead_with_nothing}
use Rattle.proof_garbage.specs.Beneath.proof_generations.proofs.Offers.Standing.{offer_line}
use Rattle.proof_memory.specs.Laws.{IsInUse}
use Rattle.proof_memory.proofs.Safety.AtEachTime.{safe_along}
use Rattle.proof_memory.proofs.Safety.Standing.{none_contained}
use Rattle.lock_free.specs.declared.accounts.Account.{Account}
use Rattle.lock_free.specs.declared.accounts.Known.{Known}
use Rattle.lock_free.specs.declared.sizes.Sizes.{Sizes}
use Rattle.lock_free.specs.Accounts.{bounds_for, state_of, running, gone_on, HasStood}
use Rattle.lock_free.specs.Live.{at_hand, IsLive}
use Rattle.lock_free.specs.Steps.{Leads}
use Rattle.lock_free.proofs.OneStep.Changing.{then, live_used, live_less}
use Rattle.lock_free.proofs.OneStep.Doing.{CompletesNone, others, own}
use Rattle.lock_free.proofs.OneStep.Giving.{is_one_of, none_of_them}
use Rattle.lock_free.proofs.OneStep.Offering.{offer_misses}
use Rattle.lock_free.proofs.OneStep.Reached.{reached_apart}
use Rattle.lock_free.proofs.OneStep.Retired.{retired_apart}
use Rattle.proof_waiting.specs.Beneath.proof_slots.specs.Unswept.{HasNoSweeps}

module _ (sizes : Sizes) (account : Account) (bounds : AreBounds (bounds_for sizes account.steps)) (actor : ℕ) (operation : Operation) (runs : running sizes account actor operation)
    (offer : Descriptor) (is : action_of (state_of sizes account) operation ≡ act.Offer offer) (stood : (k : Known) → Contains account.offers k → HasStood sizes account k.offer)
    (quiet : HasNoSweeps account.steps) (another : is_plain (word_at (state_of sizes account) (handle_of operation.call)) offer.root ≡ false) where
  abbrev state : State
  state = state_of sizes account

  abbrev limits : Bounds
  limits = bounds_for sizes account.steps

  abbrev next : Operation
  next = operation_after state operation

  abbrev put : State
  put = with_operation state actor (Some next)

  g : GoesOn (action_of state operation)
  g = subst GoesOn (sym is) tt

  none : CompletesNone (action_of state operation)
  none = subst CompletesNone (sym is) tt

  abbrev after : State
  after = (then) sizes account bounds actor operation runs g

  gone_is : gone state actor operation ≡ put
  gone_is =
      ap (acted put (handle_of operation.call)) is ∙ ap (λ c. if_changed c (with_word put (handle_of operation.call) (Offer offer)) put) another

  elsewhere : SameElsewhere limits account.steps bounds actor operation runs after
  elsewhere = record {
    roots = ap (λ (s : State). s.roots) gone_is;
    heap = ap (λ (s : State). s.heap) gone_is;
    bounds = ap (λ (s : State). s.limits) gone_is;
    others = others state actor operation runs none;
  }

  -- ---- the operation has nothing at hand then

  at_line : operation.line ≡ line.Copy (copy.Offer offer)
  at_line = offer_line state operation operation.line offer is

  next_line : next.line ≡ new_try
  next_line = ap (line_after state operation) at_line ∙ ap (after_offer offer) another

  next_private : next.private ≡ []
  next_private = ap (private_after state operation.private) is

  hand_is : at_hand after next ≡ []
  hand_is =
      ap (λ l. at_hand after (record next { line = l })) next_line ∙ ap (λ rs. at_hand after (record next { line = new_try; private = rs })) next_private

  nothing_left : (o : Operation) → operation_of after actor ≡ Some o → (r : Ref) → Contains (at_hand after o) r → ⊥
  nothing_left o e r c =
      let same = same_Some o next (sym e ∙ own state actor operation runs none) in
      none_contained r (subst (λ rs. Contains rs r) (ap (at_hand after) same ∙ hand_is) c)

  dead : (x : Ref) → Contains operation.private x → IsLive after x → ⊥
  dead x c live = dead_with_nothing limits account.steps bounds actor operation runs after elsewhere nothing_left x c live

  -- ---- so nothing of its own is live

  privates : All (IsInUse state.heap) operation.private
  privates = let (k, its, at_k) = place_of_actor state actor operation runs in (safe_along limits bounds account.steps).privates k operation at_k

  given : (r : Ref) → IsLive (state_of sizes (gone_on actor account)) r → is_one_of operation.private (slot_of r) ≡ false
  given r k =
      let live = live_less sizes account bounds actor operation runs g r k in
      none_of_them state.heap operation.private privates r (subst (λ h. IsInUse h r) elsewhere.heap (live_used sizes account bounds actor operation runs g r live)) (λ c. dead r c live)

  pub offer_given_up : Leads sizes account (gone_on actor account) actor (is_one_of operation.private) (operation_after (state_of sizes account) operation)
  offer_given_up = offer_misses sizes account bounds actor operation runs offer is stood another (is_one_of operation.private) given
      (λ r h. reached_apart sizes account bounds quiet r h actor operation runs) (λ x h g. retired_apart sizes account bounds quiet x h g actor operation runs)
