-- The references of an offer that stood in a root word were made.
use Rattle.std.proofs.Common.{◌≡◌, ◌++◌, [], Contains, Option, Some, None, sym, ap, subst, ◌∙◌, append-nil}
use Rattle.machine_model.specs.Beneath.slot_arena.specs.declared.refs.Ref.{Ref}
use Rattle.machine_model.specs.declared.roots.Descriptor.{Descriptor}
use Rattle.machine_model.specs.declared.roots.Root.{Root}
use Rattle.machine_model.specs.declared.roots.RootWord.TheVariants.{Offer}
use Rattle.machine_model.specs.Counting.{refs_of_root, refs_of_word}
use Rattle.machine_model.specs.Machine.{AreBounds, run}
use Rattle.machine_model.specs.States.{State, root_at, word_at, word_of}
use Rattle.proof_memory.specs.Laws.{IsInUse}
use Rattle.proof_memory.proofs.Safety.AtEachTime.{safe_along}
use Rattle.proof_memory.proofs.Safety.Standing.{in_root}
use Rattle.proof_waiting.specs.Beneath.proof_slots.specs.Unswept.{HasNoSweeps}
use Rattle.proof_waiting.specs.Beneath.proof_slots.proofs.Unswept.Kept.{nothing_is_freed}
use Rattle.proof_waiting.specs.Beneath.proof_slots.proofs.Unswept.Shrinking.{unswept_behind}
use Rattle.lock_free.specs.declared.accounts.Account.{Account}
use Rattle.lock_free.specs.declared.sizes.Sizes.{Sizes}
use Rattle.lock_free.specs.Accounts.{bounds_for, state_of, HasStood}
use Rattle.lock_free.specs.Making.{refs_of_offer}
use Rattle.lock_free.proofs.OneStep.Longer.{run_longer, bounds_less}

pub offer_in : (o : Option Root) (offer : Descriptor) → word_of o ≡ Offer offer → (r : Ref) → Contains (refs_of_offer offer) r → Contains (refs_of_root o) r
offer_in None offer e r c = let wrong : ⊥ = cc e in absurd wrong
offer_in (Some root) offer e r c = subst (λ word. Contains (refs_of_word word) r) (sym e) c

pub stood_used : (sizes : Sizes) (account : Account) → AreBounds (bounds_for sizes account.steps) → HasNoSweeps account.steps → (offer : Descriptor) → HasStood sizes account offer → (r : Ref) →
    Contains (refs_of_offer offer) r → IsInUse (state_of sizes account).heap r
stood_used sizes account bounds quiet offer h r c =
    let long = bounds_for sizes account.steps in
    let ok : AreBounds (bounds_for sizes (h.steps ++ h.more)) = subst (λ l. AreBounds (bounds_for sizes l)) h.goes_on bounds in
    let longer = run_longer sizes h.steps (bounds_less sizes h.steps h.more ok) h.steps [] h.more (sym (append-nil h.steps)) in
    let word = ap (λ (s : State). word_at s h.handle) longer ∙ h.stood in
    let then : State = run (bounds_for sizes (h.steps ++ h.more)) h.steps in
    let used = in_root then (safe_along (bounds_for sizes (h.steps ++ h.more)) ok h.steps) h.handle r (offer_in (root_at then h.handle) offer word r c) in
    let still = nothing_is_freed (bounds_for sizes (h.steps ++ h.more)) h.steps h.more r used.0 ok (unswept_behind h.steps h.more (subst HasNoSweeps h.goes_on quiet)) used.1 in
    subst (λ l. IsInUse (run (bounds_for sizes l) l).heap r) (sym h.goes_on) (still.0, still.1)
