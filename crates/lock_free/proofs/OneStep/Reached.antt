-- What was a root once is in use for ever, and no operation's own.
use Rattle.std.proofs.Common.{◌≡◌, ◌⊎◌, inl, inr, ℕ, Bool, true, false, List, [], ◌∷◌, ◌++◌, Contains, sym, ap, subst, ◌∙◌, refl, append-nil, get_or, Some, None, arith}
use Rattle.std.proofs.lemmas.List.Elements.{Contains-get_or}
use Rattle.machine_model.specs.Beneath.slot_arena.specs.declared.refs.Ref.{Ref}
use Rattle.machine_model.specs.Beneath.slot_arena.specs.Heaps.{refs_of_slot}
use Rattle.machine_model.specs.Counting.{refs_of_root}
use Rattle.machine_model.specs.Beneath.slot_arena.specs.Refs.{slot_of}
use Rattle.machine_model.specs.declared.operations.Operation.{Operation}
use Rattle.machine_model.specs.declared.steps.Step.{Step}
use Rattle.machine_model.specs.Contents.{IsReached, from_root, from_slot}
use Rattle.machine_model.specs.Machine.{AreBounds, run}
use Rattle.machine_model.specs.States.{State, operation_of}
use Rattle.machine_model.proofs.Fates.{place_of_actor}
use Rattle.proof_memory.specs.Laws.{IsInUse}
use Rattle.proof_memory.proofs.Safety.AtEachTime.{safe_along}
use Rattle.proof_garbage.proofs.Known.{known_used}
use Rattle.proof_garbage.proofs.Public.{reached_known, public_along}
use Rattle.proof_waiting.specs.Beneath.proof_slots.specs.Lasting.{widened}
use Rattle.proof_waiting.specs.Beneath.proof_slots.specs.Unswept.{HasNoSweeps}
use Rattle.proof_waiting.specs.Beneath.proof_slots.proofs.Padded.Heaps.{stored_wide}
use Rattle.proof_waiting.specs.Beneath.proof_slots.proofs.Unswept.Kept.{nothing_is_freed}
use Rattle.proof_waiting.specs.Beneath.proof_slots.proofs.Unswept.Shrinking.{unswept_behind}
use Rattle.lock_free.specs.declared.accounts.Account.{Account}
use Rattle.lock_free.specs.declared.sizes.Sizes.{Sizes}
use Rattle.lock_free.specs.Accounts.{bounds_for, state_of, running, MayBeFound, WasRoot}
use Rattle.lock_free.specs.Live.{IsLive}
use Rattle.lock_free.proofs.OneStep.Giving.{is_one_of, none_of_them}
use Rattle.lock_free.proofs.BegunSince.{begun_grown, ran_before}
use Rattle.lock_free.proofs.OneStep.Longer.{run_longer, bounds_less, bounds_more}

reached_wide : (more m : _) (state : State) {r : Ref} → IsReached state r → IsReached (widened more m state) r
reached_wide more m state (from_root handle r c) = from_root handle r c
reached_wide more m state (from_slot q r k c) =
    from_slot q r (reached_wide more m state k) (subst (λ o. Contains (refs_of_slot o) r) (sym (stored_wide more state.limits.slots state.heap q)) c)

pub root_reached : (sizes : Sizes) (account : Account) (r : Ref) (h : WasRoot sizes account r) → IsReached (run (bounds_for sizes h.steps) h.steps) r
root_reached sizes account r h = from_root h.handle r (subst (λ o. Contains (refs_of_root o) r) (sym h.was) (Contains-get_or (r ∷ []) 0 r (omega arith)))

-- ---- one step more

-- what leads to some of the steps leads to some of those before the last one, or to all of them
pub parted : (steps : List Step) (s : Step) (done more : List Step) → steps ++ s ∷ [] ≡ done ++ more → ((rest : List Step) × (steps ≡ done ++ rest)) ⊎ (done ≡ steps ++ s ∷ [])
parted steps s [] more e = inl (steps, refl)
parted [] s (x ∷ []) more e = inr (cc e)
parted [] s (x ∷ y ∷ xs) more e = absurd (cc e)
parted (o ∷ steps) s (x ∷ xs) more e = elim (parted steps s xs more (cc e)) [
  | inl before ↦ inl (before.0, (let first : o ≡ x = cc e in ap (λ y. y ∷ steps) first ∙ ap (λ ys. x ∷ ys) before.1))
  | inr all ↦ inr ((let first : o ≡ x = cc e in ap (λ ys. x ∷ ys) all ∙ ap (λ y. y ∷ (steps ++ s ∷ [])) (sym first)))
]

pub reached_by_then : (sizes : Sizes) (account after : Account) → AreBounds (bounds_for sizes account.steps) → (s : Step) → after.steps ≡ account.steps ++ s ∷ [] → (r : Ref) →
    MayBeFound sizes after r → MayBeFound sizes account r ⊎ IsLive (state_of sizes after) r
reached_by_then sizes account after bounds s goes_on r h = elim (parted account.steps s h.root.steps h.root.more (sym goes_on ∙ h.root.goes_on)) [
  | inl before ↦
      (let first : Account = record { steps = h.root.steps; names = account.names; owned = []; offered = []; offers = []; parted = [] } in
      let last : Account = record { steps = account.steps ++ s ∷ []; names = account.names; owned = []; offered = []; offers = []; parted = [] } in
      let begun = begun_grown sizes first account bounds (record { steps = before.0; goes_on = before.1; names = []; more_names = sym (append-nil account.names) }) in
      let ran = ran_before sizes account last (bounds_more sizes account.steps (s ∷ []) bounds) (record { steps = s ∷ []; goes_on = refl; names = []; more_names = sym (append-nil account.names) })
      (state_of sizes first).begun begun h.actor h.operation (subst (λ xs. operation_of (run (bounds_for sizes xs) xs) h.actor ≡ Some h.operation) goes_on h.runs) h.began in
      inl (record {
        root = record { steps = h.root.steps; more = before.0; goes_on = before.1; handle = h.root.handle; access = h.root.access; was = h.root.was };
        actor = h.actor;
        operation = ran.0;
        runs = ran.1;
        began = ran.2;
      }))
  | inr all ↦
      inr (reached_known (state_of sizes after) (λ id. Unit {0}) (subst (λ xs. IsReached (run (bounds_for sizes xs) xs) r) (all ∙ sym goes_on) (root_reached sizes after r h.root)))
]

-- where nothing more is live then
pub reached_left : (sizes : Sizes) (account after : Account) → AreBounds (bounds_for sizes account.steps) → (s : Step) → after.steps ≡ account.steps ++ s ∷ [] →
    ((r : Ref) → IsLive (state_of sizes after) r → IsLive (state_of sizes account) r) → (r : Ref) → MayBeFound sizes after r → MayBeFound sizes account r ⊎ IsLive (state_of sizes account) r
reached_left sizes account after bounds s goes_on live r h = elim (reached_by_then sizes account after bounds s goes_on r h) [
  | inl was ↦ inl was
  | inr now ↦ inr (live r now)
]

-- so it stands where what is live does
pub reached_kept : (sizes : Sizes) (account after : Account) → AreBounds (bounds_for sizes account.steps) → (s : Step) → after.steps ≡ account.steps ++ s ∷ [] → (before then : ℕ → Bool) →
    ((r : Ref) → MayBeFound sizes account r → before (slot_of r) ≡ true) →
    ((r : Ref) → IsLive (state_of sizes after) r → then (slot_of r) ≡ true) → ((r : Ref) → WasRoot sizes account r → before (slot_of r) ≡ true → then (slot_of r) ≡ true) →
    (r : Ref) → MayBeFound sizes after r → then (slot_of r) ≡ true
reached_kept sizes account after bounds s goes_on before then was live still r h = elim (reached_by_then sizes account after bounds s goes_on r h) [
  | inl old ↦ still r old.root (was r old)
  | inr now ↦ live r now
]

-- ---- it is in use, and nobody's own

module _ (sizes : Sizes) (account : Account) (bounds : AreBounds (bounds_for sizes account.steps)) (quiet : HasNoSweeps account.steps) (r : Ref) (h : WasRoot sizes account r) where
  abbrev all : List Step
  all = h.steps ++ h.more

  ok : AreBounds (bounds_for sizes all)
  ok = subst (λ l. AreBounds (bounds_for sizes l)) h.goes_on bounds

  then_reached : IsReached (run (bounds_for sizes all) h.steps) r
  then_reached =
      subst (λ s. IsReached s r) (sym (run_longer sizes h.steps (bounds_less sizes h.steps h.more ok) h.steps [] h.more (sym (append-nil h.steps))))
      (reached_wide _ _ (run (bounds_for sizes h.steps) h.steps) (root_reached sizes account r h))

  pub reached_used : IsInUse (state_of sizes account).heap r
  reached_used =
      let then : State = run (bounds_for sizes all) h.steps in
      let used = known_used then (safe_along (bounds_for sizes all) ok h.steps) (λ id. Unit {0}) (reached_known then (λ id. Unit {0}) then_reached) in
      let still = nothing_is_freed (bounds_for sizes all) h.steps h.more r used.0 ok (unswept_behind h.steps h.more (subst HasNoSweeps h.goes_on quiet)) used.1 in
      subst (λ l. IsInUse (run (bounds_for sizes l) l).heap r) (sym h.goes_on) (still.0, still.1)

  pub reached_apart : (actor : _) (operation : Operation) → running sizes account actor operation → is_one_of operation.private (slot_of r) ≡ false
  reached_apart actor operation runs =
      let (k, own, at_k) = place_of_actor (state_of sizes account) actor operation runs in
      none_of_them (state_of sizes account).heap operation.private ((safe_along (bounds_for sizes account.steps) bounds account.steps).privates k operation at_k) r reached_used
      (λ c.
      (public_along (bounds_for sizes all) ok h.steps h.more r then_reached).apart k operation
      (subst (λ (l : List Step). get_or (run (bounds_for sizes l) l).actors k None ≡ Some operation) h.goes_on at_k) c)
