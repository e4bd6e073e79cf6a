-- The same steps lead to the same claims under the bounds of a longer account, and let go of the same nodes.
use Rattle.std.proofs.Common.{◌≡◌, ◌⊎◌, ◌+◌, ◌≤◌, ◌<◌, ◌++◌, inl, inr, ℕ, List, [], ◌∷◌, length, map, is_some, refl, sym, ap, subst, ◌∙◌, arith, length-append}
use Rattle.std.proofs.lemmas.List.{length-map}
use Rattle.machine_model.specs.Beneath.slot_arena.specs.Heaps.{Heap}
use Rattle.machine_model.specs.Beneath.slot_arena.specs.declared.refs.Ref.{Ref}
use Rattle.machine_model.specs.declared.steps.Bounds.{Bounds}
use Rattle.machine_model.specs.declared.steps.Step.{Step}
use Rattle.machine_model.specs.Machine.{AreBounds, is_taken_step, next, run}
use Rattle.machine_model.specs.States.{State, first_state}
use Rattle.machine_model.proofs.Along.{by_last, limits_along}
use Rattle.machine_model.proofs.Rest.{first_free}
use Rattle.machine_model.proofs.Slots.{AddsUp, sound_along}
use Rattle.proof_claims.specs.Changes.{change_of}
use Rattle.proof_claims.specs.Claims.{held_from, held_of, next_held}
use Rattle.proof_claims.specs.Dropped.{IsLetGo, WasLetGo}
use Rattle.proof_claims.specs.Held.{Change, Held, OfNode, is_kept}
use Rattle.proof_claims.proofs.Along.{held_push}
use Rattle.proof_waiting.specs.Beneath.proof_slots.specs.Lasting.{wider, widened}
use Rattle.proof_waiting.specs.Beneath.proof_slots.proofs.Padded.Heaps.{HasFree}
use Rattle.proof_waiting.specs.Beneath.proof_slots.proofs.Padded.Runs.{few_steps_have_slots}
use Rattle.proof_waiting.specs.Beneath.proof_slots.proofs.Wider.{wider_alike}
use Rattle.lock_free.specs.declared.sizes.Sizes.{Sizes}
use Rattle.lock_free.specs.Accounts.{bounds_for}
use Rattle.lock_free.proofs.OneStep.Going.{first_none, steps_from}
use Rattle.lock_free.proofs.OneStep.HeldWide.{change_same, held_wide, taken_same}
use Rattle.lock_free.proofs.OneStep.Longer.{longer_bounds}

-- what is free is a slot
has_free : (slots : ℕ) (heap : Heap) → AddsUp slots heap → 1 ≤ length heap.free → HasFree heap
has_free slots heap h some = by heap.free refl
  where
    by : (free : List ℕ) → heap.free ≡ free → HasFree heap
    by [] e = absurd (omega (arith, some, ap length e))
    by (slot ∷ free) e =
        let (within, unused) = first_free (map is_some heap.slots) slot free (rw e at (h.rest)) in
        (slot, free, e, rw length-map at within)

-- the last one is the one that is named, or comes after it
split_last : (a b : Step) (xs ys zs : List Step) → xs ++ a ∷ [] ≡ (ys ++ b ∷ []) ++ zs → ((xs ≡ ys) × (a ≡ b)) ⊎ ((rest : List Step) × (xs ≡ (ys ++ b ∷ []) ++ rest))
split_last a b [] [] zs e = let same : a ≡ b = cc e in inl (refl, same)
split_last a b [] (y ∷ ys) zs e = let long = ap length e in absurd (omega (arith, long, length-append (ys ++ b ∷ []) zs, length-append ys (b ∷ [])))
split_last a b (x ∷ xs) [] zs e = let same : x ≡ b = cc e in inr (xs, ap (λ z. z ∷ xs) same)
split_last a b (x ∷ xs) (y ∷ ys) zs e =
    let first : x ≡ y = cc e in
    let rest : xs ++ a ∷ [] ≡ (ys ++ b ∷ []) ++ zs = cc e in
    elim (split_last a b xs ys zs rest) [
      | inl both ↦ inl (ap (λ l. x ∷ l) both.0 ∙ ap (λ z. z ∷ ys) first, both.1)
      | inr more ↦ inr (more.0, ap (λ l. x ∷ l) more.1 ∙ ap (λ z. z ∷ ((ys ++ b ∷ []) ++ more.0)) first)
    ]

module _ (more m : ℕ) (limits : Bounds) (ok : AreBounds limits) where
  -- so many steps leave a slot, and may be taken
  abbrev pub IsEnough : List Step → Type 0
  IsEnough steps = (length steps + 2 ≤ limits.slots) × (length steps ≤ limits.steps) × (length steps ≤ m)

  abbrev Alike : List Step → Type 0
  Alike steps = IsEnough steps → held_of (wider more m limits) steps ≡ held_of limits steps

  none_alike : Alike []
  unfolding held_from
  none_alike enough = refl

  one_more : (xs : List Step) (s : Step) → Alike xs → Alike (xs ++ s ∷ [])
  one_more xs s h enough =
      let count = length-append xs (s ∷ []) in
      let some = few_steps_have_slots limits (xs ++ s ∷ []) enough.0 xs [] s refl in
      let free = has_free limits.slots (run limits xs).heap (sound_along limits ok xs).heap some in
      let taken = steps_from xs (first_state limits) in
      let none = first_none limits in
      let most = ap (λ (b : Bounds). b.steps) (limits_along limits xs) in
      let left = enough.1 in
      let m_left = enough.2 in
      let slots = enough.0 in
      let states = (wider_alike more m limits xs ok (few_steps_have_slots limits xs (omega (arith, slots, count))) (omega (arith, left, count)) (omega (arith, m_left, count))).0 in
      held_push (wider more m limits) xs s
      ∙ ap (λ x. next_held x (held_of (wider more m limits) xs) s) states
      ∙ ap (λ (held : Held). next_held (widened more m (run limits xs)) held s) (h (omega (arith, slots, count), omega (arith, left, count), omega (arith, m_left, count)))
      ∙ held_wide more m (run limits xs) free (omega (arith, taken, none, m_left, count)) (omega (arith, taken, none, left, count, most)) (held_of limits xs) s
      ∙ sym (held_push limits xs s)

  pub held_alike : (steps : List Step) → IsEnough steps → held_of (wider more m limits) steps ≡ held_of limits steps
  held_alike = by_last Alike none_alike one_more

  -- what a step lets go of there it lets go of here
  pub let_go_alike : (xs : List Step) (s : Step) → IsEnough (xs ++ s ∷ []) → (k : Ref) → IsLetGo (wider more m limits) xs s k → IsLetGo limits xs s k
  let_go_alike xs s enough k h =
      let count = length-append xs (s ∷ []) in
      let some = few_steps_have_slots limits (xs ++ s ∷ []) enough.0 xs [] s refl in
      let free = has_free limits.slots (run limits xs).heap (sound_along limits ok xs).heap some in
      let counted = steps_from xs (first_state limits) in
      let none = first_none limits in
      let most = ap (λ (b : Bounds). b.steps) (limits_along limits xs) in
      let left = enough.1 in
      let m_left = enough.2 in
      let slots = enough.0 in
      let states = (wider_alike more m limits xs ok (few_steps_have_slots limits xs (omega (arith, slots, count))) (omega (arith, left, count)) (omega (arith, m_left, count))).0 in
      let held = held_alike xs (omega (arith, slots, count), omega (arith, left, count), omega (arith, m_left, count)) in
      let in_m : (run limits xs).steps < m = omega (arith, counted, none, m_left, count) in
      let in_limits : (run limits xs).steps < (run limits xs).limits.steps = omega (arith, counted, none, left, count, most) in
      let wide : State = widened more m (run limits xs) in
      let taken : is_taken_step (next (run (wider more m limits) xs) s) ≡ is_taken_step (next (run limits xs) s) =
      ap (λ (x : State). is_taken_step (next x s)) states ∙ taken_same more m (run limits xs) free in_m in_limits s in
      let same : change_of (run (wider more m limits) xs) (held_of (wider more m limits) xs) s ≡ change_of (run limits xs) (held_of limits xs) s =
      ap (λ (x : State). change_of x (held_of (wider more m limits) xs) s) states ∙ ap (λ (y : Held). change_of wide y s) held
      ∙ change_same more m (run limits xs) free in_m in_limits (held_of limits xs) s in
      record {
        taken = sym taken ∙ h.taken;
        lets = λ r. ap (λ (c : Change). is_kept (c.fate (record { by = OfNode k; on = r }))) (sym same) ∙ h.lets r;
      }

module _ (sizes : Sizes) (steps : List Step) (ok : AreBounds (bounds_for sizes steps)) where
  -- some of the steps of the longer account
  pub held_longer : (done rest more : List Step) → steps ≡ done ++ rest → held_of (bounds_for sizes (steps ++ more)) done ≡ held_of (bounds_for sizes steps) done
  held_longer done rest more e =
      let few : length done ≤ length steps = omega (arith, ap length e, length-append done rest) in
      let count = length-append steps more in
      ap (λ b. held_of b done) (longer_bounds sizes steps more)
      ∙ held_alike (length more) (length (steps ++ more) + 1) (bounds_for sizes steps) ok done (omega (arith, few), omega (arith, few), omega (arith, few, count))

  -- one step more
  pub held_next : (s : Step) → held_of (bounds_for sizes (steps ++ s ∷ [])) (steps ++ s ∷ []) ≡ next_held (run (bounds_for sizes steps) steps) (held_of (bounds_for sizes steps) steps) s
  held_next s =
      let longer = steps ++ s ∷ [] in
      let count = length-append steps (s ∷ []) in
      ap (λ b. held_of b longer) (longer_bounds sizes steps (s ∷ []))
      ∙ held_alike 1 (length longer + 1) (bounds_for sizes steps) ok longer (omega (arith, count), omega (arith, count), omega (arith, count))
      ∙ held_push (bounds_for sizes steps) steps s

  -- what was let go of then was so before, or by this step
  pub let_go_before : (s : Step) (k : Ref) → WasLetGo (bounds_for sizes (steps ++ s ∷ [])) (steps ++ s ∷ []) k →
      WasLetGo (bounds_for sizes steps) steps k ⊎ IsLetGo (bounds_for sizes steps) steps s k
  let_go_before s k w = elim (split_last s w.s steps w.before w.since w.goes_on) [
    | inl both ↦ inr (subst (λ l. IsLetGo (bounds_for sizes steps) l s k) (sym both.0) (subst (λ t. IsLetGo (bounds_for sizes steps) w.before t k) (sym both.1) here))
    | inr rest ↦ inl (record { before = w.before; s = w.s; since = rest.0; goes_on = rest.1; by = here })
  ]
    where
      longer : List Step
      longer = steps ++ s ∷ []

      here : IsLetGo (bounds_for sizes steps) w.before w.s k
      here =
          let all = ap length w.goes_on in
          let parts = length-append (w.before ++ w.s ∷ []) w.since in
          let count = length-append steps (s ∷ []) in
          let_go_alike 1 (length longer + 1) (bounds_for sizes steps) ok w.before w.s (omega (arith, all, parts, count), omega (arith, all, parts, count), omega (arith, all, parts, count)) k
          (subst (λ b. IsLetGo b w.before w.s k) (longer_bounds sizes steps (s ∷ [])) w.by)
