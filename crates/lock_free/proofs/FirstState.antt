-- The first state: an empty branch, the root of handle 0 over it, and nobody who runs anything.
use Rattle.std.proofs.Common.{◌≡◌, ℕ, zero, suc, List, [], ◌∷◌, get_or, replicate, Option, Some, None, refl, sym, ap, subst, ◌∙◌}
use Rattle.std.proofs.lemmas.Option.{none-some, same_Some}
use Rattle.history.specs.declared.calls.Access.TheVariants.{Writable}
use Rattle.machine_model.specs.Beneath.slot_arena.specs.declared.nodes.Node.TheVariants.{Indirection}
use Rattle.machine_model.specs.Beneath.slot_arena.specs.declared.nodes.Prev.TheVariants as prev
use Rattle.machine_model.specs.Beneath.slot_arena.specs.declared.nodes.Slot.{Slot}
use Rattle.machine_model.specs.Beneath.slot_arena.specs.Heaps.{taken, empty_branch}
use Rattle.machine_model.specs.Beneath.slot_arena.specs.Refs.{ref_to}
use Rattle.machine_model.specs.declared.operations.Operation.{Operation}
use Rattle.machine_model.specs.declared.roots.Root.{Root}
use Rattle.machine_model.specs.declared.roots.RootWord.TheVariants.{Plain}
use Rattle.machine_model.specs.Machine.{run_from}
use Rattle.machine_model.specs.States.{first_state, root_at, operation_of}
use Rattle.machine_model.proofs.Found.{none_found}
use Rattle.lock_free.specs.declared.sizes.Sizes.{Sizes}
use Rattle.lock_free.specs.Accounts.{state_of}
use Rattle.lock_free.specs.Rules.{first_account}

abbrev pub first_branch : Slot
first_branch = record { birth = 1; node = empty_branch; prev = prev.None }

abbrev pub first_link : Slot
first_link = record { birth = 2; node = Indirection 0 (ref_to 1 0); prev = prev.None }

abbrev pub first_root : Root
first_root = record { access = Writable; word = Plain (ref_to 2 1) }

-- the node of this number is one of the two
pub data IsFirst : ℕ → Slot → Type 0 where
  branch : IsFirst 0 first_branch
  link : IsFirst 1 first_link

first_at : (k : ℕ) (slot : Slot) → get_or (Some first_branch ∷ Some first_link ∷ None ∷ []) k None ≡ Some slot → IsFirst k slot
first_at zero slot e = subst (IsFirst 0) (same_Some first_branch slot e) branch
first_at (suc zero) slot e = subst (IsFirst 1) (same_Some first_link slot e) link
first_at (suc (suc zero)) slot e = absurd (none-some slot e)
first_at (suc (suc (suc k))) slot e = absurd (none-some slot e)

none_by : {X : Type 0} (o : Option X) → ((x : X) → o ≡ Some x → ⊥) → o ≡ None
none_by None h = refl
none_by (Some x) h = absurd (h x refl)

module _ (sizes : Sizes) where
  pub slots_are : (state_of sizes (first_account sizes)).heap.slots ≡ Some first_branch ∷ Some first_link ∷ None ∷ []
  unfolding run_from first_state taken
  slots_are = refl

  pub births_are : (state_of sizes (first_account sizes)).heap.births ≡ 2
  unfolding run_from first_state taken
  births_are = refl

  pub generations_are : (state_of sizes (first_account sizes)).generations ≡ 1
  unfolding run_from first_state
  generations_are = refl

  pub node_found : (k : ℕ) (slot : Slot) → get_or (state_of sizes (first_account sizes)).heap.slots k None ≡ Some slot → IsFirst k slot
  node_found k slot e = first_at k slot (ap (λ (xs : List (Option Slot)). get_or xs k None) (sym slots_are) ∙ e)

  pub root_is : root_at (state_of sizes (first_account sizes)) 0 ≡ Some first_root
  unfolding run_from first_state
  root_is = refl

  pub no_root : (n : ℕ) → root_at (state_of sizes (first_account sizes)) (suc n) ≡ None
  unfolding run_from first_state
  no_root n = none_by (get_or (replicate 255 None) n None) (none_found 255 n)

  pub nobody_runs : (a : ℕ) → operation_of (state_of sizes (first_account sizes)) a ≡ None
  unfolding run_from first_state
  nobody_runs zero = refl
  nobody_runs (suc n) = none_by (get_or (replicate sizes.seats None) n None) (none_found sizes.seats n)

  pub none_runs : (a : ℕ) (o : Operation) → operation_of (state_of sizes (first_account sizes)) a ≡ Some o → ⊥
  none_runs a o e = none-some o (sym (nobody_runs a) ∙ e)
