-- Small facts of numbers, tests, lists and words of the machine that each layer needs.
use Rattle.std.proofs.Common.{◌≡◌, ℕ, zero, suc, ◌-◌, ◌<◌, ◌≤◌, ◌⊎◌, [], ◌∷◌, refl, sym, ◌∙◌, arith}
use Rattle.std.specs.List.{Contains}
use Rattle.history.specs.declared.calls.Access.{Access}
use Rattle.history.specs.declared.calls.Access.TheVariants.{Writable, ReadOnly}
use Rattle.machine_model.specs.Beneath.slot_arena.specs.declared.refs.Ref.{Ref}
use Rattle.machine_model.specs.Beneath.slot_arena.specs.declared.nodes.Prev.{Prev}
use Rattle.machine_model.specs.Beneath.slot_arena.specs.declared.nodes.Prev.TheVariants as prev
use Rattle.machine_model.specs.declared.roots.Descriptor.{Descriptor}
use Rattle.machine_model.specs.declared.roots.RootWord.TheVariants.{Plain, Offer}

-- a time up to the next one is that or before it
pub at_or_before : (a t : ℕ) → a ≤ suc t → (a ≤ t) ⊎ (a ≡ suc t)
at_or_before a t h = grind arith

pub before_or_at : (a t : ℕ) → a < suc t → (a < t) ⊎ (a ≡ t)
before_or_at a t h = grind arith

pub two_or_more : (n : ℕ) → 2 ≤ n → (m : ℕ) × (n ≡ suc (suc m))
two_or_more zero h = absurd (omega arith)
two_or_more (suc zero) h = absurd (omega arith)
two_or_more (suc (suc m)) h = (m, refl)

-- the one reference of a list
pub only_one : (x r : Ref) → Contains (x ∷ []) r → x ≡ r
only_one x r (zero, within, e) = e
only_one x r (suc k, within, e) = absurd (omega arith)

-- the actor whose place it is
pub actor_at : (actor k : ℕ) → 0 < actor → k ≡ actor - 1 → actor ≡ suc k
actor_at actor k pos e = omega arith

-- words that differ
pub not_offer : (r : Ref) (offer : Descriptor) → Plain r ≡ Offer offer → ⊥
not_offer r offer e = cc e

pub none≢failed : {v : Prev} {p : Ref} → v ≡ prev.None → v ≡ prev.Failed p → ⊥
none≢failed e h = let wrong = sym e ∙ h in cc

pub both_kinds : (access : Access) → access ≡ Writable → access ≡ ReadOnly → ⊥
both_kinds access w r = let both : Writable ≡ ReadOnly = sym w ∙ r in cc both
