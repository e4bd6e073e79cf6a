-- A reference more to what an operation has at hand, and one less: what is known of its slot, and what hangs then.
use Rattle.std.proofs.Common.{◌≡◌, ℕ, true, List, refl, sym, ap, subst, ◌∙◌}
use Rattle.machine_model.specs.Beneath.slot_arena.specs.declared.refs.Ref.{Ref}
use Rattle.lock_free.specs.declared.counting.Raised.{Raised}
use Rattle.lock_free.specs.declared.limbo.Limbo.{Limbo}
use Rattle.lock_free.specs.declared.reclaiming.Kind.{Kind}
use Rattle.lock_free.specs.declared.rules.View.{View}
use Rattle.lock_free.specs.declared.sizes.Sizes.{Sizes}
use Rattle.lock_free.specs.Counting.{HasAtHand, HasRaised, IsInSlot, lowering}
use Rattle.lock_free.specs.Limbos.{IsLimbo, IsNewest, having_retired}
use Rattle.lock_free.specs.Loading.{now}
use Rattle.lock_free.specs.Nodes.{class_of}
use Rattle.lock_free.specs.Owing.{owing}
use Rattle.lock_free.specs.Raising.{OwesOne}
use Rattle.lock_free.specs.Reclaiming.{HasRetiredIt}
use Rattle.lock_free.proofs.GivenBack.{node_is}
use Rattle.lock_free.proofs.LimboStays.{limbo_stays}

-- ---- where it is

pub in_slot_owing : (v : View) (owed : List Ref) (k : Ref) (class name : ℕ) → IsInSlot v k class name → IsInSlot (owing v owed) k class name
in_slot_owing v owed k class name h = record { slot = h.slot; used = h.used; class_is = h.class_is; place = h.place }

-- at the view before it, which is the same
pub raised_at : (v u w : View) → u ≡ v → (k : Ref) (class name : ℕ) (r : Raised) → ((j : Ref) → HasAtHand u j class name → HasRaised u j r w) → HasAtHand v k class name → HasRaised v k r w
raised_at v u w same k class name r told hand = subst (λ x. HasRaised x k r w) same (told k (subst (λ x. HasAtHand x k class name) (sym same) hand))

-- ---- one less

module _ (v : View) (k : Ref) (kind : Kind) (class name : ℕ) (owes : OwesOne v k kind class name) where
  abbrev its : IsInSlot v k class name
  its = owes.0.1

  -- it was the last one: its slot is still to hang
  pub last_newest : (limbo : Limbo) (w : View) → IsLimbo limbo v → HasRetiredIt v k true (lowering v k) w → IsNewest limbo w kind class name
  last_newest limbo w h retired = subst (λ u. IsNewest limbo u kind class name) (sym retired.is) (record {
    item = retired.item;
    its_class = retired.class ∙ ap class_of (node_is (now v) k its.slot its.used) ∙ its.class_is;
    its_name = retired.name ∙ its.place;
    its_kind = retired.what ∙ owes.1;
    rest = v.retired;
    is = refl;
    hanging = limbo_stays limbo v (having_retired (lowering v k) v.retired) refl h;
  })

  pub last_sizes : (sizes : Sizes) (w : View) → sizes ≡ v.sizes → HasRetiredIt v k true (lowering v k) w → sizes ≡ w.sizes
  last_sizes sizes w same retired = same ∙ sym (ap (λ (u : View). u.sizes) retired.is)

  pub more_hangs : (limbo : Limbo) (w : View) → IsLimbo limbo v → w ≡ lowering v k → IsLimbo limbo w
  more_hangs limbo w h is = subst (IsLimbo limbo) (sym is) (limbo_stays limbo v (lowering v k) refl h)
