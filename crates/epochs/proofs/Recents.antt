-- Which epochs the actors have recorded, and what that says of the slots that are freed.
use Rattle.std.proofs.Common.{◌≡◌, ℕ, ◌+◌, ◌-◌, ◌<◌, ◌≤◌, Bool, true, false, cond, List, [], ◌∷◌, ◌++◌, length, take, get_or, All}
use Rattle.std.proofs.Common.{Option, Some, None, replicate, refl, sym, ap, ◌∙◌, subst, inl, inr, arith, eqb-true}
use Rattle.std.proofs.lemmas.Bool.{cases_lt}
use Rattle.std.proofs.lemmas.List.{get_or_past, get_or_default, get_or-replicate, length-replicate}
use Rattle.std.proofs.lemmas.List.Elements.{All-nil, All-cons}
use Rattle.slot_arena.specs.declared.refs.Ref.{Ref}
use Rattle.epochs.specs.declared.limbo.Zeroed.{Zeroed}
use Rattle.epochs.specs.Sweeping.{is_passed, IsOlder}
use Rattle.epochs.specs.Rings.{Bags}
use Rattle.epochs.specs.Memories.{IsRecent, limbo_of, zeroed_at}

module _ (pins : List (Option ℕ)) (epoch cursor : ℕ) (recent : (actor : ℕ) → IsRecent epoch (actor + 1 < cursor) (get_or pins actor None)) where
  -- all were passed, and the epoch grows
  pub recent_advanced : length pins < cursor → (actor : ℕ) → IsRecent (epoch + 1) (actor + 1 < 1) (get_or pins actor None)
  recent_advanced past actor = elim (cases_lt actor (length pins)) [
    | inl within ↦ go (get_or pins actor None) (omega arith) (recent actor)
    | inr outside ↦ subst (IsRecent (epoch + 1) (actor + 1 < 1)) (sym (get_or_past pins actor None outside)) tt
  ]
    where
      go : (o : Option ℕ) → actor + 1 < cursor → IsRecent epoch (actor + 1 < cursor) o → IsRecent (epoch + 1) (actor + 1 < 1) o
      go None passed was = tt
      go (Some recorded) passed (le, near, same) = let is = same passed in (omega arith, omega arith, λ below. absurd (omega arith))

  -- the actor at the cursor was passed, or not
  pub recent_scanned : (b : Bool) → is_passed epoch (get_or pins (cursor - 1) None) ≡ b → 1 ≤ cursor → (actor : ℕ) → IsRecent epoch (actor + 1 < cursor + cond b 1 0) (get_or pins actor None)
  recent_scanned b passed started actor = go b passed (get_or pins actor None) refl (recent actor)
    where
      at_cursor : (recorded : ℕ) → is_passed epoch (get_or pins (cursor - 1) None) ≡ true → get_or pins actor None ≡ Some recorded → actor ≡ cursor - 1 → recorded ≡ epoch
      at_cursor recorded told is same = eqb-true recorded epoch (sym (ap (is_passed epoch) (sym (ap (λ k. get_or pins k None) same) ∙ is)) ∙ told)

      go : (b : Bool) → is_passed epoch (get_or pins (cursor - 1) None) ≡ b → (o : Option ℕ) → get_or pins actor None ≡ o → IsRecent epoch (actor + 1 < cursor) o
          → IsRecent epoch (actor + 1 < cursor + cond b 1 0) o
      go b told None is was = tt
      go false told (Some recorded) is (le, near, same) = (le, near, λ below. same (omega arith))
      go true told (Some recorded) is (le, near, same) = (
        le,
        near,
        λ below. elim (cases_lt (actor + 1) cursor) [
          | inl before ↦ same before
          | inr behind ↦ at_cursor recorded told is (omega arith)
        ],
      )

  -- the oldest bag's slots became zero in an older epoch than any that was recorded
  pub first_older : (bags : Bags) (r : Ref) (rest : List Ref) → bags.oldest ≡ r ∷ rest → 2 ≤ epoch → All (λ entry. All (IsOlder entry.epoch) pins) (take 1 (limbo_of epoch bags))
  first_older bags r rest first enough =
      subst (λ rs. All (λ entry. All (IsOlder entry.epoch) pins) (take 1 (zeroed_at (epoch - 2) rs ++ zeroed_at (epoch - 1) bags.middle ++ zeroed_at epoch bags.present))) (sym first)
      (All-cons (λ (entry : Zeroed). All (IsOlder entry.epoch) pins) (record { at = r; epoch = epoch - 2 }) [] each (All-nil (λ (entry : Zeroed). All (IsOlder entry.epoch) pins)))
    where
      go : (o : Option ℕ) (passed : Type 0) → IsRecent epoch passed o → IsOlder (epoch - 2) o
      go None passed was = tt
      go (Some recorded) passed (le, near, same) = omega arith

      each : All (IsOlder (epoch - 2)) pins
      each k d within = subst (IsOlder (epoch - 2)) (get_or_default pins k None d within) (go (get_or pins k None) (k + 1 < cursor) (recent k))

-- no actor has recorded an epoch
pub recent_new : (actors epoch : ℕ) (passed : Type 0) (actor : ℕ) → IsRecent epoch passed (get_or (replicate {A = Option ℕ} actors None) actor None)
recent_new actors epoch passed actor = subst (IsRecent epoch passed) (sym none) tt
  where
    none : get_or (replicate {A = Option ℕ} actors None) actor None ≡ None
    none = elim (cases_lt actor actors) [
      | inl within ↦ get_or-replicate actors actor None None within
      | inr past ↦ get_or_past (replicate {A = Option ℕ} actors None) actor None (let size = length-replicate {A = Option ℕ} actors None in omega arith)
    ]
