-- Claims along a list of steps, and what a change keeps.
use Rattle.std.proofs.Common.{◌≡◌, inl, inr, Bool, true, false, List, [], ◌∷◌, ◌++◌, Contains, get_or, arith, flat_map, refl, sym, ap, subst, ◌∙◌, append_assoc, append-nil, cond, ◌||◌}
use Rattle.std.proofs.lemmas.Bool.{true≢false}
use Rattle.std.proofs.lemmas.List.Concat.{flat_map-cons}
use Rattle.std.proofs.lemmas.List.Elements.{Contains-append_cases, Contains-append_left, Contains-append_right, Contains-push}
use Rattle.std.proofs.lemmas.List.Folds.{list_any-append}
use Rattle.proof_claims.specs.Beneath.slot_arena.specs.declared.refs.Ref.{Ref}
use Rattle.proof_claims.specs.Beneath.machine_model.specs.declared.steps.Bounds.{Bounds}
use Rattle.proof_claims.specs.Beneath.machine_model.specs.declared.steps.Step.{Step}
use Rattle.proof_claims.specs.Beneath.machine_model.specs.Machine.{is_taken_step, next, next_state, run, run_from}
use Rattle.proof_claims.specs.Beneath.machine_model.specs.States.{State, first_state}
use Rattle.proof_claims.specs.Beneath.machine_model.proofs.Along.{by_last}
use Rattle.proof_claims.specs.Held.{Change, Claim, Fate, Held, Holder, Stays, first_held, held_after, is_owned, kept_by}
use Rattle.proof_claims.specs.Changes.{change_of}
use Rattle.proof_claims.specs.Claims.{Has, held_from, held_of, next_held}
use Rattle.proof_claims.specs.Dropped.{WasDropped, failed, replaced, unmet, untaken}

-- ---- one step more

held_append : (state : State) (held : Held) (xs ys : List Step) → held_from state held (xs ++ ys) ≡ held_from (run_from state xs) (held_from state held xs) ys
unfolding held_from run_from
held_append state held [] ys = refl
held_append state held (x ∷ xs) ys = held_append (next_state state x) (next_held state held x) xs ys

pub held_push : (limits : Bounds) (xs : List Step) (s : Step) → held_of limits (xs ++ s ∷ []) ≡ next_held (run limits xs) (held_of limits xs) s
unfolding held_from run_from
held_push limits xs s = held_append (first_state limits) first_held xs (s ∷ [])

longer : (xs before since : List Step) (s : Step) → xs ≡ before ++ since → xs ++ s ∷ [] ≡ before ++ (since ++ s ∷ [])
longer xs before since s e = ap (λ ys. ys ++ s ∷ []) e ∙ append_assoc before since (s ∷ [])

-- what was dropped stays so
pub dropped_later : (limits : Bounds) (xs : List Step) (s : Step) (j : Ref) → WasDropped limits xs j → WasDropped limits (xs ++ s ∷ []) j
dropped_later limits xs s j (replaced before t since i e over is own) = replaced before t (since ++ s ∷ []) i (longer xs (before ++ t ∷ []) since s e) over is own
dropped_later limits xs s j (failed before since actor i m e has) = failed before (since ++ s ∷ []) actor i m (longer xs before since s e) has
dropped_later limits xs s j (unmet before t since e lets used dead) = unmet before t (since ++ s ∷ []) (longer xs (before ++ t ∷ []) since s e) lets used dead
dropped_later limits xs s j (untaken before t since e lets link garbage nobody) = untaken before t (since ++ s ∷ []) (longer xs (before ++ t ∷ []) since s e) lets link garbage nobody

-- ---- what a change keeps

module _ (change : Change) where
  abbrev keeps : Claim → List Claim
  keeps c = kept_by (change.fate c) c.on

  in_kept : (claims : List Claim) (c x : Claim) → Contains claims c → Contains (keeps c) x → Contains (flat_map keeps claims) x
  in_kept [] c x (i, within, at_i) k = absurd (omega arith)
  in_kept (y ∷ claims) c x here k =
      subst (λ cs. Contains cs x) (sym (flat_map-cons keeps y claims)) (elim (Contains-append_cases (y ∷ []) claims c here) [
        | inl first ↦ Contains-append_left (keeps y) (flat_map keeps claims) x (subst (λ z. Contains (keeps z) x) (sym (only y c first)) k)
        | inr rest ↦ Contains-append_right (keeps y) (flat_map keeps claims) x (in_kept claims c x rest k)
      ])
    where
      only : (y c : Claim) → Contains (y ∷ []) c → y ≡ c
      only y c (i, within, at_i) = let zero_is : i ≡ 0 = omega arith in subst (λ k. get_or (y ∷ []) k c ≡ c) zero_is at_i

  -- a claim that stays
  pub stays : (held : Held) (by to : Holder) (on : Ref) → Has held by on → change.fate (record { by = by; on = on }) ≡ Stays to → Has (held_after change held) to on
  stays held by to on has is =
      Contains-append_left (flat_map keeps held.claims) change.added (record { by = to; on = on })
      (in_kept held.claims (record { by = by; on = on }) (record { by = to; on = on }) has
      (subst (λ (f : Fate). Contains (kept_by f on) (record { by = to; on = on })) (sym is) (Contains-push [] (record { by = to; on = on }))))

  -- one that is added
  pub comes : (held : Held) (by : Holder) (on : Ref) → Contains change.added (record { by = by; on = on }) → Has (held_after change held) by on
  comes held by on c = Contains-append_right (flat_map keeps held.claims) change.added (record { by = by; on = on }) c

  either : (a b : Bool) → a ≡ true → (a || b) ≡ true
  either true b e = refl
  either false b e = absurd (true≢false (sym e))

  -- what is own stays so
  pub own_still : (held : Held) (i m : Ref) → is_owned held i m ≡ true → is_owned (held_after change held) i m ≡ true
  own_still held i m e = list_any-append _ held.owned change.owned ∙ either _ _ e

-- and so after one step more
pub own_later : (limits : Bounds) (xs : List Step) (s : Step) (i m : Ref) → is_owned (held_of limits xs) i m ≡ true → is_owned (held_of limits (xs ++ s ∷ [])) i m ≡ true
own_later limits xs s i m e = subst (λ (held : Held). is_owned held i m ≡ true) (sym (held_push limits xs s)) (by (is_taken_step (next (run limits xs) s)))
  where
    by : (b : Bool) → is_owned (cond b (held_after (change_of (run limits xs) (held_of limits xs) s) (held_of limits xs)) (held_of limits xs)) i m ≡ true
    by true = own_still (change_of (run limits xs) (held_of limits xs) s) (held_of limits xs) i m e
    by false = e

pub own_on : (limits : Bounds) (xs more : List Step) (i m : Ref) → is_owned (held_of limits xs) i m ≡ true → is_owned (held_of limits (xs ++ more)) i m ≡ true
own_on limits xs more i m e =
    by_last (λ ys. is_owned (held_of limits (xs ++ ys)) i m ≡ true) (subst (λ l. is_owned (held_of limits l) i m ≡ true) (sym (append-nil xs)) e)
    (λ ys s h. subst (λ l. is_owned (held_of limits l) i m ≡ true) (append_assoc xs ys (s ∷ [])) (own_later limits (xs ++ ys) s i m h)) more
