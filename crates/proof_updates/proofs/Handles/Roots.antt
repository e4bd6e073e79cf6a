-- What a step does to the roots of handles.
use Rattle.std.proofs.Common.{◌≡◌, ℕ, suc, ◌<◌, inl, inr, set, get_or, length, Option, Some, None, refl, sym, ap, subst, ◌∙◌, arith}
use native.Mathlib.Decide.{ℕ_discrete}
use Rattle.std.proofs.lemmas.Bool.{cases_lt}
use Rattle.std.proofs.lemmas.List.{get_or_past, get_or-set_same, length-set}
use Rattle.std.proofs.lemmas.Option.{none-some, same_Some, some_pair_parts}
use Rattle.proof_updates.specs.Vocabulary.{Access, Writable, Close, Ref, Root, Plain, Descriptor, Bounds, Outcome, Step, opened_root, settled, with_begin, State, root_at, root_of, rewritten, Begins}
use Rattle.proof_updates.specs.Vocabulary.{Ends, Sweeps, GivesUp, Moves, begun_operation, IsRun, noted, told_in, CarriesOut, IsSwap, Notes}
use Rattle.proof_updates.specs.Beneath.machine_model.specs.declared.steps.Step.TheVariants as step
use Rattle.proof_updates.specs.Beneath.machine_model.proofs.Found.{found_within, found_elsewhere}
use Rattle.proof_updates.specs.Beneath.machine_model.specs.Moves.{Goes}
use Rattle.proof_order.proofs.Views.Changes.{footing_of, footing, roots_swapped}
use Rattle.proof_order.proofs.Views.EachStep.{Changes, quiet, ends, closes, swaps, changes}
use Rattle.proof_order.proofs.Views.Handles.{opens_in_range}
use Rattle.proof_order.proofs.Offers.Honest.{honest}
use Rattle.proof_order.proofs.Offers.Standing.{offers_at}
use Rattle.proof_order.proofs.Openings.Carried as Carried
use Rattle.proof_order.proofs.Openings.SwapState.{swapped, unopened, offerer, offers}

-- the handle is open over this root, and of this kind
pub record StandsOver (state : State) (handle : ℕ) (access : Access) (r : Ref) : Type 0 where
  pub root : Root
  pub is_open : root_at state handle ≡ Some root
  pub kind : root.access ≡ access
  pub over : root_of root.word ≡ r

-- the footing of an open handle
stands_by : (state : State) (handle : ℕ) (access : Access) (r : Ref) → footing state handle ≡ Some (access, r) → StandsOver state handle access r
stands_by state handle access r e = by (root_at state handle) refl
  where
    by : (o : Option Root) → root_at state handle ≡ o → StandsOver state handle access r
    by None is = absurd (none-some (access, r) (ap footing_of (sym is) ∙ e))
    by (Some root) is =
        let parts = some_pair_parts root.access access (root_of root.word) r (ap footing_of (sym is) ∙ e) in
        record { root = root; is_open = is; kind = parts.0; over = parts.1 }

shut_by : (state : State) (handle : ℕ) → footing state handle ≡ None → root_at state handle ≡ None
shut_by state handle e = by (root_at state handle) refl
  where
    by : (o : Option Root) → root_at state handle ≡ o → root_at state handle ≡ None
    by None is = is
    by (Some root) is = absurd (none-some (root.access, root_of root.word) (sym e ∙ ap footing_of is))

-- ---- after a root swap

module _ (state after : State) (handle : ℕ) (offer : Descriptor) (roots : after.roots ≡ roots_swapped state handle offer offer.opens) where
  here_alone : (root : Root) → root_at state handle ≡ Some root → get_or (roots_swapped state handle offer None) handle None ≡ Some (record root { word = Plain offer.successor })
  here_alone root is = get_or-set_same state.roots handle _ None (found_within state.roots handle root is) ∙ ap (rewritten (Plain offer.successor)) is

  here_by : (root : Root) → root_at state handle ≡ Some root → (opens : Option ℕ) → ((n : ℕ) → opens ≡ Some n → root_at state n ≡ None) →
      get_or (roots_swapped state handle offer opens) handle None ≡ Some (record root { word = Plain offer.successor })
  here_by root is None free = here_alone root is
  here_by root is (Some n) free =
      found_elsewhere _ n handle _ (λ same. none-some root (sym (free n refl) ∙ ap (root_at state) (sym same) ∙ is)) ∙ here_alone root is

  pub here : (root : Root) → root_at state handle ≡ Some root → ((n : ℕ) → offer.opens ≡ Some n → root_at state n ≡ None) → root_at after handle ≡ Some (record root { word = Plain offer.successor })
  here root is free = ap (λ l. get_or l handle None) roots ∙ here_by root is offer.opens free

  pub there : (n : ℕ) → offer.opens ≡ Some n → n < length state.roots → root_at after n ≡ Some (opened_root offer offer.second)
  there n e lt =
      ap (λ l. get_or l n None) (roots ∙ ap (roots_swapped state handle offer) e) ∙ get_or-set_same _ n (Some (opened_root offer offer.second)) None (rw length-set lt)

  else_by : (other : ℕ) → (other ≡ handle → ⊥) → (opens : Option ℕ) → ((n : ℕ) → opens ≡ Some n → other ≡ n → ⊥) → get_or (roots_swapped state handle offer opens) other None ≡ root_at state other
  else_by other apart None away = found_elsewhere state.roots handle other _ apart
  else_by other apart (Some n) away = found_elsewhere _ n other _ (away n refl) ∙ found_elsewhere state.roots handle other _ apart

  pub elsewhere : (other : ℕ) → (other ≡ handle → ⊥) → ((n : ℕ) → offer.opens ≡ Some n → other ≡ n → ⊥) → root_at after other ≡ root_at state other
  elsewhere other apart away = ap (λ l. get_or l other None) roots ∙ else_by other apart offer.opens away

-- ---- a step of a run

module _ {limits : Bounds} {states : ℕ → State} {last : ℕ} (run : IsRun limits states last) (t : ℕ) (lt : t < last) (s : Step) (o : Outcome)
    (m : Moves (states t) s o (states (suc t))) (notes : Notes states run.records t s) where
  pub swap_of : (handle : ℕ) (offer : Descriptor) → CarriesOut (states t) s handle offer → IsSwap states run.records last t handle offer
  swap_of handle offer carries = record { taken = lt; step = s; outcome = o; moves = m; notes = notes; carries = carries }

  changed : Changes (states t) (run.records t) s (states (suc t)) (noted (run.records t) (states t).steps (told_in (states t) s))
  changed = changes (states t) (run.records t) s o (states (suc t)) m (honest (states t) (offers_at run t (omega arith)))

  -- ---- of a handle that was open

  pub data HandleStep (handle : ℕ) (root : Root) : Type 0 where
    -- it keeps its root
    keeps : StandsOver (states (suc t)) handle root.access (root_of root.word) → HandleStep handle root
    -- its root is swapped for the new one of an offer
    changes_root : (offer : Descriptor) → CarriesOut (states t) s handle offer → root_of root.word ≡ offer.root →
        StandsOver (states (suc t)) handle root.access offer.successor → HandleStep handle root
    -- it is closed
    is_closed : (actor : ℕ) (number : Option ℕ) → s ≡ step.Begin actor (Close handle) number → root_at (states (suc t)) handle ≡ None → HandleStep handle root

  handle_keeps : (handle : ℕ) (root : Root) → root_at (states t) handle ≡ Some root → footing (states (suc t)) handle ≡ footing (states t) handle → HandleStep handle root
  handle_keeps handle root is e = keeps (stands_by (states (suc t)) handle root.access (root_of root.word) (e ∙ ap footing_of is))

  pub handle_step : (handle : ℕ) (root : Root) → root_at (states t) handle ≡ Some root → HandleStep handle root
  handle_step handle root is = by changed
    where
      by : Changes (states t) (run.records t) s (states (suc t)) (noted (run.records t) (states t).steps (told_in (states t) s)) → HandleStep handle root
      by (quiet places closings same) = handle_keeps handle root is (same handle)
      by (ends actor operation answer go runs ends_it none places closings same) = handle_keeps handle root is (same handle)
      by (closes actor closed number was go open_then none places closings gone others) = by_handle (ℕ_discrete handle closed)
        where
          by_handle : Dec (handle ≡ closed) → HandleStep handle root
          by_handle (yes same) = is_closed actor number (go ∙ ap (λ h. step.Begin actor (Close h) number) (sym same)) (shut_by (states (suc t)) handle (ap (footing (states (suc t))) same ∙ gone))
          by_handle (no apart) = handle_keeps handle root is (others handle apart)
      by (swaps on offer carries none places closings roots heap) = by_handle (ℕ_discrete handle on)
        where
          swap : IsSwap states run.records last t on offer
          swap = swap_of on offer carries

          free : (n : ℕ) → offer.opens ≡ Some n → root_at (states t) n ≡ None
          free = unopened run t on offer swap

          old : Carried.IsOffered (states t) on offer
          old = Carried.root run t on offer swap

          by_handle : Dec (handle ≡ on) → HandleStep handle root
          by_handle (yes same) =
              let at_on : root_at (states t) on ≡ Some root = ap (root_at (states t)) (sym same) ∙ is in
              let one : root ≡ old.root = same_Some _ _ (sym at_on ∙ old.is_open) in
              changes_root offer (subst (λ h. CarriesOut (states t) s h offer) (sym same) carries) (ap (λ (x : Root). root_of x.word) one ∙ ap root_of old.word)
              (record {
                root = record root { word = Plain offer.successor };
                is_open = ap (root_at (states (suc t))) same ∙ here (states t) (states (suc t)) on offer roots root at_on free;
                kind = refl;
                over = refl;
              })
          by_handle (no apart) =
              handle_keeps handle root is
              (ap footing_of (elsewhere (states t) (states (suc t)) on offer roots handle apart (λ n e same. none-some root (sym (free n e) ∙ ap (root_at (states t)) (sym same) ∙ is))))

  -- ---- of the handle whose root is swapped

  pub new_root : (handle : ℕ) (offer : Descriptor) → CarriesOut (states t) s handle offer → StandsOver (states (suc t)) handle Writable offer.successor
  new_root handle offer carries =
      let swap = swap_of handle offer carries in
      let old = Carried.root run t handle offer swap in
      record {
        root = record old.root { word = Plain offer.successor };
        is_open = here (states t) (states (suc t)) handle offer (swapped run t handle offer swap).roots old.root old.is_open (unopened run t handle offer swap);
        kind = old.writable;
        over = refl;
      }

  -- ---- of a handle that is opened

  pub record IsOpened (handle : ℕ) : Type 0 where
    pub on : ℕ
    pub offer : Descriptor
    pub carries : CarriesOut (states t) s on offer
    pub number : offer.opens ≡ Some handle
    pub now : root_at (states (suc t)) handle ≡ Some (opened_root offer offer.second)

  pub opened_step : (handle : ℕ) (root : Root) → root_at (states t) handle ≡ None → root_at (states (suc t)) handle ≡ Some root → IsOpened handle
  opened_step handle root shut now = by changed
    where
      not_kept : footing (states (suc t)) handle ≡ footing (states t) handle → ⊥
      not_kept e = none-some (root.access, root_of root.word) (ap footing_of (sym shut) ∙ sym e ∙ ap footing_of now)

      by : Changes (states t) (run.records t) s (states (suc t)) (noted (run.records t) (states t).steps (told_in (states t) s)) → IsOpened handle
      by (quiet places closings same) = absurd (not_kept (same handle))
      by (ends actor operation answer go runs ends_it none places closings same) = absurd (not_kept (same handle))
      by (closes actor closed number was go open_then none places closings gone others) = by_handle (ℕ_discrete handle closed)
        where
          by_handle : Dec (handle ≡ closed) → IsOpened handle
          by_handle (yes same) = absurd (none-some was (sym shut ∙ ap (root_at (states t)) same ∙ open_then))
          by_handle (no apart) = absurd (not_kept (others handle apart))
      by (swaps on offer carries none places closings roots heap) = by_number offer.opens refl
        where
          swap : IsSwap states run.records last t on offer
          swap = swap_of on offer carries

          apart : handle ≡ on → ⊥
          apart same = let old = Carried.root run t on offer swap in none-some old.root (sym shut ∙ ap (root_at (states t)) same ∙ old.is_open)

          kept : ((n : ℕ) → offer.opens ≡ Some n → handle ≡ n → ⊥) → ⊥
          kept away = not_kept (ap footing_of (elsewhere (states t) (states (suc t)) on offer roots handle apart away))

          by_number : (opens : Option ℕ) → offer.opens ≡ opens → IsOpened handle
          by_number None e = absurd (kept (λ n is same. none-some n (sym e ∙ is)))
          by_number (Some n) e = by_handle (ℕ_discrete handle n)
            where
              by_handle : Dec (handle ≡ n) → IsOpened handle
              by_handle (no away) = absurd (kept (λ k is same. away (same ∙ same_Some _ _ (sym is ∙ e))))
              by_handle (yes same) =
                  let number : offer.opens ≡ Some handle = e ∙ ap Some (sym same) in
                  let who = offerer run t on offer swap in
                  let its = offers run t on offer swap in
                  let range = opens_in_range run t (omega arith) who.k who.owner who.runs handle (sym its.number ∙ number) in
                  record { on = on; offer = offer; carries = carries; number = number; now = there (states t) (states (suc t)) on offer roots handle number range }

-- ---- a close

-- who begins a close takes the handle away
pub closed_handle : (state : State) (s : Step) (o : Outcome) (after : State) → Moves state s o after → (closer handle : ℕ) (number : Option ℕ) → s ≡ step.Begin closer (Close handle) number →
    root_at after handle ≡ None
closed_handle state s o after (Begins {actor} {call} {number = wish} d) closer handle number e =
    let same : call ≡ Close handle = cc e in
    subst (λ c. root_at (settled state (with_begin state actor c (begun_operation state c wish))) handle ≡ None) (sym same) gone
  where
    gone : get_or (set state.roots handle None) handle None ≡ None
    gone = elim (cases_lt handle (length state.roots)) [
      | inl within ↦ get_or-set_same state.roots handle None None within
      | inr past ↦ get_or_past (set state.roots handle None) handle None (rw length-set past)
    ]
closed_handle state s o after (Goes d is a g) closer handle number e = let wrong : ⊥ = cc e in absurd wrong
closed_handle state s o after (Ends d is a) closer handle number e = let wrong : ⊥ = cc e in absurd wrong
closed_handle state s o after (GivesUp d is a) closer handle number e = let wrong : ⊥ = cc e in absurd wrong
closed_handle state s o after (Sweeps spent) closer handle number e = let wrong : ⊥ = cc e in absurd wrong
