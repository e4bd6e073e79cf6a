-- Roots of handles, along a run and after each list of steps.
use Rattle.std.proofs.Common.{◌≡◌, ℕ, suc, ◌≤◌, Bool, true, false, inl, inr, List, [], ◌∷◌, Some, None, get_or, set, replicate, refl, sym, ap, ◌∙◌, subst, arith}
use Rattle.std.proofs.lemmas.Bool.{true≢false, false≢true, cases_eq}
use Rattle.std.proofs.lemmas.Option.{none-some, same_Some}
use Rattle.proof_generations.specs.Vocabulary.{Access, Writable, ReadOnly, ref_to, Descriptor, Root, RootWord, Plain, Offer, Bounds, Outcome, Step, State, first_state, root_at, root_of, word_of}
use Rattle.proof_generations.specs.Vocabulary.{word_at, handle_limit, AreBounds, run, run_from, next_state, Moves, turns, noted_turn, IsRun, Turn, generation_at, Ref, closed_at, Record}
use Rattle.proof_generations.specs.Vocabulary.{first_record, record_of, record_from, noted, next_record, told_in}
use Rattle.proof_generations.specs.Beneath.machine_model.proofs.Found.{found_elsewhere, found_here, none_found}
use Rattle.proof_generations.specs.Beneath.proof_memory.proofs.Safety.States.{IsSafe}
use Rattle.proof_generations.specs.Beneath.proof_memory.proofs.Safety.AtEachTime.{safe_at, safe_along}
use Rattle.proof_generations.proofs.Offers.Standing.{own_numbers}
use Rattle.proof_generations.proofs.Offers.Same.{HasOffers, has_offers_after, no_offers_at_first}
use Rattle.proof_generations.proofs.Handles.Operations.{HasHandles, handles_after, handles_at_first}
use Rattle.proof_generations.proofs.Counter.Below.{IsBelow, below_after, below_at_first, ClosingsBelow, closings_next}
use Rattle.proof_generations.proofs.Offers.Swaps.{StepKind, quiet, swaps, step_kind, closing_of, closed_in, closed_kept}
use Rattle.proof_generations.proofs.Roots.Own.{HasRoots, IsUnused, gen, roots_after, writable_call, its_fresh, to_offer}
use Rattle.proof_generations.proofs.Roots.Kept.{fresh_of}
use Rattle.proof_generations.specs.Beneath.machine_model.proofs.Basics.{both_kinds}
use Rattle.proof_generations.specs.Beneath.machine_model.proofs.Recorded.{along_with, kept_by_notes}
use Rattle.std.proofs.Common.{zero, suc}

-- all of generations that one state knows, with what is recorded
pub record IsOrdered (state : State) (past : Record) : Type 0 where
  pub offers : HasOffers state
  pub handles : HasHandles state
  pub below : IsBelow state
  pub closings : ClosingsBelow state.generations past.closings
  pub roots : HasRoots state past

pub ordered_after : (state : State) (past : Record) → IsSafe state → IsOrdered state past → (s : Step) (o : Outcome) (after : State) → Moves state s o after →
    IsOrdered after (noted past state.steps (told_in state s))
ordered_after state past S I s o after m = record {
  offers = has_offers_after state I.offers s o after m;
  handles = handles_after state I.offers I.handles s o after m;
  below = below_after state S I.below s o after m;
  closings = closings_next state past S I.below I.closings s o after m;
  roots = roots_after state S I.offers I.handles I.below past _ I.closings I.roots s o after m refl;
}

-- ---- at first

first_root : (handle : ℕ) (root : Root) → get_or (set (replicate handle_limit None) 0 (Some (record { access = Writable; word = Plain (ref_to 2 1) }))) handle None ≡ Some root →
    (handle ≡ 0) × (root.access ≡ Writable)
first_root handle root e = elim (cases_eq handle 0) [
  | inl same ↦ (
    same,
    ap (λ (r : Root). r.access) (sym (same_Some _ _ (found_here {X = Root} (replicate handle_limit None) 0 (Some (record { access = Writable; word = Plain (ref_to 2 1) })) root
        (subst (λ h. get_or (set (replicate handle_limit None) 0 (Some (record { access = Writable; word = Plain (ref_to 2 1) }))) h None ≡ Some root) same e)))),
  )
  | inr other ↦ absurd
      (none_found {X = Root} handle_limit handle root
      (sym (found_elsewhere {X = Root} (replicate handle_limit None) 0 handle (Some (record { access = Writable; word = Plain (ref_to 2 1) })) other) ∙ e))
]

roots_at_first : (limits : Bounds) → HasRoots (first_state limits) (first_record limits)
unfolding first_state
roots_at_first limits = record {
  unclosed = λ handle root e w. refl;
  is_closed = λ handle root e w. absurd (both_kinds root.access (first_root handle root e).1 w);
  apart = λ handle other a b e f wa wb same. (first_root handle a e).0 ∙ sym (first_root other b f).0;
  fresh = λ k operation x r at_k. absurd (none_found limits.actors k operation at_k);
  fresh_apart = λ k j x y r q a. absurd (none_found limits.actors k a.operation a.runs);
}

ordered_at_first : (limits : Bounds) → IsOrdered (first_state limits) (first_record limits)
ordered_at_first limits =
    record { offers = no_offers_at_first limits; handles = handles_at_first limits; below = below_at_first limits; closings = tt; roots = roots_at_first limits }

-- ---- at each time

pub ordered_at : {limits : Bounds} {states : ℕ → State} {last : ℕ} (r : IsRun limits states last) (t : ℕ) → t ≤ last → IsOrdered (states t) (r.records t)
ordered_at {limits} {states} {last} r zero le =
    subst (λ q. IsOrdered (states zero) q) (sym r.nothing_recorded) (subst (λ q. IsOrdered q (first_record limits)) (sym r.first) (ordered_at_first limits))
ordered_at {limits} {states} {last} r (suc t) le =
    by_turn (states t) (states (suc t)) (r.records t) (r.records (suc t)) (safe_at r t (omega arith)) (ordered_at r t (omega arith))
    (r.turn t le) (r.recorded t le)
  where
    by_turn : (before after : State) (past now : Record) → IsSafe before → IsOrdered before past → (turn : Turn before after) → now ≡ noted_turn turn past → IsOrdered after now
    by_turn before after past now S h (turns s o m) e = subst (λ q. IsOrdered after q) (sym e) (ordered_after before past S h s o after m)

pub ordered_along : (limits : Bounds) → AreBounds limits → (steps : List Step) → IsOrdered (run limits steps) (record_of limits steps)
ordered_along limits ok =
    along_with limits IsOrdered (ordered_at_first limits)
    (λ steps s o after m h. ordered_after (run limits steps) (record_of limits steps) (safe_along limits ok steps) h s o after m)

-- ---- what follows

-- an offer stands in a writable handle's word alone
pub offer_writable : (state : State) (past : Record) → IsSafe state → IsOrdered state past → (handle : ℕ) (root : Root) (offer : Descriptor) → root_at state handle ≡ Some root →
    root.word ≡ Offer offer → root.access ≡ Writable
offer_writable state past S I handle root offer e word =
    let b = I.offers.offers handle offer (ap word_of e ∙ word) in
    let mine = own_numbers b.owner offer (I.offers.own b.k b.owner b.runs) b.completes in
    let (found, at_handle, access) = I.handles.on_open b.k b.owner b.runs (writable_call b.owner.call offer.second mine.second).0 in
    let one = same_Some _ _ (sym e ∙ ap (root_at state) (sym b.on_handle) ∙ at_handle) in
    ap (λ (r : Root). r.access) one ∙ access ∙ by b.owner.access (S.fits b.k b.owner b.runs) (writable_call b.owner.call offer.second mine.second).1
  where
    by : (access : Access) {needs : Bool} → (access ≡ ReadOnly → needs ≡ false) → needs ≡ true → access ≡ Writable
    by Writable h e = refl
    by ReadOnly h e = absurd (true≢false (sym e ∙ h refl))

-- so the word of a read-only one is plain
pub read_only_plain : (state : State) (past : Record) → IsSafe state → IsOrdered state past → (handle : ℕ) (root : Root) → root_at state handle ≡ Some root →
    root.access ≡ ReadOnly → root.word ≡ Plain (root_of root.word)
read_only_plain state past S I handle root e r = by root.word refl
  where
    by : (word : RootWord) → root.word ≡ word → word ≡ Plain (root_of word)
    by (Plain q) is = refl
    by (Offer offer) is = absurd (both_kinds root.access (offer_writable state past S I handle root offer e is) r)

-- what is closed stays closed, by the same step
closed_by_kind : (state : State) (past : Record) (s : Step) (after : State) (now : Record) → StepKind state past s after now → (g c : ℕ) → closed_at past g ≡ Some c → closed_at now g ≡ Some c
closed_by_kind state past s after now (quiet closings roots) g c e = ap (λ l. closed_in l g) closings ∙ e
closed_by_kind state past s after now (swaps actor mover offer go is carried closings roots) g c e =
    ap (λ l. closed_in l g) closings ∙ closed_kept past.closings (closing_of state offer ∷ []) g c e

pub closed_stays : (state : State) → HasOffers state → (past now : Record) (s : Step) (o : Outcome) (after : State) → Moves state s o after →
    now ≡ noted past state.steps (told_in state s) → (g c : ℕ) → closed_at past g ≡ Some c → closed_at now g ≡ Some c
closed_stays state I past now s o after m notes g c e = closed_by_kind state past s after now (step_kind state I past now s o after m notes) g c e

-- after more steps too
pub closed_later : (state : State) (past : Record) → HasOffers state → (steps : List Step) (g c : ℕ) → closed_at past g ≡ Some c →
    HasOffers (run_from state steps) × (closed_at (record_from state past steps) g ≡ Some c)
unfolding run_from record_from
closed_later state past I [] g c e = (I, e)
closed_later state past I (s ∷ steps) g c e =
    let p = kept_by_notes (λ q r. HasOffers q × (closed_at r g ≡ Some c)) state past s (I, e)
    (λ o after m. (has_offers_after state I s o after m, closed_stays state I past _ s o after m refl g c e)) in
    closed_later (next_state state s) (next_record state past s) p.0 steps g c p.1

-- a handle of this generation, which is a writable handle's, is that handle
pub alone_on : (state : State) (past : Record) → IsOrdered state past → (handle other : ℕ) (root rival : Root) → root_at state handle ≡ Some root → root.access ≡ Writable →
    root_at state other ≡ Some rival →
    gen state rival ≡ gen state root → other ≡ handle
alone_on state past I handle other root rival e w f same = by rival.access refl
  where
    by : (access : Access) → rival.access ≡ access → other ≡ handle
    by Writable is = I.roots.apart other handle rival root f e is w same
    by ReadOnly is =
        let (c, closed) = I.roots.is_closed other rival f is in
        absurd (none-some c (sym (I.roots.unclosed handle root e w) ∙ ap (closed_at past) (sym same) ∙ closed))

-- the fresh root of an offer that stands
pub offered_unused : (state : State) (past : Record) → IsOrdered state past → (handle : ℕ) (offer : Descriptor) → word_at state handle ≡ Offer offer → (x : Bool) (r : Ref) →
    fresh_of x offer ≡ Some r → IsUnused state past (generation_at state.heap r)
offered_unused state past I handle offer word x r e =
    let b = I.offers.offers handle offer word in
    I.roots.fresh b.k b.owner x r b.runs b.unmarked (its_fresh b.owner.line offer x r b.completes e)

pub offered_apart : (state : State) (past : Record) → IsOrdered state past → (handle : ℕ) (offer : Descriptor) → word_at state handle ≡ Offer offer → (r : Ref) → offer.second ≡ Some r →
    generation_at state.heap r ≡ generation_at state.heap offer.successor → ⊥
offered_apart state past I handle offer word r e same =
    let b = I.offers.offers handle offer word in
    false≢true (I.roots.fresh_apart b.k b.k false true r offer.successor (to_offer b false r e) (to_offer b true offer.successor refl) same).1
