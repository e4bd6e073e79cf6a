-- Generations that were opened or closed stay so; each closed one was opened before. What a step opens is the root of an offer that it carries out, and the
-- generation of the root that this replaces is closed then.
use Rattle.std.proofs.Common.{◌≡◌, ℕ, zero, suc, ◌<◌, ◌≤◌, Bool, true, false, inl, inr, ◌∷◌, ◌++◌, Option, Some, None, refl, sym, ap, ◌∙◌, subst, arith, []}
use Rattle.std.proofs.lemmas.Bool.{cases_eq}
use Rattle.std.proofs.lemmas.Option.{none-some, same_Some}
use Rattle.proof_generations.specs.Vocabulary.{Ref, generation_at, generation_of, Operation, Descriptor, Root, RootWord, Plain, Offer, Bounds, Outcome, Step, handle_of, State, root_at, root_of}
use Rattle.proof_generations.specs.Vocabulary.{word_of, operation_of, action_of, opened_root, Moves, turns, noted_turn, IsRun, Turn, node_under, Writable, closed_at, Record, AllHold, word_wants}
use Rattle.proof_generations.specs.Vocabulary.{IsInUse}
use Rattle.proof_generations.specs.Beneath.machine_model.proofs.Times.{steps_at}
use Rattle.proof_generations.specs.Beneath.proof_memory.proofs.Claims.Uses.{safe_of}
use Rattle.proof_generations.specs.Beneath.proof_memory.proofs.Safety.States.{IsSafe}
use Rattle.proof_generations.specs.Beneath.proof_memory.proofs.Safety.AtEachTime.{safe_at}
use Rattle.proof_generations.proofs.Handles.Footings.{ActionCarriesOut, RootFrom, stood, swapped, newly, one_carried}
use Rattle.proof_generations.proofs.Offers.Marks.{carried_stands}
use Rattle.proof_generations.proofs.Offers.Standing.{StandsBy}
use Rattle.proof_generations.proofs.Roots.Own.{gen}
use Rattle.proof_generations.proofs.Roots.Along.{IsOrdered, ordered_at, closed_stays}
use Rattle.proof_generations.proofs.Roots.Kept.{root_kept, fresh_of}
use Rattle.proof_generations.proofs.Offers.Swaps.{StepKind, quiet, swaps, step_kind, closing_of, closed_in, closed_new, closed_last}
use Rattle.proof_generations.specs.Falling.{WasOpened, WasClosed, MayStandBelow}
use Rattle.proof_generations.proofs.Falling.Nodes.{used_generation}
use Rattle.proof_generations.specs.Standing.{IsRooted}
use Rattle.proof_generations.proofs.Roots.Rooted.{standing_root}

-- ---- what stays

pub opened_next : (states : ℕ → State) (t g : ℕ) → WasOpened states t g → WasOpened states (suc t) g
opened_next states t g (u, le, at) = (u, omega arith, at)

-- the generation of an operation's root
pub opened_rooted : (states : ℕ → State) (records : ℕ → Record) (t handle g : ℕ) → IsRooted states records t handle g → WasOpened states t g
opened_rooted states records t handle g (inl on) = let (root, is, writable, its) = standing_root (states t) handle Writable g on in (t, omega arith, (handle, root, is, its))
opened_rooted states records t handle g (inr (c, before, closed, on)) = let (root, is, writable, its) =
    standing_root (states c) handle Writable g on in (c, omega (arith, before), (handle, root, is, its))

-- the root in a word is in use
root_used : (state : State) → IsSafe state → (handle : ℕ) (root : Root) → root_at state handle ≡ Some root → IsInUse state.heap (root_of root.word)
root_used state I handle root e = by root.word (I.words handle root e)
  where
    by : (word : RootWord) → AllHold (IsInUse state.heap) state.heap (word_wants word) → IsInUse state.heap (root_of word)
    by (Plain r) h = safe_of h.0
    by (Offer offer) h = safe_of h.0

offered_root : (o : Option Root) (offer : Descriptor) → word_of o ≡ Offer offer → (root : Root) × (o ≡ Some root) × (root_of root.word ≡ offer.root)
offered_root None offer e = let wrong : ⊥ = cc e in absurd wrong
offered_root (Some root) offer e = (root, refl, ap root_of e)

module _ {limits : Bounds} {states : ℕ → State} {last : ℕ} (run : IsRun limits states last) where
  -- ---- closings

  closed_by : (t : ℕ) → IsOrdered (states t) (run.records t) → (turn : Turn (states t) (states (suc t))) → run.records (suc t) ≡ noted_turn turn (run.records t) → (g c : ℕ) →
      closed_at (run.records t) g ≡ Some c → closed_at (run.records (suc t)) g ≡ Some c
  closed_by t I (turns s o m) notes g c e = closed_stays (states t) I.offers (run.records t) (run.records (suc t)) s o (states (suc t)) m notes g c e

  pub closed_next : (t : ℕ) → t < last → (g c : ℕ) → closed_at (run.records t) g ≡ Some c → closed_at (run.records (suc t)) g ≡ Some c
  closed_next t h = closed_by t (ordered_at run t (omega arith)) (run.turn t h) (run.recorded t h)

  pub was_closed_next : (t : ℕ) → t < last → (g : ℕ) → WasClosed run.records t g → WasClosed run.records (suc t) g
  was_closed_next t h g (c, before, e) = (c, omega arith, closed_next t h g c e)

  pub closed_until : (t u : ℕ) → t ≤ u → u ≤ last → (g c : ℕ) → closed_at (run.records t) g ≡ Some c → closed_at (run.records u) g ≡ Some c
  closed_until t zero below within g c e = subst (λ v. closed_at (run.records v) g ≡ Some c) (nothing_below t below) e
    where
      nothing_below : (t : ℕ) → t ≤ zero → t ≡ zero
      nothing_below t h = omega arith
  closed_until t (suc u) below within g c e = elim (cases_eq t (suc u)) [
    | inl same ↦ subst (λ v. closed_at (run.records v) g ≡ Some c) same e
    | inr other ↦ closed_next u within g c (closed_until t u (omega arith) (omega arith) g c e)
  ]

  pub below_next : (t : ℕ) → t < last → (g h : ℕ) → MayStandBelow run.records t g h → MayStandBelow run.records (suc t) g h
  below_next t lt g h (inl same) = inl same
  below_next t lt g h (inr (less, closed)) = inr (less, was_closed_next t lt h closed)

  -- what a step closes is the generation of the root that it replaces
  record Closes (t : ℕ) (g : ℕ) : Type 0 where
    handle : ℕ
    root : Root
    is_open : root_at (states t) handle ≡ Some root
    its : gen (states t) root ≡ g

  closes_by : (t : ℕ) → IsOrdered (states t) (run.records t) → (s : Step) → StepKind (states t) (run.records t) s (states (suc t)) (run.records (suc t)) → (g c : ℕ) →
      closed_at (run.records t) g ≡ None → closed_at (run.records (suc t)) g ≡ Some c →
      (c ≡ (states t).steps) × Closes t g
  closes_by t I s (quiet closings roots) g c none e = absurd (none-some c (sym none ∙ sym (ap (λ l. closed_in l g) closings) ∙ e))
  closes_by t I s (swaps actor mover offer go is carried closings roots) g c none e =
      let new = closed_new (run.records t).closings (closing_of (states t) offer) g c none (sym (ap (λ l. closed_in l g) closings) ∙ e) in
      let stands = carried_stands (states t) I.offers actor mover offer is carried in
      let (root, found, same) = offered_root (root_at (states t) (handle_of mover.call)) offer stands in
      (sym new.1, record { handle = handle_of mover.call; root = root; is_open = found; its = ap (generation_at (states t).heap) same ∙ new.0 })

  closes_turn : (t : ℕ) → IsOrdered (states t) (run.records t) → (turn : Turn (states t) (states (suc t))) → run.records (suc t) ≡ noted_turn turn (run.records t) → (g c : ℕ) →
      closed_at (run.records t) g ≡ None → closed_at (run.records (suc t)) g ≡ Some c →
      (c ≡ (states t).steps) × Closes t g
  closes_turn t I (turns s o m) notes = closes_by t I s (step_kind (states t) I.offers (run.records t) (run.records (suc t)) s o (states (suc t)) m notes)

  first_unclosed : (g c : ℕ) → closed_at (run.records zero) g ≡ Some c → ⊥
  first_unclosed g c e = none-some c (ap (λ past. closed_at past g) (sym run.nothing_recorded) ∙ e)

  -- a generation that is closed was opened, and closed before
  pub closed_so : (t : ℕ) → t ≤ last → (g c : ℕ) → closed_at (run.records t) g ≡ Some c → (c < t) × WasOpened states t g
  closed_so zero h g c e = absurd (first_unclosed g c e)
  closed_so (suc t) h g c e = by (closed_at (run.records t) g) refl (closed_so t (omega arith))
    where
      by : (was : Option ℕ) → closed_at (run.records t) g ≡ was → ((g c : ℕ) → closed_at (run.records t) g ≡ Some c → (c < t) × WasOpened states t g) → (c < suc t) × WasOpened states (suc t) g
      by None is before =
          let closes = closes_turn t (ordered_at run t (omega arith)) (run.turn t h) (run.recorded t h) g c is e in
          (omega (arith, closes.0, steps_at run t (omega arith)), (t, omega arith, (closes.1.handle, closes.1.root, closes.1.is_open, closes.1.its)))
      by (Some d) is before =
          let same : d ≡ c = same_Some _ _ (sym (closed_next t h g d is) ∙ e) in
          let past = before g d is in
          (omega (arith, past.0, same), opened_next states t g past.1)

  pub was_closed_so : (t : ℕ) → t ≤ last → (g : ℕ) → WasClosed run.records t g → WasOpened states t g
  was_closed_so t h g (c, before, e) = (closed_so t h g c e).1

  -- a root that stands is in use
  pub standing_generation : (t : ℕ) → t ≤ last → (handle : ℕ) (root : Root) → root_at (states t) handle ≡ Some root → generation_of (node_under states last (root_of root.word)) ≡ gen (states t) root
  standing_generation t h handle root e =
      used_generation run t h (root_of root.word) (root_used (states t) (safe_at run t h) handle root e)

  -- ---- what a step opens

  -- it was opened before, or is that of a fresh root of an offer that the step carries out
  pub data Opening (t : ℕ) (g : ℕ) : Type 0 where
    before : WasOpened states t g → Opening t g
    opens : (handle : ℕ) (offer : Descriptor) → StandsBy (states t) handle offer → (x : Bool) (r : Ref) → fresh_of x offer ≡ Some r → generation_of (node_under states last r) ≡ g →
        WasClosed run.records (suc t) (generation_at (states t).heap offer.root) → Opening t g

  module _ (t : ℕ) (h : t < last) (s : Step) (o : Outcome) (m : Moves (states t) s o (states (suc t))) (g : ℕ) where
    abbrev I : IsOrdered (states t) (run.records t)
    I = ordered_at run t (omega arith)

    kept_root : (handle : ℕ) (root now : Root) → root_at (states t) handle ≡ Some root → root_of now.word ≡ root_of root.word → gen (states (suc t)) now ≡ g → WasOpened states t g
    kept_root handle root now e word its = (
      t,
      omega arith,
      (
        handle,
        root,
        e,
        sym (root_kept (states t) (safe_at run t (omega arith)) s o (states (suc t)) m handle root e)
            ∙ sym (ap (generation_at (states (suc t)).heap) word) ∙ its,
      ),
    )

    -- the old root is closed by the step
    old_closed : (actor : ℕ) (mover : Operation) (offer : Descriptor) → operation_of (states t) actor ≡ Some mover
        → ActionCarriesOut (states t) (handle_of mover.call) (action_of (states t) mover) offer →
        (run.records (suc t)).closings ≡ (run.records t).closings ++ closing_of (states t) offer ∷ [] → WasClosed run.records (suc t) (generation_at (states t).heap offer.root)
    old_closed actor mover offer is c closings = by (closed_at (run.records t) (generation_at (states t).heap offer.root)) refl
      where
        by : (was : Option ℕ) → closed_at (run.records t) (generation_at (states t).heap offer.root) ≡ was → WasClosed run.records (suc t) (generation_at (states t).heap offer.root)
        by None none = (
          (states t).steps,
          omega (arith, steps_at run t (omega arith)),
          ap (λ l. closed_in l (generation_at (states t).heap offer.root)) closings ∙ closed_last (run.records t).closings (closing_of (states t) offer)
              (generation_at (states t).heap offer.root) none refl,
        )
        by (Some d) e = (d, omega (arith, (closed_so t (omega arith) (generation_at (states t).heap offer.root) d e).0), closed_next t h (generation_at (states t).heap offer.root) d e)

    opening_by : StepKind (states t) (run.records t) s (states (suc t)) (run.records (suc t)) → (handle : ℕ) (now : Root) → root_at (states (suc t)) handle ≡ Some now →
        gen (states (suc t)) now ≡ g → Opening t g
    opening_by (quiet closings roots) handle now e its = let (root, was, access, word) = roots handle now e in before (kept_root handle root now was word its)
    opening_by (swaps actor mover offer go is c closings roots) handle now e its = by (roots handle now e)
      where
        stands : StandsBy (states t) (handle_of mover.call) offer
        stands = I.offers.offers (handle_of mover.call) offer (carried_stands (states t) I.offers actor mover offer is c)

        at_end : (r : Ref) → root_of now.word ≡ r → generation_of (node_under states last r) ≡ g
        at_end r word = ap (λ x. generation_of (node_under states last x)) (sym word) ∙ standing_generation (suc t) h handle now e ∙ its

        fresh : (x : Bool) (r : Ref) → fresh_of x offer ≡ Some r → root_of now.word ≡ r → Opening t g
        fresh x r f word = opens (handle_of mover.call) offer stands x r f (at_end r word) (old_closed actor mover offer is c closings)

        new_handle : (second : Option Ref) → offer.second ≡ second → now ≡ opened_root offer second → Opening t g
        new_handle None none it =
            let old = offered_root (root_at (states t) (handle_of mover.call)) offer (carried_stands (states t) I.offers actor mover offer is c) in
            before (kept_root (handle_of mover.call) old.0 now old.1 (ap (λ (x : Root). root_of x.word) it ∙ sym old.2) its)
        new_handle (Some q) some it = fresh false q some (ap (λ (x : Root). root_of x.word) it)

        by : RootFrom (states t) (handle_of mover.call) (action_of (states t) mover) handle now → Opening t g
        by (stood root was access word free) = before (kept_root handle root now was word its)
        by (swapped root other d at_it was it) =
            let same = one_carried (states t) (handle_of mover.call) (action_of (states t) mover) offer other c d in
            fresh true offer.successor refl (ap (λ (x : Root). root_of x.word) it ∙ ap (λ (x : Descriptor). x.successor) same)
        by (newly other n d number at_it it) =
            let same = one_carried (states t) (handle_of mover.call) (action_of (states t) mover) offer other c d in
            new_handle offer.second refl (it ∙ ap (λ (x : Descriptor). opened_root x x.second) same)

  opening_turn : (t : ℕ) → t < last → (g : ℕ) (turn : Turn (states t) (states (suc t))) → run.records (suc t) ≡ noted_turn turn (run.records t) → (handle : ℕ) (now : Root) →
      root_at (states (suc t)) handle ≡ Some now → gen (states (suc t)) now ≡ g → Opening t g
  opening_turn t h g (turns s o m) notes =
      opening_by t h s o m g (step_kind (states t) (ordered_at run t (omega arith)).offers (run.records t) (run.records (suc t)) s o (states (suc t)) m notes)

  pub opening : (t : ℕ) → t < last → (g : ℕ) → WasOpened states (suc t) g → Opening t g
  opening t h g (u, le, (handle, root, e, its)) = elim (cases_eq u (suc t)) [
    | inl same ↦ opening_turn t h g (run.turn t h) (run.recorded t h) handle root (subst (λ v. root_at (states v) handle ≡ Some root) same e) (subst (λ v. gen (states v) root ≡ g) same its)
    | inr other ↦ before (u, omega arith, (handle, root, e, its))
  ]
