-- Where an operation stands that has its place, along a run; and who has none: who is refused for want of slots, and whose offer is being carried out.
use Rattle.std.proofs.Common.{◌≡◌, ℕ, suc, ◌<◌, true, false, inl, inr, Option, sym, ap, ◌∙◌, subst, arith}
use Rattle.std.proofs.lemmas.Bool.{true≢false, cases_Bool, false≢true}
use Rattle.proof_order.specs.Beneath.history.specs.declared.replies.Reply.TheVariants as reply
use Rattle.proof_order.specs.Beneath.machine_model.specs.declared.copying.CopyLine.TheVariants as copy
use Rattle.proof_order.specs.Beneath.machine_model.specs.declared.lines.Line.TheVariants as line
use Rattle.proof_order.specs.Vocabulary.{Operation, Complete, Bounds, Outcome, Step, changed_reply, State, Moves, turns, noted_turn, IsRun, Turn, is_placed, Record, noted, told_in, tells_effect}
use Rattle.proof_order.specs.Beneath.machine_model.proofs.Times.{along_run}
use Rattle.proof_generations.proofs.Handles.Running.{place_of_actor}
use Rattle.proof_order.specs.Facts.{Runs, Notes}
use Rattle.proof_order.proofs.History.Growing.{placed}
use Rattle.proof_order.proofs.Views.EachStep.{changes}
use Rattle.proof_order.proofs.Offers.Honest.{honest, offerer_of}
use Rattle.proof_order.proofs.Offers.Standing.{offers_at, nobody}
use Rattle.proof_order.proofs.History.OneStep.{from}
use Rattle.proof_order.specs.Phases.{Phase, past, completes, answers, IsPastAt, PlacedPhase, RefusedAreUnplaced, OffersAreUnplaced}
use Rattle.proof_order.proofs.Phases.Entering.{entering}
use Rattle.proof_order.proofs.Phases.Steps.{is_placed_so, old}
use Rattle.proof_order.proofs.Phases.NewPlaces.{new_phase, owns}
use Rattle.proof_order.specs.Beneath.proof_commits.proofs.Lines.Reads.{only_end}
use Rattle.proof_order.specs.Beneath.history.proofs.Among.{Among}

-- ---- along a run

-- each running operation that has its place is in such a phase
abbrev AllPhased : (ℕ → State) → (ℕ → Record) → ℕ → Type 0
AllPhased states records t = (k : ℕ) (operation : Operation) → Runs (states t) k operation → is_placed (records t) operation.id ≡ true → Phase states t operation

phased_after : {limits : Bounds} {states : ℕ → State} {last : ℕ} (r : IsRun limits states last) → (t : ℕ) → t < last → (s : Step) (o : Outcome) →
    Moves (states t) s o (states (suc t)) → Notes states r.records t s → AllPhased states r.records t →
    AllPhased states r.records (suc t)
phased_after {limits} {states} {last} r t lt s o m notes before k found runs is =
    let its = from (states t) s o (states (suc t)) m k found runs in
    let (p, a, same) = placed (r.records (suc t)) found.id is in
    elim (entering (states t) (r.records t) s (states (suc t)) (noted (r.records t) (states t).steps (told_in (states t) s))
    (changes (states t) (r.records t) s o (states (suc t)) m (honest (states t) (offers_at r t (omega arith))))
    (owns r t lt s o m notes) p (subst (λ (x : Record). Among p x.places) notes a)) [
      | inl stood ↦ old r t lt s k found runs (before k) (is_placed_so (r.records t) p stood found.id same) its
      | inr enters ↦ new_phase r t lt s o m notes p enters k found runs same its
    ]

pub placed_phase : {limits : Bounds} {states : ℕ → State} {last : ℕ} (r : IsRun limits states last) → PlacedPhase states r.records last
placed_phase {limits} {states} {last} r t k operation le runs is =
    along_run r (λ t. AllPhased states r.records t)
    (λ k operation runs is. absurd (nobody limits k operation (subst (λ q. Runs q k operation) r.first runs)))
    (λ t lt turn before. by_turn t lt (r.turn t lt) (r.recorded t lt) before) t le k operation runs is
  where
    by_turn : (t : ℕ) → t < last → (turn : Turn (states t) (states (suc t))) → r.records (suc t) ≡ noted_turn turn (r.records t) → AllPhased states r.records t →
        AllPhased states r.records (suc t)
    by_turn t lt (turns s o m) e before = phased_after r t lt s o m e before

-- ---- who has no place

refused_reply : (call : _) (former : Option ℕ) → reply.NoSlots ≡ changed_reply call former → ⊥
refused_reply call former e = grind arith

pub refused_unplaced : {limits : Bounds} {states : ℕ → State} {last : ℕ} (r : IsRun limits states last) → RefusedAreUnplaced states r.records last
refused_unplaced {limits} {states} {last} r t actor operation lt is does = elim (cases_Bool (is_placed (r.records t) operation.id)) [
  | inr none ↦ none
  | inl has ↦ let (k, actors, runs) = place_of_actor (states t) actor operation is in absurd (by (placed_phase r t k operation (omega (arith, lt)) runs has))
]
  where
    at : operation.line ≡ line.End reply.NoSlots
    at = only_end (states t) operation operation.line reply.NoSlots does

    by : Phase states t operation → ⊥
    by (past former h) = refused_reply operation.call former (subst (IsPastAt states t operation.call former) at h.0)
    by (completes c marked on) = let wrong : line.End reply.NoSlots ≡ line.Copy (copy.Complete c) = sym at ∙ on in cc wrong
    by (answers answer on tells) =
        let ends : line.End reply.NoSlots ≡ line.End answer = sym at ∙ on in
        let same : reply.NoSlots ≡ answer = cc ends in
        false≢true (ap (tells_effect operation.call) same ∙ tells)

pub offers_unplaced : {limits : Bounds} {states : ℕ → State} {last : ℕ} (r : IsRun limits states last) → OffersAreUnplaced states r.records last
offers_unplaced {limits} {states} {last} r t s o lt m notes handle offer carries = elim (cases_Bool (is_placed (r.records t) offer.operation)) [
  | inr none ↦ none
  | inl has ↦
      let st = offerer_of (states t) (offers_at r t (omega (arith, lt))) s handle offer carries in
      absurd (by st.operation st.c st.unmarked st.at (placed_phase r t st.k st.operation (omega (arith, lt)) st.runs (ap (is_placed (r.records t)) st.id ∙ has)))
]
  where
    by : (offerer : Operation) (c : Complete) → offerer.is_marked ≡ false → offerer.line ≡ line.Copy (copy.Complete c) → Phase states t offerer → ⊥
    by offerer c unmarked at (past former h) = subst (IsPastAt states t offerer.call former) at h.0
    by offerer c unmarked at (completes d marked on) = true≢false (sym marked ∙ unmarked)
    by offerer c unmarked at (answers answer on other) = let wrong : line.Copy (copy.Complete c) ≡ line.End answer = sym at ∙ on in cc wrong
