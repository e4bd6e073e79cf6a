-- A node that stands over another was swapped in over it: an indirection of it is one of the other's, or new.
use Rattle.std.proofs.Common.{◌≡◌, ℕ, zero, suc, ◌≤◌, ◌⊎◌, inl, inr, sym, ap, ◌∙◌, arith}
use Rattle.std.proofs.lemmas.Bool.{cases_eq}
use Rattle.proof_owned.specs.Beneath.slot_arena.specs.declared.refs.Ref.{Ref}
use Rattle.proof_owned.specs.Beneath.slot_arena.specs.declared.nodes.Prev.{Prev}
use Rattle.proof_owned.specs.Beneath.slot_arena.specs.declared.nodes.Prev.TheVariants as prev
use Rattle.proof_owned.specs.Beneath.slot_arena.specs.Heaps.{logical}
use Rattle.proof_owned.specs.Beneath.machine_model.specs.declared.reading.SwapLine.TheVariants as swap
use Rattle.proof_owned.specs.Beneath.machine_model.specs.declared.steps.Bounds.{Bounds}
use Rattle.proof_owned.specs.Beneath.machine_model.specs.States.{State, operation_of}
use Rattle.proof_owned.specs.Beneath.machine_model.specs.Times.{IsRun}
use Rattle.proof_owned.specs.Beneath.proof_commits.specs.Protocol.{Words, Protocol}
use Rattle.proof_owned.specs.Beneath.proof_commits.proofs.Words.Stood.{IsOver, stands_now, none≢pending, pending≢failed}
use Rattle.proof_owned.specs.Beneath.proof_commits.proofs.Words.Effects.{Effect, Nothing, Made, SwappedIn, PutBack, Committed, Failed}
use Rattle.proof_owned.specs.Beneath.proof_commits.proofs.Known.Sounds.{sound_at}
use Rattle.proof_owned.specs.Beneath.proof_commits.proofs.Lines.Swap.{runs_deciding}
use Rattle.proof_owned.specs.Beneath.proof_commits.proofs.Course.Finals.{effect}
use Rattle.proof_owned.specs.Beneath.proof_generations.proofs.Falling.KnownRoots.{words, protocol_of}
use Rattle.proof_shape.proofs.Held.Fresh.{Names}
use Rattle.proof_owned.proofs.NewEntries.{IsNew, swaps_new}
use Rattle.proof_owned.proofs.Earlier.{IsLink}

-- the node over which another stands counts
pub over_counts : (x m : Ref) (v : Prev) → IsOver v m → logical x v ≡ m
over_counts x m prev.None over = absurd over
over_counts x m (prev.Pending q) over = over
over_counts x m (prev.Failed q) over = over

pub none≢failed : {v : Prev} {p : Ref} → v ≡ prev.None → v ≡ prev.Failed p → ⊥
none≢failed {v} {p} a b = let both : prev.None ≡ prev.Failed p = sym a ∙ b in let wrong : ⊥ = cc both in wrong

one_failed : (p q : Ref) → prev.Failed p ≡ prev.Failed q → p ≡ q
one_failed p q e = cc e

module _ {limits : Bounds} {states : ℕ → State} {last : ℕ} (run : IsRun limits states last) where
  abbrev w : Words
  w = words states run.records last

  abbrev p : Protocol
  p = protocol_of run

  -- a failed node was pending before
  abbrev pub WasPending : ℕ → Ref → Ref → Type 0
  WasPending t m q = (u : ℕ) × (u ≤ t) × (w.prev u m ≡ prev.Pending q)

  failed_by : (t : ℕ) → (m q : Ref) → Effect w t → w.prev (suc t) m ≡ prev.Failed q → (w.prev t m ≡ prev.Failed q → WasPending t m q) → WasPending t m q
  failed_by t m q (Nothing e) is before = before (sym (e.prev m) ∙ is)
  failed_by t m q (Made n e s) is before = before (sym (e.prev m) ∙ is)
  failed_by t m q (SwappedIn i a f link e x d) is before = elim (cases_eq m f) [
    | inl same ↦ absurd (pending≢failed (ap (w.prev (suc t)) same ∙ e.prev.here) is)
    | inr apart ↦ before (sym (e.prev.elsewhere m apart) ∙ is)
  ]
  failed_by t m q (PutBack i x y link e f s) is before = before (sym (e.prev m) ∙ is)
  failed_by t m q (Committed x y e) is before = elim (cases_eq m x) [
    | inl same ↦ absurd (none≢failed (ap (w.prev (suc t)) same ∙ e.prev.here) is)
    | inr apart ↦ before (sym (e.prev.elsewhere m apart) ∙ is)
  ]
  failed_by t m q (Failed x y e) is before = elim (cases_eq m x) [
    | inl same ↦
        let one : y ≡ q = one_failed y q (sym (ap (w.prev (suc t)) same ∙ e.prev.here) ∙ is) in
        (t, omega arith, ap (w.prev t) same ∙ e.was ∙ ap (λ r. prev.Pending r) one)
    | inr apart ↦ before (sym (e.prev.elsewhere m apart) ∙ is)
  ]

  pub was_pending : (t : ℕ) → t ≤ last → (m q : Ref) → w.prev t m ≡ prev.Failed q → WasPending t m q
  was_pending zero h m q is = absurd (none≢failed (p.first_decided m) is)
  was_pending (suc t) h m q is = let (u, le, pending) = failed_by t m q (effect p t h) is (λ b. was_pending t (omega arith) m q b) in (u, omega (arith, le), pending)

  -- ---- its indirections

  abbrev pub IsOldOrNew : ℕ → Ref → Ref → Ref → Type 0
  IsOldOrNew t m q c = Names run q c ⊎ ((u : ℕ) × (u ≤ t) × IsNew run u m c)

  pending_new : (t : ℕ) → t ≤ last → (m q c : Ref) → w.prev t m ≡ prev.Pending q → IsLink run c → Names run m c → IsOldOrNew t m q c
  pending_new t within m q c pending link names =
      let sound = sound_at p t within in
      let owner = sound.owned m q pending in
      let by = runs_deciding (operation_of (states t) owner.actor) owner.link q m owner.line owner.stage in
      elim (swaps_new run t within owner.actor by.operation by.is by.swaps.0 (record { indirection = owner.link; replaced = q; fresh = m; line = swap.Deciding owner.line }) by.swaps.1 c link names
      (sound.words.made owner.link m (stands_now owner.is_link owner.stands)) (λ i s none. none≢pending none pending)) [
        | inl old ↦ inl old
        | inr new ↦ inr (t, omega arith, new)
      ]

  pub over_new : (t : ℕ) → t ≤ last → (m q c : Ref) (v : Prev) → w.prev t m ≡ v → IsOver v q → IsLink run c → Names run m c → IsOldOrNew t m q c
  over_new t within m q c prev.None is over link names = absurd over
  over_new t within m q c (prev.Pending x) is over link names = pending_new t within m q c (is ∙ ap (λ r. prev.Pending r) over) link names
  over_new t within m q c (prev.Failed x) is over link names =
      let (u, le, pending) = was_pending t within m q (is ∙ ap (λ r. prev.Failed r) over) in
      elim (pending_new u (omega (arith, le, within)) m q c pending link names) [
        | inl old ↦ inl old
        | inr (v, before, new) ↦ inr (v, omega (arith, before, le), new)
      ]
