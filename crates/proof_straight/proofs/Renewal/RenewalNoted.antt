-- What is recorded of a renewal is what was recorded before the call, with the new branch.
use Rattle.std.proofs.Common.{◌≡◌, ℕ, suc, false, cond, max, List, [], ◌∷◌, ◌++◌, get_or, set, Option, Some, None, refl, sym, ap, ◌∙◌}
use Rattle.std.proofs.lemmas.List.{append-nil, set-set}
use Rattle.proof_straight.specs.Vocabulary.{Call, Ref, Heap, Zeroed, Place, on_time, Moment, is_close, opens_handle, begun_operation, least_free, Record, no_moment, noted_progress, with_moment}
use Rattle.proof_straight.specs.Vocabulary.{State}
use Rattle.proof_straight.specs.Beneath.history.specs.declared.events.Event.TheVariants as event
use Rattle.proof_straight.specs.Recorded.{moment_of}
use Rattle.proof_straight.specs.Renewals.{renewed_record}
use Rattle.proof_straight.proofs.Steps.Going.{begun_record}
use Rattle.proof_straight.proofs.Steps.Noting.{committing, noted_committing, noted_publishing, publishing, with_commit_of, with_read}

-- the record once the new branch stands and was read, whatever was read before
abbrev with_both : Record → (k commit step : ℕ) → (fresh main : Ref) → Record
with_both r k commit step fresh main = with_read (renewed_record r commit fresh) k step main

read_before : (r : Record) (k commit step : ℕ) (fresh main : Ref) (m : Moment) → with_both (record r { moments = set r.moments k m }) k commit step fresh main ≡ with_both r k commit step fresh main
read_before r k commit step fresh main m =
    ap (λ ms. record (renewed_record r commit fresh) { moments = ms }) (set-set r.moments k m (moment_of (renewed_record r commit fresh) step main))

module _ (state : State) (past : Record) (k : ℕ) (call : Call) (heap : Heap) (limbo : List Zeroed) (steps : ℕ) (opens_none : opens_handle call ≡ false) (stays_open : is_close call ≡ false) where
  abbrev pub now : State
  now = record state { heap = heap; limbo = limbo; steps = steps }

  pub same_opens : (begun_operation now call None).opens ≡ (begun_operation state call None).opens
  same_opens = ap (λ b. cond b (Some (least_free now)) None) opens_none ∙ sym (ap (λ b. cond b (Some (least_free state)) None) opens_none)

  -- a begin in one state is recorded as in the other
  begins_alike : (commit step : ℕ) (fresh main : Ref) →
      with_both (begun_record state past k call) k commit step fresh main ≡ with_read (begun_record now (renewed_record past commit fresh) k call) k step main
  begins_alike commit step fresh main =
      ap (λ b. by (begun_operation state call None).opens (cond b (on_time state.steps false state.begun ∷ []) [])) stays_open
      ∙ sym (ap (λ b. by (begun_operation state call None).opens (cond b (on_time steps false state.begun ∷ []) [])) stays_open)
      ∙ ap (λ o. by o (cond (is_close call) (on_time steps false state.begun ∷ []) [])) (sym same_opens)
    where
      by : Option ℕ → List Place → Record
      by opens places = record (renewed_record past commit fresh) {
        events = past.events ++ event.Begin state.begun (suc k) call opens ∷ [];
        places = past.places ++ places;
        moments = set (with_moment past (suc k) no_moment) k (moment_of (renewed_record past commit fresh) step main);
      }

  pub renewal_noted : (so_far : Record) → ((step : ℕ) (m : Ref) → with_read so_far k step m ≡ with_read (begun_record state past k call) k step m) → (published commit step : ℕ) (fresh main : Ref) →
      with_read (noted_progress (noted_progress so_far published (suc k) (publishing None fresh)) commit (suc k) (committing fresh)) k step main
      ≡ with_read (begun_record now (renewed_record past commit fresh) k call) k step main
  renewal_noted so_far only published commit step fresh main =
      ap (λ r. with_read (noted_progress r commit (suc k) (committing fresh)) k step main) (noted_publishing so_far published k None fresh)
      ∙ ap (λ r. with_read r k step main) (noted_committing swapped commit k None fresh (get_or so_far.moments k no_moment) so_far.published refl refl)
      ∙ ap (λ ps. record (with_read committed k step main) { places = ps }) (append-nil so_far.places)
      ∙ read_before so_far k commit step fresh main before
      ∙ sym (read_before so_far k commit step fresh main (moment_of so_far 0 0)) ∙ ap (λ r. with_both r k commit step fresh main) (only 0 0)
      ∙ read_before (begun_record state past k call) k commit step fresh main (moment_of (begun_record state past k call) 0 0) ∙ begins_alike commit step fresh main
    where
      swapped : Record
      swapped = record so_far { published = record { main = fresh; changer = None } ∷ so_far.published }

      committed : Record
      committed = with_commit_of swapped commit k None fresh (get_or so_far.moments k no_moment)

      before : Moment
      before = record { read_at = (get_or so_far.moments k no_moment).read_at; moment = max (get_or so_far.moments k no_moment).read_at commit }
