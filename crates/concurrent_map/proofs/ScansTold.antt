-- What a seat that lists in parts is told, in the words of histories.
use Rattle.std.proofs.Common.{◌≡◌, inl, inr, ◌++◌, ℕ, List, None, Err, IfErr, length, refl, ap, subst}
use Rattle.history.specs.declared.calls.Call.TheVariants.{Entries}
use Rattle.history.specs.declared.replies.Reply.TheVariants as reply
use Rattle.lock_free.specs.declared.call_errors.CallError.TheVariants as error
use Rattle.lock_free.specs.declared.scans.Scanned.{Scanned}
use Rattle.lock_free.specs.declared.scans.Scanned.TheVariants as plain
use Rattle.lock_free.specs.Answering.{HasAnswered}
use Rattle.lock_free.specs.Answers.{OthersTellNothing}
use Rattle.lock_free.specs.Denials.{DenialsTellHandles}
use Rattle.lock_free.specs.Places.{AreSizes}
use Rattle.lock_free.specs.ScanSeats.{reached_by, seat_of}
use Rattle.lock_free.specs.Scans as lf
use Rattle.lock_free.specs.Seated.{HasGoneOn, Seated}
use Rattle.lock_free.specs.Telling.{HistoriesGoOn}
use Rattle.lock_free.specs.WholeCalls.{IsWalkLack}
use Rattle.concurrent_map.specs.Calls.{WasAnswered}
use Rattle.concurrent_map.specs.Scans.{of_map, GoesOnUnlessLacking, HasBegunScan, HasScanned, IsPaused, IsScanning, ScannedTo}
use Rattle.concurrent_map.specs.Seats.{SeatState, state_of_seat}
use Rattle.concurrent_map.proofs.Told.{denied, was_answered, was_not_made}
use Rattle.concurrent_map.proofs.TriesTold.{gone_further}

pub lacking_so : (result : Scanned) → IfErr (reached_by result) IsWalkLack → GoesOnUnlessLacking (of_map result)
lacking_so (plain.Paused seat) is = tt
lacking_so (plain.Done seat) is = tt
lacking_so (plain.Refused seat why) is = is

module _ (go_on : HistoriesGoOn) (others : OthersTellNothing) (denials : DenialsTellHandles) where
  scanned_to : (first : Seated) → AreSizes first.view.sizes → (handle : ℕ) (told : List (ℕ × ℕ)) (result : Scanned) → HasGoneOn first (seat_of result) →
      lf.ScannedTo first.view handle told (reached_by result) (seat_of result).view → ScannedTo (state_of_seat first) handle told (of_map result)
  scanned_to first sizes handle told (plain.Paused seat) on is = record { first = first; was = refl; later = on; scanning = is }
  scanned_to first sizes handle told (plain.Done seat) on is = was_answered first seat (Entries handle) None _ on is
  scanned_to first sizes handle told (plain.Refused seat why) on is = denied first seat (Entries handle) go_on others denials sizes on why is

  module _ (s : Seated) (sizes : AreSizes s.view.sizes) where
    -- ---- its begin

    begun_so : (handle : ℕ) (result : Scanned) → HasGoneOn s (seat_of result) → lf.HasBegunScan s.view handle (reached_by result) (seat_of result).view →
        HasBegunScan (state_of_seat s) handle (of_map result)
    begun_so handle (plain.Paused seat) on is = record { first = s; was = refl; later = on; scanning = is }
    begun_so handle (plain.Done seat) on is = elim is [ ]
    begun_so handle (plain.Refused seat why) on (inl is) = inl (denied s seat (Entries handle) go_on others denials sizes on why is)
    begun_so handle (plain.Refused seat why) on (inr (out, waited)) =
        let spent : why ≡ error.Spent = cc out in inr (ap (λ e. Err e) spent, was_not_made s seat go_on others sizes on waited)

    pub begun_scan : (before : SeatState) → state_of_seat s ≡ before → (asked handle : ℕ) → asked ≡ handle → (result : Scanned) → HasGoneOn s (seat_of result) →
        lf.HasBegunScan s.view asked (reached_by result) (seat_of result).view → HasBegunScan before handle (of_map result)
    begun_scan before seat asked handle same result on is =
        subst (λ b. HasBegunScan b handle (of_map result)) seat (subst (λ h. HasBegunScan (state_of_seat s) h (of_map result)) same (begun_so asked result on is))

    -- ---- it goes on, since whenever it began

    module _ (before : SeatState) (handle : ℕ) (told : List (ℕ × ℕ)) (under : IsScanning before handle told s) where
      first_sizes : AreSizes under.first.view.sizes
      first_sizes = subst AreSizes under.later.sizes sizes

      scanned_since : (more : List (ℕ × ℕ)) (result : Scanned) → HasGoneOn s (seat_of result) → lf.ScannedTo under.first.view handle more (reached_by result) (seat_of result).view →
          ScannedTo before handle more (of_map result)
      scanned_since more result on is =
          subst (λ b. ScannedTo b handle more (of_map result)) under.was
          (scanned_to under.first first_sizes handle more result (gone_further under.first s (seat_of result) under.later on) is)

      pub stopped_since : (t : Seated) → HasGoneOn s t → HasAnswered under.first.view (Entries handle) None reply.NoSlots t.view →
          WasAnswered before (Entries handle) None reply.NoSlots (state_of_seat t)
      stopped_since t on is =
          subst (λ b. WasAnswered b (Entries handle) None reply.NoSlots (state_of_seat t)) under.was
          (was_answered under.first t (Entries handle) None reply.NoSlots (gone_further under.first s t under.later on) is)

    full_so : (n most : ℕ) (result : Scanned) → (lf.IsMost (reached_by result) → n ≡ most) → IsPaused (of_map result) → n ≡ most
    full_so n most (plain.Paused seat) full is = full tt
    full_so n most (plain.Done seat) full is = elim is [ ]
    full_so n most (plain.Refused seat why) full is = elim is [ ]

    pub scanned_on : (most : ℕ) (list : List (ℕ × ℕ)) (result : Scanned) (longer : List (ℕ × ℕ)) → HasGoneOn s (seat_of result) →
        lf.HasScanned s.view most list (reached_by result) (seat_of result).view longer → HasScanned s most list (of_map result) longer
    scanned_on most list result longer on h = record {
      part = h.part;
      is = h.is;
      few = h.few;
      full = full_so (length h.part) most result h.full;
      then = λ before handle told under. scanned_since before handle told under (told ++ h.part) result on (h.then under.first.view handle told under.scanning);
    }
