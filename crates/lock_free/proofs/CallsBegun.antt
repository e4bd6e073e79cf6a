-- A call of a seat begins, or its seat rests as before.
use Rattle.history.specs.declared.calls.Call.{Call}
use Rattle.std.proofs.Common.{◌≡◌, ◌⊎◌, ℕ, inl, inr, is_some, None, Result, Ok, Err, refl, sym, ap, subst, ◌∙◌}
use Rattle.lock_free.specs.declared.call_errors.CallError.{CallError}
use Rattle.lock_free.specs.declared.call_errors.CallError.TheVariants as error
use Rattle.lock_free.specs.declared.calling.Denial.{Denial}
use Rattle.lock_free.specs.declared.reading.Way.{Way}
use Rattle.lock_free.specs.declared.rules.View.{View}
use Rattle.lock_free.specs.BegunCalls.{HasTriedToBegin, IsReadyFor, RestsAgain, StillBegins, WasDeniedSo}
use Rattle.lock_free.specs.Calling.{CalledOrNot, HasCalled, IsCaller}
use Rattle.lock_free.specs.Loading.{IsSound}
use Rattle.lock_free.specs.SeatCalls.{error_of, RanOut}
use Rattle.lock_free.specs.Stocks.{IsStock, Stocked}
use Rattle.lock_free.specs.WholeCalls.{RestsWith}
use Rattle.lock_free.proofs.Beginners.{calls_first, calls_more}
use Rattle.lock_free.proofs.CallBegins.{denied_rests, denied_same, denied_stock, stock_begun, unpinned_rests, unpinned_same, unpinned_stock, unpinned_waited}

module _ (v : View) (c : Call) (ready : IsReadyFor v c) where
  pub ready_caller : IsCaller v c
  ready_caller = record {
    idle = ready.rests.idle;
    free = ready.rests.pin;
    number = ready.number ∙ sym (ap is_some ready.rests.opens_it);
    stays = ready.stays;
  }

  pub begun_keeps : (way : Way) (u : View) → HasCalled v c (Ok way) u → (stock : Stocked) → IsStock stock v → IsStock stock u
  begun_keeps = stock_begun v ready.opens ready.rests c

  -- it was denied
  module _ (why : Denial) (x : View) (h : HasCalled v c (Err why) x) where
    pub denied_so : WasDeniedSo v c (error_of why) x
    denied_so = (why, refl, h)

    pub denied_again : RestsAgain v x
    denied_again opens rests = (denied_same v opens rests c why x h, denied_rests v opens rests c why x h)

    pub denied_keeps : (stock : Stocked) → IsStock stock v → IsStock stock x
    denied_keeps = denied_stock v ready.opens ready.rests c why x h

  -- it hasn't begun in so many looks
  module _ (x : View) (h : CalledOrNot v c (Ok None) x) where
    pub late_ran_out : RanOut {A = Way} v (Err error.Spent) x
    late_ran_out = (refl, unpinned_waited v ready.opens ready.rests c x h.0 h.1 h.2 h.3)

    pub late_again : RestsAgain v x
    late_again opens rests = (unpinned_same v opens rests c x h.0 h.1 h.2 h.3, unpinned_rests v opens rests c x h.0 h.1 h.2 h.3)

    pub late_keeps : (stock : Stocked) → IsStock stock v → IsStock stock x
    late_keeps = unpinned_stock v ready.opens ready.rests c x h.0 h.1 h.2 h.3

    -- what comes of it now has come of it since then
    pub late_still : (words : ℕ) → IsSound words v → RestsWith v None → IsSound words x → StillBegins words v c x
    late_still words sound rests sound_x =
        record { sound = sound; rests = rests; then = (calls_more words c v v x (calls_first words c v sound ready_caller) sound_x h).then }

-- and since before that
pub still_then : (words : ℕ) (before : View) (c : Call) (v : View) → StillBegins words before c v → (x : View) → StillBegins words v c x → StillBegins words before c x
still_then words before c v still x late = record { sound = still.sound; rests = still.rests; then = λ begun after h. still.then begun after (late.then begun after h) }

pub still_now : (words : ℕ) (v : View) (c : Call) → IsSound words v → RestsWith v None → StillBegins words v c v
still_now words v c sound rests = record { sound = sound; rests = rests; then = λ begun after h. h }

-- ---- what has come of it

abbrev IsBegun : Result Way CallError → Type 0
IsBegun (Ok way) = Unit {0}
IsBegun (Err why) = ⊥

pub begun_so : (v : View) (c : Call) (way : Way) (u : View) → HasTriedToBegin v c (Ok way) u → HasCalled v c (Ok way) u
begun_so v c way u (inl h) = h
begun_so v c way u (inr h) = absurd (subst IsBegun h.0 tt)

pub not_begun : {A : Type 0} (v : View) (c : Call) (why : CallError) (x : View) → HasTriedToBegin v c (Err why) x → WasDeniedSo v c why x ⊎ RanOut {A = A} v (Err why) x
not_begun v c why x (inl h) = inl h
not_begun v c why x (inr h) = inr (ap (λ e. Err e) (cc h.0), h.1)

pub late_spent : (v : View) (why : CallError) (x : View) → RanOut {A = Way} v (Err why) x → why ≡ error.Spent
late_spent v why x h = cc h.0
