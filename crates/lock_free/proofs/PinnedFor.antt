-- Which call a seat has pinned itself for changes nothing of what the rule says of words and steps, nor does what it knows of the epoch.
use Rattle.history.specs.declared.calls.Call.{Call}
use Rattle.std.proofs.Common.{◌≡◌, ℕ, inl, true, set, Option, refl}
use mathlib.Core.Option.{some}
use lib.ListN.{get_elem?}
use Rattle.atomic_table.specs.Table as Table
use Rattle.lock_free.specs.declared.rules.Checked.{Checked}
use Rattle.lock_free.specs.declared.rules.View.{View}
use Rattle.lock_free.specs.declared.sizes.Sizes.{Sizes}
use Rattle.lock_free.specs.Accounts.{state_of}
use Rattle.lock_free.specs.Rules.{IsClosing, IsSeat, IsKept}
use Rattle.lock_free.proofs.Assembling.{all_stand, closing_stays, numbers_stay, assembled}
use Rattle.lock_free.proofs.CellsStay.{cells_seen}
use Rattle.lock_free.proofs.Meanings.{no_tries}
use Rattle.lock_free.proofs.HeldStill.{held_views}

module _ (sizes : Sizes) (s : Table.State Call View) (kept : IsKept sizes s) (id : ℕ) (v : View) (at : get_elem? s.views id ≡ some v) (call : Option Call) (epoch : ℕ) (passed : Checked) where
  abbrev then : View
  then = record v { asks = call; epoch = epoch; passed = passed }

  own : IsSeat sizes kept.account kept.stands s.words then
  own =
      let h = kept.seats id v at in
      record {
        same = h.same;
        low = h.low;
        top = h.top;
        most = h.most;
        waited = h.waited;
        rested = h.rested;
        counts = h.counts;
        rests = h.rests;
        pinned = h.pinned;
        pinned_idle = h.pinned_idle;
        retired = h.retired;
        entered = h.entered;
        calls = h.calls;
        opens = h.opens;
        reserves = h.reserves;
        opening = λ handle slot o n. (let x = h.opening handle slot o n in record { low = x.low; fits = x.fits; is = x.is; free = x.free });
        spare = h.spare;
        once = h.once;
        drafts = h.drafts;
        plain = h.plain;
        offering = h.offering;
      }

  -- where whoever would close a handle knows what it has to
  pub asks_kept_by : ((handle who : ℕ) → IsClosing s.views handle who → IsClosing (set s.views id then) handle who) →
      IsKept sizes (record { words = s.words; homes = s.homes; views = set s.views id then })
  asks_kept_by closings =
      assembled sizes s kept id v at then refl refl kept.account kept.stands s.words (all_stand sizes s kept)
      (λ handle who low says. closings handle who (kept.closings handle who low says)) own
      (λ other w e apart. kept.seats other w e) (λ b n f. inl f)
      (numbers_stay sizes s kept id v at then refl refl kept.account s.words (no_tries kept.account.offers (state_of sizes kept.account)) (λ slot none. none) (λ handle low. refl) refl
      (λ slot handle e free. free)) (held_views sizes s kept id v at then refl refl refl) (cells_seen sizes s kept id v at then (λ b n f. f))

  -- and where it hasn't let glances fall
  pub asks_kept : (passed.cleared ≡ true → v.passed.cleared ≡ true) → IsKept sizes (record { words = s.words; homes = s.homes; views = set s.views id then })
  asks_kept clears = asks_kept_by (λ handle who h. closing_stays sizes s kept id v at then refl refl (λ h e. (e, refl)) refl clears handle who h)
