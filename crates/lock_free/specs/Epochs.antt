-- What is known of the epoch, and when it grows: by one, once each seat that is in a call has begun it in the present epoch.
use Rattle.history.specs.declared.calls.Call.{Call}
use Rattle.std.specs.Prelude.{◌≡◌, ◌==◌, ◌+◌, ◌<◌, ◌≤◌, ℕ, Bool, true, false, Contains, map, Option, Some, None}
use Rattle.atomic_table.specs.Table.{Me, Step}
use Rattle.trie_words.specs.Codes.{pin_of}
use Rattle.trie_words.specs.declared.pins.Pin.{Pin}
use Rattle.lock_free.specs.declared.rules.Retired.{Retired}
use Rattle.lock_free.specs.declared.rules.View.{View}
use Rattle.lock_free.specs.Places.{IsSlot}
use Rattle.lock_free.specs.Rules.{Once, none_checked}

-- ---- it is looked at

-- the seat knows the epoch, and has looked at no pin since
abbrev pub knowing : View → ℕ → View
knowing v epoch = record v { epoch = epoch; passed = none_checked }

-- What the seat has retired are slots of the table, none of them twice, and it has retired none of them in a later epoch.
pub record AreItsSlots (v : View) (epoch : ℕ) : Type 0 where
  pub stamps : (x : Retired) → Contains v.retired x → x.stamp ≤ epoch
  pub slots : (x : Retired) → Contains v.retired x → (x.class < 3) × IsSlot v.sizes x.class x.name
  pub once : Once (map (λ (x : Retired). x.name) v.retired)

abbrev pub HasSeenEpoch : Me Call View → ℕ → Me Call View → Type 0
HasSeenEpoch before found after = (before.0.epoch ≤ found) × (after ≡ (knowing before.0 found, before.1)) × AreItsSlots before.0 found

abbrev pub has_seen_epoch : Step Call → Me Call View → ℕ → Me Call View → Type 0
has_seen_epoch step before found after = HasSeenEpoch before found after

-- ---- a seat that would let it grow looks at the pins of all seats

-- a seat with this pin is in no call, or has begun it in this epoch
abbrev pub is_in : ℕ → Option Pin → Bool
is_in epoch None = true
is_in epoch (Some pin) = pin.epoch == epoch

-- it goes by the next seat
abbrev pub going_by : View → View
going_by v = record v { passed = record v.passed { seats = v.passed.seats + 1 } }

abbrev pub HasChecked : View → Bool → View → Type 0
HasChecked before present after = (present ≡ true → after ≡ going_by before) × (present ≡ false → after ≡ before)

abbrev pub has_checked : Step Call → Me Call View → ℕ → Me Call View → Type 0
has_checked step before found after = HasChecked before.0 (is_in before.0.epoch (pin_of found)) after.0 × (after.1 ≡ before.1)

-- so many of them
abbrev pub having_passed : View → ℕ → View
having_passed v seats = record v { passed = record v.passed { seats = seats } }

abbrev pub HasCheckedAll : View → Bool → View → Type 0
HasCheckedAll before present after = (passed : ℕ) × (after ≡ having_passed before passed) × (present ≡ true → passed ≡ before.sizes.seats)

-- ---- it grows, or has grown by another seat

abbrev pub HasAdvanced : View → Bool → View → Type 0
HasAdvanced before grew after = (grew ≡ true → after ≡ knowing before (before.epoch + 1)) × (grew ≡ false → after ≡ before)

abbrev pub has_advanced : Step Call → Me Call View → ℕ → Me Call View → Type 0
has_advanced step before found after = HasAdvanced before.0 (found == before.0.epoch) after.0 × (after.1 ≡ before.1)

-- ---- all of it

-- the seat knows of the epoch what it knew, or more
pub record KnowsMore (before after : View) : Type 0 where
  pub is : after ≡ record before { epoch = after.epoch; passed = after.passed }
  pub grows : before.epoch ≤ after.epoch

abbrev pub HasTriedToAdvance : View → Bool → View → Type 0
HasTriedToAdvance before grew after = KnowsMore before after × (grew ≡ true → before.epoch + 1 ≤ after.epoch)
