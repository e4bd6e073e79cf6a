-- Glances are counted up, so that all that are under way fall: by a seat that would let the epoch grow or close a handle.
use Rattle.history.specs.declared.calls.Call.{Call}
use Rattle.std.specs.Prelude.{◌≡◌, ◌+◌, ◌^◌, ◌==◌, ℕ, Bool, true, false}
use Rattle.atomic_table.specs.Table.{Me, Step}
use Rattle.lock_free.specs.declared.rules.View.{View}

abbrev pub clearing : View → View
clearing v = record v { passed = record { cleared = true; seats = 0 } }

-- all have fallen, or the count was another
abbrev pub HasCleared : View → Bool → View → Type 0
HasCleared before fell after = (fell ≡ true → after ≡ clearing before) × (fell ≡ false → after ≡ before)

-- by an exchange of the count for one more
abbrev pub has_cleared : Step Call → Me Call View → ℕ → Me Call View → Type 0
has_cleared step before found after = HasCleared before.0 (found == step.first) after.0 × (after.1 ≡ before.1)

-- or by a load: none is under way once all that can be counted were
abbrev pub is_last : ℕ → Bool
is_last count = count + 1 == 2 ^ 64

abbrev pub has_seen_count : Step Call → Me Call View → ℕ → Me Call View → Type 0
has_seen_count step before found after = HasCleared before.0 (is_last found) after.0 × (after.1 ≡ before.1)
