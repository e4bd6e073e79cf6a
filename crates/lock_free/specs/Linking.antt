-- The link of a slot that was retired is looked at, or is another one then.
use Rattle.history.specs.declared.calls.Call.{Call}
use Rattle.std.specs.Prelude.{◌≡◌, ℕ, ◌+◌, ◌%◌, ◌^◌, Contains}
use Rattle.atomic_table.specs.Table.{Me, Step}
use Rattle.lock_free.specs.declared.rules.Retired.{Retired}
use Rattle.lock_free.specs.declared.rules.View.{View}
use Rattle.lock_free.specs.Links.{link_in}
use Rattle.lock_free.specs.Making.{with_draft}

-- the seat knows this link in that word
abbrev pub linking : View → ℕ → ℕ → View
linking v word link = record v { links = with_draft v.links word link }

-- it has retired this slot
abbrev pub HasRetiredSlot : View → ℕ → ℕ → Type 0
HasRetiredSlot v class name = (x : Retired) × Contains v.retired x × (x.class ≡ class) × (x.name ≡ name)

-- by a load of the count's word
abbrev pub has_seen_link : Step Call → Me Call View → ℕ → Me Call View → Type 0
has_seen_link step before found after = after ≡ (linking before.0 step.word (link_in found), before.1)

-- By adding to that word, where the seat knows what link it has: so the count stays, whoever has changed it meanwhile.
abbrev pub has_linked : Step Call → Me Call View → ℕ → Me Call View → Type 0
has_linked step before found after =
    ((old : ℕ) → Contains before.0.links (step.word, old) → link_in found ≡ old) × (after ≡ (linking before.0 step.word (link_in ((found + step.first) % 2 ^ 64)), before.1))
