-- A fresh main node is swapped in, or all that was made for it is given up: what the exchange asks and tells.
use Rattle.history.specs.declared.calls.Call.{Call}
use Rattle.std.specs.Prelude.{◌≡◌, ℕ, ◌==◌, Bool, true, false}
use Rattle.atomic_table.specs.Table.{Me, Step}
use Rattle.trie_words.specs.declared.links.Link.{Link}
use Rattle.machine_model.specs.Beneath.slot_arena.specs.declared.refs.Ref.{Ref}
use Rattle.machine_model.specs.Beneath.slot_arena.specs.Heaps.{main_at}
use Rattle.machine_model.specs.declared.actions.Action.TheVariants as act
use Rattle.lock_free.specs.declared.accounts.Account.{Account}
use Rattle.lock_free.specs.declared.rules.View.{View}
use Rattle.lock_free.specs.Accounts.{place_of}
use Rattle.lock_free.specs.Exchanging.{IsLinkTo}
use Rattle.lock_free.specs.GivingUp.{given_up, HasDropped}
use Rattle.lock_free.specs.Loading.{Moment, now, seen, IsAt, IsSound, Waited, Took}
use Rattle.lock_free.specs.Owing.{owes_then, owing}
use Rattle.lock_free.specs.Places.{words_of}
use Rattle.lock_free.specs.Publishing.{swapped_in}

abbrev pub IsAtPublish : View → ℕ → Link → ℕ → Type 0
IsAtPublish v name link fresh =
    (i : Ref) × (replaced : Ref) × (made : Ref) × IsAt v (act.Publish i replaced made) × (place_of v.account i ≡ name) × IsLinkTo v i replaced link × (place_of v.account made ≡ fresh)

-- what the exchange left, where the replaced one was found, and where it wasn't
abbrev pub HasSwapped : View → Account → Bool → View → Type 0
HasSwapped before account stood after = (i replaced made : Ref) (p : IsAt before (act.Publish i replaced made)) →
    ((main_at (now (seen before account)).heap i == replaced) ≡ stood)
    × (stood ≡ true → after ≡ owing (seen before (swapped_in before.actor i made account)) (owes_then before account))
    × (stood ≡ false → (after ≡ given_up before account p.operation.private after.drafts) × HasDropped (seen before account) p.operation.private p.operation.line after)

abbrev pub HasPublished : View → Bool → View → Type 0
HasPublished before stood after = (account : Account) × Waited before account × Took before account after × HasSwapped before account stood after

abbrev pub has_published : Step Call → Me Call View → ℕ → Me Call View → Type 0
has_published step before found after =
    ((m : Moment before.0 step.word found) × Took before.0 m.kept.account after.0 × HasSwapped before.0 m.kept.account (found == step.first) after.0) × IsSound (words_of before.0.sizes) after.0 ×
    (after.1 ≡ before.1)
