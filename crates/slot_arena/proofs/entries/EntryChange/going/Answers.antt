use Rattle.std.proofs.Common.{◌≡◌, ◌+◌, ◌<◌, ℕ, List, [], ◌∷◌, length, remove, set, sym, subst, arith}
use Rattle.std.proofs.lemmas.List.Sums.{sum_by-cons, sum_by-remove, sum_by-set}
use Rattle.slot_arena.specs.declared.refs.Ref.{Ref}
use Rattle.slot_arena.specs.declared.entries.EntryChange.{EntryChange}
use Rattle.slot_arena.specs.Entries.{Fits, coming, entries_after}
use Rattle.slot_arena.specs.Heaps.{no_ref}
use Rattle.slot_arena.specs.Tallies.{naming}
use Rattle.slot_arena.proofs.Namings.{names}
use Rattle.slot_arena.proofs.entries.EntryChange.going.Goals as goal

-- an entry that is set stands in the place of one that goes
set_counted : (entries : List Ref) (position : ℕ) (entry : Ref) (slot : ℕ) → position < length entries →
    naming slot (remove entries position) + naming slot (entry ∷ []) ≡ naming slot (set entries position entry)
set_counted entries position entry slot within =
    omega (arith, sum_by-remove (names slot) entries position no_ref within, sum_by-set (names slot) entries position entry no_ref within, sum_by-cons (names slot) entry [])

pub returns-in-Set-clause-counted : goal.returns-in-Set-clause-counted
returns-in-Set-clause-counted c slot =
    subst (λ (change : EntryChange). naming slot (remove c.args.entries.now c.in-Set.position) + naming slot (coming change) ≡ naming slot (entries_after change c.args.entries.now)) (sym c.in-Set.is)
    (set_counted c.args.entries.now c.in-Set.position c.in-Set.entry slot (subst (λ (change : EntryChange). Fits change c.args.entries.now) c.in-Set.is c.requires))
