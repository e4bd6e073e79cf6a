-- Whose changes main nodes are that were to be swapped in.
use Rattle.std.specs.Prelude.{◌≡◌, ℕ, ◌==◌, ◌≤◌, List, Option, None, All, find, option_and_then, slice_index_or, if◌then◌else◌}
use Rattle.slot_arena.specs.declared.refs.Ref.{Ref}
use Rattle.slot_arena.specs.Refs.{slot_of}
use Rattle.machine_model.specs.declared.records.Entrant.{Entrant}
use Rattle.machine_model.specs.declared.records.Publication.{Publication}

-- what a caller sees: the publications, the latest first, and for how many slots there is room
pub record Published : Type 0 where
  pub published : List Publication
  pub slots : ℕ

-- whose change the node is, by the latest of these publications that is of it
abbrev pub changer_in : List Publication → Ref → Option Entrant
changer_in published main = option_and_then (λ p. p.changer) (find (λ p. p.main == main) published)

-- no node that was published in the same slot is newer
abbrev pub IsNewestPublished : List Publication → Ref → Type 0
IsNewestPublished published main = All (λ p. slot_of p.main ≡ slot_of main → p.main ≤ main) published

-- no publication
abbrev pub no_publication : Publication
no_publication = record { main = 0; changer = None }

-- what is kept of a slot
abbrev pub last_of : List Publication → ℕ → Publication
last_of latest slot = slice_index_or latest slot no_publication

-- whose change it is by what is kept, if that is of the node
abbrev pub changer_for : Publication → Ref → Option Entrant
changer_for publication main = if publication.main == main then publication.changer else None

-- what is kept of a slot says whose change the newest node is that was published there, and that any later one wasn't
abbrev pub AreLast : List Publication → List Publication → Type 0
AreLast latest published = (main : Ref) → IsNewestPublished published main → changer_for (last_of latest (slot_of main)) main ≡ changer_in published main
