-- What the parts of a machine keep, beside the state that they hold, between steps and in the midst of one.
use Rattle.std.specs.Prelude.{◌≡◌, ℕ, ◌+◌, List, [], length, slice_get, slice_set, slice_index_or, Some, None}
use Rattle.machine_core.specs.Vocabulary.{HashKind, Operation, Descriptor, Offer, State, handle_limit, operation_of, Table, word_in, IsSound, IsOfRun, KnowsNumbers}
use Rattle.machine_core.specs.declared.parts.Actor.{Actor}
use Rattle.machine_core.specs.declared.parts.Parts.{Parts}
use Rattle.machine_core.specs.declared.parts.UnderWay.{UnderWay}
use Rattle.machine_core.specs.Seen.{seen}
use Rattle.machine_core.specs.Ties.{IsTied}

-- ---- actors

-- the actor with this index, in a machine whose keys have these hashes
pub record IsSeated (hashes : HashKind) (i : ℕ) (actor : Actor) : Type 0 where
  pub hashes_are : actor.programs.key.task.hashes ≡ hashes
  pub number : (u : UnderWay) → actor.under_way ≡ Some u → u.job.actor ≡ i + 1
  pub sound : (u : UnderWay) → actor.under_way ≡ Some u → IsSound u.program actor.programs
  -- where none is under way, nothing is left of the last one
  pub idle : actor.under_way ≡ None → actor.programs.key.work.private ≡ []

abbrev pub AreSeated : HashKind → List Actor → Type 0
AreSeated hashes actors = (i : ℕ) (actor : Actor) → slice_get actors i ≡ Some actor → IsSeated hashes i actor

-- one of the actors gave way to another, of which this is so
pub record Replaces (before : List Actor) (i : ℕ) (P : Actor → Actor → Type 0) (after : List Actor) : Type 0 where
  pub was : Actor
  pub is : Actor
  pub found : slice_get before i ≡ Some was
  pub set : after ≡ slice_set before i is
  pub does : P was is

-- ---- root words

-- of each offer that stands it is known which actor made it, if that one still runs
abbrev pub KnowsOfferers : Table → State → Type 0
KnowsOfferers table state =
    (handle : ℕ) (offer : Descriptor) → word_in table handle ≡ Offer offer → (actor : ℕ) (operation : Operation) →
    operation_of state actor ≡ Some operation → operation.id ≡ offer.operation → slice_index_or table.offerers handle 0 ≡ actor

-- the table is one of a machine with so many actors, and no offer was carried out of which nothing was told
pub record IsNoted (table : Table) (actors : ℕ) : Type 0 where
  pub marks : length table.marks ≡ actors + 1
  pub offerers : length table.offerers ≡ handle_limit
  pub carried : table.carried ≡ None

-- ---- all

pub record IsKept (parts : Parts) : Type 0 where
  pub tied : IsTied parts.heap (seen parts).roots (seen parts).actors
  pub seats : AreSeated parts.limits.hash parts.actors.items
  pub noted : IsNoted parts.table parts.limits.actors
  pub offerers : KnowsOfferers parts.table (seen parts)
  pub numbers : KnowsNumbers parts.handles (seen parts)

-- the parts of a core between two steps: a run leads to their state, all is kept, and nothing is left to settle
pub record IsCore (parts : Parts) : Type 0 where
  pub run : IsOfRun (seen parts)
  pub kept : IsKept parts
  pub settled : parts.heap.noted ≡ []
