-- The references that count, and what every step does at its end.
use Rattle.std.specs.Prelude.{◌+◌, List, [], ◌∷◌, ◌++◌, flat_map, Option, Some, None}
use Rattle.machine_model.specs.Beneath.slot_arena.specs.declared.refs.Ref.{Ref}
use Rattle.machine_model.specs.Beneath.slot_arena.specs.Heaps.{refs_of_option}
use Rattle.epochs.specs.Limbo.{limbo_after}
use Rattle.machine_model.specs.declared.operations.Operation.{Operation}
use Rattle.machine_model.specs.declared.roots.Root.{Root}
use Rattle.machine_model.specs.declared.roots.RootWord.{RootWord}
use Rattle.machine_model.specs.declared.roots.RootWord.TheVariants.{Plain, Offer}
use Rattle.machine_model.specs.States.{State}

-- the references that stand in a root word
abbrev pub refs_of_word : RootWord → List Ref
refs_of_word (Plain root) = root ∷ []
refs_of_word (Offer offer) = offer.root ∷ offer.expected ∷ offer.successor ∷ refs_of_option offer.second

abbrev pub refs_of_root : Option Root → List Ref
refs_of_root None = []
refs_of_root (Some root) = refs_of_word root.word

abbrev pub refs_of_operation : Option Operation → List Ref
refs_of_operation None = []
refs_of_operation (Some operation) = operation.private

-- the references that are held from outside the slots: those in root words and in the private lists of running operations
abbrev pub outside : State → List Ref
outside state = flat_map refs_of_root state.roots ++ flat_map refs_of_operation state.actors

-- what every step does at its end: limbo is brought up to date, and the step is counted
abbrev pub settled : State → State → State
settled before after =
    record after { limbo = limbo_after after.heap (outside after) after.epoch before.limbo; steps = before.steps + 1 }
