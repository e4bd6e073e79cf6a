-- The offer that an action carries out.
use Rattle.std.specs.Prelude.{Option, Some, None, if◌then◌else◌}
use Rattle.running.specs.Vocabulary.{Heap, generation_at, Action, Carried, Descriptor, RootWord, is_carried_out}
use Rattle.running.specs.Beneath.machine_model.specs.declared.actions.Action.TheVariants as act

-- the offer that the action carries out on a handle with this root word, if it does
abbrev pub carried_offer : RootWord → Action → Option Descriptor
carried_offer word (act.Complete offer main) = if is_carried_out word offer main then Some offer else None
carried_offer word action = None

-- what is told of an offer that was carried out
abbrev pub carried_of : Heap → Descriptor → Carried
carried_of heap offer = record { generation = generation_at heap offer.root; operation = offer.operation }
