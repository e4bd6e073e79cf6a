-- Keys have 64 bits: so has each key of a call in the program, and the laws of the trie's shape need it.
use Rattle.std.specs.Prelude.{◌<◌, ◌^◌, List, All}
use Rattle.machine_model.specs.declared.steps.Step.{Step}
use Rattle.machine_model.specs.declared.steps.Step.TheVariants.{Begin}
use Rattle.machine_model.specs.Calls.{key_of}

abbrev pub FitsKey : Step → Type 0
FitsKey (Begin actor call number) = key_of call < 2 ^ 64
FitsKey step = Unit {0}

abbrev pub KeysFit : List Step → Type 0
KeysFit steps = All FitsKey steps
