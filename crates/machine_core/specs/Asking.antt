-- The steps that programs ask for, as the definition's.
use Rattle.std.specs.Prelude.{None, List, map}
use Rattle.machine_core.specs.declared.asked.Step.{Step}
use Rattle.machine_core.specs.declared.asked.Step.TheVariants.{Begin, Go, Sweep}
use Rattle.machine_core.specs.Vocabulary.{Step as AnyStep}
use Rattle.machine_model.specs.declared.steps.Step.TheVariants as any

abbrev pub asked : Step → AnyStep
asked (Begin actor call) = any.Begin actor call None
asked (Go actor) = any.Go actor
asked Sweep = any.Sweep

abbrev pub asked_all : List Step → List AnyStep
asked_all steps = map asked steps
