use Rattle.std.proofs.Common.{◌≡◌, ℕ, length, Some, slice_get}
use Rattle.std.specs.Option.{option_copied}
use Rattle.history_scene.specs.declared.scenes.Bar.{Bar}
use Rattle.history_scene.specs.Scenes.{IsBar}
use Rattle.history_scene.proofs.bars.bars_of.Given as goal

abbrev pub invariant-loop-id : goal.invariant-loop-id
invariant-loop-id l =
    (length l.bars.items ≡ l.id)
    × ((id : ℕ) (bar : Bar) → slice_get l.bars.items id ≡ Some bar → IsBar l.events l.order (option_copied l.fault) id bar)
