-- An operation on a line, whichever program it belongs to.
use Rattle.std.specs.Prelude.{◌≡◌}
use Rattle.machine_model.specs.declared.lines.Line.{Line}
use Rattle.machine_model.specs.declared.operations.Operation.{Operation}
use Rattle.lock_free.specs.declared.rules.View.{View}
use Rattle.lock_free.specs.GoingDown.{HasMoved}
use Rattle.lock_free.specs.Loading.{Runs}

-- the operation that runs is on this line
abbrev pub IsOn : View → Line → Type 0
IsOn v l = (operation : Operation) × Runs v operation × (operation.line ≡ l)

-- it has come to this line
abbrev pub HasComeTo : Line → View → View → Type 0
HasComeTo l v w = HasMoved (λ operation. l) v w
