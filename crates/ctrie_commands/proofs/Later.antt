-- What was so on the way to a board was so on the way to a later one.
use Rattle.std.proofs.Common.{◌≡◌, List, ◌∙◌}
use Rattle.std.specs.Prelude.{All}
use Rattle.std.proofs.lemmas.List.Elements.{All-weaker}
use Rattle.ctrie_commands.specs.Beneath.proof_runs.specs.Machines.{Taken}
use Rattle.lock_runner.specs.Boards.{GoesOn}
use Rattle.lock_runner.proofs.Boards.{goes_on_more}
use Rattle.ctrie_commands.specs.Working.{OnTheWay}

pub on_the_way_later : (IsSo : Taken → Type 0) (seen board : Taken) → board.limits ≡ seen.limits → GoesOn seen.steps board.steps → OnTheWay IsSo seen → OnTheWay IsSo board
on_the_way_later IsSo seen board limits on was = (was.0, limits ∙ was.1, goes_on_more was.0.steps seen.steps board.steps was.2 on, was.3)

pub all_later : {A : Type 0} (IsSo : A → Taken → Type 0) (xs : List A) (seen board : Taken) → board.limits ≡ seen.limits → GoesOn seen.steps board.steps →
    All (λ x. OnTheWay (IsSo x) seen) xs → All (λ x. OnTheWay (IsSo x) board) xs
all_later IsSo xs seen board limits on all =
    All-weaker (λ x. OnTheWay (IsSo x) seen) (λ x. OnTheWay (IsSo x) board) (λ x was. on_the_way_later (IsSo x) seen board limits on was) xs all
