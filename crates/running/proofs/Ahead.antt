-- What an operation is about to swap in.
use Rattle.std.specs.Prelude.{◌≡◌, ℕ, Option, Some, None, refl}
use Rattle.std.proofs.Common.{sym, ◌∙◌}
use Rattle.running.specs.Vocabulary.{Ref, Line, Operation, ReadLine, SwapLine, Entrant, Publication, changer_for, published_at, published_by, swapping_at, with_read, Asking, Unasked, Met}
use Rattle.running.specs.Beneath.machine_model.specs.declared.lines.Line.TheVariants as line
use Rattle.running.specs.Beneath.machine_model.specs.declared.reading.SwapLine.TheVariants as swap
use Rattle.running.specs.Beneath.root_asking.specs.declared.asking.Asking.TheVariants.{Told}
use Rattle.running.specs.declared.job.Program.{Program}
use Rattle.running.specs.declared.programs.Programs.{Programs}
use Rattle.running.specs.declared.programs.ProgramAt.{ProgramAt}
use Rattle.running.specs.Places.{asking_line, met_at, program_line_at}
use Rattle.running.proofs.Giving.{SwapsNone}

-- a program that swaps no main node of its own swaps in none
pub publishes_nothing : (operation : Operation) (l : Line) → SwapsNone l → published_by operation l ≡ None
publishes_nothing operation (line.Swap why s) own = absurd own
publishes_nothing operation l own = refl

-- the line on which its READ stands doesn't matter to that
publishes_still : (here : ReadLine) (changer : Option Entrant) (main : Ref) (l : SwapLine) → published_at changer main (swapping_at here l) ≡ published_at changer main l
publishes_still here changer main swap.Publish = refl
publishes_still here changer main (swap.Deciding l) = refl
publishes_still here changer main swap.Check = refl

same_publication : (here : ReadLine) (operation : Operation) (l : Line) → published_by operation (with_read here l) ≡ published_by operation l
same_publication here operation (line.Swap why s) = publishes_still here (changer_for operation why) s.fresh s.line
same_publication here operation l = refl

-- so it is whatever is asked
pub publishes_so : (p : Programs) (program : Program) (at : ProgramAt) (asking : Asking) (operation : Operation) (published : Option Publication) →
    ((told : Option ℕ) → published_by operation (program_line_at p told program at) ≡ published) → published ≡ published_by operation (asking_line p program at asking)
publishes_so p program at Unasked operation published is = sym (is None)
publishes_so p program at (Met offer) operation published is =
    sym (same_publication (met_at p.key.work.swap.read.at offer) operation (program_line_at p None program at) ∙ is None)
publishes_so p program at (Told generation) operation published is = sym (is (Some generation))
