-- Where an operation ends next.
use Rattle.std.specs.Prelude.{◌≡◌, ℕ, List, Option, Some, None, refl}
use Rattle.std.proofs.Common.{◌∙◌}
use Rattle.running.specs.Vocabulary.{Reply, Ref, Line, ReadLine, with_read, Asking, Unasked, Met, CopyAt, WalkAt, copy_line_at, walk_line_at, answer_of}
use Rattle.running.specs.Beneath.machine_model.specs.declared.lines.Line.TheVariants as line
use Rattle.running.specs.Beneath.gcas.specs.declared.read.Read.{Read}
use Rattle.running.specs.Beneath.root_asking.specs.declared.asking.Asking.TheVariants.{Told}
use Rattle.snapshot.specs.declared.copy_op.Making.TheVariants as making
use Rattle.snapshot.specs.declared.copy_op.CopyAt.TheVariants as at
use Rattle.snapshot.specs.declared.walk.WalkAt.TheVariants as walk
use Rattle.running.specs.declared.job.Program.{Program}
use Rattle.running.specs.declared.programs.Programs.{Programs}
use Rattle.running.specs.declared.programs.ProgramAt.{ProgramAt}
use Rattle.running.specs.Places.{asking_line, met_at, program_line_at}

-- the line on which its READ stands doesn't matter to that
same_answer : (here : ReadLine) (l : Line) → answer_of (with_read here l) ≡ answer_of l
same_answer here (line.Root r) = refl
same_answer here (line.Key k) = refl
same_answer here (line.Build b) = refl
same_answer here (line.Swap why s) = refl
same_answer here (line.Renew r) = refl
same_answer here (line.Clean c) = refl
same_answer here (line.Climb c) = refl
same_answer here (line.Copy c) = refl
same_answer here (line.Walk w) = refl
same_answer here (line.End answer) = refl
same_answer here line.Impossible = refl

pub copy_goes_on : (r : Ref) (q : Read) (told : Option ℕ) (place : CopyAt) → answer_of (copy_line_at r q told place) ≡ None
copy_goes_on r q told (at.Root l) = refl
copy_goes_on r q told at.Read = refl
copy_goes_on r q told (at.Make (making.Successor main)) = refl
copy_goes_on r q told (at.Make (making.Second main successor)) = refl
copy_goes_on r q told (at.Make (making.Empty main)) = refl
copy_goes_on r q told (at.Make (making.Cleared main branch)) = refl
copy_goes_on r q told (at.Offer offer) = refl
copy_goes_on r q told (at.Complete c) = refl

pub walk_goes_on : (q : Read) (told : Option ℕ) (todo : List Ref) (pairs : List (ℕ × ℕ)) (place : WalkAt) → answer_of (walk_line_at q told todo pairs place) ≡ None
walk_goes_on q told todo pairs walk.Root = refl
walk_goes_on q told todo pairs walk.Read = refl
walk_goes_on q told todo pairs (walk.Main main) = refl
walk_goes_on q told todo pairs walk.Entry = refl

-- a line stays one of an end, or doesn't, whatever is asked
pub ends : (p : Programs) (program : Program) (at : ProgramAt) (asking : Asking) (answer : Option Reply) → ((told : Option ℕ) → answer_of (program_line_at p told program at) ≡ answer) →
    answer_of (asking_line p program at asking) ≡ answer
ends p program at Unasked answer is = is None
ends p program at (Met offer) answer is = same_answer (met_at p.key.work.swap.read.at offer) (program_line_at p None program at) ∙ is None
ends p program at (Told generation) answer is = is (Some generation)
