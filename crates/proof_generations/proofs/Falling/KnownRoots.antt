-- What the laws of roots give to the laws of deciding: a root word that a READ finds with no offer shows an open generation. So the words of a run are known,
-- with the steps that close generations.
use Rattle.std.proofs.Common.{◌≡◌, ℕ, false, Some, refl, arith}
use Rattle.std.proofs.lemmas.Option.{none-some}
use Rattle.proof_generations.specs.Vocabulary.{Line, Read, Bounds, State, read_of, IsRun, closed_at, Record, is_end, Words, Protocol, words_of}
use Rattle.proof_generations.specs.Beneath.machine_model.specs.declared.lines.Line.TheVariants as line
use Rattle.proof_generations.specs.Beneath.machine_model.proofs.Times.{run_is}
use Rattle.proof_generations.proofs.Roots.Open.{open_root}
use Rattle.proof_commits.proofs.Known.Given.{RootsAreOpen, Known}
use Rattle.proof_commits.proofs.Known.Acts.{known_by}
use Rattle.proof_commits.proofs.Words.Along.{protocol}
use Rattle.proof_commits.proofs.Course.OfLists.{RootsOfRuns}

-- who is in a READ isn't at the end
pub reads_on : (l : Line) (r : Read) → read_of l ≡ Some r → is_end l ≡ false
reads_on (line.End answer) r e = absurd (none-some r e)
reads_on l r e = refl

pub roots_are_open : {limits : Bounds} {states : ℕ → State} {last : ℕ} (run : IsRun limits states last) → RootsAreOpen states last (λ g. closed_at (run.records last) g)
roots_are_open {limits} {states} {last} run t h actor operation is i main previous reads writable q word c closed =
    open_root run t (omega arith) actor operation is (reads_on operation.line _ reads) writable q word c closed

pub roots_of_runs : RootsOfRuns
roots_of_runs limits steps ok = roots_are_open (run_is limits steps ok)

-- the words of a run with the closings, and their protocol
abbrev pub known : {limits : Bounds} {states : ℕ → State} {last : ℕ} → IsRun limits states last → Known limits states last
known {limits} {states} {last} run = known_by run (λ g. closed_at (run.records last) g) (roots_are_open run)

abbrev pub words : (ℕ → State) → (ℕ → Record) → ℕ → Words
words states records last = words_of states records last (λ g. closed_at (records last) g)

abbrev pub protocol_of : {limits : Bounds} {states : ℕ → State} {last : ℕ} → IsRun limits states last → Protocol
protocol_of {limits} {states} {last} run = protocol limits states last (known run)
