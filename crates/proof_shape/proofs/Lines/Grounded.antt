-- Lines that climb from nothing; and what is known of a tomb stays known.
use Rattle.std.proofs.Common.{◌≡◌, ℕ, suc, true, sym}
use Rattle.std.proofs.lemmas.Bool.{true≢false}
use Rattle.proof_shape.specs.Vocabulary.{Call, Ref, Line, ClimbLine, State, current, Known}
use Rattle.proof_shape.specs.Beneath.machine_model.specs.declared.lines.Line.TheVariants as line
use Rattle.proof_shape.specs.Beneath.machine_model.specs.declared.lines.Purpose.TheVariants as purpose
use Rattle.proof_shape.specs.Beneath.machine_model.specs.declared.repairs.ClimbLine.TheVariants as climb
use Rattle.proof_shape.specs.Lines.Given.{Was}
use Rattle.proof_shape.specs.Lines.Climbing.{WasTombed, KnowsClimb, KnowsClimbing}
use Rattle.proof_shape.proofs.Commits.Was.{was_later}
use Rattle.proof_shape.proofs.Lines.Leads.{is_grounded}

-- ---- lines that climb from nothing

pub grounded_knows : (k : Known) (W : Ref → Ref → Type 0) (call : Call) (l : Line) → is_grounded l ≡ true → KnowsClimbing k W call l
grounded_knows k W call (line.Climb l) e = absurd (true≢false (sym e))
grounded_knows k W call (line.Swap (purpose.Climb c) s) e = absurd (true≢false (sym e))
grounded_knows k W call (line.Swap (purpose.Update path former) s) e = tt
grounded_knows k W call (line.Swap (purpose.Renew path) s) e = tt
grounded_knows k W call (line.Swap purpose.Clean s) e = tt
grounded_knows k W call (line.Root l) e = tt
grounded_knows k W call (line.Key l) e = tt
grounded_knows k W call (line.Build l) e = tt
grounded_knows k W call (line.Renew l) e = tt
grounded_knows k W call (line.Clean l) e = tt
grounded_knows k W call (line.Copy l) e = tt
grounded_knows k W call (line.Walk l) e = tt
grounded_knows k W call (line.End answer) e = tt
grounded_knows k W call line.Impossible e = tt

-- ---- what once was the main node was so

module _ (k : Known) (states : ℕ → State) (last t : ℕ) where
  tombed_later : (i single : Ref) → WasTombed k (Was states last t) i single → WasTombed k (Was states last (suc t)) i single
  tombed_later i single x = record { generation = x.generation; word = x.word; link = x.link; tomb = x.tomb; was = was_later states last t i x.tomb x.was; is = x.is }

  climb_later : (call : Call) (l : ClimbLine) → KnowsClimb k (Was states last t) call l → KnowsClimb k (Was states last (suc t)) call l
  climb_later call (climb.Read c read) x = tombed_later (current c.path) c.single x
  climb_later call (climb.Main c main) x = tombed_later (current c.path) c.single x
  climb_later call (climb.Contracted c main) (x, holds) = (tombed_later (current c.path) c.single x, holds)
  climb_later call (climb.Root c root) x = tombed_later (current c.path) c.single x

  pub climbing_later : (call : Call) (l : Line) → KnowsClimbing k (Was states last t) call l → KnowsClimbing k (Was states last (suc t)) call l
  climbing_later call (line.Climb l) x = climb_later call l x
  climbing_later call (line.Swap (purpose.Climb c) s) x = record { tombed = tombed_later (current c.path) c.single x.tombed; parent = x.parent; may_entomb = x.may_entomb; made = x.made }
  climbing_later call (line.Swap (purpose.Update path former) s) x = tt
  climbing_later call (line.Swap (purpose.Renew path) s) x = tt
  climbing_later call (line.Swap purpose.Clean s) x = tt
  climbing_later call (line.Root l) x = tt
  climbing_later call (line.Key l) x = tt
  climbing_later call (line.Build l) x = tt
  climbing_later call (line.Renew l) x = tt
  climbing_later call (line.Clean l) x = tt
  climbing_later call (line.Copy l) x = tt
  climbing_later call (line.Walk l) x = tt
  climbing_later call (line.End answer) x = tt
  climbing_later call line.Impossible x = tt
