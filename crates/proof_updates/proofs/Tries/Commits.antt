-- What is known of a node that its owner commits: what a repair was given, at which depth a change is swapped in; and that keys have 64 bits.
use Rattle.std.specs.Prelude.{ℕ, suc, ◌<◌, ◌≤◌, ◌^◌}
use Rattle.std.proofs.Common.{ap, arith, ◌∙◌}
use Rattle.proof_updates.specs.Vocabulary.{Ref, Purpose, Operation, Deciding, Bounds, Step, key_of, State, node_under, IsRun, IsRepaired, GaveBelow, KnowsFresh}
use Rattle.proof_updates.specs.Vocabulary.{assigned_at, WasGiven, depth_of_run, TakesSteps, StepsFit}
use Rattle.proof_updates.specs.Beneath.machine_model.specs.declared.lines.Line.TheVariants as line
use Rattle.proof_updates.specs.Beneath.machine_model.specs.declared.lines.Purpose.TheVariants as purpose
use Rattle.proof_updates.specs.Beneath.machine_model.specs.declared.reading.SwapLine.TheVariants as swap
use Rattle.proof_order.specs.Facts.{Runs}
use Rattle.proof_shape.proofs.Lines.RepairMore.{repair_more}
use Rattle.proof_shape.proofs.Commits.Was.{given_below}
use Rattle.proof_shape.proofs.Sites.At.{lines_have_sites, updates_have_sites}
use Rattle.proof_updates.specs.Commits.{IsRepairing, RepairsAreKnown, SitesOfUpdates}

-- ---- repairs

module _ {limits : Bounds} {states : ℕ → State} {last : ℕ} (run : IsRun limits states last) where
  pub repairs_are_known : RepairsAreKnown limits states run.records last
  repairs_are_known t s within own repairing = by own.why repairing own.knows
    where
      more : (i m : Ref) → GaveBelow states run.records last t own.actor own.owner.id own.start i m → WasGiven states last own.start t i m
      more i m g = given_below run t own.actor own.owner.id own.start i m (omega (arith, within)) g

      by : (why : Purpose) → IsRepairing why → KnowsFresh limits states run.records last (assigned_at states last) t own.actor own.start own.owner own.replaced own.fresh why →
          IsRepaired (node_under states last) (assigned_at states last own.start t) (WasGiven states last own.start t) own.start own.replaced own.fresh
      by (purpose.Renew path) r k =
          repair_more (node_under states last) (assigned_at states last own.start t) (GaveBelow states run.records last t own.actor own.owner.id own.start)
          (WasGiven states last own.start t) more own.start
          (line.Swap (purpose.Renew path) (record { indirection = own.indirection; replaced = own.replaced; fresh = own.fresh; line = swap.Check })) k
      by purpose.Clean r k =
          repair_more (node_under states last) (assigned_at states last own.start t) (GaveBelow states run.records last t own.actor own.owner.id own.start)
          (WasGiven states last own.start t) more own.start
          (line.Swap purpose.Clean (record { indirection = own.indirection; replaced = own.replaced; fresh = own.fresh; line = swap.Check })) k
      by (purpose.Update path former) r k = absurd r
      by (purpose.Climb c) r k = absurd r

  -- ---- sites

  module _ (steps : ℕ → Step) (takes : TakesSteps states steps last) (keys : StepsFit steps last) where
    pub sites_of_updates : SitesOfUpdates limits states run.records last (depth_of_run states steps last)
    sites_of_updates t s within own path former why =
        let site = updates_have_sites steps run takes keys t (omega (arith, within)) own.actor own.owner own.runs path former
        (record { indirection = own.indirection; replaced = own.replaced; fresh = own.fresh; line = Deciding own.deciding })
        (own.swaps ∙ ap (λ w. line.Swap w (record { indirection = own.indirection; replaced = own.replaced; fresh = own.fresh; line = Deciding own.deciding })) why) in
        (site.1, omega (arith, site.1, site.2))

    pub keys_of_operations : (t : ℕ) → t ≤ last → (k : ℕ) (operation : Operation) → Runs (states t) k operation → key_of operation.call < 2 ^ 64
    keys_of_operations t within k operation runs = (lines_have_sites steps run takes keys t within (suc k) operation runs).2
