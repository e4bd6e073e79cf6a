-- A step that commits a main node, by its line; and what becomes of the node.
use Rattle.std.proofs.Common.{◌≡◌, ℕ, Option, Some, None, option_map, refl, sym, ap, ◌∙◌}
use Rattle.std.proofs.lemmas.Option.{none-some, same_Some}
use Rattle.proof_order.specs.Beneath.slot_arena.specs.declared.nodes.Prev.TheVariants as prev
use Rattle.proof_order.specs.Vocabulary.{Slot, Ref, Heap, prev_of, Action, Line, Operation, ReadLine, SwapLine, CompleteLine, Descriptor, RootLine, State, Verdict, Commits, Fails, Overtaken}
use Rattle.proof_order.specs.Vocabulary.{verdict, read_action, committed_by, committed_so, complete_action_at, root_action, action_at, line_action, read_of, completing_read, rooting_read}
use Rattle.proof_order.specs.Vocabulary.{swapping_read, committed_in}
use Rattle.proof_order.specs.Beneath.machine_model.specs.declared.actions.Action.TheVariants as act
use Rattle.proof_order.specs.Beneath.machine_model.specs.declared.copying.CopyLine.TheVariants as copy
use Rattle.proof_order.specs.Beneath.machine_model.specs.declared.finding.KeyLine.TheVariants as key
use Rattle.proof_order.specs.Beneath.machine_model.specs.declared.lines.Line.TheVariants as line
use Rattle.proof_order.specs.Beneath.machine_model.specs.declared.reading.ReadLine.TheVariants as read
use Rattle.proof_order.specs.Beneath.machine_model.specs.declared.reading.SwapLine.TheVariants as swap
use Rattle.proof_order.specs.Beneath.machine_model.specs.declared.repairs.CleanLine.TheVariants as clean
use Rattle.proof_order.specs.Beneath.machine_model.specs.declared.repairs.ClimbLine.TheVariants as climb
use Rattle.proof_order.specs.Beneath.machine_model.specs.declared.repairs.RenewLine.TheVariants as renew
use Rattle.proof_order.specs.Beneath.machine_model.specs.declared.roots.CompleteLine.TheVariants as complete
use Rattle.proof_order.specs.Beneath.machine_model.specs.declared.roots.RootLine.TheVariants as root
use Rattle.proof_order.specs.Beneath.machine_model.specs.declared.walking.WalkLine.TheVariants as walk

-- ---- by its line

-- the action decides this main node, and commits it
pub record Decides (heap : Heap) (action : Action) (main : Ref) : Type 0 where
  pub indirection : Ref
  pub previous : Ref
  pub told : Option ℕ
  pub is_it : action ≡ act.Decide indirection main previous told
  pub commits : verdict heap indirection main previous told ≡ Commits

module _ (state : State) (operation : Operation) (main : Ref) where
  read_decides : (i : Ref) (x : ReadLine) → committed_by state.heap i x ≡ Some main → Decides state.heap (read_action i x) main
  read_decides i (read.Decide m p told) e = by (verdict state.heap i m p told) refl e
    where
      by : (v : Verdict) → verdict state.heap i m p told ≡ v → committed_so m v ≡ Some main → Decides state.heap (act.Decide i m p told) main
      by Commits is c =
          let same : m ≡ main = same_Some _ _ c in
          record {
            indirection = i;
            previous = p;
            told = told;
            is_it = ap (λ x. act.Decide i x p told) same;
            commits = ap (λ x. verdict state.heap i x p told) (sym same) ∙ is;
          }
      by Fails is c = absurd (none-some main c)
      by (Overtaken licensed) is c = absurd (none-some main c)
  read_decides i x e = absurd (none-some main e)

  complete_decides : (offer : Descriptor) (x : CompleteLine) → committed_in state (completing_read offer x) ≡ Some main → Decides state.heap (complete_action_at offer x) main
  complete_decides offer (complete.Reading x) e = read_decides offer.root x e
  complete_decides offer (complete.Swap m) e = absurd (none-some main e)

  root_decides : (l : RootLine) → committed_in state (rooting_read l) ≡ Some main → Decides state.heap (root_action l) main
  root_decides root.Read e = absurd (none-some main e)
  root_decides (root.Completing c) e = complete_decides c.offer c.line e

  swap_decides : (i a f : Ref) (x : SwapLine) → committed_in state (swapping_read i x) ≡ Some main → Decides state.heap (action_at i a f x) main
  swap_decides i a f (swap.Deciding x) e = read_decides i x e
  swap_decides i a f x e = absurd (none-some main e)

  -- a step that commits a main node decides it
  pub line_decides : (l : Line) → committed_in state (read_of l) ≡ Some main → Decides state.heap (line_action state operation l) main
  line_decides (line.Root l) e = root_decides l e
  line_decides (line.Key (key.Read path r)) e = read_decides r.indirection r.line e
  line_decides (line.Key l) e = absurd (none-some main e)
  line_decides (line.Build l) e = absurd (none-some main e)
  line_decides (line.Swap why s) e = swap_decides s.indirection s.replaced s.fresh s.line e
  line_decides (line.Renew (renew.Read path m done r)) e = read_decides r.indirection r.line e
  line_decides (line.Renew l) e = absurd (none-some main e)
  line_decides (line.Clean (clean.Read path r)) e = read_decides r.indirection r.line e
  line_decides (line.Clean (clean.Child path m done r)) e = read_decides r.indirection r.line e
  line_decides (line.Clean l) e = absurd (none-some main e)
  line_decides (line.Climb (climb.Read c r)) e = read_decides r.indirection r.line e
  line_decides (line.Climb (climb.Root c l)) e = root_decides l e
  line_decides (line.Climb l) e = absurd (none-some main e)
  line_decides (line.Copy (copy.Read at r)) e = read_decides r.indirection r.line e
  line_decides (line.Copy (copy.Complete c)) e = complete_decides c.offer c.line e
  line_decides (line.Copy l) e = absurd (none-some main e)
  line_decides (line.Walk (walk.Read r todo pairs)) e = read_decides r.indirection r.line e
  line_decides (line.Walk l) e = absurd (none-some main e)
  line_decides (line.End answer) e = absurd (none-some main e)
  line_decides line.Impossible e = absurd (none-some main e)

-- ---- what it commits was pending

-- and is decided then
pub now_none : (o : Option Slot) → prev_of (option_map (λ (slot : Slot). record slot { prev = prev.None }) o) ≡ prev.None
now_none None = refl
now_none (Some slot) = refl
