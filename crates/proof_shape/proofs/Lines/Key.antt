-- A step of KEY hands on what its line knows.
use Rattle.std.proofs.Common.{◌≡◌, ℕ, ◌-◌, ◌<◌, Some, refl, sym, ◌∙◌, ap, subst, arith}
use Rattle.std.proofs.lemmas.Option.{same_Some}
use Rattle.proof_shape.specs.Vocabulary.{Ref, Node, Heap, entry_at, KeyLine, Line, Operation, Bounds, State, key_after, line_action, node_under, IsRun, IsInUse, AMain, ABranch, listed, AllHold}
use Rattle.proof_shape.specs.Vocabulary.{line_wants, Known, KnowsKey, KnowsLine, main_of_key}
use Rattle.proof_shape.specs.Beneath.machine_model.specs.declared.actions.Action.TheVariants as act
use Rattle.proof_shape.specs.Beneath.machine_model.specs.declared.finding.KeyLine.TheVariants as key
use Rattle.proof_shape.specs.Beneath.machine_model.specs.declared.lines.Line.TheVariants as line
use Rattle.proof_shape.specs.Beneath.proof_memory.proofs.Safety.AtTimes.{line_at, limits_at}
use Rattle.proof_shape.specs.Beneath.proof_contents.proofs.Lines.Key.Knows.{known, Sees, SeesSingle, OnlyGets, position_in, key_knows}
use Rattle.proof_shape.specs.Beneath.proof_memory.proofs.Claims.Nodes.{branch_main}
use Rattle.proof_shape.specs.Beneath.proof_memory.proofs.Claims.Named.{main_claim}
use Rattle.proof_shape.specs.Lines.Knowing.{known_with, first_main}
use Rattle.proof_shape.proofs.Runs.EachAt.{GoesAt}
use Rattle.proof_shape.proofs.Lines.Places.{settled_at, FitsCall}
use Rattle.proof_shape.proofs.Runs.Seen.{listed_main, keyed_get, fits_at, sees, look_used, single_seen}

module _ {limits : Bounds} {states : ℕ → State} {last : ℕ} (run : IsRun limits states last) (t : ℕ) (h : t < last) (actor : ℕ) (operation : Operation)
    (go : GoesAt states run.records t actor operation) where
  abbrev heap : Heap
  heap = (states t).heap

  abbrev node : Ref → Node
  node = node_under states last

  abbrev first : Ref → Ref
  first = first_main states last

  -- the nodes that are known have the run's limits
  pub same_known : known (states t) operation (node_under states last) (first_main states last) ≡ known_with limits states last (first_main states last)
  same_known = ap (λ (l : Bounds). known_with l states last (first_main states last)) (limits_at run t (omega arith))

  pub claims : (l : Line) → operation.line ≡ l → AllHold (IsInUse (states t).heap) (states t).heap (line_wants limits.hash operation.call operation.access l)
  claims l e = subst (λ x. AllHold (IsInUse heap) heap (line_wants limits.hash operation.call operation.access x)) e (line_at run t (omega arith) actor operation go.runs)

  pub looks : (l : Line) → operation.line ≡ l → (r : Ref) → line_action (states t) operation l ≡ act.Look r → IsInUse (states t).heap r
  looks l e r a = look_used run t (omega arith) actor operation go.runs r (ap (line_action (states t) operation) e ∙ a)

  module _ (l : KeyLine) (e : operation.line ≡ line.Key l) where
    only_gets : OnlyGets (states t) operation node first
    only_gets a =
        keyed_get operation.call (subst (λ x. FitsCall operation.call x) e (settled_at run t (omega arith) actor operation go.runs).fits)
        (fits_at run t (omega arith) actor operation go.runs a)

    sees_by : (x : KeyLine) → operation.line ≡ line.Key x → (main : Ref) → main_of_key x ≡ Some main → Sees (states t) operation node first main
    sees_by (key.Read p read) e main is = let wrong : ⊥ = cc in absurd wrong
    sees_by (key.Main p m) e main is =
        subst (λ r. Sees (states t) operation node first r) (same_Some _ _ is) (sees run t (omega arith) operation m AMain (λ n x. x) (main_claim (claims _ e)))
    sees_by (key.Entry p m position) e main is =
        subst (λ r. Sees (states t) operation node first r) (same_Some _ _ is) (sees run t (omega arith) operation m ABranch branch_main (main_claim (claims _ e)))
    sees_by (key.Listed p m position) e main is =
        subst (λ r. Sees (states t) operation node first r) (same_Some _ _ is)
        (sees run t (omega arith) operation m (listed operation.access) (listed_main operation.access) (main_claim (claims _ e)))
    sees_by (key.Sibling p m position former) e main is =
        subst (λ r. Sees (states t) operation node first r) (same_Some _ _ is) (sees run t (omega arith) operation m ABranch branch_main (main_claim (claims _ e)))

    single_by : (x : KeyLine) → operation.line ≡ line.Key x → (main : Ref) (position : ℕ) → position_in (states t) operation node first x ≡ Some (main, position) →
        SeesSingle (states t) operation node first main position
    single_by (key.Read p read) e main position is = let wrong : ⊥ = cc in absurd wrong
    single_by (key.Main p m) e main position is = let wrong : ⊥ = cc in absurd wrong
    single_by (key.Entry p m q) e main position is =
        subst (λ (p : Ref × ℕ). SeesSingle (states t) operation node first p.0 p.1) (same_Some _ _ is)
        (λ k v s. single_seen run t (omega arith) (entry_at heap m q) (looks _ e (entry_at heap m q) refl) k v s)
    single_by (key.Listed p m q) e main position is =
        subst (λ (p : Ref × ℕ). SeesSingle (states t) operation node first p.0 p.1) (same_Some _ _ is)
        (λ k v s. single_seen run t (omega arith) (entry_at heap m q) (looks _ e (entry_at heap m q) refl) k v s)
    single_by (key.Sibling p m q former) e main position is =
        subst (λ (p : Ref × ℕ). SeesSingle (states t) operation node first p.0 p.1) (same_Some _ _ is)
        (λ k v s. single_seen run t (omega arith) (entry_at heap m (1 - q)) (looks _ e (entry_at heap m (1 - q)) refl) k v s)

    pub key_step : KnowsKey (known_with limits states last (first_main states last)) operation.call l →
        KnowsLine (known_with limits states last (first_main states last)) operation.call (key_after (states t) operation l)
    key_step knows =
        subst (λ (k : Known). KnowsLine k operation.call (key_after (states t) operation l)) same_known
        (key_knows (states t) operation node first l only_gets (sees_by l e) (single_by l e) (subst (λ (k : Known). KnowsKey k operation.call l) (sym same_known) knows))
