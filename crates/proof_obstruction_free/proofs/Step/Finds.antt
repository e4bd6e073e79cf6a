-- What an operation that is alone finds under its references, and that what it makes is there.
use Rattle.std.proofs.Common.{◌≡◌, ℕ, suc, ◌<◌, ◌≤◌, false, Option, Some, refl, sym, ap, ◌∙◌, subst, arith}
use Rattle.std.proofs.lemmas.Bool.{true≢false}
use Rattle.proof_obstruction_free.specs.Vocabulary.{Ref, Node, Indirection, node_at, next_ref, Line, line_action, IsInUse, AllHold, line_wants}
use Rattle.proof_obstruction_free.specs.Beneath.machine_model.specs.declared.actions.Action.TheVariants as act
use Rattle.proof_obstruction_free.specs.Beneath.proof_memory.specs.Wants.{is_indirection}
use Rattle.proof_obstruction_free.specs.Beneath.proof_memory.proofs.Safety.AtTimes.{line_at}
use Rattle.proof_obstruction_free.specs.Beneath.proof_contents.proofs.Values.Started.{node_stays, indirection_stays}
use Rattle.proof_obstruction_free.specs.Beneath.proof_commits.proofs.Known.Given.{ActsOn, Taken, GrownTakes}
use Rattle.proof_obstruction_free.specs.Beneath.proof_shape.proofs.Runs.Nodes.{node_known, link_known}
use Rattle.proof_obstruction_free.specs.Alone.{Lone, Stands, node}
use Rattle.proof_obstruction_free.proofs.Step.Keeps.{acts_so}
use Rattle.proof_obstruction_free.specs.Beneath.proof_generations.proofs.Falling.Nodes.{nodes_stay}

no_link : (n : Node) → is_indirection n ≡ false → (g : ℕ) (w : Ref) → n ≡ Indirection g w → ⊥
no_link n not g w e = true≢false (sym (ap is_indirection e) ∙ not)

module _ (a : Lone) where
  pub wants : (t : ℕ) (g : Option ℕ) (l : Line) → Stands a t g l →
      AllHold (IsInUse (a.states t).heap) (a.states t).heap (line_wants a.limits.hash a.own.call a.own.access l)
  wants t g l s =
      let its = line_at a.run t s.until a.actor s.operation s.runs in
      subst (λ x. AllHold (IsInUse (a.states t).heap) (a.states t).heap (line_wants a.limits.hash a.own.call a.own.access x)) s.line
      (subst (λ x. AllHold (IsInUse (a.states t).heap) (a.states t).heap (line_wants a.limits.hash a.own.call x s.operation.line)) s.access
      (subst (λ x. AllHold (IsInUse (a.states t).heap) (a.states t).heap (line_wants a.limits.hash x s.operation.access s.operation.line)) s.call its))

  pub node_found : (t : ℕ) (r : Ref) → t ≤ a.last → IsInUse (a.states t).heap r → is_indirection (node_at (a.states t).heap r) ≡ false → node_at (a.states t).heap r ≡ node a r
  node_found t r within used not = sym (node_known a.run t within r used (no_link (node_at (a.states t).heap r) not))

  pub link_found : (t : ℕ) (r : Ref) (g : ℕ) (m : Ref) → t ≤ a.last → IsInUse (a.states t).heap r → node_at (a.states t).heap r ≡ Indirection g m → (n : Ref) × (node a r ≡ Indirection g n)
  link_found t r g m within used is = link_known a.run t within r used g m is

  -- ---- what is made

  takes : (t : ℕ) (g : Option ℕ) (l : Line) (s : Stands a t g l) → t < a.last → (n : Node) (r : Ref) → line_action (a.states t) s.operation l ≡ act.Make n →
      next_ref (a.states t).heap ≡ Some r → GrownTakes a.states t r n
  takes t g l s more n r makes next =
      subst (λ o. Taken a.states t n o) next (subst (λ x. ActsOn a.states t x) makes (acts_so a t g l s more))

  pub made : (t : ℕ) (g : Option ℕ) (l : Line) (s : Stands a t g l) → t < a.last → (n : Node) (r : Ref) → line_action (a.states t) s.operation l ≡ act.Make n →
      is_indirection n ≡ false → next_ref (a.states t).heap ≡ Some r → node a r ≡ n
  made t g l s more n r makes not next =
      let took = takes t g l s more n r makes next in
      node_stays a.states a.last (nodes_stay a.run) (suc t) r _ (omega arith) took.here (no_link n not)

  pub made_link : (t : ℕ) (g : Option ℕ) (l : Line) (s : Stands a t g l) → t < a.last → (h : ℕ) (m r : Ref) → line_action (a.states t) s.operation l ≡ act.Make (Indirection h m) →
      next_ref (a.states t).heap ≡ Some r → (n : Ref) × (node a r ≡ Indirection h n)
  made_link t g l s more h m r makes next =
      let took = takes t g l s more (Indirection h m) r makes next in
      indirection_stays a.states a.last (nodes_stay a.run) (suc t) r _ h m (omega arith) took.here refl
