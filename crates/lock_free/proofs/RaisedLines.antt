-- What a seat must hold itself before its operation makes a node, line by line: what the operation has made before it holds anyway, and what the node takes over it needn't.
use Rattle.std.proofs.Common.{◌⊎◌, inl, inr, ℕ, true, List, Contains, refl, sym, subst}
use Rattle.machine_model.specs.Beneath.slot_arena.specs.declared.refs.Ref.{Ref}
use Rattle.machine_model.specs.Beneath.slot_arena.specs.Heaps.{entries_of, node_at}
use Rattle.machine_model.specs.declared.building.BuildLine.TheVariants as build
use Rattle.machine_model.specs.declared.copying.CopyLine.TheVariants as copy
use Rattle.machine_model.specs.declared.lines.Line.{Line}
use Rattle.machine_model.specs.declared.lines.Line.TheVariants as line
use Rattle.machine_model.specs.declared.operations.Operation.{Operation}
use Rattle.machine_model.specs.declared.repairs.RenewLine.TheVariants as renew
use Rattle.machine_model.specs.Operations.{line_action}
use Rattle.machine_model.specs.Paths.{current}
use Rattle.proof_linearizable.specs.Beneath.proof_shape.proofs.Runs.Entries.{no_entry, of_take}
use Rattle.lock_free.specs.declared.rules.View.{View}
use Rattle.lock_free.specs.Accounts.{IsOwn}
use Rattle.lock_free.specs.Holding.{IsOn}
use Rattle.lock_free.specs.Loading.{now, Runs}
use Rattle.lock_free.specs.OwesAt.{owes_on}
use Rattle.lock_free.specs.Owing.{HoldsRaised, IsTakenOver, names_made}
use Rattle.lock_free.proofs.LastingNodes.{entry_named}
use Rattle.lock_free.proofs.OnLines.{line_is}

module _ (v : View) where
  -- the seat holds it, or the node takes it over
  abbrev pub IsReady : Line → Ref → Type 0
  IsReady l k = Contains v.owed k ⊎ IsTakenOver v l k

  pub raised_on : (l : Line) → IsOn v l →
      ((o : Operation) → Runs v o → (k : Ref) → Contains (names_made (line_action (now v) o l)) k → Contains (owes_on o.private l) k ⊎ IsReady l k) → HoldsRaised v
  raised_on l on ready o runs k c =
      let is = line_is v l on o (o.is_marked, runs) in
      subst (λ x. Contains (owes_on o.private x) k ⊎ IsReady x k) (sym is) (ready o (o.is_marked, runs) k (subst (λ x. Contains (names_made (line_action (now v) o x)) k) is c))

  -- ---- BUILD

  pub raised_link : (path : List Ref) (main : Ref) (position : ℕ) (below : Ref) (depth : ℕ) → IsOn v (line.Build (build.Link path main position below depth)) → HoldsRaised v
  raised_link path main position below depth on = raised_on (line.Build (build.Link path main position below depth)) on (λ o runs k c. inl c)

  pub raised_rung : (path : List Ref) (main : Ref) (position : ℕ) (below : Ref) (depth : ℕ) → IsOn v (line.Build (build.Rung path main position below depth)) → HoldsRaised v
  raised_rung path main position below depth on = raised_on (line.Build (build.Rung path main position below depth)) on (λ o runs k c. inl c)

  -- ---- RENEW

  -- each entry that is done was made, or is kept: then it was raised, or is taken over
  pub raised_renewal : (path : List Ref) (main : Ref) (done : List Ref) → IsOn v (line.Renew (renew.Branch path main done)) →
      ((o : Operation) → Runs v o → (k : Ref) → Contains done k → Contains o.private k ⊎ (Contains v.owed k ⊎ (IsOwn v.account (current path) main true ×
      Contains (entries_of (node_at (now v).heap main)) k))) → HoldsRaised v
  raised_renewal path main done on ready =
      raised_on (line.Renew (renew.Branch path main done)) on (λ o runs k c. elim (ready o runs k (of_take 32 done k c)) [
        | inl made ↦ inl made
        | inr rest ↦ elim rest [
          | inl owed ↦ inr (inl owed)
          | inr over ↦ inr (inr (current path, main, refl, over.0, entry_named (node_at (now v).heap main) k over.1))
        ]
      ])

  -- ---- COPY

  pub raised_empty : (root main : Ref) → IsOn v (line.Copy (copy.Empty root main)) → HoldsRaised v
  raised_empty root main on = raised_on (line.Copy (copy.Empty root main)) on (λ o runs k c. absurd (no_entry k c))

  pub raised_cleared : (root main branch : Ref) → IsOn v (line.Copy (copy.Cleared root main branch)) → HoldsRaised v
  raised_cleared root main branch on = raised_on (line.Copy (copy.Cleared root main branch)) on (λ o runs k c. inl c)
