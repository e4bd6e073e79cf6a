-- What a step looks at is what stands there in the end: main nodes, and the singles in them.
use Rattle.std.proofs.Common.{◌≡◌, ℕ, ◌<◌, ◌≤◌, true, false, length, Some, sym, ◌∙◌, ap, subst, arith, leb-true}
use Rattle.std.proofs.lemmas.Bool.{true≢false}
use Rattle.proof_shape.specs.Vocabulary.{Access, Call, Get, Put, PutIfAbsent, Replace, ReplaceIf, Remove, RemoveIf, Clear, Snapshot, Freeze, Close, Entries, Count, Ref, Node, Indirection, Single}
use Rattle.proof_shape.specs.Vocabulary.{List as Listed, Heap, node_at, Operation, Bounds, needs_writable, State, operation_of, action_of, node_under, IsRun, IsInUse, Wanted, AMain, meets}
use Rattle.proof_shape.specs.Vocabulary.{is_formed, listed, Holds, Is, AllHold, action_wants, IsGet}
use Rattle.arrayvec.specs.ArrayVec.{ArrayVec}
use Rattle.proof_shape.specs.Beneath.machine_model.specs.declared.actions.Action.TheVariants as act
use Rattle.proof_shape.specs.Beneath.proof_memory.proofs.Claims.Uses.{safe_of, meets_of}
use Rattle.proof_shape.specs.Beneath.proof_memory.proofs.Safety.Steps.{of_actor}
use Rattle.proof_shape.specs.Beneath.proof_memory.proofs.Safety.Base.{Fits}
use Rattle.proof_shape.specs.Beneath.proof_memory.proofs.Safety.AtEachTime.{safe_at}
use Rattle.proof_shape.specs.Beneath.proof_memory.proofs.Safety.AtTimes.{action_at}
use Rattle.proof_shape.specs.Beneath.proof_contents.proofs.Lines.Key.Knows.{Sees}
use Rattle.proof_shape.specs.Beneath.proof_memory.proofs.Claims.Nodes.{main_no_link}
use Rattle.proof_shape.specs.Lines.Knowing.{first_main}
use Rattle.proof_shape.proofs.Runs.Nodes.{node_known, known_node}
use Rattle.proof_shape.proofs.Lines.Placed.{is_keyed}
use Rattle.proof_shape.specs.Beneath.machine_model.proofs.Grown.{node_standing}

-- ---- kinds

pub listed_main : (access : Access) (n : Node) → meets (listed access) n ≡ true → meets AMain n ≡ true
listed_main access n e = grind arith

-- a call on a key that needs no writable handle is a get
pub keyed_get : (call : Call) → is_keyed call ≡ true → needs_writable call ≡ false → IsGet call
keyed_get (Get h k) e n = tt
keyed_get (Put h k v) e n = absurd (true≢false n)
keyed_get (PutIfAbsent h k v) e n = absurd (true≢false n)
keyed_get (Replace h k v) e n = absurd (true≢false n)
keyed_get (ReplaceIf h k a b) e n = absurd (true≢false n)
keyed_get (Remove h k) e n = absurd (true≢false n)
keyed_get (RemoveIf h k v) e n = absurd (true≢false n)
keyed_get (Clear h) e n = absurd (true≢false (sym e))
keyed_get (Snapshot h) e n = absurd (true≢false (sym e))
keyed_get (Freeze h) e n = absurd (true≢false (sym e))
keyed_get (Close h) e n = absurd (true≢false (sym e))
keyed_get (Entries h) e n = absurd (true≢false (sym e))
keyed_get (Count h) e n = absurd (true≢false (sym e))

module _ {limits : Bounds} {states : ℕ → State} {last : ℕ} (run : IsRun limits states last) (t : ℕ) (h : t ≤ last) where
  abbrev heap : Heap
  heap = (states t).heap

  -- a reader's call needs no writable handle
  pub fits_at : (actor : ℕ) (operation : Operation) → operation_of (states t) actor ≡ Some operation → Fits operation
  fits_at actor operation is = (of_actor (states t) (λ k operation. Fits operation) ((safe_at run t h).fits) actor operation is).1

  -- a main node in use
  pub main_seen : (main : Ref) (wanted : Wanted) → ((n : Node) → meets wanted n ≡ true → meets AMain n ≡ true) → Holds (IsInUse (states t).heap) (states t).heap (Is main wanted) →
      node_at (states t).heap main ≡ node_under states last main
  main_seen main wanted also claim =
      sym (node_known run t h main (safe_of claim) (main_no_link (node_at heap main) (also (node_at heap main) (meets_of claim))))

  -- a list isn't empty
  pub list_filled : (main : Ref) (singles : ArrayVec Ref) → IsInUse (states t).heap main → node_under states last main ≡ Listed singles → 0 < length singles.items
  list_filled main singles used is =
      let there : node_at heap main ≡ Listed singles = known_node run t h main used (Listed singles) is (λ g w bad. let wrong : Listed singles ≡ Indirection g w = bad in cc) in
      let formed = ((safe_at run t h).nodes main used.0 used.1).1 in
      let same : used.0.node ≡ Listed singles = sym (node_standing heap main used.0 used.1) ∙ there in
      two_or_more (leb-true 2 (length singles.items) (ap is_formed (sym same) ∙ formed))
    where
      two_or_more : 2 ≤ length singles.items → 0 < length singles.items
      two_or_more le = omega arith

  pub sees : (operation : Operation) (main : Ref) (wanted : Wanted) → ((n : Node) → meets wanted n ≡ true → meets AMain n ≡ true) →
      Holds (IsInUse (states t).heap) (states t).heap (Is main wanted) → Sees (states t) operation (node_under states last) (first_main states last) main
  sees operation main wanted also claim = record {
    main_is = main_seen main wanted also claim;
    filled = λ singles is. list_filled main singles (safe_of claim) is;
  }

  -- what the step looks at is in use
  pub look_used : (actor : ℕ) (operation : Operation) → operation_of (states t) actor ≡ Some operation → (r : Ref) → action_of (states t) operation ≡ act.Look r → IsInUse (states t).heap r
  look_used actor operation is r a =
      safe_of (subst (λ x. AllHold (IsInUse heap) heap (action_wants x)) a (action_at run t h actor operation is)).0

  -- the single there
  pub single_seen : (r : Ref) → IsInUse (states t).heap r → (k v : ℕ) → node_at (states t).heap r ≡ Single k v → node_under states last r ≡ Single k v
  single_seen r used k v e = node_known run t h r used (λ g w bad. let wrong : Single k v ≡ Indirection g w = sym e ∙ bad in cc) ∙ e
