-- Which entries of a repair were kept, or are singles, or were made anew; and the fresh main node of them.
use Rattle.std.proofs.Common.{◌≡◌, ℕ, suc, ◌<◌, nat_lt, nat_eq, Bool, true, false, cond, List, ◌∷◌, ◌++◌, length, slice_index_or, Some, refl, sym, ◌∙◌, ap, subst, subst₂, arith}
use Rattle.std.proofs.Common.{length-append, ltb-true, ltb-false, []}
use Rattle.std.proofs.lemmas.Bool.{cond_both}
use Rattle.std.proofs.lemmas.List.{get_or_append_left}
use Rattle.std.proofs.Math.Seq.{get_or-append_seam}
use lib.Pointwise.{pointwise}
use Rattle.arrayvec.specs.ArrayVec.{ArrayVec}
use Rattle.proof_shape.specs.Vocabulary.{Ref, Node, Indirection, Branch, Single, Heap, node_at, entries_of, next_ref, no_ref, contracted, Line, Operation, Bounds, State, new_try, next_entry}
use Rattle.proof_shape.specs.Vocabulary.{renew_next, clean_next, line_action, action_of, node_under, IsRun, IsInUse, ABranch, Holds, Is, IsDone, keeps, renews, cleans, AllDone, KnowsRepair}
use Rattle.proof_shape.specs.Beneath.machine_model.specs.declared.actions.Action.TheVariants as act
use Rattle.proof_shape.specs.Beneath.machine_model.specs.declared.lines.Line.TheVariants as line
use Rattle.proof_shape.specs.Beneath.machine_model.specs.declared.repairs.CleanLine.TheVariants as clean
use Rattle.proof_shape.specs.Beneath.proof_memory.proofs.Claims.Nodes.{branch_main}
use Rattle.proof_shape.specs.Lines.Given.{GaveBelow}
use Rattle.proof_shape.specs.Lines.Knowing.{first_main}
use Rattle.proof_shape.proofs.Runs.EachAt.{GoesAt}
use Rattle.proof_shape.proofs.Lines.RepairsAt.{repairs_at, gave_below_later}
use Rattle.proof_shape.proofs.Runs.Takers.{taker}
use Rattle.proof_shape.proofs.Runs.Seen.{main_seen}
use Rattle.proof_shape.proofs.Runs.MadeNodes.{is_making}
use Rattle.proof_shape.proofs.Held.Fresh.{IsHeld, NewNames, IsUncommitted}
use Rattle.proof_shape.proofs.Held.Lines.{Came, same, single, anew, DoneWith, kept, renewed, cleaned as cleaned_entry, AllCame, NamedOrHeld, HeldRepair, HeldIn, all_still}
use Rattle.proof_shape.proofs.Held.Build.{quiet_held, named_or_held}

module _ {limits : Bounds} {states : ℕ → State} {last : ℕ} (run : IsRun limits states last) (actor start : ℕ) where
  abbrev Held : ℕ → Ref → Type 0
  Held v j = IsHeld run v actor start j

  -- the entries that are done came of those of the main node
  abbrev pub AreCome : ℕ → Ref → List Ref → Type 0
  AreCome v main done = AllCame run (Held v) main done

  -- this one stands for the main node's entry at this place
  abbrev CameAt : ℕ → Ref → ℕ → Ref → Type 0
  CameAt v main n other = Came (node_under states last) (Held v) (slice_index_or (entries_of (node_under states last main)) n no_ref) other

  pub none_came : (v : ℕ) (main : Ref) → AreCome v main []
  none_came v main n lt = absurd (omega (arith, lt))

  pub one_more : (v : ℕ) (main : Ref) (done : List Ref) (other : Ref) → AreCome v main done →
      CameAt v main (length done) other → AreCome v main (done ++ other ∷ [])
  one_more v main done other all it n lt = by_place (nat_lt n (length done)) refl
    where
      by_place : (b : Bool) → nat_lt n (length done) ≡ b → CameAt v main n (slice_index_or (done ++ other ∷ []) n no_ref)
      by_place true below =
          subst (CameAt v main n) (sym (get_or_append_left done (other ∷ []) no_ref n (ltb-true n (length done) below)))
          (all n (ltb-true n (length done) below))
      by_place false above =
          let at : n ≡ length done = omega (arith, length-append done (other ∷ []), ltb-false n (length done) above) in
          subst₂ (CameAt v main) (sym at)
          (sym (ap (λ m. slice_index_or (done ++ other ∷ []) m no_ref) at ∙ get_or-append_seam done other [] no_ref)) it

  -- the entry itself
  next_came : (t v : ℕ) (main : Ref) (done : List Ref) → node_at (states t).heap main ≡ node_under states last main →
      CameAt v main (length done) (next_entry (states t) main done)
  next_came t v main done there = same (ap (λ n. slice_index_or (entries_of n) (length done) no_ref) (sym there))

  pub with_next : (t v : ℕ) (main : Ref) (done : List Ref) → node_at (states t).heap main ≡ node_under states last main → AreCome v main done →
      AreCome v main (done ++ next_entry (states t) main done ∷ [])
  with_next t v main done there all = one_more v main done (next_entry (states t) main done) all (next_came t v main done there)

-- the line after entries that are done
module _ {limits : Bounds} {states : ℕ → State} {last : ℕ} (run : IsRun limits states last) (t actor : ℕ) (operation : Operation) (start : ℕ) where
  abbrev Next : Line → Type 0
  Next l = HeldIn run (suc t) actor operation.id start operation.call l

  pub renew_next_holds : (path : List Ref) (main : Ref) (done : List Ref) → AreCome run actor start (suc t) main done → Next (renew_next (states t) path main done)
  renew_next_holds path main done all = cond_both (nat_lt (length done) (length (entries_of (node_at (states t).heap main)))) _ _ Next (λ more. all) (λ last. all)

  pub clean_next_holds : (path : List Ref) (main : Ref) (done : List Ref) → AreCome run actor start (suc t) main done → Next (clean_next (states t) path main done)
  clean_next_holds path main done all = by_test (nat_lt (length done) (length (entries_of (node_at (states t).heap main)))) (pointwise nat_eq done (entries_of (node_at (states t).heap main)))
    where
      by_change : (b : Bool) → Next (cond b new_try (line.Clean (clean.Contracted path main done)))
      by_change true = tt
      by_change false = all

      by_test : (b c : Bool) → Next (cond b (line.Clean (clean.Entry path main done)) (cond c new_try (line.Clean (clean.Contracted path main done))))
      by_test true c = all
      by_test false c = by_change c

module _ {limits : Bounds} {states : ℕ → State} {last : ℕ} (run : IsRun limits states last) (t : ℕ) (h : t < last) (actor : ℕ) (operation : Operation)
    (go : GoesAt states run.records t actor operation)
    (takes_it : taker run t ≡ actor) (new : NewNames run t) (start : ℕ) (begun : operation.generation ≡ Some start) where
  abbrev heap : Heap
  heap = (states t).heap

  abbrev node : Ref → Node
  node = node_under states last

  abbrev Came' : ℕ → Ref → List Ref → Type 0
  Came' = AreCome run actor start

  -- where the step makes nothing
  pub quiet_all : (l : Line) → operation.line ≡ l → is_making (line_action (states t) operation l) ≡ false → (main : Ref) (done : List Ref) → Came' t main done → Came' (suc t) main done
  quiet_all l e q main done all =
      all_still run t h actor operation.id start new
      (quiet_held run t h actor operation go (ap (λ x. is_making (line_action (states t) operation x)) e ∙ q) start) main done all

  -- ---- the fresh main node

  module _ (main made : Ref) (done : List Ref) (n : Node) (a : action_of (states t) operation ≡ act.Make n) (next : next_ref heap ≡ Some made) (all : Came' t main done) (b : Bool)
      (is_made : (bitmap : ℕ) (entries : ArrayVec Ref) → node main ≡ Branch bitmap entries → node made ≡ contracted b bitmap done) where
    pub fresh_repair : AllDone node (first_main states last) (GaveBelow states run.records last t actor operation.id start) start main done →
        HeldRepair run (suc t) actor operation.id start main made
    fresh_repair (bitmap, entries, are, count) = record {
      done = done;
      bitmap = bitmap;
      entries = entries;
      is = are.is;
      each = λ m lt. by_done m (slice_index_or done m no_ref) (are.each m lt)
          (subst (λ e. Came node (IsHeld run t actor start) (slice_index_or e m no_ref) (slice_index_or done m no_ref)) (ap entries_of are.is) (all m lt));
      all = count;
      may_entomb = b;
      made = is_made bitmap entries are.is;
    }
      where
        by_done : (m : ℕ) (other : Ref) → IsDone node (first_main states last) (GaveBelow states run.records last t actor operation.id start) start (slice_index_or entries.items m no_ref) other →
            Came node (IsHeld run t actor start) (slice_index_or entries.items m no_ref) other →
            DoneWith node (first_main states last) (GaveBelow states run.records last (suc t) actor operation.id start)
            (λ r. IsUncommitted run (suc t) made → NamedOrHeld run (suc t) actor start made r) start (slice_index_or entries.items m no_ref) other
        by_done m other (keeps e) c = kept e
        by_done m other (cleans g word child is gave tomb) c = cleaned_entry g word child is (gave_below_later states run.records last t actor operation.id start _ child gave) tomb
        by_done m other (renews g word word' child is apart is' gave first) (same e) =
            let both : Indirection g word ≡ Indirection start word' = sym is ∙ ap node e ∙ is' in
            let generations : g ≡ start = cc in
            absurd (apart generations)
        by_done m other (renews g word word' child is apart is' gave first) (single k v e) =
            let bad : Single k v ≡ Indirection start word' = sym e ∙ is' in
            let wrong : ⊥ = cc in
            absurd wrong
        by_done m other (renews g word word' child is apart is' gave first) (anew held) =
            renewed g word word' child is apart is' (gave_below_later states run.records last t actor operation.id start _ child gave) first
            (λ un. named_or_held run t h actor operation go n a made next start other held)

  pub repairs : (l : Line) → operation.line ≡ l → KnowsRepair node (first_main states last) (GaveBelow states run.records last t actor operation.id start) start l
  repairs l e =
      subst (λ x. KnowsRepair node (first_main states last) (GaveBelow states run.records last t actor operation.id start) start x) e
      (repairs_at run t (omega arith) actor operation go.runs start begun)

  pub branch_there : (main : Ref) → Holds (IsInUse heap) heap (Is main ABranch) → node_at heap main ≡ node main
  branch_there main claim = main_seen run t (omega arith) main ABranch branch_main claim

  -- KEY begins a repair with none done
  pub renew_begins : (path : List Ref) (main : Ref) → HeldIn run (suc t) actor operation.id start operation.call (renew_next (states t) path main [])
  renew_begins path main = renew_next_holds run t actor operation start path main [] (none_came run actor start (suc t) main)
