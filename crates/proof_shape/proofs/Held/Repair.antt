-- RENEW and CLEAN, and what they hold of the entries that they have done.
use Rattle.std.proofs.Common.{◌≡◌, ℕ, suc, ◌<◌, ◌&&◌, true, List, ◌∷◌, ◌++◌, Option, Some, None, refl, sym, ◌∙◌}
use Rattle.std.proofs.Common.{ap, subst, arith, [], ◌+◌, ◌≤◌, nat_lt, Bool, false, cond, length, Contains, inl, inr, length-append}
use Rattle.std.proofs.lemmas.Bool.{true≢false}
use Rattle.proof_shape.specs.Vocabulary.{Ref, Node, Indirection, Branch, Single, Tomb, List as Listed, Heap, node_at, bitmap_of, next_ref, entries_of, no_ref, contracted, renewed as renewed_node}
use Rattle.proof_shape.specs.Vocabulary.{Line, Operation, After, Gives, Read, CleanLine, Bounds, State, is_below_root, depth_of, is_start, start_of, read_step, reading, next_entry, renew_next}
use Rattle.proof_shape.specs.Vocabulary.{branch_of, renew_after, renew_after_entry, renew_after_read, renew_after_link, renew_after_branch, cleaned, leaves_single, clean_after, clean_next}
use Rattle.proof_shape.specs.Vocabulary.{clean_after_read, clean_after_main, clean_after_entry, after_child, clean_after_tomb, clean_after_contracted, line_action, action_of, line_after, node_under}
use Rattle.proof_shape.specs.Vocabulary.{IsRun, RenewLine, operation_after, Slot, IsInUse, ASingle, meets, AllHold, node_wants, AnEntry, Holds, Each, line_wants, LineLevel, DoneLevel, EntryLevel}
use Rattle.proof_shape.specs.Vocabulary.{KindLevel}
use Rattle.proof_shape.specs.Beneath.machine_model.specs.declared.lines.Line.TheVariants as line
use Rattle.proof_shape.specs.Beneath.machine_model.specs.declared.reading.After.TheVariants.{Goes}
use Rattle.proof_shape.specs.Beneath.machine_model.specs.declared.repairs.CleanLine.TheVariants as clean
use Rattle.proof_shape.specs.Beneath.proof_memory.proofs.Claims.Uses.{safe_of, meets_of, all_of}
use Rattle.proof_shape.specs.Beneath.proof_memory.proofs.Claims.Named.{main_claim, done_claim, past_done}
use Rattle.proof_shape.specs.Beneath.proof_memory.proofs.Levels.States.{heaped_in_use}
use Rattle.proof_shape.specs.Beneath.proof_memory.proofs.Safety.AtEachTime.{safe_at}
use Rattle.proof_shape.specs.Beneath.proof_memory.proofs.Lines.Next.{contracted_no_link}
use Rattle.proof_shape.proofs.Runs.EachAt.{GoesAt}
use Rattle.proof_shape.proofs.Runs.Nodes.{made_node, takes, made_link}
use Rattle.proof_shape.proofs.Runs.Takers.{taker}
use Rattle.proof_shape.proofs.Runs.Seen.{single_seen}
use Rattle.proof_shape.proofs.Lines.Key.{claims}
use Rattle.proof_shape.proofs.Runs.NewNodes.{read_quiet}
use Rattle.proof_shape.proofs.Held.Fresh.{NewNames}
use Rattle.proof_shape.proofs.Held.Lines.{single, HeldClean, HeldIn, anew, HeldRenew, all_still}
use Rattle.proof_shape.proofs.Held.Entries.{AreCome, none_came, one_more, with_next, clean_next_holds, quiet_all, fresh_repair, repairs, branch_there, renew_next_holds}
use Rattle.std.proofs.Math.Seq.{get_or-append_seam}
use Rattle.proof_shape.specs.Beneath.machine_model.specs.declared.actions.Action.TheVariants as act
use Rattle.proof_shape.specs.Beneath.machine_model.specs.declared.repairs.RenewLine.TheVariants as renew
use Rattle.proof_shape.proofs.Runs.Began.{RunsAfter, runs_after}
use Rattle.proof_shape.specs.Beneath.proof_memory.proofs.Safety.AtTimes.{line_at}
use Rattle.std.proofs.lemmas.Option.{same_Some}
use Rattle.proof_shape.proofs.Runs.Levels.{level, levels_along}
use Rattle.proof_shape.proofs.Lines.Repair.{renewed_no_link}
use Rattle.proof_shape.proofs.Runs.Entries.{no_entry}
use Rattle.proof_shape.proofs.Held.Build.{made_held, new_held, next_level}
use Rattle.proof_shape.specs.Beneath.machine_model.proofs.Grown.{grown_in_use}

module _ {limits : Bounds} {states : ℕ → State} {last : ℕ} (run : IsRun limits states last) (t : ℕ) (h : t < last) (actor : ℕ) (operation : Operation)
    (go : GoesAt states run.records t actor operation)
    (takes_it : taker run t ≡ actor) (new : NewNames run t) (start : ℕ) (begun : operation.generation ≡ Some start) where
  abbrev heap : Heap
  heap = (states t).heap

  abbrev Came' : ℕ → Ref → List Ref → Type 0
  Came' = AreCome run actor start

  abbrev Next : Line → Type 0
  Next l = HeldIn run (suc t) actor operation.id start operation.call l

  -- ---- RENEW

  renew_entry_holds : (path : List Ref) (main : Ref) (done : List Ref) → node_at heap main ≡ node_under states last main → Came' (suc t) main done → (n : Node) →
      Next (renew_after_entry (states t) operation path main done (next_entry (states t) main done) n)
  renew_entry_holds path main done there all (Indirection g w) = by_test (is_start operation g)
    where
      by_test : (b : Bool) →
          Next (cond b (renew_next (states t) path main (done ++ next_entry (states t) main done ∷ [])) (line.Renew (renew.Read path main done (reading (next_entry (states t) main done)))))
      by_test true = renew_next_holds run t actor operation start path main _ (with_next run actor start t (suc t) main done there all)
      by_test false = all
  renew_entry_holds path main done there all (Single k v) =
      renew_next_holds run t actor operation start path main _ (with_next run actor start t (suc t) main done there all)
  renew_entry_holds path main done there all (Branch b es) = tt
  renew_entry_holds path main done there all (Tomb s) = tt
  renew_entry_holds path main done there all (Listed ss) = tt

  renew_read_holds : (path : List Ref) (main : Ref) (done : List Ref) → Came' (suc t) main done → (out : After Read Ref) → Next (renew_after_read path main done out)
  renew_read_holds path main done all (Goes r) = all
  renew_read_holds path main done all (Gives child) = all

  pub renew_holds : (l : RenewLine) → operation.line ≡ line.Renew l → HeldRenew run t actor start l →
      HeldIn run (suc t) actor operation.id start operation.call (renew_after (states t) operation l)
  renew_holds (renew.Entry path main done) e x =
      renew_entry_holds path main done
      (branch_there run t h actor operation go takes_it new start begun main (main_claim (claims run t h actor operation go _ e)))
      (quiet_all run t h actor operation go takes_it new start begun _ e refl main done x) (node_at heap (next_entry (states t) main done))
  renew_holds (renew.Read path main done r) e x =
      renew_read_holds path main done
      (quiet_all run t h actor operation go takes_it new start begun _ e (read_quiet r.indirection r.line) main done x) (read_step (states t) operation r)
  renew_holds (renew.Link path main done child) e x =
      by_made (next_ref heap) refl (subst (λ y. LineLevel (level run) (line_after (states t) operation y)) e (next_level run t h actor operation go))
    where
      a : action_of (states t) operation ≡ act.Make (Indirection (start_of operation) child)
      a = ap (line_action (states t) operation) e

      last_level : (made : Ref) → LineLevel (level run) (renew_next (states t) path main (done ++ made ∷ [])) →
          DoneLevel (level run) path main (done ++ made ∷ [])
      last_level made lv = by_test (nat_lt (length (done ++ made ∷ [])) (length (entries_of (node_at heap main)))) lv
        where
          by_test : (b : Bool) → LineLevel (level run) (cond b (line.Renew (renew.Entry path main (done ++ made ∷ [])))
              (line.Renew (renew.Branch path main (done ++ made ∷ [])))) →
              DoneLevel (level run) path main (done ++ made ∷ [])
          by_test true lv = lv
          by_test false lv = lv

      -- what was made has the level below: a single's it hasn't
      deep : (made : Ref) → next_ref heap ≡ Some made → renew_after (states t) operation (renew.Link path main done child) ≡ renew_next (states t) path main (done ++ made ∷ []) →
          DoneLevel (level run) path main (done ++ made ∷ []) → 2 ≤ level run made
      deep made next is lv =
          by_level (subst (EntryLevel (level run) (depth_of path + 1)) (get_or-append_seam done made [] no_ref)
          (lv.1 (length done) no_ref (omega (arith, length-append done (made ∷ [])))))
        where
          own : RunsAfter (states (suc t)) actor (operation_after (states t) operation)
          own = runs_after states run.records t actor operation go

          line_is : own.operation.line ≡ renew_next (states t) path main (done ++ made ∷ [])
          line_is = own.line ∙ ap (line_after (states t) operation) e ∙ is

          wants : (b : Bool) → AllHold (IsInUse (states (suc t)).heap) (states (suc t)).heap
              (line_wants limits.hash own.operation.call own.operation.access
              (cond b (line.Renew (renew.Entry path main (done ++ made ∷ []))) (line.Renew (renew.Branch path main (done ++ made ∷ []))))) →
              Holds (IsInUse (states (suc t)).heap) (states (suc t)).heap (Each (done ++ made ∷ []) AnEntry)
          wants true c = done_claim c
          wants false c = done_claim c

          used : IsInUse (states (suc t)).heap made
          used =
              let c = wants (nat_lt (length (done ++ made ∷ [])) (length (entries_of (node_at heap main))))
              (subst (λ l. AllHold (IsInUse (states (suc t)).heap) (states (suc t)).heap (line_wants limits.hash own.operation.call own.operation.access l)) line_is
              (line_at run (suc t) h actor own.operation own.runs)) in
              subst (IsInUse (states (suc t)).heap) (get_or-append_seam done made [] no_ref) (all_of c (length done) no_ref (omega (arith, length-append done (made ∷ [])))).0

          link_there : used.0.node ≡ Indirection (start_of operation) child
          link_there =
              ap (λ (x : Slot). x.node) (same_Some _ _ (sym (grown_in_use states (suc t) made used.0 used.1) ∙ (takes run t h actor operation go _ a made next).here))

          kind : 1 ≤ level run made
          kind = subst (λ n. KindLevel (level run) (level run made) n) link_there ((levels_along run (suc t) h).nodes made used.0 used.1).0.1

          by_level : EntryLevel (level run) (depth_of path + 1) made → 2 ≤ level run made
          by_level (inl zero_is) = absurd (omega (arith, zero_is, kind))
          by_level (inr below) = omega (arith, below)

      link_names : (made : Ref) → next_ref heap ≡ Some made → (j : Ref) → Contains (entries_of (node_under states last made)) j → ⊥
      link_names made next j names =
          let link = made_link run t h actor operation go _ a made next (start_of operation) child refl in
          no_entry j (subst (λ n. Contains (entries_of n) j) link.1 names)

      by_made : (o : Option Ref) → next_ref heap ≡ o → LineLevel (level run) (renew_after_link (states t) path main done o) → Next (renew_after_link (states t) path main done o)
      by_made None next lv = tt
      by_made (Some made) next lv =
          renew_next_holds run t actor operation start path main (done ++ made ∷ [])
          (one_more run actor start (suc t) main done made
          (all_still run t h actor operation.id start new
          (λ j held. made_held run t h actor operation go _ a made next start j (λ names. link_names made next j names) held) main done x)
          (anew (new_held run t h actor operation go child a made next takes_it start begun
          (deep made next (ap (renew_after_link (states t) path main done) next) (last_level made lv)))))
  renew_holds (renew.Branch path main done) e x = by_made (next_ref heap) refl
    where
      by_made : (o : Option Ref) → next_ref heap ≡ o → Next (renew_after_branch path main o)
      by_made None next = tt
      by_made (Some made) next =
          let claim = main_claim (claims run t h actor operation go _ e) in
          let a = ap (line_action (states t) operation) e in
          fresh_repair run t h actor operation go takes_it new start begun main made done _ a next x false
          (λ bitmap entries is. made_node run t h actor operation go (branch_of (states t) main done) a made next (renewed_no_link (bitmap_of (node_at heap main)) done)
          ∙ ap (λ n. renewed_node (bitmap_of n) done) (branch_there run t h actor operation go takes_it new start begun main claim ∙ is))
          (repairs run t h actor operation go takes_it new start begun _ e)

  -- ---- CLEAN

  -- the next entry stays
  clean_still : (path : List Ref) (main : Ref) (done : List Ref) → node_at heap main ≡ node_under states last main → Came' (suc t) main done →
      Next (clean_next (states t) path main (done ++ next_entry (states t) main done ∷ []))
  clean_still path main done there all = clean_next_holds run t actor operation start path main _ (with_next run actor start t (suc t) main done there all)

  clean_entry_holds : (path : List Ref) (main : Ref) (done : List Ref) → node_at heap main ≡ node_under states last main → Came' (suc t) main done → (n : Node) →
      Next (clean_after_entry (states t) path main done (next_entry (states t) main done) n)
  clean_entry_holds path main done there all (Indirection g w) = all
  clean_entry_holds path main done there all (Single k v) = clean_still path main done there all
  clean_entry_holds path main done there all (Branch b es) = tt
  clean_entry_holds path main done there all (Tomb s) = tt
  clean_entry_holds path main done there all (Listed ss) = tt

  child_holds : (path : List Ref) (main : Ref) (done : List Ref) → Came' (suc t) main done → (out : After Read Ref) → Next (after_child path main done out)
  child_holds path main done all (Goes r) = all
  child_holds path main done all (Gives child) = all

  -- a tomb's single is one
  tomb_single : (child s : Ref) → IsInUse heap child → node_at heap child ≡ Tomb s → (k : ℕ) × (v : ℕ) × (node_under states last s ≡ Single k v)
  tomb_single child s used is =
      let wants : AllHold (IsInUse heap) heap (node_wants (Tomb s)) =
      subst (λ n. AllHold (IsInUse heap) heap (node_wants n)) is ((heaped_in_use (states t) (safe_at run t (omega arith))).inside child used) in
      by_node (node_at heap s) refl (safe_of wants.0) (meets_of wants.0)
    where
      by_node : (n : Node) → node_at heap s ≡ n → IsInUse heap s → meets ASingle n ≡ true → (k : ℕ) × (v : ℕ) × (node_under states last s ≡ Single k v)
      by_node (Single k v) e used m = (k, v, single_seen run t (omega arith) s used k v e)
      by_node (Indirection g w) e used m = absurd (true≢false (sym m))
      by_node (Branch b es) e used m = absurd (true≢false (sym m))
      by_node (Tomb q) e used m = absurd (true≢false (sym m))
      by_node (Listed ss) e used m = absurd (true≢false (sym m))

  clean_tomb_holds : (path : List Ref) (main : Ref) (done : List Ref) (child : Ref) → node_at heap main ≡ node_under states last main → IsInUse heap child → Came' (suc t) main done →
      (n : Node) → node_at heap child ≡ n →
      Next (clean_after_tomb (states t) path main done n)
  clean_tomb_holds path main done child there used all (Tomb s) is =
      let one = tomb_single child s used is in
      clean_next_holds run t actor operation start path main (done ++ s ∷ [])
      (one_more run actor start (suc t) main done s all (single one.0 one.1 one.2))
  clean_tomb_holds path main done child there used all (Indirection g w) is = clean_still path main done there all
  clean_tomb_holds path main done child there used all (Branch b es) is = clean_still path main done there all
  clean_tomb_holds path main done child there used all (Single k v) is = clean_still path main done there all
  clean_tomb_holds path main done child there used all (Listed ss) is = clean_still path main done there all

  clean_read_holds : (path : List Ref) (out : After Read Ref) → Next (clean_after_read path out)
  clean_read_holds path (Goes r) = tt
  clean_read_holds path (Gives main) = tt

  clean_main_holds : (path : List Ref) (main : Ref) (n : Node) → Next (clean_after_main (states t) path main n)
  clean_main_holds path main (Branch b es) =
      clean_next_holds run t actor operation start path main []
      (none_came run actor start (suc t) main)
  clean_main_holds path main (Indirection g w) = tt
  clean_main_holds path main (Single k v) = tt
  clean_main_holds path main (Tomb s) = tt
  clean_main_holds path main (Listed ss) = tt

  pub clean_holds : (l : CleanLine) → operation.line ≡ line.Clean l → HeldClean run t actor start l →
      HeldIn run (suc t) actor operation.id start operation.call (clean_after (states t) operation l)
  clean_holds (clean.Read path r) e x = clean_read_holds path (read_step (states t) operation r)
  clean_holds (clean.Main path main) e x = clean_main_holds path main (node_at heap main)
  clean_holds (clean.Entry path main done) e x =
      clean_entry_holds path main done
      (branch_there run t h actor operation go takes_it new start begun main (main_claim (claims run t h actor operation go _ e)))
      (quiet_all run t h actor operation go takes_it new start begun _ e refl main done x) (node_at heap (next_entry (states t) main done))
  clean_holds (clean.Child path main done r) e x =
      child_holds path main done (quiet_all run t h actor operation go takes_it new start begun _ e (read_quiet r.indirection r.line) main done x)
      (read_step (states t) operation r)
  clean_holds (clean.Tomb path main done child) e x =
      let all = claims run t h actor operation go _ e in
      clean_tomb_holds path main done child (branch_there run t h actor operation go takes_it new start begun main (main_claim all))
      (safe_of (past_done all).0) (quiet_all run t h actor operation go takes_it new start begun _ e refl main done x) (node_at heap child) refl
  clean_holds (clean.Contracted path main done) e x = by_made (next_ref heap) refl
    where
      by_made : (o : Option Ref) → next_ref heap ≡ o → Next (clean_after_contracted path main o)
      by_made None next = tt
      by_made (Some made) next =
          let claim = main_claim (claims run t h actor operation go _ e) in
          let a = ap (line_action (states t) operation) e in
          let b = is_below_root path && leaves_single (states t) done in
          fresh_repair run t h actor operation go takes_it new start begun main made done _ a next x b
          (λ bitmap entries is. made_node run t h actor operation go (cleaned (states t) path main done) a made next (contracted_no_link b (bitmap_of (node_at heap main)) done)
          ∙ ap (λ n. contracted b (bitmap_of n) done) (branch_there run t h actor operation go takes_it new start begun main claim ∙ is))
          (repairs run t h actor operation go takes_it new start begun _ e)
