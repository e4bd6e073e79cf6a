-- Sites in RENEW and CLEAN: the entries that are done fit, so what is made of them has its shape.
use Rattle.std.proofs.Common.{◌≡◌, ℕ, suc, ◌+◌, ◌*◌, ◌^◌, ◌<◌, ◌≤◌, ◌&&◌, Bool, true, nat_lt, nat_eq, List, [], ◌∷◌, ◌++◌, All, length, slice_index_or, Option, Some, None, refl}
use Rattle.std.proofs.Common.{sym, ap, subst, ◌∙◌, ltb-true, arith}
use Rattle.std.specs.Cmp.Lexicographic.{pointwise}
use Rattle.std.proofs.lemmas.Bool.{false≢true, cond_both, and_parts}
use Rattle.std.proofs.lemmas.List.Elements.{All-head}
use Rattle.arrayvec.specs.ArrayVec.{ArrayVec}
use Rattle.proof_shape.specs.Vocabulary.{hash_of, HashKind, Ref, Node, Indirection, Branch, Single, Tomb, node_at, entries_of, bitmap_of, next_ref, no_ref, contracted, Operation, After, Gives}
use Rattle.proof_shape.specs.Vocabulary.{ReadLine, State, depth_of, hash_in, is_start, is_below_root, at_indirection, next_entry, renew_after_entry, renew_after_read, renew_after_link}
use Rattle.proof_shape.specs.Vocabulary.{renew_after_branch, clean_next, is_single, leaves_single, clean_after_read, clean_after_main, clean_after_entry, after_child, clean_after_tomb}
use Rattle.proof_shape.specs.Vocabulary.{clean_after_contracted, ABranch, AnEntry, meets, is_branch, IsShaped, StandsFor, unchanged, stands_for, becomes_single}
use Rattle.proof_shape.specs.Vocabulary.{Holds, Is}
use Rattle.proof_shape.specs.Beneath.machine_model.specs.declared.reading.After.TheVariants.{Goes}
use Rattle.proof_shape.specs.Beneath.machine_model.specs.declared.repairs.CleanLine.TheVariants as clean
use Rattle.proof_shape.specs.Beneath.machine_model.specs.declared.lines.Line.TheVariants as line
use Rattle.proof_shape.specs.Beneath.proof_memory.specs.Wants.{is_indirection}
use Rattle.proof_shape.specs.Beneath.proof_memory.proofs.Claims.Uses.{Meets, safe_of, meets_of}
use Rattle.proof_shape.specs.Beneath.proof_contents.specs.Shapes.{Fits}
use Rattle.proof_shape.specs.Beneath.proof_contents.proofs.Shapes.Nodes.{tomb_shape}
use Rattle.proof_shape.specs.Beneath.proof_contents.proofs.Shapes.Lists.{shape_moves}
use Rattle.proof_shape.specs.Sites.Nodes.{path_to, depth_at}
use Rattle.proof_shape.specs.Sites.Lines.{Sites, bare, trie_at, InsideSite, IsOnWay, PathSite, PlaceSite, DoneSite, NextSite, LineSite, entry_in}
use Rattle.proof_shape.proofs.Sites.Ways.{path_again}
use Rattle.proof_shape.proofs.Shaped.Places.{bare_branch, bare_link_node, no_generation, entry_deeper}
use Rattle.proof_shape.proofs.Sites.Seen.{Sees, AfterSite, entries_seen, bitmap_seen, link_seen, branch_seen, current_site}
use Rattle.proof_shape.proofs.Sites.Key.{none_done, renew_next_site}
use Rattle.proof_shape.proofs.Sites.Made.{stands}
use Rattle.proof_shape.proofs.Shaped.Repaired.{IsSingle, repaired_shaped, more_done}

module _ (s : Sites) (fits : (i : Ref) → s.path i < 2 ^ (5 * depth_at (s.level i))) (state : State) (operation : Operation) (S : Ref → Type 0) (N : Sees s state S) where
  abbrev kind : HashKind
  kind = state.limits.hash

  abbrev hash : ℕ
  hash = hash_in state operation

  abbrev Done : List Ref → Ref → List Ref → Type 0
  Done path main done = DoneSite kind s hash path main done

  -- the entry that comes next, in the heap and for ever
  next_is : (main : Ref) (done : List Ref) → S main → next_entry state main done ≡ entry_in kind s main (length done)
  next_is main done u = ap (λ es. slice_index_or es (length done) no_ref) (entries_seen s state S N main u)

  pub more_left : (main : Ref) (done : List Ref) → S main → nat_lt (length done) (length (entries_of (node_at state.heap main))) ≡ true → length done < length (entries_of (s.node main))
  more_left main done u e =
      let lt : length done < length (entries_of (node_at state.heap main)) = ltb-true (length done) _ e in subst (λ es. length done < length es) (entries_seen s state S N main u) lt

  branch_is : (n : Node) → is_branch n ≡ true → (b : ℕ) × (es : ArrayVec Ref) × (n ≡ Branch b es)
  branch_is (Branch b es) e = (b, es, refl)
  branch_is n e = absurd (false≢true e)

  -- the main node is a branch
  pub branch_there : (main : Ref) → S main → meets ABranch (node_at state.heap main) ≡ true → (b : ℕ) × (es : ArrayVec Ref) × (s.node main ≡ Branch b es)
  branch_there main u e = let (b, es, is) = branch_is (node_at state.heap main) e in (b, es, bare_branch (s.node main) b es (N.same main u ∙ ap bare is))

  -- an entry that is kept fits
  keeps : (path : List Ref) (main : Ref) (done : List Ref) → S main → length done < length (entries_of (s.node main)) → Done path main done → Done path main (done ++ next_entry state main done ∷ [])
  keeps path main done u lt d = more_done kind s hash path main done (next_entry state main done) lt d (unchanged (sym (next_is main done u)))

  -- ---- RENEW

  pub renew_entry_site : (path : List Ref) (main : Ref) (done : List Ref) (node : Node) → node_at state.heap (next_entry state main done) ≡ node → S main → S (next_entry state main done) →
      length done < length (entries_of (s.node main)) → Done path main done → LineSite kind s hash (renew_after_entry state operation path main done (next_entry state main done) node)
  renew_entry_site path main done (Indirection generation word) e u v lt d =
      cond_both (is_start operation generation) _ _ (LineSite kind s hash)
      (λ x. renew_next_site s fits state operation S N path main (done ++ next_entry state main done ∷ []) (keeps path main done u lt d))
      (λ x. (d, (next_is main done u, link_seen s state S N (next_entry state main done) v ∙ ap is_indirection e), tt))
  renew_entry_site path main done (Single k v) e u w lt d = renew_next_site s fits state operation S N path main (done ++ next_entry state main done ∷ []) (keeps path main done u lt d)
  renew_entry_site path main done node e u v lt d = tt

  pub renew_read_site : (path : List Ref) (main : Ref) (done : List Ref) (i : Ref) (a : After ReadLine Ref) → Done path main done → NextSite kind s main done i → AfterSite s state S N i a →
      LineSite kind s hash (renew_after_read path main done (at_indirection i a))
  renew_read_site path main done i (Goes l) d next h = (d, next, h)
  renew_read_site path main done i (Gives child) d next h = (d, (refl, subst (λ x. is_indirection (s.node x) ≡ true) next.0 next.1), h ∙ ap s.path next.0)

  -- the new link stands where the entry does
  pub link_stands : (path : List Ref) (main : Ref) (done : List Ref) (made : Ref) → S main → meets ABranch (node_at state.heap main) ≡ true → length done < length (entries_of (s.node main)) →
      is_indirection (s.node (entry_in kind s main (length done))) ≡ true → s.level main ≡ depth_of path + 1 → s.level made ≡ depth_of path + 2 →
      s.path made ≡ path_to (s.path (next_entry state main done)) (depth_at (depth_of path + 2)) → StandsFor (trie_at kind s) (entry_in kind s main (length done)) made
  link_stands path main done made u is lt link level level_made path_made = by_branch (branch_there main u is)
    where
      entry : Ref
      entry = entry_in kind s main (length done)

      by_branch : (b : ℕ) × (es : ArrayVec Ref) × (s.node main ≡ Branch b es) → StandsFor (trie_at kind s) entry made
      by_branch (b, es, node_is) =
          let here : entry ≡ slice_index_or es.items (length done) no_ref = ap (λ n. slice_index_or (entries_of n) (length done) no_ref) node_is in
          let deeper : depth_at (s.level entry) ≡ suc (depth_at (s.level main)) =
          subst (λ x. depth_at (s.level x) ≡ suc (depth_at (s.level main))) (sym here)
          (entry_deeper kind s fits main b es (branch_seen s state S N main b es u node_is) (length done)
          (subst (λ n. length done < length (entries_of n)) node_is lt) (subst (λ x. is_indirection (s.node x) ≡ true) here link)) in
          let deep : depth_at (depth_of path + 2) ≡ depth_at (s.level entry) = omega (arith, deeper, level) in
          let led : s.path made ≡ s.path entry =
          path_made ∙ ap (λ x. path_to (s.path x) (depth_at (depth_of path + 2))) (next_is main done u) ∙ ap (path_to (s.path entry)) deep
          ∙ path_again (s.path entry) (depth_at (s.level entry)) (fits entry) in
          record { deep = ap depth_at level_made ∙ deep; led = led; newer = omega (arith, no_generation kind s entry) }

  pub link_by : (path : List Ref) (main : Ref) (done : List Ref) → S main → meets ABranch (node_at state.heap main) ≡ true → length done < length (entries_of (s.node main)) → Done path main done →
      is_indirection (s.node (entry_in kind s main (length done))) ≡ true → s.level main ≡ depth_of path + 1 →
      ((made : Ref) → next_ref state.heap ≡ Some made → (s.level made ≡ depth_of path + 2)
      × (s.path made ≡ path_to (s.path (next_entry state main done)) (depth_at (depth_of path + 2))) × (bare (s.node made) ≡ Indirection 0 no_ref)) →
      (o : Option Ref) → next_ref state.heap ≡ o → LineSite kind s hash (renew_after_link state path main done o)
  link_by path main done u is lt d link level m None e = tt
  link_by path main done u is lt d link level m (Some made) e =
      let (level_made, path_made, node_made) = m made e in
      renew_next_site s fits state operation S N path main (done ++ made ∷ [])
      (more_done kind s hash path main done made lt d
      (stands_for 0 0 no_ref no_ref (bare_link_node s (entry_in kind s main (length done)) link) node_made (link_stands path main done made u is lt link level level_made path_made)
      (omega (arith, no_generation kind s made))))

  -- ---- what is made of the entries

  pub repair_makes : (may : Bool) (path : List Ref) (main : Ref) (done : List Ref) (r : Ref) → Holds S state.heap (Is main ABranch) →
      length (entries_of (node_at state.heap main)) ≤ length done → Done path main done → s.level main ≡ depth_of path + 1 → s.level r ≡ depth_of path + 1 → IsOnWay kind s hash (depth_of path) r →
      ((single : Ref) → may ≡ true → done ≡ single ∷ [] → IsSingle (trie_at kind s) single) → IsShaped (trie_at kind s) r (contracted may (bitmap_of (node_at state.heap main)) done)
  repair_makes may path main done r m all d level level_r on alone = by_branch (branch_there main u (meets_of m))
    where
      u : S main
      u = safe_of m

      by_branch : (b : ℕ) × (es : ArrayVec Ref) × (s.node main ≡ Branch b es) → IsShaped (trie_at kind s) r (contracted may (bitmap_of (node_at state.heap main)) done)
      by_branch (b, es, node_is) =
          let items : entries_of (s.node main) ≡ es.items = ap entries_of node_is in
          let seen : length (entries_of (node_at state.heap main)) ≡ length es.items = ap length (entries_seen s state S N main u ∙ items) in
          let count : length done ≡ length es.items = omega (arith, all, seen, d.1, ap length items) in
          subst (λ n. IsShaped (trie_at kind s) r (contracted may n done)) (sym (bitmap_seen s state S N main u ∙ ap bitmap_of node_is))
          (shape_moves (trie_at kind s) main r (contracted may b done) (stands kind s main r (level_r ∙ sym level) (on ∙ sym d.0.1))
          (repaired_shaped (trie_at kind s) fits main b es (branch_seen s state S N main b es u node_is) may done count
          (λ n lt. subst (λ x. Fits (trie_at kind s) main x (slice_index_or done n no_ref)) (ap (λ xs. slice_index_or xs n no_ref) items) (d.2 n lt)) alone))

  -- a single in the heap is one
  pub single_is : (r : Ref) (n : Node) → node_at state.heap r ≡ n → S r → is_single n ≡ true → IsSingle (trie_at kind s) r
  single_is r (Single k v) e u is = (k, v, N.same r u ∙ ap bare e)
  single_is r n e u is = absurd (false≢true is)

  pub left_alone : (path : List Ref) (done : List Ref) → All (Meets S state.heap AnEntry) done → (single : Ref) →
      (is_below_root path && leaves_single state done) ≡ true → done ≡ single ∷ [] → IsSingle (trie_at kind s) single
  left_alone path done all single may is =
      let leaves : leaves_single state (single ∷ []) ≡ true = subst (λ es. leaves_single state es ≡ true) is (and_parts (is_below_root path) (leaves_single state done) may).1 in
      let safe : Meets S state.heap AnEntry single = All-head (Meets S state.heap AnEntry) single [] (subst (All (Meets S state.heap AnEntry)) is all) in
      single_is single (node_at state.heap single) refl safe.0 leaves

  -- ---- CLEAN

  pub clean_read_site : (path : List Ref) (i : Ref) (a : After ReadLine Ref) → PathSite kind s hash path → IsOnWay kind s hash (depth_of path) i →
      AfterSite s state S N i a → LineSite kind s hash (clean_after_read path (at_indirection i a))
  clean_read_site path i (Goes l) p e h = (p, e, h)
  clean_read_site path i (Gives main) p e h = (p, h ∙ e)

  clean_next_site : (path : List Ref) (main : Ref) (done : List Ref) → Done path main done → LineSite kind s hash (clean_next state path main done)
  clean_next_site path main done d =
      cond_both (nat_lt (length done) (length (entries_of (node_at state.heap main)))) _ _ (LineSite kind s hash) (λ e. d)
      (λ e. cond_both (pointwise nat_eq done (entries_of (node_at state.heap main))) _ _ (LineSite kind s hash) (λ e. tt) (λ e. d))

  pub clean_main_site : (path : List Ref) (main : Ref) (node : Node) → PlaceSite kind s hash path main → LineSite kind s hash (clean_after_main state path main node)
  clean_main_site path main (Branch bitmap entries) p = clean_next_site path main [] (none_done s fits state operation S N path main p)
  clean_main_site path main node p = tt

  pub clean_entry_site : (path : List Ref) (main : Ref) (done : List Ref) (node : Node) → node_at state.heap (next_entry state main done) ≡ node → S main → S (next_entry state main done) →
      length done < length (entries_of (s.node main)) → Done path main done → LineSite kind s hash (clean_after_entry state path main done (next_entry state main done) node)
  clean_entry_site path main done (Indirection generation word) e u v lt d = (d, (next_is main done u, link_seen s state S N (next_entry state main done) v ∙ ap is_indirection e), tt)
  clean_entry_site path main done (Single k v) e u w lt d = clean_next_site path main (done ++ next_entry state main done ∷ []) (keeps path main done u lt d)
  clean_entry_site path main done node e u v lt d = tt

  abbrev pub GivesLevel : Ref → After ReadLine Ref → Type 0
  GivesLevel i (Goes l) = Unit {0}
  GivesLevel i (Gives main) = s.level main ≡ s.level i

  pub child_site : (path : List Ref) (main : Ref) (done : List Ref) (i : Ref) (a : After ReadLine Ref) → Done path main done → NextSite kind s main done i →
      AfterSite s state S N i a → GivesLevel i a →
      LineSite kind s hash (after_child path main done (at_indirection i a))
  child_site path main done i (Goes l) d next h g = (d, next, h)
  child_site path main done i (Gives child) d next h g =
      (d, (refl, subst (λ x. is_indirection (s.node x) ≡ true) next.0 next.1), h ∙ ap s.path next.0, g ∙ ap s.level next.0)

  -- a tomb's single fits in the place of the indirection over it
  single_fits : (main child single entry : Ref) → S child → node_at state.heap child ≡ Tomb single → is_indirection (s.node entry) ≡ true →
      s.path child ≡ s.path entry → s.level child ≡ s.level entry →
      Fits (trie_at kind s) main entry single
  single_fits main child single entry u e link led level =
      let t = tomb_shape (trie_at kind s) child (Tomb single) single (subst (InsideSite kind s child) e (N.inside child u)) refl in
      becomes_single 0 t.key t.value no_ref (bare_link_node s entry link) t.is (ap (λ l. path_to (hash_of kind t.key) (depth_at l)) (sym level) ∙ t.led ∙ led)

  pub clean_tomb_site : (path : List Ref) (main : Ref) (done : List Ref) (child : Ref) (node : Node) → node_at state.heap child ≡ node → S main → S child →
      length done < length (entries_of (s.node main)) →
      LineSite kind s hash (line.Clean (clean.Tomb path main done child)) → LineSite kind s hash (clean_after_tomb state path main done node)
  clean_tomb_site path main done child (Tomb single) e u v lt (d, next, led, level) =
      clean_next_site path main (done ++ single ∷ [])
      (more_done kind s hash path main done single lt d (single_fits main child single (entry_in kind s main (length done)) v e next.1 led level))
  clean_tomb_site path main done child node e u v lt (d, next, led, level) = clean_next_site path main (done ++ next_entry state main done ∷ []) (keeps path main done u lt d)

  -- ---- the swap that follows

  abbrev Makes : List Ref → Type 0
  Makes path = (made : Ref) → next_ref state.heap ≡ Some made → IsOnWay kind s hash (depth_of path) made

  pub renewed_by : (path : List Ref) (main : Ref) → PlaceSite kind s hash path main → nat_lt 0 (length path) ≡ true → Makes path → (o : Option Ref) → next_ref state.heap ≡ o →
      LineSite kind s hash (renew_after_branch path main o)
  renewed_by path main p long f None e = tt
  renewed_by path main p long f (Some made) e = let at = current_site kind s hash path p.0 long in ((p.1 ∙ sym at, f made e ∙ sym at), tt, p.0)

  pub cleaned_by : (path : List Ref) (main : Ref) → PlaceSite kind s hash path main → nat_lt 0 (length path) ≡ true → Makes path → (o : Option Ref) → next_ref state.heap ≡ o →
      LineSite kind s hash (clean_after_contracted path main o)
  cleaned_by path main p long f None e = tt
  cleaned_by path main p long f (Some made) e = let at = current_site kind s hash path p.0 long in ((p.1 ∙ sym at, f made e ∙ sym at), tt, tt)
