-- What a state shows of sites, and what READ gives: it stays on the path.
use Rattle.std.proofs.Common.{◌≡◌, ℕ, ◌+◌, ◌-◌, ◌<◌, ◌==◌, Bool, true, false, nat_lt, List, ◌∷◌, ◌++◌, length, get_or, sym, ap, subst, ◌∙◌, inl, inr, ltb-true, arith, []}
use Rattle.std.proofs.lemmas.Bool.{cases_lt, false≢true}
use Rattle.std.proofs.lemmas.List.{get_or-take, get_or_append_left, get_or_push, length-take-le, length-append}
use Rattle.arrayvec.specs.ArrayVec.{ArrayVec}
use Rattle.proof_shape.specs.Vocabulary.{IsShaped, HashKind, Access, Writable, ReadOnly, Ref, Node, Indirection, Branch, Prev, node_at, prev_at, main_at, main_of, entries_of, bitmap_of, no_ref}
use Rattle.proof_shape.specs.Vocabulary.{After, Gives, ReadLine, RootWord, Plain, Offer, current, above, depth_of, is_below_root, State, Verdict, Commits, Fails, Overtaken, read_after, after_prev}
use Rattle.proof_shape.specs.Vocabulary.{after_ask, after_decide, after_restore, verdict, AnIndirection, meets, Is, Holds, AllHold, read_wants, NodeLevel, PrevLevel}
use Rattle.proof_shape.specs.Beneath.slot_arena.specs.declared.nodes.Prev.TheVariants as prev
use Rattle.proof_shape.specs.Beneath.machine_model.specs.declared.reading.After.TheVariants.{Goes}
use Rattle.proof_shape.specs.Beneath.machine_model.specs.declared.reading.ReadLine.TheVariants as read
use Rattle.proof_shape.specs.Beneath.proof_memory.specs.Wants.{is_indirection}
use Rattle.proof_shape.specs.Beneath.proof_memory.proofs.Claims.Uses.{safe_of, meets_of}
use Rattle.proof_shape.specs.Sites.Lines.{Sites, bare, trie_at, InsideSite, PrevSite, ReadSite, IsOnWay, PathSite}
use Rattle.proof_shape.specs.Sites.Nodes.{path_to}
use Rattle.proof_shape.proofs.Shaped.Places.{bare_bitmap, bare_branch, entries_alike, link_alike}

-- of the references that are in use
pub record Sees (s : Sites) (state : State) (S : Ref → Type 0) : Type 0 where
  pub same : (r : Ref) → S r → bare (s.node r) ≡ bare (node_at state.heap r)
  pub inside : (r : Ref) → S r → InsideSite state.limits.hash s r (node_at state.heap r)
  pub before : (r : Ref) → S r → PrevSite state.limits.hash s r (prev_at state.heap r)
  pub levels : (r : Ref) → S r → NodeLevel s.level r (node_at state.heap r) × PrevLevel s.level r (prev_at state.heap r)

module _ (s : Sites) (state : State) (S : Ref → Type 0) (N : Sees s state S) where
  abbrev kind : HashKind
  kind = state.limits.hash

  pub entries_seen : (r : Ref) → S r → entries_of (node_at state.heap r) ≡ entries_of (s.node r)
  entries_seen r u = entries_alike (s.node r) (node_at state.heap r) (N.same r u)

  pub bitmap_seen : (r : Ref) → S r → bitmap_of (node_at state.heap r) ≡ bitmap_of (s.node r)
  bitmap_seen r u = sym (bare_bitmap (node_at state.heap r)) ∙ ap bitmap_of (sym (N.same r u)) ∙ bare_bitmap (s.node r)

  pub link_seen : (r : Ref) → S r → is_indirection (s.node r) ≡ is_indirection (node_at state.heap r)
  link_seen r u = link_alike (s.node r) (node_at state.heap r) (N.same r u)

  -- a main node has its shape
  pub branch_seen : (r : Ref) (b : ℕ) (es : ArrayVec Ref) → S r → s.node r ≡ Branch b es → IsShaped (trie_at kind s) r (Branch b es)
  branch_seen r b es u e = subst (InsideSite kind s r) (bare_branch (node_at state.heap r) b es (sym (N.same r u) ∙ ap bare e)) (N.inside r u)

  -- ---- READ

  main_by : (i : Ref) (node : Node) → meets AnIndirection node ≡ true → InsideSite kind s i node → s.path (main_of node) ≡ s.path i
  main_by i (Indirection g m) e n = n
  main_by i node e n = absurd (false≢true e)

  main_site : (i : Ref) → Holds S state.heap (Is i AnIndirection) → s.path (main_at state.heap i) ≡ s.path i
  main_site i h = main_by i (node_at state.heap i) (meets_of h) (N.inside i (safe_of h))

  abbrev pub AfterSite : Ref → After ReadLine Ref → Type 0
  AfterSite i (Goes l) = ReadSite kind s i l
  AfterSite i (Gives main) = s.path main ≡ s.path i

  prev_next : (access : Access) (i main : Ref) (p : Prev) → PrevSite kind s main p → s.path main ≡ s.path i → AfterSite i (after_prev access main p)
  prev_next access i main prev.None p e = e
  prev_next access i main (prev.Failed previous) p e = p ∙ e
  prev_next Writable i main (prev.Pending previous) p e = (e, p ∙ e)
  prev_next ReadOnly i main (prev.Pending previous) p e = (e, p ∙ e)

  ask_next : (i main previous : Ref) (word : RootWord) → (s.path main ≡ s.path i) × (s.path previous ≡ s.path i) → AfterSite i (after_ask state.heap main previous word)
  ask_next i main previous (Plain r) p = p
  ask_next i main previous (Offer offer) p = p

  decide_next : (i main : Ref) (v : Verdict) → s.path main ≡ s.path i → AfterSite i (after_decide main v)
  decide_next i main Commits e = e
  decide_next i main Fails e = tt
  decide_next i main (Overtaken true) e = e
  decide_next i main (Overtaken false) e = tt

  restore_next : (i previous : Ref) (b : Bool) → s.path previous ≡ s.path i → AfterSite i (after_restore previous b)
  restore_next i previous true e = e
  restore_next i previous false e = tt

  pub read_next : (access : Access) (word : RootWord) (i : Ref) (l : ReadLine) → AllHold S state.heap (read_wants i l) → ReadSite kind s i l → AfterSite i (read_after state.heap access word i l)
  read_next access word i read.Main h e = main_site i h.0
  read_next access word i (read.Prev main) h e = prev_next access i main (prev_at state.heap main) (N.before main (safe_of h.1.0)) e
  read_next access word i (read.AskRoot main previous) h e = ask_next i main previous word e
  read_next access word i (read.Abort main previous offer) h e = e
  read_next access word i (read.Decide main previous told) h e = decide_next i main (verdict state.heap i main previous told) e.0
  read_next access word i (read.Restore main previous) h e = restore_next i previous (main_at state.heap i == main) e

-- ---- paths

module _ (kind : HashKind) (s : Sites) (hash : ℕ) where
  pub current_site : (path : List Ref) → PathSite kind s hash path → nat_lt 0 (length path) ≡ true → IsOnWay kind s hash (depth_of path) (current path)
  current_site path p long = let some : 0 < length path = ltb-true 0 (length path) long in p (length path - 1) no_ref (omega arith)

  pub above_site : (path : List Ref) → PathSite kind s hash path → PathSite kind s hash (above path)
  above_site path p k d within =
      let below : k < length path - 1 = omega (arith, length-take-le (length path - 1) path (omega arith)) in
      ap s.path (get_or-take (length path - 1) path k d below) ∙ p k d (omega arith)

  pub pushed_site : (path : List Ref) (below : Ref) → PathSite kind s hash path → IsOnWay kind s hash (length path) below → PathSite kind s hash (path ++ below ∷ [])
  pushed_site path below p e k d within = elim (cases_lt k (length path)) [
    | inl inside ↦ ap s.path (get_or_append_left path (below ∷ []) d k inside) ∙ p k d inside
    | inr past ↦ at_end (omega (arith, length-append path (below ∷ [])))
  ]
    where
      at_end : k ≡ length path → IsOnWay kind s hash k (get_or (path ++ below ∷ []) k d)
      at_end is = ap s.path (get_or_push path below d k (sym is)) ∙ e ∙ ap (λ n. path_to hash n) (sym is)

  -- one level up
  pub above_depth : (path : List Ref) → is_below_root path ≡ true → depth_of path ≡ depth_of (above path) + 1
  above_depth path long = let two : 1 < length path = ltb-true 1 (length path) long in omega (arith, length-take-le (length path - 1) path (omega arith))
