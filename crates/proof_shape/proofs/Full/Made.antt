-- What a line makes below the root is neither an empty branch nor one with one single alone.
use Rattle.std.proofs.Common.{◌≡◌, ℕ, ◌+◌, ◌≤◌, ◌==◌, ◌&&◌, Bool, true, false, List, [], ◌∷◌, All, length, take, slice_index_or, Option, inl, inr, refl, sym, ap, subst, ◌∙◌, lt-ltb, arith}
use Rattle.std.proofs.lemmas.Bool.{false≢true, cond_both}
use Rattle.std.proofs.lemmas.List.Elements.{All-head}
use Rattle.arrayvec.specs.ArrayVec.{ArrayVec}
use Rattle.proof_shape.specs.Vocabulary.{HashKind, Call, Ref, Node, Indirection, Branch, Single, Tomb, List as Listed, node_at, entries_of, bitmap_of, no_ref, list_depth, index_in, pair, contracted}
use Rattle.proof_shape.specs.Vocabulary.{renewed, Action, Change, key_of, State, depth_of, is_below_root, changed, is_single, leaves_single, cleaned, ABranch, AnEntry, meets, Presence, in_list}
use Rattle.proof_shape.specs.Vocabulary.{KnowsChange}
use Rattle.proof_shape.specs.Beneath.machine_model.specs.declared.actions.Action.TheVariants as act
use Rattle.proof_shape.specs.Beneath.machine_model.specs.declared.building.Change.TheVariants as change
use Rattle.proof_shape.specs.Beneath.proof_memory.specs.Wants.{is_indirection}
use Rattle.proof_shape.specs.Beneath.proof_memory.proofs.Claims.Uses.{Meets}
use Rattle.proof_shape.specs.Beneath.proof_contents.specs.Lines.Changes.{in_branch}
use Rattle.proof_shape.specs.Sites.Lines.{Sites, bare}
use Rattle.proof_shape.proofs.Shaped.Places.{bare_branch, bare_link}
use Rattle.proof_shape.proofs.Full.Lines.{SparesLink, KeepsLinks}
use Rattle.proof_shape.proofs.Full.Lists.{IsFull, IsSingleAt, two, alone, full_taken, full_inserted, full_set, full_removed, full_pair, full_kept}

module _ (s : Sites) where
  -- a branch below the root's level
  abbrev pub FullNode : ℕ → Node → Type 0
  FullNode level (Branch bitmap entries) = 2 ≤ level → IsFull s.node entries.items
  FullNode level n = Unit {0}

  abbrev pub ActionFull : ℕ → Action → Type 0
  ActionFull level (act.Make node) = FullNode level node
  ActionFull level action = Unit {0}

  -- ---- by what is known of it

  pub pair_full : (kind : HashKind) (level depth a b : ℕ) (x y : Ref) → FullNode level (pair kind depth a b x y)
  pair_full kind level depth a b x y = cond_both (depth == list_depth kind) _ _ (FullNode level) (λ e. tt) (λ e below. full_pair s.node (index_in a depth) (index_in b depth) x y)

  -- a single was there, or the key's or another's
  single_at : (kind : HashKind) (first : Ref → Ref) (depth key position value b : ℕ) (main : Ref) (es : ArrayVec Ref) →
      Presence (record { kind = kind; node = s.node; first = first }) depth key main position value →
      s.node main ≡ Branch b es → IsSingleAt s.node es.items position
  single_at kind first depth key position value b main es (in_branch c xs f was) is =
      let both : Branch c xs ≡ Branch b es = sym f.is ∙ is in
      let same : xs ≡ es = cc in
      (key, value, subst (λ (ys : ArrayVec Ref). s.node (slice_index_or ys.items position no_ref) ≡ Single key value) same was)
  single_at kind first depth key position value b main es (in_list ss its lt was) is = absurd (let bad : Listed ss ≡ Branch b es = sym its ∙ is in cc)

  branch_changed : (kind : HashKind) (first : Ref → Ref) (call : Call) (path : List Ref) (main : Ref) (former : Option ℕ) (c : Change) (flag b : ℕ) (es : ArrayVec Ref) → s.node main ≡ Branch b es →
      KnowsChange (record { kind = kind; node = s.node; first = first }) call (depth_of path) main former c → ((position : ℕ) → c ≡ change.Remove position → SparesLink s path main position) →
      (2 ≤ depth_of path + 1 → IsFull s.node es.items) → FullNode (depth_of path + 1) (changed flag (Branch b es) c)
  branch_changed kind first call path main former (change.Insert single) flag b es is knows spares old = λ below. full_taken s.node _ (full_inserted s.node es.items _ single (old below))
  branch_changed kind first call path main former (change.Update position entry) flag b es is (inl (value, was, sets, there, new)) spares old =
      λ below. full_taken s.node _ (full_set s.node es.items position entry (old below) (single_at kind first (depth_of path) (key_of call) position value b main es there is))
  branch_changed kind first call path main former (change.Update position entry) flag b es is (inr (inserts, (beside, single, new, leads))) spares old =
      let both : Branch beside.bitmap beside.entries ≡ Branch b es = sym beside.branch.is ∙ is in
      let same : beside.entries ≡ es = cc in
      λ below. full_taken s.node _ (full_set s.node es.items position entry (old below)
      (beside.other, beside.own, subst (λ (ys : ArrayVec Ref). s.node (slice_index_or ys.items position no_ref) ≡ Single beside.other beside.own) same beside.is))
  branch_changed kind first call path main former (change.Remove position) flag b es is (value, was, removes, there) spares old =
      λ below. full_taken s.node _ (full_removed s.node es.items position (old below) (single_at kind first (depth_of path) (key_of call) position value b main es there is)
      (λ pair. spares position refl (lt-ltb 1 (length path) (omega (arith, below))) b es is pair))
  branch_changed kind first call path main former (change.Entomb single) flag b es is knows spares old = tt

  list_changed : (level flag : ℕ) (ss : ArrayVec Ref) (c : Change) → FullNode level (changed flag (Listed ss) c)
  list_changed level flag ss (change.Insert single) = tt
  list_changed level flag ss (change.Update position entry) = tt
  list_changed level flag ss (change.Remove position) = tt
  list_changed level flag ss (change.Entomb single) = tt

  -- what BUILD swaps in
  pub change_full : (kind : HashKind) (first : Ref → Ref) (call : Call) (path : List Ref) (main : Ref) (former : Option ℕ) (c : Change) (flag : ℕ) (n : Node) → bare (s.node main) ≡ bare n →
      KnowsChange (record { kind = kind; node = s.node; first = first }) call (depth_of path) main former c → ((position : ℕ) → c ≡ change.Remove position → SparesLink s path main position) →
      FullNode (depth_of path + 1) n → FullNode (depth_of path + 1) (changed flag n c)
  change_full kind first call path main former c flag (Branch b es) same knows spares old =
      branch_changed kind first call path main former c flag b es (bare_branch (s.node main) b es same) knows spares old
  change_full kind first call path main former c flag (Listed ss) same knows spares old = list_changed (depth_of path + 1) flag ss c
  change_full kind first call path main former c flag (Indirection g w) same knows spares old = tt
  change_full kind first call path main former c flag (Single k v) same knows spares old = tt
  change_full kind first call path main former c flag (Tomb t) same knows spares old = tt

  -- ---- repairs

  -- the entries of the branch that is repaired
  pub entries_full : (level : ℕ) (main : Ref) (n : Node) → bare (s.node main) ≡ bare n → meets ABranch n ≡ true → FullNode level n → 2 ≤ level → IsFull s.node (entries_of (s.node main))
  entries_full level main (Branch b es) same is old below = subst (IsFull s.node) (sym (ap entries_of (bare_branch (s.node main) b es same))) (old below)
  entries_full level main n same is old below = absurd (false≢true is)

  pub renewed_full : (level bitmap : ℕ) (main : Ref) (done : List Ref) → (2 ≤ level → IsFull s.node (entries_of (s.node main))) →
      length done ≡ length (entries_of (s.node main)) → KeepsLinks s main done →
      FullNode level (renewed bitmap done)
  renewed_full level bitmap main done old count k = λ below. full_taken s.node done (full_kept s.node (entries_of (s.node main)) done (old below) count k)

  -- what isn't a single is an indirection
  rest_link : (n : Node) → meets AnEntry n ≡ true → is_single n ≡ false → is_indirection n ≡ true
  rest_link (Indirection g w) e other = refl
  rest_link (Single k v) e other = absurd (false≢true (sym other))
  rest_link (Branch b es) e other = absurd (false≢true e)
  rest_link (Tomb t) e other = absurd (false≢true e)
  rest_link (Listed ss) e other = absurd (false≢true e)

  module _ (state : State) (S : Ref → Type 0) (same : (r : Ref) → S r → bare (s.node r) ≡ bare (node_at state.heap r)) where
    one_left : (level bitmap : ℕ) (below : Bool) (entry : Ref) → (2 ≤ level → below ≡ true) → Meets S state.heap AnEntry entry →
        FullNode level (contracted (below && is_single (node_at state.heap entry)) bitmap (entry ∷ []))
    one_left level bitmap below entry is_below m = by_test (below && is_single (node_at state.heap entry)) refl
      where
        other_link : 2 ≤ level → (below && is_single (node_at state.heap entry)) ≡ false → is_indirection (s.node entry) ≡ true
        other_link deep e =
            let other : is_single (node_at state.heap entry) ≡ false = sym (ap (λ b. b && is_single (node_at state.heap entry)) (is_below deep)) ∙ e in
            sym (bare_link (s.node entry)) ∙ ap is_indirection (same entry m.0) ∙ bare_link (node_at state.heap entry) ∙ rest_link (node_at state.heap entry) m.1 other

        by_test : (t : Bool) → (below && is_single (node_at state.heap entry)) ≡ t → FullNode level (contracted t bitmap (entry ∷ []))
        by_test true e = tt
        by_test false e = λ deep. alone s.node entry (other_link deep e)

    many_left : (level bitmap : ℕ) (may : Bool) (x y : Ref) (es : List Ref) → FullNode level (contracted may bitmap (x ∷ y ∷ es))
    many_left level bitmap true x y es = λ below. two s.node x y (take 30 es)
    many_left level bitmap false x y es = λ below. two s.node x y (take 30 es)

    -- what CLEAN makes
    pub cleaned_full : (level : ℕ) (path : List Ref) (main : Ref) (done : List Ref) → (2 ≤ level → is_below_root path ≡ true) → (2 ≤ level → 1 ≤ length done) → All (Meets S state.heap AnEntry) done →
        FullNode level (cleaned state path main done)
    cleaned_full level path main [] is_below some all = by_test (is_below_root path && leaves_single state [])
      where
        by_test : (t : Bool) → FullNode level (contracted t (bitmap_of (node_at state.heap main)) [])
        by_test true = λ below. absurd (omega (arith, some below))
        by_test false = λ below. absurd (omega (arith, some below))
    cleaned_full level path main (entry ∷ []) is_below some all =
        one_left level (bitmap_of (node_at state.heap main)) (is_below_root path) entry is_below (All-head (Meets S state.heap AnEntry) entry [] all)
    cleaned_full level path main (x ∷ y ∷ es) is_below some all = many_left level (bitmap_of (node_at state.heap main)) (is_below_root path && leaves_single state (x ∷ y ∷ es)) x y es

    -- what CLIMB makes
    pub climbed_full : (level bitmap : ℕ) (may : Bool) (es : List Ref) → (2 ≤ level → may ≡ true) → (2 ≤ level → 1 ≤ length es) → FullNode level (contracted may bitmap es)
    climbed_full level bitmap true [] is_below some = λ below. absurd (omega (arith, some below))
    climbed_full level bitmap false [] is_below some = λ below. absurd (omega (arith, some below))
    climbed_full level bitmap true (x ∷ []) is_below some = tt
    climbed_full level bitmap false (x ∷ []) is_below some = λ below. absurd (false≢true (is_below below))
    climbed_full level bitmap may (x ∷ y ∷ es) is_below some = many_left level bitmap may x y es
