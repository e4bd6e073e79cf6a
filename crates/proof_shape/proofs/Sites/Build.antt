-- Sites in BUILD: what it makes has its shape, and what comes after.
use Rattle.std.proofs.Common.{◌≡◌, ℕ, suc, ◌+◌, ◌-◌, ◌*◌, ◌^◌, ◌<◌, ◌≤◌, ◌==◌, true, slice_index_or, List, Option, Some, None, is_some, refl, sym, ap, subst, ◌∙◌, eqb-true, arith}
use Rattle.std.proofs.lemmas.Bool.{false≢true, cond_both}
use Rattle.proof_shape.specs.Vocabulary.{hash_of, HashKind, Ref, Branch, Single, node_at, entry_at, entries_of, next_ref, no_ref, list_depth, index_in, flag_of, parting, pair, rung, Operation}
use Rattle.proof_shape.specs.Vocabulary.{Site, Change, BuildLine, Line, key_of, value_of, State, depth_of, hash_in, flag_in, build_action, build_after, build_if_made, build_after_made, after_single}
use Rattle.proof_shape.specs.Vocabulary.{after_link, changed, old_hash, key_in, at_place, Parts, AllHold, line_wants, site_wants, UpdateLevel, ChangeLevel, BuildLevel, IsShaped, Known, Neighbour}
use Rattle.proof_shape.specs.Vocabulary.{KnowsChange, KnowsBuild}
use Rattle.proof_shape.specs.Vocabulary.{Holds, Is, BranchOrList}
use Rattle.proof_shape.specs.Beneath.proof_contents.proofs.Nodes.Branches.{flagged}
use Rattle.proof_shape.specs.Beneath.proof_contents.proofs.Nodes.Partings.{IsParting, parting_is, pair_parts}
use Rattle.proof_shape.specs.Beneath.machine_model.specs.declared.building.Site.TheVariants as site
use Rattle.proof_shape.specs.Beneath.machine_model.specs.declared.building.Change.TheVariants as change
use Rattle.proof_shape.specs.Beneath.machine_model.specs.declared.building.BuildLine.TheVariants as build
use Rattle.proof_shape.specs.Beneath.machine_model.specs.declared.lines.Line.TheVariants as line
use Rattle.proof_shape.specs.Beneath.proof_memory.proofs.Claims.Uses.{safe_of, meets_of, fact_of, entry_of}
use Rattle.proof_shape.specs.Beneath.proof_memory.proofs.Claims.Named.{main_claim, past_place}
use Rattle.proof_shape.specs.Beneath.proof_memory.proofs.Levels.Shapes.{LineShape}
use Rattle.proof_shape.specs.Beneath.proof_contents.proofs.Shapes.Nodes.{IsBranch, branch_shape}
use Rattle.proof_shape.specs.Beneath.proof_contents.proofs.Shapes.Builders.{pair_shaped, rung_shaped}
use Rattle.proof_shape.specs.Beneath.proof_contents.proofs.Shapes.Lists.{shape_moves}
use Rattle.proof_shape.specs.Sites.Nodes.{path_to, depth_at}
use Rattle.proof_shape.specs.Sites.Lines.{Sites, bare, trie_at, InsideSite, IsOnWay, PlaceSite, UpdateSite, ChangeSite, BuildSite, LineSite}
use Rattle.proof_shape.proofs.Sites.Ways.{on_way, path_longer, path_alike}
use Rattle.proof_shape.proofs.Shaped.Places.{bare_single}
use Rattle.proof_shape.proofs.Sites.Seen.{Sees, branch_seen, entries_seen, current_site}
use Rattle.proof_shape.proofs.Shaped.Changed.{whole_path, EntryIsChild, LinkIsChild, change_shaped}
use Rattle.proof_shape.proofs.Sites.Made.{AtSite, ActionSite, shaped_inside, stands, on_way_child, main_same}

module _ (s : Sites) (fits : (i : Ref) → s.path i < 2 ^ (5 * depth_at (s.level i))) (state : State) (operation : Operation) (S : Ref → Type 0) (N : Sees s state S) where
  abbrev kind : HashKind
  kind = state.limits.hash

  abbrev hash : ℕ
  hash = hash_in state operation

  abbrev Wants : Line → Type 0
  Wants l = AllHold S state.heap (line_wants state.limits.hash operation.call operation.access l)

  -- ---- what is made

  module _ (first : Ref → Ref) (key_fits : key_of operation.call < 2 ^ 64) where
    abbrev K : Known
    K = record { kind = kind; node = s.node; first = first }

    -- where the paths of a neighbour and of the key part
    module _ (path : List Ref) (main : Ref) (position : ℕ) (u : S main) (level : s.level main ≡ depth_of path + 1) (p : PlaceSite kind s hash path main)
        (beside : Neighbour K (depth_of path) (key_of operation.call) main position) where
      deep : depth_at (s.level main) ≡ depth_of path
      deep = omega (arith, level)

      shape : IsShaped (trie_at kind s) main (Branch beside.bitmap beside.entries)
      shape = branch_seen s state S N main beside.bitmap beside.entries u beside.branch.is

      b : IsBranch (trie_at kind s) main beside.bitmap beside.entries
      b = branch_shape (trie_at kind s) main (Branch beside.bitmap beside.entries) beside.bitmap beside.entries shape refl

      -- the neighbour stands at the key's index
      stood : at_place b.places (index_in hash (depth_of path)) ≡ Some (slice_index_or beside.entries.items position no_ref)
      stood =
          flagged beside.bitmap beside.entries.items b.places b.has (index_in hash (depth_of path)) no_ref beside.branch.flagged
          ∙ ap (λ n. Some (slice_index_or beside.entries.items n no_ref)) (sym beside.branch.at)

      shared : path_to (hash_of kind beside.other) (depth_of path) ≡ path_to hash (depth_of path)
      shared =
          subst (λ d. path_to (hash_of kind beside.other) d ≡ s.path main) deep
          (b.led (index_in hash (depth_of path)) beside.other beside.own (slice_index_or beside.entries.items position no_ref) stood (ap bare beside.is)) ∙ p.1

      same_index : index_in (hash_of kind beside.other) (depth_of path) ≡ index_in hash (depth_of path)
      same_index =
          subst (λ d. index_in (hash_of kind beside.other) d ≡ index_in hash (depth_of path)) deep
          (b.in_place (index_in hash (depth_of path)) beside.other beside.own (slice_index_or beside.entries.items position no_ref) stood (ap bare beside.is))

      parted : (depth : ℕ) → depth ≡ parting (list_depth kind - (depth_of path + 1)) (hash_of kind beside.other) hash (depth_of path + 1) →
          path_to (hash_of kind beside.other) depth ≡ path_to hash depth
      parted depth e = subst (λ d. path_to (hash_of kind beside.other) d ≡ path_to hash d) ends
          (path_alike (hash_of kind beside.other) hash (suc (depth_of path)) (depth - suc (depth_of path)) (path_longer (hash_of kind beside.other) hash (depth_of path) shared same_index) alike)
        where
          its : IsParting (list_depth kind - (depth_of path + 1)) (hash_of kind beside.other) hash (depth_of path + 1) depth
          its = subst (IsParting (list_depth kind - (depth_of path + 1)) (hash_of kind beside.other) hash (depth_of path + 1)) (sym e)
              (parting_is (list_depth kind - (depth_of path + 1)) (hash_of kind beside.other) hash (depth_of path + 1))

          ends : suc (depth_of path) + (depth - suc (depth_of path)) ≡ depth
          ends = omega (arith, its.from)

          alike : (e : ℕ) → suc (depth_of path) ≤ e → e < suc (depth_of path) + (depth - suc (depth_of path)) → index_in (hash_of kind beside.other) e ≡ index_in hash e
          alike e le lt = its.alike e (omega (arith, le)) (omega (arith, lt, ends))

      pair_made : (single depth : ℕ) (r : Ref) → s.node single ≡ Single (key_of operation.call) (value_of operation.call) →
          depth ≡ parting (list_depth kind - (depth_of path + 1)) (hash_of kind beside.other) hash (depth_of path + 1) → depth ≤ list_depth kind → beside.other < 2 ^ 64 →
          s.level r ≡ depth + 1 → IsOnWay kind s hash depth r →
          IsShaped (trie_at kind s) r (pair kind depth (hash_of kind beside.other) hash (slice_index_or beside.entries.items position no_ref) single)
      pair_made single depth r new e most other_fits level_r on =
          let here : depth_at (s.level r) ≡ depth = omega (arith, level_r) in
          let led_old = parted depth e in
          let shallow : depth_of path < list_depth kind = omega (arith, b.shallow, deep) in
          subst (λ d. IsShaped (trie_at kind s) r (pair kind d (hash_of kind beside.other) hash (slice_index_or beside.entries.items position no_ref) single)) here
          (pair_shaped (trie_at kind s) fits r beside.other (key_of operation.call) beside.own (value_of operation.call)
          (slice_index_or beside.entries.items position no_ref) single (ap bare beside.is) (ap bare new)
          beside.apart (omega (arith, here, most))
          (subst (Parts kind beside.other (key_of operation.call)) (sym e ∙ sym here) (pair_parts kind beside.other (key_of operation.call) (depth_of path) shallow))
          (ap (path_to (hash_of kind beside.other)) here ∙ led_old ∙ sym on) (ap (path_to hash) here ∙ sym on)
          (λ end. (
            sym (whole_path kind beside.other other_fits) ∙ ap (path_to (hash_of kind beside.other)) (sym end ∙ here) ∙ led_old ∙ sym on,
            sym (whole_path kind (key_of operation.call) key_fits) ∙ ap (path_to hash) (sym end ∙ here) ∙ sym on,
          )))

    entry_child : (path : List Ref) (former : Option ℕ) (entry r : Ref) → s.level r ≡ depth_of path + 1 → IsOnWay kind s hash (depth_of path) r →
        UpdateLevel s.level path former entry → UpdateSite kind s hash path former entry →
        (led : path_to hash (depth_at (s.level r)) ≡ s.path r) → EntryIsChild kind s fits first operation.call r key_fits led former entry
    entry_child path None entry r level on e u led = on_way_child kind s hash (depth_of path) r entry level e on u
    entry_child path (Some value) entry r level on e u led = tt

    link_child : (path : List Ref) (former : Option ℕ) (c : Change) (r : Ref) → s.level r ≡ depth_of path + 1 → IsOnWay kind s hash (depth_of path) r →
        ChangeLevel s.level path former c → ChangeSite kind s hash path former c →
        (led : path_to hash (depth_at (s.level r)) ≡ s.path r) → LinkIsChild kind s fits first operation.call r key_fits led former c
    link_child path former (change.Insert single) r level on e u led = tt
    link_child path former (change.Update position entry) r level on e u led = entry_child path former entry r level on e u led
    link_child path former (change.Remove position) r level on e u led = tt
    link_child path former (change.Entomb other) r level on e u led = tt

    single_fits : (entry : Ref) (k v : ℕ) → S entry → s.node entry ≡ Single k v → (node_at state.heap entry ≡ Single k v) × (k < 2 ^ 64)
    single_fits entry k v u e =
        let is = bare_single (node_at state.heap entry) k v (sym (N.same entry u) ∙ ap bare e) in
        (is, subst (InsideSite kind s entry) is (N.inside entry u))

    main_made : (path : List Ref) (main : Ref) (former : Option ℕ) (c : Change) (r : Ref) → Holds S state.heap (Is main BranchOrList) → BuildLevel s.level (build.Main path main c former) →
        BuildSite kind s hash (build.Main path main c former) → KnowsChange K operation.call (depth_of path) main former c → s.level r ≡ depth_of path + 1 → IsOnWay kind s hash (depth_of path) r →
        IsShaped (trie_at kind s) r (changed (flag_in state operation path) (node_at state.heap main) c)
    main_made path main former c r at e p knows level_r on =
        let n = node_at state.heap main in
        let both = main_same s state S N main (safe_of at) n refl (meets_of at) in
        let here : depth_at (s.level r) ≡ depth_of path = omega (arith, level_r) in
        let led : path_to hash (depth_at (s.level r)) ≡ s.path r = ap (path_to hash) here ∙ sym on in
        subst (λ d. IsShaped (trie_at kind s) r (changed (flag_of hash d) n c)) here
        (change_shaped kind s fits first operation.call r key_fits led main former c n both.0
        (shape_moves (trie_at kind s) main r n (stands kind s main r (level_r ∙ sym e.0.1) (on ∙ sym p.0.1)) both.1)
        (subst (λ d. KnowsChange K operation.call d main former c) (sym here) knows) (link_child path former c r level_r on e.1 p.1 led))

    pub build_makes : (l : BuildLine) → Wants (line.Build l) → BuildLevel s.level l → LineShape (list_depth kind) (line.Build l) → BuildSite kind s hash l → KnowsBuild K operation.call l →
        ActionSite kind s (AtSite s state operation (line.Build l)) (build_action state operation l)
    build_makes (build.Single path main where_ former) h e g p knows = λ r at. key_fits
    build_makes (build.Pair path main position single depth) h e g p (inserts, (beside, new, is_depth)) = λ r at.
        let entry_is : entry_at state.heap main position ≡ slice_index_or beside.entries.items position no_ref =
        ap (λ es. slice_index_or es position no_ref) (entries_seen s state S N main (safe_of (main_claim h)) ∙ ap entries_of beside.branch.is) in
        let other = single_fits (entry_at state.heap main position) beside.other beside.own (entry_of (past_place h).0).0 (ap s.node entry_is ∙ beside.is) in
        let here : depth_at (depth + 1) ≡ depth = omega arith in
        shaped_inside kind s r _
        (subst (λ x. IsShaped (trie_at kind s) r (pair kind depth (old_hash state main position) hash x single)) (sym entry_is)
        (subst (λ x. IsShaped (trie_at kind s) r (pair kind depth x hash (slice_index_or beside.entries.items position no_ref) single)) (sym (ap (λ n. hash_of kind (key_in n)) other.0))
        (pair_made path main position (safe_of (main_claim h)) e.0.1 p beside single depth r new is_depth g other.1 at.0 (at.1 ∙ ap (path_to hash) here))))
    build_makes (build.Link path main position below depth) h e g p knows = λ r at.
        let here : depth_at (depth + 1) ≡ depth = omega arith in
        p.1 ∙ sym (at.1 ∙ ap (path_to hash) here)
    build_makes (build.Rung path main position below depth) h e g p (inserts, (beside, single, new, leads, less, alike)) = λ r at.
        let same : depth_at (depth + 1) ≡ depth = omega arith in
        let here : depth_at (s.level r) ≡ depth = ap depth_at at.0 ∙ same in
        let on : IsOnWay kind s hash depth r = at.1 ∙ ap (path_to hash) same in
        subst (λ d. IsShaped (trie_at kind s) r (rung hash d below)) here
        (rung_shaped (trie_at kind s) fits r (key_of operation.call) 0 below no_ref (omega (arith, here, g)) (ap bare leads.0.2) (on_way_child kind s hash depth r below at.0 e.2 on p.1))
    build_makes (build.Main path main c former) h e g p knows = λ r at.
        let here : depth_at (depth_of path + 1) ≡ depth_of path = omega arith in
        shaped_inside kind s r _
        (main_made path main former c r (main_claim h) e p knows at.0 (at.1 ∙ ap (path_to hash) here))

  -- ---- what comes after

  abbrev Made : Line → Type 0
  Made l = (made : Ref) → next_ref state.heap ≡ Some made → AtSite s state operation l made

  build_by : (l : BuildLine) → ((made : Ref) → next_ref state.heap ≡ Some made → LineSite kind s hash (build_after_made state operation l made)) → (o : Option Ref) →
      next_ref state.heap ≡ o → LineSite kind s hash (build_if_made state operation l o)
  build_by l f None e = tt
  build_by l f (Some made) e = f made e

  updated_so : (path : List Ref) (former : Option ℕ) (made : Ref) → is_some former ≡ true → UpdateSite kind s hash path former made
  updated_so path None made e = absurd (false≢true e)
  updated_so path (Some value) made e = tt

  single_next : (path : List Ref) (main : Ref) (former : Option ℕ) (where_ : Site) (made : Ref) → AllHold S state.heap (site_wants main former where_) →
      PlaceSite kind s hash path main → LineSite kind s hash (after_single state operation path main former where_ made)
  single_next path main former site.Absent made h p = (p, tt)
  single_next path main former (site.At position) made h p = (p, updated_so path former made (fact_of h.0))
  single_next path main former (site.Beside position) made h p = p

  link_next : (path : List Ref) (main : Ref) (position depth : ℕ) (made : Ref) → PlaceSite kind s hash path main → depth_of path + 1 ≤ depth → IsOnWay kind s hash depth made →
      LineSite kind s hash (after_link path main position depth made)
  link_next path main position depth made p le e =
      let back : depth ≡ depth - 1 + 1 = omega arith in
      cond_both (depth == depth_of path + 1) _ _ (LineSite kind s hash) (λ t. (p, e ∙ ap (path_to hash) (eqb-true depth (depth_of path + 1) t))) (λ t. (p, e ∙ ap (path_to hash) back))

  pub build_next : (l : BuildLine) → Wants (line.Build l) → BuildLevel s.level l → BuildSite kind s hash l → Made (line.Build l) → LineSite kind s hash (build_after state operation l)
  build_next (build.Single path main where_ former) h e p m =
      build_by (build.Single path main where_ former) (λ made n. single_next path main former where_ made (past_place h) p) (next_ref state.heap) refl
  build_next (build.Pair path main position single depth) h e p m =
      build_by (build.Pair path main position single depth) (λ made n. (p, on_way s kind hash depth made (m made n).1)) (next_ref state.heap) refl
  build_next (build.Link path main position below depth) h e p m =
      build_by (build.Link path main position below depth) (λ made n. link_next path main position depth made p.0 e.1 (on_way s kind hash depth made (m made n).1)) (next_ref state.heap) refl
  build_next (build.Rung path main position below depth) h e p m =
      build_by (build.Rung path main position below depth) (λ made n. (p.0, on_way s kind hash depth made (m made n).1)) (next_ref state.heap) refl
  build_next (build.Main path main c former) h e p m =
      build_by (build.Main path main c former)
      (λ made n.
      let at = current_site kind s hash path p.0.0 (fact_of h.1.0) in
      ((p.0.1 ∙ sym at, on_way s kind hash (depth_of path) made (m made n).1 ∙ sym at), tt, (p.0.0, refl))) (next_ref state.heap) refl
