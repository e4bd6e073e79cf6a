-- At each time of a run each line of BUILD holds a new single, or what leads to one, and so does the fresh node of a change.
use Rattle.std.proofs.Common.{◌≡◌, ℕ, suc, ◌-◌, ◌<◌, ◌⊎◌, Bool, true, false, List, Contains, length, Option, Some, is_some, take, set, inl, inr, refl, sym, ◌∙◌, ap, subst, arith}
use Rattle.std.specs.Prelude.{slice_index_or}
use Rattle.std.proofs.lemmas.Bool.{true≢false}
use Rattle.std.proofs.lemmas.List.Elements.{Contains-get_or}
use Rattle.proof_owned.specs.Beneath.proof_memory.specs.Laws.{IsInUse}
use Rattle.arrayvec.specs.ArrayVec.{ArrayVec}
use Rattle.proof_shape.specs.Vocabulary.{Ref, Node, Indirection, Branch, Single, Heap, node_at, entry_at, entries_of, next_ref, no_ref, rung, pair}
use Rattle.proof_shape.specs.Vocabulary.{BuildLine, Change, Line, Purpose, Operation, Bounds, State, key_of}
use Rattle.proof_shape.specs.Vocabulary.{depth_of, start_of, flag_in, hash_in, changed, old_hash, line_action, action_of, node_under, IsRun, value_of, CopyLine, WalkLine}
use Rattle.proof_shape.specs.Vocabulary.{RenewLine, CleanLine, ClimbLine, Climb, RootLine, KeyLine, Swap, SwapLine, Call}
use Rattle.proof_owned.specs.Beneath.machine_model.specs.declared.actions.Action.TheVariants as act
use Rattle.proof_owned.specs.Beneath.machine_model.specs.declared.building.BuildLine.TheVariants as build
use Rattle.proof_owned.specs.Beneath.machine_model.specs.declared.building.Change.TheVariants as change
use Rattle.proof_owned.specs.Beneath.machine_model.specs.declared.building.Site.TheVariants as site
use Rattle.proof_owned.specs.Beneath.machine_model.specs.declared.lines.Line.TheVariants as line
use Rattle.proof_owned.specs.Beneath.machine_model.specs.declared.lines.Purpose.TheVariants as purpose
use Rattle.proof_owned.specs.Beneath.machine_model.specs.Edges.Building.{BuildEdge, SwappedEdge, SwapEdge}
use Rattle.proof_owned.specs.Beneath.machine_model.specs.Edges.Key.{FoundEdge, KeyEdge}
use Rattle.proof_owned.specs.Beneath.machine_model.specs.Edges.Lines.{Edge, of_root, of_key, of_build, of_swap, of_renew, of_clean, of_climb, of_copy, of_walk, stays, strays}
use Rattle.proof_owned.specs.Beneath.machine_model.specs.Edges.Repairs.{RenewNext, RenewEdge, CleanNext, CleanEdge, ClimbingEdge, ClimbEdge}
use Rattle.proof_owned.specs.Beneath.machine_model.specs.Edges.Roots.{RootEdge, CopyEdge}
use Rattle.proof_owned.specs.Beneath.machine_model.specs.Edges.Walking.{WalkNext, WalkEdge}
use Rattle.proof_owned.specs.Beneath.machine_model.proofs.Edges.Lines.{edge}
use Rattle.proof_owned.specs.Beneath.proof_memory.proofs.Claims.Nodes.{main_no_link, both_main, branch_main}
use Rattle.proof_owned.specs.Beneath.proof_memory.proofs.Claims.Uses.{meets_of}
use Rattle.proof_owned.specs.Beneath.proof_memory.proofs.Lines.Next.{pair_no_link, changed_main}
use Rattle.proof_owned.specs.Beneath.proof_memory.specs.Wants.{ABranch, BranchOrList, Is, Holds, meets, is_indirection}
use Rattle.proof_owned.specs.Beneath.proof_contents.specs.Lines.Changes.{Known, KnowsLine, KnowsBuild, KnowsChange, IsOther, of_branch, of_list}
use Rattle.proof_owned.specs.Beneath.proof_contents.specs.Runs.{is_made}
use Rattle.proof_owned.specs.Beneath.history.specs.declared.calls.Call.TheVariants.{Close, Entries, Count}
use Rattle.proof_owned.specs.Beneath.machine_model.specs.Climbing.{higher}
use Rattle.proof_owned.specs.Beneath.machine_model.specs.Operations.{first_line}
use Rattle.proof_owned.specs.Beneath.slot_arena.specs.declared.nodes.Node.TheVariants.{Tomb, List as Listed}
use Rattle.proof_owned.specs.Beneath.slot_arena.specs.Heaps.{main_of, node_of}
use Rattle.proof_owned.specs.Beneath.proof_commits.specs.Protocol.{Builds}
use Rattle.proof_owned.specs.Beneath.proof_commits.specs.Stages.{stage_of, stage_of_actor}
use Rattle.proof_owned.specs.Beneath.proof_commits.proofs.Known.Acts.{known_run}
use Rattle.proof_owned.specs.Beneath.proof_commits.proofs.Known.Owners.{Staged}
use Rattle.proof_owned.specs.Beneath.proof_commits.proofs.Known.Sounds.{sound_at}
use Rattle.proof_owned.specs.Beneath.proof_commits.proofs.Words.Along.{protocol}
use Rattle.proof_owned.specs.Beneath.proof_commits.proofs.Words.Stood.{Private}
use Rattle.proof_shape.specs.Lines.Knowing.{known_with, first_main, OfEachAt}
use Rattle.proof_shape.proofs.Held.Fresh.{Names}
use Rattle.proof_shape.proofs.Lines.Key.{claims}
use Rattle.proof_shape.proofs.Lines.Knows.{knows_at}
use Rattle.proof_shape.proofs.Runs.EachAt.{GoesAt}
use Rattle.proof_shape.proofs.Runs.Entries.{IsBrought, changed_entries, one_entry, pair_entries}
use Rattle.proof_shape.proofs.Runs.Nodes.{made_link, made_node, takes, first_is, prev_still}
use Rattle.proof_shape.proofs.Runs.Seen.{main_seen}
use Rattle.proof_shape.proofs.Runs.Takers.{taker, each_with}
use Rattle.proof_owned.proofs.SinglesNew.{IsLatest, IsFirst, IsBuilt, IsBeside, ends, goes_on, entry_in, IsMoved, IsChanged, Carries, carries_still}

module _ {limits : Bounds} {states : ℕ → State} {last : ℕ} (run : IsRun limits states last) where
  -- ---- the own step

  module _ (t : ℕ) (h : t < last) (actor : ℕ) (operation : Operation) (go : GoesAt states run.records t actor operation) (takes_it : taker run t ≡ actor) where
    abbrev heap : Heap
    heap = (states t).heap

    abbrev K : Known
    K = known_with limits states last (first_main states last)

    abbrev Next : Line → Type 0
    Next l = Carries run (suc t) actor l

    acts : (l : BuildLine) → operation.line ≡ line.Build l → action_of (states t) operation ≡ line_action (states t) operation (line.Build l)
    acts l e = ap (line_action (states t) operation) e

    knows : (l : BuildLine) → operation.line ≡ line.Build l → KnowsBuild K operation.call l
    knows l e = subst (λ x. KnowsLine K operation.call x) e (knows_at run t (omega arith) actor operation go.runs)

    module _ (l : BuildLine) (e : operation.line ≡ line.Build l) (n : Node) (a : line_action (states t) operation (line.Build l) ≡ act.Make n) (made : Ref) (next : next_ref heap ≡ Some made) where
      was_unmade : is_made states t made ≡ false
      was_unmade = ap is_some (takes run t h actor operation go n (acts l e ∙ a) made next).new

      is_made_now : is_made states (suc t) made ≡ true
      is_made_now = ap is_some (takes run t h actor operation go n (acts l e ∙ a) made next).here

    single_latest : (path : List Ref) (main : Ref) (s : _) (former : Option ℕ) → operation.line ≡ line.Build (build.Single path main s former) → (made : Ref) → next_ref heap ≡ Some made →
        IsLatest run (suc t) actor made
    single_latest path main s former e made next = record {
      at = t;
      past = omega arith;
      before = was_unmade _ e _ refl made next;
      after = is_made_now _ e _ refl made next;
      takes = takes_it;
      nothing = λ u low below it n b a. omega (arith, low, below);
      single = (
        key_of operation.call,
        value_of operation.call,
        made_node run t h actor operation go (Single (key_of operation.call) (value_of operation.call)) (acts _ e) made next
            (λ g w bad. let wrong : Single (key_of operation.call) (value_of operation.call) ≡ Indirection g w = bad in let no : ⊥ = cc wrong in no),
      );
    }

    first_now : (l : BuildLine) (e : operation.line ≡ line.Build l) (n : Node) (a : line_action (states t) operation (line.Build l) ≡ act.Make n) (made : Ref) → next_ref heap ≡ Some made →
        (s : Ref) → IsLatest run t actor s → IsFirst run made s
    first_now l e n a made next s latest = record {
      at = t;
      within = h;
      before = was_unmade l e n a made next;
      after = is_made_now l e n a made next;
      latest = subst (λ k. IsLatest run t k s) (sym takes_it) latest;
    }

    -- the pair of the older single and the new one
    pair_beside : (path : List Ref) (main : Ref) (position : ℕ) (single : Ref) (depth : ℕ) (e : operation.line ≡ line.Build (build.Pair path main position single depth)) →
        IsLatest run t actor single → (made : Ref) → next_ref heap ≡ Some made → IsBeside run (entry_in run main position) made
    pair_beside path main position single depth e latest made next = ends made (λ y names. by y (of_pair y (subst (λ n. Contains (entries_of n) y) is names)))
      where
        n : Node
        n = pair (states t).limits.hash depth (old_hash (states t) main position) (hash_in (states t) operation) (entry_at heap main position) single

        of_pair : (y : Ref) → Contains (entries_of n) y → (y ≡ entry_at heap main position) ⊎ (y ≡ single)
        of_pair y among =
            pair_entries (states t).limits.hash depth (old_hash (states t) main position) (hash_in (states t) operation) (entry_at heap main position) single y among

        is : node_under states last made ≡ n
        is =
            made_node run t h actor operation go n (acts _ e) made next
            (pair_no_link (states t).limits.hash depth (old_hash (states t) main position) (hash_in (states t) operation) (entry_at heap main position) single)

        there : node_at heap main ≡ node_under states last main
        there = main_seen run t (omega arith) main ABranch branch_main (claims run t h actor operation go _ e).1.1.0

        by : (y : Ref) → (y ≡ entry_at heap main position) ⊎ (y ≡ single) → (y ≡ entry_in run main position) ⊎ IsFirst run made y
        by y (inl same) = inl (same ∙ ap (λ x. slice_index_or (entries_of x) position no_ref) there)
        by y (inr same) = inr (subst (IsFirst run made) (sym same) (first_now _ e n refl made next single latest))

    -- the indirection over it
    link_first : (path : List Ref) (main : Ref) (position : ℕ) (below : Ref) (depth : ℕ) (e : operation.line ≡ line.Build (build.Link path main position below depth)) →
        (made : Ref) → next_ref heap ≡ Some made → first_main states last made ≡ below
    link_first path main position below depth e made next =
        first_is run t h actor operation go _ (acts _ e) made next (start_of operation) below refl
        (prev_still run t h actor operation go _ (acts _ e) made next below private.none)
      where
        private : Private (protocol limits states last (known_run run)).words t below
        private =
            subst (λ s. Staged (protocol limits states last (known_run run)).words t actor s) (ap stage_of_actor go.runs ∙ ap stage_of e)
            ((sound_at (protocol limits states last (known_run run)) t (omega arith)).staged actor)

    link_built : (path : List Ref) (main : Ref) (position : ℕ) (below : Ref) (depth : ℕ) (e : operation.line ≡ line.Build (build.Link path main position below depth)) →
        (made : Ref) → next_ref heap ≡ Some made → IsBuilt run made
    link_built path main position below depth e made next =
        let x = takes run t h actor operation go _ (acts _ e) made next in
        let l = made_link run t h actor operation go _ (acts _ e) made next (start_of operation) below refl in
        record {
          at = t;
          within = h;
          actor = actor;
          stage = ap stage_of_actor go.runs ∙ ap stage_of e ∙ ap Builds (sym (link_first path main position below depth e made next));
          was = ap (λ o. is_indirection (node_of o)) x.new;
          is = ap (λ o. is_indirection (node_of o)) x.here;
          main = ap (λ o. main_of (node_of o)) x.here ∙ sym (link_first path main position below depth e made next);
          link = (start_of operation, l.0, l.1);
        }

    rung_beside : (path : List Ref) (main : Ref) (position : ℕ) (below : Ref) (depth : ℕ) (e : operation.line ≡ line.Build (build.Rung path main position below depth)) →
        IsBuilt run below × IsBeside run (entry_in run main position) (first_main states last below) → (made : Ref) → next_ref heap ≡ Some made → IsBeside run (entry_in run main position) made
    rung_beside path main position below depth e beside made next = goes_on made below (λ y names. one_entry below y (subst (λ n. Contains (entries_of n) y) is names)) beside.0 beside.1
      where
        is : node_under states last made ≡ rung (hash_in (states t) operation) depth below
        is = made_node run t h actor operation go _ (acts _ e) made next
            (λ g w bad. let wrong : rung (hash_in (states t) operation) depth below ≡ Indirection g w = bad in let no : ⊥ = cc wrong in no)

    -- the main node that is to be swapped in
    module _ (path : List Ref) (main : Ref) (former : Option ℕ) (made : Ref) (next : next_ref heap ≡ Some made) where
      module _ (c : Change) (e : operation.line ≡ line.Build (build.Main path main c former)) where
        abbrev n : Node
        n = changed (flag_in (states t) operation path) (node_at heap main) c

        claim : Holds (IsInUse heap) heap (Is main BranchOrList)
        claim = (claims run t h actor operation go _ e).1.1.0

        there : node_at heap main ≡ node_under states last main
        there = main_seen run t (omega arith) main BranchOrList both_main claim

        is : node_under states last made ≡ changed (flag_in (states t) operation path) (node_under states last main) c
        is =
            made_node run t h actor operation go n (acts _ e) made next
            (main_no_link n (changed_main (flag_in (states t) operation path) (node_at heap main) c (meets_of claim)))
            ∙ ap (λ m. changed (flag_in (states t) operation path) m c) there

        came : (y : Ref) → Names run made y → Names run main y ⊎ IsBrought c y
        came y names = changed_entries (flag_in (states t) operation path) (node_under states last main) c y (subst (λ m. Contains (entries_of m) y) is names)

        first : (s : Ref) → IsLatest run t actor s → IsFirst run made s
        first s latest = first_now _ e n refl made next s latest

      moved_entries : (m : Node) (flag position : ℕ) (y : Ref) → meets BranchOrList m ≡ true → entries_of (changed flag m (change.Update position y)) ≡ take 32 (set (entries_of m) position y)
      moved_entries (Branch b es) flag position y ok = refl
      moved_entries (Listed ss) flag position y ok = refl
      moved_entries (Indirection g w) flag position y ok = absurd (true≢false (sym ok))
      moved_entries (Single k v) flag position y ok = absurd (true≢false (sym ok))
      moved_entries (Tomb s) flag position y ok = absurd (true≢false (sym ok))

      main_changed : (c : Change) (e : operation.line ≡ line.Build (build.Main path main c former)) → Carries run t actor (line.Build (build.Main path main c former)) → IsChanged run main made
      main_changed (change.Insert s) e x y names = by (came (change.Insert s) e y names)
        where
          by : Names run main y ⊎ (y ≡ s) → Names run main y ⊎ (IsFirst run made y ⊎ IsMoved run main made y)
          by (inl before) = inl before
          by (inr same) = inr (inl (subst (IsFirst run made) (sym same) (first (change.Insert s) e s x)))
      main_changed (change.Update position r) e x y names = by x (came (change.Update position r) e y names)
        where
          moves : IsBuilt run r × IsBeside run (entry_in run main position) (first_main states last r) → y ≡ r → KnowsChange K operation.call (depth_of path) main former (change.Update position r) →
              IsMoved run main made y
          moves beside same (inl (value, had, sets, presence, new)) =
              let (g, word, link) = beside.0.link in
              let wrong : Indirection g word ≡ Single (key_of operation.call) (value_of operation.call) = sym link ∙ new in
              let bad : ⊥ = cc wrong in
              absurd bad
          moves beside same (inr (ins, (neighbour, single, new, leads))) = record {
            bitmap = neighbour.bitmap;
            entries = neighbour.entries;
            branch = neighbour.branch.is;
            position = position;
            built = subst (IsBuilt run) (sym same) beside.0;
            beside = subst (λ q. IsBeside run (entry_in run main position) (first_main states last q)) (sym same) beside.1;
            rest = ap entries_of (is (change.Update position r) e)
                ∙ moved_entries (node_under states last main) (flag_in (states t) operation path) position r
                (ap (meets BranchOrList) (sym (there (change.Update position r) e)) ∙ meets_of (claim (change.Update position r) e))
                ∙ ap (λ q. take 32 (set (entries_of (node_under states last main)) position q)) (sym same);
          }

          by : IsLatest run t actor r ⊎ (IsBuilt run r × IsBeside run (entry_in run main position) (first_main states last r)) → Names run main y ⊎ (y ≡ r) →
              Names run main y ⊎ (IsFirst run made y ⊎ IsMoved run main made y)
          by x (inl before) = inl before
          by (inl latest) (inr same) = inr (inl (subst (IsFirst run made) (sym same) (first (change.Update position r) e r latest)))
          by (inr beside) (inr same) = inr (inr (moves beside same (knows _ e)))
      main_changed (change.Remove position) e x y names = by (came (change.Remove position) e y names)
        where
          by : Names run main y ⊎ ⊥ → Names run main y ⊎ (IsFirst run made y ⊎ IsMoved run main made y)
          by (inl before) = inl before
          by (inr wrong) = absurd wrong
      main_changed (change.Entomb other) e x y names = by (came (change.Entomb other) e y names)
        where
          left : (own : Ref) (value : ℕ) → IsOther K (depth_of path) (key_of operation.call) main own value → Names run main own
          left own value (of_branch bitmap position own_key own_value entries flagged s two at is') = in_range position entries flagged.is s two at
            where
              in_range : (position : ℕ) (entries : ArrayVec Ref) → node_under states last main ≡ Branch bitmap entries →
                  node_under states last (slice_index_or entries.items position no_ref) ≡ Single (key_of operation.call) value → length entries.items ≡ 2 →
                  own ≡ slice_index_or entries.items (1 - position) no_ref → Names run main own
              in_range position entries at_main s two at =
                  subst (λ m. Contains (entries_of m) own) (sym at_main)
                  (subst (λ r. Contains entries.items r) (sym at) (Contains-get_or entries.items (1 - position) no_ref (omega (arith, two))))
          left own value (of_list position singles is' lt s two at) =
              subst (λ m. Contains (entries_of m) own) (sym is') (subst (λ r. Contains singles.items r) (sym at) (Contains-get_or singles.items (1 - position) no_ref (omega (arith, two))))

          by : Names run main y ⊎ (y ≡ other) → Names run main y ⊎ (IsFirst run made y ⊎ IsMoved run main made y)
          by (inl before) = inl before
          by (inr same) = let (value, had, removes, is') = knows _ e in inl (subst (λ r. Names run main r) (sym same) (left other value is'))

    -- ---- the ways

    build_next : (l : BuildLine) → operation.line ≡ line.Build l → Carries run t actor (line.Build l) → (next : Line) → BuildEdge (states t) operation l next → Next next
    build_next l e x next (BuildEdge.no_slot l' none) = tt
    build_next l e x next (BuildEdge.single_absent path main former made n) = single_latest path main site.Absent former e made n
    build_next l e x next (BuildEdge.single_at path main former position made n) = inl (single_latest path main (site.At position) former e made n)
    build_next l e x next (BuildEdge.single_beside path main former position made n) = single_latest path main (site.Beside position) former e made n
    build_next l e x next (BuildEdge.pair_made path main position single depth made n) = pair_beside path main position single depth e x made n
    build_next l e x next (BuildEdge.link_top path main position below depth made n top) =
        inr (link_built path main position below depth e made n, subst (IsBeside run (entry_in run main position)) (sym (link_first path main position below depth e made n)) x)
    build_next l e x next (BuildEdge.link_below path main position below depth made n top) =
        (link_built path main position below depth e made n, subst (IsBeside run (entry_in run main position)) (sym (link_first path main position below depth e made n)) x)
    build_next l e x next (BuildEdge.rung_made path main position below depth made n) = rung_beside path main position below depth e x made n
    build_next l e x next (BuildEdge.main_made path main c former made n) = main_changed path main former made n c e x

    found_next : (path : List Ref) (main : Ref) (position v : ℕ) (next : Line) → FoundEdge (states t) operation path main position v next → Next next
    found_next path main position v next FoundEdge.strays = tt
    found_next path main position v next e = tt

    key_next : (l : KeyLine) (next : Line) → KeyEdge (states t) operation l next → Next next
    key_next l next (KeyEdge.finds path main position k v n found same on) = found_next path main position v n on
    key_next l next (KeyEdge.finds_listed path main position k v n found same on) = found_next path main position v n on
    key_next l next e = tt

    root_next : (l : RootLine) (next : Line) → RootEdge (states t) operation l next → Next next
    root_next l next (RootEdge.completes_on from to e) = tt
    root_next l next e = tt

    renew_on : (path : List Ref) (main : Ref) (done : List Ref) (next : Line) → RenewNext (states t) path main done next → Next next
    renew_on path main done next (RenewNext.more e) = tt
    renew_on path main done next (RenewNext.all_done e) = tt

    clean_on : (path : List Ref) (main : Ref) (done : List Ref) (next : Line) → CleanNext (states t) path main done next → Next next
    clean_on path main done next (CleanNext.more e) = tt
    clean_on path main done next e = tt

    renew_way : (l : RenewLine) (next : Line) → RenewEdge (states t) operation l next → Next next
    renew_way l next (RenewEdge.keeps_own path main done g w n e mine on) = renew_on path main _ n on
    renew_way l next (RenewEdge.keeps_single path main done k v n e on) = renew_on path main _ n on
    renew_way l next (RenewEdge.links path main done child made n e on) = renew_on path main _ n on
    renew_way l next (RenewEdge.branches path main done made e) = tt
    renew_way l next e = tt

    clean_way : (l : CleanLine) (next : Line) → CleanEdge (states t) operation l next → Next next
    clean_way l next (CleanEdge.begins path main b es n e on) = clean_on path main _ n on
    clean_way l next (CleanEdge.keeps_single path main done k v n e on) = clean_on path main _ n on
    clean_way l next (CleanEdge.untombs path main done child single n e on) = clean_on path main _ n on
    clean_way l next (CleanEdge.keeps_link path main done child n on) = clean_on path main _ n on
    clean_way l next (CleanEdge.contracts path main done made e) = tt
    clean_way l next e = tt

    climbing_on : (c : Climb) (next : Line) → ClimbingEdge operation c next → Next next
    climbing_on c next (ClimbingEdge.climbs e) = tt
    climbing_on c next (ClimbingEdge.tops e) = tt

    swapped_on : (node : Node) (why : Purpose) (done : Bool) (next : Line) → SwappedEdge operation node why done next → Next next
    swapped_on node why done next (SwappedEdge.entombed path former single n e on) = climbing_on (record { path = path; single = single; former = former }) n on
    swapped_on node why done next (SwappedEdge.climbs_on c single n e on) = climbing_on (higher c c.single) n on
    swapped_on node why done next (SwappedEdge.climb_lost c) = tt
    swapped_on node why done next e = tt

    same_why : (why : Purpose) (s : Swap) (l : SwapLine) → Carries run t actor (line.Swap why s) → Next (line.Swap why (record s { line = l }))
    same_why (purpose.Update path former) s l x = x
    same_why (purpose.Renew path) s l x = tt
    same_why purpose.Clean s l x = tt
    same_why (purpose.Climb c) s l x = tt

    swap_way : (why : Purpose) (s : Swap) (l : SwapLine) (next : Line) → SwapEdge (states t) operation why s l next → Carries run t actor (line.Swap why s) → Next next
    swap_way why s l next (SwapEdge.publishes e) x = same_why why s _ x
    swap_way why s l next (SwapEdge.comes_late n e on) x = swapped_on (node_at heap s.fresh) why false n on
    swap_way why s l next (SwapEdge.decides_on from to e) x = same_why why s _ x
    swap_way why s l next (SwapEdge.decided from main e) x = same_why why s _ x
    swap_way why s l next (SwapEdge.succeeds n e on) x = swapped_on (node_at heap s.fresh) why true n on
    swap_way why s l next (SwapEdge.is_undecided previous n e on) x = swapped_on (node_at heap s.fresh) why false n on
    swap_way why s l next (SwapEdge.fails previous n e on) x = swapped_on (node_at heap s.fresh) why false n on

    climb_way : (l : ClimbLine) (next : Line) → ClimbEdge (states t) operation l next → Next next
    climb_way l next (ClimbEdge.goes_up c main single n e on) = climbing_on (higher c single) n on
    climb_way l next (ClimbEdge.again c from r n e mine on) = climbing_on c n on
    climb_way l next e = tt

    copy_way : (l : CopyLine) (next : Line) → CopyEdge (states t) operation l next → Next next
    copy_way l next (CopyEdge.no_slot from e) = tt
    copy_way l next e = tt

    walk_on : (pairs : List (ℕ × ℕ)) (todo : List Ref) (next : Line) → WalkNext operation pairs todo next → Next next
    walk_on pairs todo next WalkNext.walked = tt
    walk_on pairs todo next (WalkNext.walks entry more) = tt

    walk_way : (l : WalkLine) (next : Line) → WalkEdge (states t) operation l next → Next next
    walk_way l next (WalkEdge.opens main todo pairs n on) = walk_on pairs _ n on
    walk_way l next (WalkEdge.takes todo pairs k v n e on) = walk_on _ _ n on
    walk_way l next e = tt

    by_way : (l next : Line) → Edge (states t) operation l next → operation.line ≡ l → Carries run t actor l → Next next
    by_way l next (of_root r n e) at x = root_next r n e
    by_way l next (of_key k n e) at x = key_next k n e
    by_way l next (of_build b n e) at x = build_next b at x n e
    by_way l next (of_swap why s n e) at x = swap_way why s s.line n e x
    by_way l next (of_renew r n e) at x = renew_way r n e
    by_way l next (of_clean c n e) at x = clean_way c n e
    by_way l next (of_climb c n e) at x = climb_way c n e
    by_way l next (of_copy c n e) at x = copy_way c n e
    by_way l next (of_walk w n e) at x = walk_way w n e
    by_way l next (stays answer) at x = tt
    by_way l next strays at x = tt

  first_carries : (t k : ℕ) (call : Call) → Carries run t k (first_line call)
  first_carries t k (Close h) = tt
  first_carries t k (Entries h) = tt
  first_carries t k (Count h) = tt
  first_carries t k call = tt

  -- what the line of each running operation holds at each time
  pub carries_at : OfEachAt states last (λ t k operation. Carries run t k operation.line)
  carries_at =
      each_with run (λ t k operation. Carries run t k operation.line) (λ t k operation x. x) (λ t h actor call number d takes e. first_carries (suc t) actor call)
      (λ t h actor operation go takes_it all. by_way t h actor operation go takes_it operation.line _ (edge (states t) operation operation.line) refl (all actor operation go.runs))
      (λ t h actor operation answer is may all. tt)
      (λ t h k operation is apart all. carries_still run t k apart operation.line (all k operation is))
