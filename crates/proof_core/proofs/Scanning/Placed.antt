-- In each state of a run what a handle's root reaches stands where the hashes of the keys lead.
use Rattle.std.proofs.Common.{◌≡◌, ℕ, zero, suc, ◌+◌, ◌*◌, ◌^◌, List, [], ◌∷◌, Contains, Some, refl, sym, ap, ap₂, subst, ◌∙◌, arith}
use Rattle.proof_core.specs.Vocabulary.{hash_of, HashKind, Root, Bounds, Step, IsReached, most_levels, refs_of_root, node_under, KeysFit, AreBounds, run as run_of, State, root_at, root_of, IsRun}
use Rattle.proof_core.specs.Vocabulary.{Node, Branch, Indirection, Single, Tomb, List as Listed, Ref, Heap, entries_of, logical_main, no_ref, node_at, ReachesInUse, at_place}
use Rattle.proof_core.specs.Vocabulary.{AreSingles, look_among, look_at, or_else, counting_main, IsShaped, Trie, branch, list, tomb, StepsFit, TakesSteps, bare, path_to, IsOfRun}
use Rattle.proof_core.specs.Beneath.machine_model.specs.Contents.{from_root}
use Rattle.proof_core.specs.Beneath.machine_model.proofs.Times.{run_ends, run_is}
use Rattle.proof_core.specs.Beneath.proof_contents.specs.Steps.{IsTrie}
use Rattle.proof_core.specs.Beneath.proof_contents.proofs.Pairs.Heap as pairs
use Rattle.proof_core.specs.Beneath.proof_contents.proofs.Pairs.Heap.{word_root as names_root}
use Rattle.proof_core.specs.Beneath.proof_contents.proofs.Values.Runs.{counting_main-last}
use Rattle.proof_core.specs.Beneath.proof_generations.proofs.Lines.ReaderKnows.{indirection_is}
use Rattle.proof_core.specs.Beneath.proof_shape.specs.Sites.Nodes.{steps_of}
use Rattle.proof_core.specs.Beneath.proof_shape.proofs.Shaped.KeysOnce as once
use Rattle.proof_core.specs.Beneath.proof_shape.proofs.Shaped.Looking.{stands_there}
use Rattle.proof_core.specs.Beneath.proof_shape.proofs.Shaped.Places.{bare_branch, bare_list, bare_single, bare_tomb}
use Rattle.proof_core.specs.Beneath.proof_shape.proofs.Sites.Fixed.{keys_fit}
use Rattle.proof_core.specs.Beneath.proof_shape.proofs.Sites.Stepped.{takes_steps}
use Rattle.proof_core.specs.Scanning.{IsEntryPlaced, IsMainPlaced, IsPlaced}
use Rattle.proof_core.proofs.Scanning.Order.{path_joins}

-- ---- an entry

entry_by : (kind : HashKind) (heap : Heap) (Below : ℕ → ℕ → Ref → Type 0) (depth path : ℕ) (r : Ref) (n : Node) → ((key value : ℕ) → n ≡ Single key value → path_to (hash_of kind key) depth ≡ path) →
    ((generation : ℕ) (main : Ref) → n ≡ Indirection generation main → IsEntryPlaced kind heap Below depth path r n) → IsEntryPlaced kind heap Below depth path r n
entry_by kind heap Below depth path r (Single key value) single link = single key value refl
entry_by kind heap Below depth path r (Indirection generation main) single link = link generation main refl
entry_by kind heap Below depth path r (Branch bitmap entries) single link = tt
entry_by kind heap Below depth path r (Tomb entry) single link = tt
entry_by kind heap Below depth path r (Listed singles) single link = tt

-- it is in place where it is as a single, and as an indirection
entry_placed : (kind : HashKind) (levels : ℕ) (heap : Heap) (depth path : ℕ) (r : Ref) → ((key value : ℕ) → node_at heap r ≡ Single key value → path_to (hash_of kind key) depth ≡ path) →
    ((generation : ℕ) (main : Ref) → node_at heap r ≡ Indirection generation main → IsPlaced kind levels heap depth path r) → IsPlaced kind levels heap depth path r
unfolding IsPlaced
entry_placed kind zero heap depth path r single link = tt
entry_placed kind (suc levels) heap depth path r single link = entry_by kind heap (λ d p e. IsPlaced kind levels heap d p e) depth path r (node_at heap r) single link

-- ---- below a root in the last state of a run

module _ {limits : Bounds} {states : ℕ → State} (steps : ℕ → Step) {last : ℕ} (run : IsRun limits states last) (takes : TakesSteps states steps last) (keys : StepsFit steps last)
    (handle : ℕ) (root : Root) (at : root_at (states last) handle ≡ Some root) where
  abbrev heap : Heap
  heap = (states last).heap

  abbrev trie : Trie
  trie = once.trie steps run takes keys handle root at

  ok : IsTrie (once.trie steps run takes keys handle root at)
  ok = once.ok steps run takes keys handle root at

  abbrev Reached : Ref → Type 0
  Reached i = IsReached (states last) i

  abbrev last_main : Ref → Ref
  last_main i = counting_main states last last i

  abbrev Placed : ℕ → ℕ → ℕ → Ref → Type 0
  Placed levels depth path r = IsPlaced limits.hash levels heap depth path r

  reaches : ReachesInUse (states last)
  reaches = once.reaches_in_use (states last) (once.I steps run takes keys handle root at)

  node_is : (e : Ref) → Reached e → node_at heap e ≡ node_under states last e
  node_is = pairs.node_is states last reaches

  -- the trie has it without its generation and main word
  bare_is : (e : Ref) (n : Node) → Reached e → node_at heap e ≡ n → trie.node e ≡ bare n
  bare_is e n reached is = ap bare (sym (node_is e reached) ∙ is)

  single_is : (e : Ref) (key value : ℕ) → Reached e → trie.node e ≡ Single key value → node_at heap e ≡ Single key value
  single_is e key value reached is = node_is e reached ∙ bare_single (node_under states last e) key value is

  entry_reached : (main : Ref) (n : Node) → Reached main → node_at heap main ≡ n → (e : Ref) → Contains (entries_of n) e → Reached e
  entry_reached main n reached is e there =
      pairs.of_node states last reaches main e reached (pairs.entry_refs (node_at heap main) e (subst (λ m. Contains (entries_of m) e) (sym is) there))

  -- the singles of a list are those of the trie's
  singles_are : (singles : List Ref) → ((e : Ref) → Contains singles e → Reached e) → AreSingles trie.node singles →
      AreSingles (node_at heap) singles × ((key : ℕ) → look_among (node_at heap) key singles ≡ look_among trie.node key singles)
  singles_are [] reached are = (tt, λ key. refl)
  singles_are (e ∷ singles) reached are =
      let own = are.0 in
      let here : node_at heap e ≡ Single own.key own.value = single_is e own.key own.value (reached e (0, omega arith, refl)) own.is in
      let rest = singles_are singles (λ d c. reached d (suc c.0, omega (arith, c.1), c.2)) are.1 in (
        (record { key = own.key; value = own.value; is = here; none = rest.1 own.key ∙ own.none }, rest.0),
        λ key. ap₂ or_else (ap (look_at key e) (here ∙ sym own.is)) (rest.1 key),
      )

  module _ (i : Ref) (generation : ℕ) (word : Ref) (reached : Reached i) (is : node_at heap i ≡ Indirection generation word) where
    abbrev main : Ref
    main = logical_main heap i

    main_reached : Reached main
    main_reached = pairs.logical_reached states last reaches i generation word reached is

    under : node_at heap main ≡ node_under states last (last_main i)
    under = node_is main main_reached ∙ ap (node_under states last) (pairs.logical_is states last reaches i generation word reached is ∙ sym (counting_main-last states last i))

    -- its main node is in place where the indirections below are
    main_placed : (levels : ℕ) → ((e : Ref) (g : ℕ) (w : Ref) → Reached e → node_at heap e ≡ Indirection g w → Placed levels (trie.depth e) (trie.path e) e) →
        IsShaped trie i (trie.node (last_main i)) → IsMainPlaced limits.hash heap (Placed levels) (trie.depth i) (trie.path i) (node_at heap main)
    main_placed levels below (branch bitmap entries places n_is has shallow in_place leads children) =
        subst (IsMainPlaced limits.hash heap (Placed levels) (trie.depth i) (trie.path i)) (sym here) (shallow, (places, has, each))
      where
        here : node_at heap main ≡ Branch bitmap entries
        here = under ∙ bare_branch (node_under states last (last_main i)) bitmap entries n_is

        each : (x : ℕ) (e : Ref) → at_place places x ≡ Some e → Placed levels (suc (trie.depth i)) (trie.path i + x * 2 ^ (5 * trie.depth i)) e
        each x e there =
            let r : Reached e = entry_reached main (Branch bitmap entries) main_reached here e (subst (λ l. Contains l e) (sym has.stand) (stands_there places x e there)) in
            entry_placed limits.hash levels heap (suc (trie.depth i)) (trie.path i + x * 2 ^ (5 * trie.depth i)) e
            (λ key value its.
            let own = bare_is e (Single key value) r its in
            path_joins (hash_of limits.hash key) (trie.depth i) (trie.path i) (leads x key value e there own)
            ∙ ap (λ y. trie.path i + y * 2 ^ (5 * trie.depth i)) (in_place x key value e there own))
            (λ g w its.
            let child = children x 0 e no_ref there (bare_is e (Indirection g w) r its) in
            subst (λ d. Placed levels d (trie.path i + x * 2 ^ (5 * trie.depth i)) e) child.deeper (subst (λ p. Placed levels (trie.depth e) p e) child.led (below e g w r its)))
    main_placed levels below (list singles n_is are few deep one_hash) =
        let here : node_at heap main ≡ Listed singles = under ∙ bare_list (node_under states last (last_main i)) singles n_is in
        let own = singles_are singles.items (entry_reached main (Listed singles) main_reached here) are in
        subst (IsMainPlaced limits.hash heap (Placed levels) (trie.depth i) (trie.path i)) (sym here) (deep, own.0, λ key value found. one_hash key value (sym (own.1 key) ∙ found))
    main_placed levels below (tomb single key value n_is own led) =
        subst (IsMainPlaced limits.hash heap (Placed levels) (trie.depth i) (trie.path i)) (sym here)
        (entry_placed limits.hash levels heap (trie.depth i) (trie.path i) single (λ k v other. ap (λ q. path_to (hash_of limits.hash q) (trie.depth i)) (same_key k v other) ∙ led)
        (λ g w other. no_link g w other))
      where
        here : node_at heap main ≡ Tomb single
        here = under ∙ bare_tomb (node_under states last (last_main i)) single n_is

        its : node_at heap single ≡ Single key value
        its = single_is single key value (entry_reached main (Tomb single) main_reached here single (0, omega arith, refl)) own

        same_key : (k v : ℕ) → node_at heap single ≡ Single k v → k ≡ key
        same_key k v other = let both : Single k v ≡ Single key value = sym other ∙ its in cc

        no_link : (g : ℕ) (w : Ref) → node_at heap single ≡ Indirection g w → Placed levels (trie.depth i) (trie.path i) single
        no_link g w other = let both : Single key value ≡ Indirection g w = sym its ∙ other in let bad : ⊥ = cc both in absurd bad

  placed_below : (levels : ℕ) (i : Ref) (generation : ℕ) (word : Ref) → Reached i → node_at heap i ≡ Indirection generation word → Placed levels (trie.depth i) (trie.path i) i
  unfolding IsPlaced
  placed_below zero i generation word reached is = tt
  placed_below (suc levels) i generation word reached is =
      subst (λ n. IsEntryPlaced limits.hash heap (λ d p e. IsPlaced limits.hash levels heap d p e) (trie.depth i) (trie.path i) i n) (sym is)
      (main_placed i generation word reached is levels (λ e g w r at_e. placed_below levels e g w r at_e) (ok.shaped 0 i (omega arith)))

  placed_at : Placed most_levels 0 0 (root_of root.word)
  placed_at =
      let r = root_of root.word in
      let root_reached : Reached r = from_root handle r (subst (λ o. Contains (refs_of_root o) r) (sym at) (names_root root.word)) in
      let (g, w, is) = indirection_is (node_under states last r) (once.link steps run takes keys handle root at) in
      subst (λ d. Placed most_levels d 0 r) (once.depth_is steps run takes keys handle root at)
      (subst (λ p. Placed most_levels (trie.depth r) p r) (ok.root_path 0) (placed_below most_levels r g w root_reached (node_is r root_reached ∙ is)))

-- ---- in each state of a run

placed_in : (limits : Bounds) (steps : List Step) (handle : ℕ) (root : Root) → AreBounds limits → KeysFit steps → root_at (run_of limits steps) handle ≡ Some root →
    IsPlaced limits.hash most_levels (run_of limits steps).heap 0 0 (root_of root.word)
placed_in limits steps handle root ok fit at =
    subst (λ (state : State). IsPlaced limits.hash most_levels state.heap 0 0 (root_of root.word)) (run_ends limits steps)
    (placed_at (steps_of limits steps) (run_is limits steps ok) (takes_steps limits steps) (keys_fit limits steps fit) handle root
    (ap (λ state. root_at state handle) (run_ends limits steps) ∙ at))

pub placed : (state : State) (run : IsOfRun state) (handle : ℕ) (root : Root) → root_at state handle ≡ Some root → IsPlaced state.limits.hash most_levels state.heap 0 0 (root_of root.word)
placed state run handle root at =
    subst (λ (s : State). root_at s handle ≡ Some root → IsPlaced state.limits.hash most_levels s.heap 0 0 (root_of root.word)) (sym run.is)
    (placed_in state.limits run.steps handle root run.limits run.keys) at
