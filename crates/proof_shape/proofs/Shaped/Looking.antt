-- What is found along a key's hash in the machine's heap is what the content of a handle has of it.
use Rattle.std.proofs.Common.{◌≡◌, ℕ, zero, suc, ◌==◌, Bool, true, false, cond, List, [], ◌∷◌, Contains, Option, Some, None, refl, sym, ap, ◌∙◌, subst, arith}
use Rattle.std.proofs.lemmas.Option.{none-some, same_Some}
use Rattle.proof_shape.specs.Vocabulary.{hash_of, flag_of, index_in, Ref, Node, Indirection, Branch, Single, Tomb, List as Listed, Heap, entries_of, logical_main, no_ref, node_at, Root, Bounds}
use Rattle.proof_shape.specs.Vocabulary.{Step, refs_of_root, IsReached, content_at, most_levels, pairs_below, node_under, by_key, State, root_of, word_of, root_at as handle_at, IsRun}
use Rattle.proof_shape.specs.Vocabulary.{at_place, AreSingles, Absent, Has, find_at, look_among, look_at, look_in, or_else, value_by, ReachesInUse, counting_main, IsShaped, Trie, branch}
use Rattle.proof_shape.specs.Vocabulary.{list, tomb}
use Rattle.proof_shape.specs.Beneath.machine_model.specs.Contents.{from_root}
use Rattle.proof_shape.specs.Beneath.machine_model.proofs.Times.{run_ends, run_is}
use Rattle.proof_shape.specs.Beneath.proof_contents.specs.Nodes.Branches.{standing}
use Rattle.proof_shape.specs.Beneath.proof_contents.specs.Nodes.Looking.{Found}
use Rattle.proof_shape.specs.Beneath.proof_contents.specs.Pairs.{pairs_from}
use Rattle.proof_shape.specs.Beneath.proof_memory.specs.Wants.{is_indirection}
use Rattle.proof_shape.specs.Beneath.proof_contents.specs.Steps.{IsTrie}
use Rattle.proof_shape.specs.Beneath.proof_contents.proofs.Nodes.Changes.{look_branch, look_place}
use Rattle.proof_shape.specs.Beneath.proof_contents.proofs.Pairs.Heap as pairs
use Rattle.proof_shape.specs.Beneath.proof_contents.proofs.Pairs.Lists.{by_key_found, found_in}
use Rattle.proof_shape.specs.Beneath.proof_contents.proofs.Pairs.Shown.{shows}
use Rattle.proof_shape.specs.Beneath.proof_contents.proofs.Values.Runs.{counting_main-last}
use Rattle.proof_shape.specs.Agreeing.{LookingFinds}
use Rattle.proof_shape.specs.Sites.At.{StepsFit, TakesSteps}
use Rattle.proof_shape.specs.Sites.Lines.{bare}
use Rattle.proof_shape.specs.Sites.Nodes.{steps_of}
use Rattle.proof_generations.proofs.Lines.ReaderKnows.{indirection_is}
use Rattle.proof_shape.proofs.Shaped.KeysOnce as once
use Rattle.proof_shape.proofs.Sites.Fixed.{keys_fit}
use Rattle.proof_shape.proofs.Sites.Stepped.{takes_steps}
use Rattle.proof_shape.proofs.Shaped.Places.{bare_single, bare_branch, bare_list, bare_tomb}
use Rattle.proof_shape.specs.Beneath.proof_contents.proofs.Pairs.Heap.{word_root as names_root}

-- ---- what an entry says, by what is found below it

module _ (q : ℕ) (f g : Ref → Option ℕ) where
  by_test : (b : Bool) (v : ℕ) → value_by f (cond b (Has v) Absent) ≡ value_by g (cond b (Has v) Absent)
  by_test true v = refl
  by_test false v = refl

  entry_same : (e : Ref) (n : Node) → ((h : ℕ) (w : Ref) → n ≡ Indirection h w → f e ≡ g e) → value_by f (look_at q e n) ≡ value_by g (look_at q e (bare n))
  entry_same e (Indirection h w) same = same h w refl
  entry_same e (Single k v) same = by_test (k == q) v
  entry_same e (Branch b es) same = refl
  entry_same e (Tomb s) same = refl
  entry_same e (Listed ss) same = refl

  or_same : (b : Bool) (v : ℕ) (x y : Found) → value_by f x ≡ value_by g y → value_by f (or_else (cond b (Has v) Absent) x) ≡ value_by g (or_else (cond b (Has v) Absent) y)
  or_same true v x y e = refl
  or_same false v x y e = e

no_link : (n : Node) (k v h : ℕ) (w : Ref) {P : Type 0} → n ≡ Single k v → n ≡ Indirection h w → P
no_link n k v h w a b = let both : Single k v ≡ Indirection h w = sym a ∙ b in let bad : ⊥ = cc both in absurd bad

-- what stands at a place is one of those that stand there
pub stands_there : (places : List (Option Ref)) (x : ℕ) (e : Ref) → at_place places x ≡ Some e → Contains (standing places) e
stands_there [] x e at = absurd (none-some e at)
stands_there (None ∷ places) zero e at = absurd (none-some e at)
stands_there (None ∷ places) (suc x) e at = stands_there places x e at
stands_there (Some first ∷ places) zero e at = (0, omega arith, same_Some first e at)
stands_there (Some first ∷ places) (suc x) e at = let (k, within, here) = stands_there places x e at in (suc k, omega (arith, within), here)

module _ {limits : Bounds} {states : ℕ → State} (steps : ℕ → Step) {last : ℕ} (run : IsRun limits states last) (takes : TakesSteps states steps last) (keys : StepsFit steps last)
    (handle : ℕ) (root : Root) (at : handle_at (states last) handle ≡ Some root) where
  abbrev heap : Heap
  heap = (states last).heap

  abbrev trie : Trie
  trie = once.trie steps run takes keys handle root at

  ok : IsTrie (once.trie steps run takes keys handle root at)
  ok = once.ok steps run takes keys handle root at

  abbrev Reached : Ref → Type 0
  Reached i = IsReached (states last) i

  abbrev last_main : Ref → Ref
  last_main i = counting_main states last last i

  abbrev in_heap : ℕ → ℕ → ℕ → Ref → Option ℕ
  in_heap q levels depth i = find_at (node_at heap) (logical_main heap) (hash_of limits.hash) q levels depth i

  abbrev in_trie : ℕ → ℕ → ℕ → Ref → Option ℕ
  in_trie q levels depth i = find_at trie.node last_main (hash_of limits.hash) q levels depth i

  reaches : ReachesInUse (states last)
  reaches = once.reaches_in_use (states last) (once.I steps run takes keys handle root at)

  node_is : (e : Ref) → Reached e → node_at heap e ≡ node_under states last e
  node_is = pairs.node_is states last reaches

  of_node : (i e : Ref) → Reached i → Contains (entries_of (node_at heap i)) e → Reached e
  of_node i e reached c = pairs.of_node states last reaches i e reached (pairs.entry_refs (node_at heap i) e c)

  -- an entry that is reached
  one_entry : (q : ℕ) (f g : Ref → Option ℕ) (e : Ref) → Reached e → ((h : ℕ) (w : Ref) → node_at heap e ≡ Indirection h w → f e ≡ g e) →
      value_by f (look_at q e (node_at heap e)) ≡ value_by g (look_at q e (trie.node e))
  one_entry q f g e reached below =
      ap (λ n. value_by f (look_at q e n)) (node_is e reached) ∙ entry_same q f g e (node_under states last e) (λ h w is. below h w (node_is e reached ∙ is))

  -- singles of a list
  among_same : (q : ℕ) (f g : Ref → Option ℕ) (singles : List Ref) → ((e : Ref) → Contains singles e → Reached e) → AreSingles trie.node singles →
      value_by f (look_among (node_at heap) q singles) ≡ value_by g (look_among trie.node q singles)
  among_same q f g [] reached are = refl
  among_same q f g (e ∷ singles) reached are =
      let own = are.0.is in
      let here : node_at heap e ≡ Single are.0.key are.0.value =
      node_is e (reached e (0, omega arith, refl)) ∙ bare_single (node_under states last e) are.0.key are.0.value own in
      let rest = among_same q f g singles (λ d c. reached d (suc c.0, omega (arith, c.1), c.2)) are.1 in
      ap (λ n. value_by f (or_else (look_at q e n) (look_among (node_at heap) q singles))) here
      ∙ or_same q f g (are.0.key == q) are.0.value (look_among (node_at heap) q singles) (look_among trie.node q singles) rest
      ∙ sym (ap (λ n. value_by g (or_else (look_at q e n) (look_among trie.node q singles))) own)

  -- below an indirection that is reached
  found_same : (q levels : ℕ) (i : Ref) (h : ℕ) (w : Ref) → Reached i → node_at heap i ≡ Indirection h w → in_heap q levels (trie.depth i) i ≡ in_trie q levels (trie.depth i) i
  unfolding find_at
  found_same q zero i h w reached is = refl
  found_same q (suc levels) i h w reached is = by_shape (λ e k v r at_e. found_same q levels e k v r at_e) (ok.shaped 0 i (omega arith))
    where
      main : Ref
      main = logical_main heap i

      d : ℕ
      d = trie.depth i

      f : Ref → Option ℕ
      f e = in_heap q levels (suc d) e

      g : Ref → Option ℕ
      g e = in_trie q levels (suc d) e

      main_reached : Reached main
      main_reached = pairs.logical_reached states last reaches i h w reached is

      under : node_at heap main ≡ node_under states last (last_main i)
      under = node_is main main_reached ∙ ap (node_under states last) (pairs.logical_is states last reaches i h w reached is ∙ sym (counting_main-last states last i))

      entry_reached : (n : Node) → node_at heap main ≡ n → (e : Ref) → Contains (entries_of n) e → Reached e
      entry_reached n e_n e c = of_node main e main_reached (subst (λ m. Contains (entries_of m) e) (sym e_n) c)

      by_shape : ((e : Ref) (k : ℕ) (v : Ref) → Reached e → node_at heap e ≡ Indirection k v → in_heap q levels (trie.depth e) e ≡ in_trie q levels (trie.depth e) e) →
          IsShaped trie i (trie.node (last_main i)) → value_by f (look_in (node_at heap) (flag_of (hash_of limits.hash q) d) q (node_at heap main)) ≡
          value_by g (look_in trie.node (flag_of (hash_of limits.hash q) d) q (trie.node (last_main i)))
      by_shape rest (branch b es places n_is has shallow in_place leads children) =
          let here : node_at heap main ≡ Branch b es = under ∙ bare_branch (node_under states last (last_main i)) b es n_is in
          ap (λ n. value_by f (look_in (node_at heap) (flag_of (hash_of limits.hash q) d) q n)) here
          ∙ ap (value_by f) (look_branch (node_at heap) q b x es places has) ∙ by_place (at_place places x) refl
          ∙ sym (ap (value_by g) (look_branch trie.node q b x es places has))
          ∙ sym (ap (λ n. value_by g (look_in trie.node (flag_of (hash_of limits.hash q) d) q n)) n_is)
        where
          x : ℕ
          x = index_in (hash_of limits.hash q) d

          by_place : (o : Option Ref) → at_place places x ≡ o → value_by f (look_place (node_at heap) q o) ≡ value_by g (look_place trie.node q o)
          by_place None none = refl
          by_place (Some e) there =
              let here : node_at heap main ≡ Branch b es = under ∙ bare_branch (node_under states last (last_main i)) b es n_is in
              let r : Reached e = entry_reached (Branch b es) here e (subst (λ l. Contains l e) (sym has.stand) (stands_there places x e there)) in
              one_entry q f g e r (λ k v at_e.
              let c = children x 0 e no_ref there (ap bare (sym (node_is e r) ∙ at_e)) in
              let deep : trie.depth e ≡ suc d = c.deeper in
              ap (λ n. in_heap q levels n e) (sym deep) ∙ rest e k v r at_e ∙ ap (λ n. in_trie q levels n e) deep)
      by_shape rest (list singles n_is are few deep one_hash) =
          let here : node_at heap main ≡ Listed singles = under ∙ bare_list (node_under states last (last_main i)) singles n_is in
          ap (λ n. value_by f (look_in (node_at heap) (flag_of (hash_of limits.hash q) d) q n)) here
          ∙ among_same q f g singles.items (entry_reached (Listed singles) here) are
          ∙ sym (ap (λ n. value_by g (look_in trie.node (flag_of (hash_of limits.hash q) d) q n)) n_is)
      by_shape rest (tomb single key value n_is own led) =
          let here : node_at heap main ≡ Tomb single = under ∙ bare_tomb (node_under states last (last_main i)) single n_is in
          let r : Reached single = entry_reached (Tomb single) here single (0, omega arith, refl) in
          let its : node_at heap single ≡ Single key value = node_is single r ∙ bare_single (node_under states last single) key value own in
          ap (λ n. value_by f (look_in (node_at heap) (flag_of (hash_of limits.hash q) d) q n)) here
          ∙ one_entry q f g single r (λ k v at_e. no_link (node_at heap single) key value k v its at_e)
          ∙ sym (ap (λ n. value_by g (look_in trie.node (flag_of (hash_of limits.hash q) d) q n)) n_is)

  -- ---- from the handle's root

  abbrev r : Ref
  r = root_of root.word

  root_reached : Reached r
  root_reached = from_root handle r (subst (λ o. Contains (refs_of_root o) r) (sym at) (names_root root.word))

  abbrev all : List (ℕ × ℕ)
  all = pairs_from trie.node last_main most_levels r

  depth_is : trie.depth r ≡ 0
  depth_is = once.depth_is steps run takes keys handle root at

  link : is_indirection (node_under states last r) ≡ true
  link = once.link steps run takes keys handle root at

  pub looking_finds_at : (q : ℕ) → found_in q (content_at (states last) handle) ≡ in_heap q most_levels 0 r
  looking_finds_at q =
      let (h, w, is) = indirection_is (node_under states last r) link in
      let its = shows trie ok most_levels r 0 no_ref (omega (arith, depth_is)) (omega (arith, depth_is)) (ap bare is) in
      let content : content_at (states last) handle ≡ by_key all =
      ap (λ o. by_key (pairs_below most_levels heap (root_of (word_of o)))) at ∙ ap by_key (once.reached steps run takes keys handle root at most_levels) in
      ap (found_in q) content ∙ by_key_found q all its.apart ∙ its.found q ∙ sym (found_same q most_levels r h w root_reached (node_is r root_reached ∙ is))
      ∙ ap (λ d. in_heap q most_levels d r) depth_is

pub looking_finds : LookingFinds
looking_finds limits steps handle root key ok fit at =
    subst (λ (state : State). found_in key (content_at state handle) ≡ find_at (node_at state.heap) (logical_main state.heap) (hash_of limits.hash) key most_levels 0 (root_of root.word))
    (run_ends limits steps)
    (looking_finds_at (steps_of limits steps) (run_is limits steps ok) (takes_steps limits steps) (keys_fit limits steps fit) handle root
    (ap (λ state. handle_at state handle) (run_ends limits steps) ∙ at) key)
