-- Where nothing runs every main node is decided and no offer stands: so what a handle reaches by any reference are its nodes.
use Rattle.std.proofs.Common.{◌≡◌, ◌≢◌, ℕ, zero, suc, ◌+◌, ◌<◌, ◌≤◌, true, false, List, [], ◌∷◌, Contains, sum_by, ◌⊎◌, inl, inr, Option, Some, None, refl, sym, ap, subst, ◌∙◌, arith}
use Rattle.std.proofs.lemmas.Bool.{false≢true}
use Rattle.std.proofs.lemmas.List.Elements.{Contains-append_cases}
use Rattle.std.proofs.lemmas.List.Sums.{get_or-le-sum_by, sum_by-cons}
use Rattle.std.proofs.lemmas.Option.{same_Some}
use native.Mathlib.Decide.{ℕ_discrete}
use Rattle.proof_sizes.specs.Vocabulary.{Node, Indirection, Branch, Single, Tomb, List as Listed, Prev, Ref, Slot, is_main_node, Heap, entries_of, logical, logical_main, main_at, main_of, node_at}
use Rattle.proof_sizes.specs.Vocabulary.{node_of, prev_at, prev_of, refs_of_node, refs_of_prev, refs_of_slot, stored, times, Operation, ReadLine, Root, RootWord, Offer, Plain, Bounds, Step}
use Rattle.proof_sizes.specs.Vocabulary.{IsReached, from_slot, most_levels, refs_of_root, refs_of_word, grown, node_under, prev_word, main_word, standing, is_busy, State, operation_of, root_at}
use Rattle.proof_sizes.specs.Vocabulary.{root_of, word_of, IsRun}
use Rattle.proof_sizes.specs.Beneath.slot_arena.specs.declared.nodes.Prev.TheVariants as over
use Rattle.proof_sizes.specs.Beneath.slot_arena.proofs.Times.{once, once_other, once_same}
use Rattle.proof_sizes.specs.Beneath.machine_model.specs.Contents.{from_root}
use Rattle.proof_sizes.specs.Beneath.machine_model.proofs.Basics.{only_one}
use Rattle.proof_sizes.specs.Beneath.machine_model.proofs.Grown.{grown_in_use, node_standing, prev_standing, standing_parts}
use Rattle.proof_sizes.specs.Beneath.proof_memory.specs.Laws.{IsInUse}
use Rattle.proof_sizes.specs.Beneath.proof_memory.specs.Wants.{AMain, AllHold, is_indirection, node_wants}
use Rattle.proof_sizes.specs.Beneath.proof_memory.proofs.Claims.Uses.{meets_of, meets_same, safe_of}
use Rattle.proof_sizes.specs.Beneath.proof_memory.proofs.Heap.Moves.{grown_stays}
use Rattle.proof_sizes.specs.Beneath.proof_memory.proofs.Levels.States.{heaped_in_use}
use Rattle.proof_sizes.specs.Beneath.proof_memory.proofs.Safety.AtEachTime.{safe_at}
use Rattle.proof_sizes.specs.Beneath.proof_memory.proofs.Safety.States.{IsSafe}
use Rattle.proof_sizes.specs.Beneath.proof_memory.proofs.Safety.Standing.{in_any_slot}
use Rattle.proof_sizes.specs.Beneath.proof_commits.specs.Protocol.{Decides, Protocol, Rests}
use Rattle.proof_sizes.specs.Beneath.proof_commits.specs.Stages.{stage_of_actor}
use Rattle.proof_sizes.specs.Beneath.proof_commits.proofs.Known.Acts.{known_run}
use Rattle.proof_sizes.specs.Beneath.proof_commits.proofs.Known.Owners.{IsSound}
use Rattle.proof_sizes.specs.Beneath.proof_commits.proofs.Known.Sounds.{sound_at}
use Rattle.proof_sizes.specs.Beneath.proof_commits.proofs.Resting.{none_at}
use Rattle.proof_sizes.specs.Beneath.proof_commits.proofs.Words.Along.{protocol}
use Rattle.proof_sizes.specs.Beneath.proof_commits.proofs.Words.Stood.{Stood, over_failed}
use Rattle.proof_sizes.specs.Beneath.proof_contents.specs.Tries.{Trie, node_in}
use Rattle.proof_sizes.specs.Beneath.proof_generations.proofs.Handles.Running.{place_of_actor}
use Rattle.proof_sizes.specs.Beneath.proof_generations.proofs.Lines.ReaderKnows.{indirection_is}
use Rattle.proof_sizes.specs.Beneath.proof_order.proofs.Offers.Standing.{offers_at}
use Rattle.proof_sizes.specs.Beneath.proof_shape.specs.Shaped.{HasShape, trie_of_run}
use Rattle.proof_sizes.specs.Beneath.proof_shape.specs.Sites.At.{StepsFit, TakesSteps}
use Rattle.proof_sizes.specs.Beneath.proof_shape.specs.Sites.Lines.{bare}
use Rattle.proof_sizes.specs.Beneath.proof_shape.proofs.Shaped.Places.{bare_single}
use Rattle.proof_sizes.specs.Beneath.proof_shape.proofs.Shaped.Trie.{runs_have_shape}
use Rattle.proof_sizes.specs.Beneath.proof_shape.proofs.Sites.Grown.{WordMade, grown_sites}
use Rattle.proof_sizes.specs.Beneath.proof_obstruction_free.proofs.Weights.FailedOwners.{failed_owned}
use Rattle.proof_sizes.specs.Beneath.proof_updates.proofs.Handles.Showing.{entries_same, link_same, main_same, node_same, root_deep, root_link, root_used}
use Rattle.proof_sizes.specs.Nodes.{nodes_of}
use Rattle.proof_sizes.proofs.Once.{IsEntry, a_link, a_single, deeper_by, link_deep}
use Rattle.proof_sizes.proofs.Shown.{handle_weighs, kinds, under}
use Rattle.proof_sizes.proofs.Weights.{weight_at, weight_from, weight_link, weight_node, weight_none, weight_single}

-- ---- sums

pub some_of : {X : Type 0} (f : X → ℕ) (xs : List X) → 0 < sum_by f xs → (x : X) × Contains xs x × (0 < f x)
some_of f [] some = absurd (omega (arith, some))
some_of {X} f (x ∷ xs) some = by (f x) refl (some_of f xs)
  where
    by : (n : ℕ) → f x ≡ n → (0 < sum_by f xs → (y : X) × Contains xs y × (0 < f y)) → (y : X) × Contains (x ∷ xs) y × (0 < f y)
    by (suc n) is rest = (x, (0, omega arith, refl), omega (arith, is))
    by zero is rest = let (y, within, more) = rest (omega (arith, some, sum_by-cons f x xs, is)) in (y, (suc within.0, omega (arith, within.1), within.2), more)

one_of : {X : Type 0} (f : X → ℕ) (xs : List X) (x : X) → Contains xs x → 0 < f x → 0 < sum_by f xs
one_of f xs x (k, lt, at) more =
    let less = get_or-le-sum_by f xs k x lt in
    omega (arith, less, ap f at, more)

main_refs : (n : Node) → is_main_node n ≡ true → refs_of_node n ≡ entries_of n
main_refs (Branch b es) e = refl
main_refs (Tomb s) e = refl
main_refs (Listed ss) e = refl
main_refs (Indirection g w) e = absurd (false≢true e)
main_refs (Single k v) e = absurd (false≢true e)

link_is_no_main : (n : Node) → is_indirection n ≡ true → is_main_node n ≡ false
link_is_no_main (Indirection g w) e = refl
link_is_no_main (Branch b es) e = absurd (false≢true e)
link_is_no_main (Single k v) e = absurd (false≢true e)
link_is_no_main (Tomb s) e = absurd (false≢true e)
link_is_no_main (Listed ss) e = absurd (false≢true e)

module _ {limits : Bounds} {states : ℕ → State} (steps : ℕ → Step) {last : ℕ} (run : IsRun limits states last) (takes : TakesSteps states steps last) (keys : StepsFit steps last)
    (rest : is_busy (states last) ≡ false) where
  abbrev trie : Trie
  trie = trie_of_run limits states steps last

  abbrev heap : Heap
  heap = (states last).heap

  abbrev p : Protocol
  p = protocol limits states last (known_run run)

  safe : IsSafe (states last)
  safe = safe_at run last (omega arith)

  shape : HasShape (trie_of_run limits states steps last)
  shape = runs_have_shape limits states steps last run takes keys

  -- ---- nobody decides a node

  nobody : (k : ℕ) (operation : Operation) → operation_of (states last) k ≡ Some operation → ⊥
  nobody k operation runs = let at = place_of_actor (states last) k operation runs in none_at (states last).actors rest at.0 operation at.2

  none_decides : (k : ℕ) (i below m : Ref) (l : ReadLine) → p.words.stage last k ≡ Decides i below m l → ⊥
  none_decides k i below m l stage = by (operation_of (states last) k) refl
    where
      by : (o : Option Operation) → operation_of (states last) k ≡ o → ⊥
      by None is = let bad : Rests ≡ Decides i below m l = sym (ap stage_of_actor is) ∙ stage in cc
      by (Some operation) is = nobody k operation is

  sound : IsSound p.words last
  sound = sound_at p last (omega arith)

  no_pending : (m q : Ref) → prev_word states last m ≡ over.Pending q → ⊥
  no_pending m q is = let o = sound.owned m q is in none_decides o.actor o.link q m o.line o.stage

  -- what stands in a main word is decided
  word_decided : (i m : Ref) → is_indirection (node_under states last i) ≡ true → main_word states last i ≡ m → prev_word states last m ≡ over.None
  word_decided i m link is = by (prev_word states last m) refl
    where
      by : (v : Prev) → prev_word states last m ≡ v → prev_word states last m ≡ over.None
      by over.None e = e
      by (over.Pending q) e = absurd (no_pending m q e)
      by (over.Failed q) e = absurd (let o = failed_owned p last (omega arith) i m q link e is in none_decides o.actor i o.below m o.line o.stage)

  -- what stood in a main word is a main node
  stood_is_main : (i q : Ref) (slot : Slot) → standing heap q ≡ Some slot → Stood p.words last i q → is_main_node slot.node ≡ true
  stood_is_main i q slot found s = by_slot (grown states s.at i) refl
    where
      by_node : (there : Slot) → grown states s.at i ≡ Some there → (n : Node) → there.node ≡ n → is_indirection n ≡ true → WordMade states s.at n → is_main_node slot.node ≡ true
      by_node there is (Indirection g w) n_is link (main, made, is_main) =
          let same : w ≡ q = sym (ap main_of n_is) ∙ sym (ap (λ x. main_of (node_of x)) is) ∙ s.is in
          let (now, found_now, stays) = grown_stays run s.at last s.past (omega arith) w main made in
          let one : now ≡ slot = same_Some _ _ (sym found_now ∙ ap (grown states last) same ∙ grown_in_use states last q slot found) in
          ap (λ (x : Slot). is_main_node x.node) (sym one) ∙ meets_same AMain main.node now.node stays.0 ∙ is_main
      by_node there is (Branch b es) n_is link made = absurd (false≢true link)
      by_node there is (Single k v) n_is link made = absurd (false≢true link)
      by_node there is (Tomb x) n_is link made = absurd (false≢true link)
      by_node there is (Listed ss) n_is link made = absurd (false≢true link)

      by_slot : (o : Option Slot) → grown states s.at i ≡ o → is_main_node slot.node ≡ true
      by_slot None is = absurd (false≢true (sym (ap (λ x. is_indirection (node_of x)) is) ∙ s.link))
      by_slot (Some there) is =
          by_node there is there.node refl (sym (ap (λ x. is_indirection (node_of x)) is) ∙ s.link) (grown_sites steps run takes keys s.at s.past i there is).word

  -- what is no main node has no prev word
  no_main_decided : (q : Ref) (slot : Slot) → standing heap q ≡ Some slot → is_main_node slot.node ≡ false → slot.prev ≡ over.None
  no_main_decided q slot found kind = by slot.prev refl
    where
      word : prev_word states last q ≡ slot.prev
      word = ap prev_of (grown_in_use states last q slot found)

      by : (v : Prev) → slot.prev ≡ v → slot.prev ≡ over.None
      by over.None e = e
      by (over.Pending r) e = absurd (no_pending q r (word ∙ e))
      by (over.Failed r) e =
          let stands = sound.words.over q r (over_failed (word ∙ e)) in absurd (false≢true (sym kind ∙ stood_is_main stands.link q slot found stands.stood))

  -- ---- an indirection in use

  module _ (i : Ref) (used : IsInUse heap i) (link : is_indirection (node_under states last i) ≡ true) where
    linked : is_indirection (node_at heap i) ≡ true
    linked = link_same steps run takes keys last (omega arith) i used ∙ link

    main_used_now : IsInUse heap (main_at heap i)
    main_used_now =
        let node = indirection_is (node_at heap i) linked in
        let inside = (heaped_in_use (states last) safe).inside i used in
        subst (IsInUse heap) (sym (ap main_of node.2)) (safe_of (subst (λ n. AllHold (IsInUse heap) heap (node_wants n)) node.2 inside).0)

    main_prev : prev_at heap (main_at heap i) ≡ over.None
    main_prev =
        let m = main_at heap i in
        let word : main_word states last i ≡ m = ap (λ o. main_of (node_of o)) (grown_in_use states last i used.0 used.1) ∙ ap main_of (sym (node_standing heap i used.0 used.1)) in
        let same : prev_at heap m ≡ prev_word states last m = prev_standing heap m main_used_now.0 main_used_now.1 ∙ sym (ap prev_of (grown_in_use states last m main_used_now.0 main_used_now.1)) in
        same ∙ word_decided i m (ap (λ o. is_indirection (node_of o)) (grown_in_use states last i used.0 used.1) ∙ ap is_indirection (sym (node_standing heap i used.0 used.1)) ∙ linked) word

    pub main_counts : main_at heap i ≡ trie.main last i
    main_counts = sym (ap (logical (main_at heap i)) main_prev) ∙ main_same steps run takes keys last (omega arith) i used link

  -- ---- what is referred to

  -- the slot of what is in use
  slot_is : (q : Ref) (used : IsInUse heap q) → stored heap q ≡ Some used.0
  slot_is q used = (standing_parts heap q used.0 used.1).0

  refs_decided : (q r : Ref) (used : IsInUse heap q) → used.0.prev ≡ over.None → Contains (refs_of_slot (stored heap q)) r → Contains (refs_of_node (node_at heap q)) r
  refs_decided q r used none c =
      by (Contains-append_cases (refs_of_node used.0.node) (refs_of_prev used.0.prev) r (subst (λ o. Contains (refs_of_slot o) r) (slot_is q used) c))
    where
      by : Contains (refs_of_node used.0.node) r ⊎ Contains (refs_of_prev used.0.prev) r → Contains (refs_of_node (node_at heap q)) r
      by (inl within) = subst (λ n. Contains (refs_of_node n) r) (sym (node_standing heap q used.0 used.1)) within
      by (inr over_it) = let c = subst (λ v. Contains (refs_of_prev v) r) none over_it in absurd (omega (arith, c.1))

  refs_of_link : (i r : Ref) (used : IsInUse heap i) → is_indirection (node_under states last i) ≡ true → Contains (refs_of_slot (stored heap i)) r → r ≡ trie.main last i
  refs_of_link i r used link c =
      let its = linked i used link in
      let kind = ap is_main_node (sym (node_standing heap i used.0 used.1)) ∙ link_is_no_main (node_at heap i) its in
      let node = indirection_is (node_at heap i) its in
      let within = refs_decided i r used (no_main_decided i used.0 used.1 kind) c in
      sym (only_one (main_at heap i) r (subst (λ n. Contains (main_of n ∷ []) r) (sym node.2) (subst (λ n. Contains (refs_of_node n) r) node.2 within))) ∙ main_counts i used link

  -- ---- what is referred to from a node that is met is met

  abbrev met : Ref → ℕ → Ref → ℕ
  met r levels i = weight_from (once r) trie.node (trie.main last) levels i

  -- it is met at once where it stands
  met_here : (r : Ref) (levels : ℕ) → 0 < met r (suc levels) r
  met_here r levels = by (trie.node r) refl
    where
      least : (n : Node) → 1 ≤ weight_at (once r) (met r levels) trie.node (trie.main last) r n
      least (Indirection g w) = omega (arith, once_same r)
      least (Branch b es) = omega (arith, once_same r)
      least (Single k v) = omega (arith, once_same r)
      least (Tomb s) = omega (arith, once_same r)
      least (Listed ss) = omega (arith, once_same r)

      by : (n : Node) → trie.node r ≡ n → 0 < met r (suc levels) r
      by n is =
          let all = weight_node (once r) trie.node (trie.main last) levels r in
          let some = least (trie.node r) in
          omega (arith, all, some)

  module _ (q r : Ref) (used_q : IsInUse heap q) (refers : Contains (refs_of_slot (stored heap q)) r) where
    met_on : (levels g : ℕ) (i word : Ref) → IsInUse heap i → trie.node i ≡ Indirection g word → levels + trie.depth i ≡ most_levels → trie.depth i ≤ 13 → 0 < met q levels i → 0 < met r levels i
    met_on zero g i word used is sum deep some = absurd (omega (arith, sum, deep))
    met_on (suc levels) g i word used is sum deep some = by (λ h e w. met_on levels h e w) (ℕ_discrete q i) (ℕ_discrete q (trie.main last i))
      where
        link : is_indirection (node_under states last i) ≡ true
        link = ap is_indirection is

        all_q : met q (suc levels) i ≡ once q i + once q (trie.main last i) + sum_by (met q levels) (entries_of (node_in trie last i))
        all_q = weight_link (once q) trie.node (trie.main last) levels g i word is

        all_r : met r (suc levels) i ≡ once r i + once r (trie.main last i) + sum_by (met r levels) (entries_of (node_in trie last i))
        all_r = weight_link (once r) trie.node (trie.main last) levels g i word is

        -- from the main node
        from_main : q ≡ trie.main last i → Contains (entries_of (node_in trie last i)) r
        from_main same =
            let m = logical_main heap i in
            let main_is : m ≡ trie.main last i = main_same steps run takes keys last (omega arith) i used link in
            let its : main_at heap i ≡ q = main_counts i used link ∙ sym same in
            let node = indirection_is (node_at heap i) (linked i used link) in
            let claim = (subst (λ n. AllHold (IsInUse heap) heap (node_wants n)) node.2 ((heaped_in_use (states last) safe).inside i used)).0 in
            let kind : is_main_node (node_at heap q) ≡ true = ap (λ x. is_main_node (node_at heap x)) (sym (ap main_of (sym node.2) ∙ its)) ∙ meets_of claim in
            let none : used_q.0.prev ≡ over.None = sym (prev_standing heap q used_q.0 used_q.1) ∙ ap (prev_at heap) (sym its) ∙ main_prev i used link in
            let within = refs_decided q r used_q none refers in
            let there : Contains (entries_of (node_at heap m)) r =
            subst (λ x. Contains (entries_of (node_at heap x)) r) (same ∙ sym main_is) (subst (λ l. Contains l r) (main_refs (node_at heap q) kind) within) in
            subst (λ l. Contains l r) (entries_same steps run takes keys last (omega arith) i used link) there

        -- an entry that is met leads on
        by_entry : ((h : ℕ) (e w : Ref) → IsInUse heap e → trie.node e ≡ Indirection h w → levels + trie.depth e ≡ most_levels → trie.depth e ≤ 13 → 0 < met q levels e → 0 < met r levels e) →
            (e : Ref) → Contains (entries_of (node_in trie last i)) e → 0 < met q levels e → 0 < met r levels e
        by_entry rest_of e within met_e = by_kind (kinds steps run takes keys last (omega arith) i e word g used is within)
          where
            used_e : IsInUse heap e
            used_e = under steps run takes keys last (omega arith) i e word g used is within

            -- a single refers to nothing
            nothing : (k v : ℕ) → trie.node e ≡ Single k v → q ≡ e → ⊥
            nothing k v e_is same =
                let bare_is = node_same steps run takes keys last (omega arith) e used_e ∙ ap bare e_is in
                let here : node_at heap q ≡ Single k v = ap (node_at heap) same ∙ bare_single (node_at heap e) k v bare_is in
                let kind : is_main_node used_q.0.node ≡ false = ap is_main_node (sym (node_standing heap q used_q.0 used_q.1) ∙ here) in
                let c = subst (λ n. Contains (refs_of_node n) r) here (refs_decided q r used_q (no_main_decided q used_q.0 used_q.1 kind) refers) in
                omega (arith, c.1)

            by_single : (k v : ℕ) → trie.node e ≡ Single k v → (levels_e : ℕ) → 0 < met q levels_e e → 0 < met r levels_e e
            by_single k v e_is zero some_e = absurd (omega (arith, some_e, weight_none (once q) trie.node (trie.main last) e))
            by_single k v e_is (suc lower) some_e = by_same (ℕ_discrete q e)
              where
                by_same : Dec (q ≡ e) → 0 < met r (suc lower) e
                by_same (yes same) = absurd (nothing k v e_is same)
                by_same (no apart) = absurd (omega (arith, some_e, weight_single (once q) trie.node (trie.main last) lower k v e e_is, once_other q e apart))

            by_kind : IsEntry (trie.node e) → 0 < met r levels e
            by_kind (a_single k v e_is) = by_single k v e_is levels met_e
            by_kind (a_link h w e_is) =
                let deeper = deeper_by trie i e w h (node_in trie last i) (shape.shaped last i (omega arith)) within e_is in
                rest_of h e w used_e e_is (omega (arith, sum, deeper)) (link_deep trie i e w h (node_in trie last i) (shape.shaped last i (omega arith)) within e_is) met_e

        by_sum : (e : Ref) → Contains (entries_of (node_in trie last i)) e → 0 < met r levels e → 0 < met r (suc levels) i
        by_sum e within more = let some_r = one_of (met r levels) (entries_of (node_in trie last i)) e within more in omega (arith, all_r, some_r)

        by : ((h : ℕ) (e w : Ref) → IsInUse heap e → trie.node e ≡ Indirection h w → levels + trie.depth e ≡ most_levels → trie.depth e ≤ 13 → 0 < met q levels e → 0 < met r levels e) →
            Dec (q ≡ i) → Dec (q ≡ trie.main last i) → 0 < met r (suc levels) i
        by rest_of (yes same) second =
            let is_main = refs_of_link i r used link (subst (λ x. Contains (refs_of_slot (stored heap x)) r) same refers) in
            omega (arith, all_r, ap (once r) (sym is_main) ∙ once_same r)
        by rest_of (no apart) (yes same) = by_level levels (omega (arith, sum, deep))
          where
            by_level : (l : ℕ) → 0 < l → 0 < met r (suc levels) i
            by_level l some_l = by_sum r (from_main same) (at_level levels (omega (arith, sum, deep)))
              where
                at_level : (l : ℕ) → 0 < l → 0 < met r l r
                at_level zero low = absurd (omega (arith, low))
                at_level (suc l) low = met_here r l
        by rest_of (no apart) (no away) =
            let (e, within, met_e) = some_of (met q levels) (entries_of (node_in trie last i)) (omega (arith, some, all_q, once_other q i apart, once_other q (trie.main last i) away)) in
            by_sum e within (by_entry rest_of e within met_e)

  -- ---- the only handle

  module _ (handle : ℕ) (root : Root) (at : root_at (states last) handle ≡ Some root) (only : (other : ℕ) → other ≢ handle → root_at (states last) other ≡ None) where
    abbrev top : Ref
    top = root_of root.word

    -- no offer stands in its word
    word_is : (w : RootWord) → root.word ≡ w → (r : Ref) → Contains (refs_of_word w) r → r ≡ root_of root.word
    word_is (Plain q) is r within = sym (only_one q r within) ∙ sym (ap root_of is)
    word_is (Offer offer) is r within =
        absurd (let s = (offers_at run last (omega arith)).own.offers handle offer (ap word_of at ∙ is) in none_at (states last).actors rest s.k s.owner s.runs)

    from_word : (other : ℕ) (r : Ref) → Contains (refs_of_root (root_at (states last) other)) r → r ≡ root_of root.word
    from_word other r within = by (ℕ_discrete other handle)
      where
        by : Dec (other ≡ handle) → r ≡ root_of root.word
        by (yes same) = word_is root.word refl r (subst (λ o. Contains (refs_of_root o) r) (ap (root_at (states last)) same ∙ at) within)
        by (no apart) = absurd (let c = subst (λ o. Contains (refs_of_root o) r) (only other apart) within in omega (arith, c.1))

    pub reached_is_met : (r : Ref) → IsReached (states last) r → IsInUse heap r × (0 < met r most_levels top)
    reached_is_met r (from_root other q within) =
        let same = from_word other r within in
        (subst (IsInUse heap) (sym same) (root_used steps run takes keys last (omega arith) handle root at), subst (λ x. 0 < met r most_levels x) same (met_here r 14))
    reached_is_met r (from_slot q s reached within) =
        let (used_q, met_q) = reached_is_met q reached in
        let node = indirection_is (node_under states last top) (root_link steps run takes keys last (omega arith) handle root at) in
        let deep = root_deep steps run takes keys last (omega arith) handle root at in (
          in_any_slot (states last) safe q r within,
          met_on q r used_q within most_levels node.0 top node.1
              (root_used steps run takes keys last (omega arith) handle root at) node.2 (omega (arith, deep)) (omega (arith, deep)) met_q,
        )

    pub reached_stands : (r : Ref) → IsReached (states last) r → 0 < times r (nodes_of (states last) handle)
    reached_stands r reached =
        let weighs = handle_weighs steps run takes keys last (omega arith) handle root at (once r) in
        let more = (reached_is_met r reached).1 in
        omega (arith, weighs, more)
