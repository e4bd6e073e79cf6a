-- Each line of BUILD hands on what it knows, with the node that it made.
use Rattle.std.proofs.Common.{◌≡◌, ◌≢◌, ℕ, suc, ◌+◌, ◌-◌, ◌<◌, ◌≤◌, ◌==◌, Bool, true, false, cond, List, [], ◌∷◌, bit_or, slice_index_or, Option, None, ◌⊎◌, inl, inr, refl, sym}
use Rattle.std.proofs.Common.{ap, ap₂, subst, ◌∙◌, arith, eqb-true}
use Rattle.arrayvec.specs.ArrayVec.{ArrayVec}
use Rattle.proof_contents.specs.Vocabulary.{hash_of, HashKind, Ref, Node, Indirection, Branch, Single, List as Listed, node_at, entry_at, entries_of, entries_from, no_ref, list_depth, index_in}
use Rattle.proof_contents.specs.Vocabulary.{flag_of, parting, pair, rung, by_index, Operation, Site, Change, BuildLine, key_of, value_of, State, depth_of, hash_in, start_of, changed, key_in}
use Rattle.proof_contents.specs.Vocabulary.{old_hash, after_single, after_link, build_after_made}
use Rattle.proof_contents.specs.Nodes.Chains.{Parts, LeadsToPair, at_pair, by_rung}
use Rattle.proof_contents.proofs.Nodes.Branches.{differ}
use Rattle.proof_contents.proofs.Nodes.Partings.{IsParting, parting_is, pair_parts}
use Rattle.machine_model.specs.declared.building.Site.TheVariants as site
use Rattle.machine_model.specs.declared.building.Change.TheVariants as change
use Rattle.machine_model.specs.declared.building.BuildLine.TheVariants as build
use Rattle.machine_model.specs.declared.lines.Line.TheVariants as line
use Rattle.machine_model.specs.Paths as path
use Rattle.proof_contents.specs.Lines.Changes.{Known, Absence, no_flag, not_listed, Presence, in_branch, in_list, Neighbour, IsOther, of_branch, of_list, LeadsToBoth, LeadsBelow}
use Rattle.proof_contents.specs.Lines.Changes.{by_pair, by_link, KnowsChange, KnowsBuild, KnowsLine, main_of_build, build_path}
use Rattle.proof_contents.proofs.Shapes.Nodes.{list_depth-le}
use Rattle.proof_contents.proofs.Lines.Key.Knows.{known, Sees}

-- a pair is a main node
pair_main : (kind : HashKind) (d a b : ℕ) (x y : Ref) (g : ℕ) (m : Ref) → pair kind d a b x y ≢ Indirection g m
pair_main kind d a b x y g m = by_test (d == list_depth kind)
  where
    by_test : (t : Bool) → cond t (Listed (entries_from (x ∷ y ∷ []))) (Branch (bit_or (flag_of a d) (flag_of b d)) (entries_from (by_index (index_in a d) (index_in b d) x y))) ≢ Indirection g m
    by_test true e = cc
    by_test false e = cc

module _ (state : State) (operation : Operation) (node : Ref → Node) (first : Ref → Ref) (made : Ref) where
  abbrev K : Known
  K = known state operation node first

  abbrev Key' : ℕ
  Key' = key_of operation.call

  -- what was made stands under its reference; an indirection has this main node at first
  pub data IsMade (n : Node) : Type 0 where
    a_link : (g : ℕ) (m word : Ref) → n ≡ Indirection g m → node made ≡ Indirection g word → first made ≡ m → IsMade n
    another : ((g : ℕ) (m : Ref) → n ≢ Indirection g m) → node made ≡ n → IsMade n

  made_is : (n : Node) → ((g : ℕ) (m : Ref) → n ≢ Indirection g m) → IsMade n → node made ≡ n
  made_is n not (a_link g m word is stands at) = absurd (not g m is)
  made_is n not (another not' stands) = stands

  link_is : (g : ℕ) (m : Ref) → IsMade (Indirection g m) → ((h : ℕ) × (word : Ref) × (node made ≡ Indirection h word)) × (first made ≡ m)
  link_is g m (a_link h m' word is stands at) = let same : Indirection g m ≡ Indirection h m' = is in let m_is : m' ≡ m = cc in ((h, word, stands), at ∙ m_is)
  link_is g m (another not stands) = absurd (not g m refl)

  module _ (main : Ref) (sees : Sees state operation node first main) (p : List Ref) where
    -- the new single
    single_knows : (site : Site) (former : Option ℕ) → KnowsBuild K operation.call (build.Single p main site former) →
        ((position k v : ℕ) → node (entry_at state.heap main position) ≡ Single k v → node_at state.heap (entry_at state.heap main position) ≡ Single k v) →
        IsMade (Single Key' (value_of operation.call)) → KnowsLine K operation.call (after_single state operation p main former site made)
    single_knows site.Absent former (ins, absence) back is =
        (ins, absence, made_is (Single Key' (value_of operation.call)) (λ g m e. let bad : Single Key' (value_of operation.call) ≡ Indirection g m = e in cc) is)
    single_knows (site.At position) former (value, had, sets, presence) back is =
        inl (value, had, sets, presence, made_is (Single Key' (value_of operation.call)) (λ g m e. let bad : Single Key' (value_of operation.call) ≡ Indirection g m = e in cc) is)
    single_knows (site.Beside position) former (ins, beside) back is = (
      (refl, ins.1),
      (
        beside,
        made_is (Single Key' (value_of operation.call)) (λ g m e. let bad : Single Key' (value_of operation.call) ≡ Indirection g m = e in cc) is,
        ap (λ a. parting (list_depth state.limits.hash - (depth_of p + 1)) a (hash_of state.limits.hash Key') (depth_of p + 1)) old_is,
      ),
    )
      where
        at : entry_at state.heap main position ≡ slice_index_or beside.entries.items position no_ref
        at = ap (λ n. slice_index_or (entries_of n) position no_ref) (sees.main_is ∙ beside.branch.is)

        old_is : old_hash state main position ≡ hash_of state.limits.hash beside.other
        old_is = ap (λ n. hash_of state.limits.hash (key_in n)) (back position beside.other beside.own (ap node at ∙ beside.is))

    -- the pair of the two singles
    pair_knows : (position : ℕ) (single : Ref) (depth : ℕ) → KnowsBuild K operation.call (build.Pair p main position single depth) → depth_of p < list_depth state.limits.hash →
        ((position k v : ℕ) → node (entry_at state.heap main position) ≡ Single k v → node_at state.heap (entry_at state.heap main position) ≡ Single k v) →
        IsMade (pair state.limits.hash depth (old_hash state main position) (hash_in state operation) (entry_at state.heap main position) single) →
        KnowsLine K operation.call (line.Build (build.Link p main position made depth))
    pair_knows position single depth (ins, (beside, new, depth_is)) shallow back is = (
      ins,
      (
        beside,
        single,
        new,
        by_pair
            (made_is _ (pair_main state.limits.hash depth (old_hash state main position) (hash_in state operation) (entry_at state.heap main position) single) is
            ∙ ap₂ (λ a e. pair state.limits.hash depth a (hash_of state.limits.hash Key') e single) old_is at)
            (subst (λ d. Parts state.limits.hash beside.other Key' d) (sym depth_is) (pair_parts state.limits.hash beside.other Key' (depth_of p) shallow))
            (omega (arith, parts.from, depth_is)) (omega (arith, parts.within, depth_is, list_depth-le state.limits.hash))
            (λ d le lt. parts.alike d (omega arith) (omega (arith, depth_is))),
      ),
    )
      where
        at : entry_at state.heap main position ≡ slice_index_or beside.entries.items position no_ref
        at = ap (λ n. slice_index_or (entries_of n) position no_ref) (sees.main_is ∙ beside.branch.is)

        old_is : old_hash state main position ≡ hash_of state.limits.hash beside.other
        old_is = ap (λ n. hash_of state.limits.hash (key_in n)) (back position beside.other beside.own (ap node at ∙ beside.is))

        parts : IsParting (list_depth state.limits.hash - (depth_of p + 1)) (hash_of state.limits.hash beside.other) (hash_of state.limits.hash Key') (depth_of p + 1)
            (parting (list_depth state.limits.hash - (depth_of p + 1)) (hash_of state.limits.hash beside.other) (hash_of state.limits.hash Key') (depth_of p + 1))
        parts = parting_is (list_depth state.limits.hash - (depth_of p + 1)) (hash_of state.limits.hash beside.other) (hash_of state.limits.hash Key') (depth_of p + 1)

    -- an indirection over what was made for this depth
    link_leads : (position : ℕ) (below : Ref) (depth g : ℕ) (beside : Neighbour K (depth_of p) Key' main position) (single : Ref) →
        LeadsBelow K operation.call (depth_of p) main position beside single depth below →
        IsMade (Indirection g below) → LeadsToBoth K operation.call (depth_of p) main position beside single depth made
    link_leads position below depth g beside single (by_pair is parts above deep alike) made_ =
        let l = link_is g below made_ in
        let levels : 15 - depth ≡ suc (14 - depth) = omega arith in (
          l.0,
          subst (λ n. LeadsToPair node first state.limits.hash beside.other Key' (slice_index_or beside.entries.items position no_ref) single n depth made) (sym levels)
              (at_pair (14 - depth) depth made (ap node l.1 ∙ is) parts),
        )
    link_leads position below depth g beside single (by_link link is (ind, rest) above alike) made_ =
        let l = link_is g below made_ in
        let deep = alike.0 in
        let levels : 15 - depth ≡ suc (15 - suc depth) = omega arith in (
          l.0,
          subst (λ n. LeadsToPair node first state.limits.hash beside.other Key' (slice_index_or beside.entries.items position no_ref) single n depth made) (sym levels)
              (by_rung (15 - suc depth) depth made link ind.1 ind.0 (ap node l.1 ∙ is) ind.2 (alike.1 depth (omega arith) (omega arith)) rest),
        )

    -- how far the keys are alike above it
    alike_above : (position : ℕ) (below : Ref) (depth : ℕ) (beside : Neighbour K (depth_of p) Key' main position) (single : Ref) →
        LeadsBelow K operation.call (depth_of p) main position beside single depth below →
        (depth_of p < depth) × (depth ≤ 13) × ((d : ℕ) → suc (depth_of p) ≤ d → d < depth → index_in (hash_of state.limits.hash beside.other) d ≡ index_in (hash_of state.limits.hash Key') d)
    alike_above position below depth beside single (by_pair is parts above deep alike) = (above, deep, alike)
    alike_above position below depth beside single (by_link link is both above alike) = (above, alike.0, λ d le lt. alike.1 d le (omega arith))

    link_knows : (position : ℕ) (below : Ref) (depth : ℕ) → KnowsBuild K operation.call (build.Link p main position below depth) → IsMade (Indirection (start_of operation) below) →
        KnowsLine K operation.call (after_link p main position depth made)
    link_knows position below depth (ins, (beside, single, new, leads)) made_ = by_test (depth == depth_of p + 1) refl
      where
        both : LeadsToBoth K operation.call (depth_of p) main position beside single depth made
        both = link_leads position below depth (start_of operation) beside single leads made_

        far : (depth_of p < depth) × (depth ≤ 13) × ((d : ℕ) → suc (depth_of p) ≤ d → d < depth → index_in (hash_of state.limits.hash beside.other) d ≡ index_in (hash_of state.limits.hash Key') d)
        far = alike_above position below depth beside single leads

        by_test : (t : Bool) → (depth == depth_of p + 1) ≡ t →
            KnowsLine K operation.call (cond t (line.Build (build.Main p main (change.Update position made) None)) (line.Build (build.Rung p main position made (depth - 1))))
        by_test true e =
            let top : depth ≡ suc (depth_of p) = omega (arith, eqb-true depth (depth_of p + 1) e) in
            inr (ins, (beside, single, new, subst (λ d. LeadsToBoth K operation.call (depth_of p) main position beside single d made) top both))
        by_test false e =
            let away = differ depth (depth_of p + 1) e in
            let above = far.0 in
            let deep = far.1 in
            let one : depth ≡ suc (depth - 1) = omega arith in (
              ins,
              (
                beside,
                single,
                new,
                subst (λ d. LeadsToBoth K operation.call (depth_of p) main position beside single d made) one both,
                omega arith,
                (omega arith, λ d le lt. far.2 d le (omega arith)),
              ),
            )

    -- a branch of one entry
    rung_knows : (position : ℕ) (below : Ref) (depth : ℕ) → KnowsBuild K operation.call (build.Rung p main position below depth) → IsMade (rung (hash_in state operation) depth below) →
        KnowsLine K operation.call (line.Build (build.Link p main position made depth))
    rung_knows position below depth (ins, (beside, single, new, both, above, alike)) made_ = (
      ins,
      (
        beside,
        single,
        new,
        by_link below
            (made_is (rung (hash_of state.limits.hash Key') depth below) (λ g m e. let bad : rung (hash_of state.limits.hash Key') depth below ≡ Indirection g m = e in cc) made_) both above alike,
      ),
    )

    -- the new main node
    changed_main : (flag : ℕ) (n : Node) (c : Change) → ((b : ℕ) × (es : ArrayVec Ref) × (n ≡ Branch b es)) ⊎ ((ss : ArrayVec Ref) × (n ≡ Listed ss)) →
        (g : ℕ) (m : Ref) → changed flag n c ≢ Indirection g m
    changed_main flag n c (inl (b, es, is)) g m e = of_change c (sym (ap (λ n. changed flag n c) is) ∙ e)
      where
        of_change : (c : Change) → changed flag (Branch b es) c ≢ Indirection g m
        of_change (change.Insert s) e = cc
        of_change (change.Update q s) e = cc
        of_change (change.Remove q) e = cc
        of_change (change.Entomb s) e = cc
    changed_main flag n c (inr (ss, is)) g m e = of_change c (sym (ap (λ n. changed flag n c) is) ∙ e)
      where
        of_change : (c : Change) → changed flag (Listed ss) c ≢ Indirection g m
        of_change (change.Insert s) e = cc
        of_change (change.Update q s) e = cc
        of_change (change.Remove q) e = cc
        of_change (change.Entomb s) e = cc

    absence_main : Absence K (depth_of p) Key' main → ((b : ℕ) × (es : ArrayVec Ref) × (node main ≡ Branch b es)) ⊎ ((ss : ArrayVec Ref) × (node main ≡ Listed ss))
    absence_main (no_flag b es is lacks) = inl (b, es, is)
    absence_main (not_listed ss is room lacks) = inr (ss, is)

    presence_main : (position v : ℕ) → Presence K (depth_of p) Key' main position v → ((b : ℕ) × (es : ArrayVec Ref) × (node main ≡ Branch b es)) ⊎ ((ss : ArrayVec Ref) × (node main ≡ Listed ss))
    presence_main position v (in_branch b es f single) = inl (b, es, f.is)
    presence_main position v (in_list ss is lt single) = inr (ss, is)

    other_main : (other : Ref) (v : ℕ) → IsOther K (depth_of p) Key' main other v → ((b : ℕ) × (es : ArrayVec Ref) × (node main ≡ Branch b es)) ⊎ ((ss : ArrayVec Ref) × (node main ≡ Listed ss))
    other_main other v (of_branch b position own w es f single two is left) = inl (b, es, f.is)
    other_main other v (of_list position ss is lt single two there) = inr (ss, is)

    known_main : (c : Change) (former : Option ℕ) → KnowsChange K operation.call (depth_of p) main former c →
        ((b : ℕ) × (es : ArrayVec Ref) × (node main ≡ Branch b es)) ⊎ ((ss : ArrayVec Ref) × (node main ≡ Listed ss))
    known_main (change.Insert s) former (ins, absence, new) = absence_main absence
    known_main (change.Update position s) former (inl (v, had, sets, presence, new)) = presence_main position v presence
    known_main (change.Update position s) former (inr (ins, (beside, single, new, both))) = inl (beside.bitmap, beside.entries, beside.branch.is)
    known_main (change.Remove position) former (v, had, removes, presence) = presence_main position v presence
    known_main (change.Entomb other) former (v, had, removes, is) = other_main other v is

    main_made_knows : (c : Change) (former : Option ℕ) → KnowsBuild K operation.call (build.Main p main c former) → IsMade (changed (path.flag_in state operation p) (node_at state.heap main) c) →
        KnowsLine K operation.call (build_after_made state operation (build.Main p main c former) made)
    main_made_knows c former knows made_ = (
      c,
      knows,
      made_is (changed (path.flag_in state operation p) (node_at state.heap main) c)
          (subst (λ n. (g : ℕ) (m : Ref) → changed (path.flag_in state operation p) n c ≢ Indirection g m) (sym sees.main_is)
          (changed_main (path.flag_in state operation p) (node main) c (known_main c former knows)))
          made_ ∙ ap (λ n. changed (path.flag_in state operation p) n c) sees.main_is,
    )

  -- ---- the whole of BUILD

  -- the node that a line makes
  abbrev pub made_by : BuildLine → Node
  made_by (build.Single p main site former) = Single (key_of operation.call) (value_of operation.call)
  made_by (build.Pair p main position single depth) =
      pair state.limits.hash depth (old_hash state main position) (hash_in state operation) (entry_at state.heap main position) single
  made_by (build.Link p main position below depth) = Indirection (start_of operation) below
  made_by (build.Rung p main position below depth) = rung (hash_in state operation) depth below
  made_by (build.Main p main c former) = changed (path.flag_in state operation p) (node_at state.heap main) c

  pub build_knows : (l : BuildLine) → Sees state operation node first (main_of_build l) → depth_of (build_path l) < list_depth state.limits.hash →
      ((position k v : ℕ) → node (entry_at state.heap (main_of_build l) position) ≡ Single k v → node_at state.heap (entry_at state.heap (main_of_build l) position) ≡ Single k v) →
      IsMade (made_by l) → KnowsBuild K operation.call l → KnowsLine K operation.call (build_after_made state operation l made)
  build_knows (build.Single p main site former) sees shallow back is knows = single_knows main sees p site former knows back is
  build_knows (build.Pair p main position single depth) sees shallow back is knows = pair_knows main sees p position single depth knows shallow back is
  build_knows (build.Link p main position below depth) sees shallow back is knows = link_knows main sees p position below depth knows is
  build_knows (build.Rung p main position below depth) sees shallow back is knows = rung_knows main sees p position below depth knows is
  build_knows (build.Main p main c former) sees shallow back is knows = main_made_knows main sees p c former knows is
