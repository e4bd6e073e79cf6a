-- Where the operation's root is the handle's and its path ends in no tomb, the operation ends: its SWAP succeeds.
use Rattle.std.proofs.Common.{◌≡◌, ℕ, suc, ◌+◌, ◌*◌, ◌≤◌, Bool, true, false, List, length, slice_index_or, Option, Some, if◌then◌else◌, refl, sym, subst, ap, ◌∙◌, arith}
use Rattle.proof_obstruction_free.specs.Vocabulary.{hash_of, position_of, Ref, Node, Indirection, Branch, Single, Tomb, List as Listed, node_at, entries_of, no_ref, has_flag, flag_of, BuildLine}
use Rattle.proof_obstruction_free.specs.Vocabulary.{Bounds, key_of, absent, key_after_main, current, depth_of, flag_in, swapping, build_path, main_of_build}
use Rattle.arrayvec.specs.ArrayVec.{ArrayVec}
use Rattle.proof_obstruction_free.specs.Beneath.machine_model.specs.declared.finding.KeyLine.TheVariants as key
use Rattle.proof_obstruction_free.specs.Beneath.machine_model.specs.declared.lines.Line.TheVariants as line
use Rattle.proof_obstruction_free.specs.Beneath.machine_model.specs.declared.lines.Purpose.TheVariants as purpose
use Rattle.proof_obstruction_free.specs.Beneath.proof_memory.proofs.Safety.AtTimes.{limits_at}
use Rattle.proof_obstruction_free.specs.Beneath.proof_memory.proofs.Claims.Uses.{safe_of, meets_of}
use Rattle.proof_obstruction_free.specs.Beneath.proof_memory.proofs.Claims.Nodes.{main_plain}
use Rattle.proof_obstruction_free.specs.Beneath.proof_memory.proofs.Claims.Named.{main_claim}
use Rattle.proof_obstruction_free.specs.Alone.{Lone, Stands, Has, Keeps, WordStays, IsCurrent, Within, IsWeight, node}
use Rattle.proof_obstruction_free.specs.Keys.{IsBuilt, BottomEnds, IsEnd, IsNoTomb, flag_at}
use Rattle.proof_obstruction_free.specs.Machines.{Machines, HasSwapped}
use Rattle.proof_obstruction_free.specs.Stepping.{Stepping}
use Rattle.proof_obstruction_free.proofs.Step.Within.{weaken, bind}
use Rattle.proof_obstruction_free.proofs.Build.Comes.{builds_on}
use Rattle.proof_obstruction_free.proofs.Build.Steps.{quiet_on}
use Rattle.proof_obstruction_free.proofs.Pass.Key.Lines.{absent_ends, list_ends, entry_ends}
use Rattle.proof_obstruction_free.proofs.Pass.Key.Stale.{update_ends, entry_link}
use Rattle.proof_obstruction_free.proofs.Climb.On.{short_way, levels}
use Rattle.proof_obstruction_free.proofs.Ends.StandsAt.{never}

module _
    (a : Lone) (weight : ℕ → ℕ) (c : ℕ) (heavy : IsWeight a weight) (steps : Stepping a) (machines : Machines a weight c) (path : List Ref) (r main : Ref) (g : ℕ)
    (short : length path ≤ 14)
  where
    abbrev W : (ℕ → Type 0) → ℕ → ℕ → Type 0
    W = Within a weight

    abbrev Nothing : ℕ → Type 0
    Nothing u = ⊥

    -- the main node stands there still, and the root is the handle's
    pub record Fresh (t : ℕ) : Type 0 where
      pub current_root : IsCurrent a t r (Some g)
      pub has : Has a t (current path) main

    pub fresh_on : (t u : ℕ) → Keeps a t u → WordStays a t u → Fresh t → Fresh u
    fresh_on t u keeps word f =
        record { current_root = record { plain = word r f.current_root.plain; own = f.current_root.own }; has = keeps (current path) main f.has }

    fresh_next : (t : ℕ) → Keeps a t (suc t) → WordStays a t (suc t) → Fresh t → Fresh (suc t)
    fresh_next t = fresh_on t (suc t)

    -- what is built is swapped in
    swapped_in : (t : ℕ) → Fresh t → (former : Option ℕ) (fresh : Ref) → Stands a t (Some g) (line.Swap (purpose.Update path former) (swapping (current path) main fresh)) →
        W Nothing (5 + levels c) t
    swapped_in t f former fresh now =
        bind a weight (HasSwapped a weight c t (Some g) (purpose.Update path former) (current path) fresh) Nothing 5 (levels c) t
        (machines.swaps_current (purpose.Update path former) (current path) main fresh r t (Some g) now f.current_root f.has)
        (λ u later within done. update_ends a weight c heavy steps machines path former short u (Some g) (node a fresh) done.stands)

    abbrev after_build : ℕ
    after_build = 30 + (5 + levels c)

    pub built_in : (l : BuildLine) (t : ℕ) → Fresh t → Stands a t (Some g) (line.Build l) → build_path l ≡ path → main_of_build l ≡ main → W Nothing after_build t
    built_in l t f now way is =
        bind a weight (IsBuilt a weight c t (Some g) path main) Nothing 30 (5 + levels c) t
        (subst (λ p. W (IsBuilt a weight c t (Some g) p main) 30 t) way (subst (λ m. W (IsBuilt a weight c t (Some g) (build_path l) m) 30 t) is (builds_on a weight c heavy steps l t (Some g) now)))
        (λ u later within built. swapped_in u (fresh_on t u built.keeps built.word f) built.former built.fresh built.stands)

    -- ---- the main node

    -- what comes from BUILD within m steps comes from the main node
    module _ (Q : ℕ → Type 0) (m : ℕ) (some : 1 ≤ m)
        (follows : (l : BuildLine) (t : ℕ) → Fresh t → Stands a t (Some g) (line.Build l) → build_path l ≡ path → main_of_build l ≡ main → W Q m t) where
      module _ (t : ℕ) (f : Fresh t) (now : Stands a t (Some g) (line.Key (key.Main path main))) (ends : IsEnd a (depth_of path) main) (no_tomb : IsNoTomb a (node a main)) where
        main_found : node_at (a.states t).heap main ≡ node a main
        main_found =
            let wanted = steps.wants t (Some g) (line.Key (key.Main path main)) now in
            steps.node_found t main now.until (safe_of (main_claim wanted)) (main_plain (node_at (a.states t).heap main) (meets_of (main_claim wanted)))

        -- the flag is that of the call's key
        flag_is : flag_in (a.states t) now.operation path ≡ flag_at a (depth_of path)
        flag_is =
            ap (λ (l : Bounds). flag_of (hash_of l.hash (key_of now.operation.call)) (depth_of path)) (limits_at a.run t now.until)
            ∙ ap (λ k. flag_of (hash_of a.limits.hash (key_of k)) (depth_of path)) now.call

        -- an indirection at the key's place would lead on
        no_link : (bitmap : ℕ) (entries : ArrayVec Ref) → node a main ≡ Branch bitmap entries → has_flag bitmap (flag_in (a.states t) now.operation path) ≡ true →
            (h : ℕ) (m : Ref) → node a (slice_index_or (entries_of (node a main)) (position_of (flag_in (a.states t) now.operation path) bitmap) no_ref) ≡ Indirection h m → ⊥
        no_link bitmap entries is flagged h m link = ends (slice_index_or (entries_of (node a main)) (position_of (flag_in (a.states t) now.operation path) bitmap) no_ref) h (record {
          bitmap = bitmap;
          entries = entries;
          branch = is;
          flagged = subst (λ x. has_flag bitmap x ≡ true) flag_is flagged;
          entry = ap (λ n. slice_index_or (entries_of n) (position_of (flag_at a (depth_of path)) bitmap) no_ref) (sym is)
              ∙ ap (λ x. slice_index_or (entries_of (node a main)) (position_of x bitmap) no_ref) (sym flag_is);
        }) (m, link)

        from_main : Fresh (suc t) → (n : Node) → node a main ≡ n → Stands a (suc t) (Some g) (key_after_main (a.states t) now.operation path main n) → W Q (m + 33) (suc t)
        from_main f (Branch bitmap entries) is next = by_flag (has_flag bitmap (flag_in (a.states t) now.operation path)) refl next
          where
            by_flag : (b : Bool) → has_flag bitmap (flag_in (a.states t) now.operation path) ≡ b →
                Stands a (suc t) (Some g) (if b then line.Key (key.Entry path main (position_of (flag_in (a.states t) now.operation path) bitmap)) else absent now.operation path main) →
                W Q (m + 33) (suc t)
            by_flag true flagged next =
                weaken a weight Q (m + 2) (m + 33) (suc t) (omega arith)
                (entry_ends a weight heavy steps path main (Some g) Fresh fresh_next Q m some follows (suc t) f
                (position_of (flag_in (a.states t) now.operation path) bitmap) next
                (λ h x link. let (m, its) = entry_link a steps path main (position_of (flag_in (a.states t) now.operation path) bitmap) (suc t)
                (Some g) next h x link in no_link bitmap entries is flagged h m its))
            by_flag false flagged next =
                weaken a weight Q m (m + 33) (suc t) (omega arith)
                (absent_ends a weight heavy steps path main (Some g) Fresh fresh_next Q m some follows (suc t) f now.operation next)
        from_main f (Listed singles) is next = list_ends a weight heavy steps path main (Some g) Fresh fresh_next Q m some follows (suc t) f 0 next
        from_main f (Tomb single) is next = absurd (subst (λ n. IsNoTomb a n) is no_tomb)
        from_main f (Indirection h x) is next = absurd (never a (suc t) (Some g) next)
        from_main f (Single k v) is next = absurd (never a (suc t) (Some g) next)

        pub from_here : W Q (m + 33 + 1) t
        from_here =
            quiet_on a weight heavy steps Q (m + 33) t (Some g) (line.Key (key.Main path main)) now tt tt tt refl
            (λ next keeps word. from_main (fresh_next t keeps word f) (node_at (a.states t).heap main) (sym main_found) next)

pub bottom_ends : (a : Lone) (weight : ℕ → ℕ) (c : ℕ) → IsWeight a weight → Stepping a → Machines a weight c → BottomEnds a weight c
bottom_ends a weight c heavy steps machines path r main t g now current_root has ends no_tomb =
    let short = short_way a t (Some g) (line.Key (key.Main path main)) now in
    let builds = 30 + (5 + (14 * (c + 12) + 3)) in
    weaken a weight (λ u. ⊥) (builds + 33 + 1) (14 * (c + 12) + 80) t (omega arith)
    (from_here a weight c heavy steps machines path r main g short (λ u. ⊥) builds (omega arith) (built_in a weight c heavy steps machines path r main g short)
    t (record { current_root = current_root; has = has }) now ends no_tomb)
