-- A fresh pass goes down a level, or comes to the end of the key's path.
use Rattle.std.proofs.Common.{◌≡◌, ℕ, suc, ◌+◌, ◌*◌, ◌<◌, ◌≤◌, ◌⊎◌, ◌==◌, Bool, true, false, inl, inr, List, [], length, slice_index_or, Option, Some, refl, sym, ap, subst, ◌∙◌, eqb-true, arith}
use Rattle.std.proofs.Math.Nat.{mul-le-mul_right}
use Rattle.proof_obstruction_free.specs.Vocabulary.{position_of, Writable, Ref, Branch, bitmap_of, entries_of, no_ref, renewed, Line, line_action, current, depth_of, reading, swapping}
use Rattle.arrayvec.specs.ArrayVec.{ArrayVec}
use Rattle.proof_obstruction_free.specs.Beneath.machine_model.specs.declared.finding.KeyLine.TheVariants as key
use Rattle.proof_obstruction_free.specs.Beneath.machine_model.specs.declared.lines.Line.TheVariants as line
use Rattle.proof_obstruction_free.specs.Beneath.machine_model.specs.declared.lines.Purpose.TheVariants as purpose
use Rattle.proof_obstruction_free.specs.Beneath.machine_model.specs.declared.repairs.RenewLine.TheVariants as renew
use Rattle.proof_obstruction_free.specs.Alone.{Has, IsCurrent, IsWeight, Keeps, Lone, Stands, Within, WordStays, node}
use Rattle.proof_obstruction_free.specs.Keys.{Chain, GoesDown, IsBottom, IsDown, IsEnd, IsOf, IsRenewed, IsRenewing, Leads, RenewsFrom, flag_at}
use Rattle.proof_obstruction_free.specs.Machines.{HasSwapped, IsRead, Machines}
use Rattle.proof_obstruction_free.specs.Stepping.{IsNoEnd, LeavesWords, Stepping}
use Rattle.proof_obstruction_free.proofs.Pass.Chains.{Leading, chain_kept, chain_later, chain_longer, current_later, leads_or_ends, one_main, way_apart}
use Rattle.proof_obstruction_free.proofs.Pass.Lines.{goes_down, key_gives, key_holds_read, key_read, renews, to_entry, within}
use Rattle.proof_obstruction_free.proofs.Pass.Renewed.{renewed_leads}
use Rattle.proof_obstruction_free.proofs.Step.Within.{bind, here, map, one, same_stays, weaken}

-- a branch has 32 entries at most
abbrev pub FewEntries : Lone → Type 0
FewEntries a = (m : Ref) (b : ℕ) (es : ArrayVec Ref) → node a m ≡ Branch b es → length es.items ≤ 32

module _ (a : Lone) (weight : ℕ → ℕ) (c : ℕ) (heavy : IsWeight a weight) (steps : Stepping a) (writes : a.own.access ≡ Writable) where
  abbrev W : (ℕ → Type 0) → ℕ → ℕ → Type 0
  W = Within a weight

  -- ---- a fresh pass at a main node

  pub record AtMain (r : Ref) (g : ℕ) (path : List Ref) (main : Ref) (t : ℕ) : Type 0 where
    pub stands : Stands a t (Some g) (line.Key (key.Main path main))
    pub current_root : IsCurrent a t r (Some g)
    pub chain : Chain a t r g path
    pub has : Has a t (current path) main

  -- down, or at the end
  abbrev pub Goes : Ref → ℕ → List Ref → ℕ → Type 0
  Goes r g path u = IsDown a weight c r g path u ⊎ IsBottom a weight c r g path u

  pub ends_here : (r : Ref) (g : ℕ) (path : List Ref) (main : Ref) (t : ℕ) → AtMain r g path main t → IsEnd a (depth_of path) main → IsBottom a weight c r g path t
  ends_here r g path main t x ends =
      record { main = main; stands = x.stands; current_root = x.current_root; ended = record { chain = x.chain; has = x.has; ends = ends } }

  pub step_stays : (t : ℕ) (g : Option ℕ) (l : Line) (s : Stands a t g l) → t < a.last → IsNoEnd l → LeavesWords (line_action (a.states t) s.operation l) → WordStays a t (suc t)
  step_stays t g l s more no_end leaves = same_stays a t (suc t) (steps.words t g l s more no_end leaves)

  -- after a step from the main node, at its entry
  pub record AtEntry (r : Ref) (g : ℕ) (path : List Ref) (main below : Ref) (x : Leads a (depth_of path) main below) (t : ℕ) : Type 0 where
    pub stands : Stands a t (Some g) (line.Key (key.Entry path main (position_of (flag_at a (depth_of path)) x.bitmap)))
    pub current_root : IsCurrent a t r (Some g)
    pub chain : Chain a t r g path
    pub has : Has a t (current path) main

  pub at_entry : (r : Ref) (g : ℕ) (path : List Ref) (main below : Ref) (t : ℕ) → AtMain r g path main t → (x : Leads a (depth_of path) main below) → t < a.last → AtEntry r g path main below x (suc t)
  at_entry r g path main below t m x more =
      let keeps = steps.keeps t (Some g) (line.Key (key.Main path main)) m.stands more tt tt in
      record {
        stands = to_entry a steps t (Some g) path main below m.stands more x;
        current_root = current_later a t (suc t) r (Some g) (step_stays t (Some g) (line.Key (key.Main path main)) m.stands more tt tt) m.current_root;
        chain = chain_later a t (suc t) r g path keeps m.chain;
        has = keeps (current path) main m.has;
      }

  -- down to an indirection of the root's generation
  pub goes_on : (r : Ref) (g : ℕ) (path : List Ref) (main below : Ref) (t : ℕ) (x : Leads a (depth_of path) main below) → AtEntry r g path main below x t →
      IsOf a below g → t < a.last → IsDown a weight c r g path (suc t)
  goes_on r g path main below t x e of more =
      let l = line.Key (key.Entry path main (position_of (flag_at a (depth_of path)) x.bitmap)) in
      let keeps = steps.keeps t (Some g) l e.stands more tt tt in
      record {
        below = below;
        stands = goes_down a steps writes t g path main below g x e.stands more of refl;
        current_root = current_later a t (suc t) r (Some g) (step_stays t (Some g) l e.stands more tt tt) e.current_root;
        chain = chain_longer a (suc t) r g path main below (chain_later a t (suc t) r g path keeps e.chain) (keeps (current path) main e.has) x of;
      }

  pub down_two : (r : Ref) (g : ℕ) (path : List Ref) (main below : Ref) (t : ℕ) → AtMain r g path main t → Leads a (depth_of path) main below → IsOf a below g → W (IsDown a weight c r g path) 2 t
  down_two r g path main below t m x of =
      one a weight heavy (IsDown a weight c r g path) 1 t (Some g) (line.Key (key.Main path main)) m.stands tt (λ more.
      let e = at_entry r g path main below t m x more in
      one a weight heavy (IsDown a weight c r g path) 0 (suc t) (Some g) (line.Key (key.Entry path main (position_of (flag_at a (depth_of path)) x.bitmap))) e.stands tt (λ more.
      here a weight (IsDown a weight c r g path) (suc (suc t)) (goes_on r g path main below (suc t) x e of more)))

  module _ (machines : Machines a weight c) (few : FewEntries a) (renewing : RenewsFrom a weight c) where
    -- ---- a READ of the current indirection

    pub read_main : (r : Ref) (g : ℕ) (path : List Ref) (t : ℕ) → Stands a t (Some g) (line.Key (key.Read path (reading (current path)))) → IsCurrent a t r (Some g) → Chain a t r g path →
        (Q : ℕ → Type 0) (n : ℕ) → ((u : ℕ) → (main : Ref) → t ≤ u → Keeps a t u → AtMain r g path main u → W Q n u) → W Q (c + n) t
    read_main r g path t s x chain Q n then =
        bind a weight (IsRead a weight c t (Some g) (key_gives path) (current path)) Q c n t
        (machines.reads_first (key_read path) (key_gives path) (current path) (key_holds_read a.own path) t (Some g) s)
        (λ u after in_time read. then u read.main after read.keeps
        (record { stands = read.stands; current_root = current_later a t u r (Some g) read.word x; chain = chain_later a t u r g path read.keeps chain; has = read.has }))

    -- ---- where all entries were renewed

    -- what a fresh pass knows as it comes to RENEW
    pub record AtRenewal (r : Ref) (g : ℕ) (path : List Ref) (main : Ref) (t : ℕ) : Type 0 where
      pub current_root : IsCurrent a t r (Some g)
      pub chain : Chain a t r g path
      pub has : Has a t (current path) main

    -- what a RENEW that swapped left
    pub record Renewed (g : ℕ) (main fresh : Ref) : Type 0 where
      pub done : List Ref
      pub short : length done ≤ 32
      pub same_length : length done ≡ length (entries_of (node a main))
      pub branch : node a fresh ≡ renewed (bitmap_of (node a main)) done
      pub each : (k : ℕ) → 0 ≤ k → k < length done → IsRenewed a g (slice_index_or done k no_ref)

    module _ (r : Ref) (g : ℕ) (path : List Ref) (main below : Ref) (x : Leads a (depth_of path) main below)
        (within_it : position_of (flag_at a (depth_of path)) x.bitmap < length (entries_of (node a main))) where
      after_renewal : (fresh t : ℕ) → Renewed g main fresh → AtMain r g path fresh t → W (Goes r g path) 2 t
      after_renewal fresh t done m = by (leads_or_ends a (depth_of path) fresh)
        where
          by : Leading a (depth_of path) fresh ⊎ IsEnd a (depth_of path) fresh → W (Goes r g path) 2 t
          by (inl x') =
              let of = renewed_leads a (depth_of path) g x'.generation main fresh below x'.below done.done done.short done.branch done.same_length done.each x within_it x'.leads x'.is in
              map a weight (IsDown a weight c r g path) (Goes r g path) 2 t (λ u after in_time d. inl d) (down_two r g path fresh x'.below t m x'.leads of)
          by (inr ends) = weaken a weight (Goes r g path) 0 2 t (omega arith) (here a weight (Goes r g path) t (inr (ends_here r g path fresh t m ends)))

      -- from the SWAP of the renewed branch
      after_swap : (t u : ℕ) → AtRenewal r g path main t → IsRenewing a weight c t g path main 0 u → t ≤ u → W (Goes r g path) (5 + (c + 2)) u
      after_swap t u e ren after =
          bind a weight (HasSwapped a weight c u (Some g) (purpose.Renew path) (current path) ren.fresh) (Goes r g path) 5 (c + 2) u
          (machines.swaps_current (purpose.Renew path) (current path) main ren.fresh r u (Some g) ren.stands
          (current_later a t u r (Some g) ren.word e.current_root) (ren.keeps (current path) main e.has))
          (λ v later in_time sw.
          let now = current_later a u v r (Some g) sw.word (current_later a t u r (Some g) ren.word e.current_root) in
          let chain = chain_kept a u v r g path (way_apart a u (Some g) (line.Swap (purpose.Renew path) (swapping (current path) main ren.fresh)) ren.stands path refl) sw.keeps
          (chain_later a t u r g path ren.keeps e.chain) in
          read_main r g path v sw.stands now chain (Goes r g path) 2 (λ w found last keeps m.
          let same : found ≡ ren.fresh = one_main a w (current path) found ren.fresh m.has (keeps (current path) ren.fresh sw.has) in
          let entries : length (entries_of (node a main)) ≤ 32 = subst (λ n. length (entries_of n) ≤ 32) (sym x.branch) (few main x.bitmap x.entries x.branch) in
          let done : Renewed g main found =
          record { done = ren.done; short = subst (λ n. n ≤ 32) (sym ren.same_length) entries; same_length = ren.same_length; branch = ap (node a) same ∙ ren.branch; each = ren.each } in
          after_renewal found w done m))

      -- RENEW, from its first entry
      renewing_level : (t : ℕ) → AtRenewal r g path main t → Stands a t (Some g) (line.Renew (renew.Entry path main [])) →
          W (Goes r g path) ((length (entries_of (node a main)) * (c + 2) + 2) + (5 + (c + 2))) t
      renewing_level t e s =
          bind a weight (IsRenewing a weight c t g path main 0) (Goes r g path) (length (entries_of (node a main)) * (c + 2) + 2) (5 + (c + 2)) t
          (renewing path main [] t g (length (entries_of (node a main))) s (omega arith)) (λ u after in_time ren. after_swap t u e ren after)

    -- ---- a level

    -- after the entry, RENEW
    from_entry : (r : Ref) (g : ℕ) (path : List Ref) (main below : Ref) (h t : ℕ) (x : Leads a (depth_of path) main below) → AtEntry r g path main below x t → IsOf a below h → (g == h) ≡ false →
        W (Goes r g path) (33 * (c + 2) + 8) t
    from_entry r g path main below h t x e of other =
        weaken a weight (Goes r g path) (((length (entries_of (node a main)) * (c + 2) + 2) + (5 + (c + 2))) + 1) (33 * (c + 2) + 8) t (costs (length (entries_of (node a main))) entries)
        (one a weight heavy (Goes r g path) ((length (entries_of (node a main)) * (c + 2) + 2) + (5 + (c + 2))) t (Some g) l e.stands tt (λ more.
        let keeps = steps.keeps t (Some g) l e.stands more tt tt in
        let next : AtRenewal r g path main (suc t) = record {
          current_root = current_later a t (suc t) r (Some g) (step_stays t (Some g) l e.stands more tt tt) e.current_root;
          chain = chain_later a t (suc t) r g path keeps e.chain;
          has = keeps (current path) main e.has;
        } in
        renewing_level r g path main below x (within a steps writes t g path main below h x e.stands more of) (suc t) next (renews a steps writes t g path main below h x e.stands more of other)))
      where
        l : Line
        l = line.Key (key.Entry path main (position_of (flag_at a (depth_of path)) x.bitmap))

        entries : length (entries_of (node a main)) ≤ 32
        entries = subst (λ n. length (entries_of n) ≤ 32) (sym x.branch) (few main x.bitmap x.entries x.branch)

        costs : (n : ℕ) → n ≤ 32 → ((n * (c + 2) + 2) + (5 + (c + 2))) + 1 ≤ 33 * (c + 2) + 8
        costs n le = let most = mul-le-mul_right (c + 2) le in omega (arith, most)

    pub level : (r : Ref) (g : ℕ) (path : List Ref) (main : Ref) (t : ℕ) → AtMain r g path main t → W (Goes r g path) (33 * (c + 2) + 9) t
    level r g path main t m = by (leads_or_ends a (depth_of path) main)
      where
        by_test : (x : Leading a (depth_of path) main) (b : Bool) → (g == x.generation) ≡ b → W (Goes r g path) (33 * (c + 2) + 9) t
        by_test x true e =
            let of : IsOf a x.below g = subst (IsOf a x.below) (sym (eqb-true g x.generation e)) x.is in
            weaken a weight (Goes r g path) 2 (33 * (c + 2) + 9) t (omega arith)
            (map a weight (IsDown a weight c r g path) (Goes r g path) 2 t (λ u after in_time d. inl d) (down_two r g path main x.below t m x.leads of))
        by_test x false e =
            weaken a weight (Goes r g path) (33 * (c + 2) + 8 + 1) (33 * (c + 2) + 9) t (omega arith)
            (one a weight heavy (Goes r g path) (33 * (c + 2) + 8) t (Some g) (line.Key (key.Main path main)) m.stands tt (λ more.
            from_entry r g path main x.below x.generation (suc t) x.leads (at_entry r g path main x.below t m x.leads more) x.is e))

        by : Leading a (depth_of path) main ⊎ IsEnd a (depth_of path) main → W (Goes r g path) (33 * (c + 2) + 9) t
        by (inl x) = by_test x (g == x.generation) refl
        by (inr ends) = weaken a weight (Goes r g path) 0 (33 * (c + 2) + 9) t (omega arith) (here a weight (Goes r g path) t (inr (ends_here r g path main t m ends)))

    pub goes_down_a_level : GoesDown a weight c
    goes_down_a_level path r t g s x chain =
        weaken a weight (Goes r g path) (c + (33 * (c + 2) + 9)) (34 * (c + 2) + 10) t (omega arith)
        (read_main r g path t s x chain (Goes r g path) (33 * (c + 2) + 9) (λ u main after keeps m. level r g path main u m))
