-- RENEW of a level where one actor alone takes steps, whatever its operation's root: it leads to a new try, or from then on that root is the handle's.
use Rattle.std.proofs.Common.{◌≡◌, ℕ, suc, ◌+◌, ◌*◌, ◌<◌, ◌≤◌, ◌⊎◌, ◌==◌, Bool, true, false, inl, inr, List, [], length, Some, refl, sym, subst, arith}
use Rattle.std.proofs.Math.Nat.{mul-le-mul_right}
use Rattle.proof_obstruction_free.specs.Vocabulary.{position_of, Writable, Ref, entries_of, new_try, swapped, current, depth_of}
use Rattle.proof_obstruction_free.specs.Beneath.machine_model.specs.declared.finding.KeyLine.TheVariants as key
use Rattle.proof_obstruction_free.specs.Beneath.machine_model.specs.declared.lines.Line.TheVariants as line
use Rattle.proof_obstruction_free.specs.Beneath.machine_model.specs.declared.lines.Purpose.TheVariants as purpose
use Rattle.proof_obstruction_free.specs.Beneath.machine_model.specs.declared.repairs.RenewLine.TheVariants as renew
use Rattle.proof_obstruction_free.specs.Alone.{Has, IsCurrent, IsPlain, IsWeight, Keeps, KeepsBut, Lone, Stands, Within, WordStays, generation, node}
use Rattle.proof_obstruction_free.specs.Keys.{IsNoTomb, IsOf, IsRenewing, Leads, RenewsFrom, flag_at}
use Rattle.proof_obstruction_free.specs.Machines.{IsRead, IsSwapped, Machines}
use Rattle.proof_obstruction_free.specs.Stepping.{Stepping}
use Rattle.proof_obstruction_free.proofs.Pass.Chains.{one_main}
use Rattle.proof_obstruction_free.proofs.Pass.Down.{FewEntries}
use Rattle.proof_obstruction_free.proofs.Pass.Lines.{key_gives, key_holds_read, key_read, renews, to_entry, within}
use Rattle.proof_obstruction_free.proofs.Pass.Renewed.{renewed_leads}
use Rattle.proof_obstruction_free.proofs.Step.Within.{bind, here, keeps_but, keeps_but_on, keeps_on, map, one, same_stays, stays_on, weaken}

module _ (a : Lone) (weight : ℕ → ℕ) (c : ℕ) (heavy : IsWeight a weight) (steps : Stepping a) (machines : Machines a weight c) (writes : a.own.access ≡ Writable)
    (few : FewEntries a) (renewing : RenewsFrom a weight c) where
  abbrev W : (ℕ → Type 0) → ℕ → ℕ → Type 0
  W = Within a weight

  -- ---- what comes of it

  -- the SWAP was done
  pub record IsRenewed (path : List Ref) (g t u : ℕ) : Type 0 where
    pub fresh : Ref
    pub stands : Stands a u (Some g) (line.Key (key.Main path fresh))
    pub root : Ref
    pub current_root : IsCurrent a u root (Some g)
    pub has : Has a u (current path) fresh
    pub keeps : KeepsBut a t u (current path)
    pub word : WordStays a t u
    pub branch : IsNoTomb a (node a fresh)
    pub own : (next : Ref) (h : ℕ) → Leads a (depth_of path) fresh next → IsOf a next h → IsOf a next g

  -- it wasn't: another main node stood there, or the handle's root is another
  pub record IsTried (path : List Ref) (main : Ref) (g t u : ℕ) : Type 0 where
    pub stands : Stands a u (Some g) new_try
    pub word : WordStays a t u
    pub other : Has a t (current path) main → (r : Ref) × IsPlain a u r × (Some g ≡ Some (generation a r) → ⊥)

  module _ (path : List Ref) (g : ℕ) (main below : Ref) (x : Leads a (depth_of path) main below) (inside : position_of (flag_at a (depth_of path)) x.bitmap < length (entries_of (node a main))) where
    abbrev Comes : ℕ → ℕ → Type 0
    Comes t u = IsRenewed path g t u ⊎ IsTried path main g t u

    entries : length (entries_of (node a main)) ≤ 32
    entries = subst (λ n. length (entries_of n) ≤ 32) (sym x.branch) (few main x.bitmap x.entries x.branch)

    -- ---- the SWAP, and the main node again

    read_again : (t u v y : ℕ) (ren : IsRenewing a weight c t g path main 0 u) (w : IsSwapped a weight c u (Some g) (purpose.Renew path) (current path) main ren.fresh v) → w.done ≡ true →
        IsRead a weight c v (Some g) (key_gives path) (current path) y → IsRenewed path g t y
    read_again t u v y ren w did read =
        let (has, (r, now)) = w.so.if_done did in
        let same : read.main ≡ ren.fresh = one_main a y (current path) read.main ren.fresh read.has (read.keeps (current path) ren.fresh has) in
        record {
          fresh = ren.fresh;
          stands = subst (λ m. Stands a y (Some g) (line.Key (key.Main path m))) same read.stands;
          root = r;
          current_root = record { plain = read.word r now.plain; own = now.own };
          has = read.keeps (current path) ren.fresh has;
          keeps = keeps_but_on a t u y (current path) (keeps_but a t u (current path) ren.keeps) (keeps_but_on a u v y (current path) w.keeps (keeps_but a v y (current path) read.keeps));
          word = stays_on a t u y ren.word (stays_on a u v y w.word read.word);
          branch = subst (IsNoTomb a) (sym ren.branch) tt;
          own = λ next h leads of. renewed_leads a (depth_of path) g h main ren.fresh below next ren.done
              (subst (λ n. n ≤ 32) (sym ren.same_length) entries) ren.branch ren.same_length ren.each x inside leads of;
        }

    after_swap : (t u v : ℕ) (ren : IsRenewing a weight c t g path main 0 u) (w : IsSwapped a weight c u (Some g) (purpose.Renew path) (current path) main ren.fresh v) → W (Comes t) c v
    after_swap t u v ren w = by w.done refl w.stands
      where
        by : (done : Bool) → w.done ≡ done → Stands a v (Some g) (swapped a.own (node a ren.fresh) (purpose.Renew path) done) → W (Comes t) c v
        by false failed s =
            weaken a weight (Comes t) 0 c v (omega arith)
            (here a weight (Comes t) v (inr (record { stands = s; word = stays_on a t u v ren.word w.word; other = λ has. w.so.if_not failed (ren.keeps (current path) main has) })))
        by true did s =
            map a weight (IsRead a weight c v (Some g) (key_gives path) (current path)) (Comes t) c v (λ y after in_time read. inl (read_again t u v y ren w did read))
            (machines.reads_first (key_read path) (key_gives path) (current path) (key_holds_read a.own path) v (Some g) s)

    abbrev costs : ℕ
    costs = length (entries_of (node a main)) * (c + 2) + 2 + (10 + c)

    renewing_level : (t : ℕ) → Stands a t (Some g) (line.Renew (renew.Entry path main [])) → W (Comes t) costs t
    renewing_level t s =
        bind a weight (IsRenewing a weight c t g path main 0) (Comes t) (length (entries_of (node a main)) * (c + 2) + 2) (10 + c) t
        (renewing path main [] t g (length (entries_of (node a main))) s (omega arith))
        (λ u after in_time ren.
        bind a weight (IsSwapped a weight c u (Some g) (purpose.Renew path) (current path) main ren.fresh) (Comes t) 10 c u
        (machines.swaps_first (purpose.Renew path) (current path) main ren.fresh u (Some g) ren.stands)
        (λ v later soon w. after_swap t u v ren w))

    -- it was all so before, too
    earlier : (t u v : ℕ) → Keeps a t u → WordStays a t u → Comes u v → Comes t v
    earlier t u v keeps word (inl y) =
        inl (record {
          fresh = y.fresh;
          stands = y.stands;
          root = y.root;
          current_root = y.current_root;
          has = y.has;
          keeps = keeps_but_on a t u v (current path) (keeps_but a t u (current path) keeps) y.keeps;
          word = stays_on a t u v word y.word;
          branch = y.branch;
          own = y.own;
        })
    earlier t u v keeps word (inr y) = inr (record { stands = y.stands; word = stays_on a t u v word y.word; other = λ has. y.other (keeps (current path) main has) })

  -- ---- from a main node that leads to an older indirection

  pub renews_level : (path : List Ref) (main below : Ref) (h t g : ℕ) → Stands a t (Some g) (line.Key (key.Main path main)) → Leads a (depth_of path) main below → IsOf a below h → (g == h) ≡ false →
      W (λ u. IsRenewed path g t u ⊎ IsTried path main g t u) (33 * (c + 2) + 12) t
  renews_level path main below h t g s x of other =
      let at = line.Key (key.Main path main) in
      let l = line.Key (key.Entry path main (position_of (flag_at a (depth_of path)) x.bitmap)) in
      let n = length (entries_of (node a main)) in
      let rest = n * (c + 2) + 2 + (10 + c) in
      weaken a weight To (rest + 1 + 1) (33 * (c + 2) + 12) t (cost n (subst (λ n. length (entries_of n) ≤ 32) (sym x.branch) (few main x.bitmap x.entries x.branch)))
      (one a weight heavy To (rest + 1) t (Some g) at s tt (λ more.
      let e = to_entry a steps t (Some g) path main below s more x in
      one a weight heavy To rest (suc t) (Some g) l e tt (λ again.
      let keeps = keeps_on a t (suc t) (suc (suc t)) (steps.keeps t (Some g) at s more tt tt) (steps.keeps (suc t) (Some g) l e again tt tt) in
      let word = stays_on a t (suc t) (suc (suc t)) (same_stays a t (suc t) (steps.words t (Some g) at s more tt tt))
      (same_stays a (suc t) (suc (suc t)) (steps.words (suc t) (Some g) l e again tt tt)) in
      let inside = within a steps writes (suc t) g path main below h x e again of in
      map a weight (Comes path g main below x inside (suc (suc t))) To rest (suc (suc t)) (λ v later soon y. earlier path g main below x inside t (suc (suc t)) v keeps word y)
      (renewing_level path g main below x inside (suc (suc t)) (renews a steps writes (suc t) g path main below h x e again of other)))))
    where
      To : ℕ → Type 0
      To u = IsRenewed path g t u ⊎ IsTried path main g t u

      cost : (n : ℕ) → n ≤ 32 → n * (c + 2) + 2 + (10 + c) + 1 + 1 ≤ 33 * (c + 2) + 12
      cost n le = let most = mul-le-mul_right (c + 2) le in omega (arith, most)
