-- The pass that was under way when its actor was left alone: until its first RENEW that is swapped in nothing is known of its root; from there on its root is the handle's.
use Rattle.std.proofs.Common.{◌≡◌, ℕ, zero, suc, ◌+◌, ◌-◌, ◌*◌, ◌≤◌, ◌⊎◌, ◌==◌, Bool, true, false, inl, inr, List, [], ◌∷◌, ◌++◌, length, Some, refl, sym, subst, ltb-true, eqb-true, arith}
use Rattle.std.proofs.Math.Nat.{mul-le-mul_right, suc-mul}
use Rattle.std.proofs.lemmas.List.{length-append}
use Rattle.proof_obstruction_free.specs.Vocabulary.{Writable, Ref, new_try, current, depth_of, reading}
use Rattle.proof_obstruction_free.specs.Beneath.machine_model.specs.declared.finding.KeyLine.TheVariants as key
use Rattle.proof_obstruction_free.specs.Beneath.machine_model.specs.declared.lines.Line.TheVariants as line
use Rattle.proof_obstruction_free.specs.Beneath.proof_memory.proofs.Claims.Uses.{fact_of}
use Rattle.proof_obstruction_free.specs.Alone.{IsCurrent, IsWeight, Lone, Stands, Within}
use Rattle.proof_obstruction_free.specs.Bounds.{bottom_most, fresh_most, level_most, stale_bottom_most, tombs_most}
use Rattle.proof_obstruction_free.specs.Keys.{BottomEnds, IsEnd, IsOf, RenewsFrom}
use Rattle.proof_obstruction_free.specs.Machines.{IsRead, Machines}
use Rattle.proof_obstruction_free.specs.Stale.{Tries}
use Rattle.proof_obstruction_free.specs.Stepping.{Stepping}
use Rattle.proof_obstruction_free.proofs.Climb.On.{short_way}
use Rattle.proof_obstruction_free.proofs.Pass.Along.{down_along}
use Rattle.proof_obstruction_free.proofs.Pass.Chains.{AtEnd, Leading, current_later, leads_or_ends}
use Rattle.proof_obstruction_free.proofs.Pass.Down.{FewEntries}
use Rattle.proof_obstruction_free.proofs.Pass.Lines.{down_reads, key_gives, key_holds_read, key_read}
use Rattle.proof_obstruction_free.proofs.Step.Within.{bind, weaken}
use Rattle.proof_obstruction_free.specs.Inherited.{PassKnown, first_most, once_most}
use Rattle.proof_obstruction_free.proofs.Inherited.Linking.{Linked, linked_longer}
use Rattle.proof_obstruction_free.proofs.Inherited.Onward.{from, level}
use Rattle.proof_obstruction_free.proofs.Inherited.Renewal.{IsRenewed, IsTried, renews_level}
use Rattle.proof_obstruction_free.proofs.Inherited.Tombs.{tomb_first}

module _ (a : Lone) (weight : ℕ → ℕ) (c : ℕ) (heavy : IsWeight a weight) (steps : Stepping a) (machines : Machines a weight c) (writes : a.own.access ≡ Writable)
    (few : FewEntries a) (renewing : RenewsFrom a weight c) (bottom : BottomEnds a weight c)
    (known : PassKnown a weight c) (tombs : (to : List Ref) (r m : Ref) (u h : ℕ) → length to ≤ 13 + 1 → AtEnd a r h to m u → Within a weight (λ v. ⊥) (tombs_most c 13) u)
    (fresh : (u h : ℕ) → Stands a u (Some h) new_try → Within a weight (λ v. ⊥) (fresh_most c) u)
    (stale_bottom : (path : List Ref) (main : Ref) (u h : ℕ) → Stands a u (Some h) (line.Key (key.Main path main)) → IsEnd a (depth_of path) main →
    Within a weight (Tries a weight c (Some h)) (stale_bottom_most c) u) where
  abbrev W : (ℕ → Type 0) → ℕ → ℕ → Type 0
  W = Within a weight

  abbrev Never : ℕ → Type 0
  Never u = ⊥

  -- ---- below the first level that was renewed

  abbrev m : ℕ
  m = 13 * level_most c + (46 * (c + 2) + 10 + tombs_most c 13)

  below_first : (path : List Ref) (r : Ref) (t g j : ℕ) → length path ≡ j + 2 → Stands a t (Some g) (line.Key (key.Read path (reading (current path)))) →
      IsCurrent a t r (Some g) → Linked a j t g path → W Never (once_most c) t
  below_first path r t g j size s x linked =
      weaken a weight Never (level_most c + m) (once_most c) t (omega arith)
      (level a weight c heavy steps machines writes few renewing bottom known tombs fresh path r g j m (omega (arith, size)) (omega arith)
      (λ u main single now root links is.
      weaken a weight Never ((33 * (c + 2) + 11) + fresh_most c + 1) (33 * (c + 2) + 14 + m) u (omega arith) (tomb_first a weight c heavy steps machines writes path main single u g now is fresh))
      (λ u below next root links.
      let len = length-append path (below ∷ []) in
      weaken a weight Never (suc (12 - j) * level_most c + (46 * (c + 2) + 10 + tombs_most c 13)) m u (few_left (mul-le-mul_right (level_most c) low))
      (from a weight c heavy steps machines writes few renewing bottom known tombs fresh (12 - j) (path ++ below ∷ []) r u g j (omega (arith, size, len, short))
      (omega (arith, size, len)) next root links)) t s x linked)
    where
      short : length path ≤ 14
      short = short_way a t (Some g) (line.Key (key.Read path (reading (current path)))) s

      low : suc (12 - j) ≤ 13
      low = omega arith

      few_left : suc (12 - j) * level_most c ≤ 13 * level_most c → suc (12 - j) * level_most c + (46 * (c + 2) + 10 + tombs_most c 13) ≤ m
      few_left le = omega (arith, le)

  after_first : (path : List Ref) (g t u : ℕ) → 1 ≤ length path → IsRenewed a weight c heavy steps machines writes few renewing path g t u → W Never (once_most c + 1 + 1) u
  after_first path g t u some y = by (leads_or_ends a (depth_of path) y.fresh)
    where
      by : Leading a (depth_of path) y.fresh ⊎ IsEnd a (depth_of path) y.fresh → W Never (once_most c + 1 + 1) u
      by (inl lead) =
          let of = y.own lead.below lead.generation lead.leads lead.is in
          down_along a weight c heavy steps machines writes Never (once_most c) u g path y.fresh lead.below y.stands lead.leads of
          (λ keeps stays next.
          let len = length-append path (lead.below ∷ []) in
          below_first (path ++ lead.below ∷ []) y.root (suc (suc u)) g (depth_of path) (omega (arith, len, some)) (down_reads a (suc (suc u)) (Some g) path lead.below next)
          (current_later a u (suc (suc u)) y.root (Some g) stays y.current_root)
          (linked_longer a (suc (suc u)) g (depth_of path) path y.fresh lead.below some (λ k le lt. absurd (omega (arith, le, lt))) (keeps (current path) y.fresh y.has) lead.leads of))
      by (inr ends) = weaken a weight Never (bottom_most c) (once_most c + 1 + 1) u (omega arith) (bottom path y.root y.fresh u g y.stands y.current_root y.has ends y.branch)

  -- ---- until then

  abbrev From : ℕ → Type 0
  From n = (path : List Ref) (t g : ℕ) → length path + n ≡ 15 → Stands a t (Some g) (line.Key (key.Read path (reading (current path)))) → W Never (n * (c + 2) + first_most c) t

  main_on : (n : ℕ) → From n → (path : List Ref) (main : Ref) (t g : ℕ) → length path + suc n ≡ 15 → 1 ≤ length path →
      Stands a t (Some g) (line.Key (key.Main path main)) → W Never (n * (c + 2) + first_most c + 1 + 1) t
  main_on n further path main t g size some s = by (leads_or_ends a (depth_of path) main)
    where
      after_it : (v : ℕ) → IsRenewed a weight c heavy steps machines writes few renewing path g t v
          ⊎ IsTried a weight c heavy steps machines writes few renewing path main g t v → W Never (once_most c + 1 + 1) v
      after_it v (inl y) = after_first path g t v some y
      after_it v (inr y) = weaken a weight Never (fresh_most c) (once_most c + 1 + 1) v (omega arith) (fresh v g y.stands)

      by_test : (lead : Leading a (depth_of path) main) (b : Bool) → (g == lead.generation) ≡ b → W Never (n * (c + 2) + first_most c + 1 + 1) t
      by_test lead true e =
          down_along a weight c heavy steps machines writes Never (n * (c + 2) + first_most c) t g path main lead.below s lead.leads
          (subst (IsOf a lead.below) (sym (eqb-true g lead.generation e)) lead.is)
          (λ keeps stays next.
          let len = length-append path (lead.below ∷ []) in
          further (path ++ lead.below ∷ []) (suc (suc t)) g (omega (arith, len, size)) (down_reads a (suc (suc t)) (Some g) path lead.below next))
      by_test lead false e =
          weaken a weight Never ((33 * (c + 2) + 12) + (once_most c + 1 + 1)) (n * (c + 2) + first_most c + 1 + 1) t (omega arith)
          (bind a weight
          (λ v. IsRenewed a weight c heavy steps machines writes few renewing path g t v
          ⊎ IsTried a weight c heavy steps machines writes few renewing path main g t v) Never (33 * (c + 2) + 12) (once_most c + 1 + 1) t
          (renews_level a weight c heavy steps machines writes few renewing path main lead.below lead.generation t g s lead.leads lead.is e) (λ v after in_time y. after_it v y))

      by : Leading a (depth_of path) main ⊎ IsEnd a (depth_of path) main → W Never (n * (c + 2) + first_most c + 1 + 1) t
      by (inl lead) = by_test lead (g == lead.generation) refl
      by (inr ends) =
          weaken a weight Never (stale_bottom_most c + fresh_most c) (n * (c + 2) + first_most c + 1 + 1) t (omega arith)
          (bind a weight (Tries a weight c (Some g)) Never (stale_bottom_most c) (fresh_most c) t (stale_bottom path main t g s ends) (λ v after in_time tries. fresh v g tries))

  some_read : (path : List Ref) (t g : ℕ) → Stands a t (Some g) (line.Key (key.Read path (reading (current path)))) → 1 ≤ length path
  some_read path t g s = ltb-true 0 (length path) (fact_of (steps.wants t (Some g) (line.Key (key.Read path (reading (current path)))) s).1.0)

  from_level : (n : ℕ) → From n
  from_level zero path t g size s = let short = short_way a t (Some g) (line.Key (key.Read path (reading (current path)))) s in absurd (omega (arith, size, short))
  from_level (suc n) path t g size s =
      weaken a weight Never (c + (n * (c + 2) + first_most c + 1 + 1)) (suc n * (c + 2) + first_most c) t (cost (suc-mul n (c + 2)))
      (bind a weight (IsRead a weight c t (Some g) (key_gives path) (current path)) Never c (n * (c + 2) + first_most c + 1 + 1) t
      (machines.reads_first (key_read path) (key_gives path) (current path) (key_holds_read a.own path) t (Some g) s)
      (λ u after in_time read. main_on n (from_level n) path read.main u g size (some_read path t g s) read.stands))
    where
      cost : suc n * (c + 2) ≡ n * (c + 2) + (c + 2) → c + (n * (c + 2) + first_most c + 1 + 1) ≤ suc n * (c + 2) + first_most c
      cost e = omega (arith, e)

  -- from the first line of its READ
  pub inherited_read : (path : List Ref) (t g : ℕ) → Stands a t (Some g) (line.Key (key.Read path (reading (current path)))) → W Never (14 * (c + 2) + first_most c) t
  inherited_read path t g s =
      let some = some_read path t g s in
      let short = short_way a t (Some g) (line.Key (key.Read path (reading (current path)))) s in
      weaken a weight Never ((15 - length path) * (c + 2) + first_most c) (14 * (c + 2) + first_most c) t (cost (mul-le-mul_right (c + 2) (low (length path) some)))
      (from_level (15 - length path) path t g (omega (arith, short)) s)
    where
      low : (n : ℕ) → 1 ≤ n → 15 - n ≤ 14
      low n le = omega (arith, le)

      cost : (15 - length path) * (c + 2) ≤ 14 * (c + 2) → (15 - length path) * (c + 2) + first_most c ≤ 14 * (c + 2) + first_most c
      cost le = omega (arith, le)

  -- from its main node
  pub inherited_main : (path : List Ref) (main : Ref) (t g : ℕ) → Stands a t (Some g) (line.Key (key.Main path main)) → W Never (14 * (c + 2) + first_most c) t
  inherited_main path main t g s =
      let short = short_way a t (Some g) (line.Key (key.Main path main)) s in
      weaken a weight Never ((14 - length path) * (c + 2) + first_most c + 1 + 1) (14 * (c + 2) + first_most c) t (cost (length path) some (mul-le-mul_right (c + 2) (low (length path) some)))
      (main_on (14 - length path) (from_level (14 - length path)) path main t g (omega (arith, short)) some s)
    where
      some : 1 ≤ length path
      some = ltb-true 0 (length path) (fact_of (steps.wants t (Some g) (line.Key (key.Main path main)) s).1.0)

      low : (n : ℕ) → 1 ≤ n → 14 - n ≤ 13
      low n le = omega (arith, le)

      cost : (n : ℕ) → 1 ≤ n → (14 - n) * (c + 2) ≤ 13 * (c + 2) → (14 - n) * (c + 2) + first_most c + 1 + 1 ≤ 14 * (c + 2) + first_most c
      cost n le most = omega (arith, most)
