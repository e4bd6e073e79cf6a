-- Once the operation's root is the handle's, the pass that was under way goes on: each level is renewed in it or in the fresh pass after it.
use Rattle.std.proofs.Common.{◌≡◌, ℕ, zero, suc, ◌+◌, ◌-◌, ◌*◌, ◌≤◌, ◌⊎◌, ◌==◌, Bool, true, false, inl, inr, List, [], ◌∷◌, ◌++◌, length, Some, refl, sym, ap, subst, ◌∙◌, eqb-true, arith}
use Rattle.std.proofs.Math.Nat.{mul-le-mul_right, suc-mul}
use Rattle.std.proofs.lemmas.List.{length-append}
use Rattle.proof_obstruction_free.specs.Vocabulary.{Writable, Ref, Tomb, Plain, current, depth_of, new_try, reading}
use Rattle.proof_obstruction_free.specs.Beneath.machine_model.specs.declared.finding.KeyLine.TheVariants as key
use Rattle.proof_obstruction_free.specs.Beneath.machine_model.specs.declared.lines.Line.TheVariants as line
use Rattle.proof_obstruction_free.specs.Alone.{Has, IsCurrent, IsWeight, Lone, Stands, Within, generation, node}
use Rattle.proof_obstruction_free.specs.Bounds.{bottom_most, fresh_most, level_most, tombs_most}
use Rattle.proof_obstruction_free.specs.Keys.{BottomEnds, IsEnd, IsNoTomb, IsOf, Leads, RenewsFrom}
use Rattle.proof_obstruction_free.specs.Machines.{IsRead, Machines}
use Rattle.proof_obstruction_free.specs.Stepping.{Stepping}
use Rattle.proof_obstruction_free.proofs.Climb.On.{short_way}
use Rattle.proof_obstruction_free.proofs.Pass.FreshTombs.{tomb_or_none}
use Rattle.proof_obstruction_free.proofs.Pass.Along.{down_along}
use Rattle.proof_obstruction_free.proofs.Pass.Chains.{AtEnd, Leading, current_later, leads_or_ends, way_apart}
use Rattle.proof_obstruction_free.proofs.Pass.Down.{FewEntries}
use Rattle.proof_obstruction_free.proofs.Pass.Lines.{down_reads, key_gives, key_holds_read, key_read}
use Rattle.proof_obstruction_free.proofs.Step.Within.{bind, weaken}
use Rattle.proof_obstruction_free.specs.Inherited.{PassKnown, known_most}
use Rattle.proof_obstruction_free.proofs.Inherited.Linking.{Linked, linked_all, linked_kept, linked_longer}
use Rattle.proof_obstruction_free.proofs.Inherited.Renewal.{IsRenewed, IsTried, renews_level}
use Rattle.proof_obstruction_free.proofs.Inherited.Tombs.{tomb_known}

module _ (a : Lone) (weight : ℕ → ℕ) (c : ℕ) (heavy : IsWeight a weight) (steps : Stepping a) (machines : Machines a weight c) (writes : a.own.access ≡ Writable)
    (few : FewEntries a) (renewing : RenewsFrom a weight c) (bottom : BottomEnds a weight c)
    (known : PassKnown a weight c) (tombs : (to : List Ref) (r m : Ref) (u h : ℕ) → length to ≤ 13 + 1 → AtEnd a r h to m u → Within a weight (λ v. ⊥) (tombs_most c 13) u)
    (fresh : (u h : ℕ) → Stands a u (Some h) new_try → Within a weight (λ v. ⊥) (fresh_most c) u) where
  abbrev W : (ℕ → Type 0) → ℕ → ℕ → Type 0
  W = Within a weight

  abbrev Never : ℕ → Type 0
  Never u = ⊥

  -- ---- a level

  module _ (path : List Ref) (r : Ref) (g j m : ℕ) (some : 1 ≤ length path) (enough : bottom_most c ≤ m) where
    -- a level further down
    abbrev Further : ℕ → Type 0
    Further m =
        (u : ℕ) (below : Ref) → Stands a u (Some g) (line.Key (key.Read (path ++ below ∷ []) (reading (current (path ++ below ∷ []))))) → IsCurrent a u r (Some g) →
        Linked a j u g (path ++ below ∷ []) → W Never m u

    -- from a main node that is known to lead on to the root's generation alone
    down : Further m → (main : Ref) (u : ℕ) → Stands a u (Some g) (line.Key (key.Main path main)) → IsCurrent a u r (Some g) → Linked a j u g path →
        Has a u (current path) main → (below : Ref) → Leads a (depth_of path) main below → IsOf a below g → W Never (m + 1 + 1) u
    down further main u s x linked has below leads of =
        down_along a weight c heavy steps machines writes Never m u g path main below s leads of
        (λ keeps stays next.
        further (suc (suc u)) below (down_reads a (suc (suc u)) (Some g) path below next) (current_later a u (suc (suc u)) r (Some g) stays x)
        (linked_longer a (suc (suc u)) g j path main below some (linked_all a u (suc (suc u)) g j path keeps linked) (keeps (current path) main has) leads of))

    bottom_here : (main : Ref) (u : ℕ) → Stands a u (Some g) (line.Key (key.Main path main)) → IsCurrent a u r (Some g) → Has a u (current path) main →
        IsEnd a (depth_of path) main → IsNoTomb a (node a main) → W Never (m + 1 + 1) u
    bottom_here main u s x has ends none = weaken a weight Never (bottom_most c) (m + 1 + 1) u (omega (arith, enough)) (bottom path r main u g s x has ends none)

    -- after a RENEW
    renewed : Further m → (main : Ref) (u v : ℕ) → Stands a u (Some g) (line.Key (key.Main path main)) → IsCurrent a u r (Some g) → Linked a j u g path →
        IsRenewed a weight c heavy steps machines writes few renewing path g u v → W Never (m + 1 + 1) v
    renewed further main u v s x linked y = by (leads_or_ends a (depth_of path) y.fresh)
      where
        now : IsCurrent a v r (Some g)
        now = current_later a u v r (Some g) y.word x

        still : Linked a j v g path
        still = linked_kept a u v g j path (way_apart a u (Some g) (line.Key (key.Main path main)) s path refl) y.keeps linked

        by : Leading a (depth_of path) y.fresh ⊎ IsEnd a (depth_of path) y.fresh → W Never (m + 1 + 1) v
        by (inl lead) = down further y.fresh v y.stands now still y.has lead.below lead.leads (y.own lead.below lead.generation lead.leads lead.is)
        by (inr ends) = bottom_here y.fresh v y.stands now y.has ends y.branch

    -- it doesn't fail
    never_tried : (main : Ref) (u v : ℕ) → IsCurrent a u r (Some g) → Has a u (current path) main → IsTried a weight c heavy steps machines writes few renewing path main g u v → ⊥
    never_tried main u v x has y =
        let (other, plain, apart) = y.other has in
        let same : Plain r ≡ Plain other = sym (y.word r x.plain) ∙ plain in
        let one : r ≡ other = cc same in
        apart (x.own ∙ ap (λ i. Some (generation a i)) one)

    from_main : Further m → (main : Ref) (u : ℕ) → Stands a u (Some g) (line.Key (key.Main path main)) → IsCurrent a u r (Some g) → Linked a j u g path →
        Has a u (current path) main → IsNoTomb a (node a main) → W Never (33 * (c + 2) + 14 + m) u
    from_main further main u s x linked has none = by (leads_or_ends a (depth_of path) main)
      where
        by_test : (lead : Leading a (depth_of path) main) (b : Bool) → (g == lead.generation) ≡ b → W Never (33 * (c + 2) + 14 + m) u
        by_test lead true e =
            weaken a weight Never (m + 1 + 1) (33 * (c + 2) + 14 + m) u (omega arith)
            (down further main u s x linked has lead.below lead.leads (subst (IsOf a lead.below) (sym (eqb-true g lead.generation e)) lead.is))
        by_test lead false e =
            weaken a weight Never ((33 * (c + 2) + 12) + (m + 1 + 1)) (33 * (c + 2) + 14 + m) u (omega arith)
            (bind a weight
            (λ v. IsRenewed a weight c heavy steps machines writes few renewing path g u v
            ⊎ IsTried a weight c heavy steps machines writes few renewing path main g u v) Never (33 * (c + 2) + 12) (m + 1 + 1) u
            (renews_level a weight c heavy steps machines writes few renewing path main lead.below lead.generation u g s lead.leads lead.is e)
            (λ v after in_time y. after_it v y))
          where
            after_it : (v : ℕ) → IsRenewed a weight c heavy steps machines writes few renewing path g u v
                ⊎ IsTried a weight c heavy steps machines writes few renewing path main g u v → W Never (m + 1 + 1) v
            after_it v (inl y) = renewed further main u v s x linked y
            after_it v (inr y) = absurd (never_tried main u v x has y)

        by : Leading a (depth_of path) main ⊎ IsEnd a (depth_of path) main → W Never (33 * (c + 2) + 14 + m) u
        by (inl lead) = by_test lead (g == lead.generation) refl
        by (inr ends) = weaken a weight Never (m + 1 + 1) (33 * (c + 2) + 14 + m) u (omega arith) (bottom_here main u s x has ends none)

    -- what comes of a tomb
    abbrev IfTomb : Type 0
    IfTomb = (u : ℕ) (main single : Ref) → Stands a u (Some g) (line.Key (key.Main path main)) → IsCurrent a u r (Some g) → Linked a j u g path →
        node a main ≡ Tomb single → W Never (33 * (c + 2) + 14 + m) u

    pub level : IfTomb → Further m → (t : ℕ) → Stands a t (Some g) (line.Key (key.Read path (reading (current path)))) → IsCurrent a t r (Some g) → Linked a j t g path → W Never (level_most c + m) t
    level if_tomb further t s x linked =
        weaken a weight Never (c + (33 * (c + 2) + 14 + m)) (level_most c + m) t (omega arith)
        (bind a weight (IsRead a weight c t (Some g) (key_gives path) (current path)) Never c (33 * (c + 2) + 14 + m) t
        (machines.reads_first (key_read path) (key_gives path) (current path) (key_holds_read a.own path) t (Some g) s)
        (λ u after in_time read. by u read.main read.stands (current_later a t u r (Some g) read.word x) (linked_all a t u g j path read.keeps linked) read.has (tomb_or_none a (node a read.main))))
      where
        by : (u : ℕ) (main : Ref) → Stands a u (Some g) (line.Key (key.Main path main)) → IsCurrent a u r (Some g) → Linked a j u g path → Has a u (current path) main →
            ((single : Ref) × (node a main ≡ Tomb single)) ⊎ IsNoTomb a (node a main) → W Never (33 * (c + 2) + 14 + m) u
        by u main now root links has (inl (single, is)) = if_tomb u main single now root links is
        by u main now root links has (inr none) = from_main further main u now root links has none

  -- ---- all levels

  abbrev pub rest : ℕ
  rest = 46 * (c + 2) + 10 + tombs_most c 13

  -- from a level that is linked twice above
  abbrev From : ℕ → Type 0
  From n =
      (path : List Ref) (r : Ref) (t g j : ℕ) → length path + n ≡ 15 → j + 3 ≤ length path →
      Stands a t (Some g) (line.Key (key.Read path (reading (current path)))) → IsCurrent a t r (Some g) → Linked a j t g path →
      W Never (suc n * level_most c + rest) t

  tomb_cost : (n k : ℕ) → k + 3 + suc n ≡ 15 → (33 * (c + 2) + 11) + (known_most a weight c (suc k) + tombs_most c 13) + 1 ≤ 33 * (c + 2) + 14 + (suc n * level_most c + rest)
  tomb_cost n k size =
      let few_left : 14 - suc k ≡ suc (suc n) = omega (arith, size) in
      let levels : (14 - suc k) * (34 * (c + 2) + 10) ≡ suc (suc n) * (34 * (c + 2) + 10) = ap (λ x. x * (34 * (c + 2) + 10)) few_left in
      let one_less = suc-mul (suc n) (34 * (c + 2) + 10) in
      let low : suc k ≤ 12 = omega (arith, size) in
      let above = mul-le-mul_right (c + 2) low in
      let low_most : suc n * (34 * (c + 2) + 10) ≤ suc n * level_most c = scaled (suc n) in
      omega (arith, levels, one_less, above, low_most)
    where
      scaled : (n : ℕ) → n * (34 * (c + 2) + 10) ≤ n * (34 * (c + 2) + 12)
      scaled zero = omega arith
      scaled (suc n) = let more = scaled n in omega (arith, more, suc-mul n (34 * (c + 2) + 10), suc-mul n (34 * (c + 2) + 12))

  pub from : (n : ℕ) → From n
  from zero path r t g j size deep s x linked = let short = short_way a t (Some g) (line.Key (key.Read path (reading (current path)))) s in absurd (omega (arith, size, short))
  from (suc n) path r t g j size deep s x linked =
      weaken a weight Never (level_most c + (suc n * level_most c + rest)) (suc (suc n) * level_most c + rest) t (cost (suc n * level_most c) (suc-mul (suc n) (level_most c)))
      (level path r g j (suc n * level_most c + rest) (omega (arith, deep)) (omega arith)
      (λ u main single now root links is.
      let size' : length path ≡ (length path - 3) + 3 = omega (arith, deep) in
      weaken a weight Never ((33 * (c + 2) + 11) + (known_most a weight c (suc (length path - 3)) + tombs_most c 13) + 1)
      (33 * (c + 2) + 14 + (suc n * level_most c + rest)) u (tomb_cost n (length path - 3) (omega (arith, size, deep)))
      (tomb_known a weight c heavy steps machines writes path main single u g now is known tombs r (length path - 3) size' root (links (length path - 3) (omega (arith, deep)) (omega (arith, deep)))))
      (λ u below next root links.
      let len = length-append path (below ∷ []) in
      from n (path ++ below ∷ []) r u g j (omega (arith, size, len)) (omega (arith, deep, len)) next root links) t s x linked)
    where
      cost : (x : ℕ) → suc (suc n) * level_most c ≡ x + level_most c → level_most c + (x + rest) ≤ suc (suc n) * level_most c + rest
      cost x e = omega (arith, e)
