-- A fresh pass renews nothing where no level is older.
use Rattle.std.proofs.Common.{◌≡◌, ℕ, zero, suc, ◌+◌, ◌-◌, ◌*◌, ◌≤◌, ◌⊎◌, inl, inr, List, [], ◌∷◌, ◌++◌, length, Some, sym, ap, subst, ◌∙◌, arith}
use Rattle.std.proofs.Math.Nat.{mul-le-mul_right, suc-mul}
use Rattle.std.proofs.lemmas.List.{length-append}
use Rattle.proof_obstruction_free.specs.Vocabulary.{Writable, Ref, Plain, going_down, current, depth_of, reading}
use Rattle.proof_obstruction_free.specs.Beneath.machine_model.specs.declared.finding.KeyLine.TheVariants as key
use Rattle.proof_obstruction_free.specs.Beneath.machine_model.specs.declared.lines.Line.TheVariants as line
use Rattle.proof_obstruction_free.specs.Beneath.machine_model.specs.Operations.{from_root}
use Rattle.proof_obstruction_free.specs.Alone.{IsCurrent, IsPlain, IsWeight, Keeps, Lone, Stands, Within, generation}
use Rattle.proof_obstruction_free.specs.Keys.{Chain, IsBottom, IsEnd, IsOf, IsOnKey, PassEnds, RenewsFrom}
use Rattle.proof_obstruction_free.specs.Machines.{IsRooted, Machines}
use Rattle.proof_obstruction_free.specs.Stepping.{Stepping}
use Rattle.proof_obstruction_free.proofs.Pass.Fresh.{root_link}
use Rattle.proof_obstruction_free.proofs.Pass.Along.{down_along, key_begins}
use Rattle.proof_obstruction_free.proofs.Pass.Chains.{Leading, chain_later, chain_longer, chain_root, current_later, leads_or_ends}
use Rattle.proof_obstruction_free.proofs.Pass.Down.{AtMain, FewEntries, ends_here, read_main}
use Rattle.proof_obstruction_free.proofs.Pass.Lines.{down_reads}
use Rattle.proof_obstruction_free.proofs.Step.Within.{bind, here, keeps_on, weaken}
use Rattle.proof_obstruction_free.proofs.Ends.StandsAt.{stands_as}
use Rattle.proof_obstruction_free.specs.Inherited.{NoneOlder, PassKnown, known_most}

-- as long as main nodes stay none is
pub not_older_later : (a : Lone) (n t u g : ℕ) (r : Ref) → t ≤ u → Keeps a t u → NoneOlder a n t r g → NoneOlder a n u r g
not_older_later a n t u g r le keeps none v after within more = none v (omega (arith, le, after)) within (keeps_on a t u v keeps more)

module _ (a : Lone) (weight : ℕ → ℕ) (c : ℕ) (heavy : IsWeight a weight) (steps : Stepping a) (machines : Machines a weight c) (writes : a.own.access ≡ Writable)
    (few : FewEntries a) (renewing : RenewsFrom a weight c) (passes : PassEnds a weight c) where
  abbrev W : (ℕ → Type 0) → ℕ → ℕ → Type 0
  W = Within a weight

  module _ (n g : ℕ) (r : Ref) (low : n ≤ 13) where
    abbrev Ends : ℕ → Type 0
    Ends u = (to : List Ref) × IsBottom a weight c r g to u

    abbrev most : ℕ
    most = 34 * (c + 2) + 10

    -- with so many known levels below
    abbrev From : ℕ → ℕ → Type 0
    From d m =
        (path : List Ref) (t : ℕ) → length path + d ≡ n + 1 → Stands a t (Some g) (line.Key (key.Read path (reading (current path)))) → IsCurrent a t r (Some g) →
        Chain a t r g path → NoneOlder a n t r g →
        W Ends m t

    -- where all levels that are known are behind
    from_here : From 0 (0 * (c + 2) + (14 - n) * most)
    from_here path t size s x chain none =
        let left : 15 - length path ≤ 14 - n = omega (arith, size) in
        let cost = mul-le-mul_right most left in
        weaken a weight Ends ((15 - length path) * most) (0 * (c + 2) + (14 - n) * most) t (omega (arith, cost)) (passes path r t g s x chain)

    module _ (d m : ℕ) (further : From d m) (path : List Ref) (size : length path + suc d ≡ n + 1) (u : ℕ) (main : Ref)
        (x : AtMain a weight c heavy steps writes r g path main u) (none : NoneOlder a n u r g) where
      down : (lead : Leading a (depth_of path) main) → lead.generation ≡ g → W Ends (m + 1 + 1) u
      down lead same =
          let of : IsOf a lead.below g = subst (IsOf a lead.below) same lead.is in
          down_along a weight c heavy steps machines writes Ends m u g path main lead.below x.stands lead.leads of
          (λ keeps stays s.
          further (path ++ lead.below ∷ []) (suc (suc u)) (longer (length-append path (lead.below ∷ []))) (down_reads a (suc (suc u)) (Some g) path lead.below s)
          (current_later a u (suc (suc u)) r (Some g) stays x.current_root)
          (chain_longer a (suc (suc u)) r g path main lead.below (chain_later a u (suc (suc u)) r g path keeps x.chain) (keeps (current path) main x.has) lead.leads of)
          (not_older_later a n u (suc (suc u)) g r (omega arith) keeps none))
        where
          longer : length (path ++ lead.below ∷ []) ≡ length path + 1 → length (path ++ lead.below ∷ []) + d ≡ n + 1
          longer e = omega (arith, e, size)

      level : W Ends (m + 1 + 1) u
      level = by (leads_or_ends a (depth_of path) main)
        where
          by : Leading a (depth_of path) main ⊎ IsEnd a (depth_of path) main → W Ends (m + 1 + 1) u
          by (inl lead) =
              down lead
              (none u (omega arith) x.stands.until (λ i k has. has) path main lead.below lead.generation x.chain (omega (arith, size)) x.has lead.leads lead.is)
          by (inr ends) = weaken a weight Ends 0 (m + 1 + 1) u (omega arith) (here a weight Ends u (path, ends_here a weight c heavy steps writes r g path main u x ends))

    from : (d : ℕ) → From d (d * (c + 2) + (14 - n) * most)
    from zero path t size s x chain none = from_here path t size s x chain none
    from (suc d) path t size s x chain none =
        weaken a weight Ends (c + ((d * (c + 2) + (14 - n) * most) + 1 + 1)) (suc d * (c + 2) + (14 - n) * most) t (costs ((14 - n) * most))
        (read_main a weight c heavy steps writes machines few renewing r g path t s x chain Ends ((d * (c + 2) + (14 - n) * most) + 1 + 1)
        (λ u main after keeps m. level d (d * (c + 2) + (14 - n) * most) (from d) path size u main m (not_older_later a n t u g r after keeps none)))
      where
        costs : (k : ℕ) → c + ((d * (c + 2) + k) + 1 + 1) ≤ suc d * (c + 2) + k
        costs k = let product = suc-mul d (c + 2) in omega (arith, product)

  module _ (on : IsOnKey a.own.call) where
    -- that root stands there with no offer
    module _ (r : Ref) (g t u : ℕ) (x : IsCurrent a t r (Some g)) (rooted : IsRooted a weight c t u) (plain : IsPlain a u r) where
      root_same : rooted.root ≡ r
      root_same = let same : Plain rooted.root ≡ Plain r = sym rooted.plain ∙ plain in cc same

      starts : Stands a u (Some g) (line.Key (key.Read (r ∷ []) (reading r)))
      starts =
          stands_as a u (Some (generation a rooted.root)) (Some g) (from_root a.own.call rooted.root) (going_down [] r) (ap (λ i. Some (generation a i)) root_same ∙ sym x.own)
          (key_begins a.own.call on rooted.root ∙ ap (going_down []) root_same) rooted.stands

    same_generation : (r : Ref) (g : ℕ) → Some g ≡ Some (generation a r) → generation a r ≡ g
    same_generation r g e = let same : g ≡ generation a r = cc e in sym same

    -- a fresh pass of which n levels are known
    pub pass_known : PassKnown a weight c
    pass_known n r t g low s x none =
        weaken a weight (λ u. (to : List Ref) × IsBottom a weight c r g to u) (1 + (n * (c + 2) + (14 - n) * (34 * (c + 2) + 10))) (known_most a weight c n) t (omega arith)
        (bind a weight (λ u. IsRooted a weight c t u × IsPlain a u r) (λ u. (to : List Ref) × IsBottom a weight c r g to u) 1 (n * (c + 2) + (14 - n) * (34 * (c + 2) + 10)) t
        (machines.roots_plain t (Some g) r s x.plain)
        (λ u after in_time (rooted, plain).
        let now = starts r g t u x rooted plain in
        from n g r low n (r ∷ []) u (omega arith) now (record { plain = plain; own = x.own })
        (chain_root a u r g (subst (IsOf a r) (same_generation r g x.own) (root_link a steps u (Some g) r now))) (not_older_later a n t u g r after rooted.keeps none)))
