-- From where the key's path ends in a fresh pass the operation ends: each CLEAN of a tomb makes the path one shorter.
use Rattle.std.proofs.Common.{◌≡◌, ℕ, zero, suc, ◌+◌, ◌-◌, ◌*◌, ◌≤◌, ◌==◌, ◌⊎◌, inl, inr, Bool, true, false, List, length, Some, refl, ap, subst, ◌∙◌, eqb-true, arith}
use Rattle.std.proofs.Math.Nat.{mul-le-mul_right, suc-mul}
use Rattle.std.proofs.lemmas.Bool.{eqb-false}
use Rattle.proof_obstruction_free.specs.Vocabulary.{Writable, Ref, Tomb, new_try, above, current}
use Rattle.proof_obstruction_free.specs.Beneath.machine_model.specs.declared.finding.KeyLine.TheVariants as key
use Rattle.proof_obstruction_free.specs.Beneath.machine_model.specs.declared.lines.Line.TheVariants as line
use Rattle.proof_obstruction_free.specs.Alone.{IsCurrent, IsWeight, Lone, Stands, Within, node}
use Rattle.proof_obstruction_free.specs.Bounds.{bottom_most, cleaning_most, tombs_most}
use Rattle.proof_obstruction_free.specs.Keys.{BottomEnds, CleansCurrent, Ended, IsBottom, IsCleanedUp, IsNoTomb, PassAlong}
use Rattle.proof_obstruction_free.specs.Stepping.{Stepping}
use Rattle.proof_obstruction_free.proofs.Pass.FreshTombs.{above_length, chain_above, last_link, tomb_below, tomb_or_none}
use Rattle.proof_obstruction_free.proofs.Pass.Chains.{AtEnd, current_later, ended_later}
use Rattle.proof_obstruction_free.proofs.Step.Within.{bind, one, same_stays, weaken}

-- ---- the costs

cleaning_next : (c n : ℕ) → cleaning_most c (suc n) ≡ cleaning_most c n + (c + 10 + (n + 2) * (c + 2))
unfolding cleaning_most
cleaning_next c n = refl

levels : (c n : ℕ) → (n + 2) * (c + 2) ≡ (n + 1) * (c + 2) + (c + 2)
levels c n = let e : n + 2 ≡ suc (n + 1) = omega arith in ap (λ k. k * (c + 2)) e ∙ suc-mul (n + 1) (c + 2)

-- where the branch had one entry
one_costs : (c n entries above : ℕ) → entries ≡ 1 → above ≤ n + 1 → (c + 8 + entries * (c + 2)) + ((1 + above * (c + 2)) + tombs_most c n) + 1 ≤ tombs_most c (suc n)
one_costs c n entries above single low =
    let product : entries * (c + 2) ≡ 1 * (c + 2) = ap (λ k. k * (c + 2)) single in
    let most = mul-le-mul_right (c + 2) low in
    omega (arith, product, most, cleaning_next c n, levels c n)

-- where it had more
more_costs : (c n entries above : ℕ) → entries ≤ 32 → above ≤ n + 1 → (c + 8 + entries * (c + 2)) + ((1 + above * (c + 2)) + bottom_most c) + 1 ≤ tombs_most c (suc n)
more_costs c n entries above few low =
    let product = mul-le-mul_right (c + 2) few in
    let most = mul-le-mul_right (c + 2) low in
    omega (arith, product, most, cleaning_next c n, levels c n)

less : (x y : ℕ) → x + 1 ≤ y → x ≤ y - 1
less x y le = omega (arith, le)

module _ (a : Lone) (weight : ℕ → ℕ) (c : ℕ) (heavy : IsWeight a weight) (steps : Stepping a) (writes : a.own.access ≡ Writable) where
  abbrev W : (ℕ → Type 0) → ℕ → ℕ → Type 0
  W = Within a weight

  abbrev Never : ℕ → Type 0
  Never u = ⊥

  module _ (bottom_ends : BottomEnds a weight c) (cleans : CleansCurrent a weight c) (pass_along : PassAlong a weight c) where
    -- from the end of a path with so many levels above
    abbrev pub Tombs : ℕ → Type 0
    Tombs n = (path : List Ref) (r main : Ref) (t g : ℕ) → length path ≤ n + 1 → AtEnd a r g path main t → W Never (tombs_most c n) t

    no_tomb_ends : (path : List Ref) (r main : Ref) (t g : ℕ) → AtEnd a r g path main t → IsNoTomb a (node a main) → W Never (bottom_most c) t
    no_tomb_ends path r main t g x none = bottom_ends path r main t g x.stands x.current_root x.ended.has x.ended.ends none

    -- a pass along the path that is left
    passes : (path : List Ref) (r main : Ref) (t g n : ℕ) → Stands a t (Some g) new_try → IsCurrent a t r (Some g) → Ended a t r g path main →
        ((u : ℕ) → AtEnd a r g path main u → W Never n u) → W Never ((1 + length path * (c + 2)) + n) t
    passes path r main t g n s x ended then =
        bind a weight (λ u. (b : IsBottom a weight c r g path u) × (b.main ≡ main)) Never (1 + length path * (c + 2)) n t (pass_along path r main t g s x ended)
        (λ u after in_time (b, same). then u (record {
          stands = subst (λ m. Stands a u (Some g) (line.Key (key.Main path m))) same b.stands;
          current_root = b.current_root;
          ended = subst (Ended a u r g path) same b.ended;
        }))

    -- after the CLEAN of a branch of one entry
    cleaned_one : (n : ℕ) → Tombs n → (path : List Ref) (r : Ref) (t g entries : ℕ) → length (above path) ≤ n + 1 → W (IsCleanedUp a weight c r g (above path) entries) (c + 8 + entries * (c + 2)) t →
        W Never ((c + 8 + entries * (c + 2)) + ((1 + length (above path) * (c + 2)) + tombs_most c n)) t
    cleaned_one n further path r t g entries low w =
        bind a weight (IsCleanedUp a weight c r g (above path) entries) Never (c + 8 + entries * (c + 2)) ((1 + length (above path) * (c + 2)) + tombs_most c n) t w
        (λ u after in_time up. passes (above path) r up.main u g (tombs_most c n) up.stands up.current_root up.ended (λ v end. further (above path) r up.main v g low end))

    -- after that of one of more
    cleaned_more : (path : List Ref) (r : Ref) (t g entries : ℕ) → (entries ≡ 1 → ⊥) → W (IsCleanedUp a weight c r g (above path) entries) (c + 8 + entries * (c + 2)) t →
        W Never ((c + 8 + entries * (c + 2)) + ((1 + length (above path) * (c + 2)) + bottom_most c)) t
    cleaned_more path r t g entries several w =
        bind a weight (IsCleanedUp a weight c r g (above path) entries) Never (c + 8 + entries * (c + 2)) ((1 + length (above path) * (c + 2)) + bottom_most c) t w
        (λ u after in_time up. passes (above path) r up.main u g (bottom_most c) up.stands up.current_root up.ended (λ v end. no_tomb_ends (above path) r up.main v g end (no_tomb up.main up.alone)))
      where
        no_tomb : (m : Ref) → ((IsNoTomb a (node a m) → ⊥) → entries ≡ 1) → IsNoTomb a (node a m)
        no_tomb m alone = by (tomb_or_none a (node a m))
          where
            by : ((single : Ref) × (node a m ≡ Tomb single)) ⊎ IsNoTomb a (node a m) → IsNoTomb a (node a m)
            by (inl (single, is)) = absurd (several (alone (λ none. subst (IsNoTomb a) is none)))
            by (inr none) = none

    cleaned : (n : ℕ) → Tombs n → (path : List Ref) (r : Ref) (t g : ℕ) → length (above path) ≤ n + 1 →
        (entries : ℕ) × (entries ≤ 32) × W (IsCleanedUp a weight c r g (above path) entries) (c + 8 + entries * (c + 2)) t → W Never (tombs_most c (suc n) - 1) t
    cleaned n further path r t g low (entries, few, w) = by (entries == 1) refl
      where
        by : (b : Bool) → (entries == 1) ≡ b → W Never (tombs_most c (suc n) - 1) t
        by true e =
            let cost = one_costs c n entries (length (above path)) (eqb-true entries 1 e) low in
            weaken a weight Never ((c + 8 + entries * (c + 2)) + ((1 + length (above path) * (c + 2)) + tombs_most c n)) (tombs_most c (suc n) - 1) t
            (less _ _ cost) (cleaned_one n further path r t g entries low w)
        by false e =
            let cost = more_costs c n entries (length (above path)) few low in
            weaken a weight Never ((c + 8 + entries * (c + 2)) + ((1 + length (above path) * (c + 2)) + bottom_most c)) (tombs_most c (suc n) - 1) t (less _ _ cost)
            (cleaned_more path r t g entries (eqb-false entries 1 e) w)

    -- after a step from the tomb
    from_tomb : (path : List Ref) (r main single : Ref) (t g : ℕ) → AtEnd a r g path main t → node a main ≡ Tomb single → (Q : ℕ → Type 0) (n : ℕ) →
        ((2 ≤ length path) → (entries : ℕ) × (entries ≤ 32) × W (IsCleanedUp a weight c r g (above path) entries) (c + 8 + entries * (c + 2)) (suc t) → W Q n (suc t)) → W Q (n + 1) t
    from_tomb path r main single t g x is Q n then =
        one a weight heavy Q n t (Some g) (line.Key (key.Main path main)) x.stands tt (λ more.
        let (two, s) = tomb_below a steps writes t (Some g) path main single x.stands more is in
        let ended = ended_later a t (suc t) r g path main (steps.keeps t (Some g) (line.Key (key.Main path main)) x.stands more tt tt) x.ended in
        let now = current_later a t (suc t) r (Some g) (same_stays a t (suc t) (steps.words t (Some g) (line.Key (key.Main path main)) x.stands more tt tt)) x.current_root in
        let link = last_link a (suc t) r g path two ended.chain in
        then two (cleans (above path) r link.main (current path) main single (suc t) g s now (chain_above a (suc t) r g path two ended.chain) link.has link.leads link.own ended.has is))

    by_tomb : (n : ℕ) → ((path : List Ref) (r main single : Ref) (t g : ℕ) → length path ≤ n + 1 → AtEnd a r g path main t → node a main ≡ Tomb single → W Never (tombs_most c n) t) → Tombs n
    by_tomb n tomb path r main t g low x = by (tomb_or_none a (node a main))
      where
        by : ((single : Ref) × (node a main ≡ Tomb single)) ⊎ IsNoTomb a (node a main) → W Never (tombs_most c n) t
        by (inl (single, is)) = tomb path r main single t g low x is
        by (inr none) = weaken a weight Never (bottom_most c) (tombs_most c n) t (omega arith) (no_tomb_ends path r main t g x none)

    pub tombs_end : (n : ℕ) → Tombs n
    tombs_end zero =
        by_tomb zero (λ path r main single t g low x is. weaken a weight Never (0 + 1) (tombs_most c 0) t (omega arith)
        (from_tomb path r main single t g x is Never 0 (λ two w. absurd (omega (arith, low, two)))))
    tombs_end (suc n) =
        by_tomb (suc n) (λ path r main single t g low x is. weaken a weight Never ((tombs_most c (suc n) - 1) + 1) (tombs_most c (suc n)) t (same c n)
        (from_tomb path r main single t g x is Never (tombs_most c (suc n) - 1) (λ two w. cleaned n (tombs_end n) path r (suc t) g (shorter path n low two) w)))
      where
        same : (c n : ℕ) → (tombs_most c (suc n) - 1) + 1 ≤ tombs_most c (suc n)
        same c n = omega arith

        shorter : (path : List Ref) (n : ℕ) → length path ≤ suc n + 1 → 2 ≤ length path → length (above path) ≤ n + 1
        shorter path n low two = let len = above_length path two in omega (arith, len, low)
