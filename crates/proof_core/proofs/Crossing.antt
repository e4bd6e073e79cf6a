-- What the settling of a heap takes, by what leaves limbo and comes into it.
use Rattle.std.proofs.Common.{◌≡◌, ℕ, ◌+◌, ◌*◌, ◌<◌, ◌≤◌, ◌==◌, ◌&&◌, not, nat_lt, Bool, true, false, cond, List, [], ◌∷◌, ◌++◌, drop, length, filter, zero, suc}
use Rattle.std.proofs.Common.{refl, sym, ap, ◌∙◌, inl, inr, arith, eqb-true, ltb-true}
use Rattle.std.proofs.lemmas.Bool.{lt-ltb, or_cases, false≢true}
use Rattle.std.proofs.lemmas.List.{length-append}
use Rattle.std.proofs.lemmas.List.Elements.{filter-append}
use Rattle.std.proofs.lemmas.List.Folds.{list_any-append}
use Rattle.proof_core.specs.Vocabulary.{Ref, Heap, in_use, times, Zeroed, is_in, is_in_use, is_zero, limbo_after, newly_zero, staying, zeroed_at}
use Rattle.proof_core.specs.Beneath.slot_arena.proofs.Times.{once_same, times-cons}
use Rattle.proof_core.specs.Beneath.epochs.proofs.Rising.{filter_in, times-by_birth}
use Rattle.proof_core.specs.Beneath.epochs.proofs.Staying.{any_times, in_limbo, length_zeroed}
use Rattle.proof_core.specs.Work.{crossing, missing}

both : (a b : Bool) → (a && b) ≡ true → (a ≡ true) × (b ≡ true)
both true b h = (refl, h)
both false b h = absurd (false≢true h)

-- what isn't kept by a wider test isn't kept by a narrower one
cover_step : (p s : Bool) (all kept others : ℕ) → (s ≡ true → p ≡ true) → all ≤ kept + others → all + 1 ≤ cond p (kept + 1) kept + cond (not s) (others + 1) others
cover_step true true all kept others narrower less = omega (arith, less)
cover_step true false all kept others narrower less = omega (arith, less)
cover_step false true all kept others narrower less = absurd (false≢true (narrower refl))
cover_step false false all kept others narrower less = omega (arith, less)

length_kept : (b : Bool) (z : Zeroed) (zs : List Zeroed) → length (cond b (z ∷ zs) zs) ≡ cond b (length zs + 1) (length zs)
length_kept true z zs = omega arith
length_kept false z zs = refl

cover : (p s : Zeroed → Bool) → ((z : Zeroed) → s z ≡ true → p z ≡ true) → (zs : List Zeroed) → length zs ≤ length (filter p zs) + length (filter (λ z. not (s z)) zs)
cover p s narrower [] = omega arith
cover p s narrower (z ∷ zs) =
    let step = cover_step (p z) (s z) (length zs) (length (filter p zs)) (length (filter (λ z. not (s z)) zs)) (narrower z) (cover p s narrower zs) in
    omega (arith, step, length_kept (p z) z (filter p zs), length_kept (not (s z)) z (filter (λ z. not (s z)) zs))

-- what is kept of limbo passes the test
kept_step : (q : Ref → Bool) (r : Ref) (z : Zeroed) (zs : List Zeroed) (b : Bool) → q z.at ≡ b → (is_in (filter (λ z. q z.at) zs) r ≡ true → q r ≡ true) →
    is_in (cond b (z ∷ filter (λ z. q z.at) zs) (filter (λ z. q z.at) zs)) r ≡ true → q r ≡ true
kept_step q r z zs false e rest h = rest h
kept_step q r z zs true e rest h = elim (or_cases (z.at == r) (is_in (filter (λ z. q z.at) zs) r) h) [
  | inl same ↦ ap q (sym (eqb-true z.at r same)) ∙ e
  | inr later ↦ rest later
]

in_kept : (q : Ref → Bool) (r : Ref) (zs : List Zeroed) → is_in (filter (λ z. q z.at) zs) r ≡ true → q r ≡ true
in_kept q r [] h = absurd (false≢true h)
in_kept q r (z ∷ zs) h = kept_step q r z zs (q z.at) refl (in_kept q r zs) h

-- what comes in new
in_zeroed : (epoch : ℕ) (rs : List Ref) (r : Ref) → is_in (zeroed_at epoch rs) r ≡ nat_lt 0 (times r rs)
in_zeroed epoch rs r = in_limbo epoch (record { oldest = []; middle = []; present = rs; size = 0 }) r

all_zeroed : (q : Ref → Bool) (epoch : ℕ) (rs : List Ref) → ((r : Ref) → 0 < times r rs → q r ≡ true) → filter (λ z. q z.at) (zeroed_at epoch rs) ≡ zeroed_at epoch rs
all_zeroed q epoch [] all = refl
all_zeroed q epoch (r ∷ rs) all =
    ap (λ b. cond b ((record { at = r; epoch = epoch }) ∷ filter (λ z. q z.at) (zeroed_at epoch rs)) (filter (λ z. q z.at) (zeroed_at epoch rs)))
    (all r (omega (arith, times-cons r r rs, once_same r)))
    ∙ ap (λ zs. (record { at = r; epoch = epoch }) ∷ zs) (all_zeroed q epoch rs (λ p some. all p (omega (arith, some, times-cons p r rs))))

module _ (heap : Heap) (outside : List Ref) (epoch : ℕ) (limbo : List Zeroed) where
  abbrev waits : Ref → Bool
  waits r = is_in_use heap r && is_zero heap outside r

  abbrev fresh : List Ref
  fresh = newly_zero heap outside limbo

  abbrev after : List Zeroed
  after = limbo_after heap outside epoch limbo

  is_fresh : (r : Ref) → 0 < times r fresh → (waits r ≡ true) × (not (is_in limbo r) ≡ true)
  is_fresh r some =
      let test : Ref → Bool = λ q. is_zero heap outside q && not (is_in limbo q) in
      let found = filter_in test r (in_use heap) (omega (arith, some, times-by_birth r (filter test (in_use heap)))) in
      let passes = both (is_zero heap outside r) (not (is_in limbo r)) found.1 in
      (ap (λ b. b && is_zero heap outside r) (any_times r (in_use heap) ∙ lt-ltb 0 (times r (in_use heap)) found.0) ∙ passes.0, passes.1)

  fresh_by : (r : Ref) → nat_lt 0 (times r fresh) ≡ true → waits r ≡ true
  fresh_by r h = (is_fresh r (ltb-true 0 (times r fresh) h)).0

  -- all that is in limbo waits
  in_after : (r : Ref) → is_in after r ≡ true → waits r ≡ true
  in_after r h =
      elim (or_cases (is_in (staying heap outside limbo) r) (is_in (zeroed_at epoch fresh) r)
      (sym (list_any-append (λ (z : Zeroed). z.at == r) (staying heap outside limbo) (zeroed_at epoch fresh)) ∙ h)) [
        | inl stays ↦ in_kept waits r limbo stays
        | inr comes ↦ fresh_by r (sym (in_zeroed epoch fresh r) ∙ comes)
      ]

  stays_or_leaves : length limbo ≤ length (staying heap outside limbo) + length (missing limbo after)
  stays_or_leaves = cover (λ z. waits z.at) (λ z. is_in after z.at) (λ z. in_after z.at) limbo

  comes : length fresh ≤ length (missing after limbo)
  comes =
      let test : Zeroed → Bool = λ z. not (is_in limbo z.at) in
      let parted : length (missing after limbo) ≡ length (filter test (staying heap outside limbo) ++ filter test (zeroed_at epoch fresh)) =
      ap length (filter-append test (staying heap outside limbo) (zeroed_at epoch fresh)) in
      let all : length (filter test (zeroed_at epoch fresh)) ≡ length fresh =
      ap length (all_zeroed (λ r. not (is_in limbo r)) epoch fresh (λ r some. (is_fresh r some).1)) ∙ length_zeroed epoch fresh in
      omega (arith, parted, all, length-append (filter test (staying heap outside limbo)) (filter test (zeroed_at epoch fresh)))

  -- each slot that doesn't stay leaves, and each that is new comes
  pub pays : length limbo + length fresh ≤ length (staying heap outside limbo) + crossing limbo after
  pays = omega (arith, stays_or_leaves, comes)

  length_after : length after ≡ length (staying heap outside limbo) + length fresh
  length_after = length-append (staying heap outside limbo) (zeroed_at epoch fresh) ∙ ap (λ n. length (staying heap outside limbo) + n) (length_zeroed epoch fresh)

-- the ticks of a settling, where nothing left limbo before it
pub settling_pays : (heap : Heap) (outside : List Ref) (epoch : ℕ) (limbo limbo' : List Zeroed) (ticks ticks' noted : ℕ) → limbo' ≡ limbo_after heap outside epoch limbo →
    ticks' + 12 * length (staying heap outside limbo) ≤ ticks + 3 * noted + 12 * length limbo + 12 * length (newly_zero heap outside limbo) →
    ticks' ≤ ticks + 3 * noted + 12 * crossing limbo limbo'
settling_pays heap outside epoch limbo limbo' ticks ticks' noted is takes =
    omega (arith, takes, pays heap outside epoch limbo, ap (crossing limbo) is)

-- the same where the first of limbo left it before, which comes to the same
pub sweeping_pays : (heap : Heap) (outside : List Ref) (epoch : ℕ) (limbo limbo' : List Zeroed) (ticks ticks' noted freed : ℕ) → freed ≤ 1 →
    limbo' ≡ limbo_after heap outside epoch (drop freed limbo) → limbo' ≡ limbo_after heap outside epoch limbo →
    ticks' + 12 * length (staying heap outside (drop freed limbo))
    ≤ ticks + 3 * noted + 12 * length (drop freed limbo) + 12 * length (newly_zero heap outside (drop freed limbo)) →
    ticks' ≤ ticks + 3 * noted + 24 + 12 * crossing limbo limbo'
sweeping_pays heap outside epoch limbo limbo' ticks ticks' noted freed one left is takes =
    let shorter = dropped freed one limbo in
    omega (
      arith,
      takes,
      pays heap outside epoch limbo,
      ap (crossing limbo) is,
      shorter,
      ap length (sym left ∙ is),
      length_after heap outside epoch limbo,
      length_after heap outside epoch (drop freed limbo),
    )
  where
    by_first : (b : Bool) (z : Zeroed) (zs : List Zeroed) → length (cond b (z ∷ zs) zs) ≤ length zs + 1
    by_first true z zs = omega arith
    by_first false z zs = omega arith

    dropped : (n : ℕ) → n ≤ 1 → (zs : List Zeroed) → (length (drop n zs) ≤ length zs) × (length (staying heap outside zs) ≤ length (staying heap outside (drop n zs)) + 1)
    dropped zero small zs = (omega arith, omega arith)
    dropped (suc zero) small [] = (omega arith, omega arith)
    dropped (suc zero) small (z ∷ zs) = (omega arith, by_first (waits heap outside epoch limbo z.at) z (staying heap outside zs))
    dropped (suc (suc n)) small zs = absurd (omega arith)
