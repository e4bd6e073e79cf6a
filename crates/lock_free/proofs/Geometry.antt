-- No two things have a word in common.
use Rattle.std.proofs.Common.{◌≡◌, ◌+◌, ◌*◌, ◌<◌, ◌≤◌, ℕ, zero, suc, List, refl, ap, subst, arith, if◌then◌else◌}
use Rattle.std.proofs.lemmas.Bool.{ne_eqb}
use Rattle.lock_free.specs.declared.sizes.Sizes.{Sizes}
use Rattle.lock_free.specs.Places.{part_of, stride, words_in, slots_in, first_slot_word, words_of, root_word, IsSlot, IsTaken, HaveTaken}

-- the word is one of the slot's
pub record IsWordOf (class name i : ℕ) : Type 0 where
  pub low : 2 * name ≤ i
  pub high : i < 2 * name + words_in class

-- a slot's words lie in its class's part
pub record LiesIn (sizes : Sizes) (class i : ℕ) : Type 0 where
  pub low : part_of sizes class ≤ i
  pub high : i < part_of sizes class + stride class * slots_in sizes class

module _ (sizes : Sizes) (words : List ℕ) (have : HaveTaken sizes words) where
  lies : (class name i : ℕ) → class < 3 → IsTaken sizes words class name → IsWordOf class name i → LiesIn sizes class i
  lies zero name i small t w =
      let most = have 0 small in record { low = omega (arith, w.low, t.first); high = omega (arith, w.high, t.first, t.few, most) }
  lies (suc zero) name i small t w =
      let most = have 1 small in record { low = omega (arith, w.low, t.first); high = omega (arith, w.high, t.first, t.few, most) }
  lies (suc (suc zero)) name i small t w =
      let most = have 2 small in record { low = omega (arith, w.low, t.first); high = omega (arith, w.high, t.first, t.few, most) }
  lies (suc (suc (suc class))) name i small t w = absurd (omega (arith, small))

  -- the parts are apart
  one_part : (b c i : ℕ) → b < 3 → c < 3 → LiesIn sizes b i → LiesIn sizes c i → b ≡ c
  one_part zero zero i sb sc p q = refl
  one_part zero (suc zero) i sb sc p q = absurd (omega (arith, p.high, q.low))
  one_part zero (suc (suc zero)) i sb sc p q = absurd (omega (arith, p.high, q.low))
  one_part (suc zero) zero i sb sc p q = absurd (omega (arith, p.low, q.high))
  one_part (suc zero) (suc zero) i sb sc p q = refl
  one_part (suc zero) (suc (suc zero)) i sb sc p q = absurd (omega (arith, p.high, q.low))
  one_part (suc (suc zero)) zero i sb sc p q = absurd (omega (arith, p.low, q.high))
  one_part (suc (suc zero)) (suc zero) i sb sc p q = absurd (omega (arith, p.low, q.high))
  one_part (suc (suc zero)) (suc (suc zero)) i sb sc p q = refl
  one_part (suc (suc (suc b))) c i sb sc p q = absurd (omega (arith, sb))
  one_part b (suc (suc (suc c))) i sb sc p q = absurd (omega (arith, sc))

  -- and in one part the slots are
  one_slot : (class x y i : ℕ) → class < 3 → IsTaken sizes words class x → IsTaken sizes words class y → IsWordOf class x i → IsWordOf class y i → x ≡ y
  one_slot zero x y i small s t w v = omega (arith, s.first, t.first, w.low, w.high, v.low, v.high)
  one_slot (suc zero) x y i small s t w v = omega (arith, s.first, t.first, w.low, w.high, v.low, v.high)
  one_slot (suc (suc zero)) x y i small s t w v = omega (arith, s.first, t.first, w.low, w.high, v.low, v.high)
  one_slot (suc (suc (suc class))) x y i small s t w v = absurd (omega (arith, small))

  pub slots_apart : (b c x y i : ℕ) → b < 3 → c < 3 → IsTaken sizes words b x → IsTaken sizes words c y → IsWordOf b x i → IsWordOf c y i → (b ≡ c) × (x ≡ y)
  slots_apart b c x y i sb sc s t w v =
      let same = one_part b c i sb sc (lies b x i sb s w) (lies c y i sc t v) in
      (same, one_slot c x y i sc (subst (λ n. IsTaken sizes words n x) same s) t (subst (λ n. IsWordOf n x i) same w) v)

  above_by : (class i : ℕ) → class < 3 → LiesIn sizes class i → first_slot_word sizes ≤ i
  above_by zero i small p = p.low
  above_by (suc zero) i small p = omega (arith, p.low)
  above_by (suc (suc zero)) i small p = omega (arith, p.low)
  above_by (suc (suc (suc class))) i small p = absurd (omega (arith, small))

  -- a slot's word is behind all others
  pub above : (class name i : ℕ) → class < 3 → IsTaken sizes words class name → IsWordOf class name i → first_slot_word sizes ≤ i
  above class name i small t w = above_by class i small (lies class name i small t w)

  inside_by : (class i : ℕ) → class < 3 → LiesIn sizes class i → i < words_of sizes
  inside_by zero i small p = omega (arith, p.high)
  inside_by (suc zero) i small p = omega (arith, p.high)
  inside_by (suc (suc zero)) i small p = omega (arith, p.high)
  inside_by (suc (suc (suc class))) i small p = absurd (omega (arith, small))

  pub inside : (class name i : ℕ) → class < 3 → IsTaken sizes words class name → IsWordOf class name i → i < words_of sizes
  inside class name i small t w = inside_by class i small (lies class name i small t w)

-- all of a slot's words are the table's
pub slot_end : (sizes : Sizes) (class name : ℕ) → class < 3 → IsSlot sizes class name → 2 * name + words_in class ≤ words_of sizes
slot_end sizes zero name low h = omega (arith, h.few, h.first)
slot_end sizes (suc zero) name low h = omega (arith, h.few, h.first)
slot_end sizes (suc (suc zero)) name low h = omega (arith, h.few, h.first)
slot_end sizes (suc (suc (suc class))) name low h = absurd (omega (arith, low))

pub end_inside : (sizes : Sizes) (words : List ℕ) (have : HaveTaken sizes words) (class name : ℕ) → class < 3 → IsTaken sizes words class name → 2 * name + words_in class ≤ words_of sizes
end_inside sizes words have zero name small t = let h = inside sizes words have 0 name (2 * name + 1) small t (record { low = omega arith; high = omega arith }) in omega (arith, h)
end_inside sizes words have (suc zero) name small t = let h = inside sizes words have 1 name (2 * name + 6) small t (record { low = omega arith; high = omega arith }) in omega (arith, h)
end_inside sizes words have (suc (suc zero)) name small t = let h = inside sizes words have 2 name (2 * name + 22) small t (record { low = omega arith; high = omega arith }) in omega (arith, h)
end_inside sizes words have (suc (suc (suc class))) name small t = absurd (omega (arith, small))

pub next_root : (handle : ℕ) → root_word (suc handle) ≡ 87 + suc handle
next_root handle = ap (λ b. if b then 80 else 87 + suc handle) (ne_eqb (suc handle) 0 (λ e. omega (arith, e)))

pub root_below : (handle : ℕ) → handle < 256 → (79 < root_word handle) × (root_word handle < 343)
root_below zero h = (omega arith, omega arith)
root_below (suc handle) h = (omega (arith, h, next_root handle), omega (arith, h, next_root handle))

pub root_apart : (g h : ℕ) → root_word g ≡ root_word h → g ≡ h
root_apart zero zero e = refl
root_apart zero (suc h) e = absurd (omega (arith, e, next_root h))
root_apart (suc g) zero e = absurd (omega (arith, e, next_root g))
root_apart (suc g) (suc h) e = omega (arith, e, next_root g, next_root h)

-- it isn't the epoch's
pub root_far : (handle : ℕ) → 2 ≤ root_word handle
root_far zero = omega arith
root_far (suc handle) = let is = next_root handle in omega (arith, is)
