-- How many slots of each class are free after one is taken or given back.
use Rattle.std.proofs.Common.{◌≡◌, ◌⊎◌, ◌+◌, ◌<◌, ◌≤◌, ◌==◌, ◌++◌, inl, inr, ℕ, suc, Bool, true, false, List, [], ◌∷◌, Option, Some, None}
use Rattle.std.proofs.Common.{if◌then◌else◌, drop, get_or, length, refl, sym, ap, subst, ◌∙◌, arith}
use Rattle.std.proofs.Math.Seq.{drop-cons}
use Rattle.std.proofs.lemmas.List.{length-append}
use Rattle.lock_free.specs.declared.accounts.PartedSlot.{PartedSlot}
use Rattle.lock_free.specs.declared.rules.Pool.{Pool}
use Rattle.lock_free.specs.declared.stock.OwnNode.{OwnNode}
use Rattle.lock_free.specs.Making.{with_slot, with_slots}
use Rattle.lock_free.specs.Rules.{pool_of}
use Rattle.lock_free.specs.OwnOffers.{without_first}
use Rattle.lock_free.specs.Stocks.{put_back, AreFew, IsPopped, most_kept}

abbrev picked : Bool → Bool → Pool → List ℕ
picked small medium pool = if small then pool.small else (if medium then pool.medium else pool.wide)

abbrev placed : Bool → Bool → Pool → List ℕ → Pool
placed small medium pool rest = if small then record pool { small = rest } else (if medium then record pool { medium = rest } else record pool { wide = rest })

-- a class is the one that changes, or stays as it is
class_or : (pool : Pool) (class b : ℕ) (rest : List ℕ) →
    ((pool_of (with_slots pool class rest) b ≡ rest) × (pool_of pool b ≡ pool_of pool class)) ⊎ (pool_of (with_slots pool class rest) b ≡ pool_of pool b)
class_or pool class b rest = by (class == 0) (class == 1) (b == 0) (b == 1)
  where
    by : (k l m n : Bool) → ((picked m n (placed k l pool rest) ≡ rest) × (picked m n pool ≡ picked k l pool)) ⊎ (picked m n (placed k l pool rest) ≡ picked m n pool)
    by true l true n = inl (refl, refl)
    by true l false true = inr refl
    by true l false false = inr refl
    by false true true n = inr refl
    by false true false true = inl (refl, refl)
    by false true false false = inr refl
    by false false true n = inr refl
    by false false false true = inr refl
    by false false false false = inl (refl, refl)

pub popped_fewer : (before after : Pool) (class : ℕ) (popped : Option ℕ) → IsPopped before class popped after → (b : ℕ) → length (pool_of after b) ≤ length (pool_of before b)
popped_fewer before after class None h b = let same = ap (λ p. length (pool_of p b)) h.1 in omega (arith, same)
popped_fewer before after class (Some name) h b =
    let same = ap (λ p. length (pool_of p b)) h.2 in
    elim (class_or before class b h.0) [
      | inl its ↦
          let now = ap length its.0 in
          let was = ap length its.1 in
          let more = ap length h.1 ∙ length-append h.0 (name ∷ []) in
          omega (arith, same, now, was, more)
      | inr other ↦ let kept = ap length other in omega (arith, same, kept)
    ]

added_more : (before after : Pool) (class slot : ℕ) → after ≡ with_slot before class slot → (b : ℕ) → length (pool_of after b) ≤ length (pool_of before b) + 1
added_more before after class slot is b =
    let same = ap (λ p. length (pool_of p b)) is in
    elim (class_or before class b (pool_of before class ++ slot ∷ [])) [
      | inl its ↦
          let now = ap length its.0 ∙ length-append (pool_of before class) (slot ∷ []) in
          let was = ap length its.1 in
          omega (arith, same, now, was)
      | inr other ↦ let kept = ap length other in omega (arith, same, kept)
    ]

-- where there is room for one more of its class
pub added_fits : (before after : Pool) (class slot made : ℕ) → after ≡ with_slot before class slot → length (pool_of before class) + made + 1 ≤ 128 →
    ((b : ℕ) → length (pool_of before b) + made ≤ 128) → (b : ℕ) → length (pool_of after b) + made ≤ 128
added_fits before after class slot made is room few b =
    let same = ap (λ p. length (pool_of p b)) is in
    elim (class_or before class b (pool_of before class ++ slot ∷ [])) [
      | inl its ↦ let now = ap length its.0 ∙ length-append (pool_of before class) (slot ∷ []) in omega (arith, same, now, room)
      | inr other ↦ let kept = ap length other in let fits = few b in omega (arith, same, kept, fits)
    ]

-- ---- the slot of the first offer that was parted is free

freed_at : (before after : Pool) (slot : ℕ) (rest : List PartedSlot) (made : List OwnNode) → after ≡ without_first before slot rest → length (pool_of before 1) + length made + 1 ≤ most_kept →
    AreFew before made → AreFew after made
freed_at before after slot rest made is room few b =
    let same : length (pool_of after b) ≡ length (pool_of (with_slot before 1 slot) b) = ap (λ p. length (pool_of p b)) is in
    elim (class_or before 1 b (pool_of before 1 ++ slot ∷ [])) [
      | inl its ↦
          let now = ap length its.0 ∙ length-append (pool_of before 1) (slot ∷ []) in
          omega (arith, same, now, room)
      | inr other ↦
          let kept = ap length other in
          let old = few b in
          omega (arith, same, kept, old)
    ]

freed_from : (before after : Pool) (made : List OwnNode) (slots : List PartedSlot) → before.parted ≡ slots → 0 < length slots →
    ((y : PartedSlot) (rest : List PartedSlot) → before.parted ≡ y ∷ rest → after ≡ without_first before y.slot rest) → length (pool_of before 1) + length made + 1 ≤ most_kept → AreFew before made →
    AreFew after made
freed_from before after made [] first some is room few = absurd (omega (arith, some))
freed_from before after made (y ∷ rest) first some is room few = freed_at before after y.slot rest made (is y rest first) room few

pub freed_few : (before after : Pool) (made : List OwnNode) → 0 < length before.parted →
    ((y : PartedSlot) (rest : List PartedSlot) → before.parted ≡ y ∷ rest → after ≡ without_first before y.slot rest) → length (pool_of before 1) + length made + 1 ≤ most_kept → AreFew before made →
    AreFew after made
freed_few before after made some is room few = freed_from before after made before.parted refl some is room few

-- ---- one more of what was made is given back

pub given_more : (made : List OwnNode) (n : ℕ) (d : OwnNode) (pool after : Pool) → after ≡ with_slot pool (get_or made n d).class (get_or made n d).slot → (b : ℕ) →
    length (pool_of after b) ≤ length (pool_of pool b) + 1
given_more made n d pool after is b = added_more pool after (get_or made n d).class (get_or made n d).slot is b

pub put_back_next : (xs ys : List OwnNode) (n : ℕ) (d : OwnNode) (pool after last : Pool) → ys ≡ xs → n < length xs → after ≡ with_slot pool (get_or ys n d).class (get_or ys n d).slot →
    put_back (drop n xs) pool ≡ last → put_back (drop (n + 1) xs) after ≡ last
put_back_next xs ys n d pool after last same within is so =
    let next : suc n ≡ n + 1 = omega (arith) in
    subst (λ k. put_back (drop k xs) after ≡ last) next
    (ap (put_back (drop (suc n) xs)) (is ∙ ap (λ (zs : List OwnNode). with_slot pool (get_or zs n d).class (get_or zs n d).slot) same)
    ∙ sym (ap (λ zs. put_back zs pool) (drop-cons xs n d within)) ∙ so)
