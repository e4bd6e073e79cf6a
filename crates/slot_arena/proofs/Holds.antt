-- What is held from outside is changed.
use Rattle.std.proofs.Common.{◌≡◌, ℕ, ◌+◌, ◌<◌, ◌≤◌, ◌^◌, true, List, [], ◌∷◌, length, slice_index, All, Option, refl, ap, inl, inr, arith}
use Rattle.std.proofs.lemmas.Bool.{cases_eq}
use Rattle.slot_arena.specs.declared.refs.Ref.{Ref}
use Rattle.slot_arena.specs.declared.nodes.Slot.{Slot}
use Rattle.slot_arena.specs.Times.{times, without}
use Rattle.slot_arena.specs.Tallies.{naming}
use Rattle.slot_arena.specs.Chains.{Chain}
use Rattle.slot_arena.specs.Kept.{live, found, IsKept}
use Rattle.slot_arena.proofs.Times.{once, once_same, once_other, times-cons, times-without}
use Rattle.slot_arena.proofs.Live.{unnamed}
use Rattle.slot_arena.proofs.Exact.{part_live}
use Rattle.slot_arena.proofs.Changed.{exact_same}

module _
    (slots : List (Option Slot)) (counts counts' : List ℕ) (free : Chain) (used : ℕ) (outside outside' plus minus : List Ref) (kept : IsKept slots counts free used outside)
    (change : (r : ℕ) → times r outside' + times r minus ≡ times r outside + times r plus)
    (sizes : length counts' ≡ length counts) (counted_so : (i : ℕ) → slice_index counts' i + naming i minus ≡ slice_index counts i + naming i plus)
    (gained : All (λ q. live slots q ≡ true) plus) (part : (q : Ref) → times q minus ≤ found slots outside q) (held : (r : ℕ) → times r outside' ≤ 2 ^ 31)
  where
    lost : All (λ q. live slots q ≡ true) minus
    lost = part_live slots counts outside kept.exact minus part

    pub hold_kept : IsKept slots counts' free used outside'
    hold_kept = record {
      few = kept.few;
      sizes = let is = kept.sizes in omega arith;
      chained = kept.chained;
      exact = λ r. exact_same slots slots counts counts' outside outside' plus minus kept.exact (λ q. omega (arith, change q)) counted_so gained lost r refl;
      unused = λ i none. omega (arith, counted_so i, kept.unused i none, unnamed slots i plus none gained);
      apart = kept.apart;
      in_use = kept.in_use;
      all = kept.all;
      narrow = kept.narrow;
      born = kept.born;
      held = held;
    }

-- no reference is held too often
pub held_more : (outside : List Ref) (at r : Ref) → ((q : ℕ) → times q outside ≤ 2 ^ 31) → times at outside < 2 ^ 31 → times r (at ∷ outside) ≤ 2 ^ 31
held_more outside at r held room = elim (cases_eq r at) [
  | inl same ↦ omega (arith, times-cons r at outside, ap (λ q. times q outside) same, ap (once r) same, ap (λ q. once q at) same, once_same at)
  | inr other ↦ omega (arith, times-cons r at outside, once_other r at other, held r)
]

pub held_less : (outside : List Ref) (at r : Ref) → 0 < times at outside → ((q : ℕ) → times q outside ≤ 2 ^ 31) → times r (without at outside) ≤ 2 ^ 31
held_less outside at r some held = omega (arith, times-without r at outside some, held r)

-- what is held from outside is found
pub part_held : (slots : List (Option Slot)) (outside : List Ref) (at : Ref) → 0 < times at outside → (q : Ref) → times q (at ∷ []) ≤ found slots outside q
part_held slots outside at some q = elim (cases_eq q at) [
  | inl same ↦ omega (arith, times-cons q at [], ap (λ p. times p outside) same, ap (λ p. once p at) same, once_same at)
  | inr other ↦ omega (arith, times-cons q at [], once_other q at other)
]
