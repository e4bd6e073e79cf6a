-- The references to one slot rise with their births.
use Rattle.std.proofs.Common.{◌≡◌, ℕ, zero, suc, ◌+◌, ◌-◌, ◌/◌, ◌<◌, ◌≤◌, ap, inl, inr, arith}
use Rattle.std.proofs.lemmas.Bool.{cases_lt}
use Rattle.slot_arena.specs.declared.refs.Ref.{Ref}
use Rattle.slot_arena.specs.Pairing.{triangle, pair_number}
use Rattle.slot_arena.specs.Refs.{ref_to, slot_of, birth_of, most_slots, birth_limit}
use Rattle.slot_arena.proofs.Live.{ref_again}

triangle_rises : (m more : ℕ) → triangle m ≤ triangle (m + more)
triangle_rises m zero = let none : m + 0 ≡ m = omega arith in omega (arith, ap triangle none)
triangle_rises m (suc more) = let next : m + suc more ≡ suc (m + more) = omega arith in omega (arith, ap triangle next, triangle_rises m more)

pair_rises : (a b c : ℕ) → a < b → pair_number a c < pair_number b c
pair_rises a b c less = let sum : a + c + (b - a) ≡ b + c = omega arith in omega (arith, less, triangle_rises (a + c) (b - a), ap triangle sum)

rises : (a b slot : ℕ) → a ≤ b → ref_to a slot ≤ ref_to b slot
rises a b slot le = elim (cases_lt (a / birth_limit) (b / birth_limit)) [
  | inl less ↦ let more = pair_rises (a / birth_limit) (b / birth_limit) (slot / most_slots) less in omega (arith, le, more)
  | inr equal ↦
      let high : a / birth_limit ≡ b / birth_limit = omega (arith, le, equal) in
      let same = ap (λ n. pair_number n (slot / most_slots)) high in
      omega (arith, le, same, high)
]

pub rise_with_births : (q r : Ref) → slot_of q ≡ slot_of r → birth_of q ≤ birth_of r → q ≤ r
rise_with_births q r slot births =
    let more = rises (birth_of q) (birth_of r) (slot_of q) births in
    let other = ap (λ s. ref_to (birth_of r) s) slot in
    omega (arith, ref_again q, ref_again r, more, other)
