-- A branch has an entry for each one of its bitmap, and 32 at most.
use Rattle.std.proofs.Common.{◌≡◌, ◌≤◌, ◌<◌, ◌^◌, zero, suc, false, subst₂, ℕ, List, [], ◌∷◌, length, Option, Some, None, is_some, cond, count_by, count_ones, refl, sym, ap, ◌∙◌, subst, arith}
use Rattle.std.proofs.lemmas.List.Sums.{sum_by-cons}
use Rattle.std.proofs.lemmas.Option.{none-some}
use Rattle.machine_model.specs.Beneath.ctrie_base.specs.Paths.{position_of}
use Rattle.nodes.specs.Levels.{has_flag}
use Rattle.std.proofs.lemmas.Simd.{ones-mask_l}
use Rattle.arrayvec.specs.ArrayVec.{ArrayVec}
use Rattle.machine_model.specs.Beneath.slot_arena.specs.declared.refs.Ref.{Ref}
use Rattle.machine_model.specs.Beneath.slot_arena.specs.declared.nodes.Node.TheVariants.{Branch, List as Listed}
use Rattle.machine_model.specs.Beneath.slot_arena.specs.declared.nodes.Node.{Node}
use Rattle.trie_words.specs.declared.headers.Shape.{Shape}
use Rattle.trie_words.specs.declared.headers.Shape.TheVariants as shape
use Rattle.lock_free.specs.declared.accounts.Account.{Account}
use Rattle.lock_free.specs.Nodes.{SaysShape, of_branch, of_tomb, of_list}
use Rattle.machine_model.specs.Beneath.slot_arena.specs.declared.nodes.Slot.{Slot}
use Rattle.proof_linearizable.specs.Beneath.proof_contents.specs.Nodes.Branches.{standing, HasPlaces, at_place}
use Rattle.proof_linearizable.specs.Beneath.proof_contents.proofs.Nodes.Branches.{before, standing-le, position-before, unflagged}
use Rattle.proof_linearizable.specs.Beneath.proof_shape.proofs.Shaped.OfLists.{branches_exact, lists_crowds}
use Rattle.proof_memory.proofs.Safety.AtEachTime.{safe_along}
use Rattle.lock_free.specs.declared.rules.View.{View}
use Rattle.lock_free.specs.Accounts.{bounds_for}
use Rattle.lock_free.specs.Loading.{now, IsUsed, IsSound}
use Rattle.lock_free.proofs.OneStep.Found.{ref_at}
use Rattle.machine_model.specs.Beneath.slot_arena.specs.Refs.{slot_of}

abbrev one_if : Option Ref → ℕ
one_if q = cond (is_some q) 1 0

counted : (places : List (Option Ref)) → count_by is_some places ≡ length (standing places)
counted [] = refl
counted (None ∷ places) = let rest = counted places in sum_by-cons one_if None places ∙ omega (arith, rest)
counted (Some entry ∷ places) = let rest = counted places in sum_by-cons one_if (Some entry) places ∙ omega (arith, rest)

has_ones : (bitmap : ℕ) (entries : List Ref) (places : List (Option Ref)) → HasPlaces bitmap entries places → length entries ≡ count_ones bitmap
has_ones bitmap entries places h = ap length h.stand ∙ sym (counted places) ∙ sym (ones-mask_l is_some places) ∙ ap count_ones (sym h.bits)

module _ (n : ℕ) (v : View) (sound : IsSound n v) (r : Ref) (slot : Slot) (used : IsUsed v r slot) (bitmap : ℕ) (es : ArrayVec Ref) (is : slot.node ≡ Branch bitmap es) where
  places : (places : List (Option Ref)) × HasPlaces bitmap es.items places
  places =
      let limits = bounds_for v.sizes v.account.steps in
      let stands = ref_at (now v) (safe_along limits sound.bounds v.account.steps) (slot_of r) slot used in
      let exact = branches_exact limits v.account.steps stands.0 slot bitmap es sound.bounds sound.keys stands.2 is in
      (exact.1.0, exact.1.1)

  pub entries_counted : length es.items ≡ count_ones bitmap
  entries_counted = has_ones bitmap es.items places.0 places.1

  pub entries_few : length es.items ≤ 32
  entries_few =
      let le = standing-le places.0 in
      let size = places.1.size in
      let stand = ap length places.1.stand in
      omega (arith, le, size, stand)

-- ---- room for one more

before_least : (places : List (Option Ref)) (x : ℕ) → before places x ≤ length (standing places)
before_least [] zero = omega arith
before_least [] (suc x) = omega arith
before_least (p ∷ places) zero = omega arith
before_least (None ∷ places) (suc x) = before_least places x
before_least (Some entry ∷ places) (suc x) = let rest = before_least places x in omega (arith, rest)

one_less : (places : List (Option Ref)) (x : ℕ) → x < length places → at_place places x ≡ None → length (standing places) < length places
one_less [] x low none = absurd (omega (arith, low))
one_less (None ∷ places) zero low none = let le = standing-le places in omega (arith, le)
one_less (Some entry ∷ places) zero low none = absurd (none-some entry (sym none))
one_less (None ∷ places) (suc x) low none = let rest = one_less places x (omega (arith, low)) none in omega (arith, rest)
one_less (Some entry ∷ places) (suc x) low none = let rest = one_less places x (omega (arith, low)) none in omega (arith, rest)

module _ (n : ℕ) (v : View) (sound : IsSound n v) (r : Ref) (slot : Slot) (used : IsUsed v r slot) (bitmap : ℕ) (es : ArrayVec Ref) (is : slot.node ≡ Branch bitmap es) (x : ℕ) where
  -- the place of a flag is one of them, or comes after them
  pub place_least : position_of (2 ^ x) bitmap ≤ length es.items
  place_least =
      let h = places n v sound r slot used bitmap es is in
      subst (λ k. k ≤ length es.items) (sym (position-before bitmap es.items h.0 h.1 x)) (subst (λ k. before h.0 x ≤ k) (ap length (sym h.1.stand)) (before_least h.0 x))

  pub room_there : x < 32 → has_flag bitmap (2 ^ x) ≡ false → length es.items < 32
  room_there low none =
      let h = places n v sound r slot used bitmap es is in
      let less = one_less h.0 x (subst (λ k. x < k) (sym h.1.size) low) (unflagged bitmap es.items h.0 h.1 x none) in
      subst₂ (λ a b. a < b) (ap length (sym h.1.stand)) h.1.size less

-- ---- lists

module _ (n : ℕ) (v : View) (sound : IsSound n v) (r : Ref) (slot : Slot) (used : IsUsed v r slot) (es : ArrayVec Ref) (is : slot.node ≡ Listed es) where
  pub list_few : length es.items ≤ 32
  list_few =
      let limits = bounds_for v.sizes v.account.steps in
      let stands = ref_at (now v) (safe_along limits sound.bounds v.account.steps) (slot_of r) slot used in
      (lists_crowds limits v.account.steps stands.0 slot es sound.bounds sound.keys stands.2 is).2

-- a header says how many singles there are
length_in : Shape → ℕ
length_in (shape.List count) = count
length_in s = 0

list_length : Node → ℕ
list_length (Listed es) = length es.items
list_length node = 0

says_length : (account : Account) (k : ℕ) (node : Node) (s : Shape) → SaysShape account k node s → length_in s ≡ list_length node
unfolding length_in list_length
says_length account k node s (of_branch bitmap entries) = refl
says_length account k node s (of_tomb single own is) = refl
says_length account k node s (of_list singles) = refl

pub list_counted : (account : Account) (k : ℕ) (node : Node) (s : Shape) (count : ℕ) (es : ArrayVec Ref) → s ≡ shape.List count → node ≡ Listed es → SaysShape account k node
    s → count ≡ length es.items
unfolding length_in list_length
list_counted account k node s count es e is says = ap length_in (sym e) ∙ says_length account k node s says ∙ ap list_length is
