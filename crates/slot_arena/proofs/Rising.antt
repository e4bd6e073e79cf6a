-- Births rise: what any node but an indirection refers to was born before it.
use Rattle.std.proofs.Common.{◌≡◌, ℕ, ◌+◌, ◌<◌, ◌≤◌, true, false, List, [], ◌∷◌, length, get_or, set, replicate, All, Option, Some, None, refl, sym, ap, ◌∙◌, subst, arith}
use Rattle.std.specs.Prelude.{option_map}
use Rattle.std.proofs.lemmas.Bool.{false≢true}
use Rattle.std.proofs.lemmas.List.Elements.{All-nil, All-head, All-tail, All-weaker}
use Rattle.slot_arena.specs.declared.refs.Ref.{Ref}
use Rattle.slot_arena.specs.declared.nodes.Node.{Node}
use Rattle.slot_arena.specs.declared.nodes.Node.TheVariants.{Indirection, Branch, Single, Tomb, List as Listed}
use Rattle.slot_arena.specs.declared.nodes.Prev.TheVariants as prev
use Rattle.slot_arena.specs.declared.nodes.Slot.{Slot}
use Rattle.slot_arena.specs.Refs.{slot_of, birth_of}
use Rattle.slot_arena.specs.Heaps.{node_of, entries_of, refs_of_node}
use Rattle.slot_arena.specs.Cells.{birth_of_slot}
use Rattle.slot_arena.specs.Tallies.{naming}
use Rattle.slot_arena.specs.Arenas.{is_indirection}
use Rattle.slot_arena.specs.Kept.{live, HasOlder, IsRising}
use Rattle.slot_arena.proofs.Times.{once_other}
use Rattle.slot_arena.proofs.Namings.{naming-cons}
use Rattle.slot_arena.proofs.Live.{birth_known, live_within, one_live}
use Rattle.slot_arena.proofs.Reading.{slot_seen}
use Rattle.slot_arena.proofs.Starts.{none_at}
use Rattle.slot_arena.proofs.Words.{IsChange, changed_by}
use Rattle.slot_arena.proofs.Written.{each_set}

pub rising_new : (n : ℕ) → IsRising (replicate n None) 0
rising_new n = record {
  drawn = λ k. omega (arith, ap birth_of_slot (none_at n k));
  older = λ k. subst HasOlder (sym (none_at n k)) (All-nil (λ (r : Ref). birth_of r < 0));
}

-- what holds of all that a node refers to holds of its entries
all_entries : (P : Ref → Type 0) (node : Node) → All P (refs_of_node node) → All P (entries_of node)
all_entries P (Indirection generation main) all = All-nil P
all_entries P (Branch bitmap entries) all = all
all_entries P (Single key value) all = all
all_entries P (Tomb single) all = all
all_entries P (Listed singles) all = all

entries_same : (node : Node) → is_indirection node ≡ false → refs_of_node node ≡ entries_of node
entries_same (Indirection generation main) other = absurd (false≢true (sym other))
entries_same (Branch bitmap entries) other = refl
entries_same (Single key value) other = refl
entries_same (Tomb single) other = refl
entries_same (Listed singles) other = refl

-- what is live was born under the birth that stands there
live_birth : (slots : List (Option Slot)) (r : Ref) → live slots r ≡ true → birth_of_slot (get_or slots (slot_of r) None) ≡ birth_of r
live_birth slots r has = let seen = slot_seen slots r has in ap birth_of_slot seen.1 ∙ birth_known (birth_of r) (get_or slots (slot_of r) None) seen.0 seen.1 has

-- what is older than a live reference doesn't name its slot
older_apart : (slots : List (Option Slot)) (r : Ref) (rs : List Ref) → live slots r ≡ true → All (λ q. live slots q ≡ true) rs → All (λ q. birth_of q < birth_of r) rs → naming (slot_of r) rs ≡ 0
older_apart slots r [] has all old = refl
older_apart slots r (q ∷ rs) has all old =
    let older : birth_of q < birth_of r = All-head (λ (p : Ref). birth_of p < birth_of r) q rs old in
    let other : slot_of r ≡ slot_of q → ⊥ = λ same. let is = ap birth_of (one_live slots q r (All-head (λ (p : Ref). live slots p ≡ true) q rs all) has (sym same)) in absurd (omega arith) in
    omega (
      arith,
      naming-cons (slot_of r) q rs,
      once_other (slot_of r) (slot_of q) other,
      older_apart slots r rs has (All-tail (λ (p : Ref). live slots p ≡ true) q rs all) (All-tail (λ (p : Ref). birth_of p < birth_of r) q rs old),
    )

module _ (slots : List (Option Slot)) (births : ℕ) (rising : IsRising slots births) where
  rising_set : (k : ℕ) (o : Option Slot) (births' : ℕ) → k < length slots → births ≤ births' → birth_of_slot o ≤ births' → HasOlder o → IsRising (set slots k o) births'
  rising_set k o births' within more drawn old = record {
    drawn = each_set (λ i s. birth_of_slot s ≤ births') slots k o within drawn (λ i other. omega (arith, rising.drawn i));
    older = each_set (λ i s. HasOlder s) slots k o within old (λ i other. rising.older i);
  }

  pub rising_freed : (k : ℕ) → k < length slots → IsRising (set slots k None) births
  rising_freed k within = rising_set k None births within (omega arith) (omega arith) (All-nil (λ (r : Ref). birth_of r < 0))

  -- what is in use was drawn
  drawn_live : (r : Ref) → live slots r ≡ true → birth_of r ≤ births
  drawn_live r has = omega (arith, live_birth slots r has, rising.drawn (slot_of r))

  pub rising_made : (k : ℕ) (node : Node) → k < length slots → All (λ q. live slots q ≡ true) (refs_of_node node) →
      IsRising (set slots k (Some (record { birth = births + 1; node = node; prev = prev.None }))) (births + 1)
  rising_made k node within all =
      rising_set k (Some (record { birth = births + 1; node = node; prev = prev.None })) (births + 1) within (omega arith) (omega arith)
      (all_entries (λ r. birth_of r < births + 1) node
      (All-weaker (λ q. live slots q ≡ true) (λ q. birth_of q < births + 1) (λ q has. let old = drawn_live q has in omega arith) (refs_of_node node) all))

  pub rising_changed : (r : Ref) → live slots r ≡ true → (change : Slot → Slot) (minus plus : List Ref) → IsChange slots r change minus plus → IsRising (changed_by change slots r) births
  rising_changed r has change minus plus is =
      rising_set (slot_of r) (option_map change (get_or slots (slot_of r) None)) births (live_within slots r has) (omega arith)
      (omega (arith, birth_same (get_or slots (slot_of r) None), rising.drawn (slot_of r))) (older_same (get_or slots (slot_of r) None) (rising.older (slot_of r)))
    where
      birth_same : (o : Option Slot) → birth_of_slot (option_map change o) ≡ birth_of_slot o
      birth_same None = refl
      birth_same (Some slot) = is.births slot

      older_same : (o : Option Slot) → HasOlder o → HasOlder (option_map change o)
      older_same None old = old
      older_same (Some slot) old =
          subst (λ n. All (λ q. birth_of q < n) (entries_of (change slot).node)) (sym (is.births slot)) (subst (λ rs. All (λ q. birth_of q < slot.birth) rs) (sym (is.entries slot)) old)

  -- nothing but an indirection refers to itself
  pub rising_apart : (r : Ref) → live slots r ≡ true → (rs : List Ref) → rs ≡ refs_of_node (node_of (get_or slots (slot_of r) None)) → All (λ q. live slots q ≡ true) rs →
      is_indirection (node_of (get_or slots (slot_of r) None)) ≡ false → naming (slot_of r) rs ≡ 0
  rising_apart r has rs stand all other =
      older_apart slots r rs has all
      (subst (λ n. All (λ q. birth_of q < n) rs) (live_birth slots r has)
      (subst (λ qs. All (λ q. birth_of q < birth_of_slot (get_or slots (slot_of r) None)) qs) (sym (stand ∙ entries_same (node_of (get_or slots (slot_of r) None)) other)) (rising.older (slot_of r))))
