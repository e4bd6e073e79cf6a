-- What several programs' lines share: paths, positions, and the lines to which several programs lead.
use Rattle.std.proofs.Common.{◌≡◌, ℕ, ◌-◌, ◌^◌, ◌<◌, ◌≤◌, ◌==◌, ◌&&◌, Bool, true, false, not, nat_lt, nat_le, List, ◌∷◌, ◌++◌, length, sym, ap, ◌∙◌, ltb-true, lt-ltb, leb-true}
use Rattle.std.proofs.Common.{ltb-false, eq-eqb, arith, []}
use Rattle.std.specs.Prelude.{bit_and, count_ones}
use Rattle.std.proofs.lemmas.Bool.{false≢true, and_parts, not_from_true, le-leb, eqb-true, eqb-false}
use Rattle.std.proofs.lemmas.List.{length-append, length-take-le}
use Rattle.std.proofs.lemmas.List.Elements.{All-take, All-push, All-nil, All-head}
use Rattle.proof_memory.specs.Vocabulary.{position_of, Ref, Node, Branch, Heap, node_at, no_ref, has_flag, current, above, depth_of, is_below_root, first_of}
use Rattle.proof_memory.specs.Wants.{Wanted, AnIndirection, WithFlag, ToSpare, meets, Is, Each, Holds, is, each}
use Rattle.proof_memory.proofs.Heap.Ones.{ones_below}
use Rattle.proof_memory.proofs.Claims.Uses.{Meets, safe_of, meets_of, all_of}

-- a test that fails
pub not_zero : (n : ℕ) → not (n == 0) ≡ true → n ≡ 0 → ⊥
not_zero n h e = false≢true (sym (not_from_true (n == 0) (eq-eqb n 0 e)) ∙ h)

-- a path that goes an indirection further is one deeper
pub pushed_depth : (path : List Ref) (below : Ref) → length path ≡ depth_of (path ++ below ∷ [])
pushed_depth path below = omega (arith, length-append path (below ∷ []))

-- the position of a flag that a bitmap has lies within as many entries as it has ones
pub position_within : (bitmap i n : ℕ) → has_flag bitmap (2 ^ i) ≡ true → nat_le (count_ones bitmap) n ≡ true → nat_lt (position_of (2 ^ i) bitmap) n ≡ true
position_within bitmap i n h le = lt-ltb (position_of (2 ^ i) bitmap) n (omega (arith, ones_below bitmap i (not_zero (bit_and bitmap (2 ^ i)) h), leb-true (count_ones bitmap) n le))

-- ---- what a node is known to be

module _ (S : Ref → Type 0) (heap : Heap) where
  pub this : {r : Ref} (wanted : Wanted) (node : Node) → S r → node_at heap r ≡ node → meets wanted node ≡ true → Holds S heap (Is r wanted)
  this wanted node s e t = is s (ap (meets wanted) e ∙ t)

  -- ---- paths

  -- the last indirection of a path
  pub current_is : (path : List Ref) → Holds S heap (Each path AnIndirection) → nat_lt 0 (length path) ≡ true → Holds S heap (Is (current path) AnIndirection)
  current_is path p long =
      let some : 0 < length path = ltb-true 0 (length path) long in
      let at_last = all_of p (length path - 1) no_ref (omega arith) in
      is at_last.0 at_last.1

  pub above_each : (path : List Ref) → Holds S heap (Each path AnIndirection) → Holds S heap (Each (above path) AnIndirection)
  above_each path p = each (All-take (Meets S heap AnIndirection) (length path - 1) path (all_of p))

  pub pushed_each : {wanted : Wanted} (path : List Ref) (below : Ref) → Holds S heap (Each path wanted) → Holds S heap (Is below wanted) → Holds S heap (Each (path ++ below ∷ []) wanted)
  pushed_each {wanted} path below p h = each (All-push (Meets S heap wanted) path below (all_of p) (safe_of h, meets_of h))

  pub none_each : {wanted : Wanted} → Holds S heap (Each [] wanted)
  none_each {wanted} = each (All-nil (Meets S heap wanted))

  -- the first entry of a walk's is safe
  pub first_safe : {wanted : Wanted} (todo : List Ref) → Holds S heap (Each todo wanted) → nat_lt 0 (length todo) ≡ true → S (first_of todo)
  first_safe [] t long = absurd (false≢true long)
  first_safe {wanted} (entry ∷ todo) t long = (All-head (Meets S heap wanted) entry todo (all_of t)).0

-- what is above an indirection below the root has one at least
pub above_long : (path : List Ref) → is_below_root path ≡ true → nat_lt 0 (length (above path)) ≡ true
above_long path h =
    let two : 1 < length path = ltb-true 1 (length path) h in
    lt-ltb 0 (length (above path)) (omega (arith, length-take-le (length path - 1) path (omega arith)))

pub pushed_long : (path : List Ref) (below : Ref) → nat_lt 0 (length (path ++ below ∷ [])) ≡ true
pushed_long path below = lt-ltb 0 (length (path ++ below ∷ [])) (omega (arith, length-append path (below ∷ [])))

-- ---- entries

-- the flag of a branch is one that it can spare
pub flag_spares : (flag : ℕ) (node : Node) → meets (WithFlag flag) node ≡ true → meets (ToSpare flag) node ≡ true
flag_spares flag (Branch bitmap entries) e = e
flag_spares flag node e = absurd (false≢true e)

-- a formed branch has no more ones than entries
pub formed_ones : (bitmap : ℕ) (n : ℕ) (small : Bool) → (small && nat_le (count_ones bitmap) n) ≡ true → nat_le (count_ones bitmap) n ≡ true
formed_ones bitmap n small e = (and_parts small (nat_le (count_ones bitmap) n) e).1

-- what isn't below is at most
pub at_most : (n entries : ℕ) → nat_lt n entries ≡ false → nat_le entries n ≡ true
at_most n entries e = le-leb entries n (ltb-false n entries e)

-- the other one of two
pub other_of_two : (position n : ℕ) → (n == 2) ≡ true → nat_lt (1 - position) n ≡ true
other_of_two position n e = lt-ltb (1 - position) n (omega (arith, eqb-true n 2 e))

-- more than two
pub three : (n : ℕ) → nat_le 2 n ≡ true → (n == 2) ≡ false → nat_lt 2 n ≡ true
three n two other = let le : 2 ≤ n = leb-true 2 n two in lt-ltb 2 n (omega (arith, eqb-false n 2 other))

-- two singles or more are one
pub first_of_two : (n : ℕ) → nat_le 2 n ≡ true → nat_lt 0 n ≡ true
first_of_two n two = let le : 2 ≤ n = leb-true 2 n two in lt-ltb 0 n (omega arith)
