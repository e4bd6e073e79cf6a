-- The claims of a line by name: what several lines claim first, and what more each of them does.
use Rattle.std.proofs.Common.{Bool, List}
use Rattle.proof_memory.specs.Vocabulary.{Ref, Heap}
use Rattle.proof_memory.specs.Wants.{Wanted, AnIndirection, AMain, AnEntry, ASingle, Is, Each, So, Holds}

-- what has a path is at a main node, or a climb has a single, and claims more
abbrev Placed : (Ref → Type 0) → Heap → List Ref → Bool → Ref → Wanted → Type 0 → Type 0
Placed S heap path long main wanted More = Holds S heap (Each path AnIndirection) × (Holds S heap (So long) × (Holds S heap (Is main wanted) × More))

-- at a main node some entries are done, and more or none are left
abbrev Doing : (Ref → Type 0) → Heap → List Ref → Bool → Ref → Wanted → List Ref → Wanted → Type 0 → Type 0
Doing S heap path long main wanted done left More = Placed S heap path long main wanted (Holds S heap (Each done AnEntry) × (Holds S heap (Is main left) × More))

module _ {S : Ref → Type 0} {heap : Heap} {path : List Ref} {long : Bool} {main : Ref} {wanted : Wanted} {More : Type 0} where
  pub main_claim : Placed S heap path long main wanted More → Holds S heap (Is main wanted)
  main_claim (path, (long, (main, more))) = main

  pub past_place : Placed S heap path long main wanted More → More
  past_place (path, (long, (main, more))) = more

  pub done_claim : {done : List Ref} → Placed S heap path long main wanted (Holds S heap (Each done AnEntry) × More) → Holds S heap (Each done AnEntry)
  done_claim (path, (long, (main, (done, more)))) = done

  pub left_claim : {done : List Ref} {left : Wanted} → Doing S heap path long main wanted done left More → Holds S heap (Is main left)
  left_claim (path, (long, (main, (done, (left, more))))) = left

  pub past_done : {done : List Ref} {left : Wanted} → Doing S heap path long main wanted done left More → More
  past_done (path, (long, (main, (done, (left, more))))) = more

module _ {S : Ref → Type 0} {heap : Heap} {path : List Ref} {long : Bool} {single : Ref} {More : Type 0} where
  pub single_claim : Placed S heap path long single ASingle More → Holds S heap (Is single ASingle)
  single_claim (path, (long, (single, more))) = single

  pub past_climb : Placed S heap path long single ASingle More → More
  past_climb (path, (long, (single, more))) = more

  -- all that a climb claims
  pub climb_claims : Placed S heap path long single ASingle More → Placed S heap path long single ASingle (Unit {0})
  climb_claims (path, (long, (single, more))) = (path, (long, (single, tt)))

-- an indirection, a main node, and a third: what a READ found that one pending over, what a SWAP puts in its place, the root that an offer would open
abbrev Three : (Ref → Type 0) → Heap → Ref → Ref → Ref → Wanted → Type 0 → Type 0
Three S heap indirection main third wanted More = Holds S heap (Is indirection AnIndirection) × (Holds S heap (Is main AMain) × (Holds S heap (Is third wanted) × More))

module _ {S : Ref → Type 0} {heap : Heap} {indirection main third : Ref} {wanted : Wanted} {More : Type 0} where
  pub third_claim : Three S heap indirection main third wanted More → Holds S heap (Is third wanted)
  third_claim (indirection, (main, (third, more))) = third

  pub past_third : Three S heap indirection main third wanted More → More
  past_third (indirection, (main, (third, more))) = more
