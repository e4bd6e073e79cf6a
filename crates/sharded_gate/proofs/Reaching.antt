-- Shards in hand, of which one is reached, and the entry of a call in each.
use Rattle.std.specs.Prelude.{◌≡◌, ℕ, zero, suc, ◌+◌, ◌-◌, ◌<◌, List, [], ◌∷◌, ◌++◌, length, drop, slice_get, slice_set}
use Rattle.std.proofs.Common.{refl, sym, ap, subst, ◌∙◌, arith}
use mathlib.Core.Option.{some-injective}
use lib.ListN.{get_elem?}
use Rattle.atomic_table.specs.Table.{turned, rest}
use Rattle.gate.specs.declared.objects.Entry.{Entry}
use Rattle.sharded_gate.specs.Shards.{LoggedShard, with_entry}
use Rattle.sharded_gate.specs.Visiting.{HasVisited}
use Rattle.sharded_gate.specs.Hands.{AreFrom, AreTold, turned_by, objects_of, logs_of, noted_first}
use Rattle.sharded_gate.proofs.Turning.{IsSplit, is_split, to_front, back_again, still_from, objects_there, objects_set, logs_same, one_more_noted}

pub turned_more : {S : Type 0} (n : ℕ) (xs : List (ℕ × S)) → turned (turned_by n xs) ≡ turned_by (n + 1) xs
turned_more zero xs = refl
turned_more (suc n) xs = let same : suc (n + 1) ≡ suc n + 1 = omega arith in turned_more n (turned xs) ∙ ap (λ m. turned_by m xs) same

abbrev front_or : {S : Type 0} → S → List (ℕ × S) → S
front_or other [] = other
front_or other (x ∷ xs) = x.1

module _ {S : Type 0} (slots : List (ℕ × S)) (shards shard : ℕ) (are : AreFrom 0 slots) (many : length slots ≡ shards) (within : shard < shards) where
  abbrev its_split : IsSplit slots shard
  its_split = is_split slots shard are (omega (arith, many, within))

  -- the shard has been brought to the front
  pub has_front : (front : List (ℕ × S)) → front ≡ turned_by shard slots → (x : S) × (front ≡ (shard, x) ∷ rest front)
  has_front front turn =
      let there = turn ∙ to_front slots shard its_split in
      (its_split.item, there ∙ ap (λ xs. (shard, its_split.item) ∷ xs) (sym (ap (λ xs. rest xs) there)))

  -- the shard has been worked on in front, and each is at its place again
  pub record IsReached (was now : S) (back : List (ℕ × S)) : Type 0 where
    pub before : List (ℕ × S)
    pub later : List (ℕ × S)
    pub parts : slots ≡ before ++ (shard, was) ∷ later
    pub back_is : back ≡ before ++ (shard, now) ∷ later
    pub long : length before ≡ shard

  pub is_reached : (front back : List (ℕ × S)) (was now : S) → front ≡ turned_by shard slots → front ≡ (shard, was) ∷ rest front → back ≡ turned_by (shards - shard) ((shard, now) ∷ rest front) →
      IsReached was now back
  is_reached front back was now turn out again =
      let there = turn ∙ to_front slots shard its_split in
      let item : was ≡ its_split.item = ap (λ xs. front_or was xs) (sym out ∙ there) in
      record {
        before = its_split.before;
        later = its_split.later;
        parts = its_split.parts ∙ ap (λ x. its_split.before ++ (shard, x) ∷ its_split.later) (sym item);
        back_is = again ∙ ap (λ xs. turned_by (shards - shard) ((shard, now) ∷ xs)) (ap (λ xs. rest xs) there) ∙ back_again slots shard shards its_split now (sym many);
        long = its_split.long;
      }

  pub still_are : (was now : S) (back : List (ℕ × S)) → IsReached was now back → AreFrom 0 back
  still_are was now back r = subst (λ xs. AreFrom 0 xs) (sym r.back_is) (still_from 0 r.before shard was now r.later (subst (λ xs. AreFrom 0 xs) r.parts are))

  long_as : (before : List (ℕ × S)) (was now : S) (later : List (ℕ × S)) → length (before ++ (shard, now) ∷ later) ≡ length (before ++ (shard, was) ∷ later)
  long_as [] was now later = refl
  long_as (x ∷ before) was now later = ap suc (long_as before was now later)

  pub still_many : (was now : S) (back : List (ℕ × S)) → IsReached was now back → length back ≡ shards
  still_many was now back r = ap (λ xs. length xs) r.back_is ∙ long_as r.before was now r.later ∙ ap (λ xs. length xs) (sym r.parts) ∙ many

module _ {O C A : Type 0} (slots : List (ℕ × LoggedShard O C A)) (shards shard : ℕ) (are : AreFrom 0 slots) (many : length slots ≡ shards) (within : shard < shards) (was now : LoggedShard O C A)
    (back : List (ℕ × LoggedShard O C A)) (r : IsReached slots shards shard are many within was now back) where
  pub is_visited : {V : Type 0} (does : V → O → V → O → Type 0) (before after : V) → does before was.object after now.object →
      HasVisited does shard before after (objects_of slots) (objects_of back)
  is_visited does before after done = (
    was.object,
    now.object,
    ap (λ xs. slice_get (objects_of xs) shard) r.parts ∙ ap (λ n. slice_get (objects_of (r.before ++ (shard, was) ∷ r.later)) n) (sym r.long) ∙ objects_there r.before shard was r.later,
    done,
    ap (λ xs. objects_of xs) r.back_is ∙ objects_set r.before shard was now r.later
        ∙ ap (λ n. slice_set (objects_of (r.before ++ (shard, was) ∷ r.later)) n now.object) r.long
        ∙ ap (λ xs. slice_set (objects_of xs) shard now.object) (sym r.parts),
  )

  pub same_logs : now.log ≡ was.log → logs_of back ≡ logs_of slots
  same_logs same = ap (λ xs. logs_of xs) r.back_is ∙ logs_same r.before shard was now r.later same ∙ ap (λ xs. logs_of xs) (sym r.parts)

  pub noted_on : (start : List (ℕ × LoggedShard O C A)) (told : Entry C A) → slots ≡ noted_first shard told start → now ≡ with_entry was told → back ≡ noted_first (shard + 1) told start
  noted_on start told so_far is =
      r.back_is ∙ ap (λ x. r.before ++ (shard, x) ∷ r.later) is
      ∙ one_more_noted r.before shard was r.later start told (ap (λ n. noted_first n told start) r.long ∙ sym so_far ∙ r.parts)
      ∙ ap (λ n. noted_first n told start) (let next : suc (length r.before) ≡ shard + 1 = omega (arith, r.long) in next)

module _ {O C A : Type 0} (told : Entry C A) where
  -- the entry stands in the log of each, and the objects are as they were
  pub told_all : (n : ℕ) (xs ys : List (ℕ × LoggedShard O C A)) → AreFrom n xs → AreFrom n ys → logs_of ys ≡ logs_of xs → AreTold told xs (noted_first (length ys) told ys)
  told_all n [] [] are be logs = tt
  told_all n [] (y ∷ ys) are be logs = absurd (omega (arith, ap (λ ls. length ls) logs))
  told_all n (x ∷ xs) [] are be logs = absurd (omega (arith, ap (λ ls. length ls) logs))
  told_all n (x ∷ xs) (y ∷ ys) are be logs = (
    are.0 ∙ sym be.0,
    ap (λ l. l ++ told ∷ []) (some-injective y.1.log x.1.log (ap (λ ls. get_elem? ls 0) logs)),
    told_all (suc n) xs ys are.1 be.1 (ap (λ ls. drop 1 ls) logs),
  )

  pub objects_noted : (n : ℕ) (xs : List (ℕ × LoggedShard O C A)) → objects_of (noted_first n told xs) ≡ objects_of xs
  objects_noted zero xs = refl
  objects_noted (suc n) [] = refl
  objects_noted (suc n) (x ∷ xs) = ap (λ os. x.1.object ∷ os) (objects_noted n xs)

  pub from_noted : (i n : ℕ) (xs : List (ℕ × LoggedShard O C A)) → AreFrom i (noted_first n told xs) → AreFrom i xs
  from_noted i zero xs are = are
  from_noted i (suc n) [] are = tt
  from_noted i (suc n) (x ∷ xs) are = (are.0, from_noted (suc i) n xs are.1)
