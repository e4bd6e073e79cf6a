-- A seat that has all shards: its call, and how it takes them and gives them back.
use Rattle.std.specs.Prelude.{◌≡◌, ℕ, suc, ◌+◌, ◌<◌, ◌≤◌, List, [], ◌∷◌, length, Option, None}
use Rattle.std.proofs.Common.{refl, sym, ap, subst, ◌∙◌, inl, inr, arith}
use Rattle.atomic_table.specs.Table.{rest}
use Rattle.atomic_table.specs.Seated.{TableId}
use Rattle.gate.specs.declared.objects.Entry.{Entry}
use Rattle.gate.specs.declared.rules.Part.{Part}
use Rattle.gate.specs.Logs.{Logged, entry}
use Rattle.gate.specs.Views.{HasSlot, AreSameSlots, HasTaken, holding, outside, part, crew_view, released}
use Rattle.sharded_gate.specs.Shards.{LoggedShard}
use Rattle.sharded_gate.specs.Rules.{ShardPlace, MayGive, MayRelease, HasGiven}
use Rattle.sharded_gate.specs.Hands.{AreFrom, AreTold, Hand, HasAll, HasPerformed, objects_of, logs_of, noted_first, rest_of_hand}
use Rattle.sharded_gate.proofs.Alone.{slot_or}
use Rattle.sharded_gate.proofs.Commits.{all_commits, told_from, told_long}
use Rattle.sharded_gate.proofs.Given.{HasMade, has_made}
use Rattle.sharded_gate.proofs.Reaching.{told_all, objects_noted, from_noted}

-- a slot isn't among those behind it
not_from : {S : Type 0} (i n : ℕ) (xs : List (ℕ × S)) → AreFrom n xs → i < n → HasSlot i xs → ⊥
not_from i n [] are low has = has
not_from i n (x ∷ xs) are low (inl here) = absurd (omega (arith, low, are.0, here))
not_from i n (x ∷ xs) are low (inr has) = not_from i (suc n) xs are.1 (omega (arith, low)) has

told_same : {O C A : Type 0} (e : Entry C A) (xs ys : List (ℕ × LoggedShard O C A)) → AreTold e xs ys → AreSameSlots xs ys
told_same e [] [] told = tt
told_same e [] (y ∷ ys) told = absurd told
told_same e (x ∷ xs) [] told = absurd told
told_same e (x ∷ xs) (y ∷ ys) told = (told.0, told_same e xs ys told.2)

-- ---- the call

module _ {O C A : Type 0} (answers : ℕ → List O → C → A → List O → Type 0) (about : ℕ → C → Option ℕ) (shards number : ℕ) (call : C) (answer : A) (seen : Logged (List O) C A) where
  abbrev its_entry : Entry C A
  its_entry = entry number call answer

  -- the seat has performed the call on all shards
  pub record IsDone (me : ShardPlace O C A) : Type 0 where
    pub was : LoggedShard O C A
    pub found : List (ℕ × LoggedShard O C A)
    pub now : LoggedShard O C A
    pub others : List (ℕ × LoggedShard O C A)
    pub place : me ≡ (holding number seen ((0, was) ∷ found), (0, now) ∷ others)
    pub are : AreFrom 1 found
    pub told : AreTold its_entry ((0, was) ∷ found) ((0, now) ∷ others)
    pub many : length found + 1 ≡ shards
    pub answered : answers number (objects_of ((0, was) ∷ found)) call answer (objects_of ((0, now) ∷ others))

  done_by : (xs ys : List (ℕ × LoggedShard O C A)) → AreFrom 0 xs → length xs ≡ shards → 1 ≤ shards → AreTold its_entry xs ys → answers number (objects_of xs) call answer (objects_of ys) →
      IsDone (holding number seen xs, ys)
  done_by [] ys are many some told answered = absurd (omega (arith, many, some))
  done_by (x ∷ xs) [] are many some told answered = absurd told
  done_by (x ∷ xs) (y ∷ ys) are many some told answered =
      let mine : x.0 ≡ 0 = are.0 in
      let its : y.0 ≡ 0 = sym told.0 ∙ are.0 in
      record {
        was = x.1;
        found = xs;
        now = y.1;
        others = ys;
        place = ap (λ i. (holding number seen ((i, x.1) ∷ xs), y ∷ ys)) mine ∙ ap (λ i. (holding number seen ((0, x.1) ∷ xs), (i, y.1) ∷ ys)) its;
        are = are.1;
        told = (refl, told.1, told.2);
        many = omega (arith, many);
        answered = answered;
      }

  pub is_done : (before me after : ShardPlace O C A) → 1 ≤ shards → before ≡ (outside number seen, []) → HasAll shards before me → HasPerformed answers number call answer me after → IsDone after
  is_done before me after some is all made =
      let place : me ≡ (holding number seen all.slots, all.slots) = all.place ∙ ap (λ b. (record { has = all.slots; parts = b.0.parts }, all.slots)) is in
      let view : after ≡ (holding number seen all.slots, after.1) = ap (λ v. (v, after.1)) (made.view ∙ ap (λ m. m.0) place) in
      let told = subst (λ (m : ShardPlace O C A). AreTold its_entry m.1 after.1) place made.told in
      let answered = subst (λ (m : ShardPlace O C A). answers number (objects_of m.1) call answer (objects_of after.1)) place made.answered in
      subst IsDone (sym view) (done_by all.slots after.1 all.are all.many some told answered)

  module _ (me : ShardPlace O C A) (done : IsDone me) where
    pub first_slot : (x : LoggedShard O C A) × (me.1 ≡ (0, x) ∷ rest me.1)
    first_slot = (done.now, ap (λ m. m.1) done.place ∙ ap (λ xs. (0, done.now) ∷ xs) (sym (ap (λ (m : ShardPlace O C A). rest m.1) done.place)))

    pub lent_first : (y : LoggedShard O C A) → me.1 ≡ (0, y) ∷ rest me.1 → y ≡ done.now
    lent_first y out = ap (λ xs. slot_or y xs) (sym out ∙ ap (λ m. m.1) done.place)

    pub may_give_all : about shards call ≡ None → MayGive answers about shards 0 me
    may_give_all all = record {
      number = number;
      seen = seen;
      was = done.was;
      now = done.now;
      found = done.found;
      others = done.others;
      place = done.place;
      single = not_from 0 1 done.found done.are (omega arith);
      same = told_same its_entry done.found done.others done.told.2;
      commits = all_commits answers about shards number call answer all ((0, done.was) ∷ done.found) ((0, done.now) ∷ done.others) (refl, done.are) (omega (arith, done.many))
          (omega (arith, done.many)) done.told done.answered;
    }

    pub has_given_all : (after : ShardPlace O C A) → HasGiven answers about shards me after → HasMade answers about shards number call answer seen 0 done.now done.others after
    has_given_all after given =
        has_made answers about shards number call answer seen 0 done.was done.now done.found done.others after done.told.1
        (subst (λ m. HasGiven answers about shards m after) done.place given)

    pub others_from : AreFrom 1 done.others
    others_from = told_from 1 its_entry done.found done.others done.told.2 done.are

    pub others_many : length done.others + 1 ≡ shards
    others_many = omega (arith, told_long its_entry done.found done.others done.told.2, done.many)

-- ---- the hand

module _ {O C A : Type 0} (answers : ℕ → List O → C → A → List O → Type 0) (number : ℕ) (call : C) (answer : A) where
  -- the object has performed the call on the shards in hand, and its entry has been told to each
  pub performed : (id : TableId) (before after : ShardPlace O C A) (one two three : Hand O C A) → one ≡ record { id = id; view = before.0; slots = before.1 } → rest_of_hand two ≡ rest_of_hand one →
      three.view ≡ two.view → three.slots ≡ noted_first (length two.slots) (entry number call answer) two.slots → after ≡ (three.view, three.slots) → AreFrom 0 before.1 → AreFrom 0 three.slots →
      answers number (objects_of one.slots) call answer (objects_of two.slots) → HasPerformed answers number call answer before after
  performed id before after one two three is rest_same view noted place are be answered =
      let e = entry number call answer in
      let slots : one.slots ≡ before.1 = ap (λ (h : Hand O C A). h.slots) is in
      let logs : logs_of two.slots ≡ logs_of before.1 = ap (λ r. r.1.1) rest_same ∙ ap (λ xs. logs_of xs) slots in
      let from = from_noted e 0 (length two.slots) two.slots (subst (λ xs. AreFrom 0 xs) noted be) in
      let last : after.1 ≡ noted_first (length two.slots) e two.slots = ap (λ (m : ShardPlace O C A). m.1) place ∙ noted in
      record {
        view = ap (λ (m : ShardPlace O C A). m.0) place ∙ view ∙ ap (λ r. r.1.0) rest_same ∙ ap (λ (h : Hand O C A). h.view) is;
        told = subst (λ xs. AreTold e before.1 xs) (sym last) (told_all e 0 before.1 two.slots are from logs);
        answered = subst (λ os. answers number os call answer (objects_of after.1)) (ap (λ xs. objects_of xs) slots)
            (subst (λ os. answers number (objects_of one.slots) call answer os) (sym (ap (λ xs. objects_of xs) last ∙ objects_noted e (length two.slots) two.slots)) answered);
      }

-- ---- taking all, and giving back all but the first

module _ {O C A : Type 0} where
  -- the seat has the slots from this one on, of so many, as it found them, and knows else what it knew
  pub record HasFrom (first shards : ℕ) (parts : List (Part (List O) C A)) (me : ShardPlace O C A) : Type 0 where
    pub slots : List (ℕ × LoggedShard O C A)
    pub are : AreFrom first slots
    pub many : length slots + first ≡ shards
    pub place : me ≡ (record { has = slots; parts = parts }, slots)

  pub one_more : (i shards : ℕ) (parts : List (Part (List O) C A)) (me after : ShardPlace O C A) (has : HasFrom (suc i) shards parts me) → HasTaken i me after → HasFrom i shards parts after
  one_more i shards parts me after has taken =
      let t = subst (λ m. HasTaken i m after) has.place taken in
      record { slots = (i, t.0) ∷ has.slots; are = (refl, has.are); many = omega (arith, has.many); place = t.1 }

  pub all_taken : (shards : ℕ) (before me : ShardPlace O C A) → HasFrom 0 shards before.0.parts me → HasAll shards before me
  all_taken shards before me has = record { slots = has.slots; are = has.are; many = omega (arith, has.many); place = has.place }

  release_by : (number : ℕ) (seen : Logged (List O) C A) (shard : ℕ) (slots : List (ℕ × LoggedShard O C A)) → AreFrom shard slots → 1 ≤ length slots →
      MayRelease shard (holding number seen slots, slots)
  release_by number seen shard [] are some = absurd (omega (arith, some))
  release_by number seen shard (x ∷ xs) are some = record {
    number = number;
    seen = seen;
    was = x.1;
    others = xs;
    place = ap (λ i. (holding number seen ((i, x.1) ∷ xs), (i, x.1) ∷ xs)) are.0;
    single = not_from shard (suc shard) xs are.1 (omega arith);
  }

  pub may_release_one : (shard shards number : ℕ) (seen : Logged (List O) C A) (me : ShardPlace O C A) (has : HasFrom shard shards (part number seen ∷ []) me) → shard < shards → MayRelease shard me
  may_release_one shard shards number seen me has within =
      subst (λ m. MayRelease shard m) (sym has.place) (release_by number seen shard has.slots has.are (omega (arith, within, has.many)))

  fewer_by : (shard shards : ℕ) (parts : List (Part (List O) C A)) (slots : List (ℕ × LoggedShard O C A)) → AreFrom shard slots → length slots + shard ≡ shards → 1 ≤ length slots →
      HasFrom (shard + 1) shards parts (released (record { has = slots; parts = parts }, slots))
  fewer_by shard shards parts [] are many some = absurd (omega (arith, some))
  fewer_by shard shards parts (x ∷ xs) are many some =
      let next : suc shard ≡ shard + 1 = omega arith in
      record { slots = xs; are = subst (λ n. AreFrom n xs) next are.1; many = omega (arith, many); place = refl }

  pub one_fewer : (shard shards : ℕ) (parts : List (Part (List O) C A)) (me after : ShardPlace O C A) (has : HasFrom shard shards parts me) → shard < shards → after ≡ released me →
      HasFrom (shard + 1) shards parts after
  one_fewer shard shards parts me after has within is =
      subst (λ m. HasFrom (shard + 1) shards parts m) (sym (is ∙ ap (λ m. released m) has.place)) (fewer_by shard shards parts has.slots has.are has.many (omega (arith, within, has.many)))

  none_by : (shard shards : ℕ) (slots : List (ℕ × LoggedShard O C A)) → length slots + shard ≡ shards → shards ≤ shard → slots ≡ []
  none_by shard shards [] many all = refl
  none_by shard shards (x ∷ xs) many all = absurd (omega (arith, many, all))

  pub all_released : (shard shards : ℕ) (parts : List (Part (List O) C A)) (me : ShardPlace O C A) (has : HasFrom shard shards parts me) → shards ≤ shard → me ≡ (crew_view parts, [])
  all_released shard shards parts me has all = has.place ∙ ap (λ xs. (record { has = xs; parts = parts }, xs)) (none_by shard shards has.slots has.many all)
