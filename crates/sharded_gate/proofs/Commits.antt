-- A call about one shard, and a call about all, as commits.
use Rattle.std.specs.Prelude.{◌≡◌, ℕ, zero, suc, ◌+◌, ◌<◌, ◌≤◌, true, false, List, [], ◌∷◌, ◌++◌, length, Option, Some, None, slice_set}
use Rattle.std.proofs.Common.{refl, sym, ap, subst, ◌∙◌, inl, inr, eq-eqb, ne_eqb, append_assoc, length-set, arith}
use Rattle.std.proofs.lemmas.Bool.{cases_eq, cases_lt}
use Rattle.std.proofs.lemmas.List.{length-append}
use mathlib.Core.Option as table
use lib.ListN.{get_elem?}
use Rattle.atomic_table.proofs.Lists.{set_here, set_else}
use Rattle.gate.specs.declared.objects.Entry.{Entry}
use Rattle.gate.specs.Logs.{Logged, entry, HasWorked}
use Rattle.gate.specs.Views.{HasSlot, Stand, Commits}
use Rattle.sharded_gate.specs.Shards.{LoggedShard, is_about, calls_about, shard_of, AnswersAlone}
use Rattle.sharded_gate.specs.Hands.{AreFrom, AreTold, objects_of}
use Rattle.sharded_gate.proofs.Shares.{slice_get_by, in_range, at_middle, same_list, one_more_about, one_more_else, IsShard, of_shard, to_shard, same_shard, no_shard}

one_about : (about : Option ℕ) (shard : ℕ) → about ≡ Some shard → is_about about shard ≡ true
one_about about shard one = ap (λ o. is_about o shard) one ∙ eq-eqb shard shard refl

else_about : (about : Option ℕ) (shard other : ℕ) → about ≡ Some shard → (other ≡ shard → ⊥) → is_about about other ≡ false
else_about about shard other one apart = ap (λ o. is_about o other) one ∙ ne_eqb shard other (λ same. apart (sym same))

-- ---- a call about one shard

module _ {O C A : Type 0} (answers : ℕ → List O → C → A → List O → Type 0) (about : ℕ → C → Option ℕ) (shards number : ℕ) (call : C) (answer : A) (shard : ℕ)
    (one : about shards call ≡ Some shard) (was now : LoggedShard O C A) (alone : AnswersAlone answers about number was.object call answer now.object)
    (told : now.log ≡ was.log ++ entry number call answer ∷ []) where
  module _ (whole : Logged (List O) C A) (is : IsShard shards (about shards) whole shard was) where
    abbrev later : Logged (List O) C A
    later = record { first = whole.first; object = slice_set whole.object shard now.object; log = whole.log ++ entry number call answer ∷ [] }

    later_many : length later.object ≡ shards
    later_many = length-set whole.object shard now.object ∙ is.many

    its : IsShard shards (about shards) later shard now
    its = record {
      many = later_many;
      object = set_here whole.object shard now.object (in_range whole.object shard was.object is.object);
      log = one_more_about (about shards) shard whole.log (entry number call answer) (one_about (about shards call) shard one)
          ∙ ap (λ es. es ++ entry number call answer ∷ []) is.log ∙ sym told;
    }

    other_slot : (j : ℕ) → (j ≡ shard → ⊥) → shard_of shards (about shards) later j ≡ shard_of shards (about shards) whole j
    other_slot j apart =
        same_shard shards (about shards) later whole j later_many is.many (set_else whole.object shard j now.object apart)
        (one_more_else (about shards) j whole.log (entry number call answer) (else_about (about shards call) shard j one apart))

    one_works : HasWorked answers number whole later
    one_works = inr (
      call,
      answer,
      record {
        first = refl;
        log = refl;
        answered = alone whole.object shard (slice_get_by whole.object shard was.object is.object) (ap (λ n. about n call) is.many ∙ one);
      },
    )

  pub one_commits : Commits answers (shard_of shards (about shards)) number ((shard, was) ∷ []) ((shard, now) ∷ [])
  one_commits whole stand =
      let is = of_shard shards (about shards) whole shard was stand.0 in (
        later whole is,
        record {
          worked = one_works whole is;
          stand = (to_shard shards (about shards) (later whole is) shard now (its whole is), tt);
          others = λ j out. other_slot whole is j (λ same. out (inl (sym same)));
        },
      )

-- ---- a call about all shards

-- each slot from this one on is here
has_from : {S : Type 0} (n j : ℕ) (xs : List (ℕ × S)) → AreFrom n xs → n ≤ j → j < n + length xs → HasSlot j xs
has_from n j [] are low high = absurd (omega (arith, low, high))
has_from n j (x ∷ xs) are low high = elim (cases_eq j n) [
  | inl same ↦ inl (are.0 ∙ sym same)
  | inr apart ↦ inr (has_from (suc n) j xs are.1 (omega (arith, low, apart)) (omega (arith, high)))
]

pub told_long : {O C A : Type 0} (e : Entry C A) (xs ys : List (ℕ × LoggedShard O C A)) → AreTold e xs ys → length ys ≡ length xs
told_long e [] [] told = refl
told_long e [] (y ∷ ys) told = absurd told
told_long e (x ∷ xs) [] told = absurd told
told_long e (x ∷ xs) (y ∷ ys) told = ap suc (told_long e xs ys told.2)

pub told_from : {O C A : Type 0} (n : ℕ) (e : Entry C A) (xs ys : List (ℕ × LoggedShard O C A)) → AreTold e xs ys → AreFrom n xs → AreFrom n ys
told_from n e [] [] told are = tt
told_from n e [] (y ∷ ys) told are = absurd told
told_from n e (x ∷ xs) [] told are = absurd told
told_from n e (x ∷ xs) (y ∷ ys) told are = (sym told.0 ∙ are.0, told_from (suc n) e xs ys told.2 are.1)

pub objects_long : {O C A : Type 0} (xs : List (ℕ × LoggedShard O C A)) → length (objects_of xs) ≡ length xs
objects_long [] = refl
objects_long (x ∷ xs) = ap suc (objects_long xs)

module _ {O C A : Type 0} (answers : ℕ → List O → C → A → List O → Type 0) (about : ℕ → C → Option ℕ) (shards number : ℕ) (call : C) (answer : A)
    (all : about shards call ≡ None) where
  abbrev its_entry : Entry C A
  its_entry = entry number call answer

  all_about : (j : ℕ) → is_about (about shards call) j ≡ true
  all_about j = ap (λ o. is_about o j) all

  -- the object of a slot is that of the whole
  objects_at : (whole : Logged (List O) C A) (n : ℕ) (xs : List (ℕ × LoggedShard O C A)) → AreFrom n xs → Stand (shard_of shards (about shards)) whole xs → (i : ℕ) (o : O) →
      get_elem? (objects_of xs) i ≡ table.some o → get_elem? whole.object (n + i) ≡ table.some o
  objects_at whole n [] are stand i o at = absurd (table.some-ne-none o (sym at))
  objects_at whole n (x ∷ xs) are stand zero o at =
      let is = of_shard shards (about shards) whole x.0 x.1 stand.0 in
      let place : n + 0 ≡ x.0 = omega (arith, are.0) in
      ap (λ k. get_elem? whole.object k) place ∙ is.object ∙ at
  objects_at whole n (x ∷ xs) are stand (suc i) o at =
      let place : n + suc i ≡ suc n + i = omega arith in
      ap (λ k. get_elem? whole.object k) place ∙ objects_at whole (suc n) xs are.1 stand.1 i o at

  -- the slots of a whole that is behind by the call
  told_stand : (whole later : Logged (List O) C A) (before : List O) (xs ys : List (ℕ × LoggedShard O C A)) → AreFrom (length before) xs → AreTold its_entry xs ys →
      Stand (shard_of shards (about shards)) whole xs → later.object ≡ before ++ objects_of ys → length later.object ≡ shards → later.log ≡ whole.log ++ its_entry ∷ [] →
      Stand (shard_of shards (about shards)) later ys
  told_stand whole later before [] [] are told stand objects many log = tt
  told_stand whole later before [] (y ∷ ys) are told stand objects many log = absurd told
  told_stand whole later before (x ∷ xs) [] are told stand objects many log = absurd told
  told_stand whole later before (x ∷ xs) (y ∷ ys) are told stand objects many log =
      let is = of_shard shards (about shards) whole x.0 x.1 stand.0 in
      let place : y.0 ≡ length before = sym told.0 ∙ are.0 in
      let longer : suc (length before) ≡ length (before ++ y.1.object ∷ []) = sym (length-append before (y.1.object ∷ []) ∙ (let one : length before + 1 ≡ suc (length before) = omega arith in one)) in
      let its : IsShard shards (about shards) later y.0 y.1 = record {
        many = many;
        object = ap (λ os. get_elem? os y.0) objects ∙ ap (λ k. get_elem? (before ++ y.1.object ∷ objects_of ys) k) place ∙ at_middle before y.1.object (objects_of ys);
        log = ap (λ es. calls_about (about shards) y.0 es) log ∙ one_more_about (about shards) y.0 whole.log its_entry (all_about y.0)
            ∙ ap (λ k. calls_about (about shards) k whole.log ++ its_entry ∷ []) (sym told.0) ∙ ap (λ es. es ++ its_entry ∷ []) is.log ∙ sym told.1;
      } in (
        to_shard shards (about shards) later y.0 y.1 its,
        told_stand whole later (before ++ y.1.object ∷ []) xs ys (subst (λ k. AreFrom k xs) longer are.1) told.2 stand.1
            (objects ∙ sym (append_assoc before (y.1.object ∷ []) (objects_of ys))) many log,
      )

  whole_many : (whole : Logged (List O) C A) (xs : List (ℕ × LoggedShard O C A)) → 1 ≤ length xs → Stand (shard_of shards (about shards)) whole xs → length whole.object ≡ shards
  whole_many whole [] some stand = absurd (omega (arith, some))
  whole_many whole (x ∷ xs) some stand = (of_shard shards (about shards) whole x.0 x.1 stand.0).many

  pub all_commits : (xs ys : List (ℕ × LoggedShard O C A)) → AreFrom 0 xs → length xs ≡ shards → 1 ≤ shards → AreTold its_entry xs ys →
      answers number (objects_of xs) call answer (objects_of ys) → Commits answers (shard_of shards (about shards)) number xs ys
  all_commits xs ys are many some told answered whole stand =
      let much = whole_many whole xs (omega (arith, many, some)) stand in
      let found : whole.object ≡ objects_of xs = same_list whole.object (objects_of xs) (much ∙ sym many ∙ sym (objects_long xs))
      (λ i o at. ap (λ k. get_elem? whole.object k) (let same : i ≡ 0 + i = omega arith in same) ∙ objects_at whole 0 xs are stand i o at) in
      let later : Logged (List O) C A = record { first = whole.first; object = objects_of ys; log = whole.log ++ its_entry ∷ [] } in
      let later_many : length later.object ≡ shards = objects_long ys ∙ told_long its_entry xs ys told ∙ many in
      let far : (j : ℕ) → (HasSlot j ys → ⊥) → shards ≤ j = λ j out. elim (cases_lt j shards) [
        | inl low ↦ absurd (out (has_from 0 j ys (told_from 0 its_entry xs ys told are) (omega arith) (omega (arith, low, told_long its_entry xs ys told, many))))
        | inr high ↦ high
      ] in (
        later,
        record {
          worked = inr (call, answer, record { first = refl; log = refl; answered = subst (λ os. answers number os call answer (objects_of ys)) (sym found) answered });
          stand = told_stand whole later [] xs ys are told stand refl later_many refl;
          others = λ j out. no_shard shards (about shards) later j later_many (far j out) ∙ sym (no_shard shards (about shards) whole j much (far j out));
        },
      )
