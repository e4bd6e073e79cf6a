-- What all shards answer to what changes nothing is answered by the whole.
use Rattle.std.proofs.Common.{◌≡◌, inl, inr, ℕ, Bool, List, Option, Some, None, Ok, Err, IsOk, IsSome, option_map, refl, sym, ap, subst, ◌∙◌}
use Rattle.std.specs.FinMap as maps
use Rattle.shared_map.specs.Vocabulary.{HashKind, HandleState, KeyMap, by_key}
use Rattle.ctrie_map.specs.declared.errors.MapError.{MapError}
use Rattle.ctrie_map.specs.declared.errors.MapError.TheVariants as error
use Rattle.ctrie_map.specs.Maps.{MapState, handles_of}
use Rattle.ctrie_map.specs.Reading.{IsOneOf, writability_by}
use Rattle.shared_map.specs.Asks.{told_as}
use Rattle.shared_map.specs.Beneath.proof_core.specs.Reading.{next_of}
use Rattle.shared_map.specs.Picking.{IsPicked}
use Rattle.shared_map.specs.Shards.{AreShards, worlds_of}
use Rattle.shared_map.specs.Uniting.{kind_of, pairs_at, united_at}
use Rattle.shared_map.specs.Wholes.{AnswersIf}
use Rattle.shared_map.specs.declared.asking.Knowing.{Knowing}
use Rattle.shared_map.specs.declared.asks.Answer.TheVariants as answer
use Rattle.shared_map.specs.declared.asks.Ask.TheVariants.{From, First, IsWritable}
use Rattle.shared_map.proofs.AllAnswers as answers
use Rattle.shared_map.proofs.OfShards as shards
use Rattle.shared_map.proofs.United.{entries_at, shown_as}

module _ (first : Knowing) (before : List MapState) where
  -- ---- a part

  module _ (h : ℕ) (cursor : Option ℕ) (room : ℕ) where
    abbrev next : KeyMap → List (ℕ × ℕ)
    next m = next_of cursor room (maps.entries m)

    pub part_told : (part : List (ℕ × ℕ)) (writable : Bool) → first.writable ≡ Ok writable → part ≡ next_of cursor room (by_key (pairs_at h (worlds_of before))) →
        AnswersIf first before (From h cursor room) (Ok (answer.Part part)) before
    part_told part writable opened is hash are knows on = (
      (
        refl,
        inl (ap (λ ps. Ok (answer.Part ps)) (is ∙ ap (next_of cursor room) (entries_at (shards.place hash before are) (worlds_of before) are.own h))
            ∙ sym (ap (told_as answer.Part) (answers.some_reads hash before are first knows h on next writable opened))),
      ),
      are,
    )

    pub part_refused : (why : MapError) (writable : Bool) → first.writable ≡ Ok writable → why ≡ error.Memory → AnswersIf first before (From h cursor room) (Err why) before
    part_refused why writable opened is hash are knows on = (
      (refl, inr (ap Err is, subst IsOk (sym (answers.some_reads hash before are first knows h on next writable opened)) refl)),
      are,
    )

    pub part_closed : (why : MapError) → first.writable ≡ Err why → AnswersIf first before (From h cursor room) (Err error.NoHandle) before
    part_closed why e hash are knows on = ((refl, inl (sym (ap (told_as answer.Part) (answers.none_reads hash before are first knows h on next why e)))), are)

  -- ---- one key

  module _ (h : ℕ) where
    one_of : (hash : HashKind) (are : AreShards hash before) (found : Option (ℕ × ℕ)) → IsPicked h before found → IsOneOf (united_at (worlds_of before) h) found
    one_of hash are None none = ap maps.from_entries none
    one_of hash are (Some pair) (i, s, at, has) =
        shards.value_here hash before are i s at h pair.0 (shards.own_here hash before are i s at h pair.0 (subst IsSome (sym has) refl)) ∙ has

    pub one_told : (found : Option (ℕ × ℕ)) (writable : Bool) → first.writable ≡ Ok writable → IsPicked h before found →
        AnswersIf first before (First h) (Ok (answer.First found)) before
    one_told found writable opened picked hash are knows on = (
      (
        refl,
        (
          Ok found,
          refl,
          (united_at (worlds_of before) h, answers.some_reads hash before are first knows h on (λ m. m) writable opened, one_of hash are found picked),
        ),
      ),
      are,
    )

    pub one_closed : (why : MapError) → first.writable ≡ Err why → AnswersIf first before (First h) (Err error.NoHandle) before
    one_closed why e hash are knows on = (
      (refl, (Err error.NoHandle, refl, answers.none_reads hash before are first knows h on (λ m. m) why e)),
      are,
    )

  -- ---- whether it may be changed

  writable_by_kind : (m : KeyMap) (o : Option HandleState) → writability_by o ≡ writability_by (option_map (shown_as m) (kind_of o))
  writable_by_kind m None = refl
  writable_by_kind m (Some shown) = refl

  pub writable_told : (h : ℕ) → AnswersIf first before (IsWritable h) (told_as answer.Writable first.writable) before
  writable_told h hash are knows on =
      let mine = maps.get (handles_of knows.0) h in
      let same = knows.2.writable ∙ ap (λ k. writability_by (maps.get (handles_of knows.0) k)) on
      ∙ writable_by_kind (united_at (worlds_of before) h) mine ∙ ap writability_by (sym (shards.shown hash before are 0 knows.0 knows.1 h)) in
      ((refl, ap (told_as answer.Writable) same), are)
