-- What each branch of a call about all shards comes to.
use Rattle.std.proofs.Common.{◌≡◌, ℕ, ◌<◌, ◌≤◌, Bool, true, false, List, [], ◌∷◌}
use Rattle.std.proofs.Common.{length, Some, None, Ok, Err, refl, sym, subst, ◌∙◌}
use Rattle.shared_map.specs.Vocabulary.{Access, Writable, ReadOnly, Call, Reply, handle_of, opens_handle, by_key}
use Rattle.history.specs.declared.calls.Call.TheVariants as call
use Rattle.history.specs.declared.replies.Reply.TheVariants as reply
use Rattle.ctrie_map.specs.Changes.{changes_map}
use Rattle.ctrie_map.specs.declared.errors.MapError.{MapError}
use Rattle.ctrie_map.specs.declared.errors.MapError.TheVariants as error
use Rattle.ctrie_map.specs.Maps.{MapState}
use Rattle.ctrie_map.specs.Performing.{copy_call}
use Rattle.shared_map.specs.Answering.{RepliesAll}
use Rattle.shared_map.specs.Asking.{IsKnown, IsNumber, denial_from}
use Rattle.shared_map.specs.Asks.{Replied}
use Rattle.shared_map.specs.Shards.{AreShards, IsAnyTight, is_any_worn_out, worlds_of}
use Rattle.shared_map.specs.Turning.{AreAllowed, HasNext, HaveTurned, Turns, call_of, reply_of}
use Rattle.shared_map.specs.Uniting.{pairs_at}
use Rattle.shared_map.specs.Visits.{VisitedEach}
use Rattle.shared_map.specs.Wholes.{RepliesIf, IsCalledAlone, TurnsAll}
use Rattle.shared_map.specs.declared.asking.Knowing.{Knowing}
use Rattle.shared_map.specs.declared.turning.Turn.{Turn}
use Rattle.shared_map.specs.declared.turning.Turn.TheVariants as turn
use Rattle.shared_map.specs.declared.turning.Turning.{Turning}
use Rattle.shared_map.proofs.AllAnswers as answers
use Rattle.shared_map.proofs.Counted.{is_any_tight}
use Rattle.shared_map.proofs.OneShard.{one_answers}
use Rattle.shared_map.proofs.Turns.{none_tight, turns_done}

-- ---- the parts

pub turns_ok : (t : Turn) (before after : List MapState) (answer : Reply) → answer ≡ reply_of t → is_any_worn_out before ≡ false → is_any_tight (call_of t) before ≡ false →
    (AreAllowed t before → HaveTurned t before after) → TurnsAll t before (Ok answer) after
turns_ok t before after answer is life roomy have = subst (λ a. TurnsAll t before (Ok a) after) (sym is) (by_turn t (none_tight (call_of t) before roomy) have)
  where
    by_turn : (t : Turn) → ¬ IsAnyTight (call_of t) before → (AreAllowed t before → HaveTurned t before after) → TurnsAll t before (Ok (reply_of t)) after
    by_turn (turn.Clear h) none have = (life, none, refl, have)
    by_turn (turn.Close h) none have = (life, none, refl, have)
    by_turn (turn.Copy h n access) none have = (life, none, refl, have)

pub turned_from : (t : Turn) (v u : Turning) (before mid after : List MapState) → mid ≡ before → v.turn ≡ t → VisitedEach Turns v mid u after →
    is_any_worn_out before ≡ false → is_any_tight (call_of t) before ≡ false → AreAllowed t before → HaveTurned t before after
turned_from t v u before mid after same is each worn tight allowed =
    turns_done t v u before after is (subst (λ xs. VisitedEach Turns v xs u after) same each) worn tight allowed

-- ---- the calls

module _ (first : Knowing) (before : List MapState) where
  pub if_alone : (c : Call) (told : Replied) (after : List MapState) → IsCalledAlone c before told after → RepliesIf first before c told after
  if_alone c told after (s, t, is, next, calls, full, works) hash are knows on none =
      let hashed : AreShards hash (s ∷ []) = subst (AreShards hash) is are in
      let whole : RepliesAll hash (s ∷ []) c told (t ∷ []) × AreShards hash (t ∷ []) = one_answers hash s t hashed.hashed.0 c told none calls full works in (
        subst (λ xs. RepliesAll hash xs c told after) (sym is) (subst (λ ys. RepliesAll hash (s ∷ []) c told ys) (sym next) whole.0),
        subst (AreShards hash) (sym next) whole.1,
      )

  pub if_denied : (t : Turn) (why : MapError) → denial_from (changes_map (call_of t)) (opens_handle (call_of t)) first.writable first.handles ≡ Some why →
      RepliesIf first before (call_of t) (Err why) before
  if_denied t why e hash are knows on none = answers.denies hash before are first knows t why on e

  pub if_turned : (t : Turn) (told : Replied) (after : List MapState) → 1 < length before →
      denial_from (changes_map (call_of t)) (opens_handle (call_of t)) first.writable first.handles ≡ None →
      ((s : MapState) → IsKnown first s → HasNext t s) → TurnsAll t before told after → RepliesIf first before (call_of t) told after
  if_turned t told after many allowed next turns hash are knows on none =
      answers.turns_answer hash before are first knows t
      (sym (answers.denial_is hash before are first knows (changes_map (call_of t)) (opens_handle (call_of t)) (handle_of (call_of t)) on) ∙ allowed)
      (next knows.0 knows.2) many after told turns

  -- copies, of either kind
  pub copy_denied : (access : Access) (h : ℕ) (why : MapError) → denial_from false true first.writable first.handles ≡ Some why →
      RepliesIf first before (copy_call access h) (Err why) before
  copy_denied Writable h why e = if_denied (turn.Copy h 0 Writable) why e
  copy_denied ReadOnly h why e = if_denied (turn.Copy h 0 ReadOnly) why e

  pub number_next : (h n : ℕ) (access : Access) → first.next ≡ Some n → (s : MapState) → IsKnown first s → HasNext (turn.Copy h n access) s
  number_next h n access is s known = subst (IsNumber s) is known.next

  -- lists and counts
  pub if_listed : (h : ℕ) (pairs : List (ℕ × ℕ)) (writable : Bool) → first.writable ≡ Ok writable → pairs ≡ by_key (pairs_at h (worlds_of before)) →
      RepliesIf first before (call.Entries h) (Ok (reply.Pairs pairs)) before
  if_listed h pairs writable e listed hash are knows on none = (answers.lists hash before are first knows h on pairs writable e listed, are)

  pub if_no_memory : (h : ℕ) (why : MapError) (writable : Bool) → first.writable ≡ Ok writable → why ≡ error.Memory → RepliesIf first before (call.Entries h) (Err why) before
  if_no_memory h why writable e is hash are knows on none = (answers.lists_not hash before are first knows h on why writable e is, are)

  pub if_counted : (h keys : ℕ) (writable : Bool) → first.writable ≡ Ok writable → (length before ≤ 64 → keys ≡ length (pairs_at h (worlds_of before))) →
      RepliesIf first before (call.Count h) (Ok (reply.Count keys)) before
  if_counted h keys writable e counted hash are knows on none = (answers.counts hash before are first knows h on keys writable e (counted are.few), are)

  pub not_listed : (h : ℕ) (why : MapError) → first.writable ≡ Err why → RepliesIf first before (call.Entries h) (Err error.NoHandle) before
  not_listed h why e hash are knows on none = (answers.lists_none hash before are first knows h on why e, are)

  pub not_counted : (h : ℕ) (why : MapError) → first.writable ≡ Err why → RepliesIf first before (call.Count h) (Err error.NoHandle) before
  not_counted h why e hash are knows on none = (answers.counts_none hash before are first knows h on why e, are)
