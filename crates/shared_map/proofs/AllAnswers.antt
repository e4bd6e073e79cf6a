-- What all shards answer is answered by the whole.
use Rattle.std.proofs.Common.{◌≡◌, inl, inr, ℕ, ◌*◌, ◌≤◌, Bool, true, false}
use Rattle.std.proofs.Common.{◌&&◌, nat_le, if◌then◌else◌, List, [], ◌∷◌, length, map, Option, Some, None, IsSome, Ok, Err, IsOk, option_map}
use Rattle.std.proofs.Common.{refl, sym, ap, ap₂, subst, ◌∙◌, arith, slice_get}
use Rattle.std.specs.FinMap as maps
use Rattle.std.proofs.lemmas.Bool.{true≢false}
use Rattle.std.proofs.lemmas.Option.{same_Some}
use Rattle.shared_map.specs.Vocabulary.{HashKind, Access, Writable, ReadOnly, Call, Reply, HandleMap, HandleState, KeyMap, handle_of, opens_handle, by_key, handle_limit}
use Rattle.history.specs.declared.calls.Call.TheVariants as call
use Rattle.history.specs.declared.replies.Reply.TheVariants as reply
use Rattle.ctrie_map.specs.Changes.{changes_map, denial_among}
use Rattle.ctrie_map.specs.Costs.{work_of_call}
use Rattle.ctrie_map.specs.Denials.{denial_by, is_frozen}
use Rattle.ctrie_map.specs.declared.errors.MapError.{MapError}
use Rattle.ctrie_map.specs.declared.errors.MapError.TheVariants as error
use Rattle.ctrie_map.specs.Maps.{MapState, handles_of}
use Rattle.ctrie_map.specs.Names.{IsNext}
use Rattle.ctrie_map.specs.Reading.{read_of, writability_by}
use Rattle.shared_map.specs.Answering.{AreBegun, CallsAll, ChangesAll, HaveThen, RepliesAll, WorkUpTo}
use Rattle.shared_map.specs.Asking.{IsKnown, denial_from}
use Rattle.shared_map.specs.Asks.{Replied}
use Rattle.shared_map.specs.Shards.{AreShards, IsAnyTight, IsNoneTight, LackSlots, concerned, is_any_worn_out, last_given, world_of_all, worlds_of}
use Rattle.shared_map.specs.Turning.{AreAllowed, HasNext, HaveTurned, IsFree, call_of, last_by, reply_of, turned}
use Rattle.shared_map.specs.Uniting.{AreOfKinds, kind_of, pairs_at, united_at}
use Rattle.shared_map.specs.Wholes.{KnowsFirst, TurnsAll}
use Rattle.shared_map.specs.declared.asking.Knowing.{Knowing}
use Rattle.shared_map.specs.declared.turning.Turn.{Turn}
use Rattle.shared_map.specs.declared.turning.Turn.TheVariants as turn
use Rattle.shared_map.proofs.OfShards as shards
use Rattle.shared_map.proofs.TurnAll as all
use Rattle.shared_map.proofs.United.{count_at, entries_at, len_united, shown_as}

-- ---- why a call isn't begun

denied_so : (writes opens : Bool) (o : Option HandleState) (n : ℕ) → denial_from writes opens (writability_by o) n ≡ denial_by writes opens o n
denied_so true opens None n = refl
denied_so false opens None n = refl
denied_so true opens (Some shown) n = by_access shown.access
  where
    by_access : (a : Access) → denial_from true opens (writability_by (Some (shown_as shown.pairs a))) n ≡ denial_by true opens (Some (shown_as shown.pairs a)) n
    by_access Writable = refl
    by_access ReadOnly = refl
denied_so false opens (Some shown) n = refl

denied_kinds : (writes opens : Bool) (m : KeyMap) (o : Option HandleState) (n : ℕ) →
    denial_by writes opens (option_map (shown_as m) (kind_of o)) n ≡ denial_by writes opens o n
denied_kinds writes opens m None n = refl
denied_kinds writes opens m (Some s) n = refl

pub first_len : (before : List MapState) (s : MapState) → slice_get before 0 ≡ Some s → maps.len (world_of_all before) ≡ maps.len (handles_of s)
first_len [] s at = cc
first_len (x ∷ xs) s at = len_united (handles_of x) (worlds_of xs) ∙ ap (λ s. maps.len (handles_of s)) (same_Some x s at)

pub first_last : (before : List MapState) (s : MapState) → slice_get before 0 ≡ Some s → last_given before ≡ s.names.last
first_last [] s at = cc
first_last (x ∷ xs) s at = ap (λ (s : MapState). s.names.last) (same_Some x s at)

-- what isn't denied is open
record IsAllowed (writes : Bool) (kind : Option Access) : Type 0 where
  pub access : Access
  pub is : kind ≡ Some access
  pub may : writes ≡ true → access ≡ Writable

allowed_by : (writes opens : Bool) (m : KeyMap) (n : ℕ) (kind : Option Access) → denial_by writes opens (option_map (shown_as m) kind) n ≡ None → IsAllowed writes kind
allowed_by writes opens m n None e = cc
allowed_by true opens m n (Some Writable) e = record { access = Writable; is = refl; may = λ _. refl }
allowed_by true opens m n (Some ReadOnly) e = cc
allowed_by false opens m n (Some access) e = record { access = access; is = refl; may = λ e. cc }

not_denied : (writes : Bool) (kind : Option Access) → IsAllowed writes kind → (o : Option HandleState) → kind_of o ≡ kind → denial_by writes false o 0 ≡ None
not_denied writes kind allowed None e = let bad : None ≡ Some allowed.access = e ∙ allowed.is in cc
not_denied true kind allowed (Some shown) e =
    let same : shown.access ≡ Writable = same_Some shown.access allowed.access (e ∙ allowed.is) ∙ allowed.may refl in
    ap (λ a. denial_by true false (Some (shown_as shown.pairs a)) 0) same
not_denied false kind allowed (Some shown) e = refl

module _ (hash : HashKind) (before : List MapState) (are : AreShards hash before) (first : Knowing) (knows : KnowsFirst first before) where
  abbrev world : HandleMap
  world = world_of_all before

  abbrev s : MapState
  s = knows.0

  abbrev known : IsKnown first s
  known = knows.2

  pub denial_is : (writes opens : Bool) (h : ℕ) → first.handle ≡ h → denial_from writes opens first.writable first.handles ≡ denial_by writes opens (maps.get world h) (maps.len world)
  denial_is writes opens h on =
      ap₂ (λ w n. denial_from writes opens w n) known.writable known.handles
      ∙ ap (λ k. denial_from writes opens (writability_by (maps.get (handles_of s) k)) (maps.len (handles_of s))) on
      ∙ denied_so writes opens (maps.get (handles_of s) h) (maps.len (handles_of s))
      ∙ ap (denial_by writes opens (maps.get (handles_of s) h)) (sym (first_len before s knows.1))
      ∙ sym (denied_kinds writes opens (united_at (worlds_of before) h) (maps.get (handles_of s) h) (maps.len world))
      ∙ ap (λ o. denial_by writes opens o (maps.len world)) (sym (shards.shown hash before are 0 s knows.1 h))

  still : (most : ℕ) → WorkUpTo most before before
  still most = (omega arith, omega arith)

  -- ---- what is read

  -- whether it is open
  read_closed : {A : Type 0} (f : KeyMap → A) (m : KeyMap) (o : Option HandleState) (why : MapError) → writability_by o ≡ Err why →
      read_of f (option_map (shown_as m) (kind_of o)) ≡ Err error.NoHandle
  read_closed f m None why e = refl
  read_closed f m (Some shown) why e = cc

  read_open : {A : Type 0} (f : KeyMap → A) (m : KeyMap) (o : Option HandleState) (writable : Bool) → writability_by o ≡ Ok writable →
      read_of f (option_map (shown_as m) (kind_of o)) ≡ Ok (f m)
  read_open f m None writable e = cc
  read_open f m (Some shown) writable e = refl

  module _ (h : ℕ) (on : first.handle ≡ h) where
    abbrev m : KeyMap
    m = united_at (worlds_of before) h

    its : first.writable ≡ writability_by (maps.get (handles_of s) h)
    its = known.writable ∙ ap (λ k. writability_by (maps.get (handles_of s) k)) on

    pub none_reads : {A : Type 0} (f : KeyMap → A) (why : MapError) → first.writable ≡ Err why → read_of f (maps.get world h) ≡ Err error.NoHandle
    none_reads f why e = ap (read_of f) (shards.shown hash before are 0 s knows.1 h) ∙ read_closed f m (maps.get (handles_of s) h) why (sym its ∙ e)

    pub some_reads : {A : Type 0} (f : KeyMap → A) (writable : Bool) → first.writable ≡ Ok writable → read_of f (maps.get world h) ≡ Ok (f m)
    some_reads f writable e = ap (read_of f) (shards.shown hash before are 0 s knows.1 h) ∙ read_open f m (maps.get (handles_of s) h) writable (sym its ∙ e)

    pub lists : (pairs : List (ℕ × ℕ)) (writable : Bool) → first.writable ≡ Ok writable → pairs ≡ by_key (pairs_at h (worlds_of before)) →
        RepliesAll hash before (call.Entries h) (Ok (reply.Pairs pairs)) before
    lists pairs writable e listed = (
      (
        refl,
        inl (ap (λ ps. Ok (reply.Pairs ps)) (listed ∙ entries_at (shards.place hash before are) (worlds_of before) are.own h)
            ∙ sym (some_reads (λ m. reply.Pairs (maps.entries m)) writable e)),
      ),
      still (length before * work_of_call (call.Entries h)),
    )

    pub lists_not : (why : MapError) (writable : Bool) → first.writable ≡ Ok writable → why ≡ error.Memory → RepliesAll hash before (call.Entries h) (Err why) before
    lists_not why writable e is = (
      (refl, inr (ap Err is, subst IsOk (sym (some_reads (λ m. reply.Pairs (maps.entries m)) writable e)) refl)),
      still (length before * work_of_call (call.Entries h)),
    )

    pub counts : (keys : ℕ) (writable : Bool) → first.writable ≡ Ok writable → keys ≡ length (pairs_at h (worlds_of before)) →
        RepliesAll hash before (call.Count h) (Ok (reply.Count keys)) before
    counts keys writable e counted = (
      (
        refl,
        ap (λ n. Ok (reply.Count n)) (counted ∙ count_at (shards.place hash before are) (worlds_of before) are.own h)
            ∙ sym (some_reads (λ m. reply.Count (maps.len m)) writable e),
      ),
      still (length before * work_of_call (call.Count h)),
    )

    pub lists_none : (why : MapError) → first.writable ≡ Err why → RepliesAll hash before (call.Entries h) (Err error.NoHandle) before
    lists_none why e = ((refl, inl (sym (none_reads (λ m. reply.Pairs (maps.entries m)) why e))), still (length before * work_of_call (call.Entries h)))

    pub counts_none : (why : MapError) → first.writable ≡ Err why → RepliesAll hash before (call.Count h) (Err error.NoHandle) before
    counts_none why e = ((refl, sym (none_reads (λ m. reply.Count (maps.len m)) why e)), still (length before * work_of_call (call.Count h)))

  -- ---- a change of all

  -- it isn't begun
  never_worn : (writes opens : Bool) (o : Option HandleState) (n : ℕ) → denial_by writes opens o n ≡ Some error.WornOut → ⊥
  never_worn writes opens None n e = cc
  never_worn writes opens (Some shown) n e = by_tests (writes && is_frozen shown.access) (opens && nat_le handle_limit n) e
    where
      by_tests : (a b : Bool) → (if a then Some error.ReadOnly else (if b then Some error.HandlesFull else None)) ≡ Some error.WornOut → ⊥
      by_tests true b e = cc
      by_tests false true e = cc
      by_tests false false e = cc

  denied_change : (c : Call) (why : MapError) → denial_among world c ≡ Some why → ChangesAll hash before c (Err why) before
  denied_change c error.WornOut e = absurd (never_worn (changes_map c) (opens_handle c) (maps.get world (handle_of c)) (maps.len world) e)
  denied_change c why e = (e, refl)

  allowed_each : (t : Turn) (kinds : ℕ → Option Access) → IsAllowed (changes_map (call_of t)) (kinds (handle_of (call_of t))) →
      ((w : HandleMap) → ((h : ℕ) → kind_of (maps.get w h) ≡ kinds h) → IsFree t w) → (ss : List MapState) → AreOfKinds kinds (worlds_of ss) → AreAllowed t ss
  allowed_each t kinds allowed free [] are = tt
  allowed_each t kinds allowed free (s ∷ ss) are = (
    not_denied (changes_map (call_of t)) (kinds (handle_of (call_of t))) allowed (maps.get (handles_of s) (handle_of (call_of t))) (are.0 (handle_of (call_of t))),
    free (handles_of s) are.0,
    allowed_each t kinds allowed free ss are.1,
  )

  none_kind : (o : Option HandleState) → kind_of o ≡ None → o ≡ None
  none_kind None e = refl
  none_kind (Some s) e = cc

  some_kind : (o p : Option HandleState) → kind_of o ≡ kind_of p → IsSome o → IsSome p
  some_kind None p e some = absurd (true≢false (sym some))
  some_kind (Some s) None e some = cc
  some_kind (Some s) (Some t) e some = refl

  -- the next number of the first is that of the whole
  next_of_all : (n : ℕ) → IsNext s.names.last (handles_of s) n → IsNext (last_given before) world n
  next_of_all n next =
      let alike : (h : ℕ) → kind_of (maps.get (handles_of s) h) ≡ kind_of (maps.get world h) =
      λ h. shards.kind_is hash before are 0 s knows.1 h ∙ sym (shards.kind_in_all hash before are h) in
      subst (λ last. IsNext last world n) (sym (first_last before s knows.1)) (record {
        within = next.within;
        free = none_kind (maps.get world n) (sym (alike n) ∙ ap kind_of next.free);
        others = λ q low passed. some_kind (maps.get (handles_of s) q) (maps.get world q) (alike q) (next.others q low passed);
      })

  free_first : (t : Turn) → HasNext t s → IsFree t (handles_of s)
  free_first (turn.Clear h) next = tt
  free_first (turn.Close h) next = tt
  free_first (turn.Copy h n access) next = (next.within, next.free)

  free_each : (t : Turn) → IsFree t (handles_of s) → (w : HandleMap) → ((h : ℕ) → kind_of (maps.get w h) ≡ are.kinds h) → IsFree t w
  free_each (turn.Clear h) free w kinds = tt
  free_each (turn.Close h) free w kinds = tt
  free_each (turn.Copy h n access) free w kinds =
      (free.0, none_kind (maps.get w n) (kinds n ∙ sym (shards.kind_is hash before are 0 s knows.1 n) ∙ ap kind_of free.1))

  concerns_all : (t : Turn) → concerned hash (call_of t) before ≡ before
  concerns_all (turn.Clear h) = refl
  concerns_all (turn.Close h) = refl
  concerns_all (turn.Copy h n Writable) = refl
  concerns_all (turn.Copy h n ReadOnly) = refl

  pub many_lack : (c : Call) (ss : List MapState) → 2 ≤ length ss → IsAnyTight c ss → LackSlots c ss
  many_lack c [] many tight = absurd (omega (arith, many))
  many_lack c (s ∷ []) many tight = absurd (omega (arith, many))
  many_lack c (s ∷ t ∷ ss) many tight = tight

  pub many_have : (c : Call) (ss : List MapState) → 2 ≤ length ss → ¬ IsAnyTight c ss → IsNoneTight c ss
  many_have c [] many none = absurd (omega (arith, many))
  many_have c (s ∷ []) many none = absurd (omega (arith, many))
  many_have c (s ∷ t ∷ ss) many none = none

  calls_are : (t : Turn) (told : Replied) (after : List MapState) → ChangesAll hash before (call_of t) told after → CallsAll hash before (call_of t) told after
  calls_are (turn.Clear h) told after p = p
  calls_are (turn.Close h) told after p = p
  calls_are (turn.Copy h n Writable) told after p = p
  calls_are (turn.Copy h n ReadOnly) told after p = p

  pub denies : (t : Turn) (why : MapError) → first.handle ≡ handle_of (call_of t) →
      denial_from (changes_map (call_of t)) (opens_handle (call_of t)) first.writable first.handles ≡ Some why →
      RepliesAll hash before (call_of t) (Err why) before × AreShards hash before
  denies t why on e = (
    (
      calls_are t (Err why) before
          (denied_change (call_of t) why (sym (denial_is (changes_map (call_of t)) (opens_handle (call_of t)) (handle_of (call_of t)) on) ∙ e)),
      still (length (concerned hash (call_of t) before) * work_of_call (call_of t)),
    ),
    are,
  )

  module _ (t : Turn) (none : denial_among world (call_of t) ≡ None) (has_next : HasNext t s) (many : 2 ≤ length before) (after : List MapState) where
    abbrev h : ℕ
    h = handle_of (call_of t)

    allowed : IsAllowed (changes_map (call_of t)) (are.kinds h)
    allowed =
        allowed_by (changes_map (call_of t)) (opens_handle (call_of t)) (united_at (worlds_of before) h) (maps.len world) (are.kinds h)
        (ap (λ o. denial_by (changes_map (call_of t)) (opens_handle (call_of t)) o (maps.len world)) (sym (shards.shown_in_all hash before are h)) ∙ none)

    are_allowed : AreAllowed t before
    are_allowed = allowed_each t are.kinds allowed (free_each t (free_first t has_next)) before are.alike

    does : HaveTurned t before after → all.Does hash before after are t
    does have = by_turn t (free_first t has_next) allowed have
      where
        by_turn : (t : Turn) → IsFree t (handles_of s) → IsAllowed (changes_map (call_of t)) (are.kinds (handle_of (call_of t))) → HaveTurned t before after →
            all.Does hash before after are t
        by_turn (turn.Clear h) free allowed have = all.clear_does hash before after are h have (allowed.is ∙ ap Some (allowed.may refl))
        by_turn (turn.Close h) free allowed have = all.close_does hash before after are h have allowed.access allowed.is
        by_turn (turn.Copy h n Writable) free allowed have =
            all.copy_does hash before after are h n Writable have allowed.access allowed.is (sym (shards.kind_is hash before are 0 s knows.1 n) ∙ ap kind_of free.1)
        by_turn (turn.Copy h n ReadOnly) free allowed have =
            all.copy_does hash before after are h n ReadOnly have allowed.access allowed.is (sym (shards.kind_is hash before are 0 s knows.1 n) ∙ ap kind_of free.1)

    became : (t : Turn) → HaveTurned t before after → (next : HandleMap) → world_of_all after ≡ next → HaveThen before next (last_by t (last_given before)) after
    became t have next there = (
      all.become_limits (turned t) (last_by t) (work_of_call (call_of t)) before after have,
      all.become_last (turned t) (last_by t) (work_of_call (call_of t)) before after are.some have,
      there,
    )

    worn_is : (b : Bool) → is_any_worn_out before ≡ b → is_any_worn_out (concerned hash (call_of t) before) ≡ b
    worn_is b e = ap is_any_worn_out (concerns_all t) ∙ e

    replied : (answer : Reply) → answer ≡ reply_of t → is_any_worn_out before ≡ false → ¬ IsAnyTight (call_of t) before → all.Does hash before after are t → HaveTurned t before after →
        ChangesAll hash before (call_of t) (Ok answer) after
    replied answer is life roomy d have =
        subst (λ a. ChangesAll hash before (call_of t) (Ok a) after) (sym is) (by_turn t d has_next (none, worn_is false life)
        (subst (IsNoneTight (call_of t)) (sym (concerns_all t)) (many_have (call_of t) before many roomy)) have)
      where
        by_turn : (t : Turn) → (d : all.Does hash before after are t) → HasNext t s → AreBegun hash before (call_of t) →
            IsNoneTight (call_of t) (concerned hash (call_of t) before) → HaveTurned t before after → ChangesAll hash before (call_of t) (Ok (reply_of t)) after
        by_turn (turn.Clear h) d next begun roomy have = (begun, roomy, (None, d.next, d.effect, became (turn.Clear h) have d.next d.there))
        by_turn (turn.Close h) d next begun roomy have = (begun, roomy, (None, d.next, d.effect, became (turn.Close h) have d.next d.there))
        by_turn (turn.Copy h n access) d next begun roomy have =
            (begun, roomy, (next_of_all n next, (d.next, d.effect, became (turn.Copy h n access) have d.next d.there)))

    works_as : WorkUpTo (length before * work_of_call (call_of t)) before after → WorkUpTo (length (concerned hash (call_of t) before) * work_of_call (call_of t)) before after
    works_as works = subst (λ (xs : List MapState). WorkUpTo (length xs * work_of_call (call_of t)) before after) (sym (concerns_all t)) works

    abbrev Whole : Replied → Type 0
    Whole told = RepliesAll hash before (call_of t) told after × AreShards hash after

    unchanged : (told : Replied) → after ≡ before → ChangesAll hash before (call_of t) told after → Whole told
    unchanged told same p = (
      (calls_are t told after p, works_as (subst (WorkUpTo (length before * work_of_call (call_of t)) before) (sym same) (still (length before * work_of_call (call_of t))))),
      subst (AreShards hash) (sym same) are,
    )

    lacks : is_any_worn_out before ≡ false → IsAnyTight (call_of t) before → after ≡ before → ChangesAll hash before (call_of t) (Ok reply.NoSlots) after
    lacks life tight same = (
      (none, worn_is false life),
      subst (LackSlots (call_of t)) (sym (concerns_all t)) (many_lack (call_of t) before many tight),
      (ap (map (λ (s : MapState). s.core.limits)) same, ap last_given same, ap world_of_all same),
    )

    done : (answer : Reply) → is_any_worn_out before ≡ false → ¬ IsAnyTight (call_of t) before → answer ≡ reply_of t → (AreAllowed t before → HaveTurned t before after) → Whole (Ok answer)
    done answer life roomy is turns =
        let have = turns are_allowed in
        let d = does have in
        ((calls_are t (Ok answer) after (replied answer is life roomy d have), works_as (all.become_works (turned t) (last_by t) (work_of_call (call_of t)) before after have)), d.shards_are)

    pub turns_answer : (told : Replied) → TurnsAll t before told after → Whole told
    turns_answer (Err error.WornOut) p = unchanged (Err error.WornOut) p.1 (none, worn_is true p.0, p.1)
    turns_answer (Err why) p = absurd p
    turns_answer (Ok reply.NoSlots) p = unchanged (Ok reply.NoSlots) p.2 (lacks p.0 p.1 p.2)
    turns_answer (Ok answer) p = done answer p.0 p.1 p.2 p.3
