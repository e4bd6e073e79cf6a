-- A call on one key, which its shard answers, is answered so by the whole.
use Rattle.std.proofs.Common.{◌≡◌, ◌≢◌, inl, inr, ℕ, ◌*◌, Bool, true, false}
use Rattle.std.proofs.Common.{◌||◌, List, [], ◌∷◌, length, Option, Some, None, IsSome, option_and_then, option_map, option_to_list}
use Rattle.std.proofs.Common.{Ok, Err, refl, sym, ap, subst, ◌∙◌, slice_get, slice_set, one-mul}
use Rattle.std.specs.FinMap as maps
use Rattle.std.proofs.lemmas.Bool.{cases_eq}
use Rattle.std.proofs.lemmas.Option.{same_Some}
use Rattle.shared_map.specs.Vocabulary.{hash_of, HashKind, Writable, Call, Reply, changing, naming, put_if_absent_in, remove_if_in, remove_in, replace_if_in, replace_in, with_access, HandleMap}
use Rattle.shared_map.specs.Vocabulary.{KeyMap, handle_of, opens_handle}
use Rattle.history.specs.declared.calls.Call.TheVariants as call
use Rattle.history.specs.declared.replies.Reply.TheVariants as reply
use Rattle.history.specs.Effects.{put_in}
use Rattle.ctrie_map.specs.Calling.{Calls}
use Rattle.ctrie_map.specs.Changes.{changes_map, denial_among, denial_in}
use Rattle.ctrie_map.specs.Cores.{is_worn_out}
use Rattle.ctrie_map.specs.Costs.{WorksUpTo, work_of_call}
use Rattle.ctrie_map.specs.Denials.{denial_by}
use Rattle.ctrie_map.specs.Maps.{MapState, handles_of}
use Rattle.ctrie_map.specs.Performing.{Answers, IsBegun, Performs, effect_among}
use Rattle.ctrie_map.specs.declared.errors.MapError.{MapError}
use Rattle.ctrie_map.specs.declared.errors.MapError.TheVariants.{WornOut}
use Rattle.ctrie_map.proofs.ByName.{opens_none}
use Rattle.ctrie_map.proofs.Changing.{says}
use Rattle.ctrie_map.proofs.Named.{at_other, at_same}
use Rattle.shared_map.specs.Answering.{AreBegun, ChangesAll, RepliesAll, WorkUpTo}
use Rattle.shared_map.specs.Asking.{TellsFull}
use Rattle.shared_map.specs.Asks.{Replied, key_in, place_of, shard_of}
use Rattle.shared_map.specs.Shards.{AreShards, IsNoneTight, LackSlots, concerned, is_any_worn_out, those_at, world_of_all}
use Rattle.shared_map.specs.Uniting.{kind_of, united, united_at, value_at, value_of}
use Rattle.shared_map.proofs.KeyChanges.{Acts, puts, puts_if_absent, removes, removes_if, replaces, replaces_if}
use Rattle.shared_map.proofs.OfShards as shards
use Rattle.shared_map.proofs.Turned.{kinds_set, names_now, stay_set, united_set}
use Rattle.shared_map.proofs.United.{shown_as}

or_false : (b : Bool) → (b || false) ≡ b
or_false true = refl
or_false false = refl

changing_there : (w : HandleMap) (h : ℕ) (m : KeyMap) (f : KeyMap → Reply × KeyMap) → maps.get w h ≡ Some (shown_as m Writable) →
    changing w h f ≡ Some ((f m).0, naming w h Writable (f m).1)
changing_there w h m f at =
    ap (λ s. option_and_then (λ m. Some ((f m).0, naming w h Writable (f m).1)) (option_and_then (λ s. with_access Writable s.access s.pairs) s)) at

module _ (hash : HashKind) (before : List MapState) (are : AreShards hash before) (i : ℕ) (s t : MapState) (at : slice_get before i ≡ Some s)
    (k : ℕ) (here : place_of hash (length before) k ≡ i) where
  abbrev place : ℕ → ℕ
  place = place_of hash (length before)

  abbrev world : HandleMap
  world = world_of_all before

  abbrev mine : HandleMap
  mine = handles_of s

  abbrev all_at : ℕ → KeyMap
  all_at h = united_at (shards.worlds hash before are) h

  abbrev next : List MapState
  next = slice_set before i t

  abbrev AreNext : Type 0
  AreNext = AreShards hash next

  -- ---- a change of the handle's map

  -- it does in the shard's map what it does in that of all
  abbrev ActsAlike : (KeyMap → Reply × KeyMap) → Type 0
  ActsAlike f =
      (all own : KeyMap) (alike : (q : ℕ) → place q ≡ i → maps.get all q ≡ maps.get own q) →
      Acts (hash_of hash) place (λ q k e. ap (shard_of (length before)) e) i k here all own alike (f all) (f own)

  -- what becomes of the whole
  record Turned (f : KeyMap → Reply × KeyMap) (h : ℕ) (answer : Reply) : Type 0 where
    pub last : HandleMap
    pub effect : changing world h f ≡ Some (answer, last)
    pub there : world_of_all next ≡ last
    pub shards_are : AreNext

  module _ (h : ℕ) (f : KeyMap → Reply × KeyMap) (alike : ActsAlike f) (limits : t.core.limits ≡ s.core.limits) where
    module _ (m : KeyMap) (there : maps.get mine h ≡ Some (shown_as m Writable)) (is : handles_of t ≡ naming mine h Writable (f m).1) where
      value_is : (q : ℕ) → value_at mine h q ≡ maps.get m q
      value_is q = ap (value_of q) there

      acts : Acts (hash_of hash) place (λ q k e. ap (shard_of (length before)) e) i k here (all_at h) m
          (λ q e. shards.value_here hash before are i s at h q e ∙ value_is q) (f (all_at h)) (f m)
      acts = alike (all_at h) m (λ q e. shards.value_here hash before are i s at h q e ∙ value_is q)

      now_at : maps.get (handles_of t) h ≡ Some (shown_as (f m).1 Writable)
      now_at = ap (λ w. maps.get w h) is ∙ at_same mine h (shown_as (f m).1 Writable)

      now_other : (g : ℕ) → g ≢ h → maps.get (handles_of t) g ≡ maps.get mine g
      now_other g apart = ap (λ w. maps.get w g) is ∙ at_other mine h (shown_as (f m).1 Writable) g apart

      kind_at : are.kinds h ≡ Some Writable
      kind_at = sym (shards.kind_is hash before are i s at h) ∙ ap kind_of there

      kinds_stay : (g : ℕ) → kind_of (maps.get (handles_of t) g) ≡ are.kinds g
      kinds_stay g = elim (cases_eq g h) [
        | inl same ↦ ap (λ g. kind_of (maps.get (handles_of t) g)) same ∙ ap kind_of now_at ∙ sym kind_at ∙ ap are.kinds (sym same)
        | inr apart ↦ ap kind_of (now_other g apart) ∙ shards.kind_is hash before are i s at g
      ]

      -- what has a value has its place here
      own_stays : (g q : ℕ) → IsSome (value_at (handles_of t) g q) → place q ≡ i
      own_stays g q some = elim (cases_eq g h) [
        | inl same ↦ by_place (ap (λ g. value_at (handles_of t) g q) same ∙ ap (value_of q) now_at)
        | inr apart ↦ shards.own_here hash before are i s at g q (subst IsSome (ap (value_of q) (now_other g apart)) some)
      ]
        where
          by_place : value_at (handles_of t) g q ≡ maps.get (f m).1 q → place q ≡ i
          by_place e = elim (cases_eq (place q) i) [
            | inl same ↦ same
            | inr apart ↦ absurd (apart (shards.own_here hash before are i s at h q
                (subst IsSome (e ∙ acts.follows.own_stay q apart ∙ sym (value_is q)) some)))
          ]

      turned : Turned f h (f m).0
      turned = record {
        last = naming world h Writable (f (all_at h)).1;
        effect = changing_there world h (all_at h) f (shards.shown hash before are i s at h ∙ ap (λ o. option_map (shown_as (all_at h)) (kind_of o)) there)
            ∙ ap (λ r. Some (r, naming world h Writable (f (all_at h)).1)) acts.told;
        there = ap united (shards.worlds_after hash before are i s at t)
            ∙ names_now are.kinds are.kinds (shards.worlds hash before are) (slice_set (shards.worlds hash before are) i (handles_of t))
            (shards.any hash before are) (shards.any_after hash before are i s at t) are.alike
            (kinds_set are.kinds (shards.worlds hash before are) i (handles_of t) are.alike kinds_stay) h (λ g apart. refl)
            (λ g apart. stay_set g (shards.worlds hash before are) i mine (handles_of t) (shards.world_at hash before are i s at) (now_other g apart)) Writable
            (f (all_at h)).1 kind_at
            (united_set place (shards.worlds hash before are) are.own (shards.within hash before are) i (shards.low hash before are i s at) (handles_of t) own_stays h
            (f (all_at h)).1 (λ q e. acts.follows.same q e ∙ sym (ap (value_of q) now_at)) (λ q apart. acts.follows.others_stay q apart));
        shards_are = shards.shards_after hash before are i s at t limits kinds_stay own_stays;
      }

    -- of a change that has an effect in the shard
    turned_by : (answer : Reply) (later : HandleMap) → changing mine h f ≡ Some (answer, later) → handles_of t ≡ later → Turned f h answer
    turned_by answer later e there =
        let (m, at_m, told, to) = says mine h f answer later e in subst (Turned f h) (sym told) (turned m at_m (there ∙ to))

  -- ---- a call that may change it

  -- this call is about the shard
  module _ (c : Call) (h : ℕ) (f : KeyMap → Reply × KeyMap) (about : key_in c ≡ Some k) (on : handle_of c ≡ h) (writes : changes_map c ≡ true) (closed : opens_handle c ≡ false)
      (opens : (m : KeyMap) (copy : ℕ) → (f m).0 ≢ reply.Opened copy) (does : (w : HandleMap) (o : Option ℕ) → effect_among (hash_of hash) w c o ≡ changing w h f) (alike : ActsAlike f) where
    concerns : concerned hash c before ≡ s ∷ []
    concerns =
        ap (λ o. those_at (option_map place o) before) about ∙ ap (λ n. option_to_list (slice_get before n)) here ∙ ap option_to_list at

    same_denial : denial_among world c ≡ denial_in s c
    same_denial =
        ap (λ b. denial_by (changes_map c) b (maps.get world (handle_of c)) (maps.len world)) closed
        ∙ shards.denial_alike hash before are i s at (changes_map c) (handle_of c) (maps.len mine) (maps.len world)
        ∙ ap (λ b. denial_by (changes_map c) b (maps.get mine (handle_of c)) (maps.len mine)) (sym closed)

    worn_as : is_any_worn_out (concerned hash c before) ≡ is_worn_out s.core
    worn_as = ap is_any_worn_out concerns ∙ or_false (is_worn_out s.core)

    begun : denial_in s c ≡ None → is_worn_out s.core ≡ false → AreBegun hash before c
    begun none life = (same_denial ∙ none, worn_as ∙ life)

    abbrev Comes : Replied → Type 0
    Comes told = ChangesAll hash before c told next × AreNext

    effect_here : (o : Option ℕ) (answer : Reply) (last : HandleMap) → effect_among (hash_of s.core.limits.hash) mine c o ≡ Some (answer, last) →
        effect_among (hash_of hash) mine c o ≡ Some (answer, last)
    effect_here o answer last e = ap (λ k. effect_among (hash_of k) mine c o) (sym (shards.hash_is hash before are i s at)) ∙ e

    by_reply : (answer : Reply) → TellsFull s c (Ok answer) → IsBegun s c → Answers s c answer t → Comes (Ok answer)
    by_reply reply.NoSlots full b p = (
      (
        begun b.0 b.1,
        subst (LackSlots c) (sym concerns) p.0,
        (
          shards.limits_after hash before are i s at t p.1.0,
          shards.last_after hash before are i s at t p.1.1,
          shards.world_stays hash before are i s at t p.1.2,
        ),
      ),
      shards.shards_stay hash before are i s at t p.1.0 p.1.2,
    )
    by_reply (reply.Opened copy) full b (number, (last, e, has)) =
        let (m, there, told, to) = says mine h f (reply.Opened copy) last (sym (does mine (Some copy)) ∙ effect_here (Some copy) (reply.Opened copy) last e) in
        absurd (opens m copy (sym told))
    by_reply answer full b p =
        let turns = turned_by h f alike p.3.0 answer p.1 (sym (does mine p.0) ∙ effect_here p.0 answer p.1 p.2) p.3.2 in (
          (
            begun b.0 b.1,
            subst (IsNoneTight c) (sym concerns) (λ f. let e = full f in cc),
            (
              p.0,
              turns.last,
              does world p.0 ∙ turns.effect,
              (
                shards.limits_after hash before are i s at t p.3.0,
                shards.last_after hash before are i s at t p.3.1,
                turns.there,
              ),
            ),
          ),
          turns.shards_are,
        )

    unchanged : t ≡ s → AreNext
    unchanged same = subst (AreShards hash) (sym (shards.same_after hash before are i s at t same)) are

    by_error : (error : MapError) → Performs (Err error) s c t → Comes (Err error)
    by_error WornOut p = ((same_denial ∙ p.0, worn_as ∙ p.1, shards.same_after hash before are i s at t p.2), unchanged p.2)
    by_error error p = ((same_denial ∙ p.0, shards.same_after hash before are i s at t p.1), unchanged p.1)

    changes_so : (told : Replied) → TellsFull s c told → Performs told s c t → Comes told
    changes_so (Ok answer) full p = by_reply answer full p.0 p.1
    changes_so (Err error) full p = by_error error p

    works_so : WorksUpTo (work_of_call c) s t → WorkUpTo (length (concerned hash c before) * work_of_call c) before next
    works_so works =
        subst (λ n. WorkUpTo n before next) (sym (ap (λ (xs : List MapState). length xs * work_of_call c) concerns ∙ one-mul (work_of_call c)))
        (shards.works_after hash before are i s at t (work_of_call c) works)

    pub answers_so : (told : Replied) → Performs told s c t → TellsFull s c told → WorksUpTo (work_of_call c) s t →
        (ChangesAll hash before c told next × WorkUpTo (length (concerned hash c before) * work_of_call c) before next) × AreNext
    answers_so told p full works = let comes = changes_so told full p in ((comes.0, works_so works), comes.1)

  -- ---- each call on one key

  abbrev pub Whole : Call → Replied → Type 0
  Whole c told = RepliesAll hash before c told next × AreNext

  reads : (h : ℕ) (told : Replied) → Calls told s (call.Get h k) t → WorksUpTo (work_of_call (call.Get h k)) s t → Whole (call.Get h k) told
  reads h told p works = (
    (
      (
        shards.same_after hash before are i s at t p.0,
        p.1 ∙ shards.read_alike hash before are i s at h (λ m. reply.Found (maps.get m k))
            (λ m is. ap reply.Found (sym (shards.value_here hash before are i s at h k here ∙ ap (value_of k) is))),
      ),
      subst (λ n. WorkUpTo n before next) (sym (ap (λ (xs : List MapState). length xs * work_of_call (call.Get h k)) concerns_get ∙ one-mul (work_of_call (call.Get h k))))
          (shards.works_after hash before are i s at t (work_of_call (call.Get h k)) works),
    ),
    subst (AreShards hash) (sym (shards.same_after hash before are i s at t p.0)) are,
  )
    where
      concerns_get : concerned hash (call.Get h k) before ≡ s ∷ []
      concerns_get = ap (λ n. option_to_list (slice_get before n)) here ∙ ap option_to_list at

  pub key_call_answers : (c : Call) → key_in c ≡ Some k → (told : Replied) → Calls told s c t → TellsFull s c told → WorksUpTo (work_of_call c) s t → Whole c told
  key_call_answers (call.Get h q) e told p full works =
      let same : q ≡ k = same_Some q k e in
      subst (λ k. Whole (call.Get h k) told) (sym same) (reads h told (subst (λ k. Calls told s (call.Get h k) t) same p) works)
  key_call_answers (call.Put h q v) e told p full works =
      let same : q ≡ k = same_Some q k e in
      answers_so (call.Put h q v) h (λ m. put_in (hash_of hash) m q v) e refl refl refl (opens_none (hash_of hash) (call.Put h q v)) (λ w o. refl)
      (subst (λ q. ActsAlike (λ m. put_in (hash_of hash) m q v)) (sym same)
      (λ all own alike. puts (hash_of hash) place (λ q k e. ap (shard_of (length before)) e) i k here all own alike v)) told p full works
  key_call_answers (call.PutIfAbsent h q v) e told p full works =
      let same : q ≡ k = same_Some q k e in
      answers_so (call.PutIfAbsent h q v) h (λ m. put_if_absent_in (hash_of hash) m q v) e refl refl refl (opens_none (hash_of hash) (call.PutIfAbsent h q v)) (λ w o. refl)
      (subst (λ q. ActsAlike (λ m. put_if_absent_in (hash_of hash) m q v)) (sym same)
      (λ all own alike. puts_if_absent (hash_of hash) place (λ q k e. ap (shard_of (length before)) e) i k here all own alike v)) told p full works
  key_call_answers (call.Replace h q v) e told p full works =
      let same : q ≡ k = same_Some q k e in
      answers_so (call.Replace h q v) h (λ m. replace_in m q v) e refl refl refl (opens_none (hash_of hash) (call.Replace h q v)) (λ w o. refl)
      (subst (λ q. ActsAlike (λ m. replace_in m q v)) (sym same)
      (λ all own alike. replaces (hash_of hash) place (λ q k e. ap (shard_of (length before)) e) i k here all own alike v)) told p full works
  key_call_answers (call.ReplaceIf h q a b) e told p full works =
      let same : q ≡ k = same_Some q k e in
      answers_so (call.ReplaceIf h q a b) h (λ m. replace_if_in m q a b) e refl refl refl (opens_none (hash_of hash) (call.ReplaceIf h q a b)) (λ w o. refl)
      (subst (λ q. ActsAlike (λ m. replace_if_in m q a b)) (sym same)
      (λ all own alike. replaces_if (hash_of hash) place (λ q k e. ap (shard_of (length before)) e) i k here all own alike a b)) told p full works
  key_call_answers (call.Remove h q) e told p full works =
      let same : q ≡ k = same_Some q k e in
      answers_so (call.Remove h q) h (λ m. remove_in m q) e refl refl refl (opens_none (hash_of hash) (call.Remove h q)) (λ w o. refl)
      (subst (λ q. ActsAlike (λ m. remove_in m q)) (sym same)
      (λ all own alike. removes (hash_of hash) place (λ q k e. ap (shard_of (length before)) e) i k here all own alike)) told p full works
  key_call_answers (call.RemoveIf h q v) e told p full works =
      let same : q ≡ k = same_Some q k e in
      answers_so (call.RemoveIf h q v) h (λ m. remove_if_in m q v) e refl refl refl (opens_none (hash_of hash) (call.RemoveIf h q v)) (λ w o. refl)
      (subst (λ q. ActsAlike (λ m. remove_if_in m q v)) (sym same)
      (λ all own alike. removes_if (hash_of hash) place (λ q k e. ap (shard_of (length before)) e) i k here all own alike v)) told p full works
  key_call_answers (call.Clear h) e told p full works = cc
  key_call_answers (call.Snapshot h) e told p full works = cc
  key_call_answers (call.Freeze h) e told p full works = cc
  key_call_answers (call.Close h) e told p full works = cc
  key_call_answers (call.Entries h) e told p full works = cc
  key_call_answers (call.Count h) e told p full works = cc
