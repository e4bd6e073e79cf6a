-- Keys that are changed one after the other in a draft, and what becomes of the handle.
use Rattle.std.specs.Prelude.{◌≡◌, ◌<◌, ◌≤◌, ◌+◌, ◌*◌, ℕ, true, false, nat_le, if◌then◌else◌, is_some, IsSome, Option, Some, None, List, [], ◌∷◌, length}
use Rattle.std.specs.FinMap as map
use Rattle.std.proofs.Common.{refl, sym, ap, subst, inl, inr, arith, ◌∙◌}
use Rattle.std.proofs.lemmas.Bool.{cases_eq}
use Rattle.ctrie_map.specs.Vocabulary.{hash_of, Writable, ReadOnly, naming, HandleMap, HandleState, KeyMap, State, handle_limit}
use Rattle.ctrie_map.specs.Beneath.map_worlds.specs.Worlds.{world_of}
use Rattle.ctrie_map.specs.Beneath.proof_obstruction_free.specs.Slots.{most_makes_alone, most_steps_of_copies}
use Rattle.ctrie_map.specs.declared.errors.MapError.{MapError}
use Rattle.ctrie_map.specs.declared.errors.MapError.TheVariants as error
use Rattle.ctrie_map.specs.declared.names.Name.{Name}
use Rattle.ctrie_map.specs.declared.batches.Batch.{Batch}
use Rattle.ctrie_map.specs.Batches.{ChangesAll, ChangesEach, ChangesKey, HasLifeFor, HaveRoom, IsChanging, IsCrowdedAmong, RefusesBatch, RefusesKey, RefusesName, FindsNoneOnCopy, Stops}
use Rattle.ctrie_map.specs.Batches.{batch_call, batch_denial, changed, changed_all, crowds}
use Rattle.ctrie_map.specs.Changes.{core_of}
use Rattle.ctrie_map.specs.Cores.{TakesUpTo, Turns, is_worn_out}
use Rattle.ctrie_map.specs.Costs.{work_of_a_change}
use Rattle.ctrie_map.specs.Denials.{denial_by}
use Rattle.ctrie_map.specs.Drafts.{HasMap, IsBeside, IsDraftOf, RefusesDraft, is_worn_out_by}
use Rattle.ctrie_map.specs.Maps.{IsWhole, MapState, Stays, handles_of, map_with}
use Rattle.ctrie_map.specs.Names.{AreNamesOf, NameTable, handles_under, how_many, name_at, shown_by}
use Rattle.ctrie_map.proofs.ByName.{shown_with}
use Rattle.ctrie_map.proofs.Changing.{naming_same}
use Rattle.ctrie_map.proofs.Leaving.{none_free}
use Rattle.ctrie_map.proofs.Named.{as_many, at_other, at_same, gone_other, gone_same, same_handles, shows, state_of}
use Rattle.ctrie_map.proofs.Setting.{one_map}

-- ---- finite maps

-- what is named twice has the later map
named_twice : (w : HandleMap) (h : ℕ) (m n : KeyMap) → naming (naming w h Writable m) h Writable n ≡ naming w h Writable n
named_twice w h m n = same_handles (naming (naming w h Writable m) h Writable n) (naming w h Writable n) (λ q. elim (cases_eq q h) [
  | inl same ↦
      ap (map.get (naming (naming w h Writable m) h Writable n)) same ∙ at_same (naming w h Writable m) h (state_of Writable n)
      ∙ sym (ap (map.get (naming w h Writable n)) same ∙ at_same w h (state_of Writable n))
  | inr other ↦
      at_other (naming w h Writable m) h (state_of Writable n) q other ∙ at_other w h (state_of Writable m) q other ∙ sym (at_other w h (state_of Writable n) q other)
])

-- a new handle that is closed again
named_and_gone : (w : HandleMap) (h : ℕ) (m : KeyMap) → map.get w h ≡ None → map.remove (naming w h Writable m) h ≡ w
named_and_gone w h m none = same_handles (map.remove (naming w h Writable m) h) w (λ q. elim (cases_eq q h) [
  | inl same ↦ ap (map.get (map.remove (naming w h Writable m) h)) same ∙ gone_same (naming w h Writable m) h ∙ sym (ap (map.get w) same ∙ none)
  | inr other ↦ gone_other (naming w h Writable m) h q other ∙ at_other w h (state_of Writable m) q other
])

-- ---- in the core

module _ (batch : Batch) (handle : ℕ) (m : KeyMap) (pairs : List (ℕ × ℕ)) (before : State) where
  abbrev hash : ℕ → ℕ
  hash = hash_of before.limits.hash

  pub begins : HasMap (world_of before) handle m → IsChanging batch handle m pairs before pairs before
  begins has = record {
    so_far = m;
    turns = (refl, sym (naming_same (world_of before) handle m has));
    same = refl;
    room = λ r. r;
    crowded = λ c. c;
    out = λ o. o;
    rises = omega arith;
    work = omega arith;
    slots = omega arith;
  }

  -- it has a map there
  pub changing_has : (left : List (ℕ × ℕ)) (now : State) (changing : IsChanging batch handle m pairs before left now) → HasMap (world_of now) handle changing.so_far
  changing_has left now changing = ap (λ w. map.get w handle) changing.turns.1 ∙ at_same (world_of before) handle (state_of Writable changing.so_far)

  module _ (pair : ℕ × ℕ) (left : List (ℕ × ℕ)) (now : State) (changing : IsChanging batch handle m pairs before (pair ∷ left) now) (after : State) where
    abbrev so_far : KeyMap
    so_far = changing.so_far

    has_now : HasMap (world_of now) handle so_far
    has_now = changing_has (pair ∷ left) now changing

    crowd_now : (n : KeyMap) → HasMap (world_of now) handle n → crowds batch (hash_of now.limits.hash) n pair.0 ≡ crowds batch hash so_far pair.0
    crowd_now n has =
        ap (λ n. crowds batch (hash_of now.limits.hash) n pair.0) (one_map (map.get (world_of now) handle) n so_far has has_now)
        ∙ ap (λ l. crowds batch (hash_of l.hash) so_far pair.0) changing.turns.0

    pub goes_on : ChangesKey batch handle pair now after → TakesUpTo work_of_a_change now after → length now.heap.free ≤ length after.heap.free + (most_makes_alone + 1) →
        IsChanging batch handle m pairs before left after
    goes_on (n, has, room, turns, leads) takes slots =
        let same : n ≡ so_far = one_map (map.get (world_of now) handle) n so_far has has_now in
        let crowd : crowds batch hash so_far pair.0 ≡ false = sym (crowd_now n has) ∙ room in record {
          so_far = changed batch pair so_far;
          turns = (
            turns.0 ∙ changing.turns.0,
            turns.1 ∙ ap (λ n. naming (world_of now) handle Writable (changed batch pair n)) same
                ∙ ap (λ w. naming w handle Writable (changed batch pair so_far)) changing.turns.1 ∙ named_twice (world_of before) handle so_far (changed batch pair so_far),
          );
          same = changing.same;
          room = λ r. changing.room (crowd, r);
          crowded = λ c. changing.crowded (inr c);
          out = λ o. changing.out (inr (after, (n, has, room, turns, leads), o));
          rises = omega (arith, takes.0, changing.rises);
          work = omega (arith, takes.1, changing.work);
          slots = omega (arith, slots, changing.slots);
        }

    turns_so : Turns now (world_of now) after → Turns before (naming (world_of before) handle Writable so_far) after
    turns_so turns = (turns.0 ∙ changing.turns.0, turns.1 ∙ changing.turns.1)

    pub stops_at : (why : MapError) → RefusesKey batch handle pair now after why → Stops batch handle m pairs before after why
    stops_at error.Full p =
        let none = none_free now (batch_call batch handle pair) p.0 in let slots = changing.slots in (grind (arith, none, slots), changing.out (inl p.0), (so_far, turns_so p.1))
    stops_at error.Crowded (n, has, crowd, turns) = (changing.crowded (inl (sym (crowd_now n has) ∙ crowd)), (so_far, turns_so turns))
    stops_at why p = absurd p

    -- at most the work of all is done
    pub took : TakesUpTo work_of_a_change now after → TakesUpTo (work_of_a_change * length pairs) before after
    took takes = (omega (arith, takes.0, changing.rises), omega (arith, takes.1, changing.work))

  pub took_all : (now : State) → IsChanging batch handle m pairs before [] now → TakesUpTo (work_of_a_change * length pairs) before now
  took_all now changing = (changing.rises, omega (arith, changing.work))

  -- so a call may be made still
  pub lives : (after : State) → is_worn_out_by (work_of_a_change * length pairs) before ≡ false → TakesUpTo (work_of_a_change * length pairs) before after →
      after.limits ≡ before.limits → length after.heap.free ≤ after.limits.slots → is_worn_out after ≡ false
  lives after left takes same few =
      let slots : after.limits.slots ≡ before.limits.slots = ap (λ l. l.slots) same in
      let steps : after.limits.steps ≡ before.limits.steps = ap (λ l. l.steps) same in
      let actors : after.limits.actors ≡ before.limits.actors = ap (λ l. l.actors) same in grind (arith, left, takes, slots, steps, actors, few)

  pub lives_at_first : is_worn_out_by (work_of_a_change * length pairs) before ≡ false → is_worn_out before ≡ false
  lives_at_first left = grind (arith, left)

  pub stops_within : (after : State) (why : MapError) → Stops batch handle m pairs before after why → after.limits ≡ before.limits
  stops_within after error.Full p = p.2.1.0
  stops_within after error.Crowded p = p.1.1.0
  stops_within after why p = absurd p

  -- the map is there wherever it has come to
  pub stopped_there : (after : State) (why : MapError) → Stops batch handle m pairs before after why → IsSome (map.get (world_of after) handle)
  stopped_there after error.Full p = ap (λ w. is_some (map.get w handle)) p.2.1.1 ∙ ap is_some (at_same (world_of before) handle (state_of Writable p.2.0))
  stopped_there after error.Crowded p = ap (λ w. is_some (map.get w handle)) p.1.1.1 ∙ ap is_some (at_same (world_of before) handle (state_of Writable p.1.0))
  stopped_there after why p = absurd p

  pub changes_each : (now : State) → IsChanging batch handle m pairs before [] now → ChangesEach batch handle m pairs before now
  changes_each now changing = (changing.room tt, (changing.turns.0, changing.turns.1 ∙ ap (naming (world_of before) handle Writable) changing.same))

-- ---- by a name

module _ (batch : Batch) (before : State) (names : NameTable) (whole : IsWhole (map_with before names)) (handle : ℕ) (pairs : List (ℕ × ℕ)) where
  abbrev now : MapState
  now = map_with before names

  abbrev world : HandleMap
  world = world_of before

  abbrev opening : Option HandleState → Option MapError
  opening o = denial_by true true o (map.len (handles_of now))

  pub not_there : name_at names handle ≡ None → batch_denial now handle ≡ Some error.NoHandle
  not_there none = ap opening (shows world names handle ∙ ap (shown_by world) none)

  module _ (name : Name) (at : name_at names handle ≡ Some name) where
    abbrev m : KeyMap
    m = (whole.named.stands handle name at).0

    shown : map.get (handles_of now) handle ≡ Some (state_of name.access m)
    shown = shown_with before names whole handle name at m (whole.named.stands handle name at).1

    pub is_frozen_there : name.access ≡ ReadOnly → batch_denial now handle ≡ Some error.ReadOnly
    is_frozen_there e = ap opening shown ∙ ap (λ a. opening (Some (state_of a m))) e

    out_so : FindsNoneOnCopy batch name.core pairs before → FindsNoneOnCopy batch (core_of (name_at names handle)) pairs before
    out_so = subst (λ h. FindsNoneOnCopy batch h pairs before) (sym (ap core_of at))

    module _ (writable : name.access ≡ Writable) where
      abbrev full_at : ℕ → Option MapError
      full_at n = if nat_le handle_limit n then Some error.HandlesFull else None

      denial_so : batch_denial now handle ≡ full_at (how_many names)
      denial_so = ap opening shown ∙ ap (λ a. opening (Some (state_of a m))) writable ∙ ap full_at (as_many world names whole.named ∙ sym whole.named.many)

      pub none_left : handle_limit ≤ how_many names → batch_denial now handle ≡ Some error.HandlesFull
      none_left many = let b : nat_le handle_limit (how_many names) ≡ true = grind (arith, many) in denial_so ∙ ap (λ b. if b then Some error.HandlesFull else None) b

      pub one_left : how_many names < handle_limit → batch_denial now handle ≡ None
      one_left few = let b : nat_le handle_limit (how_many names) ≡ false = grind (arith, few) in denial_so ∙ ap (λ b. if b then Some error.HandlesFull else None) b

      -- the copy in which they are changed
      module _ (room : map.len world < handle_limit) (draft : ℕ) (drafted : State) (d : IsDraftOf name.core before draft drafted)
          (slots : length before.heap.free ≤ length drafted.heap.free + (most_steps_of_copies + 1)) where
        allowed : batch_denial now handle ≡ None
        allowed = one_left (omega (arith, room, whole.named.many))

        -- it has the handle's map
        pub draft_has : HasMap (world_of drafted) draft d.m
        draft_has = ap (λ w. map.get w draft) d.turns.1 ∙ at_same world draft (state_of Writable d.m)

        is_m : d.m ≡ m
        is_m = one_map (map.get world name.core) d.m m d.has (whole.named.stands handle name at).1

        writes : HasMap (handles_of now) handle m
        writes = shown ∙ ap (λ a. Some (state_of a m)) writable

        drafted_so : (n : KeyMap) (after : State) → Turns drafted (naming (world_of drafted) draft Writable n) after → world_of after ≡ naming world draft Writable n
        drafted_so n after turns = turns.1 ∙ ap (λ w. naming w draft Writable n) d.turns.1 ∙ named_twice world draft d.m n

        pub beside : (changed_to : State) → ChangesEach batch draft d.m pairs drafted changed_to → IsBeside world names draft (changed_all batch d.m pairs) changed_to
        beside changed_to changes = record { named = whole.named; new = d.new; is = drafted_so (changed_all batch d.m pairs) changed_to changes.1 }

        pub changes_all : HasLifeFor now pairs → (changed_to : State) → ChangesEach batch draft d.m pairs drafted changed_to → (after : State) (new : NameTable) →
            after.limits ≡ changed_to.limits → new.last ≡ names.last →
            handles_under new (world_of after) ≡ naming (handles_of now) handle Writable (changed_all batch d.m pairs) → ChangesAll batch now handle pairs (map_with after new)
        changes_all life changed_to changes after new limits last handles =
            let same : drafted.limits ≡ before.limits = d.turns.0 in (
              life,
              (
                m,
                writes,
                subst (λ n. HaveRoom batch (hash_of before.limits.hash) n pairs) is_m (subst (λ l. HaveRoom batch (hash_of l.hash) d.m pairs) same changes.0),
                (limits ∙ changes.1.0 ∙ same, last, handles ∙ ap (λ n. naming (handles_of now) handle Writable (changed_all batch n pairs)) is_m),
              ),
            )

        -- it is closed again
        module _ (stopped after : State) (gone : Turns stopped (map.remove (world_of stopped) draft) after) where
          back : (n : KeyMap) → Turns drafted (naming (world_of drafted) draft Writable n) stopped → Turns before world after
          back n turns = (
            gone.0 ∙ turns.0 ∙ d.turns.0,
            gone.1 ∙ ap (λ w. map.remove w draft) (drafted_so n stopped turns) ∙ named_and_gone world draft n d.new,
          )

          stays_so : Turns before world after → Stays now (map_with after names)
          stays_so turns = (turns.0, refl, ap (handles_under names) turns.1)

          pub back_named : (why : MapError) → Stops batch draft d.m pairs drafted stopped why → AreNamesOf (world_of after) names
          back_named error.Full p = subst (λ w. AreNamesOf w names) (sym (back p.2.0 p.2.1).1) whole.named
          back_named error.Crowded p = subst (λ w. AreNamesOf w names) (sym (back p.1.0 p.1.1).1) whole.named
          back_named why p = absurd p

          pub refuses_all : HasLifeFor now pairs → (why : MapError) → Stops batch draft d.m pairs drafted stopped why → RefusesBatch batch now handle pairs (map_with after names) why
          refuses_all life error.Full p = (allowed, life, (let few = p.0 in grind (arith, few, slots), out_so (inr (draft, drafted, d, p.1))), stays_so (back p.2.0 p.2.1))
          refuses_all life error.Crowded p = (
            allowed,
            life,
            (
              m,
              writes,
              subst (λ n. IsCrowdedAmong batch (hash_of before.limits.hash) n pairs) is_m (subst (λ l. IsCrowdedAmong batch (hash_of l.hash) d.m pairs) d.turns.0 p.0),
            ),
            stays_so (back p.1.0 p.1.1),
          )
          refuses_all life why p = absurd p

      -- or there is none
      pub no_draft : map.len world < handle_limit → HasLifeFor now pairs → (after : State) (why : MapError) → RefusesDraft name.core before after why →
          RefusesBatch batch now handle pairs (map_with after names) why
      no_draft room life after why p = rw p.0 (
        one_left (omega (arith, room, whole.named.many)),
        life,
        (let none = p.1 in omega (arith, none), out_so (inl p.1)),
        (p.2.0, refl, ap (handles_under names) p.2.1),
      )

  -- or the name tells why not
  pub refused_by_name : (why : MapError) → RefusesName names handle why → RefusesBatch batch now handle pairs now why
  refused_by_name error.NoHandle none = (not_there none, refl)
  refused_by_name error.ReadOnly (name, at, frozen) = (is_frozen_there name at frozen, refl)
  refused_by_name error.HandlesFull (name, at, writable, many) = (none_left name at writable many, refl)
  refused_by_name why p = absurd p
