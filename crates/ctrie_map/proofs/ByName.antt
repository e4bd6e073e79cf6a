-- What a call on a named handle comes to, by what the call of the core comes to.
use Rattle.std.specs.Prelude.{◌≡◌, ◌≢◌, ◌<◌, ℕ, Bool, true, false, nat_le, if◌then◌else◌, is_some, Option, Some, None, option_map, option_and_then, Result, Ok, Err}
use Rattle.std.specs.FinMap as map
use Rattle.std.proofs.Common.{refl, sym, ap, subst, ◌∙◌}
use Rattle.std.proofs.lemmas.Option.{same_Some}
use Rattle.ctrie_map.specs.Vocabulary.{hash_of, Access, Writable, ReadOnly, Call, Reply, Closed, Cleared, Crowded, Found, NoSlots, Opened, changing, copying, effect, is_crowded, naming}
use Rattle.ctrie_map.specs.Vocabulary.{put_if_absent_in, remove_in, remove_if_in, replace_in, replace_if_in, with_access, writable_map_of, HandleMap, HandleState, KeyMap, handle_of, needs_writable}
use Rattle.ctrie_map.specs.Vocabulary.{opens_handle, State, handle_limit}
use Rattle.history.specs.declared.calls.Call.TheVariants as call
use Rattle.history.specs.Effects.{put_in}
use Rattle.ctrie_map.specs.Beneath.map_worlds.specs.Worlds.{world_of}
use Rattle.ctrie_map.specs.declared.errors.MapError.{MapError}
use Rattle.ctrie_map.specs.declared.errors.MapError.TheVariants as error
use Rattle.ctrie_map.specs.declared.names.Name.{Name}
use Rattle.ctrie_map.specs.Changes.{LacksSlots, changes_map, core_call, core_of, denial_in, on_handle}
use Rattle.ctrie_map.specs.Cores.{Carries, Lacks, LacksSlotsBy, Replies, Turns, adds, core_denial, is_without, is_worn_out}
use Rattle.ctrie_map.specs.Denials.{denial_by}
use Rattle.ctrie_map.specs.Maps.{IsWhole, MapState, Stays, handles_of, map_with}
use Rattle.ctrie_map.specs.Names.{AreNamesOf, IsNext, NameTable, handles_under, how_many, name_at, shown_by, with_given, with_name}
use Rattle.ctrie_map.specs.Performing.{IsOnMap, Performs, PerformsBy, copy_call, effect_among}
use Rattle.ctrie_map.proofs.Changing.{says}
use Rattle.ctrie_map.proofs.Denying.{change_allowed, close_allowed, copy_allowed}
use Rattle.ctrie_map.proofs.Named.{as_many, shows, state_of}
use Rattle.ctrie_map.proofs.Opened.{IsOpened, is_opened}
use Rattle.ctrie_map.proofs.Renaming.{change_named, change_shows, close_named, close_shows, open_named, open_shows}
use Rattle.ctrie_map.proofs.Unnamed.{not_full}

-- ---- calls that may change a map

-- what such a call does with the map
abbrev pub change_of : (ℕ → ℕ) → Call → KeyMap → Reply × KeyMap
change_of hash (call.Put h k v) m = put_in hash m k v
change_of hash (call.PutIfAbsent h k v) m = put_if_absent_in hash m k v
change_of hash (call.Replace h k v) m = replace_in m k v
change_of hash (call.ReplaceIf h k a b) m = replace_if_in m k a b
change_of hash (call.Remove h k) m = remove_in m k
change_of hash (call.RemoveIf h k v) m = remove_if_in m k v
change_of hash (call.Clear h) m = (Cleared, map.empty)
change_of hash other m = (NoSlots, m)

-- it is the same on another handle
record IsLike (hash : ℕ → ℕ) (c : Call) (core : ℕ) : Type 0 where
  on : handle_of (on_handle core c) ≡ core
  writes : needs_writable (on_handle core c) ≡ true
  opens_none : opens_handle (on_handle core c) ≡ false
  changes : changes_map c ≡ true
  none_opened : opens_handle c ≡ false
  does : (w : HandleMap) (o : Option ℕ) → effect hash w (on_handle core c) o ≡ changing w core (change_of hash c)
  named : (w : HandleMap) (o : Option ℕ) → effect_among hash w c o ≡ changing w (handle_of c) (change_of hash c)

like : (hash : ℕ → ℕ) (c : Call) (core : ℕ) → IsOnMap c → IsLike hash c core
like hash (call.Put h k v) core on =
    record { on = refl; writes = refl; opens_none = refl; changes = refl; none_opened = refl; does = λ w o. refl; named = λ w o. refl }
like hash (call.PutIfAbsent h k v) core on =
    record { on = refl; writes = refl; opens_none = refl; changes = refl; none_opened = refl; does = λ w o. refl; named = λ w o. refl }
like hash (call.Replace h k v) core on =
    record { on = refl; writes = refl; opens_none = refl; changes = refl; none_opened = refl; does = λ w o. refl; named = λ w o. refl }
like hash (call.ReplaceIf h k a b) core on =
    record { on = refl; writes = refl; opens_none = refl; changes = refl; none_opened = refl; does = λ w o. refl; named = λ w o. refl }
like hash (call.Remove h k) core on =
    record { on = refl; writes = refl; opens_none = refl; changes = refl; none_opened = refl; does = λ w o. refl; named = λ w o. refl }
like hash (call.RemoveIf h k v) core on =
    record { on = refl; writes = refl; opens_none = refl; changes = refl; none_opened = refl; does = λ w o. refl; named = λ w o. refl }
like hash (call.Clear h) core on =
    record { on = refl; writes = refl; opens_none = refl; changes = refl; none_opened = refl; does = λ w o. refl; named = λ w o. refl }
like hash other core on = absurd on

-- and opens no handle
opens_by : (b : Bool) (there other : Reply × KeyMap) (copy : ℕ) → there.0 ≢ Opened copy → other.0 ≢ Opened copy → (if b then there else other).0 ≢ Opened copy
opens_by true there other copy not_there not_other = not_there
opens_by false there other copy not_there not_other = not_other

puts_none : (hash : ℕ → ℕ) (m : KeyMap) (k v copy : ℕ) → (put_in hash m k v).0 ≢ Opened copy
puts_none hash m k v copy = opens_by (is_crowded hash m k) (Crowded, m) (Found (map.get m k), map.insert m k v) copy (λ e. cc e) (λ e. cc e)

pub opens_none : (hash : ℕ → ℕ) (c : Call) (m : KeyMap) (copy : ℕ) → (change_of hash c m).0 ≢ Opened copy
opens_none hash (call.Put h k v) m copy = puts_none hash m k v copy
opens_none hash (call.PutIfAbsent h k v) m copy = opens_by (map.contains_key m k) (Found (map.get m k), m) (put_in hash m k v) copy (λ e. cc e) (puts_none hash m k v copy)
opens_none hash (call.Replace h k v) m copy = λ e. cc e
opens_none hash (call.ReplaceIf h k a b) m copy = λ e. cc e
opens_none hash (call.Remove h k) m copy = λ e. cc e
opens_none hash (call.RemoveIf h k v) m copy = λ e. cc e
opens_none hash (call.Clear h) m copy = λ e. cc e
opens_none hash other m copy = λ e. cc e

-- a change of a writable map has an effect
changing_so : (w : HandleMap) (h : ℕ) (m : KeyMap) (f : KeyMap → Reply × KeyMap) → map.get w h ≡ Some (state_of Writable m) →
    changing w h f ≡ Some ((f m).0, naming w h Writable (f m).1)
changing_so w h m f at =
    ap (λ s. option_and_then (λ m. Some ((f m).0, naming w h Writable (f m).1)) (option_and_then (λ s. with_access Writable s.access s.pairs) s)) at

pub on_copy : (h : ℕ) (a : Access) → handle_of (copy_call a h) ≡ h
on_copy h Writable = refl
on_copy h ReadOnly = refl

module _ (before : State) (names : NameTable) (whole : IsWhole (map_with before names)) (h : ℕ) where
  abbrev now : MapState
  now = map_with before names

  abbrev world : HandleMap
  world = world_of before

  -- what is there after it, where this is so of the number of a copy
  pub record ComesBy (IsNumber : ℕ → Type 0) (c : Call) (result : Result Reply MapError) (after : State) (new : NameTable) : Type 0 where
    pub named : AreNamesOf (world_of after) new
    pub performs : PerformsBy IsNumber result now c (map_with after new)

  abbrev pub Comes : Call → Result Reply MapError → State → NameTable → Type 0
  Comes = ComesBy (IsNext names.last (handles_of now))

  -- ---- a number that isn't open

  pub not_open : (c : Call) → handle_of c ≡ h → name_at names h ≡ None → Performs (Err error.NoHandle) now c now
  not_open c is none = (
    ap (λ o. denial_by (changes_map c) (opens_handle c) o (map.len (handles_of now))) (ap (map.get (handles_of now)) is ∙ shows world names h ∙ ap (shown_by world) none),
    refl,
  )

  -- ---- one that is

  module _ (name : Name) (at : name_at names h ≡ Some name) where
    abbrev m : KeyMap
    m = (whole.named.stands h name at).0

    there : map.get world name.core ≡ Some (state_of Writable m)
    there = (whole.named.stands h name at).1

    pub shown_with : (n : KeyMap) → map.get world name.core ≡ Some (state_of Writable n) → map.get (handles_of now) h ≡ Some (state_of name.access n)
    shown_with n is = shows world names h ∙ ap (shown_by world) at ∙ ap (option_map (λ shown. state_of name.access shown.pairs)) is

    shown : map.get (handles_of now) h ≡ Some (state_of name.access m)
    shown = shown_with m there

    -- the core's call is this one
    pub core_call_so : (c : Call) → handle_of c ≡ h → core_call now c ≡ on_handle name.core c
    core_call_so c is = ap (λ o. on_handle (core_of o) c) (ap (name_at names) is ∙ at)

    is_without_so : (k q : ℕ) → q ≡ h → is_without (map.get (handles_of now) q) k ≡ is_without (map.get world name.core) k
    is_without_so k q is =
        ap (λ q. is_without (map.get (handles_of now) q) k) is ∙ ap (λ o. is_without o k) shown
        ∙ sym (ap {B = Bool} (λ o. is_without o k) there)

    -- what it adds it adds there
    pub adds_so : (c : Call) → handle_of c ≡ h → adds (handles_of now) c ≡ adds world (on_handle name.core c)
    adds_so (call.Put q k v) is = is_without_so k q is
    adds_so (call.PutIfAbsent q k v) is = is_without_so k q is
    adds_so c is = refl

    pub lacks_so : (c : Call) → handle_of c ≡ h → Lacks before (on_handle name.core c) → LacksSlots now c
    lacks_so c is lacks =
        subst (LacksSlotsBy (adds (handles_of now) c) (map.len (handles_of now)) before) (sym (core_call_so c is))
        (subst (λ n. LacksSlotsBy (adds (handles_of now) c) n before (on_handle name.core c)) (sym (as_many world names whole.named))
        (subst (λ b. LacksSlotsBy b (map.len world) before (on_handle name.core c)) (sym (adds_so c is)) lacks))

    stays_so : (after : State) → Turns before world after → Stays now (map_with after names)
    stays_so after turns = (turns.0, refl, ap (handles_under names) turns.1)

    named_so : (after : State) → Turns before world after → AreNamesOf (world_of after) names
    named_so after turns = subst (λ w. AreNamesOf w names) (sym turns.1) whole.named

    same_so : (after : State) → after ≡ before → map_with after names ≡ now
    same_so after same = ap (λ s. map_with s names) same

    still_named : (after : State) → after ≡ before → AreNamesOf (world_of after) names
    still_named after same = subst (λ s. AreNamesOf (world_of s) names) (sym same) whole.named

    -- ---- a change

    module _ (c : Call) (on : IsOnMap c) (is : handle_of c ≡ h) where
      abbrev hash : ℕ → ℕ
      hash = hash_of before.limits.hash

      alike : IsLike hash c name.core
      alike = like hash c name.core on

      pub frozen : name.access ≡ ReadOnly → Performs (Err error.ReadOnly) now c now
      frozen e =
          let len = map.len (handles_of now) in (
            ap (λ b. denial_by b (opens_handle c) (map.get (handles_of now) (handle_of c)) len) alike.changes
                ∙ ap (λ o. denial_by true (opens_handle c) o len) (ap (map.get (handles_of now)) is ∙ shown) ∙ ap (λ a. denial_by true (opens_handle c) (Some (state_of a m)) len) e,
            refl,
          )

      module _ (writable : name.access ≡ Writable) where
        none_denied : denial_in now c ≡ None
        none_denied =
            let len = map.len (handles_of now) in
            ap (λ b. denial_by (changes_map c) b (map.get (handles_of now) (handle_of c)) len) alike.none_opened
            ∙ ap (λ b. denial_by b false (map.get (handles_of now) (handle_of c)) len) alike.changes
            ∙ ap (λ o. denial_by true false o len) (ap (map.get (handles_of now)) is ∙ shown) ∙ ap (λ a. denial_by true false (Some (state_of a m)) len) writable

        pub core_changes : core_denial before (on_handle name.core c) ≡ None
        core_changes = change_allowed before name.core m there (on_handle name.core c) alike.on alike.writes alike.opens_none

        by_effect : (answer : Reply) (opens : Option ℕ) (next : HandleMap) (after : State) →
            effect hash world (on_handle name.core c) opens ≡ Some (answer, next) → Turns before next after →
            AreNamesOf (world_of after) names
            × ((last : HandleMap) × (effect_among hash (handles_of now) c opens ≡ Some (answer, last)) × (handles_under names (world_of after) ≡ last))
        by_effect answer opens next after e turns =
            let (n, here, told, to) = says world name.core (change_of hash c) answer next (sym (alike.does world opens) ∙ e) in
            let new : KeyMap = (change_of hash c n).1 in
            let is_world = turns.1 ∙ to in (
              subst (λ w. AreNamesOf w names) (sym is_world) (change_named world names whole.named h name at new),
              (
                naming (handles_of now) h Writable new,
                alike.named (handles_of now) opens ∙ ap (λ k. changing (handles_of now) k (change_of hash c)) is
                    ∙ changing_so (handles_of now) h n (change_of hash c) (shown_with n here ∙ ap (λ a. Some (state_of a n)) writable)
                    ∙ ap (λ r. Some (r, naming (handles_of now) h Writable new)) (sym told),
                ap (handles_under names) is_world ∙ change_shows world names whole.named h name at new ∙ ap (λ a. naming (handles_of now) h a new) writable,
              ),
            )

        by_answer : (answer : Reply) (after : State) → is_worn_out before ≡ false → Replies before (on_handle name.core c) answer after → Comes c (Ok answer) after names
        by_answer NoSlots after life p =
            record { named = named_so after p.1; performs = ((none_denied, life), (lacks_so c is p.0, stays_so after p.1)) }
        by_answer (Opened copy) after life p =
            let (n, here, told, to) = says world name.core (change_of hash c) (Opened copy) p.1 (sym (alike.does world p.0) ∙ p.2) in
            absurd (opens_none hash c n copy (sym told))
        by_answer answer after life p =
            let got = by_effect answer p.0 p.1 after p.2 p.3 in
            record { named = got.0; performs = ((none_denied, life), (p.0, got.1.0, got.1.1, (p.3.0, refl, got.1.2))) }

        by_error : (why : MapError) (after : State) → Carries (Err why) before (on_handle name.core c) after → Comes c (Err why) after names
        by_error why after p =
            subst (λ w. Comes c (Err w) after names) (sym p.0) (record { named = still_named after p.2; performs = (none_denied, p.1, same_so after p.2) })

        pub changed : (result : Result Reply MapError) (after : State) → Carries result before (on_handle name.core c) after → Comes c result after names
        changed (Ok answer) after p = by_answer answer after p.0 p.1
        changed (Err why) after p = by_error why after p

    -- ---- a copy

    module _ (access : Access) where
      abbrev copy : Call
      copy = copy_call access h

      abbrev opening : HandleMap → Option HandleState → Option MapError
      opening handles o = denial_by false true o (map.len handles)

      denied_by : (a : Access) → denial_in now (copy_call a h) ≡ opening (handles_of now) (map.get (handles_of now) h)
      denied_by Writable = refl
      denied_by ReadOnly = refl

      abbrev full_at : ℕ → Option MapError
      full_at n = if nat_le handle_limit n then Some error.HandlesFull else None

      denied_so : denial_in now copy ≡ full_at (map.len world)
      denied_so = denied_by access ∙ ap (opening (handles_of now)) shown ∙ ap full_at (as_many world names whole.named)

      core_denied : core_denial before (call.Snapshot name.core) ≡ full_at (map.len world)
      core_denied = ap (λ o. denial_by true true o (map.len world)) there

      same_denial : denial_in now copy ≡ core_denial before (call.Snapshot name.core)
      same_denial = denied_so ∙ sym core_denied

      pub full : how_many names ≡ handle_limit → Performs (Err error.HandlesFull) now copy now
      full many = (denied_so ∙ ap full_at (sym whole.named.many ∙ many), refl)

      at_core : (a : Access) → on_handle name.core (copy_call a h) ≡ call.Snapshot name.core
      at_core Writable = refl
      at_core ReadOnly = refl

      lacks_copy : Lacks before (call.Snapshot name.core) → LacksSlots now copy
      lacks_copy lacks = lacks_so copy (on_copy h access) (subst (Lacks before) (sym (at_core access)) lacks)

      -- a number is free
      module _ (number : ℕ) (low : number < handle_limit) (free : name_at names number ≡ None) where
        pub core_copies : core_denial before (call.Snapshot name.core) ≡ None
        core_copies = copy_allowed before name.core m there (not_full world names whole.named number low free)

        copy_begun : denial_in now copy ≡ None
        copy_begun = same_denial ∙ core_copies

        pub copy_refused : (IsNumber : ℕ → Type 0) (why : MapError) (after : State) → Carries (Err why) before (call.Snapshot name.core) after → ComesBy IsNumber copy (Err why) after names
        copy_refused IsNumber why after p =
            subst (λ w. ComesBy IsNumber copy (Err w) after names) (sym p.0) (record { named = still_named after p.2; performs = (copy_begun, p.1, same_so after p.2) })

        -- what the core says of a copy that has an effect
        opened_core : (answer : Reply) (opens : Option ℕ) (next : HandleMap) → copying world name.core opens Writable ≡ Some (answer, next) →
            IsOpened world opens Writable (writable_map_of world name.core) answer next
        opened_core answer opens next e = is_opened world opens Writable answer next (writable_map_of world name.core) e

        -- a reply that opens nothing finds no slot
        pub unopened : (IsNumber : ℕ → Type 0) (answer : Reply) (after : State) → ((core : ℕ) → answer ≢ Opened core) → Carries (Ok answer) before (call.Snapshot name.core) after →
            ComesBy IsNumber copy (Ok answer) after names
        unopened IsNumber NoSlots after none (life, (lacks, turns)) =
            record { named = named_so after turns; performs = ((copy_begun, life), (lacks_copy lacks, stays_so after turns)) }
        unopened IsNumber answer after none p = let o = opened_core answer p.1.0 p.1.1 p.1.2 in absurd (none o.copy o.told)

        module _ (IsNumber : ℕ → Type 0) (is_number : IsNumber number) where
          unshown : map.get (handles_of now) number ≡ None
          unshown = shows world names number ∙ ap (shown_by world) free

          effect_so : (a : Access) → effect_among (hash_of before.limits.hash) (handles_of now) (copy_call a h) (Some number)
              ≡ option_and_then (λ n. if map.contains_key (handles_of now) number then None else Some (Opened number, naming (handles_of now) number a n))
              (option_and_then (λ s. Some s.pairs) (map.get (handles_of now) h))
          effect_so Writable = refl
          effect_so ReadOnly = refl

          effect_is : effect_among (hash_of before.limits.hash) (handles_of now) copy (Some number) ≡ Some (Opened number, naming (handles_of now) number access m)
          effect_is =
              effect_so access
              ∙ ap (λ o. option_and_then (λ n. if map.contains_key (handles_of now) number then None else Some (Opened number, naming (handles_of now) number access n))
              (option_and_then (λ s. Some s.pairs) o)) shown
              ∙ ap (λ o. if is_some o then None else Some (Opened number, naming (handles_of now) number access m)) unshown

          pub opened : (core : ℕ) (after : State) → Carries (Ok (Opened core)) before (call.Snapshot name.core) after →
              ComesBy IsNumber copy (Ok (Opened number)) after (with_given names number (record { core = core; access = access }))
          opened core after p =
              let (life, (opens, last, e, turns)) = p in
              let o = opened_core (Opened core) opens last e in
              let same : core ≡ o.copy = cc o.told in
              let fresh : map.get world core ≡ None = ap (map.get world) same ∙ o.new in
              let is_m : o.m ≡ m = same_Some o.m m (sym o.at ∙ ap (λ s. option_and_then (λ s. with_access Writable s.access s.pairs) s) there) in
              let to : world_of after ≡ naming world core Writable m =
              turns.1 ∙ o.there ∙ ap (λ k. naming world k Writable o.m) (sym same) ∙ ap (naming world core Writable) is_m in
              let new : Name = record { core = core; access = access } in
              record {
                named = subst (λ w. AreNamesOf w (with_given names number new)) (sym to) (open_named world names whole.named number low free new fresh m);
                performs = (
                  (copy_begun, life),
                  (
                    is_number,
                    (
                      naming (handles_of now) number access m,
                      effect_is,
                      (
                        turns.0,
                        refl,
                        ap (handles_under (with_given names number new)) to ∙ open_shows world names whole.named number low free new fresh m,
                      ),
                    ),
                  ),
                );
              }

    -- ---- a close

    abbrev closes : Call
    closes = call.Close h

    close_denied : denial_in now closes ≡ None
    close_denied = ap (λ o. denial_by false false o (map.len (handles_of now))) shown

    pub core_closes : core_denial before (call.Close name.core) ≡ None
    core_closes = close_allowed before name.core (ap is_some there)

    pub close_refused : (why : MapError) (after : State) → Carries (Err why) before (call.Close name.core) after → Comes closes (Err why) after names
    close_refused why after p =
        subst (λ w. Comes closes (Err w) after names) (sym p.0) (record { named = still_named after p.2; performs = (close_denied, p.1, same_so after p.2) })

    -- the core's close that has an effect
    closed_core : (answer : Reply) (next : HandleMap) →
        option_and_then {U = Reply × HandleMap} (λ m. Some (Closed, map.remove world name.core)) (option_and_then (λ s. Some s.pairs) (map.get world name.core)) ≡ Some (answer, next) →
        (answer ≡ Closed) × (next ≡ map.remove world name.core)
    closed_core answer next e =
        let is =
        ap (λ o. option_and_then {U = Reply × HandleMap} (λ m. Some (Closed, map.remove world name.core)) (option_and_then (λ s. Some s.pairs) o)) there in
        let same = same_Some (Closed, map.remove world name.core) (answer, next) (sym is ∙ e) in (ap (λ p. p.0) (sym same), ap (λ p. p.1) (sym same))

    pub closed : (after : State) → Carries (Ok Closed) before (call.Close name.core) after → Comes closes (Ok Closed) after (with_name names h None)
    closed after p =
        let (life, (opens, last, e, turns)) = p in
        let to : world_of after ≡ map.remove world name.core = turns.1 ∙ (closed_core Closed last e).1 in
        record {
          named = subst (λ w. AreNamesOf w (with_name names h None)) (sym to) (close_named world names whole.named h name at);
          performs = (
            (close_denied, life),
            (
              None,
              map.remove (handles_of now) h,
              ap (λ o. option_and_then {U = Reply × HandleMap} (λ m. Some (Closed, map.remove (handles_of now) h)) (option_and_then (λ s. Some s.pairs) o)) shown,
              (turns.0, refl, ap (handles_under (with_name names h None)) to ∙ close_shows world names whole.named h name at),
            ),
          );
        }
