-- What a handle reaches behind a call leaves as many slots as any call takes, and where one handle alone is open so many are free.
use Rattle.std.specs.Prelude.{◌≡◌, ◌≢◌, ◌+◌, ◌-◌, ◌<◌, ◌≤◌, ℕ, zero, suc, Bool, true, false, ◌&&◌, nat_eq, nat_le, if◌then◌else◌, IsSome, is_some, length, Option, Some, None, option_map}
use Rattle.std.specs.FinMap as map
use Rattle.std.specs.FinMap.{empty_of_len, get-empty}
use Rattle.std.proofs.Common.{refl, sym, ap, subst, arith, eqb-true, leb-false, leb-true, nat_cmp, ◌∙◌}
use Rattle.std.proofs.lemmas.Bool.{false≢true, true≢false}
use Rattle.ctrie_map.specs.Vocabulary.{hash_of, Writable, Call, Reply, Crowded, Found, NoSlots, effect, is_crowded, put_if_absent_in, HandleMap, HandleState, KeyMap, Root, Bounds, handle_of}
use Rattle.ctrie_map.specs.Vocabulary.{needs_writable, opens_handle, State, root_at}
use Rattle.history.specs.declared.calls.Call.TheVariants as call
use Rattle.history.specs.Effects.{put_in}
use Rattle.proof_sizes.specs.Beneath.proof_alone.specs.Calls.{Acts, CanCall, Does, EnoughSlotsForCalls, RunsOut}
use Rattle.proof_sizes.specs.Beneath.proof_alone.specs.Sweeps.{Sweeps, Swept}
use Rattle.ctrie_map.specs.Beneath.map_worlds.proofs.Shown.{shows_roots}
use Rattle.ctrie_map.specs.Beneath.map_worlds.specs.Worlds.{named_at, world_of}
use Rattle.ctrie_map.specs.Beneath.proof_obstruction_free.specs.Calls.{slots_of}
use Rattle.ctrie_map.specs.Beneath.proof_obstruction_free.specs.Slots.{most_makes_alone}
use Rattle.ctrie_map.specs.Beneath.proof_straight.specs.Resting.{IsOfRun}
use Rattle.ctrie_map.specs.Beneath.proof_straight.specs.Running.{Comes}
use Rattle.proof_sizes.specs.Growth.{CallsGrowLittle, CopiesAreNoLarger, SweepsKeepNodes, adds_key, growth, most_growth}
use Rattle.proof_sizes.specs.Nodes.{HandlesUseSlots, OneHandleUsesAll, nodes_of}
use Rattle.ctrie_map.specs.Cores.{IsCalm, IsTight, Lacks, LacksSlotsBy, LeavesRoom, adds, core_denial, free_in, is_without, reserve, the_actor}
use Rattle.ctrie_map.specs.Denials.{denial_by}
use Rattle.ctrie_map.proofs.Changing.{says}
use Rattle.ctrie_map.proofs.Named.{gone_other, len_gone}

-- ---- handles that are open

-- the open ones of a world have roots
pub root_there : (state : State) (handle : ℕ) → IsSome (map.get (world_of state) handle) → (root : Root) × (root_at state handle ≡ Some root)
root_there state handle some = by_root (root_at state handle) refl (subst IsSome (shows_roots state handle) some)
  where
    by_root : (o : Option Root) → root_at state handle ≡ o → IsSome (option_map (named_at state handle) o) → (root : Root) × (root_at state handle ≡ Some root)
    by_root None e is = cc is
    by_root (Some root) e is = (root, e)

pub shown_there : (state : State) (handle : ℕ) (root : Root) → root_at state handle ≡ Some root → IsSome (map.get (world_of state) handle)
shown_there state handle root e = ap is_some (shows_roots state handle ∙ ap (option_map (named_at state handle)) e)

pub some_open : (w : HandleMap) (h : ℕ) → IsSome (map.get w h) → 1 ≤ map.len w
some_open w h some = by_len (map.len w) refl
  where
    by_len : (n : ℕ) → map.len w ≡ n → 1 ≤ map.len w
    by_len zero e = absurd (true≢false (sym some ∙ ap (λ v. is_some (map.get v h)) (empty_of_len w e) ∙ ap is_some (get-empty nat_cmp h)))
    by_len (suc n) e = omega (arith, e)

two_open : (w : HandleMap) (h other : ℕ) → IsSome (map.get w h) → IsSome (map.get w other) → other ≢ h → 2 ≤ map.len w
two_open w h other some also apart =
    let left = some_open (map.remove w h) other (subst IsSome (sym (gone_other w h other apart)) also) in
    let gone = len_gone w h some in let first = some_open w h some in omega (arith, left, gone, first)

-- where fewer than two are open, no other one than this is
alone_there : (state : State) (handle : ℕ) → IsSome (map.get (world_of state) handle) → map.len (world_of state) < 2 → (other : ℕ) → other ≢ handle → root_at state other ≡ None
alone_there state handle some few other apart = by_root (root_at state other) refl
  where
    by_root : (o : Option Root) → root_at state other ≡ o → root_at state other ≡ None
    by_root None e = e
    by_root (Some root) e = let two = two_open (world_of state) handle other some (shown_there state other root e) apart in absurd (omega (arith, two, few))

open_if : (before : State) (c : Call) → core_denial before c ≡ None → IsSome (map.get (world_of before) (handle_of c))
open_if before c allowed = by_shown (map.get (world_of before) (handle_of c)) allowed
  where
    by_shown : (o : Option HandleState) → denial_by (needs_writable c) (opens_handle c) o (map.len (world_of before)) ≡ None → IsSome o
    by_shown None e = cc e
    by_shown (Some shown) e = refl

-- ---- what adds a key

abbrev put_here : KeyMap → ℕ → ℕ → Bool → Reply × KeyMap
put_here m k v b = if b then (Crowded, m) else (Found (map.get m k), map.insert m k v)

abbrev put_if_there : Reply × KeyMap → KeyMap → ℕ → Bool → Reply × KeyMap
put_if_there put m k b = if b then (Found (map.get m k), m) else put

put_none : (hash : ℕ → ℕ) (m : KeyMap) (k v : ℕ) → Found None ≡ (put_in hash m k v).0 → map.contains_key m k ≡ false
put_none hash m k v e = by_crowd (is_crowded hash m k) e
  where
    by_crowd : (b : Bool) → Found None ≡ (put_here m k v b).0 → map.contains_key m k ≡ false
    by_crowd true e = cc e
    by_crowd false e = let none : map.get m k ≡ None = cc e in ap is_some none

absent_none : (hash : ℕ → ℕ) (m : KeyMap) (k v : ℕ) → Found None ≡ (put_if_absent_in hash m k v).0 → map.contains_key m k ≡ false
absent_none hash m k v e = by_there (map.contains_key m k) refl e
  where
    by_there : (b : Bool) → map.contains_key m k ≡ b → Found None ≡ (put_if_there (put_in hash m k v) m k b).0 → map.contains_key m k ≡ false
    by_there true is e = let none : map.get m k ≡ None = cc e in ap is_some none
    by_there false is e = is

without_so : (o : Option HandleState) (m : KeyMap) (k : ℕ) → o ≡ Some (record { access = Writable; pairs = m }) → map.contains_key m k ≡ false → is_without o k ≡ true
without_so o m k at none = rw at (rw none refl)

-- a call that has added a key was to add one
added : (before middle : State) (c : Call) (answer : Reply) → adds_key c answer ≡ true → Acts before c answer middle → adds (world_of before) c ≡ true
added before middle (call.Put h k v) (Found None) is (opens, effect) =
    let (m, at, told, to) = says (world_of before) h (λ m. put_in (hash_of before.limits.hash) m k v) (Found None) (world_of middle) effect in
    without_so (map.get (world_of before) h) m k at (put_none (hash_of before.limits.hash) m k v told)
added before middle (call.PutIfAbsent h k v) (Found None) is (opens, effect) =
    let (m, at, told, to) = says (world_of before) h (λ m. put_if_absent_in (hash_of before.limits.hash) m k v) (Found None) (world_of middle) effect in
    without_so (map.get (world_of before) h) m k at (absent_none (hash_of before.limits.hash) m k v told)
added before middle c answer is acts = absurd (false≢true is)

-- ---- laws of sizes

pub record SizeLaws : Type 0 where
  pub uses : HandlesUseSlots
  pub fills : OneHandleUsesAll
  pub grows : CallsGrowLittle
  pub copies : CopiesAreNoLarger
  pub keeps : SweepsKeepNodes

few_slots : (c : Call) → slots_of c ≤ most_makes_alone
few_slots (call.Close h) = omega arith
few_slots (call.Clear h) = omega arith
few_slots (call.Snapshot h) = omega arith
few_slots (call.Freeze h) = omega arith
few_slots c = omega arith

-- where one handle is open, as many slots are free as any call takes
pub free_alone : (state : State) → IsCalm state → IsOfRun state → OneHandleUsesAll → (handle : ℕ) → IsSome (map.get (world_of state) handle) → map.len (world_of state) < 2 →
    most_makes_alone ≤ length state.heap.free
free_alone state calm run all handle some few =
    let (root, e) = root_there state handle some in
    let used = all state handle root run e calm.rest calm.clean (alone_there state handle some few) in let room = calm.room handle root e in omega (arith, used, room)

-- a call that adds something is begun where one of the slots that were asked for is free
pub roomy : (state : State) (c : Call) → (nat_eq (free_in state) 0 && adds (world_of state) c) ≡ false → adds (world_of state) c ≡ true → reserve < length state.heap.free
roomy state c e is = by_free (nat_eq (free_in state) 0) refl
  where
    by_free : (b : Bool) → nat_eq (free_in state) 0 ≡ b → reserve < length state.heap.free
    by_free true none = absurd (false≢true (sym e ∙ ap (λ b. b && adds (world_of state) c) none ∙ is))
    by_free false some = grind (arith, some)

module _ (laws : SizeLaws) (before : State) (c : Call) (calm : IsCalm before) (can : CanCall before the_actor c) (allowed : core_denial before c ≡ None)
    (begun : (nat_eq (free_in before) 0 && adds (world_of before) c) ≡ false) (answer : Reply) (middle : State) (comes : (n : ℕ) × Comes before the_actor c n answer middle)
    (does : Does before c answer middle) where
  -- a handle that was open
  grown : (handle : ℕ) (root now : Root) → root_at before handle ≡ Some root → root_at middle handle ≡ Some now → length (nodes_of middle handle) + most_makes_alone ≤ before.limits.slots
  grown handle root now was is = by_growth (adds_key c answer) refl
    where
      by_growth : (b : Bool) → adds_key c answer ≡ b → length (nodes_of middle handle) + most_makes_alone ≤ before.limits.slots
      by_growth true e =
          let more = laws.grows before the_actor c can comes.0 answer middle comes.1 handle root now was is in
          let by : growth c answer ≡ most_growth = ap (λ b. if b then most_growth else 0) e in
          let used = laws.uses before handle root can.of_run was in
          let room = roomy before c begun (added before middle c answer e does.acts) in omega (arith, more, by, used, room)
      by_growth false e =
          let more = laws.grows before the_actor c can comes.0 answer middle comes.1 handle root now was is in
          let by : growth c answer ≡ 0 = ap (λ b. if b then most_growth else 0) e in let room = calm.room handle root was in omega (arith, more, by, room)

  -- one that was opened
  copied : (handle : ℕ) (now : Root) → root_at before handle ≡ None → root_at middle handle ≡ Some now → length (nodes_of middle handle) + most_makes_alone ≤ before.limits.slots
  copied handle now was is =
      let few = laws.copies before the_actor c can comes.0 answer middle comes.1 handle now was is in
      let (root, e) = root_there before (handle_of c) (open_if before c allowed) in let room = calm.room (handle_of c) root e in omega (arith, few, room)

  leaves : (handle : ℕ) (now : Root) → root_at middle handle ≡ Some now → length (nodes_of middle handle) + most_makes_alone ≤ before.limits.slots
  leaves handle now is = by_root (root_at before handle) refl
    where
      by_root : (o : Option Root) → root_at before handle ≡ o → length (nodes_of middle handle) + most_makes_alone ≤ before.limits.slots
      by_root None was = copied handle now was is
      by_root (Some root) was = grown handle root now was is

  -- and then all was swept
  pub leaves_room : (k : ℕ) (after : State) → Sweeps middle k after → Swept middle k after → LeavesRoom after
  leaves_room k after way swept handle root e =
      let (now, is) = root_there middle handle (subst (λ w. IsSome (map.get w handle)) swept.world (shown_there after handle root e)) in
      let same = laws.keeps middle k after does.of_run way handle now is in
      let slots : after.limits.slots ≡ before.limits.slots = ap (λ (l : Bounds). l.slots) (swept.limits ∙ does.limits) in
      let room = leaves handle now is in
      let nodes : length (nodes_of after handle) ≡ length (nodes_of middle handle) = ap length same in omega (arith, slots, room, nodes)

  -- ---- where it had no slots

  enough_by : EnoughSlotsForCalls → answer ≡ NoSlots → (b : Bool) → nat_le (slots_of c) (length before.heap.free) ≡ b → IsTight (slots_of c) before
  enough_by enough none true e = absurd (enough before the_actor c can (leb-true (slots_of c) (length before.heap.free) e) comes.0 answer middle comes.1 none)
  enough_by enough none false e = leb-false (slots_of c) (length before.heap.free) e

  tight_if : EnoughSlotsForCalls → answer ≡ NoSlots → IsTight (slots_of c) before
  tight_if enough none = enough_by enough none (nat_le (slots_of c) (length before.heap.free)) refl

  others_by : IsTight (slots_of c) before → (b : Bool) → nat_le 2 (map.len (world_of before)) ≡ b → 2 ≤ map.len (world_of before)
  others_by tight true e = leb-true 2 (map.len (world_of before)) e
  others_by tight false e =
      let free = free_alone before calm can.of_run laws.fills (handle_of c) (open_if before c allowed) (leb-false 2 (map.len (world_of before)) e) in
      let few = few_slots c in absurd (omega (arith, free, few, tight))

  pub lacks_if : EnoughSlotsForCalls → answer ≡ NoSlots → RunsOut before the_actor c → Lacks before c
  lacks_if enough none out = by_adding (adds (world_of before) c) refl
    where
      by_adding : (b : Bool) → adds (world_of before) c ≡ b → LacksSlotsBy b (map.len (world_of before)) before c
      by_adding true is =
          let room = roomy before c begun is in let tight = tight_if enough none in let few = few_slots c in absurd (omega (arith, room, tight, few))
      by_adding false is = let tight = tight_if enough none in (others_by tight (nat_le 2 (map.len (world_of before))) refl, tight, out)

-- ---- a call that isn't begun

pub full_lacks : (before : State) (c : Call) → (nat_eq (free_in before) 0 && adds (world_of before) c) ≡ true → Lacks before c
full_lacks before c e = by_free (nat_eq (free_in before) 0) refl
  where
    by_free : (b : Bool) → nat_eq (free_in before) 0 ≡ b → Lacks before c
    by_free false some = absurd (false≢true (sym (ap (λ b. b && adds (world_of before) c) some) ∙ e))
    by_free true none =
        let is : adds (world_of before) c ≡ true = sym (ap (λ b. b && adds (world_of before) c) none) ∙ e in
        subst (λ b. LacksSlotsBy b (map.len (world_of before)) before c) (sym is) (eqb-true (free_in before) 0 none)

pub not_begun : (before : State) (c : Call) → (nat_eq (free_in before) 0 && adds (world_of before) c) ≡ false → adds (world_of before) c ≡ true → free_in before ≡ 0 → ⊥
not_begun before c e is none = let room = roomy before c e is in grind (arith, room, none)

-- where a call has none, none is free of those that were asked for
pub none_free_by : (b : Bool) (many : ℕ) (before : State) (c : Call) → LacksSlotsBy b many before c → free_in before ≡ 0
none_free_by true many before c lacks = lacks
none_free_by false many before c lacks = let tight = lacks.1 in let few = few_slots c in grind (arith, tight, few)

pub none_free : (before : State) (c : Call) → Lacks before c → free_in before ≡ 0
none_free before c lacks = none_free_by (adds (world_of before) c) (map.len (world_of before)) before c lacks
