-- What denies a call in the machine is what denies a call of the core; and which calls nothing denies.
use Rattle.std.specs.Prelude.{◌≡◌, ◌<◌, ◌⊎◌, ℕ, Bool, true, false, not, ◌&&◌, IsSome, is_some, nat_le, if◌then◌else◌, List, [], ◌∷◌, Option, Some, None, option_map}
use Rattle.std.specs.FinMap as map
use Rattle.std.specs.List.{list_any}
use Rattle.std.proofs.Common.{refl, sym, ap, subst, arith, inl, inr, get_or, ◌∙◌}
use Rattle.std.proofs.lemmas.Bool.{false≢true}
use Rattle.std.proofs.lemmas.Option.{same_Some}
use Rattle.ctrie_map.specs.Vocabulary.{Refusal, Access, Writable, ReadOnly, Call, HandleMap, HandleState, KeyMap, Operation, Root, handle_of, needs_writable, needs_read_only, opens_handle, is_close}
use Rattle.ctrie_map.specs.Vocabulary.{access_of, begin_denial, first_reason, handles_taken, is_access, is_actor, is_busy, is_running, is_spent, names, runs_on, State, handle_limit, root_at}
use Rattle.ctrie_base.specs.declared.refusals.Refusal.TheVariants as refuse
use Rattle.history.specs.declared.calls.Call.TheVariants as call
use Rattle.ctrie_map.specs.Beneath.map_worlds.specs.Worlds.{named_at, world_of}
use Rattle.ctrie_map.specs.Beneath.map_worlds.proofs.Counted.{handles_at_rest}
use Rattle.ctrie_map.specs.Beneath.map_worlds.proofs.Shown.{shows_roots}
use Rattle.ctrie_map.specs.declared.errors.MapError.{MapError}
use Rattle.ctrie_map.specs.declared.errors.MapError.TheVariants as error
use Rattle.ctrie_map.specs.Beneath.proof_straight.specs.Resting.{IsOfRun}
use Rattle.ctrie_map.specs.Cores.{core_denial, is_worn_out, the_actor}
use Rattle.ctrie_map.specs.Denials.{denial_by, is_frozen}
use Rattle.ctrie_map.specs.Drafts.{HasMap}
use Rattle.ctrie_map.specs.Performing.{IsChange, of_refusal}

-- ---- the machine's reasons, at rest

abbrev reasons : Bool → Bool → Option Access → Bool → Bool → Bool → Bool → Bool → Bool → Option Refusal
reasons actor runs access writes reads blocked opens full spent = first_reason (
    (not actor, refuse.NoActor) ∷ (runs, refuse.ActorBusy) ∷ (not (is_some access), refuse.NoHandle) ∷ (writes && is_access ReadOnly access, refuse.ReadOnly)
    ∷ (reads && is_access Writable access, refuse.NotReadOnly) ∷ (blocked, refuse.Busy) ∷ (opens && full, refuse.HandlesFull) ∷ (spent, refuse.Spent) ∷ [])

-- the map's reason is the machine's, but that the machine knows when all steps were taken
abbrev pub Due : Option MapError → Bool → Option Refusal → Type 0
Due (Some told) spent (Some refusal) = of_refusal refusal ≡ told
Due (Some told) spent None = ⊥
Due None spent (Some refusal) = (refusal ≡ refuse.Spent) × (spent ≡ true)
Due None spent None = Unit {0}

due_open : (access : Access) (writes opens full spent : Bool) (shown : HandleState) → shown.access ≡ access → (taken : ℕ) → nat_le handle_limit taken ≡ full →
    Due (denial_by writes opens (Some shown) taken) spent (reasons true false (Some access) writes false false opens full spent)
due_open ReadOnly true opens full spent shown is taken e = rw is refl
due_open ReadOnly false true true spent shown is taken e = rw e refl
due_open ReadOnly false true false true shown is taken e = rw e (refl, refl)
due_open ReadOnly false true false false shown is taken e = rw e tt
due_open ReadOnly false false full true shown is taken e = (refl, refl)
due_open ReadOnly false false full false shown is taken e = tt
due_open Writable true true true spent shown is taken e = rw is (rw e refl)
due_open Writable true true false true shown is taken e = rw is (rw e (refl, refl))
due_open Writable true true false false shown is taken e = rw is (rw e tt)
due_open Writable true false full true shown is taken e = rw is (refl, refl)
due_open Writable true false full false shown is taken e = rw is tt
due_open Writable false true true spent shown is taken e = rw e refl
due_open Writable false true false true shown is taken e = rw e (refl, refl)
due_open Writable false true false false shown is taken e = rw e tt
due_open Writable false false full true shown is taken e = (refl, refl)
due_open Writable false false full false shown is taken e = tt

due_by : (state : State) (handle : ℕ) (o : Option Root) (writes opens spent : Bool) (taken : ℕ) →
    Due (denial_by writes opens (option_map (named_at state handle) o) taken) spent (reasons true false (access_of o) writes false false opens (nat_le handle_limit taken) spent)
due_by state handle None writes opens spent taken = refl
due_by state handle (Some root) writes opens spent taken =
    due_open root.access writes opens (nat_le handle_limit taken) spent (named_at state handle root) refl taken refl

-- ---- what is false at rest

none_at : (actors : List (Option Operation)) → list_any is_some actors ≡ false → is_some (get_or actors 0 None) ≡ false
none_at [] rest = refl
none_at (None ∷ actors) rest = refl
none_at (Some operation ∷ actors) rest = absurd (false≢true (sym rest))

none_named : (handle : ℕ) (actors : List (Option Operation)) → list_any is_some actors ≡ false → list_any (names handle) actors ≡ false
none_named handle [] e = refl
none_named handle (None ∷ more) e = none_named handle more e
none_named handle (Some operation ∷ more) e = absurd (false≢true (sym e))

and_false : (a b : Bool) → b ≡ false → (a && b) ≡ false
and_false true b e = e
and_false false b e = refl

not_reading : (c : Call) → IsChange c → needs_read_only c ≡ false
not_reading (call.Entries h) change = absurd change
not_reading (call.Count h) change = absurd change
not_reading c change = refl

module _ (state : State) (run : IsOfRun state) (rest : is_busy state ≡ false) where
  runs_nothing : is_running state the_actor ≡ false
  runs_nothing = none_at state.actors rest

  pub taken_at_rest : handles_taken state ≡ map.len (world_of state)
  taken_at_rest =
      subst (λ s. handles_taken s ≡ map.len (world_of s)) (sym run.is)
      (handles_at_rest state.limits run.steps (subst (λ s. is_busy s ≡ false) run.is rest))

  module _ (one : state.limits.actors ≡ 1) (c : Call) (change : IsChange c) where
    is_the_actor : is_actor state the_actor ≡ true
    is_the_actor = ap (λ n. nat_le the_actor n) one

    denial_so : begin_denial state the_actor c None ≡ reasons true false (access_of (root_at state (handle_of c))) (needs_writable c) false false (opens_handle c)
        (nat_le handle_limit (map.len (world_of state))) (is_spent state)
    denial_so =
        let access = access_of (root_at state (handle_of c)) in
        let writes = needs_writable c in
        let opens = opens_handle c in
        let spent = is_spent state in
        let running = is_running state the_actor in
        let reads = needs_read_only c in
        let blocked = is_close c && runs_on state (handle_of c) in
        let full = nat_le handle_limit (handles_taken state) in
        ap (λ a. reasons a running access writes reads blocked opens full spent) is_the_actor ∙ ap (λ a. reasons true a access writes reads blocked opens full spent) runs_nothing
        ∙ ap (λ a. reasons true false access writes a blocked opens full spent) (not_reading c change)
        ∙ ap (λ a. reasons true false access writes false a opens full spent) (and_false (is_close c) _ (none_named (handle_of c) state.actors rest))
        ∙ ap (λ n. reasons true false access writes false false opens (nat_le handle_limit n) spent) (taken_at_rest)

    -- so it is due in the map
    pub due : Due (core_denial state c) (is_spent state) (begin_denial state the_actor c None)
    due =
        let world = world_of state in
        let spent = is_spent state in
        let at : core_denial state c
        ≡ denial_by (needs_writable c) (opens_handle c) (option_map (named_at state (handle_of c)) (root_at state (handle_of c))) (map.len world) =
        ap (λ s. denial_by (needs_writable c) (opens_handle c) s (map.len world)) (shows_roots state (handle_of c)) in
        let by_root = denial_by (needs_writable c) (opens_handle c) (option_map (named_at state (handle_of c)) (root_at state (handle_of c))) (map.len world) in
        subst (λ d. Due d spent (begin_denial state the_actor c None)) (sym at) (subst (Due by_root spent) (sym denial_so)
        (due_by state (handle_of c) (root_at state (handle_of c)) (needs_writable c) (opens_handle c) spent (map.len world)))

-- ---- what is told

-- only these are told
denied_with : (writes opens : Bool) (o : Option HandleState) (taken : ℕ) (told : MapError) → denial_by writes opens o taken ≡ Some told →
    (told ≡ error.NoHandle) ⊎ ((told ≡ error.ReadOnly) ⊎ (told ≡ error.HandlesFull))
denied_with writes opens None taken told e = inl (same_Some told error.NoHandle (sym e))
denied_with writes opens (Some shown) taken told e = by_tests (writes && is_frozen shown.access) (opens && nat_le handle_limit taken) e
  where
    by_tests : (a b : Bool) → (if a then Some error.ReadOnly else (if b then Some error.HandlesFull else None)) ≡ Some told →
        (told ≡ error.NoHandle) ⊎ ((told ≡ error.ReadOnly) ⊎ (told ≡ error.HandlesFull))
    by_tests true b e = inr (inl (same_Some told error.ReadOnly (sym e)))
    by_tests false true e = inr (inr (same_Some told error.HandlesFull (sym e)))
    by_tests false false e = cc e

-- so of these only
abbrev pub IsDenial : MapError → Type 0
IsDenial error.NoHandle = Unit {0}
IsDenial error.ReadOnly = Unit {0}
IsDenial error.HandlesFull = Unit {0}
IsDenial told = ⊥

pub told_by : (writes opens : Bool) (o : Option HandleState) (taken : ℕ) (told : MapError) → denial_by writes opens o taken ≡ Some told → IsDenial told
told_by writes opens o taken told e = elim (denied_with writes opens o taken told e) [
  | inl is ↦ subst IsDenial (sym is) tt
  | inr (inl is) ↦ subst IsDenial (sym is) tt
  | inr (inr is) ↦ subst IsDenial (sym is) tt
]

-- a map whose core has taken all its steps is worn out
worn_when_spent : (state : State) → is_spent state ≡ true → is_worn_out state ≡ true
worn_when_spent state spent = grind (arith, spent)

-- so a call is begun that nothing denies in the map, where it isn't worn out
pub is_begun : (state : State) → IsOfRun state → is_busy state ≡ false → state.limits.actors ≡ 1 →
    (c : Call) → IsChange c → core_denial state c ≡ None → is_worn_out state ≡ false → begin_denial state the_actor c None ≡ None
is_begun state run rest one c change allowed life =
    by_denial (begin_denial state the_actor c None) refl (subst (λ d. Due d (is_spent state) (begin_denial state the_actor c None)) allowed (due state run rest one c change))
  where
    by_denial : (d : Option Refusal) → begin_denial state the_actor c None ≡ d → Due None (is_spent state) d → begin_denial state the_actor c None ≡ None
    by_denial None is due_so = is
    by_denial (Some why) is due_so = absurd (false≢true (sym life ∙ worn_when_spent state due_so.1))

-- ---- what nothing denies

-- the close of an open handle
pub close_allowed : (before : State) (handle : ℕ) → IsSome (map.get (world_of before) handle) → core_denial before (call.Close handle) ≡ None
close_allowed before handle some = by_shown (map.get (world_of before) handle) some
  where
    by_shown : (o : Option HandleState) → IsSome o → denial_by false false o (map.len (world_of before)) ≡ None
    by_shown None is = cc is
    by_shown (Some shown) is = refl

module _ (before : State) (handle : ℕ) (m : KeyMap) (has : HasMap (world_of before) handle m) where
  abbrev world : HandleMap
  world = world_of before

  -- a change of a writable map
  pub change_allowed : (c : Call) → handle_of c ≡ handle → needs_writable c ≡ true → opens_handle c ≡ false → core_denial before c ≡ None
  change_allowed c on writes opens =
      ap (λ b. denial_by (needs_writable c) b (map.get world (handle_of c)) (map.len world)) opens
      ∙ ap (λ b. denial_by b false (map.get world (handle_of c)) (map.len world)) writes ∙ ap (λ o. denial_by true false o (map.len world)) (ap (map.get world) on ∙ has)

  -- a copy of it, where not all handles are open
  pub copy_allowed : map.len world < handle_limit → core_denial before (call.Snapshot handle) ≡ None
  copy_allowed room =
      let few : nat_le handle_limit (map.len world) ≡ false = grind (arith, room) in
      ap (λ o. denial_by true true o (map.len world)) has ∙ ap (λ b. if b then Some error.HandlesFull else None) few
