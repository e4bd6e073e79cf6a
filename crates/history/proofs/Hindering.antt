-- What stands in the way of a call that has no effect.
use Rattle.std.proofs.Common.{◌≡◌, ℕ, Option, Some, None, option_and_then, is_some, IsSome, if◌then◌else◌, refl, sym, ap, ◌∙◌, subst}
use Rattle.std.proofs.lemmas.Bool.{false≢true}
use Rattle.std.proofs.lemmas.Option.{same_Some}
use Rattle.std.specs.FinMap as map
use Rattle.history.specs.declared.calls.Access.{Access}
use Rattle.history.specs.declared.calls.Access.TheVariants.{Writable, ReadOnly}
use Rattle.history.specs.declared.calls.Call.{Call}
use Rattle.history.specs.declared.calls.Call.TheVariants.{Get, Put, PutIfAbsent, Replace, ReplaceIf, Remove, RemoveIf, Clear, Snapshot, Freeze, Close, Entries, Count}
use Rattle.history.specs.declared.replies.Reply.{Reply}
use Rattle.history.specs.declared.replies.Reply.TheVariants as reply
use Rattle.history.specs.declared.faults.Obstacle.{Obstacle}
use Rattle.history.specs.declared.faults.Obstacle.TheVariants.{NeedsWritable, NeedsReadOnly}
use Rattle.history.specs.Worlds.{KeyMap, HandleState, HandleMap}
use Rattle.history.specs.Effects.{map_of, writable_map_of, read_only_map_of, with_access, naming, copying, effect}
use Rattle.history.specs.Histories.{OpensRightly}
use Rattle.history.specs.Faults.{needed_access, IsOfKind, Hinders}
use Rattle.history.specs.Handles.{handle_of}
use Rattle.history.specs.Obstacles.{mismatch}

state_in : (o : Option HandleState) (access : Access) → option_and_then (λ s. Some s.access) o ≡ Some access → (m : KeyMap) × (o ≡ Some (record { access = access; pairs = m }))
state_in None access is = let wrong : ⊥ = cc is in absurd wrong
state_in (Some s) access is = (s.pairs, ap (λ (a : Access). Some (record { access = a; pairs = s.pairs })) (same_Some s.access access is))

-- a handle that is there names a map
pub named : (world : HandleMap) (h : ℕ) (access : Access) → option_and_then (λ s. Some s.access) (map.get world h) ≡ Some access → IsOfKind world h access
named world h access is = state_in (map.get world h) access is

no_state : (o : Option HandleState) → option_and_then (λ s. Some s.access) o ≡ None → o ≡ None
no_state None is = refl
no_state (Some s) is = let wrong : ⊥ = cc is in absurd wrong

-- a handle of the wrong kind
pub kind_hinders : (world : HandleMap) (call : Call) (opens : Option ℕ) (h : ℕ) (access : Access) (needed : Option Access) (obstacle : Obstacle) → needed_access call ≡ needed → h ≡ handle_of call
    → IsOfKind world h access → mismatch needed access h ≡ Some obstacle → Hinders world call opens obstacle
kind_hinders world call opens h Writable None obstacle needs here names is = let wrong : ⊥ = cc is in absurd wrong
kind_hinders world call opens h ReadOnly None obstacle needs here names is = let wrong : ⊥ = cc is in absurd wrong
kind_hinders world call opens h Writable (Some Writable) obstacle needs here names is = let wrong : ⊥ = cc is in absurd wrong
kind_hinders world call opens h ReadOnly (Some ReadOnly) obstacle needs here names is = let wrong : ⊥ = cc is in absurd wrong
kind_hinders world call opens h ReadOnly (Some Writable) obstacle needs here names is =
    let P : Obstacle → Type 0 = λ o. Hinders world call opens o in
    subst P (same_Some (NeedsWritable h) obstacle is) (here, needs, names)
kind_hinders world call opens h Writable (Some ReadOnly) obstacle needs here names is =
    let P : Obstacle → Type 0 = λ o. Hinders world call opens o in
    subst P (same_Some (NeedsReadOnly h) obstacle is) (here, needs, names)

-- the handle that the call is to open is open already
abbrev pub IsTaken : HandleMap → Call → Option ℕ → Type 0
IsTaken world call opens = (n : ℕ) × (opens ≡ Some n) × IsOfKind world (handle_of call) Writable × IsSome (map.get world n)

-- a call on a map that is there has an effect

no_map : (world : HandleMap) (h : ℕ) (access : Access) (does : KeyMap → Option (Reply × HandleMap)) → ((m : KeyMap) → IsSome (does m)) → IsOfKind world h access
    → ¬ (option_and_then does (map_of world h) ≡ None)
no_map world h access does some names none =
    let there : map_of world h ≡ Some names.0 = ap (λ (o : Option HandleState). option_and_then (λ s. Some s.pairs) o) names.1 in
    let P : Option (Reply × HandleMap) → Type 0 = λ o. IsSome o in
    false≢true (subst P (sym (ap (λ (o : Option KeyMap). option_and_then does o) there) ∙ none) (some names.0))

no_writable : (world : HandleMap) (h : ℕ) (does : KeyMap → Option (Reply × HandleMap)) → ((m : KeyMap) → IsSome (does m)) → IsOfKind world h Writable
    → ¬ (option_and_then does (writable_map_of world h) ≡ None)
no_writable world h does some names none =
    let there : writable_map_of world h ≡ Some names.0 = ap (λ (o : Option HandleState). option_and_then (λ s. with_access Writable s.access s.pairs) o) names.1 in
    let P : Option (Reply × HandleMap) → Type 0 = λ o. IsSome o in
    false≢true (subst P (sym (ap (λ (o : Option KeyMap). option_and_then does o) there) ∙ none) (some names.0))

no_read_only : (world : HandleMap) (h : ℕ) (does : KeyMap → Option (Reply × HandleMap)) → ((m : KeyMap) → IsSome (does m)) → IsOfKind world h ReadOnly
    → ¬ (option_and_then does (read_only_map_of world h) ≡ None)
no_read_only world h does some names none =
    let there : read_only_map_of world h ≡ Some names.0 = ap (λ (o : Option HandleState). option_and_then (λ s. with_access ReadOnly s.access s.pairs) o) names.1 in
    let P : Option (Reply × HandleMap) → Type 0 = λ o. IsSome o in
    false≢true (subst P (sym (ap (λ (o : Option KeyMap). option_and_then does o) there) ∙ none) (some names.0))

-- a copy may lack its new number alone
numbered : (o : Option HandleState) (n : ℕ) (world : HandleMap) (access : Access) (m : KeyMap)
    → (if◌then◌else◌ {A = Option (Reply × HandleMap)} (is_some o) None (Some (reply.Opened n, naming world n access m))) ≡ None → IsSome o
numbered None n world access m none = let wrong : ⊥ = cc none in absurd wrong
numbered (Some s) n world access m none = refl

taken : (world : HandleMap) (h : ℕ) (opens : Option ℕ) (access : Access) → IsSome opens → IsOfKind world h Writable → copying world h opens access ≡ None
    → (n : ℕ) × (opens ≡ Some n) × IsOfKind world h Writable × IsSome (map.get world n)
taken world h None access opens names none = absurd (false≢true opens)
taken world h (Some n) access opens names none =
    let there : writable_map_of world h ≡ Some names.0 = ap (λ (o : Option HandleState). option_and_then (λ s. with_access Writable s.access s.pairs) o) names.1 in
    let copies : copying world h (Some n) access ≡ (if◌then◌else◌ {A = Option (Reply × HandleMap)} (is_some (map.get world n)) None (Some (reply.Opened n, naming world n access names.0))) =
    ap (λ (o : Option KeyMap). option_and_then {U = Reply × HandleMap} (λ m. if map.contains_key world n then None else Some (reply.Opened n, naming world n access m)) o) there in
    (n, refl, names, numbered (map.get world n) n world access names.0 (sym copies ∙ none))

-- where the handle is of the right kind, only a copy may lack an effect
pub all_else : (hash : ℕ → ℕ) (world : HandleMap) (call : Call) (opens : Option ℕ) (access : Access) → OpensRightly call opens → IsOfKind world (handle_of call) access
    → mismatch (needed_access call) access (handle_of call) ≡ None → effect hash world call opens ≡ None → IsTaken world call opens
all_else hash world (Get h k) opens access rightly names fits none = absurd (no_map world h access _ (λ m. refl) names none)
all_else hash world (Close h) opens access rightly names fits none = absurd (no_map world h access _ (λ m. refl) names none)
all_else hash world (Put h k v) opens Writable rightly names fits none = absurd (no_writable world h _ (λ m. refl) names none)
all_else hash world (PutIfAbsent h k v) opens Writable rightly names fits none = absurd (no_writable world h _ (λ m. refl) names none)
all_else hash world (Replace h k v) opens Writable rightly names fits none = absurd (no_writable world h _ (λ m. refl) names none)
all_else hash world (ReplaceIf h k a b) opens Writable rightly names fits none = absurd (no_writable world h _ (λ m. refl) names none)
all_else hash world (Remove h k) opens Writable rightly names fits none = absurd (no_writable world h _ (λ m. refl) names none)
all_else hash world (RemoveIf h k v) opens Writable rightly names fits none = absurd (no_writable world h _ (λ m. refl) names none)
all_else hash world (Clear h) opens Writable rightly names fits none = absurd (no_writable world h _ (λ m. refl) names none)
all_else hash world (Entries h) opens ReadOnly rightly names fits none = absurd (no_read_only world h _ (λ m. refl) names none)
all_else hash world (Count h) opens ReadOnly rightly names fits none = absurd (no_read_only world h _ (λ m. refl) names none)
all_else hash world (Snapshot h) opens Writable rightly names fits none = taken world h opens Writable rightly names none
all_else hash world (Freeze h) opens Writable rightly names fits none = taken world h opens ReadOnly rightly names none
all_else hash world (Entries h) opens Writable rightly names fits none = let wrong : ⊥ = cc fits in absurd wrong
all_else hash world (Count h) opens Writable rightly names fits none = let wrong : ⊥ = cc fits in absurd wrong
all_else hash world (Put h k v) opens ReadOnly rightly names fits none = let wrong : ⊥ = cc fits in absurd wrong
all_else hash world (PutIfAbsent h k v) opens ReadOnly rightly names fits none = let wrong : ⊥ = cc fits in absurd wrong
all_else hash world (Replace h k v) opens ReadOnly rightly names fits none = let wrong : ⊥ = cc fits in absurd wrong
all_else hash world (ReplaceIf h k a b) opens ReadOnly rightly names fits none = let wrong : ⊥ = cc fits in absurd wrong
all_else hash world (Remove h k) opens ReadOnly rightly names fits none = let wrong : ⊥ = cc fits in absurd wrong
all_else hash world (RemoveIf h k v) opens ReadOnly rightly names fits none = let wrong : ⊥ = cc fits in absurd wrong
all_else hash world (Clear h) opens ReadOnly rightly names fits none = let wrong : ⊥ = cc fits in absurd wrong
all_else hash world (Snapshot h) opens ReadOnly rightly names fits none = let wrong : ⊥ = cc fits in absurd wrong
all_else hash world (Freeze h) opens ReadOnly rightly names fits none = let wrong : ⊥ = cc fits in absurd wrong
