-- Which calls are never full while one handle alone is open, and which are where no slot is free.
use Rattle.std.specs.Prelude.{◌≡◌, ◌≢◌, ◌≤◌, ℕ, Bool, true, false, not, Option, Some, None, Result, Ok, Err, IfErr}
use Rattle.std.specs.FinMap as map
use Rattle.std.proofs.Common.{refl, ap, subst, arith, ◌∙◌}
use Rattle.ctrie_map.specs.Vocabulary.{Call, Reply, NoSlots, State}
use Rattle.ctrie_map.specs.declared.errors.MapError.{MapError}
use Rattle.ctrie_map.specs.declared.errors.MapError.TheVariants as error
use Rattle.ctrie_map.specs.Changes.{HasKey, IsAlone, OneHandleHasSlots, Refuses, core_call}
use Rattle.ctrie_map.specs.Cores.{LacksSlotsBy, adds, is_without}
use Rattle.ctrie_map.specs.Maps.{MapState, handles_of}
use Rattle.ctrie_map.specs.Updating.{giving}

-- a call that adds nothing lacks slots only where other handles are open
others_open : (b : Bool) (many : ℕ) (core : State) (c : Call) → LacksSlotsBy b many core c → b ≡ false → 2 ≤ many
others_open true many core c lacks e = cc e
others_open false many core c lacks e = lacks.0

pub one_handle_has_slots : OneHandleHasSlots
one_handle_has_slots before c alone none lacks =
    let two = others_open (adds (handles_of before) c) (map.len (handles_of before)) before.core (core_call before c) lacks none in omega (arith, two, alone)

never_full : (before : MapState) (c : Call) (Crowds : Type 0) (after : MapState) → IsAlone before → adds (handles_of before) c ≡ false → Refuses before c Crowds after error.Full → ⊥
never_full before c Crowds after alone none p = one_handle_has_slots before c alone none p.2

-- it goes on
pub goes_on : {A : Type 0} (before : MapState) (c : Call) (Crowds : Type 0) (after : MapState) (told : Result A MapError) → IfErr told (Refuses before c Crowds after) →
    IsAlone before → adds (handles_of before) c ≡ false → told ≢ Err error.Full
goes_on before c Crowds after told p alone none is = never_full before c Crowds after alone none (subst (λ r. IfErr r (Refuses before c Crowds after)) is p)

-- a put of a key that has a value adds none
pub adds_none : (before : MapState) (handle key : ℕ) → HasKey before handle key → is_without (map.get (handles_of before) handle) key ≡ false
adds_none before handle key (shown, at, has) = ap (λ o. is_without o key) at ∙ ap not has

-- nor does an update of such a key
pub gives_none : (before : MapState) (handle key : ℕ) (value : Option ℕ) → HasKey before handle key → adds (handles_of before) (giving handle key value) ≡ false
gives_none before handle key None has = refl
gives_none before handle key (Some value) has = adds_none before handle key has

-- what is told of a call that has no slots
pub is_full : {A : Type 0} (said : Result Reply MapError → Result A MapError) (told : Result A MapError) (result : Result Reply MapError) → told ≡ said result → result ≡ Ok NoSlots →
    said (Ok NoSlots) ≡ Err error.Full → told ≡ Err error.Full
is_full said told result is none full = is ∙ ap said none ∙ full
