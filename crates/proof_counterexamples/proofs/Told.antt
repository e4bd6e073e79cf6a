-- What a call is told in a view, and the view after it, as far as the short runs need it.
use Rattle.std.specs.Prelude.{◌≡◌, ℕ, Bool, true, false, not, nat_eq, Option, Some, None, option_and_then, if◌then◌else◌}
use Rattle.std.specs.Option.{option_eq}
use Rattle.std.specs.FinMap as map
use Rattle.std.proofs.Common.{refl, sym, ap, ◌∙◌, subst, eq-eqb}
use Rattle.std.proofs.lemmas.Option.{none-some, some_pair_parts}
use Rattle.proof_counterexamples.specs.Vocabulary.{Access, Writable, ReadOnly, Call, Get, Put, Remove, Snapshot, Freeze, Reply, KeyMap, HandleState, HandleMap, Effect, with_access, remove_in}
use Rattle.proof_counterexamples.specs.Vocabulary.{is_crowded, naming}
use Rattle.proof_counterexamples.specs.Beneath.history.specs.declared.replies.Reply.TheVariants as reply
use Rattle.proof_counterexamples.specs.Beneath.history.specs.Effects.{put_in}
use Rattle.proof_counterexamples.proofs.Views.{Keys, View, seen, shown, written, shown_insert, keys_insert, keys_remove}

-- the recorded reply has another value than this one
abbrev pub differs : Option Reply → Option ℕ → Bool
differs (Some (reply.Found a)) b = not (option_eq nat_eq a b)
differs recorded b = false

-- whether the recorded reply is another than the call is told, and the view after the call
abbrev pub Told : Type 0
Told = Bool × View

abbrev pub told_get : View → ℕ → Option Reply → Option (Access × Keys) → Option Told
told_get view k recorded None = None
told_get view k recorded (Some s) = Some (differs recorded (s.1 k), view)

abbrev put_told : View → ℕ → ℕ → ℕ → Option ℕ → Access → Keys → Option Told
put_told view h k v found Writable keys = Some (differs (Some (reply.Found found)) (keys k), written view h (Some (Writable, written keys k (Some v))))
put_told view h k v found ReadOnly keys = None

-- of a put only where a value was recorded: it wasn't crowded then
abbrev pub told_put : View → ℕ → ℕ → ℕ → Option Reply → Option (Access × Keys) → Option Told
told_put view h k v (Some (reply.Found found)) (Some s) = put_told view h k v found s.0 s.1
told_put view h k v recorded s = None

abbrev remove_told : View → ℕ → ℕ → Option Reply → Access → Keys → Option Told
remove_told view h k recorded Writable keys = Some (differs recorded (keys k), written view h (Some (Writable, written keys k None)))
remove_told view h k recorded ReadOnly keys = None

abbrev pub told_remove : View → ℕ → ℕ → Option Reply → Option (Access × Keys) → Option Told
told_remove view h k recorded None = None
told_remove view h k recorded (Some s) = remove_told view h k recorded s.0 s.1

abbrev copy_told : View → Access → ℕ → Access → Keys → Option Told
copy_told view access n Writable keys = Some (false, written view n (Some (access, keys)))
copy_told view access n ReadOnly keys = None

abbrev pub told_copy : View → Access → Option ℕ → Option (Access × Keys) → Option Told
told_copy view access (Some n) (Some s) = copy_told view access n s.0 s.1
told_copy view access opens s = None

-- by what is recorded of the call; none where it isn't computed here
abbrev pub told : View → Call → Option ℕ → Option Reply → Option Told
told view (Get h k) opens recorded = told_get view k recorded (view h)
told view (Put h k v) opens recorded = told_put view h k v recorded (view h)
told view (Remove h k) opens recorded = told_remove view h k recorded (view h)
told view (Snapshot h) opens recorded = told_copy view Writable opens (view h)
told view (Freeze h) opens recorded = told_copy view ReadOnly opens (view h)
told view call opens recorded = None

-- it was told rightly: the reply isn't another, and the next world shows the view
abbrev pub Fits : Option Told → HandleMap → Type 0
Fits None next = Unit {0}
Fits (Some t) next = (t.0 ≡ false) × (shown next ≡ t.1)

-- the reply is the recorded one, if one is
abbrev pub Tells : Option Reply → Reply → Type 0
Tells recorded answer = (other : Reply) → recorded ≡ Some other → answer ≡ other

same_value : (a : Option ℕ) → not (option_eq nat_eq a a) ≡ false
same_value None = refl
same_value (Some n) = ap not (eq-eqb n n refl)

found_parts : (a b : Option ℕ) → reply.Found a ≡ reply.Found b → a ≡ b
found_parts a b e = cc

same_differs : (recorded : Option Reply) (b : Option ℕ) → Tells recorded (reply.Found b) → differs recorded b ≡ false
same_differs (Some (reply.Found a)) b tells = subst (λ x. not (option_eq nat_eq a x) ≡ false) (sym (found_parts b a (tells (reply.Found a) refl))) (same_value a)
same_differs recorded b tells = refl

tells_as : (recorded : Option Reply) (answer other : Reply) → Tells recorded answer → other ≡ answer → Tells recorded other
tells_as recorded answer other tells e = λ r is. e ∙ tells r is

found_crowded : (a : Option ℕ) → reply.Crowded ≡ reply.Found a → ⊥
found_crowded a e = cc

-- ---- the effects of calls, by what stands at their handle

abbrev read_in : HandleMap → ℕ → Option HandleState → Option (Reply × HandleMap)
read_in w k o = option_and_then {U = Reply × HandleMap} (λ m. Some (reply.Found (map.get m k), w)) (option_and_then {U = KeyMap} (λ s. Some s.pairs) o)

abbrev changed_by : HandleMap → ℕ → (KeyMap → Reply × KeyMap) → Option KeyMap → Option (Reply × HandleMap)
changed_by w h change m = option_and_then {U = Reply × HandleMap} (λ m. Some ((change m).0, naming w h Writable (change m).1)) m

abbrev writable_in : Option HandleState → Option KeyMap
writable_in o = option_and_then {U = KeyMap} (λ s. with_access Writable s.access s.pairs) o

abbrev copied_unless : Bool → HandleMap → ℕ → Access → KeyMap → Option (Reply × HandleMap)
copied_unless taken w n access m = if taken then None else Some (reply.Opened n, naming w n access m)

abbrev copied_by : HandleMap → Option ℕ → Access → Option KeyMap → Option (Reply × HandleMap)
copied_by w opens access m =
    option_and_then {U = Reply × HandleMap} (λ m. option_and_then {U = Reply × HandleMap} (λ n. copied_unless (map.contains_key w n) w n access m) opens) m

abbrev put_by : Bool → ℕ → ℕ → KeyMap → Reply × KeyMap
put_by crowded k v m = if crowded then (reply.Crowded, m) else (reply.Found (map.get m k), map.insert m k v)

-- ---- they are told rightly

fits_get : (w next : HandleMap) (k : ℕ) (recorded : Option Reply) (answer : Reply) (o : Option HandleState) → Tells recorded answer →
    read_in w k o ≡ Some (answer, next) → Fits (told_get (shown w) k recorded (seen o)) next
fits_get w next k recorded answer None tells e = tt
fits_get w next k recorded answer (Some s) tells e =
    let parts = some_pair_parts (reply.Found (map.get s.pairs k)) answer w next e in
    (same_differs recorded (map.get s.pairs k) (tells_as recorded answer _ tells parts.0), ap shown (sym parts.1))

-- the world in which a handle names another map
fits_write : (w next : HandleMap) (h : ℕ) (access : Access) (m : KeyMap) (keys : Keys) → naming w h access m ≡ next → ◌≡◌ {A = Keys} (λ q. map.get m q) keys →
    shown next ≡ written (shown w) h (Some (access, keys))
fits_write w next h access m keys e same =
    ap shown (sym e) ∙ shown_insert w h (record { access = access; pairs = m }) ∙ ap (λ (ks : Keys). written (shown w) h (Some (access, ks))) same

fits_removed : (w next : HandleMap) (h k : ℕ) (recorded : Option Reply) (answer : Reply) (access : Access) (m : KeyMap) → Tells recorded answer →
    changed_by w h (λ m. remove_in m k) (with_access Writable access m) ≡ Some (answer, next) → Fits (remove_told (shown w) h k recorded access (λ q. map.get m q)) next
fits_removed w next h k recorded answer Writable m tells e =
    let parts = some_pair_parts (reply.Found (map.get m k)) answer (naming w h Writable (map.remove m k)) next e in
    (same_differs recorded (map.get m k) (tells_as recorded answer _ tells parts.0), fits_write w next h Writable (map.remove m k) _ parts.1 (keys_remove m k))
fits_removed w next h k recorded answer ReadOnly m tells e = tt

fits_remove : (w next : HandleMap) (h k : ℕ) (recorded : Option Reply) (answer : Reply) (o : Option HandleState) → Tells recorded answer →
    changed_by w h (λ m. remove_in m k) (writable_in o) ≡ Some (answer, next) → Fits (told_remove (shown w) h k recorded (seen o)) next
fits_remove w next h k recorded answer None tells e = tt
fits_remove w next h k recorded answer (Some s) tells e = fits_removed w next h k recorded answer s.access s.pairs tells e

-- a put that was told a value isn't crowded
fits_put_by : (w next : HandleMap) (h k v : ℕ) (found : Option ℕ) (answer : Reply) (m : KeyMap) (crowded : Bool) → Tells (Some (reply.Found found)) answer →
    changed_by w h (put_by crowded k v) (Some m) ≡ Some (answer, next) → Fits (put_told (shown w) h k v found Writable (λ q. map.get m q)) next
fits_put_by w next h k v found answer m true tells e =
    let parts = some_pair_parts reply.Crowded answer (naming w h Writable m) next e in
    absurd (found_crowded found (parts.0 ∙ tells (reply.Found found) refl))
fits_put_by w next h k v found answer m false tells e =
    let parts = some_pair_parts (reply.Found (map.get m k)) answer (naming w h Writable (map.insert m k v)) next e in (
      same_differs (Some (reply.Found found)) (map.get m k) (tells_as (Some (reply.Found found)) answer _ tells parts.0),
      fits_write w next h Writable (map.insert m k v) _ parts.1 (keys_insert m k v),
    )

fits_put_in : (hash : ℕ → ℕ) (w next : HandleMap) (h k v : ℕ) (found : Option ℕ) (answer : Reply) (access : Access) (m : KeyMap) → Tells (Some (reply.Found found)) answer →
    changed_by w h (λ m. put_in hash m k v) (with_access Writable access m) ≡ Some (answer, next) → Fits (put_told (shown w) h k v found access (λ q. map.get m q)) next
fits_put_in hash w next h k v found answer Writable m tells e = fits_put_by w next h k v found answer m (is_crowded hash m k) tells e
fits_put_in hash w next h k v found answer ReadOnly m tells e = tt

fits_put : (hash : ℕ → ℕ) (w next : HandleMap) (h k v : ℕ) (recorded : Option Reply) (answer : Reply) (o : Option HandleState) → Tells recorded answer →
    changed_by w h (λ m. put_in hash m k v) (writable_in o) ≡ Some (answer, next) → Fits (told_put (shown w) h k v recorded (seen o)) next
fits_put hash w next h k v (Some (reply.Found found)) answer (Some s) tells e = fits_put_in hash w next h k v found answer s.access s.pairs tells e
fits_put hash w next h k v recorded answer o tells e = tt

-- a copy stands under a number that wasn't there
fits_copy_by : (w next : HandleMap) (n : ℕ) (access : Access) (answer : Reply) (m : KeyMap) (taken : Bool) →
    copied_unless taken w n access m ≡ Some (answer, next) → Fits (copy_told (shown w) access n Writable (λ q. map.get m q)) next
fits_copy_by w next n access answer m true e = absurd (none-some _ e)
fits_copy_by w next n access answer m false e =
    let parts = some_pair_parts (reply.Opened n) answer (naming w n access m) next e in (refl, fits_write w next n access m _ parts.1 refl)

fits_copy_of : (w next : HandleMap) (n : ℕ) (access : Access) (answer : Reply) (was : Access) (m : KeyMap) →
    copied_by w (Some n) access (with_access Writable was m) ≡ Some (answer, next) → Fits (copy_told (shown w) access n was (λ q. map.get m q)) next
fits_copy_of w next n access answer Writable m e = fits_copy_by w next n access answer m (map.contains_key w n) e
fits_copy_of w next n access answer ReadOnly m e = tt

fits_copy : (w next : HandleMap) (opens : Option ℕ) (access : Access) (answer : Reply) (o : Option HandleState) →
    copied_by w opens access (writable_in o) ≡ Some (answer, next) → Fits (told_copy (shown w) access opens (seen o)) next
fits_copy w next (Some n) access answer (Some s) e = fits_copy_of w next n access answer s.access s.pairs e
fits_copy w next opens access answer o e = tt

-- a call with an effect is told rightly
pub fits : (hash : ℕ → ℕ) (w next : HandleMap) (call : Call) (opens : Option ℕ) (recorded : Option Reply) (answer : Reply) → Tells recorded answer →
    Effect hash w call opens answer next → Fits (told (shown w) call opens recorded) next
fits hash w next (Get h k) opens recorded answer tells e = fits_get w next k recorded answer (map.get w h) tells e
fits hash w next (Put h k v) opens recorded answer tells e = fits_put hash w next h k v recorded answer (map.get w h) tells e
fits hash w next (Remove h k) opens recorded answer tells e = fits_remove w next h k recorded answer (map.get w h) tells e
fits hash w next (Snapshot h) opens recorded answer tells e = fits_copy w next opens Writable answer (map.get w h) e
fits hash w next (Freeze h) opens recorded answer tells e = fits_copy w next opens ReadOnly answer (map.get w h) e
fits hash w next call opens recorded answer tells e = tt
