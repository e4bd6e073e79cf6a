-- A frozen handle stays so until a call closes it.
use Rattle.std.proofs.Common.{◌≡◌, ◌≢◌, ℕ, cond, Bool, true, false, All, List, [], ◌∷◌, Option, Some, None, option_and_then, is_some, refl, sym, ap, subst, ◌∙◌, ne_eqb, eq-eqb}
use Rattle.std.specs.Cmp.{nat_cmp_total, unsigned_tied}
use Rattle.std.specs.FinMap as map
use Rattle.std.proofs.lemmas.Bool.{true≢false}
use Rattle.std.proofs.lemmas.List.Elements.{All-head, All-tail}
use Rattle.std.proofs.lemmas.Option.{none-some, same_Some}
use Rattle.history.specs.declared.calls.Access.{Access}
use Rattle.history.specs.declared.calls.Access.TheVariants.{Writable, ReadOnly}
use Rattle.history.specs.declared.calls.Call.{Call}
use Rattle.history.specs.declared.calls.Call.TheVariants.{Get, Put, PutIfAbsent, Replace, ReplaceIf, Remove, RemoveIf, Clear, Snapshot, Freeze, Close, Entries, Count}
use Rattle.history.specs.declared.replies.Reply.{Reply}
use Rattle.history.specs.declared.replies.Reply.TheVariants as reply
use Rattle.history.specs.Effects.{changing, copying, map_of, naming, put_if_absent_in, put_in, read_only_map_of, remove_if_in, remove_in, replace_if_in, replace_in}
use Rattle.history.specs.Effects.{with_access, writable_map_of, Effect}
use Rattle.history.specs.Orders.{Answered, Replays}
use Rattle.history.specs.Worlds.{HandleMap, HandleState, KeyMap}
use Rattle.concurrent_map.specs.Laws.{ExportsAreOfTheFreeze}

-- the handle names this map, which never changes
abbrev IsFrozen : HandleMap → ℕ → KeyMap → Type 0
IsFrozen w handle m = map.get w handle ≡ Some (record { access = ReadOnly; pairs = m })

and_then : {S T : Type 0} (f : S → Option T) (o : Option S) (y : T) → option_and_then f o ≡ Some y → (x : S) × (o ≡ Some x) × (f x ≡ Some y)
and_then f None y e = absurd (none-some y e)
and_then f (Some x) y e = (x, refl, e)

named : (w : HandleMap) (h : ℕ) (access : Access) (n : KeyMap) → map.get (naming w h access n) h ≡ Some (record { access = access; pairs = n })
named w h access n =
    let shown : HandleState = record { access = access; pairs = n } in
    map.get-insert nat_cmp_total w h shown h ∙ ap (λ b. cond b (Some shown) (map.get w h)) (unsigned_tied h h ∙ eq-eqb h h refl)

-- ---- a copy

record Copied (w next : HandleMap) (h : ℕ) (opens : Option ℕ) (access : Access) (answer : Reply) : Type 0 where
  number : ℕ
  m : KeyMap
  from : writable_map_of w h ≡ Some m
  its : opens ≡ Some number
  new : map.contains_key w number ≡ false
  is : next ≡ naming w number access m

copied_by : (w next : HandleMap) (h : ℕ) (opens : Option ℕ) (access : Access) (answer : Reply) → copying w h opens access ≡ Some (answer, next) → Copied w next h opens access answer
copied_by w next h opens access answer e =
    let (m, from, is) = and_then (λ m. option_and_then (λ n. cond (map.contains_key w n) None (Some (reply.Opened n, naming w n access m))) opens) (writable_map_of w h) (answer, next) e in
    let (n, its, at) = and_then (λ n. cond (map.contains_key w n) None (Some (reply.Opened n, naming w n access m))) opens (answer, next) is in
    by m n from its (map.contains_key w n) refl at
  where
    by : (m : KeyMap) (n : ℕ) → writable_map_of w h ≡ Some m → opens ≡ Some n → (b : Bool) → map.contains_key w n ≡ b →
        cond {A = Option (Reply × HandleMap)} b None (Some (reply.Opened n, naming w n access m)) ≡ Some (answer, next) → Copied w next h opens access answer
    by m n from its true there at = absurd (none-some (answer, next) at)
    by m n from its false none at =
        record { number = n; m = m; from = from; its = its; new = none; is = sym (ap (λ p. p.1) (same_Some (reply.Opened n, naming w n access m) (answer, next) at)) }

-- ---- what a call leaves that isn't about the handle

module _ (handle : ℕ) (m : KeyMap) (w : HandleMap) (frozen : IsFrozen w handle m) where
  named_other : (h : ℕ) (access : Access) (n : KeyMap) → handle ≢ h → IsFrozen (naming w h access n) handle m
  named_other h access n apart =
      let shown : HandleState = record { access = access; pairs = n } in
      map.get-insert nat_cmp_total w h shown handle ∙ ap (λ b. cond b (Some shown) (map.get w handle)) (unsigned_tied handle h ∙ ne_eqb handle h apart) ∙ frozen

  removed_other : (h : ℕ) → handle ≢ h → IsFrozen (map.remove w h) handle m
  removed_other h apart = map.get-remove nat_cmp_total w h handle ∙ ap (λ b. cond b None (map.get w handle)) (unsigned_tied handle h ∙ ne_eqb handle h apart) ∙ frozen

  stays : (next : HandleMap) → next ≡ w → IsFrozen next handle m
  stays next same = subst (λ v. IsFrozen v handle m) (sym same) frozen

  -- what may be changed is another one
  of_writable : (h : ℕ) (n : KeyMap) → writable_map_of w h ≡ Some n → handle ≢ h
  of_writable h n at same =
      let shut : writable_map_of w handle ≡ None = ap (λ o. option_and_then (λ (s : HandleState). with_access Writable s.access s.pairs) o) frozen in
      none-some n (sym shut ∙ ap (writable_map_of w) same ∙ at)

  changed : (h : ℕ) (change : KeyMap → Reply × KeyMap) (answer : Reply) (next : HandleMap) → changing w h change ≡ Some (answer, next) → IsFrozen next handle m
  changed h change answer next e =
      let (n, at, is) = and_then (λ n. Some ((change n).0, naming w h Writable (change n).1)) (writable_map_of w h) (answer, next) e in
      let same = ap (λ (p : Reply × HandleMap). p.1) (same_Some ((change n).0, naming w h Writable (change n).1) (answer, next) is) in
      subst (λ v. IsFrozen v handle m) same (named_other h Writable (change n).1 (of_writable h n at))

  -- a copy is opened under a number that isn't there
  copied : (h : ℕ) (opens : Option ℕ) (access : Access) (answer : Reply) (next : HandleMap) → copying w h opens access ≡ Some (answer, next) → IsFrozen next handle m
  copied h opens access answer next e =
      let c = copied_by w next h opens access answer e in
      let apart : handle ≢ c.number = λ here. there (map.get w c.number) (ap (map.get w) (sym here) ∙ frozen) c.new in
      subst (λ v. IsFrozen v handle m) (sym c.is) (named_other c.number access c.m apart)
    where
      there : (o : Option HandleState) → o ≡ Some (record { access = ReadOnly; pairs = m }) → is_some o ≡ false → ⊥
      there None e none = none-some (record { access = ReadOnly; pairs = m }) e
      there (Some s) e none = true≢false none

  read : (o : Option KeyMap) (says : KeyMap → Reply) (answer : Reply) (next : HandleMap) →
      option_and_then {U = Reply × HandleMap} (λ n. Some (says n, w)) o ≡ Some (answer, next) → IsFrozen next handle m
  read o says answer next e =
      let (n, at, is) = and_then {T = Reply × HandleMap} (λ n. Some (says n, w)) o (answer, next) e in
      stays next (sym (ap (λ (p : Reply × HandleMap). p.1) (same_Some (says n, w) (answer, next) is)))

  -- another handle is closed
  closed : (h : ℕ) (answer : Reply) (next : HandleMap) → handle ≢ h →
      option_and_then {U = Reply × HandleMap} (λ n. Some (reply.Closed, map.remove w h)) (map_of w h) ≡ Some (answer, next) → IsFrozen next handle m
  closed h answer next apart e =
      let (n, at, is) = and_then {T = Reply × HandleMap} (λ n. Some (reply.Closed, map.remove w h)) (map_of w h) (answer, next) e in
      subst (λ v. IsFrozen v handle m) (ap (λ (p : Reply × HandleMap). p.1) (same_Some (reply.Closed, map.remove w h) (answer, next) is)) (removed_other h apart)

  by_effect : (hash : ℕ → ℕ) (next : HandleMap) (call : Call) (opens : Option ℕ) (answer : Reply) → Effect hash w call opens answer next → call ≢ Close handle → IsFrozen next handle m
  by_effect hash next (Get h k) opens answer is kept_open = read (map_of w h) (λ n. reply.Found (map.get n k)) answer next is
  by_effect hash next (Put h k v) opens answer is kept_open = changed h (λ n. put_in hash n k v) answer next is
  by_effect hash next (PutIfAbsent h k v) opens answer is kept_open = changed h (λ n. put_if_absent_in hash n k v) answer next is
  by_effect hash next (Replace h k v) opens answer is kept_open = changed h (λ n. replace_in n k v) answer next is
  by_effect hash next (ReplaceIf h k a b) opens answer is kept_open = changed h (λ n. replace_if_in n k a b) answer next is
  by_effect hash next (Remove h k) opens answer is kept_open = changed h (λ n. remove_in n k) answer next is
  by_effect hash next (RemoveIf h k v) opens answer is kept_open = changed h (λ n. remove_if_in n k v) answer next is
  by_effect hash next (Clear h) opens answer is kept_open = changed h (λ n. (reply.Cleared, map.empty)) answer next is
  by_effect hash next (Snapshot h) opens answer is kept_open = copied h opens Writable answer next is
  by_effect hash next (Freeze h) opens answer is kept_open = copied h opens ReadOnly answer next is
  by_effect hash next (Close h) opens answer is kept_open = closed h answer next (λ same. kept_open (ap Close (sym same))) is
  by_effect hash next (Entries h) opens answer is kept_open = read (read_only_map_of w h) (λ n. reply.Pairs (map.entries n)) answer next is
  by_effect hash next (Count h) opens answer is kept_open = read (read_only_map_of w h) (λ n. reply.Count (map.len n)) answer next is

frozen_stays : (hash : ℕ → ℕ) (handle : ℕ) (m : KeyMap) (calls : List Answered) (w last : HandleMap) → IsFrozen w handle m → All (λ one. one.call ≢ Close handle) calls → Replays hash calls w last →
    IsFrozen last handle m
frozen_stays hash handle m [] w last frozen kept_open same = subst (λ v. IsFrozen v handle m) (sym same) frozen
frozen_stays hash handle m (one ∷ more) w last frozen kept_open (next, effect, rest) =
    frozen_stays hash handle m more next last (by_effect handle m w frozen hash next one.call one.opens one.answer effect (All-head (λ one. one.call ≢ Close handle) one more kept_open))
    (All-tail (λ one. one.call ≢ Close handle) one more kept_open) rest

-- ---- what is listed

abbrev pairs_of : Reply → List (ℕ × ℕ)
pairs_of (reply.Pairs ps) = ps
pairs_of answer = []

listed_of : (now after : HandleMap) (copy : ℕ) (m : KeyMap) (listed : List (ℕ × ℕ)) → IsFrozen now copy m →
    option_and_then {U = Reply × HandleMap} (λ n. Some (reply.Pairs (map.entries n), now)) (read_only_map_of now copy) ≡ Some (reply.Pairs listed, after) → listed ≡ map.entries m
listed_of now after copy m listed frozen e =
    let at : read_only_map_of now copy ≡ Some m = ap (λ o. option_and_then (λ (s : HandleState). with_access ReadOnly s.access s.pairs) o) frozen in
    let is = subst (λ o. option_and_then {U = Reply × HandleMap} (λ n. Some (reply.Pairs (map.entries n), now)) o ≡ Some (reply.Pairs listed, after)) at e in
    sym (ap (λ (p : Reply × HandleMap). pairs_of p.0) (same_Some (reply.Pairs (map.entries m), now) (reply.Pairs listed, after) is))

pub exports_are_of_the_freeze : ExportsAreOfTheFreeze
exports_are_of_the_freeze hash handle copy between before frozen now after listed froze kept_open rest lists =
    let c = copied_by before frozen handle (Some copy) ReadOnly (reply.Opened copy) froze in
    let here : IsFrozen frozen c.number c.m = subst (λ v. IsFrozen v c.number c.m) (sym c.is) (named before c.number ReadOnly c.m) in
    let at_copy : IsFrozen frozen copy c.m = subst (λ n. IsFrozen frozen n c.m) (sym (same_Some copy c.number c.its)) here in
    (c.m, c.from, listed_of now after copy c.m listed (frozen_stays hash copy c.m between frozen now at_copy kept_open rest) lists)
