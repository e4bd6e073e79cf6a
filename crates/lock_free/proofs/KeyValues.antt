-- What calls do to one key of a handle.
use Rattle.std.proofs.Common.{◌≡◌, ◌≢◌, ◌==◌, ◌&&◌, ℕ, inl, inr, Bool, true, false, not, cond, is_some, nat_cmp, Option, Some, None, option_and_then, refl, sym}
use Rattle.std.proofs.Common.{ap, subst, ◌∙◌, eqb-true, eq-eqb, ne_eqb, if◌then◌else◌}
use Rattle.std.proofs.lemmas.Bool.{cases_eq, true≢false, and_parts, eqb-false}
use Rattle.std.proofs.lemmas.Option.{none-some, same_Some}
use Rattle.std.specs.Cmp.{nat_cmp_total, unsigned_tied}
use Rattle.std.specs.FinMap as map
use Rattle.history.specs.declared.calls.Access.{Access}
use Rattle.history.specs.declared.calls.Access.TheVariants.{Writable, ReadOnly}
use Rattle.history.specs.declared.calls.Call.{Call}
use Rattle.history.specs.declared.calls.Call.TheVariants.{Get, Put, PutIfAbsent, Replace, ReplaceIf, Remove, RemoveIf, Clear, Snapshot, Freeze, Close, Entries, Count}
use Rattle.history.specs.declared.replies.Reply.{Reply}
use Rattle.history.specs.declared.replies.Reply.TheVariants as reply
use Rattle.history.specs.Effects.{Effect, changing, copying, naming, map_of, writable_map_of, read_only_map_of, with_access, put_in, put_if_absent_in, replace_in, replace_if_in}
use Rattle.history.specs.Effects.{others, remove_in, remove_if_in, is_crowded, has_value}
use Rattle.history.specs.Worlds.{KeyMap, HandleState, HandleMap, first_world}
use Rattle.lock_free.specs.OneKey.{value_in, is_number, touches, KeyAnswers, KeyStep}

-- ---- finite maps

got : {X : Type 0} (m : map.FinMap nat_cmp X) (k : ℕ) (v : X) (q : ℕ) → map.get (map.insert m k v) q ≡ cond (q == k) (Some v) (map.get m q)
got m k v q = map.get-insert nat_cmp_total m k v q ∙ ap (λ b. cond b (Some v) (map.get m q)) (unsigned_tied q k)

got_same : {X : Type 0} (m : map.FinMap nat_cmp X) (k : ℕ) (v : X) → map.get (map.insert m k v) k ≡ Some v
got_same m k v = got m k v k ∙ ap (λ b. cond b (Some v) (map.get m k)) (eq-eqb k k refl)

got_other : {X : Type 0} (m : map.FinMap nat_cmp X) (k : ℕ) (v : X) (q : ℕ) → q ≢ k → map.get (map.insert m k v) q ≡ map.get m q
got_other m k v q apart = got m k v q ∙ ap (λ b. cond b (Some v) (map.get m q)) (ne_eqb q k apart)

left : {X : Type 0} (m : map.FinMap nat_cmp X) (k q : ℕ) → map.get (map.remove m k) q ≡ cond (q == k) None (map.get m q)
left m k q = map.get-remove nat_cmp_total m k q ∙ ap (λ b. cond b None (map.get m q)) (unsigned_tied q k)

left_same : {X : Type 0} (m : map.FinMap nat_cmp X) (k : ℕ) → map.get (map.remove m k) k ≡ None
left_same m k = left m k k ∙ ap (λ b. cond b None (map.get m k)) (eq-eqb k k refl)

left_other : {X : Type 0} (m : map.FinMap nat_cmp X) (k q : ℕ) → q ≢ k → map.get (map.remove m k) q ≡ map.get m q
left_other m k q apart = left m k q ∙ ap (λ b. cond b None (map.get m q)) (ne_eqb q k apart)

-- ---- what calls on a key do to a map

-- another key has what it had
abbrev Beside : KeyMap → ℕ → KeyMap → Type 0
Beside m k next = (q : ℕ) → q ≢ k → map.get next q ≡ map.get m q

-- the key has what the call says
abbrev Itself : Call → KeyMap → ℕ → Reply × KeyMap → Type 0
Itself call m k done = KeyAnswers call (map.get m k) done.0 (map.get done.1 k)

put_beside : (hash : ℕ → ℕ) (m : KeyMap) (k v : ℕ) → Beside m k (put_in hash m k v).1
put_beside hash m k v q apart = by (is_crowded hash m k)
  where
    by : (b : Bool) → map.get (cond {A = Reply × KeyMap} b (reply.Crowded, m) (reply.Found (map.get m k), map.insert m k v)).1 q ≡ map.get m q
    by true = refl
    by false = got_other m k v q apart

-- a key that is crowded has no value
no_value : (o : Option ℕ) → is_some o ≡ false → o ≡ None
no_value None e = refl
no_value (Some x) e = absurd (true≢false e)

crowded_none : (hash : ℕ → ℕ) (m : KeyMap) (k : ℕ) → is_crowded hash m k ≡ true → map.get m k ≡ None
crowded_none hash m k e = no_value (map.get m k) (by (is_some (map.get m k)) (and_parts (not (map.contains_key m k)) (others hash m k == 32) e).0)
  where
    by : (b : Bool) → not b ≡ true → b ≡ false
    by true e = absurd (true≢false (sym e))
    by false e = refl

put_itself : (hash : ℕ → ℕ) (m : KeyMap) (h k v : ℕ) → Itself (Put h k v) m k (put_in hash m k v)
put_itself hash m h k v = by (is_crowded hash m k) refl
  where
    by : (b : Bool) → is_crowded hash m k ≡ b → Itself (Put h k v) m k (cond b (reply.Crowded, m) (reply.Found (map.get m k), map.insert m k v))
    by true crowded = (let none = crowded_none hash m k crowded in inr (refl, none, refl, none))
    by false crowded = inl (ap (λ x. (reply.Found (map.get m k), x)) (got_same m k v))

absent_beside : (hash : ℕ → ℕ) (m : KeyMap) (k v : ℕ) → Beside m k (put_if_absent_in hash m k v).1
absent_beside hash m k v q apart = by (map.contains_key m k)
  where
    by : (b : Bool) → map.get (cond {A = Reply × KeyMap} b (reply.Found (map.get m k), m) (put_in hash m k v)).1 q ≡ map.get m q
    by true = refl
    by false = put_beside hash m k v q apart

absent_itself : (hash : ℕ → ℕ) (m : KeyMap) (h k v : ℕ) → Itself (PutIfAbsent h k v) m k (put_if_absent_in hash m k v)
absent_itself hash m h k v = by (map.contains_key m k) refl
  where
    put : (b : Bool) → is_some (map.get m k) ≡ false → Itself (PutIfAbsent h k v) m k (cond b (reply.Crowded, m) (reply.Found (map.get m k), map.insert m k v))
    put true none = (let absent = no_value (map.get m k) none in inr (refl, absent, refl, absent))
    put false none = inl (ap (λ x. (reply.Found (map.get m k), x)) (got_same m k v ∙ sym (ap (λ b. cond b (map.get m k) (Some v)) none)))

    by : (b : Bool) → is_some (map.get m k) ≡ b → Itself (PutIfAbsent h k v) m k (cond b (reply.Found (map.get m k), m) (put_in hash m k v))
    by true some = inl (ap (λ x. (reply.Found (map.get m k), x)) (sym (ap (λ b. cond b (map.get m k) (Some v)) some)))
    by false none = put (is_crowded hash m k) none

replace_beside : (m : KeyMap) (k v : ℕ) → Beside m k (replace_in m k v).1
replace_beside m k v q apart = by (map.contains_key m k)
  where
    by : (b : Bool) → map.get (cond b (map.insert m k v) m) q ≡ map.get m q
    by true = got_other m k v q apart
    by false = refl

replace_itself : (m : KeyMap) (h k v : ℕ) → Itself (Replace h k v) m k (replace_in m k v)
replace_itself m h k v = inl (ap (λ x. (reply.Found (map.get m k), x)) (by (map.contains_key m k)))
  where
    by : (b : Bool) → map.get (cond b (map.insert m k v) m) k ≡ cond b (Some v) (map.get m k)
    by true = got_same m k v
    by false = refl

-- where a test holds the map has a value for the key, or none, and else nothing changes
test_beside : (m next : KeyMap) (k : ℕ) → Beside m k next → (b : Bool) → Beside m k (cond b next m)
test_beside m next k h true q apart = h q apart
test_beside m next k h false q apart = refl

test_itself : (m next : KeyMap) (k : ℕ) (x : Option ℕ) → map.get next k ≡ x → (b : Bool) → map.get (cond b next m) k ≡ cond b x (map.get m k)
test_itself m next k x h true = h
test_itself m next k x h false = refl

-- ---- inversion

and_then : {S T : Type 0} (f : S → Option T) (o : Option S) (y : T) → option_and_then f o ≡ Some y → (x : S) × (o ≡ Some x) × (f x ≡ Some y)
and_then f None y e = absurd (none-some y e)
and_then f (Some x) y e = (x, refl, e)

-- what is writable is there
writable_there : (w : HandleMap) (h : ℕ) (m : KeyMap) → writable_map_of w h ≡ Some m → map_of w h ≡ Some m
writable_there w h m e =
    let (s, there, is) = and_then (λ (s : HandleState). with_access Writable s.access s.pairs) (map.get w h) m e in
    ap (λ (o : Option HandleState). option_and_then (λ s. Some s.pairs) o) there ∙ by s.access is
  where
    by : (access : Access) {pairs : KeyMap} → with_access Writable access pairs ≡ Some m → Some pairs ≡ Some m
    by Writable e = e
    by ReadOnly e = absurd (none-some m e)

read_only_there : (w : HandleMap) (h : ℕ) (access : Access) (m : KeyMap) → map_of (naming w h access m) h ≡ Some m
read_only_there w h access m = ap (λ (o : Option HandleState). option_and_then (λ s. Some s.pairs) o) (got_same w h (record { access = access; pairs = m }))

-- another handle has what it had
named_other : (w : HandleMap) (h : ℕ) (access : Access) (m : KeyMap) (handle key : ℕ) → handle ≢ h → value_in (naming w h access m) handle key ≡ value_in w handle key
named_other w h access m handle key apart =
    ap (λ (o : Option HandleState). option_and_then (λ m. map.get m key) (option_and_then (λ s. Some s.pairs) o)) (got_other w h (record { access = access; pairs = m }) handle apart)

named_same : (w : HandleMap) (h : ℕ) (access : Access) (m : KeyMap) (key : ℕ) → value_in (naming w h access m) h key ≡ map.get m key
named_same w h access m key = ap (λ (o : Option KeyMap). option_and_then (λ m. map.get m key) o) (read_only_there w h access m)

value_there : (w : HandleMap) (h key : ℕ) (m : KeyMap) → map_of w h ≡ Some m → value_in w h key ≡ map.get m key
value_there w h key m e = ap (λ (o : Option KeyMap). option_and_then (λ m. map.get m key) o) e

-- ---- a call that changes a handle's map

pub record Changed (w next : HandleMap) (h : ℕ) (change : KeyMap → Reply × KeyMap) (answer : Reply) : Type 0 where
  pub m : KeyMap
  pub there : map_of w h ≡ Some m
  pub says : answer ≡ (change m).0
  pub is : next ≡ naming w h Writable (change m).1

changed_by : (w next : HandleMap) (h : ℕ) (change : KeyMap → Reply × KeyMap) (answer : Reply) → changing w h change ≡ Some (answer, next) → Changed w next h change answer
changed_by w next h change answer e =
    let (m, there, is) = and_then (λ m. Some ((change m).0, naming w h Writable (change m).1)) (writable_map_of w h) (answer, next) e in
    let both = same_Some ((change m).0, naming w h Writable (change m).1) (answer, next) is in
    record { m = m; there = writable_there w h m there; says = sym (ap (λ p. p.0) both); is = sym (ap (λ p. p.1) both) }

module _ (w next : HandleMap) (h k : ℕ) (change : KeyMap → Reply × KeyMap) (answer : Reply) (c : Changed w next h change answer) (handle key : ℕ) where
  -- another handle, or another key of it
  pub beside : ((m : KeyMap) → Beside m k (change m).1) → (h == handle) && (k == key) ≡ false → value_in next handle key ≡ value_in w handle key
  beside others none = ap (λ x. value_in x handle key) c.is ∙ elim (cases_eq handle h) [
    | inl same ↦
        (let differs : key ≢ k = λ e. true≢false (sym (ap (λ b. b && (k == key)) (eq-eqb h handle (sym same)) ∙ eq-eqb k key (sym e)) ∙ none) in
        ap (λ n. value_in (naming w h Writable (change c.m).1) n key) same ∙ named_same w h Writable (change c.m).1 key ∙ others c.m key differs ∙ sym (value_there w h key c.m c.there)
        ∙ ap (λ n. value_in w n key) (sym same))
    | inr apart ↦ named_other w h Writable (change c.m).1 handle key apart
  ]

  pub itself : (call : Call) → ((m : KeyMap) → Itself call m k (change m)) → (h == handle) && (k == key) ≡ true → KeyAnswers call (value_in w handle key) answer (value_in next handle key)
  itself call does on =
      let parts = and_parts (h == handle) (k == key) on in
      let at_handle = eqb-true h handle parts.0 in
      let at_key = eqb-true k key parts.1 in
      let before : value_in w handle key ≡ map.get c.m k = ap (λ n. value_in w n key) (sym at_handle) ∙ value_there w h key c.m c.there ∙ ap (map.get c.m) (sym at_key) in
      let after : value_in next handle key ≡ map.get (change c.m).1 k =
      ap (λ x. value_in x handle key) c.is ∙ ap (λ n. value_in (naming w h Writable (change c.m).1) n key) (sym at_handle) ∙ named_same w h Writable (change c.m).1 key
      ∙ ap (map.get (change c.m).1) (sym at_key) in
      subst (λ x. KeyAnswers call x answer (value_in next handle key)) (sym before)
      (subst (λ x. KeyAnswers call (map.get c.m k) answer x) (sym after) (subst (λ r. KeyAnswers call (map.get c.m k) r (map.get (change c.m).1 k)) (sym c.says) (does c.m)))

-- ---- a call that changes nothing

same_world : (w next : HandleMap) (o : Option KeyMap) (of : KeyMap → Reply) (answer : Reply) → option_and_then {U = Reply × HandleMap} (λ m. Some (of m, w)) o ≡ Some (answer, next) →
    (m : KeyMap) × (o ≡ Some m) × (answer ≡ of m) × (next ≡ w)
same_world w next o of answer e =
    let (m, there, is) = and_then {T = Reply × HandleMap} (λ m. Some (of m, w)) o (answer, next) e in
    let both = same_Some (of m, w) (answer, next) is in
    (m, there, sym (ap (λ p. p.0) both), sym (ap (λ p. p.1) both))

-- ---- a copy

record Copied (w next : HandleMap) (opens : Option ℕ) : Type 0 where
  number : ℕ
  its : opens ≡ Some number
  access : Access
  m : KeyMap
  is : next ≡ naming w number access m

copied_by : (w next : HandleMap) (h : ℕ) (opens : Option ℕ) (access : Access) (answer : Reply) → copying w h opens access ≡ Some (answer, next) → Copied w next opens
copied_by w next h opens access answer e =
    let (m, there, is) = and_then (λ m. option_and_then (λ n. if map.contains_key w n then None else Some (reply.Opened n, naming w n access m)) opens) (writable_map_of w h) (answer, next) e in
    let (n, its, at) = and_then (λ n. if map.contains_key w n then None else Some (reply.Opened n, naming w n access m)) opens (answer, next) is in
    record { number = n; its = its; access = access; m = m; is = by n m (map.contains_key w n) at }
  where
    by : (n : ℕ) (m : KeyMap) (b : Bool) → cond {A = Option (Reply × HandleMap)} b None (Some (reply.Opened n, naming w n access m)) ≡ Some (answer, next) → next ≡ naming w n access m
    by n m true at = absurd (none-some (answer, next) at)
    by n m false at = sym (ap (λ p. p.1) (same_Some (reply.Opened n, naming w n access m) (answer, next) at))

copied_beside : (w next : HandleMap) (opens : Option ℕ) (handle key : ℕ) → Copied w next opens → is_number handle opens ≡ false → value_in next handle key ≡ value_in w handle key
copied_beside w next opens handle key c none =
    let apart : c.number ≢ handle = eqb-false c.number handle (sym (ap (is_number handle) c.its) ∙ none) in
    ap (λ x. value_in x handle key) c.is ∙ named_other w c.number c.access c.m handle key (λ e. apart (sym e))

-- ---- each call

module _ (hash : ℕ → ℕ) (w next : HandleMap) (opens : Option ℕ) (answer : Reply) (handle key : ℕ) where
  -- what touches the key in no way leaves it
  pub untouched : (call : Call) → Effect hash w call opens answer next → touches handle key call opens ≡ false → value_in next handle key ≡ value_in w handle key
  untouched (Get h k) e none = let s = same_world w next (map_of w h) (λ m. reply.Found (map.get m k)) answer e in ap (λ x. value_in x handle key) s.3
  untouched (Put h k v) e none = beside w next h k (λ m. put_in hash m k v) answer (changed_by w next h (λ m. put_in hash m k v) answer e) handle key (λ m. put_beside hash m k v) none
  untouched (PutIfAbsent h k v) e none =
      beside w next h k (λ m. put_if_absent_in hash m k v) answer (changed_by w next h (λ m. put_if_absent_in hash m k v) answer e) handle key (λ m. absent_beside hash m k v) none
  untouched (Replace h k v) e none = beside w next h k (λ m. replace_in m k v) answer (changed_by w next h (λ m. replace_in m k v) answer e) handle key (λ m. replace_beside m k v) none
  untouched (ReplaceIf h k a b) e none =
      beside w next h k (λ m. replace_if_in m k a b) answer (changed_by w next h (λ m. replace_if_in m k a b) answer e) handle key
      (λ m. test_beside m (map.insert m k b) k (λ q apart. got_other m k b q apart) (has_value m k a)) none
  untouched (Remove h k) e none = beside w next h k (λ m. remove_in m k) answer (changed_by w next h (λ m. remove_in m k) answer e) handle key (λ m q apart. left_other m k q apart) none
  untouched (RemoveIf h k v) e none =
      beside w next h k (λ m. remove_if_in m k v) answer (changed_by w next h (λ m. remove_if_in m k v) answer e) handle key
      (λ m. test_beside m (map.remove m k) k (λ q apart. left_other m k q apart) (has_value m k v)) none
  untouched (Clear h) e none =
      let c = changed_by w next h (λ m. (reply.Cleared, map.empty)) answer e in
      ap (λ x. value_in x handle key) c.is ∙ named_other w h Writable map.empty handle key (λ same. eqb-false h handle none (sym same))
  untouched (Snapshot h) e none = copied_beside w next opens handle key (copied_by w next h opens Writable answer e) none
  untouched (Freeze h) e none = copied_beside w next opens handle key (copied_by w next h opens ReadOnly answer e) none
  untouched (Close h) e none =
      let (m, there, is) = and_then {T = Reply × HandleMap} (λ m. Some (reply.Closed, map.remove w h)) (map_of w h) (answer, next) e in
      let gone = sym (ap (λ p. p.1) (same_Some (reply.Closed, map.remove w h) (answer, next) is)) in
      ap (λ x. value_in x handle key) gone
      ∙ ap (λ (o : Option HandleState). option_and_then (λ m. map.get m key) (option_and_then (λ s. Some s.pairs) o)) (left_other w h handle (λ same. eqb-false h handle none (sym same)))
  untouched (Entries h) e none = let s = same_world w next (read_only_map_of w h) (λ m. reply.Pairs (map.entries m)) answer e in ap (λ x. value_in x handle key) s.3
  untouched (Count h) e none = let s = same_world w next (read_only_map_of w h) (λ m. reply.Count (map.len m)) answer e in ap (λ x. value_in x handle key) s.3

  -- and what touches it is answered by what it has
  pub touched : (call : Call) → Effect hash w call opens answer next → touches handle key call opens ≡ true → KeyStep call (value_in w handle key) answer (value_in next handle key)
  touched (Get h k) e on =
      let (m, there, says, is) = same_world w next (map_of w h) (λ m. reply.Found (map.get m k)) answer e in
      let parts = and_parts (h == handle) (k == key) on in
      let value : value_in w handle key ≡ map.get m k = ap (λ n. value_in w n key) (sym (eqb-true h handle parts.0)) ∙ value_there w h key m there ∙ ap (map.get m) (sym (eqb-true k key parts.1)) in
      inl (ap (λ r. (r, value_in next handle key)) (says ∙ ap reply.Found (sym value)) ∙ ap (λ x. (reply.Found (value_in w handle key), value_in x handle key)) is)
  touched (Put h k v) e on =
      itself w next h k (λ m. put_in hash m k v) answer (changed_by w next h (λ m. put_in hash m k v) answer e) handle key (Put h k v) (λ m. put_itself hash m h k v) on
  touched (PutIfAbsent h k v) e on =
      itself w next h k (λ m. put_if_absent_in hash m k v) answer (changed_by w next h (λ m. put_if_absent_in hash m k v) answer e) handle key (PutIfAbsent h k v) (λ m. absent_itself hash m h k v) on
  touched (Replace h k v) e on =
      itself w next h k (λ m. replace_in m k v) answer (changed_by w next h (λ m. replace_in m k v) answer e) handle key (Replace h k v) (λ m. replace_itself m h k v) on
  touched (ReplaceIf h k a b) e on =
      itself w next h k (λ m. replace_if_in m k a b) answer (changed_by w next h (λ m. replace_if_in m k a b) answer e) handle key (ReplaceIf h k a b)
      (λ m. inl (ap (λ x. (reply.Truth (has_value m k a), x)) (test_itself m (map.insert m k b) k (Some b) (got_same m k b) (has_value m k a)))) on
  touched (Remove h k) e on =
      itself w next h k (λ m. remove_in m k) answer (changed_by w next h (λ m. remove_in m k) answer e) handle key (Remove h k) (λ m. inl (ap (λ x. (reply.Found (map.get m k), x)) (left_same m k))) on
  touched (RemoveIf h k v) e on =
      itself w next h k (λ m. remove_if_in m k v) answer (changed_by w next h (λ m. remove_if_in m k v) answer e) handle key (RemoveIf h k v)
      (λ m. inl (ap (λ x. (reply.Truth (has_value m k v), x)) (test_itself m (map.remove m k) k None (left_same m k) (has_value m k v)))) on
  touched (Clear h) e on =
      let c = changed_by w next h (λ m. (reply.Cleared, map.empty)) answer e in
      ap (λ x. value_in x handle key) c.is ∙ ap (λ n. value_in (naming w h Writable map.empty) n key) (sym (eqb-true h handle on)) ∙ named_same w h Writable map.empty key ∙ map.get-empty nat_cmp key
  touched (Snapshot h) e on = tt
  touched (Freeze h) e on = tt
  touched (Close h) e on =
      let (m, there, is) = and_then {T = Reply × HandleMap} (λ m. Some (reply.Closed, map.remove w h)) (map_of w h) (answer, next) e in
      let gone = sym (ap (λ p. p.1) (same_Some (reply.Closed, map.remove w h) (answer, next) is)) in
      ap (λ x. value_in x handle key) gone ∙ ap (λ n. value_in (map.remove w h) n key) (sym (eqb-true h handle on))
      ∙ ap (λ (o : Option HandleState). option_and_then (λ m. map.get m key) (option_and_then (λ s. Some s.pairs) o)) (left_same w h)
  touched (Entries h) e on = absurd (true≢false (sym on))
  touched (Count h) e on = absurd (true≢false (sym on))

-- ---- at first no key has a value

pub first_value : (handle key : ℕ) → value_in first_world handle key ≡ None
first_value handle key = elim (cases_eq handle 0) [
  | inl zeroth ↦ ap (λ n. value_in first_world n key) zeroth ∙ named_same map.empty 0 Writable map.empty key ∙ map.get-empty nat_cmp key
  | inr apart ↦
      named_other map.empty 0 Writable map.empty handle key apart
      ∙ ap (λ (o : Option HandleState). option_and_then (λ m. map.get m key) (option_and_then (λ s. Some s.pairs) o)) (map.get-empty nat_cmp handle)
]
