-- What calls answer and make of a map, by what it has at their key.
use Rattle.std.proofs.Common.{◌≡◌, ◌≢◌, ℕ, ◌==◌, ◌&&◌, Bool, true, false, cond, not, Option, Some, None, is_some, nat_eq, refl, sym, ap, ap₂, ◌∙◌, eqb-true}
use Rattle.std.specs.Option.{option_eq}
use Rattle.std.specs.FinMap.{get, insert, remove}
use Rattle.proof_contents.specs.Vocabulary.{Writable, ReadOnly, Call, Get, Put, PutIfAbsent, Replace, ReplaceIf, Remove, RemoveIf, Reply, KeyMap, others, is_crowded, has_value, WhenFound, Answers}
use Rattle.proof_contents.specs.Vocabulary.{Sets, Removes, key_of, inserts, absent_reply, changed_reply, when_found, answers_unless}
use Rattle.proof_contents.specs.Beneath.history.specs.declared.replies.Reply.TheVariants as reply
use Rattle.proof_contents.specs.Beneath.history.specs.Effects.{put_in}
use Rattle.proof_contents.proofs.Nodes.Branches.{differ}
use Rattle.proof_contents.specs.Steps.{Asks, to_insert, to_set, to_remove}
use Rattle.proof_contents.specs.Effects.{act_in, IsKeyed, ChangesKey}
use Rattle.proof_contents.proofs.Nodes.Maps.{get-inserted, get-removed}
use Rattle.proof_contents.proofs.Values.Maps.{same_answers}

-- ---- maps that differ at one key

pub put_is : (m next : KeyMap) (key v : ℕ) (former : Option ℕ) → ChangesKey m next key former (Some v) → insert m key v ≡ next
put_is m next key v former c = same_answers _ _ (λ q. get-inserted m key v q ∙ at q (q == key) refl)
  where
    at : (q : ℕ) (b : Bool) → (q == key) ≡ b → cond b (Some v) (get m q) ≡ get next q
    at q true same = sym (ap (get next) (eqb-true q key same) ∙ c.has)
    at q false apart = sym (c.stay q (differ q key apart))

pub removal_is : (m next : KeyMap) (key : ℕ) (former : Option ℕ) → ChangesKey m next key former None → remove m key ≡ next
removal_is m next key former c = same_answers _ _ (λ q. get-removed m key q ∙ at q (q == key) refl)
  where
    at : (q : ℕ) (b : Bool) → (q == key) ≡ b → cond b None (get m q) ≡ get next q
    at q true same = sym (ap (get next) (eqb-true q key same) ∙ c.has)
    at q false apart = sym (c.stay q (differ q key apart))

-- nothing is removed where nothing is
nothing_removed : (m : KeyMap) (key : ℕ) → get m key ≡ None → remove m key ≡ m
nothing_removed m key none = removal_is m m key None (record { had = none; has = none; stay = λ q apart. refl })

-- ---- tests

-- a key that is there isn't crowded
present_free : (hash : ℕ → ℕ) (m : KeyMap) (key w : ℕ) → get m key ≡ Some w → is_crowded hash m key ≡ false
present_free hash m key w e = ap (λ o. not (is_some o) && (others hash m key == 32)) e

put_free : (hash : ℕ → ℕ) (m next : KeyMap) (key v : ℕ) (former : Option ℕ) → ChangesKey m next key former (Some v) → is_crowded hash m key ≡ false →
    put_in hash m key v ≡ (reply.Found former, next)
put_free hash m next key v former c free =
    ap (λ b. cond b (reply.Crowded, m) (reply.Found (get m key), insert m key v)) free ∙ ap₂ (λ o n. (reply.Found o, n)) c.had (put_is m next key v former c)

-- a test that is passed where the call sets or removes, and fails where it answers
passed : (b : Bool) (todo : WhenFound) → ((a : Reply) → todo ≢ Answers a) → answers_unless b todo ≡ todo → b ≡ true
passed true todo acts e = refl
passed false todo acts e = absurd (acts (reply.Truth false) (sym e))

failed : (b : Bool) (todo : WhenFound) (a : Reply) → ((a : Reply) → todo ≢ Answers a) → answers_unless b todo ≡ Answers a → (b ≡ false) × (a ≡ reply.Truth false)
failed true todo a acts e = absurd (acts a e)
failed false todo a acts e = (refl, (let same : Answers (reply.Truth false) ≡ Answers a = e in cc))

sets_acts : (a : Reply) → Sets ≢ Answers a
sets_acts a e = cc

removes_acts : (a : Reply) → Removes ≢ Answers a
removes_acts a e = cc

unless_removes : (b : Bool) → answers_unless b Removes ≢ Sets
unless_removes true e = cc
unless_removes false e = cc

unless_sets : (b : Bool) → answers_unless b Sets ≢ Removes
unless_sets true e = cc
unless_sets false e = cc

-- ---- own updates

-- the call gives the reply for the former value, and the map after it
pub acts : (hash : ℕ → ℕ) (m next : KeyMap) (call : Call) (former now : Option ℕ) → Asks call former now → ChangesKey m next (key_of call) former now →
    (former ≡ None → is_crowded hash m (key_of call) ≡ false) → act_in hash Writable call m ≡ Some (changed_reply call former, next)
acts hash m next (Put h k v) former now (to_insert e) c free = ap Some (put_free hash m next k v None c (free refl))
acts hash m next (PutIfAbsent h k v) former now (to_insert e) c free =
    ap Some (ap (λ o. cond (is_some o) (reply.Found (get m k), m) (put_in hash m k v)) c.had ∙ put_free hash m next k v None c (free refl))
acts hash m next call former now (to_insert e) c free = absurd (let bad : false ≡ true = e in cc)
acts hash m next (Put h k v) former now (to_set w e) c free = ap Some (put_free hash m next k v (Some w) c (present_free hash m k w c.had))
acts hash m next (Replace h k v) former now (to_set w e) c free =
    ap Some (ap₂ (λ o n. (reply.Found o, n)) c.had (ap (λ o. cond (is_some o) (insert m k v) m) c.had ∙ put_is m next k v (Some w) c))
acts hash m next (ReplaceIf h k a b) former now (to_set w e) c free =
    let is : has_value m k a ≡ true = ap (λ o. option_eq nat_eq o (Some a)) c.had ∙ passed (w == a) Sets sets_acts e in
    ap Some (ap (λ t. (reply.Truth t, cond t (insert m k b) m)) is ∙ ap (λ n. (reply.Truth true, n)) (put_is m next k b (Some w) c))
acts hash m next (RemoveIf h k v) former now (to_set w e) c free = absurd (unless_removes (w == v) e)
acts hash m next (Remove h k) former now (to_set w e) c free = absurd (let bad : Removes ≡ Sets = e in cc)
acts hash m next call former now (to_set w e) c free = absurd (let bad : Answers (reply.Found (Some w)) ≡ Sets = e in cc)
acts hash m next (Remove h k) former now (to_remove w e) c free = ap Some (ap₂ (λ o n. (reply.Found o, n)) c.had (removal_is m next k (Some w) c))
acts hash m next (RemoveIf h k v) former now (to_remove w e) c free =
    let is : has_value m k v ≡ true = ap (λ o. option_eq nat_eq o (Some v)) c.had ∙ passed (w == v) Removes removes_acts e in
    ap Some (ap (λ t. (reply.Truth t, cond t (remove m k) m)) is ∙ ap (λ n. (reply.Truth true, n)) (removal_is m next k (Some w) c))
acts hash m next (ReplaceIf h k a b) former now (to_remove w e) c free = absurd (unless_sets (w == a) e)
acts hash m next (Put h k v) former now (to_remove w e) c free = absurd (let bad : Sets ≡ Removes = e in cc)
acts hash m next (Replace h k v) former now (to_remove w e) c free = absurd (let bad : Sets ≡ Removes = e in cc)
acts hash m next call former now (to_remove w e) c free = absurd (let bad : Answers (reply.Found (Some w)) ≡ Removes = e in cc)

-- ---- replies that change nothing

-- where the key is found and the call only answers
pub found_answers : (hash : ℕ → ℕ) (m : KeyMap) (call : Call) (w : ℕ) (answer : Reply) → IsKeyed call → get m (key_of call) ≡ Some w → when_found call w ≡ Answers answer →
    act_in hash Writable call m ≡ Some (answer, m)
found_answers hash m (Get h k) w answer keyed had e =
    let is : Answers (reply.Found (Some w)) ≡ Answers answer = e in
    let same : reply.Found (Some w) ≡ answer = cc in
    ap Some (ap (λ a. (a, m)) (ap reply.Found had ∙ same))
found_answers hash m (PutIfAbsent h k v) w answer keyed had e =
    let is : Answers (reply.Found (Some w)) ≡ Answers answer = e in
    let same : reply.Found (Some w) ≡ answer = cc in
    ap Some (ap (λ o. cond (is_some o) (reply.Found (get m k), m) (put_in hash m k v)) had ∙ ap (λ a. (a, m)) (ap reply.Found had ∙ same))
found_answers hash m (ReplaceIf h k a b) w answer keyed had e =
    let not_so = failed (w == a) Sets answer sets_acts e in
    let is : has_value m k a ≡ false = ap (λ o. option_eq nat_eq o (Some a)) had ∙ not_so.0 in
    ap Some (ap (λ t. (reply.Truth t, cond t (insert m k b) m)) is ∙ ap (λ r. (r, m)) (sym not_so.1))
found_answers hash m (RemoveIf h k v) w answer keyed had e =
    let not_so = failed (w == v) Removes answer removes_acts e in
    let is : has_value m k v ≡ false = ap (λ o. option_eq nat_eq o (Some v)) had ∙ not_so.0 in
    ap Some (ap (λ t. (reply.Truth t, cond t (remove m k) m)) is ∙ ap (λ r. (r, m)) (sym not_so.1))
found_answers hash m (Put h k v) w answer keyed had e = absurd (let bad : Sets ≡ Answers answer = e in cc)
found_answers hash m (Replace h k v) w answer keyed had e = absurd (let bad : Sets ≡ Answers answer = e in cc)
found_answers hash m (Remove h k) w answer keyed had e = absurd (let bad : Removes ≡ Answers answer = e in cc)
found_answers hash m call w answer keyed had e = absurd keyed

-- where the key is absent and stays so
pub absent_answers : (hash : ℕ → ℕ) (m : KeyMap) (call : Call) → IsKeyed call → get m (key_of call) ≡ None → inserts call ≡ false →
    act_in hash Writable call m ≡ Some (absent_reply call, m)
absent_answers hash m (Get h k) keyed none e = ap Some (ap (λ o. (reply.Found o, m)) none)
absent_answers hash m (Replace h k v) keyed none e =
    ap Some (ap₂ (λ o n. (reply.Found o, n)) none (ap (λ o. cond (is_some o) (insert m k v) m) none))
absent_answers hash m (ReplaceIf h k a b) keyed none e = ap Some (ap (λ o. (reply.Truth (option_eq nat_eq o (Some a)), cond (option_eq nat_eq o (Some a)) (insert m k b) m)) none)
absent_answers hash m (Remove h k) keyed none e = ap Some (ap₂ (λ o n. (reply.Found o, n)) none (nothing_removed m k none))
absent_answers hash m (RemoveIf h k v) keyed none e = ap Some (ap (λ o. (reply.Truth (option_eq nat_eq o (Some v)), cond (option_eq nat_eq o (Some v)) (remove m k) m)) none)
absent_answers hash m (Put h k v) keyed none e = absurd (let bad : true ≡ false = e in cc)
absent_answers hash m (PutIfAbsent h k v) keyed none e = absurd (let bad : true ≡ false = e in cc)
absent_answers hash m call keyed none e = absurd keyed

-- where the key is absent, and 32 others have its hash
pub crowded_answers : (hash : ℕ → ℕ) (m : KeyMap) (call : Call) → get m (key_of call) ≡ None → inserts call ≡ true → others hash m (key_of call) ≡ 32 →
    act_in hash Writable call m ≡ Some (reply.Crowded, m)
crowded_answers hash m (Put h k v) none e full =
    ap (λ b. Some (cond b (reply.Crowded, m) (reply.Found (get m k), insert m k v))) (ap₂ (λ o n. not (is_some o) && (n == 32)) none full)
crowded_answers hash m (PutIfAbsent h k v) none e full =
    ap (λ o. Some (cond (is_some o) (reply.Found (get m k), m) (put_in hash m k v))) none
    ∙ ap (λ b. Some (cond b (reply.Crowded, m) (reply.Found (get m k), insert m k v))) (ap₂ (λ o n. not (is_some o) && (n == 32)) none full)
crowded_answers hash m call none e full = absurd (let bad : false ≡ true = e in cc)

-- a get answers what the map has, on any handle
pub get_answers : (hash : ℕ → ℕ) (m : KeyMap) (h k : ℕ) (found : Option ℕ) → get m k ≡ found → act_in hash ReadOnly (Get h k) m ≡ Some (reply.Found found, m)
get_answers hash m h k found e = ap (λ o. Some (reply.Found o, m)) e
