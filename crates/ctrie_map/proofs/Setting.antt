-- A key that is changed in a map of the core.
use Rattle.std.specs.Prelude.{◌≡◌, ◌≢◌, ℕ, Bool, true, false, if◌then◌else◌, Option, Some, None, Result, Ok, Err, IfOk}
use Rattle.std.specs.FinMap as map
use Rattle.std.proofs.Common.{refl, sym, ap, subst, ◌∙◌}
use Rattle.std.proofs.lemmas.Bool.{true≢false}
use Rattle.std.proofs.lemmas.Option.{same_Some}
use Rattle.ctrie_map.specs.Vocabulary.{hash_of, Writable, Reply, Crowded, Found, NoSlots, is_crowded, naming, remove_in, HandleMap, HandleState, KeyMap, State}
use Rattle.history.specs.declared.calls.Call.TheVariants as call
use Rattle.history.specs.Effects.{put_in}
use Rattle.ctrie_map.specs.Beneath.map_worlds.specs.Worlds.{world_of}
use Rattle.ctrie_map.specs.declared.batches.Batch.{Batch}
use Rattle.ctrie_map.specs.declared.batches.Batch.TheVariants.{Puts, Removes}
use Rattle.ctrie_map.specs.declared.errors.MapError.{MapError}
use Rattle.ctrie_map.specs.Batches.{ChangesKey, RefusesKey, batch_call}
use Rattle.ctrie_map.specs.Cores.{Carries, Leads, Replies, Turns, core_denial, is_worn_out}
use Rattle.ctrie_map.specs.Drafts.{HasMap}
use Rattle.ctrie_map.specs.Telling.{found_in}
use Rattle.ctrie_map.proofs.Changing.{ComesTo, naming_same, says}
use Rattle.ctrie_map.proofs.Denying.{change_allowed}

-- a handle has one map
pub one_map : (o : Option HandleState) (m n : KeyMap) → o ≡ Some (record { access = Writable; pairs = m }) → o ≡ Some (record { access = Writable; pairs = n }) → m ≡ n
one_map o m n is other = ap (λ (s : HandleState). s.pairs) (same_Some (record { access = Writable; pairs = m }) (record { access = Writable; pairs = n }) (sym is ∙ other))

-- nothing denies it
pub allowed : (before : State) (handle : ℕ) (pair : ℕ × ℕ) (m : KeyMap) → HasMap (world_of before) handle m →
    (batch : Batch) → core_denial before (batch_call batch handle pair) ≡ None
allowed before handle pair m has Puts = change_allowed before handle m has (call.Put handle pair.0 pair.1) refl refl refl
allowed before handle pair m has Removes = change_allowed before handle m has (call.Remove handle pair.0) refl refl refl

module _ (before : State) (handle : ℕ) (pair : ℕ × ℕ) (m : KeyMap) (has : HasMap (world_of before) handle m) (life : is_worn_out before ≡ false) (after : State) where
  abbrev world : HandleMap
  world = world_of before

  abbrev hash : ℕ → ℕ
  hash = hash_of before.limits.hash

  abbrev Comes : Batch → Result (Option ℕ) MapError → Type 0
  Comes batch = ComesTo (λ _. ChangesKey batch handle pair before after) (RefusesKey batch handle pair before after)

  abbrev put_here : Bool → Reply × KeyMap
  put_here b = if b then (Crowded, m) else (Found (map.get m pair.0), map.insert m pair.0 pair.1)

  by_crowd : (answer : Reply) (next : HandleMap) → Turns before next after → Leads before (call.Put handle pair.0 pair.1) after → (b : Bool) → is_crowded hash m pair.0 ≡ b → answer ≡ (put_here b).0 →
      next ≡ naming world handle Writable (put_here b).1 → Comes Puts (found_in (Ok answer))
  by_crowd answer next turns leads true e told to =
      subst (λ a. Comes Puts (found_in (Ok a))) (sym told) (m, has, e, (turns.0, turns.1 ∙ to ∙ naming_same world handle m has))
  by_crowd answer next turns leads false e told to = subst (λ a. Comes Puts (found_in (Ok a))) (sym told) (m, has, e, (turns.0, turns.1 ∙ to), leads)

  by_put : (answer : Reply) → Replies before (call.Put handle pair.0 pair.1) answer after → (answer ≢ NoSlots → Leads before (call.Put handle pair.0 pair.1) after) →
      Comes Puts (found_in (Ok answer))
  by_put NoSlots p leads = p
  by_put answer p leads =
      let (n, at, told, to) = says world handle (λ m. put_in hash m pair.0 pair.1) answer p.1 p.2 in
      let same : n ≡ m = one_map (map.get world handle) n m at has in
      by_crowd answer p.1 p.3 (leads (λ e. cc e)) (is_crowded hash m pair.0) refl (told ∙ ap (λ m. (put_in hash m pair.0 pair.1).0) same)
      (to ∙ ap (λ m. naming world handle Writable (put_in hash m pair.0 pair.1).1) same)

  by_remove : (answer : Reply) → Replies before (call.Remove handle pair.0) answer after → (answer ≢ NoSlots → Leads before (call.Remove handle pair.0) after) →
      Comes Removes (found_in (Ok answer))
  by_remove NoSlots p leads = p
  by_remove answer p leads =
      let (n, at, told, to) = says world handle (λ m. remove_in m pair.0) answer p.1 p.2 in
      let same : n ≡ m = one_map (map.get world handle) n m at has in
      subst (λ a. Comes Removes (found_in (Ok a))) (sym told)
      (m, has, refl, (p.3.0, p.3.1 ∙ to ∙ ap (λ k. naming world handle Writable (map.remove k pair.0)) same), leads (λ e. cc e))

  by_answer : (batch : Batch) (answer : Reply) → Replies before (batch_call batch handle pair) answer after → (answer ≢ NoSlots → Leads before (batch_call batch handle pair) after) →
      Comes batch (found_in (Ok answer))
  by_answer Puts = by_put
  by_answer Removes = by_remove

  -- what is said of the call
  abbrev Said : Batch → Result Reply MapError → Type 0
  Said batch result = Carries result before (batch_call batch handle pair) after × IfOk result (λ answer. answer ≢ NoSlots → Leads before (batch_call batch handle pair) after)

  comes : (batch : Batch) (result : Result Reply MapError) → Said batch result → Comes batch (found_in result)
  comes batch (Ok answer) (p, leads) = by_answer batch answer p.1 leads
  comes batch (Err why) (p, none) = absurd (true≢false (sym p.1 ∙ life))

  pub changes_so : (batch : Batch) (result : Result Reply MapError) → Said batch result → (told : Option ℕ) → found_in result ≡ Ok told → ChangesKey batch handle pair before after
  changes_so batch result said told is = subst (Comes batch) is (comes batch result said)

  pub refuses_so : (batch : Batch) (result : Result Reply MapError) → Said batch result → (why : MapError) → found_in result ≡ Err why → RefusesKey batch handle pair before after why
  refuses_so batch result said why is = subst (Comes batch) is (comes batch result said)
