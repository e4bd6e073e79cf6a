-- What a call in a number of tries is answered fits it, since an order explains the history.
use Rattle.std.proofs.Common.{◌≡◌, ◌≢◌, ◌⊎◌, inl, inr, ◌∷◌, ◌++◌, ℕ, zero, suc, Bool, true, false, cond, length, slice_get, List, [], Option, Some, None, option_and_then, Result, Ok, Err, IfOk}
use Rattle.std.proofs.Common.{refl, sym, ap, subst, ◌∙◌, append_assoc}
use Rattle.std.proofs.lemmas.Bool.{true≢false}
use Rattle.std.proofs.lemmas.Option.{none-some, same_Some}
use Rattle.std.specs.FinMap as map
use Rattle.history.specs.declared.calls.Call.{Call}
use Rattle.history.specs.declared.calls.Call.TheVariants.{Get, Put, PutIfAbsent, Replace, ReplaceIf, Remove, RemoveIf, Clear, Snapshot, Freeze, Close, Entries, Count}
use Rattle.history.specs.declared.calls.Access.{Access}
use Rattle.history.specs.declared.calls.Access.TheVariants.{Writable, ReadOnly}
use Rattle.history.specs.declared.events.Event.{Event}
use Rattle.history.specs.declared.events.Event.TheVariants as event
use Rattle.history.specs.declared.replies.Reply.{Reply}
use Rattle.history.specs.declared.replies.Reply.TheVariants as reply
use Rattle.history.specs.Effects.{changing, copying, is_crowded, map_of, put_if_absent_in, put_in, remove_if_in, remove_in, replace_if_in, replace_in, writable_map_of, Effect}
use Rattle.history.specs.Histories.{Operation, BeginsAt, EndsAt}
use Rattle.history.specs.Orders.{Answered, Explains, OrderedAt, RecallsEach, Replays}
use Rattle.history.specs.Worlds.{HandleMap, KeyMap, first_world}
use Rattle.history.proofs.Begins.{begins_once}
use Rattle.history.proofs.Places.{at_seam}
use Rattle.machine_model.specs.Calls.{opens_handle}
use Rattle.lock_free.specs.declared.call_errors.CallError.{CallError}
use Rattle.lock_free.specs.declared.rules.View.{View}
use Rattle.lock_free.specs.Answering.{HasAnswered}
use Rattle.lock_free.specs.Attempts.{IsTried}
use Rattle.lock_free.specs.KeyReplies.{FitsCall, Refuses, TellsHandle, TellsTruth, TellsValue}
use Rattle.lock_free.specs.Loading.{IsSound}
use Rattle.lock_free.specs.OneKey.{is_refused}
use Rattle.lock_free.specs.SeatCalls.{IsNoRefusal, IsTold}
use Rattle.lock_free.specs.Telling.{history_of, SeatsAreExplained}

-- it is answered so, or refused
abbrev FitsOr : Call → Reply → Type 0
FitsOr call answer = FitsCall call answer ⊎ Refuses answer

-- ---- a call with an effect is answered so

pub and_then : {S T : Type 0} (f : S → Option T) (o : Option S) (y : T) → option_and_then f o ≡ Some y → (x : S) × (f x ≡ Some y) × (o ≡ Some x)
and_then f None y e = absurd (none-some y e)
and_then f (Some x) y e = (x, e, refl)

module _ (P : Reply → Type 0) (w next : HandleMap) (h : ℕ) (answer : Reply) where
  pub changed_so : (change : KeyMap → Reply × KeyMap) → changing w h change ≡ Some (answer, next) → ((m : KeyMap) → P (change m).0) → P answer
  changed_so change e all =
      let x = and_then _ (writable_map_of w h) (answer, next) e in
      subst P (ap (λ (p : Reply × HandleMap). p.0) (same_Some _ (answer, next) x.1)) (all x.0)

abbrev ValueOr : Reply → Type 0
ValueOr answer = TellsValue answer ⊎ Refuses answer

abbrev TruthOr : Reply → Type 0
TruthOr answer = TellsTruth answer ⊎ Refuses answer

put_tells : (hash : ℕ → ℕ) (m : KeyMap) (k v : ℕ) → ValueOr (put_in hash m k v).0
put_tells hash m k v = by (is_crowded hash m k)
  where
    by : (b : Bool) → ValueOr (cond {A = Reply × KeyMap} b (reply.Crowded, m) (reply.Found (map.get m k), map.insert m k v)).0
    by true = inr tt
    by false = inl tt

absent_tells : (hash : ℕ → ℕ) (m : KeyMap) (k v : ℕ) → ValueOr (put_if_absent_in hash m k v).0
absent_tells hash m k v = by (map.contains_key m k)
  where
    by : (b : Bool) → ValueOr (cond {A = Reply × KeyMap} b (reply.Found (map.get m k), m) (put_in hash m k v)).0
    by true = inl tt
    by false = put_tells hash m k v

pub copied_so : (w next : HandleMap) (h : ℕ) (opens : Option ℕ) (access : Access) (answer : Reply) → copying w h opens access ≡ Some (answer, next) →
    (number : ℕ) × (opens ≡ Some number) × (answer ≡ reply.Opened number)
copied_so w next h opens access answer e =
    let x = and_then _ (writable_map_of w h) (answer, next) e in
    let y = and_then _ opens (answer, next) x.1 in
    (y.0, y.2, by y.0 _ (map.contains_key w y.0) y.1)
  where
    by : (n : ℕ) (m : HandleMap) (b : Bool) → cond {A = Option (Reply × HandleMap)} b None (Some (reply.Opened n, m)) ≡ Some (answer, next) → answer ≡ reply.Opened n
    by n m true f = absurd (none-some _ f)
    by n m false f = sym (ap (λ (p : Reply × HandleMap). p.0) (same_Some _ (answer, next) f))

-- a copy is answered with its number
abbrev pub OpensIt : Option ℕ → Reply → Type 0
OpensIt opens answer = (number : ℕ) × (opens ≡ Some number) × (answer ≡ reply.Opened number)

effect_opens : (hash : ℕ → ℕ) (w next : HandleMap) (call : Call) (opens : Option ℕ) (answer : Reply) → opens_handle call ≡ true → Effect hash w call opens answer next → OpensIt opens answer
effect_opens hash w next (Snapshot h) opens answer is e = copied_so w next h opens Writable answer e
effect_opens hash w next (Freeze h) opens answer is e = copied_so w next h opens ReadOnly answer e
effect_opens hash w next call opens answer is e = absurd (true≢false (sym is))

opened_tells : (opens : Option ℕ) (answer : Reply) → OpensIt opens answer → TellsHandle answer
opened_tells opens answer (number, is, told) = subst TellsHandle (sym told) tt

effect_fits : (hash : ℕ → ℕ) (w next : HandleMap) (call : Call) (opens : Option ℕ) (answer : Reply) → IsTried call → Effect hash w call opens answer next → FitsOr call answer
effect_fits hash w next (Get h k) opens answer keyed e =
    let x = and_then _ (map_of w h) (answer, next) e in subst ValueOr (ap (λ (p : Reply × HandleMap). p.0) (same_Some _ (answer, next) x.1)) (inl tt)
effect_fits hash w next (Put h k v) opens answer keyed e = changed_so ValueOr w next h answer (λ m. put_in hash m k v) e (λ m. put_tells hash m k v)
effect_fits hash w next (PutIfAbsent h k v) opens answer keyed e = changed_so ValueOr w next h answer (λ m. put_if_absent_in hash m k v) e (λ m. absent_tells hash m k v)
effect_fits hash w next (Replace h k v) opens answer keyed e = changed_so ValueOr w next h answer (λ m. replace_in m k v) e (λ m. inl tt)
effect_fits hash w next (ReplaceIf h k a b) opens answer keyed e = changed_so TruthOr w next h answer (λ m. replace_if_in m k a b) e (λ m. inl tt)
effect_fits hash w next (Remove h k) opens answer keyed e = changed_so ValueOr w next h answer (λ m. remove_in m k) e (λ m. inl tt)
effect_fits hash w next (RemoveIf h k v) opens answer keyed e = changed_so TruthOr w next h answer (λ m. remove_if_in m k v) e (λ m. inl tt)
effect_fits hash w next (Clear h) opens answer keyed e = changed_so (λ a. FitsOr (Clear h) a) w next h answer (λ m. (reply.Cleared, map.empty)) e (λ m. inl refl)
effect_fits hash w next (Snapshot h) opens answer keyed e = inl (opened_tells opens answer (copied_so w next h opens Writable answer e))
effect_fits hash w next (Freeze h) opens answer keyed e = inl (opened_tells opens answer (copied_so w next h opens ReadOnly answer e))
effect_fits hash w next (Close h) opens answer keyed e = absurd keyed
effect_fits hash w next (Entries h) opens answer keyed e = absurd keyed
effect_fits hash w next (Count h) opens answer keyed e = absurd keyed

-- ---- along the order

module _ (hash : ℕ → ℕ) (history : List Event) (order : List ℕ) (world : HandleMap) (ex : Explains hash history order world) (begins ends id : ℕ) (its : Operation) (answer : Reply)
    (begun : BeginsAt history begins id its) (ended : EndsAt history ends id answer)
    -- what the effect of the call tells
    (P : Reply → Type 0) (tells : (w next : HandleMap) (a : Reply) → Effect hash w its.call its.opens a next → P a) where
  one_call : (place : ℕ) (operation : Operation) → BeginsAt history place id operation → (operation.call ≡ its.call) × (operation.opens ≡ its.opens)
  one_call place operation at =
      let here = begins_once history place begins id operation its ex.well_formed at begun in
      let events : Some (event.Begin id operation.actor operation.call operation.opens) ≡ Some (event.Begin id its.actor its.call its.opens) =
      sym at ∙ ap (slice_get history) here ∙ begun in
      (cc events, cc events)

  along : (ids : List ℕ) (calls : List Answered) (w : HandleMap) (i : ℕ) → OrderedAt ids i id → RecallsEach history ids calls → Replays hash calls w world → P answer
  along [] calls w i at recalls replays = absurd (none-some id at)
  along (x ∷ ids) [] w i at recalls replays = absurd recalls
  along (x ∷ ids) (one ∷ calls) w zero at ((told, answered), recalls) (next, effect, replays) =
      let same : x ≡ id = same_Some x id at in
      let so = one_call told.0 told.1 (subst (λ k. BeginsAt history told.0 k told.1) same told.2) in
      let call : one.call ≡ its.call = sym told.3 ∙ so.0 in
      let opens : one.opens ≡ its.opens = sym told.4 ∙ so.1 in
      let said : one.answer ≡ answer = answered answer (ends, subst (λ k. EndsAt history ends k answer) (sym same) ended) in
      subst P said
      (tells w next one.answer
      (subst (λ c. Effect hash w c its.opens one.answer next) call (subst (λ o. Effect hash w one.call o one.answer next) opens effect)))
  along (x ∷ ids) (one ∷ calls) w (suc i) at (recalled, recalls) (next, effect, replays) = along ids calls next i at recalls replays

  pub explained_so : answer ≢ reply.NoSlots → P answer
  explained_so counts =
      let place = ex.candidate.answered id answer (ends, ended) counts in
      along order ex.replayed.0 first_world place.0 place.1 ex.replayed.1 ex.replayed.2

-- ---- a call in a history

pub counts_or : (answer : Reply) → (answer ≡ reply.NoSlots) ⊎ (answer ≢ reply.NoSlots)
counts_or reply.NoSlots = inl refl
counts_or answer = inr (λ e. true≢false (sym (ap is_refused e)))

seam_first : (xs ys : List Event) (b e : Event) → slice_get (xs ++ b ∷ ys ++ e ∷ []) (length xs) ≡ Some b
seam_first xs ys b e = subst (λ zs. slice_get zs (length xs) ≡ Some b) (sym (append_assoc xs (b ∷ ys) (e ∷ []))) (at_seam xs (ys ++ e ∷ []) b)

seam_last : (xs ys : List Event) (b e : Event) → slice_get (xs ++ b ∷ ys ++ e ∷ []) (length (xs ++ b ∷ ys)) ≡ Some e
seam_last xs ys b e = at_seam (xs ++ b ∷ ys) [] e

module _ (n : ℕ) (before after : View) (sound : IsSound n after) (explained : SeatsAreExplained) (call : Call) (opens : Option ℕ) (answer : Reply)
    (h : HasAnswered before call opens answer after) where
  abbrev history : List Event
  history = history_of after.sizes after.account

  abbrev begin : Event
  begin = event.Begin h.id before.actor call opens

  abbrev end : Event
  end = event.End h.id answer

  begun_there : slice_get history (length h.earlier) ≡ Some begin
  begun_there = subst (λ xs. slice_get xs (length h.earlier) ≡ Some begin) (sym h.is) (seam_first h.earlier h.meanwhile begin end)

  ended_there : slice_get history (length (h.earlier ++ begin ∷ h.meanwhile)) ≡ Some end
  ended_there = subst (λ xs. slice_get xs (length (h.earlier ++ begin ∷ h.meanwhile)) ≡ Some end) (sym h.is) (seam_last h.earlier h.meanwhile begin end)

  pub reply_so : (P : Reply → Type 0) → ((hash : ℕ → ℕ) (w next : HandleMap) (a : Reply) → Effect hash w call opens a next → P a) → answer ≢ reply.NoSlots → P answer
  reply_so P tells counts =
      let (world, order_is, shows) = explained n after sound in
      explained_so _ history _ world order_is (length h.earlier) (length (h.earlier ++ begin ∷ h.meanwhile)) h.id (record { actor = before.actor; call = call; opens = opens }) answer begun_there
      ended_there P (tells _) counts

  -- the reply is one to this call
  reply_fits : IsTried call → FitsOr call answer
  reply_fits tried = elim (counts_or answer) [
    | inl refused ↦ inr (subst Refuses (sym refused) tt)
    | inr counts ↦ reply_so (FitsOr call) (λ hash w next a. effect_fits hash w next call opens a tried) counts
  ]

  -- it tells of the handle by which the call stands there
  pub reply_opens : opens_handle call ≡ true → answer ≢ reply.NoSlots → OpensIt opens answer
  reply_opens is = reply_so (OpensIt opens) (λ hash w next a. effect_opens hash w next call opens a is)

-- ---- what is told of a call

fits_by : (call : Call) (answer : Reply) → IsNoRefusal (Ok answer) → FitsOr call answer → FitsCall call answer
fits_by call answer counts (inl fits) = fits
fits_by call reply.Crowded counts (inr refuses) = absurd counts
fits_by call reply.NoSlots counts (inr refuses) = absurd counts
fits_by call (reply.Found value) counts (inr refuses) = absurd refuses
fits_by call (reply.Truth truth) counts (inr refuses) = absurd refuses
fits_by call (reply.Opened handle) counts (inr refuses) = absurd refuses
fits_by call reply.Closed counts (inr refuses) = absurd refuses
fits_by call reply.Cleared counts (inr refuses) = absurd refuses
fits_by call (reply.Pairs pairs) counts (inr refuses) = absurd refuses
fits_by call (reply.Count count) counts (inr refuses) = absurd refuses

pub told_fits : (n : ℕ) (before after : View) → IsSound n after → SeatsAreExplained → (call : Call) → IsTried call → (told : Result Reply CallError) → IsTold (λ r. r) before call told after →
    IsNoRefusal told → IfOk told (FitsCall call)
told_fits n before after sound explained call keyed (Ok answer) h counts = fits_by call answer counts (reply_fits n before after sound explained call None answer h keyed)
told_fits n before after sound explained call keyed (Err why) h counts = tt
