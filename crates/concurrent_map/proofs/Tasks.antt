-- A key that was removed has no value until a call gives it one.
use Rattle.std.proofs.Common.{◌≡◌, inl, inr, ℕ, Bool, true, false, cond, is_some, All, List, [], ◌∷◌, Option, Some, None, refl, sym, ap, subst, ◌∙◌, eq-eqb}
use Rattle.std.proofs.lemmas.Bool.{true≢false}
use Rattle.std.proofs.lemmas.List.Elements.{All-head, All-tail}
use Rattle.std.specs.Prelude.{◌==◌, ◌&&◌, nat_eq}
use Rattle.std.specs.Option.{option_eq}
use Rattle.history.specs.declared.calls.Call.{Call}
use Rattle.history.specs.declared.calls.Call.TheVariants.{Get, Put, PutIfAbsent, Replace, ReplaceIf, Remove, RemoveIf, Clear, Snapshot, Freeze, Close, Entries, Count}
use Rattle.history.specs.declared.replies.Reply.{Reply}
use Rattle.history.specs.declared.replies.Reply.TheVariants.{Truth}
use Rattle.history.specs.Effects.{Effect}
use Rattle.history.specs.Orders.{Answered, Replays}
use Rattle.history.specs.Worlds.{HandleMap}
use Rattle.lock_free.specs.OneKey.{touches, value_in, KeyStep}
use Rattle.lock_free.proofs.KeyValues.{touched, untouched}
use Rattle.concurrent_map.specs.Laws.{gives, is_yes, GivesNone, TasksAreDoneOnce}

stays_none : (call : Call) (answer : Reply) (x : Option ℕ) → gives call ≡ false → KeyStep call None answer x → x ≡ None
stays_none (Get h k) answer x none (inl e) = ap (λ p. p.1) e
stays_none (Replace h k v) answer x none (inl e) = ap (λ p. p.1) e
stays_none (ReplaceIf h k a b) answer x none (inl e) = ap (λ p. p.1) e
stays_none (Remove h k) answer x none (inl e) = ap (λ p. p.1) e
stays_none (RemoveIf h k v) answer x none (inl e) = ap (λ p. p.1) e
stays_none (Get h k) answer x none (inr crowded) = crowded.3
stays_none (Replace h k v) answer x none (inr crowded) = crowded.3
stays_none (ReplaceIf h k a b) answer x none (inr crowded) = crowded.3
stays_none (Remove h k) answer x none (inr crowded) = crowded.3
stays_none (RemoveIf h k v) answer x none (inr crowded) = crowded.3
stays_none (Clear h) answer x none step = step
stays_none (Close h) answer x none step = step
stays_none (Entries h) answer x none (inl e) = ap (λ p. p.1) e
stays_none (Entries h) answer x none (inr crowded) = crowded.3
stays_none (Count h) answer x none (inl e) = ap (λ p. p.1) e
stays_none (Count h) answer x none (inr crowded) = crowded.3
stays_none (Put h k v) answer x none step = absurd (true≢false none)
stays_none (PutIfAbsent h k v) answer x none step = absurd (true≢false none)
stays_none (Snapshot h) answer x none step = absurd (true≢false none)
stays_none (Freeze h) answer x none step = absurd (true≢false none)

-- a key that has no value isn't removed, and one that is has none then
taken : (v : ℕ) (h k : ℕ) (before after : Option ℕ) → KeyStep (RemoveIf h k v) before (Truth true) after → (after ≡ None) × (before ≡ None → ⊥)
taken v h k before after (inr crowded) = absurd (true≢false (sym crowded.0))
taken v h k before after (inl e) = by before e
  where
    by : (o : Option ℕ) → ◌≡◌ {A = Reply × Option ℕ} (Truth true, after) (Truth (option_eq nat_eq o (Some v)), cond (option_eq nat_eq o (Some v)) None o) → (after ≡ None) × (o ≡ None → ⊥)
    by None e = absurd (true≢false (ap (λ p. is_yes p.0) e))
    by (Some x) e =
        let so : true ≡ nat_eq x v = ap (λ p. is_yes p.0) e in (ap (λ p. p.1) e ∙ ap (λ b. cond b None (Some x)) (sym so), λ none. true≢false (ap is_some none))

module _ (hash : ℕ → ℕ) (handle key : ℕ) where
  one_stays : (one : Answered) (before next : HandleMap) → value_in before handle key ≡ None → GivesNone handle key one →
      Effect hash before one.call one.opens one.answer next → value_in next handle key ≡ None
  one_stays one before next has gives_none effect = by (touches handle key one.call one.opens) refl gives_none
    where
      by : (on : Bool) → touches handle key one.call one.opens ≡ on → GivesNone handle key one → value_in next handle key ≡ None
      by false off at = untouched hash before next one.opens one.answer handle key one.call effect off ∙ has
      by true on (inl off) = absurd (true≢false (sym on ∙ off))
      by true on (inr none) =
          stays_none one.call one.answer (value_in next handle key) none
          (subst (λ x. KeyStep one.call x one.answer (value_in next handle key)) has (touched hash before next one.opens one.answer handle key one.call effect on))

  all_stay : (calls : List Answered) (before after : HandleMap) → value_in before handle key ≡ None → All (GivesNone handle key) calls →
      Replays hash calls before after → value_in after handle key ≡ None
  all_stay [] before after has none same = ap (λ w. value_in w handle key) same ∙ has
  all_stay (one ∷ more) before after has none (next, effect, rest) =
      all_stay more next after (one_stays one before next has (All-head (GivesNone handle key) one more none) effect) (All-tail (GivesNone handle key) one more none) rest

  removes : (v : ℕ) (before after : HandleMap) → Effect hash before (RemoveIf handle key v) None (Truth true) after →
      KeyStep (RemoveIf handle key v) (value_in before handle key) (Truth true) (value_in after handle key)
  removes v before after effect = touched hash before after None (Truth true) handle key (RemoveIf handle key v) effect on
    where
      on : (handle == handle) && (key == key) ≡ true
      on = ap (λ b. b && (key == key)) (eq-eqb handle handle refl) ∙ eq-eqb key key refl

pub tasks_are_done_once : TasksAreDoneOnce
tasks_are_done_once hash handle key first second between before removed now after one none rest other =
    (taken second handle key (value_in now handle key) (value_in after handle key) (removes hash handle key second now after other)).1
    (all_stay hash handle key between removed now (taken first handle key (value_in before handle key) (value_in removed handle key) (removes hash handle key first before removed one)).0 none rest)
