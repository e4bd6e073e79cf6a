-- What threads count under a key isn't lost.
use Rattle.std.proofs.Common.{◌≡◌, ◌+◌, ◌&&◌, inl, inr, ℕ, Bool, true, false, cond, All, List, [], ◌∷◌, Option, Some, refl, sym, ap, subst, ◌∙◌, arith, eqb-true}
use Rattle.std.proofs.lemmas.Bool.{true≢false}
use Rattle.std.proofs.lemmas.List.Elements.{All-head, All-tail}
use Rattle.std.specs.Prelude.{nat_eq}
use Rattle.history.specs.declared.calls.Call.{Call}
use Rattle.history.specs.declared.calls.Call.TheVariants.{Get, ReplaceIf}
use Rattle.history.specs.declared.replies.Reply.{Reply}
use Rattle.history.specs.declared.replies.Reply.TheVariants.{Truth}
use Rattle.history.specs.Effects.{Effect}
use Rattle.history.specs.Orders.{Answered, Replays}
use Rattle.history.specs.Worlds.{HandleMap}
use Rattle.lock_free.specs.OneKey.{touches, value_in, KeyStep}
use Rattle.lock_free.proofs.KeyValues.{touched, untouched}
use Rattle.concurrent_map.specs.Laws.{counted, is_yes, CountsAt, IsCount, NoCountIsLost}

-- what a call that counts leaves of a number
abbrev grown : ℕ → Reply → ℕ
grown n answer = cond (is_yes answer) (n + 1) n

tested : (n a b : ℕ) (so : Bool) (answer : Reply) (x : Option ℕ) → b ≡ a + 1 → nat_eq n a ≡ so → answer ≡ Truth so → x ≡ cond so (Some b) (Some n) → x ≡ Some (grown n answer)
tested n a b true answer x adds same told is = is ∙ ap Some (adds ∙ ap (λ m. m + 1) (sym (eqb-true n a same))) ∙ ap (λ r. Some (grown n r)) (sym told)
tested n a b false answer x adds same told is = is ∙ ap (λ r. Some (grown n r)) (sym told)

stepped : (call : Call) (n : ℕ) (answer : Reply) (x : Option ℕ) → IsCount call → KeyStep call (Some n) answer x → x ≡ Some (grown n answer)
stepped (Get h k) n answer x is (inl e) = ap (λ p. p.1) e ∙ ap (λ r. Some (grown n r)) (sym (ap (λ p. p.0) e))
stepped (Get h k) n answer x is (inr crowded) = absurd (true≢false (sym crowded.0))
stepped (ReplaceIf h k a b) n answer x is (inl e) = tested n a b (nat_eq n a) answer x is refl (ap (λ p. p.0) e) (ap (λ p. p.1) e)
stepped (ReplaceIf h k a b) n answer x is (inr crowded) = absurd (true≢false (sym crowded.0))
stepped call n answer x is step = elim is [ ]

moved : (b : Bool) (n more : ℕ) → cond b (n + 1) n + more ≡ n + (cond b 1 0 + more)
moved true n more = omega arith
moved false n more = omega arith

module _ (hash : ℕ → ℕ) (handle key : ℕ) where
  abbrev adds : Answered → Bool
  adds one = touches handle key one.call one.opens && is_yes one.answer

  -- one call
  one_counts : (one : Answered) (n : ℕ) (before next : HandleMap) → value_in before handle key ≡ Some n → CountsAt handle key one → Effect hash before one.call one.opens one.answer next →
      value_in next handle key ≡ Some (cond (adds one) (n + 1) n)
  one_counts one n before next has counts effect = by (touches handle key one.call one.opens) refl counts
    where
      by : (on : Bool) → touches handle key one.call one.opens ≡ on → CountsAt handle key one → value_in next handle key ≡ Some (cond (on && is_yes one.answer) (n + 1) n)
      by false off at = untouched hash before next one.opens one.answer handle key one.call effect off ∙ has
      by true on (inl off) = absurd (true≢false (sym on ∙ off))
      by true on (inr is) =
          stepped one.call n one.answer (value_in next handle key) is
          (subst (λ x. KeyStep one.call x one.answer (value_in next handle key)) has (touched hash before next one.opens one.answer handle key one.call effect on))

  all_count : (calls : List Answered) (n : ℕ) (before after : HandleMap) → value_in before handle key ≡ Some n → All (CountsAt handle key) calls → Replays hash calls before after →
      value_in after handle key ≡ Some (n + counted handle key calls)
  all_count [] n before after has counts same = let none : n ≡ n + 0 = omega arith in ap (λ w. value_in w handle key) same ∙ has ∙ ap Some none
  all_count (one ∷ more) n before after has counts (next, effect, rest) =
      all_count more (cond (adds one) (n + 1) n) next after (one_counts one n before next has (All-head (CountsAt handle key) one more counts) effect)
      (All-tail (CountsAt handle key) one more counts) rest
      ∙ ap Some (moved (adds one) n (counted handle key more))

pub no_count_is_lost : NoCountIsLost
no_count_is_lost hash handle key number calls before after has counts replays = all_count hash handle key calls number before after has counts replays
