-- The store of 0 to a seat's own word ends its operation.
use Rattle.history.specs.declared.calls.Call.{Call}
use Rattle.history.specs.declared.replies.Reply.{Reply}
use Rattle.std.proofs.Common.{◌≡◌, ◌⊎◌, ◌<◌, ◌≤◌, ℕ, inl, inr, Bool, true, false, set, Option, Some, refl, sym, ap, subst, ◌∙◌, arith}
use Rattle.std.proofs.lemmas.Option.{none-some, same_Some}
use mathlib.Core.Option.{some, none}
use lib.ListN.{get_elem?}
use Rattle.atomic_table.specs.Table.{Me, Allows, step}
use Rattle.atomic_table.specs.Table as Table
use Rattle.machine_model.specs.declared.actions.Action.{Action}
use Rattle.machine_model.specs.declared.actions.Action.TheVariants as act
use Rattle.machine_model.specs.declared.operations.Operation.{Operation}
use Rattle.machine_model.specs.Operations.{action_of}
use Rattle.lock_free.specs.declared.accounts.Account.{Account}
use Rattle.lock_free.specs.declared.rules.View.{View}
use Rattle.lock_free.specs.declared.sizes.Sizes.{Sizes}
use Rattle.lock_free.specs.Accounts.{running, state_of}
use Rattle.lock_free.specs.Beginning.{Ends}
use Rattle.lock_free.specs.Loading.{now, seen, IsAt, IsSound, Runs, Waited}
use Rattle.lock_free.specs.Places.{pin_word, words_of}
use Rattle.lock_free.specs.Shadows.{IsShadowed}
use Rattle.lock_free.specs.Rules.{IsKept}
use Rattle.lock_free.specs.SeatWords.{HasEnded, IsAtEnd, left_by, once_ended, has_ended}
use Rattle.lock_free.proofs.CountWords.{pin_apart}
use Rattle.lock_free.proofs.Ended.{all_then, end_kept}
use Rattle.lock_free.proofs.Moments.{ruled_unpinned, waited_so, free_inside}
use Rattle.lock_free.proofs.OneGlance.Shadowed.{AllowsRuled, lifted}
use Rattle.lock_free.proofs.OneStep.Sitting.{ends_of}
use Rattle.lock_free.proofs.OneStep.Telling.{end_told}
use Rattle.lock_free.proofs.Lettings.{TakesNone}

keeps_by : (mark : Bool) (number : Option ℕ) (g : ℕ) → left_by mark number ≡ Some g → (number ≡ Some g) × (mark ≡ false)
keeps_by true number g e = absurd (none-some g e)
keeps_by false number g e = (e, refl)

drops_by : (mark : Bool) (number : Option ℕ) (g : ℕ) → number ≡ Some g → (left_by mark number ≡ Some g) ⊎ (mark ≡ true)
drops_by true number g e = inr refl
drops_by false number g e = inl e

-- its mark apart it is the operation that the seat knows
same_but : (o p : Operation) (mark : Bool) → record o { is_marked = mark } ≡ p → p ≡ record o { is_marked = p.is_marked }
same_but o p mark e = sym e ∙ ap (λ b. record o { is_marked = b }) (ap (λ (x : Operation). x.is_marked) e)

module _ (v : View) (answer : Reply) (p : IsAt v (act.End answer)) (s : Table.State Call View) (kept : IsKept v.sizes s) (id : ℕ) (at : get_elem? s.views id ≡ some v) where
  abbrev pub there : Account
  there = kept.account

  pub waits : Waited v there
  waits = waited_so v s kept id at

  pub stays : (mark : Bool) × running v.sizes there v.actor (record p.operation { is_marked = mark })
      × (action_of (now (seen v there)) (record p.operation { is_marked = mark }) ≡ action_of (now v) p.operation)
  stays = waits.stays p.operation p.runs

  abbrev o : Operation
  o = record p.operation { is_marked = stays.0 }

  ends_so : action_of (now (seen v there)) o ≡ act.End answer
  ends_so = stays.2 ∙ p.acts

  ends : Ends v.sizes there v.actor
  ends = ends_of v.sizes there kept.bounds v.actor o stays.1 answer ends_so

  abbrev pub after : View
  after = once_ended v stays.0 there

  pub kept_after : IsKept v.sizes (record { words = set s.words (pin_word v.actor) 0; homes = s.homes; views = set s.views id after })
  kept_after =
      end_kept v.sizes s kept id v at o stays.1 ends (left_by stays.0 v.opens) (keeps_by stays.0 v.opens) (drops_by stays.0 v.opens)
      (subst (TakesNone kept.stands (state_of v.sizes there) o) (sym ends_so) tt)

  pub sound_after : IsSound (words_of v.sizes) after
  sound_after =
      let all = all_then v.sizes s kept id v at o stays.1 ends (left_by stays.0 v.opens) (keeps_by stays.0 v.opens) (drops_by stays.0 v.opens) in
      record { size = refl; range = kept.range.within; bounds = all.bounds; keys = all.keys; counted = all.counted; inside = all.nodes.inside; free = free_inside v s kept id at }

  its_own : (x : Operation) → Runs v x → o ≡ record x { is_marked = o.is_marked }
  its_own x (mark, runs) =
      let then = waits.stays (record x { is_marked = mark }) runs in
      same_but x o then.0 (same_Some (record x { is_marked = then.0 }) o (sym then.1 ∙ stays.1))

  pub has_ended_so : HasEnded v answer after
  has_ended_so = record {
    account = there;
    waited = waits;
    operation = o;
    runs = stays.1;
    its = its_own;
    after_is = refl;
    idle = ends.own;
    told = end_told v.sizes there kept.bounds v.actor o answer stays.1 ends_so;
  }

-- an operation does one thing
same_answer : (v : View) (a b : Reply) → IsAt v (act.End a) → IsAt v (act.End b) → a ≡ b
same_answer v a b p q =
    ap (λ x. answer_in x a) (sym p.acts ∙ ap (action_of (now v)) (same_Some p.operation q.operation (sym p.runs ∙ q.runs)) ∙ q.acts)
  where
    answer_in : Action → Reply → Reply
    answer_in (act.End answer) other = answer
    answer_in action other = other

pub end_ruled : (sizes : Sizes) (size id : ℕ) (me : Me Call View) (some_seats : 1 ≤ me.0.sizes.seats) → IsAtEnd me.0 →
    AllowsRuled sizes size id me (pin_word me.0.actor) (λ n. 0) (λ n. has_ended (step size (pin_word me.0.actor) 0 0 none) me 0)
end_ruled sizes size id me some_seats (answer, p) =
    ruled_unpinned sizes size id me (pin_word me.0.actor) (λ n. 0) (λ n. has_ended (step size (pin_word me.0.actor) 0 0 none) me 0)
    some_seats (λ s kept at. inl (pin_apart me.0.sizes me.0.actor (let seat = kept.seats id me.0 at in omega (arith, seat.top, seat.most))))
    (λ s kept at. (
      after me.0 answer p s kept id at,
      kept_after me.0 answer p s kept id at,
      (
        λ other q. subst (λ a. HasEnded me.0 a (after me.0 answer p s kept id at)) (same_answer me.0 answer other p q) (has_ended_so me.0 answer p s kept id at),
        sound_after me.0 answer p s kept id at,
        refl,
      ),
    ))
    (λ s kept at. refl)

pub end_allowed : (sizes : Sizes) (size id : ℕ) (me : Me Call View) (some_seats : 1 ≤ me.0.sizes.seats) → IsAtEnd me.0 →
    Allows (IsShadowed sizes) size id me (pin_word me.0.actor) (λ n. 0) (λ n. has_ended (step size (pin_word me.0.actor) 0 0 none) me 0)
end_allowed sizes size id me some_seats ends =
    lifted sizes size id me (pin_word me.0.actor) (λ n. 0) (λ n. has_ended (step size (pin_word me.0.actor) 0 0 none) me 0) some_seats (end_ruled sizes size id me some_seats ends)

-- the word is one of the table's
pub pin_inside : (words : ℕ) (v : View) → IsSound words v → v.actor ≤ v.sizes.seats → pin_word v.actor < words
pin_inside words v sound few = let size = sound.size in omega (arith, size, few)
