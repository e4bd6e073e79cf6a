-- A load lets a seat's operation give up.
use Rattle.history.specs.declared.calls.Call.{Call}
use Rattle.history.specs.declared.replies.Reply.{Reply}
use Rattle.std.proofs.Common.{◌≤◌, ◌≡◌, ◌<◌, ℕ, Bool, if◌then◌else◌, set, Some, refl, sym, ap, subst, ◌∙◌, arith, inr}
use Rattle.std.proofs.lemmas.List.{set-get_or}
use Rattle.std.proofs.lemmas.Option.{same_Some}
use mathlib.Core.Option.{some, none}
use lib.ListN.{get_elem?}
use Rattle.atomic_table.specs.Table.{Me, Allows, step}
use Rattle.atomic_table.specs.Table as Table
use Rattle.machine_model.specs.declared.actions.Action.TheVariants as act
use Rattle.machine_model.specs.declared.lines.Line.TheVariants as line
use Rattle.machine_model.specs.declared.lines.Purpose.{Purpose}
use Rattle.machine_model.specs.declared.operations.Operation.{Operation}
use Rattle.machine_model.specs.declared.reading.Swap.{Swap}
use Rattle.machine_model.specs.declared.reading.SwapLine.TheVariants as swap
use Rattle.machine_model.specs.declared.steps.Step.TheVariants as machine
use Rattle.machine_model.specs.GivingUp.{gave_up, given_up}
use Rattle.machine_model.specs.Operations.{action_of}
use Rattle.machine_model.specs.States.{operation_of}
use Rattle.lock_free.specs.declared.accounts.Account.{Account}
use Rattle.lock_free.specs.declared.rules.View.{View}
use Rattle.lock_free.specs.declared.sizes.Sizes.{Sizes}
use Rattle.lock_free.specs.Accounts.{running, state_of}
use Rattle.lock_free.specs.Beginning.{taking}
use Rattle.lock_free.specs.Calling.{GaveUp, HasGivenUp, MayGiveUp, once_given_up, has_given_up}
use Rattle.lock_free.specs.Loading.{now, seen, IsAt, IsSound, Runs, Waited}
use Rattle.lock_free.specs.Places.{epoch_word, words_of}
use Rattle.lock_free.specs.Shadows.{IsShadowed}
use Rattle.lock_free.specs.Rules.{AreOwed, AreRetired, IsKept}
use Rattle.lock_free.specs.Steps.{Leads}
use Rattle.lock_free.proofs.Asked.{is_one_of}
use Rattle.lock_free.proofs.FirstLines.{first_to_give_up}
use Rattle.lock_free.proofs.Dropped.{dropped, dropped_kept, dropped_sound, has_dropped, owed_dropped}
use Rattle.lock_free.proofs.Moments.{ruled_giving, waited_so}
use Rattle.lock_free.proofs.OneGlance.Shadowed.{AllowsRuled, lifted}
use Rattle.lock_free.proofs.OneStep.GivesUp.{gives_up, is_taken}
use Rattle.proof_claims.specs.Changes as changes
use Rattle.proof_claims.specs.Changes.{change_giving_up, change_of}
use Rattle.proof_claims.specs.Held.{held_after}
use Rattle.lock_free.specs.Claims.{held_now}
use Rattle.lock_free.proofs.OneStep.HeldLonger.{held_next}
use Rattle.lock_free.specs.GivingUp.{HasDropped}

module _ (v : View) (operation : Operation) (answer : Reply) (runs : Runs v operation) (may : given_up operation.call operation.line ≡ Some answer) (s : Table.State Call View)
    (kept : IsKept v.sizes s) (id : ℕ) (at : get_elem? s.views id ≡ some v) where
  abbrev there : Account
  there = kept.account

  waits : Waited v there
  waits = waited_so v s kept id at

  stays : (mark : Bool) × running v.sizes there v.actor (record operation { is_marked = mark })
      × (action_of (now (seen v there)) (record operation { is_marked = mark }) ≡ action_of (now v) (record operation { is_marked = runs.0 }))
  stays = waits.stays (record operation { is_marked = runs.0 }) runs.1

  abbrev o : Operation
  o = record operation { is_marked = stays.0 }

  leads : Leads v.sizes there (taking (machine.GiveUp v.actor) there) v.actor (is_one_of o.private) (gave_up o answer)
  leads = gives_up v.sizes there kept.bounds v.actor o stays.1 answer may kept.quiet

  gives : held_now v.sizes (taking (machine.GiveUp v.actor) there) ≡ held_after (changes.given_up o.private) (held_now v.sizes there)
  gives =
      let held = held_now v.sizes there in
      held_next v.sizes there.steps kept.bounds (machine.GiveUp v.actor)
      ∙ ap (λ b. if b then held_after (change_giving_up (operation_of (state_of v.sizes there) v.actor)) held else held) (is_taken v.sizes there kept.bounds v.actor o stays.1 answer may kept.quiet)
      ∙ ap (λ x. held_after (change_giving_up x) held) stays.1

  changes_so : change_of (state_of v.sizes there) (held_now v.sizes there) (machine.GiveUp v.actor) ≡ changes.given_up o.private
  changes_so = ap change_giving_up stays.1

  -- it may only before its SWAP's first step
  first_line : (why : Purpose) (w : Swap) → operation.line ≡ line.Swap why w → w.line ≡ swap.Publish
  first_line why w on = first_to_give_up operation.call why w answer (sym (ap (given_up operation.call) on) ∙ may)

  abbrev p : Operation
  p = record operation { is_marked = runs.0 }

  abbrev after : View
  after = dropped v s kept id at p (gave_up o answer) stays.0 stays.1 (machine.GiveUp v.actor) tt (λ a differs e. differs (sym e)) leads refl refl refl gives changes_so first_line

  kept_after : IsKept v.sizes (record { words = s.words; homes = s.homes; views = set s.views id after })
  kept_after = dropped_kept v s kept id at p (gave_up o answer) stays.0 stays.1 (machine.GiveUp v.actor) tt (λ a differs e. differs (sym e)) leads refl refl refl gives changes_so first_line

  sound_after : IsSound (words_of v.sizes) after
  sound_after = dropped_sound v s kept id at p (gave_up o answer) stays.0 stays.1 (machine.GiveUp v.actor) tt (λ a differs e. differs (sym e)) leads refl refl refl gives changes_so first_line

  owed_after : AreRetired v.sizes s.words s.views → AreOwed s.views → AreOwed (set s.views id after)
  owed_after = owed_dropped v s kept id at p (gave_up o answer) stays.0 stays.1 (machine.GiveUp v.actor) tt (λ a differs e. differs (sym e)) leads refl refl refl gives changes_so first_line

  all_dropped : HasDropped (seen v there) operation.private operation.line after
  all_dropped = has_dropped v s kept id at p (gave_up o answer) stays.0 stays.1 (machine.GiveUp v.actor) tt (λ a differs e. differs (sym e)) leads refl refl refl gives changes_so first_line

  -- whichever operation the seat's is said to be
  has_given_up_so : HasGivenUp v after
  has_given_up_so other reply (mark, is) gives =
      let same : record other { is_marked = operation.is_marked } ≡ operation = ap (λ (x : Operation). record x { is_marked = operation.is_marked }) (same_Some _ _ (sym is ∙ runs.1)) in
      let answers = same_Some answer reply (sym may ∙ ap (λ (x : Operation). given_up x.call x.line) (sym same) ∙ gives) in
      record {
        account = there;
        waited = waits;
        after_is = ap (λ (x : Operation). once_given_up v there x.private after.drafts) (sym same);
        dropped = subst (λ (x : Operation). HasDropped (seen v there) x.private x.line after) (sym same) all_dropped;
        runs = (
          stays.0,
          leads.own ∙ ap (λ (x : Operation). Some (gave_up (record x { is_marked = stays.0 }) answer)) (sym same)
              ∙ ap (λ a. Some (gave_up (record other { is_marked = stays.0 }) a)) answers,
        );
      }

pub give_up_ruled : (sizes : Sizes) (size id : ℕ) (me : Me Call View) (some_seats : 1 ≤ me.0.sizes.seats) → MayGiveUp me.0 →
    AllowsRuled sizes size id me epoch_word (λ n. n) (has_given_up (step size epoch_word 0 0 none) me)
give_up_ruled sizes size id me some_seats (operation, answer, runs, may) =
    ruled_giving sizes size id me epoch_word (λ n. n) (has_given_up (step size epoch_word 0 0 none) me)
    some_seats (λ s kept at. inr refl)
    (λ s kept at. (
      after me.0 operation answer runs may s kept id at,
      subst (λ ws. IsKept me.0.sizes (record { words = ws; homes = s.homes; views = set s.views id (after me.0 operation answer runs may s kept id at) })) (sym (set-get_or s.words epoch_word 0))
          (kept_after me.0 operation answer runs may s kept id at),
      (has_given_up_so me.0 operation answer runs may s kept id at, sound_after me.0 operation answer runs may s kept id at, refl),
    ))
    (λ s kept at. refl) (λ s kept at retired owed. owed_after me.0 operation answer runs may s kept id at retired owed)

pub give_up_allowed : (sizes : Sizes) (size id : ℕ) (me : Me Call View) (some_seats : 1 ≤ me.0.sizes.seats) → MayGiveUp me.0 →
    Allows (IsShadowed sizes) size id me epoch_word (λ n. n) (has_given_up (step size epoch_word 0 0 none) me)
give_up_allowed sizes size id me some_seats may =
    lifted sizes size id me epoch_word (λ n. n) (has_given_up (step size epoch_word 0 0 none) me) some_seats (give_up_ruled sizes size id me some_seats may)

-- the word is one of the table's
pub epoch_inside : (words : ℕ) (v : View) → IsSound words v → epoch_word < words
epoch_inside words v sound = let size = sound.size in omega (arith, size)

-- then it is to end
pub ends_then : (before at : View) (operation : Operation) (answer : Reply) → GaveUp before operation answer at → IsAt at (act.End answer)
ends_then before at operation answer g = record { operation = record (gave_up operation answer) { is_marked = g.runs.0 }; runs = g.runs.1; acts = refl }

pub gave_by : (before at : View) (m : MayGiveUp before) → HasGivenUp before at → GaveUp before m.0 m.1 at
gave_by before at (operation, answer, runs, may) h = h operation answer runs may
