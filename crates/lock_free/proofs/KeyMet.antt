-- KEY meets its key in a single, of a branch or a list.
use Rattle.std.proofs.Common.{◌≡◌, ℕ, List, sym, ap, subst, ◌∙◌}
use Rattle.machine_model.specs.Beneath.slot_arena.specs.declared.refs.Ref.{Ref}
use Rattle.machine_model.specs.declared.finding.KeyLine.{KeyLine}
use Rattle.machine_model.specs.declared.lines.Line.{Line}
use Rattle.machine_model.specs.declared.lines.Line.TheVariants as line
use Rattle.machine_model.specs.declared.operations.Operation.{Operation}
use Rattle.machine_model.specs.Calls.{when_found}
use Rattle.machine_model.specs.Finding.{found, found_so}
use Rattle.lock_free.specs.declared.descending.Found.{Found}
use Rattle.lock_free.specs.declared.finding.Met.TheVariants as met
use Rattle.lock_free.specs.declared.reading.Given.{Given}
use Rattle.lock_free.specs.declared.rules.View.{View}
use Rattle.lock_free.specs.declared.tasks.Task.{Task}
use Rattle.lock_free.specs.Descending.{IsTask, IsPlace, IsInside, IsHere, IsFoundAt, HasFound}
use Rattle.lock_free.specs.GoingDown.{IsAtKey, HasMoved, line_met, HasMet}
use Rattle.lock_free.specs.Holding.{IsOn}
use Rattle.lock_free.specs.Loading.{now}
use Rattle.lock_free.proofs.Descents.{place_later, inside_later, known_stays, found_after}
use Rattle.lock_free.proofs.EntryMeets.{found_same}
use Rattle.lock_free.proofs.OnLines.{moved_so, moves_on}

module _ (v w : View) (task : Task) (t : IsTask v task) (slots : List ℕ) (given : Given) (path : List Ref) (main : Ref) (position : ℕ) (place : IsPlace v slots given path main)
    (inside : IsInside v main position) (l : KeyLine) (at : IsAtKey v l) (value : ℕ) (g : HasMet v (met.Found value) w)
    (is_found : (o : Operation) → line_met (now v) l (met.Found value) o ≡ found (now v) o path main position value) where
  abbrev next : Line
  next = found_so (now v) path main position value (when_found task.call value)

  moved : HasMoved (λ o. next) v w
  moved =
      moved_so v w (line_met (now v) l (met.Found value)) (λ o. next) (λ o r. is_found o ∙ ap (λ c. found_so (now v) path main position value (when_found c value)) (t.calls o r).0)
      (g l at)

  pub key_ready : IsHere w slots given (IsFoundAt w task.call position value)
  key_ready = (
    path,
    main,
    place_later v w moved.later slots given path main place,
    (
      inside_later v w moved.later main given.header position place.header inside,
      subst (λ x. IsOn w x) (found_same (now v) (now w) path main position value (sym (known_stays v w moved.later main given.header place.header)) (when_found task.call value))
          (moves_on v (line.Key l) at w next moved),
    ),
  )

  pub key_done : (after : View) (result : Found) → HasFound w slots result after → HasFound v slots result after
  key_done after result h = found_after v w after (λ o. next) slots result moved h
