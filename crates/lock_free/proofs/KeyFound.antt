-- KEY has found its key, or that it is absent.
use Rattle.std.proofs.Common.{◌≡◌, ◌&&◌, ℕ, Bool, true, false, nat_le, List, None, Some, refl, sym, subst, if◌then◌else◌}
use Rattle.history.specs.declared.calls.Call.{Call}
use Rattle.history.specs.declared.replies.Reply.{Reply}
use Rattle.history.specs.declared.replies.Reply.TheVariants as reply
use Rattle.machine_model.specs.Beneath.slot_arena.specs.declared.refs.Ref.{Ref}
use Rattle.machine_model.specs.Beneath.slot_arena.specs.Heaps.{no_ref}
use Rattle.machine_model.specs.declared.building.BuildLine.TheVariants as build
use Rattle.machine_model.specs.declared.building.Site.{Site}
use Rattle.machine_model.specs.declared.building.Site.TheVariants as site
use Rattle.machine_model.specs.declared.finding.WhenFound.{WhenFound}
use Rattle.machine_model.specs.declared.finding.WhenFound.TheVariants.{Answers, Sets}
use Rattle.machine_model.specs.declared.lines.Line.TheVariants as line
use Rattle.machine_model.specs.Calls.{absent_reply, inserts, when_found}
use Rattle.machine_model.specs.Finding.{found_so}
use Rattle.lock_free.specs.declared.descending.Found.TheVariants as found
use Rattle.lock_free.specs.declared.descending.Update.TheVariants as update
use Rattle.lock_free.specs.declared.reading.Given.{Given}
use Rattle.lock_free.specs.declared.rules.View.{View}
use Rattle.lock_free.specs.Descending.{IsPlace, IsSite, IsFoundAt, IsHere, absent_in, absent_at_end, absent_found, line_found, KnowsFound, HasFound}
use Rattle.lock_free.specs.Holding.{IsOn}
use Rattle.lock_free.specs.Loading.{now}
use Rattle.lock_free.proofs.Descents.{found_here}

module _ (v : View) (call : Call) (slots : List ℕ) (given : Given) (position value : ℕ) (is_at : IsHere v slots given (IsFoundAt v call position value)) where
  abbrev path : List Ref
  path = is_at.0

  abbrev main : Ref
  main = is_at.1

  on_by : (todo : WhenFound) → todo ≡ when_found call value → IsOn v (found_so (now v) path main position value todo)
  on_by todo is = subst (λ t. IsOn v (found_so (now v) path main position value t)) (sym is) is_at.3.1

  pub answers : (answer : Reply) → Answers answer ≡ when_found call value → HasFound v slots (found.Answers answer) v
  answers answer is = found_here v slots (found.Answers answer) path main no_ref (line.End answer) (on_by (Answers answer) is) refl tt

  pub sets : Sets ≡ when_found call value → HasFound v slots (found.Changes (update.Builds (site.At position) (Some value)) given) v
  sets is =
      found_here v slots (found.Changes (update.Builds (site.At position) (Some value)) given) path main no_ref (line.Build (build.Single path main (site.At position) (Some value)))
      (on_by Sets is) refl
      (is_at.2, is_at.3.0)

-- ---- where it is absent

module _ (call : Call) (place : Site) (given : Given) (path : List Ref) (main : Ref) where
  absent_by : (b : Bool) → (if b then line.Build (build.Single path main place None) else line.End (absent_reply call)) ≡ line_found path main no_ref
      (if b then found.Changes (update.Builds place None) given else found.Answers (absent_reply call))
  absent_by true = refl
  absent_by false = refl

  absent_line : absent_in call place path main ≡ line_found path main no_ref (absent_found call place given)
  absent_line = absent_by (inserts call)

  module _ (v : View) (slots : List ℕ) (is_place : IsPlace v slots given path main) (fits : IsSite v main place) where
    knows_by : (b : Bool) → KnowsFound v slots path main no_ref (if b then found.Changes (update.Builds place None) given else found.Answers (absent_reply call))
    knows_by true = (is_place, fits)
    knows_by false = tt

    pub absent_here : IsOn v (absent_in call place path main) → HasFound v slots (absent_found call place given) v
    absent_here on = found_here v slots (absent_found call place given) path main no_ref (absent_in call place path main) on absent_line (knows_by (inserts call))

-- at the end of a list of so many singles
module _ (call : Call) (singles : ℕ) (given : Given) (v : View) (slots : List ℕ) (path : List Ref) (main : Ref) (is_place : IsPlace v slots given path main) where
  end_by : (b : Bool) → IsOn v (if b then line.End reply.Crowded else absent_in call site.Absent path main) → HasFound v slots
      (if b then found.Answers reply.Crowded else absent_found call site.Absent given) v
  end_by true on = found_here v slots (found.Answers reply.Crowded) path main no_ref (line.End reply.Crowded) on refl tt
  end_by false on = absent_here call site.Absent given path main v slots is_place tt on

  pub ends_here : IsOn v (absent_at_end call singles path main) → HasFound v slots
      (if inserts call && nat_le 32 singles then found.Answers reply.Crowded else absent_found call site.Absent given) v
  ends_here on = end_by (inserts call && nat_le 32 singles) on
