-- What a call that only reads answers at the end of its way.
use Rattle.std.proofs.Common.{◌≡◌, ℕ, false, None, Some, sym, ap, ◌∙◌, if◌then◌else◌}
use Rattle.history.specs.declared.calls.Call.{Call}
use Rattle.history.specs.declared.replies.Reply.TheVariants as reply
use Rattle.machine_model.specs.declared.building.Site.{Site}
use Rattle.machine_model.specs.Calls.{absent_reply, needs_writable}
use Rattle.lock_free.specs.declared.descending.Found.TheVariants as found
use Rattle.lock_free.specs.declared.descending.Update.TheVariants as update
use Rattle.lock_free.specs.declared.reading.Given.{Given}
use Rattle.lock_free.specs.declared.rules.View.{View}
use Rattle.lock_free.specs.Descending.{IsHere, IsFoundAt, absent_found, HasFound}
use Rattle.lock_free.proofs.KeyFound.{answers}
use Rattle.lock_free.proofs.OfTasks.{reader_absent, reader_finds}
use Rattle.std.specs.Prelude.{List}

module _ (call : Call) (reads : needs_writable call ≡ false) where
  pub absent_read : (place : Site) (given : Given) → absent_found call place given ≡ found.Answers (reply.Found None)
  absent_read place given =
      ap (λ b. if b then found.Changes (update.Builds place None) given else found.Answers (absent_reply call)) (reader_absent call reads).0 ∙ ap (λ r. found.Answers r) (reader_absent call reads).1

  pub found_read : (v : View) (slots : List ℕ) (given : Given) (position value : ℕ) → IsHere v slots given (IsFoundAt v call position value) → HasFound v slots (found.Answers (reply.Found (Some
      value))) v
  found_read v slots given position value is_at =
      answers v call slots given position value is_at (reply.Found (Some value)) (sym (reader_finds call value reads))
