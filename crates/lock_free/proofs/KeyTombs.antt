-- KEY at a tomb.
use Rattle.std.proofs.Common.{◌≡◌, ◌&&◌, ◌+◌, ℕ, Bool, true, false, get_or, length, nat_le, nat_lt, List, None, Some, refl, sym, ap, subst, ◌∙◌, ltb-true, if◌then◌else◌}
use Rattle.history.specs.declared.calls.Access.TheVariants.{Writable, ReadOnly}
use Rattle.history.specs.declared.replies.Reply.{Reply}
use Rattle.history.specs.declared.replies.Reply.TheVariants as reply
use Rattle.machine_model.specs.Beneath.slot_arena.specs.declared.refs.Ref.{Ref}
use Rattle.machine_model.specs.Beneath.slot_arena.specs.Heaps.{no_ref, entries_of}
use Rattle.machine_model.specs.declared.building.BuildLine.TheVariants as build
use Rattle.machine_model.specs.declared.building.Site.TheVariants as site
use Rattle.machine_model.specs.declared.finding.KeyLine.TheVariants as key
use Rattle.machine_model.specs.declared.repairs.CleanLine.TheVariants as clean
use Rattle.machine_model.specs.declared.lines.Line.{Line}
use Rattle.machine_model.specs.declared.lines.Line.TheVariants as line
use Rattle.machine_model.specs.Calls.{absent_reply, inserts, needs_writable, when_found}
use Rattle.machine_model.specs.Finding.{after_tomb, found_so}
use Rattle.machine_model.specs.Paths.{above, current}
use Rattle.machine_model.specs.Reading.{reading}
use Rattle.proof_memory.specs.Wants.{TombOrList, meets}
use Rattle.lock_free.specs.declared.descending.Found.TheVariants as what
use Rattle.lock_free.specs.declared.finding.Met.TheVariants as met
use Rattle.lock_free.specs.declared.reading.Given.{Given}
use Rattle.lock_free.specs.declared.rules.View.{View}
use Rattle.lock_free.specs.declared.tasks.Task.{Task}
use Rattle.lock_free.specs.Descending.{IsTask, IsHere, IsAtTomb, HasFound}
use Rattle.lock_free.specs.Entries.{entry_in}
use Rattle.lock_free.specs.GoingDown.{IsAtKey, HasMoved, IsTombOf, IsAtSingle, line_met, HasMet}
use Rattle.lock_free.specs.Holding.{IsOn}
use Rattle.lock_free.specs.Loading.{now, IsSound}
use Rattle.lock_free.specs.Passing.{IsPlaced}
use Rattle.lock_free.proofs.Descents.{found_here}
use Rattle.lock_free.proofs.KeyHolds.{listed_single}
use Rattle.lock_free.proofs.OnLines.{moved_so}
use Rattle.lock_free.proofs.OfTasks.{reads_only, reader_finds, reader_absent}
use Rattle.lock_free.proofs.Removals.{never_on}

module _ (n : ℕ) (v : View) (sound : IsSound n v) (task : Task) (t : IsTask v task) (slots : List ℕ) (given : Given) (name : ℕ) (is_at : IsHere v slots given (IsAtTomb v task.access name)) where
  abbrev path : List Ref
  path = is_at.0

  abbrev main : Ref
  main = is_at.1

  abbrev tomb : IsTombOf v main name
  tomb = is_at.3.0

  abbrev on : IsOn v (after_tomb task.access path main)
  on = is_at.3.1

  -- ---- on a writable handle

  abbrev cleans_on : Line
  cleans_on = line.Clean (clean.Read (above path) (reading (current (above path))))

  by_root : (b : Bool) → nat_lt 1 (length path) ≡ b → IsOn v (if b then cleans_on else line.Impossible) → HasFound v slots what.Cleans v
  by_root true is here = found_here v slots what.Cleans path main no_ref cleans_on here refl (is_at.2.places, ltb-true 1 (length path) is)
  by_root false is here = absurd (never_on n v sound here)

  pub cleans : task.access ≡ Writable → HasFound v slots what.Cleans v
  cleans is = by_root (nat_lt 1 (length path)) refl (subst (λ a. IsOn v (after_tomb a path main)) is on)

  -- ---- on a read-only one

  module _ (is : task.access ≡ ReadOnly) where
    at : IsAtKey v (key.Listed path main 0)
    at = subst (λ a. IsOn v (after_tomb a path main)) is on

    reads : needs_writable task.call ≡ false
    reads = reads_only v task t n sound on.0 on.1 is

    entry_so : entry_in v main 0 ≡ tomb.0
    entry_so = ap (λ x. get_or (entries_of x) 0 no_ref) tomb.1

    pub tomb_ready : IsAtSingle v name
    tomb_ready = (
      key.Listed path main 0,
      main,
      0,
      at,
      refl,
      record { placed = subst (λ r. IsPlaced v r name) (sym entry_so) tomb.2; kind = listed_single v path main 0 at n sound (ap (meets TombOrList) tomb.1) },
    )

    module _ (w : View) where
      answers : (answer : Reply) → HasMoved (λ o. line.End answer) v w → HasFound v slots (what.Answers answer) w
      answers answer m = record { path = path; main = main; other = no_ref; moved = m; knows = tt }

      pub finds : (value : ℕ) → HasMet v (met.Found value) w → HasFound v slots (what.Answers (reply.Found (Some value))) w
      finds value g =
          answers (reply.Found (Some value))
          (moved_so v w (line_met (now v) (key.Listed path main 0) (met.Found value)) (λ o. line.End (reply.Found (Some value))) (λ o r.
          ap (λ c. found_so (now v) path main 0 value (when_found c value)) (t.calls o r).0 ∙ ap (found_so (now v) path main 0 value) (reader_finds task.call value reads))
          (g (key.Listed path main 0) at))

      -- of so many singles, by whether the call inserts, and its answer where it doesn't
      abbrev by_call : ℕ → Bool → Reply → Line
      by_call singles b answer =
          if nat_lt (0 + 1) singles then line.Key (key.Listed path main (0 + 1))
          else (if b && nat_le 32 singles then line.End reply.Crowded else (if b then line.Build (build.Single path main site.Absent None) else line.End answer))

      pub misses : HasMet v met.Other w → HasFound v slots (what.Answers (reply.Found None)) w
      misses g =
          answers (reply.Found None)
          (moved_so v w (line_met (now v) (key.Listed path main 0) met.Other) (λ o. line.End (reply.Found None)) (λ o r.
          ap (λ x. by_call (length (entries_of x)) (inserts o.call) (absent_reply o.call)) tomb.1 ∙ ap (λ c. by_call 1 (inserts c) (absent_reply c)) (t.calls o r).0
          ∙ ap (λ b. by_call 1 b (absent_reply task.call)) (reader_absent task.call reads).0 ∙ ap (λ a. by_call 1 false a) (reader_absent task.call reads).1)
          (g (key.Listed path main 0) at))
