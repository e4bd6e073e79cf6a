-- COPY reads the main node of its root, and completes its offer by the one that its root has then.
use Rattle.std.proofs.Common.{◌≡◌, ◌||◌, ℕ, Bool, sym, ap, subst, ◌∙◌, if◌then◌else◌}
use Rattle.machine_model.specs.Beneath.slot_arena.specs.declared.refs.Ref.{Ref}
use Rattle.machine_model.specs.Beneath.slot_arena.specs.Heaps.{no_ref}
use Rattle.machine_model.specs.declared.copying.CopyLine.{CopyLine}
use Rattle.machine_model.specs.declared.copying.CopyLine.TheVariants as copy
use Rattle.machine_model.specs.declared.lines.Line.{Line}
use Rattle.machine_model.specs.declared.lines.Line.TheVariants as line
use Rattle.machine_model.specs.declared.operations.Operation.{Operation}
use Rattle.machine_model.specs.declared.reading.After.TheVariants.{Gives}
use Rattle.machine_model.specs.declared.reading.ReadLine.TheVariants as read
use Rattle.machine_model.specs.declared.roots.CompleteLine.TheVariants as complete
use Rattle.machine_model.specs.declared.roots.Descriptor.{Descriptor}
use Rattle.machine_model.specs.Acting.{operation_after}
use Rattle.machine_model.specs.Calls.{handle_of}
use Rattle.machine_model.specs.Copying.{after_given, copied_reply}
use Rattle.machine_model.specs.Lines.{new_try}
use Rattle.machine_model.specs.Operations.{read_of}
use Rattle.machine_model.specs.Reading.{reading}
use Rattle.machine_model.specs.States.{State, word_at}
use Rattle.machine_model.specs.Swapping.{is_carried_out}
use Rattle.lock_free.specs.declared.reading.Given.{Given}
use Rattle.lock_free.specs.declared.reading.Passed.TheVariants as passed
use Rattle.lock_free.specs.declared.reading.ReadFrom.TheVariants as resume
use Rattle.lock_free.specs.declared.rules.View.{View}
use Rattle.lock_free.specs.CopySteps.{IsAtCopy, IsAtOriginal, HasReadOriginal, HasOriginal, copied_line}
use Rattle.lock_free.specs.Loading.{Runs}
use Rattle.lock_free.specs.OfReads.{read_to}
use Rattle.lock_free.specs.Passing.{IsReading, IsPassing, HasPassed}
use Rattle.lock_free.proofs.Comings.{runs_one}
use Rattle.machine_model.specs.declared.reading.After.TheVariants.{Goes}
use Rattle.machine_model.specs.declared.reading.ReadLine.{ReadLine}
use Rattle.lock_free.specs.declared.reading.ReadFrom.{ReadFrom}
use Rattle.lock_free.specs.Passing.{HasCome}
use Rattle.lock_free.proofs.OnePass.{line_from}

-- ---- on a line of COPY

module _ (v : View) (l : CopyLine) (at : IsAtCopy v l) where
  pub copy_line : (o : Operation) → Runs v o → o.line ≡ line.Copy l
  copy_line o runs = ap (λ (z : Operation). z.line) (runs_one v o at.0 runs at.1) ∙ at.2

-- which root is read there
abbrev root_in : Line → Ref
root_in (line.Copy (copy.Read root r)) = root
root_in l = no_ref

pub one_root : (v : View) (a b : Ref) → IsAtCopy v (copy.Read a (reading a)) → IsAtCopy v (copy.Read b (reading b)) → a ≡ b
one_root v a b p q = ap root_in (sym (copy_line v (copy.Read a (reading a)) p q.0 q.1) ∙ q.2)

-- ---- the root is read

module _ (before : View) (name : ℕ) (is_at : IsAtOriginal before name) where
  abbrev root : Ref
  root = is_at.0

  pub is_reading : IsReading before root read.Main
  is_reading = (is_at.1.0, is_at.1.1, ap read_of is_at.1.2)

  pub passing : IsPassing before name resume.Start
  passing = (root, is_at.2, is_reading)

  pub original_spent : (place : ReadFrom) (w : View) → HasPassed before (passed.Again place) w → (reads : ReadLine) × HasCome (Goes reads) before w
  original_spent place w h = line_from before w root place (h root read.Main is_reading)

  pub original_read : (given : Given) (after : View) → HasPassed before (passed.Gives given) after → HasOriginal before given after
  original_read given after p other at =
      let g = p root read.Main is_reading in
      subst (λ r. HasReadOriginal before r given after) (one_root before root other is_at.1 at)
      (record {
        main = g.main;
        moved = record {
          later = g.come.later;
          comes = λ o r.
              subst (λ l. Runs after (read_to (Gives g.main) (record o { line = l })) → Runs after (record o { line = after_given o.call root g.main }))
              (sym (copy_line before (copy.Read root (reading root)) is_at.1 o r)) (λ x. x) (g.come.comes o r);
        };
        link = g.link;
        header = g.header;
      })

-- ---- the offer is completed

-- with this main node
abbrev pub completing_with : Descriptor → Ref → Line
completing_with offer main = line.Copy (copy.Complete (record { offer = offer; line = complete.Swap main }))

pub complete_step : (state : State) (o : Operation) (offer : Descriptor) (main : Ref) (carried : Bool) → (is_carried_out (word_at state (handle_of o.call)) offer main || o.is_marked) ≡ carried →
    operation_after state (record o { line = completing_with offer main }) ≡ record o { line = copied_line carried o }
complete_step state o offer main carried is = ap (λ b. record o { line = if b then line.End (copied_reply o.call o.opens) else new_try }) is
