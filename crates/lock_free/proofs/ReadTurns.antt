-- KEY reads an indirection, and turns at its main node.
use Rattle.std.proofs.Common.{◌≡◌, ℕ, refl, sym, ap, subst, ◌∙◌, List, []}
use Rattle.machine_model.specs.Beneath.slot_arena.specs.declared.refs.Ref.{Ref}
use Rattle.machine_model.specs.Beneath.slot_arena.specs.Heaps.{no_ref}
use Rattle.machine_model.specs.declared.finding.KeyLine.TheVariants as key
use Rattle.machine_model.specs.declared.lines.Line.{Line}
use Rattle.machine_model.specs.declared.lines.Line.TheVariants as line
use Rattle.machine_model.specs.declared.operations.Operation.{Operation}
use Rattle.machine_model.specs.declared.reading.After.TheVariants.{Gives}
use Rattle.machine_model.specs.declared.reading.ReadLine.TheVariants as read
use Rattle.machine_model.specs.Operations.{read_of}
use Rattle.machine_model.specs.Reading.{reading}
use Rattle.proof_memory.specs.Wants.{flag_on}
use Rattle.lock_free.specs.declared.finding.Turn.{Turn}
use Rattle.lock_free.specs.declared.finding.Turn.TheVariants as turn
use Rattle.lock_free.specs.declared.reading.Given.{Given}
use Rattle.lock_free.specs.declared.reading.Passed.TheVariants as passed
use Rattle.lock_free.specs.declared.reading.ReadFrom.TheVariants as resume
use Rattle.lock_free.specs.declared.rules.View.{View}
use Rattle.lock_free.specs.GoingDown.{IsAtKey, HasMoved, IsFlag, IsAtMain, line_at, HasTurned, IsAtLink, HasReadTurn, HasReadKey}
use Rattle.lock_free.specs.Loading.{Runs}
use Rattle.lock_free.specs.OfReads.{read_to}
use Rattle.lock_free.specs.Passing.{IsReading, IsPassing, HasGiven, HasPassed}
use Rattle.lock_free.proofs.Comings.{runs_one}
use Rattle.lock_free.proofs.OnLines.{line_is}
use Rattle.lock_free.proofs.Laters.{later_both, link_later, main_later}
use Rattle.history.specs.declared.replies.Reply.TheVariants as reply
use Rattle.lock_free.specs.declared.reading.ReadFrom.{ReadFrom}
use Rattle.lock_free.specs.Leaving.{IsSpent}
use Rattle.lock_free.proofs.Leavings.{line_may, read_halts}

-- where it turns goes by the call and the access
line_same : (path : List Ref) (main : Ref) (t : Turn) (o : Operation) (l : Line) → line_at path main t (record o { line = l }) ≡ line_at path main t o
line_same path main (turn.Entry position) o l = refl
line_same path main turn.Absent o l = refl
line_same path main turn.List o l = refl
line_same path main (turn.Tomb single) o l = refl

-- which path it reads on
abbrev path_in : Line → List Ref
path_in (line.Key (key.Read path r)) = path
path_in l = []

abbrev link_in : Line → Ref
link_in (line.Key (key.Read path r)) = r.indirection
link_in l = no_ref

module _ (before middle : View) (name flag : ℕ) (is_at : IsAtLink before name flag) where
  abbrev path : List Ref
  path = is_at.0

  abbrev i : Ref
  i = is_at.1

  abbrev at : IsAtKey before (key.Read path (reading i))
  at = is_at.2

  is_reading : IsReading before i read.Main
  is_reading = (at.0, at.1, ap read_of at.2)

  pub passing : IsPassing before name resume.Start
  passing = (i, is_at.3, is_reading)

  pub turn_spent : (place : ReadFrom) (w : View) → HasPassed before (passed.Again place) w → IsSpent before w
  turn_spent place w h =
      read_halts (λ o. reply.NoSlots) before w i read.Main is_reading place h (line_may (λ o. reply.NoSlots) before (line.Key (key.Read path (reading i))) at (λ o. refl))

  module _ (given : Given) (p : HasPassed before (passed.Gives given) middle) where
    gives : HasGiven before i given middle
    gives = p i read.Main is_reading

    abbrev main : Ref
    main = gives.main

    -- each operation comes to the main node
    comes : (o : Operation) → Runs before o → Runs middle (record o { line = line.Key (key.Main path main) })
    comes o r =
        subst (λ l. Runs middle (read_to (Gives main) (record o { line = l })) → Runs middle (record o { line = line.Key (key.Main path main) }))
        (sym (line_is before (line.Key (key.Read path (reading i)))
        at o r)) (λ x. x) (gives.come.comes o r)

    at_main : IsAtKey middle (key.Main path main)
    at_main = (record at.0 { line = line.Key (key.Main path main) }, comes at.0 at.1, refl)

    sizes_same : middle.sizes ≡ before.sizes
    sizes_same = ap (λ (x : View). x.sizes) gives.come.later.is

    flag_then : IsFlag middle path flag
    flag_then o r =
        let same = runs_one middle o (record at.0 { line = line.Key (key.Main path main) }) r (comes at.0 at.1) in
        is_at.4 at.0 at.1 ∙ ap (λ s. flag_on s.hash at.0.call path) (sym sizes_same) ∙ ap (λ (z : Operation). flag_on middle.sizes.hash z.call path) (sym same)

    pub turns_there : IsAtMain middle given.link.main.slot flag
    turns_there = (path, main, at_main, (gives.link.main_used, gives.link.is.names.place), flag_then)

    module _ (after : View) (t : Turn) (turned : HasTurned middle t after) where
      moves : HasMoved (line_at path main t) middle after
      moves = (turned path main at_main).0

      pub read_turned : HasReadKey before (given, t) after
      read_turned q j other =
          let here : HasReadTurn before path i given t after = record {
            main = main;
            moved = record {
              later = later_both before middle after gives.come.later moves.later;
              comes = λ o r. subst (λ l. Runs after (record o { line = l })) (line_same path main t o (line.Key (key.Main path main))) (moves.comes (record o {
                line = line.Key (key.Main path
                    main);
              }) (comes o r));
            };
            tells = (turned path main at_main).1;
            link = link_later middle after moves.later i main given.link gives.link;
            header = main_later middle after moves.later main given.header gives.header;
          } in
          let line_so = sym (line_is before (line.Key (key.Read path (reading i))) at other.0 other.1) ∙ other.2 in
          let there : HasReadTurn before q i given t after = subst (λ x. HasReadTurn before x i given t after) (ap path_in line_so) here in
          subst (λ x. HasReadTurn before q x given t after) (ap link_in line_so) there
