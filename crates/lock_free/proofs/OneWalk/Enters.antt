-- WALK enters an indirection: it reads its main node, whose entries come to be the next ones.
use Rattle.std.proofs.Common.{◌≡◌, ◌++◌, ◌⊎◌, inl, inr, ℕ, List, Contains, refl, sym, ap, subst, ◌∙◌, reverse}
use Rattle.trie_words.specs.declared.entries.Entry.{Entry}
use Rattle.machine_model.specs.Beneath.slot_arena.specs.declared.refs.Ref.{Ref}
use Rattle.machine_model.specs.Beneath.slot_arena.specs.declared.nodes.Slot.{Slot}
use Rattle.machine_model.specs.Beneath.slot_arena.specs.Heaps.{node_at, entries_of}
use Rattle.machine_model.specs.declared.actions.Action.TheVariants as act
use Rattle.machine_model.specs.declared.lines.Line.{Line}
use Rattle.machine_model.specs.declared.lines.Line.TheVariants as line
use Rattle.machine_model.specs.declared.reading.ReadLine.TheVariants as read
use Rattle.machine_model.specs.declared.walking.WalkLine.TheVariants as walk
use Rattle.machine_model.specs.Reading.{reading}
use Rattle.machine_model.specs.Walking.{walk_next}
use Rattle.proof_memory.specs.Wants.{AllHold, line_wants}
use Rattle.lock_free.specs.declared.reading.Given.{Given}
use Rattle.lock_free.specs.declared.reading.Passed.TheVariants as passed
use Rattle.lock_free.specs.declared.reading.ReadFrom.TheVariants as resume
use Rattle.lock_free.specs.declared.rules.View.{View}
use Rattle.lock_free.specs.GoingDown.{HasMoved}
use Rattle.lock_free.specs.Holding.{IsOn, HasComeTo}
use Rattle.lock_free.specs.Live.{IsLive}
use Rattle.lock_free.specs.Loading.{now, seen, IsAtSlot, IsSound, IsUsed, Runs, Went}
use Rattle.lock_free.specs.Passing.{HasGiven, HasPassed, IsPassing, IsReading, Later}
use Rattle.lock_free.specs.Walks.{AreToDo, HasSeenAll, HasWalked, IsAtWalkedMain, IsLeft, IsToRead}
use Rattle.lock_free.proofs.Asked.{live_in_use}
use Rattle.lock_free.proofs.CleanBranches.{stay_moves}
use Rattle.lock_free.proofs.Descents.{known_stays}
use Rattle.lock_free.proofs.Followings.{follows_later}
use Rattle.lock_free.proofs.GivenBack.{node_is}
use Rattle.lock_free.proofs.Laters.{main_later, placed_later, waited_later, went_later}
use Rattle.lock_free.proofs.LastingNodes.{entry_lives}
use Rattle.lock_free.proofs.OnLines.{at_look, finds_now, given_moved, line_is, moved, moved_both, moves_on, reading_on, stays_on}
use Rattle.lock_free.proofs.OneWalk.Lines.{left_by, next_same, to_do_more, to_do_on, todo_used}
use Rattle.lock_free.proofs.OneWalk.Mains.{holds_main}
use Rattle.lock_free.proofs.Within.{held_lives}
use Rattle.std.proofs.lemmas.List.Elements.{Contains-append_cases}
use Rattle.lock_free.specs.declared.reading.ReadFrom.{ReadFrom}
use Rattle.lock_free.specs.OfReads.{on_read}
use Rattle.lock_free.proofs.OnePass.{line_from}

module _ (n : ℕ) (v0 : View) (sound0 : IsSound n v0) (stack : List Entry) (name : ℕ) (at : IsToRead v0 stack name) where
  abbrev l0 : Line
  l0 = line.Walk (walk.Read (reading at.i) at.todo at.pairs)

  pub is_reading : IsReading v0 at.i read.Main
  is_reading = reading_on v0 l0 at.on at.i read.Main refl

  pub passing : IsPassing v0 name resume.Start
  passing = (at.i, at.placed, is_reading)

  used0 : (r : Ref) → Contains at.todo r → (slot : Slot) × IsUsed v0 r slot
  used0 =
      let claims : AllHold (IsLive (now v0)) (now v0).heap (line_wants v0.sizes.hash at.on.0.call at.on.0.access l0) = finds_now v0 l0 at.on n sound0 in
      todo_used n v0 sound0 at.todo claims.0

  -- it is out of tries
  pub enter_spent : (place : ReadFrom) (v1 : View) → HasPassed v0 (passed.Again place) v1 → IsLeft v0 v1
  enter_spent place v1 h =
      let come = line_from v0 v1 at.i place (h at.i read.Main is_reading) in
      left_by v0 v1 (λ o. on_read l0 come.0) (λ o. refl)
      (record { later = come.1.later; comes = λ o r. subst (λ x. Runs v1 (record o { line = on_read x come.0 })) (line_is v0 l0 at.on o r) (come.1.comes o r) })

  module _ (given : Given) (v1 : View) (p : HasPassed v0 (passed.Gives given) v1) (sound1 : IsSound n v1) where
    abbrev pub gives : HasGiven v0 at.i given v1
    gives = p at.i read.Main is_reading

    abbrev main : Ref
    main = gives.main

    abbrev l1 : Line
    l1 = line.Walk (walk.Main main at.todo at.pairs)

    pub given1 : HasComeTo l1 v0 v1
    given1 = given_moved v0 l0 at.on v1 main gives.come

    abbrev pub at_main : IsAtWalkedMain v1 given
    at_main = record {
      main = main;
      todo = at.todo;
      pairs = at.pairs;
      on = moves_on v0 l0 at.on v1 l1 given1;
      header = gives.header;
      placed = (gives.link.main_used, gives.link.is.names.place);
    }

    abbrev refs : List Ref
    refs = entries_of (node_at (now v1).heap main)

    module _ (v2 : View) (entries : List Entry) (s : HasSeenAll v1 given entries v2) (sound2 : IsSound n v2) where
      on2 : IsOn v2 l1
      on2 = stays_on v1 l1 at_main.on v2 s.0

      moved2 : HasComeTo l1 v0 v2
      moved2 = moved_both v0 v1 v2 (λ o. l1) (λ o. l1) (λ o. l1) (λ o l. refl) given1 (stay_moves v1 v2 l1 at_main.on s.0)

      pub looks_main : IsAtSlot v2 act.Look given.link.main.slot
      looks_main = (main, at_look v2 l1 on2 main (λ o. refl), (placed_later v1 v2 s.0.later main given.link.main.slot at_main.placed).1)

      -- no memory
      pub enter_left : IsLeft v0 v2
      enter_left = left_by v0 v2 (λ o. l1) (λ o. refl) moved2

      node2 : node_at (now v2).heap main ≡ node_at (now v1).heap main
      node2 = known_stays v1 v2 s.0.later main given.header gives.header

      abbrev at2 : IsAtWalkedMain v2 given
      at2 = record {
        main = main;
        todo = at.todo;
        pairs = at.pairs;
        on = on2;
        header = main_later v1 v2 s.0.later main given.header gives.header;
        placed = placed_later v1 v2 s.0.later main given.link.main.slot at_main.placed;
      }

      todo2 : (r : Ref) → Contains at.todo r → (slot : Slot) × IsUsed v2 r slot
      todo2 =
          let claims : AllHold (IsLive (now v2)) (now v2).heap (line_wants v2.sizes.hash on2.0.call on2.0.access l1) = finds_now v2 l1 on2 n sound2 in
          todo_used n v2 sound2 at.todo claims.0

      entries2 : (r : Ref) → Contains refs r → (slot : Slot) × IsUsed v2 r slot
      entries2 r c =
          let h = at2.header in
          let node : h.slot.node ≡ node_at (now v1).heap main = sym (node_is_there h.slot h.used) ∙ node2 in
          live_in_use v2.sizes v2.account sound2.bounds r
          (entry_lives v2.sizes v2.account main r h.slot (held_lives v2 main (holds_main n v2 sound2 given at2)) h.used (subst (λ x. Contains (entries_of x) r) (sym node) c))
        where
          node_is_there : (slot : Slot) → IsUsed v2 main slot → node_at (now v2).heap main ≡ slot.node
          node_is_there slot u = node_is (now v2) main slot u

      all2 : (r : Ref) → Contains (refs ++ at.todo) r → (slot : Slot) × IsUsed v2 r slot
      all2 r c = by (Contains-append_cases refs at.todo r c)
        where
          by : Contains refs r ⊎ Contains at.todo r → (slot : Slot) × IsUsed v2 r slot
          by (inl x) = entries2 r x
          by (inr x) = todo2 r x

      knows2 : AreToDo v2 (stack ++ reverse entries) (refs ++ at.todo)
      knows2 =
          to_do_more v2 stack at.todo entries refs (to_do_on v0 v2 (follows_later v0 v2 moved2.later) stack at.todo used0 at.knows) (s.1 at_main)

      module _ (v3 : View) (sound3 : IsSound n v3) (went : Went v2 v3) where
        node3 : node_at (now (seen v2 went.account)).heap main ≡ node_at (now v1).heap main
        node3 = known_stays v2 (seen v2 went.account) (waited_later n v2 sound2 went.account went.waited) main given.header at2.header ∙ node2

        later3 : Later v2 v3
        later3 = went_later n v2 sound2 n v3 sound3 went

        next3 : HasMoved (λ o. walk_next o (refs ++ at.todo) at.pairs) v2 v3
        next3 =
            moved v2 l1 on2 v3 later3 went main (λ o. walk_next o (refs ++ at.todo) at.pairs) (λ o. refl) (λ o. refl)
            (λ o mark r.
            ap (λ x. walk_next (record o { is_marked = mark }) (entries_of x ++ at.todo) at.pairs) node3 ∙ next_same (record o { is_marked = mark }) o (refs ++ at.todo) at.pairs refl)

        pub entered : (stack3 : List Entry) → stack3 ≡ stack ++ reverse entries → HasWalked v0 at.pairs v3 stack3
        entered stack3 is = record {
          todo = refs ++ at.todo;
          moved = moved_both v0 v2 v3 (λ o. l1) (λ o. walk_next o (refs ++ at.todo) at.pairs) (λ o. walk_next o (refs ++ at.todo) at.pairs)
              (λ o l. next_same (record o { line = l }) o (refs ++ at.todo) at.pairs refl) moved2 next3;
          knows = subst (λ xs. AreToDo v3 xs (refs ++ at.todo)) (sym is) (to_do_on v2 v3 (follows_later v2 v3 later3) (stack ++ reverse entries) (refs ++ at.todo) all2 knows2);
        }
