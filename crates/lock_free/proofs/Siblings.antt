-- KEY takes one of two entries out of a branch below the root: it looks at the other one.
use Rattle.std.proofs.Common.{◌≡◌, ◌<◌, ◌-◌, ℕ, true, false, get_or, List, Some, refl, sym, ap, ◌∙◌, arith}
use Rattle.std.proofs.lemmas.Bool.{true≢false}
use Rattle.trie_words.specs.declared.entries.Entry.{Entry}
use Rattle.machine_model.specs.Beneath.slot_arena.specs.declared.refs.Ref.{Ref}
use Rattle.machine_model.specs.Beneath.slot_arena.specs.declared.nodes.Node.{Node}
use Rattle.machine_model.specs.Beneath.slot_arena.specs.declared.nodes.Node.TheVariants.{Indirection, Branch, Single, Tomb, List as Listed}
use Rattle.machine_model.specs.Beneath.slot_arena.specs.Heaps.{no_ref, node_at, entry_at, entries_of}
use Rattle.machine_model.specs.declared.actions.Action.TheVariants as act
use Rattle.machine_model.specs.declared.building.BuildLine.TheVariants as build
use Rattle.machine_model.specs.declared.building.Change.TheVariants as change
use Rattle.machine_model.specs.declared.finding.KeyLine.TheVariants as key
use Rattle.machine_model.specs.declared.lines.Line.{Line}
use Rattle.machine_model.specs.declared.lines.Line.TheVariants as line
use Rattle.machine_model.specs.Finding.{after_sibling}
use Rattle.machine_model.specs.States.{State}
use Rattle.proof_memory.specs.Laws.{SameNode}
use Rattle.proof_memory.specs.Wants.{is_branch_or_list, is_entry}
use Rattle.lock_free.specs.declared.descending.Found.TheVariants as found
use Rattle.lock_free.specs.declared.descending.Update.TheVariants as update
use Rattle.lock_free.specs.declared.reading.Given.{Given}
use Rattle.lock_free.specs.declared.rules.View.{View}
use Rattle.lock_free.specs.Descending.{IsPlace, IsAtSibling, IsHere, HasFound}
use Rattle.lock_free.specs.Entries.{entry_in, IsEntryIn, HasSeenEntry}
use Rattle.lock_free.specs.GoingDown.{IsAtKey, HasMoved}
use Rattle.lock_free.specs.Loading.{now, seen, IsSound, IsAtSlot, HasPosition, Went}
use Rattle.lock_free.specs.Nodes.{is_single}
use Rattle.lock_free.specs.Passing.{Later}
use Rattle.lock_free.proofs.Descents.{place_later, inside_later, known_stays, found_stayed}
use Rattle.lock_free.proofs.GivenBack.{node_is}
use Rattle.lock_free.proofs.KeyHolds.{LooksIn, looks_in_sibling, sibling_branch, sibling_entry, has_position_in, holds_entry_in}
use Rattle.lock_free.proofs.OnLines.{at_look, moved}
use Rattle.lock_free.proofs.Laters.{went_later, waited_later, placed_later}

-- what an entry is it stays
single_stays : (a b : Node) → SameNode a b → is_single b ≡ is_single a
single_stays (Indirection generation main) b same = ap is_single same.1
single_stays (Branch bitmap entries) b same = ap is_single same.1
single_stays (Single key value) b same = ap is_single same.1
single_stays (Tomb single) b same = ap is_single same.1
single_stays (Listed singles) b same = ap is_single same.1

module _ (path : List Ref) (main : Ref) (position former : ℕ) (other : Ref) where
  by_single : (node : Node) → is_single node ≡ true → after_sibling path main position former other node ≡ line.Build (build.Main path main (change.Entomb other) (Some former))
  by_single (Single k v) is = refl
  by_single (Indirection generation word) is = absurd (true≢false (sym is))
  by_single (Branch bitmap entries) is = absurd (true≢false (sym is))
  by_single (Tomb single) is = absurd (true≢false (sym is))
  by_single (Listed singles) is = absurd (true≢false (sym is))

  by_link : (node : Node) → is_entry node ≡ true → is_single node ≡ false → after_sibling path main position former other node ≡ line.Build (build.Main path main (change.Remove position)
      (Some former))
  by_link (Indirection generation word) is no_single = refl
  by_link (Single k v) is no_single = absurd (true≢false no_single)
  by_link (Branch bitmap entries) is no_single = absurd (true≢false (sym is))
  by_link (Tomb single) is no_single = absurd (true≢false (sym is))
  by_link (Listed singles) is no_single = absurd (true≢false (sym is))

module _ (n : ℕ) (before : View) (sound : IsSound n before) (slots : List ℕ) (given : Given) (position former : ℕ) (is_at : IsHere before slots given (IsAtSibling before position former)) where
  abbrev path : List Ref
  path = is_at.0

  abbrev main : Ref
  main = is_at.1

  abbrev place : IsPlace before slots given path main
  place = is_at.2

  abbrev at : IsAtKey before (key.Sibling path main position former)
  at = is_at.3.2

  looks : LooksIn before main (1 - position)
  looks = looks_in_sibling before path main position former at n sound

  two_few : 1 - position < 32
  two_few = omega arith

  kind : is_branch_or_list looks.slot.node ≡ true
  kind = sibling_branch before path main position former at n sound looks.slot looks.used

  pub has_position : HasPosition before given.link.main.slot (1 - position)
  has_position = has_position_in before main (1 - position) looks kind two_few given.link.main.slot place.link.is.names.place

  module _ (middle : View) (entry : Entry) (g : HasSeenEntry before given.link.main.slot (1 - position) entry middle) (last : IsSound n middle) where
    abbrev e : Ref
    e = entry_in middle main (1 - position)

    entry_is : IsEntryIn middle main (1 - position) entry.slot entry.is_single
    entry_is = g.1 main (holds_entry_in before main (1 - position) looks kind) place.link.is.names.place

    at_mid : IsAtKey middle (key.Sibling path main position former)
    at_mid = (at.0, g.0.comes at.0 at.1, at.2)

    place_mid : IsPlace middle slots given path main
    place_mid = place_later before middle g.0.later slots given path main place

    pub look_ready : IsAtSlot middle act.Look entry.slot
    look_ready = (e, at_look middle (line.Key (key.Sibling path main position former)) at_mid e (λ o. refl), entry_is.placed.1)

    module _ (after : View) (end : IsSound n after) (w : Went middle after) where
      abbrev u : View
      u = seen middle w.account

      abbrev state : State
      state = now u

      later_u : Later middle u
      later_u = waited_later n middle last w.account w.waited

      later_after : Later middle after
      later_after = went_later n middle last n after end w

      other_then : entry_at state.heap main (1 - position) ≡ e
      other_then = ap (λ x. get_or (entries_of x) (1 - position) no_ref) (known_stays middle u later_u main given.header place_mid.header)

      kind_then : is_single (node_at state.heap (entry_at state.heap main (1 - position))) ≡ entry.is_single
      kind_then =
          let x = entry_is.placed.0 in
          let y = later_u.nodes e x.0 x.1 in
          ap (λ r. is_single (node_at state.heap r)) other_then ∙ ap is_single (node_is state e y.0 y.1) ∙ single_stays x.0.node y.0.node y.2 ∙ ap is_single (sym (node_is (now middle) e x.0 x.1))
          ∙ entry_is.kind

      at_u : IsAtKey u (key.Sibling path main position former)
      at_u = let there = w.waited.stays (record at_mid.0 { is_marked = at_mid.1.0 }) at_mid.1.1 in (at_mid.0, (there.0, there.1), at_mid.2)

      comes_to : (l : Line) → after_sibling path main position former (entry_at state.heap main (1 - position)) (node_at state.heap (entry_at state.heap main (1 - position))) ≡ l →
          HasMoved (λ o. l) middle after
      comes_to l is = moved middle (line.Key (key.Sibling path main position former)) at_mid after later_after w (entry_at state.heap main (1 - position)) (λ o. l) (λ o. refl) (λ o. refl)
          (λ o mark r. is)

      place_after : IsPlace after slots given path main
      place_after = place_later middle after later_after slots given path main place_mid

      pub entombs : entry.is_single ≡ true → HasFound before slots (found.Changes (update.Entombs entry former) given) after
      entombs single =
          found_stayed before middle after slots (found.Changes (update.Entombs entry former) given) g.0
          (record {
            path = path;
            main = main;
            other = e;
            moved = comes_to (line.Build (build.Main path main (change.Entomb e) (Some former)))
                (by_single path main position former (entry_at state.heap main (1 - position)) (node_at state.heap (entry_at state.heap main (1 - position))) (kind_then ∙ single)
                ∙ ap (λ r. line.Build (build.Main path main (change.Entomb r) (Some former))) other_then);
            knows = (place_after, (placed_later middle after later_after e entry.slot entry_is.placed, single));
          })

      pub removes : entry.is_single ≡ false → HasFound before slots (found.Changes (update.Removes position former) given) after
      removes single =
          found_stayed before middle after slots (found.Changes (update.Removes position former) given) g.0
          (record {
            path = path;
            main = main;
            other = e;
            moved = comes_to (line.Build (build.Main path main (change.Remove position) (Some former)))
                (by_link path main position former (entry_at state.heap main (1 - position)) (node_at state.heap (entry_at state.heap main (1 - position)))
                (sibling_entry u path main position former at_u _ w.waited.sound) (kind_then ∙ single));
            knows = (
              place_after,
              inside_later middle after later_after main given.header position place_mid.header
                  (inside_later before middle g.0.later main given.header position place.header is_at.3.1),
            );
          })
