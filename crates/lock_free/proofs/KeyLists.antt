-- KEY along the singles of a list.
use Rattle.std.proofs.Common.{◌≡◌, ◌&&◌, ◌+◌, ◌<◌, ◌≤◌, ℕ, true, length, nat_le, List, refl, sym, ap, subst, ◌∙◌, arith, if◌then◌else◌}
use Rattle.std.proofs.lemmas.Bool.{true≢false, lt-ltb, le-ltb}
use Rattle.history.specs.declared.replies.Reply.TheVariants as reply
use Rattle.trie_words.specs.declared.entries.Entry.{Entry}
use Rattle.machine_model.specs.Beneath.slot_arena.specs.declared.refs.Ref.{Ref}
use Rattle.machine_model.specs.Beneath.slot_arena.specs.declared.nodes.Node.{Node}
use Rattle.machine_model.specs.Beneath.slot_arena.specs.declared.nodes.Node.TheVariants.{Indirection, Branch, Single, Tomb, List as Listed}
use Rattle.machine_model.specs.Beneath.slot_arena.specs.declared.nodes.Slot.{Slot}
use Rattle.machine_model.specs.Beneath.slot_arena.specs.Heaps.{node_at, entries_of}
use Rattle.machine_model.specs.declared.finding.KeyLine.TheVariants as key
use Rattle.machine_model.specs.declared.lines.Line.{Line}
use Rattle.machine_model.specs.declared.lines.Line.TheVariants as line
use Rattle.machine_model.specs.Calls.{inserts}
use Rattle.proof_memory.specs.Wants.{TombOrList, is_branch_or_list, is_list, meets}
use Rattle.lock_free.specs.declared.descending.Found.{Found}
use Rattle.lock_free.specs.declared.descending.Found.TheVariants as what
use Rattle.lock_free.specs.declared.finding.Met.TheVariants as met
use Rattle.lock_free.specs.declared.reading.Given.{Given}
use Rattle.lock_free.specs.declared.rules.View.{View}
use Rattle.lock_free.specs.declared.tasks.Task.{Task}
use Rattle.machine_model.specs.declared.building.Site.TheVariants as site
use Rattle.lock_free.specs.Descending.{IsTask, IsPlace, IsInside, IsHere, IsAtList, IsFoundAt, IsSearching, entries_in, line_listed, absent_at_end, absent_found, HasFound}
use Rattle.lock_free.specs.Entries.{IsEntryIn, HasSeenEntry}
use Rattle.lock_free.specs.GoingDown.{IsAtKey, HasMoved, IsAtSingle, after_other, line_met, HasMet}
use Rattle.lock_free.specs.Holding.{IsOn}
use Rattle.lock_free.specs.Loading.{now, IsUsed, IsSound, HasPosition}
use Rattle.lock_free.proofs.Crowds.{counted, list_few}
use Rattle.lock_free.proofs.Descents.{place_later, known_stays, task_moved, task_stayed, moved_self, found_after, found_stayed}
use Rattle.lock_free.proofs.GivenBack.{node_is}
use Rattle.lock_free.proofs.KeyFound.{ends_here}
use Rattle.lock_free.proofs.KeyHolds.{LooksIn, looks_in_list, listed_single, has_position_in, holds_entry_in}
use Rattle.lock_free.proofs.KeyMet.{key_ready, key_done}
use Rattle.lock_free.proofs.KeyMoves.{moved_on}
use Rattle.lock_free.proofs.OnLines.{moved_so, moves_on, stayed_moved}

list_kind : (node : Node) → is_list node ≡ true → (is_branch_or_list node ≡ true) × (meets TombOrList node ≡ true)
list_kind (Listed singles) is = (refl, refl)
list_kind (Branch bitmap entries) is = absurd (true≢false (sym is))
list_kind (Indirection generation main) is = absurd (true≢false (sym is))
list_kind (Single key value) is = absurd (true≢false (sym is))
list_kind (Tomb single) is = absurd (true≢false (sym is))

few_in : (n : ℕ) (v : View) → IsSound n v → (r : Ref) (slot : Slot) → IsUsed v r slot → (node : Node) → slot.node ≡ node → is_list node ≡ true → length (entries_of node) ≤ 32
few_in n v sound r slot used (Listed singles) same is = list_few n v sound r slot singles used same
few_in n v sound r slot used (Branch bitmap entries) same is = absurd (true≢false (sym is))
few_in n v sound r slot used (Indirection generation main) same is = absurd (true≢false (sym is))
few_in n v sound r slot used (Single key value) same is = absurd (true≢false (sym is))
few_in n v sound r slot used (Tomb single) same is = absurd (true≢false (sym is))

-- ---- before the first

module _ (n : ℕ) (v : View) (sound : IsSound n v) (task : Task) (t : IsTask v task) (slots : List ℕ) (given : Given) (is_at : IsHere v slots given (IsAtList v)) where
  abbrev first_line : Line
  first_line = line_listed task.call (entries_in given.header.shape) 0 is_at.0 is_at.1

  first_on : IsOn v first_line
  first_on =
      let looks = looks_in_list v is_at.0 is_at.1 0 is_at.3.1 n sound in
      let count = counted n v sound is_at.1 given.header is_at.2.header in
      let some : 0 < entries_in given.header.shape = subst (λ k. 0 < k) (ap (λ x. length (entries_of x)) (sym (node_is (now v) is_at.1 looks.slot looks.used)) ∙ count) looks.inside in
      subst (λ b. IsOn v (if b then line.Key (key.Listed is_at.0 is_at.1 0) else absent_at_end task.call (entries_in given.header.shape) is_at.0 is_at.1))
      (sym (lt-ltb 0 (entries_in given.header.shape) some)) is_at.3.1

  pub begins : IsSearching v task slots given (entries_in given.header.shape) 0 v
  begins = record {
    path = is_at.0;
    main = is_at.1;
    moved = moved_self v first_line first_on;
    place = is_at.2;
    lists = is_at.3.0;
    count = counted n v sound is_at.1 given.header is_at.2.header;
    on = first_on;
    its = t;
  }

-- ---- at a single

module _ (n : ℕ) (before : View) (task : Task) (slots : List ℕ) (given : Given) (singles others : ℕ) (v : View) (s : IsSearching before task slots given singles others v) (sound : IsSound n v)
    (more : others < singles) where
  abbrev path : List Ref
  path = s.path

  abbrev main : Ref
  main = s.main

  at : IsAtKey v (key.Listed path main others)
  at =
      subst (λ b. IsOn v (if b then line.Key (key.Listed path main others) else absent_at_end task.call singles path main)) (lt-ltb others singles more) s.on

  looks : LooksIn v main others
  looks = looks_in_list v path main others at n sound

  lists_slot : is_list looks.slot.node ≡ true
  lists_slot = subst (λ x. is_list x ≡ true) (node_is (now v) main looks.slot looks.used) s.lists

  small : others < 32
  small =
      let few = few_in n v sound main looks.slot looks.used looks.slot.node refl lists_slot in
      let inside = looks.inside in
      omega (arith, few, inside)

  pub see_ready : HasPosition v given.link.main.slot others
  see_ready = has_position_in v main others looks (list_kind looks.slot.node lists_slot).0 small given.link.main.slot s.place.link.is.names.place

  module _ (middle : View) (entry : Entry) (g : HasSeenEntry v given.link.main.slot others entry middle) (last : IsSound n middle) where
    at_mid : IsAtKey middle (key.Listed path main others)
    at_mid = (at.0, g.0.comes at.0 at.1, at.2)

    pub task_mid : IsTask middle task
    task_mid = task_stayed v middle task at.0 at.1 g.0 s.its

    place_mid : IsPlace middle slots given path main
    place_mid = place_later v middle g.0.later slots given path main s.place

    node_mid : node_at (now middle).heap main ≡ node_at (now v).heap main
    node_mid = known_stays v middle g.0.later main given.header s.place.header

    lists_mid : is_list (node_at (now middle).heap main) ≡ true
    lists_mid = ap is_list node_mid ∙ s.lists

    count_mid : length (entries_of (node_at (now middle).heap main)) ≡ singles
    count_mid = ap (λ x. length (entries_of x)) node_mid ∙ s.count

    inside : IsInside middle main others
    inside = subst (λ k. others < k) (sym count_mid) more

    pub meet_ready : IsAtSingle middle entry.slot
    meet_ready =
        let entry_is : IsEntryIn middle main others entry.slot entry.is_single = g.1 main (holds_entry_in v main others looks (list_kind looks.slot.node lists_slot).0) s.place.link.is.names.place in (
          key.Listed path main others,
          main,
          others,
          at_mid,
          refl,
          record { placed = entry_is.placed; kind = listed_single middle path main others at_mid n last (list_kind (node_at (now middle).heap main) lists_mid).1 },
        )

    module _ (w : View) where
      module _ (value : ℕ) (m : HasMet middle (met.Found value) w) where
        pub found_ready : IsHere w slots given (IsFoundAt w task.call others value)
        found_ready = key_ready middle w task task_mid slots given path main others place_mid inside (key.Listed path main others) at_mid value m (λ o. refl)

        pub found_done : (after : View) (result : Found) → HasFound w slots result after → HasFound before slots result after
        found_done after result h =
            found_after before v after (λ o. line_listed task.call singles others path main) slots result s.moved
            (found_stayed v middle after slots result g.0
            (key_done middle w task task_mid slots given path main others place_mid inside (key.Listed path main others) at_mid value m (λ o. refl) after result h))

      module _ (m : HasMet middle met.Other w) where
        abbrev next : Line
        next = line_listed task.call singles (others + 1) path main

        moved : HasMoved (λ o. next) middle w
        moved =
            moved_so middle w (line_met (now middle) (key.Listed path main others) met.Other) (λ o. next)
            (λ o r. ap (λ k. after_other o path main others k) count_mid ∙ ap (λ c. line_listed c singles (others + 1) path main) (task_mid.calls o r).0)
            (m (key.Listed path main others) at_mid)

        pub next_one : IsSearching before task slots given singles (others + 1) w
        next_one =
            let node_then = known_stays middle w moved.later main given.header place_mid.header in
            record {
              path = path;
              main = main;
              moved = moved_on before v w (λ o. line_listed task.call singles others path main) next s.moved (stayed_moved v middle w (λ o. next) g.0 moved);
              place = place_later middle w moved.later slots given path main place_mid;
              lists = ap is_list node_then ∙ lists_mid;
              count = ap (λ x. length (entries_of x)) node_then ∙ count_mid;
              on = moves_on middle (line.Key (key.Listed path main others)) at_mid w next moved;
              its = task_moved middle w (λ o. next) task at_mid.0 at_mid.1 moved task_mid;
            }

-- ---- after the last

pub ends : (before : View) (task : Task) (slots : List ℕ) (given : Given) (singles : ℕ) (v : View) → IsSearching before task slots given singles singles v → HasFound before slots
    (if inserts task.call && nat_le 32 singles then what.Answers reply.Crowded else absent_found task.call site.Absent given) v
ends before task slots given singles v s =
    found_after before v v (λ o. line_listed task.call singles singles s.path s.main) slots _ s.moved
    (ends_here task.call singles given v slots s.path s.main s.place
    (subst (λ b. IsOn v (if b then line.Key (key.Listed s.path s.main singles) else absent_at_end task.call singles s.path s.main)) (le-ltb singles singles (omega arith)) s.on))
