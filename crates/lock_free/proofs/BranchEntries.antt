-- KEY at an entry of a branch.
use Rattle.std.proofs.Common.{◌≡◌, ◌<◌, ◌≤◌, ◌==◌, ℕ, Bool, true, false, length, List, [], ◌∷◌, ◌++◌, refl, sym, ap, subst, ◌∙◌, arith, if◌then◌else◌}
use Rattle.std.proofs.lemmas.Bool.{lt-ltb}
use Rattle.std.proofs.lemmas.List.{length-append}
use Rattle.trie_words.specs.declared.entries.Entry.{Entry}
use Rattle.trie_words.specs.declared.links.Link.{Link}
use Rattle.machine_model.specs.Beneath.slot_arena.specs.declared.refs.Ref.{Ref}
use Rattle.machine_model.specs.Beneath.slot_arena.specs.Heaps.{no_ref, node_at, entries_of}
use Rattle.machine_model.specs.declared.building.Site.TheVariants as site
use Rattle.machine_model.specs.declared.finding.KeyLine.TheVariants as key
use Rattle.machine_model.specs.declared.repairs.RenewLine.TheVariants as renew
use Rattle.machine_model.specs.declared.lines.Line.{Line}
use Rattle.machine_model.specs.declared.lines.Line.TheVariants as line
use Rattle.machine_model.specs.declared.operations.Operation.{Operation}
use Rattle.machine_model.specs.Finding.{going_down, passes}
use Rattle.machine_model.specs.Renewing.{renew_next}
use Rattle.proof_memory.specs.Wants.{is_branch_or_list}
use Rattle.proof_linearizable.specs.Beneath.proof_shape.specs.Sites.At.{way_of}
use Rattle.proof_linearizable.specs.Beneath.proof_shape.proofs.Sites.Mains.{paths_are_short}
use Rattle.lock_free.specs.declared.descending.Found.{Found}
use Rattle.lock_free.specs.declared.descending.Found.TheVariants as what
use Rattle.lock_free.specs.declared.finding.Met.{Met}
use Rattle.lock_free.specs.declared.finding.Met.TheVariants as met
use Rattle.lock_free.specs.declared.reading.Given.{Given}
use Rattle.lock_free.specs.declared.rules.View.{View}
use Rattle.lock_free.specs.declared.tasks.Task.{Task}
use Rattle.lock_free.specs.Accounts.{bounds_for}
use Rattle.lock_free.specs.Descending.{IsTask, IsPlace, IsInside, IsHere, IsAtEntry, IsAtOne, IsFoundAt, absent_in, absent_found, HasFound, HasGoneBelow}
use Rattle.lock_free.specs.Entries.{entry_in, IsEntryIn, HasSeenEntry}
use Rattle.lock_free.specs.GoingDown.{IsAtKey, HasMoved, IsAtBelow, IsAtSingle, line_met, HasMet, line_below, HasMetLink}
use Rattle.lock_free.specs.KeyRuns.{IsBeside}
use Rattle.lock_free.specs.Loading.{now, IsSound, HasPosition}
use Rattle.lock_free.specs.RunningOn.{RunsOn}
use Rattle.lock_free.specs.Stocks.{IsStock, Stocked}
use Rattle.lock_free.proofs.Descents.{as_long, place_later, inside_later, task_moved, task_stayed, found_after, found_stayed}
use Rattle.lock_free.proofs.GivenBack.{node_is}
use Rattle.lock_free.proofs.KeyFound.{absent_here}
use Rattle.lock_free.proofs.KeyHolds.{LooksIn, looks_in_entry, entry_branch, has_position_in, holds_entry_in}
use Rattle.lock_free.proofs.KeyMet.{key_ready, key_done}
use Rattle.lock_free.proofs.Laters.{placed_later}
use Rattle.lock_free.proofs.OnLines.{moved_so, moves_on, stayed_moved}
use Rattle.lock_free.proofs.OfTasks.{passable}
use Rattle.lock_free.proofs.RunningOn.{runs_on_moved}
use Rattle.lock_free.proofs.StockStays.{stock_moved}

-- ---- at a single

module _ (v w : View) (task : Task) (t : IsTask v task) (slots : List ℕ) (given : Given) (position name : ℕ) (is_at : IsHere v slots given (IsAtOne v position name)) where
  abbrev path : List Ref
  path = is_at.0

  abbrev main : Ref
  main = is_at.1

  abbrev at : IsAtKey v (key.Entry path main position)
  at = is_at.3.1

  pub single_ready : IsAtSingle v name
  single_ready = (key.Entry path main position, main, position, at, refl, is_at.3.0)

  module _ (n : ℕ) (sound : IsSound n v) where
    looks : LooksIn v main position
    looks = looks_in_entry v path main position at n sound

    inside : IsInside v main position
    inside = subst (λ x. position < length (entries_of x)) (sym (node_is (now v) main looks.slot looks.used)) looks.inside

    module _ (value : ℕ) (g : HasMet v (met.Found value) w) where
      pub one_found : IsHere w slots given (IsFoundAt w task.call position value)
      one_found = key_ready v w task t slots given path main position is_at.2 inside (key.Entry path main position) at value g (λ o. refl)

      pub one_found_done : (after : View) (result : Found) → HasFound w slots result after → HasFound v slots result after
      one_found_done = key_done v w task t slots given path main position is_at.2 inside (key.Entry path main position) at value g (λ o. refl)

    module _ (g : HasMet v met.Other w) where
      abbrev beside : Line
      beside = absent_in task.call (site.Beside position) path main

      moved_beside : HasMoved (λ o. beside) v w
      moved_beside =
          moved_so v w (line_met (now v) (key.Entry path main position) met.Other) (λ o. beside) (λ o r. ap (λ c. absent_in c (site.Beside position) path main) (t.calls o r).0)
          (g (key.Entry path main position) at)

      pub beside_there : IsHere w slots given (IsBeside w task.call position)
      beside_there = (
        path,
        main,
        place_later v w moved_beside.later slots given path main is_at.2,
        (inside_later v w moved_beside.later main given.header position is_at.2.header inside, moves_on v (line.Key (key.Entry path main position)) at w beside moved_beside),
      )

      pub absent_done : HasFound v slots (absent_found task.call (site.Beside position) given) w
      absent_done =
          found_after v w w (λ o. beside) slots (absent_found task.call (site.Beside position) given) moved_beside
          (absent_here task.call (site.Beside position) given path main w slots (place_later v w moved_beside.later slots given path main is_at.2)
          (inside_later v w moved_beside.later main given.header position is_at.2.header inside)
          (moves_on v (line.Key (key.Entry path main position)) at w beside moved_beside))

-- whatever it has met there
module _ (v w : View) (slots : List ℕ) (given : Given) (position name : ℕ) (is_at : IsHere v slots given (IsAtOne v position name)) (result : Met) (g : HasMet v result w) where
  met_moved : HasMoved (line_met (now v) (key.Entry is_at.0 is_at.1 position) result) v w
  met_moved = g (key.Entry is_at.0 is_at.1 position) is_at.3.1

  pub met_runs : RunsOn v w
  met_runs = runs_on_moved v w (line_met (now v) (key.Entry is_at.0 is_at.1 position) result) met_moved

  pub met_task : (task : Task) → IsTask v task → IsTask w task
  met_task task its = task_moved v w (line_met (now v) (key.Entry is_at.0 is_at.1 position) result) task is_at.3.1.0 is_at.3.1.1 met_moved its

  pub met_stock : (n : ℕ) → IsSound n v → (stock : Stocked) → IsStock stock v → IsStock stock w
  met_stock n sound stock is = stock_moved n v w sound is_at.3.1.0 is_at.3.1.1 stock is (line_met (now v) (key.Entry is_at.0 is_at.1 position) result) met_moved

-- ---- at an entry

module _ (n : ℕ) (before : View) (sound : IsSound n before) (task : Task) (t : IsTask before task) (slots : List ℕ) (given : Given) (position : ℕ)
    (is_at : IsHere before slots given (IsAtEntry before position)) where
  abbrev way : List Ref
  way = is_at.0

  abbrev branch : Ref
  branch = is_at.1

  abbrev on : IsAtKey before (key.Entry way branch position)
  on = is_at.3.1

  looks_there : LooksIn before branch position
  looks_there = looks_in_entry before way branch position on n sound

  kind : is_branch_or_list looks_there.slot.node ≡ true
  kind = entry_branch before way branch position on n sound looks_there.slot looks_there.used

  pub entry_ready : HasPosition before given.link.main.slot position
  entry_ready = has_position_in before branch position looks_there kind is_at.3.0 given.link.main.slot is_at.2.link.is.names.place

  module _ (middle : View) (entry : Entry) (g : HasSeenEntry before given.link.main.slot position entry middle) (last : IsSound n middle) where
    entry_is : IsEntryIn middle branch position entry.slot entry.is_single
    entry_is = g.1 branch (holds_entry_in before branch position looks_there kind) is_at.2.link.is.names.place

    on_mid : IsAtKey middle (key.Entry way branch position)
    on_mid = (on.0, g.0.comes on.0 on.1, on.2)

    place_mid : IsPlace middle slots given way branch
    place_mid = place_later before middle g.0.later slots given way branch is_at.2

    pub task_mid : IsTask middle task
    task_mid = task_stayed before middle task on.0 on.1 g.0 t

    pub one_ready : entry.is_single ≡ true → IsHere middle slots given (IsAtOne middle position entry.slot)
    one_ready is = (way, branch, place_mid, (subst (λ b. IsEntryIn middle branch position entry.slot b) is entry_is, on_mid))

    pub link_ready : entry.is_single ≡ false → IsAtBelow middle entry.slot
    link_ready is = (way, branch, position, on_mid, subst (λ b. IsEntryIn middle branch position entry.slot b) is entry_is)

    module _ (after : View) (link : Link) (m : HasMetLink middle link after) (end : IsSound n after) where
      abbrev e : Ref
      e = entry_in middle branch position

      by_pass : (b : Bool) → passes task.access (task.start == link.generation) ≡ b → HasMoved (λ o. if b then going_down way e else renew_next (now middle) way branch []) middle after
      by_pass b is =
          moved_so middle after (line_below (now middle) way branch position link.generation) (λ o. if b then going_down way e else renew_next (now middle) way branch [])
          (λ o r. ap (λ c. if c then going_down way e else renew_next (now middle) way branch []) (passable middle task task_mid link.generation o r ∙ is))
          (m way branch position on_mid)

      module _ (is : passes task.access (task.start == link.generation) ≡ true) where
        down : HasMoved (λ o. going_down way e) middle after
        down = by_pass true is

        pub goes_below : HasGoneBelow before slots entry.slot after
        goes_below =
            let ends = moves_on middle (line.Key (key.Entry way branch position)) on_mid after (going_down way e) down in
            let its : Operation = record ends.0 { is_marked = ends.1.0 } in
            let most : length (way ++ e ∷ []) ≤ 14 = subst (λ x. length (way_of x) ≤ 14) ends.2
            (paths_are_short (bounds_for after.sizes after.account.steps) after.account.steps after.actor its end.bounds end.keys ends.1.1).0 in
            let long = length-append way (e ∷ []) in
            let same = as_long middle way slots place_mid.places in
            record {
              path = way;
              below = e;
              moved = stayed_moved before middle after (λ o. going_down way e) g.0 down;
              places = (place_later middle after down.later slots given way branch place_mid).places;
              placed = placed_later middle after down.later e entry.slot entry_is.placed;
              short = omega (arith, most, long, same);
            }

      module _ (is : passes task.access (task.start == link.generation) ≡ false) where
        some : 0 < length (entries_of (node_at (now middle).heap branch))
        some =
            let inside = subst (λ x. position < length (entries_of x)) (sym (node_is (now before) branch looks_there.slot looks_there.used)) looks_there.inside in
            let there = inside_later before middle g.0.later branch given.header position is_at.2.header inside in
            omega (arith, there)

        renews : HasMoved (λ o. line.Renew (renew.Entry way branch [])) middle after
        renews =
            moved_so middle after (λ o. renew_next (now middle) way branch []) (λ o. line.Renew (renew.Entry way branch []))
            (λ o r. ap (λ b. if b then line.Renew (renew.Entry way branch []) else line.Renew (renew.Branch way branch []))
            (lt-ltb 0 (length (entries_of (node_at (now middle).heap branch))) some))
            (by_pass false is)

        pub renews_here : HasFound before slots (what.Renews given) after
        renews_here =
            found_stayed before middle after slots (what.Renews given) g.0
            (record { path = way; main = branch; other = no_ref; moved = renews; knows = place_later middle after renews.later slots given way branch place_mid })
