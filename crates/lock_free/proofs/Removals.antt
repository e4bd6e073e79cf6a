-- KEY takes its key out of a main node.
use Rattle.std.proofs.Common.{◌≡◌, ◌<◌, ◌-◌, ◌==◌, ◌&&◌, ℕ, Bool, true, false, count_ones, get_or, length, nat_lt, List, Some, refl, sym, ap, subst, ◌∙◌, arith, if◌then◌else◌, eqb-true}
use Rattle.trie_words.specs.declared.entries.Entry.{Entry}
use Rattle.trie_words.specs.declared.headers.Shape.{Shape}
use Rattle.trie_words.specs.declared.headers.Shape.TheVariants as shape
use Rattle.machine_model.specs.Beneath.slot_arena.specs.declared.refs.Ref.{Ref}
use Rattle.machine_model.specs.Beneath.slot_arena.specs.declared.nodes.Node.{Node}
use Rattle.machine_model.specs.Beneath.slot_arena.specs.Heaps.{no_ref, node_at, entries_of}
use Rattle.machine_model.specs.Beneath.slot_arena.specs.Refs.{slot_of}
use Rattle.machine_model.specs.declared.building.BuildLine.TheVariants as build
use Rattle.machine_model.specs.declared.building.Change.TheVariants as change
use Rattle.machine_model.specs.declared.finding.KeyLine.TheVariants as key
use Rattle.machine_model.specs.declared.lines.Line.{Line}
use Rattle.machine_model.specs.declared.lines.Line.TheVariants as line
use Rattle.machine_model.specs.Finding.{removing}
use Rattle.proof_memory.specs.Wants.{is_branch_or_list}
use Rattle.proof_memory.proofs.Levels.ShapeStates.{never_there}
use Rattle.lock_free.specs.declared.descending.Found.TheVariants as found
use Rattle.lock_free.specs.declared.descending.Update.TheVariants as update
use Rattle.lock_free.specs.declared.descending.Rest.{Rest}
use Rattle.lock_free.specs.declared.descending.Rest.TheVariants as rest
use Rattle.lock_free.specs.declared.reading.Given.{Given}
use Rattle.lock_free.specs.declared.rules.View.{View}
use Rattle.lock_free.specs.Accounts.{bounds_for}
use Rattle.lock_free.specs.Descending.{IsPlace, IsInside, IsAtSibling, IsRemovingAt, IsHere, entries_in, rest_in, HasFound}
use Rattle.lock_free.specs.Entries.{entry_in, IsEntryIn, HasSeenEntry}
use Rattle.lock_free.specs.Holding.{IsOn}
use Rattle.lock_free.specs.Loading.{now, IsSound, HasPosition}
use Rattle.lock_free.specs.Nodes.{is_single, SaysShape, of_branch, of_tomb, of_list}
use Rattle.lock_free.specs.Passing.{IsPlaced}
use Rattle.lock_free.proofs.Crowds.{counted}
use Rattle.lock_free.proofs.Descents.{as_long, place_later, known_stays, found_here, found_stayed}
use Rattle.lock_free.proofs.GivenBack.{node_is}
use Rattle.lock_free.proofs.KeyHolds.{LooksIn, looks_in_change, entombed_single, has_position_in, holds_entry_in}
use Rattle.lock_free.proofs.OnLines.{stays_on}

-- no operation comes to the impossible line
pub never_on : (n : ℕ) (v : View) → IsSound n v → IsOn v line.Impossible → ⊥
never_on n v sound on = never_there (bounds_for v.sizes v.account.steps) sound.bounds v.account.steps v.actor (record on.0 { is_marked = on.1.0 }) on.1.1 on.2

-- ---- what is left

abbrev kind_of : Rest → ℕ
kind_of rest.Entry = 0
kind_of rest.Single = 1
kind_of rest.Any = 2

entry_of_two : (a b : Bool) → (if a && b then rest.Entry else rest.Any) ≡ rest.Entry → b ≡ true
entry_of_two true true is = refl
entry_of_two true false is = absurd (omega (arith, (ap kind_of is)))
entry_of_two false true is = absurd (omega (arith, (ap kind_of is)))
entry_of_two false false is = absurd (omega (arith, (ap kind_of is)))

single_of_two : (b : Bool) → (if b then rest.Single else rest.Any) ≡ rest.Single → b ≡ true
single_of_two true is = refl
single_of_two false is = absurd (omega (arith, (ap kind_of is)))

no_single : (c : Bool) → (if c then rest.Entry else rest.Any) ≡ rest.Single → ⊥
no_single true is = omega (arith, (ap kind_of is))
no_single false is = omega (arith, (ap kind_of is))

no_entry : (c : Bool) → (if c then rest.Single else rest.Any) ≡ rest.Entry → ⊥
no_entry true is = omega (arith, (ap kind_of is))
no_entry false is = omega (arith, (ap kind_of is))

one_of_two : (s : Shape) (indirections : ℕ) → rest_in s indirections ≡ rest.Entry → entries_in s ≡ 2
one_of_two (shape.Branch bitmap) k is = eqb-true (count_ones bitmap) 2 (entry_of_two (nat_lt 1 k) (count_ones bitmap == 2) is)
one_of_two (shape.Tomb single) k is = absurd (omega (arith, (ap kind_of is)))
one_of_two (shape.List count) k is = absurd (no_entry (count == 2) is)

other_of_two : (s : Shape) (indirections : ℕ) → rest_in s indirections ≡ rest.Single → entries_in s ≡ 2
other_of_two (shape.Branch bitmap) k is = absurd (no_single (nat_lt 1 k && (count_ones bitmap == 2)) is)
other_of_two (shape.Tomb single) k is = absurd (omega (arith, (ap kind_of is)))
other_of_two (shape.List count) k is = eqb-true count 2 (single_of_two (count == 2) is)

-- ---- the line by what is left

module _ (path : List Ref) (main : Ref) (position former : ℕ) (other : Ref) where
  abbrev line_by : Rest → Line
  line_by rest.Entry = line.Key (key.Sibling path main position former)
  line_by rest.Single = line.Build (build.Main path main (change.Entomb other) (Some former))
  line_by rest.Any = line.Build (build.Main path main (change.Remove position) (Some former))

  by_entry : (c : Bool) → (if c then line_by rest.Entry else line_by rest.Any) ≡ line_by (if c then rest.Entry else rest.Any)
  by_entry true = refl
  by_entry false = refl

  by_single : (c : Bool) → (if c then line_by rest.Single else line_by rest.Any) ≡ line_by (if c then rest.Single else rest.Any)
  by_single true = refl
  by_single false = refl

module _ (n : ℕ) (v : View) (sound : IsSound n v) (slots : List ℕ) (given : Given) (position former : ℕ) (is_at : IsHere v slots given (IsRemovingAt v position former)) where
  abbrev path : List Ref
  path = is_at.0

  abbrev main : Ref
  main = is_at.1

  abbrev place : IsPlace v slots given path main
  place = is_at.2

  abbrev inside : IsInside v main position
  inside = is_at.3.0

  abbrev other : Ref
  other = entry_in v main (1 - position)

  count : length (entries_of (node_at (now v).heap main)) ≡ entries_in given.header.shape
  count = counted n v sound main given.header place.header

  abbrev On : Rest → Type 0
  On r = IsOn v (line_by path main position former other r)

  by_shape : (k : ℕ) (node : Node) (s : Shape) → SaysShape v.account k node s → length (entries_of node) ≡ entries_in s → IsOn v (removing (now v) path main position former node) →
      On (rest_in s (length slots))
  by_shape k node s (of_branch bitmap entries) same on =
      let length_so = as_long v path slots place.places in
      subst (λ l. IsOn v l)
      (ap (λ c. if nat_lt 1 (length path) && (c == 2) then line_by path main position former other rest.Entry else line_by path main position former other rest.Any) same
      ∙ ap (λ k. if nat_lt 1 k && (count_ones bitmap == 2) then line_by path main position former other rest.Entry else line_by path main position former other rest.Any) length_so
      ∙ by_entry path main position former other (nat_lt 1 (length slots) && (count_ones bitmap == 2))) on
  by_shape k node s (of_tomb single own is) same on = absurd (never_on n v sound on)
  by_shape k node s (of_list singles) same on = subst (λ l. IsOn v l) (by_single path main position former other (length singles.items == 2)) on

  on_line : On (rest_in given.header.shape (length slots))
  on_line =
      let k = place.header in
      by_shape (slot_of main) k.slot.node given.header.shape k.is_shape (ap (λ x. length (entries_of x)) (sym (node_is (now v) main k.slot k.used)) ∙ count)
      (subst (λ x. IsOn v (removing (now v) path main position former x)) (node_is (now v) main k.slot k.used) is_at.3.1)

  on_by : (r : Rest) → r ≡ rest_in given.header.shape (length slots) → On r
  on_by r is = subst On (sym is) on_line

  -- the other entry of a branch
  pub beside_few : rest.Entry ≡ rest_in given.header.shape (length slots) → position < 2
  beside_few is = subst (λ k. position < k) (count ∙ one_of_two given.header.shape (length slots) (sym is)) inside

  pub beside_ready : rest.Entry ≡ rest_in given.header.shape (length slots) → IsHere v slots given (IsAtSibling v position former)
  beside_ready is = (path, main, place, (beside_few is, inside, on_by rest.Entry is))

  -- the other single of a list
  module _ (is : rest.Single ≡ rest_in given.header.shape (length slots)) where
    two : length (entries_of (node_at (now v).heap main)) ≡ 2
    two = count ∙ other_of_two given.header.shape (length slots) (sym is)

    pub single_few : position < 2
    single_few = subst (λ k. position < k) two inside

    on : IsOn v (line.Build (build.Main path main (change.Entomb other) (Some former)))
    on = on_by rest.Single is

    looks : LooksIn v main (1 - position)
    looks = looks_in_change v path main (change.Entomb other) (Some former) (1 - position) on n sound (subst (λ k. 1 - position < k) (sym two) (omega arith))

    list_by : (k : ℕ) (node : Node) (s : Shape) → SaysShape v.account k node s → rest_in s (length slots) ≡ rest.Single → is_branch_or_list node ≡ true
    list_by k node s (of_branch bitmap entries) e = refl
    list_by k node s (of_tomb single own its) e = absurd (omega (arith, (ap kind_of e)))
    list_by k node s (of_list singles) e = refl

    kind : is_branch_or_list looks.slot.node ≡ true
    kind =
        let k = place.header in
        subst (λ x. is_branch_or_list x ≡ true) (sym (node_is (now v) main k.slot k.used) ∙ node_is (now v) main looks.slot looks.used)
        (list_by (slot_of main) k.slot.node given.header.shape k.is_shape (sym is))

    pub single_ready : HasPosition v given.link.main.slot (1 - position)
    single_ready = has_position_in v main (1 - position) looks kind (omega arith) given.link.main.slot place.link.is.names.place

    pub entombs : (after : View) (entry : Entry) → IsSound n after → HasSeenEntry v given.link.main.slot (1 - position) entry after → HasFound v slots
        (found.Changes (update.Entombs entry former) given) after
    entombs after entry last g =
        let entry_is : IsEntryIn after main (1 - position) entry.slot entry.is_single = g.1 main (holds_entry_in v main (1 - position) looks kind) place.link.is.names.place in
        let same : entry_in after main (1 - position) ≡ other =
        ap (λ x. get_or (entries_of x) (1 - position) no_ref) (known_stays v after g.0.later main given.header place.header) in
        let on_after : IsOn after (line.Build (build.Main path main (change.Entomb other) (Some former))) =
        stays_on v (line.Build (build.Main path main (change.Entomb other) (Some former))) on after g.0 in
        let single = sym entry_is.kind ∙ ap (λ r. is_single (node_at (now after).heap r)) same ∙ entombed_single after path main other (Some former) on_after n last in
        found_stayed v after after slots (found.Changes (update.Entombs entry former) given) g.0
        (found_here after slots (found.Changes (update.Entombs entry former) given) path main other (line.Build (build.Main path main (change.Entomb other) (Some former))) on_after refl
        (place_later v after g.0.later slots given path main place, (subst (λ r. IsPlaced after r entry.slot) same entry_is.placed, single)))

  -- anything else
  pub removes : rest.Any ≡ rest_in given.header.shape (length slots) → HasFound v slots (found.Changes (update.Removes position former) given) v
  removes is =
      found_here v slots (found.Changes (update.Removes position former) given) path main other (line.Build (build.Main path main (change.Remove position) (Some former))) (on_by rest.Any is) refl
      (place, inside)
