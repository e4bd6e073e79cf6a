-- A call takes its key out where a single is left alone: it makes a tomb of that, and puts the single into the main node above.
use Rattle.std.proofs.Common.{◌≡◌, ℕ, suc, ◌+◌, ◌-◌, ◌<◌, ◌≤◌, ◌==◌, ◌&&◌, ◌⊎◌, inl, inr, Bool, true, false, cond, nat_lt, List, [], ◌∷◌, ◌++◌, length, take, Option, Some, None}
use Rattle.std.proofs.Common.{refl, sym, ap, ◌∙◌, subst, eq-eqb, lt-ltb, arith}
use Rattle.std.specs.Prelude.{slice_index_or, slice_set}
use Rattle.std.proofs.Math.Seq.{take-append_seam}
use Rattle.std.proofs.lemmas.Bool.{le-ltb, true≢false}
use Rattle.std.proofs.lemmas.List.{length-append, length-set}
use Rattle.arrayvec.specs.ArrayVec.{ArrayVec}
use Rattle.proof_straight.specs.Vocabulary.{position_of, Call, Node, Indirection, Branch, Single, Tomb, List as Listed, Slot, Ref, Heap, stored, node_at, main_at, prev_at, entry_at, entries_of}
use Rattle.proof_straight.specs.Vocabulary.{bitmap_of, no_ref, slot_of, flag_of, has_flag, contracted, renewed, Operation, Climb, ClimbLine, with_made as private_with, climb_after_contracted}
use Rattle.proof_straight.specs.Vocabulary.{climb_after_main, climb_after_read, climbed, begun_operation, after_prev, at_indirection, reading, swapping, given_by, Line, changed, key_of, when_found}
use Rattle.proof_straight.specs.Vocabulary.{after_sibling, found_so, going_down, removing, above, current, Record, State, key_hash}
use Rattle.proof_straight.specs.Beneath.slot_arena.specs.declared.nodes.Prev.TheVariants as prev
use Rattle.machine_model.specs.declared.actions.Action.TheVariants as act
use Rattle.machine_model.specs.declared.building.BuildLine.TheVariants as build
use Rattle.machine_model.specs.declared.lines.Purpose.TheVariants as purpose
use Rattle.machine_model.specs.declared.reading.ReadLine.TheVariants as read
use Rattle.machine_model.specs.declared.repairs.ClimbLine.TheVariants as climb
use Rattle.machine_model.specs.declared.building.Change.TheVariants as change
use Rattle.machine_model.specs.declared.finding.KeyLine.TheVariants as key
use Rattle.machine_model.specs.declared.lines.Line.TheVariants as line
use Rattle.proof_straight.specs.Changes.{contracted_node, single_left}
use Rattle.proof_straight.specs.Drafts.{Draft, first_draft, with_made}
use Rattle.proof_straight.specs.Places.{Finds, LeavesSingle, StandsOver, entry_for, of_branch, of_list, steps_down}
use Rattle.proof_straight.specs.Running.{HasEmptySlots, IsReady}
use Rattle.proof_straight.proofs.Steps.Alone.{Alone, IsCalm, on_line, stand}
use Rattle.proof_straight.proofs.Steps.Going.{Stands, begun_record, looks, makes, reads}
use Rattle.proof_straight.proofs.Steps.Noting.{noted_read, reading as reading_of, with_read}
use Rattle.proof_straight.proofs.Change.Slots.{same_stored, stored_node, takes}
use Rattle.proof_straight.proofs.Change.Changed.{IsMain}
use Rattle.proof_straight.proofs.Way.Descent.{IsBefore, IsPath, OnLine, comes_down, depth_is, one_below, path_below, rooted, seeks}
use Rattle.proof_straight.proofs.Way.Rooted.{alone_at, calm_at}
use Rattle.proof_straight.proofs.Way.Seeking.{again, found_from, looked}

-- the path without its last indirection
above_pushed : (path : List Ref) (r : Ref) → above (path ++ r ∷ []) ≡ path
above_pushed path r = ap (λ n. take n (path ++ r ∷ [])) last ∙ take-append_seam path (r ∷ [])
  where
    last : length (path ++ r ∷ []) - 1 ≡ length path
    last = omega (arith, length-append path (r ∷ []))

-- ---- the line that makes the tomb

pub tomb_made : (flag : ℕ) (node : Node) (single : Ref) → IsMain node → changed flag node (change.Entomb single) ≡ Tomb single
tomb_made flag (Branch bitmap entries) single m = refl
tomb_made flag (Listed singles) single m = refl
tomb_made flag (Indirection generation main) single m = absurd m
tomb_made flag (Single key value) single m = absurd m
tomb_made flag (Tomb other) single m = absurd m

pub leaves_main : (heap : Heap) (indirection : Ref) (position looks : ℕ) → LeavesSingle heap indirection position looks → IsMain (node_at heap (main_at heap indirection))
leaves_main heap indirection position looks (of_branch branch two other) = subst IsMain (sym branch) tt
leaves_main heap indirection position looks (of_list listed two) = subst IsMain (sym listed) tt

module _ (state : State) (past : Record) (k : ℕ) (call : Call) (root : Ref) (ready : IsReady state (suc k) call root) (fits : k < length past.moments) where
  abbrev On : Record → Line → ℕ → Type 0
  On = OnLine state past k call root (alone_at state k call root ready) (calm_at state (suc k) call root ready)

  -- after a look at the other entry where that is needed
  pub comes_to_tomb : {so_far : Record} (path : List Ref) (indirection : Ref) (position value more c : ℕ) → 1 < length path →
      LeavesSingle state.heap indirection position more →
      On so_far (removing state path (main_at state.heap indirection) position value (node_at state.heap (main_at state.heap indirection))) c →
      On so_far (line.Build (build.Main path (main_at state.heap indirection) (change.Entomb (single_left state indirection position)) (Some value))) (more + c)
  comes_to_tomb path indirection position value more c deep (of_list {singles} listed two) before =
      let main = main_at state.heap indirection in
      let entombs = line.Build (build.Main path main (change.Entomb (single_left state indirection position)) (Some value)) in
      again state past k call root (alone_at state k call root ready) (calm_at state (suc k) call root ready) fits _ entombs c (0 + c)
      (ap (λ node. removing state path main position value node) listed
      ∙ ap (λ b. cond b entombs (line.Build (build.Main path main (change.Remove position) (Some value)))) (eq-eqb (length singles.items) 2 two)) (omega arith) before
  comes_to_tomb path indirection position value more c deep (of_branch {entries} branch two other) before =
      let main = main_at state.heap indirection in
      let entombs = line.Build (build.Main path main (change.Entomb (single_left state indirection position)) (Some value)) in
      let sibling = line.Key (key.Sibling path main position value) in
      let removes = line.Build (build.Main path main (change.Remove position) (Some value)) in
      again state past k call root (alone_at state k call root ready) (calm_at state (suc k) call root ready) fits entombs entombs (suc c) (1 + c) refl (omega arith)
      (seeks state past k call root (alone_at state k call root ready) (calm_at state (suc k) call root ready) (key.Sibling path main position value) entombs c
      (again state past k call root (alone_at state k call root ready) (calm_at state (suc k) call root ready) fits _ sibling c c
      (ap (λ node. removing state path main position value node) branch
      ∙ ap (λ b. cond (b && (length entries.items == 2)) sibling removes) (lt-ltb 1 (length path) deep)
      ∙ ap (λ b. cond b sibling removes) (eq-eqb (length entries.items) 2 two)) refl before) tt refl
      (ap (λ node. after_sibling path main position value (entry_at state.heap main (1 - position)) node) other))

-- ---- the climb

-- the main node above has the tombed indirection in its place
pub record IsUnder (heap : Heap) (hash depth : ℕ) (over indirection main : Ref) (bitmap : ℕ) (entries : ArrayVec Ref) : Type 0 where
  pub main_is : main_at heap over ≡ main
  pub decided : prev_at heap main ≡ prev.None
  pub branch : node_at heap main ≡ Branch bitmap entries
  pub flagged : has_flag bitmap (flag_of hash depth) ≡ true
  pub entry : slice_index_or entries.items (position_of (flag_of hash depth) bitmap) no_ref ≡ indirection

-- it isn't the only entry of a branch below the root
not_only : (b : Bool) (bitmap : ℕ) (entries : List Ref) → (b ≡ false) ⊎ ¬ (length entries ≡ 1) → contracted b bitmap entries ≡ renewed bitmap entries
not_only false bitmap entries h = refl
not_only true bitmap entries (inl wrong) = absurd (true≢false wrong)
not_only true bitmap [] (inr other) = refl
not_only true bitmap (r ∷ []) (inr other) = absurd (other refl)
not_only true bitmap (r ∷ s ∷ rest) (inr other) = refl

module _ (state : State) (past : Record) (k : ℕ) (call : Call) (root : Ref) (alone : Alone state k) (draft : Draft) (calm : IsCalm state draft) (empty : HasEmptySlots draft.heap)
    (enough : 1 ≤ length draft.heap.free) (path upper : List Ref) (depth : ℕ) (over indirection main : Ref) (bitmap : ℕ) (entries : ArrayVec Ref) (single : Ref) (former : Option ℕ)
    (up : above path ≡ upper) (upper_is : IsPath upper depth over) (here : current path ≡ indirection)
    (under : IsUnder draft.heap (key_hash state (key_of call)) depth over indirection main bitmap entries) (lasts : (depth ≡ 0) ⊎ ¬ (length entries.items ≡ 1)) where
  abbrev hash : ℕ
  hash = key_hash state (key_of call)

  abbrev climb_of : Climb
  climb_of = record { path = path; single = single; former = former }

  abbrev On_climb : Record → ClimbLine → ℕ → Type 0
  On_climb so_far l c = Stands state past k call so_far state draft (on_line (rooted state call root) draft (line.Climb l)) c

  abbrev op_at : ClimbLine → Operation
  op_at l = on_line (rooted state call root) draft (line.Climb l)

  abbrev st_at : ClimbLine → ℕ → State
  st_at l c = stand state k draft (op_at l) (state.steps + suc c)

  -- the main node above is read
  reads_above : {so_far : Record} (c : ℕ) → k < length so_far.moments → On_climb so_far (climb.Read climb_of (reading over)) c →
      On_climb (with_read so_far k (state.steps + suc c) main) (climb.Main climb_of main) (suc (suc c))
  reads_above {so_far} c within before =
      let first = climb.Read climb_of (reading over) in
      let second = climb.Read climb_of (record { indirection = over; line = read.Prev main }) in
      let to_second =
      reads state past k call state alone draft (rooted state call root) (line.Climb first) (line.Climb second) c (reading_of None true) calm before tt refl refl
      (ap (λ m. line.Climb (climb.Read climb_of (record { indirection = over; line = read.Prev m }))) under.main_is) in
      subst (λ r. On_climb r (climb.Main climb_of main) (suc (suc c))) (noted_read so_far (state.steps + suc c) (state.steps + suc (suc c)) k main within)
      (reads state past k call state alone draft (rooted state call root) (line.Climb second) (line.Climb (climb.Main climb_of main)) (suc c) (reading_of (Some main) false) calm to_second tt
      (ap (λ v. reading_of (given_by (at_indirection over (after_prev (begun_operation state call None).access main v))) false) under.decided) refl
      (ap (λ v. climb_after_read climb_of (at_indirection over (after_prev (begun_operation state call None).access main v))) under.decided))

  -- where the key's entry stands in it
  abbrev place_by : List Ref → Node → ℕ
  place_by p node = position_of (flag_of hash (length p - 1)) (bitmap_of node)

  abbrev holds_by : List Ref → Node → Ref → Bool
  holds_by p node r = has_flag bitmap (flag_of hash (length p - 1)) && (slice_index_or entries.items (place_by p node) no_ref == r)

  place_is : place_by (above path) (node_at draft.heap main) ≡ position_of (flag_of hash depth) bitmap
  place_is =
      ap (λ p. place_by p (node_at draft.heap main)) up ∙ ap (λ d. position_of (flag_of hash d) (bitmap_of (node_at draft.heap main))) (depth_is upper depth over upper_is)
      ∙ ap (λ node. position_of (flag_of hash depth) (bitmap_of node)) under.branch

  holds : holds_by (above path) (node_at draft.heap main) (current path) ≡ true
  holds =
      ap (λ p. has_flag bitmap (flag_of hash (length p - 1)) && (slice_index_or entries.items (place_by (above path) (node_at draft.heap main)) no_ref == current path)) up
      ∙ ap (λ d. has_flag bitmap (flag_of hash d) && (slice_index_or entries.items (place_by (above path) (node_at draft.heap main)) no_ref == current path)) (depth_is upper depth over upper_is)
      ∙ ap (λ b. b && (slice_index_or entries.items (place_by (above path) (node_at draft.heap main)) no_ref == current path)) under.flagged
      ∙ ap (λ n. slice_index_or entries.items n no_ref == current path) place_is ∙ ap (λ r. r == current path) under.entry ∙ eq-eqb indirection (current path) (sym here)

  finds_tombed : {so_far : Record} (c : ℕ) → On_climb so_far (climb.Main climb_of main) c → On_climb so_far (climb.Contracted climb_of main) (suc c)
  finds_tombed c before =
      let l = climb.Main climb_of main in
      looks state past k call state alone draft (rooted state call root) (line.Climb l) (line.Climb (climb.Contracted climb_of main)) c calm before tt refl refl
      (ap (λ node. climb_after_main (st_at l c) (op_at l) climb_of main node) under.branch
      ∙ ap (λ b. cond b (line.Climb (climb.Contracted climb_of main)) (climbed (op_at l) former)) holds)

  abbrev new_node : Node
  new_node = contracted_node state call depth bitmap entries single

  abbrev made : Draft
  made = with_made state draft new_node

  -- whether the branch above is below the root
  under_root : (depth ≡ 0) ⊎ ¬ (length entries.items ≡ 1) → (xs : List Ref) → length xs ≡ length entries.items → (nat_lt 1 (length upper) ≡ false) ⊎ ¬ (length xs ≡ 1)
  under_root (inl top) xs size = inl (le-ltb 1 (length upper) (omega (arith, top, upper_is.size)))
  under_root (inr other) xs size = inr (λ one. other (sym size ∙ one))

  makes_node : contracted (nat_lt 1 (length (above path))) (bitmap_of (node_at draft.heap main))
      (slice_set (entries_of (node_at draft.heap main)) (place_by (above path) (node_at draft.heap main)) single) ≡ new_node
  makes_node =
      ap (λ n. contracted (nat_lt 1 (length (above path))) (bitmap_of (node_at draft.heap main)) (slice_set (entries_of (node_at draft.heap main)) n single)) place_is
      ∙ ap (λ node. contracted (nat_lt 1 (length (above path))) (bitmap_of node) (slice_set (entries_of node) (position_of (flag_of hash depth) bitmap) single)) under.branch
      ∙ ap (λ p. contracted (nat_lt 1 (length p)) bitmap (slice_set entries.items (position_of (flag_of hash depth) bitmap) single)) up
      ∙ not_only (nat_lt 1 (length upper)) bitmap (slice_set entries.items (position_of (flag_of hash depth) bitmap) single)
      (under_root lasts (slice_set entries.items (position_of (flag_of hash depth) bitmap) single) (length-set entries.items (position_of (flag_of hash depth) bitmap) single))

  makes_above : {so_far : Record} (c : ℕ) → On_climb so_far (climb.Contracted climb_of main) c →
      Stands state past k call so_far state made (on_line (rooted state call root) made (line.Swap (purpose.Climb climb_of) (swapping over main made.newest))) (suc c)
  makes_above c before =
      let l = climb.Contracted climb_of main in
      let drawn = (takes draft.heap new_node empty enough).drawn in
      makes state past k call state alone draft (rooted state call root) (rooted state call root) (line.Climb l) (line.Swap (purpose.Climb climb_of) (swapping over main made.newest)) c
      new_node drawn before
      (ap act.Make makes_node) refl
      (ap (λ n. record (op_at l) { private = private_with draft.private n; line = climb_after_contracted (op_at l) climb_of main n }) drawn
      ∙ ap (λ p. on_line (rooted state call root) made (line.Swap (purpose.Climb climb_of) (swapping (current p) main made.newest))) up
      ∙ ap (λ r. on_line (rooted state call root) made (line.Swap (purpose.Climb climb_of) (swapping r main made.newest))) upper_is.current)

  -- from the begin of the climb to its SWAP
  pub climbs : {so_far : Record} (c : ℕ) → k < length so_far.moments → On_climb so_far (climb.Read climb_of (reading over)) c →
      Stands state past k call (with_read so_far k (state.steps + suc c) main) state made
      (on_line (rooted state call root) made (line.Swap (purpose.Climb climb_of) (swapping over main made.newest))) (suc (suc (suc (suc c))))
  climbs c within before = makes_above (suc (suc (suc c))) (finds_tombed (suc (suc c)) (reads_above c within before))

-- ---- both at once

-- how the call stands where it finds its key, below an indirection of this depth
pub record HasBoth (state : State) (past : Record) (k : ℕ) (call : Call) (root : Ref) (alone : Alone state k) (calm : IsCalm state (first_draft state)) (fits : k < length past.moments)
    (depth deep : ℕ) (over indirection : Ref) (position value looks : ℕ) : Type 0 where
  pub path : List Ref
  pub upper : List Ref
  pub up : above path ≡ upper
  pub upper_is : IsPath upper depth over
  pub is : IsPath path deep indirection
  pub stands : OnLine state past k call root alone calm (looked state past k call root alone calm fits deep indirection)
      (found_so state path (main_at state.heap indirection) position value (when_found call value)) (steps_down deep looks)

pub has_both : (state : State) (past : Record) (k : ℕ) (call : Call) (root : Ref) (alone : Alone state k) (calm : IsCalm state (first_draft state)) (fits : k < length past.moments)
    (at_root : OnLine state past k call root alone calm (begun_record state past k call) (going_down [] root) 1) (depth bitmap : ℕ) (entries : ArrayVec Ref) (over indirection : Ref)
    (position value looks : ℕ) → StandsOver state call root depth over bitmap entries indirection → Finds state call root (suc depth) indirection position value looks →
    HasBoth state past k call root alone calm fits depth (suc depth) over indirection position value looks
has_both state past k call root alone calm fits at_root depth bitmap entries over indirection position value looks stands finds =
    subst (λ r. HasBoth state past k call root alone calm fits depth (suc depth) over r position value looks) stands.same
    (record {
      path = below.path;
      upper = before.path;
      up = ap above path_is ∙ above_pushed before.path entry;
      upper_is = before.is;
      is = below.is;
      stands = found_from state past k call root alone calm fits (suc depth) entry position value looks below
          (subst (λ r. Finds state call root (suc depth) r position value looks) (sym stands.same) finds);
    })
  where
    entry : Ref
    entry = entry_for state.heap (key_hash state (key_of call)) depth over bitmap

    before : IsBefore state past k call root alone calm depth over
    before = comes_down state past k call root alone calm fits at_root depth over stands.down

    below : IsBefore state past k call root alone calm (suc depth) entry
    below = one_below state past k call root alone calm depth bitmap stands.generation over stands.word entries before stands.entry stands.is stands.passed

    path_is : below.path ≡ before.path ++ entry ∷ []
    path_is = path_below state past k call root alone calm depth bitmap stands.generation over stands.word entries before stands.entry stands.is stands.passed

-- a branch and an indirection stand in two slots
pub two_slots : (heap : Heap) (main indirection : Ref) (bitmap generation word : ℕ) (entries : ArrayVec Ref) (slot : Slot) → stored heap main ≡ Some slot → node_at heap main ≡ Branch bitmap entries →
    node_at heap indirection ≡ Indirection generation word → slot_of main ≡ slot_of indirection → ⊥
two_slots heap main indirection bitmap generation word entries slot at branch leads same =
    let there = sym (same_stored heap main indirection same) ∙ at in
    let wrong = sym branch ∙ (stored_node heap main slot at ∙ sym (stored_node heap indirection slot there)) ∙ leads in
    cc wrong
