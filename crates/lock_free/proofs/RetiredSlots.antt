-- The slot that a seat has retired: its node stands there still, and no other seat has retired it.
use Rattle.history.specs.declared.calls.Call.{Call}
use Rattle.std.proofs.Common.{◌≡◌, ◌<◌, ◌+◌, ◌++◌, ℕ, Bool, true, false, refl, List, [], ◌∷◌, Contains, get_or, length, map, slice_index, Some, None, sym, ap, subst, ◌∙◌}
use mathlib.Core.Option.{some}
use lib.ListN.{get_elem?}
use Rattle.atomic_table.specs.Table as Table
use Rattle.machine_model.specs.Beneath.slot_arena.specs.declared.nodes.Node.{Node}
use Rattle.machine_model.specs.Beneath.slot_arena.specs.declared.nodes.Node.TheVariants.{Indirection, Branch, Single, Tomb, List as Listed}
use Rattle.machine_model.specs.Beneath.slot_arena.specs.declared.nodes.Slot.{Slot}
use Rattle.machine_model.specs.Machine.{run}
use Rattle.machine_model.specs.States.{State}
use Rattle.proof_memory.specs.Laws.{SameNode}
use Rattle.proof_memory.proofs.Safety.AtEachTime.{safe_along}
use Rattle.proof_waiting.specs.Beneath.proof_slots.proofs.Unswept.Kept.{nothing_is_freed}
use Rattle.proof_waiting.specs.Beneath.proof_slots.proofs.Unswept.Shrinking.{unswept_behind}
use Rattle.proof_waiting.specs.Beneath.proof_slots.specs.Unswept.{HasNoSweeps}
use Rattle.lock_free.specs.declared.rules.Retired.{Retired}
use Rattle.lock_free.specs.declared.rules.View.{View}
use Rattle.lock_free.specs.declared.sizes.Sizes.{Sizes}
use Rattle.lock_free.specs.Accounts.{bounds_for, state_of, place_at}
use Rattle.lock_free.specs.Nodes.{class_of}
use Rattle.lock_free.specs.Epochs.{AreItsSlots}
use Rattle.lock_free.specs.Places.{count_word, epoch_word, IsSlot, IsTaken}
use Rattle.lock_free.specs.Reclaiming.{kind_by, kind_of}
use Rattle.lock_free.specs.Rules.{AreRetired, IsKept, IsRetired, Once, Stands}
use Rattle.lock_free.proofs.CountWords.{count_once, slot_taken}
use Rattle.lock_free.proofs.Framing.{class_small}
use Rattle.lock_free.proofs.KindsApart.{kind_same, stored_kind}
use Rattle.lock_free.proofs.LastingNodes.{place_stays}
use Rattle.lock_free.proofs.OneStep.Found.{ref_at, slot_at}
use Rattle.lock_free.proofs.OneStep.Widened.{slot_in}
use Rattle.lock_free.proofs.Pools.{contains_map, first_there, mapped, more_there}
use Rattle.lock_free.proofs.Reclaimable.{prefix_is}

same_class : (was now : Node) → SameNode was now → class_of now ≡ class_of was
same_class (Indirection generation main) now same = ap class_of same.1
same_class (Branch bitmap entries) now same = ap class_of same.1
same_class (Single key value) now same = ap class_of same.1
same_class (Tomb single) now same = ap class_of same.1
same_class (Listed singles) now same = ap class_of same.1

module _ (sizes : Sizes) (s : Table.State Call View) (kept : IsKept sizes s) (id : ℕ) (v : View) (at : get_elem? s.views id ≡ some v) (x : Retired) (c : Contains v.retired x) where
  abbrev state : State
  state = state_of sizes kept.account

  is : IsRetired sizes kept.account kept.stands x
  is = (kept.seats id v at).retired x c

  found : get_or (run (bounds_for sizes kept.account.steps) x.account.steps).heap.slots x.number None ≡ Some is.was.slot
  found =
      ap (λ (z : State). get_or z.heap.slots x.number None) (prefix_is sizes kept.account kept.bounds x.account is.grown)
      ∙ slot_in (length is.grown.steps) (length kept.account.steps + 1) (state_of sizes x.account) x.number ∙ is.was.stored

  there_still : (slot : Slot) × (get_or state.heap.slots x.number None ≡ Some slot) × SameNode is.was.slot.node slot.node
  there_still =
      let limits = bounds_for sizes kept.account.steps in
      let (r, place, stands) = ref_at _ (safe_along limits kept.bounds x.account.steps) x.number is.was.slot found in
      let (later, then, same) = nothing_is_freed limits x.account.steps is.grown.steps r is.was.slot kept.bounds
      (unswept_behind x.account.steps is.grown.steps (subst HasNoSweeps is.grown.goes_on kept.quiet)) stands in (
        later,
        ap (λ l. get_or (run limits l).heap.slots x.number None) is.grown.goes_on
            ∙ ap (λ j. get_or (run limits (x.account.steps ++ is.grown.steps)).heap.slots j None) (sym place) ∙ slot_at _ r later then,
        same,
      )

  -- the node stands there still
  pub stands_still : (slot : Slot) × (get_or state.heap.slots x.number None ≡ Some slot) × (class_of slot.node ≡ x.class)
  stands_still = (there_still.0, there_still.1, same_class is.was.slot.node there_still.0.node there_still.2 ∙ is.was.class)

  -- and is of the same kind
  pub kind_still : kind_of sizes x ≡ kind_by x.deep stands_still.0.node
  unfolding stands_still there_still
  kind_still = stored_kind sizes x is.was.slot is.was.stored ∙ by x.deep
    where
      by : (deep : Bool) → kind_by deep is.was.slot.node ≡ kind_by deep there_still.0.node
      by true = sym (kind_same is.was.slot.node there_still.0.node there_still.2)
      by false = refl

  pub it_stands : Stands kept.stands state x.number stands_still.0
  it_stands = (is.still, stands_still.1)

  pub place_still : place_at kept.account x.number ≡ x.name
  place_still = ap (λ xs. get_or xs x.number 0) is.grown.more_names ∙ place_stays x.account.names is.grown.names x.number is.was.made ∙ is.was.place

  pub retired_small : x.class < 3
  retired_small = subst (λ n. n < 3) stands_still.2 (class_small stands_still.0.node)

  pub retired_taken : IsTaken sizes s.words x.class x.name
  retired_taken =
      subst (λ n. IsTaken sizes s.words n x.name) stands_still.2
      (subst (λ n. IsTaken sizes s.words (class_of stands_still.0.node) n) place_still (kept.nodes.within x.number stands_still.0 it_stands))

  pub retired_slot : IsSlot sizes x.class x.name
  retired_slot = slot_taken sizes s.words kept.taken x.class x.name retired_small retired_taken

-- ---- who has retired it

module _ (sizes : Sizes) (s : Table.State Call View) (kept : IsKept sizes s) (i j : ℕ) (v w : View) (at : get_elem? s.views i ≡ some v) (at_w : get_elem? s.views j ≡ some w) (x y : Retired)
    (c : Contains v.retired x) (d : Contains w.retired y) where
  pub same_number : x.name ≡ y.name → x.number ≡ y.number
  same_number e =
      kept.nodes.apart x.number y.number (stands_still sizes s kept i v at x c).0 (stands_still sizes s kept j w at_w y d).0 (it_stands sizes s kept i v at x c) (it_stands sizes s kept j w at_w y d)
      (place_still sizes s kept i v at x c ∙ e ∙ sym (place_still sizes s kept j w at_w y d))

  pub same_retired_slot : count_word sizes x.class x.name ≡ count_word sizes y.class y.name → (x.class ≡ y.class) × (x.name ≡ y.name)
  same_retired_slot =
      count_once sizes x.class x.name y.class y.name (retired_small sizes s kept i v at x c) (retired_small sizes s kept j w at_w y d) (retired_slot sizes s kept i v at x c)
      (retired_slot sizes s kept j w at_w y d)

  -- the links of two seats are apart
  pub one_seat : AreRetired sizes s.words s.views → count_word sizes x.class x.name ≡ count_word sizes y.class y.name → i ≡ j
  one_seat old e = old.apart i j v w at at_w x y c d (same_number (same_retired_slot e).1)

-- ---- all that a seat has retired

once_names : (xs : List Retired) → ((x y : Retired) → Contains xs x → Contains xs y → x.name ≡ y.name → x.number ≡ y.number) → Once (map (λ (x : Retired). x.number) xs) →
    Once (map (λ (x : Retired). x.name) xs)
once_names [] one h = tt
once_names (x ∷ xs) one h = (
  (
      λ c. (let (y, there, same) = mapped (λ (z : Retired). z.name) xs x.name c in
      h.0 (subst (Contains (map (λ (z : Retired). z.number) xs)) (one y x (more_there x xs y there) (first_there x xs) same) (contains_map (λ (z : Retired). z.number) xs y there)))
      ),
  once_names xs (λ y z c d. one y z (more_there x xs y c) (more_there x xs z d)) h.1,
)

module _ (sizes : Sizes) (s : Table.State Call View) (kept : IsKept sizes s) (id : ℕ) (v : View) (at : get_elem? s.views id ≡ some v) (old : AreRetired sizes s.words s.views) where
  pub its_slots : sizes ≡ v.sizes → AreItsSlots v (slice_index s.words epoch_word)
  its_slots same = record {
    stamps = λ x c. old.stamps id v at x c;
    slots = λ x c. (retired_small sizes s kept id v at x c, subst (λ z. IsSlot z x.class x.name) same (retired_slot sizes s kept id v at x c));
    once = once_names v.retired (λ x y c d. same_number sizes s kept id id v v at at x y c d) (old.once id v at);
  }
