-- How a call makes the nodes of its change, and what then stands in the slots.
use Rattle.std.proofs.Common.{◌≡◌, ℕ, suc, ◌+◌, ◌≤◌, Bool, true, false, unwrap_or, length, Option, Some, None, refl, sym, ap, ◌∙◌, subst, eqb-true, arith}
use Rattle.proof_straight.specs.Vocabulary.{Access, Writable, ReadOnly, Call, Node, Slot, Ref, Heap, stored, node_at, generation_at, generation_of, slot_of, BuildLine, Sets, Removes, Line}
use Rattle.proof_straight.specs.Vocabulary.{with_made as private_with, build_action, build_after_made, build_if_made, handle_of, inserts, needs_writable, when_found, passes, access_of, begin_denial}
use Rattle.proof_straight.specs.Vocabulary.{begun_operation, is_access, State, root_at, Record, carried_by, counts_from}
use Rattle.proof_straight.specs.Beneath.history.specs.declared.calls.Call.TheVariants as call
use Rattle.machine_model.specs.declared.actions.Action.TheVariants as act
use Rattle.machine_model.specs.declared.lines.Line.TheVariants as line
use Rattle.proof_straight.proofs.Steps.Noting.{quiet}
use Rattle.proof_straight.specs.Drafts.{Draft, first_draft, next_made, with_made}
use Rattle.proof_straight.specs.Places.{Leads, to_root, below}
use Rattle.proof_straight.specs.Running.{HasEmptySlots}
use Rattle.proof_straight.proofs.Steps.Alone.{Alone, on_line, stand}
use Rattle.proof_straight.proofs.Way.Descent.{rooted}
use Rattle.proof_straight.proofs.Steps.Going.{Stands, carried_on, makes}
use Rattle.proof_straight.proofs.Change.Slots.{made_slot, standing_indirection, stored_node, takes}

-- ---- drafts

-- what stood stands, and the free slots are empty ones
pub record IsDraft (state : State) (draft : Draft) : Type 0 where
  pub empty : HasEmptySlots draft.heap
  pub stays : (r : Ref) (slot : Slot) → stored state.heap r ≡ Some slot → stored draft.heap r ≡ Some slot

-- and the newest node is this one, in a slot where nothing stood
pub record HasMade (state : State) (draft : Draft) (before : Heap) (node : Node) : Type 0 where
  pub is : IsDraft state draft
  pub newest : stored draft.heap draft.newest ≡ Some (made_slot before node)
  pub apart : (r : Ref) (slot : Slot) → stored state.heap r ≡ Some slot → slot_of r ≡ slot_of draft.newest → ⊥

pub first_is : (state : State) → HasEmptySlots state.heap → IsDraft state (first_draft state)
first_is state h = record { empty = h; stays = λ r slot is. is }

pub has_made : (state : State) (draft : Draft) (node : Node) → IsDraft state draft → 1 ≤ length draft.heap.free → HasMade state (with_made state draft node) draft.heap node
has_made state draft node h enough =
    let t = takes draft.heap node h.empty enough in
    record {
      is = record { empty = t.empty; stays = λ r slot is. t.others r slot (h.stays r slot is) };
      newest = t.here;
      apart = λ r slot is. t.apart r slot (h.stays r slot is);
    }

-- a look-up of what stood finds the same
pub node_stays : (state : State) (draft : Draft) (r : Ref) (slot : Slot) → IsDraft state draft → stored state.heap r ≡ Some slot → node_at draft.heap r ≡ node_at state.heap r
node_stays state draft r slot h is = stored_node draft.heap r slot (h.stays r slot is) ∙ sym (stored_node state.heap r slot is)

-- ---- what the way down says of generations

pub record IsOwn (heap : Heap) (root indirection : Ref) : Type 0 where
  pub over : Slot
  pub stands : stored heap indirection ≡ Some over
  pub top : Slot
  pub root_stands : stored heap root ≡ Some top
  pub licensed : generation_at heap indirection ≡ generation_at heap root

passes_writable : (access : Access) (b : Bool) → access ≡ Writable → passes access b ≡ true → b ≡ true
passes_writable access b w h = subst (λ a. passes a b ≡ true) w h

-- on a writable handle an indirection to which a hash leads has the root's generation
pub leads_own : (heap : Heap) (access : Access) (hash : ℕ) (root : Ref) (depth : ℕ) (indirection : Ref) → access ≡ Writable → Leads heap access hash root depth indirection →
    IsOwn heap root indirection
leads_own heap access hash root depth indirection w (to_root {generation} {main} is) =
    let (slot, at) = standing_indirection heap root generation main is in
    record { over = slot; stands = at; top = slot; root_stands = at; licensed = refl }
leads_own heap access hash root depth indirection w (below {generation} {above} {word} so_far entry is passed) =
    let own = leads_own heap access hash root _ above w so_far in
    let (slot, at) = standing_indirection heap indirection generation word is in
    record {
      over = slot;
      stands = at;
      top = own.top;
      root_stands = own.root_stands;
      licensed = ap generation_of is ∙ sym (eqb-true (generation_at heap root) generation (passes_writable access _ w passed));
    }

-- ---- access

writable_by : (access : Option Access) → is_access ReadOnly access ≡ false → unwrap_or access Writable ≡ Writable
writable_by None h = refl
writable_by (Some Writable) h = refl
writable_by (Some ReadOnly) h = cc h

denied_readers : (state : State) (actor : ℕ) (c : Call) → begin_denial state actor c None ≡ None → needs_writable c ≡ true → is_access ReadOnly (access_of (root_at state (handle_of c))) ≡ false
denied_readers state actor c d needs = grind (arith, needs)

pub writable_at : (state : State) (actor : ℕ) (c : Call) → begin_denial state actor c None ≡ None → needs_writable c ≡ true → (begun_operation state c None).access ≡ Writable
writable_at state actor c d needs = writable_by (access_of (root_at state (handle_of c))) (denied_readers state actor c d needs)

pub sets_write : (c : Call) (v : ℕ) → when_found c v ≡ Sets → needs_writable c ≡ true
sets_write (call.Get h k) v e = cc e
sets_write (call.Close h) v e = cc e
sets_write (call.Entries h) v e = cc e
sets_write (call.Count h) v e = cc e
sets_write c v e = refl

pub removes_write : (c : Call) (v : ℕ) → when_found c v ≡ Removes → needs_writable c ≡ true
removes_write (call.Get h k) v e = cc e
removes_write (call.Close h) v e = cc e
removes_write (call.Entries h) v e = cc e
removes_write (call.Count h) v e = cc e
removes_write c v e = refl

pub inserts_write : (c : Call) → inserts c ≡ true → needs_writable c ≡ true
inserts_write (call.Get h k) e = cc e
inserts_write (call.Close h) e = cc e
inserts_write (call.Entries h) e = cc e
inserts_write (call.Count h) e = cc e
inserts_write c e = refl

-- ---- a step that makes a node

module _ (state : State) (past : Record) (k : ℕ) (call : Call) (root : Ref) (alone : Alone state k) where
  abbrev pub built_at : Draft → BuildLine → ℕ → State
  built_at draft b c = stand state k draft (on_line (rooted state call root) draft (line.Build b)) (state.steps + suc c)

  -- by what it makes, and what comes after it
  pub builds : {so_far : Record} (draft : Draft) (b : BuildLine) (node : Node) (m : Line) (c : ℕ) → IsDraft state draft → 1 ≤ length draft.heap.free →
      Stands state past k call so_far state draft (on_line (rooted state call root) draft (line.Build b)) c →
      build_action (built_at draft b c) (on_line (rooted state call root) draft (line.Build b)) b ≡ act.Make node →
      build_after_made (built_at draft b c) (on_line (rooted state call root) draft (line.Build b)) b (next_made draft.heap) ≡ m →
      Stands state past k call so_far state (with_made state draft node) (on_line (rooted state call root) (with_made state draft node) m) (suc c)
  builds draft b node m c h enough before is leads =
      let op = on_line (rooted state call root) draft (line.Build b) in
      let st = built_at draft b c in
      let drawn = (takes draft.heap node h.empty enough).drawn in
      makes state past k call state alone draft (rooted state call root) (rooted state call root) (line.Build b) m c node drawn before is
      (ap (λ a. record quiet { counts = counts_from a; carried = carried_by st (handle_of call) a }) is)
      (ap (λ a. carried_on st op a) is
      ∙ ap (λ n. record op { private = private_with op.private n; line = build_if_made st op b n }) drawn
      ∙ ap (λ l. on_line (rooted state call root) (with_made state draft node) l) leads)
