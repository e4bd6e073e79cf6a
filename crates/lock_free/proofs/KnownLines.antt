-- What the line of a running operation knows of the nodes that it builds from.
use Rattle.std.proofs.Common.{◌≡◌, ◌<◌, ◌^◌, ◌*◌, ℕ, inl, inr, false, Option, Some, None, sym, ap, subst, ◌∙◌, length, count_ones, arith, ltb-true}
use Rattle.std.proofs.lemmas.Bool.{le-leb}
use Rattle.std.proofs.lemmas.Option.{none-some, same_Some}
use Rattle.arrayvec.specs.ArrayVec.{ArrayVec}
use Rattle.trie_words.specs.declared.headers.Shape.{Shape}
use Rattle.trie_words.specs.declared.headers.Shape.TheVariants as shape
use Rattle.trie_words.specs.declared.names.Name.{Name}
use Rattle.machine_model.specs.Beneath.ctrie_base.specs.Hashes.{hash_of}
use Rattle.machine_model.specs.Beneath.ctrie_base.specs.Paths.{index_at, position_of}
use Rattle.machine_model.specs.Beneath.slot_arena.specs.declared.refs.Ref.{Ref}
use Rattle.machine_model.specs.Beneath.slot_arena.specs.declared.nodes.Node.{Node}
use Rattle.machine_model.specs.Beneath.slot_arena.specs.declared.nodes.Node.TheVariants.{Branch, List as Listed}
use Rattle.machine_model.specs.Beneath.slot_arena.specs.Heaps.{node_at}
use Rattle.machine_model.specs.Beneath.slot_arena.specs.Refs.{slot_of}
use Rattle.machine_model.specs.declared.building.Change.{Change}
use Rattle.machine_model.specs.declared.building.Change.TheVariants as change
use Rattle.machine_model.specs.declared.operations.Operation.{Operation}
use Rattle.machine_model.specs.declared.steps.Bounds.{Bounds}
use Rattle.machine_model.specs.Calls.{key_of}
use Rattle.machine_model.specs.Grown.{standing}
use Rattle.machine_model.specs.Paths.{depth_of}
use Rattle.machine_model.specs.States.{State, operation_of}
use Rattle.machine_model.specs.Times.{states_of, last_of}
use Rattle.machine_model.proofs.Grown.{node_grown}
use Rattle.machine_model.proofs.Times.{run_is, run_ends}
use Rattle.proof_linearizable.specs.Beneath.proof_contents.specs.Lines.Changes.{Known, flag_in, IsFlagged, Absence, no_flag, not_listed, Presence, in_branch, in_list, KnowsLine, KnowsChange}
use Rattle.proof_linearizable.specs.Beneath.proof_shape.specs.Lines.Knowing.{known_with, first_main}
use Rattle.proof_linearizable.specs.Beneath.proof_shape.proofs.Lines.Knows.{knows_at}
use Rattle.proof_memory.specs.Laws.{IsInUse}
use Rattle.proof_memory.specs.Wants.{AllHold, line_wants}
use Rattle.proof_memory.proofs.Claims.Uses.{safe_of}
use Rattle.proof_memory.proofs.Lines.Shared.{position_within}
use Rattle.proof_memory.proofs.Safety.AtEachTime.{safe_along}
use Rattle.proof_memory.proofs.Safety.AtTimes.{line_finds}
use Rattle.lock_free.specs.declared.accounts.Account.{Account}
use Rattle.nodes.specs.Levels.{has_flag}
use Rattle.trie_words.specs.declared.entries.Entry.{Entry}
use Rattle.lock_free.proofs.KeyMoves.{hash_is}
use Rattle.lock_free.specs.declared.changing.Edit.{Edit}
use Rattle.lock_free.specs.declared.changing.Edit.TheVariants as edit
use Rattle.lock_free.specs.declared.rules.View.{View}
use Rattle.lock_free.specs.Accounts.{bounds_for, running}
use Rattle.lock_free.specs.Changing.{count_in, HasPlaceFor, IsChange, IsChanging}
use Rattle.lock_free.specs.Loading.{now, IsSound}
use Rattle.lock_free.specs.Nodes.{SaysShape, of_branch, of_tomb, of_list}
use Rattle.lock_free.proofs.GivenBack.{node_is}

module _ (n : ℕ) (v : View) (sound : IsSound n v) (o : Operation) (runs : running v.sizes v.account v.actor o) where
  abbrev limits : Bounds
  limits = bounds_for v.sizes v.account.steps

  abbrev states : ℕ → State
  states = states_of limits v.account.steps

  abbrev last : ℕ
  last = last_of limits v.account.steps

  abbrev pub known : Known
  known = known_with limits states last (first_main states last)

  ends : states last ≡ now v
  ends = run_ends limits v.account.steps

  pub knows : KnowsLine known o.call o.line
  knows = knows_at (run_is limits v.account.steps sound.bounds) last (omega arith) v.actor o (ap (λ s. operation_of s v.actor) ends ∙ runs)

  pub claimed : AllHold (IsInUse (now v).heap) (now v).heap (line_wants v.sizes.hash o.call o.access o.line)
  claimed =
      subst (λ k. AllHold (IsInUse (now v).heap) (now v).heap (line_wants k o.call o.access o.line)) (hash_is v.sizes v.account)
      (line_finds (now v) (safe_along limits sound.bounds v.account.steps) v.actor o runs)

  -- a node in use is what it is known for
  pub under : (r : Ref) → IsInUse (now v).heap r → known.node r ≡ node_at (now v).heap r
  under r (slot, is) = sym (node_grown states last r slot (ap (λ (s : State). standing s.heap r) ends ∙ is)) ∙ ap (λ (s : State). node_at s.heap r) ends

-- ---- what a header says of a node that is known

abbrev shape_of : Node → Option Shape
shape_of (Branch bitmap es) = Some (shape.Branch bitmap)
shape_of (Listed es) = Some (shape.List (length es.items))
shape_of node = None

says_so : (account : Account) (k : ℕ) (node : Node) (s t : Shape) → SaysShape account k node s → shape_of node ≡ Some t → s ≡ t
says_so account k node s t (of_branch bitmap es) is = same_Some (shape.Branch bitmap) t is
says_so account k node s t (of_tomb single own x) is = absurd (none-some t is)
says_so account k node s t (of_list es) is = same_Some (shape.List (length es.items)) t is

-- ---- so there is a place for the change

module _ (n : ℕ) (v : View) (sound : IsSound n v) (name : Name) (what : Shape) (flag : ℕ) (e : Edit) (h : IsChanging v name what flag e) where
  abbrev pub o0 : Operation
  o0 = record h.on.0 { is_marked = h.on.1.0 }

  abbrev pub K : Known
  K = known n v sound o0 h.on.1.1

  pub change_known : KnowsChange K o0.call (depth_of h.path) h.main h.former h.its
  change_known = subst (KnowsLine K o0.call) h.on.2 (knows n v sound o0 h.on.1.1)

  main_used : IsInUse (now v).heap h.main
  main_used = safe_of (subst (λ l. AllHold (IsInUse (now v).heap) (now v).heap (line_wants v.sizes.hash o0.call o0.access l)) h.on.2 (claimed n v sound o0 h.on.1.1)).1.1.0

  pub node_known : h.known.slot.node ≡ K.node h.main
  node_known = sym (node_is (now v) h.main h.known.slot h.known.used) ∙ sym (under n v sound o0 h.on.1.1 h.main main_used)

  abbrev index : ℕ
  index = index_at (hash_of v.sizes.hash (key_of o0.call)) (5 * depth_of h.path)

  flag_so : flag ≡ flag_in K (depth_of h.path) (key_of o0.call)
  flag_so = h.is_flag h.on.0 h.on.1

  is_branch : (bitmap : ℕ) (es : ArrayVec Ref) → K.node h.main ≡ Branch bitmap es → what ≡ shape.Branch bitmap
  is_branch bitmap es is = sym h.is_shape ∙ says_so v.account (slot_of h.main) h.known.slot.node h.header.shape (shape.Branch bitmap) h.known.is_shape (ap shape_of (node_known ∙ is))

  is_list : (es : ArrayVec Ref) → K.node h.main ≡ Listed es → what ≡ shape.List (length es.items)
  is_list es is = sym h.is_shape ∙ says_so v.account (slot_of h.main) h.known.slot.node h.header.shape (shape.List (length es.items)) h.known.is_shape (ap shape_of (node_known ∙ is))

  flagged_inside : (position bitmap : ℕ) (es : ArrayVec Ref) → IsFlagged K (depth_of h.path) (key_of o0.call) h.main position bitmap es → position < count_in what
  flagged_inside position bitmap es f =
      subst (λ s. position < count_in s) (sym (is_branch bitmap es f.is))
      (subst (λ k. k < count_ones bitmap) (sym f.at)
      (ltb-true (position_of (2 ^ index) bitmap) (count_ones bitmap) (position_within bitmap index (count_ones bitmap) f.flagged (le-leb (count_ones bitmap) (count_ones bitmap) (omega arith)))))

  present_inside : (position value : ℕ) → Presence K (depth_of h.path) (key_of o0.call) h.main position value → position < count_in what
  present_inside position value (in_branch bitmap es f is) = flagged_inside position bitmap es f
  present_inside position value (in_list es is low single) = subst (λ s. position < count_in s) (sym (is_list es is)) low

  absent_room : Absence K (depth_of h.path) (key_of o0.call) h.main → (entry : Entry) → HasPlaceFor what flag (edit.Insert entry)
  absent_room (no_flag bitmap es is none) entry =
      subst (λ s. HasPlaceFor s flag (edit.Insert entry)) (sym (is_branch bitmap es is)) (subst (λ f. has_flag bitmap f ≡ false) (sym flag_so) none)
  absent_room (not_listed es is few none) entry = subst (λ s. HasPlaceFor s flag (edit.Insert entry)) (sym (is_list es is)) few

  at_position : (s : Shape) (position : ℕ) (entry : Entry) → position < count_in s → HasPlaceFor s flag (edit.Update position entry)
  at_position (shape.Branch bitmap) position entry low = low
  at_position (shape.Tomb one) position entry low = low
  at_position (shape.List count) position entry low = low

  without : (s : Shape) (position : ℕ) → position < count_in s → HasPlaceFor s flag (edit.Remove position)
  without (shape.Branch bitmap) position low = low
  without (shape.Tomb one) position low = low
  without (shape.List count) position low = low

  entombs : (s : Shape) (one : Name) → HasPlaceFor s flag (edit.Entomb one)
  entombs (shape.Branch bitmap) one = tt
  entombs (shape.Tomb single) one = tt
  entombs (shape.List count) one = tt

  pub has_place : HasPlaceFor what flag e
  has_place = by e h.its h.is_change change_known
    where
      by : (d : Edit) (c : Change) → IsChange v d c → KnowsChange K o0.call (depth_of h.path) h.main h.former c → HasPlaceFor what flag d
      by (edit.Insert entry) (change.Insert single) is k = absent_room k.1 entry
      by (edit.Update position entry) (change.Update at other) is (inl k) = at_position what position entry (subst (λ p. p < count_in what) (sym is.0) (present_inside at k.0 k.3))
      by (edit.Update position entry) (change.Update at other) is (inr k) =
          at_position what position entry (subst (λ p. p < count_in what) (sym is.0) (flagged_inside at k.1.0.bitmap k.1.0.entries k.1.0.branch))
      by (edit.Remove position) (change.Remove at) is k = without what position (subst (λ p. p < count_in what) (sym is) (present_inside at k.0 k.3))
      by (edit.Entomb one) c is k = entombs what one
      by (edit.Insert entry) c is k = absurd is
      by (edit.Update position entry) c is k = absurd is
      by (edit.Remove position) c is k = absurd is
