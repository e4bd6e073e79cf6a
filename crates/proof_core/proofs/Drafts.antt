-- How a heap that has come as far as a draft goes on.
use Rattle.std.proofs.Common.{◌≡◌, ℕ, ◌+◌, ◌<◌, ◌≤◌, ◌==◌, Bool, true, false, cond, List, [], ◌∷◌, ◌++◌, length, Option, Some, None, refl, sym, ap, ◌∙◌, subst, arith}
use Rattle.std.proofs.lemmas.Bool.{false≢true}
use Rattle.std.proofs.lemmas.List.Elements.{All-weaker}
use Rattle.proof_core.specs.Vocabulary.{Node, Indirection, Branch, Single, Tomb, List as Listed, Slot, Ref, Heap, stored, node_of, node_at, prev_of, prev_at, main_at, main_of, refs_of_node, taken}
use Rattle.proof_core.specs.Vocabulary.{take_from, prev_changed, with_prev, with_main, AreLive, IsLive, has_birth, is_indirection, is_main_node, birth_of, slot_of, times, without, limbo_after}
use Rattle.proof_core.specs.Vocabulary.{Settles, published, if_changed, outside, State, Draft, held_with, next_made, redrafted, HasEmptySlots}
use Rattle.proof_core.specs.Beneath.slot_arena.specs.declared.nodes.Prev.TheVariants as prev
use Rattle.proof_core.specs.Beneath.slot_arena.proofs.Times.{once_same, times-append, times-cons, times-without, times_push}
use Rattle.proof_core.specs.Beneath.epochs.specs.Memories.{Memory}
use Rattle.proof_core.specs.Beneath.epochs.proofs.Forgetting.{counts_alone}
use Rattle.proof_straight.proofs.Change.Slots.{Takes, fresh_published, made_slot, node_again, same_stored, stored_node, takes}
use Rattle.proof_core.specs.Drafting.{CanSwap, IsDraft}

-- the next draft, behind a change of the heap and of root words that was settled
pub settled_over : (state now : State) (draft : Draft) (memory middle after : Memory) (heap : Heap) (private : List Ref) (newest : Ref) → now.epoch ≡ state.epoch → IsDraft state draft memory →
    middle.heap ≡ heap → middle.limbo ≡ memory.limbo → middle.epoch ≡ memory.epoch → Settles middle after → ((r : Ref) → times r middle.outside ≡ times r (held_with now private)) →
    IsDraft now (redrafted now draft heap private newest) after
settled_over state now draft memory middle after heap private newest same is changed limbo epoch done counts =
    let now_then : middle.epoch ≡ now.epoch = epoch ∙ is.epoch ∙ sym same in
    record {
      heap = done.heap ∙ changed;
      limbo = done.limbo ∙ ap (λ h. limbo_after h middle.outside middle.epoch middle.limbo) changed ∙ ap (λ l. limbo_after heap middle.outside middle.epoch l) (limbo ∙ is.limbo)
          ∙ ap (λ e. limbo_after heap middle.outside e draft.limbo) now_then ∙ counts_alone heap middle.outside (held_with now private) now.epoch draft.limbo counts;
      held = λ r. ap (times r) done.outside ∙ counts r;
      epoch = done.epochs.0 ∙ now_then;
      settled = done.settled;
    }

-- the same, where root words stay
pub settled_draft : (state : State) (draft : Draft) (memory middle after : Memory) (heap : Heap) (private : List Ref) (newest : Ref) → IsDraft state draft memory →
    middle.heap ≡ heap → middle.limbo ≡ memory.limbo → middle.epoch ≡ memory.epoch → Settles middle after → ((r : Ref) → times r middle.outside ≡ times r (held_with state private)) →
    IsDraft state (redrafted state draft heap private newest) after
settled_draft state draft memory middle after heap private newest is = settled_over state state draft memory middle after heap private newest refl is

-- one more is held
pub one_held : (state : State) (private before : List Ref) (made : Ref) → ((r : Ref) → times r before ≡ times r (held_with state private)) →
    (r : Ref) → times r (made ∷ before) ≡ times r (held_with state (private ++ made ∷ []))
one_held state private before made h r =
    omega (
      arith,
      h r,
      times-cons r made before,
      times-append r (outside state) private,
      times-append r (outside state) (private ++ made ∷ []),
      times_push r made private,
    )

-- all is given up
pub none_held : (state : State) (private before middle held : List Ref) (fresh : Ref) (made : List Ref) → ((r : Ref) → times r before ≡ times r (held_with state private)) →
    private ≡ made ++ fresh ∷ [] → ((r : Ref) → times r middle + times r made ≡ times r before + times r []) → held ≡ without fresh middle → 0 < times fresh middle →
    (r : Ref) → times r held ≡ times r (held_with state [])
none_held state private before middle held fresh made h all gives last some r =
    omega (
      arith,
      h r,
      gives r,
      ap (times r) all,
      times_push r fresh made,
      ap (times r) last,
      times-without r fresh middle some,
      times-append r (outside state) private,
      times-append r (outside state) [],
    )

-- the last one is held still behind those before it
pub last_held : (before middle : List Ref) (fresh : Ref) (made : List Ref) → ((r : Ref) → times r (made ++ fresh ∷ []) ≤ times r before) →
    ((r : Ref) → times r middle + times r made ≡ times r before + times r []) → 0 < times fresh middle
last_held before middle fresh made all gives = omega (arith, all fresh, gives fresh, times_push fresh fresh made, once_same fresh)

-- what is held is held with one more
pub held_more : (made before : List Ref) (fresh : Ref) → ((r : Ref) → times r made ≤ times r before) → (r : Ref) → times r (made ++ fresh ∷ []) ≤ times r (fresh ∷ before)
held_more made before fresh h r = omega (arith, h r, times_push r fresh made, times-cons r fresh before)

-- ---- what is live stands

stands_by : (birth : ℕ) (o : Option Slot) → has_birth birth o ≡ true → (slot : Slot) × (o ≡ Some slot)
stands_by birth None h = absurd (false≢true h)
stands_by birth (Some slot) h = (slot, refl)

pub live_stands : (heap : Heap) (r : Ref) → IsLive heap r → (slot : Slot) × (stored heap r ≡ Some slot)
live_stands heap r live = stands_by (birth_of r) (stored heap r) live

-- an indirection and a main node stand in two slots
unlike : (node : Node) → is_indirection node ≡ true → is_main_node node ≡ true → ⊥
unlike (Indirection generation main) i m = false≢true m
unlike (Branch bitmap entries) i m = false≢true i
unlike (Single key value) i m = false≢true i
unlike (Tomb single) i m = false≢true i
unlike (Listed singles) i m = false≢true i

pub two_slots : (heap : Heap) (indirection fresh : Ref) → is_indirection (node_at heap indirection) ≡ true → is_main_node (node_at heap fresh) ≡ true →
    slot_of indirection ≡ slot_of fresh → ⊥
unfolding node_at
two_slots heap indirection fresh i m same =
    unlike (node_at heap fresh) (ap (λ o. is_indirection (node_of o)) (sym (same_stored heap indirection fresh same)) ∙ i) m

-- ---- a node that was published

-- what the heap's call does where the main node stands
pub is_published : (heap : Heap) (indirection main fresh : Ref) (was : Bool) (after : Heap) → was ≡ (main_at heap indirection == main) →
    after ≡ cond was (with_prev (with_main heap indirection fresh) fresh (prev.Pending main)) heap → after ≡ published heap indirection main fresh
is_published heap indirection main fresh was after e is =
    is ∙ ap (λ b. cond b (with_prev (with_main heap indirection fresh) fresh (prev.Pending main)) heap) e
    ∙ same (main_at heap indirection == main)
  where
    same : (b : Bool) → cond b (with_prev (with_main heap indirection fresh) fresh (prev.Pending main)) heap
        ≡ if_changed b (with_prev (with_main heap indirection fresh) fresh (prev.Pending main)) heap
    same true = refl
    same false = refl

module _ (heap : Heap) (indirection main fresh : Ref) (live : IsLive heap indirection) (kind : is_indirection (node_at heap indirection) ≡ true) (over : main_at heap indirection ≡ main)
    (fresh_live : IsLive heap fresh) (fresh_kind : is_main_node (node_at heap fresh) ≡ true) where
  stands_then : (slot : Slot) × (stored heap fresh ≡ Some slot) × (stored (published heap indirection main fresh) fresh ≡ Some (prev_changed (prev.Pending main) slot))
  stands_then =
      let (under, at_indirection) = live_stands heap indirection live in
      let (slot, at_fresh) = live_stands heap fresh fresh_live in
      (slot, at_fresh, fresh_published heap indirection main fresh under slot at_indirection at_fresh (two_slots heap indirection fresh kind fresh_kind) over)

  pub published_kind : is_main_node (node_at (published heap indirection main fresh) fresh) ≡ true
  unfolding node_at
  published_kind =
      let (slot, before, after) = stands_then in
      ap (λ o. is_main_node (node_of o)) after ∙ ap (λ o. is_main_node (node_of o)) (sym before) ∙ fresh_kind

  pub published_pending : prev_at (published heap indirection main fresh) fresh ≡ prev.Pending main
  unfolding prev_at
  published_pending = let (slot, before, after) = stands_then in ap prev_of after

-- ---- a node that is made

module _ (heap after : Heap) (node : Node) (empty : HasEmptySlots heap) (free : 1 ≤ length heap.free) (is : after ≡ taken heap node) where
  pub takes_one : Takes heap node
  takes_one = takes heap node empty free

  -- what was live stands as before
  pub node_still : (r : Ref) → IsLive heap r → node_at after r ≡ node_at heap r
  node_still r live =
      let (slot, there) = live_stands heap r live in
      ap (λ h. node_at h r) is ∙ node_again heap (taken heap node) r slot there (takes_one.others r slot there)

  -- and what was made under its reference
  pub node_made : (r : Ref) → r ≡ next_made heap → node_at after r ≡ node
  node_made r made =
      ap (λ h. node_at h r) is ∙ ap (node_at (taken heap node)) made ∙ stored_node (taken heap node) (next_made heap) (made_slot heap node) takes_one.here

  pub births_more : after.births ≡ heap.births + 1
  unfolding taken
  births_more = ap (λ (h : Heap). h.births) is ∙ by heap.free free
    where
      by : (free : List ℕ) → 1 ≤ length free → (take_from heap node free).births ≡ heap.births + 1
      by [] enough = absurd (omega (arith, enough))
      by (slot ∷ free) enough = refl

module _ (heap after : Heap) (node : Node) (indirection main : Ref) (nodes : ℕ) (can : CanSwap heap indirection main (nodes + 1)) (is : after ≡ taken heap node)
    (stay : (q : Ref) → IsLive heap q → IsLive after q) where
  enough : 1 ≤ length heap.free
  enough = omega (arith, can.free)

  takes_then : Takes heap node
  takes_then = takes_one heap after node can.empty enough is

  pub node_then : (r : Ref) → IsLive heap r → node_at after r ≡ node_at heap r
  node_then r live = node_still heap after node can.empty enough is r live

  pub made_then : (r : Ref) → r ≡ next_made heap → node_at after r ≡ node
  made_then r made = node_made heap after node can.empty enough is r made

  births_then : after.births ≡ heap.births + 1
  births_then = births_more heap after node can.empty enough is

  pub can_then : CanSwap after indirection main nodes
  can_then = record {
    empty = subst HasEmptySlots (sym is) takes_then.empty;
    free = omega (arith, can.free, takes_then.fewer, ap (λ (h : Heap). length h.free) is);
    births = omega (arith, can.births, births_then);
    live = stay indirection can.live;
    kind = ap is_indirection (node_then indirection can.live) ∙ can.kind;
    over = ap main_of (node_then indirection can.live) ∙ can.over;
    main_live = stay main can.main_live;
    entries = subst (λ n. AreLive after (refs_of_node n)) (sym (node_then main can.main_live))
        (All-weaker (IsLive heap) (IsLive after) stay (refs_of_node (node_at heap main)) can.entries);
  }
