-- What a snapshot, a freeze or a clear brings about that runs alone.
use Rattle.std.specs.Prelude.{◌≡◌, ℕ, ◌+◌, [], ◌∷◌, ◌++◌, Option, Some, None}
use Rattle.proof_straight.specs.Vocabulary.{Indirection, Ref, Heap, empty_branch, main_at, no_ref, node_at, prev_at, taken, IsLive, Descriptor, Plain, Offer, opened, least_free, State, with_root}
use Rattle.proof_straight.specs.Vocabulary.{with_word}
use Rattle.proof_straight.specs.Beneath.slot_arena.specs.declared.nodes.Prev.TheVariants as prev
use Rattle.proof_straight.specs.Drafts.{Draft, first_draft, next_made, redrafted, with_made}

-- the state at rest with its roots and the next generation as they are by now, and the draft
pub record Course : Type 0 where
  pub base : State
  pub draft : Draft

abbrev pub first_course : State → Course
first_course state = record { base = state; draft = first_draft state }

-- a root of the next generation is made over a main node
abbrev pub with_new_root : Course → Ref → Course
with_new_root course main = record {
  base = record course.base { generations = course.base.generations + 1 };
  draft = redrafted (record course.base { generations = course.base.generations + 1 }) course.draft (taken course.draft.heap (Indirection course.base.generations main))
      (course.draft.private ++ next_made course.draft.heap ∷ []) (next_made course.draft.heap);
}

-- the state in which the offer was carried out
abbrev pub with_successor : State → ℕ → Descriptor → State
with_successor base handle offer = opened (with_word base handle (Plain offer.successor)) offer offer.opens

-- the root word has the offer for a time, and then the new root: each of the two steps leaves the heap as it is
abbrev pub with_offer : Course → ℕ → Descriptor → Course
with_offer course handle offer =
    let draft = course.draft in
    let offered = redrafted (with_word course.base handle (Offer offer)) draft draft.heap [] draft.newest in
    record { base = with_successor course.base handle offer; draft = redrafted (with_successor course.base handle offer) offered draft.heap [] draft.newest }

-- the first offer of the call that begins in this state
abbrev pub offer_of : State → (root successor : Ref) → (second : Option Ref) → (opens : Option ℕ) → Descriptor
offer_of state root successor second opens = record {
  operation = state.begun;
  attempt = 1;
  root = root;
  expected = main_at state.heap root;
  successor = successor;
  second = second;
  opens = opens;
}

-- the root is an indirection, and its main node is in use and decided
pub record IsSettled (heap : Heap) (root : Ref) : Type 0 where
  pub generation : ℕ
  pub main : Ref
  pub indirection : node_at heap root ≡ Indirection generation main
  pub decided : prev_at heap (main_at heap root) ≡ prev.None
  pub live : IsLive heap (main_at heap root)

-- ---- the three calls

abbrev pub frozen : State → ℕ → Ref → Course
frozen state handle root =
    let made = with_new_root (first_course state) (main_at state.heap root) in
    with_offer made handle (offer_of state root made.draft.newest None (Some (least_free state)))

abbrev pub snapshotted : State → ℕ → Ref → Course
snapshotted state handle root =
    let first = with_new_root (first_course state) (main_at state.heap root) in
    let second = with_new_root first (main_at state.heap root) in
    with_offer second handle (offer_of state root first.draft.newest (Some second.draft.newest) (Some (least_free state)))

abbrev pub cleared : State → ℕ → Ref → Course
cleared state handle root =
    let branch = with_made state (first_draft state) empty_branch in
    let made = with_new_root (record { base = state; draft = branch }) branch.newest in
    with_offer made handle (offer_of state root made.draft.newest None None)

-- a close takes the handle away as it begins: what only this handle reached enters limbo then
abbrev pub closed : State → ℕ → Course
closed state handle = record {
  base = with_root state handle None;
  draft = redrafted (with_root state handle None) (first_draft state) state.heap [] no_ref;
}
