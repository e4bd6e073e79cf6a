-- What actions do to the heap, case by case.
use Rattle.std.specs.Prelude.{◌≡◌, ◌==◌, ℕ, Bool, true, false, Option, Some, None}
use Rattle.std.proofs.Common.{refl, cond}
use Rattle.machine_model.specs.declared.actions.Action.TheVariants as act
use Rattle.machine_model.specs.declared.roots.Descriptor.{Descriptor}
use Rattle.machine_model.specs.States.{State, word_at, with_word}
use Rattle.machine_model.specs.declared.roots.RootWord.TheVariants.{Plain}
use Rattle.machine_model.specs.Swapping.{stands_in, is_plain}
use Rattle.machine_model.specs.Acting.{if_changed, carried_out, opened}
use Rattle.gcas.specs.Acted.{ActsOnHeap}

both : (b : Bool) (s t : State) → s.heap ≡ t.heap → (if_changed b s t).heap ≡ t.heap
both true s t same = same
both false s t same = refl

chosen : (b : Bool) (s t u : State) → s.heap ≡ u.heap → t.heap ≡ u.heap → (cond b s t).heap ≡ u.heap
chosen true s t u first second = first
chosen false s t u first second = second

opens_beside : (state : State) (offer : Descriptor) (handle : Option ℕ) → (opened state offer handle).heap ≡ state.heap
opens_beside state offer None = refl
opens_beside state offer (Some handle) = refl

pub acts_on_heap : ActsOnHeap
acts_on_heap state handle act.ReadRoot none = refl
acts_on_heap state handle (act.Abort offer) none = both (stands_in (word_at state handle) offer) _ state refl
acts_on_heap state handle (act.Offer offer) none = both (is_plain (word_at state handle) offer.root) _ state refl
acts_on_heap state handle (act.Complete offer main) none =
    both (stands_in (word_at state handle) offer) _ state
    (
    chosen (main == offer.expected) (carried_out state handle offer) (with_word state handle (Plain offer.root)) state
    (opens_beside (with_word state handle (Plain offer.successor)) offer offer.opens)
    refl
    )
acts_on_heap state handle (act.ReadMain indirection) none = refl
acts_on_heap state handle (act.Publish indirection replaced fresh) none = refl
acts_on_heap state handle (act.Restore indirection main previous) none = refl
acts_on_heap state handle (act.ReadPrev main) none = refl
acts_on_heap state handle (act.Decide indirection main previous told) none = refl
acts_on_heap state handle (act.Look at) none = refl
acts_on_heap state handle (act.Make node) none = refl
acts_on_heap state handle (act.MakeRoot main) none = absurd none
acts_on_heap state handle (act.End answer) none = refl
