-- What actions do to the heap and to the next generation, case by case.
use Rattle.std.specs.Prelude.{◌≡◌, ◌==◌, ℕ, Bool, true, false, List, [], ◌∷◌, Option, Some, None, refl, if◌then◌else◌}
use Rattle.std.proofs.Common.{ap, sym}
use Rattle.snapshot.specs.Vocabulary.{Ref, Indirection, taken, take_from, next_ref, ref_in, Descriptor, Plain, State, word_at, with_word, stands_in, is_plain, if_changed, carried_out, opened}
use Rattle.snapshot.specs.Vocabulary.{new_root_taken}
use Rattle.snapshot.specs.Beneath.machine_model.specs.declared.actions.Action.TheVariants as act
use Rattle.snapshot.specs.Beneath.gcas.proofs.Acting.{acts_on_heap}
use Rattle.snapshot.specs.Tasks.{DrawsGenerations, drawn}

both : (b : Bool) (s t : State) → s.generations ≡ t.generations → (if_changed b s t).generations ≡ t.generations
both true s t same = same
both false s t same = refl

chosen : (b : Bool) (s t u : State) → s.generations ≡ u.generations → t.generations ≡ u.generations → (if b then s else t).generations ≡ u.generations
chosen true s t u first second = first
chosen false s t u first second = second

opens_beside : (state : State) (offer : Descriptor) (handle : Option ℕ) → (opened state offer handle).generations ≡ state.generations
opens_beside state offer None = refl
opens_beside state offer (Some handle) = refl

draws : (state : State) (main : Ref) (made : Option Ref) → (new_root_taken state main made).generations ≡ drawn state.generations made
draws state main None = refl
draws state main (Some made) = refl

-- where no slot is free nothing is taken
takes_from : (state : State) (main : Ref) (free : List ℕ) → free ≡ state.heap.free →
    (new_root_taken state main (ref_in state.heap.births free)).heap ≡ take_from state.heap (Indirection state.generations main) free
unfolding taken
takes_from state main [] is = refl
takes_from state main (slot ∷ rest) is = ap (take_from state.heap (Indirection state.generations main)) (sym is)

takes : (state : State) (main : Ref) → (new_root_taken state main (next_ref state.heap)).heap ≡ taken state.heap (Indirection state.generations main)
unfolding taken
takes state main = takes_from state main state.heap.free refl

pub draws_generations : DrawsGenerations
draws_generations state handle act.ReadRoot = (refl, refl)
draws_generations state handle (act.Abort offer) = (acts_on_heap state handle (act.Abort offer) tt, both (stands_in (word_at state handle) offer) _ state refl)
draws_generations state handle (act.Offer offer) = (acts_on_heap state handle (act.Offer offer) tt, both (is_plain (word_at state handle) offer.root) _ state refl)
draws_generations state handle (act.Complete offer main) = (
  acts_on_heap state handle (act.Complete offer main) tt,
  both (stands_in (word_at state handle) offer) _ state
      (
      chosen (main == offer.expected) (carried_out state handle offer) (with_word state handle (Plain offer.root)) state
      (opens_beside (with_word state handle (Plain offer.successor)) offer offer.opens)
      refl
      ),
)
draws_generations state handle (act.ReadMain indirection) = (refl, refl)
draws_generations state handle (act.Publish indirection replaced fresh) = (refl, refl)
draws_generations state handle (act.Restore indirection main previous) = (refl, refl)
draws_generations state handle (act.ReadPrev main) = (refl, refl)
draws_generations state handle (act.Decide indirection main previous told) = (acts_on_heap state handle (act.Decide indirection main previous told) tt, refl)
draws_generations state handle (act.Look at) = (refl, refl)
draws_generations state handle (act.Make node) = (refl, refl)
draws_generations state handle (act.MakeRoot main) = (takes state main, draws state main (next_ref state.heap))
draws_generations state handle (act.End answer) = (refl, refl)
