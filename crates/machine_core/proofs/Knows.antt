-- What is known of offers stays known.
use Rattle.std.proofs.Common.{◌≡◌, ℕ, zero, suc, ◌<◌, ◌⊎◌, inl, inr, List, [], ◌∷◌, set, get_or, Option, Some, None, refl, sym, ap, ◌∙◌, subst, arith}
use Rattle.std.proofs.lemmas.Bool.{cases_eq}
use Rattle.std.proofs.lemmas.List.{get_or-set_other}
use Rattle.std.proofs.lemmas.Option.{none-some}
use Rattle.machine_core.specs.Vocabulary.{Operation, Descriptor, Root, Offer, State, operation_of, word_at, word_of, run, HaveIds, Table, with_root_in, word_in, IsOfRun}
use Rattle.machine_model.proofs.Found.{found_elsewhere, found_here}
use Rattle.machine_core.specs.Beneath.proof_generations.proofs.Roots.OfLists.{has_handles_along}
use Rattle.machine_core.specs.Beneath.proof_generations.proofs.Offers.Standing.{own_numbers}
use Rattle.machine_core.specs.Beneath.proof_operations.proofs.Given.{ids_apart}
use Rattle.machine_core.specs.Keeping.{KnowsOfferers}

-- ---- who runs

pub runs_same : (before after : State) → after.actors ≡ before.actors → (actor : ℕ) → operation_of after actor ≡ operation_of before actor
runs_same before after same zero = refl
runs_same before after same (suc n) = ap (λ os. get_or os n None) same

-- who runs after a place was written ran before, or was put there
pub runs_set : (before after : State) (i : ℕ) (put : Option Operation) → after.actors ≡ set before.actors i put → (actor : ℕ) (operation : Operation) →
    operation_of after actor ≡ Some operation → (operation_of before actor ≡ Some operation) ⊎ (put ≡ Some operation)
runs_set before after i put is zero operation e = absurd (none-some operation e)
runs_set before after i put is (suc n) operation e = by (cases_eq n i)
  where
    here : get_or (set before.actors i put) n None ≡ Some operation
    here = sym (ap (λ os. get_or os n None) is) ∙ e

    by : ((n ≡ i) ⊎ (n ≡ i → ⊥)) → (get_or before.actors n None ≡ Some operation) ⊎ (put ≡ Some operation)
    by (inl same) = inr (found_here before.actors i put operation (sym (ap (λ k. get_or (set before.actors i put) k None) same) ∙ here))
    by (inr apart) = inl (sym (found_elsewhere before.actors i n put apart) ∙ here)

-- ---- offers

pub offerers_over : (table now : Table) (before after : State) → now.offerers ≡ table.offerers →
    ((handle : ℕ) (offer : Descriptor) → word_in now handle ≡ Offer offer → word_in table handle ≡ Offer offer) →
    ((handle : ℕ) (offer : Descriptor) → word_in now handle ≡ Offer offer → (actor : ℕ) (operation : Operation) → operation_of after actor ≡ Some operation →
    operation.id ≡ offer.operation → operation_of before actor ≡ Some operation) → KnowsOfferers table before → KnowsOfferers now after
offerers_over table now before after same words runs knows handle offer stands actor operation found is =
    ap (λ os. get_or os handle 0) same ∙ knows handle offer (words handle offer stands) actor operation (runs handle offer stands actor operation found is) is

-- where a handle is closed no offer comes to stand
pub closed_word : (table : Table) (closed handle : ℕ) (offer : Descriptor) → word_in (with_root_in table closed None) handle ≡ Offer offer → word_in table handle ≡ Offer offer
closed_word table closed handle offer e = by (cases_eq handle closed)
  where
    nothing : (roots : List (Option Root)) (i : ℕ) → get_or (set roots i None) i None ≡ None
    nothing [] i = refl
    nothing (r ∷ roots) zero = refl
    nothing (r ∷ roots) (suc i) = nothing roots i

    plain : word_of None ≡ Offer offer → ⊥
    plain h = cc

    by : ((handle ≡ closed) ⊎ (handle ≡ closed → ⊥)) → word_in table handle ≡ Offer offer
    by (inl same) = absurd (plain (sym (ap word_of (ap (λ k. get_or (set table.roots closed None) k None) same ∙ nothing table.roots closed)) ∙ e))
    by (inr apart) = sym (ap word_of (get_or-set_other table.roots closed handle None None apart)) ∙ e

-- ids that were given are below the number of begins
pub ids : (state : State) → IsOfRun state → HaveIds state
ids state h = subst HaveIds (sym h.is) (ids_apart state.limits h.steps)

-- so is that of who made an offer that stands
pub offer_given : (state : State) → IsOfRun state → (handle : ℕ) (offer : Descriptor) → word_at state handle ≡ Offer offer → offer.operation < state.begun
offer_given state h handle offer stands = subst (λ (s : State). word_at s handle ≡ Offer offer → offer.operation < s.begun) (sym h.is) along stands
  where
    along : word_at (run state.limits h.steps) handle ≡ Offer offer → offer.operation < (run state.limits h.steps).begun
    along word =
        let I = (has_handles_along state.limits h.steps).0 in
        let b = I.offers handle offer word in
        let mine = own_numbers b.owner offer (I.own b.k b.owner b.runs) b.completes in
        omega (arith, mine.its, (ids_apart state.limits h.steps).given (suc b.k) b.owner b.runs)
