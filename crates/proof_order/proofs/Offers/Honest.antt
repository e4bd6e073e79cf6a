-- Offers are found as they were made, by the operation that is completing them.
use Rattle.std.proofs.Common.{◌≡◌, ℕ, true, sym, ap, ◌∙◌, subst}
use Rattle.std.proofs.lemmas.Bool.{and_parts}
use Rattle.proof_order.specs.Vocabulary.{Descriptor, Step, handle_of, State, word_at, stands_in, Record, settles}
use Rattle.proof_generations.proofs.Offers.Same.{same_offer}
use Rattle.proof_order.specs.Facts.{CarriesOut}
use Rattle.proof_order.proofs.Views.EachStep.{HonestIn}
use Rattle.proof_order.proofs.Offers.Known.{Offers, OfferStands, stands}

-- offers are found as they were made
pub honest : (state : State) {past : Record} → Offers state past → HonestIn state
honest state offers actor operation offer is settled found = same_offer state offers.own actor operation offer is settled (handle_of operation.call) found

-- the operation whose offer is carried out
pub offerer_of : (state : State) {past : Record} → Offers state past → (s : Step) (handle : ℕ) (offer : Descriptor) → CarriesOut state s handle offer → OfferStands state handle offer
offerer_of state offers s handle offer (actor, operation, main, is_step, is, does, on, out) =
    let there = subst (λ h. stands_in (word_at state h) offer ≡ true) (sym on) ((and_parts (stands_in (word_at state handle) offer) _ out).0) in
    let word = honest state offers actor operation offer is (ap settles does) there in
    stands state offers handle offer (ap (word_at state) (sym on) ∙ word)
