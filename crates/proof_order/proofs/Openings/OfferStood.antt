-- An offer that is known is never put up again: where it stands later, it stood all the time since.
use Rattle.std.proofs.Common.{◌≡◌, ℕ, zero, suc, ◌+◌, ◌<◌, ◌≤◌, inl, inr, sym, ap, subst, arith}
use Rattle.std.proofs.lemmas.Bool.{cases_eq}
use Rattle.proof_order.specs.Vocabulary.{Descriptor, Offer, Bounds, Step, State, first_state, word_at, turns, IsRun, Turn}
use Rattle.proof_generations.proofs.Lines.Copy.{AllOwn, IsOwn, LineFits}
use Rattle.proof_generations.proofs.Offers.Standing.{offer_line}
use Rattle.proof_generations.proofs.Offers.Same.{IsKnown, known_kept}
use Rattle.proof_generations.proofs.Roots.Along.{ordered_at}
use Rattle.proof_order.proofs.History.Growing.{holds_later}
use Rattle.proof_order.proofs.Offers.Words.{StandsFrom, stood, put, words_after}

-- by where it comes from
stood_before : (state : State) (s : Step) (handle : ℕ) (offer : Descriptor) → AllOwn state → IsKnown state offer → StandsFrom state s handle offer → word_at state handle ≡ Offer offer
stood_before state s handle offer own known (stood word leaves) = word
stood_before state s handle offer own known (put k operation go at_k does on plain) =
    let its : IsOwn operation.call operation.id operation.opens (operation.attempt + 1) offer =
    subst (λ l. LineFits operation.call operation.id operation.opens operation.attempt l) (offer_line state operation operation.line offer does) (own k operation at_k) in
    absurd (omega (arith, known.tried k operation at_k (sym its.its), its.at_try))

module _ {limits : Bounds} {states : ℕ → State} {last : ℕ} (run : IsRun limits states last) (handle : ℕ) (offer : Descriptor) where
  pub known_later : (u t : ℕ) → u ≤ t → t ≤ last → IsKnown (states u) offer → IsKnown (states t) offer
  known_later u t le within known =
      holds_later run (λ state past. IsKnown state offer) (λ state past s o after m h. known_kept state s o after m offer h) u t le within known

  pub stood_since : (u t : ℕ) → u ≤ t → t ≤ last → IsKnown (states u) offer → word_at (states t) handle ≡ Offer offer → word_at (states u) handle ≡ Offer offer
  stood_since u zero le within known word = subst (λ v. word_at (states v) handle ≡ Offer offer) (none_earlier u le) word
    where
      none_earlier : (u : ℕ) → u ≤ zero → zero ≡ u
      none_earlier u h = omega arith
  stood_since u (suc t) le within known word = elim (cases_eq u (suc t)) [
    | inl same ↦ subst (λ v. word_at (states v) handle ≡ Offer offer) (sym same) word
    | inr before ↦ stood_since u t (omega arith) (omega arith) known (by_turn (known_later u t (omega arith) (omega arith) known) (run.turn t within))
  ]
    where
      by_turn : IsKnown (states t) offer → Turn (states t) (states (suc t)) → word_at (states t) handle ≡ Offer offer
      by_turn then (turns s o m) =
          stood_before (states t) s handle offer (ordered_at run t (omega arith)).offers.own then (words_after (states t) s o (states (suc t)) m handle offer word)

  -- at first none is known
  pub known_later_than_first : (t : ℕ) → IsKnown (states t) offer → 0 < t
  unfolding first_state
  known_later_than_first zero known = absurd (none known)
    where
      none : IsKnown (states zero) offer → ⊥
      none known = let none_begun : (states zero).begun ≡ 0 = ap (λ (q : State). q.begun) run.first in omega (arith, known.has_begun, none_begun)
  known_later_than_first (suc t) known = omega arith
