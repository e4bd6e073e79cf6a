-- An offer in the root word weighs two steps: no quiet step adds weight, and to take the offer back takes it off.
use Rattle.std.proofs.Common.{◌≡◌, ℕ, suc, ◌<◌, ◌≤◌, Option, refl, sym, ap, ◌∙◌, subst, arith, inl, inr}
use Rattle.std.proofs.lemmas.Option.{same_Some}
use Rattle.proof_obstruction_free.specs.Vocabulary.{Ref, Line, Descriptor, RootWord, Plain, Offer, action_of, line_action, settles}
use Rattle.proof_obstruction_free.specs.Beneath.machine_model.specs.declared.actions.Action.TheVariants as act
use Rattle.proof_obstruction_free.specs.Alone.{Lone, Stands, IsQuiet, IsWeight, WordStays, word, offer_weight}
use Rattle.proof_obstruction_free.specs.Stepping.{IsNoEnd}
use Rattle.proof_obstruction_free.proofs.Ends.StandsAt.{stands_at, goes_on}
use Rattle.proof_obstruction_free.proofs.Root.Words.{NoOffer, came_on, settles_on, plain_on}

-- where a word is an offer only if the other is, it weighs no more
lighter_word : (was now : RootWord) → ((offer : Descriptor) → now ≡ Offer offer → was ≡ Offer offer) → offer_weight now ≤ offer_weight was
lighter_word was (Plain r) follows = omega arith
lighter_word was (Offer offer) follows =
    let e : offer_weight was ≡ 2 = ap offer_weight (follows offer refl) in omega (arith, e)

pub weighs_at_most : (word : RootWord) → offer_weight word ≤ 2
weighs_at_most (Plain r) = omega arith
weighs_at_most (Offer offer) = omega arith

module _ (a : Lone) where
  -- two where an offer stands in the root word
  abbrev pub flat : ℕ → ℕ
  flat t = offer_weight (word a t)

  -- a quiet step brings no offer
  stood_before : (t : ℕ) (g : Option ℕ) (l : Line) (s : Stands a t g l) → t < a.last → IsNoEnd l → IsQuiet (line_action (a.states t) s.operation l) → (offer : Descriptor) →
      word a (suc t) ≡ Offer offer → word a t ≡ Offer offer
  stood_before t g l s more not quiet offer e = elim (came_on a t g l s more not offer e) [
    | inl was ↦ was
    | inr own ↦ absurd (subst IsQuiet own quiet)
  ]

  -- an offer that is taken back stands no more
  pub taken_back : (t : ℕ) (g : Option ℕ) (l : Line) (s : Stands a t g l) → t < a.last → IsNoEnd l → (own : Descriptor) → line_action (a.states t) s.operation l ≡ act.Abort own →
      word a t ≡ Offer own → (r : Ref) × (word a (suc t) ≡ Plain r)
  taken_back t g l s more not own is there = settles_on a t g l s more not own (ap settles is) there

  -- no quiet step adds weight
  lighter_flat : (t : ℕ) (g : Option ℕ) (l : Line) (s : Stands a t g l) → t < a.last → IsNoEnd l → IsQuiet (line_action (a.states t) s.operation l) → flat (suc t) ≤ flat t
  lighter_flat t g l s more not quiet = lighter_word (word a t) (word a (suc t)) (stood_before t g l s more not quiet)

  pub is_weight : IsWeight a flat
  is_weight t since more operation runs quiet =
      let found = stands_at a t since (omega arith) in
      let same : found.stands.operation ≡ operation = same_Some _ _ (sym found.stands.runs ∙ runs) in
      lighter_flat t found.generation found.line found.stands more (goes_on a t found.generation found.line found.stands more)
      (subst (λ x. IsQuiet (line_action (a.states t) found.stands.operation x)) found.stands.line
      (subst (λ o. IsQuiet (action_of (a.states t) o)) (sym same) quiet))

  -- a plain root stays, but where an offer is carried out or made
  pub stays_plain : (t : ℕ) (g : Option ℕ) (l : Line) (s : Stands a t g l) → t < a.last → IsNoEnd l → (own : Descriptor) → line_action (a.states t) s.operation l ≡ act.Abort own →
      WordStays a t (suc t)
  stays_plain t g l s more not own is = plain_on a t g l s more not (subst NoOffer (sym is) tt)
