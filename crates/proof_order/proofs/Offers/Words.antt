-- Which offers stand in root words behind a step: it stood there, or the step puts it up.
use Rattle.std.proofs.Common.{◌≡◌, ℕ, suc, true, set, get_or, Option, Some, None, refl, sym, ap, ◌∙◌, subst}
use Rattle.std.proofs.lemmas.Option.{none-some, same_Some}
use Rattle.proof_order.specs.Vocabulary.{Call, Close, Operation, Root, Offer, Descriptor, Outcome, Step, handle_of, State, word_at, word_of, operation_of, action_of, is_plain, stands_in, with_begin}
use Rattle.proof_order.specs.Vocabulary.{Begins, Ends, Sweeps, GivesUp, Moves, begun_operation, settles}
use Rattle.proof_order.specs.Beneath.machine_model.specs.declared.actions.Action.TheVariants as act
use Rattle.proof_order.specs.Beneath.machine_model.specs.declared.steps.Step.TheVariants as step
use Rattle.proof_order.specs.Beneath.machine_model.proofs.Found.{found_here, found_elsewhere}
use Rattle.proof_order.specs.Beneath.machine_model.specs.Moves.{Goes}
use Rattle.proof_generations.proofs.Offers.Standing.{OfferFrom, offer_from, stood as stays, put as puts}
use Rattle.proof_generations.proofs.Handles.Running.{place_of_actor}
use Rattle.proof_order.specs.Facts.{Runs}

-- whoever takes the step settles no offer that stands in the word
abbrev pub Leaves : State → Step → ℕ → Type 0
Leaves state s handle =
    (k : ℕ) (operation : Operation) (mine : Descriptor) → s ≡ step.Go (suc k) → Runs state k operation → settles (action_of state operation) ≡ Some mine → handle ≡ handle_of operation.call →
    stands_in (word_at state handle) mine ≡ true → ⊥

pub data StandsFrom (state : State) (s : Step) (handle : ℕ) (offer : Descriptor) : Type 0 where
  stood : word_at state handle ≡ Offer offer → Leaves state s handle → StandsFrom state s handle offer
  put : (k : ℕ) (operation : Operation) → s ≡ step.Go (suc k) → Runs state k operation → action_of state operation ≡ act.Offer offer → handle ≡ handle_of operation.call →
      is_plain (word_at state handle) offer.root ≡ true → StandsFrom state s handle offer

-- ---- by the step

begun_word : (state : State) (actor : ℕ) (call : Call) (operation : Operation) (handle : ℕ) (offer : Descriptor) → word_at (with_begin state actor call operation) handle ≡ Offer offer →
    word_at state handle ≡ Offer offer
begun_word state actor (Close closed) operation handle offer e = by (get_or (set state.roots closed None) handle None) refl e
  where
    elsewhere : (root : Root) → get_or (set state.roots closed None) handle None ≡ Some root → handle ≡ closed → ⊥
    elsewhere root is same = none-some root (found_here state.roots closed None root (subst (λ h. get_or (set state.roots closed None) h None ≡ Some root) same is))

    by : (o : Option Root) → get_or (set state.roots closed None) handle None ≡ o → word_of o ≡ Offer offer → word_at state handle ≡ Offer offer
    by None is word = let wrong : ⊥ = cc word in absurd wrong
    by (Some root) is word = ap word_of (sym (found_elsewhere state.roots closed handle None (elsewhere root is)) ∙ is) ∙ word
begun_word state actor call operation handle offer e = e

module _ (state : State) (actor : ℕ) (own : Operation) (is : operation_of state actor ≡ Some own) (handle : ℕ) (offer : Descriptor) where
  same_own : (k : ℕ) (operation : Operation) → step.Go actor ≡ step.Go (suc k) → Runs state k operation → own ≡ operation
  same_own k operation e runs = let actors : actor ≡ suc k = cc e in same_Some _ _ (sym is ∙ ap (operation_of state) actors ∙ runs)

  go_by : OfferFrom state.roots (handle_of own.call) (action_of state own) handle offer → StandsFrom state (step.Go actor) handle offer
  go_by (stays word leaves) =
      stood word (λ k operation mine e runs settled here stands.
      let one = same_own k operation e runs in
      leaves mine (ap (λ x. settles (action_of state x)) one ∙ settled) (here ∙ ap (λ (x : Operation). handle_of x.call) (sym one)) stands)
  go_by (puts does here plain) =
      let (k, actors, runs) = place_of_actor state actor own is in
      put k own (ap step.Go actors) runs does here (ap (λ h. is_plain (word_at state h) offer.root) here ∙ plain)

  end_by : settles (action_of state own) ≡ None → word_at state handle ≡ Offer offer → StandsFrom state (step.Go actor) handle offer
  end_by none word =
      stood word (λ k operation mine e runs settled here stands. none-some mine (sym none ∙ ap (λ x. settles (action_of state x)) (same_own k operation e runs) ∙ settled))

pub words_after : (state : State) (s : Step) (o : Outcome) (after : State) → Moves state s o after → (handle : ℕ) (offer : Descriptor) →
    word_at after handle ≡ Offer offer → StandsFrom state s handle offer
words_after state s o after (Begins {actor} {call} {number} d) handle offer e =
    stood (begun_word state actor call (begun_operation state call number) handle offer e) (λ k operation mine is. let wrong : ⊥ = cc is in absurd wrong)
words_after state s o after (Goes {actor} {operation} d is a g) handle offer e =
    go_by state actor operation is handle offer (offer_from _ (handle_of operation.call) handle offer (action_of state operation) e)
words_after state s o after (Ends {actor} {operation} {answer} d is a) handle offer e = end_by state actor operation is handle offer (ap settles a) e
words_after state s o after (GivesUp d is a) handle offer e = stood e (λ k operation mine is. let wrong : ⊥ = cc is in absurd wrong)
words_after state s o after (Sweeps spent) handle offer e = stood e (λ k operation mine is. let wrong : ⊥ = cc is in absurd wrong)
