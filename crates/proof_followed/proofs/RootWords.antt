-- Roots after a step of an operation: a handle's root was one before, whatever offer stands there or is taken back, unless an offer is carried out.
use Rattle.std.proofs.Common.{◌≡◌, ℕ, ◌==◌, ◌&&◌, Bool, true, false, Some, if◌then◌else◌, refl, sym, ap, ◌∙◌, subst, eqb-true}
use Rattle.std.proofs.lemmas.Bool.{false≢true}
use Rattle.proof_followed.specs.Beneath.slot_arena.specs.declared.refs.Ref.{Ref}
use Rattle.proof_followed.specs.Beneath.machine_model.specs.declared.actions.Action.{Action}
use Rattle.proof_followed.specs.Beneath.machine_model.specs.declared.actions.Action.TheVariants as act
use Rattle.proof_followed.specs.Beneath.machine_model.specs.declared.operations.Operation.{Operation}
use Rattle.proof_followed.specs.Beneath.machine_model.specs.declared.roots.Descriptor.{Descriptor}
use Rattle.proof_followed.specs.Beneath.machine_model.specs.declared.roots.Root.{Root}
use Rattle.proof_followed.specs.Beneath.machine_model.specs.declared.roots.RootWord.{RootWord}
use Rattle.proof_followed.specs.Beneath.machine_model.specs.declared.roots.RootWord.TheVariants.{Plain, Offer}
use Rattle.proof_followed.specs.Beneath.machine_model.specs.Acting.{aborted, acted, carried_out, completed, if_changed, offered, operation_after}
use Rattle.proof_followed.specs.Beneath.machine_model.specs.Calls.{handle_of}
use Rattle.proof_followed.specs.Beneath.machine_model.specs.Operations.{action_of}
use Rattle.proof_followed.specs.Beneath.machine_model.specs.States.{State, root_at, root_of, word_at, word_of, with_operation, with_word}
use Rattle.proof_followed.specs.Beneath.machine_model.specs.Swapping.{is_carried_out, is_plain, stands_in}
use Rattle.proof_followed.specs.Beneath.proof_memory.proofs.Heap.RootWords.{AllWords, put_words}
use Rattle.proof_followed.specs.Beneath.proof_generations.specs.Laws.Roots.{settles}

-- a root that stands in a word with no offer is its root
plain_root : (word : RootWord) (r : Ref) → is_plain word r ≡ true → root_of word ≡ r
plain_root (Plain x) r e = eqb-true x r e
plain_root (Offer offer) r e = absurd (false≢true e)

module _ (state : State) (W : Ref → Type 0) (roots : (handle : ℕ) (root : Root) → root_at state handle ≡ Some root → W (root_of root.word)) (actor : ℕ) (operation : Operation)
    (its : Root) (is_open : root_at state (handle_of operation.call) ≡ Some its)
    (offers : (offer : Descriptor) → settles (action_of state operation) ≡ Some offer → stands_in (word_at state (handle_of operation.call)) offer ≡ true →
    word_at state (handle_of operation.call) ≡ Offer offer)
    (brings : (offer : Descriptor) (main : Ref) → action_of state operation ≡ act.Complete offer main → is_carried_out (word_at state (handle_of operation.call)) offer main ≡ true →
    W offer.successor × ((q : Ref) → offer.second ≡ Some q → W q)) where
  abbrev handle : ℕ
  handle = handle_of operation.call

  abbrev put : State
  put = with_operation state actor (Some (operation_after state operation))

  abbrev IsSo : RootWord → Type 0
  IsSo word = W (root_of word)

  before : AllWords IsSo put
  before = roots

  here : (word : RootWord) → word_at state handle ≡ word → W (root_of word)
  here word e = subst IsSo (sym (ap word_of is_open) ∙ e) (roots handle its is_open)

  taken_back : (offer : Descriptor) → (stands_in (word_at state handle) offer ≡ true → W offer.root) → (b : Bool) → stands_in (word_at state handle) offer ≡ b →
      AllWords IsSo (aborted put handle offer)
  taken_back offer root true e = put_words IsSo put handle (act.Abort offer) before (root e)
  taken_back offer root false e = subst (λ b. AllWords IsSo (if_changed b (with_word put handle (Plain offer.root)) put)) (sym e) before

  offer_words : (offer : Descriptor) (b : Bool) → is_plain (word_at state handle) offer.root ≡ b → AllWords IsSo (offered put handle offer)
  offer_words offer true e = put_words IsSo put handle (act.Offer offer) before (subst W (plain_root (word_at state handle) offer.root e) (here (word_at state handle) refl))
  offer_words offer false e = subst (λ b. AllWords IsSo (if_changed b (with_word put handle (Offer offer)) put)) (sym e) before

  settled_root : (offer : Descriptor) → settles (action_of state operation) ≡ Some offer → stands_in (word_at state handle) offer ≡ true → W offer.root
  settled_root offer is e = here (Offer offer) (offers offer is e)

  complete_words : (offer : Descriptor) (main : Ref) → action_of state operation ≡ act.Complete offer main → (m : Bool) → (main == offer.expected) ≡ m → (b : Bool) →
      stands_in (word_at state handle) offer ≡ b → AllWords IsSo (completed put handle offer main)
  complete_words offer main a false f b e =
      subst (λ m. AllWords IsSo (if_changed (stands_in (word_at put handle) offer) (if m then carried_out put handle offer else with_word put handle (Plain offer.root)) put)) (sym f)
      (taken_back offer (settled_root offer (ap settles a)) b e)
  complete_words offer main a true f true e =
      let new = brings offer main a (ap (λ x. x && (main == offer.expected)) e ∙ f) in
      put_words IsSo put handle (act.Complete offer main) before (settled_root offer (ap settles a) e, new.0, new.1)
  complete_words offer main a true f false e =
      subst (λ b. AllWords IsSo (if_changed b (if main == offer.expected then carried_out put handle offer else with_word put handle (Plain offer.root)) put)) (sym e) before

  pub roots_after : (action : Action) → action_of state operation ≡ action → AllWords IsSo (acted put handle action)
  roots_after (act.Abort offer) a = taken_back offer (settled_root offer (ap settles a)) _ refl
  roots_after (act.Offer offer) a = offer_words offer _ refl
  roots_after (act.Complete offer main) a = complete_words offer main a _ refl _ refl
  roots_after (act.MakeRoot main) a = put_words IsSo put handle (act.MakeRoot main) before tt
  roots_after action a = before
