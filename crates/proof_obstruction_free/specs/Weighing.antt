-- What is asked of a weight, so that to decide a main node that another actor left undecided is paid by the weight that this takes off.
use Rattle.std.specs.Prelude.{◌≡◌, ℕ, suc, ◌+◌, ◌<◌, ◌≤◌, true, Option, Some}
use Rattle.proof_obstruction_free.specs.Vocabulary.{Ref, Prev, Action, Operation, Descriptor, Offer, action_of, operation_of, main_word, prev_word, is_made}
use Rattle.proof_obstruction_free.specs.Beneath.slot_arena.specs.declared.nodes.Prev.TheVariants as prev
use Rattle.proof_obstruction_free.specs.Beneath.machine_model.specs.declared.actions.Action.TheVariants as act
use Rattle.proof_obstruction_free.specs.Alone.{Lone, IsStillWeight, word}

module _ (a : Lone) where
  -- the operation's step t does this
  pub record Acts (t : ℕ) (action : Action) : Type 0 where
    pub since : a.start ≤ t
    pub more : t < a.last
    pub operation : Operation
    pub runs : operation_of (a.states t) a.actor ≡ Some operation
    pub is : action_of (a.states t) operation ≡ action

  -- this main node stands in the indirection's main word, with this prev word
  pub record Sees (t : ℕ) (i m : Ref) (v : Prev) : Type 0 where
    pub made : is_made a.states t i ≡ true
    pub main : main_word a.states t i ≡ m
    pub prev : prev_word a.states t m ≡ v

-- A main node that stands pending in a main word weighs so much, one that stands failed so much: to decide the one or put another in the place of the other
-- takes that off. So does an offer in the handle's root word, which weighs 2.
pub record Weighing (a : Lone) (weight : ℕ → ℕ) (pending failed : ℕ) : Type 0 where
  pub quiet : IsStillWeight a weight
  -- it weighs that as long as it stands there
  pub weighs : (t : ℕ) (i m q : Ref) → a.start ≤ t → t ≤ a.last → Sees a t i m (prev.Pending q) → pending ≤ weight t
  pub weighs_failed : (t : ℕ) (i m q : Ref) → a.start ≤ t → t ≤ a.last → Sees a t i m (prev.Failed q) → failed ≤ weight t
  -- an offer that stands is taken back
  pub abort : (t : ℕ) (offer : Descriptor) → Acts a t (act.Abort offer) → word a t ≡ Offer offer → weight (suc t) + 2 ≤ weight t
  -- a pending main node is committed, or fails
  pub commit : (t : ℕ) (i m q : Ref) (told : Option ℕ) → Acts a t (act.Decide i m q told) → Sees a t i m (prev.Pending q) → Sees a (suc t) i m prev.None →
      weight (suc t) + pending ≤ weight t
  pub fail : (t : ℕ) (i m q : Ref) (told : Option ℕ) → Acts a t (act.Decide i m q told) → Sees a t i m (prev.Pending q) → Sees a (suc t) i m (prev.Failed q) →
      weight (suc t) + pending ≤ weight t + failed
  -- another decided it
  pub decided : (t : ℕ) (i m q : Ref) (told : Option ℕ) → Acts a t (act.Decide i m q told) → (prev_word a.states t m ≡ prev.Pending q → ⊥) → weight (suc t) ≤ weight t
  -- the node before a failed one is put back, or another stands there already
  pub restore : (t : ℕ) (i m q : Ref) → Acts a t (act.Restore i m q) → Sees a t i m (prev.Failed q) → Sees a (suc t) i q prev.None → weight (suc t) + failed ≤ weight t
  pub restored : (t : ℕ) (i m q : Ref) → Acts a t (act.Restore i m q) → (main_word a.states t i ≡ m → ⊥) → weight (suc t) ≤ weight t
  -- a fresh node is swapped in, pending, or another stands there
  pub publish : (t : ℕ) (i m fresh : Ref) → Acts a t (act.Publish i m fresh) → weight (suc t) ≤ weight t + pending
  pub published : (t : ℕ) (i m fresh : Ref) → Acts a t (act.Publish i m fresh) → (main_word a.states t i ≡ m → ⊥) → weight (suc t) ≤ weight t
