-- What has become of an offer, by the steps that were taken.
use Rattle.std.specs.Prelude.{◌≡◌, ◌≢◌, ℕ, true, false, List, ◌∷◌, [], ◌++◌, Some}
use Rattle.machine_model.specs.declared.operations.Operation.{Operation}
use Rattle.machine_model.specs.declared.roots.Descriptor.{Descriptor}
use Rattle.machine_model.specs.declared.roots.RootWord.TheVariants.{Offer}
use Rattle.machine_model.specs.declared.steps.Step.{Step}
use Rattle.machine_model.specs.Machine.{run}
use Rattle.machine_model.specs.States.{State, operation_of, word_at}
use Rattle.lock_free.specs.declared.accounts.Account.{Account}
use Rattle.lock_free.specs.declared.accounts.Known.{Known}
use Rattle.lock_free.specs.declared.sizes.Sizes.{Sizes}
use Rattle.lock_free.specs.Accounts.{bounds_for}
use Rattle.lock_free.specs.Roots.{IsItsTry, undecided, carried_out, taken_back}
use Rattle.lock_free.specs.Trying.{try_of, try_at, SameTries}

-- the operation that offered is marked then, and nothing else changes of any try
pub record IsMarkedThen (offer : Descriptor) (before after : State) : Type 0 where
  pub owner : ℕ
  pub was : Operation
  pub ran : operation_of before owner ≡ Some was
  pub its_try : IsItsTry was offer
  pub opens : was.opens ≡ offer.opens
  pub unmarked : was.is_marked ≡ false
  pub now : Operation
  pub runs : operation_of after owner ≡ Some now
  pub marked : try_of now ≡ record (try_of was) { is_marked = true }
  pub alone : (a : ℕ) (o : Operation) → a ≢ owner → operation_of before a ≡ Some o → o.id ≢ offer.operation
  pub others : (a : ℕ) → a ≢ owner → try_at after a ≡ try_at before a

pub data IsSettled (n : ℕ) (offer : Descriptor) (before after : State) : Type 0 where
  is_carried_out : n ≡ carried_out → IsMarkedThen offer before after → IsSettled n offer before after
  is_taken_back : n ≡ taken_back → SameTries before after → IsSettled n offer before after

abbrev pub after : Sizes → List Step → State
after sizes steps = run (bounds_for sizes steps) steps

-- by one of the steps it was carried out or taken back
pub record HasSettled (sizes : Sizes) (account : Account) (k : Known) (n : ℕ) : Type 0 where
  pub steps : List Step
  pub last : Step
  pub more : List Step
  pub goes_on : account.steps ≡ (steps ++ last ∷ []) ++ more
  pub stood : word_at (after sizes steps) k.handle ≡ Offer k.offer
  pub left : word_at (after sizes (steps ++ last ∷ [])) k.handle ≢ Offer k.offer
  pub settled : IsSettled n k.offer (after sizes steps) (after sizes (steps ++ last ∷ []))

-- it stands still, or doesn't stand yet
abbrev pub IsUnsettled : Sizes → Account → Known → Type 0
IsUnsettled sizes account k = (n : ℕ) → ¬ HasSettled sizes account k n

-- and its first word says which
pub record TellsFate (sizes : Sizes) (account : Account) (k : Known) (n : ℕ) : Type 0 where
  pub once : (m : ℕ) → HasSettled sizes account k m → n ≡ m
  pub told : n ≢ undecided → HasSettled sizes account k n
