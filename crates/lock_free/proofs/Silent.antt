-- An actor that has never taken a step was told nothing.
use Rattle.std.proofs.Common.{◌++◌, All, List, [], ◌∷◌, ℕ, sym, subst, ◌∙◌}
use Rattle.std.proofs.lemmas.List.Elements.{All-tail}
use Rattle.machine_model.specs.declared.steps.Step.{Step}
use Rattle.lock_free.specs.declared.accounts.Account.{Account}
use Rattle.lock_free.specs.declared.sizes.Sizes.{Sizes}
use Rattle.lock_free.specs.Accounts.{HasWaited, IsOfOther}
use Rattle.lock_free.specs.Rules.{first_account}

pub all_last : (P : Step → Type 0) (xs ys : List Step) → All P (xs ++ ys) → All P ys
all_last P [] ys h = h
all_last P (x ∷ xs) ys h = all_last P xs ys (All-tail P x (xs ++ ys) h)

-- it has taken none since any of them
pub waited_since : (actor other : ℕ) (sizes : Sizes) (middle last : Account) → HasWaited other middle last → HasWaited actor (first_account sizes) last → HasWaited actor middle last
waited_since actor other sizes middle last k h = record {
  steps = k.steps;
  goes_on = k.goes_on;
  others = all_last (IsOfOther actor) middle.steps k.steps (subst (All (IsOfOther actor)) (sym h.goes_on ∙ k.goes_on) h.others);
  names = k.names;
  more_names = k.more_names;
  owned = k.owned;
  more_owned = k.more_owned;
  offers = k.offers;
  more_offers = k.more_offers;
}
