-- How accounts go on.
use Rattle.std.proofs.Common.{◌≡◌, ◌++◌, ℕ, List, [], ◌∷◌, All, refl, sym, ap, subst, ◌∙◌, append_assoc, append-nil}
use Rattle.std.proofs.lemmas.List.Elements.{All-append, All-nil}
use Rattle.machine_model.specs.declared.steps.Step.{Step}
use Rattle.machine_model.specs.declared.steps.Step.TheVariants as step
use Rattle.proof_waiting.specs.Beneath.proof_slots.specs.Unswept.{HasNoSweeps, IsNoSweep}
use Rattle.lock_free.specs.declared.accounts.Account.{Account}
use Rattle.lock_free.specs.declared.accounts.Owned.{Owned}
use Rattle.lock_free.specs.declared.accounts.Known.{Known}
use Rattle.lock_free.specs.declared.rules.View.{View}
use Rattle.lock_free.specs.Accounts.{IsOfOther, HasGrown, HasWaited}
use Rattle.lock_free.specs.Finishing.{unoffered}
use Rattle.lock_free.specs.Loading.{seen, IsSound, Saw, Waited}

-- one step more that isn't the sweep's
pub quiet_more : (steps : List Step) (s : Step) → HasNoSweeps steps → IsNoSweep s → HasNoSweeps (steps ++ s ∷ [])
quiet_more [] s quiet own = (own, tt)
quiet_more (x ∷ steps) s quiet own = (quiet.0, quiet_more steps s quiet.1 own)

pub other_quiet : (actor : ℕ) (s : Step) → IsOfOther actor s → IsNoSweep s
other_quiet actor (step.Begin other call number) h = tt
other_quiet actor (step.Go other) h = tt
other_quiet actor (step.GiveUp other) h = tt
other_quiet actor step.Sweep h = absurd h

-- nothing has happened
pub waited_none : (actor : ℕ) (account : Account) → HasWaited actor account account
waited_none actor account = record {
  steps = [];
  goes_on = sym (append-nil account.steps);
  others = All-nil (IsOfOther actor);
  names = [];
  more_names = sym (append-nil account.names);
  owned = [];
  more_owned = refl;
  offers = [];
  more_offers = refl;
}

-- and then more
pub waited_both : (actor : ℕ) (first middle last : Account) → HasWaited actor first middle → HasWaited actor middle last → HasWaited actor first last
waited_both actor first middle last h k = record {
  steps = h.steps ++ k.steps;
  goes_on = k.goes_on ∙ ap (λ xs. xs ++ k.steps) h.goes_on ∙ append_assoc first.steps h.steps k.steps;
  others = All-append (IsOfOther actor) h.steps k.steps h.others k.others;
  names = h.names ++ k.names;
  more_names = k.more_names ∙ ap (λ xs. xs ++ k.names) h.more_names ∙ append_assoc first.names h.names k.names;
  owned = k.owned ++ h.owned;
  more_owned = k.more_owned ∙ ap (λ xs. k.owned ++ xs) h.more_owned ∙ sym (append_assoc k.owned h.owned first.owned);
  offers = k.offers ++ h.offers;
  more_offers = k.more_offers ∙ ap (λ xs. k.offers ++ xs) h.more_offers ∙ sym (append_assoc k.offers h.offers first.offered);
}

-- with fewer offers to begin with
pub waited_unoffered : (actor : ℕ) (first last : Account) → HasWaited actor first last → HasWaited actor (unoffered first) last
waited_unoffered actor first last h = record {
  steps = h.steps;
  goes_on = h.goes_on;
  others = h.others;
  names = h.names;
  more_names = h.more_names;
  owned = h.owned;
  more_owned = h.more_owned;
  offers = last.offered;
  more_offers = sym (append-nil last.offered);
}

-- and with none at the end
pub both_unoffered : (actor : ℕ) (first last : Account) → HasWaited actor first last → HasWaited actor (unoffered first) (unoffered last)
both_unoffered actor first last h = record {
  steps = h.steps;
  goes_on = h.goes_on;
  others = h.others;
  names = h.names;
  more_names = h.more_names;
  owned = h.owned;
  more_owned = h.more_owned;
  offers = [];
  more_offers = refl;
}

-- ---- how it grows, whoever takes the steps

pub grown_none : (account : Account) → HasGrown account account
grown_none account = record { steps = []; goes_on = sym (append-nil account.steps); names = []; more_names = sym (append-nil account.names) }

-- by these steps
pub grown_steps : (before after : Account) (steps : List Step) → after.steps ≡ before.steps ++ steps → after.names ≡ before.names → HasGrown before after
grown_steps before after steps goes_on same = record { steps = steps; goes_on = goes_on; names = []; more_names = same ∙ sym (append-nil before.names) }

pub grown_both : (first middle last : Account) → HasGrown first middle → HasGrown middle last → HasGrown first last
grown_both first middle last h k = record {
  steps = h.steps ++ k.steps;
  goes_on = k.goes_on ∙ ap (λ xs. xs ++ k.steps) h.goes_on ∙ append_assoc first.steps h.steps k.steps;
  names = h.names ++ k.names;
  more_names = k.more_names ∙ ap (λ xs. xs ++ k.names) h.more_names ∙ append_assoc first.names h.names k.names;
}

pub grown_by : (actor : ℕ) (first last : Account) → HasWaited actor first last → HasGrown first last
grown_by actor first last h = record { steps = h.steps; goes_on = h.goes_on; names = h.names; more_names = h.more_names }

-- the account with these steps, names, owners and offers more
abbrev pub more : Account → List Step → List ℕ → List Owned → List Known → Account
more account steps names owned offers =
    record account {
      steps = account.steps ++ steps;
      names = account.names ++ names;
      owned = owned ++ account.owned;
      offered = offers ++ account.offered;
      offers = offers ++ account.offers;
    }

pub waited_more : (actor : ℕ) (first account : Account) (steps : List Step) (names : List ℕ) (owned : List Owned) (offers : List Known) → All (IsOfOther actor) steps → HasWaited actor first account →
    HasWaited actor first (more account steps names owned offers)
waited_more actor first account steps names owned offers others h = record {
  steps = h.steps ++ steps;
  goes_on = ap (λ xs. xs ++ steps) h.goes_on ∙ append_assoc first.steps h.steps steps;
  others = All-append (IsOfOther actor) h.steps steps h.others others;
  names = h.names ++ names;
  more_names = ap (λ xs. xs ++ names) h.more_names ∙ append_assoc first.names h.names names;
  owned = owned ++ h.owned;
  more_owned = ap (λ xs. owned ++ xs) h.more_owned ∙ sym (append_assoc owned h.owned first.owned);
  offers = offers ++ h.offers;
  more_offers = ap (λ xs. offers ++ xs) h.more_offers ∙ sym (append_assoc offers h.offers first.offered);
}

-- ---- what a seat has seen of it

module _ (v : View) (first second : Account) (w : Waited v first) (x : Waited (seen v first) second) where
  pub waited_twice : Waited v second
  waited_twice = record {
    waited = waited_both v.actor v.account first second w.waited x.waited;
    sound = x.sound;
    stays = λ o runs.
        (let a = w.stays o runs in
        let b = x.stays (record o { is_marked = a.0 }) a.1 in
        (b.0, b.1, b.2 ∙ a.2));
  }

pub saw_none : (n : ℕ) (v : View) → IsSound n v → Saw v v
saw_none n v sound = record {
  account = v.account;
  waited = record { waited = waited_none v.actor v.account; sound = subst (λ k. IsSound k v) sound.size sound; stays = λ o runs. (o.is_marked, runs, refl) };
  after_is = refl;
}

pub saw_both : (u v : View) → Saw u v → (w : View) → Saw v w → Saw u w
saw_both u v s w t =
    let x = subst (λ z. Saw z w) s.after_is t in
    record { account = x.account; waited = waited_twice u s.account x.account s.waited x.waited; after_is = x.after_is }
