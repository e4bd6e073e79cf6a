-- What has become of an offer stays.
use Rattle.std.proofs.Common.{◌≡◌, ◌≢◌, inl, inr, ℕ, List, [], ◌∷◌, ◌++◌, refl, sym, ap, subst, ◌∙◌, arith, append_assoc, append-nil, get_or, None}
use Rattle.std.specs.Prelude.{option_map}
use Rattle.std.proofs.lemmas.Bool.{true≢false}
use Rattle.std.proofs.lemmas.Option.{same_Some}
use Rattle.machine_model.specs.declared.roots.Descriptor.{Descriptor}
use Rattle.machine_model.specs.declared.roots.RootWord.TheVariants.{Offer}
use Rattle.machine_model.specs.declared.steps.Step.{Step}
use Rattle.machine_model.specs.States.{State, word_at, word_of}
use Rattle.lock_free.specs.declared.accounts.Account.{Account}
use Rattle.lock_free.specs.declared.accounts.Known.{Known}
use Rattle.lock_free.specs.declared.sizes.Sizes.{Sizes}
use Rattle.lock_free.specs.Accounts.{state_of, HasStood}
use Rattle.lock_free.specs.Fates.{HasSettled, TellsFate, IsSettled, IsMarkedThen, is_carried_out, is_taken_back, after}
use Rattle.lock_free.specs.Roots.{undecided}
use Rattle.lock_free.specs.Trying.{Try, try_of, SameTries}
use Rattle.lock_free.proofs.OneStep.Reached.{parted}

-- ---- it is one thing

not_both : (offer : Descriptor) (before then : State) → IsMarkedThen offer before then → SameTries before then → ⊥
not_both offer before then h same =
    let tries : try_of h.now ≡ try_of h.was = same_Some (try_of h.now) (try_of h.was) (ap (option_map try_of) (sym h.runs) ∙ same h.owner ∙ ap (option_map try_of) h.ran) in
    true≢false (ap (λ (t : Try). t.is_marked) (sym h.marked ∙ tries) ∙ h.unmarked)

pub settled_once : (m n : ℕ) (offer : Descriptor) (before then : State) → IsSettled m offer before then → IsSettled n offer before then → m ≡ n
settled_once m n offer before then (is_carried_out e h) (is_carried_out f g) = e ∙ sym f
settled_once m n offer before then (is_carried_out e h) (is_taken_back f same) = absurd (not_both offer before then h same)
settled_once m n offer before then (is_taken_back e same) (is_carried_out f h) = absurd (not_both offer before then h same)
settled_once m n offer before then (is_taken_back e same) (is_taken_back f g) = e ∙ sym f

pub settled_decides : (n : ℕ) (offer : Descriptor) (before then : State) → IsSettled n offer before then → n ≢ undecided
settled_decides n offer before then (is_carried_out e h) none = omega (arith, e, none)
settled_decides n offer before then (is_taken_back e h) none = omega (arith, e, none)

-- ---- it is for ever

pub settled_still : (sizes : Sizes) (account later : Account) (more : List Step) → later.steps ≡ account.steps ++ more → (k : Known) (n : ℕ) → HasSettled sizes account k n → HasSettled sizes later k n
settled_still sizes account later more goes_on k n h = record {
  steps = h.steps;
  last = h.last;
  more = h.more ++ more;
  goes_on = goes_on ∙ ap (λ xs. xs ++ more) h.goes_on ∙ append_assoc (h.steps ++ h.last ∷ []) h.more more;
  stood = h.stood;
  left = h.left;
  settled = h.settled;
}

-- ---- one step more

-- the last one, or one before it
data Which (sizes : Sizes) (account : Account) (s : Step) (k : Known) (n : ℕ) : Type 0 where
  before : HasSettled sizes account k n → Which sizes account s k n
  by_it : word_at (state_of sizes account) k.handle ≡ Offer k.offer → word_at (after sizes (account.steps ++ s ∷ [])) k.handle ≢ Offer k.offer →
      IsSettled n k.offer (state_of sizes account) (after sizes (account.steps ++ s ∷ [])) → Which sizes account s k n

last_of : (xs ys : List Step) (s t : Step) → xs ++ s ∷ [] ≡ ys ++ t ∷ [] → (xs ≡ ys) × (s ≡ t)
last_of [] [] s t e = (refl, cc e)
last_of [] (y ∷ []) s t e = absurd (cc e)
last_of [] (y ∷ z ∷ ys) s t e = absurd (cc e)
last_of (x ∷ []) [] s t e = absurd (cc e)
last_of (x ∷ z ∷ xs) [] s t e = absurd (cc e)
last_of (x ∷ xs) (y ∷ ys) s t e =
    let rest = last_of xs ys s t (cc e) in let first : x ≡ y = cc e in (ap (λ z. z ∷ xs) first ∙ ap (λ zs. y ∷ zs) rest.0, rest.1)

which : (sizes : Sizes) (account later : Account) (s : Step) → later.steps ≡ account.steps ++ s ∷ [] → (k : Known) (n : ℕ) → HasSettled sizes later k n → Which sizes account s k n
which sizes account later s goes_on k n h = elim (parted account.steps s (h.steps ++ h.last ∷ []) h.more (sym goes_on ∙ h.goes_on)) [
  | inl old ↦ before (record { steps = h.steps; last = h.last; more = old.0; goes_on = old.1; stood = h.stood; left = h.left; settled = h.settled })
  | inr all ↦
      (let both = last_of h.steps account.steps h.last s all in
      by_it (subst (λ xs. word_at (after sizes xs) k.handle ≡ Offer k.offer) both.0 h.stood) (subst (λ xs. word_at (after sizes xs) k.handle ≢ Offer k.offer) all h.left)
      (subst (λ xs. IsSettled n k.offer (after sizes account.steps) (after sizes xs)) all (subst (λ xs. IsSettled n k.offer (after sizes xs) (after sizes (h.steps ++ h.last ∷ []))) both.0 h.settled)))
]

module _ (sizes : Sizes) (account later : Account) (s : Step) (goes_on : later.steps ≡ account.steps ++ s ∷ []) (k : Known) where
  -- an offer that doesn't leave
  pub fate_kept : (n : ℕ) → (word_at (state_of sizes account) k.handle ≡ Offer k.offer → word_at (after sizes (account.steps ++ s ∷ [])) k.handle ≡ Offer k.offer) → TellsFate sizes account k n →
      TellsFate sizes later k n
  fate_kept n stays h = record {
    once = λ m g. by m (which sizes account later s goes_on k m g);
    told = λ decided. settled_still sizes account later (s ∷ []) goes_on k n (h.told decided);
  }
    where
      by : (m : ℕ) → Which sizes account s k m → n ≡ m
      by m (before g) = h.once m g
      by m (by_it stood left settled) = absurd (left (stays stood))

  -- one that leaves
  pub fate_settled : (n : ℕ) → word_at (state_of sizes account) k.handle ≡ Offer k.offer → word_at (after sizes (account.steps ++ s ∷ [])) k.handle ≢ Offer k.offer →
      IsSettled n k.offer (state_of sizes account) (after sizes (account.steps ++ s ∷ [])) → TellsFate sizes account k undecided → TellsFate sizes later k n
  fate_settled n stood left settled h = record {
    once = λ m g. by m (which sizes account later s goes_on k m g);
    told = λ decided. record { steps = account.steps; last = s; more = []; goes_on = goes_on ∙ sym (append-nil (account.steps ++ s ∷ [])); stood = stood; left = left; settled = settled };
  }
    where
      by : (m : ℕ) → Which sizes account s k m → n ≡ m
      by m (before g) = absurd (settled_decides m k.offer _ _ g.settled (sym (h.once m g)))
      by m (by_it stood' left' settled') = settled_once n m k.offer (state_of sizes account) (after sizes (account.steps ++ s ∷ [])) settled settled'

  -- one that has never stood
  pub fate_new : (HasStood sizes account k.offer → ⊥) → (word_at (state_of sizes account) k.handle ≡ Offer k.offer → ⊥) → TellsFate sizes later k undecided
  fate_new never not_yet = record {
    once = λ m g. by m (which sizes account later s goes_on k m g);
    told = λ decided. absurd (decided refl);
  }
    where
      by : (m : ℕ) → Which sizes account s k m → undecided ≡ m
      by m (before g) = absurd (never (record {
        steps = g.steps;
        more = (g.last ∷ []) ++ g.more;
        goes_on = g.goes_on ∙ append_assoc g.steps (g.last ∷ []) g.more;
        handle = k.handle;
        stood = g.stood;
      }))
      by m (by_it stood left settled) = absurd (not_yet stood)

-- where its first word says what it said
pub fate_said : (sizes : Sizes) (account : Account) (k : Known) (m n : ℕ) → n ≡ m → TellsFate sizes account k m → TellsFate sizes account k n
fate_said sizes account k m n same h = subst (TellsFate sizes account k) (sym same) h

-- where no word of a root changes
pub words_same : (was then : State) → then.roots ≡ was.roots → (handle : ℕ) → word_at then handle ≡ word_at was handle
words_same was then same handle = ap (λ rs. word_of (get_or rs handle None)) same
