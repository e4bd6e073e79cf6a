-- What is so of the offers that stood, and of one more.
use Rattle.std.proofs.Common.{◌≡◌, ◌≢◌, ◌∷◌, [], ◌++◌, ℕ, inl, inr, List, Contains, sym, ap, subst, ◌∙◌}
use Rattle.machine_model.specs.declared.roots.Descriptor.{Descriptor}
use Rattle.machine_model.specs.declared.roots.RootWord.TheVariants.{Offer}
use Rattle.machine_model.specs.declared.steps.Step.{Step}
use Rattle.machine_model.specs.States.{word_at}
use Rattle.lock_free.specs.declared.accounts.Account.{Account}
use Rattle.lock_free.specs.declared.accounts.Known.{Known}
use Rattle.lock_free.specs.declared.sizes.Sizes.{Sizes}
use Rattle.lock_free.specs.Accounts.{state_of, HasStood}
use Rattle.lock_free.specs.Fates.{TellsFate, after}
use Rattle.lock_free.specs.Roots.{fate, undecided}
use Rattle.lock_free.proofs.Fates as fates
use Rattle.lock_free.proofs.Fates.{fate_said}
use Rattle.lock_free.proofs.Pools.{first_or_more}

module _ (new : Known) (offers : List Known) where
  -- where nothing that tells offers apart is the new one's
  one_more : (same : Known → Known → Type 0) → ((k l : Known) → same k l → same l k) → ((k : Known) → Contains offers k → same k new → ⊥) →
      ((k l : Known) → Contains offers k → Contains offers l → same k l → k ≡ l) → (k l : Known) → Contains (new ∷ offers) k → Contains (new ∷ offers) l → same k l → k ≡ l
  one_more same back another all k l c d e = elim (first_or_more new offers k c) [
    | inl kn ↦ elim (first_or_more new offers l d) [
      | inl ln ↦ kn ∙ sym ln
      | inr lo ↦ absurd (another l lo (back new l (subst (λ x. same x l) kn e)))
    ]
    | inr ko ↦ elim (first_or_more new offers l d) [
      | inl ln ↦ absurd (another k ko (subst (same k) ln e))
      | inr lo ↦ all k l ko lo e
    ]
  ]

  -- a slot has one offer
  pub single_more : ((k : Known) → Contains offers k → k.slot ≢ new.slot) → ((k l : Known) → Contains offers k → Contains offers l → k.slot ≡ l.slot → k ≡ l) →
      (k l : Known) → Contains (new ∷ offers) k → Contains (new ∷ offers) l → k.slot ≡ l.slot → k ≡ l
  single_more another all = one_more (λ k l. k.slot ≡ l.slot) (λ k l e. sym e) another all

  -- and so has a try
  pub tries_more : ((k : Known) → Contains offers k → k.offer.operation ≡ new.offer.operation → k.offer.attempt ≡ new.offer.attempt → ⊥) →
      ((k l : Known) → Contains offers k → Contains offers l → k.offer.operation ≡ l.offer.operation → k.offer.attempt ≡ l.offer.attempt → k ≡ l) →
      (k l : Known) → Contains (new ∷ offers) k → Contains (new ∷ offers) l → k.offer.operation ≡ l.offer.operation → k.offer.attempt ≡ l.offer.attempt → k ≡ l
  tries_more another all k l c d same_id same_try =
      one_more (λ k l. (k.offer.operation ≡ l.offer.operation) × (k.offer.attempt ≡ l.offer.attempt)) (λ k l e. (sym e.0, sym e.1)) (λ k c e. another k c e.0 e.1) (λ k l c d e. all k l c d e.0 e.1)
      k l c d (same_id, same_try)

-- what has become of the old ones, and of the new one
pub fates_more : (sizes : Sizes) (account later : Account) (s : Step) (goes_on : later.steps ≡ account.steps ++ s ∷ []) (new : Known) → (HasStood sizes account new.offer → ⊥) →
    ((d : Descriptor) → word_at (state_of sizes account) new.handle ≡ Offer d → ⊥) →
    ((h : ℕ) → h ≢ new.handle → word_at (after sizes (account.steps ++ s ∷ [])) h ≡ word_at (state_of sizes account) h) → (words changed : List ℕ) → fate changed new ≡ undecided →
    ((k : Known) → Contains account.offers k → fate changed k ≡ fate words k) → ((k : Known) → Contains account.offers k → TellsFate sizes account k (fate words k)) →
    (k : Known) → Contains (new ∷ account.offers) k → TellsFate sizes later k (fate changed k)
fates_more sizes account later s goes_on new never not_yet beside words changed new_is old_are all k c = elim (first_or_more new account.offers k c) [
  | inl is_new ↦
      subst (λ x. TellsFate sizes later x (fate changed x)) (sym is_new)
      (fate_said sizes later new undecided (fate changed new) new_is (fates.fate_new sizes account later s goes_on new never (not_yet new.offer)))
  | inr old ↦
      fate_said sizes later k (fate words k) (fate changed k) (old_are k old)
      (fates.fate_kept sizes account later s goes_on k (fate words k)
      (λ e. beside k.handle (λ same. not_yet k.offer (ap (word_at (state_of sizes account)) (sym same) ∙ e)) ∙ e) (all k old))
]
