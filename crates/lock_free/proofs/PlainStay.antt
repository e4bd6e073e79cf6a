-- What a seat knows of handles whose words named no offer stays so.
use Rattle.std.proofs.Common.{◌≡◌, ◌<◌, ◌≤◌, ◌++◌, inl, inr, ℕ, List, [], slice_index, refl, sym, subst, ◌∙◌, arith, append-nil}
use Rattle.std.proofs.lemmas.Bool.{cases_eq}
use Rattle.std.proofs.lemmas.Option.{none-some}
use Rattle.trie_words.specs.Codes.{root_code, IsRootWord}
use Rattle.trie_words.specs.declared.roots.RootWord.{RootWord as HandleWord}
use Rattle.trie_words.specs.declared.roots.RootWord.TheVariants as word
use Rattle.machine_model.specs.declared.operations.Operation.{Operation}
use Rattle.machine_model.specs.declared.steps.Step.{Step}
use Rattle.machine_model.specs.Machine.{AreBounds, run}
use Rattle.machine_model.specs.States.{operation_of, handle_limit}
use Rattle.lock_free.specs.declared.accounts.Account.{Account}
use Rattle.lock_free.specs.declared.sizes.Sizes.{Sizes}
use Rattle.lock_free.specs.Accounts.{bounds_for, state_of, running}
use Rattle.lock_free.specs.Places.{root_word}
use Rattle.lock_free.specs.Rules.{IsPlainSo, NamesOffer, RunsNothing}
use Rattle.lock_free.proofs.BegunSince.{begun_grown}
use Rattle.lock_free.proofs.OneStep.Longer.{bounds_more}
use Rattle.lock_free.proofs.RootCodes.{kind, same_kind}

-- a word of another kind names none
pub names_none : (w : HandleWord) → IsRootWord w → (kind w ≡ 3 → ⊥) → (kind w ≡ 4 → ⊥) → (slot : ℕ) → NamesOffer (root_code w) slot → ⊥
names_none w fits not_offered not_opening slot (inl h) = not_offered (same_kind w (word.Offered slot) fits h.0 h.1)
names_none w fits not_offered not_opening slot (inr h) = not_opening (same_kind w (word.Opening slot) fits h.0 h.1)

-- ---- where steps were taken

module _ (sizes : Sizes) (account after : Account) (bounds : AreBounds (bounds_for sizes account.steps)) (more : List Step) (goes_on : after.steps ≡ account.steps ++ more) where
  begun_then : (state_of sizes account).begun ≤ (state_of sizes after).begun
  begun_then =
      let last : Account = record { steps = account.steps ++ more; names = account.names; owned = []; offered = []; offers = []; parted = [] } in
      subst (λ xs. (state_of sizes account).begun ≤ (run (bounds_for sizes xs) xs).begun) (sym goes_on)
      (begun_grown sizes account last (bounds_more sizes account.steps more bounds) (record { steps = more; goes_on = refl; names = []; more_names = sym (append-nil account.names) }))

  -- by an operation that runs
  pub plain_running : (words words_then : List ℕ) (actor : ℕ) (operation : Operation) → running sizes account actor operation → (d : ℕ × ℕ) → IsPlainSo sizes account words d →
      IsPlainSo sizes after words_then d
  plain_running words words_then actor operation runs d h = record {
    low = h.low;
    begun = omega (arith, h.begun, begun_then);
    plain = λ now.
        (let before : d.1 ≡ (state_of sizes account).begun = omega (arith, h.begun, begun_then, now) in absurd (none-some operation (sym ((h.plain before).0 actor) ∙ runs)));
  }

  -- by which one begins
  pub plain_begun : (words words_then : List ℕ) (actor : ℕ) (operation : Operation) → running sizes after actor operation → (state_of sizes account).begun ≤ operation.id →
      operation.id < (state_of sizes after).begun → (d : ℕ × ℕ) → IsPlainSo sizes account words d → IsPlainSo sizes after words_then d
  plain_begun words words_then actor operation runs new below d h = record {
    low = h.low;
    begun = omega (arith, h.begun, begun_then);
    plain = λ now. absurd (omega (arith, h.begun, new, below, now));
  }

  -- by which all run what they ran, and no word comes to name one
  pub plain_still : (words words_then : List ℕ) → ((actor : ℕ) → operation_of (state_of sizes after) actor ≡ operation_of (state_of sizes account) actor) →
      ((handle : ℕ) → handle < handle_limit → (slot : ℕ) → NamesOffer (slice_index words_then (root_word handle)) slot → NamesOffer (slice_index words (root_word handle)) slot) → (d : ℕ × ℕ) →
      IsPlainSo sizes account words d → IsPlainSo sizes after words_then d
  plain_still words words_then same names d h = record {
    low = h.low;
    begun = omega (arith, h.begun, begun_then);
    plain = λ now.
        (let before : d.1 ≡ (state_of sizes account).begun = omega (arith, h.begun, begun_then, now) in
        let x = h.plain before in
        (λ actor. same actor ∙ x.0 actor, λ slot named. x.1 slot (names d.0 h.low slot named)));
  }

-- ---- where none was

module _ (sizes : Sizes) (account : Account) (words words_then : List ℕ) where
  -- where no word of a handle changes
  pub plain_elsewhere : ((handle : ℕ) → handle < handle_limit → slice_index words_then (root_word handle) ≡ slice_index words (root_word handle)) → (d : ℕ × ℕ) →
      IsPlainSo sizes account words d → IsPlainSo sizes account words_then d
  plain_elsewhere same d h = record {
    low = h.low;
    begun = h.begun;
    plain = λ now. (let x = h.plain now in (x.0, λ slot named. x.1 slot (subst (λ n. NamesOffer n slot) (same d.0 h.low) named)));
  }

  -- where one does, and names none then, unless something runs
  pub plain_over : (o : ℕ) → ((handle : ℕ) → (handle ≡ o → ⊥) → slice_index words_then (root_word handle) ≡ slice_index words (root_word handle)) →
      (RunsNothing (state_of sizes account) → (slot : ℕ) → NamesOffer (slice_index words_then (root_word o)) slot → ⊥) → (d : ℕ × ℕ) →
      IsPlainSo sizes account words d → IsPlainSo sizes account words_then d
  plain_over o beside none d h = record {
    low = h.low;
    begun = h.begun;
    plain = λ now.
        (let x = h.plain now in (
          x.0,
          λ slot named. elim (cases_eq d.0 o) [
            | inl same ↦ none x.0 slot (subst (λ g. NamesOffer (slice_index words_then (root_word g)) slot) same named)
            | inr differs ↦ x.1 slot (subst (λ n. NamesOffer n slot) (beside d.0 differs) named)
          ],
        ));
  }
