-- Entries are written two in a word, and read again from there.
use Rattle.std.proofs.Common.{◌≡◌, ◌≢◌, ◌<◌, ◌≤◌, ◌*◌, ◌+◌, ◌⊎◌, ℕ, inl, inr, List, sym, ap, subst, ◌∙◌, length, Contains, arith}
use Rattle.std.proofs.lemmas.Bool.{cases_eq}
use Rattle.std.proofs.lemmas.Option.{slice_get_past}
use Rattle.trie_words.specs.Codes.{pair_code}
use Rattle.trie_words.specs.declared.entries.Entry.{Entry}
use Rattle.trie_words.specs.declared.entries.Pair.{Pair}
use Rattle.lock_free.specs.declared.rules.View.{View}
use Rattle.lock_free.specs.Making.{with_draft, others_than}
use Rattle.lock_free.specs.SeenEntries.{half_at, half_for, IsOwnSlot, HasWritten}
use Rattle.lock_free.specs.Storing.{IsOwnWord, drafted}
use Rattle.lock_free.proofs.Drafts.{written_still}
use Rattle.lock_free.proofs.Pools.{first_there}

module _ (before : View) (name : ℕ) (entries : List Entry) (n : ℕ) (w : View) (h : HasWritten before name entries n w) where
  pub entry_word_own : IsOwnSlot before name (length entries) → 2 * n < length entries → IsOwnWord w (2 * name + 1 + n)
  entry_word_own (class, free, room) low =
      subst (λ x. IsOwnWord x (2 * name + 1 + n)) (sym h.is) (class, name, free, omega arith, omega (arith, room, low))

  -- one word more
  pub one_written : (x : View) (pair : Pair) → pair ≡ record { low = half_at entries (2 * n); high = half_at entries (2 * n + 1) } → x ≡ drafted w (2 * name + 1 + n) (pair_code pair) →
      HasWritten before name entries (n + 1) x
  one_written x pair is its = record {
    is = its ∙ ap (λ (v : View). record v { drafts = with_draft w.drafts (2 * name + 1 + n) (pair_code pair) }) h.is ∙ ap (λ (v : View). record before { drafts = v.drafts }) (sym its);
    words = λ k few inside.
        subst (λ (v : View). Contains v.drafts (2 * name + 1 + k, pair_code (record { low = half_at entries (2 * k); high = half_at entries (2 * k + 1) }))) (sym its) (by k few inside (cases_eq k n));
  }
    where
      there : ℕ → ℕ × ℕ
      there k = (2 * name + 1 + k, pair_code (record { low = half_at entries (2 * k); high = half_at entries (2 * k + 1) }))

      by : (k : ℕ) → k < n + 1 → 2 * k < length entries → (k ≡ n) ⊎ (k ≢ n) → Contains (with_draft w.drafts (2 * name + 1 + n) (pair_code pair)) (there k)
      by k few inside (inl same) = subst (λ m. Contains (with_draft w.drafts (2 * name + 1 + n) (pair_code pair)) (there m)) (sym same)
          (subst (λ p. Contains (with_draft w.drafts (2 * name + 1 + n) (pair_code pair)) (2 * name + 1 + n, pair_code p)) is
          (first_there (2 * name + 1 + n, pair_code pair) (others_than (2 * name + 1 + n) w.drafts)))
      by k few inside (inr apart) =
          written_still w.drafts (2 * name + 1 + n) (pair_code pair) (2 * name + 1 + k) (there k).1 (λ e. apart (omega (arith, e))) (h.words k (omega (arith, few, apart)) inside)

  -- where no entry is left they are all there
  pub all_written : (m : ℕ) → length entries ≤ 2 * n → HasWritten before name entries m w
  all_written m all = record { is = h.is; words = λ k few inside. h.words k (omega (arith, all, inside)) inside }

-- after the last entry there is nothing
pub nothing_after : (entries : List Entry) (k : ℕ) → length entries ≤ k → half_at entries k ≡ 0
nothing_after entries k last = ap half_for (slice_get_past entries k last)
