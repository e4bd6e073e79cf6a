-- What is earlier, and what was made by then; and what a single isn't.
use Rattle.std.proofs.Common.{◌≡◌, ℕ, suc, ◌<◌, ◌≤◌, ◌⊎◌, true, false, inl, inr, sym, ap, ◌∙◌, arith}
use Rattle.std.proofs.lemmas.Bool.{true≢false}
use Rattle.proof_shape.specs.Vocabulary.{Ref, Single, Indirection, Bounds, State, IsRun, node_under, no_ref, empty_branch}
use Rattle.proof_owned.specs.Beneath.proof_commits.proofs.Course.Finals.{from_time}
use Rattle.proof_owned.specs.Beneath.proof_contents.specs.Runs.{is_made}
use Rattle.proof_owned.specs.Beneath.proof_contents.proofs.Values.Runs.{made_next}
use Rattle.proof_owned.specs.Beneath.proof_generations.proofs.Falling.NoRef.{no_node}

pub either : (t u : ℕ) → (t ≤ u) ⊎ (u < t)
either t u = grind arith

pub order : (u v : ℕ) → (u ≡ v) ⊎ ((u < v) ⊎ (v < u))
order u v = grind arith

-- what was made stays so
pub made_since : (states : ℕ → State) (t u : ℕ) (m : Ref) → t ≤ u → is_made states t m ≡ true → is_made states u m ≡ true
made_since states t u m le made = from_time (λ v. is_made states v m ≡ true) t u made (λ v low below before. made_next states v m before) u le (omega arith)

-- nothing is made twice
pub same_time : (states : ℕ → State) (u v : ℕ) (m : Ref) → is_made states u m ≡ false → is_made states (suc u) m ≡ true → is_made states v m ≡ false → is_made states (suc v) m ≡ true → u ≡ v
same_time states u v m bu au bv av = by (order u v)
  where
    by : (u ≡ v) ⊎ ((u < v) ⊎ (v < u)) → u ≡ v
    by (inl same) = same
    by (inr (inl lt)) = absurd (true≢false (sym (made_since states (suc u) v m lt au) ∙ bv))
    by (inr (inr lt)) = absurd (true≢false (sym (made_since states (suc v) u m lt av) ∙ bu))

module _ {limits : Bounds} {states : ℕ → State} {last : ℕ} (run : IsRun limits states last) where
  -- an indirection
  abbrev pub IsLink : Ref → Type 0
  IsLink c = (h : ℕ) × (word : Ref) × (node_under states last c ≡ Indirection h word)

  abbrev pub IsSingle : Ref → Type 0
  IsSingle s = (key : ℕ) × (value : ℕ) × (node_under states last s ≡ Single key value)

  pub single_no_link : (s : Ref) → IsSingle s → IsLink s → ⊥
  single_no_link s (k, v, single) (g, word, is) = let wrong : Single k v ≡ Indirection g word = sym single ∙ is in let bad : ⊥ = cc wrong in bad

  pub single_no_none : (s : Ref) → IsSingle s → s ≡ no_ref → ⊥
  single_no_none s (k, v, single) same =
      let wrong : Single k v ≡ empty_branch = sym single ∙ ap (node_under states last) same ∙ no_node run last (omega arith) in
      let bad : ⊥ = cc wrong in
      bad
