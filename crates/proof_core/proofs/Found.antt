-- What is found of a key among pairs of which none has the key of another.
use Rattle.std.proofs.Common.{◌≡◌, ℕ, zero, suc, ◌<◌, Bool, true, false, cond, T, List, Contains, [], ◌∷◌, map, length, get_or, Option, Some, None}
use Rattle.std.proofs.Common.{refl, sym, ap, ap₂, subst, ◌∙◌, eq-eqb, eqb-true, ne_eqb, arith}
use Rattle.std.specs.Cmp.{unsigned_tied}
use Rattle.std.specs.FinMap.{find}
use Rattle.std.specs.List.{AllByRecursion, IsDistinct}
use Rattle.std.specs.Ordering.{eq_by_cmp, nat_cmp}
use Rattle.std.specs.FinMap.Entries.{is_sorted}
use Rattle.std.specs.Option.{IsSome}
use Rattle.proof_core.specs.Vocabulary.{Root, content_at, State, root_at, IsOfRun}
use Rattle.proof_core.specs.Beneath.proof_contents.proofs.Values.Crowds.{AreDistinct}
use Rattle.proof_core.specs.Beneath.proof_shape.proofs.Shaped.OfLists.{no_key_twice}

abbrev pub keys : List (ℕ × ℕ) → List ℕ
keys pairs = map (λ (p : ℕ × ℕ). p.0) pairs

found_first : (key value : ℕ) (pairs : List (ℕ × ℕ)) → find nat_cmp key ((key, value) ∷ pairs) ≡ Some value
found_first key value pairs = ap (λ b. cond b (Some value) (find nat_cmp key pairs)) (unsigned_tied key key ∙ eq-eqb key key refl)

-- what holds of each key holds of this one
each_key : (P : ℕ → Type 0) (pairs : List (ℕ × ℕ)) (i key value : ℕ) → AllByRecursion P (keys pairs) → i < length pairs → get_or pairs i (key, value) ≡ (key, value) → P key
each_key P [] i key value all within is = absurd (omega (arith, within))
each_key P (pair ∷ pairs) zero key value all within is = subst P (ap (λ (p : ℕ × ℕ). p.0) is) all.0
each_key P (pair ∷ pairs) (suc i) key value all within is = each_key P pairs i key value all.1 (omega (arith, within)) is

found_at : (pairs : List (ℕ × ℕ)) (i key value : ℕ) → AreDistinct (keys pairs) → i < length pairs → get_or pairs i (key, value) ≡ (key, value) → find nat_cmp key pairs ≡ Some value
unfolding IsDistinct
found_at [] i key value apart within is = absurd (omega (arith, within))
found_at (pair ∷ pairs) zero key value apart within is = subst (λ p. find nat_cmp key (p ∷ pairs) ≡ Some value) (sym is) (found_first key value pairs)
found_at (pair ∷ pairs) (suc i) key value apart within is =
    ap (λ b. cond b (Some pair.1) (find nat_cmp key pairs))
    (unsigned_tied key pair.0 ∙ ne_eqb key pair.0 (λ same. differ (each_key (λ k. eq_by_cmp nat_cmp pair.0 k ≡ false) pairs i key value apart.0 (omega (arith, within)) is) same))
    ∙ found_at pairs i key value apart.1 (omega (arith, within)) is
  where
    differ : eq_by_cmp nat_cmp pair.0 key ≡ false → key ≡ pair.0 → ⊥
    differ no_tie same = absurd (cc (sym no_tie ∙ (unsigned_tied pair.0 key ∙ eq-eqb pair.0 key (sym same))))

-- a pair that is there is found
pub found_there : (pairs : List (ℕ × ℕ)) (key value : ℕ) → AreDistinct (keys pairs) → Contains pairs (key, value) → find nat_cmp key pairs ≡ Some value
found_there pairs key value apart there = found_at pairs there.0 key value apart there.1 there.2

-- and what is found is there
pub there_found : (pairs : List (ℕ × ℕ)) (key value : ℕ) → find nat_cmp key pairs ≡ Some value → Contains pairs (key, value)
there_found [] key value found = absurd (cc found)
there_found (pair ∷ pairs) key value found = by_test (there_found pairs key value) (eq_by_cmp nat_cmp key pair.0) refl found
  where
    by_test : (find nat_cmp key pairs ≡ Some value → Contains pairs (key, value)) → (b : Bool) → eq_by_cmp nat_cmp key pair.0 ≡ b → cond b (Some pair.1) (find nat_cmp key pairs) ≡ Some value →
        Contains (pair ∷ pairs) (key, value)
    by_test later true tie here =
        (0, omega arith, ap₂ (λ k v. (k, v)) (sym (eqb-true key pair.0 (sym (unsigned_tied key pair.0) ∙ tie))) (same_value here))
      where
        same_value : Some pair.1 ≡ Some value → pair.1 ≡ value
        same_value e = cc e
    by_test later false tie there = let rest = later there in (suc rest.0, (let within = rest.1 in omega (arith, within)), rest.2)

-- ---- in the content of an open handle

module _ (state : State) (run : IsOfRun state) (handle : ℕ) where
  rises_by : (o : Option Root) → root_at state handle ≡ o → IsSome o → T (is_sorted nat_cmp (content_at state handle))
  rises_by None at some = cc some
  rises_by (Some root) at some =
      subst (λ s. root_at s handle ≡ Some root → T (is_sorted nat_cmp (content_at s handle))) (sym run.is)
      (λ e. (no_key_twice state.limits run.steps handle root run.limits run.keys e).0) at

  -- no key stands twice
  pub content_rises : IsSome (root_at state handle) → T (is_sorted nat_cmp (content_at state handle))
  content_rises some = rises_by (root_at state handle) refl some
