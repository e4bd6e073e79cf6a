-- Lists of entries with two or more, or an indirection alone; what builders do to them.
use Rattle.std.proofs.Common.{◌≡◌, ℕ, zero, suc, ◌-◌, ◌<◌, ◌≤◌, true, nat_lt, List, [], ◌∷◌, length, take, get_or, set, insert, remove, refl, sym, ap, subst, ◌∙◌, arith}
use Rattle.std.proofs.lemmas.Bool.{false≢true, cond_both}
use Rattle.proof_shape.specs.Vocabulary.{Ref, Node, Single, no_ref, by_index}
use Rattle.proof_shape.specs.Beneath.proof_memory.specs.Wants.{is_indirection}

module _ (node : Ref → Node) where
  -- neither empty nor one single alone
  abbrev pub IsFull : List Ref → Type 0
  IsFull es = (1 ≤ length es) × ((one : Ref) → es ≡ one ∷ [] → is_indirection (node one) ≡ true)

  pub two : (x y : Ref) (es : List Ref) → IsFull (x ∷ y ∷ es)
  two x y es = (omega arith, λ one e. absurd (omega (arith, ap length e)))

  pub alone : (x : Ref) → is_indirection (node x) ≡ true → IsFull (x ∷ [])
  alone x link = (omega arith, λ one e. let same : x ≡ one = cc in subst (λ r. is_indirection (node r) ≡ true) same link)

  pub full_taken : (es : List Ref) → IsFull es → IsFull (take 32 es)
  full_taken [] f = absurd (omega (arith, f.0))
  full_taken (x ∷ []) f = f
  full_taken (x ∷ y ∷ es) f = two x y (take 30 es)

  abbrev pub IsSingleAt : List Ref → ℕ → Type 0
  IsSingleAt es p = (k : ℕ) × (v : ℕ) × (node (get_or es p no_ref) ≡ Single k v)

  not_both : (x : Ref) (k v : ℕ) → node x ≡ Single k v → is_indirection (node x) ≡ true → ⊥
  not_both x k v is link = false≢true (sym (ap is_indirection is) ∙ link)

  some_inserted : (es : List Ref) (p : ℕ) (x : Ref) → (y : Ref) × (rest : List Ref) × (insert es p x ≡ y ∷ rest)
  some_inserted [] zero x = (x, [], refl)
  some_inserted [] (suc p) x = (x, [], refl)
  some_inserted (e ∷ es) zero x = (x, e ∷ es, refl)
  some_inserted (e ∷ es) (suc p) x = (e, insert es p x, refl)

  pub full_inserted : (es : List Ref) (p : ℕ) (x : Ref) → IsFull es → IsFull (insert es p x)
  full_inserted [] p x f = absurd (omega (arith, f.0))
  full_inserted (e ∷ es) zero x f = two x e es
  full_inserted (e ∷ es) (suc p) x f = let (y, rest, is) = some_inserted es p x in subst (λ xs. IsFull (e ∷ xs)) (sym is) (two e y rest)

  pub full_set : (es : List Ref) (p : ℕ) (x : Ref) → IsFull es → IsSingleAt es p → IsFull (set es p x)
  full_set [] p x f s = absurd (omega (arith, f.0))
  full_set (e ∷ []) zero x f (k, v, is) = absurd (not_both e k v is (f.1 e refl))
  full_set (e ∷ []) (suc p) x f s = f
  full_set (e ∷ d ∷ es) zero x f s = two x d es
  full_set (e ∷ d ∷ es) (suc zero) x f s = two e x es
  full_set (e ∷ d ∷ es) (suc (suc p)) x f s = two e d (set es p x)

  none_removed : (p : ℕ) → remove {X = Ref} [] p ≡ []
  none_removed zero = refl
  none_removed (suc p) = refl

  pub full_removed : (es : List Ref) (p : ℕ) → IsFull es → IsSingleAt es p → (length es ≡ 2 → is_indirection (node (get_or es (1 - p) no_ref)) ≡ true) → IsFull (remove es p)
  full_removed [] p f s other = absurd (omega (arith, f.0))
  full_removed (e ∷ []) zero f (k, v, is) other = absurd (not_both e k v is (f.1 e refl))
  full_removed (e ∷ []) (suc p) f s other = subst (λ xs. IsFull (e ∷ xs)) (sym (none_removed p)) f
  full_removed (e ∷ d ∷ []) zero f s other = alone d (other refl)
  full_removed (e ∷ d ∷ []) (suc zero) f s other = alone e (other refl)
  full_removed (e ∷ d ∷ []) (suc (suc p)) f s other = two e d (remove [] p)
  full_removed (e ∷ d ∷ c ∷ es) zero f s other = two d c es
  full_removed (e ∷ d ∷ c ∷ es) (suc zero) f s other = two e c es
  full_removed (e ∷ d ∷ c ∷ es) (suc (suc p)) f s other = two e d (remove (c ∷ es) p)

  pub full_pair : (a b : ℕ) (x y : Ref) → IsFull (take 32 (by_index a b x y))
  full_pair a b x y = cond_both (nat_lt a b) (x ∷ y ∷ []) (y ∷ x ∷ []) (λ es. IsFull (take 32 es)) (λ e. two x y []) (λ e. two y x [])

  -- other entries, as many, where indirections stay so
  pub full_kept : (es others : List Ref) → IsFull es → length others ≡ length es →
      ((n : ℕ) → n < length others → is_indirection (node (get_or es n no_ref)) ≡ true → is_indirection (node (get_or others n no_ref)) ≡ true) → IsFull others
  full_kept [] others f same keeps = absurd (omega (arith, f.0))
  full_kept (e ∷ es) [] f same keeps = absurd (omega (arith, same))
  full_kept (e ∷ []) (x ∷ []) f same keeps = alone x (keeps 0 (omega arith) (f.1 e refl))
  full_kept (e ∷ d ∷ es) (x ∷ []) f same keeps = absurd (omega (arith, same))
  full_kept (e ∷ es) (x ∷ y ∷ others) f same keeps = two x y others
