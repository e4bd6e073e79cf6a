-- What stays of a path that is linked, and how it grows.
use Rattle.std.proofs.Common.{◌≡◌, ℕ, suc, ◌<◌, ◌≤◌, ◌⊎◌, inl, inr, List, [], ◌∷◌, ◌++◌, length, get_or, sym, ap, subst, ◌∙◌, arith}
use Rattle.std.proofs.Math.Seq.{get_or-append_seam}
use Rattle.std.proofs.lemmas.Bool.{cases_lt}
use Rattle.std.proofs.lemmas.List.{get_or_append_left, length-append}
use Rattle.proof_obstruction_free.specs.Vocabulary.{Ref, no_ref, current, depth_of}
use Rattle.proof_obstruction_free.specs.Alone.{Has, Keeps, KeepsBut, Lone}
use Rattle.proof_obstruction_free.specs.Keys.{IsOf, Leads}
use Rattle.proof_obstruction_free.specs.Inherited.{IsLinked}

module _ (a : Lone) where
  -- from its j-th indirection on
  abbrev pub Linked : ℕ → ℕ → ℕ → List Ref → Type 0
  Linked j t g path = (k : ℕ) → j ≤ k → suc k < length path → IsLinked a t g k path

  pub linked_but : (t u g k : ℕ) (path : List Ref) (but : Ref) → KeepsBut a t u but → (get_or path k no_ref ≡ but → ⊥) → IsLinked a t g k path → IsLinked a u g k path
  linked_but t u g k path but keeps apart x = record { main = x.main; has = keeps (get_or path k no_ref) x.main apart x.has; leads = x.leads; own = x.own }

  pub linked_all : (t u g j : ℕ) (path : List Ref) → Keeps a t u → Linked j t g path → Linked j u g path
  linked_all t u g j path keeps x k le lt =
      let y = x k le lt in
      record { main = y.main; has = keeps (get_or path k no_ref) y.main y.has; leads = y.leads; own = y.own }

  -- but for the last one's main node
  pub linked_kept : (t u g j : ℕ) (path : List Ref) → ((k : ℕ) → suc k < length path → get_or path k no_ref ≡ current path → ⊥) → KeepsBut a t u (current path) → Linked j t g path → Linked j u g path
  linked_kept t u g j path apart keeps x k le lt = linked_but t u g k path (current path) keeps (apart k lt) (x k le lt)

  pub linked_longer : (t g j : ℕ) (path : List Ref) (main below : Ref) → 1 ≤ length path → Linked j t g path → Has a t (current path) main → Leads a (depth_of path) main below → IsOf a below g →
      Linked j t g (path ++ below ∷ [])
  linked_longer t g j path main below some x has leads own k le lt = by (cases_lt (suc k) (length path))
    where
      old : (n : ℕ) → n < length path → get_or (path ++ below ∷ []) n no_ref ≡ get_or path n no_ref
      old n low = get_or_append_left path (below ∷ []) no_ref n low

      next : suc k ≡ length path → get_or (path ++ below ∷ []) (suc k) no_ref ≡ below
      next at = ap (λ n. get_or (path ++ below ∷ []) n no_ref) at ∙ get_or-append_seam path below [] no_ref

      last : suc k ≡ length path → IsLinked a t g k (path ++ below ∷ [])
      last at =
          let depth : depth_of path ≡ k = omega (arith, at) in
          let here : get_or (path ++ below ∷ []) k no_ref ≡ current path = old k (omega (arith, at)) ∙ ap (λ n. get_or path n no_ref) (sym depth) in
          record {
            main = main;
            has = subst (λ i. Has a t i main) (sym here) has;
            leads = subst (λ i. Leads a k main i) (sym (next at)) (subst (λ d. Leads a d main below) depth leads);
            own = subst (λ i. IsOf a i g) (sym (next at)) own;
          }

      by : (suc k < length path) ⊎ (length path ≤ suc k) → IsLinked a t g k (path ++ below ∷ [])
      by (inl low) =
          let y = x k le low in
          record {
            main = y.main;
            has = subst (λ i. Has a t i y.main) (sym (old k (omega (arith, low)))) y.has;
            leads = subst (λ i. Leads a k y.main i) (sym (old (suc k) low)) y.leads;
            own = subst (λ i. IsOf a i g) (sym (old (suc k) low)) y.own;
          }
      by (inr high) = let len = length-append path (below ∷ []) in last (omega (arith, high, lt, len))
