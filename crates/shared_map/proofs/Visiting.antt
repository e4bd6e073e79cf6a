-- Shards visited one after another, up to one of them.
use Rattle.std.proofs.Common.{◌≡◌, ℕ, zero, suc, ◌+◌, List, [], ◌∷◌, ◌++◌, length}
use Rattle.std.proofs.Common.{take, drop, Some, slice_get, slice_set, refl, sym, ap, subst, ◌∙◌, arith}
use Rattle.std.proofs.lemmas.Option.{same_Some}
use Rattle.sharded_gate.specs.Visiting.{HasVisited}
use Rattle.shared_map.specs.Visits.{VisitedEach}

module _ {V O : Type 0} (does : V → O → V → O → Type 0) where
  -- those before this place have been seen, and the others are as they were
  pub record HaveVisited (place : ℕ) (before : V) (start : List O) (after : V) (now : List O) : Type 0 where
    pub front : List O
    pub are : now ≡ front ++ drop place start
    pub long : length front ≡ place
    pub visited : VisitedEach does before (take place start) after front

  -- one more
  more_visited : (before between after : V) (ss ts : List O) (s t : O) → VisitedEach does before ss between ts → does between s after t →
      VisitedEach does before (ss ++ s ∷ []) after (ts ++ t ∷ [])
  more_visited before between after [] [] s t each did = (after, subst (λ v. does v s after t) each did, refl)
  more_visited before between after [] (y ∷ ts) s t each did = absurd each
  more_visited before between after (x ∷ ss) [] s t each did = absurd each
  more_visited before between after (x ∷ ss) (y ∷ ts) s t each did = (each.0, each.1, more_visited each.0 between after ss ts s t each.2 did)

  set_behind : (front rest : List O) (t : O) → slice_set (front ++ rest) (length front) t ≡ front ++ slice_set rest 0 t
  set_behind [] rest t = refl
  set_behind (x ∷ front) rest t = ap (λ ys. x ∷ ys) (set_behind front rest t)

  get_behind : (front rest : List O) → slice_get (front ++ rest) (length front) ≡ slice_get rest 0
  get_behind [] rest = refl
  get_behind (x ∷ front) rest = get_behind front rest

  append_cons : (front rest : List O) (t : O) → front ++ t ∷ rest ≡ (front ++ t ∷ []) ++ rest
  append_cons [] rest t = refl
  append_cons (x ∷ front) rest t = ap (λ ys. x ∷ ys) (append_cons front rest t)

  length_more : (front : List O) (t : O) → length (front ++ t ∷ []) ≡ suc (length front)
  length_more [] t = refl
  length_more (x ∷ front) t = ap suc (length_more front t)

  -- the place's element is the first of the rest
  split_at : (place : ℕ) (start : List O) (s : O) → slice_get (drop place start) 0 ≡ Some s →
      (drop place start ≡ s ∷ drop (suc place) start) × (take (suc place) start ≡ take place start ++ s ∷ [])
  split_at zero [] s at = cc
  split_at zero (x ∷ start) s at = (ap (λ y. y ∷ start) (same_Some x s at), ap (λ y. y ∷ []) (same_Some x s at))
  split_at (suc place) [] s at = cc
  split_at (suc place) (x ∷ start) s at = let (d, t) = split_at place start s at in (d, ap (λ ys. x ∷ ys) t)

  pub visited_more : (place next : ℕ) (before between after : V) (start middle last : List O) → next ≡ place + 1 → HaveVisited place before start between middle →
      HasVisited does place between after middle last → HaveVisited next before start after last
  visited_more place next before between after start middle last is have (s, t, at, did, set) =
      let long = have.long in
      let rest_at : slice_get (drop place start) 0 ≡ Some s =
      sym (get_behind have.front (drop place start)) ∙ ap (slice_get (have.front ++ drop place start)) long ∙ ap (λ xs. slice_get xs place) (sym have.are) ∙ at in
      let (dropped, taken) = split_at place start s rest_at in
      let same : next ≡ suc place = omega (arith, is) in
      subst (λ n. HaveVisited n before start after last) (sym same) (record {
        front = have.front ++ t ∷ [];
        are = set ∙ ap (λ xs. slice_set xs place t) have.are ∙ ap (λ n. slice_set (have.front ++ drop place start) n t) (sym long)
            ∙ set_behind have.front (drop place start) t ∙ ap (λ xs. have.front ++ slice_set xs 0 t) dropped ∙ append_cons have.front (drop (suc place) start) t;
        long = length_more have.front t ∙ ap suc long;
        visited = subst (λ xs. VisitedEach does before xs after (have.front ++ t ∷ [])) (sym taken)
            (more_visited before between after (take place start) have.front s t have.visited did);
      })

  all_of : (start : List O) → (take (length start) start ≡ start) × (drop (length start) start ≡ [])
  all_of [] = (refl, refl)
  all_of (x ∷ start) = let (t, d) = all_of start in (ap (λ ys. x ∷ ys) t, d)
