-- From where the key's path ends the operation ends: each CLEAN of a tomb makes the path one shorter.
use Rattle.std.proofs.Common.{◌≡◌, ℕ, suc, cond, ◌-◌, ◌<◌, ◌≤◌, ◌⊎◌, inl, inr, List, length, get_or, Option, refl, sym, ap, subst, ◌∙◌, ltb, arith}
use Rattle.std.proofs.lemmas.Bool.{cases_lt, le-ltb, lt-ltb}
use Rattle.std.proofs.lemmas.List.{get_or-take, length-take-le}
use Rattle.proof_obstruction_free.specs.Vocabulary.{Writable, Ref, Node, Indirection, Branch, Single, Tomb, List as Listed, no_ref, after_tomb, key_after_main, impossible, line_after, above}
use Rattle.proof_obstruction_free.specs.Vocabulary.{current, depth_of, reading}
use Rattle.proof_obstruction_free.specs.Beneath.machine_model.specs.declared.finding.KeyLine.TheVariants as key
use Rattle.proof_obstruction_free.specs.Beneath.machine_model.specs.declared.lines.Line.TheVariants as line
use Rattle.proof_obstruction_free.specs.Beneath.machine_model.specs.declared.repairs.CleanLine.TheVariants as clean
use Rattle.proof_obstruction_free.specs.Alone.{Has, Lone, Stands, node}
use Rattle.proof_obstruction_free.specs.Keys.{Chain, IsNoTomb, IsOf, Leads}
use Rattle.proof_obstruction_free.specs.Stepping.{Stepping}
use Rattle.proof_obstruction_free.proofs.Pass.Sees.{main_seen}
use Rattle.proof_obstruction_free.proofs.Ends.StandsAt.{stands_as, never}

-- a tomb, or none
pub tomb_or_none : (a : Lone) (n : Node) → ((single : Ref) × (n ≡ Tomb single)) ⊎ IsNoTomb a n
tomb_or_none a (Tomb single) = inl (single, refl)
tomb_or_none a (Indirection g m) = inr tt
tomb_or_none a (Branch b es) = inr tt
tomb_or_none a (Single k v) = inr tt
tomb_or_none a (Listed singles) = inr tt

-- ---- the path above

module _ (path : List Ref) (two : 2 ≤ length path) where
  pub above_length : length (above path) ≡ length path - 1
  above_length = length-take-le (length path - 1) path (omega arith)

  pub above_at : (k : ℕ) → k < length path - 1 → get_or (above path) k no_ref ≡ get_or path k no_ref
  above_at k lt = get_or-take (length path - 1) path k no_ref lt

  pub above_depth : depth_of (above path) ≡ length path - 2
  above_depth = let len = above_length in omega (arith, len)

  pub above_current : current (above path) ≡ get_or path (length path - 2) no_ref
  above_current = ap (λ n. get_or (above path) n no_ref) above_depth ∙ above_at (length path - 2) (omega (arith, two))

module _ (a : Lone) where
  pub chain_above : (t : ℕ) (r : Ref) (g : ℕ) (path : List Ref) → 2 ≤ length path → Chain a t r g path → Chain a t r g (above path)
  chain_above t r g path two x = record {
    long = let len = above_length path two in omega (arith, len, two);
    first = above_at path two 0 (omega (arith, two)) ∙ x.first;
    own = λ k lt. let len = above_length path two in let low : k < length path - 1 = omega (arith, len, lt) in
        subst (λ i. IsOf a i g) (sym (above_at path two k low)) (x.own k (omega (arith, low)));
    links = λ k lt. let len = above_length path two in let low : suc k < length path - 1 = omega (arith, len, lt) in
        let (m, has, leads) = x.links k (omega (arith, low)) in
        (m, subst (λ i. Has a t i m) (sym (above_at path two k (omega (arith, low)))) has, subst (λ j. Leads a k m j) (sym (above_at path two (suc k) low)) leads);
  }

  -- the last link
  pub record LastLink (t g : ℕ) (path : List Ref) : Type 0 where
    pub main : Ref
    pub has : Has a t (current (above path)) main
    pub leads : Leads a (depth_of (above path)) main (current path)
    pub own : IsOf a (current path) g

  pub last_link : (t : ℕ) (r : Ref) (g : ℕ) (path : List Ref) → 2 ≤ length path → Chain a t r g path → LastLink t g path
  last_link t r g path two x =
      let k = length path - 2 in
      let (m, has, leads) = x.links k (omega (arith, two)) in
      let last : suc k ≡ length path - 1 = omega (arith, two) in
      record {
        main = m;
        has = subst (λ i. Has a t i m) (sym (above_current path two)) has;
        leads = subst (λ d. Leads a d m (current path)) (sym (above_depth path two)) (subst (λ n. Leads a k m (get_or path n no_ref)) last leads);
        own = x.own (length path - 1) (omega (arith, two));
      }

  module _ (steps : Stepping a) (writes : a.own.access ≡ Writable) where
    -- after a tomb
    pub tomb_next : (t : ℕ) (g : Option ℕ) (path : List Ref) (main single : Ref) (s : Stands a t g (line.Key (key.Main path main))) → t < a.last → node a main ≡ Tomb single →
        Stands a (suc t) g (cond (ltb 1 (length path)) (line.Clean (clean.Read (above path) (reading (current (above path))))) impossible)
    tomb_next t g path main single s more is =
        stands_as a (suc t) s.operation.generation g (line_after (a.states t) s.operation (line.Key (key.Main path main))) _ s.generation
        (ap (key_after_main (a.states t) s.operation path main) (main_seen a steps t g path main s ∙ is) ∙ ap (λ x. after_tomb x path main) (s.access ∙ writes))
        (steps.next t g (line.Key (key.Main path main)) s more tt)

    -- it never stands at a root
    pub tomb_below : (t : ℕ) (g : Option ℕ) (path : List Ref) (main single : Ref) (s : Stands a t g (line.Key (key.Main path main))) → t < a.last → node a main ≡ Tomb single →
        (2 ≤ length path) × Stands a (suc t) g (line.Clean (clean.Read (above path) (reading (current (above path)))))
    tomb_below t g path main single s more is = by (cases_lt 1 (length path))
      where
        by : (1 < length path) ⊎ (length path ≤ 1) → (2 ≤ length path) × Stands a (suc t) g (line.Clean (clean.Read (above path) (reading (current (above path)))))
        by (inl low) = (
          low,
          stands_as a (suc t) g g _ _ refl
              (ap (λ b. cond b (line.Clean (clean.Read (above path) (reading (current (above path))))) impossible) (lt-ltb 1 (length path) low)) (tomb_next t g path main single s more is),
        )
        by (inr high) =
            absurd (never a (suc t) g
            (stands_as a (suc t) g g _ impossible refl
            (ap (λ b. cond b (line.Clean (clean.Read (above path) (reading (current (above path))))) impossible) (le-ltb 1 (length path) high)) (tomb_next t g path main single s more is)))
