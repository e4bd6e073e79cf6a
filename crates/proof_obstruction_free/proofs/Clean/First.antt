-- The first lines of CLEAN, where one actor alone takes steps: the current indirection is read, and its main node looked at.
use Rattle.std.proofs.Common.{◌≡◌, ℕ, suc, ◌<◌, ◌⊎◌, inl, inr, true, List, [], Option, refl, sym, ap, subst, ◌∙◌}
use Rattle.proof_obstruction_free.specs.Vocabulary.{Ref, Node, Indirection, Branch, Single, Tomb, List as Listed, node_at, entries_of, Line, Operation, ReadLine, clean_after_read, clean_after_main}
use Rattle.proof_obstruction_free.specs.Vocabulary.{new_try, is_branch}
use Rattle.proof_obstruction_free.specs.Beneath.machine_model.specs.declared.lines.Line.TheVariants as line
use Rattle.proof_obstruction_free.specs.Beneath.machine_model.specs.declared.repairs.CleanLine.TheVariants as clean
use Rattle.proof_obstruction_free.specs.Alone.{Lone, Stands, Within, IsWeight, node}
use Rattle.proof_obstruction_free.specs.Machines.{HoldsRead}
use Rattle.proof_obstruction_free.specs.Stepping.{Stepping}
use Rattle.proof_obstruction_free.proofs.Read.Embedded.{holds_read}
use Rattle.proof_obstruction_free.proofs.Renew.Nodes.{main_seen}
use Rattle.proof_obstruction_free.proofs.Renew.Calm.{Calm, calm_step, step_on}
use Rattle.proof_obstruction_free.proofs.Clean.Lines.{clean_line}
use Rattle.proof_obstruction_free.proofs.Step.Within.{here, one}
use Rattle.proof_obstruction_free.specs.Beneath.proof_memory.proofs.Claims.Named.{main_claim}

-- the READ, and the line after it
abbrev pub current_read : List Ref → Ref → ReadLine → Line
current_read path i l = line.Clean (clean.Read path (record { indirection = i; line = l }))

abbrev pub current_main : List Ref → Ref → Line
current_main path m = line.Clean (clean.Main path m)

pub current_reads : (own : Operation) (path : List Ref) (i : Ref) → HoldsRead own (current_read path i) (current_main path) i
current_reads own path i =
    holds_read own (λ r. line.Clean (clean.Read path r)) (current_main path) (clean_after_read path) i (λ r. refl) (λ state operation r. refl) (λ state operation r. refl) (λ r. refl) (λ m. refl)
    (λ state operation r. refl)

module _ (a : Lone) (steps : Stepping a) (g : Option ℕ) (path : List Ref) (main : Ref) where
  -- a branch is cleaned, and nothing else
  pub record Begins (u : ℕ) : Type 0 where
    pub branch : is_branch (node a main) ≡ true
    pub stands : Stands a u g (clean_line (entries_of (node a main)) path main [])

  pub record Begun (t u : ℕ) : Type 0 where
    pub calm : Calm a t u
    pub so : Begins u ⊎ ((is_branch (node a main) ≡ true → ⊥) × Stands a u g new_try)

  module _ (t : ℕ) (s : Stands a t g (current_main path main)) (more : t < a.last) where
    next : Stands a (suc t) g (clean_after_main (a.states t) path main (node_at (a.states t).heap main))
    next = step_on a steps t g (current_main path main) s more tt refl

    found : node_at (a.states t).heap main ≡ node a main
    found = main_seen a steps t s.until main (main_claim (steps.wants t g (current_main path main) s))

    -- of another node it isn't one
    other : (n : Node) → node_at (a.states t).heap main ≡ n → (is_branch n ≡ true → ⊥) → is_branch (node a main) ≡ true → ⊥
    other n e wrong is = wrong (ap is_branch (sym e ∙ found) ∙ is)

    by_node : (n : Node) → node_at (a.states t).heap main ≡ n → Stands a (suc t) g (clean_after_main (a.states t) path main n) →
        Begins (suc t) ⊎ ((is_branch (node a main) ≡ true → ⊥) × Stands a (suc t) g new_try)
    by_node (Branch b es) e stands = inl (record {
      branch = ap is_branch (sym found ∙ e);
      stands = subst (Stands a (suc t) g) (ap (λ n. clean_line (entries_of n) path main []) found) stands;
    })
    by_node (Indirection h word) e stands = inr (other (Indirection h word) e (λ bad. cc), stands)
    by_node (Single k v) e stands = inr (other (Single k v) e (λ bad. cc), stands)
    by_node (Tomb x) e stands = inr (other (Tomb x) e (λ bad. cc), stands)
    by_node (Listed ss) e stands = inr (other (Listed ss) e (λ bad. cc), stands)

    pub begun : Begun t (suc t)
    begun = record { calm = calm_step a steps t g (current_main path main) s more tt tt tt; so = by_node (node_at (a.states t).heap main) refl next }

  pub begun_within : (weight : ℕ → ℕ) → IsWeight a weight → (t : ℕ) → Stands a t g (current_main path main) → Within a weight (Begun t) 1 t
  begun_within weight heavy t s = one a weight heavy (Begun t) 0 t g (current_main path main) s tt (λ more. here a weight (Begun t) (suc t) (begun t s more))
