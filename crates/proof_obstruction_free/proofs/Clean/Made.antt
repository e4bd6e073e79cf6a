-- The new main node of CLEAN, where one actor alone takes steps: it is of the entries that are done.
use Rattle.std.proofs.Common.{◌≡◌, ℕ, suc, ◌<◌, ◌≤◌, ◌⊎◌, inl, inr, ◌&&◌, Bool, true, false, List, [], ◌∷◌, All, Option, Some, None, refl, sym, ap, ◌∙◌, arith}
use Rattle.std.proofs.lemmas.Bool.{false≢true}
use Rattle.std.proofs.lemmas.List.Elements.{All-head}
use Rattle.proof_obstruction_free.specs.Beneath.history.specs.declared.replies.Reply.TheVariants as reply
use Rattle.proof_obstruction_free.specs.Vocabulary.{Ref, Node, Indirection, Single, node_at, bitmap_of, next_ref, contracted, is_single, cleaned, clean_after_contracted, leaves_single as leaves_in}
use Rattle.proof_obstruction_free.specs.Vocabulary.{is_below_root, AnEntry, meets, IsInUse}
use Rattle.proof_obstruction_free.specs.Beneath.machine_model.specs.declared.lines.Line.TheVariants as line
use Rattle.proof_obstruction_free.specs.Beneath.machine_model.specs.declared.repairs.CleanLine.TheVariants as clean
use Rattle.proof_obstruction_free.specs.Beneath.proof_memory.specs.Wants.{is_indirection}
use Rattle.proof_obstruction_free.specs.Beneath.proof_memory.proofs.Claims.Uses.{Meets}
use Rattle.proof_obstruction_free.specs.Alone.{Lone, Stands, Within, IsWeight, node}
use Rattle.proof_obstruction_free.specs.Keys.{IsContracted, leaves_single}
use Rattle.proof_obstruction_free.specs.Stepping.{Stepping}
use Rattle.proof_obstruction_free.proofs.Renew.Nodes.{SeesAll, sees_all}
use Rattle.proof_obstruction_free.proofs.Renew.Calm.{Calm, calm_step, step_on}
use Rattle.proof_obstruction_free.proofs.Step.Within.{here, weaken, one, ended}

-- it is no indirection
contracted_plain : (may : Bool) (bitmap : ℕ) (done : List Ref) → is_indirection (contracted may bitmap done) ≡ false
contracted_plain true bitmap [] = refl
contracted_plain true bitmap (x ∷ []) = refl
contracted_plain true bitmap (x ∷ y ∷ more) = refl
contracted_plain false bitmap done = refl

module _ (a : Lone) (steps : Stepping a) where
  -- an entry in use is a single where it is one for ever
  single_same : (t : ℕ) → t ≤ a.last → (r : Ref) → Meets (IsInUse (a.states t).heap) (a.states t).heap AnEntry r → is_single (node_at (a.states t).heap r) ≡ is_single (node a r)
  single_same t within r (used, is) = by_node (node_at (a.states t).heap r) refl is
    where
      by_node : (n : Node) → node_at (a.states t).heap r ≡ n → meets AnEntry n ≡ true → is_single (node_at (a.states t).heap r) ≡ is_single (node a r)
      by_node (Indirection g m) e is = let (x, link) = steps.link_found t r g m within used e in ap is_single e ∙ sym (ap is_single link)
      by_node (Single k v) e is = ap is_single (steps.node_found t r within used (ap is_indirection e))
      by_node n e is = absurd (false≢true is)

  leaves_same : (t : ℕ) → t ≤ a.last → (done : List Ref) → All (Meets (IsInUse (a.states t).heap) (a.states t).heap AnEntry) done → leaves_in (a.states t) done ≡ leaves_single a done
  leaves_same t within [] all = refl
  leaves_same t within (x ∷ []) all = single_same t within x (All-head (Meets (IsInUse (a.states t).heap) (a.states t).heap AnEntry) x [] all)
  leaves_same t within (x ∷ y ∷ more) all = refl

  module _ (weight : ℕ → ℕ) (c : ℕ) (heavy : IsWeight a weight) (g : Option ℕ) (path : List Ref) (main : Ref) (done : List Ref) where
    -- CLEAN comes to its SWAP
    pub record Contracts (t u : ℕ) : Type 0 where
      pub so : IsContracted a weight c g path main done u
      pub calm : Calm a t u

    module _ (t : ℕ) (s : Stands a t g (line.Clean (clean.Contracted path main done))) (more : t < a.last) where
      found : SeesAll a steps t main done
      found = sees_all a steps t s.until path main done (steps.wants t g (line.Clean (clean.Contracted path main done)) s)

      calm : Calm a t (suc t)
      calm = calm_step a steps t g (line.Clean (clean.Contracted path main done)) s more tt tt tt

      next : Stands a (suc t) g (clean_after_contracted path main (next_ref (a.states t).heap))
      next = step_on a steps t g (line.Clean (clean.Contracted path main done)) s more tt refl

      node_made : (made : Ref) → next_ref (a.states t).heap ≡ Some made → node a made ≡ contracted (is_below_root path && leaves_single a done) (bitmap_of (node a main)) done
      node_made made e =
          steps.made t g (line.Clean (clean.Contracted path main done)) s more tt (cleaned (a.states t) path main done) made refl
          (contracted_plain (is_below_root path && leaves_in (a.states t) done) (bitmap_of (node_at (a.states t).heap main)) done) e
          ∙ ap (λ b. contracted (is_below_root path && b) (bitmap_of (node_at (a.states t).heap main)) done) (leaves_same t s.until done found.entries)
          ∙ ap (λ n. contracted (is_below_root path && leaves_single a done) (bitmap_of n) done) found.branch

      by_made : (o : Option Ref) → next_ref (a.states t).heap ≡ o → Stands a (suc t) g (clean_after_contracted path main o) → Contracts t (suc t) ⊎ Stands a (suc t) g (line.End reply.NoSlots)
      by_made None e stands = inr stands
      by_made (Some made) e stands = inl (record { so = record { fresh = made; stands = stands; branch = node_made made e }; calm = calm })

      -- its SWAP, or the end where no slot is free
      pub by_contracted : Contracts t (suc t) ⊎ Stands a (suc t) g (line.End reply.NoSlots)
      by_contracted = by_made (next_ref (a.states t).heap) refl next

      contracted_next : Within a weight (Contracts t) 1 (suc t)
      contracted_next = by by_contracted
        where
          by : Contracts t (suc t) ⊎ Stands a (suc t) g (line.End reply.NoSlots) → Within a weight (Contracts t) 1 (suc t)
          by (inl x) = weaken a weight (Contracts t) 0 1 (suc t) (omega arith) (here a weight (Contracts t) (suc t) x)
          by (inr stands) = ended a weight steps (Contracts t) (suc t) g reply.NoSlots stands

    pub contracted_within : (t : ℕ) → Stands a t g (line.Clean (clean.Contracted path main done)) → Within a weight (Contracts t) 2 t
    contracted_within t s = one a weight heavy (Contracts t) 1 t g (line.Clean (clean.Contracted path main done)) s tt (λ more. contracted_next t s more)
