-- From a new try of a call on one key the operation ends.
use Rattle.std.proofs.Common.{◌≡◌, ℕ, ◌+◌, ◌*◌, ◌≤◌, true, false, List, [], ◌∷◌, length, Option, Some, refl, sym, ap, subst, ◌∙◌}
use Rattle.std.proofs.lemmas.Bool.{false≢true}
use Rattle.proof_obstruction_free.specs.Vocabulary.{Ref, Node, Indirection, Branch, Single, Tomb, List as Listed, generation_of, node_at, new_try, reading, IsInUse, Holds, Is, AnIndirection}
use Rattle.proof_obstruction_free.specs.Beneath.machine_model.specs.declared.finding.KeyLine.TheVariants as key
use Rattle.proof_obstruction_free.specs.Beneath.machine_model.specs.declared.lines.Line.TheVariants as line
use Rattle.proof_obstruction_free.specs.Beneath.proof_memory.specs.Wants.{is_indirection}
use Rattle.proof_obstruction_free.specs.Beneath.proof_memory.proofs.Claims.Uses.{meets_of, safe_of}
use Rattle.proof_obstruction_free.specs.Alone.{IsCurrent, Lone, Stands, Within, generation}
use Rattle.proof_obstruction_free.specs.Bounds.{fresh_most, rooted_most, tombs_most}
use Rattle.proof_obstruction_free.specs.Keys.{IsBottom, IsOf, IsOnKey, PassEnds}
use Rattle.proof_obstruction_free.specs.Machines.{IsRooted, Machines}
use Rattle.proof_obstruction_free.specs.Stepping.{Stepping}
use Rattle.proof_obstruction_free.proofs.Climb.On.{short_way}
use Rattle.proof_obstruction_free.proofs.Pass.Along.{key_begins}
use Rattle.proof_obstruction_free.proofs.Pass.Chains.{AtEnd, chain_root}
use Rattle.proof_obstruction_free.proofs.Step.Within.{bind}

module _ (a : Lone) (steps : Stepping a) where
  -- the root that is read is an indirection of its generation
  pub root_link : (t : ℕ) (g : Option ℕ) (r : Ref) → Stands a t g (line.Key (key.Read (r ∷ []) (reading r))) → IsOf a r (generation a r)
  root_link t g r s = by (node_at (a.states t).heap r) refl
    where
      claim : Holds (IsInUse (a.states t).heap) (a.states t).heap (Is r AnIndirection)
      claim = let reads = (steps.wants t g (line.Key (key.Read (r ∷ []) (reading r))) s).1.1 in reads.0

      link : is_indirection (node_at (a.states t).heap r) ≡ true
      link = meets_of claim

      none : (n : Node) → node_at (a.states t).heap r ≡ n → is_indirection n ≡ false → IsOf a r (generation a r)
      none n e kind = absurd (false≢true (sym kind ∙ ap is_indirection (sym e) ∙ link))

      by : (n : Node) → node_at (a.states t).heap r ≡ n → IsOf a r (generation a r)
      by (Indirection h w) e =
          let (m, is) = steps.link_found t r h w s.until (safe_of claim) e in
          (m, is ∙ ap (λ k. Indirection k m) (sym (ap generation_of is)))
      by (Branch b es) e = none (Branch b es) e refl
      by (Single k v) e = none (Single k v) e refl
      by (Tomb single) e = none (Tomb single) e refl
      by (Listed singles) e = none (Listed singles) e refl

module _ (a : Lone) (weight : ℕ → ℕ) (c : ℕ) (steps : Stepping a) (machines : Machines a weight c) (on : IsOnKey a.own.call) (passes : PassEnds a weight c)
    (tombs : (path : List Ref) (r main : Ref) (t g : ℕ) → length path ≤ 13 + 1 → AtEnd a r g path main t → Within a weight (λ u. ⊥) (tombs_most c 13) t) where
  abbrev W : (ℕ → Type 0) → ℕ → ℕ → Type 0
  W = Within a weight

  abbrev Never : ℕ → Type 0
  Never u = ⊥

  -- once ROOT gave the root
  pub rooted_ends : (t u : ℕ) → IsRooted a weight c t u → W Never (rooted_most c) u
  rooted_ends t u rooted =
      bind a weight (λ v. (to : List Ref) × IsBottom a weight c rooted.root (generation a rooted.root) to v) Never (14 * (34 * (c + 2) + 10)) (tombs_most c 13) u
      (passes (rooted.root ∷ []) rooted.root u (generation a rooted.root) now current_root
      (chain_root a u rooted.root (generation a rooted.root) (root_link a steps u (Some (generation a rooted.root)) rooted.root now)))
      (λ v after in_time (to, b).
      tombs to rooted.root b.main v (generation a rooted.root) (short_way a v (Some (generation a rooted.root)) (line.Key (key.Main to b.main)) b.stands)
      (record { stands = b.stands; current_root = b.current_root; ended = b.ended }))
    where
      now : Stands a u (Some (generation a rooted.root)) (line.Key (key.Read (rooted.root ∷ []) (reading rooted.root)))
      now = subst (Stands a u (Some (generation a rooted.root))) (key_begins a.own.call on rooted.root) rooted.stands

      current_root : IsCurrent a u rooted.root (Some (generation a rooted.root))
      current_root = record { plain = rooted.plain; own = refl }

  -- from its first line
  pub fresh_ends : (t : ℕ) (g : Option ℕ) → Stands a t g new_try → W Never (fresh_most c) t
  fresh_ends t g s = bind a weight (IsRooted a weight c t) Never (c + 3) (rooted_most c) t (machines.roots_first t g s) (λ u after in_time rooted. rooted_ends t u rooted)
