-- BUILD comes to the SWAP of the changed main node: the new single, then the pair and the chain of indirections and branches of one entry up from it, then
-- the main node.
use Rattle.std.proofs.Common.{◌≡◌, ℕ, zero, suc, ◌+◌, ◌-◌, ◌*◌, ◌==◌, ◌≤◌, Bool, true, false, List, Option, None, if◌then◌else◌, refl, arith}
use Rattle.std.proofs.lemmas.Bool.{eqb-false}
use Rattle.proof_obstruction_free.specs.Vocabulary.{Ref, BuildLine, Change, Site, after_single, pair_depth, old_hash, depth_of, hash_in, build_path, main_of_build}
use Rattle.proof_obstruction_free.specs.Beneath.machine_model.specs.declared.building.BuildLine.TheVariants as build
use Rattle.proof_obstruction_free.specs.Beneath.machine_model.specs.declared.building.Change.TheVariants as change
use Rattle.proof_obstruction_free.specs.Beneath.machine_model.specs.declared.building.Site.TheVariants as site
use Rattle.proof_obstruction_free.specs.Beneath.machine_model.specs.declared.lines.Line.TheVariants as line
use Rattle.proof_obstruction_free.specs.Alone.{Lone, Stands, Keeps, WordStays, Within, IsWeight}
use Rattle.proof_obstruction_free.specs.Keys.{IsBuilt, BuildsOn}
use Rattle.proof_obstruction_free.specs.Stepping.{Stepping}
use Rattle.proof_obstruction_free.proofs.Step.Within.{weaken, map, here, keeps_on, stays_on}
use Rattle.proof_obstruction_free.proofs.Build.Steps.{make_on, rung_low}

module _ (a : Lone) (weight : ℕ → ℕ) (c : ℕ) (heavy : IsWeight a weight) (steps : Stepping a) where
  abbrev W : (ℕ → Type 0) → ℕ → ℕ → Type 0
  W = Within a weight

  -- built from a step later
  from_next : (n t : ℕ) (g : Option ℕ) (path : List Ref) (main : Ref) → Keeps a t (suc t) → WordStays a t (suc t) →
      W (IsBuilt a weight c (suc t) g path main) n (suc t) → W (IsBuilt a weight c t g path main) n (suc t)
  from_next n t g path main keeps word =
      map a weight (IsBuilt a weight c (suc t) g path main) (IsBuilt a weight c t g path main) n (suc t)
      (λ u later within b. record { fresh = b.fresh; former = b.former; stands = b.stands; keeps = keeps_on a t (suc t) u keeps b.keeps; word = stays_on a t (suc t) u word b.word })

  -- the new main node
  main_builds : (path : List Ref) (main : Ref) (x : Change) (former : Option ℕ) (t : ℕ) (g : Option ℕ) → Stands a t g (line.Build (build.Main path main x former)) →
      W (IsBuilt a weight c t g path main) 2 t
  main_builds path main x former t g s =
      make_on a weight heavy steps (IsBuilt a weight c t g path main) 1 t g (build.Main path main x former) s (omega arith)
      (λ made next keeps word. weaken a weight (IsBuilt a weight c t g path main) 0 1 (suc t) (omega arith)
      (here a weight (IsBuilt a weight c t g path main) (suc t) (record { fresh = made; former = former; stands = next; keeps = keeps; word = word })))

  -- an indirection: the topmost goes into the main node, any other into a branch
  link_on :
      (n : ℕ) (path : List Ref) (main : Ref) (position : ℕ) (below : Ref) (depth t : ℕ) (g : Option ℕ) → 2 ≤ n → Stands a t g (line.Build (build.Link path main position below depth)) →
      ((made : Ref) → (depth ≡ depth_of path + 1 → ⊥) → Stands a (suc t) g (line.Build (build.Rung path main position made (depth - 1))) → W (IsBuilt a weight c (suc t) g path main) n (suc t)) →
      W (IsBuilt a weight c t g path main) (n + 1) t
  link_on n path main position below depth t g some s follows =
      make_on a weight heavy steps (IsBuilt a weight c t g path main) n t g (build.Link path main position below depth) s (omega (arith, some))
      (λ made next keeps word. from_next n t g path main keeps word (by_test made (depth == depth_of path + 1) refl next))
    where
      by_test : (made : Ref) (b : Bool) → (depth == depth_of path + 1) ≡ b →
          Stands a (suc t) g (if b then line.Build (build.Main path main (change.Update position made) None) else line.Build (build.Rung path main position made (depth - 1))) →
          W (IsBuilt a weight c (suc t) g path main) n (suc t)
      by_test made true top next =
          weaken a weight (IsBuilt a weight c (suc t) g path main) 2 n (suc t) some (main_builds path main (change.Update position made) None (suc t) g next)
      by_test made false top next = follows made (eqb-false depth (depth_of path + 1) top) next

  -- a branch of one entry, and an indirection over it
  rung_on :
      (n : ℕ) (path : List Ref) (main : Ref) (position : ℕ) (below : Ref) (depth t : ℕ) (g : Option ℕ) → 1 ≤ n → Stands a t g (line.Build (build.Rung path main position below depth)) →
      ((made : Ref) → Stands a (suc t) g (line.Build (build.Link path main position made depth)) → W (IsBuilt a weight c (suc t) g path main) n (suc t)) →
      W (IsBuilt a weight c t g path main) (n + 1) t
  rung_on n path main position below depth t g some s follows =
      make_on a weight heavy steps (IsBuilt a weight c t g path main) n t g (build.Rung path main position below depth) s some
      (λ made next keeps word. from_next n t g path main keeps word (follows made next))

  -- all that are left from an indirection so many levels below the branch's entries
  links_build : (k : ℕ) (path : List Ref) (main : Ref) (position : ℕ) (below : Ref) (depth t : ℕ) (g : Option ℕ) → depth ≡ depth_of path + 1 + k →
      Stands a t g (line.Build (build.Link path main position below depth)) → W (IsBuilt a weight c t g path main) (3 + 2 * k) t
  links_build zero path main position below depth t g deep s =
      link_on 2 path main position below depth t g (omega arith) s (λ made other next. absurd (other (omega (arith, deep))))
  links_build (suc k) path main position below depth t g deep s =
      weaken a weight (IsBuilt a weight c t g path main) (3 + 2 * k + 1 + 1) (3 + 2 * suc k) t (omega arith)
      (link_on (3 + 2 * k + 1) path main position below depth t g (omega arith) s (λ made other next.
      rung_on (3 + 2 * k) path main position made (depth - 1) (suc t) g (omega arith) next (λ higher follows.
      links_build k path main position higher (depth - 1) (suc (suc t)) g (omega (arith, deep)) follows)))

  -- a branch of one entry
  rung_builds : (path : List Ref) (main : Ref) (position : ℕ) (below : Ref) (depth t : ℕ) (g : Option ℕ) → Stands a t g (line.Build (build.Rung path main position below depth)) →
      W (IsBuilt a weight c t g path main) 26 t
  rung_builds path main position below depth t g s =
      let low = rung_low a weight heavy steps path main position below depth t g s in
      rung_on 25 path main position below depth t g (omega arith) s (λ made next.
      weaken a weight (IsBuilt a weight c (suc t) g path main) (3 + 2 * (depth - (depth_of path + 1))) 25 (suc t) (omega (arith, low.0, low.1))
      (links_build (depth - (depth_of path + 1)) path main position made depth (suc t) g (omega (arith, low.0)) next))

  link_builds : (path : List Ref) (main : Ref) (position : ℕ) (below : Ref) (depth t : ℕ) (g : Option ℕ) → Stands a t g (line.Build (build.Link path main position below depth)) →
      W (IsBuilt a weight c t g path main) 27 t
  link_builds path main position below depth t g s =
      link_on 26 path main position below depth t g (omega arith) s (λ made other next. rung_builds path main position made (depth - 1) (suc t) g next)

  pair_builds : (path : List Ref) (main : Ref) (position : ℕ) (single : Ref) (depth t : ℕ) (g : Option ℕ) → Stands a t g (line.Build (build.Pair path main position single depth)) →
      W (IsBuilt a weight c t g path main) 28 t
  pair_builds path main position single depth t g s =
      make_on a weight heavy steps (IsBuilt a weight c t g path main) 27 t g (build.Pair path main position single depth) s (omega arith)
      (λ made next keeps word. from_next 27 t g path main keeps word (link_builds path main position made depth (suc t) g next))

  single_builds : (path : List Ref) (main : Ref) (x : Site) (former : Option ℕ) (t : ℕ) (g : Option ℕ) → Stands a t g (line.Build (build.Single path main x former)) →
      W (IsBuilt a weight c t g path main) 29 t
  single_builds path main x former t g s =
      make_on a weight heavy steps (IsBuilt a weight c t g path main) 28 t g (build.Single path main x former) s (omega arith)
      (λ made next keeps word. from_next 28 t g path main keeps word (by_site made x next))
    where
      by_site : (made : Ref) (x : Site) → Stands a (suc t) g (after_single (a.states t) s.operation path main former x made) → W (IsBuilt a weight c (suc t) g path main) 28 (suc t)
      by_site made site.Absent next =
          weaken a weight (IsBuilt a weight c (suc t) g path main) 2 28 (suc t) (omega arith) (main_builds path main (change.Insert made) former (suc t) g next)
      by_site made (site.At position) next =
          weaken a weight (IsBuilt a weight c (suc t) g path main) 2 28 (suc t) (omega arith) (main_builds path main (change.Update position made) former (suc t) g next)
      by_site made (site.Beside position) next =
          pair_builds path main position made (pair_depth (a.states t) (old_hash (a.states t) main position) (hash_in (a.states t) s.operation) (depth_of path)) (suc t) g next

  pub builds_on : BuildsOn a weight c
  builds_on l t g s = by_line l s
    where
      by_line : (l : BuildLine) → Stands a t g (line.Build l) → W (IsBuilt a weight c t g (build_path l) (main_of_build l)) 30 t
      by_line (build.Single path main x former) s = weaken a weight (IsBuilt a weight c t g path main) 29 30 t (omega arith) (single_builds path main x former t g s)
      by_line (build.Pair path main position single depth) s = weaken a weight (IsBuilt a weight c t g path main) 28 30 t (omega arith) (pair_builds path main position single depth t g s)
      by_line (build.Link path main position below depth) s = weaken a weight (IsBuilt a weight c t g path main) 27 30 t (omega arith) (link_builds path main position below depth t g s)
      by_line (build.Rung path main position below depth) s = weaken a weight (IsBuilt a weight c t g path main) 26 30 t (omega arith) (rung_builds path main position below depth t g s)
      by_line (build.Main path main x former) s = weaken a weight (IsBuilt a weight c t g path main) 2 30 t (omega arith) (main_builds path main x former t g s)
