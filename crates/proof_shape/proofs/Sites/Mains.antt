-- The laws of sites of main nodes, roots and paths.
use Rattle.std.proofs.Common.{◌≡◌, ℕ, suc, ◌+◌, ◌≤◌, Some, sym, ap, subst, ◌∙◌, arith}
use Rattle.proof_shape.specs.Vocabulary.{Ref, Indirection, Slot, node_at, prev_at, main_of, logical, logical_main, Root, Bounds, Step, State, root_at, root_of, operation_of, IsRun, states_of}
use Rattle.proof_shape.specs.Vocabulary.{last_of, standing, AllHold, node_wants, AMain, Is, Holds, IsInUse}
use Rattle.proof_shape.specs.Beneath.machine_model.proofs.Times.{run_is, run_ends}
use Rattle.proof_shape.specs.Beneath.proof_memory.specs.Wants.{is_indirection}
use Rattle.proof_shape.specs.Beneath.proof_memory.proofs.Claims.Uses.{safe_of}
use Rattle.proof_shape.specs.Beneath.proof_memory.proofs.Safety.AtEachTime.{safe_at}
use Rattle.proof_shape.specs.Beneath.proof_memory.proofs.Safety.AtTimes.{kind_at}
use Rattle.proof_shape.specs.Beneath.proof_memory.proofs.Levels.States.{heaped_in_use}
use Rattle.proof_shape.specs.Sites.Nodes.{steps_of}
use Rattle.proof_shape.specs.Sites.Lines.{Sites, sites_of}
use Rattle.proof_shape.specs.Sites.At.{TakesSteps, StepsFit}
use Rattle.proof_shape.specs.Laws.{OneSite, MainsShareSites, PathsAreShort}
use Rattle.proof_shape.proofs.Sites.Stepped.{takes_steps}
use Rattle.proof_shape.proofs.Sites.Given.{levels_there}
use Rattle.proof_shape.proofs.Sites.Runs.{paths_fit}
use Rattle.proof_shape.proofs.Sites.Acts.{root_path}
use Rattle.proof_shape.proofs.Sites.Grown.{CountsFor, word_site, counts_by}
use Rattle.proof_shape.proofs.Sites.At.{ways_have_sites, way_stands}
use Rattle.proof_shape.proofs.Sites.Roots.{word_root}
use Rattle.proof_shape.proofs.Sites.Fixed.{keys_fit}
use Rattle.proof_shape.specs.Beneath.machine_model.proofs.Grown.{node_standing, prev_standing, grown_in_use}

-- at a time of a run
module _ {limits : Bounds} {states : ℕ → State} (steps : ℕ → Step) {last : ℕ} (run : IsRun limits states last) (takes : TakesSteps states steps last) (keys : StepsFit steps last) where
  abbrev s : Sites
  s = sites_of states steps last

  abbrev AtSite : Ref → Ref → Type 0
  AtSite r q = (s.level r ≡ s.level q) × (s.path r ≡ s.path q)

  main_sites : (t : ℕ) → t ≤ last → (i : Ref) (slot : Slot) (g : ℕ) (w : Ref) → standing (states t).heap i ≡ Some slot → slot.node ≡ Indirection g w →
      AtSite w i × AtSite (logical_main (states t).heap i) i
  main_sites t h i slot g w found is = (word, subst (λ m. AtSite m i) (sym logical_is) (counted.level, counted.path))
    where
      site : AtSite (main_of slot.node) i
      site = word_site steps run takes keys t h i slot (grown_in_use states t i slot found) (ap is_indirection is)

      word : AtSite w i
      word = subst (λ n. AtSite (main_of n) i) is site

      node : node_at (states t).heap i ≡ Indirection g w
      node = node_standing (states t).heap i slot found ∙ is

      its : Holds (IsInUse (states t).heap) (states t).heap (Is w AMain)
      its = (subst (λ n. AllHold (IsInUse (states t).heap) (states t).heap (node_wants n)) node ((heaped_in_use (states t) (safe_at run t h)).inside i (slot, found))).0

      made : (q : Slot) × (standing (states t).heap w ≡ Some q)
      made = safe_of its

      logical_is : logical_main (states t).heap i ≡ logical w made.0.prev
      logical_is = ap (λ m. logical m (prev_at (states t).heap m)) (ap main_of node) ∙ ap (logical w) (prev_standing (states t).heap w made.0 made.1)

      counted : CountsFor steps run takes keys t i (logical w made.0.prev)
      counted = counts_by steps run takes keys t h i w made.0 word.1 word.0 (kind_at states t w AMain its) (grown_in_use states t w made.0 made.1)

  root_sites : (t : ℕ) → t ≤ last → (handle : ℕ) (root : Root) → root_at (states t) handle ≡ Some root → (s.level (root_of root.word) ≡ 1) × (s.path (root_of root.word) ≡ 0)
  root_sites t h handle root at =
      let level = word_root s.level root.word ((levels_there steps run takes t h).0.words handle root at) in
      (level, root_path s (paths_fit states steps last) (root_of root.word) level)

pub mains_share_sites : MainsShareSites
mains_share_sites limits steps ok fit =
    let states = states_of limits steps in
    let last = last_of limits steps in
    let ends = run_ends limits steps in (
      λ i slot g w found is. subst (λ (x : State). OneSite limits steps w i × OneSite limits steps (logical_main x.heap i) i) ends
          (main_sites (steps_of limits steps) (run_is limits steps ok) (takes_steps limits steps) (keys_fit limits steps fit) last (omega arith) i slot g w
          (ap (λ (x : State). standing x.heap i) ends ∙ found) is),
      λ handle root at. root_sites (steps_of limits steps) (run_is limits steps ok) (takes_steps limits steps) (keys_fit limits steps fit) last (omega arith) handle root
          (ap (λ x. root_at x handle) ends ∙ at),
    )

pub paths_are_short : PathsAreShort
paths_are_short limits steps actor operation ok fit is =
    let states = states_of limits steps in
    let last = last_of limits steps in
    let running = ap (λ x. operation_of x actor) (run_ends limits steps) ∙ is in (
      (ways_have_sites (steps_of limits steps) (run_is limits steps ok) (takes_steps limits steps) (keys_fit limits steps fit) last (omega arith) actor operation running).0,
      λ d within. let both = way_stands (steps_of limits steps) (run_is limits steps ok) (takes_steps limits steps)
          (keys_fit limits steps fit) last (omega arith) actor operation running d within in
          let next : d + 1 ≡ suc d = omega arith in
          (both.0 ∙ next, both.1),
    )
