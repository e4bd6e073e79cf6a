-- Main nodes, lines and the paths of operations stand at their sites at each time of a run.
use Rattle.std.proofs.Common.{◌≡◌, ℕ, ◌+◌, ◌<◌, ◌≤◌, true, cond, length, get_or, slice_index_or, Some, None, inl, inr, sym, ap, subst, ◌∙◌, ltb-true, arith}
use Rattle.std.proofs.lemmas.Bool.{cases_lt, false≢true}
use Rattle.proof_shape.specs.Vocabulary.{hash_of, Ref, Node, Indirection, no_ref, list_depth, Operation, Bounds, Step, key_of, depth_of, State, operation_of, IsRun, node_under, AnIndirection}
use Rattle.proof_shape.specs.Vocabulary.{AllHold, line_wants, swap_wants, purpose_wants, IsInUse}
use Rattle.proof_shape.specs.Beneath.machine_model.specs.declared.lines.Purpose.TheVariants as purpose
use Rattle.proof_shape.specs.Beneath.proof_memory.specs.Wants.{is_indirection}
use Rattle.proof_shape.specs.Beneath.proof_memory.proofs.Claims.Uses.{Meets, fact_of, last_hold}
use Rattle.proof_shape.specs.Beneath.proof_memory.proofs.Safety.Steps.{of_actor}
use Rattle.proof_shape.specs.Beneath.proof_memory.proofs.Safety.AtTimes.{limits_at, line_at}
use Rattle.proof_shape.specs.Beneath.proof_memory.proofs.Levels.Shapes.{ShapeAt}
use Rattle.proof_shape.specs.Beneath.proof_contents.proofs.Shapes.Nodes.{list_depth-le}
use Rattle.proof_shape.specs.Sites.Nodes.{path_to, depth_at, level_until, path_until, depth_of_run, path_of_run}
use Rattle.proof_shape.specs.Sites.Lines.{Sites, sites_of, LineSite}
use Rattle.proof_shape.specs.Sites.At.{TakesSteps, StepsFit, LinesHaveSites, WaysHaveSites, UpdatesHaveSites, way_of}
use Rattle.proof_shape.proofs.Sites.LineWays.{IsWay, line_way}
use Rattle.proof_shape.proofs.Sites.Given.{levels_there}
use Rattle.proof_shape.proofs.Sites.Runs.{sites_there}
use Rattle.proof_shape.proofs.Sites.Grown.{link_same}
use Rattle.proof_shape.specs.Beneath.machine_model.proofs.Grown.{node_standing as heap_node_under, grown_in_use}

pub link_high : (deep level : ℕ) (n : Node) → is_indirection n ≡ true → ShapeAt deep level n → level ≤ deep + 1
link_high deep level (Indirection g w) e h = h
link_high deep level n e h = absurd (false≢true e)

module _ {limits : Bounds} {states : ℕ → State} (steps : ℕ → Step) {last : ℕ} (run : IsRun limits states last) (takes : TakesSteps states steps last) (keys : StepsFit steps last) where
  abbrev s : Sites
  s = sites_of states steps last

  -- ---- lines

  pub lines_have_sites : LinesHaveSites limits states steps last
  lines_have_sites t h actor operation e =
      let (k, found) = of_actor (states t) (λ k operation. get_or (states t).actors k None ≡ Some operation) (λ k operation e. e) actor operation e in
      let sites = (sites_there steps run takes keys t h).lines k operation found in
      ((levels_there steps run takes t h).0.lines k operation found, sites.0, sites.1)

  stands_along : (t : ℕ) → t ≤ last → (actor : ℕ) (operation : Operation) → operation_of (states t) actor ≡ Some operation →
      IsWay s (IsInUse (states t).heap) (states t).heap limits.hash (hash_of limits.hash (key_of operation.call)) (way_of operation.line)
  stands_along t h actor operation e =
      let sites = lines_have_sites t h actor operation e in
      line_way s (IsInUse (states t).heap) (states t).heap limits.hash (hash_of limits.hash (key_of operation.call)) operation.call operation.access operation.line
      sites.0 sites.1 (line_at run t h actor operation e)

  module _ (t : ℕ) (h : t ≤ last) (actor : ℕ) (operation : Operation) (e : operation_of (states t) actor ≡ Some operation) (d : ℕ) (within : d < length (way_of operation.line)) where
    i : Ref
    i = slice_index_or (way_of operation.line) d no_ref

    its : Meets (IsInUse (states t).heap) (states t).heap AnIndirection i
    unfolding i
    its = (stands_along t h actor operation e).2 d no_ref within

    node_is : is_indirection its.0.0.node ≡ true
    node_is = ap is_indirection (sym (heap_node_under (states t).heap i its.0.0 its.0.1)) ∙ its.1

    link : is_indirection (node_under states last i) ≡ true
    link = link_same steps run takes keys t h i its.0.0 (grown_in_use states t i its.0.0 its.0.1) ∙ node_is

    level_is : s.level i ≡ d + 1
    unfolding i
    level_is = (stands_along t h actor operation e).0 d no_ref within

    high : s.level i ≤ 14
    high =
        let shape = (levels_there steps run takes t h).1.nodes i its.0.0 its.0.1 in
        let same = limits_at run t h in
        let low = link_high (list_depth limits.hash) (s.level i) its.0.0.node node_is (subst (λ (l : Bounds). ShapeAt (list_depth l.hash) (s.level i) its.0.0.node) same shape) in
        omega (arith, low, list_depth-le limits.hash)

    way_depth : depth_of_run states steps last i ≡ d
    way_depth = ap (λ b. cond b (depth_at (level_until states steps last i)) 0) link ∙ omega (arith, level_is)

    way_path : path_of_run states steps last i ≡ path_to (hash_of limits.hash (key_of operation.call)) d
    unfolding i
    way_path =
        ap (λ b. cond b (path_until states steps last i) 0) link
        ∙ (stands_along t h actor operation e).1 d no_ref within

    all_there : (is_indirection (node_under states last (slice_index_or (way_of operation.line) d no_ref)) ≡ true)
        × (depth_of_run states steps last (slice_index_or (way_of operation.line) d no_ref) ≡ d)
        × (path_of_run states steps last (slice_index_or (way_of operation.line) d no_ref) ≡ path_to (hash_of limits.hash (key_of operation.call)) d)
    unfolding i
    all_there = (link, way_depth, way_path)

  -- the level and the path of each
  pub way_stands : (t : ℕ) → t ≤ last → (actor : ℕ) (operation : Operation) → operation_of (states t) actor ≡ Some operation → (d : ℕ) → d < length (way_of operation.line) →
      (s.level (slice_index_or (way_of operation.line) d no_ref) ≡ d + 1) × (s.path (slice_index_or (way_of operation.line) d no_ref) ≡ path_to (hash_of limits.hash (key_of operation.call)) d)
  way_stands t h actor operation e d within = let way = stands_along t h actor operation e in (way.0 d no_ref within, way.1 d no_ref within)

  pub ways_have_sites : WaysHaveSites limits states steps last
  ways_have_sites t h actor operation e = (short, λ d within. all_there t h actor operation e d within)
    where
      short : length (way_of operation.line) ≤ 14
      short = elim (cases_lt 14 (length (way_of operation.line))) [
        | inl long ↦ absurd (too_long (level_is t h actor operation e 14 long) (high t h actor operation e 14 long))
        | inr low ↦ low
      ]
        where
          too_long : {n : ℕ} → n ≡ 14 + 1 → n ≤ 14 → ⊥
          too_long a b = omega arith

  pub updates_have_sites : UpdatesHaveSites limits states steps last
  updates_have_sites t h actor operation e path former w is =
      let site = subst (LineSite limits.hash s (hash_of limits.hash (key_of operation.call))) is (lines_have_sites t h actor operation e).1 in
      let claims = subst (λ l. AllHold (IsInUse (states t).heap) (states t).heap (line_wants limits.hash operation.call operation.access l)) is
      (line_at run t h actor operation e) in
      let some : 0 < length path = ltb-true 0 (length path) (fact_of (last_hold (IsInUse (states t).heap) (states t).heap (swap_wants w) (purpose_wants (purpose.Update path former)) claims).1.0) in
      let same : way_of operation.line ≡ path = ap way_of is in
      let ways = ways_have_sites t h actor operation e in
      let short : length path ≤ 14 = subst (λ p. length p ≤ 14) same ways.0 in
      let there = subst (λ p. let i = slice_index_or p (depth_of path) no_ref in
      (is_indirection (node_under states last i) ≡ true) × (depth_of_run states steps last i ≡ depth_of path)
      × (path_of_run states steps last i ≡ path_to (hash_of limits.hash (key_of operation.call)) (depth_of path))) same
      (ways.1 (depth_of path) (subst (λ p. depth_of path < length p) (sym same) (omega arith))) in
      (site.2.1, ap (depth_of_run states steps last) site.2.1 ∙ there.1, omega arith, ap (path_of_run states steps last) site.2.1 ∙ there.2)
