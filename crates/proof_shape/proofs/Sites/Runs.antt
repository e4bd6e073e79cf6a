-- Nodes, and those of lines, stand at their sites at each time of a run.
use Rattle.std.proofs.Common.{◌≡◌, ℕ, zero, suc, ◌*◌, ◌^◌, ◌<◌, ◌≤◌, Bool, true, false, cond, ap₂, refl, sym, ap, subst, ◌∙◌, arith}
use Rattle.proof_shape.specs.Vocabulary.{ref_to, Ref, Node, Indirection, Branch, Single, Tomb, List as Listed, next_ref, node_of, with_main_word, Operation, Line, Bounds, Step, State, first_state}
use Rattle.proof_shape.specs.Vocabulary.{is_number, next_entry, IsRun, AllHold, line_wants, IsInUse, made_level, made_by, made_now, level_now, level_by, if_made, KnowsLine}
use Rattle.proof_shape.specs.Beneath.machine_model.specs.declared.repairs.RenewLine.TheVariants as renew
use Rattle.proof_shape.specs.Beneath.machine_model.specs.declared.lines.Line.TheVariants as line
use Rattle.proof_shape.specs.Beneath.machine_model.proofs.Found.{none_found}
use Rattle.proof_shape.specs.Beneath.proof_memory.proofs.Claims.Nodes.{entry_met}
use Rattle.proof_shape.specs.Beneath.proof_memory.proofs.Claims.Named.{main_claim, left_claim}
use Rattle.proof_shape.specs.Beneath.proof_memory.proofs.Safety.AtEachTime.{safe_at}
use Rattle.proof_shape.specs.Beneath.proof_memory.proofs.Safety.AtTimes.{line_finds, limits_at}
use Rattle.proof_shape.specs.Beneath.proof_memory.proofs.Safety.First.{first_stands}
use Rattle.proof_shape.specs.Beneath.proof_memory.proofs.Heap.Moves.{grown_stays}
use Rattle.proof_shape.specs.Beneath.proof_memory.proofs.Levels.States.{heaped_in_use}
use Rattle.proof_shape.specs.Beneath.proof_memory.proofs.Levels.Shapes.{deep_low}
use Rattle.proof_shape.specs.Beneath.proof_contents.proofs.Shapes.Builders.{empty_shaped}
use Rattle.proof_shape.specs.Lines.Knowing.{first_main}
use Rattle.proof_shape.proofs.Lines.Knows.{knows_at}
use Rattle.proof_shape.specs.Sites.Nodes.{path_to, depth_at, leads_by, leads_of, leads_now, level_until, path_until}
use Rattle.proof_shape.specs.Sites.Lines.{Sites, sites_of, bare, trie_at, InsideSite, PrevSite}
use Rattle.proof_shape.specs.Sites.At.{TakesSteps, StepsFit}
use Rattle.proof_shape.proofs.Sites.Ways.{path_fits}
use Rattle.proof_shape.proofs.Sites.Given.{path_given, path_stays, gives_level, levels_there, root_old, branch_old}
use Rattle.proof_shape.proofs.Sites.Acts.{roots_alike}
use Rattle.proof_shape.proofs.Sites.States.{HasSites, AreBare, GivesPath, sites_after}
use Rattle.proof_shape.specs.Beneath.machine_model.proofs.Grown.{grown_in_use}

pub bare_main : (m : Ref) (n : Node) → bare (with_main_word m n) ≡ bare n
bare_main m (Indirection g w) = refl
bare_main m (Branch b es) = refl
bare_main m (Single k v) = refl
bare_main m (Tomb t) = refl
bare_main m (Listed ss) = refl

-- paths have five bits for each level above
pub paths_fit : (states : ℕ → State) (steps : ℕ → Step) (t : ℕ) (i : Ref) → path_until states steps t i < 2 ^ (5 * depth_at (level_until states steps t i))
unfolding level_until path_until
paths_fit states steps zero i = omega arith
paths_fit states steps (suc t) i =
    both (is_number i (made_now (states t) (steps t))) _ _ (level_now (states t) (steps t)) (level_until states steps t i)
    (path_fits (leads_now (states t) (path_until states steps t) (steps t)) (depth_at (level_now (states t) (steps t)))) (paths_fit states steps t i)
  where
    both : (b : Bool) (p q l m : ℕ) → p < 2 ^ (5 * depth_at l) → q < 2 ^ (5 * depth_at m) → cond b p q < 2 ^ (5 * depth_at (cond b l m))
    both true p q l m x y = x
    both false p q l m x y = y

module _ {limits : Bounds} {states : ℕ → State} (steps : ℕ → Step) {last : ℕ} (run : IsRun limits states last) (takes : TakesSteps states steps last) where
  abbrev pub s : Sites
  s = sites_of states steps last

  pub are_bare : (t : ℕ) → t ≤ last → AreBare s (states t)
  are_bare t h r slot found =
      let (now, found_now, same) = grown_stays run t last h (omega arith) r slot (grown_in_use states t r slot found) in
      ap (λ o. bare (node_of o)) found_now ∙ ap bare same.0.1 ∙ bare_main same.0.0 slot.node

  -- the path that a line gives doesn't depend on what is made later
  same_leads : (t : ℕ) → t ≤ last → (operation : Operation) (l : Line) → AllHold (IsInUse (states t).heap) (states t).heap (line_wants (states t).limits.hash operation.call operation.access l) →
      leads_by (states t) operation (path_until states steps t) l ≡ leads_by (states t) operation s.path l
  same_leads t h operation (line.Renew (renew.Link path main done child)) w =
      let used = (entry_met (IsInUse (states t).heap) (states t).heap (heaped_in_use (states t) (safe_at run t h)) (main_claim w) (left_claim w)).0 in
      sym (path_stays steps run takes t last h (omega arith) (next_entry (states t) main done) used.0 (grown_in_use states t (next_entry (states t) main done) used.0 used.1))
  same_leads t h operation (line.Renew (renew.Entry path main done)) w = refl
  same_leads t h operation (line.Renew (renew.Read path main done r)) w = refl
  same_leads t h operation (line.Renew (renew.Branch path main done)) w = refl
  same_leads t h operation l w = refl

  gives_path : (t : ℕ) → t < last → GivesPath s (states t) (steps t)
  gives_path t h actor operation node made is running n e =
      path_given steps run takes t h made (ap (made_now (states t)) is ∙ ap (made_by (states t)) running ∙ ap (λ x. if_made x (next_ref (states t).heap)) n ∙ e)
      ∙ ap₂ (λ p l. path_to p (depth_at l))
      (ap (leads_now (states t) (path_until states steps t)) is ∙ ap (leads_of (states t) (path_until states steps t)) running) (ap (level_now (states t)) is ∙ ap level_by running)
      ∙ ap (λ p. path_to p (depth_at (made_level operation.line)))
      (same_leads t (omega arith) operation operation.line (line_finds (states t) (safe_at run t (omega arith)) actor operation running))

  first_sites : HasSites limits.hash s (first_state limits)
  unfolding first_state
  first_sites =
      let root = root_old steps run takes in
      let branch = branch_old steps run takes in
      let fits = paths_fit states steps last in
      let here : depth_at (s.level (ref_to 1 0)) ≡ 0 = ap depth_at branch in
      record {
        nodes = first_stands (λ r slot. InsideSite limits.hash s r slot.node × PrevSite limits.hash s r slot.prev) limits.slots run.limits_ok.0
            (λ birth. (roots_alike s fits (ref_to 1 0) (ref_to 2 1) branch root, tt))
            (λ birth. (empty_shaped (trie_at limits.hash s) fits (ref_to 1 0) (omega (arith, here, deep_low limits.hash)), tt));
        lines = λ k operation found. absurd (none_found limits.actors k operation found);
      }

  module _ (keys : StepsFit steps last) where
    pub sites_there : (t : ℕ) → t ≤ last → HasSites limits.hash s (states t)
    sites_there zero h = subst (λ x. HasSites limits.hash s x) (sym run.first) first_sites
    sites_there (suc t) h =
        let I = safe_at run t (omega arith) in
        let (o, m) = takes t (omega arith) in
        let (levels, shapes) = levels_there steps run takes t (omega arith) in
        let same : (states t).limits ≡ limits = limits_at run t (omega arith) in
        let hash = ap (λ (l : Bounds). l.hash) same in
        subst (λ k. HasSites k s (states (suc t))) hash
        (sites_after s (paths_fit states steps last) (first_main states last) (states t) I levels shapes
        (subst (λ k. HasSites k s (states t)) (sym hash) (sites_there t (omega arith))) (are_bare t (omega arith))
        (λ actor operation e. subst (λ k. KnowsLine (record { kind = k; node = s.node; first = first_main states last }) operation.call operation.line) (sym hash)
        (knows_at run t (omega arith) actor operation e))
        (steps t) o (states (suc t)) m (keys t (omega arith)) (gives_level steps run takes t (omega arith)) (gives_path t (omega arith)) (are_bare (suc t) h))
