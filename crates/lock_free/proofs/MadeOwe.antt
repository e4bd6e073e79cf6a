-- What an operation has made and nothing names yet, after a step that makes a node.
use Rattle.std.proofs.Common.{◌≡◌, ◌≢◌, ◌+◌, ◌≤◌, ◌==◌, ◌-◌, ◌∷◌, ◌++◌, Bool, true, false, List, [], Contains, Some, None, if◌then◌else◌, refl, sym, ap, subst, ◌∙◌, arith}
use Rattle.std.proofs.lemmas.List.Sums.{sum_by-append}
use Rattle.std.proofs.lemmas.Option.{none-some}
use Rattle.history.specs.declared.calls.Call.{Call}
use Rattle.history.specs.declared.calls.Call.TheVariants.{Snapshot}
use Rattle.machine_model.specs.Beneath.slot_arena.specs.declared.refs.Ref.{Ref}
use Rattle.machine_model.specs.Beneath.slot_arena.specs.declared.nodes.Node.{Node}
use Rattle.machine_model.specs.Beneath.slot_arena.specs.Heaps.{next_ref}
use Rattle.machine_model.specs.declared.building.BuildLine.{BuildLine}
use Rattle.machine_model.specs.declared.building.BuildLine.TheVariants as build
use Rattle.machine_model.specs.declared.building.Change.TheVariants as change
use Rattle.machine_model.specs.declared.building.Site.TheVariants as site
use Rattle.machine_model.specs.declared.copying.CopyLine.{CopyLine}
use Rattle.machine_model.specs.declared.copying.CopyLine.TheVariants as copy
use Rattle.machine_model.specs.declared.finding.KeyLine.TheVariants as key
use Rattle.machine_model.specs.declared.lines.Line.{Line}
use Rattle.machine_model.specs.declared.lines.Line.TheVariants as line
use Rattle.machine_model.specs.declared.operations.Operation.{Operation}
use Rattle.machine_model.specs.declared.repairs.CleanLine.TheVariants as clean
use Rattle.machine_model.specs.declared.repairs.ClimbLine.TheVariants as climb
use Rattle.machine_model.specs.declared.repairs.RenewLine.TheVariants as renew
use Rattle.machine_model.specs.declared.walking.WalkLine.TheVariants as walk
use Rattle.machine_model.specs.Acting.{operation_after, with_made}
use Rattle.machine_model.specs.Building.{build_after_made, build_if_made}
use Rattle.machine_model.specs.Cleaning.{clean_after_contracted}
use Rattle.machine_model.specs.Climbing.{climb_after_contracted}
use Rattle.machine_model.specs.Copying.{after_successor, copy_action, copy_after_made, copy_if_made}
use Rattle.machine_model.specs.Operations.{action_of, line_action, line_after}
use Rattle.machine_model.specs.Paths.{depth_of}
use Rattle.machine_model.specs.Renewing.{renew_after_branch, renew_after_link}
use Rattle.machine_model.specs.States.{State}
use Rattle.proof_memory.specs.Making.{made_node}
use Rattle.lock_free.specs.Counts.{how_often}
use Rattle.lock_free.specs.OwesAt.{owes_at, owes_on}
use Rattle.lock_free.specs.Owing.{names_made}
use Rattle.lock_free.proofs.CountsStay.{often_none}
use Rattle.lock_free.proofs.Pools.{one_there}
use Rattle.lock_free.proofs.MadeLines.{complete_none, parts_then, read_none, root_none, swap_none}

-- what it still owes is none of what the node names
abbrev pub IsApart : List Ref → Line → Type 0
IsApart private (line.Renew (renew.Link path main done child)) = ¬ Contains private child
IsApart private (line.Copy (copy.Second root main successor)) = successor ≢ main
IsApart private l = Unit {0}

-- the operation owes what was made, and besides that what it owed before and the node doesn't name
abbrev pub OwesOneMore : List Ref → Ref → List Ref → List Ref → Type 0
OwesOneMore names made before later =
    (k : Ref) → (Contains names k → how_often k later ≤ how_often k (made ∷ [])) × (how_often k later ≤ how_often k (made ∷ []) + how_often k before)

often_append : (k : Ref) (xs ys : List Ref) → how_often k (xs ++ ys) ≡ how_often k xs + how_often k ys
often_append k xs ys = sum_by-append _ xs ys

only_made : (names : List Ref) (made : Ref) (before later : List Ref) → later ≡ made ∷ [] → OwesOneMore names made before later
only_made names made before later is k = let same = ap (how_often k) is in (λ c. omega (arith, same), omega (arith, same))

-- one more is owed than before, where the node names one that wasn't
one_more : (name made : Ref) (before later : List Ref) → later ≡ before ++ made ∷ [] → (Contains before name → ⊥) → OwesOneMore (name ∷ []) made before later
one_more name made before later is apart k =
    let all = ap (how_often k) is ∙ often_append k before (made ∷ []) in (
      λ c. (let none = often_none k before (λ had. apart (subst (Contains before) (one_there name k c) had)) in omega (arith, all, none)),
      omega (arith, all),
    )

module _ (state : State) (o : Operation) (made : Ref) (next : next_ref state.heap ≡ Some made) where
  abbrev more : List Ref
  more = o.private ++ made ∷ []

  chosen : (b : Bool) (l n : Line) → owes_on more l ≡ made ∷ [] → owes_on more n ≡ made ∷ [] → owes_on more (if b then l else n) ≡ made ∷ []
  chosen true l n first second = first
  chosen false l n first second = second

  built : (l : BuildLine) → owes_on more (build_after_made state o l made) ≡ made ∷ []
  built (build.Single path main site.Absent former) = refl
  built (build.Single path main (site.At position) former) = refl
  built (build.Single path main (site.Beside position) former) = refl
  built (build.Pair path main position single depth) = refl
  built (build.Link path main position below depth) =
      chosen (depth == depth_of path + 1) (line.Build (build.Main path main (change.Update position made) None)) (line.Build (build.Rung path main position made (depth - 1))) refl refl
  built (build.Rung path main position below depth) = refl
  built (build.Main path main c former) = refl

  renewed : (b : Bool) (path : List Ref) (main : Ref) (done : List Ref) → owes_on more (if b then line.Renew (renew.Entry path main done) else line.Renew (renew.Branch path main done)) ≡ more
  renewed true path main done = refl
  renewed false path main done = refl

  succeeds : (call : Call) (r main : Ref) → owes_on more (after_successor o call r main made) ≡ made ∷ []
  succeeds (Snapshot h) r main = refl
  succeeds call r main = refl

  -- what is owed on the line that comes next
  abbrev Owes : Line → Type 0
  Owes l = OwesOneMore (names_made (line_action state o l)) made (owes_on o.private l) (owes_on more (line_after state o l))

  only : (l : Line) (n : Line) → line_after state o l ≡ n → owes_on more n ≡ made ∷ [] → Owes l
  only l n leads is = only_made (names_made (line_action state o l)) made (owes_on o.private l) (owes_on more (line_after state o l)) (ap (owes_on more) leads ∙ is)

  module _ (node : Node) where
    copied : (l : CopyLine) → IsApart o.private (line.Copy l) → made_node state (copy_action l) ≡ Some node → Owes (line.Copy l)
    copied (copy.Read r l) apart is = absurd (none-some node (sym (read_none state l.indirection l.line) ∙ is))
    copied (copy.Offer offer) apart is = absurd (none-some node is)
    copied (copy.Complete c) apart is = absurd (none-some node (sym (complete_none state c.offer c.line) ∙ is))
    copied (copy.Successor r main) apart is =
        only (line.Copy (copy.Successor r main)) (after_successor o o.call r main made) (ap (copy_if_made o (copy.Successor r main)) next) (succeeds o.call r main)
    copied (copy.Second r main successor) apart is =
        one_more main made (successor ∷ []) (owes_on more (line_after state o (line.Copy (copy.Second r main successor))))
        (ap (λ x. owes_on more (copy_if_made o (copy.Second r main successor) x)) next)
        (λ c. apart (sym (one_there successor main c)))
    copied (copy.Empty r main) apart is = only (line.Copy (copy.Empty r main)) (line.Copy (copy.Cleared r main made)) (ap (copy_if_made o (copy.Empty r main)) next) refl
    copied (copy.Cleared r main branch) apart is =
        only (line.Copy (copy.Cleared r main branch)) (copy_after_made o (copy.Cleared r main branch) made) (ap (copy_if_made o (copy.Cleared r main branch)) next) refl

    one_more_on : (l : Line) → IsApart o.private l → made_node state (line_action state o l) ≡ Some node → Owes l
    one_more_on (line.Build l) apart is = only (line.Build l) (build_after_made state o l made) (ap (build_if_made state o l) next) (built l)
    one_more_on (line.Renew (renew.Link path main done child)) apart is =
        one_more child made o.private (owes_on more (line_after state o (line.Renew (renew.Link path main done child))))
        (ap (λ x. owes_on more (renew_after_link state path main done x)) next ∙ renewed _ path main (done ++ made ∷ [])) apart
    one_more_on (line.Renew (renew.Branch path main done)) apart is =
        only (line.Renew (renew.Branch path main done)) (renew_after_branch path main (Some made)) (ap (renew_after_branch path main) next) refl
    one_more_on (line.Renew (renew.Entry path main done)) apart is = absurd (none-some node is)
    one_more_on (line.Renew (renew.Read path main done r)) apart is = absurd (none-some node (sym (read_none state r.indirection r.line) ∙ is))
    one_more_on (line.Clean (clean.Contracted path main done)) apart is =
        only (line.Clean (clean.Contracted path main done)) (clean_after_contracted path main (Some made)) (ap (clean_after_contracted path main) next) refl
    one_more_on (line.Clean (clean.Read path r)) apart is = absurd (none-some node (sym (read_none state r.indirection r.line) ∙ is))
    one_more_on (line.Clean (clean.Child path main done r)) apart is = absurd (none-some node (sym (read_none state r.indirection r.line) ∙ is))
    one_more_on (line.Clean l) apart is = absurd (none-some node is)
    one_more_on (line.Climb (climb.Contracted c main)) apart is =
        only (line.Climb (climb.Contracted c main)) (climb_after_contracted o c main (Some made)) (ap (climb_after_contracted o c main) next) refl
    one_more_on (line.Climb (climb.Read c r)) apart is = absurd (none-some node (sym (read_none state r.indirection r.line) ∙ is))
    one_more_on (line.Climb (climb.Main c main)) apart is = absurd (none-some node is)
    one_more_on (line.Climb (climb.Root c l)) apart is = absurd (none-some node (sym (root_none state l) ∙ is))
    one_more_on (line.Copy l) apart is = copied l apart is
    one_more_on (line.Root l) apart is = absurd (none-some node (sym (root_none state l) ∙ is))
    one_more_on (line.Key (key.Read path r)) apart is = absurd (none-some node (sym (read_none state r.indirection r.line) ∙ is))
    one_more_on (line.Key l) apart is = absurd (none-some node is)
    one_more_on (line.Swap why s) apart is = absurd (none-some node (sym (swap_none state s.indirection s.replaced s.fresh s.line) ∙ is))
    one_more_on (line.Walk (walk.Read r todo pairs)) apart is = absurd (none-some node (sym (read_none state r.indirection r.line) ∙ is))
    one_more_on (line.Walk l) apart is = absurd (none-some node is)
    one_more_on (line.End answer) apart is = absurd (none-some node is)
    one_more_on line.Impossible apart is = absurd (none-some node is)

    pub owes_one_more : IsApart o.private o.line → made_node state (action_of state o) ≡ Some node →
        OwesOneMore (names_made (action_of state o)) made (owes_at o) (owes_at (operation_after state o))
    owes_one_more apart is =
        let left = (parts_then state (action_of state o) node is o.private o.attempt o.is_marked).0 in
        subst (λ xs. OwesOneMore (names_made (action_of state o)) made (owes_at o) (owes_on xs (line_after state o o.line))) (sym (left ∙ ap (with_made o.private) next)) (one_more_on o.line apart is)
