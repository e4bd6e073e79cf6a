use Rattle.std.proofs.Common.{rules, ◌+◌, ◌≡◌, ℕ, List, Bool, false, Option, None, replicate, ap, ◌∙◌}
use Rattle.rdcss_root.specs.Vocabulary.{Root}
use Rattle.rdcss_root.specs.Tables.{Table}
use Rattle.rdcss_root.proofs.roots.Roots.new.Goals as goal

abbrev table : List (Option Root) → List ℕ → List Bool → Table
table roots offerers marks = record { roots = roots; offerers = offerers; marks = marks; carried = None }

pub returns : goal.returns
returns c =
    let none : Option Root = None in
    let offerers : c.in_ok-offerers.offerers.items ≡ replicate 256 0 = search rules in
    let marks : c.in_ok-marks.marks.items ≡ replicate (c.args.actors + 1) false = search rules in
    ap (λ xs. table xs c.in_ok-offerers.offerers.items c.in_ok-marks.marks.items) c.in_ok-roots.ensures
    ∙ ap (λ xs. table (replicate 256 none) xs c.in_ok-marks.marks.items) offerers
    ∙ ap (λ xs. table (replicate 256 none) (replicate 256 0) xs) marks
