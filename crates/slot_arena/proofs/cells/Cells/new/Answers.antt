use Rattle.std.proofs.Common.{◌≡◌, ℕ, List, Option, None, replicate, ap, ◌∙◌, rules}
use Rattle.slot_arena.specs.declared.nodes.Node.{Node}
use Rattle.slot_arena.specs.declared.nodes.Prev.{Prev}
use Rattle.slot_arena.specs.declared.nodes.Prev.TheVariants as prev
use Rattle.slot_arena.specs.Cells.{slots_from}
use Rattle.slot_arena.proofs.Parts.{none_used}
use Rattle.slot_arena.proofs.cells.Cells.new.Goals as goal

pub returns : goal.returns
returns c =
    let births : c.in_ok-vec.field-0.items ≡ replicate c.args.slots 0 = search rules in
    let prevs : c.in_ok-vec-2.field-0.items ≡ replicate c.args.slots prev.None = search rules in
    ap (λ (bs : List ℕ). slots_from bs c.in_ok-new.field-0 c.in_ok-vec-2.field-0.items) births
    ∙ ap (λ (ns : List (Option Node)). slots_from (replicate c.args.slots 0) ns c.in_ok-vec-2.field-0.items) c.in_ok-new.ensures
    ∙ ap (λ (ps : List Prev). slots_from (replicate c.args.slots 0) (replicate c.args.slots None) ps) prevs
    ∙ none_used c.args.slots
