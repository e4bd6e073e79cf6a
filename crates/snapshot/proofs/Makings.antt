-- The making of nodes for the swap of a root, case by case.
use Rattle.std.specs.Prelude.{◌≡◌, ℕ, Some, refl}
use Rattle.std.proofs.Common.{sym, ap, ◌∙◌}
use Rattle.ctrie_base.specs.declared.kinds.Kind.TheVariants as kind
use Rattle.snapshot.specs.Vocabulary.{Ref, next_ref, Line, Operation, copy_action, copy_if_made, copy_after_made, State}
use Rattle.snapshot.specs.Beneath.gcas.specs.declared.read.ReadAt.{ReadAt}
use Rattle.snapshot.specs.Beneath.machine_model.specs.declared.actions.Action.TheVariants as act
use Rattle.snapshot.specs.Beneath.machine_model.specs.declared.copying.CopyLine.TheVariants as copy
use Rattle.snapshot.specs.Beneath.machine_model.specs.declared.lines.Line.TheVariants as line
use Rattle.snapshot.specs.Beneath.trie_parts.specs.Steps.{Leads}
use Rattle.snapshot.specs.declared.copy_op.Making.{Making}
use Rattle.snapshot.specs.declared.copy_op.Making.TheVariants as making
use Rattle.snapshot.specs.Copies.{making_line, made_node}
use Rattle.snapshot.specs.Tasks.{with_generation}

-- where a slot is free the program goes on with what was made in it
pub leads : (state : State) (operation : Operation) (root made : Ref) (m : Making) (after : Line) (place : ReadAt) → Some made ≡ next_ref state.heap →
    after ≡ copy_after_made operation (making_line root m) made → Leads state operation (line.Copy (making_line root m)) kind.Make after place
leads state operation root made (making.Successor main) after place is same =
    (refl, ap (copy_if_made operation (copy.Successor root main)) (sym is) ∙ sym same, refl)
leads state operation root made (making.Second main successor) after place is same =
    (refl, ap (copy_if_made operation (copy.Second root main successor)) (sym is) ∙ sym same, refl)
leads state operation root made (making.Empty main) after place is same =
    (refl, ap (copy_if_made operation (copy.Empty root main)) (sym is) ∙ sym same, refl)
leads state operation root made (making.Cleared main branch) after place is same =
    (refl, ap (copy_if_made operation (copy.Cleared root main branch)) (sym is) ∙ sym same, refl)

-- what is made, with the generation that is drawn
pub makes : (generation : ℕ) (root : Ref) (m : Making) → with_generation generation (copy_action (making_line root m)) ≡ act.Make (made_node generation m)
makes generation root (making.Successor main) = refl
makes generation root (making.Second main successor) = refl
makes generation root (making.Empty main) = refl
makes generation root (making.Cleared main branch) = refl
