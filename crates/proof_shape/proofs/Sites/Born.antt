-- What stands after a step and didn't before was made in it.
use Rattle.proof_shape.specs.Vocabulary.{GivesUp, Ref, Node, Slot, next_ref, ripe, Operation, Outcome, Step, handle_of, State, operation_of, action_of, gone, settled, pin_of, Begins, Ends, Sweeps}
use Rattle.proof_shape.specs.Vocabulary.{Moves, begun_operation, standing, made_node}
use Rattle.std.proofs.Common.{◌≡◌, ℕ, ◌+◌, map, get_or, Option, Some, None, refl, sym, ap, ◌∙◌, ◌⊎◌, inl, inr, arith}
use Rattle.std.proofs.lemmas.Bool.{cases_eq}
use Rattle.std.proofs.lemmas.Option.{none-some, same_Some}
use Rattle.proof_shape.specs.Beneath.machine_model.specs.declared.steps.Step.TheVariants as step
use Rattle.proof_shape.specs.Beneath.machine_model.proofs.HeapMoves.{begin_heap}
use Rattle.proof_shape.specs.Beneath.machine_model.proofs.InUse.{InUse}
use Rattle.proof_shape.specs.Beneath.machine_model.proofs.Slots.{ripe_in_use}
use Rattle.proof_shape.specs.Beneath.machine_model.specs.Moves.{Goes}
use Rattle.proof_shape.specs.Beneath.proof_memory.proofs.Heap.Under.{fresh_slot, taken_all}
use Rattle.proof_shape.specs.Beneath.proof_memory.proofs.Safety.States.{IsSafe, stood_or_made, stands_in_use}
use Rattle.proof_shape.specs.Beneath.proof_memory.proofs.Safety.Steps.{of_actor, gone_effect, made_heap}
use Rattle.proof_shape.specs.Beneath.proof_memory.proofs.Heap.Moves.{WordMove, keeps, makes, publishes, restores, commits, fails, standing_move, sweep_goes}
use Rattle.proof_shape.specs.Beneath.proof_memory.proofs.Levels.States.{births_same}

-- the step makes this node under the reference
pub record IsBorn (state : State) (x : Step) (r : Ref) (slot : Slot) : Type 0 where
  pub actor : ℕ
  pub operation : Operation
  pub node : Node
  pub step_is : x ≡ step.Go actor
  pub runs : operation_of state actor ≡ Some operation
  pub makes_it : made_node state (action_of state operation) ≡ Some node
  pub next : next_ref state.heap ≡ Some r
  pub slot_is : slot ≡ fresh_slot state.heap node

-- only a step that makes a node brings one, under the next reference
brought : (state : State) (f g : Ref → Option Slot) → WordMove state f g → (r : Ref) (slot : Slot) → f r ≡ None → g r ≡ Some slot → next_ref state.heap ≡ Some r
brought state f g (keeps k) r slot none e = absurd (none-some slot (sym none ∙ sym (k r) ∙ e))
brought state f g (makes actor operation node made is a next new here others) r slot none e = elim (cases_eq r made) [
  | inl same ↦ next ∙ ap Some (sym same)
  | inr other ↦ absurd (none-some slot (sym none ∙ sym (others r other) ∙ e))
]
brought state f g (publishes actor operation i replaced fresh was new takes differ f_i m f_fresh g_i g_fresh others) r slot none e = elim (cases_eq r i) [
  | inl same ↦ absurd (none-some was (sym none ∙ ap f same ∙ f_i))
  | inr other ↦ elim (cases_eq r fresh) [
    | inl same ↦ absurd (none-some new (sym none ∙ ap f same ∙ f_fresh))
    | inr another ↦ absurd (none-some slot (sym none ∙ sym (others r other another) ∙ e))
  ]
]
brought state f g (restores actor operation i main previous was takes f_i m g_i others) r slot none e =
    elim (cases_eq r i) [ inl same ↦ absurd (none-some was (sym none ∙ ap f same ∙ f_i)) | inr other ↦ absurd (none-some slot (sym none ∙ sym (others r other) ∙ e)) ]
brought state f g (commits actor operation i main previous told was takes v f_main g_main others) r slot none e =
    elim (cases_eq r main) [ inl same ↦ absurd (none-some was (sym none ∙ ap f same ∙ f_main)) | inr other ↦ absurd (none-some slot (sym none ∙ sym (others r other) ∙ e)) ]
brought state f g (fails actor operation i main previous told was takes v f_main g_main others) r slot none e =
    elim (cases_eq r main) [ inl same ↦ absurd (none-some was (sym none ∙ ap f same ∙ f_main)) | inr other ↦ absurd (none-some slot (sym none ∙ sym (others r other) ∙ e)) ]

brought_by : (state : State) (f g : Ref → Option Slot) → WordMove state f g ⊎ ((r : Ref) → (g r ≡ f r) ⊎ (g r ≡ None)) → (r : Ref) (slot : Slot) → f r ≡ None →
    g r ≡ Some slot → next_ref state.heap ≡ Some r
brought_by state f g (inl w) r slot none e = brought state f g w r slot none e
brought_by state f g (inr goes) r slot none e = elim (goes r) [ inl same ↦ absurd (none-some slot (sym none ∙ sym same ∙ e)) | inr gone ↦ absurd (none-some slot (sym gone ∙ e)) ]

pub born : (state : State) → IsSafe state → (x : Step) (o : Outcome) (after : State) → Moves state x o after → (r : Ref) (slot : Slot) →
    standing state.heap r ≡ None → standing after.heap r ≡ Some slot → IsBorn state x r slot
born state I x o after (Begins {actor} {call} {number} d) r slot none new =
    absurd (none-some slot (sym none ∙ sym (ap (λ heap. standing heap r) (begin_heap state actor call (begun_operation state call number))) ∙ new))
born state I x o after (Ends d is a) r slot none new = absurd (none-some slot (sym none ∙ new))
born state I x o after (GivesUp d is a) r slot none new = absurd (none-some slot (sym none ∙ new))
born state I x o after (Sweeps spent) r slot none new =
    elim (sweep_goes state I (map pin_of state.actors) (ripe state.epoch state.limbo)
    (λ q due. stands_in_use state.heap q (ripe_in_use (InUse state.heap) state.epoch state.limbo (I.sound.limbo) q due)) r) [
      | inl same ↦ absurd (none-some slot (sym none ∙ sym same ∙ new))
      | inr gone ↦ absurd (none-some slot (sym gone ∙ new))
    ]
born state I x o after (Goes {actor} {operation} d is a g) r slot none new = by_node (made_node state (action_of state operation)) refl
  where
    next : next_ref state.heap ≡ Some r
    next = brought_by state (standing state.heap) (standing (settled state (gone state actor operation)).heap) (standing_move state I (step.Go actor) o after (Goes d is a g)) r slot none new

    by_node : (n : Option Node) → made_node state (action_of state operation) ≡ n → IsBorn state (step.Go actor) r slot
    by_node (Some node) n =
        let stood = ap (λ heap. standing heap r) (made_heap _ (handle_of operation.call) (action_of state operation) node r n next)
        ∙ (taken_all state.limits.slots state.heap (I.sound.heap) node r next).0 in
        record { actor = actor; operation = operation; node = node; step_is = refl; runs = is; makes_it = n; next = next; slot_is = same_Some _ _ (sym new ∙ stood) }
    by_node None n =
        let (k, found) = of_actor state (λ k operation. get_or state.actors k None ≡ Some operation) (λ k operation e. e) actor operation is in
        elim (stood_or_made _ _ _ _ _ _ (gone_effect state I actor k operation found) r slot new) [
          | inl stood ↦ absurd (none-some stood.0 (sym none ∙ stood.1))
          | inr made ↦ absurd (no_birth (births_same _ (handle_of operation.call) (action_of state operation) n) made.1)
        ]
      where
        no_birth : (settled state (gone state actor operation)).heap.births ≡ state.heap.births → (settled state (gone state actor operation)).heap.births ≡ state.heap.births + 1 → ⊥
        no_birth x y = omega arith
