-- All generations are below the counter from which the next one is drawn: those of indirections, of operations and of closings. An indirection keeps its own.
use Rattle.std.proofs.Common.{◌≡◌, ℕ, ◌+◌, ◌≤◌, inl, inr, ◌⊎◌, List, ◌∷◌, set, get_or, Option, Some, None, refl, sym, ap, ◌∙◌, subst, arith, []}
use Rattle.std.proofs.lemmas.Bool.{cases_eq}
use Rattle.std.proofs.lemmas.Option.{none-some, same_Some}
use Rattle.proof_generations.specs.Vocabulary.{ref_to, Ref, Node, Indirection, Slot, Heap, taken, take_from, generation_of, node_of, with_main_word, next_ref, empty_branch, Action, Operation}
use Rattle.proof_generations.specs.Vocabulary.{Descriptor, Bounds, Outcome, Step, handle_of, State, first_heap, empty_heap, operation_of, action_of, acted, aborted, offered, completed}
use Rattle.proof_generations.specs.Vocabulary.{new_root_taken, with_begin, Begins, Ends, Sweeps, GivesUp, Moves, begun_operation, IsRun, grown, node_under, SameNode, made_node}
use Rattle.proof_generations.specs.Beneath.slot_arena.specs.declared.nodes.Prev.TheVariants as prev
use Rattle.proof_generations.specs.Beneath.machine_model.specs.declared.actions.Action.TheVariants as act
use Rattle.proof_generations.specs.Beneath.machine_model.specs.Moves.{Goes}
use Rattle.proof_generations.specs.Beneath.machine_model.proofs.Found.{found_elsewhere, found_here, none_found}
use Rattle.proof_generations.specs.Beneath.proof_memory.proofs.Heap.Moves.{WordMove, keeps, makes, publishes, restores, commits, fails, grown_stays}

-- ---- the counter

-- what an action makes of the root words draws none
pub aborted_generations : (state : State) (handle : ℕ) (offer : Descriptor) → (aborted state handle offer).generations ≡ state.generations
aborted_generations state handle offer = grind arith

pub offered_generations : (state : State) (handle : ℕ) (offer : Descriptor) → (offered state handle offer).generations ≡ state.generations
offered_generations state handle offer = grind arith

pub completed_generations : (state : State) (handle : ℕ) (offer : Descriptor) (main : Ref) → (completed state handle offer main).generations ≡ state.generations
completed_generations state handle offer main = grind arith

pub acted_counts : (st : State) (at : ℕ) (action : Action) → st.generations ≤ (acted st at action).generations
acted_counts st at (act.Abort offer) = omega (arith, aborted_generations st at offer)
acted_counts st at (act.Offer offer) = omega (arith, offered_generations st at offer)
acted_counts st at (act.Complete offer main) = omega (arith, completed_generations st at offer main)
acted_counts st at (act.MakeRoot main) = taken_more st main (next_ref st.heap)
  where
    taken_more : (st : State) (main : Ref) (made : Option Ref) → st.generations ≤ (new_root_taken st main made).generations
    taken_more st main None = omega arith
    taken_more st main (Some made) = omega arith
acted_counts st at action = omega arith

begin_counts : (state : State) (actor : ℕ) (call : _) (operation : Operation) → (with_begin state actor call operation).generations ≡ state.generations
begin_counts state actor call operation = grind arith

-- it never falls
pub counter_rises : (state : State) (s : Step) (o : Outcome) (after : State) → Moves state s o after → state.generations ≤ after.generations
counter_rises state s o after (Begins {actor} {call} {number} d) = omega (arith, begin_counts state actor call (begun_operation state call number))
counter_rises state s o after (Goes {actor} {operation} d is a g) = acted_counts _ (handle_of operation.call) (action_of state operation)
counter_rises state s o after (Ends d is a) = omega arith
counter_rises state s o after (GivesUp d is a) = omega arith
counter_rises state s o after (Sweeps spent) = omega arith

-- ---- an indirection keeps its generation

pub generation_kept : (was now : Node) → SameNode was now → generation_of now ≡ generation_of was
generation_kept was now (m, e) = ap generation_of e ∙ same was
  where
    same : (n : Node) → generation_of (with_main_word m n) ≡ generation_of n
    same (Indirection g word) = refl
    same n = refl

-- the generation of what stood last under a reference
abbrev pub generation_under : (ℕ → State) → ℕ → Ref → ℕ
generation_under states t r = generation_of (node_under states t r)

pub generation_stays : {limits : Bounds} {states : ℕ → State} {last : ℕ} → IsRun limits states last → (t u : ℕ) → t ≤ u → u ≤ last → (r : Ref) (slot : Slot) → grown states t r ≡ Some slot →
    generation_under states u r ≡ generation_under states t r
generation_stays {limits} {states} {last} run t u le within r slot e =
    let (now, found, same) = grown_stays run t u le within r slot e in
    ap (λ o. generation_of (node_of o)) found ∙ generation_kept slot.node now.node same.0 ∙ sym (ap (λ o. generation_of (node_of o)) e)

-- ---- what is new was made by the step

pub record Made (state : State) (r : Ref) (slot : Slot) : Type 0 where
  pub actor : ℕ
  pub operation : Operation
  pub node : Node
  pub runs : operation_of state actor ≡ Some operation
  pub makes_it : made_node state (action_of state operation) ≡ Some node
  pub takes : next_ref state.heap ≡ Some r
  pub its_node : slot.node ≡ node

pub new_is_made : (state : State) (f g : Ref → Option Slot) → WordMove state f g → (r : Ref) (slot : Slot) → f r ≡ None → g r ≡ Some slot → Made state r slot
new_is_made state f g (keeps k) r slot none e = absurd (none-some slot (sym none ∙ sym (k r) ∙ e))
new_is_made state f g (makes actor operation node made is a n before new others) r slot none e = elim (cases_eq r made) [
  | inl s ↦ record {
    actor = actor;
    operation = operation;
    node = node;
    runs = is;
    makes_it = a;
    takes = n ∙ ap Some (sym s);
    its_node = ap (λ (x : Slot). x.node) (same_Some _ _ (sym e ∙ ap g s ∙ new));
  }
  | inr other ↦ absurd (none-some slot (sym none ∙ sym (others r other) ∙ e))
]
new_is_made state f g (publishes actor operation i replaced fresh at_i at_fresh takes differ f_i m f_fresh g_i g_fresh others) r slot none e = elim (cases_eq r i) [
  | inl s ↦ absurd (none-some _ (sym none ∙ ap f s ∙ f_i))
  | inr other ↦ elim (cases_eq r fresh) [ inl s ↦ absurd (none-some _ (sym none ∙ ap f s ∙ f_fresh)) | inr another ↦ absurd (none-some slot (sym none ∙ sym (others r other another) ∙ e)) ]
]
new_is_made state f g (restores actor operation i main previous at_i takes f_i m g_i others) r slot none e = elim (cases_eq r i) [
  | inl s ↦ absurd (none-some _ (sym none ∙ ap f s ∙ f_i))
  | inr other ↦ absurd (none-some slot (sym none ∙ sym (others r other) ∙ e))
]
new_is_made state f g (commits actor operation i main previous told at_main takes v f_main g_main others) r slot none e = elim (cases_eq r main) [
  | inl s ↦ absurd (none-some _ (sym none ∙ ap f s ∙ f_main))
  | inr other ↦ absurd (none-some slot (sym none ∙ sym (others r other) ∙ e))
]
new_is_made state f g (fails actor operation i main previous told at_main takes v f_main g_main others) r slot none e = elim (cases_eq r main) [
  | inl s ↦ absurd (none-some _ (sym none ∙ ap f s ∙ f_main))
  | inr other ↦ absurd (none-some slot (sym none ∙ sym (others r other) ∙ e))
]

-- ---- at first all are of generation 0

pub taken_list : (heap : Heap) (node : Node) (free : List ℕ) (k : ℕ) (slot : Slot) → get_or (take_from heap node free).slots k None ≡ Some slot →
    (slot.node ≡ node) ⊎ (get_or heap.slots k None ≡ Some slot)
taken_list heap node [] k slot e = inr e
taken_list heap node (n ∷ free) k slot e =
    let put : Option Slot = Some (record { birth = heap.births + 1; node = node; prev = prev.None }) in
    elim (cases_eq k n) [
      | inl same ↦ inl (node_is (heap.births + 1) (found_here heap.slots n put slot (subst (λ i. get_or (set heap.slots n put) i None ≡ Some slot) same e)))
      | inr other ↦ inr (sym (found_elsewhere heap.slots n k put other) ∙ e)
    ]
  where
    node_is : (birth : ℕ) → Some (record { birth = birth; node = node; prev = prev.None }) ≡ Some slot → slot.node ≡ node
    node_is birth e = ap (λ (x : Slot). x.node) (sym (same_Some _ _ e))

pub first_list : (slots k : ℕ) (slot : Slot) → get_or (first_heap slots).slots k None ≡ Some slot → generation_of slot.node ≡ 0
unfolding taken
first_list slots k slot e =
    elim (taken_list (taken (empty_heap slots) empty_branch) (Indirection 0 (ref_to 1 0)) (taken (empty_heap slots) empty_branch).free k slot e) [
      | inl root ↦ ap generation_of root
      | inr before ↦ elim (taken_list (empty_heap slots) empty_branch (empty_heap slots).free k slot before) [
        | inl branch ↦ ap generation_of branch
        | inr none ↦ absurd (none_found slots k slot none)
      ]
    ]
