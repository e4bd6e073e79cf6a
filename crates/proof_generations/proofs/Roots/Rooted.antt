-- The generation of an operation on a writable handle is that of its handle's root, or was so until it was closed.
use Rattle.std.proofs.Common.{◌≡◌, ℕ, zero, suc, ◌≤◌, Bool, false, inl, inr, ◌⊎◌, Option, Some, None, get_or, refl, sym, ap, ◌∙◌, subst, arith}
use Rattle.std.proofs.lemmas.Option.{none-some, same_Some, some_pair_parts}
use Rattle.proof_generations.specs.Vocabulary.{Access, Writable, Ref, generation_at, Line, Operation, After, Gives, Complete, Root, RootLine, RootWord, Plain, Offer, Bounds, Outcome, Step}
use Rattle.proof_generations.specs.Vocabulary.{handle_of, is_close, State, first_state, root_at, root_of, word_of, word_at, root_after, after_root_word, after_completing, complete_after}
use Rattle.proof_generations.specs.Vocabulary.{generation_from, given_root, operation_after, Moves, turns, noted_turn, IsRun, Turn, closed_at, Record, noted, told_in}
use Rattle.proof_generations.specs.Beneath.machine_model.specs.declared.lines.Line.TheVariants as line
use Rattle.proof_generations.specs.Beneath.machine_model.specs.declared.reading.After.TheVariants.{Goes as Continues}
use Rattle.proof_generations.specs.Beneath.machine_model.specs.declared.roots.RootLine.TheVariants as root
use Rattle.proof_generations.specs.Beneath.machine_model.proofs.Actors.{mark_only, marks_in}
use Rattle.proof_generations.specs.Beneath.machine_model.proofs.Found.{none_found}
use Rattle.proof_generations.specs.Beneath.machine_model.proofs.Times.{along_run, steps_at}
use Rattle.proof_generations.specs.Beneath.proof_memory.proofs.Safety.States.{IsSafe}
use Rattle.proof_generations.specs.Beneath.proof_memory.proofs.Safety.AtEachTime.{safe_at}
use Rattle.proof_generations.specs.Standing.{standing_of, standing, On, IsRooted}
use Rattle.proof_generations.proofs.Handles.Running.{Comes, began, rested, went, comes, gave}
use Rattle.proof_generations.specs.Running.{Runs}
use Rattle.proof_generations.proofs.Roots.Own.{gen, root_goes_on}
use Rattle.proof_generations.proofs.Roots.Along.{IsOrdered, ordered_at, ordered_after, closed_stays}

-- the root behind a standing
pub standing_root : (state : State) (handle : ℕ) (access : Access) (generation : ℕ) → standing state handle ≡ Some (access, generation) →
    (root : Root) × (root_at state handle ≡ Some root) × (root.access ≡ access) × (generation_at state.heap (root_of root.word) ≡ generation)
standing_root state handle access generation e = by (root_at state handle) refl
  where
    by : (o : Option Root) → root_at state handle ≡ o → (root : Root) × (root_at state handle ≡ Some root) × (root.access ≡ access) × (generation_at state.heap (root_of root.word) ≡ generation)
    by None is = absurd (none-some (access, generation) (ap (standing_of state.heap) (sym is) ∙ e))
    by (Some root) is =
        let parts = some_pair_parts root.access access (generation_at state.heap (root_of root.word)) generation (ap (standing_of state.heap) (sym is) ∙ e) in
        (root, is, parts.0, parts.1)

-- and the other way round
stands : (states : ℕ → State) (t handle generation : ℕ) (root : Root) → root_at (states t) handle ≡ Some root → root.access ≡ Writable →
    gen (states t) root ≡ generation → On states t handle generation
stands states t handle generation root is writable its =
    ap (standing_of (states t).heap) is ∙ ap (λ a. Some (a, gen (states t) root)) writable ∙ ap (λ g. Some (Writable, g)) its

-- ---- what ROOT gives

-- it gives the plain root of the word
pub root_given : (state : State) (operation : Operation) (l : RootLine) (r : Ref) → root_after state.heap operation.access (word_at state (handle_of operation.call)) l ≡ Gives r →
    word_at state (handle_of operation.call) ≡ Plain r
root_given state operation root.Read r e = by (word_at state (handle_of operation.call)) e
  where
    by : (word : RootWord) → after_root_word word ≡ Gives r → word ≡ Plain r
    by (Plain q) e = let same : q ≡ r = cc e in ap Plain same
    by (Offer offer) e = let wrong : ⊥ = cc e in absurd wrong
root_given state operation (root.Completing c) r e = absurd (by (complete_after state.heap operation.access (word_at state (handle_of operation.call)) c) e)
  where
    by : (a : After Complete Bool) → after_completing a ≡ Gives r → ⊥
    by (Continues next) e = cc e
    by (Gives done) e = cc e

-- a generation after a step was so before, or is that of the root in the word
given_so : (state : State) (operation : Operation) (a : After RootLine Ref) (g : ℕ) → given_root state a operation.generation ≡ Some g →
    (operation.generation ≡ Some g) ⊎ ((r : Ref) × (a ≡ Gives r) × (generation_at state.heap r ≡ g))
given_so state operation (Continues l) g e = inl e
given_so state operation (Gives r) g e = inr (r, refl, same_Some _ _ e)

GivenFrom : State → Operation → ℕ → Type 0
GivenFrom state operation g = (operation.generation ≡ Some g) ⊎ ((r : Ref) × (word_at state (handle_of operation.call) ≡ Plain r) × (generation_at state.heap r ≡ g))

generation_so : (state : State) (operation : Operation) (l : Line) (g : ℕ) → generation_from state operation l ≡ Some g → GivenFrom state operation g
unfolding GivenFrom
generation_so state operation (line.Root l) g e = elim (given_so state operation (root_after state.heap operation.access (word_at state (handle_of operation.call)) l) g e) [
  | inl before ↦ inl before
  | inr given ↦ inr (given.0, root_given state operation l given.0 given.1, given.2)
]
generation_so state operation l g e = inl e

-- ---- along a run

-- each running operation on a writable handle that has a generation, but a close
abbrev AllRooted : (ℕ → State) → (ℕ → Record) → ℕ → Type 0
AllRooted states records t =
    (k : ℕ) (operation : Operation) (g : ℕ) → Runs (states t) k operation → is_close operation.call ≡ false → operation.access ≡ Writable → operation.generation ≡ Some g →
    IsRooted states records t (handle_of operation.call) g

module _ (states : ℕ → State) (records : ℕ → Record) (t : ℕ) (S : IsSafe (states t)) (I : IsOrdered (states t) (records t)) (count : (states t).steps ≡ t)
    (all : AllRooted states records t) (s : Step) (o : Outcome) (m : Moves (states t) s o (states (suc t)))
    (notes : records (suc t) ≡ noted (records t) (states t).steps (told_in (states t) s)) where
  before_by : (k : ℕ) (was : Operation) (g : ℕ) → Runs (states t) k was → is_close was.call ≡ false → was.access ≡ Writable → GivenFrom (states t) was g →
      IsRooted states records t (handle_of was.call) g
  unfolding GivenFrom
  before_by k was g at_k no_close w (inl same) = all k was g at_k no_close w same
  before_by k was g at_k no_close w (inr (r, word, its)) =
      let (root, found, access) = I.handles.on_open k was at_k no_close in
      inl (stands states t (handle_of was.call) g root found (access ∙ w) (ap (λ x. generation_at (states t).heap (root_of x)) (sym (ap word_of found) ∙ word) ∙ its))

  from_before : (k : ℕ) (found : Operation) (g : ℕ) → Comes (states t) s k found → is_close found.call ≡ false → found.access ≡ Writable →
      found.generation ≡ Some g → IsRooted states records t (handle_of found.call) g
  unfolding GivenFrom
  from_before k found g (began call number is d it) no_close w e = absurd (none-some g (sym (ap (λ (x : Operation). x.generation) it) ∙ e))
  from_before k found g (rested was at_k it other_step) no_close w e =
      let same = it ∙ mark_only (marks_in (states t) s) was in
      subst (λ c. IsRooted states records t (handle_of c) g) (sym (ap (λ (x : Operation). x.call) same))
      (all k was g at_k (ap (λ (x : Operation). is_close x.call) (sym same) ∙ no_close) (ap (λ (x : Operation). x.access) (sym same) ∙ w) (ap (λ (x : Operation). x.generation) (sym same) ∙ e))
  from_before k found g (went was is at_k go it) no_close w e =
      let same = it ∙ mark_only (marks_in (states t) s) (operation_after (states t) was) in
      subst (λ c. IsRooted states records t (handle_of c) g) (sym (ap (λ (x : Operation). x.call) same))
      (before_by k was g at_k (ap (λ (x : Operation). is_close x.call) (sym same) ∙ no_close) (ap (λ (x : Operation). x.access) (sym same) ∙ w)
      (generation_so (states t) was was.line g (ap (λ (x : Operation). x.generation) (sym same) ∙ e)))
  from_before k found g (gave was answer is at_k may it) no_close w e =
      subst (λ c. IsRooted states records t (handle_of c) g) (sym (ap (λ (x : Operation). x.call) it))
      (all k was g at_k (ap (λ (x : Operation). is_close x.call) (sym it) ∙ no_close) (ap (λ (x : Operation). x.access) (sym it) ∙ w) (ap (λ (x : Operation). x.generation) (sym it) ∙ e))

  -- while the handle is open and writable
  rooted_next : (handle generation : ℕ) (now : Root) → root_at (states (suc t)) handle ≡ Some now → now.access ≡ Writable → IsRooted states records t handle generation →
      IsRooted states records (suc t) handle generation
  rooted_next handle generation now e w (inl on) =
      let (root, is_open, writable, its) = standing_root (states t) handle Writable generation on in
      elim (root_goes_on (states t) S I.offers I.handles I.below (records t) (records (suc t)) I.closings I.roots s o (states (suc t)) m notes handle root now is_open writable e w) [
        | inl same ↦ inl (stands states (suc t) handle generation now e w (same ∙ its))
        | inr closed ↦ inr (t, omega arith, ap (closed_at (records (suc t))) (sym its) ∙ closed ∙ ap Some count, on)
      ]
  rooted_next handle generation now e w (inr (c, before, closed, on)) =
      inr (c, omega (arith, before), closed_stays (states t) I.offers (records t) (records (suc t)) s o (states (suc t)) m notes generation c closed, on)

  rooted_after : AllRooted states records (suc t)
  rooted_after k found g at_k no_close w e =
      let (now, is_open, access) = (ordered_after (states t) (records t) S I s o (states (suc t)) m).handles.on_open k found at_k no_close in
      rooted_next (handle_of found.call) g now is_open (access ∙ w) (from_before k found g (comes (states t) s o (states (suc t)) m k found at_k) no_close w e)

-- a running operation's generation was its handle's root's until it was closed
pub rooted_at : {limits : Bounds} {states : ℕ → State} {last : ℕ} (r : IsRun limits states last) (t : ℕ) → t ≤ last → AllRooted states r.records t
unfolding first_state
rooted_at {limits} {states} {last} r =
    along_run r (λ t. AllRooted states r.records t) first
    (λ t lt turn all. turned t (safe_at r t (omega arith)) (ordered_at r t (omega arith)) (steps_at r t (omega arith)) all
    (states (suc t)) refl (r.turn t lt) (r.recorded t lt))
  where
    none_runs : (state : State) → state ≡ first_state limits → (k : ℕ) (operation : Operation) → Runs state k operation → ⊥
    none_runs state is k operation at_k = none_found limits.actors k operation (ap (λ (q : State). get_or q.actors k None) (sym is) ∙ at_k)

    first : AllRooted states r.records zero
    first k operation g at_k no_close w e = absurd (none_runs (states zero) r.first k operation at_k)

    turned : (t : ℕ) → IsSafe (states t) → IsOrdered (states t) (r.records t) → (states t).steps ≡ t → AllRooted states r.records t → (after : State) → after ≡ states (suc t) →
        (turn : Turn (states t) after) → r.records (suc t) ≡ noted_turn turn (r.records t) → AllRooted states r.records (suc t)
    turned t S I count all after is (turns s o m) notes =
        rooted_after states r.records t S I count all s o (subst (λ q. Moves (states t) s o q) is m) notes
