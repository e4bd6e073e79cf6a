-- What is known of a main node that is about to be swapped in, and of those over which others stand.
use Rattle.std.proofs.Common.{◌≡◌, ℕ, List, Option, Some, refl, sym, ap, subst, ◌∙◌, arith}
use Rattle.std.proofs.lemmas.Option.{none-some, same_Some}
use Rattle.proof_garbage.specs.Beneath.slot_arena.specs.declared.refs.Ref.{Ref}
use Rattle.proof_garbage.specs.Beneath.slot_arena.specs.declared.nodes.Node.TheVariants.{Indirection}
use Rattle.proof_garbage.specs.Beneath.slot_arena.specs.declared.nodes.Prev.TheVariants as prev
use Rattle.proof_garbage.specs.Beneath.slot_arena.specs.declared.nodes.Slot.{Slot}
use Rattle.proof_garbage.specs.Beneath.slot_arena.specs.Heaps.{prev_at, node_at, main_at, main_of}
use Rattle.proof_garbage.specs.Beneath.machine_model.specs.declared.actions.Action.TheVariants as act
use Rattle.proof_garbage.specs.Beneath.machine_model.specs.declared.lines.Line.{Line}
use Rattle.proof_garbage.specs.Beneath.machine_model.specs.declared.lines.Purpose.{Purpose}
use Rattle.proof_garbage.specs.Beneath.machine_model.specs.declared.reading.Read.{Read}
use Rattle.proof_garbage.specs.Beneath.machine_model.specs.declared.reading.ReadLine.TheVariants as read
use Rattle.proof_garbage.specs.Beneath.machine_model.specs.declared.reading.SwapLine.{SwapLine}
use Rattle.proof_garbage.specs.Beneath.machine_model.specs.declared.reading.SwapLine.TheVariants as swap
use Rattle.proof_garbage.specs.Beneath.machine_model.specs.Operations.{action_of, read_of, swapping_read}
use Rattle.proof_garbage.specs.Beneath.proof_commits.proofs.Lines.Swap.{reads_stage}
use Rattle.proof_garbage.specs.Beneath.machine_model.specs.declared.lines.Line.TheVariants as line
use Rattle.proof_garbage.specs.Beneath.machine_model.specs.declared.operations.Operation.{Operation}
use Rattle.proof_garbage.specs.Beneath.machine_model.specs.declared.steps.Bounds.{Bounds}
use Rattle.proof_garbage.specs.Beneath.machine_model.specs.declared.steps.Step.{Step}
use Rattle.proof_garbage.specs.Beneath.machine_model.specs.Grown.{standing, node_under}
use Rattle.proof_garbage.specs.Beneath.machine_model.specs.Machine.{AreBounds, run}
use Rattle.proof_garbage.specs.Beneath.machine_model.specs.States.{State, operation_of}
use Rattle.proof_garbage.specs.Beneath.machine_model.specs.Swapping.{swapping}
use Rattle.proof_garbage.specs.Beneath.machine_model.proofs.Grown.{node_grown, node_standing, prev_grown}
use Rattle.proof_garbage.specs.Beneath.machine_model.proofs.Times.{run_ends}
use Rattle.proof_garbage.specs.Beneath.proof_memory.specs.Laws.{IsInUse}
use Rattle.proof_garbage.specs.Beneath.proof_memory.proofs.Claims.Reads.{read_claims}
use Rattle.proof_garbage.specs.Beneath.proof_memory.proofs.Claims.Uses.{safe_of}
use Rattle.proof_garbage.specs.Beneath.proof_memory.proofs.Safety.AtEachTime.{safe_along}
use Rattle.proof_garbage.specs.Beneath.proof_memory.proofs.Safety.AtTimes.{line_finds}
use Rattle.proof_garbage.specs.Beneath.proof_memory.specs.Wants.{is_indirection}
use Rattle.proof_garbage.specs.Beneath.proof_commits.specs.Protocol.{Publishes, Reads, Words}
use Rattle.proof_garbage.specs.Beneath.proof_commits.specs.Stages.{stage_of, stage_of_swap, stage_of_actor}
use Rattle.proof_garbage.specs.Beneath.proof_commits.proofs.Known.Owners.{HasFresh, IsSound, Staged}
use Rattle.proof_garbage.specs.Beneath.proof_commits.proofs.Known.Sounds.{sound_at}
use Rattle.proof_garbage.specs.Beneath.proof_commits.proofs.Words.Along.{protocol}
use Rattle.proof_garbage.specs.Beneath.proof_commits.proofs.Words.Stood.{IsOver, Private, Stood, none≢pending, stands_now}
use Rattle.proof_garbage.proofs.Restoring.{states, last, known, w, staged, on_line, deciding, stood_deciding}
use Rattle.proof_garbage.proofs.Pending.{StageNames, LineNames, names_at}

-- what the READ of a line names
names_swap : (w : Words) (t : ℕ) (i a f : Ref) (l : SwapLine) (r : Read) → swapping_read i l ≡ Some r → StageNames w t (stage_of_swap i a f l) → LineNames w t r.line
names_swap w t i a f (swap.Deciding x) r is h = subst (λ (q : Read). LineNames w t q.line) (same_Some (record { indirection = i; line = x }) r is) h
names_swap w t i a f swap.Publish r is h = absurd (none-some r is)
names_swap w t i a f swap.Check r is h = absurd (none-some r is)

names_stage : (w : Words) (t : ℕ) (l : Line) (r : Read) → stage_of l ≡ Reads r.indirection r.line → StageNames w t (stage_of l) → LineNames w t r.line
names_stage w t l r e h = subst (StageNames w t) e h

names_line : (w : Words) (t : ℕ) (l : Line) (r : Read) → read_of l ≡ Some r → StageNames w t (stage_of l) → LineNames w t r.line
names_line w t (line.Swap why s) r is h = names_swap w t s.indirection s.replaced s.fresh s.line r is h
names_line w t l r is h = names_stage w t l r (reads_stage l r tt is) h

module _ (limits : Bounds) (steps : List Step) (ok : AreBounds limits) where
  abbrev state : State
  state = run limits steps

  abbrev words : Words
  words = w limits steps ok

  abbrev end : ℕ
  end = last limits steps ok

  pub sound : IsSound words end
  sound = sound_at (protocol limits (states limits steps ok) end (known limits steps ok)) end (omega arith)

  -- ---- what words say of what is in use

  there : (r : Ref) (slot : Slot) → standing state.heap r ≡ Some slot → standing (states limits steps ok end).heap r ≡ Some slot
  there r slot e = ap (λ (s : State). standing s.heap r) (run_ends limits steps) ∙ e

  pub prev_word_of : (r : Ref) → IsInUse state.heap r → words.prev end r ≡ prev_at state.heap r
  prev_word_of r (slot, e) = sym (prev_grown (states limits steps ok) end r slot (there r slot e)) ∙ ap (λ (s : State). prev_at s.heap r) (run_ends limits steps)

  pub node_word_of : (r : Ref) (slot : Slot) → standing state.heap r ≡ Some slot → node_under (states limits steps ok) end r ≡ slot.node
  node_word_of r slot e =
      sym (node_grown (states limits steps ok) end r slot (there r slot e)) ∙ ap (λ (s : State). node_at s.heap r) (run_ends limits steps) ∙ node_standing state.heap r slot e

  -- ---- what a main node stands over is decided

  pub below_decided : (m p : Ref) → IsInUse state.heap m → IsOver (prev_at state.heap m) p → IsInUse state.heap p → prev_at state.heap p ≡ prev.None
  below_decided m p used over below =
      sym (prev_word_of p below) ∙ (sound.words.over m p (subst (λ v. IsOver v p) (sym (prev_word_of m used)) over)).none

  -- ---- a fresh main node

  module _ (actor : ℕ) (operation : Operation) (i a f : Ref) (why : Purpose) (runs : operation_of state actor ≡ Some operation) (on : operation.line ≡ line.Swap why (swapping i a f)) where
    pub fresh : Private words end f
    fresh = (subst (λ l. Staged words end actor (stage_of l)) on (staged limits steps ok actor operation runs)).0

    pub its_stage : words.stage end actor ≡ Publishes i a f
    its_stage = ap (λ (s : State). stage_of_actor (operation_of s actor)) (run_ends limits steps) ∙ ap stage_of_actor runs ∙ ap stage_of on

    -- it is decided
    pub fresh_decided : IsInUse state.heap f → prev_at state.heap f ≡ prev.None
    fresh_decided used = sym (prev_word_of f used) ∙ fresh.none

    -- and stands in no main word
    pub fresh_nowhere : (j : Ref) (slot : Slot) (generation : ℕ) → standing state.heap j ≡ Some slot → slot.node ≡ Indirection generation f → ⊥
    fresh_nowhere j slot generation stands is =
        let node : node_under (states limits steps ok) end j ≡ Indirection generation f = node_word_of j slot stands ∙ is in
        fresh.apart j (stands_now {t = end} (ap is_indirection node) (ap main_of node))

  -- no two operations are about to swap one in
  pub fresh_apart : (actor other : ℕ) (o p : Operation) (i a j b f : Ref) (why because : Purpose) → operation_of state actor ≡ Some o → operation_of state other ≡ Some p →
      o.line ≡ line.Swap why (swapping i a f) → p.line ≡ line.Swap because (swapping j b f) → (actor ≡ other → ⊥) → ⊥
  fresh_apart actor other o p i a j b f why because is_o is_p on_o on_p apart =
      sound.apart actor other f apart (subst (λ s. HasFresh s f) (sym (its_stage actor o i a f why is_o on_o)) refl) (subst (λ s. HasFresh s f) (sym (its_stage other p j b f because is_p on_p)) refl)

  -- ---- a pending main node

  -- it stands in the one indirection in which it stood
  stood_stands : (i main : Ref) → Stood words end i main → IsInUse state.heap i → IsInUse state.heap main → (q : Ref) → prev_at state.heap main ≡ prev.Pending q → main_at state.heap i ≡ main
  stood_stands i main stood (slot, stands) used q pending =
      let pends = prev_word_of main used ∙ pending in
      let owner = sound.owned main q pends in
      let same = sound.words.one_word main owner.link i (λ none. none≢pending none pends) (stands_now owner.is_link owner.stands) stood in
      ap main_of (node_standing state.heap i slot stands ∙ sym (node_word_of i slot stands)) ∙ subst (λ j. words.main end j ≡ main) same owner.stands

  -- so does one whose prev word is read next
  pub reading_stands : (actor : ℕ) (operation : Operation) (i main : Ref) → operation_of state actor ≡ Some operation →
      read_of operation.line ≡ Some (record { indirection = i; line = read.Prev main }) →
      (q : Ref) → prev_at state.heap main ≡ prev.Pending q → main_at state.heap i ≡ main
  reading_stands actor operation i main runs reads q pending =
      let its_read : Read = record { indirection = i; line = read.Prev main } in
      let found = line_finds state (safe_along limits ok steps) actor operation runs in
      let claims = read_claims (IsInUse state.heap) state.heap its_read state.limits.hash operation.call operation.access operation.line reads found in
      stood_stands i main (on_line words end actor operation.line _ reads (staged limits steps ok actor operation runs)) (safe_of claims.0) (safe_of claims.1.0) q pending

  -- ---- a main node that is about to be decided

  module _ (actor : ℕ) (operation : Operation) (i main previous : Ref) (told : Option ℕ) (runs : operation_of state actor ≡ Some operation)
      (is : action_of state operation ≡ act.Decide i main previous told) where
    stood : Stood words end i main
    stood = stood_deciding limits steps ok actor operation i main previous told runs is

    names : StageNames words end (stage_of operation.line)
    names =
        subst (λ x. StageNames words end (stage_of_actor x)) (ap (λ (s : State). operation_of s actor) (run_ends limits steps) ∙ runs)
        (names_at (protocol limits (states limits steps ok) end (known limits steps ok)) end (omega arith) actor)

    -- while it is pending it is so over the one that is named
    pub deciding_over : IsInUse state.heap main → (q : Ref) → prev_at state.heap main ≡ prev.Pending q → q ≡ previous
    deciding_over used q pending =
        let its_read : Read = record { indirection = i; line = read.Decide main previous told } in
        names_line words end operation.line its_read (deciding limits steps ok actor operation i main previous told runs is) names q (prev_word_of main used ∙ pending)

    -- and stands in that indirection
    pub deciding_stands : IsInUse state.heap i → IsInUse state.heap main → (q : Ref) → prev_at state.heap main ≡ prev.Pending q → main_at state.heap i ≡ main
    deciding_stands = stood_stands i main stood

    -- nobody is about to swap it in
    pub deciding_met : (other : ℕ) (p : Operation) (j a : Ref) (why : Purpose) → operation_of state other ≡ Some p → p.line ≡ line.Swap why (swapping j a main) → ⊥
    deciding_met other p j a why is_p on = (fresh other p j a main why is_p on).apart i stood
