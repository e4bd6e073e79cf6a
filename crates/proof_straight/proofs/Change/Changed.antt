-- Changes of one key: the new main node is made and swapped in.
use Rattle.std.proofs.Common.{◌≡◌, ℕ, suc, ◌+◌, ◌*◌, ◌-◌, ◌<◌, ◌≤◌, true, false, List, length, Option, Some, None, refl, sym, ap, ◌∙◌, subst, arith}
use Rattle.std.proofs.lemmas.Bool.{false≢true}
use Rattle.proof_straight.specs.Vocabulary.{Writable, Call, Node, Indirection, Branch, Single, Tomb, List as Listed, Slot, Ref, IsLive, has_birth, Heap, stored, node_at, main_at, main_of}
use Rattle.proof_straight.specs.Vocabulary.{generation_of, birth_of, flag_of, Change, Operation, after_update, Plain, changed, changed_reply, handle_of, is_close, key_of, begun_operation, State}
use Rattle.proof_straight.specs.Vocabulary.{key_hash, word_at, swapping, Record}
use Rattle.machine_model.specs.declared.actions.Action.TheVariants as act
use Rattle.machine_model.specs.declared.building.BuildLine.TheVariants as build
use Rattle.machine_model.specs.declared.building.Change.TheVariants as change
use Rattle.machine_model.specs.declared.lines.Line.TheVariants as line
use Rattle.machine_model.specs.declared.lines.Purpose.TheVariants as purpose
use Rattle.proof_straight.specs.Recorded.{entrant_with}
use Rattle.proof_straight.specs.Changes.{ChangesTo, changed_main, with_change}
use Rattle.proof_straight.specs.Drafts.{Draft, after_call, with_made}
use Rattle.proof_straight.specs.Places.{read_in}
use Rattle.proof_straight.specs.Recorded.{changed_record}
use Rattle.proof_straight.specs.Running.{ComesTo}
use Rattle.proof_straight.proofs.Steps.Alone.{Alone, on_line}
use Rattle.proof_straight.proofs.Change.Builds.{IsDraft, IsOwn, builds, has_made, node_stays}
use Rattle.proof_straight.proofs.Way.Descent.{IsPath, depth_is, rooted}
use Rattle.proof_straight.proofs.Steps.Going.{Stands, begun_record}
use Rattle.proof_straight.proofs.Steps.Noting.{with_read}
use Rattle.proof_straight.proofs.Change.Recording.{changed_noted}
use Rattle.proof_straight.proofs.Change.Slots.{made_slot}
use Rattle.proof_straight.proofs.Change.SwapsIn.{swapped_ends}

-- what is in use stands
live_by : (birth : ℕ) (o : Option Slot) → has_birth birth o ≡ true → (slot : Slot) × (o ≡ Some slot)
live_by birth None h = absurd (false≢true h)
live_by birth (Some slot) h = (slot, refl)

pub live_stands : (heap : Heap) (r : Ref) → IsLive heap r → (slot : Slot) × (stored heap r ≡ Some slot)
live_stands heap r h = live_by (birth_of r) (stored heap r) h

-- the node is no tomb
abbrev pub IsLasting : Node → Type 0
IsLasting (Tomb single) = ⊥
IsLasting node = Unit {0}

answered : (operation : Operation) (path : List Ref) (former : Option ℕ) (node : Node) → IsLasting node →
    after_update operation path former node ≡ line.End (changed_reply operation.call former)
answered operation path former (Tomb single) lasting = absurd lasting
answered operation path former node lasting = refl

-- a change of a branch or list that doesn't entomb makes a branch or list
abbrev pub IsMain : Node → Type 0
IsMain (Branch bitmap entries) = Unit {0}
IsMain (Listed singles) = Unit {0}
IsMain node = ⊥

abbrev pub IsNoTomb : Change → Type 0
IsNoTomb (change.Entomb single) = ⊥
IsNoTomb c = Unit {0}

pub changed_lasting : (flag : ℕ) (node : Node) (c : Change) → IsMain node → IsNoTomb c → IsLasting (changed flag node c)
changed_lasting flag (Branch bitmap entries) (change.Insert single) m t = tt
changed_lasting flag (Branch bitmap entries) (change.Update position entry) m t = tt
changed_lasting flag (Branch bitmap entries) (change.Remove position) m t = tt
changed_lasting flag (Branch bitmap entries) (change.Entomb single) m t = absurd t
changed_lasting flag (Listed singles) (change.Insert single) m t = tt
changed_lasting flag (Listed singles) (change.Update position entry) m t = tt
changed_lasting flag (Listed singles) (change.Remove position) m t = tt
changed_lasting flag (Listed singles) (change.Entomb single) m t = absurd t
changed_lasting flag (Indirection generation main) c m t = absurd m
changed_lasting flag (Single key value) c m t = absurd m
changed_lasting flag (Tomb single) c m t = absurd m

-- the same in other numbers
pub so_many : (state : State) (past : Record) (actor : ℕ) (call : Call) (root : Ref) (depth : ℕ) (former : Option ℕ) (draft : Draft) (n m : ℕ) → n ≡ m →
    ChangesTo state past actor call root depth n former draft → ChangesTo state past actor call root depth m former draft
so_many state past actor call root depth former draft n m same h = subst (λ c. ChangesTo state past actor call root depth c former draft) same h

module _ (state : State) (past : Record) (k : ℕ) (call : Call) (root : Ref) (alone : Alone state k) (word : word_at state (handle_of call) ≡ Plain root)
    (writable : (begun_operation state call None).access ≡ Writable) (fits : k < length past.moments) (stays_open : is_close call ≡ false) where
  -- what is recorded by the time at which the key's place is found, at this depth
  abbrev pub looked_record : ℕ → Ref → Record
  looked_record depth indirection = with_read (begun_record state past k call) k (state.steps + suc (4 * depth + 1)) (main_at state.heap indirection)

  -- from the line that makes the main node to the end
  pub changes_main : (draft : Draft) (path : List Ref) (depth : ℕ) (indirection : Ref) (c : Change) (former : Option ℕ) (n : ℕ) → IsDraft state draft → 1 ≤ length draft.heap.free →
      IsPath path depth indirection → IsOwn state.heap root indirection → IsLive state.heap (main_at state.heap indirection) → IsLasting (changed_main state call depth indirection c) →
      Stands state past k call (looked_record depth indirection) state draft (on_line (rooted state call root) draft (line.Build (build.Main path (main_at state.heap indirection) c former))) n →
      state.steps + (n + 6) + 2 ≤ state.limits.steps → ChangesTo state past (suc k) call root depth (n + 6) former (with_change state call depth indirection draft c)
  changes_main draft path depth indirection c former n h enough is own live lasting before lasts =
      let main = main_at state.heap indirection in
      let (slot, main_stands) = live_stands state.heap main live in
      let node = changed_main state call depth indirection c in
      let made = has_made state draft node h enough in
      let after = with_made state draft node in
      let answer = changed_reply call former in
      let all = with_change state call depth indirection draft c in
      so_many state past (suc k) call root depth former all (suc n + 5) (n + 6) (omega arith)
      (subst (λ r. ComesTo state past (suc k) call (suc n + 5) answer (after_call state all (suc n + 5 + 2)) r)
      (changed_noted state past k call root (state.steps + suc (4 * depth + 1)) (state.steps + suc (suc n)) (state.steps + suc (suc (suc (suc (suc n))))) main after.newest answer fits stays_open
      ∙ ap (λ step. changed_record past state (suc k) call root step (state.steps + suc (suc (suc (suc (suc n))))) after.newest answer) (read_step depth)
      ∙ ap (λ step. changed_record past state (suc k) call root (read_in state depth) step after.newest answer) (commit_step n))
      (swapped_ends state past k call root alone word writable after indirection main (purpose.Update path former) (Some (entrant_with state call root)) (line.End answer) own.over
      (made_slot draft.heap node)
      (made.is.stays indirection own.over own.stands) made.newest (made.apart indirection own.over own.stands)
      (ap main_of (node_stays state after indirection own.over made.is own.stands))
      (ap generation_of (node_stays state after indirection own.over made.is own.stands) ∙ own.licensed ∙ sym (ap generation_of (node_stays state after root own.top made.is own.root_stands)))
      (λ d l. refl) (λ d l. answered (on_line (rooted state call root) d l) path former node lasting) (suc n) answer refl
      (builds state past k call root alone draft (build.Main path main c former) node (line.Swap (purpose.Update path former) (swapping indirection main after.newest)) n h enough before
      (ap (λ d. act.Make (changed (flag_of (key_hash state (key_of call)) d) (node_at draft.heap main) c)) (depth_is path depth indirection is)
      ∙ ap (λ x. act.Make (changed (flag_of (key_hash state (key_of call)) depth) x c)) (node_stays state draft main slot h main_stands))
      (ap (λ i. line.Swap (purpose.Update path former) (swapping i main after.newest)) is.current))
      (omega (arith, lasts))))
    where
      read_step : (depth : ℕ) → state.steps + suc (4 * depth + 1) ≡ read_in state depth
      read_step depth = omega arith

      commit_step : (n : ℕ) → state.steps + suc (suc (suc (suc (suc n)))) ≡ state.steps + (suc n + 5 - 1)
      commit_step n = omega arith
