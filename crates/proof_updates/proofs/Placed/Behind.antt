-- On which lines an operation has its place, and what it may be about to answer: that no slot was free, the reply of what has its place, or a reply that is
-- right.
use Rattle.std.proofs.Common.{◌≡◌, ℕ, ◌-◌, List, true, false, true≢false, Bool, Option, sym, arith, Some, refl}
use Rattle.proof_updates.specs.Vocabulary.{Reply, Ref, Node, node_at, entry_at, next_ref, BuildLine, CopyLine, KeyLine, After, Read, Climb, CleanLine, ClimbLine, RenewLine, WalkLine, SwapLine}
use Rattle.proof_updates.specs.Vocabulary.{RootLine, Line, Operation, State, word_at, handle_of, read_step, root_after, build_after, clean_after, climb_after_read, climb_after_main}
use Rattle.proof_updates.specs.Vocabulary.{climb_after_contracted, climb_after_root, climb_after, copy_after, key_after_read, key_after_main, key_after_entry, after_listed, after_sibling, key_after}
use Rattle.proof_updates.specs.Vocabulary.{renew_after, line_after, after_update, swapped, prev_word, is_placed, Record, given_up, swap_given_up, unless_effect, tells_effect, Purpose, Call}
use Rattle.proof_updates.specs.Vocabulary.{IsPublished}
use Rattle.proof_updates.specs.Beneath.history.specs.declared.replies.Reply.TheVariants as reply
use Rattle.proof_updates.specs.Beneath.slot_arena.specs.declared.nodes.Prev.TheVariants as prev
use Rattle.proof_updates.specs.Beneath.machine_model.specs.declared.finding.KeyLine.TheVariants as key
use Rattle.proof_updates.specs.Beneath.machine_model.specs.declared.repairs.ClimbLine.TheVariants as climb
use Rattle.proof_updates.specs.Beneath.machine_model.specs.declared.reading.SwapLine.TheVariants as swap
use Rattle.proof_updates.specs.Beneath.machine_model.specs.declared.copying.CopyLine.TheVariants as copy
use Rattle.proof_updates.specs.Beneath.machine_model.specs.declared.lines.Purpose.TheVariants as purpose
use Rattle.proof_updates.specs.Beneath.machine_model.specs.declared.lines.Line.TheVariants as line
use Rattle.std.proofs.lemmas.Option.{none-some, same_Some}

-- ---- what an answer may be

pub data EndsSo (records : ℕ → Record) (t id : ℕ) (Right : Reply → Type 0) (answer : Reply) : Type 0 where
  refused : answer ≡ reply.NoSlots → EndsSo records t id Right answer
  has_place : is_placed (records t) id ≡ true → EndsSo records t id Right answer
  is_right : Right answer → EndsSo records t id Right answer

-- of the line of an operation with this id; Walks says what a line of a walk knows
abbrev pub Behind : (ℕ → State) → (ℕ → Record) → ℕ → ℕ → (Reply → Type 0) → (WalkLine → Type 0) → Line → Type 0
Behind states records t id Right Walks (line.Swap (purpose.Update path former) s) = IsPublished s.line → prev_word states t s.fresh ≡ prev.None → is_placed (records t) id ≡ true
Behind states records t id Right Walks (line.Swap (purpose.Climb c) s) = is_placed (records t) id ≡ true
Behind states records t id Right Walks (line.Swap why s) = Unit {0}
Behind states records t id Right Walks (line.Climb l) = is_placed (records t) id ≡ true
Behind states records t id Right Walks (line.End answer) = EndsSo records t id Right answer
Behind states records t id Right Walks (line.Walk l) = Walks l
Behind states records t id Right Walks l = Unit {0}

-- who gives up is refused, or answered in its climb, where it has its place
swap_gave_up : (call : Call) (why : Purpose) (records : ℕ → Record) (t id : ℕ) (Right : Reply → Type 0) (answer : Reply) (l : SwapLine) → swap_given_up call why l ≡ Some answer →
    ((c : Climb) → why ≡ purpose.Climb c → is_placed (records t) id ≡ true) → EndsSo records t id Right answer
swap_gave_up call (purpose.Climb c) records t id Right answer swap.Publish e placed = has_place (placed c refl)
swap_gave_up call (purpose.Climb c) records t id Right answer (swap.Deciding l) e placed = absurd (none-some answer e)
swap_gave_up call (purpose.Climb c) records t id Right answer swap.Check e placed = absurd (none-some answer e)
swap_gave_up call (purpose.Update path former) records t id Right answer swap.Publish e placed = refused (sym (same_Some _ _ e))
swap_gave_up call (purpose.Update path former) records t id Right answer (swap.Deciding l) e placed = absurd (none-some answer e)
swap_gave_up call (purpose.Update path former) records t id Right answer swap.Check e placed = absurd (none-some answer e)
swap_gave_up call (purpose.Renew path) records t id Right answer swap.Publish e placed = refused (sym (same_Some _ _ e))
swap_gave_up call (purpose.Renew path) records t id Right answer (swap.Deciding l) e placed = absurd (none-some answer e)
swap_gave_up call (purpose.Renew path) records t id Right answer swap.Check e placed = absurd (none-some answer e)
swap_gave_up call purpose.Clean records t id Right answer swap.Publish e placed = refused (sym (same_Some _ _ e))
swap_gave_up call purpose.Clean records t id Right answer (swap.Deciding l) e placed = absurd (none-some answer e)
swap_gave_up call purpose.Clean records t id Right answer swap.Check e placed = absurd (none-some answer e)

end_gave_up : (records : ℕ → Record) (t id : ℕ) (Right : Reply → Type 0) (answer : Reply) (b : Bool) → unless_effect b ≡ Some answer → EndsSo records t id Right answer
end_gave_up records t id Right answer true e = absurd (none-some answer e)
end_gave_up records t id Right answer false e = refused (sym (same_Some _ _ e))

pub behind_given_up : (states : ℕ → State) (records : ℕ → Record) (t id : ℕ) (Right Now : Reply → Type 0) (Walks : WalkLine → Type 0) (call : Call) (l : Line) (answer : Reply) →
    given_up call l ≡ Some answer → Behind states records t id Right Walks l → EndsSo records t id Now answer
behind_given_up states records t id Right Now Walks call (line.Swap (purpose.Climb c) s) answer e h = swap_gave_up call (purpose.Climb c) records t id Now answer s.line e (λ d same. h)
behind_given_up states records t id Right Now Walks call (line.Swap (purpose.Update path former) s) answer e h =
    swap_gave_up call (purpose.Update path former) records t id Now answer s.line e (λ c same. let wrong : ⊥ = cc same in absurd wrong)
behind_given_up states records t id Right Now Walks call (line.Swap (purpose.Renew path) s) answer e h =
    swap_gave_up call (purpose.Renew path) records t id Now answer s.line e (λ c same. let wrong : ⊥ = cc same in absurd wrong)
behind_given_up states records t id Right Now Walks call (line.Swap purpose.Clean s) answer e h =
    swap_gave_up call purpose.Clean records t id Now answer s.line e (λ c same. let wrong : ⊥ = cc same in absurd wrong)
behind_given_up states records t id Right Now Walks call (line.Climb l) answer e h = has_place h
behind_given_up states records t id Right Now Walks call (line.End told) answer e h = end_gave_up records t id Now answer (tells_effect call told) e
behind_given_up states records t id Right Now Walks call (line.Copy (copy.Complete c)) answer e h = absurd (none-some answer e)
behind_given_up states records t id Right Now Walks call (line.Copy l) answer e h = refused (sym (same_Some _ _ e))
behind_given_up states records t id Right Now Walks call line.Impossible answer e h = absurd (none-some answer e)
behind_given_up states records t id Right Now Walks call (line.Root l) answer e h = refused (sym (same_Some _ _ e))
behind_given_up states records t id Right Now Walks call (line.Key l) answer e h = refused (sym (same_Some _ _ e))
behind_given_up states records t id Right Now Walks call (line.Build l) answer e h = refused (sym (same_Some _ _ e))
behind_given_up states records t id Right Now Walks call (line.Renew l) answer e h = refused (sym (same_Some _ _ e))
behind_given_up states records t id Right Now Walks call (line.Clean l) answer e h = refused (sym (same_Some _ _ e))
behind_given_up states records t id Right Now Walks call (line.Walk l) answer e h = refused (sym (same_Some _ _ e))

-- ---- kinds of lines

abbrev is_publish : SwapLine → Bool
is_publish swap.Publish = true
is_publish l = false

abbrev is_refusal : Reply → Bool
is_refusal reply.NoSlots = true
is_refusal answer = false

-- nothing is committed, and nothing answered but a refusal
abbrev pub is_plain : Line → Bool
is_plain (line.Swap (purpose.Update path former) s) = is_publish s.line
is_plain (line.Swap (purpose.Climb c) s) = false
is_plain (line.Climb l) = false
is_plain (line.Walk l) = false
is_plain (line.End answer) = is_refusal answer
is_plain l = true

-- it neither swaps nor climbs nor walks
abbrev pub is_still : Line → Bool
is_still (line.Swap why s) = false
is_still (line.Climb l) = false
is_still (line.Walk l) = false
is_still l = true

-- it climbs, or ends
abbrev pub is_climbing : Line → Bool
is_climbing (line.Swap (purpose.Climb c) s) = true
is_climbing (line.Climb l) = true
is_climbing (line.End answer) = true
is_climbing line.Impossible = true
is_climbing l = false

abbrev pub is_completing : CopyLine → Bool
is_completing (copy.Complete c) = true
is_completing l = false

module _ (state : State) (operation : Operation) where
  pub root_plain : (l : RootLine) → is_plain (line_after state operation (line.Root l)) ≡ true
  root_plain l = grind arith

  pub build_plain : (l : BuildLine) → is_plain (build_after state operation l) ≡ true
  build_plain l = grind arith

  pub renew_plain : (l : RenewLine) → is_plain (renew_after state operation l) ≡ true
  renew_plain l = grind arith

  pub clean_plain : (l : CleanLine) → is_plain (clean_after state operation l) ≡ true
  clean_plain l = grind arith

  pub copy_plain : (l : CopyLine) → is_completing l ≡ false → is_plain (copy_after state operation l) ≡ true
  copy_plain l e = grind arith

  read_still : (path : List Ref) (after : After Read Ref) → is_still (key_after_read path after) ≡ true
  read_still path after = grind arith

  main_still : (path : List Ref) (main : Ref) (n : Node) → is_still (key_after_main state operation path main n) ≡ true
  main_still path main n = grind arith

  entry_still : (path : List Ref) (main : Ref) (position : ℕ) (n : Node) → is_still (key_after_entry state operation path main position n) ≡ true
  entry_still path main position n = grind arith

  listed_still : (path : List Ref) (main : Ref) (position : ℕ) (n : Node) → is_still (after_listed state operation path main position n) ≡ true
  listed_still path main position n = grind arith

  sibling_still : (path : List Ref) (main : Ref) (position former : ℕ) (other : Ref) (n : Node) → is_still (after_sibling path main position former other n) ≡ true
  sibling_still path main position former other n = grind arith

  pub key_still : (l : KeyLine) → is_still (key_after state operation l) ≡ true
  key_still (key.Read path r) = read_still path (read_step state operation r)
  key_still (key.Main path main) = main_still path main (node_at state.heap main)
  key_still (key.Entry path main position) = entry_still path main position (node_at state.heap (entry_at state.heap main position))
  key_still (key.Listed path main position) = listed_still path main position (node_at state.heap (entry_at state.heap main position))
  key_still (key.Sibling path main position former) =
      sibling_still path main position former (entry_at state.heap main (1 - position)) (node_at state.heap (entry_at state.heap main (1 - position)))

  climb_read : (c : Climb) (after : After Read Ref) → is_climbing (climb_after_read c after) ≡ true
  climb_read c after = grind arith

  climb_main : (c : Climb) (main : Ref) (n : Node) → is_climbing (climb_after_main state operation c main n) ≡ true
  climb_main c main n = grind arith

  climb_made : (c : Climb) (main : Ref) (made : Option Ref) → is_climbing (climb_after_contracted operation c main made) ≡ true
  climb_made c main made = grind arith

  climb_root : (c : Climb) (after : After RootLine Ref) → is_climbing (climb_after_root state operation c after) ≡ true
  climb_root c after = grind arith

  pub climb_climbs : (l : ClimbLine) → is_climbing (climb_after state operation l) ≡ true
  climb_climbs (climb.Read c read) = climb_read c (read_step state operation read)
  climb_climbs (climb.Main c main) = climb_main c main (node_at state.heap main)
  climb_climbs (climb.Contracted c main) = climb_made c main (next_ref state.heap)
  climb_climbs (climb.Root c l) = climb_root c (root_after state.heap operation.access (word_at state (handle_of operation.call)) l)

pub update_climbs : (operation : Operation) (path : _) (former : Option ℕ) (n : Node) → is_climbing (after_update operation path former n) ≡ true
update_climbs operation path former n = grind arith

pub climbed_climbs : (operation : Operation) (c : Climb) (n : Node) (done : Bool) → is_climbing (swapped operation n (purpose.Climb c) done) ≡ true
climbed_climbs operation c n done = grind arith

-- ---- what is behind such lines

module _ (states : ℕ → State) (records : ℕ → Record) (t id : ℕ) (Right : Reply → Type 0) (Walks : WalkLine → Type 0) where
  refusal : (answer : Reply) → is_refusal answer ≡ true → answer ≡ reply.NoSlots
  refusal answer e = grind arith

  unpublished : (l : SwapLine) → is_publish l ≡ true → IsPublished l → ⊥
  unpublished swap.Publish e h = h
  unpublished (swap.Deciding l) e h = true≢false (sym e)
  unpublished swap.Check e h = true≢false (sym e)

  pub plain_behind : (l : Line) → is_plain l ≡ true → Behind states records t id Right Walks l
  plain_behind (line.Swap (purpose.Update path former) s) e = λ published none. absurd (unpublished s.line e published)
  plain_behind (line.Swap (purpose.Renew path) s) e = tt
  plain_behind (line.Swap purpose.Clean s) e = tt
  plain_behind (line.Swap (purpose.Climb c) s) e = absurd (true≢false (sym e))
  plain_behind (line.Climb l) e = absurd (true≢false (sym e))
  plain_behind (line.End answer) e = refused (refusal answer e)
  plain_behind (line.Root l) e = tt
  plain_behind (line.Key l) e = tt
  plain_behind (line.Build l) e = tt
  plain_behind (line.Renew l) e = tt
  plain_behind (line.Clean l) e = tt
  plain_behind (line.Copy l) e = tt
  plain_behind (line.Walk l) e = absurd (true≢false (sym e))
  plain_behind line.Impossible e = tt

  pub climbing_behind : (l : Line) → is_climbing l ≡ true → is_placed (records t) id ≡ true → Behind states records t id Right Walks l
  climbing_behind (line.Swap (purpose.Climb c) s) e is = is
  climbing_behind (line.Swap (purpose.Update path former) s) e is = absurd (true≢false (sym e))
  climbing_behind (line.Swap (purpose.Renew path) s) e is = absurd (true≢false (sym e))
  climbing_behind (line.Swap purpose.Clean s) e is = absurd (true≢false (sym e))
  climbing_behind (line.Climb l) e is = is
  climbing_behind (line.End answer) e is = has_place is
  climbing_behind (line.Root l) e is = tt
  climbing_behind (line.Key l) e is = tt
  climbing_behind (line.Build l) e is = tt
  climbing_behind (line.Renew l) e is = tt
  climbing_behind (line.Clean l) e is = tt
  climbing_behind (line.Copy l) e is = tt
  climbing_behind (line.Walk l) e is = absurd (true≢false (sym e))
  climbing_behind line.Impossible e is = tt

  -- what a still line answers is right, if it ends
  abbrev pub IfEnds : Line → Type 0
  IfEnds (line.End answer) = Right answer
  IfEnds l = Unit {0}

  pub still_behind : (l : Line) → is_still l ≡ true → IfEnds l → Behind states records t id Right Walks l
  still_behind (line.Swap why s) e h = absurd (true≢false (sym e))
  still_behind (line.Climb l) e h = absurd (true≢false (sym e))
  still_behind (line.End answer) e h = is_right h
  still_behind (line.Root l) e h = tt
  still_behind (line.Key l) e h = tt
  still_behind (line.Build l) e h = tt
  still_behind (line.Renew l) e h = tt
  still_behind (line.Clean l) e h = tt
  still_behind (line.Copy l) e h = tt
  still_behind (line.Walk l) e h = absurd (true≢false (sym e))
  still_behind line.Impossible e h = tt

-- later
pub later_behind : (records : ℕ → Record) (t u id : ℕ) (Right Right' : Reply → Type 0) → (is_placed (records t) id ≡ true → is_placed (records u) id ≡ true) →
    ((answer : Reply) → Right answer → Right' answer) → (answer : Reply) → EndsSo records t id Right answer → EndsSo records u id Right' answer
later_behind records t u id Right Right' more same answer (refused e) = refused e
later_behind records t u id Right Right' more same answer (has_place is) = has_place (more is)
later_behind records t u id Right Right' more same answer (is_right h) = is_right (same answer h)
