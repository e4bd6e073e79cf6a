-- Past its own commit an operation goes to its end alone: line by line.
use Rattle.std.proofs.Common.{◌≡◌, ℕ, suc, Bool, true, false, cond, List, Option, Some, None, refl, ap}
use Rattle.proof_order.specs.Vocabulary.{Ref, Node, Tomb, Branch, Prev, node_at, prev_at, generation_at, next_ref, Line, Operation, After, Gives, Read, ReadLine, Swap, SwapLine, Climb, ClimbLine}
use Rattle.proof_order.specs.Vocabulary.{RootLine, handle_of, changed_reply, State, word_at, is_start, is_below_root, current, above, read_step, read_after, reading, after_deciding, on_line}
use Rattle.proof_order.specs.Vocabulary.{root_after, after_check, climbing, climbed, climb_after_read, climb_after_main, climb_after_contracted, climb_after_root, holds_it, higher, line_after}
use Rattle.proof_order.specs.Vocabulary.{line_action, after_update, climbed_on, GoesOn, prev_word}
use Rattle.proof_order.specs.Beneath.slot_arena.specs.declared.nodes.Prev.TheVariants as prev
use Rattle.proof_order.specs.Beneath.machine_model.specs.declared.lines.Line.TheVariants as line
use Rattle.proof_order.specs.Beneath.machine_model.specs.declared.lines.Purpose.TheVariants as purpose
use Rattle.proof_order.specs.Beneath.machine_model.specs.declared.reading.After.TheVariants.{Goes as Continues}
use Rattle.proof_order.specs.Beneath.machine_model.specs.declared.reading.SwapLine.TheVariants as swap
use Rattle.proof_order.specs.Beneath.machine_model.specs.declared.repairs.ClimbLine.TheVariants as climb
use Rattle.proof_order.specs.Beneath.machine_model.specs.Swapping.{after_swap as swap_line_after}
use Rattle.proof_order.specs.Beneath.machine_model.specs.Operations.{after_swap}
use Rattle.proof_order.specs.Phases.{IsPastAt, IsPublished, former_of}

module _ (states : ℕ → State) (t : ℕ) (operation : Operation) (former : Option ℕ) where
  -- the line lies past the commit
  abbrev Past : Line → Type 0
  Past l = IsPastAt states (suc t) operation.call former l

  abbrev state : State
  state = states t

  -- ---- CLIMB

  past_climbed : (was : Option ℕ) → was ≡ former → Past (climbed operation was)
  past_climbed was e = ap (changed_reply operation.call) e

  past_climbing : (c : Climb) → c.former ≡ former → Past (climbing operation c)
  past_climbing c e = by (is_below_root c.path)
    where
      by : (b : Bool) → Past (cond b (line.Climb (climb.Read c (reading (current (above c.path))))) (climbed operation c.former))
      by true = e
      by false = past_climbed c.former e

  past_read : (c : Climb) → c.former ≡ former → (a : After Read Ref) → Past (climb_after_read c a)
  past_read c e (Continues r) = e
  past_read c e (Gives main) = e

  past_main : (c : Climb) → c.former ≡ former → (main : Ref) (node : Node) → Past (climb_after_main state operation c main node)
  past_main c e main (Tomb single) = past_climbing (higher c single) e
  past_main c e main (Branch bitmap entries) = by (holds_it state operation c main bitmap entries.items)
    where
      by : (b : Bool) → Past (cond b (line.Climb (climb.Contracted c main)) (climbed operation c.former))
      by true = e
      by false = past_climbed c.former e
  past_main c e main node = tt

  past_contracted : (c : Climb) → c.former ≡ former → (main : Ref) (made : Option Ref) → Past (climb_after_contracted operation c main made)
  past_contracted c e main None = past_climbed c.former e
  past_contracted c e main (Some made) = e

  past_root : (c : Climb) → c.former ≡ former → (a : After RootLine Ref) → Past (climb_after_root state operation c a)
  past_root c e (Continues l) = e
  past_root c e (Gives r) = by (is_start operation (generation_at state.heap r))
    where
      by : (b : Bool) → Past (cond b (climbing operation c) (climbed operation c.former))
      by true = past_climbing c e
      by false = past_climbed c.former e

  past_climb : (l : ClimbLine) → former_of l ≡ former → Past (line_after state operation (line.Climb l))
  past_climb (climb.Read c r) e = past_read c e (read_step state operation r)
  past_climb (climb.Main c main) e = past_main c e main (node_at state.heap main)
  past_climb (climb.Contracted c main) e = past_contracted c e main (next_ref state.heap)
  past_climb (climb.Root c l) e = past_root c e (root_after state.heap operation.access (word_at state (handle_of operation.call)) l)

  past_climbed_on : (c : Climb) → c.former ≡ former → (node : Node) → Past (climbed_on operation c node)
  past_climbed_on c e (Tomb single) = past_climbing (higher c c.single) e
  past_climbed_on c e node = past_climbed c.former e

  past_climb_swap : (c : Climb) → c.former ≡ former → (s : Swap) (a : After Swap Bool) → Past (after_swap state operation (purpose.Climb c) s a)
  past_climb_swap c e s (Continues next) = e
  past_climb_swap c e s (Gives true) = past_climbed_on c e (node_at state.heap s.fresh)
  past_climb_swap c e s (Gives false) = e

  -- ---- the SWAP of its own change

  past_update : (path : List Ref) (was : Option ℕ) → was ≡ former → (node : Node) → Past (after_update operation path was node)
  past_update path was e (Tomb single) = past_climbing (record { path = path; single = single; former = was }) e
  past_update path was e node = past_climbed was e

  past_deciding : (path : List Ref) (was : Option ℕ) → was ≡ former → (s : Swap) → prev_word states (suc t) s.fresh ≡ prev.None → (a : After ReadLine Ref) →
      Past (after_swap state operation (purpose.Update path was) s (on_line s (after_deciding a)))
  past_deciding path was e s none (Continues l) = (e, tt, none)
  past_deciding path was e s none (Gives main) = (e, tt, none)

  past_checked : (path : List Ref) (was : Option ℕ) → was ≡ former → (s : Swap) (v : Prev) → v ≡ prev.None → Past (after_swap state operation (purpose.Update path was) s (on_line s (after_check v)))
  past_checked path was e s prev.None is = past_update path was e (node_at state.heap s.fresh)
  past_checked path was e s (prev.Pending p) is = let wrong : ⊥ = cc is in absurd wrong
  past_checked path was e s (prev.Failed p) is = let wrong : ⊥ = cc is in absurd wrong

  -- its node stays committed, and is seen so
  pub past_swap : (path : List Ref) (was : Option ℕ) → was ≡ former → (s : Swap) → IsPublished s.line → prev_word states (suc t) s.fresh ≡ prev.None →
      (s.line ≡ swap.Check → prev_at state.heap s.fresh ≡ prev.None) → Past (line_after state operation (line.Swap (purpose.Update path was) s))
  past_swap path was e s published none seen = by s.line refl published
    where
      by : (l : SwapLine) → s.line ≡ l → IsPublished l → Past (after_swap state operation (purpose.Update path was) s
          (on_line s (swap_line_after state.heap operation.access (word_at state (handle_of operation.call)) s l)))
      by swap.Publish is p = absurd p
      by (swap.Deciding l) is p = past_deciding path was e s none (read_after state.heap operation.access (word_at state (handle_of operation.call)) s.indirection l)
      by swap.Check is p = past_checked path was e s (prev_at state.heap s.fresh) (seen is)

  -- ---- each line

  pub past_after : (l : Line) → IsPastAt states t operation.call former l → GoesOn (line_action state operation l) →
      ((s : Swap) → (path : List Ref) → l ≡ line.Swap (purpose.Update path former) s → (prev_word states (suc t) s.fresh ≡ prev.None)
      × (s.line ≡ swap.Check → prev_at state.heap s.fresh ≡ prev.None)) →
      Past (line_after state operation l)
  past_after (line.Swap (purpose.Update path was) s) h goes keeps =
      let k = keeps s path (ap (λ f. line.Swap (purpose.Update path f) s) h.0) in past_swap path was h.0 s h.1 k.0 k.1
  past_after (line.Swap (purpose.Climb c) s) h goes keeps = past_climb_swap c h s _
  past_after (line.Swap why s) h goes keeps = absurd h
  past_after (line.Climb l) h goes keeps = past_climb l h
  past_after (line.End answer) h goes keeps = absurd goes
  past_after line.Impossible h goes keeps = tt
  past_after l h goes keeps = absurd h
