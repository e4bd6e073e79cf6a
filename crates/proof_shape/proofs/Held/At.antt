-- At each time of a run each line holds what its operation made: nobody else can come to read it.
use Rattle.std.proofs.Common.{◌≡◌, ℕ, suc, ◌-◌, ◌<◌, ◌≤◌, ◌⊎◌, Bool, true, false, cond, List, [], Option, Some, None, refl, sym, ◌∙◌, ap, subst, arith}
use Rattle.proof_shape.specs.Vocabulary.{Call, Ref, Node, Indirection, Branch, Single, Tomb, List as Listed, node_at, entry_at, KeyLine, Line, Purpose, Operation, After, Gives, Swap, SwapLine}
use Rattle.proof_shape.specs.Vocabulary.{Bounds, State, operation_of, on_line, going_down, is_passable, key_after, key_after_entry, renew_next, line_action, line_after, generation_from, IsRun}
use Rattle.proof_shape.specs.Vocabulary.{Protocol, stage_of, stage_of_actor}
use Rattle.proof_shape.specs.Beneath.machine_model.specs.declared.building.BuildLine.TheVariants as build
use Rattle.proof_shape.specs.Beneath.machine_model.specs.declared.finding.KeyLine.TheVariants as key
use Rattle.proof_shape.specs.Beneath.machine_model.specs.declared.lines.Line.TheVariants as line
use Rattle.proof_shape.specs.Beneath.machine_model.specs.declared.lines.Purpose.TheVariants as purpose
use Rattle.proof_shape.specs.Beneath.machine_model.specs.declared.reading.After.TheVariants.{Goes}
use Rattle.proof_shape.specs.Beneath.machine_model.specs.Operations.{after_swap}
use Rattle.proof_shape.specs.Beneath.proof_commits.proofs.Words.Stood.{Private}
use Rattle.proof_shape.specs.Beneath.proof_commits.proofs.Known.Owners.{Staged}
use Rattle.proof_shape.specs.Beneath.proof_commits.proofs.Known.Sounds.{sound_at}
use Rattle.proof_shape.specs.Beneath.proof_commits.proofs.Words.Along.{protocol}
use Rattle.proof_shape.specs.Lines.Knowing.{OfEachAt}
use Rattle.proof_shape.proofs.Runs.EachAt.{GoesAt}
use Rattle.proof_shape.proofs.Lines.Placed.{is_below}
use Rattle.proof_shape.proofs.Lines.Places.{settled_at}
use Rattle.proof_shape.proofs.Runs.Takers.{taker, each_with}
use Rattle.proof_shape.proofs.Runs.MadeNodes.{is_making, maker_of}
use Rattle.proof_shape.proofs.Runs.NewNodes.{swap_quiet, line_names}
use Rattle.proof_shape.proofs.Opened.Mains.{IsOpen}
use Rattle.proof_shape.proofs.Held.Fresh.{IsHeld, NotGiven, NewNames, held_still}
use Rattle.proof_shape.proofs.Held.Lines.{HeldIn, NodeNotGiven, line_still}
use Rattle.proof_shape.proofs.Held.Build.{quiet_held}
use Rattle.proof_shape.proofs.Held.Chain.{build_holds}
use Rattle.proof_shape.proofs.Held.Repair.{renew_holds, clean_holds}
use Rattle.proof_shape.proofs.Held.Entries.{renew_begins}
use Rattle.proof_shape.proofs.Held.Free.{free_holds, key_single_free, key_listed_free, swapped_free}
use Rattle.proof_shape.proofs.Lines.Leads.{holds_nothing, first_leads, root_leads, copy_leads, walk_leads, climb_leads, key_read_leads, key_main_leads, key_sibling_leads}
use Rattle.proof_shape.specs.Beneath.proof_commits.proofs.Known.Acts.{known_run}

module _ {limits : Bounds} {states : ℕ → State} {last : ℕ} (run : IsRun limits states last) where
  abbrev p : Protocol
  p = protocol limits states last (known_run run)

  -- what is said of each running operation
  abbrev pub HoldsAt : ℕ → ℕ → Operation → Type 0
  HoldsAt t k operation = (start : ℕ) → operation.generation ≡ Some start → HeldIn run t k operation.id start operation.call operation.line

  -- with no generation yet it holds nothing
  above_holds : (t k id start : ℕ) (call : Call) (l : Line) → (is_below l ≡ true → ⊥) → HeldIn run t k id start call l
  above_holds t k id start call (line.Root l) not = tt
  above_holds t k id start call (line.Copy l) not = tt
  above_holds t k id start call (line.Walk l) not = tt
  above_holds t k id start call (line.End answer) not = tt
  above_holds t k id start call line.Impossible not = tt
  above_holds t k id start call (line.Key l) not = tt
  above_holds t k id start call (line.Climb l) not = tt
  above_holds t k id start call (line.Build l) not = absurd (not refl)
  above_holds t k id start call (line.Swap why s) not = absurd (not refl)
  above_holds t k id start call (line.Renew l) not = absurd (not refl)
  above_holds t k id start call (line.Clean l) not = absurd (not refl)

  -- ---- so new nodes name what may be read, or what their maker holds

  new_names_at : (t : ℕ) → t < last → ((k : ℕ) (operation : Operation) → operation_of (states t) k ≡ Some operation → HoldsAt t k operation) → NewNames run t
  new_names_at t h all m r before after names g y is =
      let x = maker_of run t h m before after in
      by_generation x.operation x.go x.operation.generation refl
    where
      by_generation : (operation : Operation) → GoesAt states run.records t (taker run t) operation → (o : Option ℕ) → operation.generation ≡ o →
          IsOpen run t r ⊎ ((s : ℕ) × IsHeld run t (taker run t) s r)
      by_generation operation go (Some start) e =
          line_names run t h (taker run t) operation go start m r before after names g y is operation.line refl
          (all (taker run t) operation go.runs start e)
      by_generation operation go None e =
          line_names run t h (taker run t) operation go 0 m r before after names g y is operation.line refl
          (above_holds t (taker run t) operation.id 0 operation.call operation.line
          (λ b. let s = (settled_at run t (omega arith) (taker run t) operation go.runs).starts b in no_start s.0 (sym e ∙ s.1)))
        where
          no_start : (start : ℕ) → None ≡ Some start → ⊥
          no_start start bad = cc

  -- the main node that a link is to be made over wasn't given
  node_not_given : (t : ℕ) → t ≤ last → (k : ℕ) (operation : Operation) → operation_of (states t) k ≡ Some operation → (l : Line) → operation.line ≡ l →
      (l' : Line) → l ≡ l' → (path : List Ref) (main : Ref) (position : ℕ) (below : Ref) (depth : ℕ) → l' ≡ line.Build (build.Link path main position below depth) →
      NotGiven run t below
  node_not_given t h k operation is l e l' e' path main position below depth e'' q i g =
      let private : Private p.words t below = subst (λ s. Staged p.words t k s) (ap stage_of_actor is ∙ ap stage_of (e ∙ e' ∙ e'')) ((sound_at p t h).staged k) in
      private.apart i ((sound_at p t h).given q i below g).stood

  module _ (t : ℕ) (h : t < last) (all : (k : ℕ) (operation : Operation) → operation_of (states t) k ≡ Some operation → HoldsAt t k operation) where
    new : NewNames run t
    new = new_names_at t h all

    not_given : (k : ℕ) (operation : Operation) → operation_of (states t) k ≡ Some operation → (id start : ℕ)
        (held : (j : Ref) → IsHeld run t k start j → IsHeld run (suc t) k start j) → (l : Line) → operation.line ≡ l →
        NodeNotGiven run t h k id start new held l
    not_given k operation is id start held (line.Build (build.Link path main position below depth)) e =
        node_not_given t (omega arith) k operation is operation.line refl _ e path main position below depth refl
    not_given k operation is id start held (line.Build (build.Single path main s former)) e = tt
    not_given k operation is id start held (line.Build (build.Pair path main position s depth)) e = tt
    not_given k operation is id start held (line.Build (build.Rung path main position below depth)) e = tt
    not_given k operation is id start held (line.Build (build.Main path main c former)) e = tt
    not_given k operation is id start held (line.Root l) e = tt
    not_given k operation is id start held (line.Key l) e = tt
    not_given k operation is id start held (line.Swap why s) e = tt
    not_given k operation is id start held (line.Renew l) e = tt
    not_given k operation is id start held (line.Clean l) e = tt
    not_given k operation is id start held (line.Climb l) e = tt
    not_given k operation is id start held (line.Copy l) e = tt
    not_given k operation is id start held (line.Walk l) e = tt
    not_given k operation is id start held (line.End answer) e = tt
    not_given k operation is id start held line.Impossible e = tt

    stays_holding : (k : ℕ) (operation : Operation) → operation_of (states t) k ≡ Some operation → (taker run t ≡ k → ⊥) → HoldsAt (suc t) k operation
    stays_holding k operation is apart start begun =
        let held : (j : Ref) → IsHeld run t k start j → IsHeld run (suc t) k start j =
        λ j x. held_still run t k start j (omega arith) new apart x in
        line_still run t h k operation.id start new held operation.call operation.line
        (not_given k operation is operation.id start held operation.line refl) (all k operation is start begun)

    -- ---- the own step

    module _ (actor : ℕ) (operation : Operation) (go : GoesAt states run.records t actor operation) (takes_it : taker run t ≡ actor) (start : ℕ) where
      abbrev Next : Line → Type 0
      Next l = HeldIn run (suc t) actor operation.id start operation.call l

      free : (l : Line) → holds_nothing l ≡ true → Next l
      free l e = free_holds run (suc t) actor operation.id start operation.call l e

      key_entry_holds : operation.generation ≡ Some start → (path : List Ref) (main : Ref) (position : ℕ) (n : Node) → Next (key_after_entry (states t) operation path main position n)
      key_entry_holds begun path main position (Indirection g w) = by_test (is_passable operation g)
        where
          by_test : (b : Bool) → Next (cond b (going_down path (entry_at (states t).heap main position)) (renew_next (states t) path main []))
          by_test true = tt
          by_test false = renew_begins run t h actor operation go takes_it new start begun path main
      key_entry_holds begun path main position (Single k v) = free _ (key_single_free (states t) operation path main position k v)
      key_entry_holds begun path main position (Branch b es) = tt
      key_entry_holds begun path main position (Tomb s) = tt
      key_entry_holds begun path main position (Listed ss) = tt

      key_holds : operation.generation ≡ Some start → (l : KeyLine) → Next (key_after (states t) operation l)
      key_holds begun (key.Read path r) = free _ (key_read_leads (states t) operation path r).3
      key_holds begun (key.Main path main) = free _ (key_main_leads (states t) operation path main (node_at (states t).heap main)).3
      key_holds begun (key.Entry path main position) = key_entry_holds begun path main position (node_at (states t).heap (entry_at (states t).heap main position))
      key_holds begun (key.Listed path main position) = free _ (key_listed_free (states t) operation path main position (node_at (states t).heap (entry_at (states t).heap main position)))
      key_holds begun (key.Sibling path main position former) =
          free _ (key_sibling_leads path main position former (entry_at (states t).heap main (1 - position)) (node_at (states t).heap (entry_at (states t).heap main (1 - position)))).2

      swap_on : (why : Purpose) (s : Swap) (l : SwapLine) → Next (line.Swap why s) → Next (line.Swap why (record s { line = l }))
      swap_on (purpose.Update path former) s l x = x
      swap_on (purpose.Renew path) s l x = x
      swap_on purpose.Clean s l x = x
      swap_on (purpose.Climb c) s l x = tt

      swap_holds : (why : Purpose) (s : Swap) → Next (line.Swap why s) → (out : After SwapLine Bool) → Next (after_swap (states t) operation why s (on_line s out))
      swap_holds why s x (Goes l) = swap_on why s l x
      swap_holds why s x (Gives done) = free _ (swapped_free operation (node_at (states t).heap s.fresh) why done)

      line_holds : (l : Line) → operation.line ≡ l → generation_from (states t) operation l ≡ Some start →
          (operation.generation ≡ Some start → HeldIn run t actor operation.id start operation.call l) → Next (line_after (states t) operation l)
      line_holds (line.Root l) e begun x = free _ (root_leads (states t) operation l).2
      line_holds (line.Key l) e begun x = key_holds begun l
      line_holds (line.Build l) e begun x = build_holds run t h actor operation go takes_it new start begun l e (x begun)
      line_holds (line.Renew l) e begun x = renew_holds run t h actor operation go takes_it new start begun l e (x begun)
      line_holds (line.Clean l) e begun x = clean_holds run t h actor operation go takes_it new start begun l e (x begun)
      line_holds (line.Swap why s) e begun x =
          let held = quiet_held run t h actor operation go (ap (λ y. is_making (line_action (states t) operation y)) e ∙ swap_quiet (states t) operation why s) start in
          swap_holds why s
          (line_still run t h actor operation.id start new held operation.call (line.Swap why s) (not_given actor operation go.runs operation.id start held _ e) (x begun)) _
      line_holds (line.Climb l) e begun x = free _ (climb_leads (states t) operation l).2
      line_holds (line.Copy l) e begun x = free _ (copy_leads (states t) operation l).2
      line_holds (line.Walk l) e begun x = free _ (walk_leads (states t) operation l).2
      line_holds (line.End answer) e begun x = tt
      line_holds line.Impossible e begun x = tt

  pub holds_at : OfEachAt states last (λ t k operation. (start : ℕ) → operation.generation ≡ Some start → HeldIn run t k operation.id start operation.call operation.line)
  holds_at =
      each_with run HoldsAt (λ t k operation x. x)
      (λ t h actor call number d takes e start begun. free_holds run (suc t) actor _ start call _ (first_leads call).2)
      (λ t h actor operation go takes_it all start begun. line_holds t h all actor operation go takes_it start operation.line refl begun (λ b. all actor operation go.runs start b))
      (λ t h actor operation answer is may all start begun. tt)
      (λ t h k operation is apart all. stays_holding t h all k operation is apart)
