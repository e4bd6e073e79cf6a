-- Of which kind the change of a step is.
use Rattle.std.proofs.Common.{◌≡◌, ℕ, ◌==◌, ◌||◌, Bool, true, false, List, Option, Some, None, refl, sym, ap, eqb-true}
use Rattle.proof_claims.specs.Beneath.history.specs.declared.calls.Call.{Call}
use Rattle.proof_claims.specs.Beneath.history.specs.declared.calls.Call.TheVariants.{Close}
use Rattle.proof_claims.specs.Beneath.slot_arena.specs.declared.nodes.Node.{Node}
use Rattle.proof_claims.specs.Beneath.slot_arena.specs.declared.nodes.Node.TheVariants.{Indirection}
use Rattle.proof_claims.specs.Beneath.slot_arena.specs.declared.refs.Ref.{Ref}
use Rattle.proof_claims.specs.Beneath.slot_arena.specs.Heaps.{main_at, next_ref, node_at, prev_at, refs_of_node}
use Rattle.proof_claims.specs.Beneath.machine_model.specs.declared.actions.Action.{Action}
use Rattle.proof_claims.specs.Beneath.machine_model.specs.declared.actions.Action.TheVariants as act
use Rattle.proof_claims.specs.Beneath.machine_model.specs.declared.copying.CopyLine.TheVariants as copy
use Rattle.proof_claims.specs.Beneath.machine_model.specs.declared.lines.Line.{Line}
use Rattle.proof_claims.specs.Beneath.machine_model.specs.declared.lines.Line.TheVariants as line
use Rattle.proof_claims.specs.Beneath.machine_model.specs.declared.operations.Operation.{Operation}
use Rattle.proof_claims.specs.Beneath.machine_model.specs.declared.reading.Swap.{Swap}
use Rattle.proof_claims.specs.Beneath.machine_model.specs.declared.reading.SwapLine.{SwapLine}
use Rattle.proof_claims.specs.Beneath.machine_model.specs.declared.reading.SwapLine.TheVariants as swap
use Rattle.proof_claims.specs.Beneath.machine_model.specs.declared.lines.Purpose.{Purpose}
use Rattle.proof_claims.specs.Beneath.machine_model.specs.declared.roots.Complete.{Complete}
use Rattle.proof_claims.specs.Beneath.machine_model.specs.declared.roots.Descriptor.{Descriptor}
use Rattle.proof_claims.specs.Beneath.machine_model.specs.declared.steps.Step.{Step}
use Rattle.proof_claims.specs.Beneath.machine_model.specs.declared.steps.Step.TheVariants as step
use Rattle.proof_claims.specs.Beneath.machine_model.specs.Calls.{handle_of}
use Rattle.proof_claims.specs.Beneath.machine_model.specs.Operations.{action_of}
use Rattle.proof_claims.specs.Beneath.machine_model.specs.Reading.{Commits, Fails, Overtaken, Verdict, verdict}
use Rattle.proof_claims.specs.Beneath.machine_model.specs.States.{State, operation_of, root_of, word_at}
use Rattle.proof_claims.specs.Beneath.machine_model.specs.Swapping.{is_carried_out, is_plain}
use Rattle.proof_claims.specs.Held.{Change, Held, is_owned}
use Rattle.proof_claims.specs.Changes.{at_check, change_beginning, change_by, change_giving_up, change_going, change_of, checks, checks_at, completes, decides}
use Rattle.proof_claims.specs.Changes.{finds, freezes, given_up, lets_root_go, makes, no_change, offers, outcome_at, publishes}

-- ---- who acts

-- the step is one of this operation, which does this
pub record Acting (state : State) (s : Step) (action : Action) : Type 0 where
  pub actor : ℕ
  pub operation : Operation
  pub is_step : s ≡ step.Go actor
  pub runs : operation_of state actor ≡ Some operation
  pub acts : action_of state operation ≡ action

-- the action makes this node
pub data MakesNode (state : State) (node : Node) : Action → Type 0 where
  a_node : MakesNode state node (act.Make node)
  a_root : (main : Ref) → node ≡ Indirection state.generations main → MakesNode state node (act.MakeRoot main)

-- it gives up what it made: by a step of its own that finds no slot, or another root or main node than it had found, or where it isn't to go on
pub data GivesUp (state : State) (s : Step) (private : List Ref) : Type 0 where
  no_slot : (node : Node) (action : Action) → (a : Acting state s action) → MakesNode state node action → next_ref state.heap ≡ None → a.operation.private ≡ private → GivesUp state s private
  missed : (i m f : Ref) → (a : Acting state s (act.Publish i m f)) → (main_at state.heap i == m) ≡ false → a.operation.private ≡ private → GivesUp state s private
  unoffered : (offer : Descriptor) → (a : Acting state s (act.Offer offer)) → is_plain (word_at state (handle_of a.operation.call)) offer.root ≡ false → a.operation.private ≡ private →
      GivesUp state s private
  told : (actor : ℕ) (operation : Operation) → s ≡ step.GiveUp actor → operation_of state actor ≡ Some operation → operation.private ≡ private → GivesUp state s private

pub data Kind (state : State) (held : Held) (s : Step) : Change → Type 0 where
  changes_none : Kind state held s no_change
  gives : (private : List Ref) → GivesUp state s private → Kind state held s (given_up private)
  makes_one : (node : Node) (action : Action) (x : Ref) → (a : Acting state s action) → MakesNode state node action → next_ref state.heap ≡ Some x →
      Kind state held s (makes state held a.operation (refs_of_node node) (Some x))
  swaps_in : (i m f : Ref) → (a : Acting state s (act.Publish i m f)) → main_at state.heap i ≡ m → Kind state held s (publishes true a.operation.private i f)
  commits : (i f p : Ref) (seen : Option ℕ) → Acting state s (act.Decide i f p seen) → verdict state.heap i f p seen ≡ Commits → is_owned held i p ≡ true →
      Kind state held s (decides true Commits (refs_of_node (node_at state.heap f)) f p)
  looks : (why : Purpose) (w : Swap) (main : Ref) → (a : Acting state s (act.ReadPrev main)) → a.operation.line ≡ line.Swap why w → w.line ≡ swap.Check →
      Kind state held s (checks (is_owned held w.indirection w.replaced) (prev_at state.heap w.fresh) w)
  closes : (actor : ℕ) (number : Option ℕ) (handle : ℕ) → s ≡ step.Begin actor (Close handle) number → Kind state held s (lets_root_go handle (root_of (word_at state handle)))
  offers_it : (offer : Descriptor) → (a : Acting state s (act.Offer offer)) → is_plain (word_at state (handle_of a.operation.call)) offer.root ≡ true →
      Kind state held s (offers true a.operation.private (handle_of a.operation.call) offer)
  freezes_it : (offer : Descriptor) (main : Ref) (n : ℕ) → (a : Acting state s (act.Complete offer main)) → is_carried_out (word_at state (handle_of a.operation.call)) offer main ≡ true →
      offer.second ≡ None → offer.opens ≡ Some n → Kind state held s (freezes (handle_of a.operation.call) offer None (Some n) no_change)
  -- who offered finds what came of it; no freeze that this step carries out
  sees : (offer : Descriptor) (main : Ref) (c : Complete) (done : Bool) → (a : Acting state s (act.Complete offer main)) → a.operation.line ≡ line.Copy (copy.Complete c) → done ≡
      (is_carried_out (word_at state (handle_of a.operation.call)) offer main || a.operation.is_marked) → Kind state held s (finds (handle_of a.operation.call) offer done)

module _ (state : State) (held : Held) where
  module _ (s : Step) (actor : ℕ) (operation : Operation) (is_step : s ≡ step.Go actor) (runs : operation_of state actor ≡ Some operation) where
    abbrev acting : (action : Action) → action_of state operation ≡ action → Acting state s action
    acting action acts = record { actor = actor; operation = operation; is_step = is_step; runs = runs; acts = acts }

    abbrev at : ℕ
    at = handle_of operation.call

    abbrev Is : Change → Type 0
    Is change = Kind state held s change

    by_make : (action : Action) (node : Node) → action_of state operation ≡ action → MakesNode state node action → (x : Option Ref) → next_ref state.heap ≡ x →
        Is (makes state held operation (refs_of_node node) x)
    by_make action node acts makes_it None drawn = gives operation.private (no_slot node action (acting action acts) makes_it drawn refl)
    by_make action node acts makes_it (Some x) drawn = makes_one node action x (acting action acts) makes_it drawn

    by_publish : (i m f : Ref) → action_of state operation ≡ act.Publish i m f → (b : Bool) → (main_at state.heap i == m) ≡ b → Is (publishes b operation.private i f)
    by_publish i m f acts false hit = gives operation.private (missed i m f (acting (act.Publish i m f) acts) hit refl)
    by_publish i m f acts true hit = swaps_in i m f (acting (act.Publish i m f) acts) (eqb-true (main_at state.heap i) m hit)

    by_decide : (i f p : Ref) (seen : Option ℕ) → action_of state operation ≡ act.Decide i f p seen → (own : Bool) → is_owned held i p ≡ own → (v : Verdict) → verdict state.heap i f p seen ≡ v →
        Is (decides own v (refs_of_node (node_at state.heap f)) f p)
    by_decide i f p seen acts true own Commits v = commits i f p seen (acting (act.Decide i f p seen) acts) v own
    by_decide i f p seen acts true own Fails v = changes_none
    by_decide i f p seen acts true own (Overtaken licensed) v = changes_none
    by_decide i f p seen acts false own Commits v = changes_none
    by_decide i f p seen acts false own Fails v = changes_none
    by_decide i f p seen acts false own (Overtaken licensed) v = changes_none

    by_offer : (offer : Descriptor) → action_of state operation ≡ act.Offer offer → (b : Bool) → is_plain (word_at state at) offer.root ≡ b → Is (offers b operation.private at offer)
    by_offer offer acts false stands = gives operation.private (unoffered offer (acting (act.Offer offer) acts) stands refl)
    by_offer offer acts true stands = offers_it offer (acting (act.Offer offer) acts) stands

    by_outcome : (offer : Descriptor) (main : Ref) → action_of state operation ≡ act.Complete offer main → (done : Bool) →
        done ≡ (is_carried_out (word_at state at) offer main || operation.is_marked) →
        (l : Line) → operation.line ≡ l → Is (outcome_at at offer l done)
    by_outcome offer main acts done is (line.Copy (copy.Complete c)) on = sees offer main c done (acting (act.Complete offer main) acts) on is
    by_outcome offer main acts done is l on = changes_none

    by_carried : (offer : Descriptor) (main : Ref) → action_of state operation ≡ act.Complete offer main → is_carried_out (word_at state at) offer main ≡ true →
        (second' : Option Ref) (opens : Option ℕ) →
        offer.second ≡ second' → offer.opens ≡ opens → Is (freezes at offer second' opens (outcome_at at offer operation.line true))
    by_carried offer main acts out None (Some n) is_second is_opens = freezes_it offer main n (acting (act.Complete offer main) acts) out is_second is_opens
    by_carried offer main acts out None None is_second is_opens = by_outcome offer main acts true (ap (λ b. b || operation.is_marked) (sym out)) operation.line refl
    by_carried offer main acts out (Some r) opens is_second is_opens = by_outcome offer main acts true (ap (λ b. b || operation.is_marked) (sym out)) operation.line refl

    by_complete : (offer : Descriptor) (main : Ref) → action_of state operation ≡ act.Complete offer main → (b : Bool) → is_carried_out (word_at state at) offer main ≡ b →
        Is (completes b at offer operation)
    by_complete offer main acts true out = by_carried offer main acts out offer.second offer.opens refl refl
    by_complete offer main acts false out = by_outcome offer main acts operation.is_marked (ap (λ b. b || operation.is_marked) (sym out)) operation.line refl

    by_line : (main : Ref) → action_of state operation ≡ act.ReadPrev main → (l : Line) → operation.line ≡ l → Is (checks_at state held l)
    by_line main acts (line.Swap why w) on = by_swap w.line refl
      where
        by_swap : (l : SwapLine) → w.line ≡ l → Is (at_check l (checks (is_owned held w.indirection w.replaced) (prev_at state.heap w.fresh) w))
        by_swap swap.Check is = looks why w main (acting (act.ReadPrev main) acts) on is
        by_swap swap.Publish is = changes_none
        by_swap (swap.Deciding r) is = changes_none
    by_line main acts l on = changes_none

    by_action : (action : Action) → action_of state operation ≡ action → Is (change_by state held operation action)
    by_action (act.Make node) acts = by_make (act.Make node) node acts a_node (next_ref state.heap) refl
    by_action (act.MakeRoot main) acts = by_make (act.MakeRoot main) (Indirection state.generations main) acts (a_root main refl) (next_ref state.heap) refl
    by_action (act.Publish i m f) acts = by_publish i m f acts (main_at state.heap i == m) refl
    by_action (act.Decide i f p seen) acts = by_decide i f p seen acts (is_owned held i p) refl (verdict state.heap i f p seen) refl
    by_action (act.ReadPrev main) acts = by_line main acts operation.line refl
    by_action (act.Offer offer) acts = by_offer offer acts (is_plain (word_at state at) offer.root) refl
    by_action (act.Complete offer main) acts = by_complete offer main acts (is_carried_out (word_at state at) offer main) refl
    by_action action acts = changes_none

  goes : (actor : ℕ) (r : Option Operation) → operation_of state actor ≡ r → Kind state held (step.Go actor) (change_going state held r)
  goes actor None is = changes_none
  goes actor (Some operation) is = by_action (step.Go actor) actor operation refl is (action_of state operation) refl

  gives_so : (actor : ℕ) (r : Option Operation) → operation_of state actor ≡ r → Kind state held (step.GiveUp actor) (change_giving_up r)
  gives_so actor None is = changes_none
  gives_so actor (Some operation) is = gives operation.private (told actor operation refl is refl)

  begins : (actor : ℕ) (call : Call) (number : Option ℕ) → Kind state held (step.Begin actor call number) (change_beginning state call)
  begins actor (Close handle) number = closes actor number handle refl
  begins actor call number = changes_none

  pub kind : (s : Step) → Kind state held s (change_of state held s)
  kind (step.Begin actor call number) = begins actor call number
  kind (step.Go actor) = goes actor (operation_of state actor) refl
  kind step.Sweep = changes_none
  kind (step.GiveUp actor) = gives_so actor (operation_of state actor) refl
