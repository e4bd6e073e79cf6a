-- What other steps give: what they make alone.
use Rattle.std.proofs.Common.{◌≡◌, ◌&&◌, Bool, true, false, List, [], ◌∷◌, cond, refl, sym, ap, ◌∙◌}
use Rattle.proof_claims.specs.Beneath.slot_arena.specs.declared.nodes.Prev.{Prev}
use Rattle.proof_claims.specs.Beneath.slot_arena.specs.declared.nodes.Prev.TheVariants as prev
use Rattle.proof_claims.specs.Beneath.slot_arena.specs.declared.refs.Ref.{Ref}
use Rattle.proof_claims.specs.Beneath.slot_arena.specs.Heaps.{node_at, prev_at, refs_of_node}
use Rattle.proof_claims.specs.Beneath.machine_model.specs.declared.actions.Action.TheVariants as act
use Rattle.proof_claims.specs.Beneath.machine_model.specs.declared.lines.Line.TheVariants as line
use Rattle.proof_claims.specs.Beneath.machine_model.specs.declared.lines.Purpose.{Purpose}
use Rattle.proof_claims.specs.Beneath.machine_model.specs.declared.reading.Swap.{Swap}
use Rattle.proof_claims.specs.Beneath.machine_model.specs.declared.reading.SwapLine.TheVariants as swap
use Rattle.proof_claims.specs.Beneath.machine_model.specs.declared.steps.Step.{Step}
use Rattle.proof_claims.specs.Beneath.machine_model.specs.Machine.{run}
use Rattle.proof_claims.specs.Beneath.machine_model.specs.States.{State}
use Rattle.proof_claims.specs.Changes.{change_of, given_up}
use Rattle.proof_claims.specs.Claims.{held_of}
use Rattle.proof_claims.specs.Held.{Change, Claim, Given, Held, Holder, OfHandle, OfNode, Stays, is_by_nodes, is_in}
use Rattle.proof_claims.specs.Left.{GivenOtherwise, GivesClaims, of_close, of_failed, of_giving_up, of_outcome, of_replaced}
use Rattle.proof_claims.proofs.ChangeKinds.{Acting, GivesUp, Kind, changes_none, closes}
use Rattle.proof_claims.proofs.ChangeKinds.{commits, freezes_it, gives, kind, looks, makes_one, missed, no_slot, offers_it, sees, swaps_in, told, unoffered}
use Rattle.proof_claims.proofs.Givings.{only_made}

module _ (state : State) (held : Held) (s : Step) (otherwise : GivesClaims state held s → ⊥) where
  -- a claim stays, whoever has it then
  stays_given : (h : Holder) → Stays h ≡ Given → ⊥
  stays_given h e = cc e

  either_stays : (b : Bool) (h j : Holder) → cond b (Stays h) (Stays j) ≡ Given → ⊥
  either_stays true h j e = stays_given h e
  either_stays false h j e = stays_given j e

  gives_up : (private : List Ref) → change_of state held s ≡ given_up private → GivesUp state s private → ⊥
  gives_up private is (no_slot node action a makes_it none same) = otherwise (of_giving_up a.actor a.operation a.runs (is ∙ ap given_up (sym same)))
  gives_up private is (missed i m f a hit same) = otherwise (of_giving_up a.actor a.operation a.runs (is ∙ ap given_up (sym same)))
  gives_up private is (unoffered offer a stands same) = otherwise (of_giving_up a.actor a.operation a.runs (is ∙ ap given_up (sym same)))
  gives_up private is (told actor operation step_is runs same) = otherwise (of_giving_up actor operation runs (is ∙ ap given_up (sym same)))

  looks_not : (why : Purpose) (w : Swap) (main : Ref) → (a : Acting state s (act.ReadPrev main)) → a.operation.line ≡ line.Swap why w → w.line ≡ swap.Check → ⊥
  looks_not why w main a on at_check = by (prev_at state.heap w.fresh) refl
    where
      checks : a.operation.line ≡ line.Swap why (record w { line = swap.Check })
      checks = on ∙ ap (λ l. line.Swap why (record w { line = l })) at_check

      failed : (prev_at state.heap w.fresh ≡ prev.None → ⊥) → ⊥
      failed over =
          otherwise (of_failed a.actor w.indirection w.replaced w.fresh a.is_step (record { operation = a.operation; runs = a.runs; why = why; checks = checks; uncommitted = over }))

      by : (v : Prev) → prev_at state.heap w.fresh ≡ v → ⊥
      by prev.None is = otherwise (of_replaced a.actor w.indirection w.replaced w.fresh a.is_step (record { operation = a.operation; runs = a.runs; why = why; checks = checks; decided = is }))
      by (prev.Pending p) is = failed (λ none. let wrong : prev.Pending p ≡ prev.None = sym is ∙ none in let bad : ⊥ = cc wrong in bad)
      by (prev.Failed p) is = failed (λ none. let wrong : prev.Failed p ≡ prev.None = sym is ∙ none in let bad : ⊥ = cc wrong in bad)

  none_given : (change : Change) → change_of state held s ≡ change → Kind state held s change → (c : Claim) → change.fate c ≡ Given → ⊥
  none_given change is changes_none c e = stays_given c.by e
  none_given change is (gives private up) c e = gives_up private is up
  none_given change is (makes_one node action x a makes_it drawn) c e = stays_given c.by e
  none_given change is (swaps_in i m f a hit) c e = stays_given c.by e
  none_given change is (commits i f p seen a v own) c e = either_stays (is_by_nodes (p ∷ []) c.by && is_in (refs_of_node (node_at state.heap f)) c.on) (OfNode f) c.by e
  none_given change is (looks why w main a on at_check) c e = looks_not why w main a on at_check
  none_given change is (closes actor number handle step_is) c e = otherwise (of_close actor handle number step_is)
  none_given change is (offers_it offer a stands) c e = stays_given c.by e
  none_given change is (freezes_it offer main n a out none opens) c e = either_stays _ (OfHandle n) c.by e
  none_given change is (sees offer main c' done a on whether) c e =
      otherwise (of_outcome a.actor offer main a.is_step (record { operation = a.operation; runs = a.runs; completing = c'; completes = on; acts = a.acts }))

  pub none_is_given : (c : Claim) → (change_of state held s).fate c ≡ Given → ⊥
  none_is_given = none_given (change_of state held s) refl (kind state held s)

pub given_otherwise : GivenOtherwise
given_otherwise limits steps s k otherwise =
    only_made (change_of (run limits steps) (held_of limits steps) s) k (held_of limits steps).claims (none_is_given (run limits steps) (held_of limits steps) s otherwise)
