-- The owner of a node that a step commits: who swapped it in, and is about to see how it is decided.
use Rattle.std.proofs.Common.{◌≡◌, ◌≢◌, ℕ, suc, ◌<◌, ◌⊎◌, Option, Some, None, option_map, inl, inr, refl, sym, ◌∙◌, ap, subst, arith}
use Rattle.std.proofs.lemmas.Bool.{cases_eq, true≢false}
use Rattle.proof_shape.specs.Vocabulary.{Ref, Slot, node_of, prev_of, main_of, logical, prev_changed, Operation, SwapLine, Bounds, State, operation_of, grown, node_under, prev_word, IsRun, IsInSwap}
use Rattle.proof_shape.specs.Vocabulary.{CommitsNode, Protocol, stage_of_actor, counting_main}
use Rattle.proof_shape.specs.Beneath.slot_arena.specs.declared.nodes.Prev.TheVariants as over
use Rattle.proof_shape.specs.Beneath.machine_model.specs.declared.actions.Action.TheVariants as act
use Rattle.proof_shape.specs.Beneath.machine_model.specs.declared.reading.SwapLine.TheVariants as swap
use Rattle.proof_shape.specs.Beneath.proof_commits.specs.Protocol as Words
use Rattle.proof_shape.specs.Beneath.proof_commits.proofs.Words.Stood.{over_pending, same_pending, none≢pending}
use Rattle.proof_shape.specs.Beneath.proof_commits.proofs.Known.Owners.{Owner, HasFresh}
use Rattle.proof_shape.specs.Beneath.proof_commits.proofs.Known.Sounds.{sound_at}
use Rattle.proof_shape.specs.Beneath.proof_commits.proofs.Course.Mains.{MainStep, MainStays, MainChanges, main_step}
use Rattle.proof_shape.specs.Beneath.proof_commits.proofs.Known.Given.{ActsOn, Decided, GrownChanges}
use Rattle.proof_shape.specs.Beneath.proof_commits.proofs.Lines.Swap.{RunsSwap, runs_deciding, in_swap_fresh}
use Rattle.proof_shape.specs.Beneath.proof_commits.proofs.Words.Along.{protocol}
use Rattle.proof_shape.proofs.Runs.EachAt.{GoesAt}
use Rattle.proof_shape.proofs.Commits.Deciders.{DecidesNode}
use Rattle.proof_shape.proofs.Commits.Was.{main_linked, commit_is}
use Rattle.proof_shape.proofs.Commits.MainsStay.{others_stay}
use Rattle.proof_shape.specs.Beneath.proof_memory.specs.Wants.{is_indirection}
use Rattle.proof_shape.specs.Beneath.proof_commits.proofs.Known.Acts.{known_run}
use Rattle.proof_shape.specs.Beneath.proof_commits.proofs.Lines.Read.{was_pending}

none_set : (o : Option Slot) → prev_of (option_map (prev_changed over.None) o) ≡ over.None
none_set None = refl
none_set (Some slot) = refl

module _ {limits : Bounds} {states : ℕ → State} {last : ℕ} (run : IsRun limits states last) (t : ℕ) (h : t < last) (actor : ℕ) (operation : Operation)
    (go : GoesAt states run.records t actor operation)
    (x : Ref) (d : DecidesNode (states t) operation x) where
  abbrev p : Protocol
  p = protocol limits states last (known_run run)

  acts : ActsOn states t (act.Decide d.indirection x d.previous d.told)
  acts = subst (λ a. ActsOn states t a) d.action ((known_run run).acts t h actor go.o go.moves operation go.runs)

  pub pending_then : prev_word states t x ≡ over.Pending d.previous
  pending_then = sym acts.1.prev ∙ was_pending (states t).heap d.indirection x d.previous d.told d.commits

  changes : GrownChanges states t (prev_changed over.None) x
  changes = subst (λ v. Decided states t x d.previous v) d.commits acts.3

  pub owner_then : Owner p.words t x d.previous
  owner_then = (sound_at p t (omega arith)).owned x d.previous pending_then

  -- what the node stands over is another one
  pub over_another : x ≡ d.previous → ⊥
  over_another same =
      none≢pending (ap (p.words.prev t) same ∙ ((sound_at p t (omega arith)).words.over x d.previous (over_pending pending_then)).none) pending_then

  pub before_is : Words.logical_at p.words t owner_then.link ≡ d.previous
  before_is = ap (λ m. logical m (p.words.prev t m)) owner_then.stands ∙ ap (logical x) pending_then

  after_is : Words.logical_at p.words (suc t) owner_then.link ≡ x
  after_is =
      let apart : owner_then.link ≡ x → ⊥ = λ same. true≢false (sym owner_then.is_link ∙ ap (λ r. is_indirection (node_under states t r)) same ∙ acts.1.no_link) in
      let word : p.words.main (suc t) owner_then.link ≡ x = ap (λ o. main_of (node_of o)) (changes.elsewhere owner_then.link apart) ∙ owner_then.stands in
      ap (λ m. logical m (p.words.prev (suc t) m)) word ∙ ap (logical x) (ap prev_of changes.here ∙ none_set (grown states t x))

  commits_by : MainStep p.words t owner_then.link → CommitsNode p.words t x d.previous
  commits_by (MainStays e) = absurd (over_another (sym after_is ∙ e ∙ before_is))
  commits_by (MainChanges c) =
      let same : c.fresh ≡ x = sym c.stands ∙ owner_then.stands in
      let it : CommitsNode p.words t x c.replaced = subst (λ m. CommitsNode p.words t m c.replaced) same c.commits in
      subst (λ q. CommitsNode p.words t x q) (same_pending it.was pending_then) it

  pub commits_then : CommitsNode p.words t x d.previous
  commits_then = commits_by (main_step p t h owner_then.link owner_then.is_link)

  pub runs_then : RunsSwap (operation_of (states t) owner_then.actor) owner_then.link d.previous x (swap.Deciding owner_then.line)
  runs_then = runs_deciding (operation_of (states t) owner_then.actor) owner_then.link d.previous x owner_then.line owner_then.stage

  -- nobody else is in a SWAP of it
  pub alone_then : (k : ℕ) (other : Operation) (i a : Ref) (l : SwapLine) → operation_of (states t) k ≡ Some other → IsInSwap other i a x l → k ≡ owner_then.actor
  alone_then k other i a l runs swaps = by_actor (cases_eq k owner_then.actor)
    where
      by_actor : (k ≡ owner_then.actor) ⊎ (k ≡ owner_then.actor → ⊥) → k ≡ owner_then.actor
      by_actor (inl same) = same
      by_actor (inr apart) =
          absurd ((sound_at p t (omega arith)).apart k owner_then.actor x apart
          (subst (λ s. HasFresh s x) (sym (ap stage_of_actor runs)) (in_swap_fresh other i a x l swaps)) (subst (λ s. HasFresh s x) (sym owner_then.stage) refl))

  -- ---- the main nodes

  pub main_before_then : counting_main states last t owner_then.link ≡ d.previous
  main_before_then = main_linked run t owner_then.link owner_then.is_link ∙ before_is

  pub main_after_then : counting_main states last (suc t) owner_then.link ≡ x
  main_after_then = commit_is run t h owner_then.actor owner_then.link d.previous x owner_then.line owner_then.stage d.previous commits_then

  pub others_then : (j : Ref) → j ≢ owner_then.link → counting_main states last (suc t) j ≡ counting_main states last t j
  others_then j apart = others_stay run t h owner_then.link x d.previous commits_then owner_then.is_link owner_then.stands j apart
