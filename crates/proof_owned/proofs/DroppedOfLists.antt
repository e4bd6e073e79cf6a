-- The law of dropped singles, for every list of steps.
use Rattle.std.proofs.Common.{◌≡◌, ℕ, suc, ◌<◌, ◌≤◌, ◌⊎◌, true, false, List, Contains, Option, Some, None, is_some, inl, inr, refl, sym, ap, ◌∙◌, subst, arith}
use Rattle.proof_owned.specs.Beneath.proof_memory.specs.Wants.{is_indirection}
use Rattle.std.proofs.lemmas.Bool.{true≢false}
use Rattle.proof_owned.specs.Beneath.slot_arena.specs.declared.refs.Ref.{Ref}
use Rattle.proof_owned.specs.Beneath.slot_arena.specs.declared.nodes.Slot.{Slot}
use Rattle.proof_owned.specs.Beneath.slot_arena.specs.Heaps.{entries_of, node_of}
use Rattle.proof_owned.specs.Beneath.history.specs.declared.calls.Access.TheVariants.{Writable}
use Rattle.proof_owned.specs.Beneath.machine_model.specs.declared.building.BuildLine.TheVariants as build
use Rattle.proof_owned.specs.Beneath.machine_model.specs.declared.lines.Line.TheVariants as line
use Rattle.proof_owned.specs.Beneath.machine_model.specs.declared.lines.Purpose.TheVariants as purpose
use Rattle.proof_owned.specs.Beneath.machine_model.specs.declared.operations.Operation.{Operation}
use Rattle.proof_owned.specs.Beneath.machine_model.specs.declared.steps.Bounds.{Bounds}
use Rattle.proof_owned.specs.Beneath.machine_model.specs.declared.steps.Step.{Step}
use Rattle.proof_owned.specs.Beneath.machine_model.specs.Grown.{grown, node_under, main_before}
use Rattle.proof_owned.specs.Beneath.machine_model.specs.Machine.{AreBounds}
use Rattle.proof_owned.specs.Beneath.machine_model.specs.Paths.{current}
use Rattle.proof_owned.specs.Beneath.machine_model.specs.States.{State, operation_of}
use Rattle.proof_owned.specs.Beneath.machine_model.specs.Swapping.{swapping}
use Rattle.proof_owned.specs.Beneath.machine_model.specs.Times.{IsRun, states_of, last_of}
use Rattle.proof_owned.specs.Beneath.machine_model.proofs.Times.{run_is}
use Rattle.proof_owned.specs.Beneath.proof_memory.proofs.Claims.Uses.{entries_same}
use Rattle.proof_owned.specs.Beneath.proof_commits.specs.Protocol.{Words, Protocol, Given, Publishes, Builds}
use Rattle.proof_owned.specs.Beneath.proof_commits.specs.Stages.{stage_of, stage_of_actor}
use Rattle.proof_owned.specs.Beneath.proof_commits.proofs.Known.Acts.{known_run}
use Rattle.proof_owned.specs.Beneath.proof_commits.proofs.Known.Owners.{Staged}
use Rattle.proof_owned.specs.Beneath.proof_commits.proofs.Known.Sounds.{sound_at}
use Rattle.proof_owned.specs.Beneath.proof_commits.proofs.Lines.Stages.{Remembers}
use Rattle.proof_owned.specs.Beneath.proof_commits.proofs.Words.Along.{protocol, remembers_at}
use Rattle.proof_owned.specs.Beneath.proof_commits.proofs.Words.Stood.{stands_now}
use Rattle.proof_owned.specs.Beneath.proof_commits.proofs.Course.Finals.{link_stays}
use Rattle.proof_owned.specs.Beneath.proof_commits.proofs.Course.Mains.{main_decided}
use Rattle.proof_owned.specs.Beneath.proof_contents.specs.Runs.{is_made, counting_main}
use Rattle.proof_owned.specs.Beneath.proof_generations.proofs.Falling.KnownRoots.{words, protocol_of}
use Rattle.proof_owned.specs.Beneath.proof_generations.proofs.Falling.Nodes.{made_same}
use Rattle.proof_shape.proofs.Commits.Was.{link_in_end, main_linked}
use Rattle.proof_shape.proofs.Held.Fresh.{Names}
use Rattle.proof_owned.specs.Owned.{IsLinked}
use Rattle.proof_owned.specs.Singles.{Has, CameWith, swapped, built, IsDropped, DroppedIsUnlinked}
use Rattle.proof_owned.proofs.Brought.{IsBrought, publishes, builds}
use Rattle.proof_owned.proofs.Dropped.{dropped_unlinked}
use Rattle.proof_owned.proofs.Earlier.{IsLink, IsSingle, single_no_link, single_no_none}
use Rattle.proof_owned.proofs.OnceThere.{once_there}
use Rattle.proof_shape.specs.Sites.Nodes.{steps_of}
use Rattle.proof_shape.proofs.Sites.Fixed.{keys_fit}
use Rattle.proof_shape.proofs.Sites.Stepped.{takes_steps}
use Rattle.proof_owned.specs.Beneath.machine_model.specs.Keys.{KeysFit}
use Rattle.proof_owned.proofs.SinglesCalm.{CameAndWent}
use Rattle.proof_owned.proofs.SinglesFrom.{found_or_none}
use Rattle.proof_owned.proofs.SinglesNew.{IsFirst, IsMoved, IsBeside, ends, goes_on, Carries, entry_in}
use Rattle.proof_owned.proofs.SinglesMade.{carries_at}

module _ {limits : Bounds} {states : ℕ → State} {last : ℕ} (run : IsRun limits states last) where
  abbrev w : Words
  w = words states run.records last

  abbrev p : Protocol
  p = protocol_of run

  abbrev q : Protocol
  q = protocol limits states last (known_run run)

  -- what was made keeps its entries
  pub entries_then : (t : ℕ) → t ≤ last → (m : Ref) → is_made states t m ≡ true → entries_of (node_under states last m) ≡ entries_of (node_under states t m)
  entries_then t within m made = by (grown states t m) refl made
    where
      by : (o : Option Slot) → grown states t m ≡ o → is_some o ≡ true → entries_of (node_under states last m) ≡ entries_of (node_under states t m)
      by None e some = absurd (true≢false (sym some))
      by (Some slot) e some = entries_same slot.node (node_under states last m) (made_same run t within m slot e) ∙ sym (ap (λ o. entries_of (node_of o)) e)

  module _ (i m s : Ref) (single : IsSingle run s) where
    record Came : Type 0 where
      new : IsFirst run m s
      brought : IsBrought (words states run.records last) last i m

    given_made : (t : ℕ) → t ≤ last → (k : ℕ) (j x : Ref) → Given q.words t k j x → is_made states t x ≡ true
    given_made t within k j x g = let d = (sound_at q t within).given k j x g in (sound_at q t within).words.made j x d.stood

    by_swap : (u k : ℕ) (operation : Operation) (path : List Ref) (former : Option ℕ) (a : Ref) → u < last → (runs : operation_of (states u) k ≡ Some operation) →
        (at : operation.line ≡ line.Swap (purpose.Update path former) (swapping i a m)) → w.main (suc u) i ≡ m → Has (node_under states u m) s → (Has (node_under states u a) s → ⊥) → Came
    by_swap u k operation path former a lt runs at main has hasnt = record {
      new = first (x s names);
      brought = record { at = u; before = lt; actor = k; stood = stands_now link main; how = publishes a stage };
    }
      where
        stage : w.stage u k ≡ Publishes i a m
        stage = ap stage_of_actor runs ∙ ap stage_of at

        x : (y : Ref) → Names run m y → Names run a y ⊎ (IsFirst run m y ⊎ IsMoved run a m y)
        x = subst (λ l. Carries run u k l) at (carries_at run u (omega (arith, lt)) k operation runs)

        given : Given q.words u k i a
        given = (subst (λ l. Remembers (λ j y. Given q.words u k j y) (operation.access ≡ Writable) l) at (remembers_at limits states last (known_run run) u (omega (arith, lt)) k operation runs)).1

        names : Names run m s
        names =
            subst (λ es. Contains es s)
            (sym (entries_then u (omega (arith, lt)) m (subst (λ y. Staged w u k y) stage ((sound_at p u (omega (arith, lt))).staged k)).0.made)) has

        not_before : Names run a s → ⊥
        not_before n = hasnt (subst (λ es. Contains es s) (entries_then u (omega (arith, lt)) a (given_made u (omega (arith, lt)) k i a given)) n)

        first : Names run a s ⊎ (IsFirst run m s ⊎ IsMoved run a m s) → IsFirst run m s
        first (inl before) = absurd (not_before before)
        first (inr (inl new)) = new
        first (inr (inr moved)) = absurd (single_no_link run s single moved.built.link)

        link : w.link (suc u) i ≡ true
        link = link_stays p i u (suc u) (omega arith) lt ((sound_at q u (omega (arith, lt))).words.link i a ((sound_at q u (omega (arith, lt))).given k i a given).stood)

    by_build : (u k : ℕ) (operation : Operation) (path : List Ref) (main : Ref) (position depth : ℕ) → u < last → (runs : operation_of (states u) k ≡ Some operation) →
        (at : operation.line ≡ line.Build (build.Link path main position m depth)) → w.link u i ≡ false → w.link (suc u) i ≡ true → w.main (suc u) i ≡ m → Has (node_under states u m) s →
        (Has (node_under states u main) s → ⊥) → Came
    by_build u k operation path main position depth lt runs at none is main_is has hasnt = record {
      new = by m x names;
      brought = record { at = u; before = lt; actor = k; stood = stands_now is main_is; how = builds stage none is };
    }
      where
        stage : w.stage u k ≡ Builds m
        stage = ap stage_of_actor runs ∙ ap stage_of at

        x : IsBeside run (entry_in run main position) m
        x = subst (λ l. Carries run u k l) at (carries_at run u (omega (arith, lt)) k operation runs)

        given : Given q.words u k (current path) main
        given = subst (λ l. Remembers (λ j y. Given q.words u k j y) (operation.access ≡ Writable) l) at (remembers_at limits states last (known_run run) u (omega (arith, lt)) k operation runs)

        names : Names run m s
        names =
            subst (λ es. Contains es s) (sym (entries_then u (omega (arith, lt)) m (subst (λ y. Staged w u k y) stage ((sound_at p u (omega (arith, lt))).staged k)).made)) has

        not_before : Names run main s → ⊥
        not_before n = hasnt (subst (λ es. Contains es s) (entries_then u (omega (arith, lt)) main (given_made u (omega (arith, lt)) k (current path) main given)) n)

        not_old : s ≡ entry_in run main position → ⊥
        not_old same = elim (found_or_none run main position) [
          | inl among ↦ not_before (subst (λ r. Names run main r) (sym same) among)
          | inr nothing ↦ single_no_none run s single (same ∙ nothing)
        ]

        by : (y : Ref) → IsBeside run (entry_in run main position) y → Names run y s → IsFirst run y s
        by y (ends y' each) n = elim (each s n) [ inl same ↦ absurd (not_old same) | inr new ↦ new ]
        by y (goes_on y' c each b rest) n = absurd (single_no_link run s single (subst (IsLink run) (sym (each s n)) b.link))

    came : CameWith states last i m s → Came
    came (swapped u k operation path former a lt runs at main has hasnt) = by_swap u k operation path former a lt runs at main has hasnt
    came (built u k operation path main position depth lt runs at none is main_is has hasnt) = by_build u k operation path main position depth lt runs at none is main_is has hasnt

module _ (limits : Bounds) (steps : List Step) (ok : AreBounds limits) (fit : KeysFit steps) (i s : Ref) (d : IsDropped limits steps i s) where
  abbrev states : ℕ → State
  states = states_of limits steps

  abbrev last : ℕ
  last = last_of limits steps

  abbrev r : IsRun limits states last
  r = run_is limits steps ok

  abbrev v : Words
  v = words states r.records last

  linked_at : (t : ℕ) → d.stayed.first ≤ t → t ≤ last → v.link t i ≡ true
  linked_at t le within = link_stays (protocol_of r) i d.stayed.first t le within d.stayed.link

  counts : (t : ℕ) → d.stayed.first ≤ t → t ≤ last → counting_main states last t i ≡ main_before states t i
  counts t le within = main_linked r t i (linked_at t le within)

  entries_at : (t : ℕ) → d.stayed.first ≤ t → t ≤ last → entries_of (node_under states last (counting_main states last t i)) ≡ entries_of (node_under states t (main_before states t i))
  entries_at t le within =
      ap (λ m. entries_of (node_under states last m)) (counts t le within)
      ∙ entries_then r t within (main_before states t i)
      ((sound_at (protocol_of r) t within).words.made i (main_before states t i) (main_decided v t (sound_at (protocol_of r) t within).words i (linked_at t le within)).stood)

  made_at : (t : ℕ) → d.stayed.first ≤ t → t ≤ last → is_made states t (counting_main states last t i) ≡ true
  made_at t le within =
      subst (λ m. is_made states t m ≡ true) (sym (counts t le within))
      ((sound_at (protocol_of r) t within).words.made i (main_before states t i) (main_decided v t (sound_at (protocol_of r) t within).words i (linked_at t le within)).stood)

  has_single : IsSingle r s
  has_single = (d.key, d.value, d.single)

  went : CameAndWent r i s
  went =
      let c = came r i d.stayed.main s has_single d.stayed.came in
      record {
        link = link_in_end r d.stayed.first i (omega (arith, d.stayed.order, d.within)) d.stayed.link;
        single = has_single;
        first = d.stayed.main;
        new = c.new;
        brought = c.brought;
        came = d.stayed.first;
        until = d.until;
        order = d.stayed.order;
        within = d.within;
        linked = d.stayed.link;
        is = counts d.stayed.first (omega arith) (omega (arith, d.stayed.order, d.within)) ∙ d.stayed.is;
        since = λ t low high. subst (λ es. Contains es s) (sym (entries_at t low (omega (arith, high, d.within)))) (d.stayed.since t low high);
        once = λ t low high bitmap entries is.
            once_there (steps_of limits steps) r (takes_steps limits steps) (keys_fit limits steps fit) t (omega (arith, high, d.within)) (counting_main states last t i) s
            (made_at t low (omega (arith, high, d.within))) has_single bitmap entries is;
        gone = λ names. d.gone (subst (λ es. Contains es s) (entries_at (suc d.until) (omega (arith, d.stayed.order)) d.within) names);
        no_link = λ c link names.
            subst (λ es. Contains es c) (sym (entries_at d.until d.stayed.order (omega (arith, d.within))))
            (d.nothing_new c (ap is_indirection link.2) (subst (λ es. Contains es c) (entries_at (suc d.until) (omega (arith, d.stayed.order)) d.within) names));
      }

  it_is_unlinked : IsLinked (states last) s → ⊥
  it_is_unlinked = dropped_unlinked r i s went

pub dropped_is_unlinked : DroppedIsUnlinked
dropped_is_unlinked limits steps ok fit i s d = it_is_unlinked limits steps ok fit i s d
