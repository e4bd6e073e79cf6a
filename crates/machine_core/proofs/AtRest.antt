-- What a call finds that begins in a state of a run in which nothing runs.
use Rattle.std.proofs.Common.{arith, ◌≡◌, ℕ, ◌+◌, ◌*◌, ◌<◌, ◌≤◌, false, length, None, refl, sym, subst}
use Rattle.machine_core.specs.Vocabulary.{Call, Ref, IsLive, main_at, Plain, handle_of, key_of, most_levels, FitsKey, begin_denial, is_busy, State, key_hash, word_at}
use Rattle.machine_core.specs.Vocabulary.{IsInUse, AMain, Holds, Is, is, IsOfRun, HasEmptySlots}
use Rattle.machine_core.specs.Vocabulary.{IsUpToDate}
use Rattle.machine_core.specs.Beneath.proof_memory.proofs.Claims.Nodes.{main_read}
use Rattle.machine_core.specs.Beneath.proof_memory.proofs.Claims.Uses.{safe_of}
use Rattle.machine_core.specs.Beneath.proof_memory.proofs.Holding.Lives.{in_use_lives}
use Rattle.machine_core.specs.Beneath.proof_memory.proofs.Safety.Base.{handle_given}
use Rattle.machine_core.specs.Beneath.proof_straight.specs.Running.{IsAtRest, IsKeyed, IsReady}
use Rattle.machine_core.specs.Beneath.proof_straight.proofs.Runs.Resting.{free_slots_empty, limbo_up_to_date}
use Rattle.machine_model.specs.declared.steps.Step.TheVariants as step
use Rattle.machine_core.specs.declared.descending.Place.{Place}
use Rattle.machine_core.specs.declared.parts.Parts.{Parts}
use Rattle.machine_core.specs.Descending.{EndsAt}
use Rattle.machine_core.specs.Keeping.{IsCore}
use Rattle.machine_core.specs.Seen.{seen}
use Rattle.machine_core.specs.Straight.{HasArrived, IsClear, IsFit, LeadsTo}
use Rattle.proof_core.specs.Tries.{IsTrie}
use Rattle.proof_core.proofs.Bounded.{bounded}
use Rattle.proof_core.proofs.Given.{sizes}
use Rattle.proof_core.proofs.Tries.{nodes_safe, trie_of_run}

pub empty_slots : (state : State) → IsOfRun state → HasEmptySlots state.heap
empty_slots state h = subst (λ (s : State). HasEmptySlots s.heap) (sym h.is) (free_slots_empty state.limits h.steps h.limits)

-- a state in which nothing runs is at rest
pub rests_at : (state : State) → IsOfRun state → is_busy state ≡ false → IsAtRest state
rests_at state h rest = record {
  rest = rest;
  actors = (sizes state h).1;
  calm = subst IsUpToDate (sym h.is) (limbo_up_to_date state.limits h.steps h.limits);
  free = empty_slots state h;
}

-- a call that may begin is ready to go on alone
pub ready_at : (state : State) (actor : ℕ) (call : Call) (root : Ref) → IsOfRun state → is_busy state ≡ false → begin_denial state actor call None ≡ None →
    word_at state (handle_of call) ≡ Plain root → IsReady state actor call root
ready_at state actor call root h rest allowed word = record { rests = rests_at state h rest; allowed = allowed; word = word }

-- ---- what a root leads to

pub trie_at : (state : State) (actor : ℕ) (call : Call) (root : Ref) → IsOfRun state → begin_denial state actor call None ≡ None → word_at state (handle_of call) ≡ Plain root → IsTrie state.heap root
trie_at state actor call root h allowed word = trie_of_run state (handle_of call) root h (handle_given state actor call None allowed) word

-- the root and its main node are in use
pub root_lives : (state : State) → IsOfRun state → (actor : ℕ) (call : Call) (root main : Ref) → begin_denial state actor call None ≡ None → word_at state (handle_of call) ≡ Plain root →
    main ≡ main_at state.heap root → IsLive state.heap root × IsLive state.heap main
root_lives state h actor call root main allowed word there =
    let t = trie_at state actor call root h allowed word in
    let over : Holds (IsInUse state.heap) state.heap (Is main AMain) =
    subst (λ r. Holds (IsInUse state.heap) state.heap (Is r AMain)) (sym there) (main_read (IsInUse state.heap) state.heap (nodes_safe state.heap root t) (is t.used t.indirection)) in
    (in_use_lives state.heap root t.used, in_use_lives state.heap main (safe_of over))

-- a call on one key can be carried out
pub fit_at : (parts : Parts) (actor : ℕ) (call : Call) (root : Ref) (levels : ℕ) → IsCore parts → is_busy (seen parts) ≡ false → begin_denial (seen parts) actor call None ≡ None →
    IsClear (seen parts) (handle_of call) root → levels < most_levels → 33 * levels + 32 ≤ length (seen parts).heap.free → IsFit parts actor call root levels
fit_at parts actor call root levels core rest allowed clear few free =
    let state = seen parts in
    let bounds = bounded state core.run in
    record {
      can = record {
        ready = ready_at state actor call root core.run rest allowed clear.word;
        slots = free;
        steps = omega (arith, clear.steps, few);
        life = core.run.life;
        begun = omega (arith, bounds.begins, bounds.steps);
        births = omega (arith, bounds.births, bounds.steps, bounds.slots);
        trie = trie_at state actor call root core.run allowed clear.word;
      };
      kept = core.kept;
      settled = core.settled;
    }

-- where nothing was renewed the call is where it began
pub leads_first : (state : State) (actor : ℕ) (call : Call) (depth : ℕ) → IsOfRun state → LeadsTo state state actor call depth
leads_first state actor call depth run = record { run = run; begun = refl; passes = λ n t least goes. (n, omega arith, goes) }

-- a call on one key has arrived where its way down ends
pub arrives_first : (parts : Parts) (actor : ℕ) (call : Call) (root : Ref) (place : Place) (key hash : ℕ) → IsCore parts → is_busy (seen parts) ≡ false →
    begin_denial (seen parts) actor call None ≡ None → IsClear (seen parts) (handle_of call) root → IsKeyed call → FitsKey (step.Begin actor call None) → key ≡ key_of call →
    hash ≡ key_hash (seen parts) key → EndsAt parts.heap.heap root hash key place → HasArrived (seen parts) parts actor call root place
arrives_first parts actor call root place key hash core rest allowed clear keyed fits own hashed ends = record {
  fit = fit_at parts actor call root 0 core rest allowed clear (omega arith) (omega (arith, clear.slots));
  keyed = keyed;
  fits = fits;
  ends = subst (λ k. EndsAt parts.heap.heap root (key_hash (seen parts) k) k place) own (subst (λ h. EndsAt parts.heap.heap root h key place) hashed ends);
  leads = leads_first (seen parts) actor call place.depth core.run;
}
