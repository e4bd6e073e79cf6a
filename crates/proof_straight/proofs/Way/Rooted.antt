-- How a call on one key begins, reads its root, and comes to where its key stands or would.
use Rattle.std.proofs.Common.{◌≡◌, ℕ, suc, ◌+◌, false, [], None, refl, ap, ◌∙◌, subst, arith}
use Rattle.std.proofs.lemmas.List.{append-nil}
use Rattle.proof_straight.specs.Vocabulary.{Call, Ref, limbo_after, Operation, is_close, opens_handle, going_down, new_try, begun_operation, first_line, after_root, given_root, State}
use Rattle.proof_straight.specs.Vocabulary.{after_root_word, Record}
use Rattle.proof_straight.specs.Beneath.history.specs.declared.calls.Call.TheVariants as call
use Rattle.machine_model.specs.declared.actions.Action.TheVariants as act
use Rattle.machine_model.specs.Operations.{from_root}
use Rattle.machine_model.proofs.Actors.{begin_actor}
use Rattle.machine_model.proofs.Alike.{actor_within}
use Rattle.proof_straight.specs.Drafts.{Draft, first_draft}
use Rattle.proof_straight.specs.Running.{IsKeyed, IsReady}
use Rattle.proof_straight.proofs.Steps.Alone.{Alone, IsCalm, on_line, stand}
use Rattle.proof_straight.proofs.Way.Descent.{OnLine, rooted}
use Rattle.proof_straight.proofs.Steps.Going.{Stands, begins_so, begun_record, stays, unnoted}
use Rattle.proof_straight.proofs.Steps.Noting.{quiet}

keyed_first : (c : Call) → IsKeyed c → first_line c ≡ new_try
keyed_first (call.Get h k) keyed = refl
keyed_first (call.Put h k v) keyed = refl
keyed_first (call.PutIfAbsent h k v) keyed = refl
keyed_first (call.Replace h k v) keyed = refl
keyed_first (call.ReplaceIf h k a b) keyed = refl
keyed_first (call.Remove h k) keyed = refl
keyed_first (call.RemoveIf h k v) keyed = refl
keyed_first other keyed = absurd keyed

keyed_down : (c : Call) (r : Ref) → IsKeyed c → from_root c r ≡ going_down [] r
keyed_down (call.Get h k) r keyed = refl
keyed_down (call.Put h k v) r keyed = refl
keyed_down (call.PutIfAbsent h k v) r keyed = refl
keyed_down (call.Replace h k v) r keyed = refl
keyed_down (call.ReplaceIf h k a b) r keyed = refl
keyed_down (call.Remove h k) r keyed = refl
keyed_down (call.RemoveIf h k v) r keyed = refl
keyed_down other r keyed = absurd keyed

pub keyed_open : (c : Call) → IsKeyed c → is_close c ≡ false
keyed_open (call.Close h) keyed = absurd keyed
keyed_open other keyed = refl

pub keyed_opens : (c : Call) → IsKeyed c → opens_handle c ≡ false
keyed_opens (call.Snapshot h) keyed = absurd keyed
keyed_opens (call.Freeze h) keyed = absurd keyed
keyed_opens other keyed = refl

-- what stands at rest stands for a call that runs alone
pub alone_at : (state : State) (k : ℕ) (c : Call) (root : Ref) → IsReady state (suc k) c root → Alone state k
alone_at state k c root ready = record {
  actor = actor_within state (suc k) (begin_actor state (suc k) c None ready.allowed);
  within = omega (arith, ready.rests.actors, actor_within state (suc k) (begin_actor state (suc k) c None ready.allowed));
  rest = ready.rests.rest;
}

pub calm_at : (state : State) (actor : ℕ) (c : Call) (root : Ref) → IsReady state actor c root → IsCalm state (first_draft state)
calm_at state actor c root ready = ap (λ held. limbo_after state.heap held state.epoch state.limbo) (append-nil _) ∙ ready.rests.calm

-- once the root is read
pub comes_to_root : (state : State) (past : Record) (k : ℕ) (c : Call) (root : Ref) (ready : IsReady state (suc k) c root) → first_line c ≡ new_try → is_close c ≡ false →
    OnLine state past k c root (alone_at state k c root ready) (calm_at state (suc k) c root ready) (begun_record state past k c) (from_root c root) 1
comes_to_root state past k c root ready first stays_open =
    unnoted state past k c state alone draft (on_line (rooted state c root) draft (from_root c root)) 1 (state.steps + 1)
    (stays state past k c state alone draft begun (rooted state c root) new_try (from_root c root) 0 act.ReadRoot quiet tt calm
    (subst (λ l. Stands state past k c (begun_record state past k c) state draft (on_line begun draft l) 0) first (begins_so state past k c alone calm ready.allowed stays_open))
    refl refl
    (ap (λ w. record (on_line begun draft new_try) { generation = given_root at_root (after_root_word w) None; line = after_root (on_line begun draft new_try) (after_root_word w) }) ready.word))
  where
    draft : Draft
    draft = first_draft state

    begun : Operation
    begun = begun_operation state c None

    alone : Alone state k
    alone = alone_at state k c root ready

    calm : IsCalm state draft
    calm = calm_at state (suc k) c root ready

    at_root : State
    at_root = stand state k draft (on_line begun draft new_try) (state.steps + 1)

-- a call on one key goes down from there
pub comes_keyed : (state : State) (past : Record) (k : ℕ) (c : Call) (root : Ref) (ready : IsReady state (suc k) c root) → IsKeyed c →
    OnLine state past k c root (alone_at state k c root ready) (calm_at state (suc k) c root ready) (begun_record state past k c) (going_down [] root) 1
comes_keyed state past k c root ready keyed =
    subst (λ l. OnLine state past k c root (alone_at state k c root ready) (calm_at state (suc k) c root ready) (begun_record state past k c) l 1) (keyed_down c root keyed)
    (comes_to_root state past k c root ready (keyed_first c keyed) (keyed_open c keyed))
