-- The laws, of the last step of each run.
use Rattle.std.proofs.Common.{◌≡◌, ℕ, suc, ◌⊎◌, inl, inr, List, Option, Some, refl, sym, ap, subst, ◌∙◌, arith}
use Rattle.proof_updates.specs.Vocabulary.{Access, Writable, ReadOnly, Call, Clear, Snapshot, Freeze, Close, Ref, Bounds, Outcome, Step, content_at, State, Moves, IsRun, OwnCommit, MainStep}
use Rattle.proof_updates.specs.Vocabulary.{assigned_at, stays as stays_all, changes as changes_one, Brings, trie_of_run, TakesSteps, StepsFit, Notes}
use Rattle.proof_order.proofs.Openings.Brings.{swaps_bring}
use Rattle.proof_updates.specs.Laws.Handles.{HandleHolds, UntouchedStay, UpdatesChange, RepairsStay, ClearsEmpty, ClosesTake, OpenedCopy}
use Rattle.proof_updates.specs.Touching.{CarriesOutCall, CommitsUpdate, Touches, updates, clears, closes}
use Rattle.proof_updates.proofs.Handles.Committing.{commits_own, no_update, owned, no_owner, no_repair, begins_none, carries_nothing}
use Rattle.proof_updates.proofs.Handles.Kept.{main_step, values_stay, content_later}
use Rattle.proof_updates.proofs.Handles.Roots.{HandleStep, keeps, changes_root, is_closed, handle_step, swap_of, IsOpened, opened_step, closed_handle}
use Rattle.proof_updates.proofs.Handles.Showing.{content_shown}
use Rattle.proof_updates.proofs.Handles.Swapping.{its_call, carries_call, brings, copies, copied_root, cleared, Copied, by_snapshot, by_freeze, copied}
use Rattle.proof_updates.proofs.Handles.Updating.{update_changes}
use Rattle.proof_updates.proofs.Handles.Values.{value_below}

-- a law of the last step of each run
abbrev pub OfLastSteps : (Bounds → State → Step → State → Type 0) → Type 0
OfLastSteps Law =
    (limits : Bounds) (states : ℕ → State) (steps : ℕ → Step) (t : ℕ) (run : IsRun limits states (suc t)) → TakesSteps states steps (suc t) → StepsFit steps (suc t) → (s : Step) (o : Outcome) →
    Moves (states t) s o (states (suc t)) → Notes states run.records t s → Law limits (states t) s (states (suc t))

-- the updates that a step commits are of one indirection
abbrev pub OneUpdate : Bounds → State → Step → State → Type 0
OneUpdate limits before s after =
    (i j : Ref) (call other : Call) (former known : Option ℕ) → CommitsUpdate before s i call former → CommitsUpdate before s j other known → i ≡ j

module _ (limits : Bounds) (states : ℕ → State) (steps : ℕ → Step) (t : ℕ) (run : IsRun limits states (suc t)) (takes : TakesSteps states steps (suc t)) (keys : StepsFit steps (suc t))
    (s : Step) (o : Outcome) (m : Moves (states t) s o (states (suc t))) (notes : Notes states run.records t s) where
  abbrev before : State
  before = states t

  abbrev after : State
  after = states (suc t)

  -- ---- handles that aren't touched

  stays : (handle : ℕ) (access : Access) (pairs : List (ℕ × ℕ)) → HandleHolds (states t) handle access pairs → ¬ Touches (states t) s handle → HandleHolds (states (suc t)) handle access pairs
  stays handle access pairs holds untouched = by_root (handle_step run t (omega arith) s o m notes handle holds.root holds.is_open)
    where
      by_root : HandleStep run t (omega arith) s o m notes handle holds.root → HandleHolds (states (suc t)) handle access pairs
      by_root (keeps stands) = record {
        root = stands.root;
        is_open = stands.is_open;
        kind = stands.kind ∙ holds.kind;
        content = content_later limits states steps t run takes keys s o m notes handle holds.root holds.is_open handle stands.root stands.is_open
            (λ key. ap (λ q. value_below (trie_of_run limits states steps (suc t)) (suc t) q key) stands.over
            ∙ values_stay limits states steps t run takes keys s o m notes handle holds.root holds.is_open
            (λ own path former e reach. untouched (updates own.indirection own.owner.call former (commits_own limits states run.records (suc t) t s own path former e) reach)) key)
            ∙ holds.content;
      }
      by_root (changes_root offer carries old stands) = record {
        root = stands.root;
        is_open = stands.is_open;
        kind = stands.kind ∙ holds.kind;
        content = copies limits states steps t run takes keys s o m notes handle offer carries offer.successor
            (copied_root limits states steps t run takes keys s o m notes handle offer carries (its_call limits states steps t run takes keys s o m notes handle offer carries)
            (brings limits states steps t run takes keys s o m notes handle offer carries)
            (λ e. untouched
            (clears offer.opens (subst (λ c. CarriesOutCall (states t) s c offer.opens) e (carries_call limits states steps t run takes keys s o m notes handle offer carries offer.opens refl)))))
            handle stands.root stands.is_open stands.over ∙ holds.content;
      }
      by_root (is_closed actor number e gone) = absurd (untouched (closes actor number e))

  -- ---- repairs

  repaired : RepairsStay limits (states t) s (states (suc t))
  repaired handle access pairs holds r = stays handle access pairs holds untouched
    where
      by_own : MainStep limits states run.records (suc t) (assigned_at states (suc t)) t s → ((own : OwnCommit limits states run.records (suc t) (assigned_at states (suc t)) t s) → ⊥) → ⊥
      by_own (stays_all none same) wrong = no_repair limits states run.records (suc t) t s none r
      by_own (changes_one own) wrong = wrong own

      untouched : Touches (states t) s handle → ⊥
      untouched (updates i call former u reach) =
          by_own (main_step limits states steps t run takes keys s o m notes)
          (λ own. let w = owned limits states run.records (suc t) t s own i call former u in no_owner limits states run.records (suc t) t s own r w.path former w.purpose_is)
      untouched (clears opens c) =
          by_own (main_step limits states steps t run takes keys s o m notes) (carries_nothing limits states run.records (suc t) t s c.handle c.offer c.carries)
      untouched (closes actor number e) = begins_none limits states run.records (suc t) t s actor (Close handle) number e r

  -- ---- own updates

  changes : UpdatesChange limits (states t) s (states (suc t))
  changes handle access pairs i call former holds u reach =
      let done = update_changes limits states steps t run takes keys s o m notes handle holds.root holds.is_open i call former reach u in
      let turned = done.2 in (
        done.0,
        subst (λ a. HandleHolds (states (suc t)) handle a done.0) holds.kind done.1,
        record {
          before = turned.before;
          after = turned.after;
          begins = turned.begins ∙ sym (content_shown steps run takes keys t (omega arith) handle holds.root holds.is_open) ∙ holds.content;
          ends = turned.ends;
          changes = turned.changes;
        },
      )

  one : OneUpdate limits (states t) s (states (suc t))
  one i j call other former known u v = by_own (main_step limits states steps t run takes keys s o m notes)
    where
      by_own : MainStep limits states run.records (suc t) (assigned_at states (suc t)) t s → i ≡ j
      by_own (stays_all none same) = absurd (no_update limits states run.records (suc t) t s none i call former u)
      by_own (changes_one own) =
          sym (owned limits states run.records (suc t) t s own i call former u).indirection_is ∙ (owned limits states run.records (suc t) t s own j other known v).indirection_is

  -- ---- root swaps

  -- the offer's call is the one that its operation says
  brought : (call : Call) (opens : Option ℕ) → (c : CarriesOutCall (states t) s call opens) → Brings states (suc t) t c.handle c.offer call
  brought call opens c =
      subst (Brings states (suc t) t c.handle c.offer) c.calls
      (swaps_bring run t c.handle c.offer (swap_of run t (omega arith) s o m notes c.handle c.offer c.carries) c.actor c.operation c.runs c.its)

  empties : ClearsEmpty limits (states t) s (states (suc t))
  empties handle opens c = cleared limits states steps t run takes keys s o m notes c.handle c.offer c.carries (Clear handle) (brought (Clear handle) opens c) handle refl

  copy : OpenedCopy limits (states t) s (states (suc t))
  copy handle root shut now =
      by_call (copied limits states steps t run takes keys s o m notes it.on it.offer it.carries
      (its_call limits states steps t run takes keys s o m notes it.on it.offer it.carries) (brings limits states steps t run takes keys s o m notes it.on it.offer it.carries) handle it.number it.now)
    where
      it : IsOpened run t (omega arith) s o m notes handle
      it = opened_step run t (omega arith) s o m notes handle root shut now

      calls : CarriesOutCall (states t) s (its_call limits states steps t run takes keys s o m notes it.on it.offer it.carries) (Some handle)
      calls = carries_call limits states steps t run takes keys s o m notes it.on it.offer it.carries (Some handle) it.number

      by_call : Copied limits states steps t run takes keys s o m notes it.on it.offer it.carries handle (its_call limits states steps t run takes keys s o m notes it.on it.offer it.carries) →
          (copied : ℕ) × ((CarriesOutCall (states t) s (Snapshot copied) (Some handle) × HandleHolds (states (suc t)) handle Writable (content_at (states t) copied))
          ⊎ (CarriesOutCall (states t) s (Freeze copied) (Some handle) × HandleHolds (states (suc t)) handle ReadOnly (content_at (states t) copied)))
      by_call (by_snapshot e holds) = (it.on, inl (subst (λ c. CarriesOutCall (states t) s c (Some handle)) e calls, holds))
      by_call (by_freeze e holds) = (it.on, inr (subst (λ c. CarriesOutCall (states t) s c (Some handle)) e calls, holds))

pub untouched_stay : OfLastSteps UntouchedStay
untouched_stay limits states steps t run takes keys s o m notes = stays limits states steps t run takes keys s o m notes

pub updates_change : OfLastSteps UpdatesChange
updates_change limits states steps t run takes keys s o m notes = changes limits states steps t run takes keys s o m notes

pub one_update : OfLastSteps OneUpdate
one_update limits states steps t run takes keys s o m notes = one limits states steps t run takes keys s o m notes

pub repairs_stay : OfLastSteps RepairsStay
repairs_stay limits states steps t run takes keys s o m notes = repaired limits states steps t run takes keys s o m notes

pub clears_empty : OfLastSteps ClearsEmpty
clears_empty limits states steps t run takes keys s o m notes = empties limits states steps t run takes keys s o m notes

pub closes_take : OfLastSteps ClosesTake
closes_take limits states steps t run takes keys s o m notes actor handle number e = closed_handle (states t) s o (states (suc t)) m actor handle number e

pub opened_copy : OfLastSteps OpenedCopy
opened_copy limits states steps t run takes keys s o m notes = copy limits states steps t run takes keys s o m notes
