-- What the handles show at each time of a run, and what single operations do to it.
use Rattle.std.proofs.Common.{◌≡◌, ℕ, suc, ◌<◌, ◌≤◌, true, false, cond, List, [], ◌∷◌, Option, Some, None, refl, sym, ap, ◌∙◌, subst, arith, ne_eqb, eq-eqb}
use Rattle.proof_order.specs.Vocabulary.{hash_of, KeyMap, HandleState, Access, Writable, ReadOnly, Reply, Answered, Recalls, Place, Operation, Bounds, handle_of, State, IsRun, place_of, closing_for}
use Rattle.proof_order.specs.Vocabulary.{entrant_of}
use Rattle.proof_order.specs.Beneath.proof_contents.specs.Effects.{act_in}
use Rattle.proof_order.specs.Facts.{standing, On, Runs, IsReply, Update}
use Rattle.proof_order.proofs.Views.Replay.{View, but, Leads, leads_one, leads_same}
use Rattle.proof_order.proofs.Views.Acts.{named, but_same, acts_on}
use Rattle.proof_order.proofs.History.Recalling.{recalls_running}
use Rattle.proof_order.proofs.Places.Origins.{place_says}

-- ---- views that differ at one handle

pub but_here : (view : View) (handle : ℕ) (state : Option HandleState) → but view handle state handle ≡ state
but_here view handle state = ap (λ b. cond b state (view handle)) (eq-eqb handle handle refl)

pub but_there : (view : View) (handle : ℕ) (state : Option HandleState) (other : ℕ) → (other ≡ handle → ⊥) → but view handle state other ≡ view other
but_there view handle state other apart = ap (λ b. cond b state (view other)) (ne_eqb other handle apart)

-- ---- what the handles show

abbrev pub shown : (ℕ → ℕ → KeyMap) → ℕ → ℕ → Option (Access × ℕ) → Option HandleState
shown V last t None = None
shown V last t (Some (Writable, generation)) = Some (named Writable (V generation t))
shown V last t (Some (ReadOnly, generation)) = Some (named ReadOnly (V generation last))

-- where no writable handle's content changes, what is shown stays
pub same_shown : (V : ℕ → ℕ → KeyMap) (last t u : ℕ) (stood : Option (Access × ℕ)) →
    ((generation : ℕ) → stood ≡ Some (Writable, generation) → V generation u ≡ V generation t) → shown V last t stood ≡ shown V last u stood
same_shown V last t u None still = refl
same_shown V last t u (Some (Writable, generation)) still = ap (λ m. Some (named Writable m)) (sym (still generation refl))
same_shown V last t u (Some (ReadOnly, generation)) still = refl

module _ (limits : Bounds) (states : ℕ → State) (last : ℕ) (V : ℕ → ℕ → KeyMap) where
  -- what the handles show at a time
  abbrev pub view : ℕ → View
  view t handle = shown V last t (standing (states t) handle)

  pub view_writable : (t handle generation : ℕ) → On states t handle generation → view t handle ≡ Some (named Writable (V generation t))
  view_writable t handle generation on = ap (shown V last t) on

  pub view_read_only : (t handle generation : ℕ) → standing (states t) handle ≡ Some (ReadOnly, generation) → view t handle ≡ Some (named ReadOnly (V generation last))
  view_read_only t handle generation on = ap (shown V last t) on

  -- a handle whose standing and content stay shows the same
  pub view_stays : (t handle : ℕ) → standing (states (suc t)) handle ≡ standing (states t) handle →
      ((generation : ℕ) → On states t handle generation → V generation (suc t) ≡ V generation t) → view t handle ≡ view (suc t) handle
  view_stays t handle same still = same_shown V last t (suc t) (standing (states t) handle) still ∙ ap (shown V last (suc t)) (sym same)

module _ {limits : Bounds} {states : ℕ → State} {last : ℕ} (r : IsRun limits states last) (V : ℕ → ℕ → KeyMap) where
  -- an own update leads its handle from one content to the next
  pub update_leads : (t : ℕ) → t < last → (entered : List Place) (update : Update limits states r.records last V t entered) (before : View) →
      before (handle_of update.owner.call) ≡ Some (named Writable (V update.generation t)) →
      Leads (hash_of limits.hash) (r.records last).events (place_of (r.records t) (entrant_of update.owner) t false ∷ []) before
      (but before (handle_of update.owner.call) (Some (named Writable (V update.generation (suc t)))))
  update_leads t lt entered update before at =
      let owner : Operation = update.owner in
      let id = (place_says (closing_for (r.records t) owner.generation owner.access) t owner.id false).2 in
      let one : Answered = record { call = owner.call; opens = owner.opens; answer = update.answer } in
      let recalls = recalls_running r t update.k owner update.answer (omega arith) update.runs update.agrees in
      leads_one (hash_of limits.hash) (r.records last).events (place_of (r.records t) (entrant_of owner) t false) one before _
      (subst (λ i. Recalls (r.records last).events i one) (sym id) recalls)
      (acts_on (hash_of limits.hash) Writable owner.call owner.opens before (V update.generation t) update.answer (V update.generation (suc t)) at update.acts)

  -- an operation that changes nothing
  pub reader_leads : (u k : ℕ) (operation : Operation) (moment : ℕ) (answer : Reply) (p : Place) (access : Access) (m : KeyMap) (before : View) → u ≤ last → Runs (states u) k operation →
      p ≡ place_of (r.records u) (entrant_of operation) moment true → IsReply (r.records last).events operation.id answer →
      before (handle_of operation.call) ≡ Some (named access m) → act_in (hash_of limits.hash) access operation.call m ≡ Some (answer, m) →
      Leads (hash_of limits.hash) (r.records last).events (p ∷ []) before before
  reader_leads u k operation moment answer p access m before le runs is agrees at acts =
      let id = ap (λ (q : Place). q.id) is ∙ (place_says (closing_for (r.records u) operation.generation operation.access) moment operation.id true).2 in
      let one : Answered = record { call = operation.call; opens = operation.opens; answer = answer } in
      let recalls = recalls_running r u k operation answer le runs agrees in
      leads_same (hash_of limits.hash) (r.records last).events (p ∷ []) before (but before (handle_of operation.call) (Some (named access m))) before
      (leads_one (hash_of limits.hash) (r.records last).events p one before _ (subst (λ i. Recalls (r.records last).events i one) (sym id) recalls)
      (acts_on (hash_of limits.hash) access operation.call operation.opens before m answer m at acts))
      (λ other. sym (but_same before (handle_of operation.call) (Some (named access m)) at other))
