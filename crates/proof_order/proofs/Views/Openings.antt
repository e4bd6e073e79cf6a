-- What a step does that carries an offer out, or begins a close, to what the handles show.
use Rattle.std.proofs.Common.{◌≡◌, ℕ, suc, ◌<◌, false, List, [], ◌∷◌, Option, Some, None, refl, sym, ap, ◌∙◌, subst, arith}
use native.Mathlib.Decide.{ℕ_discrete}
use Rattle.std.proofs.lemmas.Option.{none-some, same_Some}
use Rattle.std.specs.FinMap as fin
use Rattle.proof_order.specs.Vocabulary.{hash_of, KeyMap, Access, Writable, ReadOnly, Call, Clear, Snapshot, Freeze, Close, Reply, begun, Recalls, generation_at, Place, on_time, Descriptor, Bounds}
use Rattle.proof_order.specs.Vocabulary.{State, root_at, copied_reply, opened_root, IsRun}
use Rattle.proof_order.specs.Beneath.history.specs.declared.replies.Reply.TheVariants as reply
use Rattle.proof_order.specs.Facts.{standing, standing_of, On, IsReply, Facts, Opens, clears, snapshots, freezes}
use Rattle.proof_order.proofs.Offers.Carried.{Carried}
use Rattle.proof_order.proofs.Views.Replay.{View, but, Leads, leads_same, leads_one}
use Rattle.proof_order.proofs.Views.Acts.{named, acts_on, copies, closes as closes_handle}
use Rattle.proof_order.proofs.Views.Changes.{roots_swapped}
use Rattle.proof_order.proofs.History.Recalling.{recalls_running}
use Rattle.proof_order.proofs.Views.Steps.{IsStill}
use Rattle.proof_order.proofs.Views.Sound.{stands_here, stands_there, stands_else, opened_apart}
use Rattle.proof_order.proofs.Views.Timeline.{shown, view, view_writable, view_read_only, view_stays, but_here, but_there}

-- what is shown is of a kind and a map
shown_named : (V : ℕ → ℕ → KeyMap) (last t : ℕ) (stood : Access × ℕ) → (access : Access) × (m : KeyMap) × (shown V last t (Some stood) ≡ Some (named access m))
shown_named V last t (Writable, generation) = (Writable, V generation t, refl)
shown_named V last t (ReadOnly, generation) = (ReadOnly, V generation last, refl)

module _ {limits : Bounds} {states : ℕ → State} {last : ℕ} (r : IsRun limits states last) (V : ℕ → ℕ → KeyMap) (facts : Facts limits states r.records last V) where
  abbrev LeadsOn : List Place → View → View → Type 0
  LeadsOn ps before after = Leads (hash_of limits.hash) (r.records last).events ps before after

  abbrev at_time : ℕ → View
  at_time t = view limits states last V t

  -- ---- a close

  pub close_leads : (t handle : ℕ) (stood : Access × ℕ) → Recalls (r.records last).events (begun (r.records t).events) (record { call = Close handle; opens = None; answer = reply.Closed }) →
      standing (states t) handle ≡ Some stood → standing (states (suc t)) handle ≡ None →
      ((other : ℕ) → (other ≡ handle → ⊥) → standing (states (suc t)) other ≡ standing (states t) other) → IsStill limits states r.records last V t →
      LeadsOn (on_time t false (begun (r.records t).events) ∷ []) (at_time t) (at_time (suc t))
  close_leads t handle stood recalls at gone others still =
      let (access, m, is) = shown_named V last t stood in
      leads_same (hash_of limits.hash) (r.records last).events (on_time t false (begun (r.records t).events) ∷ []) (at_time t) (but (at_time t) handle None) (at_time (suc t))
      (leads_one (hash_of limits.hash) (r.records last).events (on_time t false (begun (r.records t).events)) (record { call = Close handle; opens = None; answer = reply.Closed })
      (at_time t) _ recalls
      (closes_handle (hash_of limits.hash) handle None (at_time t) access m (ap (shown V last t) at ∙ is)))
      (λ other. behind other (ℕ_discrete other handle))
    where
      behind : (other : ℕ) → Dec (other ≡ handle) → but (at_time t) handle None other ≡ at_time (suc t) other
      behind other (yes here) =
          ap (but (at_time t) handle None) here ∙ but_here (at_time t) handle None ∙ sym (ap (shown V last (suc t)) gone) ∙ ap (at_time (suc t)) (sym here)
      behind other (no there) =
          but_there (at_time t) handle None other there
          ∙ view_stays limits states last V t other (others other there) (λ generation on. still generation (t, other, omega arith, on))

  -- ---- a swap

  module _ (t handle : ℕ) (lt : t < last) (offer : Descriptor) (swap : Carried states r.records last V t handle offer)
      (roots : (states (suc t)).roots ≡ roots_swapped (states t) handle offer offer.opens) (heap : (states (suc t)).heap ≡ (states t).heap) (still : IsStill limits states r.records last V t) where
    abbrev old : ℕ
    old = generation_at (states t).heap offer.root

    abbrev successor : ℕ
    successor = generation_at (states t).heap offer.successor

    abbrev pub at_last : View
    at_last = but (at_time t) handle (Some (named Writable (V old last)))

    abbrev place : Place
    place = on_time t false offer.operation

    -- the operation that offered, with this reply
    recalled : (call : Call) (opens : Option ℕ) (answer : Reply) → swap.offerer.call ≡ call → offer.opens ≡ opens → IsReply (r.records last).events offer.operation answer →
        Recalls (r.records last).events offer.operation (record { call = call; opens = opens; answer = answer })
    recalled call opens answer c o is =
        let its : IsReply (r.records last).events swap.offerer.id answer = subst (λ i. IsReply (r.records last).events i answer) (sym swap.is_its) is in
        let told = recalls_running r t swap.k swap.offerer answer (omega arith) swap.runs its in
        let here = subst (λ i. Recalls (r.records last).events i (record { call = swap.offerer.call; opens = swap.offerer.opens; answer = answer })) swap.is_its told in
        let with_call = subst (λ x. Recalls (r.records last).events offer.operation (record { call = x; opens = swap.offerer.opens; answer = answer })) c here in
        subst (λ x. Recalls (r.records last).events offer.operation (record { call = call; opens = x; answer = answer })) (swap.number ∙ o) with_call

    -- its reply
    agrees_as : (call : Call) (opens : Option ℕ) → swap.offerer.call ≡ call → offer.opens ≡ opens → IsReply (r.records last).events offer.operation (copied_reply call opens)
    agrees_as call opens c o =
        subst (λ x. IsReply (r.records last).events offer.operation (copied_reply call x)) (swap.number ∙ o)
        (subst (λ x. IsReply (r.records last).events offer.operation (copied_reply x swap.offerer.opens)) c swap.agrees)

    -- a handle that isn't touched shows the same
    untouched : (opens : Option ℕ) (other : ℕ) → offer.opens ≡ opens → (other ≡ handle → ⊥) → ((n : ℕ) → opens ≡ Some n → other ≡ n → ⊥) → at_time t other ≡ at_time (suc t) other
    untouched opens other e apart away =
        view_stays limits states last V t other (stands_else r V facts t handle lt offer swap roots heap opens other e apart away)
        (λ generation on. still generation (t, other, omega arith, on))

    -- on its handle the new root's content shows
    new_shown : (opens : Option ℕ) → offer.opens ≡ opens → ((n : ℕ) → opens ≡ Some n → root_at (states t) n ≡ None) → (m : KeyMap) → V successor (suc t) ≡ m →
        at_time (suc t) handle ≡ Some (named Writable m)
    new_shown opens e free m is =
        view_writable limits states last V (suc t) handle successor (stands_here r V facts t handle lt offer swap roots heap opens e free) ∙ ap (λ x. Some (named Writable x)) is

    -- behind a clear
    clear_behind : offer.opens ≡ None → V successor (suc t) ≡ fin.empty → (other : ℕ) → Dec (other ≡ handle) →
        but at_last handle (Some (named Writable fin.empty)) other ≡ at_time (suc t) other
    clear_behind e empty other (yes here) =
        ap (but at_last handle (Some (named Writable fin.empty))) here ∙ but_here at_last handle (Some (named Writable fin.empty))
        ∙ sym (new_shown None e (λ n is. absurd (none-some n is)) fin.empty empty) ∙ ap (at_time (suc t)) (sym here)
    clear_behind e empty other (no there) =
        but_there at_last handle (Some (named Writable fin.empty)) other there ∙ but_there (at_time t) handle (Some (named Writable (V old last))) other there
        ∙ untouched None other e there (λ n is. absurd (none-some n is))

    -- behind a snapshot or a freeze
    module _ (n : ℕ) (e : offer.opens ≡ Some n) (free : root_at (states t) n ≡ None) (access : Access) (first : V successor (suc t) ≡ V old last)
        (opened : at_time (suc t) n ≡ Some (named access (V old last))) where
      free_one : (m : ℕ) → Some n ≡ Some m → root_at (states t) m ≡ None
      free_one m is = subst (λ x. root_at (states t) x ≡ None) (same_Some n m is) free

      apart : n ≡ handle → ⊥
      apart = opened_apart r V facts t handle lt offer swap roots heap n free

      copy_by : (other : ℕ) → Dec (other ≡ n) → Dec (other ≡ handle) → but at_last n (Some (named access (V old last))) other ≡ at_time (suc t) other
      copy_by other (yes here) d =
          ap (but at_last n (Some (named access (V old last)))) here ∙ but_here at_last n (Some (named access (V old last))) ∙ sym opened ∙ ap (at_time (suc t)) (sym here)
      copy_by other (no away) (yes here) =
          but_there at_last n (Some (named access (V old last))) other away ∙ ap at_last here ∙ but_here (at_time t) handle (Some (named Writable (V old last)))
          ∙ sym (new_shown (Some n) e free_one (V old last) first) ∙ ap (at_time (suc t)) (sym here)
      copy_by other (no away) (no there) =
          but_there at_last n (Some (named access (V old last))) other away ∙ but_there (at_time t) handle (Some (named Writable (V old last))) other there
          ∙ untouched (Some n) other e there (λ m is same. away (same ∙ sym (same_Some n m is)))

      -- the number isn't there before
      not_there : at_last n ≡ None
      not_there = but_there (at_time t) handle (Some (named Writable (V old last))) n apart ∙ ap (λ o. shown V last t (standing_of (states t).heap o)) free

      there_last : at_last handle ≡ Some (named Writable (V old last))
      there_last = but_here (at_time t) handle (Some (named Writable (V old last)))

    opens_lead : (call : Call) → swap.offerer.call ≡ call → Opens states r.records last V t handle old offer call → LeadsOn (place ∷ []) at_last (at_time (suc t))
    opens_lead call c (clears e empty) =
        leads_same (hash_of limits.hash) (r.records last).events (place ∷ []) at_last (but at_last handle (Some (named Writable fin.empty))) (at_time (suc t))
        (leads_one (hash_of limits.hash) (r.records last).events place (record { call = Clear handle; opens = None; answer = reply.Cleared }) at_last _
        (recalled (Clear handle) None reply.Cleared c e (agrees_as (Clear handle) None c e))
        (acts_on (hash_of limits.hash) Writable (Clear handle) None at_last (V old last) reply.Cleared fin.empty (but_here (at_time t) handle (Some (named Writable (V old last)))) refl))
        (λ other. clear_behind e empty other (ℕ_discrete other handle))
    opens_lead call c (snapshots n second e s fresh differ first copy) =
        let stands : On states (suc t) n (generation_at (states t).heap second) =
        stands_there r V facts t handle lt offer swap roots heap n e ∙ ap (λ o. standing_of (states t).heap (Some (opened_root offer o))) s in
        let opened : at_time (suc t) n ≡ Some (named Writable (V old last)) =
        view_writable limits states last V (suc t) n (generation_at (states t).heap second) stands ∙ ap (λ x. Some (named Writable x)) copy in
        leads_same (hash_of limits.hash) (r.records last).events (place ∷ []) at_last (but at_last n (Some (named Writable (V old last)))) (at_time (suc t))
        (leads_one (hash_of limits.hash) (r.records last).events place (record { call = Snapshot handle; opens = Some n; answer = reply.Opened n }) at_last _
        (recalled (Snapshot handle) (Some n) (reply.Opened n) c e (agrees_as (Snapshot handle) (Some n) c e))
        (copies (hash_of limits.hash) (Snapshot handle) at_last handle n Writable (V old last) (λ w. refl) (there_last n e (swap.free n e) Writable first opened)
        (not_there n e (swap.free n e) Writable first opened)))
        (λ other. copy_by n e (swap.free n e) Writable first opened other (ℕ_discrete other n) (ℕ_discrete other handle))
    opens_lead call c (freezes n e s first) =
        let stands : standing (states (suc t)) n ≡ Some (ReadOnly, old) =
        stands_there r V facts t handle lt offer swap roots heap n e ∙ ap (λ o. standing_of (states t).heap (Some (opened_root offer o))) s in
        let opened : at_time (suc t) n ≡ Some (named ReadOnly (V old last)) = view_read_only limits states last V (suc t) n old stands in
        leads_same (hash_of limits.hash) (r.records last).events (place ∷ []) at_last (but at_last n (Some (named ReadOnly (V old last)))) (at_time (suc t))
        (leads_one (hash_of limits.hash) (r.records last).events place (record { call = Freeze handle; opens = Some n; answer = reply.Opened n }) at_last _
        (recalled (Freeze handle) (Some n) (reply.Opened n) c e (agrees_as (Freeze handle) (Some n) c e))
        (copies (hash_of limits.hash) (Freeze handle) at_last handle n ReadOnly (V old last) (λ w. refl) (there_last n e (swap.free n e) ReadOnly first opened)
        (not_there n e (swap.free n e) ReadOnly first opened)))
        (λ other. copy_by n e (swap.free n e) ReadOnly first opened other (ℕ_discrete other n) (ℕ_discrete other handle))

    -- the swap itself
    pub swap_leads : LeadsOn (place ∷ []) at_last (at_time (suc t))
    swap_leads = opens_lead swap.offerer.call refl swap.opens
