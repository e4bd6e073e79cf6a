-- Another root than its own stands where an operation is to offer, or another offer: it gives up all that it has made.
use Rattle.history.specs.declared.calls.Call.{Call}
use Rattle.std.proofs.Common.{◌≡◌, ℕ, Bool, false, [], set, Some, refl, sym, ap, subst, ◌∙◌}
use Rattle.std.proofs.lemmas.Option.{same_Some}
use mathlib.Core.Option.{some}
use lib.ListN.{get_elem?}
use Rattle.atomic_table.specs.Table as Table
use Rattle.machine_model.specs.declared.actions.Action.{Action}
use Rattle.machine_model.specs.declared.actions.Action.TheVariants as act
use Rattle.machine_model.specs.declared.lines.Line.TheVariants as line
use Rattle.machine_model.specs.declared.lines.Purpose.{Purpose}
use Rattle.machine_model.specs.declared.operations.Operation.{Operation}
use Rattle.machine_model.specs.declared.reading.Swap.{Swap}
use Rattle.machine_model.specs.declared.reading.SwapLine.TheVariants as swap
use Rattle.machine_model.specs.declared.roots.Descriptor.{Descriptor}
use Rattle.machine_model.specs.declared.steps.Step.TheVariants as machine
use Rattle.machine_model.specs.Acting.{operation_after}
use Rattle.machine_model.specs.Calls.{handle_of}
use Rattle.machine_model.specs.Moves.{GoesOn}
use Rattle.machine_model.specs.Operations.{action_of}
use Rattle.machine_model.specs.States.{State, word_at}
use Rattle.machine_model.specs.Swapping.{is_plain}
use Rattle.lock_free.specs.declared.accounts.Account.{Account}
use Rattle.lock_free.specs.declared.rules.View.{View}
use Rattle.lock_free.specs.Accounts.{state_of, running, gone_on}
use Rattle.lock_free.specs.GivingUp.{given_up, HasDropped}
use Rattle.lock_free.specs.Loading.{now, seen, IsAt, IsSound, Runs, Took}
use Rattle.lock_free.specs.Places.{words_of}
use Rattle.lock_free.specs.RootOffers.{HasMissed}
use Rattle.lock_free.specs.Rules.{AreOwed, AreRetired, IsKept}
use Rattle.lock_free.specs.Steps.{Leads}
use Rattle.lock_free.proofs.Dropped.{dropped, dropped_kept, dropped_sound, has_dropped, owed_dropped}
use Rattle.lock_free.proofs.FirstLines.{first_line, IsFirst}
use Rattle.lock_free.proofs.Asked.{is_one_of}
use Rattle.lock_free.proofs.Looking.{same_action}
use Rattle.lock_free.proofs.Moments.{waited_so}
use Rattle.lock_free.proofs.OneStep.Missing.{offer_given_up}
use Rattle.machine_model.specs.Acting.{private_after}
use Rattle.proof_claims.specs.Changes as changing
use Rattle.proof_claims.specs.Changes.{change_by, change_going, offers, change_of}
use Rattle.proof_claims.specs.Held.{held_after}
use Rattle.lock_free.specs.Claims.{held_now}
use Rattle.lock_free.proofs.HeldStep.{taken_now}
use Rattle.lock_free.proofs.PartingStay.{standing_stood}

abbrev offer_in : Action → Descriptor → Descriptor
offer_in (act.Offer offer) other = offer
offer_in action other = other

pub same_offer : (v : View) (a b : Descriptor) → IsAt v (act.Offer a) → IsAt v (act.Offer b) → a ≡ b
same_offer v a b p q = ap (λ x. offer_in x a) (same_action v (act.Offer a) (act.Offer b) p q)

module _ (v : View) (offer : Descriptor) (p : IsAt v (act.Offer offer)) (s : Table.State Call View) (kept : IsKept v.sizes s) (id : ℕ) (at : get_elem? s.views id ≡ some v) where
  abbrev there : Account
  there = kept.account

  abbrev state : State
  state = state_of v.sizes kept.account

  pub stays : (mark : Bool) × running v.sizes there v.actor (record p.operation { is_marked = mark }) × (action_of state (record p.operation { is_marked = mark }) ≡ action_of (now v) p.operation)
  stays = (waited_so v s kept id at).stays p.operation p.runs

  -- the operation as it runs there
  abbrev pub ran : Operation
  ran = record p.operation { is_marked = stays.0 }

  pub ran_runs : running v.sizes kept.account v.actor ran
  ran_runs = stays.1

  pub ran_acts : action_of (state_of v.sizes kept.account) ran ≡ act.Offer offer
  ran_acts = stays.2 ∙ p.acts

  module _ (another : is_plain (word_at (state_of v.sizes kept.account) (handle_of p.operation.call)) offer.root ≡ false) where
    pub leads : Leads v.sizes there (gone_on v.actor there) v.actor (is_one_of ran.private) (operation_after state ran)
    leads = offer_given_up v.sizes there kept.bounds v.actor ran ran_runs offer ran_acts (standing_stood v.sizes there s.words kept.roots) kept.quiet another

    pub changes : change_of state (held_now v.sizes there) (machine.Go v.actor) ≡ changing.given_up ran.private
    changes =
        let held = held_now v.sizes there in
        ap (change_going state held) ran_runs ∙ ap (change_by state held ran) ran_acts ∙ ap (λ b. offers b ran.private (handle_of ran.call) offer) another

    pub gives_up : held_now v.sizes (gone_on v.actor there) ≡ held_after (changing.given_up ran.private) (held_now v.sizes there)
    gives_up =
        let held = held_now v.sizes there in
        taken_now v.sizes there kept.bounds v.actor ran ran_runs (subst GoesOn (sym ran_acts) tt) (gone_on v.actor there) refl
        ∙ ap (λ c. held_after c held) changes

    pub none_left : (operation_after state ran).private ≡ []
    none_left = ap (private_after state ran.private) ran_acts

    pub at_first : (why : Purpose) (w : Swap) → p.operation.line ≡ line.Swap why w → w.line ≡ swap.Publish
    at_first = first_line (now v) p.operation (subst IsFirst (sym p.acts) tt)

    abbrev pub missed : View
    missed =
        dropped v s kept id at p.operation (operation_after state ran) stays.0 ran_runs (machine.Go v.actor) tt (λ a d e. d (sym e)) leads refl refl none_left gives_up changes at_first

    pub missed_kept : IsKept v.sizes (record { words = s.words; homes = s.homes; views = set s.views id missed })
    missed_kept =
        dropped_kept v s kept id at p.operation (operation_after state ran) stays.0 ran_runs (machine.Go v.actor) tt (λ a d e. d (sym e)) leads refl refl none_left gives_up changes at_first

    pub missed_sound : IsSound (words_of v.sizes) missed
    missed_sound =
        dropped_sound v s kept id at p.operation (operation_after state ran) stays.0 ran_runs (machine.Go v.actor) tt (λ a d e. d (sym e)) leads refl refl none_left gives_up changes at_first

    pub owed_missed : AreRetired v.sizes s.words s.views → AreOwed s.views → AreOwed (set s.views id missed)
    owed_missed =
        owed_dropped v s kept id at p.operation (operation_after state ran) stays.0 ran_runs (machine.Go v.actor) tt (λ a d e. d (sym e)) leads refl refl none_left gives_up changes at_first

    all_dropped : HasDropped (seen v there) p.operation.private p.operation.line missed
    all_dropped =
        has_dropped v s kept id at p.operation (operation_after state ran) stays.0 ran_runs (machine.Go v.actor) tt (λ a d e. d (sym e)) leads refl refl none_left gives_up changes at_first

    missed_took : Took v there missed
    missed_took q runs_q = leads.own ∙ ap (λ x. Some (operation_after state x)) (same_Some ran q (sym ran_runs ∙ runs_q))

    tells_missed : (q : Operation) → Runs v q → (missed ≡ given_up v there q.private missed.drafts) × HasDropped (seen v there) q.private q.line missed
    tells_missed q r =
        let same = same_Some p.operation (record q { is_marked = r.0 }) (sym p.runs ∙ r.1) in
        (ap (λ (x : Operation). given_up v there x.private missed.drafts) same, subst (λ (x : Operation). HasDropped (seen v there) x.private x.line missed) same all_dropped)

    tells_another : (other : Descriptor) (q : IsAt v (act.Offer other)) → is_plain (word_at state (handle_of q.operation.call)) other.root ≡ false
    tells_another other q =
        subst (λ (d : Descriptor). is_plain (word_at state (handle_of q.operation.call)) d.root ≡ false) (same_offer v offer other p q)
        (subst (λ (x : Operation). is_plain (word_at state (handle_of x.call)) offer.root ≡ false) (same_Some p.operation q.operation (sym p.runs ∙ q.runs)) another)

    pub has_missed : HasMissed v missed
    has_missed = (there, (waited_so v s kept id at, missed_took, tells_another), tells_missed)
