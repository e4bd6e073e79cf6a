-- The exchange of an offer's first word that settles it is the operation's step, whether it finds it undecided or not.
use Rattle.history.specs.declared.calls.Call.{Call}
use Rattle.std.proofs.Common.{◌≤◌, ◌≡◌, ◌≢◌, ◌*◌, ◌==◌, ◌<◌, ◌||◌, ℕ, inl, inr, Bool, true, false, Contains, set, slice_index, Some, refl, sym, ap, subst, ◌∙◌, eq-eqb, ne_eqb, if◌then◌else◌}
use Rattle.std.specs.Prelude.{◌&&◌}
use Rattle.std.proofs.lemmas.Bool.{cases_eq}
use Rattle.std.proofs.lemmas.Option.{same_Some}
use mathlib.Core.Option.{some, none}
use lib.ListN.{get_elem?}
use prog.Atomic.{either}
use Rattle.atomic_table.specs.Table.{Me, Allows, step}
use Rattle.atomic_table.specs.Table as Table
use Rattle.history.specs.declared.calls.Access.TheVariants.{Writable}
use Rattle.machine_model.specs.Beneath.slot_arena.specs.declared.refs.Ref.{Ref}
use Rattle.machine_model.specs.declared.actions.Action.{Action}
use Rattle.machine_model.specs.declared.actions.Action.TheVariants as act
use Rattle.machine_model.specs.declared.operations.Operation.{Operation}
use Rattle.machine_model.specs.declared.roots.Descriptor.{Descriptor}
use Rattle.machine_model.specs.declared.roots.RootWord.TheVariants.{Offer}
use Rattle.machine_model.specs.Acting.{operation_after}
use Rattle.machine_model.specs.Operations.{action_of}
use Rattle.machine_model.specs.Calls.{handle_of}
use Rattle.machine_model.specs.States.{State, root_at, word_at, handle_limit}
use Rattle.machine_model.specs.Swapping.{stands_in, is_carried_out}
use Rattle.lock_free.specs.declared.accounts.Account.{Account}
use Rattle.lock_free.specs.declared.accounts.Known.{Known}
use Rattle.lock_free.specs.declared.rules.View.{View}
use Rattle.lock_free.specs.declared.sizes.Sizes.{Sizes}
use Rattle.lock_free.specs.Accounts.{state_of, running, gone_on}
use Rattle.lock_free.specs.Fates.{IsUnsettled}
use Rattle.lock_free.specs.Loading.{Moment, now, seen, IsAt, IsSound}
use Rattle.lock_free.specs.OfferWords.{IsAtComplete, TellsCarried, TookUnmarked, HasCompleted, has_completed, outcome_by, carried_by}
use Rattle.lock_free.specs.Places.{words_of}
use Rattle.lock_free.specs.Roots.{open_with, carried_out, IsItsTry}
use Rattle.lock_free.specs.Shadows.{IsShadowed}
use Rattle.lock_free.specs.Rules.{IsSeat, IsKept}
use Rattle.lock_free.proofs.AbortStep.{known_there, offer_apart}
use Rattle.lock_free.proofs.Exchanged.{words_then, words_hit, missed, sound_by}
use Rattle.lock_free.proofs.Fates.{settled_decides, settled_still}
use Rattle.lock_free.proofs.Looking.{o_there, acts_there, same_action}
use Rattle.lock_free.proofs.Moments.{allowed, waited_so}
use Rattle.lock_free.proofs.OneStep.Settles.{stands}
use Rattle.lock_free.proofs.OneStep.Settling.{complete_settles, complete_misses, complete_own}
use Rattle.lock_free.proofs.Settled.{all_then}
use Rattle.lock_free.proofs.SettleHolds.{settle_kept}
use Rattle.lock_free.proofs.Stood.{stands_there, stands_no_more}
use Rattle.lock_free.proofs.Lettings.{TakesNone}
use Rattle.lock_free.specs.Parting.{IsMet}

module _ (v : View) (k : Known) (main : Ref) (known : IsMet v.account v.pin k) (p : IsAt v (act.Complete k.offer main)) (on : k.handle ≡ handle_of p.operation.call) (expected : Bool)
    (test : IsUnsettled v.sizes v.account k → (main == k.offer.expected) ≡ expected) where
  abbrev does : Action
  does = act.Complete k.offer main

  abbrev pub word : ℕ
  word = 2 * k.slot

  abbrev pub outcome : ℕ
  outcome = outcome_by expected

  module _ (s : Table.State Call View) (kept : IsKept v.sizes s) (id : ℕ) (at : get_elem? s.views id ≡ some v) where
    abbrev pub found : ℕ
    found = slice_index s.words word

    abbrev m : Moment v word found
    m = record { table = s; kept = kept; id = id; at = at; finds = refl }

    abbrev pub there : Account
    there = kept.account

    abbrev pub state : State
    state = state_of v.sizes there

    abbrev pub o : Operation
    o = record p.operation { is_marked = (o_there v word found m does p).0 }

    pub runs : running v.sizes there v.actor o
    runs = (o_there v word found m does p).1

    pub acts : action_of state o ≡ act.Complete k.offer main
    acts = acts_there v word found m does p

    pub here : Contains there.offers k
    here = known_there v s kept id at k known

    seat : IsSeat v.sizes there kept.stands s.words v
    seat = kept.seats id v at

    low : handle_of o.call < handle_limit
    low = (seat.entered (handle_of o.call) (seat.calls o runs)).0

    pub stood : found ≡ 0 → root_at state (handle_of o.call) ≡ open_with Writable (Offer k.offer)
    stood e = subst (λ h. root_at state h ≡ open_with Writable (Offer k.offer)) on (stands_there v.sizes s kept k here e)

    pub no_more : found ≢ 0 → stands_in (word_at state (handle_of o.call)) k.offer ≡ false
    no_more differs = stands_no_more v.sizes s kept k here differs (handle_of o.call) low

    -- where it is undecided it wasn't settled before
    pub unsettled : found ≡ 0 → IsUnsettled v.sizes v.account k
    unsettled e n settled =
        let there_too = settled_still v.sizes v.account there seat.waited.steps seat.waited.goes_on k n settled in
        settled_decides n k.offer _ _ settled.settled (sym ((kept.roots.fates k here).once n there_too) ∙ e)

    abbrev after : View
    after = seen v (gone_on v.actor there)

    -- whatever it finds, the operation has taken its step
    pub took : TookUnmarked v there after
    took q runs_q =
        let own = complete_own v.sizes there kept.bounds v.actor o runs k main acts in
        let same : o ≡ q = same_Some o q (sym runs ∙ runs_q) in
        (own.0, own.1 ∙ ap (λ x. Some (record (operation_after state x) { is_marked = own.0 })) same)

    abbrev Settled : Type 0
    Settled = IsKept v.sizes (record { words = words_then v s kept id at word 0 outcome; homes = s.homes; views = set s.views id after }) × IsSound (words_of v.sizes) after

    hits : found ≡ 0 → Settled
    hits e =
        let settles = complete_settles v.sizes there kept.bounds v.actor o runs k main acts (stood e) expected (test (unsettled e)) in (
          subst (λ ws. IsKept v.sizes (record { words = ws; homes = s.homes; views = set s.views id after })) (words_hit v s kept id at word 0 outcome e word refl)
              (settle_kept v.sizes s kept id v at o runs outcome k here settles on e (subst (TakesNone kept.stands (state_of v.sizes there) o) (sym acts) tt)),
          sound_by v s kept id at (gone_on v.actor there) kept.stands _ (all_then v.sizes s kept id v at o runs outcome k here settles on e),
        )

    misses : found ≢ 0 → Settled
    misses differs =
        let x = missed v s kept id at word 0 outcome o runs (complete_misses v.sizes there kept.bounds v.actor o runs k main acts (no_more differs))
        (subst (TakesNone kept.stands (state_of v.sizes there) o) (sym acts) tt) differs in (x.0, x.1.0)

    pub leaves : Settled × TookUnmarked v there after
    leaves = (elim (cases_eq found 0) [ inl e ↦ hits e | inr differs ↦ misses differs ], took)

    -- where the offer is that of the operation's try, it tells whether it is carried out by now
    module _ (its : IsItsTry o k.offer) where
      mark_is : o.is_marked ≡ (found == carried_out)
      mark_is = kept.roots.marks k here v.actor o runs its

      pub tells : (is_carried_out (word_at state (handle_of o.call)) k.offer main || o.is_marked) ≡ carried_by found expected
      tells = elim (cases_eq found 0) [
        | inl e ↦
            ap (λ b. (b && (main == k.offer.expected)) || o.is_marked) (stands v.sizes there kept.bounds v.actor o runs k (stood e)) ∙ ap (λ b. (true && b) || o.is_marked) (test (unsettled e))
            ∙ ap (λ b. (true && expected) || b) (mark_is ∙ ap (λ n. n == carried_out) e) ∙ or_false expected ∙ sym (ap (λ b. if b then expected else (found == carried_out)) (eq-eqb found 0 e))
        | inr differs ↦
            ap (λ b. (b && (main == k.offer.expected)) || o.is_marked) (no_more differs) ∙ mark_is ∙ sym (ap (λ b. if b then expected else (found == carried_out)) (ne_eqb found 0 differs))
      ]
        where
          or_false : (b : Bool) → ((true && b) || false) ≡ b
          or_false true = refl
          or_false false = refl

pub complete_allowed : (sizes : Sizes) (size id : ℕ) (me : Me Call View) (some_seats : 1 ≤ me.0.sizes.seats) (slot : ℕ) (expected : Bool) → IsAtComplete me.0 slot expected →
    Allows (IsShadowed sizes) size id me (2 * slot) (λ n. either (n == 0) (outcome_by expected) n) (has_completed (step size (2 * slot) 0 (outcome_by expected) none) me)
complete_allowed sizes size id me some_seats slot expected a =
    subst (λ n. Allows (IsShadowed sizes) size id me (2 * n) (λ x. either (x == 0) (outcome_by expected) x) (has_completed (step size (2 * n) 0 (outcome_by expected) none) me)) a.place
    (allowed sizes size id me (2 * a.its.slot) (λ n. either (n == 0) (outcome_by expected) n) (has_completed (step size (2 * a.its.slot) 0 (outcome_by expected) none) me)
    some_seats (λ s kept at. inl (offer_apart me.0 s kept id at a.its a.here))
    (λ s kept at. (let x = leaves me.0 a.its a.main a.here a.acts a.on expected a.test s kept id at in
    (seen me.0 (gone_on me.0.actor kept.account), x.0.0, ((record { table = s; kept = kept; id = id; at = at; finds = refl }, refl, x.1), x.0.1, refl))))
    (λ s kept at. refl))

abbrev parts_in : Action → Descriptor × Ref → Descriptor × Ref
parts_in (act.Complete offer main) other = (offer, main)
parts_in action other = other

-- what the seat is told
module _ (before : View) (slot : ℕ) (expected : Bool) (a : IsAtComplete before slot expected) (found : ℕ) (m : Moment before (2 * slot) found) where
  finds : slice_index m.table.words (2 * a.its.slot) ≡ found
  finds = ap (λ n. slice_index m.table.words (2 * n)) a.place ∙ m.finds

  abbrev moment : Moment before (2 * a.its.slot) (slice_index m.table.words (2 * a.its.slot))
  moment = record { table = m.table; kept = m.kept; id = m.id; at = m.at; finds = refl }

  abbrev ran : Operation
  ran = record a.acts.operation { is_marked = (o_there before (2 * a.its.slot) (slice_index m.table.words (2 * a.its.slot)) moment (act.Complete a.its.offer a.main) a.acts).0 }

  ran_runs : running before.sizes m.kept.account before.actor ran
  ran_runs = (o_there before (2 * a.its.slot) (slice_index m.table.words (2 * a.its.slot)) moment (act.Complete a.its.offer a.main) a.acts).1

  -- it is about this offer
  pub its_offer : (offer : Descriptor) (main : Ref) → IsAt before (act.Complete offer main) → ◌≡◌ {A = Descriptor × Ref} (a.its.offer, a.main) (offer, main)
  its_offer offer main q = ap (λ x. parts_in x (offer, main)) (same_action before (act.Complete a.its.offer a.main) (act.Complete offer main) a.acts q)

  pub tells_it : TellsCarried before m.kept.account (carried_by found expected)
  tells_it offer main q operation runs_it its =
      let both = its_offer offer main q in
      let same_op : ran ≡ operation = same_Some ran operation (sym ran_runs ∙ runs_it) in
      subst (λ (x : Descriptor × Ref). IsItsTry operation x.0 → (is_carried_out (word_at (now (seen before m.kept.account)) (handle_of operation.call)) x.0 x.1 || operation.is_marked) ≡
      carried_by found expected) both
      (subst (λ (x : Operation). IsItsTry x a.its.offer → (is_carried_out (word_at (now (seen before m.kept.account)) (handle_of x.call)) a.its.offer a.main || x.is_marked) ≡
      carried_by found expected) same_op
      (λ t. tells before a.its a.main a.here a.acts a.on expected a.test m.table m.kept m.id m.at t ∙ ap (λ n. carried_by n expected) finds)) its

  pub complete_told : (after : View) → after ≡ seen before (gone_on before.actor m.kept.account) → TookUnmarked before m.kept.account after → HasCompleted before (carried_by found expected) after
  complete_told w after_is took = (m.kept.account, waited_so before m.table m.kept m.id m.at, after_is, took, tells_it)
