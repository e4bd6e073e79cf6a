-- The exchange of an offer's first word that takes it back is the operation's step, whether it finds it undecided or not.
use Rattle.history.specs.declared.calls.Call.{Call}
use Rattle.std.proofs.Common.{◌≤◌, ◌≡◌, ◌≢◌, ◌*◌, ◌==◌, ◌<◌, ℕ, inl, inr, false, Contains, set, slice_index, refl, sym, ap, subst, ◌∙◌, eq-eqb, ne_eqb, arith}
use Rattle.std.proofs.lemmas.Bool.{cases_eq}
use Rattle.std.proofs.lemmas.List.Elements.{Contains-append_right}
use Rattle.std.proofs.lemmas.Option.{same_Some}
use mathlib.Core.Option.{some, none}
use lib.ListN.{get_elem?}
use prog.Atomic.{either}
use Rattle.atomic_table.specs.Table.{Me, step}
use Rattle.atomic_table.specs.Table as Table
use Rattle.history.specs.declared.calls.Access.TheVariants.{Writable}
use Rattle.machine_model.specs.declared.actions.Action.{Action}
use Rattle.machine_model.specs.declared.actions.Action.TheVariants as act
use Rattle.machine_model.specs.declared.operations.Operation.{Operation}
use Rattle.machine_model.specs.declared.roots.Descriptor.{Descriptor}
use Rattle.machine_model.specs.declared.roots.RootWord.TheVariants.{Offer}
use Rattle.machine_model.specs.Calls.{handle_of}
use Rattle.machine_model.specs.States.{State, root_at, word_at, handle_limit}
use Rattle.machine_model.specs.Swapping.{stands_in}
use Rattle.lock_free.proofs.CountWords.{Apart, slot_apart}
use Rattle.lock_free.specs.declared.accounts.Account.{Account}
use Rattle.lock_free.specs.declared.accounts.Known.{Known}
use Rattle.lock_free.specs.declared.rules.View.{View}
use Rattle.lock_free.specs.declared.sizes.Sizes.{Sizes}
use Rattle.lock_free.specs.Accounts.{state_of, running, gone_on}
use Rattle.lock_free.specs.Loading.{Moment, seen, IsAt, HasGone, has_gone}
use Rattle.lock_free.specs.OfferWords.{IsAtAbort, HasAborted}
use Rattle.lock_free.specs.Roots.{open_with, taken_back}
use Rattle.lock_free.specs.Rules.{IsSeat, IsKept}
use Rattle.lock_free.proofs.Exchanged.{AllowsExchange, Leaves, words_hit, missed, sound_by}
use Rattle.lock_free.proofs.Looking.{went, o_there, acts_there, same_action}
use Rattle.lock_free.proofs.Moments.{allowed, took_by}
use Rattle.lock_free.proofs.OneStep.Settles.{stands}
use Rattle.lock_free.proofs.OneStep.Settling.{abort_settles, abort_misses, abort_own}
use Rattle.lock_free.proofs.Settled.{all_then}
use Rattle.lock_free.proofs.SettleHolds.{settle_kept}
use Rattle.lock_free.proofs.Stood.{stands_there, stands_no_more}
use Rattle.lock_free.proofs.Lettings.{TakesNone}
use Rattle.lock_free.specs.Parting.{IsMet}

-- an offer that the seat knows is one of the account's
pub known_there : (v : View) (s : Table.State Call View) (kept : IsKept v.sizes s) (id : ℕ) → get_elem? s.views id ≡ some v → (k : Known) → IsMet v.account v.pin k → Contains kept.account.offers k
known_there v s kept id at k c =
    let seat = kept.seats id v at in
    seat.offering.met c.pinned c.is k (subst (λ xs. Contains xs k) (sym seat.waited.more_offers) (Contains-append_right seat.waited.offers v.account.offered k c.here)) c.unparted

-- its first word is neither the epoch's nor a count's
pub offer_apart : (v : View) (s : Table.State Call View) (kept : IsKept v.sizes s) (id : ℕ) → get_elem? s.views id ≡ some v → (k : Known) → IsMet v.account v.pin k → Apart v.sizes (2 * k.slot)
offer_apart v s kept id at k c =
    slot_apart v.sizes s.words kept.taken 1 k.slot (2 * k.slot) (omega arith) (kept.roots.blocks k (known_there v s kept id at k c)) (record { low = omega arith; high = omega arith })

module _ (v : View) (k : Known) (known : IsMet v.account v.pin k) (p : IsAt v (act.Abort k.offer)) (on : k.handle ≡ handle_of p.operation.call) where
  abbrev does : Action
  does = act.Abort k.offer

  abbrev word : ℕ
  word = 2 * k.slot

  module _ (s : Table.State Call View) (kept : IsKept v.sizes s) (id : ℕ) (at : get_elem? s.views id ≡ some v) where
    abbrev found : ℕ
    found = slice_index s.words word

    abbrev m : Moment v word found
    m = record { table = s; kept = kept; id = id; at = at; finds = refl }

    abbrev there : Account
    there = kept.account

    abbrev state : State
    state = state_of v.sizes there

    abbrev o : Operation
    o = record p.operation { is_marked = (o_there v word found m does p).0 }

    runs : running v.sizes there v.actor o
    runs = (o_there v word found m does p).1

    acts : act.Abort k.offer ≡ act.Abort k.offer
    acts = refl

    here : Contains there.offers k
    here = known_there v s kept id at k known

    seat : IsSeat v.sizes there kept.stands s.words v
    seat = kept.seats id v at

    low : handle_of o.call < handle_limit
    low = (seat.entered (handle_of o.call) (seat.calls o runs)).0

    stood : found ≡ 0 → root_at state (handle_of o.call) ≡ open_with Writable (Offer k.offer)
    stood e = subst (λ h. root_at state h ≡ open_with Writable (Offer k.offer)) on (stands_there v.sizes s kept k here e)

    no_more : found ≢ 0 → stands_in (word_at state (handle_of o.call)) k.offer ≡ false
    no_more differs = stands_no_more v.sizes s kept k here differs (handle_of o.call) low

    taken : found ≡ 0 → Leaves v s kept id at word 0 taken_back
    taken e =
        let settles = abort_settles v.sizes there kept.bounds v.actor o runs k (acts_there v word found m does p) (stood e) in (
          subst (λ ws. IsKept v.sizes (record { words = ws; homes = s.homes; views = set s.views id (seen v (gone_on v.actor there)) })) (words_hit v s kept id at word 0 taken_back e word refl)
              (settle_kept v.sizes s kept id v at o runs taken_back k here settles on e (subst (TakesNone kept.stands state o) (sym (acts_there v word found m does p)) tt)),
          (
            sound_by v s kept id at (gone_on v.actor there) kept.stands _ (all_then v.sizes s kept id v at o runs taken_back k here settles on e),
            took_by v s kept id at o runs (gone_on v.actor there) (abort_own v.sizes there kept.bounds v.actor o runs k (acts_there v word found m does p)),
          ),
        )

    pub leaves : Leaves v s kept id at word 0 taken_back
    leaves = elim (cases_eq found 0) [
      | inl e ↦ taken e
      | inr differs ↦ missed v s kept id at word 0 taken_back o runs (abort_misses v.sizes there kept.bounds v.actor o runs k (acts_there v word found m does p) (no_more differs))
          (subst (TakesNone kept.stands state o) (sym (acts_there v word found m does p)) tt) differs
    ]

    pub stood_by : stands_in (word_at state (handle_of o.call)) k.offer ≡ (found == 0)
    stood_by = elim (cases_eq found 0) [
      | inl e ↦ stands v.sizes there kept.bounds v.actor o runs k (stood e) ∙ sym (eq-eqb found 0 e)
      | inr differs ↦ no_more differs ∙ sym (ne_eqb found 0 differs)
    ]

pub abort_allowed : (sizes : Sizes) (size id : ℕ) (me : Me Call View) (some_seats : 1 ≤ me.0.sizes.seats) (slot : ℕ) → IsAtAbort me.0 slot → AllowsExchange sizes size id me (2 * slot) 0 taken_back
abort_allowed sizes size id me some_seats slot a =
    subst (λ n. AllowsExchange sizes size id me (2 * n) 0 taken_back) a.place
    (allowed sizes size id me (2 * a.its.slot) (λ n. either (n == 0) taken_back n) (has_gone (step size (2 * a.its.slot) 0 taken_back none) me)
    some_seats (λ s kept at. inl (offer_apart me.0 s kept id at a.its a.here))
    (λ s kept at. (let x = leaves me.0 a.its a.here a.acts a.on s kept id at in
    (seen me.0 (gone_on me.0.actor kept.account), x.0, ((record { table = s; kept = kept; id = id; at = at; finds = refl }, refl, x.1.1), x.1.0, refl))))
    (λ s kept at. refl))

abbrev offer_in : Action → Descriptor → Descriptor
offer_in (act.Abort offer) other = offer
offer_in action other = other

-- what the seat is told
pub abort_told : (before : View) (slot : ℕ) → IsAtAbort before slot → (found : ℕ) (after : View) → HasGone before (2 * slot) found after → HasAborted before (found == 0) after
abort_told before slot a found after g = (
  went before slot (2 * slot) found after g,
  λ offer q.
      (let same_o : a.acts.operation ≡ q.operation = same_Some a.acts.operation q.operation (sym a.acts.runs ∙ q.runs) in
      let same_offer : a.its.offer ≡ offer = ap (λ x. offer_in x offer) (same_action before (act.Abort a.its.offer) (act.Abort offer) a.acts q) in
      let there = g.0.kept.account in
      let finds : slice_index g.0.table.words (2 * a.its.slot) ≡ found = ap (λ n. slice_index g.0.table.words (2 * n)) a.place ∙ g.0.finds in
      subst (λ d. stands_in (word_at (state_of before.sizes there) (handle_of q.operation.call)) d ≡ (found == 0)) same_offer
      (subst (λ (x : Operation). stands_in (word_at (state_of before.sizes there) (handle_of x.call)) a.its.offer ≡ (found == 0)) same_o
      (stood_by before a.its a.here a.acts a.on g.0.table g.0.kept g.0.id g.0.at ∙ ap (λ n. n == 0) finds))),
)
