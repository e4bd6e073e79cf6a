-- An offer is settled: whose tries and reserved numbers are what they were.
use Rattle.history.specs.declared.calls.Call.{Call}
use Rattle.std.proofs.Common.{◌≡◌, ◌≢◌, ◌==◌, ◌⊎◌, ℕ, inl, inr, true, Option, Some, None, refl, sym, ap, ◌∙◌}
use Rattle.std.proofs.lemmas.Bool.{cases_eq, true≢false}
use Rattle.std.proofs.lemmas.Option.{same_Some, none-some}
use mathlib.Core.Option.{some, some-injective}
use lib.ListN.{get_elem?}
use Rattle.atomic_table.specs.Table as Table
use Rattle.machine_model.specs.declared.operations.Operation.{Operation}
use Rattle.machine_model.specs.declared.roots.Descriptor.{Descriptor}
use Rattle.machine_model.specs.States.{State, operation_of}
use Rattle.lock_free.specs.declared.accounts.Known.{Known}
use Rattle.lock_free.specs.declared.rules.View.{View}
use Rattle.lock_free.specs.declared.sizes.Sizes.{Sizes}
use Rattle.lock_free.specs.Accounts.{state_of}
use Rattle.lock_free.specs.Roots.{IsItsTry, carried_out}
use Rattle.lock_free.specs.Rules.{Reserves, IsKept}
use Rattle.lock_free.specs.Fates.{IsMarkedThen, IsSettled, is_carried_out, is_taken_back}
use Rattle.lock_free.specs.Trying.{Try, try_of, try_at}
use Rattle.lock_free.proofs.Meanings.{ran_at, unmarked_at, marked_at}
use Rattle.lock_free.proofs.Seats.{Ran}

-- whether it is this number
pub is_or_not : (o : Option ℕ) (n : ℕ) → (o ≡ Some n) ⊎ (o ≡ Some n → ⊥)
is_or_not None n = inr (λ e. none-some n e)
is_or_not (Some m) n = elim (cases_eq m n) [
  | inl same ↦ inl (ap Some same)
  | inr differs ↦ inr (λ e. differs (same_Some m n e))
]

module _ (n : ℕ) (offer : Descriptor) (before after : State) where
  tried_at : (a : ℕ) → try_at after a ≡ try_at before a → (o : Operation) → operation_of after a ≡ Some o → Ran before a o
  tried_at a same o e =
      let p = ran_at before after a same o e in record { was = p.0; runs = p.1; call = ap (λ (t : Try). t.call) p.2; opens = ap (λ (t : Try). t.opens) p.2 }

  -- what runs then ran before, for the same call
  pub ran_settled : IsSettled n offer before after → (a : ℕ) (o : Operation) → operation_of after a ≡ Some o → Ran before a o
  ran_settled (is_carried_out is h) a o e = elim (cases_eq a h.owner) [
    | inl own ↦
        (let same : h.now ≡ o = same_Some h.now o (sym h.runs ∙ ap (operation_of after) (sym own) ∙ e) in
        record {
          was = h.was;
          runs = ap (operation_of before) own ∙ h.ran;
          call = sym (ap (λ (t : Try). t.call) h.marked) ∙ ap (λ (x : Operation). x.call) same;
          opens = sym (ap (λ (t : Try). t.opens) h.marked) ∙ ap (λ (x : Operation). x.opens) same;
        })
    | inr other ↦ tried_at a (h.others a other) o e
  ]
  ran_settled (is_taken_back is same) a o e = tried_at a (same a) o e

  pub is_marked_now : (h : IsMarkedThen offer before after) → h.now.is_marked ≡ true
  is_marked_now h = ap (λ (t : Try). t.is_marked) h.marked

  -- who has a number reserved then isn't the one whose offer was carried out
  pub not_owner : (h : IsMarkedThen offer before after) (v : View) (g : ℕ) → Reserves after v g → v.actor ≢ h.owner
  not_owner h v g r same = true≢false (sym (is_marked_now h) ∙ r.1 h.now (ap (operation_of after) same ∙ h.runs))

  pub reserved_settled : IsSettled n offer before after → (v : View) (g : ℕ) → Reserves after v g → Reserves before v g
  reserved_settled (is_carried_out is h) v g r = (r.0, unmarked_at before after v.actor (h.others v.actor (not_owner h v g r)) r.1)
  reserved_settled (is_taken_back is same) v g r = (r.0, unmarked_at before after v.actor (same v.actor) r.1)

  -- marks are as the offer's first word says then
  module _ (k : Known) (its : k.offer ≡ offer) where
    pub marks_settled : IsSettled n offer before after → ((a : ℕ) (o : Operation) → operation_of before a ≡ Some o → IsItsTry o k.offer → o.is_marked ≡ (0 == carried_out)) → (a : ℕ) (o : Operation) →
        operation_of after a ≡ Some o → IsItsTry o k.offer → o.is_marked ≡ (n == carried_out)
    marks_settled (is_carried_out is h) before_so a o e try = elim (cases_eq a h.owner) [
      | inl own ↦
          (let same : o ≡ h.now = same_Some o h.now (sym e ∙ ap (operation_of after) own ∙ h.runs) in
          ap (λ (x : Operation). x.is_marked) same ∙ is_marked_now h ∙ ap (λ m. m == carried_out) (sym is))
      | inr other ↦ (let p = ran_at before after a (h.others a other) o e in absurd (h.alone a p.0 other p.1 (ap (λ (t : Try). t.id) p.2 ∙ try.its ∙ ap (λ (d : Descriptor). d.operation) its)))
    ]
    marks_settled (is_taken_back is same) before_so a o e try = marked_at before after a (same a) k 0 0 refl (before_so a) o e try ∙ ap (λ m. m == carried_out) (sym is)

  -- of another offer they are what they were
  pub marks_else : IsSettled n offer before after → (l : Known) (fate_then fate_now : ℕ) → fate_then ≡ fate_now → (l.offer.operation ≡ offer.operation → l.offer.attempt ≡ offer.attempt → ⊥) →
      ((a : ℕ) (o : Operation) → operation_of before a ≡ Some o → IsItsTry o l.offer → o.is_marked ≡ (fate_now == carried_out)) → (a : ℕ) (o : Operation) → operation_of after a ≡ Some o → IsItsTry
      o l.offer →
      o.is_marked ≡ (fate_then == carried_out)
  marks_else (is_carried_out is h) l fate_then fate_now fates other_try before_so a o e try = elim (cases_eq a h.owner) [
    | inl own ↦
        (let same : o ≡ h.now = same_Some o h.now (sym e ∙ ap (operation_of after) own ∙ h.runs) in
        let t : try_of o ≡ record (try_of h.was) { is_marked = true } = ap (λ x. try_of x) same ∙ h.marked in
        absurd (other_try (sym try.its ∙ ap (λ (x : Try). x.id) t ∙ h.its_try.its) (sym try.now ∙ ap (λ (x : Try). x.attempt) t ∙ h.its_try.now)))
    | inr other ↦ marked_at before after a (h.others a other) l fate_then fate_now fates (before_so a) o e try
  ]
  marks_else (is_taken_back is same) l fate_then fate_now fates other_try before_so a o e try = marked_at before after a (same a) l fate_then fate_now fates (before_so a) o e try

-- ---- who has reserved the handle that is opened

module _ (sizes : Sizes) (s : Table.State Call View) (kept : IsKept sizes s) (offer : Descriptor) (after : State) (h : IsMarkedThen offer (state_of sizes kept.account) after) where
  -- the seat of the operation that offered, and nobody else
  pub opener : (other : ℕ) (w : View) → get_elem? s.views other ≡ some w → (g : ℕ) → Reserves (state_of sizes kept.account) w g → offer.opens ≡ Some g → w.actor ≡ h.owner
  opener other w e g r is =
      let seat = kept.runners h.owner h.was h.ran in
      let ran : operation_of (state_of sizes kept.account) seat.view.actor ≡ Some h.was = ap (operation_of (state_of sizes kept.account)) seat.its ∙ h.ran in
      let reserves : Reserves (state_of sizes kept.account) seat.view g =
      ((kept.seats seat.id seat.view seat.at).reserves h.was ran ∙ h.opens ∙ is, λ o f. ap (λ (x : Operation). x.is_marked) (same_Some o h.was (sym f ∙ ran)) ∙ h.unmarked) in
      let same : seat.id ≡ other = kept.numbers seat.id other seat.view w g seat.at e reserves r in
      let view_is : seat.view ≡ w = some-injective seat.view w (sym seat.at ∙ ap (λ n. get_elem? s.views n) same ∙ e) in
      ap (λ (x : View). x.actor) (sym view_is) ∙ seat.its
