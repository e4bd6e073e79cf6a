-- An order is refuted by replaying it: some call is told another reply than the recorded one.
use Rattle.std.specs.Prelude.{◌≡◌, ℕ, zero, suc, ◌==◌, ◌||◌, Bool, true, false, List, [], ◌∷◌, Option, Some, None, option_and_then, if◌then◌else◌}
use Rattle.std.proofs.Common.{refl, sym, ap, ◌∙◌, inl, inr, eq-eqb, ne_eqb}
use Rattle.std.proofs.lemmas.Bool.{cases_eq, true≢false}
use Rattle.std.proofs.lemmas.Option.{none-some, same_Some}
use Rattle.proof_counterexamples.specs.Vocabulary.{hash_of, Call, Reply, NoSlots, Event, End, HandleMap, first_world, BeginsAt, EndsAt, HasEnded, IsWellFormed, OrderedAt, Answered, Recalls}
use Rattle.proof_counterexamples.specs.Vocabulary.{RecallsEach, Replays, Explains, Bounds, Record}
use Rattle.proof_counterexamples.specs.Beneath.history.specs.declared.events.Event.TheVariants.{Begin}
use Rattle.proof_counterexamples.specs.Beneath.history.specs.Histories.{Operation}
use Rattle.proof_counterexamples.specs.Beneath.history.proofs.OneWorld.{same_call}
use Rattle.proof_counterexamples.specs.Laws.{IsIllegal}
use Rattle.proof_counterexamples.proofs.Views.{View, shown, first_view, shown_first}
use Rattle.proof_counterexamples.proofs.Told.{Told, told, Fits, fits}

-- what the operation's begin says
abbrev pub begun_by : Option (Call × Option ℕ) → ℕ → Event → Option (Call × Option ℕ)
begun_by rest id (Begin other actor call opens) = if other == id then Some (call, opens) else rest
begun_by rest id (End other answer) = rest

unfoldable pub begun_as : List Event → ℕ → Option (Call × Option ℕ)
begun_as [] id = None
begun_as (event ∷ events) id = begun_by (begun_as events id) id event

-- the reply with which it ended
abbrev pub ended_by : Option Reply → ℕ → Event → Option Reply
ended_by rest id (Begin other actor call opens) = rest
ended_by rest id (End other answer) = if other == id then Some answer else rest

unfoldable pub ended_as : List Event → ℕ → Option Reply
ended_as [] id = None
ended_as (event ∷ events) id = ended_by (ended_as events id) id event

-- what the operation is told in this view
abbrev pub told_by : View → Option Reply → Option (Call × Option ℕ) → Option Told
told_by view recorded begun = option_and_then (λ o. told view o.0 o.1 recorded) begun

abbrev pub told_of : List Event → ℕ → View → Option Told
told_of history id view = told_by view (ended_as history id) (begun_as history id)

abbrev pub refuted_by : Option Told → (View → Bool) → Bool
refuted_by None rest = false
refuted_by (Some t) rest = t.0 || rest t.1

-- from this view on some operation of the order is told another reply than the history has
unfoldable pub is_refuted : List Event → List ℕ → View → Bool
is_refuted history [] view = false
is_refuted history (id ∷ ids) view = refuted_by (told_of history id view) (λ next. is_refuted history ids next)

-- ---- such an order isn't legal

-- what is known of an operation's first begin
abbrev First : List Event → ℕ → Type 0
First history id = (place : ℕ) × (operation : Operation) × BeginsAt history place id operation × (begun_as history id ≡ Some (operation.call, operation.opens))

chosen : {X : Type 0} (b c : Bool) (x y : X) → b ≡ c → (if b then x else y) ≡ (if c then x else y)
chosen b c x y e = ap (λ b. if b then x else y) e

first_next : (event : Event) (events : List Event) (id : ℕ) → First events id → First (event ∷ events) id
unfolding begun_as
first_next (Begin other actor call opens) events id first = elim (cases_eq other id) [
  | inl same ↦ (
    0,
    record { actor = actor; call = call; opens = opens },
    ap (λ n. Some (Begin n actor call opens)) same,
    chosen (other == id) true (Some (call, opens)) (begun_as events id) (eq-eqb other id same),
  )
  | inr differ ↦ (suc first.0, first.1, first.2, chosen (other == id) false (Some (call, opens)) (begun_as events id) (ne_eqb other id differ) ∙ first.3)
]
first_next (End other answer) events id first = (suc first.0, first.1, first.2, first.3)

first_here : (event : Event) (events : List Event) (id : ℕ) (operation : Operation) → event ≡ Begin id operation.actor operation.call operation.opens → First (event ∷ events) id
unfolding begun_as
first_here event events id operation e = (
  0,
  operation,
  ap (λ x. Some x) e,
  ap (λ x. begun_by (begun_as events id) id x) e ∙ chosen (id == id) true (Some (operation.call, operation.opens)) (begun_as events id) (eq-eqb id id refl),
)

begins : (history : List Event) (place id : ℕ) (operation : Operation) → BeginsAt history place id operation → First history id
begins [] place id operation at = absurd (none-some _ at)
begins (event ∷ events) zero id operation at = first_here event events id operation (same_Some _ _ at)
begins (event ∷ events) (suc place) id operation at = first_next event events id (begins events place id operation at)

-- what the history says of an operation's end stands in it
ends_next : (event : Event) (events : List Event) (id : ℕ) (answer : Reply) → (ended_as events id ≡ Some answer → HasEnded events id answer) → ended_as (event ∷ events) id ≡ Some answer →
    HasEnded (event ∷ events) id answer
unfolding ended_as
ends_next (Begin other actor call opens) events id answer rest e = let ended = rest e in (suc ended.0, ended.1)
ends_next (End other was) events id answer rest e = elim (cases_eq other id) [
  | inl same ↦
      let told : was ≡ answer = same_Some was answer (sym (chosen (other == id) true (Some was) (ended_as events id) (eq-eqb other id same)) ∙ e) in
      (0, λ i. Some (End (same i) (told i)))
  | inr differ ↦
      let ended = rest (sym (chosen (other == id) false (Some was) (ended_as events id) (ne_eqb other id differ)) ∙ e) in (suc ended.0, ended.1)
]

ends : (history : List Event) (id : ℕ) (answer : Reply) → ended_as history id ≡ Some answer → HasEnded history id answer
unfolding ended_as
ends [] id answer e = absurd (none-some _ e)
ends (event ∷ events) id answer e = ends_next event events id answer (ends events id answer) e

-- the operation's begin is found, with the call that is recalled of it
recalled : (history : List Event) (id : ℕ) (one : Answered) → IsWellFormed history → Recalls history id one → begun_as history id ≡ Some (one.call, one.opens)
recalled history id one well recalls =
    let first = begins history recalls.0.0 id recalls.0.1 recalls.0.2 in
    let other : Answered = record { call = first.1.call; opens = first.1.opens; answer = one.answer } in
    let same = same_call history id other one well ((first.0, first.1, first.2, refl, refl), recalls.1) recalls in
    first.3 ∙ (λ i. Some (same.0 i, same.1 i))

not_refuted_by : (t : Option Told) (next : HandleMap) (rest : View → Bool) → Fits t next → rest (shown next) ≡ false → refuted_by t rest ≡ false
not_refuted_by None next rest is e = refl
not_refuted_by (Some t) next rest is e = ap (λ b. b || rest t.1) is.0 ∙ ap rest (sym is.1) ∙ e

-- operations that replay aren't refuted
not_refuted : (hash : ℕ → ℕ) (history : List Event) (ids : List ℕ) (calls : List Answered) (world last : HandleMap) → IsWellFormed history →
    RecallsEach history ids calls → Replays hash calls world last → is_refuted history ids (shown world) ≡ false
unfolding is_refuted
not_refuted hash history [] calls world last well recalls leads = refl
not_refuted hash history (id ∷ ids) [] world last well recalls leads = absurd recalls
not_refuted hash history (id ∷ ids) (one ∷ more) world last well recalls leads =
    let rest : View → Bool = λ v. is_refuted history ids v in
    let recorded = ended_as history id in
    let told_rightly = fits hash world leads.0 one.call one.opens recorded one.answer (λ other e. recalls.0.1 other (ends history id other e)) leads.1 in
    ap (λ o. refuted_by (told_by (shown world) recorded o) rest) (recalled history id one well recalls.0)
    ∙ not_refuted_by (told (shown world) one.call one.opens recorded) leads.0 rest told_rightly (not_refuted hash history ids more leads.0 last well recalls.1 leads.2)

-- an order that is refuted isn't legal
abbrev pub IsRefuted : (Record → List ℕ) → Record → Type 0
IsRefuted rule past = is_refuted past.events (rule past) first_view ≡ true

pub refused : (rule : Record → List ℕ) (limits : Bounds) (past : Record) → IsRefuted rule past → IsIllegal rule limits past
refused rule limits past is legal =
    let explains : Explains (hash_of limits.hash) past.events (rule past) legal.0 = legal.1 in
    let replayed = explains.replayed in
    let not = not_refuted (hash_of limits.hash) past.events (rule past) replayed.0 first_world legal.0 explains.well_formed replayed.1 replayed.2 in
    true≢false (sym is ∙ ap (λ v. is_refuted past.events (rule past) v) (sym shown_first) ∙ not)

-- nor is one in which a refused operation stands
pub refused_by : (rule : Record → List ℕ) (limits : Bounds) (past : Record) (i id place : ℕ) → OrderedAt (rule past) i id → EndsAt past.events place id NoSlots → IsIllegal rule limits past
refused_by rule limits past i id place stands ended legal =
    let explains : Explains (hash_of limits.hash) past.events (rule past) legal.0 = legal.1 in
    explains.candidate.not_refused i id stands (place, ended)
