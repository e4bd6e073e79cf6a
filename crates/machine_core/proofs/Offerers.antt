-- Who made the offers that stand behind a step of an operation.
use Rattle.std.proofs.Common.{arith, ◌≡◌, inl, inr, ℕ, zero, suc, ◌-◌, ◌==◌, ◌<◌, Bool, true, false, List, length, set, get_or, Option, Some, None, refl, sym, ap, subst, ◌∙◌}
use Rattle.std.specs.Prelude.{option_and_then, option_map, slice_get, slice_index_or, slice_set, if◌then◌else◌}
use Rattle.std.proofs.lemmas.Bool.{cases_eq, cases_lt, false≢true}
use Rattle.std.proofs.lemmas.List.{get_or_past, get_or-set_other, get_or-set_same, length-set}
use Rattle.std.proofs.lemmas.Option.{none-some, same_Some}
use Rattle.history.proofs.Places.{at_set_cases}
use Rattle.machine_core.specs.Vocabulary.{Action, Operation, Descriptor, Root, Plain, Offer, if_changed, run, action_of, State, operation_of, rewritten, word_of, is_plain, stands_in, Table}
use Rattle.machine_core.specs.Vocabulary.{acted_table, carried_out_in, opened_in, with_word_in, word_in, Taken, IsOfRun}
use Rattle.machine_model.specs.declared.actions.Action.TheVariants as act
use Rattle.machine_model.specs.declared.lines.Line.TheVariants as line
use Rattle.machine_model.specs.declared.copying.CopyLine.TheVariants as copy
use Rattle.machine_model.proofs.Basics.{not_offer}
use Rattle.machine_core.specs.Beneath.proof_generations.proofs.Lines.Copy.{LineFits}
use Rattle.machine_core.specs.Beneath.proof_generations.proofs.Offers.Standing.{OfferFrom, offer_from, offer_line, put, stood}
use Rattle.machine_core.specs.Beneath.proof_generations.proofs.Roots.OfLists.{has_handles_along}
use Rattle.running.proofs.ByParts.{acts_by}
use Rattle.machine_core.specs.declared.parts.Actor.{Actor}
use Rattle.machine_core.specs.declared.parts.Parts.{Parts}
use Rattle.machine_core.specs.declared.parts.UnderWay.{UnderWay}
use Rattle.machine_core.specs.Keeping.{IsKept, KnowsOfferers}
use Rattle.machine_core.specs.Seen.{operation_at, operation_seen, seen}
use Rattle.proof_core.proofs.Given.{sizes}
use Rattle.machine_core.proofs.Kept.{operation_there, operation_under_way}
use Rattle.machine_core.proofs.Knows.{ids}
use Rattle.proof_core.proofs.Mapped.{found_mapped}
use Rattle.machine_core.proofs.Gone.{changes, number_is}
use Rattle.machine_core.proofs.Took.{Took}

-- ---- in the table

-- by handle, who offered last once the actor's action was done
abbrev offerers_after : Table → ℕ → ℕ → Action → List ℕ
offerers_after table handle actor (act.Offer offer) = if is_plain (word_in table handle) offer.root then slice_set table.offerers handle actor else table.offerers
offerers_after table handle actor action = table.offerers

left_by : (b : Bool) (s t : Table) → s.offerers ≡ t.offerers → (if_changed b s t).offerers ≡ t.offerers
left_by true s t same = same
left_by false s t same = refl

opened_left : (table : Table) (offer : Descriptor) (opens : Option ℕ) → (opened_in table offer opens).offerers ≡ table.offerers
opened_left table offer None = refl
opened_left table offer (Some handle) = refl

completed_left : (table : Table) (handle : ℕ) (offer : Descriptor) (c : Bool) →
    (if c then carried_out_in table handle offer else with_word_in table handle (Plain offer.root)).offerers ≡ table.offerers
completed_left table handle offer true = opened_left (with_word_in table handle (Plain offer.successor)) offer offer.opens
completed_left table handle offer false = refl

changed_if : (b : Bool) (s t : Table) → (if_changed b s t).offerers ≡ (if b then s.offerers else t.offerers)
changed_if true s t = refl
changed_if false s t = refl

offerers_by : (table : Table) (handle actor : ℕ) (action : Action) → (acted_table table handle actor action).offerers ≡ offerers_after table handle actor action
offerers_by table handle actor (act.Abort offer) = left_by (stands_in (word_in table handle) offer) (with_word_in table handle (Plain offer.root)) table refl
offerers_by table handle actor (act.Offer offer) = changed_if (is_plain (word_in table handle) offer.root) _ (record table { marks = slice_set table.marks actor false })
offerers_by table handle actor (act.Complete offer main) =
    left_by (stands_in (word_in table handle) offer) (if main == offer.expected then carried_out_in table handle offer else with_word_in table handle (Plain offer.root)) table
    (completed_left table handle offer (main == offer.expected))
offerers_by table handle actor action = refl

length_after : (table : Table) (handle actor : ℕ) (action : Action) → length (offerers_after table handle actor action) ≡ length table.offerers
length_after table handle actor (act.Offer offer) = by (is_plain (word_in table handle) offer.root)
  where
    by : (b : Bool) → length (if b then slice_set table.offerers handle actor else table.offerers) ≡ length table.offerers
    by true = length-set table.offerers handle actor
    by false = refl
length_after table handle actor action = refl

-- whoever made an offer that stood is known as before
known_still : (table : Table) (at actor : ℕ) (action : Action) (handle : ℕ) (offer : Descriptor) → word_in table handle ≡ Offer offer →
    slice_index_or (offerers_after table at actor action) handle 0 ≡ slice_index_or table.offerers handle 0
known_still table at actor (act.Offer own) handle offer word = by (is_plain (word_in table at) own.root) refl
  where
    by : (b : Bool) → is_plain (word_in table at) own.root ≡ b →
        slice_index_or (if b then slice_set table.offerers at actor else table.offerers) handle 0 ≡ slice_index_or table.offerers handle 0
    by false e = refl
    by true e = elim (cases_eq handle at) [
      | inr other ↦ get_or-set_other table.offerers at handle actor 0 other
      | inl same ↦ absurd (false≢true (sym (ap (λ w. is_plain w own.root) (ap (word_in table) (sym same) ∙ word)) ∙ e))
    ]
known_still table at actor action handle offer word = refl

-- an offer comes to stand at an open handle alone
offers_within : (table : Table) (at : ℕ) (offer : Descriptor) (o : Option Root) → word_of (get_or (set table.roots at o) at None) ≡ Offer offer → at < length table.roots
offers_within table at offer o e = elim (cases_lt at (length table.roots)) [
  | inl within ↦ within
  | inr past ↦ absurd (not_offer _ offer (ap word_of (sym (get_or_past (set table.roots at o) at None (rw length-set past))) ∙ e))
]

offered_within : (table : Table) (at actor : ℕ) (offer : Descriptor) → is_plain (word_in table at) offer.root ≡ true →
    word_in (acted_table table at actor (act.Offer offer)) at ≡ Offer offer → at < length table.roots
offered_within table at actor offer plain e = by (is_plain (word_in table at) offer.root) plain e
  where
    unmarked : Table
    unmarked = record table { marks = slice_set table.marks actor false }

    by : (b : Bool) → b ≡ true → word_in (if_changed b (record (with_word_in unmarked at (Offer offer)) { offerers = slice_set table.offerers at actor }) unmarked) at ≡ Offer offer →
        at < length table.roots
    by true is e = offers_within table at offer (rewritten (Offer offer) (get_or table.roots at None)) e
    by false is e = absurd (false≢true is)

-- ---- whose offer it is

-- an operation offers by its own id
own_id : (state : State) → IsOfRun state → (actor : ℕ) (operation : Operation) (offer : Descriptor) → operation_of state actor ≡ Some operation → action_of state operation ≡ act.Offer offer →
    offer.operation ≡ operation.id
own_id state h zero operation offer found offers = absurd (none-some operation found)
own_id state h (suc k) operation offer found offers =
    subst (λ (s : State). operation_of s (suc k) ≡ Some operation → offer.operation ≡ operation.id) (sym h.is) along found
  where
    at_line : operation.line ≡ line.Copy (copy.Offer offer)
    at_line = offer_line state operation operation.line offer offers

    along : operation_of (run state.limits h.steps) (suc k) ≡ Some operation → offer.operation ≡ operation.id
    along there =
        let I = (has_handles_along state.limits h.steps).0 in
        (subst (LineFits operation.call operation.id operation.opens operation.attempt) at_line (I.own k operation there)).its

-- what an actor has under way has its operation's id
id_of : (table : Table) (x : Actor) (operation : Operation) → operation_seen table x ≡ Some operation → (v : UnderWay) × (x.under_way ≡ Some v) × (operation.id ≡ v.job.id)
id_of table x operation e = by x.under_way refl
  where
    by : (o : Option UnderWay) → x.under_way ≡ o → (v : UnderWay) × (x.under_way ≡ Some v) × (operation.id ≡ v.job.id)
    by None none = absurd (none-some operation (sym (ap (option_map (operation_at table x.programs)) none) ∙ e))
    by (Some v) some =
        let seen_so : Some (operation_at table x.programs v) ≡ Some operation = sym (ap (option_map (operation_at table x.programs)) some) ∙ e in
        (v, some, sym (ap (λ (o : Operation). o.id) (same_Some (operation_at table x.programs v) operation seen_so)))

-- ---- a step that was taken

module _ (before : Parts) (actor : ℕ) (u : UnderWay) (taken : Taken) (now : Parts) (t : Took before actor u taken now) (run : IsOfRun (seen before)) (kept : IsKept before) where
  -- an actor with this index who stands there behind the step
  ran_at : (m : ℕ) (x : Actor) (operation : Operation) → slice_get now.actors.items m ≡ Some x → operation_seen now.table x ≡ Some operation →
      (was : Operation) × (operation_of (seen before) (suc m) ≡ Some was) × (operation.id ≡ was.id)
  ran_at m x operation at e =
      let (v, runs, id) = id_of now.table x operation e in
      let counts = t.seat.counts in
      elim (at_set_cases before.actors.items (actor - 1) m (record { programs = t.programs; under_way = Some u }) x (ap (λ xs. slice_get xs m) (sym t.set) ∙ at)) [
        | inl here ↦
            let same : v ≡ u = same_Some v u (sym runs ∙ ap (λ (a : Actor). a.under_way) (sym here.1)) in
            let number : suc m ≡ actor = omega (arith, here.0, counts) in (
              operation_at before.table t.seat.found.programs u,
              ap (operation_of (seen before)) number ∙ operation_there before actor u t.seat,
              id ∙ ap (λ (w : UnderWay). w.job.id) same,
            )
        | inr apart ↦
            let there : slice_get before.actors.items (suc m - 1) ≡ Some x = ap (slice_get before.actors.items) (let less : suc m - 1 ≡ m = omega arith in less) ∙ apart.1 in (
              operation_at before.table x.programs v,
              operation_under_way before (suc m) x (omega arith) there ∙ ap (option_map (operation_at before.table x.programs)) runs,
              id,
            )
      ]

  -- whoever runs behind the step ran before it, by the same id
  pub ran : (n : ℕ) (operation : Operation) → operation_of (seen now) n ≡ Some operation → (was : Operation) × (operation_of (seen before) n ≡ Some was) × (operation.id ≡ was.id)
  ran zero operation e = absurd (none-some operation e)
  ran (suc m) operation e = by (slice_get now.actors.items m) refl
    where
      by : (o : Option Actor) → slice_get now.actors.items m ≡ o → (was : Operation) × (operation_of (seen before) (suc m) ≡ Some was) × (operation.id ≡ was.id)
      by None at = absurd (none-some operation (sym (found_mapped (operation_seen now.table) now.actors.items m ∙ ap (option_and_then (operation_seen now.table)) at) ∙ e))
      by (Some x) at = ran_at m x operation at (sym (found_mapped (operation_seen now.table) now.actors.items m ∙ ap (option_and_then (operation_seen now.table)) at) ∙ e)

  abbrev own : Operation
  own = operation_at before.table t.seat.found.programs u

  abbrev action : Action
  action = action_of (seen before) own

  offerers_are : now.table.offerers ≡ offerers_after before.table u.job.handle u.job.actor action
  offerers_are = ap (λ (x : Table). x.offerers) (changes before actor u taken now t run kept).table ∙ offerers_by before.table u.job.handle u.job.actor action

  -- each offer that stands is one that stood, or the one that this step made
  from : (handle : ℕ) (offer : Descriptor) → word_in now.table handle ≡ Offer offer → OfferFrom before.table.roots u.job.handle action handle offer
  from handle offer stands =
      offer_from (seen before) u.job.handle handle offer action
      (ap (λ rs. word_of (get_or rs handle None))
      ((acts_by (seen before) u.job.handle action).roots before.table u.job.actor refl ∙ ap (λ (x : Table). x.roots) (sym (changes before actor u taken now t run kept).table))
      ∙ stands)

  pub offerers_now : KnowsOfferers now.table (seen now)
  offerers_now handle offer stands n operation found same =
      ap (λ os. slice_index_or os handle 0) offerers_are ∙ by (from handle offer stands)
    where
      who : (was : Operation) × (operation_of (seen before) n ≡ Some was) × (operation.id ≡ was.id)
      who = ran n operation found

      by : OfferFrom before.table.roots u.job.handle action handle offer → slice_index_or (offerers_after before.table u.job.handle u.job.actor action) handle 0 ≡ n
      by (stood word free) =
          known_still before.table u.job.handle u.job.actor action handle offer word ∙ kept.offerers handle offer word n who.0 who.1 (sym who.2 ∙ same)
      by (put offers here plain) =
          let acts : now.table ≡ acted_table before.table u.job.handle u.job.actor (act.Offer offer) =
          (changes before actor u taken now t run kept).table ∙ ap (acted_table before.table u.job.handle u.job.actor) offers in
          let within = offered_within before.table u.job.handle u.job.actor offer plain (ap (word_in (acted_table before.table u.job.handle u.job.actor (act.Offer offer))) (sym here)
          ∙ ap (λ (x : Table). word_in x handle) (sym acts) ∙ stands) in
          let made : offer.operation ≡ own.id = own_id (seen before) run actor own offer (operation_there before actor u t.seat) offers in
          ap (λ a. slice_index_or (offerers_after before.table u.job.handle u.job.actor a) handle 0) offers
          ∙ ap (λ (b : Bool). slice_index_or (if b then slice_set before.table.offerers u.job.handle u.job.actor else before.table.offerers) handle 0) plain
          ∙ ap (λ h. slice_index_or (slice_set before.table.offerers u.job.handle u.job.actor) h 0) here
          ∙ get_or-set_same before.table.offerers u.job.handle u.job.actor 0 (omega (arith, within, (sizes (seen before) run).0, kept.noted.offerers))
          ∙ number_is before actor u taken now t run kept
          ∙ (ids (seen before) run).distinct actor n own who.0 (operation_there before actor u t.seat) who.1 (sym made ∙ sym same ∙ who.2)

  -- the table knows as many handles as before
  pub offerers_length : length now.table.offerers ≡ length before.table.offerers
  offerers_length = ap length offerers_are ∙ length_after before.table u.job.handle u.job.actor action
