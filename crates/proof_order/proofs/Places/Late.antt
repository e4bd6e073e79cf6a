-- The late places of a step that carries an offer out lead its handle from the content that it had then to the one that it
-- has at the end.
use Rattle.std.proofs.Common.{◌≡◌, ℕ, zero, suc, ◌<◌, ◌≤◌, max, Bool, true, false, cond, ◌⊎◌, inl, inr, List, [], ◌∷◌, ◌++◌, filter, Option, Some, refl, sym, ap, ◌∙◌, subst, arith, lt-ltb}
use native.Mathlib.Decide.{ℕ_discrete}
use Rattle.std.proofs.lemmas.Bool.{true≢false}
use Rattle.std.proofs.lemmas.Option.{none-some, same_Some}
use Rattle.proof_order.specs.Vocabulary.{hash_of, KeyMap, HandleState, Writable, generation_at, Place, on_time, late, place_by, Operation, Descriptor, Bounds, handle_of, State, IsRun, closed_at}
use Rattle.proof_order.specs.Vocabulary.{place_of, closing_for, closed_after, Record, moment_at, entrant_of}
use Rattle.proof_order.specs.Beneath.proof_contents.specs.Effects.{act_in}
use Rattle.proof_order.specs.Facts.{On, IsRooted, HasStood, Facts, Update, Replied, on_writable, on_read_only}
use Rattle.proof_order.proofs.Offers.Carried.{Carried}
use Rattle.proof_order.specs.Beneath.history.proofs.Among.{Among, among_right, filter_among}
use Rattle.proof_order.proofs.Places.Elements.{no_members, each_of, equals}
use Rattle.proof_order.proofs.Places.Sorting.{role, number_below, only_one}
use Rattle.proof_order.proofs.Views.Replay.{View, but, Leads, leads_none, leads_same, leads_from, leads_each, leads_all, leads_parts}
use Rattle.proof_order.proofs.Views.Acts.{named, but_same}
use Rattle.proof_order.proofs.History.Growing.{holds_later, among_grown, places_grow}
use Rattle.proof_order.proofs.Views.Steps.{Enters, IsStill, Kind, plain, updates, answers, closes, swaps, kind_at}
use Rattle.proof_generations.proofs.Offers.Swaps.{closed_in, closed_new, closed_last}
use Rattle.proof_generations.proofs.Falling.Opened.{closed_until}
use Rattle.proof_order.proofs.Views.Closed.{closed_from}
use Rattle.proof_order.proofs.Views.Sound.{sound_at}
use Rattle.proof_order.proofs.Places.Origins.{place_says, late_says}
use Rattle.proof_order.proofs.Views.Timeline.{view, view_writable, but_here, but_there, update_leads, reader_leads}
use Rattle.proof_order.proofs.Places.Members.{lates, late_at, IsPlace, in_lates, in_late_at, to_late_at, in_changing, to_changing, in_reading, lates_along, late_at_along}
use Rattle.proof_order.proofs.Places.Members.{none_changing, one_changing, Reading, reading, late_at_apart, late_before, moment_within}
use Rattle.proof_order.specs.Beneath.machine_model.proofs.Recorded.{KeptByNotes}

-- ---- small things

-- the later word for a handle is the one that counts
pub but_but : (view : View) (a b : ℕ) (s u : Option HandleState) → b ≡ a → (other : ℕ) → but (but view a s) b u other ≡ but view a u other
but_but view a b s u same other = by (ℕ_discrete other a)
  where
    by : Dec (other ≡ a) → but (but view a s) b u other ≡ but view a u other
    by (yes here) =
        ap (but (but view a s) b u) (here ∙ sym same) ∙ but_here (but view a s) b u ∙ sym (but_here view a u) ∙ ap (but view a u) (sym here)
    by (no there) = but_there (but view a s) b u other (λ e. there (e ∙ same)) ∙ but_there view a s other there ∙ sym (but_there view a u other there)

-- the place of what has its moment behind the closing
pub late_is : (closing : Option ℕ) (c m id : ℕ) (changed_nothing : Bool) → closing ≡ Some c → c < m → place_by closing m changed_nothing id ≡ late c m changed_nothing id
late_is closing c m id changed_nothing is lt =
    ap (λ x. place_by x m changed_nothing id) is ∙ ap (λ b. cond b (late c m changed_nothing id) (on_time m changed_nothing id)) (lt-ltb c m lt)

-- the step that closed the generation of an operation on a writable handle
pub closing_is : (past : Record) (operation : Operation) (generation : ℕ) → operation.access ≡ Writable → operation.generation ≡ Some generation →
    closing_for past operation.generation operation.access ≡ closed_at past generation
closing_is past operation generation writable of = ap (closing_for past operation.generation) writable ∙ ap (closed_after past) of

place_kept : (p : Place) → KeptByNotes (λ state past. Among p past.places)
place_kept p state past s o after m a = among_grown past.places _ p (places_grow state past s o after m) a

module _ {limits : Bounds} {states : ℕ → State} {last : ℕ} (r : IsRun limits states last) (V : ℕ → ℕ → KeyMap) (facts : Facts limits states r.records last V) where
  -- a place that a step entered is one of the run
  pub entered_place : (t : ℕ) (p : Place) → t < last → Enters limits states r.records last V t p → IsPlace r.records last p
  entered_place t p lt enters =
      holds_later r (λ state past. Among p past.places) (place_kept p) (suc t) last lt (omega arith)
      (subst (Among p) (sym enters) (among_right (r.records t).places (p ∷ []) p (inl refl)))

  module _ (t : ℕ) (lt : t < last) (handle : ℕ) (offer : Descriptor) (swap : Carried states r.records last V t handle offer)
      (closings : (r.records (suc t)).closings ≡ (r.records t).closings ++ record { generation = generation_at (states t).heap offer.root; step = t } ∷ [])
      (still_now : IsStill limits states r.records last V t) where
    abbrev old : ℕ
    old = generation_at (states t).heap offer.root

    -- the view at this step, with the handle's content at a time
    abbrev pub lately : ℕ → View
    lately n = but (view limits states last V t) handle (Some (named Writable (V old n)))

    -- what this step closed is its old root's generation
    closing_is_old : (u generation : ℕ) → u ≤ last → closed_at (r.records u) generation ≡ Some t → old ≡ generation
    closing_is_old u generation le e =
        let (before, none, some) = closed_from r V facts u generation t le e in
        (closed_new (r.records t).closings _ generation t none (ap (λ l. closed_in l generation) (sym closings) ∙ some)).0

    -- who is rooted in it is on this handle
    rooted_here : (n other generation : ℕ) → n ≤ last → closed_at (r.records n) generation ≡ Some t → old ≡ generation → IsRooted states r.records n other generation → other ≡ handle
    rooted_here n other generation le closed same (inl on) =
        absurd (none-some t (sym ((sound_at r V facts n le).unclosed other generation on) ∙ closed))
    rooted_here n other generation le closed same (inr (c, before, its, on)) =
        let now : c ≡ t = same_Some c t (sym its ∙ closed) in
        let there : On states t other old = subst (λ g. On states t other g) (sym same) (subst (λ x. On states x other generation) now on) in
        (sound_at r V facts t (omega arith)).apart other handle old there swap.stands

    stood : (n : ℕ) → t ≤ n → HasStood states n old
    stood n le = (t, handle, le, swap.stands)

    abbrev Changing : ℕ → List Place
    Changing n = filter (equals role 0) (late_at r.records last t n)

    abbrev LeadsLately : List Place → ℕ → ℕ → Type 0
    LeadsLately ps n m = Leads (hash_of limits.hash) (r.records last).events ps (lately n) (lately m)

    same_lately : (n m : ℕ) → V old m ≡ V old n → (other : ℕ) → lately n other ≡ lately m other
    same_lately n m e other = ap (λ x. but (view limits states last V t) handle (Some (named Writable x)) other) (sym e)

    -- where none of these places changes something, and the content stays
    none_lately : (ps : List Place) (n m : ℕ) → ((p : Place) → Among p ps → ⊥) → V old m ≡ V old n → LeadsLately ps n m
    none_lately ps n m none still =
        subst (λ l. LeadsLately l n m) (sym (no_members ps none)) (leads_none (hash_of limits.hash) (r.records last).events (lately n) (lately m) (same_lately n m still))

    -- a member of those of this moment that change something
    of_changing : (n : ℕ) (p : Place) → Among p (Changing n) → IsPlace r.records last p × (p.step ≡ t) × (p.on_time ≡ false) × (p.moment ≡ n) × (p.changed_nothing ≡ false)
    of_changing n p a =
        let (within, e) = in_changing r.records last (late_at r.records last t n) p a in
        let (place, at, is_late, moment) = in_late_at r.records last t n p within in
        (place, at, is_late, moment, e)

    -- where the step of this moment enters something else there is none
    other_changing : (n : ℕ) (new : Place) → Enters limits states r.records last V n new → (new.on_time ≡ false → new.step ≡ t → new.changed_nothing ≡ false → ⊥) → (p : Place) →
        Among p (Changing n) → ⊥
    other_changing n new enters is_not p a =
        let (place, at, is_late, moment, e) = of_changing n p a in
        let same = one_changing r V facts n new enters p place e moment in
        is_not (ap (λ (q : Place). q.on_time) (sym same) ∙ is_late) (ap (λ (q : Place). q.step) (sym same) ∙ at) (ap (λ (q : Place). q.changed_nothing) (sym same) ∙ e)

    -- an update of this generation at a later moment
    module _ (n : ℕ) (behind : t < n) (within : n < last) (entered : List Place) (update : Update limits states r.records last V n entered)
        (enters : Enters limits states r.records last V n (place_of (r.records n) (entrant_of update.owner) n false)) where
      abbrev its : Place
      its = place_of (r.records n) (entrant_of update.owner) n false

      update_closing : closing_for (r.records n) update.owner.generation update.owner.access ≡ closed_at (r.records n) update.generation
      update_closing = closing_is (r.records n) update.owner update.generation update.writable update.of_generation

      -- the generation is closed by now
      closed_now : old ≡ update.generation → closed_at (r.records n) update.generation ≡ Some t
      closed_now same =
          subst (λ g. closed_at (r.records n) g ≡ Some t) same (closed_until r (suc t) n behind (omega arith) old t
          (ap (λ l. closed_in l old) closings
          ∙ closed_last (r.records t).closings _ old ((sound_at r V facts t (omega arith)).unclosed handle old swap.stands) refl))

      own_late : old ≡ update.generation → its ≡ late t n false update.owner.id
      own_late same = late_is _ t n update.owner.id false (update_closing ∙ closed_now same) behind

      own_changing : old ≡ update.generation → Changing n ≡ its ∷ []
      own_changing same =
          let is = own_late same in
          let place = entered_place n its within enters in
          only_one (equals role 0) (late_at r.records last t n) its (late_at_apart r V facts t n)
          (to_late_at r.records last t n its place (ap (λ (q : Place). q.step) is) (ap (λ (q : Place). q.on_time) is) (ap (λ (q : Place). q.moment) is))
          (to_changing r.records last (late_at r.records last t n) its
          (to_late_at r.records last t n its place (ap (λ (q : Place). q.step) is) (ap (λ (q : Place). q.on_time) is) (ap (λ (q : Place). q.moment) is)) (ap (λ (q : Place). q.changed_nothing) is))
          (λ p a passes.
          let (is_place, at, is_late, moment, e) = of_changing n p (filter_among (equals role 0) (late_at r.records last t n) p a passes) in
          one_changing r V facts n its enters p is_place e moment)

      own_leads : old ≡ update.generation → LeadsLately (its ∷ []) n (suc n)
      own_leads same =
          let here = rooted_here n (handle_of update.owner.call) update.generation (omega arith) (closed_now same) same update.rooted in
          let content : V update.generation n ≡ V old n = ap (λ g. V g n) (sym same) in
          let next : V update.generation (suc n) ≡ V old (suc n) = ap (λ g. V g (suc n)) (sym same) in
          let before = view limits states last V t in
          leads_same (hash_of limits.hash) (r.records last).events (its ∷ []) (lately n) _ (lately (suc n))
          (update_leads r V n within entered update (lately n)
          (ap (lately n) here ∙ but_here before handle (Some (named Writable (V old n))) ∙ ap (λ m. Some (named Writable m)) (sym content)))
          (λ other. but_but before handle (handle_of update.owner.call) (Some (named Writable (V old n))) (Some (named Writable (V update.generation (suc n)))) here other
          ∙ ap (λ m. but before handle (Some (named Writable m)) other) next)

      -- of another generation it isn't late for this step
      other_update : (old ≡ update.generation → ⊥) → LeadsLately (Changing n) n (suc n)
      other_update differ =
          none_lately (Changing n) n (suc n)
          (other_changing n its enters (λ is_late at e.
          let says = late_says (closing_for (r.records n) update.owner.generation update.owner.access) n update.owner.id false is_late in
          differ (closing_is_old n update.generation (omega arith) (sym update_closing ∙ says.0 ∙ ap Some at))))
          (update.still old (stood n (omega (arith, behind))) differ)

      update_by : Dec (old ≡ update.generation) → LeadsLately (Changing n) n (suc n)
      update_by (yes same) = subst (λ l. LeadsLately l n (suc n)) (sym (own_changing same)) (own_leads same)
      update_by (no differ) = other_update differ

    -- those of one later moment that change something
    changing_by : (n : ℕ) → t < n → n < last → Kind limits states r.records last V n → LeadsLately (Changing n) n (suc n)
    changing_by n behind within (plain places closings kept still) =
        none_lately (Changing n) n (suc n)
        (λ p a. let (place, at, is_late, moment, e) = of_changing n p a in none_changing r V facts n places p place e moment)
        (still old (stood n (omega (arith, behind))))
    changing_by n behind within (updates entered update places closings kept) = update_by n behind within entered update places (ℕ_discrete old update.generation)
    changing_by n behind within (answers k operation answer runs places unplaced agrees replied closings kept still) =
        none_lately (Changing n) n (suc n)
        (other_changing n _ places
        (λ is_late at e. true≢false (sym (place_says (closing_for (r.records n) operation.generation operation.access) (moment_at (r.records n) (suc k)).moment operation.id true).1 ∙ e)))
        (still old (stood n (omega (arith, behind))))
    changing_by n behind within (closes other stands places recalls more at gone others closings still) =
        none_lately (Changing n) n (suc n) (other_changing n _ places (λ is_late at e. true≢false is_late)) (still old (stood n (omega (arith, behind))))
    changing_by n behind within (swaps other offered another places closings roots heap still) =
        none_lately (Changing n) n (suc n) (other_changing n _ places (λ is_late at e. true≢false is_late)) (still old (stood n (omega (arith, behind))))

    -- one of them that changes nothing
    module _ (n : ℕ) (behind : t < n) (p : Place) (at : p.step ≡ t) (is_late : p.on_time ≡ false) (moment : p.moment ≡ n) (reads : Reading r V facts p) where
      abbrev LatelyReads : Type 0
      LatelyReads = Leads (hash_of limits.hash) (r.records last).events (p ∷ []) (lately (suc n)) (lately (suc n))

      reading_closing : closing_for (r.records reads.u) reads.operation.generation reads.operation.access ≡ Some t
      reading_closing =
          let closing = closing_for (r.records reads.u) reads.operation.generation reads.operation.access in
          (late_says closing reads.moment reads.operation.id true (ap (λ (q : Place). q.on_time) (sym reads.is_its) ∙ is_late)).0
          ∙ ap Some (ap (λ (q : Place). q.step) (sym reads.is_its) ∙ at)

      reader_by : Replied limits states r.records last V reads.operation reads.moment reads.answer → LatelyReads
      reader_by (on_writable generation writable of rooted none acts) =
          let u = reads.u in
          let m : reads.moment ≡ n = sym reads.is_moment ∙ moment in
          let past = reads.past in
          let within = reads.within in
          let closed_u : closed_at (r.records u) generation ≡ Some t = sym (closing_is (r.records u) reads.operation generation writable of) ∙ reading_closing in
          let same = closing_is_old u generation (omega arith) closed_u in
          let from = closed_from r V facts u generation t (omega arith) closed_u in
          let closed_n : closed_at (r.records (suc n)) generation ≡ Some t = closed_until r (suc t) (suc n) (omega arith) (omega arith) generation t from.2 in
          let rooted_n = subst (λ x. IsRooted states r.records (suc x) (handle_of reads.operation.call) generation) m rooted in
          let here = rooted_here (suc n) (handle_of reads.operation.call) generation (omega arith) closed_n same rooted_n in
          let before = view limits states last V t in
          reader_leads r V u reads.k reads.operation reads.moment reads.answer p Writable (V generation (suc n)) (lately (suc n))
          (omega arith) reads.runs reads.is_its reads.agrees
          (ap (lately (suc n)) here ∙ but_here before handle (Some (named Writable (V old (suc n)))) ∙ ap (λ g. Some (named Writable (V g (suc n)))) same)
          (subst (λ x. act_in (hash_of limits.hash) Writable reads.operation.call (V generation (suc x)) ≡ Some (reads.answer, V generation (suc x))) m acts)
      reader_by (on_read_only generation read_only stands acts) =
          absurd (none-some t (ap (closing_for (r.records reads.u) reads.operation.generation) (sym read_only) ∙ reading_closing))

      pub reader_lately : LatelyReads
      reader_lately = reader_by reads.replied

    readers_lately : (n : ℕ) → t < n → LeadsLately (filter (equals role 1) (late_at r.records last t n)) (suc n) (suc n)
    readers_lately n behind =
        leads_each (hash_of limits.hash) (r.records last).events _ (lately (suc n)) (each_of _ _ (λ p a.
        let (within, e) = in_reading r.records last (late_at r.records last t n) p a in
        let (place, at, is_late, moment) = in_late_at r.records last t n p within in
        reader_lately n behind p at is_late moment (reading r V facts p place e)))

    -- all of one later moment
    moment_lately : (n : ℕ) → t < n → n < last → LeadsLately (late_at r.records last t n) n (suc n)
    moment_lately n behind within =
        leads_parts (hash_of limits.hash) (r.records last).events role (late_at r.records last t n) (late_at_along r.records last t n) (λ p. number_below p.changed_nothing)
        (lately n) (lately (suc n)) (lately (suc n)) (changing_by n behind within (kind_at r V facts n within)) (readers_lately n behind)

    -- there is none of an earlier moment
    none_early : (n : ℕ) → n ≤ t → (p : Place) → Among p (late_at r.records last t n) → ⊥
    none_early n le p a =
        let (place, at, is_late, moment) = in_late_at r.records last t n p a in
        let before = late_before r V facts p place is_late in
        omega arith

    from_now : ℕ → ℕ
    from_now n = max n t

    each_moment : (n : ℕ) → n < last → (n < t) ⊎ ((n ≡ t) ⊎ (t < n)) → LeadsLately (late_at r.records last t n) (from_now n) (from_now (suc n))
    unfolding from_now
    each_moment n within (inl early) =
        let a : max n t ≡ t = omega arith in
        let b : max (suc n) t ≡ t = omega arith in
        none_lately (late_at r.records last t n) (max n t) (max (suc n) t) (none_early n (omega (arith, early))) (ap (V old) (b ∙ sym a))
    each_moment n within (inr (inl now)) =
        let a : max n t ≡ t = omega arith in
        let b : max (suc n) t ≡ suc t = omega arith in
        none_lately (late_at r.records last t n) (max n t) (max (suc n) t) (none_early n (omega (arith, now))) (ap (V old) b ∙ still_now old (stood t (omega arith)) ∙ ap (V old) (sym a))
    each_moment n within (inr (inr behind)) =
        let a : max n t ≡ n = omega arith in
        let b : max (suc n) t ≡ suc n = omega arith in
        subst (λ x. LeadsLately (late_at r.records last t n) x (max (suc n) t)) (sym a)
        (subst (λ x. LeadsLately (late_at r.records last t n) n x) (sym b) (moment_lately n behind within))

    order_of_three : (n m : ℕ) → (n < m) ⊎ ((n ≡ m) ⊎ (m < n))
    order_of_three n m = grind arith

    -- all late places of this step
    pub all_lately : Leads (hash_of limits.hash) (r.records last).events (lates r.records last t) (view limits states last V t) (lately last)
    unfolding from_now
    all_lately =
        let first : max zero t ≡ t = omega arith in
        let end : max last t ≡ last = omega arith in
        leads_from (hash_of limits.hash) (r.records last).events (lates r.records last t) (lately t) (lately last) (view limits states last V t)
        (but_same (view limits states last V t) handle (Some (named Writable (V old t))) (view_writable limits states last V t handle old swap.stands))
        (subst (λ x. LeadsLately (lates r.records last t) x last) first (subst (λ x. LeadsLately (lates r.records last t) (max zero t) x) end
        (leads_all (hash_of limits.hash) (r.records last).events (λ p. p.moment) (lates r.records last t) (lates_along r.records last t) (λ n. lately (max n t)) last
        (λ p a. let (place, at, is_late) = in_lates r.records last t p a in moment_within r V facts p place)
        (λ n within. each_moment n within (order_of_three n t)))))
