-- Replaying a list of places, seen by what a world shows: no world is ever built.
use Rattle.std.proofs.Common.{◌≡◌, ℕ, zero, suc, ◌<◌, ◌≤◌, ◌==◌, cond, List, [], ◌∷◌, ◌++◌, map, filter, Option, refl, sym, ap, ◌∙◌, subst, arith}
use Rattle.std.specs.FinMap as fin
use Rattle.proof_order.specs.Vocabulary.{Event, HandleState, HandleMap, Effect, Answered, Replays, Recalls, RecallsEach, Place}
use Rattle.proof_order.specs.Beneath.history.proofs.Among.{Among}
use Rattle.proof_order.proofs.Places.Elements.{Each, Along, below, equals, next_below, all_below, none_below_zero}

-- what each handle names, if it is open
abbrev pub View : Type 0
View = ℕ → Option HandleState

-- the world shows just that
abbrev pub Shows : HandleMap → View → Type 0
Shows world view = (handle : ℕ) → fin.get world handle ≡ view handle

-- the same view but for one handle
abbrev pub but : View → ℕ → Option HandleState → View
but view handle state other = cond (other == handle) state (view other)

abbrev pub ids_of : List Place → List ℕ
ids_of places = map (λ place. place.id) places

module _ (hash : ℕ → ℕ) (history : List Event) where
  -- from each world that shows the first view the operations of these places replay to one that shows the second
  abbrev pub Leads : List Place → View → View → Type 0
  Leads places view next =
      (world : HandleMap) → Shows world view →
      (calls : List Answered) × (after : HandleMap) × RecallsEach history (ids_of places) calls × Replays hash calls world after × Shows after next

  -- no operation changes nothing
  pub leads_none : (view next : View) → ((handle : ℕ) → view handle ≡ next handle) → Leads [] view next
  leads_none view next same world shows = ([], world, tt, refl, λ handle. shows handle ∙ same handle)

  recalls_append : (ids more : List ℕ) (xs ys : List Answered) → RecallsEach history ids xs → RecallsEach history more ys → RecallsEach history (ids ++ more) (xs ++ ys)
  recalls_append [] more [] ys each rest = rest
  recalls_append [] more (x ∷ xs) ys each rest = absurd each
  recalls_append (i ∷ ids) more [] ys each rest = absurd each
  recalls_append (i ∷ ids) more (x ∷ xs) ys each rest = (each.0, recalls_append ids more xs ys each.1 rest)

  replays_append : (xs ys : List Answered) (a b c : HandleMap) → Replays hash xs a b → Replays hash ys b c → Replays hash (xs ++ ys) a c
  replays_append [] ys a b c leads rest = subst (λ w. Replays hash ys w c) leads rest
  replays_append (x ∷ xs) ys a b c leads rest = (leads.0, leads.1, replays_append xs ys leads.0 b c leads.2 rest)

  ids_append : (ps qs : List Place) → ids_of (ps ++ qs) ≡ ids_of ps ++ ids_of qs
  ids_append [] qs = refl
  ids_append (p ∷ ps) qs = ap (λ l. p.id ∷ l) (ids_append ps qs)

  -- one list of places after the other
  pub leads_append : (ps qs : List Place) (view middle next : View) → Leads ps view middle → Leads qs middle next → Leads (ps ++ qs) view next
  leads_append ps qs view middle next first second world shows =
      let (xs, between, recalls, replays, so_far) = first world shows in
      let (ys, after, recalls_more, replays_more, at_last) = second between so_far in (
        xs ++ ys,
        after,
        subst (λ l. RecallsEach history l (xs ++ ys)) (sym (ids_append ps qs)) (recalls_append (ids_of ps) (ids_of qs) xs ys recalls recalls_more),
        replays_append xs ys world between after replays replays_more,
        at_last,
      )

  -- the view behind may be said in another way
  pub leads_same : (ps : List Place) (view next other : View) → Leads ps view next → ((handle : ℕ) → next handle ≡ other handle) → Leads ps view other
  leads_same ps view next other leads same world shows =
      let (xs, after, recalls, replays, at_last) = leads world shows in (xs, after, recalls, replays, λ handle. at_last handle ∙ same handle)

  -- and so may the view before
  pub leads_from : (ps : List Place) (view next other : View) → ((handle : ℕ) → other handle ≡ view handle) → Leads ps view next → Leads ps other next
  leads_from ps view next other same leads world shows = leads world (λ handle. shows handle ∙ same handle)

  -- one operation, by its effect
  pub leads_one : (p : Place) (one : Answered) (view next : View) → Recalls history p.id one →
      ((world : HandleMap) → Shows world view → (after : HandleMap) × Effect hash world one.call one.opens one.answer after × Shows after next) →
      Leads (p ∷ []) view next
  leads_one p one view next recalls acts world shows =
      let (after, effect, at_last) = acts world shows in (one ∷ [], after, (recalls, tt), (after, effect, refl), at_last)

  -- operations each of which changes nothing
  pub leads_each : (ps : List Place) (view : View) → Each (λ p. Leads (p ∷ []) view view) ps → Leads ps view view
  leads_each [] view h = leads_none view view (λ handle. refl)
  leads_each (p ∷ ps) view h = leads_append (p ∷ []) ps view view view h.0 (leads_each ps view h.1)

  -- Along a list on which a number rises, those with each number lead from one view to the next; then those below a number
  -- lead there.
  pub leads_below : (f : Place → ℕ) (ps : List Place) → Along f ps → (views : ℕ → View) (last : ℕ) →
      ((n : ℕ) → n < last → Leads (filter (equals f n) ps) (views n) (views (suc n))) →
      (n : ℕ) → n ≤ last → Leads (filter (below f n) ps) (views zero) (views n)
  leads_below f ps along views last each zero le =
      subst (λ l. Leads l (views zero) (views zero)) (sym (none_below_zero f ps)) (leads_none (views zero) (views zero) (λ handle. refl))
  leads_below f ps along views last each (suc n) le =
      subst (λ l. Leads l (views zero) (views (suc n))) (sym (next_below f n ps along))
      (leads_append (filter (below f n) ps) (filter (equals f n) ps) (views zero) (views n) (views (suc n))
      (leads_below f ps along views last each n (omega (arith, le))) (each n le))

  -- and so all of them
  pub leads_all : (f : Place → ℕ) (ps : List Place) → Along f ps → (views : ℕ → View) (last : ℕ) → ((p : Place) → Among p ps → f p < last) →
      ((n : ℕ) → n < last → Leads (filter (equals f n) ps) (views n) (views (suc n))) → Leads ps (views zero) (views last)
  leads_all f ps along views last within each =
      subst (λ l. Leads l (views zero) (views last)) (all_below f last ps within) (leads_below f ps along views last each last (omega arith))

  -- Where a number is 0 for the first part of a list and 1 for the rest, the parts may be replayed one after the other.
  pick : View → View → View → ℕ → View
  pick a b c zero = a
  pick a b c (suc zero) = b
  pick a b c (suc (suc n)) = c

  pub leads_parts : (f : Place → ℕ) (ps : List Place) → Along f ps → ((p : Place) → f p < 2) → (a b c : View) →
      Leads (filter (equals f 0) ps) a b → Leads (filter (equals f 1) ps) b c → Leads ps a c
  unfolding pick
  leads_parts f ps along two a b c first second = leads_all f ps along (pick a b c) 2 (λ p within. two p) each
    where
      each : (n : ℕ) → n < 2 → Leads (filter (equals f n) ps) (pick a b c n) (pick a b c (suc n))
      each zero lt = first
      each (suc zero) lt = second
      each (suc (suc n)) lt = absurd (omega (arith, lt))
