-- The beginning of an order leads to a world, and goes on as long as the next operation may stand there.
use Rattle.std.proofs.Common.{◌≡◌, ℕ, zero, suc, inl, inr, List, [], ◌∷◌, ◌++◌, take, Some, refl, sym, ap, ◌∙◌, subst, arith}
use Rattle.std.proofs.lemmas.Option.{slice_get_within}
use Rattle.history.specs.declared.replies.Reply.TheVariants.{NoSlots}
use Rattle.history.specs.declared.events.Event.{Event}
use Rattle.history.specs.Worlds.{HandleMap, first_world}
use Rattle.history.specs.Effects.{Effect}
use Rattle.history.specs.Histories.{HasBegun, HasEnded, IsWellFormed}
use Rattle.history.specs.Orders.{OrderedAt, IsBefore, Answered, Recalls, RecallsEach, Replays}
use Rattle.history.specs.Beginnings.{LeadsTo, MayStand}
use Rattle.history.proofs.Places.{at_cases, at_take}
use Rattle.history.proofs.OneWorld.{one_world}

-- no operation leads to the first world
pub leads_first : (hash : ℕ → ℕ) (history : List Event) → LeadsTo hash history [] first_world
leads_first hash history = record {
  distinct = λ i j id at. let wrong : ⊥ = cc at in absurd wrong;
  has_begun = λ i id at. let wrong : ⊥ = cc at in absurd wrong;
  not_refused = λ i id at. let wrong : ⊥ = cc at in absurd wrong;
  keeps_time = λ i j a b at. let wrong : ⊥ = cc at in absurd wrong;
  replayed = ([], tt, refl);
}

recalls_push : (history : List Event) (ids : List ℕ) (calls : List Answered) (id : ℕ) (one : Answered) → RecallsEach history ids calls → Recalls history id one
    → RecallsEach history (ids ++ id ∷ []) (calls ++ one ∷ [])
recalls_push history [] [] id one each last = (last, tt)
recalls_push history [] (x ∷ xs) id one each last = absurd each
recalls_push history (i ∷ ids) [] id one each last = absurd each
recalls_push history (i ∷ ids) (x ∷ xs) id one each last = (each.0, recalls_push history ids xs id one each.1 last)

replays_push : (hash : ℕ → ℕ) (calls : List Answered) (one : Answered) (world middle last : HandleMap) → Replays hash calls world middle → Effect hash middle one.call one.opens one.answer last
    → Replays hash (calls ++ one ∷ []) world last
replays_push hash [] one world middle last leads effect = (last, subst (λ w. Effect hash w one.call one.opens one.answer last) leads effect, refl)
replays_push hash (x ∷ xs) one world middle last leads effect = (leads.0, leads.1, replays_push hash xs one leads.0 middle last leads.2 effect)

-- the replay goes on with an operation that may stand next
pub leads_on : (hash : ℕ → ℕ) (history : List Event) (ids : List ℕ) (id : ℕ) (world next : HandleMap) → LeadsTo hash history ids world → MayStand hash history ids id world next
    → LeadsTo hash history (ids ++ id ∷ []) next
leads_on hash history ids id world next leads stands = record {
  distinct = λ i j x at_i at_j. elim (at_cases ids id i x at_i) [
    | inl old_i ↦ elim (at_cases ids id j x at_j) [
      | inl old_j ↦ leads.distinct i j x old_i old_j
      | inr new_j ↦ absurd (stands.is_new i (old_i ∙ ap (λ (y : ℕ). Some y) (sym new_j.1)))
    ]
    | inr new_i ↦ elim (at_cases ids id j x at_j) [
      | inl old_j ↦ absurd (stands.is_new j (old_j ∙ ap (λ (y : ℕ). Some y) (sym new_i.1)))
      | inr new_j ↦ new_i.0 ∙ sym new_j.0
    ]
  ];
  has_begun = λ i x at. elim (at_cases ids id i x at) [ inl old ↦ leads.has_begun i x old | inr new ↦ subst (λ y. HasBegun history y) new.1 stands.has_begun ];
  not_refused = λ i x at. elim (at_cases ids id i x at) [
    | inl old ↦ leads.not_refused i x old
    | inr new ↦ subst (λ y. ¬ HasEnded history y NoSlots) new.1 stands.not_refused
  ];
  keeps_time = λ i j a b at_i at_j lt. elim (at_cases ids id i b at_i) [
    | inl old_i ↦ elim (at_cases ids id j a at_j) [
      | inl old_j ↦ leads.keeps_time i j a b old_i old_j lt
      | inr new_j ↦ subst (λ y. ¬ IsBefore history y b) new_j.1 (stands.on_time i b old_i)
    ]
    | inr new_i ↦ elim (at_cases ids id j a at_j) [
      | inl old_j ↦ let within = slice_get_within ids j a old_j in absurd (omega arith)
      | inr new_j ↦ absurd (omega arith)
    ]
  ];
  replayed =
      let one : Answered = stands.answered.0 in
      let calls = leads.replayed.0 in
      (calls ++ one ∷ [], recalls_push history ids calls id one leads.replayed.1 stands.answered.1, replays_push hash calls one first_world world next leads.replayed.2 stands.answered.2);
}

-- what a whole replay does at one place
record Turn (hash : ℕ → ℕ) (history : List Event) (ids : List ℕ) (id : ℕ) (first : HandleMap) : Type 0 where
  before : List Answered
  world : HandleMap
  recalls : RecallsEach history ids before
  leads : Replays hash before first world
  one : Answered
  recalls_one : Recalls history id one
  next : HandleMap
  effect : Effect hash world one.call one.opens one.answer next

turn_at : (hash : ℕ → ℕ) (history : List Event) (order : List ℕ) (calls : List Answered) (place id : ℕ) (first last : HandleMap) → RecallsEach history order calls → Replays hash calls first last
    → OrderedAt order place id → Turn hash history (take place order) id first
turn_at hash history [] calls place id first last each leads at = let wrong : ⊥ = cc at in absurd wrong
turn_at hash history (i ∷ ids) [] place id first last each leads at = absurd each
turn_at hash history (i ∷ ids) (x ∷ xs) zero id first last each leads at =
    let same : i ≡ id = cc at in
    record { before = []; world = first; recalls = tt; leads = refl; one = x; recalls_one = subst (λ y. Recalls history y x) same each.0; next = leads.0; effect = leads.1 }
turn_at hash history (i ∷ ids) (x ∷ xs) (suc place) id first last each leads at =
    let rest = turn_at hash history ids xs place id leads.0 last each.1 leads.2 at in
    record {
      before = x ∷ rest.before;
      world = rest.world;
      recalls = (each.0, rest.recalls);
      leads = (leads.0, leads.1, rest.leads);
      one = rest.one;
      recalls_one = rest.recalls_one;
      next = rest.next;
      effect = rest.effect;
    }

-- where an order leads to a world, each of its operations may stand at its place
pub must_stand : (hash : ℕ → ℕ) (history : List Event) (order : List ℕ) (place id : ℕ) (world last : HandleMap) → IsWellFormed history → LeadsTo hash history (take place order) world
    → LeadsTo hash history order last → OrderedAt order place id → (next : HandleMap) × MayStand hash history (take place order) id world next
must_stand hash history order place id world last well so_far whole at =
    let turn = turn_at hash history order whole.replayed.0 place id first_world last whole.replayed.1 whole.replayed.2 at in
    let same : turn.world ≡ world =
    one_world hash history (take place order) turn.before so_far.replayed.0 first_world turn.world world well turn.recalls turn.leads so_far.replayed.1 so_far.replayed.2 in
    let one : Answered = turn.one in (
      turn.next,
      record {
        is_new = λ i at_i.
            let early = at_take order place i id at_i in
            let clash : i ≡ place = whole.distinct i place id early.1 at in
            omega arith;
        has_begun = whole.has_begun place id at;
        not_refused = whole.not_refused place id at;
        on_time = λ i other at_i. let early = at_take order place i other at_i in whole.keeps_time i place id other early.1 at early.0;
        answered = (one, turn.recalls_one, subst (λ w. Effect hash w one.call one.opens one.answer turn.next) same turn.effect);
      },
    )
