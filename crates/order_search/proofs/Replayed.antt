-- Where operations lead, one after the other.
use Rattle.std.proofs.Common.{◌≡◌, ℕ, List, [], ◌∷◌, ◌++◌, take, Option, Some, None, sym, ap, ◌∙◌, subst}
use Rattle.std.proofs.lemmas.Option.{some_pair_parts}
use Rattle.order_search.specs.Vocabulary.{Reply, Event, Row, HandleMap, first_world, effect, answer_in, IsWellFormed, OrderedAt, Answered, IsRowOf, LeadsTo, MayStand}
use Rattle.history.proofs.Leading.{leads_on, must_stand}
use Rattle.history.proofs.Legal.{same_calls}
use Rattle.history.proofs.OneWorld.{one_world}

-- operations lead to one world
pub one_lead : (hash : ℕ → ℕ) (history : List Event) (ids : List ℕ) (v w : HandleMap) → IsWellFormed history → LeadsTo hash history ids v → LeadsTo hash history ids w → v ≡ w
one_lead hash history ids v w well a b = one_world hash history ids a.replayed.0 b.replayed.0 first_world v w well a.replayed.1 a.replayed.2 b.replayed.1 b.replayed.2

-- an operation that may stand next has the effect that its row says
pub effect_of : (hash : ℕ → ℕ) (history : List Event) (ids : List ℕ) (id : ℕ) (world next : HandleMap) (row : Row) → IsWellFormed history → IsRowOf history id row
    → (stands : MayStand hash history ids id world next) → effect hash world row.call row.opens ≡ Some (stands.answered.0.answer, next)
effect_of hash history ids id world next row well is stands =
    let one : Answered = stands.answered.0 in
    let same = same_calls history id one row.call row.opens well stands.answered.1 (row.begin, row.actor, is.begins) in
    sym (ap (λ c. effect hash world c one.opens) same.0 ∙ ap (λ h. effect hash world row.call h) same.1) ∙ stands.answered.2

-- what comes of a call that has an effect
answered_next : (v w : HandleMap) (told : Option Reply) (e : Option (Reply × HandleMap)) (answer : Reply) (next : HandleMap) → e ≡ Some (answer, next) → (told, w) ≡ answer_in v e → w ≡ next
answered_next v w told None answer next is answers = let wrong : ⊥ = cc is in absurd wrong
answered_next v w told (Some e) answer next is answers =
    let same = some_pair_parts e.0 answer e.1 next is in
    ap (λ (p : Option Reply × HandleMap). p.1) answers ∙ same.1

-- one more operation of those that lead to a world
pub replayed_on : (hash : ℕ → ℕ) (history : List Event) (ids : List ℕ) (place id : ℕ) (world last w : HandleMap) (row : Row) (told : Option Reply) → IsWellFormed history → IsRowOf history id row
    → LeadsTo hash history (take place ids) world → LeadsTo hash history ids last → OrderedAt ids place id → (told, w) ≡ answer_in world (effect hash world row.call row.opens)
    → LeadsTo hash history (take place ids ++ id ∷ []) w
replayed_on hash history ids place id world last w row told well is so_far whole at answers =
    let next = must_stand hash history ids place id world last well so_far whole at in
    let effect_is = effect_of hash history (take place ids) id world next.0 row well is next.1 in
    let same = answered_next world w told (effect hash world row.call row.opens) _ next.0 effect_is answers in
    subst (λ x. LeadsTo hash history (take place ids ++ id ∷ []) x) (sym same) (leads_on hash history (take place ids) id world next.0 so_far next.1)
