-- What is left of the way without its last operation.
use Rattle.std.proofs.Common.{◌≡◌, ◌+◌, ℕ, List, [], ◌∷◌, ◌++◌, Option, length, sym, ap, ◌∙◌, subst, arith, length-append}
use Rattle.order_search.specs.Vocabulary.{hash_of, LeadsTo}
use Rattle.order_search.specs.Searching.{NoneGoesOn}
use Rattle.order_search.specs.Walks.{IsWay}
use Rattle.order_search.proofs.Placing.{last_before, went_back}
use Rattle.order_search.proofs.walking.Way.go_back.Goals as goal

pub returns-clause-back : goal.returns-clause-back
returns-clause-back c =
    let hash = hash_of c.args.hash in
    let history = c.args.events.now in
    let old = c.args.self.now in
    let ids = c.pop.new.self.items in
    let befores = c.pop-2.new.self.items in
    let id = c.in-Some.id in
    let ids_were : old.ids.items ≡ ids ++ id ∷ [] = c.in-Some.ensures.items in
    let long : length old.befores.items ≡ length ids + 1 = c.requires.way.known ∙ ap (λ (xs : List ℕ). length xs) ids_were ∙ length-append ids (id ∷ []) in
    let befores_were : old.befores.items ≡ befores ++ c.unwrap_or-before.result ∷ [] =
    last_before old.befores.items befores c.pop-2.result (length ids) c.pop-2.ensures.items (λ none. omega (arith, (rw none at c.pop-2.ensures.cases).0)) long
    ∙ ap (λ (b : Option ℕ). befores ++ b ∷ []) (sym c.unwrap_or-before.ensures) in
    let way : IsWay hash history (ids ++ id ∷ []) old.befores.items old.taken.items old.low old.next old.world =
    subst (λ xs. IsWay hash history xs old.befores.items old.taken.items old.low old.next old.world) ids_were c.requires.way in
    let whole : IsWay hash history (ids ++ id ∷ []) (befores ++ c.unwrap_or-before.result ∷ []) old.taken.items old.low old.next old.world =
    subst (λ xs. IsWay hash history (ids ++ id ∷ []) xs old.taken.items old.low old.next old.world) befores_were way in
    let none = subst (λ xs. NoneGoesOn hash history xs) ids_were c.requires.none in
    went_back hash history c.args.table.now ids befores id c.unwrap_or-before.result old.taken.items c.set_mark.new.taken.items old.low old.next c.min-self.result c.saturating_add-self.result
    old.world c.take_back.new.world c.requires.known whole none
    (λ last row leads at differ. c.in_ok-take_back.ensures.back history last row c.requires.known (subst (λ xs. LeadsTo hash history xs last) (sym c.as_slice.ensures.value) leads) at differ)
    c.set_mark.ensures (omega (arith, c.min-self.ensures)) (omega (arith, c.min-self.ensures)) (omega (arith, c.saturating_add-self.ensures))
