-- Each line of KEY keeps to the key's path.
use Rattle.std.proofs.Common.{◌≡◌, ℕ, suc, ◌-◌, ◌<◌, true, List, [], ◌∷◌, ◌++◌, length, sym, arith}
use Rattle.proof_updates.specs.Vocabulary.{hash_of, Access, Ref, Indirection, node_at, entry_at, Operation, Line, key_of, State, found, is_passable, Below, look, Trie}
use Rattle.proof_updates.specs.Beneath.machine_model.specs.declared.finding.KeyLine.TheVariants as key
use Rattle.proof_updates.specs.Beneath.proof_contents.specs.Steps.{IsTrie}
use Rattle.proof_updates.proofs.Routes.Known.{Route, IsAt, IsOf, LineRoute, route_later, route_down, current-append}
use Rattle.proof_updates.specs.Beneath.machine_model.specs.Edges.Key.{FoundEdge, KeyEdge, answers, asks_sibling, puts_absent, misses_absent, cleans, goes_down, renews, renews_none, finds, puts_beside}
use Rattle.proof_updates.specs.Beneath.machine_model.specs.Edges.Key.{finds_listed, looks_on, puts_listed}

module _ (trie : Trie) (ok : IsTrie trie) (g : ℕ) (state : State) (operation : Operation) (t ra mu : ℕ) (before : t < trie.last) where
  abbrev A : Access
  A = operation.access

  abbrev Q : ℕ
  Q = key_of operation.call

  -- after step t
  abbrev On : Line → Type 0
  On l = LineRoute trie A g Q (suc t) ra mu l

  module _ (p : List Ref) (main : Ref) (at : IsAt trie A g Q (suc t) mu p main) where
    there : Route trie A g Q (suc t) p
    there = route_later trie A g Q (suc mu) (suc t) p (omega (arith, at.past)) at.route

    found_on : (position v : ℕ) (next : Line) → FoundEdge state operation p main position v next → On next
    found_on position v next (answers answer e) = tt
    found_on position v next (asks_sibling takes b es e two) = at
    found_on position v next FoundEdge.strays = tt
    found_on position v next edge = there

    -- ---- line by line

    pub main_on : (next : Line) → KeyEdge state operation (key.Main p main) next → On next
    main_on next (puts_absent route m b es e none ins) = there
    main_on next (misses_absent route m b es e none out) = tt
    main_on next (cleans route m single e w below) = tt
    main_on next (KeyEdge.strays l) = tt
    main_on next edge = at

    -- at an entry: where it is an indirection, the main node leads to it
    pub entry_on : (position : ℕ) →
        ((h : ℕ) (w : Ref) → node_at state.heap (entry_at state.heap main position) ≡ Indirection h w → is_passable operation h ≡ true →
        (look trie.node (hash_of trie.kind) (length p - 1) Q (trie.node main) ≡ Below (entry_at state.heap main position)) × IsOf trie A g (entry_at state.heap main position)) →
        (next : Line) → KeyEdge state operation (key.Entry p main position) next → On next
    entry_on position leads next (goes_down route m q h w e pass) =
        let entry : Ref = entry_at state.heap main position in
        let led = leads h w e pass in (
          route_later trie A g Q (suc mu) (suc t) (p ++ entry ∷ []) (omega (arith, at.past))
              (route_down trie ok g Q mu (omega (arith, at.past)) A p main entry at.route at.given led.0 led.1),
          sym (current-append p entry),
        )
    entry_on position leads next (renews route m q h w e older some) = there
    entry_on position leads next (renews_none route m q h w e older none) = there
    entry_on position leads next (finds route m q k v n e same found) = found_on position v next found
    entry_on position leads next (puts_beside route m q k v e apart ins) = there
    entry_on position leads next edge = tt

    pub listed_on : (position : ℕ) (next : Line) → KeyEdge state operation (key.Listed p main position) next → On next
    listed_on position next (finds_listed route m q k v n e same found) = found_on position v next found
    listed_on position next (looks_on route m q k v e apart further) = at
    listed_on position next (puts_listed route m q k v e apart last room ins) = there
    listed_on position next edge = tt

    pub sibling_on : (position former : ℕ) (next : Line) → KeyEdge state operation (key.Sibling p main position former) next → On next
    sibling_on position former next (KeyEdge.strays l) = tt
    sibling_on position former next edge = there
