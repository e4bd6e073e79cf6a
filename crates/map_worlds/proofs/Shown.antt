-- What the world of a state has, and that it is the only one that shows the state's contents.
use Rattle.std.proofs.Common.{◌≡◌, ◌≢◌, ℕ, zero, suc, ◌+◌, ◌<◌, cond, List, [], ◌∷◌, Option, Some, None, option_map, get_or, nat_cmp, refl, sym, ap, ◌∙◌, subst, arith, eq-eqb, ne_eqb}
use Rattle.std.specs.Cmp.{nat_cmp_total, unsigned_tied}
use Rattle.std.specs.FinMap as map
use Rattle.std.specs.FinMap.{find, get, get-entries, get-from_entries, same_map, nat_cmp-IsAntisymmetric}
use Rattle.map_worlds.specs.Beneath.history.specs.Worlds.{HandleState, KeyMap}
use Rattle.map_worlds.specs.Beneath.machine_model.specs.declared.roots.Root.{Root}
use Rattle.map_worlds.specs.Beneath.machine_model.specs.Contents.{content_at}
use Rattle.map_worlds.specs.Beneath.machine_model.specs.Machine.{run}
use Rattle.map_worlds.specs.Beneath.machine_model.specs.States.{State, root_at}
use Rattle.map_worlds.specs.Beneath.proof_order.specs.Laws.Orders.{Names, ShowsContents}
use Rattle.proof_linearizable.proofs.Legal.{every_order_is_legal}
use Rattle.map_worlds.specs.Worlds.{named_at, named_from, world_of}
use Rattle.map_worlds.specs.Laws.{ShownIsOne, ShowsRoots, StatesShow}

-- ---- what is found

abbrev Named : Type 0
Named = List (ℕ × HandleState)

found-first : (q : ℕ) (v : HandleState) (es : Named) → find nat_cmp q ((q, v) ∷ es) ≡ Some v
found-first q v es = ap (λ b. cond b (Some v) (find nat_cmp q es)) (unsigned_tied q q ∙ eq-eqb q q refl)

found-later : (q k : ℕ) (v : HandleState) (es : Named) → q ≢ k → find nat_cmp q ((k, v) ∷ es) ≡ find nat_cmp q es
found-later q k v es apart = ap (λ b. cond b (Some v) (find nat_cmp q es)) (unsigned_tied q k ∙ ne_eqb q k apart)

-- handles are numbered from n on
pub none_below : (state : State) (roots : List (Option Root)) (n q : ℕ) → q < n → find nat_cmp q (named_from state n roots) ≡ None
none_below state [] n q lt = refl
none_below state (None ∷ roots) n q lt = none_below state roots (n + 1) q (omega (arith, lt))
none_below state (Some root ∷ roots) n q lt =
    found-later q n (named_at state n root) (named_from state (n + 1) roots) (λ e. omega (arith, lt, e)) ∙ none_below state roots (n + 1) q (omega (arith, lt))

found_at : (state : State) (roots : List (Option Root)) (n k : ℕ) → find nat_cmp (n + k) (named_from state n roots) ≡ option_map (named_at state (n + k)) (get_or roots k None)
found_at state [] n k = refl
found_at state (None ∷ roots) n zero = none_below state roots (n + 1) (n + 0) (omega arith)
found_at state (None ∷ roots) n (suc k) = subst (Found roots k) (same n k) (found_at state roots (n + 1) k)
  where
    same : (n k : ℕ) → (n + 1) + k ≡ n + suc k
    same n k = omega arith

    Found : List (Option Root) → ℕ → ℕ → Type 0
    Found roots k q = find nat_cmp q (named_from state (n + 1) roots) ≡ option_map (named_at state q) (get_or roots k None)
found_at state (Some root ∷ roots) n zero =
    let none : n + 0 ≡ n = omega arith in
    subst (λ q. find nat_cmp q (named_from state n (Some root ∷ roots)) ≡ Some (named_at state q root)) (sym none) (found-first n (named_at state n root) (named_from state (n + 1) roots))
found_at state (Some root ∷ roots) n (suc k) =
    found-later (n + suc k) n (named_at state n root) (named_from state (n + 1) roots) (λ e. omega (arith, e)) ∙ subst (Found roots k) (same n k) (found_at state roots (n + 1) k)
  where
    same : (n k : ℕ) → (n + 1) + k ≡ n + suc k
    same n k = omega arith

    Found : List (Option Root) → ℕ → ℕ → Type 0
    Found roots k q = find nat_cmp q (named_from state (n + 1) roots) ≡ option_map (named_at state q) (get_or roots k None)

pub shows_roots : ShowsRoots
shows_roots state handle =
    let none : 0 + handle ≡ handle = omega arith in
    get-from_entries nat_cmp_total (named_from state 0 state.roots) handle
    ∙ subst (λ q. find nat_cmp q (named_from state 0 state.roots) ≡ option_map (named_at state q) (get_or state.roots handle None)) none (found_at state state.roots 0 handle)

-- ---- one world

-- a map of these entries is the one that is made of them
of_entries : (m : KeyMap) (pairs : List (ℕ × ℕ)) → map.entries m ≡ pairs → m ≡ map.from_entries pairs
of_entries m pairs e =
    same_map nat_cmp_total nat_cmp-IsAntisymmetric m (map.from_entries pairs)
    (λ q. get-entries m q ∙ ap (find nat_cmp q) e ∙ sym (get-from_entries nat_cmp_total pairs q))

named_so : (state : State) (handle : ℕ) (o : Option Root) (shown : Option HandleState) → Names o (content_at state handle) shown → shown ≡ option_map (named_at state handle) o
named_so state handle None shown e = e
named_so state handle (Some root) shown (m, is, entries) =
    is ∙ ap (λ (pairs : KeyMap). Some (record { access = root.access; pairs = pairs })) (of_entries m (content_at state handle) entries)

pub shown_is_one : ShownIsOne
shown_is_one world state shows =
    same_map nat_cmp_total nat_cmp-IsAntisymmetric world (world_of state)
    (λ handle. named_so state handle (root_at state handle) (get world handle) (shows handle) ∙ sym (shows_roots state handle))

pub states_show : StatesShow
states_show limits steps ok fit =
    let (world, explains, shows) = every_order_is_legal limits steps ok fit in
    subst (λ w. ShowsContents w (run limits steps)) (shown_is_one world (run limits steps) shows) shows
