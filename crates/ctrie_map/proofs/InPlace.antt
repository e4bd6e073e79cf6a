-- Keys that are taken out of a map itself, where no other handle is open.
use Rattle.std.specs.Prelude.{◌≡◌, ◌≤◌, ℕ, is_some, List, [], ◌∷◌, Some, Result, Ok, Err, IfOk, IfErr}
use Rattle.std.specs.FinMap as map
use Rattle.std.proofs.Common.{refl, sym, ap, subst, inl, inr, arith, ◌∙◌}
use Rattle.ctrie_map.specs.Vocabulary.{hash_of, Writable, naming, KeyMap, State}
use Rattle.ctrie_map.specs.Beneath.map_worlds.specs.Worlds.{world_of}
use Rattle.ctrie_map.specs.declared.batches.Batch.TheVariants.{Removes}
use Rattle.ctrie_map.specs.declared.errors.MapError.{MapError}
use Rattle.ctrie_map.specs.declared.errors.MapError.TheVariants as error
use Rattle.ctrie_map.specs.declared.names.Name.{Name}
use Rattle.ctrie_map.specs.Batches.{CanCopy, ChangesAll, ChangesEach, FindsNoneAmong, HasLifeFor, Stops, changed_all}
use Rattle.ctrie_map.specs.Drafts.{HasMap}
use Rattle.ctrie_map.specs.Maps.{IsWhole, MapState, handles_of, map_with}
use Rattle.ctrie_map.specs.Names.{AreNamesOf, NameTable, handles_under, how_many}
use Rattle.ctrie_map.proofs.ByName.{shown_with}
use Rattle.ctrie_map.proofs.Leaving.{some_open}
use Rattle.ctrie_map.proofs.Named.{len_there, state_of}
use Rattle.ctrie_map.proofs.Renaming.{change_named, change_shows}
use Rattle.ctrie_map.proofs.Retained.{never_crowded}

-- a removal finds a slot there, and leaves as many handles open
finds_some : (handle : ℕ) (pairs : List (ℕ × ℕ)) (now : State) → map.len (world_of now) ≡ 1 → FindsNoneAmong Removes handle pairs now → ⊥
finds_some handle [] now one lacks = lacks
finds_some handle (pair ∷ pairs) now one (inl lacks) = let two = lacks.0 in omega (arith, two, one)
finds_some handle (pair ∷ pairs) now one (inr (next, (m, has, room, turns, leads), lacks)) =
    let same = len_there (world_of now) handle (state_of Writable (map.remove m pair.0)) (ap is_some has) in
    finds_some handle pairs next (ap (λ w. map.len w) turns.1 ∙ same ∙ one) lacks

-- so none of them is refused
never_stops : (handle : ℕ) (m : KeyMap) (pairs : List (ℕ × ℕ)) (before after : State) → map.len (world_of before) ≡ 1 → (why : MapError) → Stops Removes handle m pairs before after why → ⊥
never_stops handle m pairs before after one error.Full p = finds_some handle pairs before one p.1
never_stops handle m pairs before after one error.Crowded p = never_crowded (hash_of before.limits.hash) m pairs p.0
never_stops handle m pairs before after one why p = p

module _ (before : State) (names : NameTable) (whole : IsWhole (map_with before names)) (handle : ℕ) (pairs : List (ℕ × ℕ)) (name : Name) (can : CanCopy names handle name)
    (few : how_many names ≤ 1) where
  abbrev now : MapState
  now = map_with before names

  abbrev m : KeyMap
  m = (whole.named.stands handle name can.0).0

  one_open : map.len (world_of before) ≡ 1
  one_open =
      let many = whole.named.many in
      let some = some_open (world_of before) name.core (ap is_some (whole.named.stands handle name can.0).1) in omega (arith, few, many, some)

  pub never_refused : (after : State) (why : MapError) → Stops Removes name.core m pairs before after why → ⊥
  never_refused after why p = never_stops name.core m pairs before after one_open why p

  writes : map.get (handles_of now) handle ≡ Some (state_of Writable m)
  writes = shown_with before names whole handle name can.0 m (whole.named.stands handle name can.0).1 ∙ ap (λ a. Some (state_of a m)) can.1

  module _ (after : State) (changes : ChangesEach Removes name.core m pairs before after) where
    pub still_named : AreNamesOf (world_of after) names
    still_named = subst (λ w. AreNamesOf w names) (sym changes.1.1) (change_named (world_of before) names whole.named handle name can.0 (changed_all Removes m pairs))

    pub removes_all : HasLifeFor now pairs → ChangesAll Removes now handle pairs (map_with after names)
    removes_all life = (
      life,
      (
        m,
        writes,
        changes.0,
        (
          changes.1.0,
          refl,
          ap (handles_under names) changes.1.1 ∙ change_shows (world_of before) names whole.named handle name can.0 (changed_all Removes m pairs)
              ∙ ap (λ a. naming (handles_of now) handle a (changed_all Removes m pairs)) can.1,
        ),
      ),
    )

  -- what it comes to
  module _ (after : State) (result : Result (Unit {0}) MapError)
      (changes : IfOk result (λ _. (n : KeyMap) → HasMap (world_of before) name.core n → ChangesEach Removes name.core n pairs before after))
      (stops : IfErr result (λ why. (n : KeyMap) → HasMap (world_of before) name.core n → Stops Removes name.core n pairs before after why)) where
    never_err : (why : MapError) → result ≡ Err why → ⊥
    never_err why is =
        never_refused after why (subst (λ r. IfErr r (λ why. (n : KeyMap) → HasMap (world_of before) name.core n → Stops Removes name.core n pairs before after why)) is stops m
        (whole.named.stands handle name can.0).1)

    done : (r : Result (Unit {0}) MapError) → result ≡ r → ChangesEach Removes name.core m pairs before after
    done (Ok d) is =
        subst (λ r. IfOk r (λ _. (n : KeyMap) → HasMap (world_of before) name.core n → ChangesEach Removes name.core n pairs before after)) is changes m
        (whole.named.stands handle name can.0).1
    done (Err why) is = absurd (never_err why is)

    pub named_if : AreNamesOf (world_of after) names
    named_if = still_named after (done result refl)

    pub done_if : HasLifeFor now pairs → IfOk result (λ _. ChangesAll Removes now handle pairs (map_with after names))
    done_if life = by_result result
      where
        by_result : (r : Result (Unit {0}) MapError) → IfOk r (λ _. ChangesAll Removes now handle pairs (map_with after names))
        by_result (Ok d) = removes_all after (done result refl) life
        by_result (Err why) = tt

    pub none_if : (Q : MapError → Type 0) → IfErr result Q
    none_if Q = by_result result refl
      where
        by_result : (r : Result (Unit {0}) MapError) → result ≡ r → IfErr r Q
        by_result (Ok d) is = tt
        by_result (Err why) is = absurd (never_err why is)

-- where two handles are open, this is so whatever is told
pub others_if : (told : Result (Unit {0}) MapError) (Full : MapError → Type 0) (many : ℕ) → 2 ≤ many → IfErr told (λ why. Full why → 2 ≤ many)
others_if (Ok done) Full many two = tt
others_if (Err why) Full many two = λ full. two
