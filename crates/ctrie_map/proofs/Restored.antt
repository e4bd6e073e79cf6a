-- A restore, by its names.
use Rattle.std.specs.Prelude.{◌≡◌, ◌≢◌, ◌<◌, ◌≤◌, ℕ, Bool, true, false, not, ◌&&◌, nat_eq, nat_le, if◌then◌else◌, Option, Some, None, Result, Ok, Err, IfOk, IfErr}
use Rattle.std.specs.FinMap as map
use Rattle.std.proofs.Common.{refl, sym, ap, arith, ne_eqb, ◌∙◌}
use Rattle.ctrie_map.specs.Vocabulary.{Access, Writable, ReadOnly, KeyMap, State, handle_limit}
use Rattle.ctrie_map.specs.Beneath.map_worlds.specs.Worlds.{world_of}
use Rattle.ctrie_map.specs.declared.errors.MapError.{MapError}
use Rattle.ctrie_map.specs.declared.errors.MapError.TheVariants as error
use Rattle.ctrie_map.specs.declared.names.Name.{Name}
use Rattle.ctrie_map.specs.Denials.{is_frozen}
use Rattle.ctrie_map.specs.Drafts.{RefusesDraft, TakesMap}
use Rattle.ctrie_map.specs.Maps.{IsWhole, MapState, handles_of, map_with}
use Rattle.ctrie_map.specs.Names.{NameTable, handles_under, how_many, name_at, shown_by}
use Rattle.ctrie_map.specs.Restoring.{HasLifeIfTried, RefusesRestore, Restores, is_worn_out_to_restore, restore_denial, restore_denial_by}
use Rattle.ctrie_map.proofs.ByName.{shown_with}
use Rattle.ctrie_map.proofs.Changing.{naming_same}
use Rattle.ctrie_map.proofs.Named.{as_many, shows, state_of}

pub not_frozen : (access : Access) → (access ≡ ReadOnly → ⊥) → access ≡ Writable
not_frozen Writable other = refl
not_frozen ReadOnly other = absurd (other refl)

module _ (before : State) (names : NameTable) (whole : IsWhole (map_with before names)) (handle copy : ℕ) where
  abbrev now : MapState
  now = map_with before names

  abbrev full : Bool
  full = not (nat_eq handle copy) && nat_le handle_limit (map.len (handles_of now))

  closed : (h : ℕ) → name_at names h ≡ None → map.get (handles_of now) h ≡ None
  closed h none = shows (world_of before) names h ∙ ap (shown_by (world_of before)) none

  pub no_handle : name_at names handle ≡ None → restore_denial now handle copy ≡ Some error.NoHandle
  no_handle none = ap (λ o. restore_denial_by o (map.get (handles_of now) copy) full) (closed handle none)

  module _ (name : Name) (at : name_at names handle ≡ Some name) where
    abbrev m : KeyMap
    m = (whole.named.stands handle name at).0

    shown : map.get (handles_of now) handle ≡ Some (state_of name.access m)
    shown = shown_with before names whole handle name at m (whole.named.stands handle name at).1

    pub no_copy : name_at names copy ≡ None → restore_denial now handle copy ≡ Some error.NoHandle
    no_copy none = ap (λ o. restore_denial_by o (map.get (handles_of now) copy) full) shown ∙ ap (λ o. restore_denial_by (Some (state_of name.access m)) o full) (closed copy none)

    module _ (source : Name) (from : name_at names copy ≡ Some source) where
      abbrev n : KeyMap
      n = (whole.named.stands copy source from).0

      copied : map.get (handles_of now) copy ≡ Some (state_of source.access n)
      copied = shown_with before names whole copy source from n (whole.named.stands copy source from).1

      abbrev denial_at : Access → Bool → Option MapError
      denial_at access b = if is_frozen access then Some error.ReadOnly else (if b then Some error.HandlesFull else None)

      denial_so : restore_denial now handle copy ≡ denial_at name.access full
      denial_so = ap (λ o. restore_denial_by o (map.get (handles_of now) copy) full) shown ∙ ap (λ o. restore_denial_by (Some (state_of name.access m)) o full) copied

      pub read_only : name.access ≡ ReadOnly → restore_denial now handle copy ≡ Some error.ReadOnly
      read_only e = denial_so ∙ ap (λ a. denial_at a full) e

      module _ (writable : name.access ≡ Writable) where
        -- what it has already
        pub itself : handle ≡ copy → Restores now handle copy now
        itself same =
            let writes = shown ∙ ap (λ a. Some (state_of a m)) writable in
            (state_of name.access m, (m, writes), ap (map.get (handles_of now)) (sym same) ∙ shown, (refl, refl, sym (naming_same (handles_of now) handle m writes)))

        module _ (apart : handle ≢ copy) where
          full_so : full ≡ nat_le handle_limit (how_many names)
          full_so =
              ap (λ b. not b && nat_le handle_limit (map.len (handles_of now))) (ne_eqb handle copy apart)
              ∙ ap (nat_le handle_limit) (as_many (world_of before) names whole.named ∙ sym whole.named.many)

          pub all_open : handle_limit ≤ how_many names → restore_denial now handle copy ≡ Some error.HandlesFull
          all_open many =
              let b : nat_le handle_limit (how_many names) ≡ true = grind (arith, many) in
              denial_so ∙ ap (λ a. denial_at a full) writable ∙ ap (denial_at Writable) (full_so ∙ b)

          pub allowed : how_many names < handle_limit → restore_denial now handle copy ≡ None
          allowed few =
              let b : nat_le handle_limit (how_many names) ≡ false = grind (arith, few) in
              denial_so ∙ ap (λ a. denial_at a full) writable ∙ ap (denial_at Writable) (full_so ∙ b)

          -- the map that was taken is the copy's
          restores : (after : MapState) → TakesMap now handle source.core after → Restores now handle copy after
          restores after (taken, has, becomes) = (
            state_of source.access taken,
            (m, shown ∙ ap (λ a. Some (state_of a m)) writable),
            shown_with before names whole copy source from taken has,
            becomes,
          )

          refuses : (few : how_many names < handle_limit) (after : State) (new : NameTable) (why : MapError) → RefusesDraft source.core before after why → new ≡ names →
              RefusesRestore now handle copy (map_with after new) why
          refuses few after new why p same = rw (p.0, same) (
            allowed few,
            p.1,
            (p.2.0, refl, ap (handles_under names) p.2.1),
          )

          -- more steps are left than a copy may take
          pub life_if : is_worn_out_to_restore now ≡ false → (result : Result (Unit {0}) MapError) → HasLifeIfTried result now handle copy
          life_if life (Ok done) = λ other. life
          life_if life (Err error.Full) = (apart, life)
          life_if life (Err why) = tt

          pub restored_if : (result : Result (Unit {0}) MapError) (after : State) (new : NameTable) → IfOk result (λ _. TakesMap now handle source.core (map_with after new)) →
              IfOk result (λ _. Restores now handle copy (map_with after new))
          restored_if (Ok done) after new takes = restores (map_with after new) takes
          restored_if (Err why) after new takes = tt

          pub refused_if : (few : how_many names < handle_limit) (result : Result (Unit {0}) MapError) (after : State) (new : NameTable) →
              IfErr result (λ why. RefusesDraft source.core before after why × (new ≡ names)) → IfErr result (RefusesRestore now handle copy (map_with after new))
          refused_if few (Ok done) after new p = tt
          refused_if few (Err why) after new p = refuses few after new why p.0 p.1
