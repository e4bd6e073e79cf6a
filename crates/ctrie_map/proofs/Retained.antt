-- What it comes to that the pairs which a closure doesn't want are taken out.
use Rattle.std.specs.Prelude.{◌≡◌, ◌≢◌, ◌≤◌, ◌+◌, ℕ, nat_eq, Bool, false, List, [], ◌∷◌, length, None, Some, Result, Ok, Err, IfOk, IfErr}
use Rattle.std.specs.FinMap as map
use Rattle.std.proofs.Common.{refl, sym, ap, subst, inl, inr, ◌∙◌}
use Rattle.ctrie_map.specs.Vocabulary.{hash_of, Writable, naming, KeyMap, State}
use Rattle.ctrie_map.specs.declared.batches.Batch.TheVariants.{Removes}
use Rattle.ctrie_map.specs.declared.errors.MapError.{MapError}
use Rattle.ctrie_map.specs.declared.errors.MapError.TheVariants as error
use Rattle.ctrie_map.specs.declared.names.Name.{Name}
use Rattle.ctrie_map.specs.Batches.{CanCopy, ChangesAll, IsCrowdedAmong, RefusesBatch, RefusesName, batch_denial, changed_all, work_of_changes}
use Rattle.ctrie_map.specs.Cores.{TakesUpTo}
use Rattle.ctrie_map.specs.Costs.{work_of_a_close}
use Rattle.ctrie_map.specs.Drafts.{HasMap}
use Rattle.ctrie_map.specs.Maps.{Becomes, IsWhole, MapState, handles_of, map_with}
use Rattle.ctrie_map.specs.Names.{NameTable}
use Rattle.ctrie_map.specs.Reading.{RefusesReading, core_reading, read_of}
use Rattle.ctrie_map.specs.Retaining.{CanBeAsked, Divides, RefusesRetain, Retains, Sifts}
use Rattle.ctrie_map.proofs.Batched.{one_left, refused_by_name}
use Rattle.ctrie_map.proofs.ByName.{shown_with}
use Rattle.ctrie_map.proofs.Changing.{naming_same}
use Rattle.ctrie_map.proofs.Lookups.{same_told}
use Rattle.ctrie_map.proofs.Named.{state_of}
use Rattle.ctrie_map.proofs.Setting.{one_map}
use Rattle.ctrie_map.proofs.Sifted.{wanted_left}

-- one thing follows from another one, where it is done, and where it is refused
pub done_then : {P Q : Type 0} → (P → Q) → (told : Result (Unit {0}) MapError) → IfOk told (λ _. P) → IfOk told (λ _. Q)
done_then so (Ok done) p = so p
done_then so (Err why) p = tt

pub refused_then : {P Q : MapError → Type 0} → ((why : MapError) → P why → Q why) → (told : Result (Unit {0}) MapError) → IfErr told P → IfErr told Q
refused_then so (Ok done) p = tt
refused_then so (Err why) p = so why p

pub both_if : (P Q : MapError → Type 0) (told : Result (Unit {0}) MapError) → IfErr told P → IfErr told Q → IfErr told (λ why. P why × Q why)
both_if P Q (Ok done) p q = tt
both_if P Q (Err why) p q = (p, q)

pub some_unwanted : (pairs : List (ℕ × ℕ)) → nat_eq (length pairs) 0 ≡ false → pairs ≢ []
some_unwanted pairs e none = cc (sym e ∙ ap (λ xs. nat_eq (length xs) 0) none)

-- a key that is taken out is never crowded
pub never_crowded : (hash : ℕ → ℕ) (n : KeyMap) (pairs : List (ℕ × ℕ)) → IsCrowdedAmong Removes hash n pairs → ⊥
never_crowded hash n [] crowded = crowded
never_crowded hash n (pair ∷ pairs) (inl e) = absurd (cc e)
never_crowded hash n (pair ∷ pairs) (inr crowded) = never_crowded hash (map.remove n pair.0) pairs crowded

module _ {F : Type 0} (asks : F → ℕ → ℕ → Bool → F → Type 0) (f : F) (before : State) (names : NameTable) (whole : IsWhole (map_with before names)) (handle : ℕ) where
  abbrev now : MapState
  now = map_with before names

  by_refused : (why : MapError) → RefusesBatch Removes now handle [] now why → RefusesName names handle why → RefusesRetain asks f now handle now why
  by_refused error.NoHandle p name = p
  by_refused error.ReadOnly p name = p
  by_refused error.HandlesFull p name = p
  by_refused why p name = absurd name

  pub not_named : (why : MapError) → RefusesName names handle why → RefusesRetain asks f now handle now why
  not_named why name = by_refused why (refused_by_name Removes before names whole handle [] why name) name

  module _ (name : Name) (can : CanCopy names handle name) where
    abbrev m : KeyMap
    m = (whole.named.stands handle name can.0).0

    there : HasMap (handles_of now) handle m
    there = shown_with before names whole handle name can.0 m (whole.named.stands handle name can.0).1 ∙ ap (λ a. Some (state_of a m)) can.1

    allowed : batch_denial now handle ≡ None
    allowed = one_left Removes before names whole handle [] name can.0 can.1 can.2

    read : core_reading before name.core (λ n. map.entries n) ≡ Ok (map.entries m)
    read = ap (read_of (λ n. map.entries n)) (whole.named.stands handle name can.0).1

    -- only memory can be wanting for the list of the pairs
    pub no_list : (why : MapError) → RefusesReading (core_reading before name.core (λ n. map.entries n)) why → RefusesRetain asks f now handle now why
    no_list why (inl e) = cc (sym read ∙ e)
    no_list why (inr p) = subst (RefusesRetain asks f now handle now) (sym p.0) (allowed, refl)

    -- the closure may be asked of them
    pub may_be_asked : (Allows : F → ℕ → ℕ → Type 0) → ((m : KeyMap) → HasMap (handles_of now) handle m → CanBeAsked Allows asks f (map.entries m)) → (pairs : List (ℕ × ℕ)) →
        core_reading before name.core (λ n. map.entries n) ≡ Ok pairs → CanBeAsked Allows asks f pairs
    may_be_asked Allows can pairs are =
        subst (CanBeAsked Allows asks f) (same_told (core_reading before name.core (λ n. map.entries n)) (map.entries m) pairs read are) (can m there)

    module _ (pairs wanted unwanted : List (ℕ × ℕ)) (are : core_reading before name.core (λ n. map.entries n) ≡ Ok pairs) (sifts : Sifts asks f pairs wanted unwanted) where
      sifted : Sifts asks f (map.entries m) wanted unwanted
      sifted = subst (λ ps. Sifts asks f ps wanted unwanted) (same_told (core_reading before name.core (λ n. map.entries n)) pairs (map.entries m) are read) sifts

      abbrev left : KeyMap
      left = changed_all Removes m unwanted

      divides : Divides asks f now handle left unwanted
      divides = (m, there, subst (λ ps. Sifts asks f (map.entries m) ps unwanted) (sym (wanted_left asks f m wanted unwanted sifted)) sifted)

      pub all_wanted : unwanted ≡ [] → Retains asks f now handle now
      all_wanted none = (
        left,
        unwanted,
        divides,
        (λ e. refl),
        (λ some. absurd (some none)),
        (refl, refl, sym (ap (λ us. naming (handles_of now) handle Writable (changed_all Removes m us)) none ∙ naming_same (handles_of now) handle m there)),
      )

      module _ (some : unwanted ≢ []) (after : MapState) (takes : TakesUpTo (work_of_changes (length unwanted) + work_of_a_close) before after.core) where
        pub retains : ChangesAll Removes now handle unwanted after → Retains asks f now handle after
        retains (life, (n, has, room, becomes)) = (
          left,
          unwanted,
          divides,
          (λ none. absurd (some none)),
          (λ other. (life, takes)),
          subst (λ k. Becomes now (naming (handles_of now) handle Writable (changed_all Removes k unwanted)) after) (one_map (map.get (handles_of now) handle) n m has there) becomes,
        )

        pub refuses : (why : MapError) → RefusesBatch Removes now handle unwanted after why → (why ≡ error.Full → 2 ≤ map.len (handles_of now)) → RefusesRetain asks f now handle after why
        refuses error.Full p others = (p.0, others refl, (left, unwanted, divides, some, p.1, p.2, takes), p.3)
        refuses error.WornOut p others = (p.0, (left, unwanted, divides, some, p.1), p.2)
        refuses error.Crowded p others = absurd (never_crowded (hash_of before.limits.hash) p.2.0 unwanted p.2.2)
        refuses error.Memory p others = (allowed, p.1)
        refuses why p others = p
