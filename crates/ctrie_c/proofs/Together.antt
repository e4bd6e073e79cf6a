-- What is said of a call of the map that sets several keys holds of the same call for C.
use Rattle.std.proofs.Common.{◌≡◌, ◌+◌, ℕ, List, map, length, inl, subst}
use Rattle.std.proofs.lemmas.List.{length-map}
use Rattle.std.specs.Prelude.{Result, Ok, Err, IfOk, IfErr}
use Rattle.shared_map.specs.Beneath.ctrie_map.specs.declared.errors.MapError.{MapError}
use Rattle.shared_map.specs.Beneath.ctrie_map.specs.Batches.{work_of_changes}
use Rattle.shared_map.specs.Beneath.ctrie_map.specs.Costs.{WorksUpTo, work_of_a_close}
use Rattle.shared_map.specs.Beneath.ctrie_map.specs.Filling.{PutsAll, RefusesPuts}
use Rattle.shared_map.specs.Beneath.ctrie_map.specs.Maps.{MapState}
use Rattle.ctrie_c.specs.Calls.{PutsThem}
use Rattle.ctrie_c.specs.Listing.{entry_of}
use Rattle.ctrie_c.specs.declared.listing.Pair.{Pair}

abbrev ByMap : ℕ → List (ℕ × ℕ) → Result (Unit {0}) MapError → MapState → MapState → Type 0
ByMap handle entries told old new =
    IfOk told (λ _. PutsAll old handle entries new) × IfErr told (RefusesPuts old handle entries new) × WorksUpTo (work_of_changes (length entries) + work_of_a_close) old new

-- by what it answers
by_answer : (handle : ℕ) (pairs : List Pair) (told : Result (Unit {0}) MapError) (old new : MapState) → ByMap handle (map entry_of pairs) told old new → PutsThem handle pairs told old new
by_answer handle pairs (Ok _) old new (done, _, work) = (done, tt, subst (λ (n : ℕ). WorksUpTo (work_of_changes n + work_of_a_close) old new) (length-map pairs entry_of) work)
by_answer handle pairs (Err error) old new (_, refused, work) = (tt, inl refused, subst (λ (n : ℕ). WorksUpTo (work_of_changes n + work_of_a_close) old new) (length-map pairs entry_of) work)

pub puts_them : (handle named : ℕ) (pairs : List Pair) (entries : List (ℕ × ℕ)) (told : Result (Unit {0}) MapError) (old new : MapState) → named ≡ handle → entries ≡ map entry_of pairs
    → IfOk told (λ _. PutsAll old named entries new) → IfErr told (RefusesPuts old named entries new) → WorksUpTo (work_of_changes (length entries) + work_of_a_close) old new
    → PutsThem handle pairs told old new
puts_them handle named pairs entries told old new names same done refused work =
    by_answer handle pairs told old new
    (subst (λ (h : ℕ). ByMap h (map entry_of pairs) told old new) names (subst (λ (e : List (ℕ × ℕ)). ByMap named e told old new) same (done, refused, work)))
