-- Where a number is free.
use Rattle.std.proofs.Common.{◌≡◌, ◌≢◌, Err, ℕ, zero, suc, ◌+◌, ◌<◌, List, Result}
use Rattle.std.proofs.Common.{[], ◌∷◌, length, Option, Some, None, is_some, cond, get_or, refl, sym, ap, subst, arith, ◌∙◌}
use Rattle.std.specs.FinMap as map
use Rattle.std.specs.List.{count_by}
use Rattle.std.proofs.lemmas.Bool.{true≢false}
use Rattle.std.proofs.lemmas.List.Sums.{count_by-le-length, sum_by-cons}
use Rattle.ctrie_map.specs.Vocabulary.{Reply, HandleMap, handle_limit}
use Rattle.ctrie_map.specs.declared.errors.MapError.{MapError}
use Rattle.ctrie_map.specs.declared.errors.MapError.TheVariants.{HandlesFull, WornOut}
use Rattle.ctrie_map.specs.declared.names.Name.{Name}
use Rattle.ctrie_map.specs.Names.{AreNamesOf, IsNext, IsNextFree, NameTable, handles_under, name_at, shown_by}
use Rattle.ctrie_map.proofs.Named.{shows, stands_so}

abbrev refused : MapError → Result Reply MapError
refused why = Err why

-- it has no name
pub unnamed : (world : HandleMap) (names : NameTable) → AreNamesOf world names → (q : ℕ) → map.get (handles_under names world) q ≡ None → name_at names q ≡ None
unnamed world names named q none = by_name (name_at names q) refl
  where
    by_name : (o : Option Name) → name_at names q ≡ o → o ≡ None
    by_name None is = refl
    by_name (Some name) is =
        absurd (true≢false (sym (stands_so world names named q (Some name) is refl) ∙ ap is_some (sym (ap (shown_by world) is) ∙ sym (shows world names q) ∙ none)))

-- so the first number that has none is the first that isn't open
pub is_next : (world : HandleMap) (names : NameTable) → AreNamesOf world names → (number : ℕ) → IsNextFree names number → IsNext names.last (handles_under names world) number
is_next world names named number next = record {
  within = next.within;
  free = shows world names number ∙ ap (shown_by world) next.free;
  others = λ q low passed. ap is_some (shows world names q) ∙ stands_so world names named q (name_at names q) refl (next.others q low passed);
}

-- so not all have one
fewer : (names : List (Option Name)) (q : ℕ) → q < length names → get_or names q None ≡ None → count_by is_some names < length names
fewer [] q lt none = absurd (omega (arith, lt))
fewer (o ∷ names) zero lt none =
    let first : count_by is_some (o ∷ names) ≡ count_by is_some names =
    sum_by-cons (λ o. cond (is_some o) 1 0) o names ∙ ap (λ x. cond (is_some x) 1 0 + count_by is_some names) none ∙ omega arith in
    omega (arith, first, count_by-le-length is_some names)
fewer (o ∷ names) (suc q) lt none = by_first o (fewer names q (omega (arith, lt)) none) (sum_by-cons (λ o. cond (is_some o) 1 0) o names)
  where
    by_first : (o : Option Name) → count_by is_some names < length names → count_by is_some (o ∷ names) ≡ cond (is_some o) 1 0 + count_by is_some names →
        count_by is_some (o ∷ names) < suc (length names)
    by_first None lt is = omega (arith, lt, is)
    by_first (Some name) lt is = omega (arith, lt, is)

pub not_full : (world : HandleMap) (names : NameTable) → AreNamesOf world names → (q : ℕ) → q < handle_limit → name_at names q ≡ None → map.len world < handle_limit
not_full world names named q low none =
    let few = fewer names.named q (omega (arith, low, named.size)) none in omega (arith, few, named.many, named.size)

-- a copy under it that is refused because the map is worn out isn't so because all are open
pub refused_under : (why : MapError) → why ≡ WornOut → refused why ≢ Err HandlesFull
refused_under why is = subst (λ w. refused w ≢ Err HandlesFull) (sym is) (λ e. cc e)
