-- The numbers that have names are the handles' numbers, in ascending order.
use Rattle.std.specs.Prelude.{◌≡◌, ◌<◌, ℕ, suc, List, [], ◌∷◌, Option, Some, None, IsSome, map as map_list}
use Rattle.std.specs.Ordering.{nat_cmp}
use Rattle.std.specs.Cmp.{nat_cmp_is, nat_cmp_total}
use Rattle.std.specs.FinMap as map
use Rattle.std.specs.FinMap.{entries-insert, len-empty, len-entries, put}
use Rattle.std.proofs.Common.{Less, refl, sym, ap, arith, get_or, ◌∙◌}
use Rattle.std.proofs.lemmas.List.{nil_from_length}
use Rattle.ctrie_map.specs.Vocabulary.{HandleMap, HandleState}
use Rattle.ctrie_map.specs.declared.names.Name.{Name}
use Rattle.ctrie_map.specs.Names.{AreNamesOf, NameTable, handles_under, name_at, named_from, numbers_from, shown_by, with_shown}
use Rattle.ctrie_map.proofs.Named.{stands_so}

abbrev Pairs : Type 0
Pairs = List (ℕ × HandleState)

-- its first key is above
abbrev IsAbove : ℕ → Pairs → Type 0
IsAbove n [] = Unit {0}
IsAbove n (p ∷ es) = n < p.0

put_first : (n : ℕ) (s : HandleState) (es : Pairs) → IsAbove n es → put nat_cmp n s es ≡ (n, s) ∷ es
put_first n s [] above = refl
put_first n s (p ∷ es) above = let less : nat_cmp n p.0 ≡ Less = sym (nat_cmp_is n p.0 Less above) in rw less refl

module _ (world : HandleMap) where
  abbrev with_pair : ℕ → Option HandleState → Pairs → Pairs
  with_pair n None es = es
  with_pair n (Some s) es = (n, s) ∷ es

  abbrev pairs_from : ℕ → List (Option Name) → Pairs
  pairs_from n [] = []
  pairs_from n (name ∷ names) = with_pair n (shown_by world name) (pairs_from (suc n) names)

  above : (n m : ℕ) (names : List (Option Name)) → n < m → IsAbove n (pairs_from m names)
  above n m [] lt = tt
  above n m (name ∷ names) lt = by_shown (shown_by world name) (above n (suc m) names (omega (arith, lt)))
    where
      by_shown : (o : Option HandleState) → IsAbove n (pairs_from (suc m) names) → IsAbove n (with_pair m o (pairs_from (suc m) names))
      by_shown None rest = rest
      by_shown (Some s) rest = lt

  -- so these are the entries
  entries_are : (n : ℕ) (names : List (Option Name)) → map.entries (named_from world n names) ≡ pairs_from n names
  entries_are n [] = nil_from_length (map.entries (map.empty {R = nat_cmp})) (sym (len-entries (map.empty {X = HandleState} {R = nat_cmp})) ∙ len-empty nat_cmp HandleState)
  entries_are n (name ∷ names) = by_shown (shown_by world name) (entries_are (suc n) names)
    where
      by_shown : (o : Option HandleState) → map.entries (named_from world (suc n) names) ≡ pairs_from (suc n) names →
          map.entries (with_shown (named_from world (suc n) names) n o) ≡ with_pair n o (pairs_from (suc n) names)
      by_shown None is = is
      by_shown (Some s) is =
          entries-insert nat_cmp_total (named_from world (suc n) names) n s ∙ ap (put nat_cmp n s) is ∙ put_first n s (pairs_from (suc n) names) (above n (suc n) names (omega arith))

  -- with the numbers as keys
  numbered : (n : ℕ) (names : List (Option Name)) → ((k : ℕ) → IsSome (get_or names k None) → IsSome (shown_by world (get_or names k None))) →
      numbers_from n names ≡ map_list (λ p. p.0) (pairs_from n names)
  numbered n [] stand = refl
  numbered n (None ∷ names) stand = numbered (suc n) names (λ k some. stand (suc k) some)
  numbered n (Some name ∷ names) stand = by_shown (shown_by world (Some name)) (stand 0 refl) (numbered (suc n) names (λ k some. stand (suc k) some))
    where
      by_shown : (o : Option HandleState) → IsSome o → numbers_from (suc n) names ≡ map_list (λ p. p.0) (pairs_from (suc n) names) →
          n ∷ numbers_from (suc n) names ≡ map_list (λ p. p.0) (with_pair n o (pairs_from (suc n) names))
      by_shown None some rest = cc some
      by_shown (Some s) some rest = ap (λ ks. n ∷ ks) rest

  pub numbers_are : (names : NameTable) → AreNamesOf world names → numbers_from 0 names.named ≡ map.keys (handles_under names world)
  unfolding handles_under
  numbers_are names named =
      numbered 0 names.named (λ k some. stands_so world names named k (name_at names k) refl some) ∙ ap (λ es. map_list (λ p. p.0) es) (sym (entries_are 0 names.named))
