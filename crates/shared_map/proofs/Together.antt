-- What is listed of each shard is together the whole map.
use Rattle.std.proofs.Common.{◌≡◌, ℕ, zero, suc, ◌+◌, ◌<◌, ◌≤◌, ◌==◌, ◌&&◌, Bool, true, false, cond, nat_le, [], ◌∷◌, count_by}
use Rattle.std.proofs.Common.{refl, sym, ap, ap₂, ◌∙◌, arith}
use Rattle.std.specs.FinMap as maps
use Rattle.std.specs.List.{filter, flat_map, range_with_len}
use Rattle.std.proofs.lemmas.Bool.Decides.{nat_tests}
use Rattle.std.proofs.lemmas.List.Sums.{sum_by-append}
use Rattle.ctrie_base.proofs.Sorting.{Alike, count_more, sorted_alike}
use Rattle.shared_map.specs.Vocabulary.{hash_of, comes_before}
use Rattle.shared_map.specs.Asks.{place_of}
use Rattle.shared_map.specs.Beneath.machine_core.proofs.Selected.{by_alike}
use Rattle.shared_map.specs.Beneath.machine_core.proofs.Sorting.{pairs_order}
use Rattle.shared_map.specs.Beneath.proof_contents.proofs.Pairs.Lists.{Pairs}
use Rattle.shared_map.specs.PartsLaws.{ShardsListTheMap}
use Rattle.shared_map.proofs.Finding.{entries_by_key}
use Rattle.shared_map.proofs.OnePlace.{shard_within}

-- how many pass two tests, one after the other
counted_both : (test t : ℕ × ℕ → Bool) (ps : Pairs) → count_by t (filter test ps) ≡ count_by (λ p. test p && t p) ps
counted_both test t [] = refl
counted_both test t (p ∷ ps) = by_test (test p) (counted_both test t ps) ∙ sym (count_more (λ q. test q && t q) p ps)
  where
    by_test : (b : Bool) → count_by t (filter test ps) ≡ count_by (λ q. test q && t q) ps →
        count_by t (cond b (p ∷ filter test ps) (filter test ps)) ≡ cond (b && t p) 1 0 + count_by (λ q. test q && t q) ps
    by_test true rest = count_more t p (filter test ps) ∙ ap (λ n. cond (t p) 1 0 + n) rest
    by_test false rest = omega (arith, rest)

-- ---- counted by their places

module _ (place : ℕ → ℕ) (t : ℕ × ℕ → Bool) where
  abbrev from_place : ℕ → Pairs → ℕ
  from_place a ps = count_by (λ p. nat_le a (place p.0) && t p) ps

  abbrev at_place : ℕ → Pairs → ℕ
  at_place a ps = count_by (λ p. (place p.0 == a) && t p) ps

  at_or_above : (a x : ℕ) (b : Bool) → cond (nat_le a x && b) 1 0 ≡ cond ((x == a) && b) 1 0 + cond (nat_le (a + 1) x && b) 1 0
  at_or_above a x true = grind (arith, nat_tests)
  at_or_above a x false = grind (arith, nat_tests)

  one_place_more : (a : ℕ) (ps : Pairs) → from_place a ps ≡ at_place a ps + from_place (a + 1) ps
  one_place_more a [] = refl
  one_place_more a (p ∷ ps) =
      omega (
        arith,
        count_more (λ q. nat_le a (place q.0) && t q) p ps,
        count_more (λ q. (place q.0 == a) && t q) p ps,
        count_more (λ q. nat_le (a + 1) (place q.0) && t q) p ps,
        at_or_above a (place p.0) (t p),
        one_place_more a ps,
      )

  all_places : (ps : Pairs) → from_place 0 ps ≡ count_by t ps
  all_places [] = refl
  all_places (p ∷ ps) =
      count_more (λ q. nat_le 0 (place q.0) && t q) p ps ∙ ap₂ (λ b n. cond (b && t p) 1 0 + n) (least (place p.0)) (all_places ps) ∙ sym (count_more t p ps)
    where
      least : (x : ℕ) → nat_le 0 x ≡ true
      least x = grind (arith, nat_tests)

  no_place : (a : ℕ) → ((k : ℕ) → place k < a) → (ps : Pairs) → from_place a ps ≡ 0
  no_place a below [] = refl
  no_place a below (p ∷ ps) =
      count_more (λ q. nat_le a (place q.0) && t q) p ps ∙ ap₂ (λ b n. cond (b && t p) 1 0 + n) (less (place p.0) (below p.0)) (no_place a below ps)
    where
      less : (x : ℕ) → x < a → nat_le a x ≡ false
      less x lt = grind (arith, nat_tests)

  -- lists of as many at each place
  counted_listed : (listed : ℕ → Pairs) (ps : Pairs) (a n : ℕ) → ((i : ℕ) → a ≤ i → i < a + n → count_by t (listed i) ≡ at_place i ps) →
      count_by t (flat_map listed (range_with_len a n)) + from_place (a + n) ps ≡ from_place a ps
  counted_listed listed ps a zero each = let same : a + zero ≡ a = omega arith in ap (λ i. 0 + from_place i ps) same ∙ (omega arith)
  counted_listed listed ps a (suc n) each =
      let on : a + suc n ≡ a + 1 + n = omega arith in
      let more = counted_listed listed ps (a + 1) n (λ i le lt. each i (omega (arith, le)) (omega (arith, lt))) in
      omega (
        arith,
        sum_by-append (λ p. cond (t p) 1 0) (listed a) (flat_map listed (range_with_len (a + 1) n)),
        each a (omega arith) (omega arith),
        ap (λ i. from_place i ps) on,
        more,
        one_place_more a ps,
      )

pub shards_list_the_map : ShardsListTheMap
shards_list_the_map hash shards m listed some each =
    by_alike (flat_map listed (range_with_len 0 shards)) (maps.entries m) alike ∙ entries_by_key m
  where
    place : ℕ → ℕ
    place = place_of hash shards

    within : (k : ℕ) → place_of hash shards k < shards
    within k = shard_within shards (hash_of hash k) (omega (arith, some))

    counted : (t : ℕ × ℕ → Bool) (i : ℕ) → 0 ≤ i → i < 0 + shards → count_by t (listed i) ≡ at_place (place_of hash shards) t i (maps.entries m)
    counted t i le lt =
        sym (sorted_alike comes_before pairs_order (listed i) t) ∙ ap (count_by t) (each i (omega (arith, lt)))
        ∙ counted_both (λ p. place_of hash shards p.0 == i) t (maps.entries m)

    alike : Alike (flat_map listed (range_with_len 0 shards)) (maps.entries m)
    alike t =
        let none : 0 + shards ≡ shards = omega arith in
        omega (
          arith,
          counted_listed (place_of hash shards) t listed (maps.entries m) 0 shards (counted t),
          ap (λ n. from_place (place_of hash shards) t n (maps.entries m)) none,
          no_place (place_of hash shards) t shards within (maps.entries m),
          all_places (place_of hash shards) t (maps.entries m),
        )
