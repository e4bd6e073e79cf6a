-- Scans, and parts of the entries, list a map; and a frozen handle's, wherever in a log they are.
use Rattle.std.proofs.Common.{◌≡◌, inl, inr, ℕ, ◌+◌, ◌%◌, ◌==◌, T, [], ◌++◌, take, Option, Some, None, Ok, Err}
use Rattle.std.proofs.Common.{refl, sym, ap, subst, ◌∙◌}
use Rattle.std.specs.FinMap as maps
use Rattle.std.specs.FinMap.Entries.{is_sorted, is_sorted-where_key}
use Rattle.std.specs.Ordering.{nat_cmp}
use Rattle.std.proofs.Math.Nat.{mod-eq_of_lt}
use Rattle.ctrie_base.proofs.Sorting.{sorted_alike}
use Rattle.shared_map.specs.Vocabulary.{HashKind, sorted_by, Access, ReadOnly, HandleState, KeyMap, by_key}
use Rattle.ctrie_map.specs.declared.errors.MapError.{MapError}
use Rattle.ctrie_map.specs.declared.errors.MapError.TheVariants.{Memory, NoHandle}
use Rattle.shared_map.specs.Beneath.machine_core.proofs.Selected.{by_alike}
use Rattle.shared_map.specs.Beneath.proof_contents.proofs.Pairs.Lists.{Pairs}
use Rattle.shared_map.specs.Beneath.proof_core.proofs.Scanning.Order.{scan_is_order}
use Rattle.shared_map.specs.Beneath.proof_core.proofs.Taking.{filter_all}
use Rattle.shared_map.specs.Beneath.proof_core.specs.Scanning.{scan_order, scanned}
use Rattle.shared_map.specs.declared.asks.Answer.TheVariants as answer
use Rattle.shared_map.specs.declared.asks.Ask.TheVariants.{From, Scan}
use Rattle.shared_map.specs.Asks.{Told, asking, place_of}
use Rattle.shared_map.specs.Parts.{AreListedFrom, IsToldIn, last_key}
use Rattle.shared_map.specs.PartsLaws.{PartsListOneMoment, PartsListTheMap, ScansJoin, ScansListAShard, ScansListOneMoment}
use Rattle.shared_map.specs.Readings.{IsPart, IsScan, entries_in}
use Rattle.shared_map.proofs.Finding.{entries_by_key}
use Rattle.shared_map.proofs.Frozen.{asked}
use Rattle.shared_map.proofs.Joined.{joined, listed_all, listed_weaker}
use Rattle.shared_map.proofs.Behind.{after, part_goes, scan_goes, scanned_behind}
use Rattle.shared_map.proofs.Together.{shards_list_the_map}

-- the pairs of an answer
abbrev pairs_told : Told → Pairs
pairs_told (Ok (answer.Part pairs)) = pairs
pairs_told other = []

not_refused : (part : Pairs) (why : MapError) → Ok (answer.Part part) ≡ Err why → ⊥
not_refused part why is = cc

-- ---- a shard's entries are those of a map

module _ (hash : HashKind) (shards shard : ℕ) (m : KeyMap) where
  abbrev here : Pairs
  here = entries_in hash shards (shard % shards) m

  sorted : T (is_sorted nat_cmp here)
  sorted = is_sorted-where_key nat_cmp (λ key. place_of hash shards key == shard % shards) (maps.entries m) (maps.entries_sorted m)

  abbrev of_shard : KeyMap
  of_shard = maps.from_sorted here

  entries_here : maps.entries of_shard ≡ here
  entries_here = maps.entries-from_sorted nat_cmp here sorted

  -- what a scan tells is the first of what is behind
  first_scanned : (cursor : Option ℕ) (room : ℕ) → scanned hash cursor room here ≡ take room (scanned_behind hash of_shard cursor)
  first_scanned cursor room = ap (scanned hash cursor room) (sym entries_here)

  -- all of it is the shard's entries
  all_scanned : by_key (scanned_behind hash of_shard None) ≡ here
  all_scanned =
      ap by_key (filter_all (sorted_by (scan_order hash) (maps.entries of_shard)))
      ∙ by_alike (sorted_by (scan_order hash) (maps.entries of_shard)) (maps.entries of_shard) (sorted_alike (scan_order hash) (scan_is_order hash) (maps.entries of_shard))
      ∙ entries_by_key of_shard ∙ entries_here

  module _ (access : Access) where
    abbrev its : HandleState
    its = record { access = access; pairs = m }

    part_scanned : (cursor : Option ℕ) (room : ℕ) (part : Pairs) → IsScan hash shards shard cursor room (Some its) (Ok (answer.Part part)) →
        part ≡ take room (scanned_behind hash of_shard cursor)
    part_scanned cursor room part (inl is) = ap pairs_told is ∙ first_scanned cursor room
    part_scanned cursor room part (inr (bad, could)) = absurd (not_refused part Memory bad)

    two_scanned : (cursor : Option ℕ) (room more : ℕ) (part rest : Pairs) → IsScan hash shards shard cursor room (Some its) (Ok (answer.Part part)) →
        IsScan hash shards shard (last_key cursor part) more (Some its) (Ok (answer.Part rest)) → part ++ rest ≡ scanned hash cursor (room + more) here
    two_scanned cursor room more part rest one next =
        joined (scanned_behind hash of_shard) (scan_goes hash of_shard) cursor room more part rest (part_scanned cursor room part one) (part_scanned (last_key cursor part) more rest next)
        ∙ sym (first_scanned cursor (room + more))

    shard_listed : (listed : Pairs) → AreListedFrom (λ cursor room told. IsScan hash shards shard cursor room (Some its) told) None listed → by_key listed ≡ here
    shard_listed listed parts =
        ap by_key (listed_all (scanned_behind hash of_shard) (scan_goes hash of_shard) (λ cursor room told. IsScan hash shards shard cursor room (Some its) told) part_scanned None listed parts)
        ∙ all_scanned

pub scans_join : ScansJoin
scans_join hash shards shard cursor room more None part rest (inl is) next = absurd (not_refused part NoHandle is)
scans_join hash shards shard cursor room more None part rest (inr (bad, could)) next = absurd (not_refused part Memory bad)
scans_join hash shards shard cursor room more (Some shown) part rest one next =
    inl (ap (λ (ps : Pairs). Ok (answer.Part ps)) (two_scanned hash shards shard shown.pairs shown.access cursor room more part rest one next))

pub scans_list_a_shard : ScansListAShard
scans_list_a_shard hash shards shard shown listed parts = shard_listed hash shards shard shown.pairs shown.access listed parts

-- ---- parts of the entries

part_next : (shown : HandleState) (cursor : Option ℕ) (room : ℕ) (part : Pairs) → IsPart cursor room (Some shown) (Ok (answer.Part part)) →
    part ≡ take room (after cursor (maps.entries shown.pairs))
part_next shown cursor room part (inl is) = ap pairs_told is
part_next shown cursor room part (inr (bad, could)) = absurd (not_refused part Memory bad)

pub parts_list_the_map : PartsListTheMap
parts_list_the_map shown listed parts =
    listed_all (λ cursor. after cursor (maps.entries shown.pairs)) (part_goes shown.pairs) (λ cursor room told. IsPart cursor room (Some shown) told) (part_next shown) None listed parts
    ∙ filter_all (maps.entries shown.pairs)

-- ---- wherever in a log they are

pub scans_list_one_moment : ScansListOneMoment
scans_list_one_moment hash shards before after log handle m some replays frozen never listed lists =
    shards_list_the_map hash shards m listed some
    (λ shard lt. scans_list_a_shard hash shards shard shown (listed shard)
    (listed_weaker (λ cursor room told. IsToldIn log (asking hash (Scan handle shard cursor room)) told) (λ cursor room told. IsScan hash shards shard cursor room (Some shown) told)
    (λ cursor room told was. is_scan shard cursor room told was) None (listed shard) (lists shard lt))
    ∙ ap (λ i. entries_in hash shards i m) (mod-eq_of_lt lt))
  where
    shown : HandleState
    shown = record { access = ReadOnly; pairs = m }

    is_scan : (shard : ℕ) (cursor : Option ℕ) (room : ℕ) (told : Told) → IsToldIn log (asking hash (Scan handle shard cursor room)) told →
        IsScan hash shards shard cursor room (Some shown) told
    is_scan shard cursor room told was =
        let (world, next, there, is) = asked hash shards handle m log before after replays frozen never (asking hash (Scan handle shard cursor room)) told was in
        subst (λ o. IsScan hash shards shard cursor room o told) there (is.shows refl).1

pub parts_list_one_moment : PartsListOneMoment
parts_list_one_moment hash shards before after log handle m replays frozen never listed lists =
    parts_list_the_map shown listed
    (listed_weaker (λ cursor room told. IsToldIn log (asking hash (From handle cursor room)) told) (λ cursor room told. IsPart cursor room (Some shown) told) is_part None listed lists)
  where
    shown : HandleState
    shown = record { access = ReadOnly; pairs = m }

    is_part : (cursor : Option ℕ) (room : ℕ) (told : Told) → IsToldIn log (asking hash (From handle cursor room)) told → IsPart cursor room (Some shown) told
    is_part cursor room told was =
        let (world, next, there, is) = asked hash shards handle m log before after replays frozen never (asking hash (From handle cursor room)) told was in
        subst (λ o. IsPart cursor room o told) there (is.shows refl).1
