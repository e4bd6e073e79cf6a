-- The entries of a shard are those entries of the whole that lie in it.
use Rattle.std.proofs.Common.{◌≡◌, ℕ, ◌==◌, Bool, true, false, cond, List, length, Option, Some, None, IsSome, Ok, eq-eqb, eqb-true, refl, sym, ap, subst, ◌∙◌, slice_get}
use Rattle.std.specs.Cmp.{nat_cmp_total}
use Rattle.std.specs.FinMap as maps
use Rattle.std.specs.FinMap.{find, nat_cmp-IsAntisymmetric}
use Rattle.std.specs.FinMap.Entries.{find-where_key, is_sorted-where_key, same_entries, where_key}
use Rattle.std.specs.Ordering.{nat_cmp}
use Rattle.std.proofs.lemmas.Bool.{true≢false}
use Rattle.shared_map.specs.Vocabulary.{HashKind, HandleState}
use Rattle.ctrie_map.specs.Maps.{MapState, handles_of}
use Rattle.ctrie_map.specs.Reading.{read_of}
use Rattle.shared_map.specs.Readings.{entries_in}
use Rattle.shared_map.specs.Shards.{AreShards, world_of_all}
use Rattle.shared_map.specs.Uniting.{united_at, value_of}
use Rattle.shared_map.proofs.Finding.{same_where}
use Rattle.shared_map.proofs.OfShards as shards

module _ (hash : HashKind) (before : List MapState) (are : AreShards hash before) (i : ℕ) (s : MapState) (at : slice_get before i ≡ Some s) (h : ℕ) where
  abbrev lies_here : ℕ → Bool
  lies_here key = shards.place hash before are key == i

  module _ (shown : HandleState) (is : maps.get (handles_of s) h ≡ Some shown) where
    not_here : (q : ℕ) (o : Option ℕ) → maps.get shown.pairs q ≡ o → lies_here q ≡ false → o ≡ None
    not_here q None has out = refl
    not_here q (Some v) has out =
        let place = shards.own_here hash before are i s at h q (subst IsSome (sym (ap (value_of q) is ∙ has)) refl) in
        absurd (true≢false (sym (eq-eqb (shards.place hash before are q) i place) ∙ out))

    by_place : (q : ℕ) (b : Bool) → lies_here q ≡ b → cond b (find nat_cmp q (maps.entries shown.pairs)) None ≡ find nat_cmp q (maps.entries shown.pairs)
    by_place q true e = refl
    by_place q false e = sym (sym (maps.get-entries shown.pairs q) ∙ not_here q (maps.get shown.pairs q) refl e)

    -- all keys of the shard lie in it
    all_here : entries_in hash (length before) i shown.pairs ≡ maps.entries shown.pairs
    all_here =
        same_entries nat_cmp nat_cmp_total nat_cmp-IsAntisymmetric (where_key nat_cmp lies_here (maps.entries shown.pairs)) (maps.entries shown.pairs)
        (is_sorted-where_key nat_cmp lies_here (maps.entries shown.pairs) (maps.entries_sorted shown.pairs)) (maps.entries_sorted shown.pairs)
        (λ q. find-where_key nat_cmp lies_here q (λ k tie. ap lies_here (sym (nat_cmp-IsAntisymmetric q k tie))) (maps.entries shown.pairs) ∙ by_place q (lies_here q) refl)

    -- the whole has the same ones there
    alike : entries_in hash (length before) i shown.pairs ≡ entries_in hash (length before) i (united_at (shards.worlds hash before are) h)
    alike =
        same_where lies_here shown.pairs (united_at (shards.worlds hash before are) h)
        (λ q e. sym (shards.value_here hash before are i s at h q (eqb-true (shards.place hash before are q) i e) ∙ ap (value_of q) is))

  all_by : {A : Type 0} (f : List (ℕ × ℕ) → A) (o : Option HandleState) → maps.get (handles_of s) h ≡ o →
      read_of (λ m. f (entries_in hash (length before) i m)) o ≡ read_of (λ m. f (maps.entries m)) o
  all_by f None is = refl
  all_by f (Some shown) is = ap (λ es. Ok (f es)) (all_here shown is)

  -- what is read of its entries
  pub reads : {A : Type 0} (f : List (ℕ × ℕ) → A) → read_of (λ m. f (maps.entries m)) (maps.get (handles_of s) h) ≡
      read_of (λ m. f (entries_in hash (length before) i m)) (maps.get (world_of_all before) h)
  reads f =
      sym (all_by f (maps.get (handles_of s) h) refl) ∙ shards.read_alike hash before are i s at h (λ m. f (entries_in hash (length before) i m)) (λ shown is. ap f (alike shown is))
