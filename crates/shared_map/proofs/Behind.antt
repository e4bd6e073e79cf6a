-- What scans tell, and parts of the entries, goes on behind its last key.
use Rattle.std.proofs.Common.{◌≡◌, ℕ, zero, suc, ◌+◌, ◌<◌, Bool, true, false, cond, is_lt, nat_lt, T, [], ◌∷◌, ◌++◌, length, take, drop}
use Rattle.std.proofs.Common.{Option, Some, None, refl, sym, ap, subst, ◌∙◌, arith}
use Rattle.std.specs.FinMap as maps
use Rattle.std.specs.FinMap.Entries.{below_all, is_sorted}
use Rattle.std.specs.List.{filter}
use Rattle.std.specs.Ordering.{nat_cmp}
use Rattle.std.proofs.lemmas.Bool.Decides.{nat_tests}
use Rattle.std.proofs.lemmas.List.{append_cancel_left, take-append-drop, take_all}
use Rattle.shared_map.specs.Vocabulary.{HashKind, sorted_by, KeyMap}
use Rattle.ctrie_map.proofs.Listings.{parts_join}
use Rattle.shared_map.specs.Beneath.proof_contents.proofs.Pairs.Lists.{EachKey, Pairs, each-weaker}
use Rattle.shared_map.specs.Beneath.proof_core.specs.Reading.{is_after}
use Rattle.shared_map.specs.Beneath.proof_core.specs.Scanning.{is_behind, scan_order}
use Rattle.shared_map.specs.Parts.{last_key}
use Rattle.shared_map.proofs.Finding.{first_part, second_part}

-- ---- in the order of a scan

-- some pairs have a last one
ends_with : (cursor : Option ℕ) (p : ℕ × ℕ) (ps : Pairs) →
    (front : Pairs) × (last : ℕ) × (value : ℕ) × (p ∷ ps ≡ front ++ (last, value) ∷ []) × (last_key cursor (p ∷ ps) ≡ Some last)
ends_with cursor p [] = ([], p.0, p.1, refl, refl)
ends_with cursor p (q ∷ ps) = let (front, last, value, is, key) = ends_with (Some p.0) q ps in (p ∷ front, last, value, ap (λ qs. p ∷ qs) is, key)

nothing_left : (room : ℕ) (ps : Pairs) → take room ps ≡ [] → ps ≡ drop room ps
nothing_left zero ps none = refl
nothing_left (suc room) [] none = refl
nothing_left (suc room) (p ∷ ps) none = cc

module _ (kind : HashKind) (m : KeyMap) where
  -- the entries behind this key
  abbrev pub scanned_behind : Option ℕ → Pairs
  scanned_behind cursor = filter (λ (p : ℕ × ℕ). is_behind kind cursor p.0) (sorted_by (scan_order kind) (maps.entries m))

  by_part : (cursor : Option ℕ) (room : ℕ) (part : Pairs) → take room (scanned_behind cursor) ≡ part → scanned_behind (last_key cursor part) ≡ drop room (scanned_behind cursor)
  by_part cursor room [] is = nothing_left room (scanned_behind cursor) is
  by_part cursor room (p ∷ ps) is =
      let (front, last, value, whole, key) = ends_with cursor p ps in
      let long : ℕ = length (scanned_behind cursor) in
      let more : ℕ = long + length (scanned_behind (Some last)) in
      ap scanned_behind key
      ∙ append_cancel_left (take room (scanned_behind cursor)) (scanned_behind (Some last)) (drop room (scanned_behind cursor))
      (ap (λ qs. take room (scanned_behind cursor) ++ qs) (sym (take_all more (scanned_behind (Some last)) (omega arith)))
      ∙ sym (parts_join kind m cursor room more front last value (is ∙ whole))
      ∙ take_all (room + more) (scanned_behind cursor) (omega arith) ∙ sym (take-append-drop room (scanned_behind cursor)))

  pub scan_goes : (cursor : Option ℕ) (room : ℕ) → scanned_behind (last_key cursor (take room (scanned_behind cursor))) ≡ drop room (scanned_behind cursor)
  scan_goes cursor room = by_part cursor room (take room (scanned_behind cursor)) refl

-- ---- by rising key

abbrev pub after : Option ℕ → Pairs → Pairs
after cursor ps = filter (λ (p : ℕ × ℕ). is_after cursor p.0) ps

abbrev Rise : Pairs → Type 0
Rise [] = Unit {0}
Rise (p ∷ ps) = EachKey (λ k. p.0 < k) ps × Rise ps

less : (k q : ℕ) → T (is_lt (nat_cmp k q)) → k < q
less k q h = grind (arith, nat_tests, h)

all_above : (k : ℕ) (ps : Pairs) → T (below_all nat_cmp k ps) → EachKey (λ q. k < q) ps
all_above k [] h = tt
all_above k (p ∷ ps) h = (less k p.0 (first_part _ _ h), all_above k ps (second_part _ _ h))

sorted_rise : (ps : Pairs) → T (is_sorted nat_cmp ps) → Rise ps
sorted_rise [] h = tt
sorted_rise (p ∷ ps) h = (all_above p.0 ps (first_part _ _ h), sorted_rise ps (second_part _ _ h))

each_taken : (P : ℕ → Type 0) (n : ℕ) (ps : Pairs) → EachKey P ps → EachKey P (take n ps)
each_taken P zero ps each = tt
each_taken P (suc n) [] each = tt
each_taken P (suc n) (p ∷ ps) each = (each.0, each_taken P n ps each.1)

each_after : (P : ℕ → Type 0) (cursor : Option ℕ) (ps : Pairs) → EachKey P ps → EachKey P (after cursor ps)
each_after P cursor [] each = tt
each_after P cursor (p ∷ ps) each = by_test (is_after cursor p.0) (each_after P cursor ps each.1)
  where
    by_test : (b : Bool) → EachKey P (after cursor ps) → EachKey P (cond b (p ∷ after cursor ps) (after cursor ps))
    by_test true rest = (each.0, rest)
    by_test false rest = rest

-- what is above a key that is after the cursor is too
later_after : (cursor : Option ℕ) (x k : ℕ) → is_after cursor x ≡ true → x < k → is_after cursor k ≡ true
later_after None x k h lt = refl
later_after (Some last) x k h lt = grind (arith, nat_tests)

is_above : (x k : ℕ) → x < k → nat_lt x k ≡ true
is_above x k lt = grind (arith, nat_tests)

all_after : (cursor : Option ℕ) (ps : Pairs) → EachKey (λ k. is_after cursor k ≡ true) ps → after cursor ps ≡ ps
all_after cursor [] each = refl
all_after cursor (p ∷ ps) each =
    ap (λ b. cond b (p ∷ after cursor ps) (after cursor ps)) each.0 ∙ ap (λ qs. p ∷ qs) (all_after cursor ps each.1)

not_before : (x k : ℕ) → x < k → nat_lt k x ≡ false
not_before x k lt = grind (arith, nat_tests)

not_itself : (x : ℕ) → nat_lt x x ≡ false
not_itself x = grind (arith, nat_tests)

-- a key isn't after the last of greater ones
not_after : (cursor : Option ℕ) (x : ℕ) (ps : Pairs) → is_after cursor x ≡ false → EachKey (λ k. x < k) ps → is_after (last_key cursor ps) x ≡ false
not_after cursor x [] h above = h
not_after cursor x (p ∷ ps) h above = not_after (Some p.0) x ps (not_before x p.0 above.0) above.1

after_goes : (room : ℕ) (cursor : Option ℕ) (ps : Pairs) → Rise ps → after (last_key cursor (take room (after cursor ps))) ps ≡ drop room (after cursor ps)
after_goes zero cursor ps up = refl
after_goes (suc room) cursor [] up = refl
after_goes (suc room) cursor (p ∷ ps) up = by_test (is_after cursor p.0) refl (after_goes room (Some p.0) ps up.1) (after_goes (suc room) cursor ps up.1)
  where
    -- the first one isn't after it
    leaves : (last : Option ℕ) → is_after last p.0 ≡ false → after last (p ∷ ps) ≡ after last ps
    leaves last h = ap (λ b. cond b (p ∷ after last ps) (after last ps)) h

    taken : Option ℕ
    taken = last_key (Some p.0) (take room (after cursor ps))

    by_test : (b : Bool) → is_after cursor p.0 ≡ b → after (last_key (Some p.0) (take room (after (Some p.0) ps))) ps ≡ drop room (after (Some p.0) ps) →
        after (last_key cursor (take (suc room) (after cursor ps))) ps ≡ drop (suc room) (after cursor ps) → let passed : Pairs = cond b (p ∷ after cursor ps) (after cursor ps) in
        after (last_key cursor (take (suc room) passed)) (p ∷ ps) ≡ drop (suc room) passed
    by_test true is onward same =
        let all : after cursor ps ≡ after (Some p.0) ps =
        all_after cursor ps (each-weaker (λ k. p.0 < k) (λ k. is_after cursor k ≡ true) (λ k lt. later_after cursor p.0 k is lt) ps up.0)
        ∙ sym (all_after (Some p.0) ps (each-weaker (λ k. p.0 < k) (λ k. nat_lt p.0 k ≡ true) (λ k lt. is_above p.0 k lt) ps up.0)) in
        leaves taken (not_after (Some p.0) p.0 (take room (after cursor ps)) (not_itself p.0)
        (each_taken (λ k. p.0 < k) room (after cursor ps) (each_after (λ k. p.0 < k) cursor ps up.0)))
        ∙ subst (λ (qs : Pairs). after (last_key (Some p.0) (take room qs)) ps ≡ drop room qs) (sym all) onward
    by_test false is onward same =
        leaves (last_key cursor (take (suc room) (after cursor ps))) (not_after cursor p.0 (take (suc room) (after cursor ps)) is
        (each_taken (λ k. p.0 < k) (suc room) (after cursor ps) (each_after (λ k. p.0 < k) cursor ps up.0)))
        ∙ same

pub part_goes : (m : KeyMap) (cursor : Option ℕ) (room : ℕ) →
    after (last_key cursor (take room (after cursor (maps.entries m)))) (maps.entries m) ≡ drop room (after cursor (maps.entries m))
part_goes m cursor room = after_goes room cursor (maps.entries m) (sorted_rise (maps.entries m) (maps.entries_sorted m))
