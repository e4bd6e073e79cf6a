-- The keys of which two maps may have different values.
use Rattle.std.proofs.Common.{◌≡◌, ◌⊎◌, ℕ, ◌-◌, ◌<◌, false, List, Contains, [], ◌++◌, Option, Some, None, length, arith, refl, sym, ap, subst, inl, inr, ◌∙◌}
use Rattle.std.specs.Prelude.{nat_lt}
use Rattle.std.specs.List.{flat_map}
use Rattle.std.proofs.lemmas.List.{append-nil, nil_from_length}
use Rattle.std.proofs.lemmas.Bool.Decides.{nat_tests}
use Rattle.std.proofs.lemmas.List.Concat.{flat_map-append}
use Rattle.std.proofs.lemmas.List.Elements.{Contains-append_left, Contains-append_right, Contains-append_cases}
use Rattle.proof_core.specs.Vocabulary.{Node, Indirection, Branch, Single, Tomb, List as Listed, Ref, Heap, node_at, refs_of_option, most_levels, pairs_at, pairs_below, by_key, comes_before}
use Rattle.proof_core.specs.Comparing.{Adds, Grows, entries_below, main_below, main_by, pairs_from, single_at, single_by}
use Rattle.proof_core.specs.Reading.{Covers, IsAmong}
use Rattle.proof_core.proofs.Sorted.{from_sorted, into_sorted}
use Rattle.proof_core.proofs.Gathering.{none_below, some_below}

abbrev Pairs : Type 0
Pairs = List (ℕ × ℕ)

-- ---- what covers two lists

pub grows_none : (ks : List ℕ) → Grows ks ks
grows_none ks key h = h

pub grows_on : (ks ls ms : List ℕ) → Grows ks ls → Grows ls ms → Grows ks ms
grows_on ks ls ms first second key h = second key (first key h)

among_same : (ks : List ℕ) (ps : Pairs) → IsAmong ks ps ps
among_same ks ps pair h = inl h

pub covers_same : (ks : List ℕ) (ps : Pairs) → Covers ks ps ps
covers_same ks ps = (among_same ks ps, among_same ks ps)

among_more : (ks ls : List ℕ) (ps qs : Pairs) → Grows ks ls → IsAmong ks ps qs → IsAmong ls ps qs
among_more ks ls ps qs grows among pair h = by_cases (among pair h)
  where
    by_cases : Contains qs pair ⊎ Contains ks pair.0 → Contains qs pair ⊎ Contains ls pair.0
    by_cases (inl there) = inl there
    by_cases (inr known) = inr (grows pair.0 known)

pub covers_more : (ks ls : List ℕ) (ps qs : Pairs) → Grows ks ls → Covers ks ps qs → Covers ls ps qs
covers_more ks ls ps qs grows covers = (among_more ks ls ps qs grows covers.0, among_more ks ls qs ps grows covers.1)

among_both : (ks : List ℕ) (ps qs us vs : Pairs) → IsAmong ks ps qs → IsAmong ks us vs → IsAmong ks (ps ++ us) (qs ++ vs)
among_both ks ps qs us vs left right pair h = by_side (Contains-append_cases ps us pair h)
  where
    by_left : Contains qs pair ⊎ Contains ks pair.0 → Contains (qs ++ vs) pair ⊎ Contains ks pair.0
    by_left (inl there) = inl (Contains-append_left qs vs pair there)
    by_left (inr known) = inr known

    by_right : Contains vs pair ⊎ Contains ks pair.0 → Contains (qs ++ vs) pair ⊎ Contains ks pair.0
    by_right (inl there) = inl (Contains-append_right qs vs pair there)
    by_right (inr known) = inr known

    by_side : Contains ps pair ⊎ Contains us pair → Contains (qs ++ vs) pair ⊎ Contains ks pair.0
    by_side (inl there) = by_left (left pair there)
    by_side (inr there) = by_right (right pair there)

pub covers_both : (ks : List ℕ) (ps qs us vs : Pairs) → Covers ks ps qs → Covers ks us vs → Covers ks (ps ++ us) (qs ++ vs)
covers_both ks ps qs us vs first second = (among_both ks ps qs us vs first.0 second.0, among_both ks qs ps vs us first.1 second.1)

pub covers_flipped : (ks : List ℕ) (ps qs : Pairs) → Covers ks ps qs → Covers ks qs ps
covers_flipped ks ps qs covers = (covers.1, covers.0)

-- ---- the pairs of an entry

split_by : (levels : ℕ) (heap : Heap) (r : Ref) (n : Node) → node_at heap r ≡ n →
    pairs_at (pairs_below levels heap) heap r n ≡ single_by n ++ flat_map (pairs_below levels heap) (entries_below heap (main_by heap r n))
split_by levels heap r (Single key value) e = refl
split_by levels heap r (Indirection generation main) e = refl
split_by levels heap r (Branch bitmap entries) e = refl
split_by levels heap r (Tomb single) e = refl
split_by levels heap r (Listed singles) e = refl

-- its own, where it is a single, and those below its main node
pub pairs_split : (levels : ℕ) (heap : Heap) (entry : Option Ref) → 0 < levels →
    pairs_from levels heap entry ≡ single_at heap entry ++ flat_map (pairs_below (levels - 1) heap) (entries_below heap (main_below heap entry))
pairs_split levels heap None h = refl
pairs_split levels heap (Some r) h =
    append-nil (pairs_below levels heap r) ∙ some_below levels heap r h ∙ split_by (levels - 1) heap r (node_at heap r) refl

-- the keys of two singles, and then those below two main nodes, cover two entries
pub compared : (levels : ℕ) (heap : Heap) (older newer : Option Ref) (ks ls ms ns : List ℕ) → 0 < levels →
    Adds ks (single_at heap older) [] ls → Adds ls (single_at heap newer) [] ms →
    Adds ms (flat_map (pairs_below (levels - 1) heap) (entries_below heap (main_below heap older))) (flat_map (pairs_below (levels - 1) heap) (entries_below heap (main_below heap newer))) ns →
    Adds ks (pairs_from levels heap older) (pairs_from levels heap newer) ns
compared levels heap older newer ks ls ms ns h first second third =
    let below = λ (o : Option Ref). flat_map (pairs_below (levels - 1) heap) (entries_below heap (main_below heap o)) in
    let old_one = single_at heap older in
    let new_one = single_at heap newer in
    let singles : Covers ns (old_one ++ []) ([] ++ new_one) =
    covers_both ns old_one [] [] new_one (covers_more ls ns old_one [] (grows_on ls ms ns second.0 third.0) first.1)
    (covers_flipped ns new_one [] (covers_more ms ns new_one [] third.0 second.1)) in
    let all : Covers ns (old_one ++ below older) (new_one ++ below newer) =
    covers_both ns old_one new_one (below older) (below newer) (subst (λ ps. Covers ns ps new_one) (append-nil old_one) singles) third.1 in (
      grows_on ks ls ns first.0 (grows_on ls ms ns second.0 third.0),
      subst (λ ps. Covers ns ps (pairs_from levels heap newer)) (sym (pairs_split levels heap older h))
          (subst (λ ps. Covers ns (old_one ++ below older) ps) (sym (pairs_split levels heap newer h)) all),
    )

-- within no level nothing is reached
nothing_from : (heap : Heap) (entry : Option Ref) → pairs_from 0 heap entry ≡ []
nothing_from heap None = refl
nothing_from heap (Some r) = append-nil (pairs_below 0 heap r) ∙ none_below heap r

pub compared_nothing : (heap : Heap) (older newer : Option Ref) (ks : List ℕ) → Adds ks (pairs_from 0 heap older) (pairs_from 0 heap newer) ks
compared_nothing heap older newer ks = (
  grows_none ks,
  subst (λ ps. Covers ks ps (pairs_from 0 heap newer)) (sym (nothing_from heap older)) (subst (Covers ks []) (sym (nothing_from heap newer)) (covers_same ks [])),
)

-- ---- entries one by one

pub taken_off : (f : Ref → Pairs) (entry : Option Ref) (rest all : List Ref) → refs_of_option entry ++ rest ≡ all → flat_map f (refs_of_option entry) ++ flat_map f rest ≡ flat_map f all
taken_off f entry rest all is = sym (flat_map-append f (refs_of_option entry) rest) ∙ ap (flat_map f) is

none_left : (n : ℕ) → nat_lt 0 n ≡ false → n ≡ 0
none_left n e = grind (arith, nat_tests)

pub covers_nothing : (f : Ref → Pairs) (ks : List ℕ) (olds news : List Ref) → nat_lt 0 (length olds) ≡ false → nat_lt 0 (length news) ≡ false →
    Covers ks (flat_map f olds) (flat_map f news)
covers_nothing f ks olds news older newer =
    subst (λ es. Covers ks (flat_map f es) (flat_map f news)) (sym (nil_from_length olds (none_left (length olds) older)))
    (subst (λ es. Covers ks [] (flat_map f es)) (sym (nil_from_length news (none_left (length news) newer))) (covers_same ks []))

-- ---- contents

among_sorted : (ks : List ℕ) (ps qs : Pairs) → IsAmong ks ps qs → IsAmong ks (by_key ps) (by_key qs)
among_sorted ks ps qs among pair there = by_cases (among pair (from_sorted comes_before ps pair there))
  where
    by_cases : Contains qs pair ⊎ Contains ks pair.0 → Contains (by_key qs) pair ⊎ Contains ks pair.0
    by_cases (inl other) = inl (into_sorted comes_before qs pair other)
    by_cases (inr known) = inr known

pub covers_sorted : (ks : List ℕ) (heap : Heap) (q s older newer : Ref) → q ≡ older → s ≡ newer →
    Covers ks (pairs_from most_levels heap (Some q)) (pairs_from most_levels heap (Some s)) →
    Covers ks (by_key (pairs_below most_levels heap older)) (by_key (pairs_below most_levels heap newer))
covers_sorted ks heap q s older newer one other covers =
    let reached = pairs_below most_levels heap in
    let same : Covers ks (reached q) (reached s) =
    subst (λ ps. Covers ks ps (reached s)) (append-nil (reached q)) (subst (Covers ks (reached q ++ [])) (append-nil (reached s)) covers) in
    let there : Covers ks (reached older) (reached newer) = subst (λ r. Covers ks (reached r) (reached newer)) one (subst (λ r. Covers ks (reached q) (reached r)) other same) in
    (among_sorted ks (reached older) (reached newer) there.0, among_sorted ks (reached newer) (reached older) there.1)
