-- What selections come to.
use Rattle.std.proofs.Common.{◌≡◌, ℕ, ◌+◌, drop, get_or, ◌<◌, ◌≤◌, Bool, false, cond, List, [], ◌∷◌, ◌++◌, length, take, arith, refl, sym, ap, ap₂, ◌∙◌}
use Rattle.std.specs.BinaryHeap.{heap_items}
use Rattle.std.specs.List.{filter, flat_map}
use Rattle.machine_core.specs.Vocabulary.{Ref, by_key, comes_before, is_after, next_of}
use Rattle.std.specs.Prelude.{count_by}
use Rattle.std.proofs.lemmas.List.{append-nil, take_all, take-take}
use Rattle.std.proofs.lemmas.List.Elements.{filter-append}
use Rattle.std.proofs.lemmas.List.Sums.{sum_by-append}
use Rattle.machine_core.specs.declared.selection.Selection.{Selection}
use Rattle.machine_core.specs.Selecting.{Takes, is_wanted, selected, selected_with}
use Rattle.proof_core.proofs.Filtered.{filter_sorted}
use Rattle.machine_core.proofs.Sorting.{pairs_order}
use Rattle.proof_core.proofs.Gathering.{none_below, some_below, gather_more, gather_none}
use Rattle.machine_core.proofs.Selected.{by_alike}
use Rattle.proof_core.proofs.Firsts.{length_sorted, take_sorted}

-- nothing more than what was selected
pub nothing_taken : (s : Selection) → selected s ≡ selected_with s []
nothing_taken s =
    let same = length_sorted comes_before (heap_items s.pairs) in
    let long = s.pairs.data.ok.0 in
    let few = s.few in
    sym (take_all s.room (by_key (heap_items s.pairs)) (omega (arith, same, long, few)))

pub unwanted : (s : Selection) (pair : ℕ × ℕ) → is_wanted s pair ≡ false → selected s ≡ selected_with s (pair ∷ [])
unwanted s pair unlike = nothing_taken s ∙ sym (ap (λ b. take s.room (by_key (cond b (pair ∷ []) [] ++ heap_items s.pairs))) unlike)

-- ---- one entry more

gone_on : (s : Selection) (xs ys is js : List (ℕ × ℕ)) → by_key js ≡ take s.room (by_key (filter (is_wanted s) xs ++ is)) →
    take s.room (by_key (filter (is_wanted s) ys ++ js)) ≡ take s.room (by_key (filter (is_wanted s) (xs ++ ys) ++ is))
gone_on s xs ys is js taken =
    let wanted = filter (is_wanted s) in
    take_sorted comes_before s.room (wanted ys) js (wanted xs ++ is) (ap (take s.room) taken ∙ take-take s.room s.room (by_key (wanted xs ++ is)) (omega arith))
    ∙ ap (take s.room) (by_alike (wanted ys ++ (wanted xs ++ is)) (wanted (xs ++ ys) ++ is) (λ t. rw (filter-append (is_wanted s) xs ys) (counted t (wanted xs) (wanted ys) is)))
  where
    counted : (t : ℕ × ℕ → Bool) (xs ys is : List (ℕ × ℕ)) → count_by t (ys ++ (xs ++ is)) ≡ count_by t ((xs ++ ys) ++ is)
    counted t xs ys is =
        let n : ℕ × ℕ → ℕ = λ x. cond (t x) 1 0 in
        omega (arith, sum_by-append n ys (xs ++ is), sum_by-append n xs is, sum_by-append n (xs ++ ys) is, sum_by-append n xs ys)

-- what these pairs lead to is the same before and behind the first ones of them
pub taken_on : (before middle : Selection) (xs ys : List (ℕ × ℕ)) → Takes before xs middle → selected_with middle ys ≡ selected_with before (xs ++ ys)
taken_on before middle xs ys takes =
    let same = ap₂ (λ a n. take n (by_key (filter (λ (p : ℕ × ℕ). is_after a p.0) ys ++ heap_items middle.pairs))) takes.0 takes.1 in
    same ∙ gone_on before xs ys (heap_items before.pairs) (heap_items middle.pairs) takes.2

-- nothing is taken where there is nothing, and what is left of the entries is taken one by one
pub takes_nothing : (s : Selection) → Takes s [] s
takes_nothing s = (refl, refl, nothing_taken s)

pub takes_more : (f : Ref → List (ℕ × ℕ)) (es : List Ref) (i : ℕ) (d : Ref) (before after : Selection) → i < length es → Takes before (f (get_or es i d)) after →
    selected_with after (flat_map f (drop (i + 1) es)) ≡ selected_with before (flat_map f (drop i es))
takes_more f es i d before after within takes =
    taken_on before after (f (get_or es i d)) (flat_map f (drop (i + 1) es)) takes ∙ ap (selected_with before) (sym (gather_more f es i d within))

pub takes_all : (f : Ref → List (ℕ × ℕ)) (es : List Ref) (i : ℕ) (s : Selection) → length es ≤ i → selected s ≡ selected_with s (flat_map f (drop i es))
takes_all f es i s past = nothing_taken s ∙ ap (selected_with s) (sym (gather_none f es i past))

pub ruleset selecting = (arith, none_below, some_below, takes_more, takes_all, takes_nothing)

-- what is selected of all is what comes next
pub selects_next : (s : Selection) (pairs : List (ℕ × ℕ)) → heap_items s.pairs ≡ [] → selected_with s pairs ≡ next_of s.after s.room (by_key pairs)
selects_next s pairs empty =
    ap (λ is. take s.room (by_key (filter (is_wanted s) pairs ++ is))) empty
    ∙ ap (λ ps. take s.room (by_key ps)) (append-nil (filter (is_wanted s) pairs))
    ∙ ap (take s.room) (filter_sorted comes_before pairs_order (is_wanted s) pairs)
