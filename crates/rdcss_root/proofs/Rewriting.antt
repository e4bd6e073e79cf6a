-- What is held, where one root word gives way to another.
use Rattle.std.specs.Prelude.{◌≡◌, ℕ, ◌+◌, ◌<◌, ◌≤◌, List, [], ◌∷◌, length, flat_map, slice_set, slice_index_or, Option, Some, None}
use Rattle.std.specs.List.{sum_by}
use Rattle.std.proofs.Common.{arith, rules, ◌∙◌, refl, sym, ap, subst}
use Rattle.std.proofs.lemmas.List.{set_past}
use Rattle.std.proofs.lemmas.List.Concat.{flat_map-cons}
use Rattle.std.proofs.lemmas.List.Sums.{sum_by-set, sum_by-cons}
use Rattle.rdcss_root.specs.Vocabulary.{Ref, times, Heap, refs_of_option, AreLive, Root, RootWord, Plain, Offer, refs_of_root, refs_of_word, rewritten}
use Rattle.rdcss_root.specs.Beneath.slot_arena.proofs.Times.{times-append, times_le}
use Rattle.rdcss_root.specs.Beneath.epochs.specs.Memories.{Memory}
use Rattle.trie_parts.specs.Holding.{AreHeld}
use Rattle.rdcss_root.specs.Holding.{HoldsMore, Releases, IsReady, Moves}
use Rattle.rdcss_root.proofs.Keeping.{kept, kept_on}

-- what stands in lists of lists
pub times_flat : {X : Type 0} (r : Ref) (f : X → List Ref) (xs : List X) → times r (flat_map f xs) ≡ sum_by (λ x. times r (f x)) xs
times_flat r f [] = refl
times_flat r f (x ∷ xs) =
    ap (times r) (flat_map-cons f x xs)
    ∙ omega (arith, times-append r (f x) (flat_map f xs), times_flat r f xs, sum_by-cons (λ y. times r (f y)) x xs)

-- one of the lists is replaced
pub times_set : {X : Type 0} (r : Ref) (f : X → List Ref) (xs : List X) (i : ℕ) (y d : X) → i < length xs →
    times r (flat_map f (slice_set xs i y)) + times r (f (slice_index_or xs i d)) ≡ times r (flat_map f xs) + times r (f y)
times_set r f xs i y d within =
    omega (arith, times_flat r f (slice_set xs i y), times_flat r f xs, sum_by-set (λ x. times r (f x)) xs i y d within)

few_of_word : (word : RootWord) → length (refs_of_word word) ≤ 4
few_of_word (Plain root) = omega arith
few_of_word (Offer offer) = by_second offer.second
  where
    by_second : (second : Option Ref) → length (offer.root ∷ offer.expected ∷ offer.successor ∷ refs_of_option second) ≤ 4
    by_second None = omega arith
    by_second (Some r) = omega arith

-- a root word has at most four references
pub few_of_root : (root : Option Root) → length (refs_of_root root) ≤ 4
few_of_root None = omega arith
few_of_root (Some root) = few_of_word root.word

-- what stands in one root word is held
pub found_held : {before held : Memory} {n : ℕ} (roots : List (Option Root)) (i : ℕ) (root : Option Root) → i < length roots → IsReady before roots n →
    HoldsMore (refs_of_root root) before held → AreHeld (refs_of_root (slice_index_or roots i None)) held
found_held roots i root within ready holds = λ r. omega (arith, times_set r refs_of_root roots i None None within, ready.held r, holds.outside r)

set_once : {before held after : Memory} (roots : List (Option Root)) (i : ℕ) (root : Option Root) → i < length roots →
    HoldsMore (refs_of_root root) before held → Releases (refs_of_root (slice_index_or roots i None)) held after → Moves before after roots (slice_set roots i root) 4
set_once roots i root within holds releases = record {
  outside = λ r. omega (arith, times_set r refs_of_root roots i root None within, holds.outside r, releases.outside r);
  more = λ r. omega (arith, holds.outside r, releases.outside r, times_le r (refs_of_root root), few_of_root root);
  keeps = kept_on 8 holds.keeps releases.keeps (omega (arith, few_of_root root, few_of_root (slice_index_or roots i None)));
}

pub moved : {before held after : Memory} (roots now : List (Option Root)) (i : ℕ) (root : Option Root) → i < length roots → now ≡ slice_set roots i root →
    HoldsMore (refs_of_root root) before held → Releases (refs_of_root (slice_index_or roots i None)) held after → Moves before after roots now 4
moved {before} {held} {after} roots now i root within set holds releases =
    subst (λ xs. Moves before after roots xs 4) (sym set) (set_once roots i root within holds releases)

pub live_rewritten : (heap : Heap) (word : RootWord) (root : Option Root) → AreLive heap (refs_of_word word) → AreLive heap (refs_of_root (rewritten word root))
live_rewritten heap word None live = search rules
live_rewritten heap word (Some root) live = live

-- a write behind the end changes nothing
pub unwritten : {X : Type 0} (xs : List X) (i : ℕ) (y : X) → length xs ≤ i → slice_set xs i y ≡ xs
unwritten xs i y past = set_past xs i y past

-- ---- two words, one behind the other

pub ready_less : {m : Memory} {roots : List (Option Root)} → IsReady m roots 8 → IsReady m roots 4
ready_less ready = record { held = ready.held; room = λ r. omega (arith, ready.room r) }

pub ready_on : {before after : Memory} {roots now : List (Option Root)} → IsReady before roots 8 → Moves before after roots now 4 → IsReady after now 4
ready_on ready moves = record { held = λ r. omega (arith, ready.held r, moves.outside r); room = λ r. omega (arith, ready.room r, moves.more r) }

pub moves_more : {before after : Memory} {roots now : List (Option Root)} → Moves before after roots now 4 → Moves before after roots now 8
moves_more {before} {after} moves = record { outside = moves.outside; more = λ r. omega (arith, moves.more r); keeps = kept_on 16 moves.keeps (kept after) (omega arith) }

pub moves_on : {a b c : Memory} {xs ys zs : List (Option Root)} → Moves a b xs ys 4 → Moves b c ys zs 4 → Moves a c xs zs 8
moves_on first second = record {
  outside = λ r. omega (arith, first.outside r, second.outside r);
  more = λ r. omega (arith, first.more r, second.more r);
  keeps = kept_on 16 first.keeps second.keeps (omega arith);
}
