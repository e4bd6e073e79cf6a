-- What limbo after a step doesn't depend on.
use Rattle.std.proofs.Common.{◌≡◌, ℕ, ◌<◌, ◌==◌, ◌&&◌, ◌||◌, not, nat_lt, Bool, false, cond, List, [], ◌∷◌, ◌++◌}
use Rattle.std.proofs.Common.{length, map, get_or, set, filter, Option, None, refl, ap, ◌∙◌, inl, inr, arith}
use Rattle.std.proofs.lemmas.Bool.{cases_lt, ne_eqb}
use Rattle.std.proofs.lemmas.List.{get_or_past, get_or-set_same, length-set}
use Rattle.slot_arena.specs.declared.refs.Ref.{Ref}
use Rattle.slot_arena.specs.declared.nodes.Slot.{Slot}
use Rattle.slot_arena.specs.Refs.{slot_of, birth_of}
use Rattle.slot_arena.specs.Heaps.{Heap, in_use, freed}
use Rattle.slot_arena.specs.Counts.{count_of}
use Rattle.slot_arena.specs.Times.{times}
use Rattle.slot_arena.specs.Arenas.{has_birth}
use Rattle.slot_arena.specs.Kept.{live}
use Rattle.slot_arena.proofs.Times.{bit}
use Rattle.slot_arena.proofs.Exact.{count_found}
use Rattle.slot_arena.proofs.Reading.{freed_seen}
use Rattle.epochs.specs.declared.limbo.Zeroed.{Zeroed}
use Rattle.epochs.specs.Limbo.{is_zero, is_in, is_in_use, newly_zero, by_birth}
use Rattle.epochs.specs.Memories.{staying}
use Rattle.epochs.specs.Laws.{AreAlike, FreedLeaves, CountsAlone}
use Rattle.epochs.proofs.Filters.{filter_same}
use Rattle.epochs.proofs.Listing.{all_members}
use Rattle.epochs.proofs.InUse.{times-in_use}
use Rattle.epochs.proofs.Staying.{any_times}

-- ---- references from outside

filter_alike : {A : Type 0} (p q : A → Bool) → ((x : A) → p x ≡ q x) → (xs : List A) → filter p xs ≡ filter q xs
filter_alike p q same [] = refl
filter_alike p q same (x ∷ xs) = ap (λ b. cond b (x ∷ filter p xs) (filter p xs)) (same x) ∙ ap (λ l. cond (q x) (x ∷ l) l) (filter_alike p q same xs)

zero_alike : (heap : Heap) (outside others : List Ref) → AreAlike outside others → (r : Ref) → is_zero heap outside r ≡ is_zero heap others r
zero_alike heap outside others alike r =
    let same : count_of heap outside r ≡ count_of heap others r = omega (arith, count_found heap outside r, count_found heap others r, alike r) in
    ap (λ n. n == 0) same

pub counts_alone : CountsAlone
counts_alone heap outside others epoch limbo alike =
    let fresh : newly_zero heap outside limbo ≡ newly_zero heap others limbo =
    ap by_birth (filter_alike (λ r. is_zero heap outside r && not (is_in limbo r)) (λ r. is_zero heap others r && not (is_in limbo r))
    (λ r. ap (λ b. b && not (is_in limbo r)) (zero_alike heap outside others alike r)) (in_use heap)) in
    let stays : staying heap outside limbo ≡ staying heap others limbo =
    filter_alike (λ (z : Zeroed). is_in_use heap z.at && is_zero heap outside z.at) (λ (z : Zeroed). is_in_use heap z.at && is_zero heap others z.at)
    (λ z. ap (λ b. is_in_use heap z.at && b) (zero_alike heap outside others alike z.at)) limbo in
    ap (λ (l : List Zeroed). l ++ map (λ r. record { at = r; epoch = epoch }) (newly_zero heap outside limbo)) stays
    ∙ ap (λ (l : List Ref). staying heap others limbo ++ map (λ r. record { at = r; epoch = epoch }) l) fresh

-- ---- an entry of a freed slot

emptied : (slots : List (Option Slot)) (k : ℕ) → get_or (set slots k None) k None ≡ None
emptied slots k = elim (cases_lt k (length slots)) [
  | inl within ↦ get_or-set_same slots k None None within
  | inr past ↦ get_or_past (set slots k None) k None (omega (arith, length-set slots k None))
]

pub freed_dead : (heap : Heap) (r : Ref) → live (freed heap r).slots r ≡ false
freed_dead heap r = ap (λ (h : Heap). live h.slots r) (freed_seen heap r) ∙ ap (has_birth (birth_of r)) (emptied heap.slots (slot_of r))

module _ (heap : Heap) (outside : List Ref) (epoch : ℕ) (entry : Zeroed) (limbo : List Zeroed) where
  abbrev now : Heap
  now = freed heap entry.at

  gone : times entry.at (in_use now) ≡ 0
  gone = times-in_use now entry.at ∙ ap bit (freed_dead heap entry.at)

  leaves : staying now outside (entry ∷ limbo) ≡ staying now outside limbo
  leaves =
      ap (λ b. cond (b && is_zero now outside entry.at) (entry ∷ staying now outside limbo) (staying now outside limbo)) (any_times entry.at (in_use now) ∙ ap (nat_lt 0) gone)

  same_new : newly_zero now outside (entry ∷ limbo) ≡ newly_zero now outside limbo
  same_new =
      ap by_birth (filter_same (λ r. 0 < times r (in_use now)) (λ r. is_zero now outside r && not (is_in (entry ∷ limbo) r)) (λ r. is_zero now outside r && not (is_in limbo r))
      (λ r some. ap (λ b. is_zero now outside r && not (b || is_in limbo r)) (ne_eqb entry.at r (λ same. absurd (omega (arith, gone, ap (λ q. times q (in_use now)) same)))))
      (in_use now) (all_members (in_use now)))

pub freed_leaves : FreedLeaves
freed_leaves heap outside epoch entry limbo =
    ap (λ (l : List Zeroed). l ++ map (λ r. record { at = r; epoch = epoch }) (newly_zero (freed heap entry.at) outside (entry ∷ limbo))) (leaves heap outside epoch entry limbo)
    ∙ ap (λ (l : List Ref). staying (freed heap entry.at) outside limbo ++ map (λ r. record { at = r; epoch = epoch }) l) (same_new heap outside epoch entry limbo)
