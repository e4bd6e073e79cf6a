-- The bags list what waits, whatever the arena's calls do.
use Rattle.std.proofs.Common.{◌≡◌, ℕ, ◌+◌, ◌<◌, ◌≤◌, ◌==◌, not, Bool, true, false, cond, List, [], ◌∷◌, length, get_or, All, Option, Some, None, refl, sym, ap, ◌∙◌, subst, inl, inr, arith, eqb-true}
use Rattle.std.proofs.lemmas.Bool.{eqb-false}
use Rattle.slot_arena.specs.declared.nodes.Prev.TheVariants as prev
use Rattle.std.proofs.lemmas.Bool.{cases_eq}
use Rattle.std.proofs.lemmas.Option.{none-some}
use Rattle.std.proofs.lemmas.List.{length-set, get_or-set_same}
use Rattle.std.proofs.lemmas.List.Elements.{All-nil, All-cons, All-weaker}
use Rattle.slot_arena.specs.declared.refs.Ref.{Ref}
use Rattle.slot_arena.specs.declared.nodes.Node.{Node}
use Rattle.slot_arena.specs.declared.nodes.Prev.{Prev}
use Rattle.slot_arena.specs.Refs.{slot_of}
use Rattle.slot_arena.specs.Heaps.{Heap, taken, take_from, with_main, with_prev, main_changed, prev_changed, stored, freed}
use Rattle.std.specs.Prelude.{option_map}
use Rattle.slot_arena.specs.Times.{times, other_slots}
use Rattle.slot_arena.specs.Tallies.{naming}
use Rattle.slot_arena.specs.Arenas.{Contents, IsLive, AreLive, waiting, waiting_in, NotesWaiting, NotesWaitingBut}
use Rattle.slot_arena.proofs.Times.{once, once_same, once_other, times-cons}
use Rattle.slot_arena.proofs.Namings.{naming-cons}
use Rattle.slot_arena.proofs.Reading.{live_seen, freed_seen}
use Rattle.slot_arena.proofs.Live.{live_within}
use Rattle.epochs.specs.Rings.{Bags, all_of}
use Rattle.epochs.specs.Memories.{Lists, IsMemory}
use Rattle.epochs.specs.Settling.{bags_after}
use Rattle.epochs.proofs.Bags.{other_slots-all}
use Rattle.epochs.proofs.Sifting.{member_live, waiting_same}

-- ---- the number of slots stays

length-take_from : (heap : Heap) (node : Node) (free : List ℕ) → length (take_from heap node free).slots ≡ length heap.slots
length-take_from heap node [] = refl
length-take_from heap node (slot ∷ free) = length-set heap.slots slot (Some (record { birth = heap.births + 1; node = node; prev = prev.None }))

pub length-taken : (heap : Heap) (node : Node) → length (taken heap node).slots ≡ length heap.slots
unfolding taken
length-taken heap node = length-take_from heap node heap.free

pub length-with_main : (heap : Heap) (r m : Ref) → length (with_main heap r m).slots ≡ length heap.slots
unfolding with_main
length-with_main heap r m = length-set heap.slots (slot_of r) (option_map (main_changed m) (stored heap r))

pub length-with_prev : (heap : Heap) (r : Ref) (p : Prev) → length (with_prev heap r p).slots ≡ length heap.slots
unfolding with_prev
length-with_prev heap r p = length-set heap.slots (slot_of r) (option_map (prev_changed p) (stored heap r))

pub length-freed : (heap : Heap) (r : Ref) → length (freed heap r).slots ≡ length heap.slots
length-freed heap r = ap (λ (h : Heap). length h.slots) (freed_seen heap r) ∙ length-set heap.slots (slot_of r) None

-- ---- members

pub all_members : (rs : List Ref) → All (λ r. 0 < times r rs) rs
all_members [] = All-nil (λ (r : Ref). 0 < times r [])
all_members (r ∷ rs) =
    All-cons (λ q. 0 < times q (r ∷ rs)) r rs (omega (arith, times-cons r r rs, once_same r))
    (All-weaker (λ q. 0 < times q rs) (λ q. 0 < times q (r ∷ rs)) (λ q h. omega (arith, times-cons q r rs)) rs (all_members rs))

others_times_step : (k : ℕ) (q r : Ref) (rs : List Ref) (b : Bool) → (slot_of r == k) ≡ b → (0 < times q (other_slots k rs) → (0 < times q rs) × (slot_of q ≡ k → ⊥)) →
    0 < times q (cond (not b) (r ∷ other_slots k rs) (other_slots k rs)) → (0 < times q (r ∷ rs)) × (slot_of q ≡ k → ⊥)
others_times_step k q r rs true e later h = let found = later h in (omega (arith, times-cons q r rs), found.1)
others_times_step k q r rs false e later h = elim (cases_eq q r) [
  | inl same ↦ (omega (arith, times-cons q r rs, ap (once q) (sym same), once_same q), λ at. eqb-false (slot_of r) k e (ap slot_of (sym same) ∙ at))
  | inr other ↦ let found = later (omega (arith, h, times-cons q r (other_slots k rs), once_other q r other)) in (omega (arith, times-cons q r rs), found.1)
]

-- what is left of a list is of other slots
pub others_times : (k : ℕ) (q : Ref) (rs : List Ref) → 0 < times q (other_slots k rs) → (0 < times q rs) × (slot_of q ≡ k → ⊥)
others_times k q [] h = absurd (omega arith)
others_times k q (r ∷ rs) h = others_times_step k q r rs (slot_of r == k) refl (others_times k q rs) h

others_there_step : (k : ℕ) (q r : Ref) (rs : List Ref) (b : Bool) → (slot_of r == k) ≡ b → (slot_of q ≡ k → ⊥) → 0 < times q (r ∷ rs) → (0 < times q rs → 0 < times q (other_slots k rs)) →
    0 < times q (cond (not b) (r ∷ other_slots k rs) (other_slots k rs))
others_there_step k q r rs true e apart h later = elim (cases_eq q r) [
  | inl same ↦ absurd (apart (ap slot_of same ∙ eqb-true (slot_of r) k e))
  | inr other ↦ later (omega (arith, h, times-cons q r rs, once_other q r other))
]
others_there_step k q r rs false e apart h later = elim (cases_eq q r) [
  | inl same ↦ omega (arith, times-cons q r (other_slots k rs), ap (once q) (sym same), once_same q)
  | inr other ↦ omega (arith, times-cons q r (other_slots k rs), later (omega (arith, h, times-cons q r rs, once_other q r other)))
]

pub others_there : (k : ℕ) (q : Ref) (rs : List Ref) → (slot_of q ≡ k → ⊥) → 0 < times q rs → 0 < times q (other_slots k rs)
others_there k q [] apart h = absurd (omega arith)
others_there k q (r ∷ rs) apart h = others_there_step k q r rs (slot_of r == k) refl apart h (others_there k q rs apart)

naming_others_step : (j k : ℕ) (r : Ref) (rs : List Ref) (b : Bool) → naming j (other_slots k rs) ≤ naming j rs → naming j (cond (not b) (r ∷ other_slots k rs) (other_slots k rs)) ≤ naming j (r ∷ rs)
naming_others_step j k r rs true less = omega (arith, naming-cons j r rs)
naming_others_step j k r rs false less = omega (arith, naming-cons j r rs, naming-cons j r (other_slots k rs))

pub naming_others : (j k : ℕ) (rs : List Ref) → naming j (other_slots k rs) ≤ naming j rs
naming_others j k [] = omega arith
naming_others j k (r ∷ rs) = naming_others_step j k r rs (slot_of r == k) (naming_others j k rs)

-- ---- the arena's calls

pub lists_kept : (a b : Contents) (bags : Bags) → Lists a bags → length b.heap.slots ≡ length a.heap.slots → ((q : Ref) → IsLive a.heap q → IsLive b.heap q) → NotesWaiting a b → Lists b bags
lists_kept a b bags lists size stay notes = record {
  sizes = lists.sizes ∙ sym size;
  live = All-weaker (IsLive a.heap) (IsLive b.heap) stay (all_of bags) lists.live;
  single = lists.single;
  waits = λ r some none. let step = notes (slot_of r) none in sym step.1 ∙ lists.waits r some step.0;
  listed = λ r is none. let step = notes (slot_of r) none in lists.listed r (step.1 ∙ is) step.0;
}

pub memory_kept : (a b : Contents) (bags : Bags) (epoch cursor : ℕ) (pins : List (Option ℕ)) → IsMemory a bags epoch cursor pins → Lists b bags → IsMemory b bags epoch cursor pins
memory_kept a b bags epoch cursor pins memory lists = record {
  lists = lists;
  oldest_first = memory.oldest_first;
  middle_next = memory.middle_next;
  started = memory.started;
  passed = memory.passed;
  few = memory.few;
  recent = memory.recent;
}

-- only what the arena holds matters
pub lists_same : (a b : Contents) (bags : Bags) → b.heap ≡ a.heap → b.outside ≡ a.outside → b.noted ≡ a.noted → Lists a bags → Lists b bags
lists_same a b bags heap outside noted lists = record {
  sizes = lists.sizes ∙ sym (ap (λ (h : Heap). length h.slots) heap);
  live = subst (λ (h : Heap). AreLive h (all_of bags)) (sym heap) lists.live;
  single = lists.single;
  waits = λ r some none. waiting_same b a (slot_of r) heap outside ∙ lists.waits r some (sym (ap (times (slot_of r)) noted) ∙ none);
  listed = λ r is none. lists.listed r (sym (waiting_same b a (slot_of r) heap outside) ∙ is) (sym (ap (times (slot_of r)) noted) ∙ none);
}

-- a slot out of limbo is freed: it is in no bag then, and not in use, so whether it is noted doesn't matter
pub lists_freed : (a b : Contents) (bags : Bags) (at : Ref) → Lists a bags → 0 < times at (all_of bags) → b.heap ≡ freed a.heap at →
    ((q : Ref) → (q ≡ at → ⊥) → IsLive a.heap q → IsLive b.heap q) → NotesWaitingBut (slot_of at) a b → Lists b (bags_after None (slot_of at) bags)
lists_freed a b bags at lists some heap stay notes = record {
  sizes = lists.sizes ∙ sym (ap (λ (h : Heap). length h.slots) heap ∙ length-freed a.heap at);
  live = subst (AreLive b.heap) left
      (All-weaker (λ q. 0 < times q (other_slots (slot_of at) (all_of bags))) (IsLive b.heap)
      (λ q h. let found = others_times (slot_of at) q (all_of bags) h in stay q (λ same. found.1 (ap slot_of same)) (member_live a bags lists q found.0))
      (other_slots (slot_of at) (all_of bags)) (all_members (other_slots (slot_of at) (all_of bags))));
  single = λ j. subst (λ rs. naming j rs ≤ 1) left (omega (arith, naming_others j (slot_of at) (all_of bags), lists.single j));
  waits = λ r h none.
      let found = others_times (slot_of at) r (all_of bags) (subst (λ rs. 0 < times r rs) (sym left) h) in
      let step = notes (slot_of r) none in sym (step.1 found.1) ∙ lists.waits r found.0 step.0;
  listed = λ r is none.
      let apart : slot_of r ≡ slot_of at → ⊥ = λ same. none-some r (sym (ap (waiting b) same ∙ gone) ∙ is) in
      let step = notes (slot_of r) none in subst (λ rs. 0 < times r rs) left (others_there (slot_of at) r (all_of bags) apart (lists.listed r (step.1 apart ∙ is) step.0));
}
  where
    left : other_slots (slot_of at) (all_of bags) ≡ all_of (bags_after None (slot_of at) bags)
    left = other_slots-all (slot_of at) bags.oldest bags.middle bags.present

    within : slot_of at < length a.heap.slots
    within = live_within a.heap.slots at (live_seen a.heap at (member_live a bags lists at some))

    -- nothing waits in the freed slot
    gone : waiting b (slot_of at) ≡ None
    gone =
        ap (λ (h : Heap). waiting_in b.heap b.outside (slot_of at) (get_or h.slots (slot_of at) None)) (heap ∙ freed_seen a.heap at)
        ∙ ap (waiting_in b.heap b.outside (slot_of at)) (get_or-set_same a.heap.slots (slot_of at) None None within)

pub length_if : (b : Bool) (h h' : Heap) → length h.slots ≡ length h'.slots → length (cond b h h').slots ≡ length h'.slots
length_if true h h' same = same
length_if false h h' same = refl
