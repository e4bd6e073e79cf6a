-- Chains under writes.
use Rattle.std.proofs.Common.{◌≡◌, ℕ, zero, suc, ◌+◌, ◌<◌, List, [], ◌∷◌, length, set, drop, slice_index, refl, sym, ap, ◌∙◌, arith}
use Rattle.std.proofs.lemmas.List.{get_or-set_same, get_or-set_other, length-set}
use Rattle.std.specs.List.{range_with_len}
use Rattle.slot_arena.specs.Times.{times}
use Rattle.slot_arena.specs.Chains.{LeadsTo}
use Rattle.slot_arena.proofs.Times.{once, once_same, once_other, times-cons}

-- what stands in a list with another in front
pub not_first : (n m : ℕ) (ms : List ℕ) → times n (m ∷ ms) ≡ 0 → n ≡ m → ⊥
not_first n m ms none same = let here : once n m ≡ 1 = ap (once n) (sym same) ∙ once_same n in absurd (omega (arith, times-cons n m ms))

pub not_later : (n m : ℕ) (ms : List ℕ) → times n (m ∷ ms) ≡ 0 → times n ms ≡ 0
not_later n m ms none = omega (arith, times-cons n m ms)

-- the slots of a chain are below the end
pub end_apart : (links : List ℕ) (end from : ℕ) (slots : List ℕ) → LeadsTo links end from slots → times end slots ≡ 0
end_apart links end from [] leads = refl
end_apart links end from (slot ∷ slots) (at, below, once_only, later) =
    omega (arith, times-cons end slot slots, end_apart links end slot slots later, once_other end slot (λ same. omega arith))

-- a write to a link outside leaves the chain
pub written_apart : (links : List ℕ) (end from : ℕ) (slots : List ℕ) (at y : ℕ) → LeadsTo links end from slots → (from ≡ at → ⊥) → times at slots ≡ 0 → LeadsTo (set links at y) end from slots
written_apart links end from [] at y leads apart none = get_or-set_other links at from y 0 apart ∙ leads
written_apart links end from (slot ∷ slots) at y (is, below, once_only, later) apart none =
    (get_or-set_other links at from y 0 apart ∙ is, below, once_only, written_apart links end slot slots at y later (λ same. not_first at slot slots none (sym same)) (not_later at slot slots none))

-- a link that leads where another leads
pub led_as : (links : List ℕ) (end from other : ℕ) (slots : List ℕ) → LeadsTo links end from slots → slice_index links other ≡ slice_index links from → LeadsTo links end other slots
led_as links end from other [] leads same = same ∙ leads
led_as links end from other (slot ∷ slots) (is, below, once_only, later) same = (same ∙ is, below, once_only, later)

-- the end's link leads to the second slot: the first one is taken
pub chain_taken : (links : List ℕ) (end slot : ℕ) (slots : List ℕ) → LeadsTo links end end (slot ∷ slots) → end < length links → LeadsTo (set links end (slice_index links slot)) end end slots
chain_taken links end slot slots (is, below, once_only, later) within =
    led_as (set links end (slice_index links slot)) end slot end slots
    (written_apart links end slot slots end (slice_index links slot) later (λ same. omega arith) (end_apart links end slot slots later))
    (get_or-set_same links end (slice_index links slot) 0 within ∙ sym (get_or-set_other links end slot (slice_index links slot) 0 (λ same. omega arith)))

-- the end's link leads to a slot whose link leads to the first one: it is in front
pub chain_put : (links : List ℕ) (end slot : ℕ) (slots : List ℕ) → LeadsTo links end end slots → end < length links → slot < end → times slot slots ≡ 0 →
    LeadsTo (set (set links slot (slice_index links end)) end slot) end end (slot ∷ slots)
chain_put links end slot slots leads within below none =
    let first = slice_index links end in
    let once_written : List ℕ = set links slot first in
    let size : end < length once_written = omega (arith, length-set links slot first) in
    let here : LeadsTo once_written end slot slots =
    led_as once_written end end slot slots (written_apart links end end slots slot first leads (λ same. omega arith) none)
    (get_or-set_same links slot first 0 (omega arith) ∙ sym (get_or-set_other links slot end first 0 (λ same. omega arith))) in
    (get_or-set_same once_written end slot 0 size, below, none, written_apart once_written end slot slots end slot here (λ same. omega arith) (end_apart links end end slots leads))

-- numbers below a range don't stand in it
below_range : (k a n : ℕ) → k < a → times k (range_with_len a n) ≡ 0
below_range k a zero below = refl
below_range k a (suc n) below = omega (arith, times-cons k a (range_with_len (a + 1) n), once_other k a (λ same. omega arith), below_range k (a + 1) n (omega arith))

-- links each to the next number lead through a range
pub range_leads : (links : List ℕ) (end from a n : ℕ) → ((k : ℕ) → k < end → slice_index links k ≡ k + 1) → slice_index links from ≡ a → a + n ≡ end → LeadsTo links end from (range_with_len a n)
range_leads links end from a zero each is sum = is ∙ omega arith
range_leads links end from a (suc n) each is sum =
    (is, omega arith, below_range a (a + 1) n (omega arith), range_leads links end a (a + 1) n each (each a (omega arith)) (omega arith))

-- where the end's link leads to the end, the chain has no slot
pub chain_empty : (links : List ℕ) (end first : ℕ) (slots : List ℕ) → LeadsTo links end end slots → first ≡ slice_index links end → first ≡ end → slots ≡ []
chain_empty links end first [] leads is done = refl
chain_empty links end first (slot ∷ slots) (at, below, once_only, later) is done = absurd (omega arith)

-- else it leads to the first one, which stands there once
pub chain_first : (links : List ℕ) (end first : ℕ) (slots : List ℕ) → LeadsTo links end end slots → first ≡ slice_index links end → (first ≡ end → ⊥) →
    (slots ≡ first ∷ drop 1 slots) × (first < end) × (times first (drop 1 slots) ≡ 0)
chain_first links end first [] leads is more = absurd (more (is ∙ leads))
chain_first links end first (slot ∷ slots) (at, below, once_only, later) is more =
    let same : first ≡ slot = is ∙ at in (ap (λ s. s ∷ slots) (sym same), omega arith, ap (λ s. times s slots) same ∙ once_only)
