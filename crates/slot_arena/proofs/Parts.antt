-- Slots from their parts, under reads and writes of the parts.
use Rattle.std.proofs.Common.{◌≡◌, ℕ, zero, suc, ◌<◌, List, [], ◌∷◌, length, replicate, get_or}
use Rattle.std.proofs.Common.{set, Option, Some, None, IsSome, is_some, refl, sym, ap, subst, inl, inr, arith}
use Rattle.std.proofs.lemmas.Bool.{cases_eq, false≢true}
use Rattle.std.proofs.lemmas.List.{get_or-set_same, get_or-set_other, length-set, set-get_or}
use Rattle.std.specs.Prelude.{option_map}
use Rattle.slot_arena.specs.declared.refs.Ref.{Ref}
use Rattle.slot_arena.specs.declared.nodes.Node.{Node}
use Rattle.slot_arena.specs.declared.nodes.Prev.{Prev}
use Rattle.slot_arena.specs.declared.nodes.Prev.TheVariants as prev
use Rattle.slot_arena.specs.declared.nodes.Slot.{Slot}
use Rattle.slot_arena.specs.Heaps.{node_of, prev_of, with_main_word, main_changed, prev_changed}
use Rattle.slot_arena.specs.Cells.{slot_from, slots_from, Agree, AreParts, birth_of_slot}

-- a slot that is there has all its parts
pub within : (bs : List ℕ) (ns : List (Option Node)) (ps : List Prev) (k : ℕ) → k < length (slots_from bs ns ps) → (k < length bs) × (k < length ns) × (k < length ps)
within [] ns ps k h = absurd (omega arith)
within (b ∷ bs) [] ps k h = absurd (omega arith)
within (b ∷ bs) (n ∷ ns) [] k h = absurd (omega arith)
within (b ∷ bs) (n ∷ ns) (p ∷ ps) zero h = (omega arith, omega arith, omega arith)
within (b ∷ bs) (n ∷ ns) (p ∷ ps) (suc k) h = let rest = within bs ns ps k (omega arith) in (omega arith, omega arith, omega arith)

-- and all its parts make a slot
pub length-slots_from : (bs : List ℕ) (ns : List (Option Node)) (ps : List Prev) → length ns ≡ length bs → length ps ≡ length bs → length (slots_from bs ns ps) ≡ length bs
length-slots_from [] ns ps e f = refl
length-slots_from (b ∷ bs) [] ps e f = absurd (omega arith)
length-slots_from (b ∷ bs) (n ∷ ns) [] e f = absurd (omega arith)
length-slots_from (b ∷ bs) (n ∷ ns) (p ∷ ps) e f = ap suc (length-slots_from bs ns ps (omega arith) (omega arith))

-- what is found in use is a slot
pub used_within : {X : Type 0} (xs : List (Option X)) (k : ℕ) → IsSome (get_or xs k None) → k < length xs
used_within [] k h = absurd (false≢true h)
used_within (x ∷ xs) zero h = omega arith
used_within (x ∷ xs) (suc k) h = let rest = used_within xs k h in omega arith

-- a slot in use stays so where what stands in one changes
pub used_changed : (slots : List (Option Slot)) (k j : ℕ) (f : Slot → Slot) → IsSome (get_or slots j None) → IsSome (get_or (set slots k (option_map f (get_or slots k None))) j None)
used_changed [] k j f h = h
used_changed (None ∷ slots) zero j f h = h
used_changed (Some slot ∷ slots) zero zero f h = refl
used_changed (Some slot ∷ slots) zero (suc j) f h = h
used_changed (o ∷ slots) (suc k) zero f h = h
used_changed (o ∷ slots) (suc k) (suc j) f h = used_changed slots k j f h

-- ---- what is read

rest : (b : ℕ) (bs : List ℕ) (n : Option Node) (ns : List (Option Node)) (p : Prev) (ps : List Prev) → AreParts (b ∷ bs) (n ∷ ns) (p ∷ ps) → AreParts bs ns ps
rest b bs n ns p ps are = record { nodes_all = omega (arith, are.nodes_all); prevs_all = omega (arith, are.prevs_all); each = λ slot. are.each (suc slot) }

node_one : (b : ℕ) (n : Option Node) (p : Prev) → n ≡ option_map (λ (s : Slot). s.node) (slot_from b n p)
node_one b None p = refl
node_one b (Some node) p = refl

pub node_read : (bs : List ℕ) (ns : List (Option Node)) (ps : List Prev) → AreParts bs ns ps → (k : ℕ) → get_or ns k None ≡ option_map (λ (s : Slot). s.node) (get_or (slots_from bs ns ps) k None)
node_read [] [] ps are k = refl
node_read [] (n ∷ ns) ps are k = absurd (omega (arith, are.nodes_all))
node_read (b ∷ bs) [] ps are k = absurd (omega (arith, are.nodes_all))
node_read (b ∷ bs) (n ∷ ns) [] are k = absurd (omega (arith, are.prevs_all))
node_read (b ∷ bs) (n ∷ ns) (p ∷ ps) are zero = node_one b n p
node_read (b ∷ bs) (n ∷ ns) (p ∷ ps) are (suc k) = node_read bs ns ps (rest b bs n ns p ps are) k

prev_one : (b : ℕ) (n : Option Node) (p : Prev) → Agree b n p → p ≡ prev_of (slot_from b n p)
prev_one b None p (born, word) = word
prev_one b (Some node) p born = refl

pub prev_read : (bs : List ℕ) (ns : List (Option Node)) (ps : List Prev) → AreParts bs ns ps → (k : ℕ) → get_or ps k prev.None ≡ prev_of (get_or (slots_from bs ns ps) k None)
prev_read [] ns [] are k = refl
prev_read [] ns (p ∷ ps) are k = absurd (omega (arith, are.prevs_all))
prev_read (b ∷ bs) [] ps are k = absurd (omega (arith, are.nodes_all))
prev_read (b ∷ bs) (n ∷ ns) [] are k = absurd (omega (arith, are.prevs_all))
prev_read (b ∷ bs) (n ∷ ns) (p ∷ ps) are zero = prev_one b n p (are.each zero)
prev_read (b ∷ bs) (n ∷ ns) (p ∷ ps) are (suc k) = prev_read bs ns ps (rest b bs n ns p ps are) k

birth_one : (b : ℕ) (n : Option Node) (p : Prev) → Agree b n p → b ≡ birth_of_slot (slot_from b n p)
birth_one b None p (born, word) = born
birth_one b (Some node) p born = refl

pub birth_read : (bs : List ℕ) (ns : List (Option Node)) (ps : List Prev) → AreParts bs ns ps → (k : ℕ) → get_or bs k 0 ≡ birth_of_slot (get_or (slots_from bs ns ps) k None)
birth_read [] ns ps are k = refl
birth_read (b ∷ bs) [] ps are k = absurd (omega (arith, are.nodes_all))
birth_read (b ∷ bs) (n ∷ ns) [] are k = absurd (omega (arith, are.prevs_all))
birth_read (b ∷ bs) (n ∷ ns) (p ∷ ps) are zero = birth_one b n p (are.each zero)
birth_read (b ∷ bs) (n ∷ ns) (p ∷ ps) are (suc k) = birth_read bs ns ps (rest b bs n ns p ps are) k

none_one : (b : ℕ) (n : Option Node) (p : Prev) → Agree b n p → b ≡ 0 → slot_from b n p ≡ None
none_one b None p agree none = refl
none_one b (Some node) p born none = absurd (omega (arith, born, none))

-- a slot without a birth isn't in use
pub birth_none : (bs : List ℕ) (ns : List (Option Node)) (ps : List Prev) → AreParts bs ns ps → (k : ℕ) → get_or bs k 0 ≡ 0 → get_or (slots_from bs ns ps) k None ≡ None
birth_none [] ns ps are k h = refl
birth_none (b ∷ bs) [] ps are k h = refl
birth_none (b ∷ bs) (n ∷ ns) [] are k h = refl
birth_none (b ∷ bs) (n ∷ ns) (p ∷ ps) are zero h = none_one b n p (are.each zero) h
birth_none (b ∷ bs) (n ∷ ns) (p ∷ ps) are (suc k) h = birth_none bs ns ps (rest b bs n ns p ps are) k h

-- where a slot is in use its node is that
pub node_shown : (o : Option Slot) (node : Node) → Some node ≡ option_map (λ (s : Slot). s.node) o → node ≡ node_of o
node_shown None node is = cc
node_shown (Some slot) node is = cc

pub is_some-map : {X Y : Type 0} (f : X → Y) (o : Option X) → is_some (option_map f o) ≡ is_some o
is_some-map f None = refl
is_some-map f (Some x) = refl

-- ---- what is written

pub cleared : (bs : List ℕ) (ns : List (Option Node)) (ps : List Prev) (k : ℕ) → slots_from (set bs k 0) (set ns k None) (set ps k prev.None) ≡ set (slots_from bs ns ps) k None
cleared [] ns ps k = refl
cleared (b ∷ bs) [] ps zero = refl
cleared (b ∷ bs) [] ps (suc k) = refl
cleared (b ∷ bs) (n ∷ ns) [] zero = refl
cleared (b ∷ bs) (n ∷ ns) [] (suc k) = refl
cleared (b ∷ bs) (n ∷ ns) (p ∷ ps) zero = refl
cleared (b ∷ bs) (n ∷ ns) (p ∷ ps) (suc k) = ap (λ s. slot_from b n p ∷ s) (cleared bs ns ps k)

pub filled : (bs : List ℕ) (ns : List (Option Node)) (ps : List Prev) (k birth : ℕ) (node : Node) → get_or ps k prev.None ≡ prev.None →
    slots_from (set bs k birth) (set ns k (Some node)) ps ≡ set (slots_from bs ns ps) k (Some (record { birth = birth; node = node; prev = prev.None }))
filled [] ns ps k birth node none = refl
filled (b ∷ bs) [] ps zero birth node none = refl
filled (b ∷ bs) [] ps (suc k) birth node none = refl
filled (b ∷ bs) (n ∷ ns) [] zero birth node none = refl
filled (b ∷ bs) (n ∷ ns) [] (suc k) birth node none = refl
filled (b ∷ bs) (n ∷ ns) (p ∷ ps) zero birth node none = ap (λ q. slot_from birth (Some node) q ∷ slots_from bs ns ps) none
filled (b ∷ bs) (n ∷ ns) (p ∷ ps) (suc k) birth node none = ap (λ s. slot_from b n p ∷ s) (filled bs ns ps k birth node none)

main_in : (b : ℕ) (n : Option Node) (p : Prev) (m : Ref) → slot_from b (option_map (with_main_word m) n) p ≡ option_map (main_changed m) (slot_from b n p)
main_in b None p m = refl
main_in b (Some node) p m = refl

pub main_written : (bs : List ℕ) (ns : List (Option Node)) (ps : List Prev) (k : ℕ) (m : Ref) →
    slots_from bs (set ns k (option_map (with_main_word m) (get_or ns k None))) ps ≡ set (slots_from bs ns ps) k (option_map (main_changed m) (get_or (slots_from bs ns ps) k None))
main_written [] ns ps k m = refl
main_written (b ∷ bs) [] ps zero m = refl
main_written (b ∷ bs) [] ps (suc k) m = refl
main_written (b ∷ bs) (n ∷ ns) [] zero m = refl
main_written (b ∷ bs) (n ∷ ns) [] (suc k) m = refl
main_written (b ∷ bs) (n ∷ ns) (p ∷ ps) zero m = ap (λ s. s ∷ slots_from bs ns ps) (main_in b n p m)
main_written (b ∷ bs) (n ∷ ns) (p ∷ ps) (suc k) m = ap (λ s. slot_from b n p ∷ s) (main_written bs ns ps k m)

prev_put : (b : ℕ) (n : Option Node) (p q : Prev) → slot_from b n q ≡ option_map (prev_changed q) (slot_from b n p)
prev_put b None p q = refl
prev_put b (Some node) p q = refl

pub prev_written : (bs : List ℕ) (ns : List (Option Node)) (ps : List Prev) (k : ℕ) (q : Prev) →
    slots_from bs ns (set ps k q) ≡ set (slots_from bs ns ps) k (option_map (prev_changed q) (get_or (slots_from bs ns ps) k None))
prev_written [] ns ps k q = refl
prev_written (b ∷ bs) [] ps zero q = refl
prev_written (b ∷ bs) [] ps (suc k) q = refl
prev_written (b ∷ bs) (n ∷ ns) [] zero q = refl
prev_written (b ∷ bs) (n ∷ ns) [] (suc k) q = refl
prev_written (b ∷ bs) (n ∷ ns) (p ∷ ps) zero q = ap (λ s. s ∷ slots_from bs ns ps) (prev_put b n p q)
prev_written (b ∷ bs) (n ∷ ns) (p ∷ ps) (suc k) q = ap (λ s. slot_from b n p ∷ s) (prev_written bs ns ps k q)

-- ---- parts that agree

agree_by : (b c : ℕ) (n m : Option Node) (p q : Prev) → c ≡ b → m ≡ n → q ≡ p → Agree b n p → Agree c m q
agree_by b c n m p q e f g is = subst (λ x. Agree x m q) (sym e) (subst (λ y. Agree b y q) (sym f) (subst (λ z. Agree b n z) (sym g) is))

agree_main : (b : ℕ) (n : Option Node) (p : Prev) (m : Ref) → Agree b n p → Agree b (option_map (with_main_word m) n) p
agree_main b None p m is = is
agree_main b (Some node) p m is = is

agree_prev : (b : ℕ) (n : Option Node) (p q : Prev) → IsSome n → Agree b n p → Agree b n q
agree_prev b None p q used is = absurd (false≢true used)
agree_prev b (Some node) p q used is = is

module _ (bs : List ℕ) (ns : List (Option Node)) (ps : List Prev) (are : AreParts bs ns ps) (k : ℕ) (there : k < length bs) where
  -- all parts of a slot are written
  pub parts_set : (b : ℕ) (n : Option Node) (p : Prev) → Agree b n p → AreParts (set bs k b) (set ns k n) (set ps k p)
  parts_set b n p is = record {
    nodes_all = omega (arith, are.nodes_all, length-set bs k b, length-set ns k n);
    prevs_all = omega (arith, are.prevs_all, length-set bs k b, length-set ps k p);
    each = λ slot. elim (cases_eq slot k) [
      | inl same ↦
          subst (λ i. Agree (get_or (set bs k b) i 0) (get_or (set ns k n) i None) (get_or (set ps k p) i prev.None)) (sym same)
          (agree_by b _ n _ p _ (get_or-set_same bs k b 0 there) (get_or-set_same ns k n None (omega (arith, are.nodes_all))) (get_or-set_same ps k p prev.None (omega (arith, are.prevs_all))) is)
      | inr other ↦
          agree_by (get_or bs slot 0) _ (get_or ns slot None) _ (get_or ps slot prev.None) _ (get_or-set_other bs k slot b 0 other) (get_or-set_other ns k slot n None other)
          (get_or-set_other ps k slot p prev.None other) (are.each slot)
    ];
  }

  -- all but its prev word are
  pub parts_filled : (b : ℕ) (node : Node) → 0 < b → AreParts (set bs k b) (set ns k (Some node)) ps
  parts_filled b node born =
      subst (λ qs. AreParts (set bs k b) (set ns k (Some node)) qs) (set-get_or ps k prev.None) (parts_set b (Some node) (get_or ps k prev.None) born)

  -- a main word is
  pub parts_main : (m : Ref) → AreParts bs (set ns k (option_map (with_main_word m) (get_or ns k None))) ps
  parts_main m =
      let n : Option Node = option_map (with_main_word m) (get_or ns k None) in
      record {
        nodes_all = omega (arith, are.nodes_all, length-set ns k n);
        prevs_all = are.prevs_all;
        each = λ slot. elim (cases_eq slot k) [
          | inl same ↦
              subst (λ i. Agree (get_or bs i 0) (get_or (set ns k n) i None) (get_or ps i prev.None)) (sym same)
              (agree_by (get_or bs k 0) _ n _ (get_or ps k prev.None) _ refl (get_or-set_same ns k n None (omega (arith, are.nodes_all))) refl
              (agree_main (get_or bs k 0) (get_or ns k None) (get_or ps k prev.None) m (are.each k)))
          | inr other ↦ agree_by (get_or bs slot 0) _ (get_or ns slot None) _ (get_or ps slot prev.None) _ refl (get_or-set_other ns k slot n None other) refl (are.each slot)
        ];
      }

  -- the prev word of a slot in use is
  pub parts_prev : (q : Prev) → IsSome (get_or ns k None) → AreParts bs ns (set ps k q)
  parts_prev q used = record {
    nodes_all = are.nodes_all;
    prevs_all = omega (arith, are.prevs_all, length-set ps k q);
    each = λ slot. elim (cases_eq slot k) [
      | inl same ↦
          subst (λ i. Agree (get_or bs i 0) (get_or ns i None) (get_or (set ps k q) i prev.None)) (sym same)
          (agree_by (get_or bs k 0) _ (get_or ns k None) _ q _ refl refl (get_or-set_same ps k q prev.None (omega (arith, are.prevs_all)))
          (agree_prev (get_or bs k 0) (get_or ns k None) (get_or ps k prev.None) q used (are.each k)))
      | inr other ↦ agree_by (get_or bs slot 0) _ (get_or ns slot None) _ (get_or ps slot prev.None) _ refl refl (get_or-set_other ps k slot q prev.None other) (are.each slot)
    ];
  }

-- ---- at the beginning

pub none_used : (count : ℕ) → slots_from (replicate count 0) (replicate count None) (replicate count prev.None) ≡ replicate count None
none_used zero = refl
none_used (suc n) = ap (λ s. None ∷ s) (none_used n)
