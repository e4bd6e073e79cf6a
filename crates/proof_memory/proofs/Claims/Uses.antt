-- Claims: how they are made and used, and that they stay true where what they speak of stays.
use Rattle.std.proofs.Common.{◌≡◌, ℕ, ◌<◌, Bool, true, List, [], ◌∷◌, ◌++◌, All, Contains, length, get_or, refl, sym, ap, ◌∙◌, subst, arith}
use Rattle.std.proofs.lemmas.List.Elements.{All-weaker, Contains-get_or}
use Rattle.proof_memory.specs.Vocabulary.{Ref, Node, Indirection, Branch, Single, Tomb, List as Listed, Heap, node_at, entry_at, entries_of, with_main_word, no_ref}
use Rattle.proof_memory.specs.Laws.{SameNode}
use Rattle.proof_memory.specs.Wants.{Wanted, AnIndirection, meets, Claim, Is, Each, EntryIs, So, Holds, is, each, entry_is, so, AllHold}

-- ---- made and used

-- under the reference stands what is wanted
abbrev pub Meets : (Ref → Type 0) → Heap → Wanted → Ref → Type 0
Meets S heap wanted r = S r × (meets wanted (node_at heap r) ≡ true)

pub safe_of : {S : Ref → Type 0} {heap : Heap} {r : Ref} {wanted : Wanted} → Holds S heap (Is r wanted) → S r
safe_of (is s e) = s

pub meets_of : {S : Ref → Type 0} {heap : Heap} {r : Ref} {wanted : Wanted} → Holds S heap (Is r wanted) → meets wanted (node_at heap r) ≡ true
meets_of (is s e) = e

-- what meets one meets another
pub is_also : {S : Ref → Type 0} {heap : Heap} {r : Ref} {wanted : Wanted} (other : Wanted) → ((node : Node) → meets wanted node ≡ true → meets other node ≡ true) →
    Holds S heap (Is r wanted) → Holds S heap (Is r other)
is_also {heap} {r} other f h = is (safe_of h) (f (node_at heap r) (meets_of h))

pub all_of : {S : Ref → Type 0} {heap : Heap} {rs : List Ref} {wanted : Wanted} → Holds S heap (Each rs wanted) → All (Meets S heap wanted) rs
all_of (each all) = all

pub as_meets : {S : Ref → Type 0} {heap : Heap} {r : Ref} {wanted : Wanted} → Holds S heap (Is r wanted) → Meets S heap wanted r
as_meets (is s e) = (s, e)

pub from_meets : {S : Ref → Type 0} {heap : Heap} {wanted : Wanted} (r : Ref) → Meets S heap wanted r → Holds S heap (Is r wanted)
from_meets r h = is h.0 h.1

pub fact_of : {S : Ref → Type 0} {heap : Heap} {fact : Bool} → Holds S heap (So fact) → fact ≡ true
fact_of (so e) = e

pub entry_of : {S : Ref → Type 0} {heap : Heap} {main : Ref} {position : ℕ} {wanted : Wanted} → Holds S heap (EntryIs main position wanted) →
    Meets S heap wanted (entry_at heap main position)
entry_of (entry_is s h t e) = (t, e)

-- claims one after another
pub both_hold : (S : Ref → Type 0) (heap : Heap) (xs ys : List Claim) → AllHold S heap xs → AllHold S heap ys → AllHold S heap (xs ++ ys)
both_hold S heap [] ys h g = g
both_hold S heap (x ∷ xs) ys h g = (h.0, both_hold S heap xs ys h.1 g)

pub first_hold : (S : Ref → Type 0) (heap : Heap) (xs ys : List Claim) → AllHold S heap (xs ++ ys) → AllHold S heap xs
first_hold S heap [] ys h = tt
first_hold S heap (x ∷ xs) ys h = (h.0, first_hold S heap xs ys h.1)

pub last_hold : (S : Ref → Type 0) (heap : Heap) (xs ys : List Claim) → AllHold S heap (xs ++ ys) → AllHold S heap ys
last_hold S heap [] ys h = h
last_hold S heap (x ∷ xs) ys h = last_hold S heap xs ys h.1

-- ---- a node is the same but for its main word

pub same_node : (node : Node) → SameNode node node
same_node (Indirection generation main) = (main, refl)
same_node (Branch bitmap entries) = (0, refl)
same_node (Single key value) = (0, refl)
same_node (Tomb single) = (0, refl)
same_node (Listed singles) = (0, refl)

-- what is wanted of an indirection doesn't depend on its main word
of_indirection : (wanted : Wanted) (generation main m : ℕ) → meets wanted (Indirection generation m) ≡ meets wanted (Indirection generation main)
of_indirection AnIndirection generation main m = refl
of_indirection wanted generation main m = refl

meets_kept : (wanted : Wanted) (m : Ref) (node : Node) → meets wanted (with_main_word m node) ≡ meets wanted node
meets_kept wanted m (Indirection generation main) = of_indirection wanted generation main m
meets_kept wanted m (Branch bitmap entries) = refl
meets_kept wanted m (Single key value) = refl
meets_kept wanted m (Tomb single) = refl
meets_kept wanted m (Listed singles) = refl

pub meets_same : (wanted : Wanted) (before after : Node) → SameNode before after → meets wanted after ≡ meets wanted before
meets_same wanted before after (m, e) = ap (meets wanted) e ∙ meets_kept wanted m before

entries_kept : (m : Ref) (node : Node) → entries_of (with_main_word m node) ≡ entries_of node
entries_kept m (Indirection generation main) = refl
entries_kept m (Branch bitmap entries) = refl
entries_kept m (Single key value) = refl
entries_kept m (Tomb single) = refl
entries_kept m (Listed singles) = refl

pub entries_same : (before after : Node) → SameNode before after → entries_of after ≡ entries_of before
entries_same before after (m, e) = ap entries_of e ∙ entries_kept m before

-- ---- claims stay true

-- what is safe before is safe after, under the same node
abbrev pub Carries : (Ref → Type 0) → Heap → (Ref → Type 0) → Heap → Type 0
Carries S heap T after = (r : Ref) → S r → T r × SameNode (node_at heap r) (node_at after r)

module _ (S : Ref → Type 0) (heap : Heap) (T : Ref → Type 0) (after : Heap) (carries : Carries S heap T after) where
  meets_carried : (wanted : Wanted) (r : Ref) → Meets S heap wanted r → Meets T after wanted r
  meets_carried wanted r h = ((carries r h.0).0, meets_same wanted (node_at heap r) (node_at after r) ((carries r h.0).1) ∙ h.1)

  entry_carried : (main : Ref) (position : ℕ) → S main → entry_at after main position ≡ entry_at heap main position
  entry_carried main position s = ap (λ es. get_or es position no_ref) (entries_same (node_at heap main) (node_at after main) ((carries main s).1))

  pub carried : {claim : Claim} → Holds S heap claim → Holds T after claim
  carried (is {r} {wanted} s e) = from_meets r (meets_carried wanted r (s, e))
  carried (each {rs} {wanted} all) = each (All-weaker (Meets S heap wanted) (Meets T after wanted) (meets_carried wanted) rs all)
  carried (entry_is {main} {position} {wanted} s h t e) =
      let same = entry_carried main position s in
      let entry = meets_carried wanted (entry_at heap main position) (t, e) in
      entry_is ((carries main s).0) (subst (λ es. position < length es) (sym (entries_same (node_at heap main) (node_at after main) ((carries main s).1))) h)
      (subst T (sym same) entry.0) (subst (λ r. meets wanted (node_at after r) ≡ true) (sym same) entry.1)
  carried (so e) = so e

  -- and so all of them
  pub all_carried : (claims : List Claim) → AllHold S heap claims → AllHold T after claims
  all_carried [] h = tt
  all_carried (claim ∷ claims) h = (carried h.0, all_carried claims h.1)

-- ---- safe by another measure

-- the references of a claim that stands in a node or a word
abbrev pub refs_of_claim : Claim → List Ref
refs_of_claim (Is r wanted) = r ∷ []
refs_of_claim (Each rs wanted) = rs
refs_of_claim claim = []

-- a claim on a node or a word
abbrev pub IsPlain : Claim → Type 0
IsPlain (EntryIs main position wanted) = ⊥
IsPlain claim = Unit {0}

pub safer : (S T : Ref → Type 0) (heap : Heap) (claim : Claim) → IsPlain claim → ((r : Ref) → Contains (refs_of_claim claim) r → S r → T r) → Holds S heap claim → Holds T heap claim
safer S T heap (Is r wanted) p f h = is (f r (Contains-get_or (r ∷ []) 0 r (omega arith)) (safe_of h)) (meets_of h)
safer S T heap (Each rs wanted) p f h = each (λ k d within. let at_k = all_of h k d within in (f (get_or rs k d) (Contains-get_or rs k d within) at_k.0, at_k.1))
safer S T heap (EntryIs main position wanted) p f h = absurd p
safer S T heap (So fact) p f h = so (fact_of h)
