-- Claims and the references of which they speak.
use Rattle.std.proofs.Common.{◌≡◌, ℕ, ◌<◌, List, [], ◌∷◌, ◌++◌, All, Contains, length, get_or, sym, ap, ◌∙◌, subst, append-nil, arith, ◌⊎◌, inl, inr}
use Rattle.std.proofs.lemmas.List.Elements.{Contains-get_or, Contains-append_left, Contains-append_right, Contains-append_cases, All-contains}
use Rattle.proof_garbage.specs.Beneath.slot_arena.specs.declared.refs.Ref.{Ref}
use Rattle.proof_garbage.specs.Beneath.slot_arena.specs.declared.nodes.Node.{Node}
use Rattle.proof_garbage.specs.Beneath.slot_arena.specs.declared.nodes.Node.TheVariants.{Indirection, Branch, Single, Tomb, List as Listed}
use Rattle.proof_garbage.specs.Beneath.slot_arena.specs.declared.nodes.Prev.{Prev}
use Rattle.proof_garbage.specs.Beneath.slot_arena.specs.declared.nodes.Prev.TheVariants as prev
use Rattle.proof_garbage.specs.Beneath.slot_arena.specs.Heaps.{Heap, node_at, entry_at, entries_of, no_ref, refs_of_node, refs_of_prev, refs_of_option}
use Rattle.proof_garbage.specs.Beneath.machine_model.specs.declared.roots.RootWord.{RootWord}
use Rattle.proof_garbage.specs.Beneath.machine_model.specs.declared.roots.RootWord.TheVariants.{Plain, Offer}
use Rattle.proof_garbage.specs.Beneath.machine_model.specs.Counting.{refs_of_word}
use Rattle.proof_garbage.specs.Beneath.proof_memory.specs.Wants.{Claim, Is, Each, EntryIs, So, Holds, is, each, entry_is, so, AllHold, node_wants, prev_wants, word_wants}
use Rattle.proof_garbage.specs.Beneath.proof_memory.proofs.Claims.Uses.{safe_of, meets_of, all_of, fact_of}
use Rattle.proof_garbage.specs.Live.{refs_of_claim, refs_of_claims}

-- each of these references is so
abbrev pub Are : (Ref → Type 0) → List Ref → Type 0
Are K rs = (r : Ref) → Contains rs r → K r

pub none_in : {P : Type 0} (r : Ref) → Contains [] r → P
none_in r (i, within, at_i) = absurd (omega arith)

pub one_in : (K : Ref → Type 0) (x : Ref) → K x → Are K (x ∷ [])
one_in K x k r c = by_cases (Contains-append_cases (x ∷ []) [] r c)
  where
    by_cases : Contains (x ∷ []) r ⊎ Contains [] r → K r
    by_cases (inl (i, within, at_i)) = subst K (sym (ap (λ j. get_or (x ∷ []) j r) (zero_of i within)) ∙ at_i) k
      where
        zero_of : (i : ℕ) → i < length (x ∷ []) → i ≡ 0
        zero_of i within = omega arith
    by_cases (inr c) = none_in r c

pub both_in : (K : Ref → Type 0) (xs ys : List Ref) → Are K xs → Are K ys → Are K (xs ++ ys)
both_in K xs ys f g r c = elim (Contains-append_cases xs ys r c) [ inl a ↦ f r a | inr b ↦ g r b ]

pub first_of : (K : Ref → Type 0) (xs ys : List Ref) → Are K (xs ++ ys) → Are K xs
first_of K xs ys f r c = f r (Contains-append_left xs ys r c)

pub last_of : (K : Ref → Type 0) (xs ys : List Ref) → Are K (xs ++ ys) → Are K ys
last_of K xs ys f r c = f r (Contains-append_right xs ys r c)

pub from_all : (K : Ref → Type 0) (rs : List Ref) → All K rs → Are K rs
from_all K rs all r c = All-contains K rs r all c

-- ---- from what holds, the references

module _ (T : Ref → Type 0) (heap : Heap) where
  refs_of_one : (claim : Claim) → Holds T heap claim → Are T (refs_of_claim claim)
  refs_of_one (Is x wanted) h r c = one_in T x (safe_of h) r c
  refs_of_one (Each rs wanted) h r (i, within, at_i) = subst T at_i ((all_of h i r within).0)
  refs_of_one (EntryIs main position wanted) (entry_is s h t e) r c = one_in T main s r c
  refs_of_one (So fact) h r c = none_in r c

  pub refs_held : (claims : List Claim) → AllHold T heap claims → Are T (refs_of_claims claims)
  refs_held [] h r c = none_in r c
  refs_held (claim ∷ claims) h r c = both_in T (refs_of_claim claim) (refs_of_claims claims) (refs_of_one claim h.0) (refs_held claims h.1) r c

-- ---- from the references, what holds

module _ (S K : Ref → Type 0) (heap : Heap) (entries : (main : Ref) (position : ℕ) → K main → position < length (entries_of (node_at heap main)) → K (entry_at heap main position)) where
  held_one : (claim : Claim) → Holds S heap claim → Are K (refs_of_claim claim) → Holds K heap claim
  held_one (Is r wanted) h f = is (f r (Contains-get_or (r ∷ []) 0 r (omega arith))) (meets_of h)
  held_one (Each rs wanted) h f = each (λ k d within. (f (get_or rs k d) (Contains-get_or rs k d within), (all_of h k d within).1))
  held_one (EntryIs main position wanted) (entry_is s h t e) f =
      let k = f main (Contains-get_or (main ∷ []) 0 main (omega arith)) in entry_is k h (entries main position k h) e
  held_one (So fact) h f = so (fact_of h)

  pub hold_by : (claims : List Claim) → AllHold S heap claims → Are K (refs_of_claims claims) → AllHold K heap claims
  hold_by [] h f = tt
  hold_by (claim ∷ claims) h f =
      (held_one claim h.0 (first_of K (refs_of_claim claim) (refs_of_claims claims) f), hold_by claims h.1 (last_of K (refs_of_claim claim) (refs_of_claims claims) f))

-- ---- nodes and words

pub entry_in : (node : Node) (position : ℕ) → position < length (entries_of node) → Contains (refs_of_node node) (get_or (entries_of node) position no_ref)
entry_in (Indirection generation main) position within = absurd (omega arith)
entry_in (Branch bitmap entries) position within = Contains-get_or entries.items position no_ref within
entry_in (Single key value) position within = absurd (omega arith)
entry_in (Tomb single) position within = Contains-get_or (single ∷ []) position no_ref within
entry_in (Listed singles) position within = Contains-get_or singles.items position no_ref within

pub node_claimed : (K : Ref → Type 0) (node : Node) → Are K (refs_of_node node) → Are K (refs_of_claims (node_wants node))
node_claimed K (Indirection generation main) f = f
node_claimed K (Branch bitmap entries) f = subst (Are K) (sym (append-nil entries.items)) f
node_claimed K (Single key value) f = f
node_claimed K (Tomb single) f = f
node_claimed K (Listed singles) f = subst (Are K) (sym (append-nil singles.items)) f

-- and the other way round
pub refs_claimed : (K : Ref → Type 0) (node : Node) → Are K (refs_of_claims (node_wants node)) → Are K (refs_of_node node)
refs_claimed K (Indirection generation main) h r c = h r c
refs_claimed K (Branch bitmap entries) h r c = h r (Contains-append_left entries.items [] r c)
refs_claimed K (Single key value) h r c = h r c
refs_claimed K (Tomb single) h r c = h r c
refs_claimed K (Listed singles) h r c = h r (Contains-append_left singles.items [] r c)

pub prev_claimed : (K : Ref → Type 0) (p : Prev) → Are K (refs_of_prev p) → Are K (refs_of_claims (prev_wants p))
prev_claimed K prev.None f = f
prev_claimed K (prev.Pending p) f = f
prev_claimed K (prev.Failed p) f = f

pub word_claimed : (K : Ref → Type 0) (word : RootWord) → Are K (refs_of_word word) → Are K (refs_of_claims (word_wants word))
word_claimed K (Plain r) f = f
word_claimed K (Offer offer) f = subst (λ rs. Are K (offer.root ∷ offer.expected ∷ offer.successor ∷ rs)) (sym (append-nil (refs_of_option offer.second))) f
