-- What is read from a node or a prev word, where what stands in what is safe is safe and as wanted.
use Rattle.std.proofs.Common.{◌≡◌, ℕ, true, false, List, ◌∷◌, All, length, refl, sym, ap, ◌∙◌, ltb-true, []}
use Rattle.std.proofs.lemmas.Bool.{false≢true}
use Rattle.std.proofs.lemmas.List.Elements.{All-weaker, All-nil, All-cons}
use Rattle.proof_memory.specs.Vocabulary.{Ref, Node, Indirection, Branch, Single, Tomb, List as Listed, Heap, node_at, prev_at, main_at, main_of, entry_at, entries_of, no_ref}
use Rattle.proof_memory.specs.Wants.{Wanted, AnIndirection, AMain, ABranch, AList, BranchOrList, TombOrList, AnEntry, ASingle, WithEntry, meets, is_formed, is_indirection, Is}
use Rattle.proof_memory.specs.Wants.{Holds, AllHold, node_wants, prev_wants}
use Rattle.proof_memory.proofs.Claims.Uses.{Meets, safe_of, meets_of, all_of}

pub record Heaped (S : Ref → Type 0) (heap : Heap) : Type 0 where
  pub inside : (r : Ref) → S r → AllHold S heap (node_wants (node_at heap r))
  pub formed : (r : Ref) → S r → is_formed (node_at heap r) ≡ true
  pub before : (r : Ref) → S r → AllHold S heap (prev_wants (prev_at heap r))

-- a single is an entry
pub single_entry : (node : Node) → meets ASingle node ≡ true → meets AnEntry node ≡ true
single_entry (Single key value) e = refl
single_entry node e = absurd (false≢true e)

-- an indirection is an entry
pub indirection_entry : (node : Node) → meets AnIndirection node ≡ true → meets AnEntry node ≡ true
indirection_entry (Indirection generation main) e = refl
indirection_entry node e = absurd (false≢true e)

-- a branch is a main node
pub branch_main : (node : Node) → meets ABranch node ≡ true → meets AMain node ≡ true
branch_main (Branch bitmap entries) e = refl
branch_main node e = absurd (false≢true e)

pub both_main : (node : Node) → meets BranchOrList node ≡ true → meets AMain node ≡ true
both_main (Branch bitmap entries) e = refl
both_main (Listed singles) e = refl
both_main node e = absurd (false≢true e)

pub branch_both : (node : Node) → meets ABranch node ≡ true → meets BranchOrList node ≡ true
branch_both (Branch bitmap entries) e = refl
branch_both node e = absurd (false≢true e)

pub list_both : (node : Node) → meets AList node ≡ true → meets BranchOrList node ≡ true
list_both (Listed singles) e = refl
list_both node e = absurd (false≢true e)

-- what is no indirection has no main word
pub no_main : (node : Node) → is_indirection node ≡ false → main_of node ≡ no_ref
no_main (Indirection generation main) e = absurd (false≢true (sym e))
no_main node e = refl

pub main_plain : (node : Node) → meets AMain node ≡ true → is_indirection node ≡ false
main_plain (Indirection generation main) e = absurd (false≢true e)
main_plain node e = refl

-- it is no indirection
abbrev pub IsNoLink : Node → Type 0
IsNoLink node = (generation : ℕ) (main : Ref) → node ≡ Indirection generation main → ⊥

pub main_no_link : (node : Node) → meets AMain node ≡ true → IsNoLink node
main_no_link node e generation main is = false≢true (sym (main_plain node e) ∙ ap is_indirection is)

module _ (S : Ref → Type 0) (heap : Heap) where
  singles_entries : (rs : List Ref) → All (Meets S heap ASingle) rs → All (Meets S heap AnEntry) rs
  singles_entries rs all = All-weaker (Meets S heap ASingle) (Meets S heap AnEntry) (λ r h. (h.0, single_entry (node_at heap r) h.1)) rs all

  main_in : (node : Node) → meets AnIndirection node ≡ true → AllHold S heap (node_wants node) → Holds S heap (Is (main_of node) AMain)
  main_in (Indirection generation main) e h = h.0
  main_in node e h = absurd (false≢true e)

  -- the entries of a branch
  branch_in : (node : Node) → meets ABranch node ≡ true → AllHold S heap (node_wants node) → All (Meets S heap AnEntry) (entries_of node)
  branch_in (Branch bitmap entries) e h = all_of h.0
  branch_in node e h = absurd (false≢true e)

  -- the singles of a list or a tomb
  listed_in : (node : Node) → meets TombOrList node ≡ true → AllHold S heap (node_wants node) → All (Meets S heap ASingle) (entries_of node)
  listed_in (Tomb single) e h = All-cons (Meets S heap ASingle) single [] (safe_of h.0, meets_of h.0) (All-nil (Meets S heap ASingle))
  listed_in (Listed singles) e h = all_of h.0
  listed_in node e h = absurd (false≢true e)

  -- the entries of any main node
  pub all_in : (node : Node) → AllHold S heap (node_wants node) → All (Meets S heap AnEntry) (entries_of node)
  all_in (Indirection generation main) h = All-nil (Meets S heap AnEntry)
  all_in (Branch bitmap entries) h = all_of h.0
  all_in (Single key value) h = All-nil (Meets S heap AnEntry)
  all_in (Tomb single) h = singles_entries (single ∷ []) (listed_in (Tomb single) refl h)
  all_in (Listed singles) h = singles_entries singles.items (all_of h.0)

  module _ (H : Heaped S heap) where
    -- the main word of an indirection
    pub main_read : {i : Ref} → Holds S heap (Is i AnIndirection) → Holds S heap (Is (main_at heap i) AMain)
    main_read {i} h = main_in (node_at heap i) (meets_of h) (H.inside i (safe_of h))

    pub branch_entries : {main : Ref} → Holds S heap (Is main ABranch) → All (Meets S heap AnEntry) (entries_of (node_at heap main))
    branch_entries {main} h = branch_in (node_at heap main) (meets_of h) (H.inside main (safe_of h))

    pub listed_entries : {main : Ref} → Holds S heap (Is main TombOrList) → All (Meets S heap ASingle) (entries_of (node_at heap main))
    listed_entries {main} h = listed_in (node_at heap main) (meets_of h) (H.inside main (safe_of h))

    pub main_entries : {main : Ref} {wanted : Wanted} → Holds S heap (Is main wanted) → All (Meets S heap AnEntry) (entries_of (node_at heap main))
    main_entries {main} h = all_in (node_at heap main) (H.inside main (safe_of h))

  -- an entry at a position
  pub at_position : {main : Ref} (wanted : Wanted) (position : ℕ) → All (Meets S heap wanted) (entries_of (node_at heap main)) → Holds S heap (Is main (WithEntry position)) →
      Meets S heap wanted (entry_at heap main position)
  at_position {main} wanted position all h = all position no_ref (ltb-true position (length (entries_of (node_at heap main))) (meets_of h))

  -- an entry of a branch
  pub entry_met : Heaped S heap → {main : Ref} {position : ℕ} → Holds S heap (Is main ABranch) → Holds S heap (Is main (WithEntry position)) → Meets S heap AnEntry (entry_at heap main position)
  entry_met H {position} m w = at_position AnEntry position (branch_entries H m) w
