-- A branch in which an indirection stands in the place of a single.
use Rattle.std.proofs.Common.{◌≡◌, ◌≢◌, ℕ, List, set, slice_set, take, Option, Some, None, sym, ap, ◌∙◌, arith}
use Rattle.std.proofs.lemmas.List.{get_or-set_same, get_or-set_other}
use Rattle.arrayvec.specs.ArrayVec.{ArrayVec}
use Rattle.proof_contents.specs.Vocabulary.{position_of, Ref, Node, Indirection, Branch, index_in, flag_of, updated}
use Rattle.proof_contents.specs.Nodes.Branches.{HasPlaces, at_place}
use Rattle.proof_contents.specs.Nodes.Looking.{Below, look_at}
use Rattle.proof_contents.specs.Nodes.Changing.{look}
use Rattle.proof_contents.proofs.Nodes.Branches.{updated-places}
use Rattle.proof_contents.specs.Beneath.nodes.proofs.Indices.{index_below}
use Rattle.proof_contents.proofs.Nodes.Changes.{look_place, look_branch}

module _ (node : Ref → Node) (hash : ℕ → ℕ) (depth bitmap : ℕ) (entries : ArrayVec Ref) (places : List (Option Ref)) (h : HasPlaces bitmap entries.items places)
    (key : ℕ) (entry link : Ref) (at : at_place places (index_in (hash key) depth) ≡ Some entry) where
  linked-places : HasPlaces bitmap (take 32 (slice_set entries.items (position_of (flag_of (hash key) depth) bitmap) link)) (set places (index_in (hash key) depth) (Some link))
  linked-places = updated-places bitmap entries.items places h (index_in (hash key) depth) entry link at

  -- keys of that index were looked for in the single
  pub beside-was : (q : ℕ) → index_in (hash q) depth ≡ index_in (hash key) depth → look node hash depth q (Branch bitmap entries) ≡ look_at q entry (node entry)
  beside-was q same = look_branch node q bitmap (index_in (hash q) depth) entries places h ∙ ap (λ y. look_place node q (at_place places y)) same ∙ ap (look_place node q) at

  -- and are below now
  pub beside-is : (q g : ℕ) (word : Ref) → node link ≡ Indirection g word → index_in (hash q) depth ≡ index_in (hash key) depth →
      look node hash depth q (updated bitmap entries.items (position_of (flag_of (hash key) depth) bitmap) link) ≡ Below link
  beside-is q g word is same =
      look_branch node q bitmap (index_in (hash q) depth) _ (set places (index_in (hash key) depth) (Some link)) linked-places
      ∙ ap (λ y. look_place node q (at_place (set places (index_in (hash key) depth) (Some link)) y)) same
      ∙ ap (look_place node q) (get_or-set_same places (index_in (hash key) depth) (Some link) None (omega (arith, h.size, index_below (hash key) depth)))
      ∙ ap (look_at q link) is

  -- of all others the branch says what it said
  pub beside-elsewhere : (q : ℕ) → index_in (hash q) depth ≢ index_in (hash key) depth →
      look node hash depth q (updated bitmap entries.items (position_of (flag_of (hash key) depth) bitmap) link) ≡ look node hash depth q (Branch bitmap entries)
  beside-elsewhere q apart =
      look_branch node q bitmap (index_in (hash q) depth) _ (set places (index_in (hash key) depth) (Some link)) linked-places
      ∙ ap (look_place node q) (get_or-set_other places (index_in (hash key) depth) (index_in (hash q) depth) (Some link) None apart)
      ∙ sym (look_branch node q bitmap (index_in (hash q) depth) entries places h)
