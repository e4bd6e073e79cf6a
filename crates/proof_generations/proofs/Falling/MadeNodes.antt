-- The nodes that builders make: none is an indirection, and their entries are those that they were given.
use Rattle.std.proofs.Common.{◌≡◌, ℕ, ◌==◌, Bool, true, false, List, ◌∷◌, []}
use Rattle.std.specs.List.{All}
use Rattle.std.proofs.lemmas.Bool.{cond_both, false≢true}
use Rattle.std.proofs.lemmas.List.Elements.{All-append, All-take, All-set}
use Rattle.proof_generations.specs.Vocabulary.{HashKind, Ref, Node, Branch, List as Listed, entries_of, list_depth, index_in, pair, contracted, by_index, Change, changed, BranchOrList, meets}
use Rattle.proof_generations.specs.Beneath.machine_model.specs.declared.building.Change.TheVariants as change
use Rattle.proof_generations.specs.Beneath.proof_memory.proofs.Claims.Made.{All-inserted, All-removed, by_index_all, pair_all}
use Rattle.proof_generations.proofs.Lines.Knows.{one_of}

-- ---- the entries of what is made

module _ (Fits : Ref → Type 0) where
  pub pair_entries : (kind : HashKind) (depth a b : ℕ) (x y : Ref) → Fits x → Fits y → All Fits (entries_of (pair kind depth a b x y))
  pair_entries kind depth a b x y f g =
      cond_both (depth == list_depth kind) _ _ (λ n. All Fits (entries_of n)) (λ e. All-take Fits 32 (x ∷ y ∷ []) (pair_all Fits x y f g))
      (λ e. All-take Fits 32 (by_index (index_in a depth) (index_in b depth) x y) (by_index_all Fits (index_in a depth) (index_in b depth) x y f g))

  pub contracted_entries : (may : Bool) (bitmap : ℕ) (es : List Ref) → All Fits es → All Fits (entries_of (contracted may bitmap es))
  contracted_entries true bitmap (single ∷ []) all = all
  contracted_entries true bitmap [] all = All-take Fits 32 [] all
  contracted_entries true bitmap (x ∷ y ∷ es) all = All-take Fits 32 (x ∷ y ∷ es) all
  contracted_entries false bitmap es all = All-take Fits 32 es all

  -- what comes into a main node with a change
  abbrev pub ChangeFits : Change → Type 0
  ChangeFits (change.Insert single) = Fits single
  ChangeFits (change.Update position entry) = Fits entry
  ChangeFits (change.Remove position) = Unit {0}
  ChangeFits (change.Entomb single) = Fits single

  pub changed_entries : (flag : ℕ) (node : Node) (c : Change) → meets BranchOrList node ≡ true → All Fits (entries_of node) → ChangeFits c → All Fits (entries_of (changed flag node c))
  changed_entries flag (Branch bitmap entries) (change.Insert single) b all f = All-take Fits 32 _ (All-inserted Fits entries.items _ single all f)
  changed_entries flag (Branch bitmap entries) (change.Update position entry) b all f = All-take Fits 32 _ (All-set Fits entries.items position entry f all)
  changed_entries flag (Branch bitmap entries) (change.Remove position) b all f = All-take Fits 32 _ (All-removed Fits entries.items position all)
  changed_entries flag (Branch bitmap entries) (change.Entomb single) b all f = one_of Fits single f
  changed_entries flag (Listed singles) (change.Insert single) b all f = All-take Fits 32 _ (All-append Fits singles.items (single ∷ []) all (one_of Fits single f))
  changed_entries flag (Listed singles) (change.Update position entry) b all f = All-take Fits 32 _ (All-set Fits singles.items position entry f all)
  changed_entries flag (Listed singles) (change.Remove position) b all f = All-take Fits 32 _ (All-removed Fits singles.items position all)
  changed_entries flag (Listed singles) (change.Entomb single) b all f = one_of Fits single f
  changed_entries flag node c b all f = absurd (false≢true b)
