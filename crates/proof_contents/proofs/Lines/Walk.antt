-- Each line of WALK hands on that what is taken and what is left make up all pairs; at its end it has them all.
use Rattle.std.proofs.Common.{◌≡◌, ℕ, List, [], ◌∷◌, ◌++◌, flat_map, refl, sym, ap, ◌∙◌, append_assoc, append-nil}
use Rattle.std.proofs.lemmas.Grind.{flat_map-append}
use Rattle.proof_contents.specs.Vocabulary.{Reply, Ref, Node, Indirection, Branch, Single, Tomb, List as Listed, entries_of, Operation, After, Gives, Read, WalkLine, Line, walked_reply, walk_next}
use Rattle.proof_contents.specs.Vocabulary.{walk_after_read, walk_after_entry}
use Rattle.machine_model.specs.declared.reading.After.TheVariants.{Goes}
use Rattle.machine_model.specs.declared.walking.WalkLine.TheVariants as walk
use Rattle.machine_model.specs.declared.lines.Line.TheVariants as line
use Rattle.proof_contents.proofs.Pairs.Lists.{Pairs}

module _ (operation : Operation) (node : Ref → Node) (below : Ref → Pairs) (all : Pairs) (Right : Reply → Type 0)
    (right : (taken : Pairs) → taken ≡ all → Right (walked_reply operation.call taken)) where
  -- what a line knows
  abbrev pub KnowsWalk : WalkLine → Type 0
  KnowsWalk walk.Root = Unit {0}
  KnowsWalk (walk.Read read todo taken) = taken ++ (below read.indirection ++ flat_map below todo) ≡ all
  KnowsWalk (walk.Main main todo taken) = taken ++ (flat_map below (entries_of (node main)) ++ flat_map below todo) ≡ all
  KnowsWalk (walk.Entry todo taken) = (entry : Ref) × (rest : List Ref) × (todo ≡ entry ∷ rest) × (taken ++ flat_map below todo ≡ all)

  -- the end is answered rightly
  abbrev pub WalksRight : Line → Type 0
  WalksRight (line.Walk l) = KnowsWalk l
  WalksRight (line.End answer) = Right answer
  WalksRight l = Unit {0}

  next_knows : (todo : List Ref) (taken : Pairs) → taken ++ flat_map below todo ≡ all → WalksRight (walk_next operation todo taken)
  next_knows [] taken e = right taken (sym (append-nil taken) ∙ e)
  next_knows (entry ∷ todo) taken e = (entry, todo, refl, e)

  pub walk_read_knows : (read : Read) (todo : List Ref) (taken : Pairs) → KnowsWalk (walk.Read read todo taken) → (after : After Read Ref) →
      ((r : Read) → after ≡ Goes r → r.indirection ≡ read.indirection) → ((main : Ref) → after ≡ Gives main → below read.indirection ≡ flat_map below (entries_of (node main))) →
      WalksRight (walk_after_read todo taken after)
  walk_read_knows read todo taken knows (Goes r) same given = ap (λ i. taken ++ (below i ++ flat_map below todo)) (same r refl) ∙ knows
  walk_read_knows read todo taken knows (Gives main) same given = ap (λ ps. taken ++ (ps ++ flat_map below todo)) (sym (given main refl)) ∙ knows

  pub walk_main_knows : (main : Ref) (n : Node) (todo : List Ref) (taken : Pairs) → n ≡ node main → KnowsWalk (walk.Main main todo taken) →
      WalksRight (walk_next operation (entries_of n ++ todo) taken)
  walk_main_knows main n todo taken is knows =
      next_knows (entries_of n ++ todo) taken
      (ap (λ m. taken ++ flat_map below (entries_of m ++ todo)) is ∙ ap (λ ps. taken ++ ps) (flat_map-append below (entries_of (node main)) todo) ∙ knows)

  pub walk_entry_knows : (entry : Ref) (rest : List Ref) (taken : Pairs) → taken ++ flat_map below (entry ∷ rest) ≡ all → (n : Node) → ((k v : ℕ) → n ≡ Single k v → below entry ≡ (k, v) ∷ []) →
      WalksRight (walk_after_entry operation entry rest taken n)
  walk_entry_knows entry rest taken e (Indirection g w) single = e
  walk_entry_knows entry rest taken e (Single k v) single =
      next_knows rest (taken ++ (k, v) ∷ []) (append_assoc taken ((k, v) ∷ []) (flat_map below rest) ∙ ap (λ ps. taken ++ (ps ++ flat_map below rest)) (sym (single k v refl)) ∙ e)
  walk_entry_knows entry rest taken e (Branch b es) single = tt
  walk_entry_knows entry rest taken e (Tomb s) single = tt
  walk_entry_knows entry rest taken e (Listed ss) single = tt
