-- From where what an operation made has its references: what it made itself apart, from a main node that it was given.
use Rattle.std.proofs.Common.{◌≡◌, ℕ, suc, ◌≤◌, [], ◌∷◌, Contains, Option, Some, refl, sym, ap, ◌∙◌, subst, arith}
use Rattle.std.proofs.lemmas.List.Elements.{Contains-append_left, Contains-append_right, Contains-get_or}
use Rattle.proof_fresh.specs.Vocabulary.{Ref, Node, Indirection, Branch, Single, Tomb, List as Listed, Prev, Slot, Heap, entries_of, main_of}
use Rattle.proof_fresh.specs.Vocabulary.{generation_of, logical, Bounds, State, node_under, prev_word}
use Rattle.proof_fresh.specs.Vocabulary.{standing, IsRun, node_of, prev_of}
use Rattle.proof_fresh.specs.Beneath.slot_arena.specs.Heaps.{stored, refs_of_node, refs_of_prev, refs_of_slot}
use Rattle.proof_fresh.specs.Beneath.slot_arena.specs.declared.nodes.Prev.TheVariants as over
use Rattle.proof_fresh.specs.Beneath.machine_model.proofs.Grown.{standing_parts, grown_in_use}
use Rattle.proof_fresh.specs.Beneath.proof_memory.specs.Laws.{IsInUse}
use Rattle.proof_fresh.specs.Beneath.proof_memory.specs.Wants.{is_branch_or_list}
use Rattle.proof_fresh.specs.Beneath.proof_memory.proofs.Safety.AtEachTime.{safe_at}
use Rattle.proof_fresh.specs.Beneath.proof_memory.proofs.Safety.Standing.{in_any_slot}
use Rattle.proof_fresh.specs.Beneath.proof_commits.proofs.Course.Swaps.{tomb_stays}
use Rattle.proof_fresh.specs.Beneath.proof_commits.proofs.Course.Finals.{from_time}
use Rattle.proof_fresh.specs.Beneath.proof_commits.specs.Protocol.{Protocol}
use Rattle.proof_fresh.specs.Beneath.proof_commits.proofs.Words.Along.{protocol}
use Rattle.proof_fresh.specs.Beneath.proof_commits.proofs.Known.Acts.{known_run}
use Rattle.proof_fresh.specs.Beneath.proof_contents.specs.Runs.{counting_main}
use Rattle.proof_fresh.specs.Beneath.proof_contents.proofs.Values.Runs.{counting_main-last}
use Rattle.proof_shape.specs.Lines.Given.{GaveBelow}
use Rattle.proof_shape.proofs.Commits.MainsStay.{mains_by}
use Rattle.proof_shape.proofs.Commits.Was.{main_linked, given_below}
use Rattle.proof_shape.proofs.Lines.RepairsAt.{gave_below_later}
use Rattle.proof_shape.proofs.Runs.Entries.{no_entry}
use Rattle.proof_garbage.specs.Live.{IsBelow, itself, below}

-- ---- what is below what

pub below_both : (heap : Heap) (p q : Ref) → IsBelow heap p q → {r : Ref} → IsBelow heap q r → IsBelow heap p r
below_both heap p q b itself = b
below_both heap p q b (below x y c names) = below x y (below_both heap p q b c) names

-- what stands in a node stands in its slot
pub entry_named : (n : Node) (x : Ref) → Contains (entries_of n) x → Contains (refs_of_node n) x
entry_named (Indirection g w) x c = absurd (no_entry x c)
entry_named (Branch b es) x c = c
entry_named (Single k v) x c = c
entry_named (Tomb s) x c = c
entry_named (Listed ss) x c = c

module _ {limits : Bounds} {states : ℕ → State} {last : ℕ} (run : IsRun limits states last) where
  abbrev node : Ref → Node
  node = node_under states last

  abbrev heap : Heap
  heap = (states last).heap

  abbrev p : Protocol
  p = protocol limits states last (known_run run)

  -- An entry of the main node; or what a READ of an entry of an older generation gave; or the single of a tomb that a READ of an entry gave.
  pub data IsFrom (t actor id : ℕ) (generation : Option ℕ) (main : Ref) (x : Ref) : Type 0 where
    an_entry : Contains (entries_of (node_under states last main)) x → IsFrom t actor id generation main x
    given : (start : ℕ) (entry : Ref) (h : ℕ) (word : Ref) → generation ≡ Some start → Contains (entries_of (node_under states last main)) entry →
        node_under states last entry ≡ Indirection h word → (h ≡ start → ⊥) → GaveBelow states run.records last t actor id start entry x → IsFrom t actor id generation main x
    tombed : (start : ℕ) (entry : Ref) (h : ℕ) (word child : Ref) → generation ≡ Some start → Contains (entries_of (node_under states last main)) entry →
        node_under states last entry ≡ Indirection h word → GaveBelow states run.records last t actor id start entry child →
        node_under states last child ≡ Tomb x → IsFrom t actor id generation main x

  pub from_later : (t actor id : ℕ) (generation : Option ℕ) (main x : Ref) → IsFrom t actor id generation main x → IsFrom (suc t) actor id generation main x
  from_later t actor id generation main x (an_entry c) = an_entry c
  from_later t actor id generation main x (given start entry h word begun c is older gave) =
      given start entry h word begun c is older (gave_below_later states run.records last t actor id start entry x gave)
  from_later t actor id generation main x (tombed start entry h word child begun c is gave tomb) =
      tombed start entry h word child begun c is (gave_below_later states run.records last t actor id start entry child gave) tomb

  -- ---- in the end all of it is below that main node

  in_slot : (q : Ref) (slot : Slot) → standing heap q ≡ Some slot → (x : Ref) → Contains (refs_of_slot (Some slot)) x → Contains (refs_of_slot (stored heap q)) x
  in_slot q slot stands x c = subst (λ o. Contains (refs_of_slot o) x) (sym (standing_parts heap q slot stands).0) c

  in_node : (q : Ref) (used : IsInUse heap q) (x : Ref) → Contains (refs_of_node (node_under states last q)) x → Contains (refs_of_slot (stored heap q)) x
  in_node q (slot, stands) x c =
      in_slot q slot stands x
      (Contains-append_left (refs_of_node slot.node) (refs_of_prev slot.prev) x
      (subst (λ o. Contains (refs_of_node (node_of o)) x) (grown_in_use states last q slot stands) c))

  -- so are an indirection's main nodes
  main_below : (i : Ref) (h : ℕ) (word m : Ref) → IsInUse heap i → node_under states last i ≡ Indirection h word → counting_main states last last i ≡ m → IsBelow heap i m
  main_below i h word m used is counts = by_prev (prev_word states last word) refl
    where
      names : Contains (refs_of_slot (stored heap i)) word
      names = in_node i used word (subst (λ n. Contains (refs_of_node n) word) (sym is) (Contains-get_or (word ∷ []) 0 word (omega arith)))

      there : IsInUse heap word
      there = in_any_slot (states last) (safe_at run last (omega arith)) i word names

      is_main : logical word (prev_word states last word) ≡ m
      is_main = sym (ap (λ w. logical w (prev_word states last w)) (ap main_of is)) ∙ sym (counting_main-last states last i) ∙ counts

      over_it : (q : Ref) → Contains (refs_of_prev (prev_word states last word)) q → IsBelow heap i q
      over_it q c =
          below word q (below i word itself names)
          (in_slot word there.0 there.1 q
          (Contains-append_right (refs_of_node there.0.node) (refs_of_prev there.0.prev) q (subst (λ o. Contains (refs_of_prev (prev_of o)) q) (grown_in_use states last word there.0 there.1) c)))

      by_prev : (v : Prev) → prev_word states last word ≡ v → IsBelow heap i m
      by_prev over.None e = subst (IsBelow heap i) (sym (ap (logical word) e) ∙ is_main) (below i word itself names)
      by_prev (over.Pending q) e =
          subst (IsBelow heap i) (sym (ap (logical word) e) ∙ is_main) (over_it q (subst (λ v. Contains (refs_of_prev v) q) (sym e) (Contains-get_or (q ∷ []) 0 q (omega arith))))
      by_prev (over.Failed q) e =
          subst (IsBelow heap i) (sym (ap (logical word) e) ∙ is_main) (over_it q (subst (λ v. Contains (refs_of_prev v) q) (sym e) (Contains-get_or (q ∷ []) 0 q (omega arith))))

  -- what a repair's READ gave of an indirection of an older generation counts in the end
  older_counts : (t actor id start : ℕ) (i m : Ref) (h : ℕ) (word : Ref) → t ≤ last → node_under states last i ≡ Indirection h word → (h ≡ start → ⊥) →
      GaveBelow states run.records last t actor id start i m → counting_main states last last i ≡ m
  older_counts t actor id start i m h word within is older g =
      (given_below run t actor id start i m within g).1 (λ same. older (sym (ap generation_of is) ∙ same))

  -- and so does a tomb that counted once
  pub tomb_counts : (u : ℕ) (i m single : Ref) → u ≤ last → node_under states last m ≡ Tomb single → counting_main states last u i ≡ m → counting_main states last last i ≡ m
  tomb_counts u i m single within is counts =
      from_time (λ v. counting_main states last v i ≡ m) u last counts
      (λ v low lt so_far.
      mains_by run v lt i
      (λ link.
      let before = sym (main_linked run v i link) ∙ so_far in
      tomb_stays p i m v (suc v) (omega arith) lt link (ap is_branch_or_list is) before ∙ sym before)
      ∙ so_far) last within (omega arith)

  given_tomb : (t actor id start : ℕ) (i m single : Ref) → t ≤ last → node_under states last m ≡ Tomb single → GaveBelow states run.records last t actor id start i m →
      counting_main states last last i ≡ m
  given_tomb t actor id start i m single within is g =
      tomb_counts (suc g.gave.moment) i m single (omega (arith, g.gave.is_moment.past, g.gave.past, within)) is g.gave.is

  module _ (main : Ref) (used : IsInUse heap main) where
    pub entry_below : (entry : Ref) → Contains (entries_of (node_under states last main)) entry → IsBelow (states last).heap main entry
    entry_below entry c = below main entry itself (in_node main used entry (entry_named (node_under states last main) entry c))

    entry_used : (entry : Ref) → Contains (entries_of (node_under states last main)) entry → IsInUse (states last).heap entry
    entry_used entry c =
        in_any_slot (states last) (safe_at run last (omega arith)) main entry (in_node main used entry (entry_named (node_under states last main) entry c))

    pub child_below : (entry : Ref) (h : ℕ) (word child : Ref) → Contains (entries_of (node_under states last main)) entry → node_under states last entry ≡ Indirection h word →
        counting_main states last last entry ≡ child → IsBelow (states last).heap main child
    child_below entry h word child c is counts = below_both heap main entry (entry_below entry c) (main_below entry h word child (entry_used entry c) is counts)

    -- the single of a tomb
    pub single_below : (entry : Ref) (h : ℕ) (word child x : Ref) → Contains (entries_of (node_under states last main)) entry → node_under states last entry ≡ Indirection h word →
        counting_main states last last entry ≡ child → node_under states last child ≡ Tomb x → IsBelow (states last).heap main x
    single_below entry h word child x c is counts tomb =
        let b = child_below entry h word child c is counts in
        below child x b
        (in_node child (below_used main used b) x (subst (λ n. Contains (refs_of_node n) x) (sym tomb) (Contains-get_or (x ∷ []) 0 x (omega arith))))
      where
        below_used : (q : Ref) → IsInUse heap q → {r : Ref} → IsBelow heap q r → IsInUse heap r
        below_used q u itself = u
        below_used q u (below x y b names) = in_any_slot (states last) (safe_at run last (omega arith)) x y names

    pub from_below : (t actor id : ℕ) (generation : Option ℕ) (x : Ref) → t ≤ last → IsFrom t actor id generation main x → IsBelow (states last).heap main x
    from_below t actor id generation x within (an_entry c) = entry_below x c
    from_below t actor id generation x within (given start entry h word begun c is older gave) =
        child_below entry h word x c is (older_counts t actor id start entry x h word within is older gave)
    from_below t actor id generation x within (tombed start entry h word child begun c is gave tomb) =
        single_below entry h word child x c is (given_tomb t actor id start entry child x within tomb gave) tomb
