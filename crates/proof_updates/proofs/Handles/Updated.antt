-- An own update, seen from any root that leads to its indirection: a trie of the two states before and after it, without generations, in which this root is that
-- of the only generation.
use Rattle.std.proofs.Common.{◌≡◌, ℕ, zero, suc, ◌<◌, ◌==◌, Bool, true, false, cond, Contains, Option, Some, refl, sym, ap, subst, ◌∙◌, arith}
use Rattle.proof_updates.specs.Vocabulary.{hash_of, HashKind, Writable, Call, Ref, Node, Indirection, no_ref, pair, key_of, changed_reply, LeadsToPair, at_pair, by_rung, find_at, Trie, generation}
use Rattle.proof_updates.specs.Vocabulary.{node_in, assigned, value_at, content, IsShaped, Updates, an_update, IsOwnUpdate, branch_inserts, branch_updates, branch_removes, branch_entombs}
use Rattle.proof_updates.specs.Vocabulary.{goes_beside, list_inserts, list_updates, list_removes, list_entombs, bare, HasShape}
use Rattle.proof_updates.specs.Beneath.proof_contents.specs.Effects.{act_in}
use Rattle.proof_updates.specs.Beneath.proof_contents.specs.Tries.{map_of, most_levels}
use Rattle.proof_updates.specs.Beneath.proof_contents.specs.Steps.{IsTrie, Does}
use Rattle.proof_updates.specs.Beneath.proof_contents.proofs.Changes.Generations.{update_acts}
use Rattle.proof_updates.specs.Beneath.proof_contents.proofs.Values.Paths.{on-path}
use Rattle.proof_updates.specs.Beneath.proof_contents.proofs.Values.Found.{assigned-own, assigned-last}
use Rattle.proof_updates.specs.Beneath.proof_contents.proofs.Values.Contents.{map_of-same}
use Rattle.proof_shape.proofs.Shaped.Changed.{bare_among}
use Rattle.proof_shape.proofs.Shaped.KeysOnce.{same_shape}
use Rattle.proof_shape.proofs.Shaped.Places.{bare_entries, bare_generation}
use Rattle.proof_updates.proofs.Handles.Finding.{found_alike, bare_found}
use Rattle.proof_updates.proofs.Handles.Values.{value_below}
use Rattle.proof_updates.proofs.Handles.Ways.{From, itself, through, on_way}

-- the main nodes before step t and after it
abbrev pub two : (ℕ → Ref → Ref) → ℕ → ℕ → Ref → Ref
two main t zero = main t
two main t (suc n) = main (suc t)

abbrev pub two_states : Trie → ℕ → Ref → Trie
two_states trie t root = record trie { last = 1; node = λ r. bare (trie.node r); main = two trie.main t; root = λ g. root }

bare_pair : (kind : HashKind) (depth old_hash hash : ℕ) (old single : Ref) → bare (pair kind depth old_hash hash old single) ≡ pair kind depth old_hash hash old single
bare_pair kind depth old_hash hash old single = grind arith

module _ (trie : Trie) (t : ℕ) (end : trie.last ≡ suc t) (root : Ref) where
  -- ---- the same update

  later : (g h : ℕ) (j : Ref) → assigned (two_states trie t root) h 1 j ≡ assigned trie g (suc t) j
  later g h j = assigned-last (two_states trie t root) h j ∙ sym (by_test (generation trie j == g))
    where
      by_test : (b : Bool) → cond b (trie.main (suc t) j) (trie.main trie.last j) ≡ trie.main (suc t) j
      by_test true = refl
      by_test false = ap (λ n. trie.main n j) end

  same_chain : (g h former key : ℕ) (old single : Ref) (levels depth : ℕ) (i : Ref) → LeadsToPair trie.node (assigned trie g (suc t)) trie.kind former key old single levels depth i →
      LeadsToPair (λ r. bare (trie.node r)) (assigned (two_states trie t root) h 1) trie.kind former key old single levels depth i
  same_chain g h former key old single levels' depth i (at_pair levels depth' i' is parts) =
      at_pair levels depth' i' (ap (λ m. bare (trie.node m)) (later g h i') ∙ ap bare is ∙ bare_pair trie.kind depth' (hash_of trie.kind former) (hash_of trie.kind key) old single) parts
  same_chain g h former key old single levels' depth i (by_rung levels depth' i' below word generation_ is link same rest) =
      by_rung levels depth' i' below no_ref 0 (ap (λ m. bare (trie.node m)) (later g h i') ∙ ap bare is) (ap bare link) same (same_chain g h former key old single levels (suc depth') below rest)

  same_update : (g h : ℕ) (i : Ref) (key : ℕ) (old new : Node) (former now : Option ℕ) → IsOwnUpdate trie g t i key old new former now →
      IsOwnUpdate (two_states trie t root) h 0 i key (bare old) (bare new) former now
  same_update g h i key old new former' now' (branch_inserts bitmap value entries single o flag is n) = branch_inserts bitmap value entries single (ap bare o) flag (ap bare is) (ap bare n)
  same_update g h i key old new former' now' (branch_updates bitmap former value entries single o flag was is n) =
      branch_updates bitmap former value entries single (ap bare o) flag (ap bare was) (ap bare is) (ap bare n)
  same_update g h i key old new former' now' (branch_removes bitmap former entries o flag was n) = branch_removes bitmap former entries (ap bare o) flag (ap bare was) (ap bare n)
  same_update g h i key old new former' now' (branch_entombs bitmap former other value entries o two_ flag was is n) =
      branch_entombs bitmap former other value entries (ap bare o) two_ flag (ap bare was) (ap bare is) (ap bare n)
  same_update g h i key old new former' now' (goes_beside bitmap other value own levels k entries single link word o flag was apart is link_is sum chain n) =
      goes_beside bitmap other value own levels 0 entries single link no_ref (ap bare o) flag (ap bare was) apart (ap bare is) (ap bare link_is) sum
      (same_chain g h other key _ single levels (suc (trie.depth i)) link chain) (ap bare n)
  same_update g h i key old new former' now' (list_inserts value singles single o room none is n) =
      list_inserts value singles single (ap bare o) room (bare_among trie.node key singles.items ∙ none) (ap bare is) (ap bare n)
  same_update g h i key old new former' now' (list_updates p former value singles single o lt was is n) =
      list_updates p former value singles single (ap bare o) lt (ap bare was) (ap bare is) (ap bare n)
  same_update g h i key old new former' now' (list_removes p former singles o lt was n) = list_removes p former singles (ap bare o) lt (ap bare was) (ap bare n)
  same_update g h i key old new former' now' (list_entombs p former singles o two_ lt was n) = list_entombs p former singles (ap bare o) two_ lt (ap bare was) (ap bare n)

  -- ---- the same ways

  same_way : (i : Ref) → From trie t root i → From (two_states trie t root) 0 root i
  same_way i itself = itself
  same_way entry (through i entry' word g from is within) =
      through i entry no_ref 0 (same_way i from) (ap bare is) (subst (λ es. Contains es entry) (sym (bare_entries (node_in trie t i))) within)

  -- ---- the trie of the two states

  module _ (ok : IsTrie trie) (shape : HasShape (record trie { node = λ r. bare (trie.node r) })) (root_depth : trie.depth root ≡ 0) (root_path : trie.path root ≡ 0)
      (g : ℕ) (call : Call) (former : Option ℕ) (u : Updates trie t g call former) where
    abbrev i : Ref
    i = u.indirection

    shaped : (n : ℕ) (j : Ref) → IsShaped (two_states trie t root) j (node_in (two_states trie t root) n j)
    shaped zero j = same_shape (record trie { node = λ r. bare (trie.node r) }) 1 (two trie.main t) (λ g. root) j _ (shape.shaped t j (omega (arith, end)))
    shaped (suc n) j = same_shape (record trie { node = λ r. bare (trie.node r) }) 1 (two trie.main t) (λ g. root) j _ (shape.shaped (suc t) j (omega (arith, end)))

    own : (h : ℕ) → IsOwnUpdate (two_states trie t root) h 0 i (key_of call) (node_in (two_states trie t root) 0 i) (node_in (two_states trie t root) 1 i) former u.now
    own h = same_update g h i (key_of call) (node_in trie t i) (node_in trie (suc t) i) former u.now u.updates

    pub is_trie : IsTrie (two_states trie t root)
    is_trie = record {
      has_key = shape.has_key;
      root_depth = λ h. root_depth;
      root_path = λ h. root_path;
      path_fits = shape.path_fits;
      shaped = λ n j within. shaped n j;
      does = does;
    }
      where
        does : (n : ℕ) → n < 1 → Does (two_states trie t root) n
        does zero within = an_update i (key_of call) former u.now u.leaves (own (generation (two_states trie t root) i))
        does (suc n) within = absurd (omega arith)

    module _ (word : Ref) (h : ℕ) (link : trie.node i ≡ Indirection h word) (from : From trie t root i) where
      one_generation : (j : Ref) → generation (two_states trie t root) j ≡ 0
      one_generation j = bare_generation (trie.node j)

      updates : Updates (two_states trie t root) 0 0 call former
      updates = record {
        indirection = i;
        once = 0;
        before = omega arith;
        on = on_way (two_states trie t root) (λ h. root_depth) shape.path_fits 0 0 (shaped 0) one_generation i no_ref 0 (key_of call) (same_way i from) (ap bare link)
            (sym (on-path trie ok u.once g (key_of call) (trie.depth i) i (omega (arith, u.before, end)) u.on));
        leaves = u.leaves;
        now = u.now;
        asks = u.asks;
        updates = own 0;
        fits = u.fits;
      }

      same_value : (n : ℕ) (main : Ref → Ref) → ((j : Ref) → two trie.main t n j ≡ main j) → (key : ℕ) →
          value_at (two_states trie t root) 0 n key ≡ find_at trie.node main (hash_of trie.kind) key most_levels 0 root
      same_value n main same key = bare_found trie.node (hash_of trie.kind) key (assigned (two_states trie t root) 0 n) most_levels 0 root
          ∙ found_alike trie.node (hash_of trie.kind) key (assigned (two_states trie t root) 0 n) main (λ j. assigned-own (two_states trie t root) 0 n j (one_generation j) ∙ same j) most_levels 0 root

      -- the call makes the later map of the earlier one
      pub update_below : act_in (hash_of trie.kind) Writable call (map_of trie.keys (value_below trie t root)) ≡ Some (changed_reply call former, map_of trie.keys (value_below trie (suc t) root))
      unfolding content
      update_below =
          ap (act_in (hash_of trie.kind) Writable call) (sym earlier) ∙ update_acts (two_states trie t root) is_trie 0 0 call former (omega arith) updates
          ∙ ap (λ m. Some (changed_reply call former, m)) after
        where
          earlier : content (two_states trie t root) 0 0 ≡ map_of trie.keys (value_below trie t root)
          earlier = map_of-same trie.keys _ _ (same_value 0 (trie.main t) (λ j. refl))

          after : content (two_states trie t root) 0 1 ≡ map_of trie.keys (value_below trie (suc t) root)
          after = map_of-same trie.keys _ _ (same_value 1 (trie.main (suc t)) (λ j. refl))
