-- What a step does to the contents of generations.
use Rattle.std.proofs.Common.{◌≡◌, ◌≢◌, ℕ, suc, ◌<◌, ◌==◌, ◌&&◌, Bool, true, false, not, Option, Some, None, is_some, refl, sym, ap, subst, ◌∙◌, arith, ◌⊎◌, inl, inr, ne_eqb, eqb-true}
use Rattle.proof_contents.proofs.Nodes.Branches.{differ}
use Rattle.std.specs.FinMap.{get}
use Rattle.proof_contents.specs.Vocabulary.{hash_of, others, is_crowded, Writable, Call, Ref, key_of, changed_reply}
use Rattle.proof_contents.specs.Tries.{Trie, generation, node_in, assigned, content, On, IsTombed}
use Rattle.proof_contents.specs.Steps.{IsRepair, IsOwnUpdate, LeavesOthers, IsTrie, Updates}
use Rattle.proof_contents.specs.Effects.{act_in, ChangesKey}
use Rattle.proof_contents.proofs.Values.Found.{assigned-still}
use Rattle.proof_contents.proofs.Values.Contents.{get-content, same_content, same_values}
use Rattle.proof_contents.proofs.Values.Paths.{on-generation, path_lasts, update_of_tomb}
use Rattle.proof_contents.proofs.Changes.Repairs.{shaped_assigned, same_assigned, other_stays, repair_stays}
use Rattle.proof_contents.proofs.Changes.Updates.{ChangesValue, update_changes}
use Rattle.proof_contents.proofs.Values.Listed.{has_room}
use Rattle.proof_contents.proofs.Changes.Effects.{acts}

module _ (trie : Trie) (ok : IsTrie trie) where
  -- a step that leaves all main nodes leaves all contents
  pub nothing_still : (t g : ℕ) → t < trie.last → ((i : Ref) → trie.main (suc t) i ≡ trie.main t i) → content trie g (suc t) ≡ content trie g t
  nothing_still t g lt same =
      same_content trie g g (suc t) t (λ q. same_values trie ok g (suc t) t q (λ levels i sum below.
      same_assigned trie ok (assigned trie g (suc t)) (assigned trie g t) q levels i (shaped_assigned trie ok g t i (omega arith)) (assigned-still trie g (suc t) t i (same i)) below))

  -- a change of a main node in one generation leaves the contents of all others
  pub others_still : (t g : ℕ) (i : Ref) → t < trie.last → LeavesOthers trie t i → g ≢ generation trie i → content trie g (suc t) ≡ content trie g t
  others_still t g i lt others apart = same_content trie g g (suc t) t (λ q. same_values trie ok g (suc t) t q (other_stays trie ok g t q i lt others apart))

  -- a repair leaves all contents
  pub repair_still : (t g : ℕ) (i : Ref) → t < trie.last → LeavesOthers trie t i → IsRepair trie (generation trie i) t (node_in trie t i) (node_in trie (suc t) i) →
      content trie g (suc t) ≡ content trie g t
  repair_still t g i lt others r = by_test (g == generation trie i) refl
    where
      own : content trie (generation trie i) (suc t) ≡ content trie (generation trie i) t
      own = same_content trie (generation trie i) (generation trie i) (suc t) t (λ q. same_values trie ok (generation trie i) (suc t) t q (repair_stays trie ok t i lt others q r))

      by_test : (b : Bool) → (g == generation trie i) ≡ b → content trie g (suc t) ≡ content trie g t
      by_test true same = subst (λ h. content trie h (suc t) ≡ content trie h t) (sym (eqb-true g (generation trie i) same)) own
      by_test false apart = others_still t g i lt others (differ g (generation trie i) apart)

  module _ (t g : ℕ) (call : Call) (former : Option ℕ) (lt : t < trie.last) (u : Updates trie t g call former) where
    own : generation trie u.indirection ≡ g
    own = on-generation trie ok u.once g (key_of call) (trie.depth u.indirection) u.indirection u.on

    -- an own update leaves the contents of all other generations
    pub update_still : (h : ℕ) → h ≢ g → content trie h (suc t) ≡ content trie h t
    update_still h apart = others_still t h u.indirection lt u.leaves (λ e. apart (e ∙ own))

    changes : ChangesKey (content trie g t) (content trie g (suc t)) (key_of call) former u.now
    changes =
        subst (λ h. ChangesKey (content trie h t) (content trie h (suc t)) (key_of call) former u.now) own
        (of_values (update_changes trie ok t u.indirection (key_of call) former u.now lt u.leaves u.once u.before
        (subst (λ h. On trie u.once h (key_of call) (trie.depth u.indirection) u.indirection) (sym own) u.on)
        (subst (λ h. IsOwnUpdate trie h t u.indirection (key_of call) (node_in trie t u.indirection) (node_in trie (suc t) u.indirection) former u.now) (sym own) u.updates)))
      where
        of_values : ChangesValue trie ok t u.indirection (key_of call) former u.now lt u.leaves →
            ChangesKey (content trie (generation trie u.indirection) t) (content trie (generation trie u.indirection) (suc t)) (key_of call) former u.now
        of_values c = record {
          had = get-content trie ok (generation trie u.indirection) t (key_of call) ∙ c.had;
          has = get-content trie ok (generation trie u.indirection) (suc t) (key_of call) ∙ c.has;
          stay = λ q apart. get-content trie ok (generation trie u.indirection) (suc t) q ∙ c.stay q apart ∙ sym (get-content trie ok (generation trie u.indirection) t q);
        }

    -- where it inserts the key isn't crowded
    free : former ≡ None → is_crowded (hash_of trie.kind) (content trie g t) (key_of call) ≡ false
    free none = by_path (path_lasts trie ok u.once t g (key_of call) (trie.depth u.indirection) u.indirection u.before (omega arith) u.on)
      where
        and-false : (b : Bool) → (b && false) ≡ false
        and-false true = refl
        and-false false = refl

        by_path : On trie t g (key_of call) (trie.depth u.indirection) u.indirection ⊎ IsTombed trie t u.indirection → is_crowded (hash_of trie.kind) (content trie g t) (key_of call) ≡ false
        by_path (inl on) =
            let room = has_room trie ok t g (key_of call) u.indirection (omega arith) on (node_in trie (suc t) u.indirection) former u.now u.fits none u.updates in
            ap (λ b. not (is_some (get (content trie g t) (key_of call))) && b) (ne_eqb (others (hash_of trie.kind) (content trie g t) (key_of call)) 32 (λ e. absurd (omega (arith, room, e))))
            ∙ and-false (not (is_some (get (content trie g t) (key_of call))))
        by_path (inr (single, tomb)) =
            absurd (update_of_tomb trie ok g t (key_of call) u.indirection single (node_in trie t u.indirection) (node_in trie (suc t) u.indirection) former u.now u.updates tomb)

    -- an own update makes of its generation's content what its call makes of it, and is answered so
    pub update_acts : act_in (hash_of trie.kind) Writable call (content trie g t) ≡ Some (changed_reply call former, content trie g (suc t))
    update_acts = acts (hash_of trie.kind) (content trie g t) (content trie g (suc t)) call former u.now u.asks changes free
