-- What operations that look for their key find out of the content.
use Rattle.std.proofs.Common.{◌≡◌, ◌≢◌, ℕ, suc, ◌+◌, ◌-◌, ◌^◌, ◌<◌, ◌≤◌, true, false, length, Option, Some, None, ◌⊎◌, inl, inr, sym, ap, subst, ◌∙◌, arith}
use Rattle.std.specs.FinMap.{get}
use Rattle.arrayvec.specs.ArrayVec.{ArrayVec}
use Rattle.proof_contents.specs.Vocabulary.{hash_of, Writable, ReadOnly, Call, Get, Reply, Ref, Tomb, List as Listed, Answers, key_of, inserts, absent_reply, when_found}
use Rattle.proof_contents.specs.Beneath.history.specs.declared.replies.Reply.TheVariants as reply
use Rattle.proof_contents.specs.Nodes.Looking.{Absent, Has, Below, look_among, value_by, find_at, value_in}
use Rattle.proof_contents.specs.Nodes.Changing.{look}
use Rattle.proof_contents.specs.Tries.{Trie, generation, node_in, says, assigned, value_at, content, On, at_below, IsTombed, most_levels}
use Rattle.proof_contents.specs.Steps.{IsTrie, Looks, IsReached, root_is, below_is}
use Rattle.proof_contents.specs.Effects.{act_in, IsKeyed}
use Rattle.proof_contents.proofs.Values.Found.{assigned-last, found_below}
use Rattle.proof_contents.proofs.Shapes.Nodes.{leads_below}
use Rattle.proof_contents.proofs.Changes.Updating.{found_of}
use Rattle.proof_contents.proofs.Values.Paths.{on-within, path_lasts, tomb_ends}
use Rattle.proof_contents.proofs.Values.Contents.{get-content}
use Rattle.proof_contents.proofs.Changes.Updates.{value-on, value_of-found}
use Rattle.proof_contents.proofs.Values.Listed.{others-list}
use Rattle.proof_contents.proofs.Changes.Effects.{found_answers, absent_answers, crowded_answers, get_answers}

module _ (trie : Trie) (ok : IsTrie trie) where
  -- ---- on a writable handle

  module _ (t g key : ℕ) (i main : Ref) (looks : Looks trie t g key i main) where
    -- the indirection is on the path still, or has a tomb
    on_or_tombed : On trie t g key (trie.depth i) i ⊎ IsTombed trie t i
    on_or_tombed = path_lasts trie ok looks.once t g key (trie.depth i) i looks.before looks.in_range looks.on

    -- one step down keeps to the path
    pub step_down : (below : Ref) → look trie.node (hash_of trie.kind) (trie.depth i) key (trie.node main) ≡ Below below → generation trie below ≡ g →
        On trie t g key (suc (trie.depth i)) below
    step_down below led own = by_path on_or_tombed
      where
        led' : says trie t key (trie.depth i) i ≡ Below below
        led' = ap (λ m. look trie.node (hash_of trie.kind) (trie.depth i) key (trie.node m)) looks.given ∙ led

        by_path : On trie t g key (trie.depth i) i ⊎ IsTombed trie t i → On trie t g key (suc (trie.depth i)) below
        by_path (inl on) = at_below (trie.depth i) i below on led' own
        by_path (inr tomb) = absurd (tomb_ends trie ok t key i below looks.in_range tomb led')

    -- where the main node isn't a tomb
    module _ (stands : (single : Ref) → trie.node main ≢ Tomb single) where
      on_now : On trie t g key (trie.depth i) i
      on_now = by_path on_or_tombed
        where
          by_path : On trie t g key (trie.depth i) i ⊎ IsTombed trie t i → On trie t g key (trie.depth i) i
          by_path (inl on) = on
          by_path (inr (single, tomb)) = absurd (stands single (ap trie.node (sym looks.given) ∙ tomb))

      -- the content has what it says of the key
      pub looked_up : (found : Option ℕ) → look trie.node (hash_of trie.kind) (trie.depth i) key (trie.node main) ≡ found_of found → get (content trie g t) key ≡ found
      looked_up found said =
          let within = on-within trie ok t g key (trie.depth i) i looks.in_range on_now in
          let sum : suc (14 - trie.depth i) + trie.depth i ≡ most_levels = omega arith in
          get-content trie ok g t key ∙ value-on trie ok t g key (14 - trie.depth i) i looks.in_range on_now sum
          ∙ ap (λ m. value_in trie.node (assigned trie g t) (hash_of trie.kind) key (14 - trie.depth i) (trie.depth i) (trie.node m)) looks.given
          ∙ ap (value_by (find_at trie.node (assigned trie g t) (hash_of trie.kind) key (14 - trie.depth i) (suc (trie.depth i)))) said
          ∙ value_of-found (find_at trie.node (assigned trie g t) (hash_of trie.kind) key (14 - trie.depth i) (suc (trie.depth i))) found

  -- what such an operation replies where it changes nothing
  module _ (t g : ℕ) (call : Call) (i main : Ref) (looks : Looks trie t g (key_of call) i main) (stands : (single : Ref) → trie.node main ≢ Tomb single) (keyed : IsKeyed call) where
    pub absent_reply_right : look trie.node (hash_of trie.kind) (trie.depth i) (key_of call) (trie.node main) ≡ Absent → inserts call ≡ false →
        act_in (hash_of trie.kind) Writable call (content trie g t) ≡ Some (absent_reply call, content trie g t)
    absent_reply_right none e = absent_answers (hash_of trie.kind) (content trie g t) call keyed (looked_up t g (key_of call) i main looks stands None none) e

    pub found_reply_right : (value : ℕ) (answer : Reply) → look trie.node (hash_of trie.kind) (trie.depth i) (key_of call) (trie.node main) ≡ Has value →
        when_found call value ≡ Answers answer → act_in (hash_of trie.kind) Writable call (content trie g t) ≡ Some (answer, content trie g t)
    found_reply_right value answer has e =
        found_answers (hash_of trie.kind) (content trie g t) call value answer keyed (looked_up t g (key_of call) i main looks stands (Some value) has) e

    -- a full list of other keys
    pub crowded_reply_right : (singles : ArrayVec Ref) → trie.node main ≡ Listed singles → length singles.items ≡ 32 → look_among trie.node (key_of call) singles.items ≡ Absent →
        inserts call ≡ true → key_of call < 2 ^ 64 → act_in (hash_of trie.kind) Writable call (content trie g t) ≡ Some (reply.Crowded, content trie g t)
    crowded_reply_right singles is full none e fits =
        crowded_answers (hash_of trie.kind) (content trie g t) call
        (looked_up t g (key_of call) i main looks stands None (ap (look trie.node (hash_of trie.kind) (trie.depth i) (key_of call)) is ∙ none)) e
        (others-list trie ok t g (key_of call) i looks.in_range (on_now t g (key_of call) i main looks stands) singles (ap trie.node looks.given ∙ is) fits none ∙ full)

  -- ---- on a read-only handle: what is found in the end

  reached-depth : (g key depth : ℕ) (i : Ref) → IsReached trie g key depth i → trie.depth i ≡ depth
  reached-depth g key depth i root_is = ok.root_depth g
  reached-depth g key depth i (below_is depth' above below reached led) =
      let at = reached-depth g key depth' above reached in
      (leads_below trie above key (node_in trie trie.last above) below (ok.shaped trie.last above (omega arith))
      (subst (λ d. says trie trie.last key d above ≡ Below below) (sym at) led)).child.deeper ∙ ap suc at

  reached-within : (g key depth : ℕ) (i : Ref) → IsReached trie g key depth i → depth ≤ 13
  reached-within g key depth i root_is = omega arith
  reached-within g key depth i (below_is depth' above below reached led) =
      let at = reached-depth g key depth' above reached in
      let led_ = (leads_below trie above key (node_in trie trie.last above) below (ok.shaped trie.last above (omega arith))
      (subst (λ d. says trie trie.last key d above ≡ Below below) (sym at) led)) in
      omega (arith, led_.deep, led_.child.deeper, at)

  found-reached : (g key levels depth : ℕ) (i : Ref) → IsReached trie g key depth i → levels + depth ≡ most_levels →
      value_at trie g trie.last key ≡ find_at trie.node (assigned trie g trie.last) (hash_of trie.kind) key levels depth i
  found-reached g key levels depth i root_is sum = ap (λ l. find_at trie.node (assigned trie g trie.last) (hash_of trie.kind) key l 0 (trie.root g)) (omega arith)
  found-reached g key levels depth i (below_is depth' above below reached led) sum =
      found-reached g key (suc levels) depth' above reached (omega arith)
      ∙ found_below trie (assigned trie g trie.last) key levels depth' above
      ∙ ap (λ m. value_in trie.node (assigned trie g trie.last) (hash_of trie.kind) key levels depth' (trie.node m)) (assigned-last trie g above)
      ∙ ap (value_by (find_at trie.node (assigned trie g trie.last) (hash_of trie.kind) key levels (suc depth'))) led

  -- what the last main node on the way says is what the content has in the end
  pub reached_value : (g key depth : ℕ) (i : Ref) (found : Option ℕ) → IsReached trie g key depth i → says trie trie.last key depth i ≡ found_of found →
      get (content trie g trie.last) key ≡ found
  reached_value g key depth i found reached said =
      let within = reached-within g key depth i reached in
      let sum : suc (14 - depth) + depth ≡ most_levels = omega arith in
      get-content trie ok g trie.last key ∙ found-reached g key (suc (14 - depth)) depth i reached sum
      ∙ found_below trie (assigned trie g trie.last) key (14 - depth) depth i
      ∙ ap (λ m. value_in trie.node (assigned trie g trie.last) (hash_of trie.kind) key (14 - depth) depth (trie.node m)) (assigned-last trie g i)
      ∙ ap (value_by (find_at trie.node (assigned trie g trie.last) (hash_of trie.kind) key (14 - depth) (suc depth))) said
      ∙ value_of-found (find_at trie.node (assigned trie g trie.last) (hash_of trie.kind) key (14 - depth) (suc depth)) found

  pub get_reply_right : (g h key depth : ℕ) (i : Ref) (found : Option ℕ) → IsReached trie g key depth i → says trie trie.last key depth i ≡ found_of found →
      act_in (hash_of trie.kind) ReadOnly (Get h key) (content trie g trie.last) ≡ Some (reply.Found found, content trie g trie.last)
  get_reply_right g h key depth i found reached said = get_answers (hash_of trie.kind) (content trie g trie.last) h key found (reached_value g key depth i found reached said)
