-- How the way down to two singles is made, node by node.
use Rattle.std.proofs.Common.{arith, ◌≡◌, ℕ, suc, ◌+◌, ◌-◌, ◌*◌, ◌≤◌, ◌==◌, List, [], ◌∷◌, ◌++◌, length, length-append, sym, ap, ◌∙◌, subst}
use Rattle.std.proofs.lemmas.Bool.{cond_both}
use Rattle.std.proofs.lemmas.List.Elements.{All-take, All-weaker}
use Rattle.machine_core.specs.Vocabulary.{HashKind, hash_of, Call, Node, Indirection, Single, Ref, AreLive, IsLive, is_indirection, Heap, entry_at, generation_at, main_at, main_of, node_at}
use Rattle.machine_core.specs.Vocabulary.{refs_of_node, taken, times, by_index, pair, rung, index_in, list_depth, parting, key_in, old_hash, key_of, value_of, State, key_hash, parts_at, with_link}
use Rattle.machine_core.specs.Vocabulary.{with_links, with_single, Draft, first_draft, next_made, HasEmptySlots, at_heap, no_state, CanSwap, IsDraft, KeepsRecords}
use Rattle.epochs.specs.Memories.{Memory}
use Rattle.machine_core.specs.Beneath.proof_operations.proofs.MostHeld.{pair_within}
use Rattle.machine_core.specs.Beneath.proof_straight.specs.Drafts.{with_made}
use Rattle.machine_core.specs.Beneath.proof_memory.proofs.Claims.Made.{by_index_all, pair_all}
use Rattle.machine_core.specs.Pairing.{CanMake, IsMade, Makes}
use Rattle.proof_core.proofs.Claims.{one_live}
use Rattle.proof_core.proofs.Drafts.{births_more, held_more, node_still, takes_one}

-- ---- nodes are made

-- what one more node leaves
pub record MadeOne (before : Memory) (node : Node) (fresh : Ref) (after : Memory) : Type 0 where
  pub heap : after.heap ≡ taken before.heap node
  pub outside : after.outside ≡ fresh ∷ before.outside
  pub stay : (r : Ref) → IsLive before.heap r → IsLive after.heap r
  pub records : KeepsRecords before after

pub makes_one : (before after : Memory) (made made' : List Ref) (node : Node) (fresh : Ref) → CanMake before made 1 → MadeOne before node fresh after → made' ≡ made ++ fresh ∷ [] →
    Makes 1 before made after made'
makes_one before after made made' node fresh one is pushed =
    let takes = takes_one before.heap after.heap node one.empty one.free is.heap in
    record {
      can = λ more can. record {
        empty = subst HasEmptySlots (sym is.heap) takes.empty;
        free = omega (arith, can.free, takes.fewer, ap (λ h. length h.free) is.heap);
        births = omega (arith, can.births, births_more before.heap after.heap node one.empty one.free is.heap);
        held = λ r. omega (
          arith,
          ap (times r) pushed,
          ap (times r) is.outside,
          held_more made before.outside fresh can.held r,
        );
        room = omega (arith, can.room, ap length pushed, length-append made (fresh ∷ []));
      };
      stay = is.stay;
      nodes = node_still before.heap after.heap node one.empty one.free is.heap;
      records = is.records;
    }

-- one after the other
pub makes_on : (m n all : ℕ) (a b c : Memory) (x y z : List Ref) → all ≡ m + n → Makes m a x b y → Makes n b y c z → Makes all a x c z
makes_on m n all a b c x y z is first second = record {
  can = λ more can. second.can more (first.can (n + more) (subst (CanMake a x) (let same : all + more ≡ m + (n + more) = omega (arith, is) in same) can));
  stay = λ r live. second.stay r (first.stay r live);
  nodes = λ r live. second.nodes r (first.stay r live) ∙ first.nodes r live;
  records = (second.records.0 ∙ first.records.0, second.records.1 ∙ first.records.1);
}

-- fewer can be made, too
pub can_fewer : (memory : Memory) (made : List Ref) (n m : ℕ) → m ≤ n → CanMake memory made n → CanMake memory made m
can_fewer memory made n m less can = record {
  empty = can.empty;
  free = omega (arith, can.free, less);
  births = omega (arith, can.births, less);
  held = can.held;
  room = omega (arith, can.room, less);
}

-- ---- the draft

-- a node that was made comes next
pub made_next : (state : State) (draft : Draft) (memory after : Memory) (made made' : List Ref) (newest fresh : Ref) (node : Node) → IsMade state draft memory made newest →
    fresh ≡ next_made memory.heap → made' ≡ made ++ fresh ∷ [] → IsDraft state (with_made state draft node) after → IsMade state (with_made state draft node) after made' fresh
made_next state draft memory after made made' newest fresh node is own pushed drafted =
    let next : next_made draft.heap ≡ fresh = ap next_made (sym is.draft_is.heap) ∙ sym own in
    record { draft_is = drafted; private = ap (λ l. l ++ next_made draft.heap ∷ []) is.private ∙ ap (λ r. made ++ r ∷ []) next ∙ sym pushed; newest_is = next }

-- the same of the same node
pub made_same : (state : State) (draft : Draft) (memory : Memory) (made : List Ref) (newest : Ref) (node other : Node) → node ≡ other → IsMade state (with_made state draft node) memory made newest →
    IsMade state (with_made state draft other) memory made newest
made_same state draft memory made newest node other same is = subst (λ n. IsMade state (with_made state draft n) memory made newest) same is

-- the way is made but for so many levels more, down to an indirection over the newest node of this draft
pub record LinksTo (state : State) (call : Call) (root : Ref) (from : ℕ) (way : Draft) (levels : ℕ) (memory : Memory) (made : List Ref) (link : Ref) : Type 0 where
  pub draft : Draft
  pub rest : with_links state call root from levels draft ≡ way
  pub is : IsMade state (with_link state root draft) memory made link

-- the lowest indirection is made
pub links_first : (state : State) (call : Call) (root : Ref) (from all levels depth : ℕ) (draft : Draft) (generation : ℕ) (memory after : Memory) (made made' : List Ref) (main link : Ref) →
    depth ≡ from + all → depth ≡ from + levels → IsMade state draft memory made main → generation_at state.heap root ≡ generation →
    IsMade state (with_made state draft (Indirection generation main)) after made' link → LinksTo state call root from (with_links state call root from all draft) levels after made' link
links_first state call root from all levels depth draft generation memory after made made' main link a b was g is = record {
  draft = draft;
  rest = ap (λ n. with_links state call root from n draft) (let same : levels ≡ all = omega (arith, a, b) in same);
  is = made_same state draft after made' link (Indirection generation main) (Indirection (generation_at state.heap root) draft.newest)
      (ap (λ x. Indirection x main) (sym g) ∙ ap (Indirection (generation_at state.heap root)) (sym was.newest_is)) is;
}

-- a branch of it is made, and an indirection over that
pub links_next : (state : State) (call : Call) (root : Ref) (from levels at : ℕ) (way : Draft) (generation hash : ℕ) (memory middle after : Memory) (made made' made'' : List Ref)
    (link above next : Ref) → (so_far : LinksTo state call root from way (suc levels) memory made link) → at ≡ from + levels →
    generation_at state.heap root ≡ generation → key_hash state (key_of call) ≡ hash →
    ((draft : Draft) → IsMade state draft memory made link → IsMade state (with_made state draft (rung hash at link)) middle made' above) →
    ((draft : Draft) → IsMade state draft middle made' above → IsMade state (with_made state draft (Indirection generation above)) after made'' next) →
    LinksTo state call root from way levels after made'' next
unfolding with_links
links_next state call root from levels at way generation hash memory middle after made made' made'' link above next so_far deep g h first second =
    let linked = with_link state root so_far.draft in
    let branch = rung (key_hash state (key_of call)) (from + levels) linked.newest in
    let same : rung hash at link ≡ branch =
    ap (λ x. rung x at link) (sym h) ∙ ap (λ x. rung (key_hash state (key_of call)) x link) deep ∙ ap (rung (key_hash state (key_of call)) (from + levels)) (sym so_far.is.newest_is) in
    let runged : IsMade state (with_made state linked branch) middle made' above = made_same state linked middle made' above (rung hash at link) branch same (first linked so_far.is) in
    record {
      draft = with_made state linked branch;
      rest = so_far.rest;
      is = made_same state (with_made state linked branch) after made'' next (Indirection generation above) (Indirection (generation_at state.heap root) (with_made state linked branch).newest)
          (ap (λ x. Indirection x above) (sym g) ∙ ap (Indirection (generation_at state.heap root)) (sym runged.newest_is)) (second (with_made state linked branch) runged);
    }

-- no level is left
pub links_last : (state : State) (call : Call) (root : Ref) (from levels : ℕ) (way : Draft) (memory : Memory) (made : List Ref) (link : Ref) → levels ≡ 0 →
    LinksTo state call root from way levels memory made link → IsMade state way memory made link
unfolding with_links
links_last state call root from levels way memory made link none to =
    subst (λ d. IsMade state d memory made link) (sym (ap (λ n. with_links state call root from n to.draft) none) ∙ to.rest) to.is

-- what holds of the way at each level
pub record IsLinked (before : Memory) (made : List Ref) (generation hash from depth at : ℕ) (main : Ref) (now : Memory) (made' : List Ref) (link : Ref) : Type 0 where
  pub within : (from ≤ at) × (at ≤ depth)
  pub lives : IsLive now.heap link
  pub makes : Makes (2 * (depth - at) + 1) before made now made'
  pub links : (state : State) (call : Call) (root : Ref) (draft : Draft) (all levels : ℕ) → IsMade state draft before made main → generation_at state.heap root ≡ generation →
      key_hash state (key_of call) ≡ hash → depth ≡ from + all → at ≡ from + levels → LinksTo state call root from (with_links state call root from all draft) levels now made' link

-- ---- where both singles stand

-- the first of them is made
pub can_begin : (memory : Memory) (indirection main : Ref) (made : List Ref) (n m : ℕ) → made ≡ [] → n ≤ 33 → m ≤ n → CanSwap memory.heap indirection main n → CanMake memory made m
can_begin memory indirection main made n m none few less can = record {
  empty = can.empty;
  free = omega (arith, can.free, less);
  births = omega (arith, can.births, less);
  held = λ r. omega (arith, ap (times r) none);
  room = omega (arith, few, less, ap length none);
}

-- behind all that was made a main node can be swapped in
pub can_swap_still : (before after : Memory) (made made' : List Ref) (indirection main : Ref) (n nodes more : ℕ) → made ≡ [] → n ≤ 33 → nodes + more ≤ n → CanSwap before.heap indirection main n →
    Makes nodes before made after made' → CanSwap after.heap indirection main more
can_swap_still before after made made' indirection main n nodes more none few less can makes =
    let left = makes.can more (can_begin before indirection main made n (nodes + more) none few less can) in
    record {
      empty = left.empty;
      free = left.free;
      births = left.births;
      live = makes.stay indirection can.live;
      kind = ap is_indirection (makes.nodes indirection can.live) ∙ can.kind;
      over = ap main_of (makes.nodes indirection can.live) ∙ can.over;
      main_live = makes.stay main can.main_live;
      entries = subst (λ n. AreLive after.heap (refs_of_node n)) (sym (makes.nodes main can.main_live))
          (All-weaker (IsLive before.heap) (IsLive after.heap) makes.stay (refs_of_node (node_at before.heap main)) can.entries);
    }

-- how deep that is
pub depth_within : (hashes : HashKind) (a b d n : ℕ) → n ≡ parting (list_depth hashes - (d + 1)) a b (d + 1) → (d + 1 ≤ n) × (n ≤ d + 13)
depth_within hashes a b d n is = let within = pair_within (at_heap no_state no_state.heap hashes) a b d in (omega (arith, is, within.0), omega (arith, is, within.1))

-- what a call finds of the other single, by what the heap has
pub record FindsOther (state : State) (call : Call) (depth : ℕ) (indirection : Ref) (position : ℕ) (old : Ref) (old_hashed hash deep : ℕ) : Type 0 where
  pub entry : old ≡ entry_at state.heap (main_at state.heap indirection) position
  pub old_is : old_hashed ≡ old_hash state (main_at state.heap indirection) position
  pub hash_is : hash ≡ key_hash state (key_of call)
  pub deep_is : deep ≡ parts_at state call depth indirection position

pub finds_other : (state : State) (call : Call) (depth : ℕ) (indirection main : Ref) (position : ℕ) (hashes : HashKind) (old : Ref) (key old_hashed hash end deep : ℕ) (heap : Heap) →
    heap ≡ state.heap → main_at heap indirection ≡ main → state.limits.hash ≡ hashes → key_of call ≡ key → old ≡ entry_at heap main position →
    old_hashed ≡ hash_of hashes (key_in (node_at heap old)) → hash ≡ hash_of hashes key → end ≡ list_depth hashes → deep ≡ parting (end - (depth + 1)) old_hashed hash (depth + 1) →
    FindsOther state call depth indirection position old old_hashed hash deep
finds_other state call depth indirection main position hashes old key old_hashed hash end deep heap same over kind own at was is last there =
    let entry : old ≡ entry_at state.heap (main_at state.heap indirection) position =
    at ∙ ap (λ h. entry_at h main position) same ∙ ap (λ m. entry_at state.heap m position) (sym over ∙ ap (λ h. main_at h indirection) same) in
    let old_is : old_hashed ≡ old_hash state (main_at state.heap indirection) position =
    was ∙ ap (λ h. hash_of hashes (key_in (node_at h old))) same ∙ ap (λ r. hash_of hashes (key_in (node_at state.heap r))) entry
    ∙ ap (λ h. hash_of h (key_in (node_at state.heap (entry_at state.heap (main_at state.heap indirection) position)))) (sym kind) in
    let hash_is : hash ≡ key_hash state (key_of call) = is ∙ ap (hash_of hashes) (sym own) ∙ ap (λ h. hash_of h (key_of call)) (sym kind) in
    record {
      entry = entry;
      old_is = old_is;
      hash_is = hash_is;
      deep_is = there ∙ ap (λ n. parting (n - (depth + 1)) old_hashed hash (depth + 1)) (last ∙ ap list_depth (sym kind))
          ∙ ap (λ a. parting (list_depth state.limits.hash - (depth + 1)) a hash (depth + 1)) old_is
          ∙ ap (λ b. parting (list_depth state.limits.hash - (depth + 1)) (old_hash state (main_at state.heap indirection) position) b (depth + 1)) hash_is;
    }

-- the call's single is made
pub single_first : (state : State) (call : Call) (key value : ℕ) (memory : Memory) (made : List Ref) (newest : Ref) → key_of call ≡ key → value_of call ≡ value →
    IsMade state (with_made state (first_draft state) (Single key value)) memory made newest → IsMade state (with_single state call) memory made newest
single_first state call key value memory made newest k v is =
    made_same state (first_draft state) memory made newest (Single key value) (Single (key_of call) (value_of call)) (ap (λ x. Single x value) (sym k) ∙ ap (Single (key_of call)) (sym v)) is

-- the main node of both is made
pub pair_second : (state : State) (call : Call) (root : Ref) (depth : ℕ) (indirection : Ref) (position levels : ℕ) (old : Ref) (old_hashed hash deep : ℕ) (single : Ref) (node : Node)
    (before memory : Memory) (made made' : List Ref) (newest : Ref) → FindsOther state call depth indirection position old old_hashed hash deep → deep ≡ depth + 1 + levels →
    IsMade state (with_single state call) before made single → node ≡ pair state.limits.hash deep old_hashed hash old single →
    IsMade state (with_made state (with_single state call) node) memory made' newest →
    IsMade state
    (with_made state (with_single state call)
    (pair state.limits.hash (depth + 1 + levels) (old_hash state (main_at state.heap indirection) position) (key_hash state (key_of call))
    (entry_at state.heap (main_at state.heap indirection) position) (with_single state call).newest)) memory made' newest
pair_second state call root depth indirection position levels old old_hashed hash deep single node before memory made made' newest finds far first is second =
    made_same state (with_single state call) memory made' newest node
    (pair state.limits.hash (depth + 1 + levels) (old_hash state (main_at state.heap indirection) position) (key_hash state (key_of call))
    (entry_at state.heap (main_at state.heap indirection) position) (with_single state call).newest)
    (is ∙ ap (λ n. pair state.limits.hash n old_hashed hash old single) far ∙ ap (λ n. pair state.limits.hash (depth + 1 + levels) n hash old single) finds.old_is
    ∙ ap (λ n. pair state.limits.hash (depth + 1 + levels) (old_hash state (main_at state.heap indirection) position) n old single) finds.hash_is
    ∙ ap (λ r. pair state.limits.hash (depth + 1 + levels) (old_hash state (main_at state.heap indirection) position) (key_hash state (key_of call)) r single) finds.entry
    ∙ ap (pair state.limits.hash (depth + 1 + levels) (old_hash state (main_at state.heap indirection) position) (key_hash state (key_of call))
    (entry_at state.heap (main_at state.heap indirection) position)) (sym first.newest_is)) second

-- ---- what the new nodes name is live

pub pair_lives : (heap : Heap) (kind : HashKind) (depth a b : ℕ) (old single : Ref) (node : Node) → node ≡ pair kind depth a b old single → IsLive heap old → IsLive heap single →
    AreLive heap (refs_of_node node)
pair_lives heap kind depth a b old single node is x y =
    subst (λ n. AreLive heap (refs_of_node n)) (sym is)
    (cond_both (depth == list_depth kind) _ _ (λ n. AreLive heap (refs_of_node n)) (λ e. All-take (IsLive heap) 32 (old ∷ single ∷ []) (pair_all (IsLive heap) old single x y))
    (λ e. All-take (IsLive heap) 32 (by_index (index_in a depth) (index_in b depth) old single) (by_index_all (IsLive heap) (index_in a depth) (index_in b depth) old single x y)))

pub rung_lives : (heap : Heap) (hash depth : ℕ) (below : Ref) (node : Node) → node ≡ rung hash depth below → IsLive heap below → AreLive heap (refs_of_node node)
rung_lives heap hash depth below node is live =
    subst (λ n. AreLive heap (refs_of_node n)) (sym is) (All-take (IsLive heap) 32 (below ∷ []) (one_live heap below live))
