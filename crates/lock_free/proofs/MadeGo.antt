-- What an operation had made and has given up: its seat lets go of what each of these nodes named of others, one after the other.
use Rattle.std.proofs.Common.{◌≡◌, ◌==◌, ◌⊎◌, ◌+◌, ◌*◌, ◌<◌, ◌≤◌, ◌++◌, inl, inr, ℕ, Bool, true, false, not, List, [], ◌∷◌, Contains, Option, Some, cond, drop, filter, get_or, length, map}
use Rattle.std.proofs.Common.{take, refl, sym, ap, subst, ◌∙◌, arith}
use Rattle.std.proofs.lemmas.Bool.{false≢true}
use Rattle.std.proofs.lemmas.List.{drop_more, get_or-map, length-map, take_all, take-append-le}
use Rattle.std.proofs.lemmas.List.Elements.{All-contains, Contains-append_left, Contains-append_right, Contains-get_or, filter_passes}
use Rattle.std.proofs.lemmas.List.Sums.{sum_by-append, sum_by-cons}
use Rattle.trie_words.specs.Codes.{header_of}
use Rattle.machine_model.specs.Beneath.slot_arena.specs.declared.nodes.Node.{Node}
use Rattle.machine_model.specs.Beneath.slot_arena.specs.declared.nodes.Slot.{Slot}
use Rattle.machine_model.specs.Beneath.slot_arena.specs.declared.refs.Ref.{Ref}
use Rattle.machine_model.specs.Beneath.slot_arena.specs.Heaps.{node_at, refs_of_node}
use Rattle.machine_model.specs.declared.lines.Line.{Line}
use Rattle.proof_claims.proofs.Lists.{found_in}
use Rattle.lock_free.specs.declared.rules.View.{View}
use Rattle.lock_free.specs.declared.stock.OwnNode.{OwnNode}
use Rattle.lock_free.specs.Accounts.{place_of}
use Rattle.lock_free.specs.Claims.{HoldsAll}
use Rattle.lock_free.specs.Counts.{how_often}
use Rattle.lock_free.specs.Freeing.{HasLetGo}
use Rattle.lock_free.specs.GivingUp.{LeavesMade}
use Rattle.lock_free.specs.LeftNodes.{beside, is_among, HasLetNamesGo, IsNamed, LeavesNode, MayLetGo}
use Rattle.lock_free.specs.LettingGo.{all_of, AreOthers, AreOthersOf, HasItself}
use Rattle.lock_free.specs.LettingMadeGo.{slots_made, LeavesOut, MayLetMadeGo, SaysOverNone}
use Rattle.lock_free.specs.Loading.{now, IsSound}
use Rattle.lock_free.specs.Raising.{HasKept}
use Rattle.lock_free.specs.Reclaiming.{kind_of_node}
use Rattle.lock_free.specs.Stocks.{made_of}
use Rattle.lock_free.proofs.EntryRaises.{kept_both}
use Rattle.lock_free.proofs.LeftNames.{first_word, left_shape, main_kind, was_among}
use Rattle.lock_free.proofs.LeftOn.{words_on}
use Rattle.lock_free.proofs.Pools.{contains_map}

-- ---- what is left of a node is the same once others were let go of

module _ (v : View) (owed : List Ref) (w : View) (h : HasKept v owed w) where
  abbrev u : View
  u = record v { epoch = w.epoch; passed = w.passed; retired = w.retired; owed = owed; links = w.links }

  named_on : (node : Node) (k : Ref) → IsNamed v node k → IsNamed u node k
  named_on node k x = record { slot = x.slot; used = x.used; kind = x.kind; shared = x.shared }

  pub left_on : (name : ℕ) (node : Ref) (slot : Slot) → LeavesNode v name node slot → LeavesNode w name node slot
  left_on name node slot x =
      subst (λ z. LeavesNode z name node slot) (sym h.is)
      (record {
        used = x.used;
        place = x.place;
        words = words_on v u refl (λ r. refl) (λ r. refl) name slot.node x.words;
        names = λ k c. named_on slot.node k (x.names k c);
      })

  beside_on : (slots : List ℕ) (ks : List Ref) → beside w slots ks ≡ beside v slots ks
  beside_on slots ks = ap (λ z. beside z slots ks) h.is

-- what isn't left out isn't in one of these slots
apart_slots : (v : View) (slots : List ℕ) (ks : List Ref) (k : Ref) → Contains (beside v slots ks) k → Contains slots (place_of v.account k) → ⊥
apart_slots v slots ks k c there =
    let test : Ref → Bool = λ q. not (is_among slots (place_of v.account q)) in
    false≢true (sym (ap not (found_in slots (place_of v.account k) there)) ∙ All-contains (λ q. test q ≡ true) (filter test ks) k (filter_passes test ks) c)

-- as often as they were, or less
one_fewer : (k x : Ref) (some all : List Ref) (c : Bool) → how_often k some ≤ how_often k all → how_often k (cond (not c) (x ∷ some) some) ≤ how_often k (x ∷ all)
one_fewer k x some all true h = let whole = sum_by-cons (λ (y : Ref). cond {A = ℕ} (y == k) 1 0) x all in omega (arith, h, whole)
one_fewer k x some all false h =
    let whole = sum_by-cons (λ (y : Ref). cond {A = ℕ} (y == k) 1 0) x all in let less = sum_by-cons (λ (y : Ref). cond {A = ℕ} (y == k) 1 0) x some in omega (arith, h, whole, less)

beside_fewer : (v : View) (slots : List ℕ) (ks : List Ref) → HoldsAll (beside v slots ks) ks
beside_fewer v slots [] k = omega arith
beside_fewer v slots (x ∷ ks) k = one_fewer k x (beside v slots ks) ks (is_among slots (place_of v.account x)) (beside_fewer v slots ks k)

-- none of each
none_others : (v : View) (private : List Ref) (l : Line) (xs : List Ref) → AreOthersOf v private l xs (map (λ (x : Ref). []) xs)
none_others v private l [] = tt
none_others v private l (x ∷ xs) =
    (record { named = λ k. omega arith; apart = λ k c. absurd (omega (arith, c.1)); itself = λ k c. absurd (omega (arith, c.1)) }, none_others v private l xs)

-- ---- a node after the other

-- what the nodes from this one on named of others the seat holds still
abbrev pub HoldsRest : View → List OwnNode → Option ℕ → List ℕ → ℕ → View → Type 0
HoldsRest v made fresh kept n w =
    (m : MayLetMadeGo v made fresh kept) (kss : List (List Ref)) → AreOthersOf m.before m.private m.on (drop n m.private) kss → HoldsAll (all_of kss) w.owed

module _ (v : View) (made : List OwnNode) (fresh : Option ℕ) (kept : List ℕ) where
  module _ (n : ℕ) (low : n < length made) (d : OwnNode) (w : View) (let_go : HasLetGo v w) (rest : HoldsRest v made fresh kept n w) where
    abbrev own : OwnNode
    own = get_or made n d

    module _ (m : MayLetMadeGo v made fresh kept) where
      low_there : n < length m.private
      low_there = let same = ap length m.made_is in let mapped = length-map m.private (made_of m.before) in omega (arith, low, same, mapped)

      abbrev x : Ref
      x = get_or m.private n 0

      mine : Contains m.private x
      mine = Contains-get_or m.private n 0 low_there

      own_x : own ≡ made_of m.before x
      own_x = ap (λ ys. get_or ys n d) m.made_is ∙ get_or-map (made_of m.before) m.private n 0 d low_there

      drop_is : drop n m.private ≡ x ∷ drop (n + 1) m.private
      drop_is = drop_more m.private n 0 low_there

      abbrev leaves : LeavesMade m.before x v
      leaves = m.dropped.left x mine

      slot_is : place_of m.before.account x ≡ own.slot
      slot_is = sym (ap (λ (y : OwnNode). y.slot) own_x)

      left_there : LeavesNode v own.slot x leaves.slot
      left_there = subst (λ p. LeavesNode v p x leaves.slot) slot_is leaves.left

      kind_there : kind_of_node leaves.slot.node ≡ own.kind
      kind_there = ap kind_of_node leaves.is ∙ sym (ap (λ (y : OwnNode). y.kind) own_x)

      -- what it isn't to take over
      itself_over : SaysOverNone v own → (k : Ref) → HasItself m.before m.on x k
      itself_over over k =
          m.dropped.itself x mine
          (λ main.
          (let is_main = main_kind (node_at (now m.before).heap x) main in
          let said = over (sym kind_there ∙ ap kind_of_node leaves.is ∙ is_main) in
          let words = left_shape v own.slot leaves.slot.node (ap kind_of_node leaves.is ∙ is_main) left_there.words in
          let same = said.1 words.0 words.1 in
          (words.0, subst (λ p. Contains v.drafts (2 * p, words.0)) (sym slot_is) words.1, ap (λ f. (header_of f).previous) (sym same) ∙ said.2)))
          k

    module _ (count : ℕ) (says : LeavesOut v own fresh (length made) (length (slots_made made ++ kept)) count) where
      abbrev pub slots : List ℕ
      slots = take count (slots_made made ++ kept)

      -- the slots of what was made are among them
      slots_are : (slots ≡ slots_made made ++ kept) ⊎ (slots ≡ slots_made made)
      slots_are = elim says [
        | inl its ↦ inl (take_all count (slots_made made ++ kept) (let e = its.1 in omega (arith, e)))
        | inr its ↦ inr
            (let e = its.1 in let mapped = length-map made (λ (y : OwnNode). y.slot) in
            take-append-le count (slots_made made) kept (omega (arith, e, mapped)) ∙ take_all count (slots_made made) (omega (arith, e, mapped)))
      ]

      made_among : (name : ℕ) → Contains (slots_made made) name → Contains slots name
      made_among name c = elim slots_are [
        | inl all ↦ subst (λ ns. Contains ns name) (sym all) (Contains-append_left (slots_made made) kept name c)
        | inr some ↦ subst (λ ns. Contains ns name) (sym some) c
      ]

      module _ (m : MayLetMadeGo v made fresh kept) where
        abbrev it : Ref
        it = x m

        abbrev slot : Slot
        slot = (leaves m).slot

        abbrev others : List Ref
        others = beside v slots (refs_of_node (m.dropped.left (get_or m.private n 0) (mine m)).slot.node)

        not_own : (k : Ref) → Contains others k → ¬ Contains m.private k
        not_own k c own_k =
            let its = m.dropped.left k own_k in
            let place : place_of v.account k ≡ place_of m.before.account k = its.left.place in
            let there : Contains (slots_made made) (place_of m.before.account k) =
            subst (λ ys. Contains (slots_made ys) (place_of m.before.account k)) (sym m.made_is)
            (contains_map (λ (y : OwnNode). y.slot) (map (made_of m.before) m.private) (made_of m.before k) (contains_map (made_of m.before) m.private k own_k)) in
            apart_slots v slots (refs_of_node slot.node) k c (subst (Contains slots) (sym place) (made_among (place_of m.before.account k) there))

        its_own : (k : Ref) → Contains others k → HasItself m.before m.on it k
        its_own k c = elim says [
          | inl all ↦
              m.covers it k (mine m) (all.0 ∙ ap Some (sym (slot_is m)))
              (subst (λ node. Contains (refs_of_node node) k) (leaves m).is (was_among v slots (refs_of_node slot.node) k c))
              (λ there.
              apart_slots v slots (refs_of_node slot.node) k c
              (subst (λ ns. Contains ns (place_of v.account k)) (sym (take_all count (slots_made made ++ kept) (let e = all.1 in omega (arith, e))))
              (Contains-append_right (slots_made made) kept (place_of v.account k) there)))
          | inr some ↦ itself_over m some.0 k
        ]

        are_others : AreOthers m.before m.private m.on it others
        are_others = record {
          named = subst (λ node. HoldsAll others (refs_of_node node)) (leaves m).is (beside_fewer v slots (refs_of_node slot.node));
          apart = not_own;
          itself = its_own;
        }

        held : (kss : List (List Ref)) → AreOthersOf m.before m.private m.on (drop (n + 1) m.private) kss → HoldsAll (others ++ all_of kss) w.owed
        held kss are = rest m (others ∷ kss) (subst (λ xs. AreOthersOf m.before m.private m.on xs (others ∷ kss)) (sym (drop_is m)) (are_others, are))

        holds_now : HoldsAll others w.owed
        holds_now k =
            let all = held (map (λ (y : Ref). []) (drop (n + 1) m.private)) (none_others m.before m.private m.on (drop (n + 1) m.private)) k in
            let both = sum_by-append (λ (y : Ref). cond {A = ℕ} (y == k) 1 0) others (all_of (map (λ (y : Ref). []) (drop (n + 1) m.private))) in
            omega (arith, all, both)

        same_others : beside w slots (refs_of_node slot.node) ≡ others
        same_others = beside_on v w.owed w let_go slots (refs_of_node slot.node)

        pub may_release : MayLetGo w own.slot own.kind slots
        may_release = record {
          node = it;
          slot = slot;
          left = left_on v w.owed w let_go own.slot it slot (left_there m);
          its_kind = kind_there m;
          holds = subst (λ ks. HoldsAll ks w.owed) (sym same_others) holds_now;
        }

      pub rest_next : (z : View) → HasLetNamesGo w own.slot own.kind slots z → HoldsRest v made fresh kept (n + 1) z
      unfolding may_release
      rest_next z released m kss are k =
          let less = (released (may_release m)).all k in
          let all = held m kss are k in
          let both = sum_by-append (λ (y : Ref). cond {A = ℕ} (y == k) 1 0) (others m) (all_of kss) in
          let same = ap (how_often k) (same_others m) in
          omega (arith, less, all, both, same)

      pub kept_next : (m : MayLetMadeGo v made fresh kept) (z : View) → HasLetNamesGo w own.slot own.kind slots z → HasLetGo v z
      kept_next m z released = kept_both v w z w.owed z.owed let_go (released (may_release m)).kept

    -- nothing of it is let go of
    pub rest_passed : HoldsRest v made fresh kept (n + 1) w
    rest_passed m kss are =
        rest m ([] ∷ kss)
        (subst (λ xs. AreOthersOf m.before m.private m.on xs ([] ∷ kss)) (sym (drop_is m))
        (record { named = λ k. omega arith; apart = λ k c. absurd (omega (arith, c.1)); itself = λ k c. absurd (omega (arith, c.1)) }, are))

    -- its words are the table's
    pub word_inside : (words : ℕ) → IsSound words w → MayLetMadeGo v made fresh kept → 2 * own.slot < words
    word_inside words sound m = first_word words w sound own.slot (x m) (leaves m).slot (left_on v w.owed w let_go own.slot (x m) (leaves m).slot (left_there m))

    -- ---- as the program has it

    module _ (read : OwnNode) (read_is : read ≡ get_or made n d) (u : View) (same : u ≡ w) where
      pub inside_so : (words : ℕ) → IsSound words w → MayLetMadeGo v made fresh kept → 2 * read.slot < words
      inside_so words sound m = subst (λ (o : OwnNode). 2 * o.slot < words) (sym read_is) (word_inside words sound m)

      pub passed_so : HasLetGo v u × HoldsRest v made fresh kept (n + 1) u
      passed_so = subst (λ z. HasLetGo v z × HoldsRest v made fresh kept (n + 1) z) (sym same) (let_go, rest_passed)

      module _ (count most all : ℕ) (most_is : most ≡ length made) (all_is : all ≡ length (slots_made made ++ kept)) (says : LeavesOut w read fresh most all count) (out : List ℕ)
          (out_is : out ≡ take count (slots_made made ++ kept)) where
        says_now : LeavesOut v own fresh (length made) (length (slots_made made ++ kept)) count
        says_now =
            subst (λ o. LeavesOut v o fresh (length made) (length (slots_made made ++ kept)) count) read_is
            (subst (λ k. LeavesOut v read fresh (length made) k count) all_is
            (subst (λ k. LeavesOut v read fresh k all count) most_is (subst (λ z. LeavesOut z read fresh most all count) let_go.is says)))

        pub release_so : MayLetMadeGo v made fresh kept → MayLetGo u read.slot read.kind out
        release_so m =
            subst (λ z. MayLetGo z read.slot read.kind out) (sym same)
            (subst (λ (o : OwnNode). MayLetGo w o.slot o.kind out) (sym read_is)
            (subst (λ ns. MayLetGo w own.slot own.kind ns) (sym out_is) (may_release count says_now m)))

        pub released_so : MayLetMadeGo v made fresh kept → (z : View) → HasLetNamesGo u read.slot read.kind out z →
            HasLetGo v z × HoldsRest v made fresh kept (n + 1) z
        released_so m z released =
            let now =
            subst (λ y. HasLetNamesGo y own.slot own.kind (take count (slots_made made ++ kept)) z) same
            (subst (λ (o : OwnNode). HasLetNamesGo u o.slot o.kind (take count (slots_made made ++ kept)) z) read_is
            (subst (λ ns. HasLetNamesGo u read.slot read.kind ns z) out_is released)) in
            (kept_next count says_now m z now, rest_next count says_now z now)
