-- What the lines of RENEW and CLEAN see of a branch and of its entries, where one actor alone takes steps.
use Rattle.std.proofs.Common.{◌≡◌, ℕ, ◌<◌, ◌≤◌, true, false, List, All, length, Option, Some, None, refl, sym, ap, subst, ◌∙◌, ltb-true, leb-true, arith}
use Rattle.std.proofs.lemmas.Bool.{false≢true}
use Rattle.arrayvec.specs.ArrayVec.{ArrayVec}
use Rattle.proof_obstruction_free.specs.Vocabulary.{Ref, Node, Branch, Single, Tomb, Slot, node_at, node_of, entries_of, Line, line_action, grown, AMain, ABranch, AnEntry, meets, is_branch, Is}
use Rattle.proof_obstruction_free.specs.Vocabulary.{Holds, AllHold, action_wants, done_wants, all_done_wants, IsInUse, sites_of, trie_at}
use Rattle.proof_obstruction_free.specs.Beneath.proof_contents.proofs.Nodes.Branches.{standing-le}
use Rattle.proof_obstruction_free.specs.Beneath.machine_model.specs.declared.actions.Action.TheVariants as act
use Rattle.proof_obstruction_free.specs.Beneath.proof_memory.specs.Wants.{is_indirection}
use Rattle.proof_obstruction_free.specs.Beneath.proof_memory.proofs.Safety.AtTimes.{action_at}
use Rattle.proof_obstruction_free.specs.Beneath.proof_memory.proofs.Claims.Uses.{Meets, safe_of, meets_of, all_of}
use Rattle.proof_obstruction_free.specs.Beneath.proof_contents.proofs.Shapes.Nodes.{branch_shape, tomb_shape}
use Rattle.proof_obstruction_free.specs.Beneath.proof_memory.proofs.Claims.Nodes.{main_plain}
use Rattle.proof_obstruction_free.specs.Beneath.proof_memory.proofs.Claims.Named.{main_claim, done_claim, left_claim}
use Rattle.proof_obstruction_free.specs.Beneath.proof_shape.proofs.Sites.Grown.{made_shaped}
use Rattle.proof_obstruction_free.specs.Beneath.proof_shape.proofs.Shaped.Places.{bare_single}
use Rattle.proof_obstruction_free.specs.Alone.{Lone, Stands, node}
use Rattle.proof_obstruction_free.specs.Stepping.{Stepping}

branch_plain : (n : Node) → meets ABranch n ≡ true → is_indirection n ≡ false
branch_plain (Branch b es) e = refl
branch_plain n e = absurd (false≢true e)

module _ (a : Lone) where
  -- ---- what was ever made

  -- a branch has at most 32 entries
  pub few_entries : (m : Ref) (b : ℕ) (es : ArrayVec Ref) → node a m ≡ Branch b es → length es.items ≤ 32
  few_entries m b es is = by_slot (grown a.states a.last m) refl
    where
      by_slot : (o : Option Slot) → grown a.states a.last m ≡ o → length es.items ≤ 32
      by_slot None e = let none : length es.items ≡ 0 = ap (λ n. length (entries_of n)) (sym is ∙ ap node_of e) in omega arith
      by_slot (Some slot) e =
          let node_is : slot.node ≡ Branch b es = sym (ap node_of e) ∙ is in
          let shape = made_shaped a.steps a.run a.takes a.fit a.last (omega arith) m (slot, e, ap (meets AMain) node_is) in
          let branch = branch_shape (trie_at a.limits.hash (sites_of a.states a.steps a.last)) m (node a m) b es shape is in
          omega (arith, ap length branch.has.stand, standing-le branch.places, branch.has.size)

  few_by : (m : Ref) (n : Node) → node a m ≡ n → meets ABranch n ≡ true → length (entries_of n) ≤ 32
  few_by m (Branch b es) is e = few_entries m b es is
  few_by m n is e = absurd (false≢true e)

  pub few_of_branch : (m : Ref) → is_branch (node a m) ≡ true → length (entries_of (node a m)) ≤ 32
  few_of_branch m e = few_by m (node a m) refl e

  -- what is in a tomb is a single
  pub tomb_single : (m single : Ref) → node a m ≡ Tomb single → (k : ℕ) × (v : ℕ) × (node a single ≡ Single k v)
  tomb_single m single is = by_slot (grown a.states a.last m) refl
    where
      by_slot : (o : Option Slot) → grown a.states a.last m ≡ o → (k : ℕ) × (v : ℕ) × (node a single ≡ Single k v)
      by_slot None e = let bad : node_of None ≡ Tomb single = sym (ap node_of e) ∙ is in absurd (let worse : true ≡ false = ap is_branch bad in cc)
      by_slot (Some slot) e =
          let node_is : slot.node ≡ Tomb single = sym (ap node_of e) ∙ is in
          let shape = made_shaped a.steps a.run a.takes a.fit a.last (omega arith) m (slot, e, ap (meets AMain) node_is) in
          let tomb = tomb_shape (trie_at a.limits.hash (sites_of a.states a.steps a.last)) m (node a m) single shape is in
          (tomb.key, tomb.value, bare_single (node a single) tomb.key tomb.value tomb.is)

  module _ (steps : Stepping a) where
    -- ---- what a line finds

    -- a main node that is found is that for ever
    pub main_seen : (t : ℕ) → t ≤ a.last → (m : Ref) → Holds (IsInUse (a.states t).heap) (a.states t).heap (Is m AMain) → node_at (a.states t).heap m ≡ node a m
    main_seen t within m h = steps.node_found t m within (safe_of h) (main_plain (node_at (a.states t).heap m) (meets_of h))

    pub branch_seen : (t : ℕ) → t ≤ a.last → (m : Ref) → Holds (IsInUse (a.states t).heap) (a.states t).heap (Is m ABranch) → node_at (a.states t).heap m ≡ node a m
    branch_seen t within m h = steps.node_found t m within (safe_of h) (branch_plain (node_at (a.states t).heap m) (meets_of h))

    -- where one entry at least isn't done yet
    pub record SeesMore (t : ℕ) (main : Ref) (done : List Ref) : Type 0 where
      pub branch : node_at (a.states t).heap main ≡ node a main
      pub more : length done < length (entries_of (node a main))
      pub few : length (entries_of (node a main)) ≤ 32

    pub sees_more : (t : ℕ) → t ≤ a.last → (path : List Ref) (main : Ref) (done : List Ref) → AllHold (IsInUse (a.states t).heap) (a.states t).heap (done_wants path main done) → SeesMore t main done
    sees_more t within path main done h =
        let same = branch_seen t within main (main_claim h) in
        let more : length done < length (entries_of (node_at (a.states t).heap main)) = ltb-true (length done) _ (meets_of (left_claim h)) in
        record {
          branch = same;
          more = subst (λ n. length done < length (entries_of n)) same more;
          few = few_by main (node a main) refl (subst (λ n. meets ABranch n ≡ true) same (meets_of (main_claim h)));
        }

    -- where all are done
    pub record SeesAll (t : ℕ) (main : Ref) (done : List Ref) : Type 0 where
      pub branch : node_at (a.states t).heap main ≡ node a main
      pub all : length (entries_of (node a main)) ≤ length done
      pub entries : All (Meets (IsInUse (a.states t).heap) (a.states t).heap AnEntry) done

    pub sees_all : (t : ℕ) → t ≤ a.last → (path : List Ref) (main : Ref) (done : List Ref) → AllHold (IsInUse (a.states t).heap) (a.states t).heap (all_done_wants path main done) → SeesAll t main done
    sees_all t within path main done h =
        let same = branch_seen t within main (main_claim h) in
        let all : length (entries_of (node_at (a.states t).heap main)) ≤ length done = leb-true _ (length done) (meets_of (left_claim h)) in
        record { branch = same; all = subst (λ n. length (entries_of n) ≤ length done) same all; entries = all_of (done_claim h) }

    -- what a line looks at is there
    pub looks_at : (t : ℕ) (g : Option ℕ) (l : Line) (s : Stands a t g l) (r : Ref) → line_action (a.states t) s.operation l ≡ act.Look r → IsInUse (a.states t).heap r
    looks_at t g l s r is =
        let claims = action_at a.run t s.until a.actor s.operation s.runs in
        safe_of (subst (λ x. AllHold (IsInUse (a.states t).heap) (a.states t).heap (action_wants x)) (ap (line_action (a.states t) s.operation) s.line ∙ is) claims).0
