-- What is asked of what a step makes, and of what it swaps: each stands at its site.
use Rattle.std.proofs.Common.{◌≡◌, ℕ, suc, ◌+◌, ◌*◌, ◌^◌, true, sym, ap, subst, ◌∙◌, add_comm, arith}
use Rattle.std.proofs.lemmas.Bool.{false≢true}
use Rattle.proof_shape.specs.Vocabulary.{HashKind, Ref, Node, Indirection, Branch, Single, Tomb, List as Listed, node_at, index_in, Action, Operation, Line, ReadLine, State, read_action}
use Rattle.proof_shape.specs.Vocabulary.{is_branch_or_list, made_level, IsChild, IsShaped, branch, list, tomb, StandsFor}
use Rattle.proof_shape.specs.Beneath.machine_model.specs.declared.actions.Action.TheVariants as act
use Rattle.proof_shape.specs.Beneath.machine_model.specs.declared.reading.ReadLine.TheVariants as read
use Rattle.proof_shape.specs.Sites.Nodes.{path_to, depth_at, leads_by}
use Rattle.proof_shape.specs.Sites.Lines.{Sites, bare, trie_at, InsideSite, SwapSite, IsOnWay, ReadSite}
use Rattle.proof_shape.proofs.Sites.Ways.{path_parts}
use Rattle.proof_shape.proofs.Shaped.Places.{bare_branch, bare_list, no_generation}
use Rattle.proof_shape.proofs.Sites.Seen.{Sees}

-- a node that this line makes has this level and path
abbrev pub AtSite : Sites → State → Operation → Line → Ref → Type 0
AtSite s state operation l r = (s.level r ≡ made_level l) × (s.path r ≡ path_to (leads_by state operation s.path l) (depth_at (made_level l)))

-- what is made may stand wherever it is given its site, and what is swapped or decided has the path of its indirection
abbrev pub ActionSite : HashKind → Sites → (Ref → Type 0) → Action → Type 0
ActionSite kind s At (act.Make node) = (r : Ref) → At r → InsideSite kind s r node
ActionSite kind s At (act.MakeRoot main) = (r : Ref) → At r → s.path main ≡ s.path r
ActionSite kind s At (act.Publish i replaced fresh) = SwapSite kind s i replaced fresh
ActionSite kind s At (act.Restore i main previous) = s.path previous ≡ s.path i
ActionSite kind s At (act.Decide i main previous told) = (s.path main ≡ s.path i) × (s.path previous ≡ s.path i)
ActionSite kind s At action = Unit {0}

pub read_acts : (kind : HashKind) (s : Sites) (At : Ref → Type 0) (i : Ref) (l : ReadLine) → ReadSite kind s i l → ActionSite kind s At (read_action i l)
read_acts kind s At i read.Main e = tt
read_acts kind s At i (read.Prev main) e = tt
read_acts kind s At i (read.AskRoot main previous) e = tt
read_acts kind s At i (read.Abort main previous offer) e = tt
read_acts kind s At i (read.Decide main previous told) e = e
read_acts kind s At i (read.Restore main previous) e = e

module _ (kind : HashKind) (s : Sites) where
  -- what has its shape may stand there
  pub shaped_inside : (r : Ref) (n : Node) → IsShaped (trie_at kind s) r n → InsideSite kind s r n
  shaped_inside r (Branch b es) shape = shape
  shaped_inside r (Tomb t) shape = shape
  shaped_inside r (Listed ss) shape = shape
  shaped_inside r (Indirection g w) (branch b es places is has shallow in_place led children) = absurd (let bad : Indirection g w ≡ Branch b es = is in cc)
  shaped_inside r (Indirection g w) (list ss is are most deep one_hash) = absurd (let bad : Indirection g w ≡ Listed ss = is in cc)
  shaped_inside r (Indirection g w) (tomb t k v is own led) = absurd (let bad : Indirection g w ≡ Tomb t = is in cc)
  shaped_inside r (Single x y) (branch b es places is has shallow in_place led children) = absurd (let bad : Single x y ≡ Branch b es = is in cc)
  shaped_inside r (Single x y) (list ss is are most deep one_hash) = absurd (let bad : Single x y ≡ Listed ss = is in cc)
  shaped_inside r (Single x y) (tomb t k v is own led) = absurd (let bad : Single x y ≡ Tomb t = is in cc)

  -- nodes of one site stand for one another
  pub stands : (i j : Ref) → s.level j ≡ s.level i → s.path j ≡ s.path i → StandsFor (trie_at kind s) i j
  stands i j level path = record { deep = ap depth_at level; led = path; newer = omega (arith, no_generation kind s i) }

  -- what is one level deeper on the way to a hash is the child at its index
  pub on_way_child : (hash d : ℕ) (r below : Ref) → s.level r ≡ d + 1 → s.level below ≡ d + 2 → IsOnWay kind s hash d r → IsOnWay kind s hash (d + 1) below →
      IsChild (trie_at kind s) r (index_in hash (depth_at (s.level r))) below
  on_way_child hash d r below level level_below on on_below =
      let deep : depth_at (s.level r) ≡ d = omega (arith, level) in
      let deeper : d + 1 ≡ suc d = omega arith in
      record {
        deeper = omega (arith, level, level_below);
        led = subst (λ n. s.path below ≡ s.path r + index_in hash n * 2 ^ (5 * n)) (sym deep)
            (on_below ∙ ap (path_to hash) deeper ∙ path_parts hash d ∙ add_comm (index_in hash d * 2 ^ (5 * d)) (path_to hash d) ∙ ap (λ p. p + index_in hash d * 2 ^ (5 * d)) (sym on));
        older = omega (arith, no_generation kind s below);
      }

-- a branch or list is what stands there
pub main_same : (s : Sites) (state : State) (S : Ref → Type 0) → Sees s state S → (r : Ref) → S r → (n : Node) → node_at state.heap r ≡ n → is_branch_or_list n ≡ true →
    (s.node r ≡ n) × IsShaped (trie_at state.limits.hash s) r n
main_same s state S N r u (Branch b es) e is = (bare_branch (s.node r) b es (N.same r u ∙ ap bare e), subst (InsideSite state.limits.hash s r) e (N.inside r u))
main_same s state S N r u (Listed ss) e is = (bare_list (s.node r) ss (N.same r u ∙ ap bare e), subst (InsideSite state.limits.hash s r) e (N.inside r u))
main_same s state S N r u n e is = absurd (false≢true is)
