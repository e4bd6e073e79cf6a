-- Whatever was made up to a time stands at its site, and so does the main node that counts for an indirection.
use Rattle.std.proofs.Common.{◌≡◌, ◌≢◌, ℕ, zero, suc, ◌<◌, ◌≤◌, true, Option, Some, None, refl, sym, ap, subst, ◌∙◌, arith}
use Rattle.std.proofs.lemmas.Bool.{false≢true}
use Rattle.proof_shape.specs.Vocabulary.{Ref, Node, Indirection, Branch, Single, Tomb, List as Listed, Prev, Slot, node_of, main_of, prev_of, logical, list_depth, Bounds, Step, State, IsRun, grown}
use Rattle.proof_shape.specs.Vocabulary.{standing, or_before, node_under, main_before, AMain, AnIndirection, meets, AllHold, node_wants, prev_wants, IsInUse, NodeLevel, PrevLevel, IsShaped}
use Rattle.proof_shape.specs.Vocabulary.{NodesStay}
use Rattle.proof_shape.specs.Beneath.slot_arena.specs.declared.nodes.Prev.TheVariants as prev
use Rattle.proof_shape.specs.Beneath.proof_memory.specs.Wants.{is_indirection}
use Rattle.proof_shape.specs.Beneath.proof_memory.proofs.Claims.Uses.{meets_same, first_hold, last_hold}
use Rattle.proof_shape.specs.Beneath.proof_memory.proofs.Safety.AtEachTime.{safe_at}
use Rattle.proof_shape.specs.Beneath.proof_memory.proofs.Safety.AtTimes.{kind_at, limits_at}
use Rattle.proof_shape.specs.Beneath.proof_memory.proofs.Heap.Moves.{grown_stays}
use Rattle.proof_shape.specs.Beneath.proof_memory.proofs.Levels.Shapes.{ShapeAt}
use Rattle.proof_shape.specs.Beneath.proof_contents.proofs.Values.Started.{node_stays}
use Rattle.proof_shape.specs.Sites.Lines.{Sites, sites_of, trie_at, InsideSite, PrevSite}
use Rattle.proof_shape.specs.Sites.At.{TakesSteps, StepsFit}
use Rattle.proof_shape.proofs.Sites.Given.{levels_there}
use Rattle.proof_shape.proofs.Sites.Runs.{sites_there}

module _ (states : ℕ → State) (t : ℕ) where
  -- a main node was made there
  abbrev pub IsMadeMain : Ref → Type 0
  IsMadeMain m = (slot : Slot) × (grown states t m ≡ Some slot) × (meets AMain slot.node ≡ true)

  -- what stands in a node's words
  abbrev pub WordMade : Node → Type 0
  WordMade (Indirection generation main) = IsMadeMain main
  WordMade n = Unit {0}

  abbrev pub PrevMade : Prev → Type 0
  PrevMade prev.None = Unit {0}
  PrevMade (prev.Pending p) = IsMadeMain p
  PrevMade (prev.Failed p) = IsMadeMain p

-- a main node is no indirection
pub main_no_link : (n : Node) → meets AMain n ≡ true → (g : ℕ) (w : Ref) → n ≢ Indirection g w
main_no_link (Indirection h x) e g w is = false≢true e
main_no_link (Branch b es) e g w is = let bad : Branch b es ≡ Indirection g w = is in cc
main_no_link (Single k v) e g w is = false≢true e
main_no_link (Tomb t) e g w is = let bad : Tomb t ≡ Indirection g w = is in cc
main_no_link (Listed ss) e g w is = let bad : Listed ss ≡ Indirection g w = is in cc

module _ {limits : Bounds} {states : ℕ → State} (steps : ℕ → Step) {last : ℕ} (run : IsRun limits states last) (takes : TakesSteps states steps last) (keys : StepsFit steps last) where
  abbrev s : Sites
  s = sites_of states steps last

  pub stay : NodesStay states last
  stay t u le h r was e = let (now, found, same) = grown_stays run t u le h r was e in (now, found, same.0)

  pub record GrownSite (t : ℕ) (r : Ref) (slot : Slot) : Type 0 where
    pub inside : InsideSite limits.hash s r slot.node
    pub before : PrevSite limits.hash s r slot.prev
    pub levels : NodeLevel s.level r slot.node × PrevLevel s.level r slot.prev
    pub shape : ShapeAt (list_depth limits.hash) (s.level r) slot.node
    pub word : WordMade states t slot.node
    pub over : PrevMade states t slot.prev

  word_made : (t : ℕ) (n : Node) → AllHold (IsInUse (states t).heap) (states t).heap (node_wants n) → WordMade states t n
  word_made t (Indirection g w) h = kind_at states t w AMain h.0
  word_made t (Branch b es) h = tt
  word_made t (Single k v) h = tt
  word_made t (Tomb x) h = tt
  word_made t (Listed ss) h = tt

  prev_made : (t : ℕ) (p : Prev) → AllHold (IsInUse (states t).heap) (states t).heap (prev_wants p) → PrevMade states t p
  prev_made t prev.None h = tt
  prev_made t (prev.Pending p) h = kind_at states t p AMain h.0
  prev_made t (prev.Failed p) h = kind_at states t p AMain h.0

  main_later : (t : ℕ) → t < last → (m : Ref) → IsMadeMain states t m → IsMadeMain states (suc t) m
  main_later t h m (slot, found, is) =
      let (now, found_now, same) = grown_stays run t (suc t) (omega arith) h m slot found in (now, found_now, meets_same AMain slot.node now.node same.0 ∙ is)

  word_later : (t : ℕ) → t < last → (n : Node) → WordMade states t n → WordMade states (suc t) n
  word_later t h (Indirection g w) m = main_later t h w m
  word_later t h (Branch b es) m = tt
  word_later t h (Single k v) m = tt
  word_later t h (Tomb x) m = tt
  word_later t h (Listed ss) m = tt

  prev_later : (t : ℕ) → t < last → (p : Prev) → PrevMade states t p → PrevMade states (suc t) p
  prev_later t h prev.None m = tt
  prev_later t h (prev.Pending p) m = main_later t h p m
  prev_later t h (prev.Failed p) m = main_later t h p m

  from_standing : (t : ℕ) → t ≤ last → (r : Ref) (slot : Slot) → standing (states t).heap r ≡ Some slot → GrownSite t r slot
  from_standing t h r slot found =
      let site = (sites_there steps run takes keys t h).nodes r slot found in
      let claims = ((safe_at run t h).nodes r slot found).0 in
      record {
        inside = site.0;
        before = site.1;
        levels = (levels_there steps run takes t h).0.nodes r slot found;
        shape = subst (λ (l : Bounds). ShapeAt (list_depth l.hash) (s.level r) slot.node) (limits_at run t h)
            ((levels_there steps run takes t h).1.nodes r slot found);
        word = word_made t slot.node (first_hold (IsInUse (states t).heap) (states t).heap (node_wants slot.node) (prev_wants slot.prev) claims);
        over = prev_made t slot.prev (last_hold (IsInUse (states t).heap) (states t).heap (node_wants slot.node) (prev_wants slot.prev) claims);
      }

  pub grown_sites : (t : ℕ) → t ≤ last → (r : Ref) (slot : Slot) → grown states t r ≡ Some slot → GrownSite t r slot
  unfolding grown
  grown_sites zero h r slot found = from_standing zero h r slot found
  grown_sites (suc t) h r slot found = by_standing (grown_sites t (omega arith) r slot) (standing (states (suc t)).heap r) refl found
    where
      by_standing : (grown states t r ≡ Some slot → GrownSite t r slot) → (o : Option Slot) → standing (states (suc t)).heap r ≡ o →
          or_before o (grown states t r) ≡ Some slot → GrownSite (suc t) r slot
      by_standing was (Some now) e same = from_standing (suc t) h r slot (e ∙ same)
      by_standing was None e same =
          let at = was same in
          record { inside = at.inside; before = at.before; levels = at.levels; shape = at.shape; word = word_later t h slot.node at.word; over = prev_later t h slot.prev at.over }

  -- an indirection was one from the first
  pub link_same : (u : ℕ) → u ≤ last → (i : Ref) (slot : Slot) → grown states u i ≡ Some slot → is_indirection (node_under states last i) ≡ is_indirection slot.node
  link_same u h i slot found =
      let (now, found_now, same) = grown_stays run u last h (omega arith) i slot found in
      ap (λ o. is_indirection (node_of o)) found_now ∙ meets_same AnIndirection slot.node now.node same.0

  -- ---- the main node that counts

  -- it has the indirection's site
  pub record CountsFor (t : ℕ) (i m : Ref) : Type 0 where
    pub path : s.path m ≡ s.path i
    pub level : s.level m ≡ s.level i
    pub made : IsMadeMain states t m

  -- a main word, and what it stands over
  pub counts_by : (t : ℕ) → t ≤ last → (i w : Ref) (slot : Slot) → s.path w ≡ s.path i → s.level w ≡ s.level i → IsMadeMain states t w →
      grown states t w ≡ Some slot → CountsFor t i (logical w slot.prev)
  counts_by t h i w slot path level made found = by_prev slot.prev (grown_sites t h w slot found).before (grown_sites t h w slot found).levels.1 (grown_sites t h w slot found).over
    where
      by_prev : (p : Prev) → PrevSite limits.hash s w p → PrevLevel s.level w p → PrevMade states t p → CountsFor t i (logical w p)
      by_prev prev.None site l m = record { path = path; level = level; made = made }
      by_prev (prev.Pending p) site l m = record { path = site ∙ path; level = l.0 ∙ level; made = m }
      by_prev (prev.Failed p) site l m = record { path = site ∙ path; level = l.0 ∙ level; made = m }

  pub counts : (t : ℕ) → t ≤ last → (i : Ref) (slot : Slot) → grown states t i ≡ Some slot → is_indirection slot.node ≡ true → CountsFor t i (main_before states t i)
  counts t h i slot found link = by_node slot.node refl link (grown_sites t h i slot found).inside (grown_sites t h i slot found).levels.0 (grown_sites t h i slot found).word
    where
      by_node : (n : Node) → slot.node ≡ n → is_indirection n ≡ true → InsideSite limits.hash s i n → NodeLevel s.level i n → WordMade states t n → CountsFor t i (main_before states t i)
      by_node (Indirection g w) is e site level made =
          let word : main_of (node_of (grown states t i)) ≡ w = ap (λ o. main_of (node_of o)) found ∙ ap main_of is in
          let its : main_before states t i ≡ logical w (prev_of (grown states t w)) = ap (λ m. logical m (prev_of (grown states t m))) word in
          subst (CountsFor t i) (sym (its ∙ ap (λ o. logical w (prev_of o)) made.1)) (counts_by t h i w made.0 site level.0 made made.1)
      by_node (Branch b es) is e site level made = absurd (false≢true e)
      by_node (Single k v) is e site level made = absurd (false≢true e)
      by_node (Tomb x) is e site level made = absurd (false≢true e)
      by_node (Listed ss) is e site level made = absurd (false≢true e)

  -- the main word
  pub word_site : (t : ℕ) → t ≤ last → (i : Ref) (slot : Slot) → grown states t i ≡ Some slot → is_indirection slot.node ≡ true →
      (s.level (main_of slot.node) ≡ s.level i) × (s.path (main_of slot.node) ≡ s.path i)
  word_site t h i slot found link = by_node slot.node link (grown_sites t h i slot found).inside (grown_sites t h i slot found).levels.0
    where
      by_node : (n : Node) → is_indirection n ≡ true → InsideSite limits.hash s i n → NodeLevel s.level i n → (s.level (main_of n) ≡ s.level i) × (s.path (main_of n) ≡ s.path i)
      by_node (Indirection g w) e site level = (level.0, site)
      by_node (Branch b es) e site level = absurd (false≢true e)
      by_node (Single k v) e site level = absurd (false≢true e)
      by_node (Tomb x) e site level = absurd (false≢true e)
      by_node (Listed ss) e site level = absurd (false≢true e)

  main_shaped : (r : Ref) (n : Node) → meets AMain n ≡ true → InsideSite limits.hash s r n → IsShaped (trie_at limits.hash s) r n
  main_shaped r (Indirection g w) e site = absurd (false≢true e)
  main_shaped r (Single k v) e site = absurd (false≢true e)
  main_shaped r (Branch b es) e site = site
  main_shaped r (Tomb x) e site = site
  main_shaped r (Listed ss) e site = site

  -- it has its shape for ever
  pub made_shaped : (t : ℕ) → t ≤ last → (m : Ref) → IsMadeMain states t m → IsShaped (trie_at limits.hash s) m (node_under states last m)
  made_shaped t h m (slot, found, is) =
      subst (IsShaped (trie_at limits.hash s) m) (sym (node_stays states last stay t m slot h found (main_no_link slot.node is)))
      (main_shaped m slot.node is (grown_sites t h m slot found).inside)
