-- Roots that were found in handles' words have a root's level.
use Rattle.std.proofs.Common.{◌≡◌, ℕ, zero, suc, ◌≤◌, ◌==◌, Bool, true, false, cond, List, [], ◌∷◌, get_or, Option, Some, None, refl, sym, ap, ◌∙◌, arith}
use Rattle.std.proofs.lemmas.Option.{none-some, same_Some}
use Rattle.proof_shape.specs.Vocabulary.{Ref, Heap, generation_at, Root, RootWord, Plain, Offer, Bounds, Step, State, root_of, IsRun, WordLevel, root_among, root_until, or_other}
use Rattle.proof_shape.specs.Sites.Lines.{Sites, sites_of}
use Rattle.proof_shape.specs.Sites.At.{TakesSteps}
use Rattle.proof_shape.proofs.Sites.Given.{levels_there}

root_found : (heap : Heap) (g : ℕ) (roots : List (Option Root)) (r : Ref) → root_among heap g roots ≡ Some r → (k : ℕ) × (root : Root) × (get_or roots k None ≡ Some root) × (root_of root.word ≡ r)
root_found heap g [] r e = absurd (none-some r e)
root_found heap g (None ∷ roots) r e = let (k, root, at, is) = root_found heap g roots r e in (suc k, root, at, is)
root_found heap g (Some root ∷ roots) r e = by_test (root_found heap g roots r) (generation_at heap (root_of root.word) == g) e
  where
    by_test : (root_among heap g roots ≡ Some r → (k : ℕ) × (root : Root) × (get_or roots k None ≡ Some root) × (root_of root.word ≡ r)) → (b : Bool) →
        or_other (cond b (Some (root_of root.word)) None) (root_among heap g roots) ≡ Some r → (k : ℕ) × (q : Root) × (get_or (Some root ∷ roots) k None ≡ Some q) × (root_of q.word ≡ r)
    by_test rest true e = (zero, root, refl, same_Some _ _ e)
    by_test rest false e = let (k, q, at, is) = rest e in (suc k, q, at, is)

pub word_root : (lv : Ref → ℕ) (word : RootWord) → WordLevel lv word → lv (root_of word) ≡ 1
word_root lv (Plain r) w = w
word_root lv (Offer offer) w = w.0

module _ {limits : Bounds} {states : ℕ → State} (steps : ℕ → Step) {last : ℕ} (run : IsRun limits states last) (takes : TakesSteps states steps last) where
  abbrev s : Sites
  s = sites_of states steps last

  root_stood : (t : ℕ) → t ≤ last → (g : ℕ) (r : Ref) → root_among (states t).heap g (states t).roots ≡ Some r → s.level r ≡ 1
  root_stood t h g r e =
      let (k, root, at, is) = root_found (states t).heap g (states t).roots r e in
      ap s.level (sym is) ∙ word_root s.level root.word ((levels_there steps run takes t h).0.words k root at)

  pub level_of_root : (t : ℕ) → t ≤ last → (g : ℕ) (r : Ref) → root_until states g t ≡ Some r → s.level r ≡ 1
  unfolding root_until
  level_of_root zero h g r e = root_stood zero h g r e
  level_of_root (suc t) h g r e = by_first (level_of_root t (omega arith) g r) (root_until states g t) refl e
    where
      by_first : (root_until states g t ≡ Some r → s.level r ≡ 1) → (o : Option Ref) → root_until states g t ≡ o →
          or_other o (root_among (states (suc t)).heap g (states (suc t)).roots) ≡ Some r → s.level r ≡ 1
      by_first rest None is e = root_stood (suc t) h g r e
      by_first rest (Some q) is e = rest (is ∙ e)
