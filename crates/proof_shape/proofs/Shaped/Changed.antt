-- A main node with a change of one key has its shape.
use Rattle.std.proofs.Common.{◌≡◌, ℕ, zero, suc, ◌-◌, ◌*◌, ◌^◌, ◌<◌, List, [], ◌∷◌, length, slice_index_or, Option, Some, None, inl, inr, refl, sym, ap, subst, ◌∙◌, arith, mod-eq_of_lt}
use Rattle.proof_shape.specs.Vocabulary.{hash_of, HashKind, Low, Fold, Wide, Block, Call, Ref, Node, Indirection, Branch, Single, Tomb, List as Listed, no_ref, flag_of, index_in, list_depth}
use Rattle.proof_shape.specs.Vocabulary.{updated, removed, Change, key_of, value_of, changed, look_at, look_among, or_else, AreSingles, IsChild, IsShaped, LeadsTo, Known, Absence, no_flag}
use Rattle.proof_shape.specs.Vocabulary.{not_listed, Presence, in_list, Neighbour, IsOther, of_branch, of_list, KnowsChange}
use Rattle.proof_shape.specs.Beneath.ctrie_base.proofs.Fits.{low_hash-lt, fold_hash-lt, block_hash-lt}
use Rattle.proof_shape.specs.Beneath.machine_model.specs.declared.building.Change.TheVariants as change
use Rattle.proof_shape.specs.Beneath.proof_contents.specs.Lines.Changes.{in_branch}
use Rattle.proof_shape.specs.Beneath.proof_contents.proofs.Shapes.Nodes.{list_shape}
use Rattle.proof_shape.specs.Beneath.proof_contents.proofs.Shapes.Builders.{inserted_shaped, updated_shaped, linked_shaped, removed_shaped, entombed_shaped}
use Rattle.proof_shape.specs.Beneath.proof_contents.proofs.Shapes.Lists.{list_inserted_shaped, list_updated_shaped, list_removed_shaped, list_entombed_shaped}
use Rattle.proof_shape.specs.Sites.Nodes.{path_to, depth_at}
use Rattle.proof_shape.specs.Sites.Lines.{Sites, bare, trie_at}

-- a hash is its own path below all levels
pub whole_path : (kind : HashKind) (key : ℕ) → key < 2 ^ 64 → path_to (hash_of kind key) (list_depth kind) ≡ hash_of kind key
whole_path Low key fits = let small = low_hash-lt key fits in mod-eq_of_lt (omega (arith, small))
whole_path Fold key fits = let small = fold_hash-lt key fits in mod-eq_of_lt (omega (arith, small))
whole_path Wide key fits = mod-eq_of_lt (omega (arith, fits))
whole_path Block key fits = let small = block_hash-lt key fits in mod-eq_of_lt (omega (arith, small))

-- bare nodes say the same of keys
pub bare_look : (key : ℕ) (r : Ref) (n : Node) → look_at key r (bare n) ≡ look_at key r n
bare_look key r (Indirection g w) = refl
bare_look key r (Branch b es) = refl
bare_look key r (Single k v) = refl
bare_look key r (Tomb t) = refl
bare_look key r (Listed ss) = refl

pub bare_among : (node : Ref → Node) (key : ℕ) (singles : List Ref) → look_among (λ r. bare (node r)) key singles ≡ look_among node key singles
bare_among node key [] = refl
bare_among node key (r ∷ singles) = ap (λ f. or_else f (look_among (λ r. bare (node r)) key singles)) (bare_look key r (node r)) ∙ ap (or_else (look_at key r (node r))) (bare_among node key singles)

-- an entry of a list is a single
singles_at : (node : Ref → Node) (singles : List Ref) (p : ℕ) (d : Ref) → AreSingles node singles → p < length singles → (k : ℕ) × (v : ℕ) × (node (slice_index_or singles p d) ≡ Single k v)
singles_at node [] p d are lt = absurd (omega arith)
singles_at node (r ∷ singles) zero d are lt = (are.0.key, are.0.value, are.0.is)
singles_at node (r ∷ singles) (suc p) d are lt = singles_at node singles p d are.1 (omega arith)

module _ (kind : HashKind) (s : Sites) (fits : (i : Ref) → s.path i < 2 ^ (5 * depth_at (s.level i))) (first : Ref → Ref) (call : Call) (r : Ref)
    (key_fits : key_of call < 2 ^ 64) (led : LeadsTo (trie_at kind s) r (key_of call)) where
  abbrev K : Known
  K = record { kind = kind; node = s.node; first = first }

  abbrev depth : ℕ
  depth = depth_at (s.level r)

  abbrev flag : ℕ
  flag = flag_of (hash_of kind (key_of call)) depth

  abbrev Shaped : Node → Type 0
  Shaped n = IsShaped (trie_at kind s) r n

  whole : depth ≡ list_depth kind → hash_of kind (key_of call) ≡ s.path r
  whole deep = sym (whole_path kind (key_of call) key_fits) ∙ ap (path_to (hash_of kind (key_of call))) (sym deep) ∙ led

  insert_shaped : (main single : Ref) (n : Node) → s.node main ≡ n → Shaped n → Absence K depth (key_of call) main → s.node single ≡ Single (key_of call) (value_of call) →
      Shaped (changed flag n (change.Insert single))
  insert_shaped main single n is shape (no_flag b es its none) new =
      let same : n ≡ Branch b es = sym is ∙ its in
      subst (λ x. Shaped (changed flag x (change.Insert single))) (sym same)
      (inserted_shaped (trie_at kind s) fits r b es (subst Shaped same shape) (key_of call) (value_of call) single none (ap bare new) led)
  insert_shaped main single n is shape (not_listed ss its room none) new =
      let same : n ≡ Listed ss = sym is ∙ its in
      let listed = subst Shaped same shape in
      subst (λ x. Shaped (changed flag x (change.Insert single))) (sym same)
      (list_inserted_shaped (trie_at kind s) r ss listed (key_of call) (value_of call) single room (bare_among s.node (key_of call) ss.items ∙ none) (ap bare new)
      (whole (list_shape (trie_at kind s) r (Listed ss) ss listed refl).deep))

  update_shaped : (main single : Ref) (position value : ℕ) (n : Node) → s.node main ≡ n → Shaped n → Presence K depth (key_of call) main position value →
      s.node single ≡ Single (key_of call) (value_of call) →
      Shaped (changed flag n (change.Update position single))
  update_shaped main single position value n is shape (in_branch b es f was) new =
      let same : n ≡ Branch b es = sym is ∙ f.is in
      subst (λ x. Shaped (changed flag x (change.Update position single))) (sym same)
      (subst (λ p. Shaped (updated b es.items p single)) (sym f.at)
      (updated_shaped (trie_at kind s) fits r b es (subst Shaped same shape) (key_of call) (value_of call) single f.flagged (ap bare new) led))
  update_shaped main single position value n is shape (in_list ss its lt was) new =
      let same : n ≡ Listed ss = sym is ∙ its in
      subst (λ x. Shaped (changed flag x (change.Update position single))) (sym same)
      (list_updated_shaped (trie_at kind s) r ss (subst Shaped same shape) (key_of call) position value lt (ap bare was) (value_of call) single (ap bare new))

  link_shaped : (main link : Ref) (position : ℕ) (n : Node) → s.node main ≡ n → Shaped n → Neighbour K depth (key_of call) main position → (g : ℕ) (w : Ref) → s.node link ≡ Indirection g w →
      IsChild (trie_at kind s) r (index_in (hash_of kind (key_of call)) depth) link → Shaped (changed flag n (change.Update position link))
  link_shaped main link position n is shape beside g w its child =
      let f = beside.branch in
      let same : n ≡ Branch beside.bitmap beside.entries = sym is ∙ f.is in
      subst (λ x. Shaped (changed flag x (change.Update position link))) (sym same)
      (subst (λ p. Shaped (updated beside.bitmap beside.entries.items p link)) (sym f.at)
      (linked_shaped (trie_at kind s) fits r beside.bitmap beside.entries (subst Shaped same shape) (key_of call) 0 link no_ref f.flagged (ap bare its) child))

  remove_shaped : (main : Ref) (position value : ℕ) (n : Node) → s.node main ≡ n → Shaped n → Presence K depth (key_of call) main position value → Shaped (changed flag n (change.Remove position))
  remove_shaped main position value n is shape (in_branch b es f was) =
      let same : n ≡ Branch b es = sym is ∙ f.is in
      subst (λ x. Shaped (changed flag x (change.Remove position))) (sym same)
      (subst (λ p. Shaped (removed flag b es.items p)) (sym f.at) (removed_shaped (trie_at kind s) fits r b es (subst Shaped same shape) (key_of call) f.flagged))
  remove_shaped main position value n is shape (in_list ss its lt was) =
      let same : n ≡ Listed ss = sym is ∙ its in
      subst (λ x. Shaped (changed flag x (change.Remove position))) (sym same)
      (list_removed_shaped (trie_at kind s) r ss (subst Shaped same shape) (key_of call) position value lt (ap bare was))

  entomb_shaped : (main other : Ref) (value : ℕ) (n : Node) → s.node main ≡ n → Shaped n → IsOther K depth (key_of call) main other value → Shaped (changed flag n (change.Entomb other))
  entomb_shaped main other value n is shape (of_branch b position own own_value es f was two other_is own_is) =
      let same : n ≡ Branch b es = sym is ∙ f.is in
      subst (λ x. Shaped (changed flag x (change.Entomb other))) (sym same)
      (subst (λ x. Shaped (Tomb x)) (sym other_is)
      (entombed_shaped (trie_at kind s) fits r b (1 - position) own own_value es (subst Shaped same shape) (omega (arith, two)) (ap bare (ap s.node (sym other_is) ∙ own_is))))
  entomb_shaped main other value n is shape (of_list position ss its lt was two other_is) =
      let same : n ≡ Listed ss = sym is ∙ its in
      let listed = subst Shaped same shape in
      let l = list_shape (trie_at kind s) r (Listed ss) ss listed refl in
      let (k, v, its_single) = singles_at (trie_at kind s).node ss.items (1 - position) no_ref l.are (omega (arith, two)) in
      subst (λ x. Shaped (changed flag x (change.Entomb other))) (sym same)
      (subst (λ x. Shaped (Tomb x)) (sym other_is)
      (list_entombed_shaped (trie_at kind s) r ss listed k (1 - position) v (omega (arith, two)) its_single (fits r)))

  -- where the chain begins, if one goes there
  abbrev pub EntryIsChild : Option ℕ → Ref → Type 0
  EntryIsChild None entry = IsChild (trie_at kind s) r (index_in (hash_of kind (key_of call)) depth) entry
  EntryIsChild (Some value) entry = Unit {0}

  abbrev pub LinkIsChild : Option ℕ → Change → Type 0
  LinkIsChild former (change.Update position entry) = EntryIsChild former entry
  LinkIsChild former c = Unit {0}

  pub change_shaped : (main : Ref) (former : Option ℕ) (c : Change) (n : Node) → s.node main ≡ n → Shaped n → KnowsChange K call depth main former c → LinkIsChild former c → Shaped (changed flag n c)
  change_shaped main former (change.Insert single) n is shape (inserts, none, new) child = insert_shaped main single n is shape none new
  change_shaped main former (change.Update position entry) n is shape (inl (value, was, sets, there, new)) child = update_shaped main entry position value n is shape there new
  change_shaped main former (change.Update position entry) n is shape (inr (inserts, (beside, single, new, ((g, w, its), leads)))) child =
      link_shaped main entry position n is shape beside g w its (subst (λ f. EntryIsChild f entry) inserts.0 child)
  change_shaped main former (change.Remove position) n is shape (value, was, removes, there) child = remove_shaped main position value n is shape there
  change_shaped main former (change.Entomb other) n is shape (value, was, removes, its) child = entomb_shaped main other value n is shape its
