-- Key's paths: where they end, and what stays of them.
use Rattle.std.proofs.Common.{Some, ◌≡◌, ℕ, suc, ◌+◌, ◌-◌, ◌<◌, ◌≤◌, ◌⊎◌, inl, inr, Bool, true, false, List, ◌∷◌, ◌++◌, length, get_or, Option, refl, sym, ap, ap₂, subst, ◌∙◌, arith, []}
use Rattle.std.proofs.lemmas.Bool.{cases_lt, false≢true}
use Rattle.std.proofs.lemmas.List.{get_or-append_right, get_or_append_left, length-append}
use Rattle.arrayvec.specs.ArrayVec.{ArrayVec}
use Rattle.proof_obstruction_free.specs.Vocabulary.{Ref, Node, Indirection, Branch, Single, Tomb, List as Listed, no_ref, has_flag, Line, current, depth_of, depth_of_run, way_of}
use Rattle.proof_obstruction_free.specs.Beneath.machine_model.specs.declared.finding.KeyLine.TheVariants as key
use Rattle.proof_obstruction_free.specs.Beneath.machine_model.specs.declared.lines.Line.TheVariants as line
use Rattle.proof_obstruction_free.specs.Beneath.proof_shape.proofs.Sites.At.{ways_have_sites}
use Rattle.proof_obstruction_free.specs.Alone.{Has, IsCurrent, Keeps, KeepsBut, Lone, Stands, WordStays, node}
use Rattle.proof_obstruction_free.specs.Keys.{Chain, Ended, IsEnd, IsOf, Leads, entry_for, flag_at}

module _ (a : Lone) where
  -- ---- where a main node leads

  pub record Leading (depth : ℕ) (main : Ref) : Type 0 where
    pub below : Ref
    pub generation : ℕ
    pub leads : Leads a depth main below
    pub is : IsOf a below generation

  no_branch : (depth : ℕ) (main : Ref) (n : Node) → node a main ≡ n → ((b : ℕ) (es : ArrayVec Ref) → n ≡ Branch b es → ⊥) → IsEnd a depth main
  no_branch depth main n e other below g leads is = other leads.bitmap leads.entries (sym e ∙ leads.branch)

  by_entry : (depth : ℕ) (main : Ref) (b : ℕ) (es : ArrayVec Ref) → node a main ≡ Branch b es → has_flag b (flag_at a depth) ≡ true → (n : Node) → node a (entry_for a b es.items depth) ≡ n →
      Leading depth main ⊎ IsEnd a depth main
  by_entry depth main b es e flagged (Indirection g m) is =
      inl (record { below = entry_for a b es.items depth; generation = g; leads = record { bitmap = b; entries = es; branch = e; flagged = flagged; entry = refl }; is = (m, is) })
  by_entry depth main b es e flagged n is = inr (λ below g leads link.
      let same : Branch b es ≡ Branch leads.bitmap leads.entries = sym e ∙ leads.branch in
      let one : b ≡ leads.bitmap = cc same in
      let two : es ≡ leads.entries = cc same in
      let place : entry_for a b es.items depth ≡ below = ap₂ (λ x (y : ArrayVec Ref). entry_for a x y.items depth) one two ∙ leads.entry in
      let wrong : n ≡ Indirection g link.0 = sym is ∙ ap (node a) place ∙ link.1 in
      let bad : ⊥ = cc wrong in bad)

  by_flag : (depth : ℕ) (main : Ref) (b : ℕ) (es : ArrayVec Ref) → node a main ≡ Branch b es → (f : Bool) → has_flag b (flag_at a depth) ≡ f → Leading depth main ⊎ IsEnd a depth main
  by_flag depth main b es e true flagged = by_entry depth main b es e flagged (node a (entry_for a b es.items depth)) refl
  by_flag depth main b es e false flagged = inr (λ below g leads link.
      let same : Branch b es ≡ Branch leads.bitmap leads.entries = sym e ∙ leads.branch in
      let one : b ≡ leads.bitmap = cc same in
      false≢true (sym flagged ∙ ap (λ x. has_flag x (flag_at a depth)) one ∙ leads.flagged))

  by_node : (depth : ℕ) (main : Ref) (n : Node) → node a main ≡ n → Leading depth main ⊎ IsEnd a depth main
  by_node depth main (Branch b es) e = by_flag depth main b es e (has_flag b (flag_at a depth)) refl
  by_node depth main (Indirection g m) e = inr (no_branch depth main (Indirection g m) e (λ b es x. let bad : ⊥ = cc x in bad))
  by_node depth main (Single k v) e = inr (no_branch depth main (Single k v) e (λ b es x. let bad : ⊥ = cc x in bad))
  by_node depth main (Tomb single) e = inr (no_branch depth main (Tomb single) e (λ b es x. let bad : ⊥ = cc x in bad))
  by_node depth main (Listed singles) e = inr (no_branch depth main (Listed singles) e (λ b es x. let bad : ⊥ = cc x in bad))

  -- on to an indirection, or no further
  pub leads_or_ends : (depth : ℕ) (main : Ref) → Leading depth main ⊎ IsEnd a depth main
  leads_or_ends depth main = by_node depth main (node a main) refl

  -- ---- one main node, one generation

  pub one_main : (t : ℕ) (i m n : Ref) → Has a t i m → Has a t i n → m ≡ n
  one_main t i m n x y = sym x.main ∙ y.main

  -- ---- what stays

  pub current_later : (t u : ℕ) (r : Ref) (g : Option ℕ) → WordStays a t u → IsCurrent a t r g → IsCurrent a u r g
  current_later t u r g word x = record { plain = word r x.plain; own = x.own }

  pub chain_stays : (t u : ℕ) (r : Ref) (g : ℕ) (path : List Ref) →
      ((k : ℕ) → suc k < length path → (m : Ref) → Has a t (get_or path k no_ref) m → Has a u (get_or path k no_ref) m) → Chain a t r g path → Chain a u r g path
  chain_stays t u r g path stays x = record {
    long = x.long;
    first = x.first;
    own = x.own;
    links = λ k lt. let (m, has, leads) = x.links k lt in (m, stays k lt m has, leads);
  }

  pub chain_later : (t u : ℕ) (r : Ref) (g : ℕ) (path : List Ref) → Keeps a t u → Chain a t r g path → Chain a u r g path
  chain_later t u r g path keeps x = chain_stays t u r g path (λ k lt m has. keeps (get_or path k no_ref) m has) x

  -- but for the last one
  pub chain_kept : (t u : ℕ) (r : Ref) (g : ℕ) (path : List Ref) → ((k : ℕ) → suc k < length path → get_or path k no_ref ≡ current path → ⊥) → KeepsBut a t u (current path) →
      Chain a t r g path → Chain a u r g path
  chain_kept t u r g path apart keeps x = chain_stays t u r g path (λ k lt m has. keeps (get_or path k no_ref) m (apart k lt) has) x

  pub ended_later : (t u : ℕ) (r : Ref) (g : ℕ) (path : List Ref) (main : Ref) → Keeps a t u → Ended a t r g path main → Ended a u r g path main
  ended_later t u r g path main keeps x = record { chain = chain_later t u r g path keeps x.chain; has = keeps (current path) main x.has; ends = x.ends }

  -- a fresh pass at the end of the key's path
  pub record AtEnd (r : Ref) (g : ℕ) (path : List Ref) (main : Ref) (u : ℕ) : Type 0 where
    pub stands : Stands a u (Some g) (line.Key (key.Main path main))
    pub current_root : IsCurrent a u r (Some g)
    pub ended : Ended a u r g path main

  -- ---- from the root down

  pub chain_root : (t : ℕ) (r : Ref) (g : ℕ) → IsOf a r g → Chain a t r g (r ∷ [])
  chain_root t r g is = record {
    long = omega arith;
    first = refl;
    own = λ k lt. let none : k ≡ 0 = omega (arith, lt) in subst (λ n. IsOf a (get_or (r ∷ []) n no_ref) g) (sym none) is;
    links = λ k lt. absurd (omega (arith, lt));
  }

  -- one more
  module _ (path : List Ref) (below : Ref) where
    longer : length (path ++ below ∷ []) ≡ length path + 1
    longer = length-append path (below ∷ [])

    old : (k : ℕ) → k < length path → get_or (path ++ below ∷ []) k no_ref ≡ get_or path k no_ref
    old k lt = get_or_append_left path (below ∷ []) no_ref k lt

    new : (k : ℕ) → k ≡ length path → get_or (path ++ below ∷ []) k no_ref ≡ below
    new k e =
        let none : k - length path ≡ 0 = omega (arith, e) in
        get_or-append_right path (below ∷ []) (length path) k no_ref refl (omega (arith, e)) ∙ ap (λ n. get_or (below ∷ []) n no_ref) none

  pub chain_longer : (t : ℕ) (r : Ref) (g : ℕ) (path : List Ref) (main below : Ref) → Chain a t r g path → Has a t (current path) main → Leads a (depth_of path) main below → IsOf a below g →
      Chain a t r g (path ++ below ∷ [])
  chain_longer t r g path main below x has leads is = record {
    long = let len = longer path below in omega (arith, len);
    first = old path below 0 (omega (arith, x.long)) ∙ x.first;
    own = λ k lt. own_at k lt (cases_lt k (length path));
    links = λ k lt. links_at k lt (cases_lt (suc k) (length path));
  }
    where
      own_at : (k : ℕ) → k < length (path ++ below ∷ []) → (k < length path) ⊎ (length path ≤ k) → IsOf a (get_or (path ++ below ∷ []) k no_ref) g
      own_at k lt (inl low) = subst (λ i. IsOf a i g) (sym (old path below k low)) (x.own k low)
      own_at k lt (inr high) = let len = longer path below in let at : k ≡ length path = omega (arith, lt, high, len) in subst (λ i. IsOf a i g) (sym (new path below k at)) is

      Link : Ref → ℕ → Ref → Type 0
      Link i k j = (m : Ref) × Has a t i m × Leads a k m j

      links_at : (k : ℕ) → suc k < length (path ++ below ∷ []) → (suc k < length path) ⊎ (length path ≤ suc k) →
          (m : Ref) × Has a t (get_or (path ++ below ∷ []) k no_ref) m × Leads a k m (get_or (path ++ below ∷ []) (suc k) no_ref)
      links_at k lt (inl low) =
          subst (λ j. (m : Ref) × Has a t (get_or (path ++ below ∷ []) k no_ref) m × Leads a k m j) (sym (old path below (suc k) low))
          (subst (λ i. (m : Ref) × Has a t i m × Leads a k m (get_or path (suc k) no_ref)) (sym (old path below k (omega (arith, low)))) (x.links k low))
      links_at k lt (inr high) =
          let len = longer path below in
          let long = x.long in
          let at : suc k ≡ length path = omega (arith, lt, high, len) in
          let last : depth_of path ≡ k = omega (arith, at) in
          let here : get_or (path ++ below ∷ []) k no_ref ≡ current path = old path below k (omega (arith, at)) ∙ ap (λ n. get_or path n no_ref) (sym last) in (
            main,
            subst (λ i. Has a t i main) (sym here) has,
            subst (λ n. Leads a n main (get_or (path ++ below ∷ []) (suc k) no_ref)) last
                (subst (λ j. Leads a (depth_of path) main j) (sym (new path below (suc k) at)) leads),
          )

  -- ---- the indirections of a path are apart

  pub way_apart : (t : ℕ) (g : Option ℕ) (l : Line) → Stands a t g l → (path : List Ref) → way_of l ≡ path → (k : ℕ) → suc k < length path → get_or path k no_ref ≡ current path → ⊥
  way_apart t g l s path way k lt same = apart k (depth_of path) (omega (arith, lt)) (at k (omega (arith, lt))) (at (depth_of path) (omega (arith, lt)))
    where
      here : way_of s.operation.line ≡ path
      here = ap way_of s.line ∙ way

      at : (d : ℕ) → d < length path → depth_of_run a.states a.steps a.last (get_or path d no_ref) ≡ d
      at d lt =
          subst (λ p. d < length p → depth_of_run a.states a.steps a.last (get_or p d no_ref) ≡ d) here
          (λ low. ((ways_have_sites a.steps a.run a.takes a.fit t s.until a.actor s.operation s.runs).1 d low).1) lt

      apart : (x y : ℕ) → x < y → depth_of_run a.states a.steps a.last (get_or path k no_ref) ≡ x → depth_of_run a.states a.steps a.last (current path) ≡ y → ⊥
      apart x y lt one two = let e : x ≡ y = sym one ∙ ap (depth_of_run a.states a.steps a.last) same ∙ two in omega (arith, lt, e)
