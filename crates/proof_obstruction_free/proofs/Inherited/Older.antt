-- Where an operation's path is linked no level down to there is older: what was once on the key's path is so until it is a tomb.
use Rattle.std.proofs.Common.{◌≡◌, ℕ, suc, ◌<◌, ◌≤◌, ◌⊎◌, inl, inr, List, get_or, sym, ap, subst, ◌∙◌, arith}
use Rattle.std.proofs.lemmas.Bool.{cases_lt}
use Rattle.proof_obstruction_free.specs.Vocabulary.{Ref, Branch, Tomb, no_ref, current, depth_of, Below, On, IsTombed, generation, says}
use Rattle.proof_obstruction_free.specs.Beneath.proof_contents.proofs.Values.Paths.{path_lasts}
use Rattle.proof_obstruction_free.specs.Alone.{Lone, Keeps}
use Rattle.proof_obstruction_free.specs.Keys.{IsOf}
use Rattle.proof_obstruction_free.specs.Inherited.{IsLinked, LinkedIsNotOlder}
use Rattle.proof_obstruction_free.proofs.Inherited.Lies.{chain_on, has_main, has_says, is_trie, lies, of_generation, q, root_is, trie}
use Rattle.proof_obstruction_free.proofs.Inherited.Ons.{on_above, on_one}

module _ (a : Lone) where
  -- what leads on isn't a tomb
  no_tomb : (u g k : ℕ) (path : List Ref) → IsLinked a u g k path → IsTombed (trie a) u (get_or path k no_ref) → ⊥
  no_tomb u g k path x (single, is) =
      let bad : Branch x.leads.bitmap x.leads.entries ≡ Tomb single = sym x.leads.branch ∙ ap (trie a).node (sym (has_main a u (get_or path k no_ref) x.main x.has)) ∙ is in cc bad

  -- as long as main nodes stay it is linked
  pub linked_later : (t u g k : ℕ) (path : List Ref) → Keeps a t u → IsLinked a t g k path → IsLinked a u g k path
  linked_later t u g k path keeps x = record { main = x.main; has = keeps (get_or path k no_ref) x.main x.has; leads = x.leads; own = x.own }

  -- one place below
  one_below : (u g d h : ℕ) (i j below next : Ref) → On (trie a) u g (q a) d i → On (trie a) u g (q a) d j → says (trie a) u (q a) d i ≡ Below below → says (trie a) u (q a) d j ≡ Below next →
      generation (trie a) below ≡ g → IsOf a next h → h ≡ g
  one_below u g d h i j below next x y leads leads' own of =
      let same : i ≡ j = on_one (trie a) u g (q a) d i j x y in
      let places : Below below ≡ Below next = sym leads ∙ ap (says (trie a) u (q a) d) same ∙ leads' in
      let one : below ≡ next = cc places in
      sym (of_generation a next h of) ∙ ap (generation (trie a)) (sym one) ∙ own

  pub linked_is_not_older : LinkedIsNotOlder a
  linked_is_not_older writes path main r t u g k s x after within lt linked v later soon keeps to main' below h chain short has leads of = by (cases_lt (depth_of to) k)
    where
      now : IsLinked a v g k path
      now = linked_later u v g k path keeps linked

      i : Ref
      i = get_or path k no_ref

      on : On (trie a) v g (q a) k i
      on = by_time (lies a t g path main s writes k (omega (arith, lt)))
        where
          by_time : (once : ℕ) × (once ≤ t) × On (trie a) once g (q a) k i → On (trie a) v g (q a) k i
          by_time (once, before, was) = by_tomb (path_lasts (trie a) (is_trie a) once v g (q a) k i (omega (arith, before, after, later)) soon was)
            where
              by_tomb : On (trie a) v g (q a) k i ⊎ IsTombed (trie a) v i → On (trie a) v g (q a) k i
              by_tomb (inl still) = still
              by_tomb (inr tomb) = absurd (no_tomb v g k path now tomb)

      on' : On (trie a) v g (q a) (depth_of to) (current to)
      on' = let long = chain.long in chain_on a v g r to (root_is a t g path main s r x) chain (depth_of to) (omega (arith, long))

      says' : says (trie a) v (q a) (depth_of to) (current to) ≡ Below below
      says' = has_says a v (depth_of to) h (current to) main' below has leads of

      by : (depth_of to < k) ⊎ (k ≤ depth_of to) → h ≡ g
      by (inl low) =
          let link = on_above (trie a) v g (q a) k i (depth_of to) on low in
          one_below v g (depth_of to) h link.above (current to) link.below below link.on on' link.leads says' link.own of
      by (inr high) =
          let long = chain.long in
          let same : depth_of to ≡ k = omega (arith, high, short, long) in
          let next = get_or path (suc k) no_ref in
          one_below v g k h i (current to) next below on (subst (λ d. On (trie a) v g (q a) d (current to)) same on')
          (has_says a v k g i now.main next now.has now.leads now.own) (subst (λ d. says (trie a) v (q a) d (current to) ≡ Below below) same says') (of_generation a next g now.own) of
