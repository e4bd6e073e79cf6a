-- Where one actor alone takes steps: its operation's path, and a chain from the root, lie on the key's path in the trie of the run.
use Rattle.std.proofs.Common.{◌≡◌, ℕ, zero, suc, cond, ◌<◌, List, length, get_or, Some, refl, sym, ap, subst, ◌∙◌, arith}
use Rattle.proof_obstruction_free.specs.Vocabulary.{position_of, Writable, Ref, generation_of, generation_at, logical, no_ref, Plain, handle_of, key_of, root_of, word_of, prev_word, Absent, Below}
use Rattle.proof_obstruction_free.specs.Vocabulary.{look_at, look_in, Trie, On, at_below, generation, says, trie_of_run, LiesOn, path_of}
use Rattle.proof_obstruction_free.specs.Beneath.machine_model.specs.declared.finding.KeyLine.TheVariants as key
use Rattle.proof_obstruction_free.specs.Beneath.machine_model.specs.declared.lines.Line.TheVariants as line
use Rattle.proof_obstruction_free.specs.Beneath.proof_contents.specs.Tries.{at_root}
use Rattle.proof_obstruction_free.specs.Beneath.proof_contents.specs.Steps.{IsTrie}
use Rattle.proof_obstruction_free.specs.Beneath.proof_contents.proofs.Values.Runs.{counting_main-made}
use Rattle.proof_updates.proofs.Tries.OfRuns as whole
use Rattle.proof_obstruction_free.specs.Alone.{Lone, Stands, Has, IsCurrent}
use Rattle.proof_obstruction_free.specs.Keys.{Chain, IsOf, Leads, flag_at}
use Rattle.proof_obstruction_free.proofs.Swap.Found.{handle_open, root_generation}
use Rattle.proof_obstruction_free.specs.Beneath.proof_order.proofs.Openings.ClosedRoots.{root_is as root_of_run}

module _ (a : Lone) where
  abbrev pub trie : Trie
  trie = trie_of_run a.limits a.states a.steps a.last

  pub is_trie : IsTrie (trie_of_run a.limits a.states a.steps a.last)
  is_trie = whole.is_trie a.steps a.run a.takes a.fit

  -- the call's key
  abbrev pub q : ℕ
  q = key_of a.own.call

  -- ---- main nodes

  -- a decided main node counts
  pub has_main : (t : ℕ) (i m : Ref) → Has a t i m → trie.main t i ≡ m
  has_main t i m has =
      counting_main-made a.states a.last t i has.made ∙ ap (λ x. logical x (prev_word a.states t x)) has.main ∙ ap (logical m) has.decided

  pub of_generation : (i : Ref) (g : ℕ) → IsOf a i g → generation trie i ≡ g
  of_generation i g (m, is) = ap generation_of is

  -- where it leads on it says so
  pub has_says : (t k h : ℕ) (i m below : Ref) → Has a t i m → Leads a k m below → IsOf a below h → says trie t q k i ≡ Below below
  has_says t k h i m below has leads (w, is) =
      ap (λ x. look_in trie.node (flag_at a k) q (trie.node x)) (has_main t i m has) ∙ ap (look_in trie.node (flag_at a k) q) leads.branch
      ∙ ap (λ b. cond b
      (look_at q (get_or leads.entries.items (position_of (flag_at a k) leads.bitmap) no_ref)
      (trie.node (get_or leads.entries.items (position_of (flag_at a k) leads.bitmap) no_ref))) Absent) leads.flagged
      ∙ ap (λ r. look_at q r (trie.node r)) leads.entry ∙ ap (look_at q below) is

  -- ---- a chain from the root

  pub chain_on : (u g : ℕ) (r : Ref) (path : List Ref) → trie.root g ≡ r → Chain a u r g path → (k : ℕ) → k < length path → On trie u g q k (get_or path k no_ref)
  chain_on u g r path root chain zero lt =
      let first : trie.root g ≡ get_or path 0 no_ref = root ∙ sym chain.first in
      subst (λ i. On trie u g q 0 i) first (at_root (ap (generation trie) first ∙ of_generation (get_or path 0 no_ref) g (chain.own 0 lt)))
  chain_on u g r path root chain (suc k) lt =
      let (m, has, leads) = chain.links k lt in
      let own = chain.own (suc k) lt in
      at_below k (get_or path k no_ref) (get_or path (suc k) no_ref) (chain_on u g r path root chain k (omega (arith, lt)))
      (has_says u k g (get_or path k no_ref) m (get_or path (suc k) no_ref) has leads own) (of_generation (get_or path (suc k) no_ref) g own)

  -- ---- an operation

  module _ (t g : ℕ) (path : List Ref) (main : Ref) (s : Stands a t (Some g) (line.Key (key.Main path main))) where
    -- its root is that of its generation
    pub root_is : (r : Ref) → IsCurrent a t r (Some g) → trie.root g ≡ r
    root_is r x =
        let (root, found, access) = handle_open a t (Some g) (line.Key (key.Main path main)) s refl in
        let plain : root.word ≡ Plain r = sym (ap word_of found) ∙ x.plain in
        let its : generation_at (a.states t).heap (root_of root.word) ≡ g =
        ap (λ w. generation_at (a.states t).heap (root_of w)) plain ∙ root_generation a t (Some g) (line.Key (key.Main path main)) s refl r x.plain ∙ (let same = x.own in cc same) in
        ap trie.root (sym its) ∙ root_of_run a.run t (handle_of a.own.call) root s.until found ∙ ap root_of plain

    -- its path lies on that of the key
    pub lies : a.own.access ≡ Writable → LiesOn trie t g q path
    lies writes =
        subst (λ k. LiesOn trie t g k path) (ap key_of s.call)
        (whole.paths_lie a.steps a.run a.takes a.fit t a.actor g s.operation path s.until s.runs (s.access ∙ writes) s.generation (ap path_of s.line))
