-- A fresh pass goes along the key's path, where it is known.
use Rattle.std.proofs.Common.{◌≡◌, ℕ, suc, ◌+◌, ◌*◌, ◌<◌, ◌≤◌, List, [], ◌∷◌, ◌++◌, get_or, length, Some, refl, sym, ap, subst, ◌∙◌, append-nil, append_assoc, arith}
use Rattle.std.proofs.Math.Nat.{suc-mul}
use Rattle.std.proofs.Math.Seq.{get_or-append_seam}
use Rattle.std.proofs.lemmas.List.{get_or_append_left, length-append}
use Rattle.proof_obstruction_free.specs.Vocabulary.{position_of, Writable, Call, Clear, Snapshot, Freeze, Ref, no_ref, Plain, going_down, current, depth_of, reading}
use Rattle.proof_obstruction_free.specs.Beneath.machine_model.specs.declared.finding.KeyLine.TheVariants as key
use Rattle.proof_obstruction_free.specs.Beneath.machine_model.specs.declared.lines.Line.TheVariants as line
use Rattle.proof_obstruction_free.specs.Beneath.machine_model.specs.Operations.{from_root}
use Rattle.proof_obstruction_free.specs.Alone.{Has, IsCurrent, IsPlain, IsWeight, Keeps, Lone, Stands, Within, WordStays, generation}
use Rattle.proof_obstruction_free.specs.Keys.{Chain, Ended, IsBottom, IsOf, IsOnKey, Leads, PassAlong, flag_at}
use Rattle.proof_obstruction_free.specs.Machines.{IsRead, IsRooted, Machines}
use Rattle.proof_obstruction_free.specs.Stepping.{Stepping}
use Rattle.proof_obstruction_free.proofs.Pass.Chains.{AtEnd, current_later, ended_later, one_main}
use Rattle.proof_obstruction_free.proofs.Pass.Lines.{down_reads, goes_down, key_gives, key_holds_read, key_read, to_entry}
use Rattle.proof_obstruction_free.proofs.Step.Within.{bind, here, keeps_on, map, one, same_stays, stays_on, weaken}
use Rattle.proof_obstruction_free.proofs.Ends.StandsAt.{stands_as}

-- a call on one key begins with its root
pub key_begins : (call : Call) → IsOnKey call → (r : Ref) → from_root call r ≡ going_down [] r
key_begins (Clear h) on r = absurd on
key_begins (Snapshot h) on r = absurd on
key_begins (Freeze h) on r = absurd on
key_begins call on r = refl

module _ (a : Lone) (weight : ℕ → ℕ) (c : ℕ) (heavy : IsWeight a weight) (steps : Stepping a) (machines : Machines a weight c) (writes : a.own.access ≡ Writable) where
  abbrev W : (ℕ → Type 0) → ℕ → ℕ → Type 0
  W = Within a weight

  -- ---- a level down

  pub down_along : (Q : ℕ → Type 0) (n t g : ℕ) (path : List Ref) (main below : Ref) → Stands a t (Some g) (line.Key (key.Main path main)) → Leads a (depth_of path) main below → IsOf a below g →
      (Keeps a t (suc (suc t)) → WordStays a t (suc (suc t)) → Stands a (suc (suc t)) (Some g) (going_down path below) → W Q n (suc (suc t))) → W Q (n + 1 + 1) t
  down_along Q n t g path main below s x of then =
      one a weight heavy Q (n + 1) t (Some g) (line.Key (key.Main path main)) s tt (λ more.
      let e = to_entry a steps t (Some g) path main below s more x in
      let l = line.Key (key.Entry path main (position_of (flag_at a (depth_of path)) x.bitmap)) in
      one a weight heavy Q n (suc t) (Some g) l e tt (λ again.
      then (keeps_on a t (suc t) (suc (suc t)) (steps.keeps t (Some g) (line.Key (key.Main path main)) s more tt tt) (steps.keeps (suc t) (Some g) l e again tt tt))
      (stays_on a t (suc t) (suc (suc t)) (same_stays a t (suc t) (steps.words t (Some g) (line.Key (key.Main path main)) s more tt tt))
      (same_stays a (suc t) (suc (suc t)) (steps.words (suc t) (Some g) l e again tt tt)))
      (goes_down a steps writes (suc t) g path main below g x e again of refl)))

  -- ---- along a path

  module _ (r : Ref) (g : ℕ) (path : List Ref) (main : Ref) where
    -- from so many of its indirections
    abbrev From : List Ref → ℕ → Type 0
    From rest m =
        (first : List Ref) (t : ℕ) → path ≡ first ++ rest → 1 ≤ length first → Stands a t (Some g) (line.Key (key.Read first (reading (current first)))) →
        IsCurrent a t r (Some g) → Ended a t r g path main →
        W (AtEnd a r g path main) m t

    reads : (Q : ℕ → Type 0) (n t : ℕ) (first : List Ref) → Stands a t (Some g) (line.Key (key.Read first (reading (current first)))) → IsCurrent a t r (Some g) → Ended a t r g path main →
        ((u : ℕ) (m : Ref) → t ≤ u → Stands a u (Some g) (line.Key (key.Main first m)) → IsCurrent a u r (Some g) → Ended a u r g path main → Has a u (current first) m → W Q n u) → W Q (c + n) t
    reads Q n t first s x ended then =
        bind a weight (IsRead a weight c t (Some g) (key_gives first) (current first)) Q c n t
        (machines.reads_first (key_read first) (key_gives first) (current first) (key_holds_read a.own first) t (Some g) s)
        (λ u after in_time read. then u read.main after read.stands (current_later a t u r (Some g) read.word x) (ended_later a t u r g path main read.keeps ended) read.has)

    at_end : From [] c
    at_end first t e some s x ended =
        let whole : path ≡ first = e ∙ append-nil first in
        weaken a weight (AtEnd a r g path main) (c + 0) c t (omega arith)
        (reads (AtEnd a r g path main) 0 t first s x ended (λ u m after now root end has.
        let same : m ≡ main = one_main a u (current path) m main (subst (λ p. Has a u (current p) m) (sym whole) has) end.has in
        here a weight (AtEnd a r g path main) u
        (record {
          stands = subst (λ n. Stands a u (Some g) (line.Key (key.Main path n))) same
              (subst (λ p. Stands a u (Some g) (line.Key (key.Main p m))) (sym whole) now);
          current_root = root;
          ended = end;
        })))

    module _ (first : List Ref) (b : Ref) (rest : List Ref) (whole : path ≡ first ++ b ∷ rest) (some : 1 ≤ length first) where
      below_it : suc (depth_of first) < length path
      below_it = let len = ap length whole ∙ length-append first (b ∷ rest) in omega (arith, len, some)

      at : get_or path (depth_of first) no_ref ≡ current first
      at = ap (λ p. get_or p (depth_of first) no_ref) whole ∙ get_or_append_left first (b ∷ rest) no_ref (depth_of first) (omega (arith, some))

      next : get_or path (suc (depth_of first)) no_ref ≡ b
      next =
          let place : suc (depth_of first) ≡ length first = omega (arith, some) in
          ap (λ p. get_or p (suc (depth_of first)) no_ref) whole ∙ ap (λ n. get_or (first ++ b ∷ rest) n no_ref) place ∙ get_or-append_seam first b rest no_ref

      -- the next one, by its main node
      pub leads_there : (u : ℕ) (m : Ref) → Chain a u r g path → Has a u (current first) m → Leads a (depth_of first) m b × IsOf a b g
      leads_there u m chain has =
          let (n, there, leads) = chain.links (depth_of first) below_it in
          let same : n ≡ m = one_main a u (current first) n m (subst (λ i. Has a u i n) at there) has in
          (subst (λ x. Leads a (depth_of first) x b) same (subst (λ j. Leads a (depth_of first) n j) next leads), subst (λ i. IsOf a i g) next (chain.own (suc (depth_of first)) below_it))

      along_one : (n : ℕ) → From rest n → (t : ℕ) → Stands a t (Some g) (line.Key (key.Read first (reading (current first)))) → IsCurrent a t r (Some g) → Ended a t r g path main →
          W (AtEnd a r g path main) (c + (n + 1 + 1)) t
      along_one n further t s x ended =
          reads (AtEnd a r g path main) (n + 1 + 1) t first s x ended (λ u m after now root end has.
          let (leads, of) = leads_there u m end.chain has in
          down_along (AtEnd a r g path main) n u g first m b now leads of (λ keeps stays below.
          further (first ++ b ∷ []) (suc (suc u)) (whole ∙ sym (append_assoc first (b ∷ []) rest)) (long (length-append first (b ∷ []))) (down_reads a (suc (suc u)) (Some g) first b below)
          (current_later a u (suc (suc u)) r (Some g) stays root) (ended_later a u (suc (suc u)) r g path main keeps end)))
        where
          long : length (first ++ b ∷ []) ≡ length first + 1 → 1 ≤ length (first ++ b ∷ [])
          long e = omega (arith, e)

    along : (rest : List Ref) → From rest (length rest * (c + 2) + c)
    along [] first t e some s x ended = weaken a weight (AtEnd a r g path main) c (0 * (c + 2) + c) t (omega arith) (at_end first t e some s x ended)
    along (b ∷ rest) first t e some s x ended =
        weaken a weight (AtEnd a r g path main) (c + ((length rest * (c + 2) + c) + 1 + 1)) (length (b ∷ rest) * (c + 2) + c) t (costs (length rest) (length (b ∷ rest)) refl)
        (along_one first b rest e some (length rest * (c + 2) + c) (along rest) t s x ended)
      where
        costs : (n m : ℕ) → suc n ≡ m → c + ((n * (c + 2) + c) + 1 + 1) ≤ m * (c + 2) + c
        costs n m e = let product : suc n * (c + 2) ≡ m * (c + 2) = ap (λ k. k * (c + 2)) e in omega (arith, product, suc-mul n (c + 2))

  -- ---- from a new try

  -- that root stands there with no offer
  module _ (on : IsOnKey a.own.call) (r : Ref) (g t u : ℕ) (current_root : IsCurrent a t r (Some g)) (rooted : IsRooted a weight c t u) (plain : IsPlain a u r) where
    root_is : rooted.root ≡ r
    root_is = let same : Plain rooted.root ≡ Plain r = sym rooted.plain ∙ plain in cc same

    own_is : Some (generation a rooted.root) ≡ Some g
    own_is = ap (λ i. Some (generation a i)) root_is ∙ sym current_root.own

    pub starts : Stands a u (Some g) (line.Key (key.Read (r ∷ []) (reading r)))
    starts = stands_as a u (Some (generation a rooted.root)) (Some g) (from_root a.own.call rooted.root) (going_down [] r) own_is
        (key_begins a.own.call on rooted.root ∙ ap (going_down []) root_is) rooted.stands

  by_path : (r : Ref) (g : ℕ) (path : List Ref) (main : Ref) (t : ℕ) (whole : List Ref) → path ≡ whole →
      Stands a t (Some g) (line.Key (key.Read (r ∷ []) (reading r))) → IsCurrent a t r (Some g) → Ended a t r g path main →
      W (AtEnd a r g path main) (length path * (c + 2)) t
  by_path r g path main t [] e s x ended = let long = ended.chain.long in let none = ap length e in absurd (omega (arith, long, none))
  by_path r g path main t (b ∷ rest) e s x ended =
      let first : b ≡ r = sym (ap (λ p. get_or p 0 no_ref) e) ∙ ended.chain.first in
      weaken a weight (AtEnd a r g path main) (length rest * (c + 2) + c) (length path * (c + 2)) t (costs (length rest) (length path) (ap length e))
      (along r g path main rest (r ∷ []) t (e ∙ ap (λ i. i ∷ rest) first) (omega arith) s x ended)
    where
      costs : (n m : ℕ) → m ≡ suc n → n * (c + 2) + c ≤ m * (c + 2)
      costs n m e = let product : suc n * (c + 2) ≡ m * (c + 2) = ap (λ k. k * (c + 2)) (sym e) in omega (arith, product, suc-mul n (c + 2))

  pub pass_along : IsOnKey a.own.call → PassAlong a weight c
  pass_along on path r main t g s x ended =
      bind a weight (λ u. IsRooted a weight c t u × IsPlain a u r) (λ u. (bottom : IsBottom a weight c r g path u) × (bottom.main ≡ main)) 1
      (length path * (c + 2)) t (machines.roots_plain t (Some g) r s x.plain)
      (λ u after in_time (rooted, plain).
      map a weight (AtEnd a r g path main) (λ v. (bottom : IsBottom a weight c r g path v) × (bottom.main ≡ main)) (length path * (c + 2)) u
      (λ v later soon end. (record { main = main; stands = end.stands; current_root = end.current_root; ended = end.ended }, refl))
      (by_path r g path main u path refl (starts on r g t u x rooted plain) (record { plain = plain; own = x.own }) (ended_later a t u r g path main rooted.keeps ended)))
