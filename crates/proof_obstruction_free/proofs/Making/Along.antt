-- A pass along a path that is known makes no node, where one actor alone takes steps.
use Rattle.std.proofs.Common.{◌≡◌, ℕ, suc, ◌+◌, ◌≤◌, List, [], ◌∷◌, ◌++◌, get_or, length, Some, refl, sym, ap, subst, ◌∙◌, append-nil, append_assoc, arith}
use Rattle.std.proofs.lemmas.List.{length-append}
use Rattle.proof_obstruction_free.specs.Vocabulary.{position_of, Writable, Ref, no_ref, going_down, new_try, current, depth_of, reading}
use Rattle.proof_obstruction_free.specs.Beneath.machine_model.specs.declared.finding.KeyLine.TheVariants as key
use Rattle.proof_obstruction_free.specs.Beneath.machine_model.specs.declared.lines.Line.TheVariants as line
use Rattle.proof_obstruction_free.specs.Alone.{Has, IsCurrent, IsPlain, Keeps, Lone, Stands, WordStays}
use Rattle.proof_obstruction_free.specs.Keys.{Ended, IsOf, IsOnKey, Leads, flag_at}
use Rattle.proof_obstruction_free.specs.Machines.{IsRead, IsRooted, Machines}
use Rattle.proof_obstruction_free.specs.Stepping.{Stepping}
use Rattle.proof_obstruction_free.proofs.Making.Few.{Few, after_none, here, one}
use Rattle.proof_obstruction_free.proofs.Making.Machines.{reads, roots_plain}
use Rattle.proof_obstruction_free.proofs.Pass.Along.{leads_there, starts}
use Rattle.proof_obstruction_free.proofs.Pass.Chains.{AtEnd, current_later, ended_later, one_main}
use Rattle.proof_obstruction_free.proofs.Pass.Lines.{down_reads, goes_down, key_gives, key_holds_read, key_read, to_entry}
use Rattle.proof_obstruction_free.proofs.Step.Within.{keeps_on, same_stays, stays_on}
use Rattle.proof_obstruction_free.proofs.Weights.Offers.{flat, is_weight}

module _ (a : Lone) (steps : Stepping a) (machines : Machines a (flat a) 7) (writes : a.own.access ≡ Writable) where
  -- ---- a level down

  down_along : (Q : ℕ → Type 0) (n t g : ℕ) (path : List Ref) (main below : Ref) → Stands a t (Some g) (line.Key (key.Main path main)) → Leads a (depth_of path) main below → IsOf a below g →
      (Keeps a t (suc (suc t)) → WordStays a t (suc (suc t)) → Stands a (suc (suc t)) (Some g) (going_down path below) → Few a Q n (suc (suc t))) → Few a Q n t
  down_along Q n t g path main below s x of next =
      one a Q n t (Some g) (line.Key (key.Main path main)) s tt (λ more.
      let e = to_entry a steps t (Some g) path main below s more x in
      let l = line.Key (key.Entry path main (position_of (flag_at a (depth_of path)) x.bitmap)) in
      one a Q n (suc t) (Some g) l e tt (λ again.
      next (keeps_on a t (suc t) (suc (suc t)) (steps.keeps t (Some g) (line.Key (key.Main path main)) s more tt tt) (steps.keeps (suc t) (Some g) l e again tt tt))
      (stays_on a t (suc t) (suc (suc t)) (same_stays a t (suc t) (steps.words t (Some g) (line.Key (key.Main path main)) s more tt tt))
      (same_stays a (suc t) (suc (suc t)) (steps.words (suc t) (Some g) l e again tt tt)))
      (goes_down a steps writes (suc t) g path main below g x e again of refl)))

  -- ---- along a path

  module _ (r : Ref) (g : ℕ) (path : List Ref) (main : Ref) where
    abbrev End : ℕ → Type 0
    End = AtEnd a r g path main

    -- from some of its indirections
    abbrev From : List Ref → Type 0
    From rest =
        (first : List Ref) (t : ℕ) → path ≡ first ++ rest → 1 ≤ length first → Stands a t (Some g) (line.Key (key.Read first (reading (current first)))) →
        IsCurrent a t r (Some g) → Ended a t r g path main → Few a End 0 t

    reads_on : (t : ℕ) (first : List Ref) → Stands a t (Some g) (line.Key (key.Read first (reading (current first)))) → IsCurrent a t r (Some g) → Ended a t r g path main →
        ((u : ℕ) (m : Ref) → Stands a u (Some g) (line.Key (key.Main first m)) → IsCurrent a u r (Some g) → Ended a u r g path main → Has a u (current first) m → Few a End 0 u) → Few a End 0 t
    reads_on t first s x ended next =
        after_none a (IsRead a (flat a) 7 t (Some g) (key_gives first) (current first)) End 0 t (reads a (key_read first) (key_gives first) (current first) (key_holds_read a.own first) t (Some g) s)
        (λ u after in_time read. next u read.main read.stands (current_later a t u r (Some g) read.word x) (ended_later a t u r g path main read.keeps ended) read.has)

    at_end : From []
    at_end first t e some s x ended =
        let whole : path ≡ first = e ∙ append-nil first in
        reads_on t first s x ended (λ u m now root end has.
        let same : m ≡ main = one_main a u (current path) m main (subst (λ p. Has a u (current p) m) (sym whole) has) end.has in
        here a End 0 u now.until (record {
          stands = subst (λ n. Stands a u (Some g) (line.Key (key.Main path n))) same (subst (λ p. Stands a u (Some g) (line.Key (key.Main p m))) (sym whole) now);
          current_root = root;
          ended = end;
        }))

    along_one : (first : List Ref) (b : Ref) (rest : List Ref) → path ≡ first ++ b ∷ rest → 1 ≤ length first → From rest → (t : ℕ) →
        Stands a t (Some g) (line.Key (key.Read first (reading (current first)))) → IsCurrent a t r (Some g) → Ended a t r g path main → Few a End 0 t
    along_one first b rest whole some further t s x ended =
        reads_on t first s x ended (λ u m now root end has.
        let (leads, of) = leads_there a (flat a) 7 (is_weight a) steps machines writes r g path main first b rest whole some u m end.chain has in
        down_along End 0 u g first m b now leads of (λ keeps stays below.
        further (first ++ b ∷ []) (suc (suc u)) (whole ∙ sym (append_assoc first (b ∷ []) rest)) (long (length-append first (b ∷ []))) (down_reads a (suc (suc u)) (Some g) first b below)
        (current_later a u (suc (suc u)) r (Some g) stays root) (ended_later a u (suc (suc u)) r g path main keeps end)))
      where
        long : length (first ++ b ∷ []) ≡ length first + 1 → 1 ≤ length (first ++ b ∷ [])
        long e = omega (arith, e)

    along : (rest : List Ref) → From rest
    along [] first t e some s x ended = at_end first t e some s x ended
    along (b ∷ rest) first t e some s x ended = along_one first b rest e some (along rest) t s x ended

  by_path : (r : Ref) (g : ℕ) (path : List Ref) (main : Ref) (t : ℕ) (whole : List Ref) → path ≡ whole →
      Stands a t (Some g) (line.Key (key.Read (r ∷ []) (reading r))) → IsCurrent a t r (Some g) → Ended a t r g path main → Few a (AtEnd a r g path main) 0 t
  by_path r g path main t [] e s x ended = let long = ended.chain.long in let none = ap length e in absurd (omega (arith, long, none))
  by_path r g path main t (b ∷ rest) e s x ended =
      let first : b ≡ r = sym (ap (λ p. get_or p 0 no_ref) e) ∙ ended.chain.first in along r g path main rest (r ∷ []) t (e ∙ ap (λ i. i ∷ rest) first) (omega arith) s x ended

  -- from a new try
  pub along_made : IsOnKey a.own.call → (path : List Ref) (r main : Ref) (t g : ℕ) → Stands a t (Some g) new_try → IsCurrent a t r (Some g) → Ended a t r g path main →
      Few a (AtEnd a r g path main) 0 t
  along_made on path r main t g s x ended =
      after_none a (λ u. IsRooted a (flat a) 7 t u × IsPlain a u r) (AtEnd a r g path main) 0 t (roots_plain a t (Some g) r s x.plain)
      (λ u after in_time (rooted, plain).
      by_path r g path main u path refl (starts a (flat a) 7 (is_weight a) steps machines writes on r g t u x rooted plain) (record { plain = plain; own = x.own })
      (ended_later a t u r g path main rooted.keeps ended))
