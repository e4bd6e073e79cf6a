-- CLEAN from an entry, where one actor alone takes steps: it comes to a new try, or to the SWAP of a main node in which tombs gave way to their singles.
use Rattle.std.proofs.Common.{◌≡◌, ℕ, zero, suc, ◌+◌, ◌*◌, ◌<◌, ◌≤◌, ◌⊎◌, inl, inr, Bool, true, false, cond, nat_eq, List, ◌∷◌, ◌++◌, length, slice_index_or, Option, refl, sym, ap}
use Rattle.std.proofs.Common.{subst, ◌∙◌, arith, []}
use Rattle.std.specs.Cmp.Lexicographic.{pointwise, same_text}
use Rattle.std.proofs.lemmas.Bool.{cases_lt, lt-ltb, le-ltb}
use Rattle.std.proofs.lemmas.List.{length-append, get_or_append_left, get_or_push}
use Rattle.proof_obstruction_free.specs.Vocabulary.{Ref, entries_of, no_ref, Line, new_try}
use Rattle.proof_obstruction_free.specs.Beneath.machine_model.specs.declared.lines.Line.TheVariants as line
use Rattle.proof_obstruction_free.specs.Beneath.machine_model.specs.declared.repairs.CleanLine.TheVariants as clean
use Rattle.proof_obstruction_free.specs.Alone.{Lone, Stands, Within, IsWeight, node}
use Rattle.proof_obstruction_free.specs.Keys.{IsCleaned, IsCleaning, IsContracted}
use Rattle.proof_obstruction_free.specs.Machines.{Machines}
use Rattle.proof_obstruction_free.specs.Stepping.{Stepping}
use Rattle.proof_obstruction_free.proofs.Renew.Nodes.{sees_more}
use Rattle.proof_obstruction_free.proofs.Renew.Calm.{Calm, calm_now, calm_on}
use Rattle.proof_obstruction_free.proofs.Clean.Settled.{Settles}
use Rattle.proof_obstruction_free.proofs.Clean.Lines.{clean_line, Advanced, entry_within}
use Rattle.proof_obstruction_free.proofs.Clean.Made.{Contracts, contracted_within}
use Rattle.proof_obstruction_free.proofs.Step.Within.{here, weaken, map, bind}

module _ (a : Lone) (steps : Stepping a) (weight : ℕ → ℕ) (c : ℕ) (heavy : IsWeight a weight) (machines : Machines a weight c) where
  abbrev W : (ℕ → Type 0) → ℕ → ℕ → Type 0
  W = Within a weight

  module _ (g : Option ℕ) (path : List Ref) (main : Ref) where
    abbrev entries : List Ref
    entries = entries_of (node a main)

    -- CLEAN goes from entry to entry, and what was done is as it was
    pub record Cleans (done : List Ref) (t u : ℕ) : Type 0 where
      pub to : IsCleaning a weight c t g path main (length done) u
      pub kept : (k : ℕ) → k < length done → slice_index_or to.done k no_ref ≡ slice_index_or done k no_ref

    -- ---- where all are done

    pub unchanged : (done : List Ref) (t : ℕ) → Stands a t g new_try → done ≡ entries → Cleans done t t
    unchanged done t s same = record {
      to = record {
        done = done;
        same_length = ap length same;
        each = λ k low high. absurd (omega arith);
        so = inl (s, same);
        keeps = (calm_now a t).keeps;
        word = (calm_now a t).word;
      };
      kept = λ k lt. refl;
    }

    pub changed : (done : List Ref) (t u : ℕ) → length done ≡ length entries → Contracts a steps weight c heavy g path main done t u → Cleans done t u
    changed done t u size x = record {
      to = record {
        done = done;
        same_length = size;
        each = λ k low high. absurd (omega arith);
        so = inr x.so;
        keeps = x.calm.keeps;
        word = x.calm.word;
      };
      kept = λ k lt. refl;
    }

    all_done : (done : List Ref) (t : ℕ) → length done ≡ length entries → (b : Bool) → pointwise nat_eq done entries ≡ b →
        Stands a t g (cond b new_try (line.Clean (clean.Contracted path main done))) → W (Cleans done t) 2 t
    all_done done t size true same s = weaken a weight (Cleans done t) 0 2 t (omega arith) (here a weight (Cleans done t) t (unchanged done t s (same_text done entries (sym same))))
    all_done done t size false other s =
        map a weight (Contracts a steps weight c heavy g path main done t) (Cleans done t) 2 t (λ u past within x. changed done t u size x)
        (contracted_within a steps weight c heavy g path main done t s)

    -- ---- one entry after another

    until : (t from u : ℕ) → IsCleaning a weight c t g path main from u → u ≤ a.last
    until t from u r = by_so r.so
      where
        by_so : (Stands a u g new_try × (r.done ≡ entries)) ⊎ IsContracted a weight c g path main r.done u → u ≤ a.last
        by_so (inl s) = s.0.until
        by_so (inr x) = x.stands.until

    -- what comes of more entries comes of those before them
    pub one_more : (done : List Ref) (x : Ref) (t v u : ℕ) → Settles a v (slice_index_or entries (length done) no_ref) x → Calm a t v → Cleans (done ++ x ∷ []) v u → Cleans done t u
    one_more done x t v u is calm r =
        let size : length (done ++ x ∷ []) ≡ length done + 1 = length-append done (x ∷ []) in
        let on = calm_on a t v u calm (record { keeps = r.to.keeps; word = r.to.word }) in
        let at_x : slice_index_or r.to.done (length done) no_ref ≡ x = r.kept (length done) (omega (arith, size)) ∙ get_or_push done x no_ref (length done) refl in
        let cleaned : IsCleaned a u (slice_index_or entries (length done) no_ref) x = is u (until v (length (done ++ x ∷ [])) u r.to) r.to.keeps in
        record {
          to = record {
            done = r.to.done;
            same_length = r.to.same_length;
            each = λ k low high. elim (cases_lt (length done) k) [
              | inl past ↦ r.to.each k (omega (arith, size, past)) high
              | inr up ↦ (let same : length done ≡ k = omega (arith, low, up) in
                  subst (λ n. IsCleaned a u (slice_index_or entries n no_ref) (slice_index_or r.to.done n no_ref)) same
                  (subst (IsCleaned a u (slice_index_or entries (length done) no_ref)) (sym at_x) cleaned))
            ];
            so = r.to.so;
            keeps = on.keeps;
            word = on.word;
          };
          kept = λ k lt. r.kept k (omega (arith, size, lt)) ∙ get_or_append_left done (x ∷ []) no_ref k lt;
        }

    abbrev From : ℕ → Type 0
    From left = (done : List Ref) (t : ℕ) → length done + left ≡ length entries → Stands a t g (clean_line entries path main done) → W (Cleans done t) (left * (c + 2) + 2) t

    -- what the line is
    abbrev pub line_by : List Ref → Bool → Line
    line_by done b = cond b (line.Clean (clean.Entry path main done)) (cond (pointwise nat_eq done entries) new_try (line.Clean (clean.Contracted path main done)))

    on_within : (left : ℕ) → From left → (done : List Ref) (t u : ℕ) → length done + suc left ≡ length entries → Advanced a steps g path main done t u → W (Cleans done t) (left * (c + 2) + 2) u
    on_within left from done t u size x =
        map a weight (Cleans (done ++ x.put ∷ []) u) (Cleans done t) (left * (c + 2) + 2) u (λ v past within. one_more done x.put t u v x.settles x.calm)
        (from (done ++ x.put ∷ []) u (omega (arith, size, length-append done (x.put ∷ []))) x.stands)

    entry_on : (left : ℕ) → From left → From (suc left)
    entry_on left from done t size s =
        let stands = subst (λ b. Stands a t g (line_by done b)) (lt-ltb (length done) (length entries) (omega (arith, size))) s in
        weaken a weight (Cleans done t) (c + 2 + (left * (c + 2) + 2)) (suc left * (c + 2) + 2) t (omega arith)
        (bind a weight (Advanced a steps g path main done t) (Cleans done t) (c + 2) (left * (c + 2) + 2) t
        (entry_within a steps g path main done weight c heavy machines t stands) (λ u past within x. on_within left from done t u size x))

    pub goes_from : (left : ℕ) → From left
    goes_from zero done t size s =
        let all : length done ≡ length entries = omega (arith, size) in
        let stands = subst (λ b. Stands a t g (line_by done b)) (le-ltb (length done) (length entries) (omega (arith, size))) s in
        weaken a weight (Cleans done t) 2 (zero * (c + 2) + 2) t (omega arith) (all_done done t all (pointwise nat_eq done entries) refl stands)
    goes_from (suc left) done t size s = entry_on left (goes_from left) done t size s

    -- from an entry
    pub entry_from : (done : List Ref) (t left : ℕ) → Stands a t g (line.Clean (clean.Entry path main done)) → length done + left ≡ length entries → W (Cleans done t) (left * (c + 2) + 2) t
    entry_from done t left s size =
        let seen = sees_more a steps t s.until path main done (steps.wants t g (line.Clean (clean.Entry path main done)) s) in
        goes_from left done t size (subst (λ b. Stands a t g (line_by done b)) (sym (lt-ltb (length done) (length entries) seen.more)) s)
