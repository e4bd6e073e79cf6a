-- Where the path of the pass that was under way ends in a tomb: CLEAN, and a fresh pass that renews nothing above.
use Rattle.std.proofs.Common.{◌≡◌, ℕ, suc, ◌+◌, ◌*◌, ◌≤◌, List, length, get_or, Some, refl, ◌∙◌, arith}
use Rattle.proof_obstruction_free.specs.Vocabulary.{Writable, Ref, Tomb, no_ref, Line, new_try, above, current, reading}
use Rattle.proof_obstruction_free.specs.Beneath.machine_model.specs.declared.finding.KeyLine.TheVariants as key
use Rattle.proof_obstruction_free.specs.Beneath.machine_model.specs.declared.lines.Line.TheVariants as line
use Rattle.proof_obstruction_free.specs.Beneath.machine_model.specs.declared.repairs.CleanLine.TheVariants as clean
use Rattle.proof_obstruction_free.specs.Alone.{IsCurrent, IsWeight, Keeps, Lone, Stands, Within, WordStays, node}
use Rattle.proof_obstruction_free.specs.Bounds.{fresh_most, tombs_most}
use Rattle.proof_obstruction_free.specs.Keys.{IsBottom}
use Rattle.proof_obstruction_free.specs.Machines.{Machines}
use Rattle.proof_obstruction_free.specs.Stepping.{Stepping}
use Rattle.proof_obstruction_free.proofs.Climb.On.{short_way}
use Rattle.proof_obstruction_free.proofs.Pass.FreshTombs.{above_at, above_length, tomb_below}
use Rattle.proof_obstruction_free.proofs.Pass.Chains.{AtEnd, current_later, way_apart}
use Rattle.proof_obstruction_free.proofs.Step.Within.{bind, one, same_stays}
use Rattle.proof_obstruction_free.specs.Inherited.{IsLinked, PassKnown, known_most}
use Rattle.proof_obstruction_free.proofs.Inherited.Clearing.{IsCleared, cleared}
use Rattle.proof_obstruction_free.proofs.Inherited.Linking.{linked_but}
use Rattle.proof_obstruction_free.proofs.Inherited.Older.{linked_is_not_older, linked_later}

module _ (a : Lone) (weight : ℕ → ℕ) (c : ℕ) (heavy : IsWeight a weight) (steps : Stepping a) (machines : Machines a weight c) (writes : a.own.access ≡ Writable) where
  abbrev W : (ℕ → Type 0) → ℕ → ℕ → Type 0
  W = Within a weight

  abbrev Never : ℕ → Type 0
  Never u = ⊥

  module _ (path : List Ref) (main single : Ref) (t g : ℕ) (s : Stands a t (Some g) (line.Key (key.Main path main))) (is : node a main ≡ Tomb single) where
    abbrev at : Line
    at = line.Key (key.Main path main)

    -- CLEAN
    cleans : (n : ℕ) →
        (2 ≤ length path → Keeps a t (suc t) → WordStays a t (suc t) → Stands a (suc t) (Some g) (line.Clean (clean.Read (above path) (reading (current (above path))))) → (v : ℕ) → suc t ≤ v →
        IsCleared a weight c heavy steps machines (above path) (Some g) (suc t) v → W Never n v) → W Never ((33 * (c + 2) + 11) + n + 1) t
    cleans n then =
        one a weight heavy Never ((33 * (c + 2) + 11) + n) t (Some g) at s tt (λ more.
        let (two, next) = tomb_below a steps writes t (Some g) path main single s more is in
        bind a weight (IsCleared a weight c heavy steps machines (above path) (Some g) (suc t)) Never (33 * (c + 2) + 11) n (suc t)
        (cleared a weight c heavy steps machines (above path) (Some g) (suc t) next)
        (λ v after in_time x. then two (steps.keeps t (Some g) at s more tt tt) (same_stays a t (suc t) (steps.words t (Some g) at s more tt tt)) next v after x))

    -- and a whole fresh pass
    pub tomb_first : ((u h : ℕ) → Stands a u (Some h) new_try → W Never (fresh_most c) u) → W Never ((33 * (c + 2) + 11) + fresh_most c + 1) t
    tomb_first fresh = cleans (fresh_most c) (λ two keeps word next v after x. fresh v g x.stands)

    -- and one of which all levels down to there are known
    pub tomb_known : (known : PassKnown a weight c) →
        ((to : List Ref) (r m : Ref) (u h : ℕ) → length to ≤ 13 + 1 → AtEnd a r h to m u → W Never (tombs_most c 13) u) → (r : Ref) (k : ℕ) → length path ≡ k + 3 →
        IsCurrent a t r (Some g) → IsLinked a t g k path → W Never ((33 * (c + 2) + 11) + (known_most a weight c (suc k) + tombs_most c 13) + 1) t
    tomb_known known tombs r k size now linked =
        cleans (known_most a weight c (suc k) + tombs_most c 13) (λ two keeps word next v after x.
        let current_root = current_later a (suc t) v r (Some g) x.word (current_later a t (suc t) r (Some g) word now) in
        let still = linked_but a (suc t) v g k path (current (above path)) x.keeps (apart two next) (linked_later a t (suc t) g k path keeps linked) in
        bind a weight (λ u. (to : List Ref) × IsBottom a weight c r g to u) Never (known_most a weight c (suc k)) (tombs_most c 13) v
        (known (suc k) r v g low x.stands current_root
        (linked_is_not_older a writes path main r t v g k s now (omega (arith, after)) x.stands.until (omega (arith, size)) still))
        (λ u later in_time (to, b).
        tombs to r b.main u g (short_way a u (Some g) (line.Key (key.Main to b.main)) b.stands) (record { stands = b.stands; current_root = b.current_root; ended = b.ended })))
      where
        short : length path ≤ 14
        short = short_way a t (Some g) at s

        low : suc k ≤ 13
        low = omega (arith, size, short)

        apart : 2 ≤ length path → Stands a (suc t) (Some g) (line.Clean (clean.Read (above path) (reading (current (above path))))) → get_or path k no_ref ≡ current (above path) → ⊥
        apart two next same =
            let len = above_length path two in
            way_apart a (suc t) (Some g) (line.Clean (clean.Read (above path) (reading (current (above path))))) next (above path) refl k (omega (arith, size, len))
            (above_at path two k (omega (arith, size)) ∙ same)
