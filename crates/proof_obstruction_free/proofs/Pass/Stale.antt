-- A pass that was under way when its actor was left alone comes to a new try.
use Rattle.std.proofs.Common.{◌≡◌, ℕ, suc, ◌+◌, ◌-◌, ◌*◌, Bool, true, false, if◌then◌else◌, List, length, get_or, Some, refl, sym, ap, subst, ◌∙◌, ltb, arith}
use Rattle.arrayvec.specs.ArrayVec.{ArrayVec}
use Rattle.proof_obstruction_free.specs.Vocabulary.{position_of, Access, Writable, Ref, Node, Indirection, Branch, Single, Tomb, List as Listed, entries_of, no_ref, node_at, has_flag, absent}
use Rattle.proof_obstruction_free.specs.Vocabulary.{after_tomb, key_after_main, impossible, new_try, above, current, depth_of, flag_in, reading}
use Rattle.proof_obstruction_free.specs.Beneath.machine_model.specs.declared.finding.KeyLine.TheVariants as key
use Rattle.proof_obstruction_free.specs.Beneath.machine_model.specs.declared.lines.Line.TheVariants as line
use Rattle.proof_obstruction_free.specs.Beneath.machine_model.specs.declared.repairs.CleanLine.TheVariants as clean
use Rattle.proof_obstruction_free.specs.Alone.{IsWeight, Lone, Stands, Within, node}
use Rattle.proof_obstruction_free.specs.Bounds.{stale_bottom_most}
use Rattle.proof_obstruction_free.specs.Keys.{CleansOn, IsEnd, IsOf, RenewsFrom, flag_at}
use Rattle.proof_obstruction_free.specs.Machines.{Machines}
use Rattle.proof_obstruction_free.specs.Stale.{AbsentAgain, EntriesAgain, ListsAgain, Tries}
use Rattle.proof_obstruction_free.specs.Stepping.{Stepping}
use Rattle.proof_obstruction_free.proofs.Build.Steps.{quiet_on}
use Rattle.proof_obstruction_free.proofs.Pass.Down.{FewEntries}
use Rattle.proof_obstruction_free.proofs.Pass.Sees.{flag_is, main_seen}
use Rattle.proof_obstruction_free.proofs.Step.Within.{here, weaken}
use Rattle.proof_obstruction_free.proofs.Ends.StandsAt.{never}

module _ (a : Lone) (weight : ℕ → ℕ) (c : ℕ) (heavy : IsWeight a weight) (steps : Stepping a) (machines : Machines a weight c) (writes : a.own.access ≡ Writable)
    (few : FewEntries a) (renewing : RenewsFrom a weight c) where
  abbrev W : (ℕ → Type 0) → ℕ → ℕ → Type 0
  W = Within a weight

  -- what comes of a pass: it is where its path ends, or at a new try
  pub data StaleEnd (g u : ℕ) : Type 0 where
    AtBottom : (path : List Ref) (main : Ref) → Stands a u (Some g) (line.Key (key.Main path main)) → IsEnd a (depth_of path) main → StaleEnd g u
    Tried : Stands a u (Some g) new_try → StaleEnd g u

  -- ---- where its path ends

  module _ (absents : AbsentAgain a weight c) (lists : ListsAgain a weight c) (entries : EntriesAgain a weight c) (cleans : CleansOn a weight c) where
    module _ (path : List Ref) (main : Ref) (t g : ℕ) (s : Stands a t (Some g) (line.Key (key.Main path main))) (ends : IsEnd a (depth_of path) main) where
      abbrev T : ℕ → Type 0
      T = Tries a weight c (Some g)

      abbrev flag : ℕ
      flag = flag_in (a.states t) s.operation path

      no_link : (b : ℕ) (es : ArrayVec Ref) → node a main ≡ Branch b es → has_flag b flag ≡ true → (h : ℕ) → IsOf a (get_or (entries_of (node a main)) (position_of flag b) no_ref) h → ⊥
      no_link b es is flagged h of =
          let same = flag_is a t (Some g) (line.Key (key.Main path main)) s path in
          ends (get_or (entries_of (node a main)) (position_of flag b) no_ref) h
          (record {
            bitmap = b;
            entries = es;
            branch = is;
            flagged = subst (λ f. has_flag b f ≡ true) same flagged;
            entry = ap (λ n. get_or (entries_of n) (position_of (flag_at a (depth_of path)) b) no_ref) (sym is) ∙ ap (λ f. get_or (entries_of (node a main)) (position_of f b) no_ref) (sym same);
          }) of

      cleans_tomb : Stands a (suc t) (Some g) (after_tomb Writable path main) → W T (stale_bottom_most c - 1) (suc t)
      cleans_tomb next = by (ltb 1 (length path)) next
        where
          by : (b : Bool) → Stands a (suc t) (Some g) (if b then line.Clean (clean.Read (above path) (reading (current (above path)))) else impossible) → W T (stale_bottom_most c - 1) (suc t)
          by true next = weaken a weight T (33 * (c + 2) + 20) (stale_bottom_most c - 1) (suc t) (omega arith) (cleans (clean.Read (above path) (reading (current (above path)))) (suc t) (Some g) next)
          by false next = absurd (never a (suc t) (Some g) next)

      from_main : (n : Node) → node a main ≡ n → Stands a (suc t) (Some g) (key_after_main (a.states t) s.operation path main n) → W T (stale_bottom_most c - 1) (suc t)
      from_main (Branch b es) is next = by (has_flag b flag) refl next
        where
          by : (f : Bool) → has_flag b flag ≡ f →
              Stands a (suc t) (Some g) (if f then line.Key (key.Entry path main (position_of flag b)) else absent s.operation path main) → W T (stale_bottom_most c - 1) (suc t)
          by true flagged next =
              weaken a weight T (14 * (c + 12) + 45) (stale_bottom_most c - 1) (suc t) (omega arith) (entries path main (position_of flag b) (suc t) (Some g) next (no_link b es is flagged))
          by false flagged next = weaken a weight T (14 * (c + 12) + 43) (stale_bottom_most c - 1) (suc t) (omega arith) (absents s.operation path main (suc t) (Some g) next)
      from_main (Tomb single) is next = cleans_tomb (subst (λ (x : Access). Stands a (suc t) (Some g) (after_tomb x path main)) (s.access ∙ writes) next)
      from_main (Listed singles) is next = weaken a weight T (14 * (c + 12) + 76) (stale_bottom_most c - 1) (suc t) (omega arith) (lists path main 0 (suc t) (Some g) next)
      from_main (Indirection h x) is next = absurd (never a (suc t) (Some g) next)
      from_main (Single k v) is next = absurd (never a (suc t) (Some g) next)

      bottom_tries : W T (stale_bottom_most c) t
      bottom_tries =
          weaken a weight T (stale_bottom_most c - 1 + 1) (stale_bottom_most c) t (omega arith)
          (quiet_on a weight heavy steps T (stale_bottom_most c - 1) t (Some g) (line.Key (key.Main path main)) s tt tt tt refl
          (λ next keeps word. from_main (node_at (a.states t).heap main) (sym (main_seen a steps t (Some g) path main s)) next))

    -- a pass comes to a new try
    pub end_tries : (t g : ℕ) → StaleEnd g t → W (Tries a weight c (Some g)) (stale_bottom_most c) t
    end_tries t g (AtBottom path main s ends) = bottom_tries path main t g s ends
    end_tries t g (Tried s) = weaken a weight (Tries a weight c (Some g)) 0 (stale_bottom_most c) t (omega arith) (here a weight (Tries a weight c (Some g)) t s)
