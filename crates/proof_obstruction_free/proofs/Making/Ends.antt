-- From a new try of a call on one key an operation whose actor alone takes steps makes 558 nodes at most.
use Rattle.std.proofs.Common.{◌≡◌, ℕ, zero, suc, ◌+◌, ◌≤◌, ◌⊎◌, inl, inr, List, [], ◌∷◌, length, Option, Some, refl, subst, arith}
use Rattle.proof_obstruction_free.specs.Vocabulary.{Writable, Ref, Tomb, entries_of, BuildLine, new_try, above, current, reading, swapping, build_path, main_of_build}
use Rattle.proof_obstruction_free.specs.Beneath.machine_model.specs.declared.finding.KeyLine.TheVariants as key
use Rattle.proof_obstruction_free.specs.Beneath.machine_model.specs.declared.lines.Line.TheVariants as line
use Rattle.proof_obstruction_free.specs.Beneath.machine_model.specs.declared.lines.Purpose.TheVariants as purpose
use Rattle.proof_obstruction_free.specs.Alone.{IsCurrent, Lone, Stands, Within, generation, node}
use Rattle.proof_obstruction_free.specs.Keys.{Ended, IsBuilt, IsCleanedUp, IsNoTomb, IsOnKey}
use Rattle.proof_obstruction_free.specs.Machines.{HasSwapped, IsRooted, Machines}
use Rattle.proof_obstruction_free.specs.Stepping.{Stepping}
use Rattle.proof_obstruction_free.proofs.Build.Comes.{builds_on}
use Rattle.proof_obstruction_free.proofs.Climb.On.{short_way}
use Rattle.proof_obstruction_free.proofs.Making.Along.{along_made}
use Rattle.proof_obstruction_free.proofs.Making.Clean.{cleans_made}
use Rattle.proof_obstruction_free.proofs.Making.Climb.{update_made}
use Rattle.proof_obstruction_free.proofs.Making.Down.{Bottom, pass_made}
use Rattle.proof_obstruction_free.proofs.Making.Few.{Few, after_none, bind, of_within, one, weaken}
use Rattle.proof_obstruction_free.proofs.Making.Machines.{roots, swaps_current}
use Rattle.proof_obstruction_free.proofs.Pass.Along.{key_begins}
use Rattle.proof_obstruction_free.proofs.Pass.Key.Fresh.{Fresh, fresh_on, from_here}
use Rattle.proof_obstruction_free.proofs.Pass.Chains.{AtEnd, chain_root, current_later, ended_later}
use Rattle.proof_obstruction_free.proofs.Pass.Fresh.{root_link}
use Rattle.proof_obstruction_free.proofs.Pass.FreshTombs.{above_length, chain_above, last_link, tomb_below, tomb_or_none}
use Rattle.proof_obstruction_free.proofs.Step.Within as within
use Rattle.proof_obstruction_free.proofs.Weights.Offers.{flat, is_weight}

module _ (a : Lone) (steps : Stepping a) (machines : Machines a (flat a) 7) (writes : a.own.access ≡ Writable) (on : IsOnKey a.own.call) where
  abbrev Never : ℕ → Type 0
  Never u = ⊥

  -- ---- where the path ends in no tomb

  module _ (path : List Ref) (r main : Ref) (g : ℕ) (short : length path ≤ 14) where
    abbrev Still : ℕ → Type 0
    Still = Fresh a (flat a) 7 (is_weight a) steps machines path r main g short

    -- it comes to BUILD
    record Builds (t : ℕ) : Type 0 where
      pub at : BuildLine
      pub still : Still t
      pub stands : Stands a t (Some g) (line.Build at)
      pub way : build_path at ≡ path
      pub of : main_of_build at ≡ main

    swap_made : (t : ℕ) → Still t → (former : Option ℕ) (fresh : Ref) → Stands a t (Some g) (line.Swap (purpose.Update path former) (swapping (current path) main fresh)) → Few a Never 14 t
    swap_made t f former fresh now =
        after_none a (HasSwapped a (flat a) 7 t (Some g) (purpose.Update path former) (current path) fresh) Never 14 t
        (swaps_current a (purpose.Update path former) (current path) main fresh r t (Some g) now f.current_root f.has)
        (λ u later within done. update_made a steps path former short u (Some g) (node a fresh) done.stands)

    build_made : (t : ℕ) → Builds t → Few a Never 46 t
    build_made t b =
        bind a (IsBuilt a (flat a) 7 t (Some g) path main) Never 32 14 t
        (of_within a (IsBuilt a (flat a) 7 t (Some g) path main) 30 t b.stands.until
        (subst (λ p. Within a (flat a) (IsBuilt a (flat a) 7 t (Some g) p main) 30 t) b.way
        (subst (λ m. Within a (flat a) (IsBuilt a (flat a) 7 t (Some g) (build_path b.at) m) 30 t) b.of (builds_on a (flat a) 7 (is_weight a) steps b.at t (Some g) b.stands))))
        (λ u later within built.
        swap_made u (fresh_on a (flat a) 7 (is_weight a) steps machines path r main g short t u built.keeps built.word b.still) built.former built.fresh built.stands)

  bottom_made : (path : List Ref) (r main : Ref) (t g : ℕ) → AtEnd a r g path main t → IsNoTomb a (node a main) → Few a Never 83 t
  bottom_made path r main t g x no_tomb =
      let short = short_way a t (Some g) (line.Key (key.Main path main)) x.stands in
      bind a (Builds path r main g short) Never 37 46 t
      (of_within a (Builds path r main g short) 35 t x.stands.until
      (from_here a (flat a) 7 (is_weight a) steps machines path r main g short (Builds path r main g short) 1 (omega arith)
      (λ l u still now way is. within.weaken a (flat a) (Builds path r main g short) 0 1 u (omega arith)
      (within.here a (flat a) (Builds path r main g short) u (record { at = l; still = still; stands = now; way = way; of = is })))
      t (record { current_root = x.current_root; has = x.ended.has }) x.stands x.ended.ends no_tomb))
      (λ u later within b. build_made path r main g short u b)

  -- ---- where it ends in a tomb: each CLEAN makes the path one shorter

  abbrev Tombs : ℕ → Type 0
  Tombs n = (path : List Ref) (r main : Ref) (t g : ℕ) → length path ≤ n + 1 → AtEnd a r g path main t → Few a Never (n + 83) t

  abbrev Up : List Ref → Ref → ℕ → ℕ → ℕ → Type 0
  Up path r g entries = IsCleanedUp a (flat a) 7 r g (above path) entries

  along : (path : List Ref) (r main : Ref) (t g n : ℕ) → Stands a t (Some g) new_try → IsCurrent a t r (Some g) → Ended a t r g path main → ((u : ℕ) → AtEnd a r g path main u → Few a Never n u) →
      Few a Never n t
  along path r main t g n s x ended next =
      after_none a (AtEnd a r g path main) Never n t (along_made a steps machines writes on path r main t g s x ended) (λ u after until end. next u end)

  cleaned : (n : ℕ) → Tombs n → (path : List Ref) (r : Ref) (t g entries : ℕ) → length (above path) ≤ n + 1 → Few a (Up path r g entries) 1 t → Few a Never (1 + (n + 83)) t
  cleaned n further path r t g entries low w =
      bind a (Up path r g entries) Never 1 (n + 83) t w
      (λ u after until up. along (above path) r up.main u g (n + 83) up.stands up.current_root up.ended (λ v end. further (above path) r up.main v g low end))

  from_tomb : (n : ℕ) → Tombs n → (path : List Ref) (r main single : Ref) (t g : ℕ) → length path ≤ suc n + 1 → AtEnd a r g path main t → node a main ≡ Tomb single → Few a Never (1 + (n + 83)) t
  from_tomb n further path r main single t g long x is =
      one a Never (1 + (n + 83)) t (Some g) (line.Key (key.Main path main)) x.stands tt (λ more.
      let (two, s) = tomb_below a steps writes t (Some g) path main single x.stands more is in
      let ended = ended_later a t (suc t) r g path main (steps.keeps t (Some g) (line.Key (key.Main path main)) x.stands more tt tt) x.ended in
      let now = current_later a t (suc t) r (Some g) (within.same_stays a t (suc t) (steps.words t (Some g) (line.Key (key.Main path main)) x.stands more tt tt)) x.current_root in
      let link = last_link a (suc t) r g path two ended.chain in
      let len = above_length path two in
      cleaned n further path r (suc t) g (length (entries_of (node a link.main))) (omega (arith, len, long))
      (cleans_made a steps machines (above path) r link.main (current path) main single (suc t) g s now (chain_above a (suc t) r g path two ended.chain) link.has link.leads link.own ended.has is))

  -- a tomb never stands at a root
  no_tomb_there : (path : List Ref) (r main single : Ref) (t g : ℕ) → length path ≤ 1 → AtEnd a r g path main t → node a main ≡ Tomb single → Few a Never 83 t
  no_tomb_there path r main single t g short x is =
      one a Never 83 t (Some g) (line.Key (key.Main path main)) x.stands tt (λ more.
      let (two, s) = tomb_below a steps writes t (Some g) path main single x.stands more is in absurd (omega (arith, short, two)))

  tombs_made : (n : ℕ) → Tombs n
  tombs_made zero path r main t g long x = by (tomb_or_none a (node a main))
    where
      by : ((single : Ref) × (node a main ≡ Tomb single)) ⊎ IsNoTomb a (node a main) → Few a Never (0 + 83) t
      by (inl (single, is)) = no_tomb_there path r main single t g (omega (arith, long)) x is
      by (inr none) = bottom_made path r main t g x none
  tombs_made (suc n) path r main t g long x = by (λ single is. from_tomb n (tombs_made n) path r main single t g long x is) (tomb_or_none a (node a main))
    where
      by : ((single : Ref) → node a main ≡ Tomb single → Few a Never (1 + (n + 83)) t) → ((single : Ref) × (node a main ≡ Tomb single)) ⊎ IsNoTomb a (node a main) → Few a Never (suc n + 83) t
      by tomb (inl (single, is)) = weaken a Never (1 + (n + 83)) (suc n + 83) t (omega arith) (tomb single is)
      by tomb (inr none) = weaken a Never 83 (suc n + 83) t (omega arith) (bottom_made path r main t g x none)

  -- ---- from a new try

  rooted_made : (t u : ℕ) → IsRooted a (flat a) 7 t u → Few a Never 558 u
  rooted_made t u rooted =
      bind a (Bottom a steps machines writes rooted.root (generation a rooted.root)) Never 462 96 u
      (pass_made a steps machines writes rooted.root u (generation a rooted.root) now (record { plain = rooted.plain; own = refl })
      (chain_root a u rooted.root (generation a rooted.root) (root_link a steps u (Some (generation a rooted.root)) rooted.root now)))
      (λ v after until (to, b).
      tombs_made 13 to rooted.root b.main v (generation a rooted.root) (short_way a v (Some (generation a rooted.root)) (line.Key (key.Main to b.main)) b.stands)
      (record { stands = b.stands; current_root = b.current_root; ended = b.ended }))
    where
      now : Stands a u (Some (generation a rooted.root)) (line.Key (key.Read (rooted.root ∷ []) (reading rooted.root)))
      now = subst (Stands a u (Some (generation a rooted.root))) (key_begins a.own.call on rooted.root) rooted.stands

  pub try_made : (t : ℕ) (g : Option ℕ) → Stands a t g new_try → Few a Never 558 t
  try_made t g s = after_none a (IsRooted a (flat a) 7 t) Never 558 t (roots a t g s) (λ u after until rooted. rooted_made t u rooted)
