-- CLEAN where the operation's root is the handle's and the key's path ends in a tomb below: the path's end comes one level higher.
use Rattle.std.proofs.Common.{◌≡◌, ℕ, suc, ◌+◌, ◌*◌, ◌<◌, ◌⊎◌, inl, inr, ◌&&◌, true, List, [], length, slice_index_or, Some, sym, ap, subst, ◌∙◌, arith, refl}
use Rattle.proof_obstruction_free.specs.Vocabulary.{Ref, Tomb, entries_of, bitmap_of, no_ref, new_try, current, depth_of, is_below_root, reading, is_branch}
use Rattle.proof_obstruction_free.specs.Beneath.machine_model.specs.declared.lines.Line.TheVariants as line
use Rattle.proof_obstruction_free.specs.Beneath.machine_model.specs.declared.lines.Purpose.TheVariants as purpose
use Rattle.proof_obstruction_free.specs.Beneath.machine_model.specs.declared.repairs.CleanLine.TheVariants as clean
use Rattle.proof_obstruction_free.specs.Alone.{Lone, Stands, Has, Within, IsWeight, IsCurrent, node}
use Rattle.proof_obstruction_free.specs.Keys.{Chain, Leads, IsOf, IsContracted, IsCleanedUp, IsCleaned, IsNoTomb, CleansCurrent, leaves_single}
use Rattle.proof_obstruction_free.specs.Machines.{Machines, IsRead, HasSwapped}
use Rattle.proof_obstruction_free.specs.Stepping.{Stepping}
use Rattle.proof_obstruction_free.proofs.Renew.Nodes.{few_of_branch}
use Rattle.proof_obstruction_free.proofs.Renew.Calm.{Calm}
use Rattle.proof_obstruction_free.proofs.Clean.First.{Begins, Begun, begun_within, current_read, current_main, current_reads}
use Rattle.proof_obstruction_free.proofs.Clean.Comes.{Cleans, goes_from}
use Rattle.proof_obstruction_free.proofs.Clean.Ends.{one_left, not_same, ends_there}
use Rattle.proof_obstruction_free.proofs.Step.Within.{weaken, map, bind}
use Rattle.proof_obstruction_free.proofs.Pass.Chains.{one_main, way_apart, chain_stays}

module _ (a : Lone) where
  module _ (steps : Stepping a) (weight : ℕ → ℕ) (c : ℕ) (heavy : IsWeight a weight) (machines : Machines a weight c) (path : List Ref) (r main below tomb single : Ref) (g : ℕ)
      (leads : Leads a (depth_of path) main below) (of : IsOf a below g) (is : node a tomb ≡ Tomb single) where
    abbrev pub count : ℕ
    count = length (entries_of (node a main))

    abbrev pub Up : ℕ → Type 0
    Up = IsCleanedUp a weight c r g path count

    -- what is known of the key's path while CLEAN reads
    pub record Knows (t : ℕ) : Type 0 where
      pub current_root : IsCurrent a t r (Some g)
      pub chain : Chain a t r g path
      pub has : Has a t (current path) main
      pub tombed : Has a t below tomb
      pub apart : (k : ℕ) → suc k < length path → slice_index_or path k no_ref ≡ current path → ⊥

    still_current : (t u : ℕ) → Calm a t u → IsCurrent a t r (Some g) → IsCurrent a u r (Some g)
    still_current t u calm h = record { plain = calm.word r h.plain; own = h.own }

    pub knows_later : (t u : ℕ) → Calm a t u → Knows t → Knows u
    knows_later t u calm k = record {
      current_root = still_current t u calm k.current_root;
      chain = chain_stays a t u r g path (λ n lt m has. calm.keeps (slice_index_or path n no_ref) m has) k.chain;
      has = calm.keeps (current path) main k.has;
      tombed = calm.keeps below tomb k.tombed;
      apart = k.apart;
    }

    -- ---- the SWAP

    module _ (t u : ℕ) (k : Knows t) (x : Cleans a steps weight c heavy machines (Some g) path main [] t u) where
      pub here_too : Knows u
      here_too = knows_later t u (record { keeps = x.to.keeps; word = x.to.word }) k

      each : (n : ℕ) → n < length x.to.done → IsCleaned a u (slice_index_or (entries_of (node a main)) n no_ref) (slice_index_or x.to.done n no_ref)
      each n lt = x.to.each n (omega arith) lt

      pub swapped_up : (y : IsContracted a weight c (Some g) path main x.to.done u) (v : ℕ) → HasSwapped a weight c u (Some g) purpose.Clean (current path) y.fresh v → Up v
      swapped_up y v h =
          let may = is_below_root path && leaves_single a x.to.done in
          record {
            main = y.fresh;
            stands = h.stands;
            current_root = record { plain = h.word r here_too.current_root.plain; own = here_too.current_root.own };
            ended = record {
              chain = chain_stays a u v r g path (λ n lt m has. h.keeps (slice_index_or path n no_ref) m (here_too.apart n lt) has) here_too.chain;
              has = h.has;
              ends = ends_there a (depth_of path) main below g leads of u tomb single here_too.tombed is x.to.done x.to.same_length each may y.fresh y.branch;
            };
            alone = λ wrong. sym x.to.same_length ∙ one_left a may (bitmap_of (node a main)) x.to.done (subst (λ n. IsNoTomb a n → ⊥) y.branch wrong);
          }

      -- an entry has changed
      pub contracted_there : IsContracted a weight c (Some g) path main x.to.done u
      contracted_there = by_so x.to.so
        where
          by_so : (Stands a u (Some g) new_try × (x.to.done ≡ entries_of (node a main))) ⊎ IsContracted a weight c (Some g) path main x.to.done u →
              IsContracted a weight c (Some g) path main x.to.done u
          by_so (inl s) = absurd (not_same a (depth_of path) main below g leads of u tomb single here_too.tombed is x.to.done x.to.same_length each s.1)
          by_so (inr y) = y

      comes_up : Within a weight Up 5 u
      comes_up =
          let y = contracted_there in
          map a weight (HasSwapped a weight c u (Some g) purpose.Clean (current path) y.fresh) Up 5 u (λ v past within h. swapped_up y v h)
          (machines.swaps_current purpose.Clean (current path) main y.fresh r u (Some g) y.stands here_too.current_root here_too.has)

    -- ---- the lines before it

    abbrev all_cost : ℕ
    all_cost = count * (c + 2) + 2

    begun_up : (t u : ℕ) → Knows t → Begun a steps (Some g) path main t u → Within a weight Up (all_cost + 5) u
    begun_up t u k x = by_so x.so
      where
        by_so : Begins a steps (Some g) path main u ⊎ ((is_branch (node a main) ≡ true → ⊥) × Stands a u (Some g) new_try) → Within a weight Up (all_cost + 5) u
        by_so (inl y) =
            bind a weight (Cleans a steps weight c heavy machines (Some g) path main [] u) Up all_cost 5 u
            (goes_from a steps weight c heavy machines (Some g) path main count [] u (omega arith) y.stands) (λ v past within z. comes_up u v (knows_later t u x.calm k) z)
        by_so (inr s) = absurd (s.0 (ap is_branch leads.branch))

    main_up : (t : ℕ) → Knows t → Stands a t (Some g) (current_main path main) → Within a weight Up (1 + (all_cost + 5)) t
    main_up t k s =
        bind a weight (Begun a steps (Some g) path main t) Up 1 (all_cost + 5) t (begun_within a steps (Some g) path main weight heavy t s) (λ u past within x. begun_up t u k x)

    read_up : (t : ℕ) → Knows t → Stands a t (Some g) (line.Clean (clean.Read path (reading (current path)))) → Within a weight Up (c + (1 + (all_cost + 5))) t
    read_up t k s =
        bind a weight (IsRead a weight c t (Some g) (current_main path) (current path)) Up c (1 + (all_cost + 5)) t
        (machines.reads_first (current_read path (current path)) (current_main path) (current path) (current_reads a.own path (current path)) t (Some g) s)
        (λ u past within x. (let now = knows_later t u (record { keeps = x.keeps; word = x.word }) k in
        main_up u now (subst (λ m. Stands a u (Some g) (current_main path m)) (one_main a u (current path) x.main main x.has now.has) x.stands)))

  pub cleans_current : (steps : Stepping a) (weight : ℕ → ℕ) (c : ℕ) → IsWeight a weight → Machines a weight c → CleansCurrent a weight c
  cleans_current steps weight c heavy machines path r main below tomb single t g s current_root chain has leads of tombed is =
      let count = length (entries_of (node a main)) in (
        count,
        few_of_branch a main (ap is_branch leads.branch),
        weaken a weight (IsCleanedUp a weight c r g path count) (c + (1 + (count * (c + 2) + 2 + 5))) (c + 8 + count * (c + 2)) t (omega arith)
            (read_up steps weight c heavy machines path r main below tomb single g leads of is t
            (record { current_root = current_root; chain = chain; has = has; tombed = tombed; apart = way_apart a t (Some g) (line.Clean (clean.Read path (reading (current path)))) s path refl }) s),
      )
