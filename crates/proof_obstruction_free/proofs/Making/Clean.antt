-- CLEAN makes one node, where one actor alone takes steps.
use Rattle.std.proofs.Common.{◌≡◌, ℕ, zero, suc, ◌+◌, ◌<◌, ◌≤◌, ◌⊎◌, inl, inr, Bool, true, false, if◌then◌else◌, nat_eq, List, [], ◌∷◌, ◌++◌, length, Option, Some, refl, sym, ap, subst, arith}
use Rattle.std.specs.Cmp.Lexicographic.{pointwise, same_text}
use Rattle.std.proofs.lemmas.Bool.{lt-ltb, le-ltb}
use Rattle.std.proofs.lemmas.List.{length-append}
use Rattle.proof_obstruction_free.specs.Beneath.history.specs.declared.replies.Reply.TheVariants as reply
use Rattle.proof_obstruction_free.specs.Vocabulary.{Ref, Tomb, entries_of, new_try, current, depth_of, reading, is_branch}
use Rattle.proof_obstruction_free.specs.Beneath.machine_model.specs.declared.lines.Line.TheVariants as line
use Rattle.proof_obstruction_free.specs.Beneath.machine_model.specs.declared.lines.Purpose.TheVariants as purpose
use Rattle.proof_obstruction_free.specs.Beneath.machine_model.specs.declared.reading.ReadLine.TheVariants as read
use Rattle.proof_obstruction_free.specs.Beneath.machine_model.specs.declared.repairs.CleanLine.TheVariants as clean
use Rattle.proof_obstruction_free.specs.Alone.{Lone, Stands, Has, IsCurrent, node}
use Rattle.proof_obstruction_free.specs.Keys.{Chain, Leads, IsOf, IsCleanedUp}
use Rattle.proof_obstruction_free.specs.Machines.{HasSwapped, IsRead, Machines}
use Rattle.proof_obstruction_free.specs.Stepping.{Stepping}
use Rattle.proof_obstruction_free.proofs.Clean.Comes.{Cleans, changed, line_by, one_more, unchanged}
use Rattle.proof_obstruction_free.proofs.Clean.Current.{Knows, Up, contracted_there, here_too, knows_later, swapped_up}
use Rattle.proof_obstruction_free.proofs.Clean.First.{Begins, Begun, begun, current_main, current_read, current_reads}
use Rattle.proof_obstruction_free.proofs.Clean.Lines.{Advanced, Looked, child_read, child_reads, child_tomb, clean_line, earlier, entry, looks, passes}
use Rattle.proof_obstruction_free.proofs.Clean.Made.{Contracts, by_contracted}
use Rattle.proof_obstruction_free.proofs.Making.Few.{Few, bind, ended, here, map, one, one_made}
use Rattle.proof_obstruction_free.proofs.Making.Machines.{reads, swaps_current}
use Rattle.proof_obstruction_free.proofs.Pass.Chains.{one_main, way_apart}
use Rattle.proof_obstruction_free.proofs.Renew.Calm.{Calm}
use Rattle.proof_obstruction_free.proofs.Weights.Offers.{flat, is_weight}

module _ (a : Lone) (steps : Stepping a) (machines : Machines a (flat a) 7) where
  module _ (g : Option ℕ) (path : List Ref) (main : Ref) where
    -- ---- an entry

    module _ (done : List Ref) where
      abbrev On : ℕ → ℕ → Type 0
      On = Advanced a steps g path main done

      later : (t u : ℕ) → Calm a t u → Few a (On u) 0 u → Few a (On t) 0 u
      later t u calm = map a (On u) (On t) 0 u (λ v past within. earlier a steps g path main done t u v calm)

      abbrev it : Ref
      it = entry a steps g path main done

      tomb_made : (child : Ref) (t : ℕ) → Stands a t g (child_tomb path main done child) → Has a t it child → Few a (On t) 0 t
      tomb_made child t s h =
          one a (On t) 0 t g (child_tomb path main done child) s tt
          (λ more. (let x = passes a steps g path main done child t s more in
          here a (On t) 0 (suc t) (omega (arith, more)) (record { put = x.put; settles = x.settles h; stands = x.stands; calm = x.calm })))

      child_made : (t : ℕ) → Stands a t g (child_read path main done it read.Main) → Few a (On t) 0 t
      child_made t s =
          bind a (IsRead a (flat a) 7 t g (child_tomb path main done) it) (On t) 0 0 t
          (reads a (child_read path main done it) (child_tomb path main done) it (child_reads a.own path main done it) t g s)
          (λ u past within r. later t u (record { keeps = r.keeps; word = r.word }) (tomb_made r.main u r.stands r.has))

      looked_made : (t : ℕ) → suc t ≤ a.last → Looked a steps g path main done t → Few a (On t) 0 (suc t)
      looked_made t within (inl x) = here a (On t) 0 (suc t) within x
      looked_made t within (inr (s, calm)) = later t (suc t) calm (child_made (suc t) s)

      pub entry_made : (t : ℕ) → Stands a t g (line.Clean (clean.Entry path main done)) → Few a (On t) 0 t
      entry_made t s = one a (On t) 0 t g (line.Clean (clean.Entry path main done)) s tt (λ more. looked_made t (omega (arith, more)) (looks a steps g path main done t s more))

    -- ---- all of them

    abbrev entries : List Ref
    entries = entries_of (node a main)

    abbrev All : List Ref → ℕ → ℕ → Type 0
    All = Cleans a steps (flat a) 7 (is_weight a) machines g path main

    abbrev From : ℕ → Type 0
    From left = (done : List Ref) (t : ℕ) → length done + left ≡ length entries → Stands a t g (clean_line entries path main done) → Few a (All done t) 1 t

    contracted_made : (done : List Ref) (t : ℕ) → length done ≡ length entries → Stands a t g (line.Clean (clean.Contracted path main done)) → Few a (All done t) 1 t
    contracted_made done t size s = one_made a (All done t) 0 t s.until (λ more. by more (by_contracted a steps (flat a) 7 (is_weight a) g path main done t s more))
      where
        by : t < a.last → Contracts a steps (flat a) 7 (is_weight a) g path main done t (suc t) ⊎ Stands a (suc t) g (line.End reply.NoSlots) → Few a (All done t) 0 (suc t)
        by more (inl x) = here a (All done t) 0 (suc t) (omega (arith, more)) (changed a steps (flat a) 7 (is_weight a) machines g path main done t (suc t) size x)
        by more (inr e) = ended a steps (All done t) 0 (suc t) g reply.NoSlots e

    all_done : (done : List Ref) (t : ℕ) → length done ≡ length entries → (b : Bool) → pointwise nat_eq done entries ≡ b →
        Stands a t g (if b then new_try else line.Clean (clean.Contracted path main done)) → Few a (All done t) 1 t
    all_done done t size true same s = here a (All done t) 1 t s.until (unchanged a steps (flat a) 7 (is_weight a) machines g path main done t s (same_text done entries (sym same)))
    all_done done t size false other s = contracted_made done t size s

    on_made : (left : ℕ) → From left → (done : List Ref) (t u : ℕ) → length done + suc left ≡ length entries → Advanced a steps g path main done t u → Few a (All done t) 1 u
    on_made left from done t u size x =
        map a (All (done ++ x.put ∷ []) u) (All done t) 1 u (λ v past within. one_more a steps (flat a) 7 (is_weight a) machines g path main done x.put t u v x.settles x.calm)
        (from (done ++ x.put ∷ []) u (omega (arith, size, length-append done (x.put ∷ []))) x.stands)

    entry_on : (left : ℕ) → From left → From (suc left)
    entry_on left from done t size s =
        let stands = subst (λ b. Stands a t g (line_by a steps (flat a) 7 (is_weight a) machines g path main done b)) (lt-ltb (length done) (length entries) (omega (arith, size))) s in
        bind a (Advanced a steps g path main done t) (All done t) 0 1 t (entry_made done t stands) (λ u past within x. on_made left from done t u size x)

    pub goes_from : (left : ℕ) → From left
    goes_from zero done t size s =
        let all : length done ≡ length entries = omega (arith, size) in
        let stands = subst (λ b. Stands a t g (line_by a steps (flat a) 7 (is_weight a) machines g path main done b)) (le-ltb (length done) (length entries) (omega (arith, size))) s in
        all_done done t all (pointwise nat_eq done entries) refl stands
    goes_from (suc left) done t size s = entry_on left (goes_from left) done t size s

  -- ---- where the operation's root is the handle's and the key's path ends in a tomb below

  module _ (path : List Ref) (r main below tomb single : Ref) (g : ℕ) (leads : Leads a (depth_of path) main below) (of : IsOf a below g) (is : node a tomb ≡ Tomb single) where
    abbrev Known : ℕ → Type 0
    Known = Knows a steps (flat a) 7 (is_weight a) machines path r main below tomb single g leads of is

    abbrev Comes : ℕ → Type 0
    Comes = Up a steps (flat a) 7 (is_weight a) machines path r main below tomb single g leads of is

    swap_made : (t u : ℕ) → Known t → Cleans a steps (flat a) 7 (is_weight a) machines (Some g) path main [] t u → Few a Comes 0 u
    swap_made t u k x =
        let y = contracted_there a steps (flat a) 7 (is_weight a) machines path r main below tomb single g leads of is t u k x in
        let now = here_too a steps (flat a) 7 (is_weight a) machines path r main below tomb single g leads of is t u k x in
        map a (HasSwapped a (flat a) 7 u (Some g) purpose.Clean (current path) y.fresh) Comes 0 u
        (λ v past within h. swapped_up a steps (flat a) 7 (is_weight a) machines path r main below tomb single g leads of is t u k x y v h)
        (swaps_current a purpose.Clean (current path) main y.fresh r u (Some g) y.stands now.current_root now.has)

    knows_on : (t u : ℕ) → Calm a t u → Known t → Known u
    knows_on = knows_later a steps (flat a) 7 (is_weight a) machines path r main below tomb single g leads of is

    begun_made : (t u : ℕ) → Known t → Begun a steps (Some g) path main t u → Few a Comes 1 u
    begun_made t u k x = by_so x.so
      where
        by_so : Begins a steps (Some g) path main u ⊎ ((is_branch (node a main) ≡ true → ⊥) × Stands a u (Some g) new_try) → Few a Comes 1 u
        by_so (inl y) =
            bind a (Cleans a steps (flat a) 7 (is_weight a) machines (Some g) path main [] u) Comes 1 0 u (goes_from (Some g) path main (length (entries_of (node a main))) [] u (omega arith) y.stands)
            (λ v past within z. swap_made u v (knows_on t u x.calm k) z)
        by_so (inr s) = absurd (s.0 (ap is_branch leads.branch))

    main_made : (t : ℕ) → Known t → Stands a t (Some g) (current_main path main) → Few a Comes 1 t
    main_made t k s = one a Comes 1 t (Some g) (current_main path main) s tt (λ more. begun_made t (suc t) k (begun a steps (Some g) path main t s more))

    read_made : (t : ℕ) → Known t → Stands a t (Some g) (line.Clean (clean.Read path (reading (current path)))) → Few a Comes 1 t
    read_made t k s =
        bind a (IsRead a (flat a) 7 t (Some g) (current_main path) (current path)) Comes 0 1 t
        (reads a (current_read path (current path)) (current_main path) (current path) (current_reads a.own path (current path)) t (Some g) s)
        (λ u past within x. (let now = knows_on t u (record { keeps = x.keeps; word = x.word }) k in
        main_made u now (subst (λ m. Stands a u (Some g) (current_main path m)) (one_main a u (current path) x.main main x.has now.has) x.stands)))

  -- the path's end comes one level higher
  pub cleans_made :
      (path : List Ref) (r main below tomb single : Ref) (t g : ℕ) → Stands a t (Some g) (line.Clean (clean.Read path (reading (current path)))) → IsCurrent a t r (Some g) →
      Chain a t r g path → Has a t (current path) main → Leads a (depth_of path) main below → IsOf a below g → Has a t below tomb → node a tomb ≡ Tomb single →
      Few a (IsCleanedUp a (flat a) 7 r g path (length (entries_of (node a main)))) 1 t
  cleans_made path r main below tomb single t g s current_root chain has leads of tombed is =
      read_made path r main below tomb single g leads of is t
      (record { current_root = current_root; chain = chain; has = has; tombed = tombed; apart = way_apart a t (Some g) (line.Clean (clean.Read path (reading (current path)))) s path refl }) s
