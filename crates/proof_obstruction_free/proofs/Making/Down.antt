-- A fresh pass makes 33 nodes a level at most, where one actor alone takes steps.
use Rattle.std.proofs.Common.{◌≡◌, ℕ, zero, suc, ◌+◌, ◌*◌, ◌<◌, ◌≤◌, ◌⊎◌, ◌==◌, Bool, true, false, inl, inr, List, [], ◌∷◌, ◌++◌, length, Some, refl, sym, ap, subst, ◌∙◌, eqb-true}
use Rattle.std.proofs.Common.{arith}
use Rattle.std.proofs.Math.Nat.{suc-mul}
use Rattle.std.proofs.lemmas.List.{length-append}
use Rattle.proof_obstruction_free.specs.Vocabulary.{position_of, Writable, Ref, entries_of, Line, current, depth_of, reading, swapping}
use Rattle.proof_obstruction_free.specs.Beneath.machine_model.specs.declared.finding.KeyLine.TheVariants as key
use Rattle.proof_obstruction_free.specs.Beneath.machine_model.specs.declared.lines.Line.TheVariants as line
use Rattle.proof_obstruction_free.specs.Beneath.machine_model.specs.declared.lines.Purpose.TheVariants as purpose
use Rattle.proof_obstruction_free.specs.Beneath.machine_model.specs.declared.repairs.RenewLine.TheVariants as renew
use Rattle.proof_obstruction_free.specs.Alone.{IsCurrent, Keeps, Lone, Stands, node}
use Rattle.proof_obstruction_free.specs.Keys.{Chain, IsBottom, IsDown, IsEnd, IsOf, IsRenewing, Leads, RenewsFrom, flag_at}
use Rattle.proof_obstruction_free.specs.Machines.{HasSwapped, IsRead, Machines}
use Rattle.proof_obstruction_free.specs.Stepping.{Stepping}
use Rattle.proof_obstruction_free.proofs.Climb.On.{short_way}
use Rattle.proof_obstruction_free.proofs.Making.Few.{Few, bind, here, one, after_none, weaken}
use Rattle.proof_obstruction_free.proofs.Making.Machines.{reads, swaps_current}
use Rattle.proof_obstruction_free.proofs.Making.Renew.{renews_made}
use Rattle.proof_obstruction_free.proofs.Pass.Chains.{Leading, chain_kept, chain_later, current_later, leads_or_ends, one_main, way_apart}
use Rattle.proof_obstruction_free.proofs.Pass.Down.{AtEntry, AtMain, AtRenewal, FewEntries, Renewed, at_entry, ends_here, goes_on, step_stays}
use Rattle.proof_obstruction_free.proofs.Pass.Lines.{down_reads, key_gives, key_holds_read, key_read, renews, within}
use Rattle.proof_obstruction_free.proofs.Pass.Renewed.{renewed_leads}
use Rattle.proof_obstruction_free.proofs.Renew.Comes.{renews_from}
use Rattle.proof_obstruction_free.proofs.Renew.Nodes.{few_entries}
use Rattle.proof_obstruction_free.proofs.Weights.Offers.{flat, is_weight}

module _ (a : Lone) (steps : Stepping a) (machines : Machines a (flat a) 7) (writes : a.own.access ≡ Writable) where
  few : FewEntries a
  few = few_entries a

  renewing : RenewsFrom a (flat a) 7
  renewing = renews_from a steps (flat a) 7 (is_weight a) machines

  -- a fresh pass at a main node, and at its entry
  abbrev Main : Ref → ℕ → List Ref → Ref → ℕ → Type 0
  Main = AtMain a (flat a) 7 (is_weight a) steps writes

  abbrev Entry : (r : Ref) (g : ℕ) (path : List Ref) (main below : Ref) → Leads a (depth_of path) main below → ℕ → Type 0
  Entry = AtEntry a (flat a) 7 (is_weight a) steps writes

  abbrev Renewal : Ref → ℕ → List Ref → Ref → ℕ → Type 0
  Renewal = AtRenewal a (flat a) 7 (is_weight a) steps writes machines few renewing

  abbrev Fresh : ℕ → Ref → Ref → Type 0
  Fresh = Renewed a (flat a) 7 (is_weight a) steps writes machines few renewing

  -- down, or at the end
  abbrev Goes : Ref → ℕ → List Ref → ℕ → Type 0
  Goes r g path u = IsDown a (flat a) 7 r g path u ⊎ IsBottom a (flat a) 7 r g path u

  entry_of : (r : Ref) (g : ℕ) (path : List Ref) (main below : Ref) (t : ℕ) → Main r g path main t → (x : Leads a (depth_of path) main below) → t < a.last → Entry r g path main below x (suc t)
  entry_of = at_entry a (flat a) 7 (is_weight a) steps writes

  down_made : (r : Ref) (g : ℕ) (path : List Ref) (main below : Ref) (t : ℕ) → Main r g path main t → Leads a (depth_of path) main below → IsOf a below g → Few a (Goes r g path) 0 t
  down_made r g path main below t m x of =
      one a (Goes r g path) 0 t (Some g) (line.Key (key.Main path main)) m.stands tt (λ more.
      let e = entry_of r g path main below t m x more in
      one a (Goes r g path) 0 (suc t) (Some g) (line.Key (key.Entry path main (position_of (flag_at a (depth_of path)) x.bitmap))) e.stands tt (λ more.
      here a (Goes r g path) 0 (suc (suc t)) (omega (arith, more)) (inl (goes_on a (flat a) 7 (is_weight a) steps writes r g path main below (suc t) x e of more))))

  at_bottom : (r : Ref) (g : ℕ) (path : List Ref) (main : Ref) (t : ℕ) → Main r g path main t → IsEnd a (depth_of path) main → Few a (Goes r g path) 0 t
  at_bottom r g path main t m ends = here a (Goes r g path) 0 t m.stands.until (inr (ends_here a (flat a) 7 (is_weight a) steps writes r g path main t m ends))

  -- ---- a READ of the current indirection

  read_main : (r : Ref) (g : ℕ) (path : List Ref) (t : ℕ) → Stands a t (Some g) (line.Key (key.Read path (reading (current path)))) → IsCurrent a t r (Some g) → Chain a t r g path →
      (Q : ℕ → Type 0) (n : ℕ) → ((u : ℕ) → (main : Ref) → t ≤ u → Keeps a t u → Main r g path main u → Few a Q n u) → Few a Q n t
  read_main r g path t s x chain Q n next =
      after_none a (IsRead a (flat a) 7 t (Some g) (key_gives path) (current path)) Q n t (reads a (key_read path) (key_gives path) (current path) (key_holds_read a.own path) t (Some g) s)
      (λ u after in_time read. next u read.main after read.keeps
      (record { stands = read.stands; current_root = current_later a t u r (Some g) read.word x; chain = chain_later a t u r g path read.keeps chain; has = read.has }))

  -- ---- where all entries were renewed

  module _ (r : Ref) (g : ℕ) (path : List Ref) (main below : Ref) (x : Leads a (depth_of path) main below)
      (within_it : position_of (flag_at a (depth_of path)) x.bitmap < length (entries_of (node a main))) where
    after_renewal : (fresh t : ℕ) → Fresh g main fresh → Main r g path fresh t → Few a (Goes r g path) 0 t
    after_renewal fresh t done m = by (leads_or_ends a (depth_of path) fresh)
      where
        by : Leading a (depth_of path) fresh ⊎ IsEnd a (depth_of path) fresh → Few a (Goes r g path) 0 t
        by (inl x') =
            let of = renewed_leads a (depth_of path) g x'.generation main fresh below x'.below done.done done.short done.branch done.same_length done.each x within_it x'.leads x'.is in
            down_made r g path fresh x'.below t m x'.leads of
        by (inr ends) = at_bottom r g path fresh t m ends

    -- from the SWAP of the renewed branch
    after_swap : (t u : ℕ) → Renewal r g path main t → IsRenewing a (flat a) 7 t g path main 0 u → t ≤ u → Few a (Goes r g path) 0 u
    after_swap t u e ren after =
        after_none a (HasSwapped a (flat a) 7 u (Some g) (purpose.Renew path) (current path) ren.fresh) (Goes r g path) 0 u
        (swaps_current a (purpose.Renew path) (current path) main ren.fresh r u (Some g) ren.stands (current_later a t u r (Some g) ren.word e.current_root) (ren.keeps (current path) main e.has))
        (λ v later in_time sw.
        let now = current_later a u v r (Some g) sw.word (current_later a t u r (Some g) ren.word e.current_root) in
        let chain = chain_kept a u v r g path (way_apart a u (Some g) (line.Swap (purpose.Renew path) (swapping (current path) main ren.fresh)) ren.stands path refl) sw.keeps
        (chain_later a t u r g path ren.keeps e.chain) in
        read_main r g path v sw.stands now chain (Goes r g path) 0 (λ w found last keeps m.
        let same : found ≡ ren.fresh = one_main a w (current path) found ren.fresh m.has (keeps (current path) ren.fresh sw.has) in
        let entries : length (entries_of (node a main)) ≤ 32 = subst (λ n. length (entries_of n) ≤ 32) (sym x.branch) (few main x.bitmap x.entries x.branch) in
        let done : Fresh g main found =
        record { done = ren.done; short = subst (λ n. n ≤ 32) (sym ren.same_length) entries; same_length = ren.same_length; branch = ap (node a) same ∙ ren.branch; each = ren.each } in
        after_renewal found w done m))

    -- RENEW, from its first entry
    renewing_level : (t : ℕ) → Renewal r g path main t → Stands a t (Some g) (line.Renew (renew.Entry path main [])) →
        Few a (Goes r g path) (length (entries_of (node a main)) + 1 + 0) t
    renewing_level t e s =
        bind a (IsRenewing a (flat a) 7 t g path main 0) (Goes r g path) (length (entries_of (node a main)) + 1) 0 t (renews_made a steps machines g path main t s)
        (λ u after in_time ren. after_swap t u e ren after)

  -- ---- a level

  -- after the entry, RENEW
  from_entry : (r : Ref) (g : ℕ) (path : List Ref) (main below : Ref) (h t : ℕ) (x : Leads a (depth_of path) main below) → Entry r g path main below x t → IsOf a below h → (g == h) ≡ false →
      Few a (Goes r g path) 33 t
  from_entry r g path main below h t x e of other =
      weaken a (Goes r g path) (length (entries_of (node a main)) + 1 + 0) 33 t (omega (arith, entries))
      (one a (Goes r g path) (length (entries_of (node a main)) + 1 + 0) t (Some g) l e.stands tt (λ more.
      let keeps = steps.keeps t (Some g) l e.stands more tt tt in
      let next : Renewal r g path main (suc t) = record {
        current_root = current_later a t (suc t) r (Some g) (step_stays a (flat a) 7 (is_weight a) steps writes t (Some g) l e.stands more tt tt) e.current_root;
        chain = chain_later a t (suc t) r g path keeps e.chain;
        has = keeps (current path) main e.has;
      } in
      renewing_level r g path main below x (within a steps writes t g path main below h x e.stands more of) (suc t) next (renews a steps writes t g path main below h x e.stands more of other)))
    where
      l : Line
      l = line.Key (key.Entry path main (position_of (flag_at a (depth_of path)) x.bitmap))

      entries : length (entries_of (node a main)) ≤ 32
      entries = subst (λ n. length (entries_of n) ≤ 32) (sym x.branch) (few main x.bitmap x.entries x.branch)

  level : (r : Ref) (g : ℕ) (path : List Ref) (main : Ref) (t : ℕ) → Main r g path main t → Few a (Goes r g path) 33 t
  level r g path main t m = by (leads_or_ends a (depth_of path) main)
    where
      by_test : (x : Leading a (depth_of path) main) (b : Bool) → (g == x.generation) ≡ b → Few a (Goes r g path) 33 t
      by_test x true e =
          weaken a (Goes r g path) 0 33 t (omega arith) (down_made r g path main x.below t m x.leads (subst (IsOf a x.below) (sym (eqb-true g x.generation e)) x.is))
      by_test x false e =
          one a (Goes r g path) 33 t (Some g) (line.Key (key.Main path main)) m.stands tt (λ more.
          from_entry r g path main x.below x.generation (suc t) x.leads (entry_of r g path main x.below t m x.leads more) x.is e)

      by : Leading a (depth_of path) main ⊎ IsEnd a (depth_of path) main → Few a (Goes r g path) 33 t
      by (inl x) = by_test x (g == x.generation) refl
      by (inr ends) = weaken a (Goes r g path) 0 33 t (omega arith) (at_bottom r g path main t m ends)

  level_made : (path : List Ref) (r : Ref) (t g : ℕ) → Stands a t (Some g) (line.Key (key.Read path (reading (current path)))) → IsCurrent a t r (Some g) → Chain a t r g path →
      Few a (Goes r g path) 33 t
  level_made path r t g s x chain = read_main r g path t s x chain (Goes r g path) 33 (λ u main after keeps m. level r g path main u m)

  -- ---- all levels

  -- the end of the key's path
  abbrev pub Bottom : Ref → ℕ → ℕ → Type 0
  Bottom r g u = (to : List Ref) × IsBottom a (flat a) 7 r g to u

  -- from a path with so many levels left
  abbrev From : ℕ → Ref → ℕ → Type 0
  From n r g =
      (path : List Ref) (t : ℕ) → length path + n ≡ 15 → Stands a t (Some g) (line.Key (key.Read path (reading (current path)))) → IsCurrent a t r (Some g) → Chain a t r g path →
      Few a (Bottom r g) (n * 33) t

  on : (n : ℕ) (path : List Ref) (r : Ref) (u g : ℕ) → u ≤ a.last → length path + suc n ≡ 15 → From n r g → Goes r g path u → Few a (Bottom r g) (n * 33) u
  on n path r u g until e further (inl down) =
      let len = length-append path (down.below ∷ []) in
      further (path ++ down.below ∷ []) u (omega (arith, len, e)) (down_reads a u (Some g) path down.below down.stands) down.current_root down.chain
  on n path r u g until e further (inr bottom) = here a (Bottom r g) (n * 33) u until (path, bottom)

  pass_from : (n : ℕ) (r : Ref) (g : ℕ) → From n r g
  pass_from zero r g path t e s x chain = let short = short_way a t (Some g) (line.Key (key.Read path (reading (current path)))) s in absurd (omega (arith, e, short))
  pass_from (suc n) r g path t e s x chain =
      weaken a (Bottom r g) (33 + n * 33) (suc n * 33) t (let product = suc-mul n 33 in omega (arith, product))
      (bind a (Goes r g path) (Bottom r g) 33 (n * 33) t (level_made path r t g s x chain) (λ u after until found. on n path r u g until e (pass_from n r g) found))

  -- from the root
  pub pass_made : (r : Ref) (t g : ℕ) → Stands a t (Some g) (line.Key (key.Read (r ∷ []) (reading r))) → IsCurrent a t r (Some g) → Chain a t r g (r ∷ []) → Few a (Bottom r g) 462 t
  pass_made r t g s x chain = pass_from 14 r g (r ∷ []) t refl s x chain
