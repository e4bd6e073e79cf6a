-- A call on one key, on a writable handle, ends where its actor alone takes steps: the RENEWs of the pass that was under way and of the fresh one after it count once.
use Rattle.std.proofs.Common.{◌≡◌, ℕ, ◌+◌, ◌*◌, ◌≤◌, true, List, Option, Some, refl, sym, subst, ◌∙◌, arith}
use Rattle.std.proofs.lemmas.Bool.{false≢true}
use Rattle.proof_obstruction_free.specs.Vocabulary.{Writable, Ref, Line, Purpose, Swap, SwapLine, new_try, current, depth_of, reading, swapping}
use Rattle.proof_obstruction_free.specs.Beneath.machine_model.specs.declared.finding.KeyLine.TheVariants as key
use Rattle.proof_obstruction_free.specs.Beneath.machine_model.specs.declared.lines.Line.TheVariants as line
use Rattle.proof_obstruction_free.specs.Beneath.machine_model.specs.declared.lines.Purpose.TheVariants as purpose
use Rattle.proof_obstruction_free.specs.Beneath.machine_model.specs.declared.reading.SwapLine.TheVariants as swap
use Rattle.proof_obstruction_free.specs.Beneath.proof_shape.proofs.Lines.Leads.{is_down}
use Rattle.proof_obstruction_free.specs.Beneath.proof_shape.proofs.Lines.Placed.{is_below}
use Rattle.proof_obstruction_free.specs.Beneath.proof_shape.proofs.Lines.Places.{settled_at}
use Rattle.proof_obstruction_free.specs.Alone.{IsWeight, Lone, Stands, Within}
use Rattle.proof_obstruction_free.specs.Bounds.{cleaning_most, fresh_most, rooted_most, stale_bottom_most}
use Rattle.proof_obstruction_free.specs.Keys.{BottomEnds, IsEnd, IsOnKey, PassEnds, RenewsFrom}
use Rattle.proof_obstruction_free.specs.Machines.{IsRooted, IsSwapped, Machines, WasSwapped}
use Rattle.proof_obstruction_free.specs.Stale.{Tries}
use Rattle.proof_obstruction_free.specs.Stepping.{Stepping}
use Rattle.proof_obstruction_free.proofs.Pass.Key.Fresh.{bottom_ends}
use Rattle.proof_obstruction_free.proofs.Pass.Key.Stale.{absent_again, builds_again, entries_again, lists_again, updates_on}
use Rattle.proof_obstruction_free.proofs.Clean.Current.{cleans_current}
use Rattle.proof_obstruction_free.proofs.Clean.On.{cleans_on}
use Rattle.proof_obstruction_free.proofs.Climb.On.{climb_swaps_on, climbs_on}
use Rattle.proof_obstruction_free.proofs.Pass.Fresh.{fresh_ends, rooted_ends}
use Rattle.proof_obstruction_free.proofs.Pass.FreshEnds.{Tombs, tombs_end}
use Rattle.proof_obstruction_free.proofs.Pass.Along.{pass_along}
use Rattle.proof_obstruction_free.proofs.Pass.Down.{FewEntries, goes_down_a_level}
use Rattle.proof_obstruction_free.proofs.Pass.End.{pass_ends}
use Rattle.proof_obstruction_free.proofs.Renew.Comes.{renews_from}
use Rattle.proof_obstruction_free.proofs.Renew.Nodes.{few_entries}
use Rattle.proof_obstruction_free.proofs.Ends.StandsAt.{begins, never}
use Rattle.proof_obstruction_free.proofs.Pass.StaleKinds.{key_lines}
use Rattle.proof_obstruction_free.proofs.Pass.Stale.{AtBottom, end_tries}
use Rattle.proof_obstruction_free.proofs.Step.Within.{bind, ended, here, weaken}
use Rattle.proof_obstruction_free.specs.Inherited.{FineEnds, PassKnown, fine_most, first_most}
use Rattle.proof_obstruction_free.proofs.Inherited.First.{inherited_main, inherited_read}
use Rattle.proof_obstruction_free.proofs.Inherited.Knowing.{pass_known}
use Rattle.proof_obstruction_free.proofs.Inherited.Lines.{key_line_ends, renew_ends, renew_swap_ends}

module _ (a : Lone) (weight : ℕ → ℕ) (c : ℕ) (heavy : IsWeight a weight) (steps : Stepping a) (machines : Machines a weight c) (on : IsOnKey a.own.call) (writes : a.own.access ≡ Writable) where
  abbrev W : (ℕ → Type 0) → ℕ → ℕ → Type 0
  W = Within a weight

  abbrev Never : ℕ → Type 0
  Never u = ⊥

  -- ---- the parts

  few : FewEntries a
  few = few_entries a

  renewing : RenewsFrom a weight c
  renewing = renews_from a steps weight c heavy machines

  bottom : BottomEnds a weight c
  bottom = bottom_ends a weight c heavy steps machines

  passes : PassEnds a weight c
  passes = pass_ends a weight c (goes_down_a_level a weight c heavy steps writes machines (few_entries a) (renews_from a steps weight c heavy machines))

  tombs : Tombs a weight c heavy steps writes (bottom_ends a weight c heavy steps machines) (cleans_current a steps weight c heavy machines) (pass_along a weight c heavy steps machines writes on) 13
  tombs = tombs_end a weight c heavy steps writes (bottom_ends a weight c heavy steps machines) (cleans_current a steps weight c heavy machines)
      (pass_along a weight c heavy steps machines writes on) 13

  fresh : (u : ℕ) (h : Option ℕ) → Stands a u h new_try → W Never (fresh_most c) u
  fresh u h s = fresh_ends a weight c steps machines on passes tombs u h s

  known : PassKnown a weight c
  known = pass_known a weight c heavy steps machines writes few renewing passes on

  stale_bottom : (path : List Ref) (main : Ref) (u h : ℕ) → Stands a u (Some h) (line.Key (key.Main path main)) → IsEnd a (depth_of path) main → W (Tries a weight c (Some h)) (stale_bottom_most c) u
  stale_bottom path main u h s ends =
      end_tries a weight c heavy steps machines writes few renewing (absent_again a weight c heavy steps machines) (lists_again a weight c heavy steps machines)
      (entries_again a weight c heavy steps machines)
      (cleans_on a steps weight c heavy machines) u h (AtBottom path main s ends)

  from_main : (path : List Ref) (main : Ref) (t g : ℕ) → Stands a t (Some g) (line.Key (key.Main path main)) → W Never (14 * (c + 2) + first_most c) t
  from_main = inherited_main a weight c heavy steps machines writes few renewing bottom known tombs (λ u h s. fresh u (Some h) s) stale_bottom

  from_read : (path : List Ref) (t g : ℕ) → Stands a t (Some g) (line.Key (key.Read path (reading (current path)))) → W Never (14 * (c + 2) + first_most c) t
  from_read = inherited_read a weight c heavy steps machines writes few renewing bottom known tombs (λ u h s. fresh u (Some h) s) stale_bottom

  -- a new try ends
  tried : (n t : ℕ) (g : Option ℕ) → n + fresh_most c ≤ fine_most c → W (Tries a weight c g) n t → W Never (fine_most c) t
  tried n t g enough w = weaken a weight Never (n + fresh_most c) (fine_most c) t enough (bind a weight (Tries a weight c g) Never n (fresh_most c) t w (λ u after in_time s. fresh u g s))

  -- ---- a SWAP of CLEAN

  clean_swap_tries : (w : Swap) (t : ℕ) (g : Option ℕ) → Stands a t g (line.Swap purpose.Clean w) → W (Tries a weight c g) (c + 10) t
  clean_swap_tries w t g s = by_line w.line refl
    where
      other : (w.line ≡ swap.Publish → ⊥) → W (Tries a weight c g) (c + 10) t
      other late =
          weaken a weight (Tries a weight c g) (c + 7 + 0) (c + 10) t (omega arith)
          (bind a weight (WasSwapped a weight c t g purpose.Clean w.fresh) (Tries a weight c g) (c + 7) 0 t (machines.swaps_on purpose.Clean w t g s late)
          (λ u after in_time x. here a weight (Tries a weight c g) u x.stands))

      first : Stands a t g (line.Swap purpose.Clean (swapping w.indirection w.replaced w.fresh)) → W (Tries a weight c g) (c + 10) t
      first s =
          weaken a weight (Tries a weight c g) (10 + 0) (c + 10) t (omega arith)
          (bind a weight (IsSwapped a weight c t g purpose.Clean w.indirection w.replaced w.fresh) (Tries a weight c g) 10 0 t
          (machines.swaps_first purpose.Clean w.indirection w.replaced w.fresh t g s)
          (λ u after in_time x. here a weight (Tries a weight c g) u x.stands))

      by_line : (l : SwapLine) → w.line ≡ l → W (Tries a weight c g) (c + 10) t
      by_line swap.Publish e = first (subst (λ l. Stands a t g (line.Swap purpose.Clean (record w { line = l }))) e s)
      by_line (swap.Deciding l) e = other (λ is. let bad : swap.Deciding l ≡ swap.Publish = sym e ∙ is in cc)
      by_line swap.Check e = other (λ is. let bad : swap.Check ≡ swap.Publish = sym e ∙ is in cc)

  -- ---- each line

  abbrev Knows : Option ℕ → Type 0
  Knows g = (h : ℕ) × (g ≡ Some h)

  with_root : (l : Line) (t : ℕ) (g : Option ℕ) → Knows g → ((h : ℕ) → Stands a t (Some h) l → W Never (fine_most c) t) → Stands a t g l → W Never (fine_most c) t
  with_root l t g (h, e) then s = then h (subst (λ x. Stands a t x l) e s)

  from_swap : (why : Purpose) (w : Swap) (t : ℕ) (g : Option ℕ) → Knows g → Stands a t g (line.Swap why w) → W Never (fine_most c) t
  from_swap (purpose.Update path former) w t g knows s = tried (14 * (c + 12) + c + 13) t g (omega arith) (updates_on a weight c heavy steps machines path former w t g s)
  from_swap (purpose.Renew path) w t g knows s =
      with_root (line.Swap (purpose.Renew path) w) t g knows
      (λ h s. weaken a weight Never (c + 10 + (14 * (c + 2) + first_most c)) (fine_most c) t (omega arith)
      (renew_swap_ends a weight c heavy steps machines writes (λ u k s. fresh u (Some k) s) from_main from_read path w t h s)) s
  from_swap purpose.Clean w t g knows s = tried (c + 10) t g (omega arith) (clean_swap_tries w t g s)
  from_swap (purpose.Climb x) w t g knows s = weaken a weight Never (14 * (c + 12) + 3 * c + 40) (fine_most c) t (omega arith) (climb_swaps_on a weight c heavy steps machines x w t g s)

  from_line : (l : Line) (t : ℕ) (g : Option ℕ) → is_down l ≡ true → (is_below l ≡ true → Knows g) → Stands a t g l → W Never (fine_most c) t
  from_line (line.Root l) t g down knows s =
      weaken a weight Never (2 * c + 10 + rooted_most c) (fine_most c) t (omega arith)
      (bind a weight (IsRooted a weight c t) Never (2 * c + 10) (rooted_most c) t (machines.roots_on t g l s)
      (λ u after in_time rooted. rooted_ends a weight c steps machines on passes tombs t u rooted))
  from_line (line.Key l) t g down knows s =
      with_root (line.Key l) t g (knows refl) (λ h s. key_line_ends a weight c heavy steps machines writes (λ u k s. fresh u (Some k) s) from_main from_read l t h s) s
  from_line (line.Build l) t g down knows s = tried (14 * (c + 12) + 43) t g (omega arith) (builds_again a weight c heavy steps machines l t g s)
  from_line (line.Swap why w) t g down knows s = from_swap why w t g (knows refl) s
  from_line (line.Renew l) t g down knows s =
      with_root (line.Renew l) t g (knows refl)
      (λ h s. weaken a weight Never (32 * (c + 2) + 10 + (10 + (14 * (c + 2) + first_most c))) (fine_most c) t (omega arith)
      (renew_ends a weight c heavy steps machines writes (λ u k s. fresh u (Some k) s) from_main from_read l t h s)) s
  from_line (line.Clean l) t g down knows s = tried (33 * (c + 2) + 20) t g (omega arith) (cleans_on a steps weight c heavy machines l t g s)
  from_line (line.Climb l) t g down knows s = weaken a weight Never (14 * (c + 12) + 3 * c + 40) (fine_most c) t (omega arith) (climbs_on a weight c heavy steps machines l t g s)
  from_line (line.Copy l) t g down knows s = absurd (false≢true down)
  from_line (line.Walk l) t g down knows s = absurd (false≢true down)
  from_line (line.End answer) t g down knows s = weaken a weight Never 1 (fine_most c) t (omega arith) (ended a weight steps Never t g answer s)
  from_line line.Impossible t g down knows s = absurd (never a t g s)

  -- ---- from its start

  pub fine_ends : FineEnds a weight c
  fine_ends room =
      let within : a.start ≤ a.last = omega (arith, room) in
      from_line a.own.line a.start a.own.generation (key_lines a.run a.start within a.actor a.own a.begins on)
      (settled_at a.run a.start within a.actor a.own a.begins).starts (begins a within) room

-- where a READ costs 2
pub fine_most_is : fine_most 2 ≡ 3640
unfolding cleaning_most
fine_most_is = refl
