-- BUILD: where the new single goes.
use Rattle.std.proofs.Common.{◌≡◌, ℕ, true, false, List, Option, Some, None, refl, sym, ap, subst, ◌∙◌}
use Rattle.trie_words.specs.declared.entries.Entry.{Entry}
use Rattle.machine_model.specs.Beneath.ctrie_base.specs.Hashes.{hash_of}
use Rattle.machine_model.specs.Beneath.slot_arena.specs.declared.refs.Ref.{Ref}
use Rattle.machine_model.specs.Beneath.slot_arena.specs.declared.nodes.Node.TheVariants.{Single}
use Rattle.machine_model.specs.Beneath.slot_arena.specs.Heaps.{no_ref}
use Rattle.machine_model.specs.declared.building.BuildLine.TheVariants as build
use Rattle.machine_model.specs.declared.building.Change.TheVariants as change
use Rattle.machine_model.specs.declared.building.Site.{Site}
use Rattle.machine_model.specs.declared.building.Site.TheVariants as site
use Rattle.machine_model.specs.declared.lines.Line.{Line}
use Rattle.machine_model.specs.declared.lines.Line.TheVariants as line
use Rattle.machine_model.specs.declared.operations.Operation.{Operation}
use Rattle.machine_model.specs.Building.{after_single, old_hash, pair_depth}
use Rattle.machine_model.specs.Paths.{depth_of}
use Rattle.nodes.specs.Levels.{flag_of}
use Rattle.proof_linearizable.specs.Beneath.proof_contents.specs.Lines.Changes.{KnowsLine, KnowsSite}
use Rattle.lock_free.specs.declared.building.Builder.{Builder}
use Rattle.lock_free.specs.declared.changing.Edit.{Edit}
use Rattle.lock_free.specs.declared.changing.Edit.TheVariants as edit
use Rattle.lock_free.specs.declared.reading.Given.{Given}
use Rattle.lock_free.specs.declared.rules.View.{View}
use Rattle.lock_free.specs.Becoming.{HasNew}
use Rattle.lock_free.specs.BuildingUp.{drops_at, former_at, sited, HasBuiltSingle, HasBuiltUp, HasEdit, HasEditAt, HasPaired, HasReached, IsAtPair, IsAtSingle, IsAtSite, IsBuilder, IsMain}
use Rattle.lock_free.specs.Changing.{drops_of, HasBuilt, IsChanging}
use Rattle.lock_free.specs.Entries.{HasStayed}
use Rattle.lock_free.specs.Holding.{IsOn}
use Rattle.lock_free.specs.Loading.{now, Runs, IsSound}
use Rattle.lock_free.specs.SeenEntries.{entry_to, HasMadeNext}
use Rattle.lock_free.proofs.KnownLines.{known, knows}
use Rattle.lock_free.proofs.Laters.{later_self}
use Rattle.lock_free.proofs.NewSingles.{single_entry, one_place, changing, built_up, none_made, new}
use Rattle.lock_free.proofs.OnLines.{line_is}
use Rattle.lock_free.proofs.Reachings.{reached_both, reached_on, reached_new, reached_stayed, stopped_then, builder_then, main_then}

-- ---- the change of the main node

made_in : Line → Ref
made_in (line.Build (build.Main path main (change.Insert made) former)) = made
made_in (line.Build (build.Main path main (change.Update position made) former)) = made
made_in l = no_ref

still : (v : View) → HasStayed v v
still v = record { later = later_self v; comes = λ o r. r }

module _ (v : View) (by : Builder) (given : Given) (former : Option ℕ) (single : Entry) where
  pub absent_edit : IsAtSite v by given site.Absent former single → HasEdit v site.Absent former (Some (edit.Insert single)) v
  unfolding made_in
  absent_edit (path, main, made, depth, on, b, m, used, to) q c x y other = (
    change.Insert x,
    reached_stayed v v (line.Build (build.Main q c (change.Insert x) former)) other (still v),
    to ∙ ap (entry_to v) (ap made_in (sym (line_is v (line.Build (build.Main path main (change.Insert made) former)) on other.0 other.1) ∙ other.2)),
    tt,
  )

  pub at_edit : (position : ℕ) → IsAtSite v by given (site.At position) former single → HasEdit v (site.At position) former (Some (edit.Update position single)) v
  unfolding made_in
  at_edit position (path, main, made, depth, on, b, m, used, to) q c x y other = (
    change.Update position x,
    reached_stayed v v (line.Build (build.Main q c (change.Update position x) former)) other (still v),
    (refl, to ∙ ap (entry_to v) (ap made_in (sym (line_is v (line.Build (build.Main path main (change.Update position made) former)) on other.0 other.1) ∙ other.2))),
    tt,
  )

  pub pair_at : (position : ℕ) → IsAtSite v by given (site.Beside position) former single → IsAtPair v by given position single
  pair_at position (path, main, made, depth, on, b, m, used, to) = (path, main, made, depth, on, b, m, (used, ap (λ (e : Entry). e.slot) (sym to)), to)

  pub beside_none : (position : ℕ) (w : View) → HasPaired v position None w → HasEdit v (site.Beside position) former None w
  beside_none position w paired q c x y other = paired q c x y other

  pub beside_edit : (position : ℕ) (w : View) (slot : ℕ) → HasPaired v position (Some slot) w →
      HasEdit v (site.Beside position) former (Some (edit.Update position (record { slot = slot; own = false; is_single = false }))) w
  beside_edit position w slot paired q c x y other = let led = paired q c x y other in (change.Update position led.top, led.reached, (refl, sym led.entry), tt)

-- ---- from the first line on

module _ (n : ℕ) (v : View) (sound : IsSound n v) (by : Builder) (given : Given) (place : Site) (former : Option ℕ) (at : IsAtSingle v by given place former) where
  abbrev path : List Ref
  path = at.0

  abbrev main : Ref
  main = at.1

  abbrev on : IsOn v (line.Build (build.Single path main place former))
  on = at.2

  abbrev b : IsBuilder v by path
  b = at.3

  abbrev m : IsMain v path main given
  m = at.4

  -- a pair's depth
  depth_at : Site → ℕ
  depth_at (site.Beside position) = pair_depth (now v) (old_hash (now v) main position) (hash_of (now v).limits.hash by.key) (depth_of path)
  depth_at s = 0

  after_it : (s : Site) (made : Ref) (o : Operation) → Runs v o → after_single (now v) o path main former s made ≡ line.Build (sited path main former s made (depth_at s))
  unfolding depth_at
  after_it site.Absent made o r = refl
  after_it (site.At position) made o r = refl
  after_it (site.Beside position) made o r =
      ap (λ k. line.Build (build.Pair path main position made (pair_depth (now v) (old_hash (now v) main position) (hash_of (now v).limits.hash k) (depth_of path)))) (b.calls o r).0

  -- what is put beside another single is new
  former_is : former_at place former ≡ former
  former_is = from place (subst (KnowsLine (known n v sound (record on.0 { is_marked = on.1.0 }) on.1.1) on.0.call) on.2 (knows n v sound (record on.0 { is_marked = on.1.0 }) on.1.1))
    where
      from : (s : Site) → KnowsSite (known n v sound (record on.0 { is_marked = on.1.0 }) on.1.1) on.0.call (depth_of path) main former s → former_at s former ≡ former
      from site.Absent k = refl
      from (site.At position) k = refl
      from (site.Beside position) k = sym k.0.0

  pub no_single : (w : View) → HasMadeNext v None w → HasBuiltSingle v place former None w
  no_single w made q c other = none_made v by path main place former on b w made

  module _ (w : View) (name : ℕ) (made : HasMadeNext v (Some name) w) where
    abbrev h : HasNew v (Single by.key by.value) name w
    h = new v by path main place former on b w name made

    abbrev at_site : Line
    at_site = line.Build (sited path main former place h.made (depth_at place))

    reached : HasReached v at_site w
    reached = reached_new v w (line.Build (build.Single path main place former)) on (Single by.key by.value) name h at_site (λ o r. after_it place h.made o r)

    on_w : IsOn w at_site
    on_w = reached_on v w (line.Build (build.Single path main place former)) at_site on reached

    pub site_ready : IsAtSite w by given place former (record { slot = name; own = true; is_single = true })
    site_ready = (
      path,
      main,
      h.made,
      depth_at place,
      on_w,
      builder_then v w (line.Build (build.Single path main place former)) at_site on reached by path b,
      main_then v w (line.Build (build.Single path main place former)) at_site on reached path main given m,
      h.placed.0,
      single_entry v w by.key by.value name h,
    )

    pub edit_none : (x : View) → HasEdit w place former None x → HasBuiltSingle v place former None x
    edit_none x e q c other = stopped_then v w x at_site reached (e path main h.made (depth_at place) on_w)

    module _ (x : View) (sound_x : IsSound n x) (e : Edit) (g : HasEdit w place former (Some e) x) (flag : ℕ) (flag_is : flag ≡ flag_of by.hash by.depth) where
      abbrev got : HasEditAt w path main (former_at place former) (Some e) x
      got = g path main h.made (depth_at place) on_w

      on_main : HasReached v (line.Build (build.Main path main got.0 former)) x
      on_main =
          reached_both v w x at_site (line.Build (build.Main path main got.0 former)) reached
          (subst (λ f. HasReached w (line.Build (build.Main path main got.0 f)) x) former_is got.1)

      pub site_changing : IsChanging x given.link.main given.header.shape flag e
      site_changing = changing n v x sound_x (line.Build (build.Single path main place former)) on by given path main b m got.0 former on_main e got.2 flag flag_is

      pub site_built : drops_of e ≡ drops_at place → (result : Option ℕ) (after : View) → HasBuilt x result after → HasBuiltSingle v place former result after
      site_built told result after built q c other =
          let same = one_place v path q main c place former on other in
          subst (λ (z : List Ref × Ref). HasBuiltUp v z.0 z.1 place former result after) (both path q main c same.0 same.1)
          (built_up n v x sound_x (line.Build (build.Single path main place former)) on by given path main b m got.0 former on_main e got.2 flag flag_is got.3 place told result after built)
        where
          both : (p q : List Ref) (r s : Ref) → p ≡ q → r ≡ s → ◌≡◌ {A = List Ref × Ref} (p, r) (q, s)
          both p q r s e f = ap (λ (z : List Ref). (z, r)) e ∙ ap (λ (z : Ref). (q, z)) f
