-- The indirections and branches between two singles and the main node where one of them stood.
use Rattle.std.proofs.Common.{◌≡◌, ◌<◌, ◌≤◌, ◌+◌, ◌-◌, ◌∷◌, ℕ, Bool, false, List, [], Some, None, refl, sym, ap, ap₂, subst, ◌∙◌, if◌then◌else◌, eq-eqb, ne_eqb, arith}
use Rattle.trie_words.specs.declared.headers.Previous.TheVariants as previous
use Rattle.machine_model.specs.Beneath.slot_arena.specs.declared.refs.Ref.{Ref}
use Rattle.machine_model.specs.Beneath.slot_arena.specs.declared.nodes.Node.TheVariants.{Indirection, Branch}
use Rattle.machine_model.specs.Beneath.slot_arena.specs.Heaps.{no_ref, entries_from}
use Rattle.machine_model.specs.Beneath.ctrie_base.specs.Hashes.{hash_of}
use Rattle.machine_model.specs.declared.actions.Action.TheVariants as act
use Rattle.machine_model.specs.declared.building.BuildLine.TheVariants as build
use Rattle.machine_model.specs.declared.building.Change.TheVariants as change
use Rattle.machine_model.specs.declared.lines.Line.{Line}
use Rattle.machine_model.specs.declared.lines.Line.TheVariants as line
use Rattle.machine_model.specs.declared.operations.Operation.{Operation}
use Rattle.machine_model.specs.Building.{after_link}
use Rattle.machine_model.specs.Operations.{line_action}
use Rattle.machine_model.specs.Paths.{depth_of}
use Rattle.nodes.specs.Builders.{rung}
use Rattle.nodes.specs.Levels.{flag_of}
use Rattle.lock_free.specs.declared.building.Builder.{Builder}
use Rattle.lock_free.specs.declared.rules.View.{View}
use Rattle.lock_free.specs.Accounts.{place_of}
use Rattle.lock_free.specs.Becoming.{HasNew}
use Rattle.lock_free.specs.BuildingUp.{HasLed, HasLinked, HasReached, HasStopped, IsAtLink, IsBuilder, MakesRung}
use Rattle.lock_free.specs.Holding.{IsOn}
use Rattle.lock_free.specs.Loading.{now, IsAt}
use Rattle.lock_free.specs.Making.{over_of, IsOverBy}
use Rattle.lock_free.specs.Nodes.{is_single}
use Rattle.lock_free.specs.Owning.{IsBuilding}
use Rattle.lock_free.specs.Passing.{IsPlaced}
use Rattle.lock_free.specs.SeenEntries.{entry_to, HasMadeNext, IsOver}
use Rattle.lock_free.proofs.KeyMoves.{hash_is}
use Rattle.lock_free.proofs.OnLines.{line_is}
use Rattle.lock_free.proofs.Reachings.{reached_both, reached_on, reached_new, stopped_here, stopped_then, builder_then}
use Rattle.lock_free.specs.Owing.{HoldsRaised}
use Rattle.lock_free.proofs.RaisedLines.{raised_link, raised_rung}

-- what isn't swapped in itself is decided
pub over_none : (v : View) (l : Line) → IsOn v l → over_of l ≡ None → IsOver v previous.None
over_none v l at none o r = subst (λ x. IsOverBy v.account x previous.None) (sym (ap over_of (line_is v l at o r) ∙ none)) refl

-- the entry of an indirection that was made
pub link_entry : (v w : View) (generation : ℕ) (main : Ref) (name : ℕ) (h : HasNew v (Indirection generation main) name w) → entry_to w h.made ≡ record { slot = name; own = false; is_single = false }
link_entry v w generation main name h =
    ap (λ b. record { slot = place_of w.account h.made; own = false; is_single = b }) (ap is_single h.node_is) ∙ ap (λ k. record { slot = k; own = false; is_single = false }) h.placed.1

-- ---- an indirection

module _ (v : View) (by : Builder) (path : List Ref) (main : Ref) (position : ℕ) (below : Ref) (depth : ℕ) (at : IsOn v (line.Build (build.Link path main position below depth)))
    (b : IsBuilder v by path) where
  pub link_at : IsAt v (act.Make (Indirection by.start below))
  link_at = record {
    operation = record at.0 { is_marked = at.1.0 };
    runs = at.1.1;
    acts = ap (line_action (now v) (record at.0 { is_marked = at.1.0 })) at.2 ∙ ap (λ g. act.Make (Indirection g below)) (b.calls at.0 at.1).2;
  }

  -- its main node is the operation's own
  pub link_building : IsBuilding link_at.operation.line below
  unfolding link_at
  link_building = subst (λ l. IsBuilding l below) (sym at.2) refl

  pub no_link : (w : View) → HasMadeNext v None w → HasStopped v w
  no_link w made = stopped_here v w (build.Link path main position below depth) at (made (Indirection by.start below) link_at)

  module _ (w : View) (name : ℕ) (made : HasMadeNext v (Some name) w) where
    pub link_new : HasNew v (Indirection by.start below) name w
    link_new = made (Indirection by.start below) link_at

    pub link_reached : HasReached v (after_link path main position depth link_new.made) w
    link_reached =
        reached_new v w (line.Build (build.Link path main position below depth)) at (Indirection by.start below) name link_new (after_link path main position depth link_new.made) (λ o r. refl)

-- ---- a branch above it

module _ (v : View) (by : Builder) (path : List Ref) (main : Ref) (position : ℕ) (below : Ref) (depth : ℕ) (at : IsOn v (line.Build (build.Rung path main position below depth)))
    (b : IsBuilder v by path) where
  pub rung_making : IsAt v (act.Make (rung by.hash depth below))
  rung_making =
      let o : Operation = record at.0 { is_marked = at.1.0 } in
      record {
        operation = o;
        runs = at.1.1;
        acts = ap (line_action (now v) o) at.2
            ∙ ap (λ k. act.Make (rung k depth below)) (ap₂ hash_of (hash_is v.sizes v.account) (b.calls at.0 at.1).0 ∙ sym b.hash);
      }

  pub rung_ready : (flag link : ℕ) → flag ≡ flag_of by.hash depth → entry_to v below ≡ record { slot = link; own = false; is_single = false } → MakesRung v flag link
  rung_ready flag link is entry = record {
    below = below;
    making = subst (λ f. IsAt v (act.Make (Branch f (entries_from (below ∷ []))))) (sym is) rung_making;
    entry_to = entry;
    over = over_none v (line.Build (build.Rung path main position below depth)) at refl;
  }

  pub no_rung : (w : View) → HasMadeNext v None w → HasStopped v w
  no_rung w made = stopped_here v w (build.Rung path main position below depth) at (made (rung by.hash depth below) rung_making)

  module _ (w : View) (name : ℕ) (made : HasMadeNext v (Some name) w) where
    pub rung_new : HasNew v (rung by.hash depth below) name w
    rung_new = made (rung by.hash depth below) rung_making

    pub rung_reached : HasReached v (line.Build (build.Link path main position rung_new.made depth)) w
    rung_reached =
        reached_new v w (line.Build (build.Rung path main position below depth)) at (rung by.hash depth below) name rung_new
        (line.Build (build.Link path main position rung_new.made depth)) (λ o r. refl)

-- ---- level after level

-- it has made the indirection of this depth, in this slot
pub record IsLeading (before : View) (by : Builder) (path : List Ref) (main : Ref) (position depth name : ℕ) (v : View) : Type 0 where
  pub link : Ref
  pub entry : entry_to v link ≡ record { slot = name; own = false; is_single = false }
  pub reached : HasReached before (after_link path main position depth link) v

abbrev pub Leads : View → Builder → ℕ → ℕ → ℕ → View → Type 0
Leads before by depth n name v = (path : List Ref) (main below : Ref) (position : ℕ) → IsOn before (line.Build (build.Link path main position below depth)) → IsBuilder before by path →
    IsLeading before by path main position (depth + by.depth + 1 - n) name v

-- an operation is on one such line
parts_in : Line → List Ref × Ref × ℕ × Ref
parts_in (line.Build (build.Link path main position below depth)) = (path, main, position, below)
parts_in l = ([], no_ref, 0, no_ref)

module _ (size : ℕ) (before : View) (by : Builder) (depth name0 : ℕ) (at : IsAtLink before by depth name0) where
  abbrev path : List Ref
  path = at.0

  abbrev main : Ref
  main = at.1

  abbrev position : ℕ
  position = at.2

  abbrev below : Ref
  below = at.3

  abbrev on : IsOn before (line.Build (build.Link path main position below depth))
  on = at.4

  abbrev b : IsBuilder before by path
  b = at.5

  -- so what holds there holds wherever it is
  elsewhere : (P : List Ref → Ref → ℕ → Type 0) → P path main position → (q : List Ref) (m c : Ref) (k : ℕ) → IsOn before (line.Build (build.Link q m k c depth)) → P q m k
  unfolding parts_in
  elsewhere P h q m c k other =
      let same = ap parts_in (sym (line_is before (line.Build (build.Link path main position below depth)) on other.0 other.1) ∙ other.2) in
      subst (λ (x : List Ref × Ref × ℕ × Ref). P x.0 x.1 x.2) same h

  pub first_none : (w : View) → HasMadeNext before None w → HasLinked before depth None w
  first_none w made q m c k other = no_link before by path main position below depth on b w made

  -- the first one
  pub first_leads : (w : View) (name : ℕ) → HasMadeNext before (Some name) w → Leads before by depth (by.depth + 1) name w
  first_leads w name made q m c k other builder =
      elsewhere (λ x y z. IsLeading before by x y z (depth + by.depth + 1 - (by.depth + 1)) name w) (record {
        link = (link_new before by path main position below depth on b w name made).made;
        entry = link_entry before w by.start below name (link_new before by path main position below depth on b w name made);
        reached = subst (λ d. HasReached before (after_link path main position d (link_new before by path main position below depth on b w name made).made) w) (omega arith)
            (link_reached before by path main position below depth on b w name made);
      }) q m c k other

  module _ (v : View) (n name : ℕ) (l : Leads before by depth n name v) (low : by.depth + 1 ≤ n) where
    abbrev d : ℕ
    d = depth + by.depth + 1 - n

    abbrev its : IsLeading before by path main position d name v
    its = l path main below position on b

    -- the last one goes into the main node
    pub last_led : n ≡ depth → HasLinked before depth (Some name) v
    last_led is q m c k other =
        elsewhere (λ x y z. HasLed before x y z name v) (record {
          top = its.link;
          entry = its.entry;
          reached = subst (λ z. HasReached before z v)
              (ap (λ (t : Bool). if t then line.Build (build.Main path main (change.Update position its.link) None) else line.Build (build.Rung path main position its.link (d - 1)))
              (eq-eqb d (depth_of path + 1) (let deep = b.depth in omega (arith, is, deep)))) its.reached;
        }) q m c k other

    -- any other gets a branch
    module _ (more : n < depth) where
      on_rung : HasReached before (line.Build (build.Rung path main position its.link (depth + by.depth - n))) v
      on_rung =
          subst (λ z. HasReached before z v)
          (ap (λ (t : Bool). if t then line.Build (build.Main path main (change.Update position its.link) None) else line.Build (build.Rung path main position its.link (d - 1)))
          (ne_eqb d (depth_of path + 1) (λ e. let deep = b.depth in absurd (omega (arith, more, deep, e))))
          ∙ ap (λ k. line.Build (build.Rung path main position its.link k)) (omega (arith, more))) its.reached

      there : IsOn v (line.Build (build.Rung path main position its.link (depth + by.depth - n)))
      there = reached_on before v (line.Build (build.Link path main position below depth)) (line.Build (build.Rung path main position its.link (depth + by.depth - n))) on on_rung

      builder : IsBuilder v by path
      builder = builder_then before v (line.Build (build.Link path main position below depth)) (line.Build (build.Rung path main position its.link (depth + by.depth - n))) on on_rung by path b

      pub makes_rung : (flag : ℕ) → flag ≡ flag_of by.hash (depth + by.depth - n) → MakesRung v flag name
      makes_rung flag is = rung_ready v by path main position its.link (depth + by.depth - n) there builder flag name is its.entry

      pub rung_raised : HoldsRaised v
      rung_raised = raised_rung v path main position its.link (depth + by.depth - n) there

      pub rung_none : (w : View) → HasMadeNext v None w → HasLinked before depth None w
      rung_none w made q m c k other =
          stopped_then before v w (line.Build (build.Rung path main position its.link (depth + by.depth - n))) on_rung
          (no_rung v by path main position its.link (depth + by.depth - n) there builder w made)

      -- and an indirection over it
      module _ (w : View) (rung_name : ℕ) (made : HasMadeNext v (Some rung_name) w) where
        abbrev new : HasNew v (rung by.hash (depth + by.depth - n) its.link) rung_name w
        new = rung_new v by path main position its.link (depth + by.depth - n) there builder w rung_name made

        abbrev at_link : Line
        at_link = line.Build (build.Link path main position new.made (depth + by.depth - n))

        on_link : HasReached before at_link w
        on_link = reached_both before v w (line.Build (build.Rung path main position its.link (depth + by.depth - n))) at_link on_rung
            (rung_reached v by path main position its.link (depth + by.depth - n) there builder w rung_name made)

        there_w : IsOn w at_link
        there_w = reached_on before w (line.Build (build.Link path main position below depth)) at_link on on_link

        builder_w : IsBuilder w by path
        builder_w = builder_then before w (line.Build (build.Link path main position below depth)) at_link on on_link by path b

        pub next_link : (r : Ref) × (p : IsAt w (act.Make (Indirection by.start r))) × IsPlaced w r rung_name × IsBuilding p.operation.line r
        next_link = (
          new.made,
          link_at w by path main position new.made (depth + by.depth - n) there_w builder_w,
          new.placed,
          link_building w by path main position new.made (depth + by.depth - n) there_w builder_w,
        )

        pub link_raised : HoldsRaised w
        link_raised = raised_link w path main position new.made (depth + by.depth - n) there_w

        pub next_none : (x : View) → HasMadeNext w None x → HasLinked before depth None x
        next_none x none q m c k other =
            stopped_then before w x at_link on_link (no_link w by path main position new.made (depth + by.depth - n) there_w builder_w x none)

        pub next_leads : (x : View) (name2 : ℕ) → HasMadeNext w (Some name2) x → Leads before by depth (n + 1) name2 x
        next_leads x name2 next q m c k other b2 =
            elsewhere (λ y z p. IsLeading before by y z p (depth + by.depth + 1 - (n + 1)) name2 x) (record {
              link = (link_new w by path main position new.made (depth + by.depth - n) there_w builder_w x name2 next).made;
              entry = link_entry w x by.start new.made name2 (link_new w by path main position new.made (depth + by.depth - n) there_w builder_w x name2 next);
              reached =
                  subst (λ e. HasReached before (after_link path main position e (link_new w by path main position new.made (depth + by.depth - n) there_w builder_w x name2 next).made)
                  x) (omega arith)
                  (reached_both before w x at_link (after_link path main position (depth + by.depth - n)
                  (link_new w by path main position new.made (depth + by.depth - n) there_w builder_w x name2 next).made)
                  on_link (link_reached w by path main position new.made (depth + by.depth - n) there_w builder_w x name2 next));
            }) q m c k other
