-- BUILD, with the new single made: what it makes of the main node.
use Rattle.std.proofs.Common.{◌≡◌, ℕ, true, false, List, [], Option, Some, None, refl, sym, ap, subst, ◌∙◌}
use Rattle.machine_model.specs.Beneath.slot_arena.specs.declared.refs.Ref.{Ref}
use Rattle.machine_model.specs.Beneath.slot_arena.specs.declared.nodes.Node.TheVariants.{Single}
use Rattle.machine_model.specs.Beneath.slot_arena.specs.Heaps.{no_ref, node_at}
use Rattle.machine_model.specs.declared.actions.Action.TheVariants as act
use Rattle.machine_model.specs.declared.building.BuildLine.TheVariants as build
use Rattle.machine_model.specs.declared.building.Change.{Change}
use Rattle.machine_model.specs.declared.building.Site.{Site}
use Rattle.machine_model.specs.declared.lines.Line.{Line}
use Rattle.machine_model.specs.declared.lines.Line.TheVariants as line
use Rattle.machine_model.specs.declared.lines.Purpose.TheVariants as purpose
use Rattle.machine_model.specs.Building.{changed}
use Rattle.machine_model.specs.Calls.{value_of}
use Rattle.machine_model.specs.Operations.{after_update, line_action}
use Rattle.machine_model.specs.Paths.{current, flag_in}
use Rattle.machine_model.specs.Swapping.{swapping}
use Rattle.nodes.specs.Levels.{flag_of}
use Rattle.proof_memory.specs.Wants.{is_branch_or_list}
use Rattle.lock_free.specs.declared.building.Builder.{Builder}
use Rattle.lock_free.specs.declared.changing.Edit.{Edit}
use Rattle.lock_free.specs.declared.reading.Given.{Given}
use Rattle.lock_free.specs.declared.rules.View.{View}
use Rattle.lock_free.specs.Accounts.{place_of}
use Rattle.lock_free.specs.Becoming.{HasNew}
use Rattle.lock_free.specs.Dropping.{AreDropped}
use Rattle.lock_free.proofs.DroppedEntries.{drops_new}
use Rattle.lock_free.specs.BuildingUp.{drops_at, HasBuiltUp, HasReached, HasStopped, IsBuilder, IsMain}
use Rattle.lock_free.specs.Changing.{drops_of, HasBuilt, HasBuiltNode, IsChange, IsChanging, IsNoTomb}
use Rattle.lock_free.specs.Holding.{IsOn}
use Rattle.lock_free.specs.Loading.{now, IsAt, IsSound}
use Rattle.lock_free.specs.Nodes.{is_single}
use Rattle.lock_free.specs.SeenEntries.{entry_to, HasMadeNext}
use Rattle.lock_free.proofs.AfterChanges.{after_changed, is_answered}
use Rattle.lock_free.proofs.ChangedMains.{its_node, at_make, kind, known_node}
use Rattle.lock_free.proofs.Followings.{main_node_on}
use Rattle.lock_free.proofs.OnLines.{line_is}
use Rattle.lock_free.proofs.Resting.{reached_rested}
use Rattle.lock_free.proofs.Reachings.{reached_both, reached_on, reached_new, stopped_here, builder_then, main_then, builder_flag}

-- the entry of a single that was made
pub single_entry : (v w : View) (key value name : ℕ) (h : HasNew v (Single key value) name w) → record { slot = name; own = false; is_single = true } ≡ entry_to w h.made
single_entry v w key value name h =
    ap (λ k. record { slot = k; own = false; is_single = true }) (sym h.placed.1) ∙ ap (λ b. record { slot = place_of w.account h.made; own = false; is_single = b }) (sym (ap is_single h.node_is))

-- an operation is on one line
parts_in : Line → List Ref × Ref
parts_in (line.Build (build.Single path main place former)) = (path, main)
parts_in l = ([], no_ref)

pub one_place : (v : View) (path other : List Ref) (main its : Ref) (place : Site) (former : Option ℕ) → IsOn v (line.Build (build.Single path main place former)) → IsOn v
    (line.Build (build.Single other its place former)) →
    (path ≡ other) × (main ≡ its)
unfolding parts_in
one_place v path other main its place former p q =
    let same = ap parts_in (sym (line_is v (line.Build (build.Single path main place former)) p q.0 q.1) ∙ q.2) in (ap (λ (x : List Ref × Ref). x.0) same, ap (λ (x : List Ref × Ref). x.1) same)

-- ---- its last line, after others

module _ (n : ℕ) (v w : View) (sound_w : IsSound n w) (x : Line) (at : IsOn v x) (by : Builder) (given : Given) (path : List Ref) (main : Ref) (b : IsBuilder v by path) (m : IsMain v path main given)
    (its : Change) (former : Option ℕ) (h : HasReached v (line.Build (build.Main path main its former)) w) (e : Edit) (is : IsChange w e its) (flag : ℕ)
    (flag_is : flag ≡ flag_of by.hash by.depth) where
  on_main : IsOn w (line.Build (build.Main path main its former))
  on_main = reached_on v w x (line.Build (build.Main path main its former)) at h

  abbrev m_then : IsMain w path main given
  m_then = main_then v w x (line.Build (build.Main path main its former)) at h path main given m

  pub changing : IsChanging w given.link.main given.header.shape flag e
  changing = record {
    path = path;
    main = main;
    its = its;
    former = former;
    on = on_main;
    names = m_then.link.is.names;
    header = given.header;
    known = m_then.header;
    is_shape = refl;
    is_flag = builder_flag w by path (builder_then v w x (line.Build (build.Main path main its former)) at h by path b) flag flag_is;
    is_change = is;
  }

  pub built_up : IsNoTomb e → (place : Site) → drops_of e ≡ drops_at place → (result : Option ℕ) (after : View) → HasBuilt w result after → HasBuiltUp v path main place former result after
  unfolding changing
  built_up kept place told result after built =
      from result (built (its_node n w sound_w given.link.main given.header.shape flag e changing) (at_make n w sound_w given.link.main given.header.shape flag e changing))
    where
      from : (r : Option ℕ) → HasBuiltNode w (its_node n w sound_w given.link.main given.header.shape flag e changing) r after → HasBuiltUp v path main place former r after
      from None s = (
        build.Main path main its former,
        reached_both v w after (line.Build (build.Main path main its former)) (line.Build (build.Main path main its former)) h
            (reached_rested w after (line.Build (build.Main path main its former)) on_main s),
      )
      from (Some name) new = record {
        fresh = new.made;
        placed = new.placed;
        its = its;
        flag = flag_in (now w) (record on_main.0 { is_marked = on_main.1.0 }) path;
        node_is = new.node_is ∙ ap (λ node. changed (flag_in (now w) (record on_main.0 { is_marked = on_main.1.0 }) path) node its)
            (sym (main_node_on w after new.become.follows main m_then.header.slot m_then.header.used m_then.header.is_main));
        reached = reached_both v w after (line.Build (build.Main path main its former)) (line.Swap (purpose.Update path former) (swapping (current path) main new.made)) h
            (reached_new w after (line.Build (build.Main path main its former)) on_main _ name new (line.Swap (purpose.Update path former) (swapping (current path) main new.made)) (λ o r. refl));
        drops = subst (AreDropped after main new.made) told
            (drops_new n w sound_w given.link.main given.header.shape flag e changing after new.made (flag_in (now w) (record on_main.0 { is_marked = on_main.1.0 }) path) new.node_is
            (main_node_on w after new.become.follows main m_then.header.slot m_then.header.used m_then.header.is_main));
        answers = λ o.
            ap (after_update o path former) new.node_is
            ∙ after_changed o path former (flag_in (now w) (record on_main.0 { is_marked = on_main.1.0 }) path) (node_at (now w).heap main) its
            (subst (λ x. is_branch_or_list x ≡ true) (sym (known_node n w sound_w given.link.main given.header.shape flag e changing))
            (kind n w sound_w given.link.main given.header.shape flag e changing))
            ∙ is_answered o path former w e its is kept;
      }

-- ---- its first line

module _ (v : View) (by : Builder) (path : List Ref) (main : Ref) (place : Site) (former : Option ℕ) (at : IsOn v (line.Build (build.Single path main place former))) (b : IsBuilder v by path) where
  pub single_at : IsAt v (act.Make (Single by.key by.value))
  single_at =
      let its = b.calls at.0 at.1 in
      record {
        operation = record at.0 { is_marked = at.1.0 };
        runs = at.1.1;
        acts = ap (line_action (now v) (record at.0 { is_marked = at.1.0 })) at.2 ∙ ap (λ k. act.Make (Single k (value_of at.0.call))) its.0 ∙ ap (λ x. act.Make (Single by.key x)) its.1;
      }

  pub none_made : (w : View) → HasMadeNext v None w → HasStopped v w
  none_made w made = stopped_here v w (build.Single path main place former) at (made (Single by.key by.value) single_at)

  module _ (w : View) (name : ℕ) (made : HasMadeNext v (Some name) w) where
    pub new : HasNew v (Single by.key by.value) name w
    new = made (Single by.key by.value) single_at
