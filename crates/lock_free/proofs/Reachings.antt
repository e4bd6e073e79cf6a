-- BUILD comes from line to line, and has made more.
use Rattle.std.proofs.Common.{◌≡◌, ◌∷◌, ◌++◌, ℕ, List, [], refl, sym, ap, subst, ◌∙◌, append_assoc, append-nil}
use Rattle.machine_model.specs.Beneath.slot_arena.specs.declared.refs.Ref.{Ref}
use Rattle.machine_model.specs.Beneath.slot_arena.specs.declared.nodes.Node.{Node}
use Rattle.machine_model.specs.Beneath.ctrie_base.specs.Hashes.{hash_of}
use Rattle.machine_model.specs.declared.building.BuildLine.{BuildLine}
use Rattle.machine_model.specs.declared.lines.Line.{Line}
use Rattle.machine_model.specs.declared.lines.Line.TheVariants as line
use Rattle.machine_model.specs.declared.operations.Operation.{Operation}
use Rattle.machine_model.specs.Calls.{handle_of, key_of, value_of}
use Rattle.machine_model.specs.Paths.{current, start_of}
use Rattle.nodes.specs.Levels.{flag_of}
use Rattle.lock_free.specs.declared.building.Builder.{Builder}
use Rattle.lock_free.specs.declared.reading.Given.{Given}
use Rattle.lock_free.specs.declared.reading.Way.{Way}
use Rattle.lock_free.specs.declared.rules.View.{View}
use Rattle.lock_free.specs.Becoming.{HasNew, line_made}
use Rattle.lock_free.specs.BuildingUp.{grown, HasReached, HasStopped, IsBuilder, IsMain}
use Rattle.lock_free.specs.GoingDown.{IsFlag}
use Rattle.lock_free.specs.Entries.{HasStayed}
use Rattle.lock_free.specs.Holding.{IsOn}
use Rattle.lock_free.specs.Loading.{now, Runs}
use Rattle.lock_free.specs.Passing.{IsOnWay}
use Rattle.lock_free.proofs.Comings.{runs_one}
use Rattle.lock_free.proofs.Followings.{follows_later, follows_both, link_on, main_on}
use Rattle.lock_free.proofs.Laters.{later_self}
use Rattle.lock_free.proofs.OnLines.{line_is}

pub reached_both : (u v w : View) (l m : Line) → HasReached u l v → HasReached v m w → HasReached u m w
reached_both u v w l m p q = record {
  more = p.more ++ q.more;
  become = record {
    follows = follows_both u v w p.become.follows q.become.follows;
    comes = λ o r. subst (λ ps. Runs w (record o { private = ps; line = m })) (append_assoc o.private p.more q.more) (q.become.comes (grown p.more l o) (p.become.comes o r));
  };
}

pub reached_on : (v w : View) (x l : Line) → IsOn v x → HasReached v l w → IsOn w l
reached_on v w x l at h = (grown h.more l at.0, h.become.comes at.0 at.1, refl)

pub reached_new : (v w : View) (l : Line) → IsOn v l → (node : Node) (name : ℕ) (h : HasNew v node name w)
    (next : Line) → ((o : Operation) → Runs v o → line_made (now v) o l h.made ≡ next) → HasReached
    v next w
reached_new v w l at node name h next is = record {
  more = h.made ∷ [];
  become = record {
    follows = h.become.follows;
    comes = λ o r. subst (λ x. Runs w (record o { private = o.private ++ h.made ∷ []; line = x })) (ap (λ y. line_made (now v) o y h.made) (line_is v l at o r) ∙ is o r) (h.become.comes o r);
  };
}

pub reached_stayed : (v w : View) (l : Line) → IsOn v l → HasStayed v w → HasReached v l w
reached_stayed v w l at s = record {
  more = [];
  become = record {
    follows = follows_later v w s.later;
    comes = λ o r. subst (λ ps. Runs w (record o { private = ps; line = l })) (sym (append-nil o.private)) (subst (λ x. Runs w (record o { line = x })) (line_is v l at o r) (s.comes o r));
  };
}

pub stopped_here : (v w : View) (l : BuildLine) → IsOn v (line.Build l) → w ≡ v → HasStopped v w
stopped_here v w l at is = (l, reached_stayed v w (line.Build l) at (subst (HasStayed v) (sym is) (record { later = later_self v; comes = λ o r. r })))

pub stopped_then : (u v w : View) (l : Line) → HasReached u l v → HasStopped v w → HasStopped u w
stopped_then u v w l p s = (s.0, reached_both u v w l (line.Build s.0) p s.1)

-- ---- what it goes by stays

module _ (v w : View) (x l : Line) (at : IsOn v x) (h : HasReached v l w) where
  pub builder_then : (by : Builder) (path : List Ref) → IsBuilder v by path → IsBuilder w by path
  builder_then by path b = record {
    calls = λ p r.
        (let same = runs_one w (grown h.more l at.0) p (h.become.comes at.0 at.1) r in
        let its = b.calls at.0 at.1 in (
          ap (λ (z : Operation). key_of z.call) (sym same) ∙ its.0,
          ap (λ (z : Operation). value_of z.call) (sym same) ∙ its.1,
          ap start_of (sym same) ∙ its.2,
        ));
    hashes = b.hashes ∙ ap (λ (z : View). z.sizes.hash) (sym h.become.follows.is);
    hash = b.hash ∙ ap (λ (z : View). hash_of z.sizes.hash by.key) (sym h.become.follows.is);
    depth = b.depth;
    short = b.short;
    low = b.low;
  }

  pub main_then : (path : List Ref) (main : Ref) (given : Given) → IsMain v path main given → IsMain w path main given
  main_then path main given m = record {
    link = link_on v w h.become.follows (current path) main given.link m.link;
    header = main_on v w h.become.follows main given.header m.header;
  }

  pub way_then : (way : Way) → IsOnWay v way → IsOnWay w way
  way_then way its p r =
      subst (λ (z : Operation). (z.access ≡ way.access) × (handle_of z.call ≡ way.handle)) (runs_one w (grown h.more l at.0) p (h.become.comes at.0 at.1) r) (its at.0 at.1)

-- the flag of its key
pub builder_flag : (v : View) (by : Builder) (path : List Ref) → IsBuilder v by path → (flag : ℕ) → flag ≡ flag_of by.hash by.depth → IsFlag v path flag
builder_flag v by path b flag is o r =
    is ∙ ap (λ k. flag_of k by.depth) (b.hash ∙ ap (hash_of v.sizes.hash) (sym (b.calls o r).0)) ∙ ap (flag_of (hash_of v.sizes.hash (key_of o.call))) b.depth
