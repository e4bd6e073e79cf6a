-- An operation that stays where it was, whatever its seat has seen or retired.
use Rattle.std.proofs.Common.{ℕ, List, [], Option, Some, None, append-nil, refl, sym, subst}
use Rattle.machine_model.specs.Beneath.slot_arena.specs.declared.refs.Ref.{Ref}
use Rattle.machine_model.specs.declared.lines.Line.{Line}
use Rattle.lock_free.specs.declared.rules.View.{View}
use Rattle.lock_free.specs.Becoming.{HasRested}
use Rattle.lock_free.specs.BuildingUp.{HasReached}
use Rattle.lock_free.specs.Changing.{HasBuilt}
use Rattle.lock_free.specs.Entries.{HasStayed}
use Rattle.lock_free.specs.Holding.{IsOn}
use Rattle.lock_free.specs.Loading.{Runs}
use Rattle.lock_free.specs.Raising.{HasKept}
use Rattle.lock_free.specs.SeenEntries.{HasMadeNext}
use Rattle.lock_free.proofs.Followings.{follows_both, follows_later, follows_self}
use Rattle.lock_free.proofs.OnLines.{line_is}

pub rested_self : (v : View) → HasRested v v
rested_self v = record { follows = follows_self v; comes = λ o r. r }

pub rested_both : (u v w : View) → HasRested u v → HasRested v w → HasRested u w
rested_both u v w p q = record { follows = follows_both u v w p.follows q.follows; comes = λ o r. q.comes o (p.comes o r) }

pub rested_stayed : (v w : View) → HasStayed v w → HasRested v w
rested_stayed v w s = record { follows = follows_later v w s.later; comes = s.comes }

pub rested_kept : (v : View) (owed : List Ref) (w : View) → HasKept v owed w → HasRested v w
rested_kept v owed w h =
    let f = follows_self v in
    subst (HasRested v) (sym h.is) (record {
      follows = record { is = refl; places = f.places; owns = f.owns; nodes = f.nodes; goes_on = f.goes_on };
      comes = λ o r. r;
    })

pub reached_rested : (v w : View) (l : Line) → IsOn v l → HasRested v w → HasReached v l w
reached_rested v w l at s = record {
  more = [];
  become = record {
    follows = s.follows;
    comes = λ o r. subst (λ ps. Runs w (record o { private = ps; line = l })) (sym (append-nil o.private)) (subst (λ x. Runs w (record o { line = x })) (line_is v l at o r) (s.comes o r));
  };
}

-- what is made at once is built
pub built_at_once : (v : View) (result : Option ℕ) (after : View) → HasMadeNext v result after → HasBuilt v result after
built_at_once v None after made node p = subst (HasRested v) (sym (made node p)) (rested_self v)
built_at_once v (Some name) after made node p = made node p
