use Rattle.std.proofs.Common.{◌≡◌, ◌∷◌, [], ℕ, ◌∙◌, ap, refl, sym, subst}
use Rattle.machine_model.specs.Beneath.slot_arena.specs.declared.refs.Ref.{Ref}
use Rattle.lock_free.specs.declared.copy_roots.CopyKind.{CopyKind}
use Rattle.lock_free.specs.declared.copy_roots.CopyKind.TheVariants as kind
use Rattle.lock_free.specs.declared.reclaiming.Kind.TheVariants as kinds
use Rattle.lock_free.specs.declared.rules.View.{View}
use Rattle.lock_free.specs.CopyGifts.{main_given, MayLetGo}
use Rattle.lock_free.specs.Counts.{without_one}
use Rattle.lock_free.specs.Raising.{HasKept, HasReleasedAll, OwesOne}
use Rattle.lock_free.specs.Stocks.{Stocked}
use Rattle.lock_free.proofs.CopyGifts.{both_gone, main_some, may_by, one_gone, owes_first, owes_second}
use Rattle.lock_free.proofs.copy_gifts.release_main.Goals as goal

owes : (v : View) (which : CopyKind) (class name : ℕ) (k : Ref) → MayLetGo v k kinds.Main class name (main_given which k) → OwesOne v k kinds.Main class name
owes v which class name k m = owes_first v k kinds.Main class name (main_given which k) m (main_some which k)

module _ (v : View) (which : CopyKind) (class name : ℕ) (k : Ref) (m : MayLetGo v k kinds.Main class name (main_given which k)) (w : View) (kept : HasKept v (without_one k v.owed) w) where
  -- of a snapshot it is let go of twice
  again : which ≡ kind.Snapshot → OwesOne w k kinds.Main class name
  again e = owes_second v k kinds.Main class name (owes v which class name k m).0.0 w kept (may_by v k kinds.Main class name main_given which kind.Snapshot e m)

  twice : which ≡ kind.Snapshot → (u : View) → HasKept w (without_one k w.owed) u → HasReleasedAll v (main_given which k) u
  twice e u more =
      subst (λ x. HasReleasedAll v (main_given x k) u) (sym e)
      (both_gone v k kinds.Main class name (owes v which class name k m).0.0 w kept (again e).0.0 u more)

  once : (is : CopyKind) → which ≡ is → main_given is k ≡ k ∷ [] → HasReleasedAll v (main_given which k) w
  once is e one =
      subst (λ x. HasReleasedAll v (main_given x k) w) (sym e)
      (subst (λ ks. HasReleasedAll v ks w) (sym one) (one_gone v k kinds.Main class name (owes v which class name k m).0.0 w kept))

pub release-requires-clause-owed : goal.release-requires-clause-owed
release-requires-clause-owed c = (c.requires.given.0, owes c.args.actor.now.me.0 c.args.which c.args.main.class c.args.main.slot c.requires.given.0 c.requires.given.1)

pub release-requires-in-Snapshot-clause-sizes : goal.release-requires-in-Snapshot-clause-sizes
release-requires-in-Snapshot-clause-sizes c =
    let k = c.requires.given.0 in
    let kept = c.release.ensures.released k (owes c.args.actor.now.me.0 c.args.which c.args.main.class c.args.main.slot k c.requires.given.1) in
    ap (λ (s : Stocked). s.sizes) c.release.ensures.same ∙ c.requires.sizes ∙ sym (ap (λ (x : View). x.sizes) kept.is)

pub release-requires-in-Snapshot-clause-owed : goal.release-requires-in-Snapshot-clause-owed
release-requires-in-Snapshot-clause-owed c =
    let k = c.requires.given.0 in
    let kept = c.release.ensures.released k (owes c.args.actor.now.me.0 c.args.which c.args.main.class c.args.main.slot k c.requires.given.1) in
    (k, again c.args.actor.now.me.0 c.args.which c.args.main.class c.args.main.slot k c.requires.given.1 c.release.new.actor.me.0 kept c.in-Snapshot.is)

pub returns-in-Snapshot-clause-released : goal.returns-in-Snapshot-clause-released
returns-in-Snapshot-clause-released c k m =
    let v = c.args.actor.now.me.0 in
    let w = c.release.new.actor.me.0 in
    let kept = c.release.ensures.released k (owes v c.args.which c.args.main.class c.args.main.slot k m) in
    twice v c.args.which c.args.main.class c.args.main.slot k m w kept c.in-Snapshot.is c.release-in-Snapshot.new.actor.me.0
    (c.release-in-Snapshot.ensures.released k (again v c.args.which c.args.main.class c.args.main.slot k m w kept c.in-Snapshot.is))

pub returns-in-Clear-clause-released : goal.returns-in-Clear-clause-released
returns-in-Clear-clause-released c k m =
    once c.args.actor.now.me.0 c.args.which c.args.main.class c.args.main.slot k m c.release.new.actor.me.0
    (c.release.ensures.released k (owes c.args.actor.now.me.0 c.args.which c.args.main.class c.args.main.slot k m)) kind.Clear c.in-Clear.is refl

pub returns-in-Freeze-clause-released : goal.returns-in-Freeze-clause-released
returns-in-Freeze-clause-released c k m =
    once c.args.actor.now.me.0 c.args.which c.args.main.class c.args.main.slot k m c.release.new.actor.me.0
    (c.release.ensures.released k (owes c.args.actor.now.me.0 c.args.which c.args.main.class c.args.main.slot k m)) kind.Freeze c.in-Freeze.is refl
