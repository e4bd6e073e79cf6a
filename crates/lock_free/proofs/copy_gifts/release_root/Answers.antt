use Rattle.std.proofs.Common.{◌≡◌, ◌∷◌, [], ℕ, refl, sym, subst}
use Rattle.machine_model.specs.Beneath.slot_arena.specs.declared.refs.Ref.{Ref}
use Rattle.lock_free.specs.declared.copy_roots.CopyKind.{CopyKind}
use Rattle.lock_free.specs.declared.copy_roots.CopyKind.TheVariants as kind
use Rattle.lock_free.specs.declared.reclaiming.Kind.TheVariants as kinds
use Rattle.lock_free.specs.declared.rules.View.{View}
use Rattle.lock_free.specs.CopyGifts.{root_given, MayLetGo}
use Rattle.lock_free.specs.Counts.{without_one}
use Rattle.lock_free.specs.Places.{small_class}
use Rattle.lock_free.specs.Raising.{HasKept, HasReleasedAll, OwesOne}
use Rattle.lock_free.proofs.CopyGifts.{may_by, one_gone, one_some, owes_first}
use Rattle.lock_free.proofs.copy_gifts.release_root.Goals as goal

owes : (v : View) (which is : CopyKind) (root : ℕ) → which ≡ is → (k : Ref) → root_given is k ≡ k ∷ [] → MayLetGo v k kinds.Indirection small_class root (root_given which k) →
    OwesOne v k kinds.Indirection small_class root
owes v which is root e k one m =
    owes_first v k kinds.Indirection small_class root (k ∷ [])
    (subst (MayLetGo v k kinds.Indirection small_class root) one (may_by v k kinds.Indirection small_class root root_given which is e m))
    (one_some v k kinds.Indirection small_class root)

gone : (v : View) (which is : CopyKind) (root : ℕ) → (e : which ≡ is) → (k : Ref) → (one : root_given is k ≡ k ∷ []) → (m : MayLetGo v k kinds.Indirection small_class root (root_given which k)) →
    (z : View) → HasKept v (without_one k v.owed) z → HasReleasedAll v (root_given which k) z
gone v which is root e k one m z kept =
    subst (λ w. HasReleasedAll v (root_given w k) z) (sym e)
    (subst (λ ks. HasReleasedAll v ks z) (sym one) (one_gone v k kinds.Indirection small_class root (owes v which is root e k one m).0.0 z kept))

pub release-requires-clause-owed : goal.release-requires-clause-owed
release-requires-clause-owed c = (c.requires.given.0, owes c.args.actor.now.me.0 c.args.which kind.Clear c.args.root c.in-Clear.is c.requires.given.0 refl c.requires.given.1)

pub release-requires-in-Snapshot-clause-owed : goal.release-requires-in-Snapshot-clause-owed
release-requires-in-Snapshot-clause-owed c = (
  c.requires.given.0,
  owes c.args.actor.now.me.0 c.args.which kind.Snapshot c.args.root c.in-Snapshot.is c.requires.given.0 refl c.requires.given.1,
)

pub returns-in-Clear-clause-released : goal.returns-in-Clear-clause-released
returns-in-Clear-clause-released c k m =
    gone c.args.actor.now.me.0 c.args.which kind.Clear c.args.root c.in-Clear.is k refl m c.release.new.actor.me.0
    (c.release.ensures.released k (owes c.args.actor.now.me.0 c.args.which kind.Clear c.args.root c.in-Clear.is k refl m))

pub returns-in-Snapshot-clause-released : goal.returns-in-Snapshot-clause-released
returns-in-Snapshot-clause-released c k m =
    gone c.args.actor.now.me.0 c.args.which kind.Snapshot c.args.root c.in-Snapshot.is k refl m c.release-in-Snapshot.new.actor.me.0
    (c.release-in-Snapshot.ensures.released k (owes c.args.actor.now.me.0 c.args.which kind.Snapshot c.args.root c.in-Snapshot.is k refl m))
