-- The reference of a node that is made is the next one.
use Rattle.std.proofs.Common.{◌≡◌, ℕ, Bool, List, None, sym, ap, ◌∙◌, get_or, length}
use Rattle.machine_model.specs.Beneath.slot_arena.specs.declared.nodes.Node.{Node}
use Rattle.machine_model.specs.declared.operations.Operation.{Operation}
use Rattle.machine_model.specs.declared.steps.Step.TheVariants as step
use Rattle.machine_model.specs.Beneath.slot_arena.specs.Refs.{slot_of}
use Rattle.machine_model.specs.Machine.{AreBounds}
use Rattle.proof_waiting.specs.Beneath.proof_slots.specs.Unswept.{HasNoSweeps}
use Rattle.lock_free.specs.declared.accounts.Account.{Account}
use Rattle.lock_free.specs.declared.rules.View.{View}
use Rattle.lock_free.specs.Accounts.{bounds_for, state_of}
use Rattle.lock_free.specs.Making.{made_at, made_by, Makes}
use Rattle.lock_free.specs.Storing.{IsAdded}
use Rattle.lock_free.proofs.OneStep.Taking as taking

module _ (v : View) (class name : ℕ) (rest : List ℕ) (own : Bool) (node : Node) (account : Account) (bounds : AreBounds (bounds_for v.sizes account.steps)) (quiet : HasNoSweeps account.steps)
    (counted : length account.names ≡ (state_of v.sizes account).heap.births) (operation : Operation) (more : ℕ)
    (makes : Makes v.sizes account (made_at v.actor name own node account) v.actor operation node more) where
  number : slot_of (taking.made v.sizes account.steps bounds quiet) ≡ length account.names
  number = taking.made_slot v.sizes account.steps bounds quiet ∙ sym counted

  pub added : IsAdded v account node (made_by v class name rest own node account)
  added = record {
    made = taking.made v.sizes account.steps bounds quiet;
    next = taking.made_next v.sizes account.steps bounds quiet (step.Go v.actor);
    number = number;
    slot = makes.made;
    used = ap (λ k. get_or (state_of v.sizes (made_at v.actor name own node account)).heap.slots k None) number ∙ makes.stands;
    node_is = makes.node_is;
    others = λ k apart. makes.nodes k (λ e. apart (e ∙ sym number));
  }
