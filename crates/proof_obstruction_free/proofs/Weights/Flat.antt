-- The flat weight, which counts offers alone, is such a weight: READ costs 7 with it.
use Rattle.std.proofs.Common.{◌≡◌, ℕ, suc, ◌+◌, ◌≤◌, sym, ap, ◌∙◌, subst, arith}
use Rattle.std.proofs.lemmas.Option.{same_Some}
use Rattle.proof_obstruction_free.specs.Vocabulary.{Action, Descriptor, Offer, action_of, line_action}
use Rattle.proof_obstruction_free.specs.Beneath.machine_model.specs.declared.actions.Action.TheVariants as act
use Rattle.proof_obstruction_free.specs.Alone.{Lone, word, offer_weight}
use Rattle.proof_obstruction_free.specs.Machines.{ReadsFirst}
use Rattle.proof_obstruction_free.specs.Stepping.{LeavesWords}
use Rattle.proof_obstruction_free.specs.Weighing.{Acts, Weighing}
use Rattle.proof_obstruction_free.proofs.Ends.StandsAt.{StandsSome, stands_at, goes_on}
use Rattle.proof_obstruction_free.proofs.Step.Keeps.{words}
use Rattle.proof_obstruction_free.proofs.Weights.Offers.{flat, is_weight, taken_back}
use Rattle.proof_obstruction_free.proofs.Read.First.{reads_first}
use Rattle.proof_obstruction_free.proofs.Step.Within.{weight_of_still}

module _ (a : Lone) where
  -- the line on which it stands does this
  pub line_acts : (t : ℕ) (action : Action) (acts : Acts a t action) → (some : StandsSome a t) → line_action (a.states t) some.stands.operation some.line ≡ action
  line_acts t action acts some =
      let same : some.stands.operation ≡ acts.operation = same_Some _ _ (sym some.stands.runs ∙ acts.runs) in
      ap (line_action (a.states t) some.stands.operation) (sym some.stands.line) ∙ ap (action_of (a.states t)) same ∙ acts.is

  standing : (t : ℕ) (action : Action) → Acts a t action → StandsSome a t
  standing t action acts = let more = acts.more in stands_at a t acts.since (omega (arith, more))

  pub same_weight : (t : ℕ) (action : Action) → Acts a t action → LeavesWords action → flat a (suc t) ≤ flat a t
  same_weight t action acts leaves =
      let some = standing t action acts in
      let e = ap offer_weight (words a t some.generation some.line some.stands acts.more (goes_on a t some.generation some.line some.stands acts.more)
      (subst LeavesWords (sym (line_acts t action acts some)) leaves)) in
      omega (arith, e)

  pub aborts : (t : ℕ) (offer : Descriptor) → Acts a t (act.Abort offer) → word a t ≡ Offer offer → flat a (suc t) + 2 ≤ flat a t
  aborts t offer acts there =
      let some = standing t (act.Abort offer) acts in
      let gone = taken_back a t some.generation some.line some.stands acts.more (goes_on a t some.generation some.line some.stands acts.more) offer
      (line_acts t (act.Abort offer) acts some) there in
      let none = ap offer_weight gone.1 in
      let two = ap offer_weight there in
      omega (arith, none, two)

  pub flat_weighing : Weighing a (flat a) 0 0
  flat_weighing = record {
    quiet = weight_of_still a (flat a) (is_weight a);
    weighs = λ t i m q since until sees. omega arith;
    weighs_failed = λ t i m q since until sees. omega arith;
    abort = aborts;
    commit = λ t i m q told acts sees now. let less = same_weight t _ acts tt in omega (arith, less);
    fail = λ t i m q told acts sees now. let less = same_weight t _ acts tt in omega (arith, less);
    decided = λ t i m q told acts other. same_weight t _ acts tt;
    restore = λ t i m q acts sees now. let less = same_weight t _ acts tt in omega (arith, less);
    restored = λ t i m q acts other. same_weight t _ acts tt;
    publish = λ t i m fresh acts. let less = same_weight t _ acts tt in omega (arith, less);
    published = λ t i m fresh acts other. same_weight t _ acts tt;
  }

  pub flat_reads_first : ReadsFirst a (flat a) 7
  flat_reads_first = reads_first a (flat a) 0 0 7 flat_weighing (omega arith) (omega arith) (omega arith)
