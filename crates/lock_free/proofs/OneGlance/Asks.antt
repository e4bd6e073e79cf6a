-- A get whose seat glances asks for the root of its handle.
use Rattle.history.specs.declared.calls.Call.TheVariants.{Get}
use Rattle.std.proofs.Common.{◌≡◌, ℕ, None, sym, ap, subst, ◌∙◌}
use Rattle.machine_model.specs.declared.actions.Action.TheVariants as act
use Rattle.machine_model.specs.declared.operations.Operation.{Operation}
use Rattle.machine_model.specs.declared.roots.RootLine.TheVariants as root
use Rattle.machine_model.specs.Calls.{handle_of}
use Rattle.machine_model.specs.GivingUp.{given_up}
use Rattle.machine_model.specs.Lines.{new_try}
use Rattle.machine_model.specs.Operations.{line_after}
use Rattle.machine_model.specs.States.{word_at}
use Rattle.machine_model.specs.Swapping.{root_after}
use Rattle.lock_free.specs.declared.asking.Named.{Named}
use Rattle.lock_free.specs.declared.asking.Named.TheVariants as named
use Rattle.lock_free.specs.declared.rules.View.{View}
use Rattle.lock_free.specs.GlanceGets.{IsGetSince}
use Rattle.lock_free.specs.Holding.{IsOn}
use Rattle.lock_free.specs.Loading.{HasGone, IsSound, now, seen}
use Rattle.lock_free.specs.Places.{words_of}
use Rattle.lock_free.specs.Rooting.{rooting_of, IsAtRoot}
use Rattle.lock_free.specs.RootWords.{AsksAt, LoadedAs}
use Rattle.lock_free.specs.Shadows.{IsHidden}
use Rattle.lock_free.proofs.Comings.{runs_one}
use Rattle.lock_free.proofs.OneGlance.Lines.{root_may}
use Rattle.lock_free.proofs.OneGlance.Loads.{MayThen, StepsOn, hidden_since, seen_on, went_keeps}
use Rattle.lock_free.proofs.Looking.{went}

module _ (words : ℕ) (x : View) (sound : IsSound words x) (plain : x.glance ≡ None) (handle word found : ℕ) (y : View) (asks : AsksAt x handle) (on : IsOn x new_try) where
  module _ (h : HasGone x word found y) (then : IsSound words y) where
    may : MayThen x y (went x 0 word found y h) words then act.ReadRoot tt asks.acts
    may handle key o runs its same =
        let st = now (seen x (went x 0 word found y h).account) in
        let on_line : o.line ≡ new_try =
        ap (λ (z : Operation). z.line) same ∙ ap (λ (z : Operation). z.line) (runs_one x asks.acts.operation on.0 (asks.acts.operation.is_marked, asks.acts.runs) on.1) ∙ on.2 in
        ap (λ l. given_up (Get handle key) (line_after st o l)) on_line
        ∙ root_may handle key st o its (root_after st.heap o.access (word_at st (handle_of o.call)) root.Read)

    root_on : StepsOn words (λ v w. HasGone v word found w) x y
    root_on = record {
      sizes = ap (λ (z : View). z.sizes) h.1;
      plain = ap (λ (z : View). z.glance) h.1 ∙ plain;
      keeps = went_keeps x y (went x 0 word found y h) words then act.ReadRoot tt asks.acts may;
      told = h;
    }

  pub asked_on : (n : Named) → LoadedAs n x word found y → IsSound (words_of x.sizes) y → StepsOn words (λ v w. LoadedAs n v word found w) x y
  asked_on (named.Root slot) h s = root_on h (subst (λ k. IsSound k y) (sym sound.size) s)
  asked_on (named.Offer slot) h s = seen_on words x sound plain word found y h s
  asked_on named.Nothing h s = seen_on words x sound plain word found y h s

  same_pin : (n : Named) → LoadedAs n x word found y → y.pin ≡ x.pin
  same_pin (named.Root slot) h = ap (λ (z : View). z.pin) h.1
  same_pin (named.Offer slot) h = ap (λ (z : View). z.pin) h.1
  same_pin named.Nothing h = ap (λ (z : View). z.pin) h.1

  pub asked_hides : IsHidden x → (before : View) (of key : ℕ) → IsGetSince words before of key x → (n : Named) → LoadedAs n x word found y → IsSound (words_of x.sizes) y →
      (y.sizes ≡ x.sizes) × IsHidden y
  asked_hides hidden before of key it n h s =
      let on = asked_on n h s in (on.sizes, hidden_since x hidden y on.sizes (same_pin n h) on.plain words before of key (on.keeps before of key it))

-- it is to ask for the root
pub at_root : (x : View) → IsOn x new_try → IsAtRoot x
at_root x on = (on.0, on.1, ap rooting_of on.2)
