-- The operations that run, with one event more, and what is tested of them.
use Rattle.std.proofs.Common.{◌≡◌, ℕ, List, [], ◌∷◌, ◌++◌, refl, Ok, Err, true, false, eqb}
use Rattle.std.specs.List.{list_any}
use Rattle.std.proofs.lemmas.List.Sums.{fold-append}
use Rattle.ctrie_base.specs.declared.refusals.Refusal.TheVariants.{BadLine}
use Rattle.history.specs.declared.events.Event.{Event}
use Rattle.history_text.specs.Words.{value_word, actor_word}
use Rattle.history_text.specs.Running.{running, with_event, idle_actor, running_id}

pub running_push : (es : List Event) (e : Event) → running (es ++ e ∷ []) ≡ with_event (running es) e
running_push es e = fold-append with_event [] es (e ∷ [])

pub busy_err : (es : List Event) (word : List ℕ) (actor : ℕ) → actor_word word ≡ Ok actor → list_any (λ one. eqb one.1 actor) (running es) ≡ true → idle_actor es word ≡ Err BadLine
busy_err es word actor h any = rw (h, any) refl

pub idle_ok : (es : List Event) (word : List ℕ) (actor : ℕ) → actor_word word ≡ Ok actor → list_any (λ one. eqb one.1 actor) (running es) ≡ false → idle_actor es word ≡ Ok actor
idle_ok es word actor h any = rw (h, any) refl

pub stopped_err : (es : List Event) (word : List ℕ) (id : ℕ) → value_word word ≡ Ok id → list_any (λ one. eqb one.0 id) (running es) ≡ false → running_id es word ≡ Err BadLine
stopped_err es word id h any = rw (h, any) refl

pub runs_ok : (es : List Event) (word : List ℕ) (id : ℕ) → value_word word ≡ Ok id → list_any (λ one. eqb one.0 id) (running es) ≡ true → running_id es word ≡ Ok id
runs_ok es word id h any = rw (h, any) refl
