-- A call that runs alone and changes root words leaves a core.
use Rattle.std.proofs.Common.{arith, ◌≡◌, ℕ, zero, suc, ◌+◌, ◌<◌, ◌||◌, Bool, true, false, is_some, List, [], ◌∷◌, get_or, map, length, Option, Some, None}
use Rattle.std.proofs.Common.{refl, sym, ap, ◌∙◌, subst}
use Rattle.std.specs.List.{count_by, list_any}
use Rattle.std.proofs.lemmas.Bool.{true≢false}
use Rattle.std.proofs.lemmas.Option.{none-some}
use Rattle.machine_core.specs.Vocabulary.{HashKind, Call, Reply, Ref, times, Root, outside, FitsKey, is_busy, is_taken, names, pin_of, State, operation_of, Course, Draft, after_call, held_with}
use Rattle.machine_core.specs.Vocabulary.{Comes, root_refs, Table, KeepsRecords, KnowsNumbers}
use Rattle.handle_table.specs.Numbers.{Numbers, is_taken_in}
use Rattle.slot_arena.proofs.Times.{times-append}
use Rattle.machine_model.specs.declared.steps.Step.TheVariants as step
use Rattle.machine_core.specs.Beneath.proof_operations.proofs.Numbers.{reserves}
use Rattle.machine_core.specs.declared.parts.Parts.{Parts}
use Rattle.machine_core.specs.Keeping.{AreSeated, IsCore, IsKept}
use Rattle.machine_core.specs.Rooting.{IsCourse}
use Rattle.machine_core.specs.Seen.{actors_seen, seen}
use Rattle.machine_core.specs.Straight.{CarriesBy}
use Rattle.machine_core.specs.Ties.{private_refs}
use Rattle.machine_core.proofs.Carried.{comes_run}

-- ---- nobody runs

none_of : {X : Type 0} (p : Option X → Bool) → p None ≡ false → (xs : List (Option X)) → list_any is_some xs ≡ false → list_any p xs ≡ false
none_of p none [] rest = refl
none_of p none (Some x ∷ xs) rest = absurd (true≢false rest)
none_of p none (None ∷ xs) rest = ap (λ b. b || list_any p xs) none ∙ none_of p none xs rest

none_there : {X : Type 0} (xs : List (Option X)) (i : ℕ) → list_any is_some xs ≡ false → get_or xs i None ≡ None
none_there [] i rest = refl
none_there (Some x ∷ xs) i rest = absurd (true≢false rest)
none_there (None ∷ xs) zero rest = refl
none_there (None ∷ xs) (suc i) rest = none_there xs i rest

pub none_runs : (state : State) (actor : ℕ) → is_busy state ≡ false → operation_of state actor ≡ None
none_runs state zero rest = refl
none_runs state (suc n) rest = none_there state.actors n rest

-- so a number is taken where it is open
taken_at_rest : (state : State) (handle : ℕ) → is_busy state ≡ false → is_taken state handle ≡ is_some (get_or state.roots handle None)
taken_at_rest state handle rest = ap (λ b. is_some (get_or state.roots handle None) || b) (none_of (reserves handle) refl state.actors rest) ∙ by (is_some (get_or state.roots handle None))
  where
    by : (b : Bool) → (b || false) ≡ b
    by true = refl
    by false = refl

-- what is known of numbers where other handles are open
pub known_at_rest : (numbers now : Numbers) (before after : State) → is_busy before ≡ false → after.actors ≡ before.actors → KnowsNumbers numbers before → now.running ≡ numbers.running →
    length now.taken ≡ length numbers.taken →
    ((handle : ℕ) → handle < 256 → is_taken_in numbers handle ≡ is_some (get_or before.roots handle None) → is_taken_in now handle ≡ is_some (get_or after.roots handle None)) →
    KnowsNumbers now after
known_at_rest numbers now before after rest actors h running many opens = record {
  many = (many ∙ h.many.0, ap length running ∙ h.many.1);
  taken = λ handle within. opens handle within (h.taken handle within ∙ taken_at_rest before handle rest) ∙ sym (taken_at_rest after handle (ap (list_any is_some) actors ∙ rest));
  running = λ handle. ap (λ rs. get_or rs handle 0) running ∙ h.running handle ∙ ap (count_by (names handle)) (sym actors);
}

-- ---- all is kept

-- the parts behind a call that changed root words
pub record IsRerooted (before after : Parts) : Type 0 where
  pub limits : after.limits ≡ before.limits
  pub actors : after.actors.items ≡ before.actors.items
  pub table : after.table ≡ record before.table { roots = after.table.roots }
  pub pins : after.heap.pins ≡ before.heap.pins
  pub numbers : KnowsNumbers after.handles (seen after)

actors_rerooted : (before after : Parts) → IsRerooted before after → (seen after).actors ≡ (seen before).actors
actors_rerooted before after a = ap (λ t. actors_seen t after.actors.items) a.table ∙ ap (actors_seen before.table) a.actors

kept_rerooted : (before after : Parts) → IsRerooted before after → is_busy (seen before) ≡ false →
    ((r : Ref) → times r after.heap.outside ≡ times r (root_refs after.table.roots) + times r (private_refs (seen after).actors)) → IsKept before → IsKept after
kept_rerooted before after a rest held h =
    let actors = actors_rerooted before after a in
    record {
      tied = record { held = held; pins = a.pins ∙ h.tied.pins ∙ ap (map pin_of) (sym actors) };
      seats = subst (λ (hashes : HashKind). AreSeated hashes after.actors.items) (sym (ap (λ l. l.hash) a.limits)) (subst (AreSeated before.limits.hash) (sym a.actors) h.seats);
      noted = record {
        marks = ap (λ (t : Table). length t.marks) a.table ∙ h.noted.marks ∙ ap (λ l. l.actors + 1) (sym a.limits);
        offerers = ap (λ (t : Table). length t.offerers) a.table ∙ h.noted.offerers;
        carried = ap (λ (t : Table). t.carried) a.table ∙ h.noted.carried;
      };
      offerers = λ handle offer stands actor operation found is.
          absurd (none-some operation (sym (none_runs (seen after) actor (ap (list_any is_some) actors ∙ rest)) ∙ found));
      numbers = a.numbers;
    }

-- ---- the call is carried out

-- the course of a call that leaves these roots and that next generation
abbrev course_to : State → List (Option Root) → ℕ → Draft → Course
course_to state roots generations draft = record { base = record state { roots = roots; generations = generations }; draft = draft }

-- what is counted behind a call of so many steps
pub record IsCounted (before after : Parts) (n : ℕ) : Type 0 where
  pub begun : after.begun ≡ before.begun + 1
  pub steps : after.steps ≡ before.steps + n

seen_course : (before after : Parts) (roots : List (Option Root)) (generations n : ℕ) (draft : Draft) → IsRerooted before after → IsCourse (course_to (seen before) roots generations draft) after →
    KeepsRecords before.heap after.heap → IsCounted before after n → seen after ≡ after_call (course_to (seen before) roots generations draft).base draft n
seen_course before after roots generations n draft a is records counted =
    rw (
      actors_rerooted before after a,
      a.limits,
      is.draft.heap,
      is.draft.limbo,
      is.draft.epoch,
      records.0,
      sym is.generations,
      sym is.roots,
      counted.begun,
      counted.steps,
    ) refl

pub course_done : (before after : Parts) (actor : ℕ) (call : Call) (n all : ℕ) (reply : Reply) (roots : List (Option Root)) (generations : ℕ) (draft : Draft) → IsCore before →
    is_busy (seen before) ≡ false → FitsKey (step.Begin actor call None) → IsRerooted before after → IsCourse (course_to (seen before) roots generations draft) after → draft.private ≡ [] →
    KeepsRecords before.heap after.heap → IsCounted before after all → all ≡ n + 2 →
    Comes (seen before) actor call n reply (after_call (course_to (seen before) roots generations draft).base draft (n + 2)) → CarriesBy before actor call reply after
course_done before after actor call n all reply roots generations draft core rest fits a is private records counted many comes =
    let base : State = (course_to (seen before) roots generations draft).base in
    let there : seen after ≡ after_call base draft (n + 2) = seen_course before after roots generations all draft a is records counted ∙ ap (after_call base draft) many in
    let come : Comes (seen before) actor call n reply (seen after) = subst (Comes (seen before) actor call n reply) (sym there) comes in
    let held : (r : Ref) → times r after.heap.outside ≡ times r (root_refs after.table.roots) + times r (private_refs (seen after).actors) =
    λ r. omega (
      arith,
      is.draft.held r,
      ap (λ (held : List Ref). times r (held_with base held)) private,
      times-append r (outside base) [],
      times-append r (root_refs roots) (private_refs (seen before).actors),
      ap (λ rs. times r (root_refs rs)) is.roots,
      ap (λ os. times r (private_refs os)) (actors_rerooted before after a),
    ) in (
      (n, come),
      record { run = comes_run (seen before) actor call n reply (seen after) core.run fits come; kept = kept_rerooted before after a rest held core.kept; settled = is.draft.settled },
    )
