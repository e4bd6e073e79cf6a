-- Paths of operations on writable handles lie on their keys' paths, and KEY looks at their ends.
use Rattle.std.proofs.Common.{◌≡◌, ℕ, suc, ◌<◌, ◌≤◌, true, List, Some, refl, sym, ap, subst, ◌∙◌, arith}
use Rattle.std.proofs.lemmas.Option.{none-some, same_Some}
use Rattle.proof_updates.specs.Vocabulary.{Writable, Ref, KeyLine, Line, Operation, ReadLine, Bounds, key_of, current, State, IsRun, moment_at, counts, read_counts, Trie, Looks, trie_of}
use Rattle.proof_updates.specs.Vocabulary.{main_of_key}
use Rattle.proof_updates.specs.Beneath.machine_model.specs.declared.finding.KeyLine.TheVariants as key
use Rattle.proof_updates.specs.Beneath.machine_model.specs.declared.lines.Purpose.TheVariants as purpose
use Rattle.proof_updates.specs.Beneath.machine_model.specs.declared.lines.Line.TheVariants as line
use Rattle.proof_updates.specs.Beneath.machine_model.specs.declared.reading.ReadLine.TheVariants as read
use Rattle.proof_updates.specs.Beneath.proof_generations.proofs.Handles.Running.{place_of_actor}
use Rattle.proof_updates.specs.Beneath.proof_generations.specs.Running.{Runs}
use Rattle.proof_order.proofs.Phases.Since.{run_since}
use Rattle.proof_updates.specs.Beneath.proof_contents.specs.Steps.{IsTrie}
use Rattle.proof_updates.specs.Updates.{PathsLie, KeysLook}
use Rattle.proof_updates.specs.Paths.{LiesOn, path_of}
use Rattle.proof_updates.proofs.Routes.Known.{Route, IsAt, KeyRoute, LineRoute, since, route_later, looks_at}
use Rattle.proof_updates.proofs.Routes.Each.{has_route}
use Rattle.proof_updates.proofs.Answers.Given.{moment_of}

-- a path of a writable handle
lies_on : (trie : Trie) (g q t : ℕ) (p : List Ref) → Route trie Writable g q t p → LiesOn trie t g q p
lies_on trie g q t p r = λ d lt. r.each d lt

lies_before : (trie : Trie) (g q b t : ℕ) (p : List Ref) → b ≤ t → Route trie Writable g q b p → LiesOn trie t g q p
lies_before trie g q b t p le r = lies_on trie g q t p (route_later trie Writable g q b t p le r)

since_past : (t read_at : ℕ) (l : ReadLine) → (read_counts l ≡ true → read_at < t) → since t read_at l ≤ t
since_past t read_at read.Main before = omega arith
since_past t read_at l before = omega (arith, before refl)

module _ (limits : Bounds) (states : ℕ → State) (last : ℕ) (depth path : Ref → ℕ) (run : IsRun limits states last) (ok : IsTrie (trie_of limits states last depth path)) where
  abbrev trie : Trie
  trie = trie_of limits states last depth path

  module _ (t k g : ℕ) (operation : Operation) (within : t ≤ last) (runs : Runs (states t) k operation) (writable : operation.access ≡ Writable) (begun : operation.generation ≡ Some g) where
    abbrev q : ℕ
    q = key_of operation.call

    route : LineRoute trie Writable g q t (moment_of run t k).read_at (moment_of run t k).moment operation.line
    route =
        subst (λ a. LineRoute trie a g q t (moment_of run t k).read_at (moment_of run t k).moment operation.line) writable
        (has_route limits states last depth path run ok t within k operation runs g begun)

    read_past : counts operation.line ≡ true → (moment_of run t k).read_at < t
    read_past e = (((run_since run t k operation within runs).tries g begun).reads.read_at e).past

    at_lies : (p : List Ref) (main : Ref) → IsAt trie Writable g q t (moment_of run t k).moment p main → LiesOn trie t g q p
    at_lies p main at = lies_before trie g q (suc (moment_of run t k).moment) t p (omega (arith, at.past)) at.route

    key_lies : (l : KeyLine) → operation.line ≡ line.Key l → KeyRoute trie Writable g q t (moment_of run t k).read_at
        (moment_of run t k).moment l → (p : List Ref) → path_of (line.Key l) ≡ Some p → LiesOn trie t g q p
    key_lies (key.Read x r) e h p is =
        subst (LiesOn trie t g q) (same_Some _ _ is)
        (lies_before trie g q (since t (moment_of run t k).read_at r.line) t x
        (since_past t (moment_of run t k).read_at r.line (λ c. read_past (ap counts e ∙ c))) h.0)
    key_lies (key.Main x main) e h p is = subst (LiesOn trie t g q) (same_Some _ _ is) (at_lies x main h)
    key_lies (key.Entry x main position) e h p is = subst (LiesOn trie t g q) (same_Some _ _ is) (at_lies x main h)
    key_lies (key.Listed x main position) e h p is = subst (LiesOn trie t g q) (same_Some _ _ is) (at_lies x main h)
    key_lies (key.Sibling x main position former) e h p is = subst (LiesOn trie t g q) (same_Some _ _ is) (at_lies x main h)

    line_lies : (l : Line) → operation.line ≡ l → LineRoute trie Writable g q t (moment_of run t k).read_at (moment_of run t k).moment l →
        (p : List Ref) → path_of l ≡ Some p → LiesOn trie t g q p
    line_lies (line.Key l) e h p is = key_lies l e h p is
    line_lies (line.Build l) e h p is = subst (LiesOn trie t g q) (same_Some _ _ is) (lies_on trie g q t _ h)
    line_lies (line.Renew l) e h p is = subst (LiesOn trie t g q) (same_Some _ _ is) (lies_on trie g q t _ h)
    line_lies (line.Swap (purpose.Update x former) s) e h p is = subst (LiesOn trie t g q) (same_Some _ _ is) (lies_on trie g q t x h)
    line_lies (line.Swap (purpose.Renew x) s) e h p is = subst (LiesOn trie t g q) (same_Some _ _ is) (lies_on trie g q t x h)
    line_lies (line.Swap purpose.Clean s) e h p is = absurd (none-some p is)
    line_lies (line.Swap (purpose.Climb c) s) e h p is = absurd (none-some p is)
    line_lies (line.Root l) e h p is = absurd (none-some p is)
    line_lies (line.Clean l) e h p is = absurd (none-some p is)
    line_lies (line.Climb l) e h p is = absurd (none-some p is)
    line_lies (line.Copy l) e h p is = absurd (none-some p is)
    line_lies (line.Walk l) e h p is = absurd (none-some p is)
    line_lies (line.End answer) e h p is = absurd (none-some p is)
    line_lies line.Impossible e h p is = absurd (none-some p is)

    lies : (p : List Ref) → path_of operation.line ≡ Some p → LiesOn trie t g q p
    lies p is = line_lies operation.line refl route p is

    abbrev Found : Line → Ref → Type 0
    Found l main = (p : List Ref) × (path_of l ≡ Some p) × ((moment_of run t k).moment < t) × Looks trie (suc (moment_of run t k).moment) g q (current p) main

    at_looks : (p : List Ref) (main : Ref) → IsAt trie Writable g q t (moment_of run t k).moment p main →
        Looks trie (suc (moment_of run t k).moment) g q (current p) main
    at_looks p main at = looks_at trie ok g q (moment_of run t k).moment (omega (arith, at.past)) p main at.route at.given

    found : (p : List Ref) (given main : Ref) (l : KeyLine) → path_of (line.Key l) ≡ Some p → given ≡ main →
        IsAt trie Writable g q t (moment_of run t k).moment p given → Found (line.Key l) main
    found p given main l has is at = (p, has, at.past, subst (λ m. Looks trie (suc (moment_of run t k).moment) g q (current p) m) is (at_looks p given at))

    key_looks : (l : KeyLine) → KeyRoute trie Writable g q t (moment_of run t k).read_at (moment_of run t k).moment l → (main : Ref) →
        main_of_key l ≡ Some main → Found (line.Key l) main
    key_looks (key.Read p r) h main is = absurd (none-some main is)
    key_looks (key.Main p m) h main is = found p m main (key.Main p m) refl (same_Some _ _ is) h
    key_looks (key.Entry p m position) h main is = found p m main (key.Entry p m position) refl (same_Some _ _ is) h
    key_looks (key.Listed p m position) h main is = found p m main (key.Listed p m position) refl (same_Some _ _ is) h
    key_looks (key.Sibling p m position former) h main is = found p m main (key.Sibling p m position former) refl (same_Some _ _ is) h

    looks : (l : KeyLine) → operation.line ≡ line.Key l → (main : Ref) → main_of_key l ≡ Some main → Found operation.line main
    looks l e main is =
        subst (λ x. Found x main) (sym e)
        (key_looks l (subst (λ x. LineRoute trie Writable g q t (moment_of run t k).read_at (moment_of run t k).moment x) e route) main is)

  pub paths_lie : PathsLie states last (trie_of limits states last depth path)
  paths_lie t actor g operation p within runs writable begun is =
      let place = place_of_actor (states t) actor operation runs in
      lies t place.0 g operation within place.2 writable begun p is

  pub keys_look : KeysLook states run.records last (trie_of limits states last depth path)
  keys_look t actor g operation l main within runs writable begun e given =
      let place = place_of_actor (states t) actor operation runs in
      subst (λ j. (p : List Ref) × (path_of operation.line ≡ Some p) × ((moment_at (run.records t) j).moment < t)
      × Looks trie (suc (moment_at (run.records t) j).moment) g (key_of operation.call) (current p) main) (sym place.1)
      (looks t place.0 g operation within place.2 writable begun l e main given)
