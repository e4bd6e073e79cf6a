-- What is committed for an operation is its own update of its key, and leads its generation's content on.
use Rattle.std.proofs.Common.{◌≡◌, ℕ, suc, ◌-◌, ◌<◌, ◌≤◌, ◌^◌, List, length, Option, sym, subst, arith}
use Rattle.proof_updates.specs.Vocabulary.{Writable, Ref, Operation, Swap, Bounds, Step, key_of, current, State, IsRun, Trie, node_in, On, IsOwnUpdate, Updates, trie_of, SwapsAt, OwnCommit}
use Rattle.proof_updates.specs.Vocabulary.{KnowsFresh, assigned_at, HasShape}
use Rattle.proof_updates.specs.Beneath.machine_model.specs.declared.lines.Purpose.TheVariants as purpose
use Rattle.proof_updates.specs.Beneath.machine_model.specs.declared.lines.Line.TheVariants as line
use Rattle.proof_updates.specs.Beneath.machine_model.specs.declared.reading.SwapLine.TheVariants as swap
use Rattle.proof_updates.specs.Beneath.proof_generations.proofs.Handles.Running.{place_of_actor}
use Rattle.proof_updates.specs.Beneath.proof_generations.specs.Running.{Runs}
use Rattle.proof_updates.specs.Beneath.proof_contents.specs.Steps.{IsTrie}
use Rattle.proof_updates.specs.Beneath.proof_contents.proofs.Values.Paths.{on-depth}
use Rattle.proof_updates.specs.Beneath.proof_contents.proofs.Changes.Generations.{update_acts, update_still}
use Rattle.proof_updates.specs.Commits.{SitesOfUpdates}
use Rattle.proof_updates.specs.Updates.{UpdatesAt, UpdatesAct}
use Rattle.proof_updates.proofs.Tries.Does.{start_is, made, steps_do}
use Rattle.proof_updates.proofs.Routes.Known.{Route, LineRoute, route_end}
use Rattle.proof_updates.proofs.Routes.Each.{has_route}
use Rattle.proof_updates.proofs.Answers.Given.{moment_of}

-- ---- own updates

module _ (limits : Bounds) (states : ℕ → State) (last : ℕ) (depth path : Ref → ℕ) (run : IsRun limits states last)
    (sites : SitesOfUpdates limits states run.records last depth)
    (shape : HasShape (trie_of limits states last depth path)) where
  abbrev trie : Trie
  trie = trie_of limits states last depth path

  -- the trie is as it is assumed to be
  pub trie_ok : IsTrie (trie_of limits states last depth path)
  trie_ok = record {
    has_key = shape.has_key;
    root_depth = shape.root_depth;
    root_path = shape.root_path;
    path_fits = shape.path_fits;
    shaped = shape.shaped;
    does = steps_do limits states last depth path run sites;
  }

  module _ (fits : (t : ℕ) → t ≤ last → (k : ℕ) (operation : Operation) → Runs (states t) k operation → key_of operation.call < 2 ^ 64) where
    module _ (t : ℕ) (s : Step) (lt : t < last) (own : OwnCommit limits states run.records last (assigned_at states last) t s) (p : List Ref) (former : Option ℕ)
        (e : own.why ≡ purpose.Update p former) where
      place : (k : ℕ) × (own.actor ≡ suc k) × Runs (states t) k own.owner
      place = place_of_actor (states t) own.actor own.owner own.runs

      abbrev its : Swap
      its = record { indirection = own.indirection; replaced = own.replaced; fresh = own.fresh; line = swap.Deciding own.deciding }

      route : Route trie Writable own.start (key_of own.owner.call) t p
      route =
          let h = has_route limits states last depth path run trie_ok t (omega arith) place.0 own.owner place.2 own.start own.generation in
          subst (λ a. Route trie a own.start (key_of own.owner.call) t p) own.writable
          (subst (λ why. LineRoute trie own.owner.access own.start (key_of own.owner.call) t (moment_of run t place.0).read_at
          (moment_of run t place.0).moment (line.Swap why its)) e
          (subst (λ l. LineRoute trie own.owner.access own.start (key_of own.owner.call) t (moment_of run t place.0).read_at
          (moment_of run t place.0).moment l) own.swaps h))

      at : own.indirection ≡ current p
      at = subst (λ why. SwapsAt why own.indirection) e own.placed

      on : (once : ℕ) × (once ≤ t) × On trie once own.start (key_of own.owner.call) (trie.depth own.indirection) own.indirection
      on =
          let end = route_end trie Writable own.start (key_of own.owner.call) t p route in
          let deep = on-depth trie trie_ok end.0 own.start (key_of own.owner.call) (length p - 1) (current p) (omega (arith, end.1)) end.2 in (
            end.0,
            end.1,
            subst (λ i. On trie end.0 own.start (key_of own.owner.call) (trie.depth i) i) (sym at)
                (subst (λ d. On trie end.0 own.start (key_of own.owner.call) d (current p)) (sym deep) end.2),
          )

      pub update_at : Updates trie t own.start own.owner.call former
      update_at =
          let known = subst (λ why. KnowsFresh limits states run.records last (assigned_at states last) t own.actor own.start own.owner own.replaced own.fresh why) e own.knows in
          let u = made limits states last depth path run sites t s lt own p former e known in
          record {
            indirection = own.indirection;
            once = on.0;
            before = on.1;
            on = on.2;
            leaves = own.others;
            now = u.now;
            asks = u.asks;
            updates = subst (λ g. IsOwnUpdate trie g t own.indirection (key_of own.owner.call) (node_in trie t own.indirection) (node_in trie (suc t) own.indirection) former u.now)
                (sym (start_is limits states last depth path run sites t s lt own)) u.updates;
            fits = fits t (omega arith) place.0 own.owner place.2;
          }

    pub updates_at : UpdatesAt limits states run.records last (trie_of limits states last depth path)
    updates_at t s lt own p former e = update_at t s lt own p former e

    pub updates_act : UpdatesAct limits states run.records last (trie_of limits states last depth path)
    updates_act t s lt own p former e =
        let u = update_at t s lt own p former e in (
          update_acts trie trie_ok t own.start own.owner.call former lt u,
          update_still trie trie_ok t own.start own.owner.call former lt u,
        )
