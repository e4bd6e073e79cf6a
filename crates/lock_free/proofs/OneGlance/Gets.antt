-- A get whose seat glances goes down from its root.
use Rattle.history.specs.declared.calls.Access.{Access}
use Rattle.history.specs.declared.calls.Call.TheVariants.{Get}
use Rattle.std.proofs.Common.{◌≡◌, ℕ, ◌∷◌, [], List, refl, sym, ap, ◌∙◌}
use Rattle.machine_model.specs.Beneath.ctrie_base.specs.Hashes.{hash_of}
use Rattle.machine_model.specs.Calls.{key_of, needs_writable}
use Rattle.machine_model.specs.Lines.{new_try}
use Rattle.machine_model.specs.declared.finding.KeyLine.TheVariants as way
use Rattle.machine_model.specs.declared.lines.Line.TheVariants as line
use Rattle.machine_model.specs.Paths.{current}
use Rattle.machine_model.specs.Reading.{reading}
use Rattle.lock_free.specs.declared.reaching.Reached.{Reached}
use Rattle.lock_free.specs.declared.rooting.Rooted.{Rooted}
use Rattle.lock_free.specs.declared.rules.View.{View}
use Rattle.lock_free.specs.declared.sizes.Sizes.{Sizes}
use Rattle.lock_free.specs.declared.tasks.Task.{Task}
use Rattle.lock_free.specs.Descending.{IsOnPath, IsTask}
use Rattle.lock_free.specs.GetRuns.{IsLookup}
use Rattle.lock_free.specs.GlanceGets.{GlancesOn, IsGetGlance, WhileItCounts}
use Rattle.lock_free.specs.Holding.{IsOn}
use Rattle.lock_free.specs.LinkReads.{IsThere}
use Rattle.lock_free.specs.Reaching.{HasReached, IsAtPlace}
use Rattle.lock_free.specs.Rooting.{HasRooted}
use Rattle.lock_free.specs.Seeking.{IsCalled}
use Rattle.lock_free.proofs.OneGlance.Together.{glance_then, while_on}
use Rattle.lock_free.proofs.PlacesReached.{reached_task}
use Rattle.lock_free.proofs.Trials.{root_ready, task_ready}

-- what a try of it goes by
pub record IsTry (task : Task) (sizes : Sizes) (handle key : ℕ) (access : Access) (given : Rooted) : Type 0 where
  pub call : task.call ≡ Get handle key
  pub access_is : task.access ≡ access
  pub start : task.start ≡ given.generation
  pub key_is : task.key ≡ key_of (Get handle key)
  pub hash : task.hash ≡ hash_of sizes.hash task.key

module _ (n : ℕ) (u v : View) (it : IsGetGlance n u) (sizes : Sizes) (handle key : ℕ) (access : Access) (same : WhileItCounts (λ x. x.sizes ≡ sizes) u)
    (at : WhileItCounts (λ x. IsOn x new_try × IsCalled x (Get handle key) access) u) (given : Rooted) (on : GlancesOn n (λ x y. HasRooted x given y) u v) (task : Task)
    (try : IsTry task sizes handle key access given) where
  abbrev Down : View → Type 0
  Down y = IsTask y task × IsOnPath y (given.slot ∷ [])

  pub down_ready : WhileItCounts Down v
  down_ready =
      while_on n u v it (λ x y. HasRooted x given y) on (λ x. (x.sizes ≡ sizes) × IsOn x new_try × IsCalled x (Get handle key) access) Down
      (λ g is known. (same g is known, (at g is known).0, (at g is known).1))
      (λ x y s p t h. (
        task_ready x p.1 (Get handle key) access p.2 refl given y h task try.call try.access_is try.start try.key_is
            (try.hash ∙ ap (λ (z : Sizes). hash_of z.hash task.key) (sym p.0)),
        root_ready x p.1 (Get handle key) access p.2 refl given y h,
      ))

  module _ (w : View) (slots : List ℕ) (reached : Reached) (down : GlancesOn n (λ x y. HasReached x task slots reached y) v w) where
    pub value_ready : WhileItCounts (λ y. IsLookup y task × IsThere y slots reached.link (IsAtPlace y task reached.place)) w
    value_ready =
        while_on n v w (glance_then n u it (λ x y. HasRooted x given y) v on) (λ x y. HasReached x task slots reached y) down Down
        (λ y. IsLookup y task × IsThere y slots reached.link (IsAtPlace y task reached.place)) down_ready
        (λ x y s p t h. (
          record { its = reached_task x (line.Key (way.Read p.1.0 (reading (current p.1.0)))) p.1.1 y task slots reached h task p.0; reads = ap needs_writable try.call },
          h.at,
        ))
