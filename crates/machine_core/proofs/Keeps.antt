-- What a step of an operation in place leaves as it has to be: references that are held, recorded epochs, and where actors stand.
use Rattle.std.proofs.Common.{arith, ◌≡◌, Bool, true, false, ℕ, ◌-◌, ◌++◌, List, [], ◌∷◌, length, map, set, Option, Some, None, refl, sym, ap, subst, ◌∙◌}
use Rattle.std.specs.Prelude.{option_map, slice_index_or}
use Rattle.std.proofs.lemmas.List.{length-set, map-set}
use Rattle.std.proofs.lemmas.List.Concat.{flat_map-cons}
use Rattle.std.proofs.lemmas.Option.{none-some, same_Some}
use Rattle.std.proofs.Math.Seq.{map-set_same}
use Rattle.machine_core.specs.Vocabulary.{times, Action, Operation, Descriptor, refs_of_operation, pin_of, action_of, Table, word_in, carried_offer, Taken, IsSound, IsOfRun}
use Rattle.machine_model.specs.declared.actions.Action.TheVariants as act
use Rattle.running.proofs.Offers.{marked_at, marks_by, unmarked}
use Rattle.machine_core.specs.declared.parts.Actor.{Actor}
use Rattle.machine_core.specs.declared.parts.Parts.{Parts}
use Rattle.machine_core.specs.declared.parts.UnderWay.{UnderWay}
use Rattle.machine_core.specs.Keeping.{AreSeated, IsKept, IsSeated}
use Rattle.machine_core.specs.Seen.{actors_seen, operation_at, operation_seen, seen}
use Rattle.machine_core.specs.Ties.{IsTied, private_refs}
use Rattle.machine_core.proofs.Kept.{operation_there, replaced_seated}
use Rattle.machine_core.proofs.Gone.{changes}
use Rattle.machine_core.proofs.Tied.{operation_stands}
use Rattle.machine_core.proofs.Took.{Took}
use Rattle.machine_core.specs.Beneath.rdcss_root.proofs.Rewriting.{times_set}

-- ---- root words matter neither to private lists nor to recorded epochs

refs_any : (a b : Table) (x : Actor) → refs_of_operation (operation_seen a x) ≡ refs_of_operation (operation_seen b x)
refs_any a b x = by x.under_way
  where
    by : (o : Option UnderWay) → refs_of_operation (option_map (operation_at a x.programs) o) ≡ refs_of_operation (option_map (operation_at b x.programs) o)
    by None = refl
    by (Some u) = refl

pins_any : (a b : Table) (x : Actor) → pin_of (operation_seen a x) ≡ pin_of (operation_seen b x)
pins_any a b x = by x.under_way
  where
    by : (o : Option UnderWay) → pin_of (option_map (operation_at a x.programs) o) ≡ pin_of (option_map (operation_at b x.programs) o)
    by None = refl
    by (Some u) = refl

pub private_any : (a b : Table) (xs : List Actor) → private_refs (actors_seen a xs) ≡ private_refs (actors_seen b xs)
private_any a b [] = refl
private_any a b (x ∷ xs) =
    flat_map-cons refs_of_operation (operation_seen a x) (actors_seen a xs)
    ∙ ap (λ rs. rs ++ private_refs (actors_seen a xs)) (refs_any a b x) ∙ ap (λ rs. refs_of_operation (operation_seen b x) ++ rs) (private_any a b xs)
    ∙ sym (flat_map-cons refs_of_operation (operation_seen b x) (actors_seen b xs))

pub epochs_any : (a b : Table) (xs : List Actor) → map pin_of (actors_seen a xs) ≡ map pin_of (actors_seen b xs)
epochs_any a b [] = refl
epochs_any a b (x ∷ xs) = ap (λ p. p ∷ map pin_of (actors_seen a xs)) (pins_any a b x) ∙ ap (λ ps. pin_of (operation_seen b x) ∷ ps) (epochs_any a b xs)

-- ---- marks

unmarked_length : (marks : List Bool) (actor : ℕ) (action : Action) → length (unmarked marks actor action) ≡ length marks
unmarked_length marks actor (act.Offer offer) = length-set marks actor false
unmarked_length marks actor action = refl

marked_length : (marks : List Bool) (offerer : ℕ) (carried : Option Descriptor) → length (marked_at marks offerer carried) ≡ length marks
marked_length marks offerer None = refl
marked_length marks offerer (Some offer) = length-set marks offerer true

-- ---- a step

module _ (before : Parts) (actor : ℕ) (u : UnderWay) (taken : Taken) (now : Parts) (t : Took before actor u taken now) (run : IsOfRun (seen before)) (kept : IsKept before) where
  seated : IsSeated before.limits.hash (actor - 1) t.seat.found
  seated = kept.seats (actor - 1) t.seat.found t.seat.at

  pub seats_now : AreSeated before.limits.hash now.actors.items
  seats_now =
      replaced_seated before.limits.hash before.actors.items now.actors.items (actor - 1) (λ was x. Unit {0})
      (record { was = t.seat.found; is = record { programs = t.programs; under_way = Some u }; found = t.seat.at; set = t.set; does = tt })
      kept.seats
      (record {
        hashes_are = t.does.hashes ∙ seated.hashes_are;
        number = λ v e. ap (λ (w : UnderWay). w.job.actor) (sym (same_Some u v e)) ∙ seated.number u t.seat.runs;
        sound = λ v e. subst (λ (w : UnderWay). IsSound w.program t.programs) (same_Some u v e) t.does.sound;
        idle = λ e. absurd (none-some u (sym e));
      })

  pub tied_now : IsTied now.heap (seen now).roots (seen now).actors
  tied_now =
      let own : Operation = operation_at before.table t.seat.found.programs u in
      let new : Operation = operation_at before.table t.programs u in
      let behind : Actor = record { programs = t.programs; under_way = Some u } in
      let at = operation_stands (seen before) actor own (operation_there before actor u t.seat) in
      let acts = (changes before actor u taken now t run kept).acts in
      let seen_so : actors_seen before.table now.actors.items ≡ set (seen before).actors (actor - 1) (Some new) =
      ap (actors_seen before.table) t.set ∙ map-set (operation_seen before.table) before.actors.items (actor - 1) behind in
      record {
        held = λ r. omega (
          arith,
          acts.others r,
          kept.tied.held r,
          ap (times r) (private_any now.table before.table now.actors.items),
          ap (λ os. times r (private_refs os)) seen_so,
          times_set r refs_of_operation (seen before).actors (actor - 1) (Some new) None at.within,
          ap (λ o. times r (refs_of_operation o)) at.is,
        );
        pins = acts.epochs.3 ∙ kept.tied.pins
            ∙ sym (map-set_same pin_of (seen before).actors (actor - 1) (Some new) None (sym (ap pin_of at.is)))
            ∙ ap (map pin_of) (sym seen_so) ∙ epochs_any before.table now.table now.actors.items;
      }

  -- the table knows as many marks as before
  pub marks_now : length now.table.marks ≡ length before.table.marks
  marks_now =
      let action : Action = action_of (seen before) (operation_at before.table t.seat.found.programs u) in
      ap (λ (x : Table). length x.marks) (changes before actor u taken now t run kept).table
      ∙ ap length (marks_by before.table u.job.handle u.job.actor action).marks
      ∙ marked_length (unmarked before.table.marks u.job.actor action) (slice_index_or before.table.offerers u.job.handle 0) (carried_offer (word_in before.table u.job.handle) action)
      ∙ unmarked_length before.table.marks u.job.actor action
