-- What a seat that glances knows where it looks at a node on the way to its key.
use Rattle.std.proofs.Common.{◌≡◌, ℕ, List, Some, refl, sym, ap, subst}
use Rattle.trie_words.specs.declared.headers.Header.{Header}
use Rattle.trie_words.specs.declared.headers.Previous.TheVariants as previous
use Rattle.trie_words.specs.declared.links.Link.{Link}
use Rattle.machine_model.specs.Beneath.slot_arena.specs.declared.refs.Ref.{Ref}
use Rattle.machine_model.specs.declared.actions.Action.{Action}
use Rattle.machine_model.specs.declared.actions.Action.TheVariants as act
use Rattle.machine_model.specs.declared.finding.KeyLine.TheVariants as key
use Rattle.machine_model.specs.declared.lines.Line.TheVariants as line
use Rattle.machine_model.specs.declared.operations.Operation.{Operation}
use Rattle.machine_model.specs.declared.reading.After.TheVariants.{Goes}
use Rattle.machine_model.specs.declared.reading.Read.{Read}
use Rattle.machine_model.specs.declared.reading.ReadLine.TheVariants as read
use Rattle.machine_model.specs.Operations.{read_of}
use Rattle.machine_model.specs.Reading.{reading}
use Rattle.lock_free.specs.declared.reading.Passed.TheVariants as passed
use Rattle.lock_free.specs.declared.reading.ReadFrom.TheVariants as resume
use Rattle.lock_free.specs.declared.rules.View.{View}
use Rattle.lock_free.specs.Entries.{entry_in}
use Rattle.lock_free.specs.GlanceGets.{IsAtRead, IsLook, IsLooking, LooksAt}
use Rattle.lock_free.specs.GoingDown.{IsAtBelow, IsAtKey, IsAtMain, IsAtSingle}
use Rattle.lock_free.specs.LinkReads.{given_by, HasReadTo}
use Rattle.lock_free.specs.Loading.{HasReadHeader, HasReadLink, HasSeenKey, IsSound, Runs}
use Rattle.lock_free.specs.OfReads.{read_to}
use Rattle.lock_free.specs.Passing.{IsPassing, IsReading}
use Rattle.lock_free.proofs.Comings.{at_read}
use Rattle.lock_free.proofs.EntryMeets.{at_mid, single_ready}
use Rattle.lock_free.proofs.OnePass.{at_header, gives, reached, reached_passes, reached_passing}
use Rattle.lock_free.proofs.OnLines.{at_look}

pub looking : (v : View) (does : Ref → Action) (name : ℕ) → ((r : Ref) → IsLook (does r)) → LooksAt v does name → IsLooking v
looking v does name look h = (does h.0.0, look h.0.0, record { acts = h.0.1; at = h.1.0; on = h.1.1 })

-- ---- READ

module _ (v : View) (name : ℕ) (at : IsAtRead name v) where
  abbrev path : List Ref
  path = at.0

  abbrev i : Ref
  i = at.1

  abbrev on : IsAtKey v (key.Read path (reading i))
  on = at.2

  is_reading : IsReading v i read.Main
  is_reading = (on.0, on.1, ap read_of on.2)

  pub passing : IsPassing v name resume.Start
  passing = (i, at.3, is_reading)

  pub link_there : LooksAt v act.ReadMain name
  link_there = ((i, at_read v i read.Main is_reading, at.3.1), (key.Read path (reading i), on))

  module _ (n : ℕ) (sound : IsSound n v) (w : View) (then : IsSound n w) (link : Link) (g : HasReadLink v link w) where
    abbrev at_prev : Read
    at_prev = record { indirection = i; line = read.Prev (reached n v sound name passing w then link g).0 }

    on_prev : IsAtKey w (key.Read path at_prev)
    on_prev =
        let come = (reached n v sound name passing w then link g).1 in
        let here : Operation = record on.0 { line = line.Key (key.Read path at_prev) } in (
          here,
          subst (λ l. Runs w (read_to (Goes at_prev.line) (record on.0 { line = l })) → Runs w here) (sym on.2) (λ x. x) (come.comes on.0 on.1),
          refl,
        )

    abbrev there : IsPassing w name (resume.Header link)
    there = reached_passing n v sound name passing w then link g

    pub header_there : LooksAt w act.ReadPrev link.main.slot
    header_there = (at_header w name link there, (key.Read path at_prev, on_prev))

    pub read_to_main : (x : View) → IsSound n x → (header : Header) → HasReadHeader w header x → header.previous ≡ previous.None → HasReadTo v (Some link) x
    read_to_main x end header h none = (
      header,
      reached_passes n v sound name passing w then link g (passed.Gives (given_by link header)) x (gives w name link there n x then end header h none),
    )

-- ---- the main node, an indirection below it, a single

module _ (v : View) (name flag : ℕ) (at : IsAtMain v name flag) where
  pub main_there : LooksAt v act.Look name
  main_there = ((at.1, at_look v (line.Key (key.Main at.0 at.1)) at.2 at.1 (λ o. refl), at.3.1), (key.Main at.0 at.1, at.2))

module _ (v : View) (name : ℕ) (at : IsAtBelow v name) where
  pub below_there : LooksAt v act.Look name
  below_there =
      let e = entry_in v at.1 at.2 in
      ((e, at_look v (line.Key (key.Entry at.0 at.1 at.2)) at.3 e (λ o. refl), at.4.placed.1), (key.Entry at.0 at.1 at.2, at.3))

module _ (n : ℕ) (v w : View) (sound : IsSound n v) (name : ℕ) (at : IsAtSingle v name) (told : ℕ) (g : HasSeenKey v name told w) (then : IsSound n w) where
  pub single_there : LooksAt w act.Look name
  single_there = (single_ready n v w sound name at told g then, (at.0, at_mid n v w sound name at told g then))
