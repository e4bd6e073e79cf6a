-- The load of a fresh main node's header that is the last step of its SWAP keeps the rule.
use Rattle.history.specs.declared.calls.Call.{Call}
use Rattle.std.proofs.Common.{◌≡◌, ◌*◌, ◌≤◌, ℕ, inr, Bool, set, slice_index, refl, sym, ap, subst, ◌∙◌}
use Rattle.std.proofs.lemmas.List.{set-get_or}
use Rattle.std.proofs.lemmas.Option.{same_Some}
use mathlib.Core.Option.{some, none}
use lib.ListN.{get_elem?}
use Rattle.atomic_table.specs.Table as Table
use Rattle.atomic_table.specs.Table.{Allows, Me, step}
use Rattle.trie_words.specs.Codes.{header_of}
use Rattle.machine_model.specs.Beneath.slot_arena.specs.declared.refs.Ref.{Ref}
use Rattle.machine_model.specs.Beneath.slot_arena.specs.Heaps.{no_ref}
use Rattle.machine_model.specs.Beneath.slot_arena.specs.Refs.{slot_of}
use Rattle.machine_model.specs.declared.lines.Line.{Line}
use Rattle.machine_model.specs.declared.lines.Line.TheVariants as line
use Rattle.machine_model.specs.declared.operations.Operation.{Operation}
use Rattle.lock_free.specs.declared.rules.View.{View}
use Rattle.lock_free.specs.declared.sizes.Sizes.{Sizes}
use Rattle.lock_free.specs.Accounts.{place_of, IsOwn}
use Rattle.lock_free.specs.Links.{AreLinked}
use Rattle.lock_free.specs.Reclaiming.{is_decided, HasRetired, IsChecking, has_retired}
use Rattle.lock_free.specs.Shadows.{IsShadowed}
use Rattle.lock_free.specs.Rules.{AreEpochs, AreRetired, IsKept}
use Rattle.lock_free.proofs.LinksStay.{linked_then}
use Rattle.lock_free.proofs.Moments.{allowed_by, still_own}
use Rattle.lock_free.proofs.RetireStep.{leaves, owed_then}

-- the nodes of a SWAP
abbrev nodes_in : Line → Ref × (Ref × Ref)
nodes_in (line.Swap why s) = (s.indirection, (s.replaced, s.fresh))
nodes_in l = (no_ref, (no_ref, no_ref))

-- whichever nodes the SWAP is told to be of
module _ (v : View) (s : Table.State Call View) (kept : IsKept v.sizes s) (id : ℕ) (at : get_elem? s.views id ≡ some v) (i m f : Ref) (own : Bool) (p : IsChecking v i m f)
    (owned : IsOwn v.account i m own) (j n g : Ref) (too : Bool) (q : IsChecking v j n g) (others : IsOwn v.account j n too) where
  pub same_nodes : ◌≡◌ {A = Ref × (Ref × Ref)} (i, (m, f)) (j, (n, g))
  same_nodes = ap nodes_in (sym p.line_is ∙ ap (λ (o : Operation). o.line) (same_Some p.operation q.operation (sym p.runs ∙ q.runs)) ∙ q.line_is)

  pub same_own : own ≡ too
  same_own =
      kept.nodes.owners.once (slot_of j) (slot_of n) own too
      (subst (λ (z : Ref × (Ref × Ref)). IsOwn kept.account z.0 z.1.0 own) same_nodes (still_own v s kept id at (slot_of i) (slot_of m) own owned))
      (still_own v s kept id at (slot_of j) (slot_of n) too others)

pub retire_allowed : (sizes : Sizes) (size id : ℕ) (me : Me Call View) (some_seats : 1 ≤ me.0.sizes.seats) (i m f : Ref) (own : Bool) → IsChecking me.0 i m f → IsOwn me.0.account i m own →
    (name : ℕ) → place_of me.0.account f ≡ name → Allows (IsShadowed sizes) size id me (2 * name) (λ n. n) (has_retired (step size (2 * name) 0 0 none) me)
retire_allowed sizes size id me some_seats i m f own p owned name placed =
    allowed_by sizes size id me (2 * name) (λ n. n) (has_retired (step size (2 * name) 0 0 none) me)
    some_seats
    (λ s kept epochs retired owed linked at. (
    let y = leaves me.0 i m f own p owned name placed s kept epochs retired id at in
    let same = sym (set-get_or s.words (2 * name) 0) in
    let committed = is_decided (header_of (slice_index s.words (2 * name))).previous in (
      y.view_then,
      (inr refl, y.glance, λ shown p is. shown p (sym y.pin ∙ is)),
      subst (λ ws. IsKept me.0.sizes (record { words = ws; homes = s.homes; views = set s.views id y.view_then })) same y.ruled,
      subst (λ ws. AreEpochs ws (set s.views id y.view_then)) same y.in_epochs,
      subst (λ ws. AreRetired me.0.sizes ws (set s.views id y.view_then)) same y.retired,
      owed_then me.0 i m f own p owned name placed s kept epochs retired id at owed,
      subst (λ ws. AreLinked me.0.sizes ws (set s.views id y.view_then)) same (linked_then s.views id me.0 at y.view_then y.links y.more me.0.sizes s.words s.words (λ c is. refl) linked),
      y.heard,
      (
        λ j n g too q others.
            subst (λ b. HasRetired me.0 n g b committed (2 * name) (slice_index s.words (2 * name)) y.view_then) (same_own me.0 s kept id at i m f own p owned j n g too q others)
            (subst (λ (z : Ref × (Ref × Ref)). HasRetired me.0 z.1.0 z.1.1 own committed (2 * name) (slice_index s.words (2 * name)) y.view_then)
            (same_nodes me.0 s kept id at i m f own p owned j n g too q others) y.told),
        y.sound,
        refl,
      ),
    )))
