-- What is kept of each slot, when a main node is to be swapped in.
use Rattle.std.proofs.Common.{◌≡◌, ℕ, ◌==◌, ◌<◌, Bool, true, false, cond, List, [], ◌∷◌}
use Rattle.std.proofs.Common.{length, set, find, replicate, Option, Some, None, refl, sym, ap, ◌∙◌, eq-eqb, eqb-true}
use Rattle.std.specs.Prelude.{◌≤◌, option_and_then}
use Rattle.std.proofs.lemmas.List.{get_or-set_same, get_or-set_other}
use Rattle.std.proofs.lemmas.List.Elements.{All-head, All-tail}
use Rattle.slot_arena.specs.declared.refs.Ref.{Ref}
use Rattle.slot_arena.specs.Refs.{slot_of}
use Rattle.machine_model.specs.declared.records.Entrant.{Entrant}
use Rattle.machine_model.specs.declared.records.Publication.{Publication}
use Rattle.chronicle.specs.Published.{changer_for, changer_in, last_of, no_publication, IsNewestPublished, AreLast}
use Rattle.chronicle.proofs.Slots.{alike, get_or-replicate_same, newer_if_other, newer_isnt_there, other_slot}

pub none_last : (slots : ℕ) → AreLast (replicate slots no_publication) []
none_last slots main newest = ap (λ p. changer_for p main) (get_or-replicate_same slots (slot_of main) no_publication) ∙ nobody main
  where
    nobody : (main : Ref) → changer_for no_publication main ≡ None
    nobody main = alike (0 == main) None

-- a publication more
pub last_noted : (latest after published : List Publication) (p : Publication) → AreLast latest published → IsNewestPublished published p.main → slot_of p.main < length latest →
    after ≡ set latest (slot_of p.main) p → AreLast after (p ∷ published)
last_noted latest after published p h newest within is main newest_now = ap (λ l. changer_for (last_of l (slot_of main)) main) is ∙ by (p.main == main) refl
  where
    Older : Publication → Type 0
    Older x = slot_of x.main ≡ slot_of main → x.main ≤ main

    rest : IsNewestPublished published main
    rest = All-tail Older p published newest_now

    changer : Bool → Option Entrant
    changer b = option_and_then (λ x. x.changer) (cond b (Some p) (find (λ x. x.main == main) published))

    another : (p.main == main) ≡ false → (b : Bool) → (slot_of main == slot_of p.main) ≡ b → changer_for (last_of (set latest (slot_of p.main) p) (slot_of main)) main ≡ changer_in published main
    another apart true slots =
        let same : slot_of p.main ≡ slot_of main = sym (eqb-true (slot_of main) (slot_of p.main) slots) in
        let less = newer_if_other p.main main (All-head Older p published newest_now same) apart in
        ap (λ i. changer_for (last_of (set latest (slot_of p.main) p) i) main) (sym same)
        ∙ ap (λ x. changer_for x main) (get_or-set_same latest (slot_of p.main) p no_publication within)
        ∙ ap (λ b. cond b p.changer None) apart
        ∙ sym (ap (option_and_then (λ x. x.changer)) (newer_isnt_there (λ (x : Publication). x.main) published p.main main newest same less))
    another apart false slots =
        ap (λ x. changer_for x main) (get_or-set_other latest (slot_of p.main) (slot_of main) p no_publication (other_slot p.main main slots)) ∙ h main rest

    by : (b : Bool) → (p.main == main) ≡ b → changer_for (last_of (set latest (slot_of p.main) p) (slot_of main)) main ≡ changer b
    by true e =
        ap (λ i. changer_for (last_of (set latest (slot_of p.main) p) (slot_of i)) i) (sym (eqb-true p.main main e))
        ∙ ap (λ x. changer_for x p.main) (get_or-set_same latest (slot_of p.main) p no_publication within)
        ∙ ap (λ b. cond b p.changer None) (eq-eqb p.main p.main refl)
    by false e = another e (slot_of main == slot_of p.main) refl
