-- What an operation has private on each line, and from where that has its references; so it stays in the steps of others.
use Rattle.std.proofs.Common.{◌≡◌, ℕ, suc, ◌⊎◌, true, List, [], ◌∷◌, ◌++◌, Contains, Option, Some, is_some, inl, inr, refl, sym, ap, ◌∙◌, subst}
use Rattle.std.proofs.lemmas.Bool.{true≢false}
use Rattle.std.proofs.lemmas.List.Elements.{Contains-append_left, Contains-append_cases, Contains-push_cases}
use Rattle.proof_fresh.specs.Vocabulary.{Ref, Node, Indirection, Branch, Single, Tomb, List as Listed, no_ref, entries_of, Change, BuildLine}
use Rattle.proof_fresh.specs.Vocabulary.{RenewLine, CleanLine, CopyLine, Purpose, SwapLine, Line}
use Rattle.proof_fresh.specs.Vocabulary.{Bounds, State, grown, node_under, IsRun}
use Rattle.proof_fresh.specs.Beneath.slot_arena.specs.Heaps.{refs_of_node, refs_of_slot}
use Rattle.proof_fresh.specs.Beneath.machine_model.specs.declared.building.BuildLine.TheVariants as build
use Rattle.proof_fresh.specs.Beneath.machine_model.specs.declared.building.Change.TheVariants as change
use Rattle.proof_fresh.specs.Beneath.machine_model.specs.declared.copying.CopyLine.TheVariants as copy
use Rattle.proof_fresh.specs.Beneath.machine_model.specs.declared.lines.Line.TheVariants as line
use Rattle.proof_fresh.specs.Beneath.machine_model.specs.declared.lines.Purpose.TheVariants as purpose
use Rattle.proof_fresh.specs.Beneath.machine_model.specs.declared.reading.SwapLine.TheVariants as swap
use Rattle.proof_fresh.specs.Beneath.machine_model.specs.declared.repairs.CleanLine.TheVariants as clean
use Rattle.proof_fresh.specs.Beneath.machine_model.specs.declared.repairs.RenewLine.TheVariants as renew
use Rattle.proof_fresh.specs.Beneath.proof_memory.proofs.Claims.Nodes.{IsNoLink}
use Rattle.proof_fresh.specs.Beneath.proof_commits.proofs.Known.Given.{GrownTakes}
use Rattle.proof_fresh.specs.Beneath.proof_contents.specs.Lines.Changes.{main_of_build}
use Rattle.proof_shape.proofs.Runs.Entries.{no_entry}
use Rattle.proof_fresh.proofs.From.{IsFrom, from_later}

-- the main node of a line of RENEW, and what is done of it
abbrev pub main_of_renew : RenewLine → Ref
main_of_renew (renew.Entry path main done) = main
main_of_renew (renew.Read path main done r) = main
main_of_renew (renew.Link path main done child) = main
main_of_renew (renew.Branch path main done) = main

abbrev pub done_of_renew : RenewLine → List Ref
done_of_renew (renew.Entry path main done) = done
done_of_renew (renew.Read path main done r) = done
done_of_renew (renew.Link path main done child) = done
done_of_renew (renew.Branch path main done) = done

-- the same of CLEAN, which has none at first
abbrev pub main_of_clean : CleanLine → Ref
main_of_clean (clean.Read path r) = no_ref
main_of_clean (clean.Main path main) = main
main_of_clean (clean.Entry path main done) = main
main_of_clean (clean.Child path main done r) = main
main_of_clean (clean.Tomb path main done child) = main
main_of_clean (clean.Contracted path main done) = main

abbrev pub done_of_clean : CleanLine → List Ref
done_of_clean (clean.Read path r) = []
done_of_clean (clean.Main path main) = []
done_of_clean (clean.Entry path main done) = done
done_of_clean (clean.Child path main done r) = done
done_of_clean (clean.Tomb path main done child) = done
done_of_clean (clean.Contracted path main done) = done

-- what is named by a node but an indirection are its entries
pub named_entry : (n : Node) → IsNoLink n → (x : Ref) → Contains (refs_of_node n) x → Contains (entries_of n) x
named_entry (Indirection g w) not x c = absurd (not g w refl)
named_entry (Branch b es) not x c = c
named_entry (Single k v) not x c = c
named_entry (Tomb s) not x c = c
named_entry (Listed ss) not x c = c

module _ {limits : Bounds} {states : ℕ → State} {last : ℕ} (run : IsRun limits states last) where
  -- each reference in what is private is private, or comes from the main node
  abbrev pub AllFrom : (t actor id : ℕ) → Option ℕ → List Ref → Ref → Type 0
  AllFrom t actor id generation own main =
      (y x : Ref) → Contains own y → Contains (refs_of_slot (grown states t y)) x → Contains own x ⊎ IsFrom run t actor id generation main x

  -- and so is each entry that is done
  abbrev pub DoneFrom : (t actor id : ℕ) → Option ℕ → List Ref → Ref → List Ref → Type 0
  DoneFrom t actor id generation own main done = (d : Ref) → Contains done d → Contains own d ⊎ IsFrom run t actor id generation main d

  -- what is private are indirections of the operation's generation
  abbrev pub AreLinks : Option ℕ → List Ref → Type 0
  AreLinks generation own = (y : Ref) → Contains own y → (start : ℕ) × (word : Ref) × (generation ≡ Some start) × (node_under states last y ≡ Indirection start word)

  -- what a line of BUILD made last is private
  abbrev pub ChangeHas : List Ref → Change → Type 0
  ChangeHas own (change.Insert single) = Contains own single
  ChangeHas own (change.Update position entry) = Contains own entry
  ChangeHas own (change.Remove position) = Unit {0}
  ChangeHas own (change.Entomb single) = Unit {0}

  abbrev pub BuildHas : List Ref → BuildLine → Type 0
  BuildHas own (build.Single path main s former) = Unit {0}
  BuildHas own (build.Pair path main position single depth) = Contains own single
  BuildHas own (build.Link path main position below depth) = Contains own below
  BuildHas own (build.Rung path main position below depth) = Contains own below
  BuildHas own (build.Main path main c former) = ChangeHas own c

  -- before a fresh main node is swapped in; of a CLIMB's more is known elsewhere
  abbrev pub FreshHas : (t actor id : ℕ) → Option ℕ → List Ref → Purpose → Ref → Type 0
  FreshHas t actor id generation own (purpose.Climb c) replaced = Unit {0}
  FreshHas t actor id generation own why replaced = AllFrom t actor id generation own replaced

  abbrev pub SwapHas : (t actor id : ℕ) → Option ℕ → List Ref → Purpose → Ref → SwapLine → Type 0
  SwapHas t actor id generation own why replaced swap.Publish = FreshHas t actor id generation own why replaced
  SwapHas t actor id generation own why replaced l = own ≡ []

  -- COPY makes what it offers, and publishes nothing by a SWAP
  abbrev pub CopyHas : List Ref → CopyLine → Type 0
  CopyHas own (copy.Read root r) = own ≡ []
  CopyHas own (copy.Complete c) = own ≡ []
  CopyHas own l = Unit {0}

  abbrev pub LineHas : (t actor id : ℕ) → Option ℕ → List Ref → Line → Type 0
  LineHas t actor id generation own (line.Root l) = own ≡ []
  LineHas t actor id generation own (line.Key l) = own ≡ []
  LineHas t actor id generation own (line.Build l) = AllFrom t actor id generation own (main_of_build l) × BuildHas own l
  LineHas t actor id generation own (line.Swap why s) = SwapHas t actor id generation own why s.replaced s.line
  LineHas t actor id generation own (line.Renew l) =
      AllFrom t actor id generation own (main_of_renew l) × AreLinks generation own × DoneFrom t actor id generation own (main_of_renew l) (done_of_renew l)
  LineHas t actor id generation own (line.Clean l) = (own ≡ []) × DoneFrom t actor id generation own (main_of_clean l) (done_of_clean l)
  LineHas t actor id generation own (line.Copy l) = CopyHas own l
  LineHas t actor id generation own l = Unit {0}

  -- ---- where nothing is private

  pub none_from : (t actor id : ℕ) (generation : Option ℕ) (own : List Ref) (main : Ref) → own ≡ [] → AllFrom t actor id generation own main
  none_from t actor id generation own main none y x c = absurd (no_entry y (subst (λ xs. Contains xs y) none c))

  pub none_links : (generation : Option ℕ) (own : List Ref) → own ≡ [] → AreLinks generation own
  none_links generation own none y c = absurd (no_entry y (subst (λ xs. Contains xs y) none c))

  pub none_done : (t actor id : ℕ) (generation : Option ℕ) (own : List Ref) (main : Ref) → DoneFrom t actor id generation own main []
  none_done t actor id generation own main d c = absurd (no_entry d c)

  -- ---- one step later

  module _ (t actor id : ℕ) (generation : Option ℕ) (own : List Ref) where
    own_later : (main x : Ref) → Contains own x ⊎ IsFrom run t actor id generation main x → Contains own x ⊎ IsFrom run (suc t) actor id generation main x
    own_later main x (inl c) = inl c
    own_later main x (inr f) = inr (from_later run t actor id generation main x f)

    pub done_later : (main : Ref) (done : List Ref) → DoneFrom t actor id generation own main done → DoneFrom (suc t) actor id generation own main done
    done_later main done h d c = own_later main d (h d c)

    -- one more is done
    pub done_more : (main : Ref) (done : List Ref) (e : Ref) → DoneFrom t actor id generation own main done → Contains own e ⊎ IsFrom run t actor id generation main e →
        DoneFrom t actor id generation own main (done ++ e ∷ [])
    done_more main done e h is d c = by_cases (Contains-push_cases done e d c)
      where
        by_cases : Contains done d ⊎ (e ≡ d) → Contains own d ⊎ IsFrom run t actor id generation main d
        by_cases (inl before) = h d before
        by_cases (inr same) = subst (λ x. Contains own x ⊎ IsFrom run t actor id generation main x) same is

    -- what is private stays as it is
    module _ (same : (y : Ref) → Contains own y → grown states (suc t) y ≡ grown states t y) where
      pub all_later : (main : Ref) → AllFrom t actor id generation own main → AllFrom (suc t) actor id generation own main
      all_later main h y x c names = own_later main x (h y x c (subst (λ o. Contains (refs_of_slot o) x) (same y c) names))

      fresh_later : (why : Purpose) (replaced : Ref) → FreshHas t actor id generation own why replaced → FreshHas (suc t) actor id generation own why replaced
      fresh_later (purpose.Climb c) replaced h = tt
      fresh_later (purpose.Update path former) replaced h = all_later replaced h
      fresh_later (purpose.Renew path) replaced h = all_later replaced h
      fresh_later purpose.Clean replaced h = all_later replaced h

      swap_later : (why : Purpose) (replaced : Ref) (l : SwapLine) → SwapHas t actor id generation own why replaced l → SwapHas (suc t) actor id generation own why replaced l
      swap_later why replaced swap.Publish h = fresh_later why replaced h
      swap_later why replaced (swap.Deciding l) h = h
      swap_later why replaced swap.Check h = h

      pub line_later : (l : Line) → LineHas t actor id generation own l → LineHas (suc t) actor id generation own l
      line_later (line.Root l) h = h
      line_later (line.Key l) h = h
      line_later (line.Build l) h = (all_later (main_of_build l) h.0, h.1)
      line_later (line.Swap why s) h = swap_later why s.replaced s.line h
      line_later (line.Renew l) h = (all_later (main_of_renew l) h.0, h.1, done_later (main_of_renew l) (done_of_renew l) h.2)
      line_later (line.Clean l) h = (h.0, done_later (main_of_clean l) (done_of_clean l) h.1)
      line_later (line.Climb l) h = tt
      line_later (line.Copy l) h = h
      line_later (line.Walk l) h = tt
      line_later (line.End answer) h = tt
      line_later line.Impossible h = tt

    -- ---- one node more

    module _ (made_before : (y : Ref) → Contains own y → is_some (grown states t y) ≡ true) (made : Ref) (n : Node) (takes : GrownTakes states t made n) where
      more : (main x : Ref) → Contains own x ⊎ IsFrom run t actor id generation main x → Contains (own ++ made ∷ []) x ⊎ IsFrom run (suc t) actor id generation main x
      more main x (inl c) = inl (Contains-append_left own (made ∷ []) x c)
      more main x (inr f) = inr (from_later run t actor id generation main x f)

      pub done_made : (main : Ref) (done : List Ref) → DoneFrom t actor id generation own main done → DoneFrom (suc t) actor id generation (own ++ made ∷ []) main done
      done_made main done h d c = more main d (h d c)

      pub all_made : (main : Ref) → AllFrom t actor id generation own main →
          ((x : Ref) → Contains (refs_of_node n) x → Contains own x ⊎ IsFrom run t actor id generation main x) → AllFrom (suc t) actor id generation (own ++ made ∷ []) main
      all_made main h its y x c names = by_cases (Contains-push_cases own made y c)
        where
          by_cases : Contains own y ⊎ (made ≡ y) → Contains (own ++ made ∷ []) x ⊎ IsFrom run (suc t) actor id generation main x
          by_cases (inl before) =
              let still = takes.elsewhere y (λ same. true≢false (sym (made_before y before) ∙ ap (λ r. is_some (grown states t r)) same ∙ ap is_some takes.new)) in
              more main x (h y x before (subst (λ o. Contains (refs_of_slot o) x) still names))
          by_cases (inr same) =
              elim (Contains-append_cases (refs_of_node n) [] x
              (subst (λ o. Contains (refs_of_slot o) x) takes.here (subst (λ r. Contains (refs_of_slot (grown states (suc t) r)) x) (sym same) names))) [
                | inl in_node ↦ more main x (its x in_node)
                | inr none ↦ absurd (no_entry x none)
              ]
