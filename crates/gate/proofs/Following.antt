-- Logs that go on by a call.
use Rattle.std.specs.Prelude.{◌≡◌, ℕ, ◌≤◌, ◌==◌, List, [], ◌∷◌, ◌++◌}
use Rattle.std.proofs.Common.{refl, sym, ap, subst, ◌∙◌, inl, inr, ne_eqb, append-nil, append_assoc}
use Rattle.std.proofs.lemmas.List.Elements.{filter-append, All-nil, All-cons, All-append, All-same}
use Rattle.gate.specs.declared.objects.Entry.{Entry}
use Rattle.gate.specs.Logs.{Logged, entry, calls_of, Leads, IsLegal, HasFollowed, HasCalled, HasWorked}
use Rattle.gate.specs.Rules.{AreSeated}

-- a call of another seat is none of this one's
one_other : {C A : Type 0} (seat other : ℕ) (call : C) (answer : A) → (other ≡ seat → ⊥) → calls_of seat (entry other call answer ∷ []) ≡ []
one_other seat other call answer apart = rw (ne_eqb other seat apart) refl

module _ {O C A : Type 0} (answers : ℕ → O → C → A → O → Type 0) where
  leads_append : (start middle last : O) (es fs : List (Entry C A)) → Leads answers start es middle → Leads answers middle fs last → Leads answers start (es ++ fs) last
  leads_append start middle last [] fs to on = subst (λ o. Leads answers o fs last) to on
  leads_append start middle last (e ∷ es) fs to on = (to.0, to.1, leads_append to.0 middle last es fs to.2 on)

  pub followed_same : (seat : ℕ) (board : Logged O C A) → HasFollowed answers seat board board
  followed_same seat board = record { first = refl; rest = []; log = sym (append-nil board.log); others = refl; leads = refl }

  -- where another seat calls
  followed_on : (seat other : ℕ) (call : C) (answer : A) (seen board now : Logged O C A) → (other ≡ seat → ⊥) → HasFollowed answers seat seen board →
      HasCalled answers other call answer board now → HasFollowed answers seat seen now
  followed_on seat other call answer seen board now apart followed called =
      let one = entry other call answer ∷ [] in
      record {
        first = called.first ∙ followed.first;
        rest = followed.rest ++ one;
        log = called.log ∙ ap (λ xs. xs ++ one) followed.log ∙ append_assoc seen.log followed.rest one;
        others = filter-append (λ (e : Entry C A). e.seat == seat) followed.rest one ∙ ap (λ xs. xs ++ calls_of seat one) followed.others
            ∙ one_other seat other call answer apart;
        leads = leads_append seen.object board.object now.object followed.rest one followed.leads (now.object, called.answered, refl);
      }

  pub still_followed : (seat other : ℕ) (seen board now : Logged O C A) → (other ≡ seat → ⊥) → HasFollowed answers seat seen board → HasWorked answers other board now →
      HasFollowed answers seat seen now
  still_followed seat other seen board now apart followed (inl same) = subst (λ b. HasFollowed answers seat seen b) (sym same) followed
  still_followed seat other seen board now apart followed (inr c) = followed_on seat other c.0 c.1 seen board now apart followed c.2

  -- the first object stays
  pub first_stays : (seat : ℕ) (board now : Logged O C A) → HasWorked answers seat board now → now.first ≡ board.first
  first_stays seat board now (inl same) = ap (λ (b : Logged O C A). b.first) same
  first_stays seat board now (inr c) = c.2.first

  pub still_legal : (seat : ℕ) (board now : Logged O C A) → IsLegal answers board → HasWorked answers seat board now → IsLegal answers now
  still_legal seat board now legal (inl same) = subst (λ b. IsLegal answers b) (sym same) legal
  still_legal seat board now legal (inr c) =
      let one = entry seat c.0 c.1 ∷ [] in
      let on : Leads answers board.first (board.log ++ one) now.object = leads_append board.first board.object now.object board.log one legal (now.object, c.2.answered, refl) in
      subst (λ o. Leads answers o now.log now.object) (sym c.2.first) (subst (λ es. Leads answers board.first es now.object) (sym c.2.log) on)

  pub still_seated : (seats seat : ℕ) (board now : Logged O C A) → 1 ≤ seat → seat ≤ seats → AreSeated seats board.log → HasWorked answers seat board now → AreSeated seats now.log
  still_seated seats seat board now low high seated (inl same) = subst (λ (b : Logged O C A). AreSeated seats b.log) (sym same) seated
  still_seated seats seat board now low high seated (inr c) =
      let Its : Entry C A → Type 0 = λ e. (1 ≤ e.seat) × (e.seat ≤ seats) in
      let e = entry seat c.0 c.1 in
      All-same Its now.log (board.log ++ e ∷ []) c.2.log (All-append Its board.log (e ∷ []) seated (All-cons Its e [] (low, high) (All-nil Its)))
