-- The operations that run, told from the list that is kept, and from the history.
use Rattle.std.proofs.Common.{◌≡◌, ℕ, ◌<◌, List, [], ◌∷◌, ◌++◌, length, refl, sym, subst, eq-eqb, Option, Bool, true, false, eqb, ◌⊎◌, inl, inr, arith}
use Rattle.std.specs.Prelude.{not}
use Rattle.std.proofs.lemmas.Bool.{eqb-true}
use Rattle.std.proofs.Math.Seq.{take-append_seam}
use Rattle.history.specs.declared.calls.Call.{Call}
use Rattle.history.specs.declared.replies.Reply.{Reply}
use Rattle.history.specs.declared.events.Event.{Event}
use Rattle.history.specs.declared.events.Event.TheVariants.{Begin, End}
use Rattle.history.specs.Histories.{Operation, BeginsAt, EndsAt, IsRunning, begun, OpensRightly, MayFollow, IsWellFormed}
use Rattle.history_text.specs.Running.{running, is_running, is_busy}
use Rattle.history_text.proofs.Runs.{running_push}
use Rattle.history.proofs.Begins.{begun_push, begun_same}
use Rattle.history.proofs.Places.{at_cases, at_front, at_seam}
use Rattle.history.proofs.Among.{Among, among_left, among_right, among_filter, filter_among}
use Rattle.history_text.proofs.Among.{among_push, any_among, among_any}

-- the list that is kept has just the operations that run, and only ids that have begun are known
pub record Tied (es : List Event) : Type 0 where
  pub runs : (id actor : ℕ) → Among (id, actor) (running es) → IsRunning es id actor
  pub listed : (id actor : ℕ) → IsRunning es id actor → Among (id, actor) (running es)
  pub known : (place id : ℕ) (op : Operation) → BeginsAt es place id op → id < begun es
  pub ended : (place id : ℕ) (answer : Reply) → EndsAt es place id answer → id < begun es

pub tied_nil : Tied []
tied_nil = record {
  runs = λ id actor m. absurd m;
  listed = λ id actor r. let b = r.0.2 in absurd cc;
  known = λ place id op b. absurd cc;
  ended = λ place id answer b. absurd cc;
}

begins_before : (es : List Event) (e : Event) (place id : ℕ) (op : Operation) → BeginsAt (es ++ e ∷ []) place id op → BeginsAt es place id op ⊎ (e ≡ Begin id op.actor op.call op.opens)
begins_before es e place id op b = elim (at_cases es e place (Begin id op.actor op.call op.opens) b) [ inl h ↦ inl h | inr h ↦ inr h.1 ]

ends_before : (es : List Event) (e : Event) (place id : ℕ) (answer : Reply) → EndsAt (es ++ e ∷ []) place id answer → EndsAt es place id answer ⊎ (e ≡ End id answer)
ends_before es e place id answer b = elim (at_cases es e place (End id answer) b) [ inl h ↦ inl h | inr h ↦ inr h.1 ]

-- A begin.

begin_runs : (es : List Event) (n a : ℕ) (c : Call) (o : Option ℕ) → Tied es → n ≡ begun es → (id actor : ℕ) → Among (id, actor) (running es) ⊎ (◌≡◌ {A = ℕ × ℕ} (n, a) (id, actor))
    → IsRunning (es ++ Begin n a c o ∷ []) id actor
begin_runs es n a c o t next id actor (inl m) =
    let r = t.runs id actor m in (
      (r.0.0, r.0.1, at_front es (Begin n a c o ∷ []) r.0.0 _ r.0.2, r.0.3),
      λ answer h. elim (ends_before es (Begin n a c o) h.0 id answer h.1) [ inl g ↦ r.1 answer (h.0, g) | inr g ↦ absurd cc ],
    )
begin_runs es n a c o t next id actor (inr e) =
    subst (λ (p : ℕ × ℕ). IsRunning (es ++ Begin n a c o ∷ []) p.0 p.1) e (
      (length es, record { actor = a; call = c; opens = o }, at_seam es [] (Begin n a c o), refl),
      λ answer h. elim (ends_before es (Begin n a c o) h.0 n answer h.1) [ inl g ↦ absurd (omega (arith, t.ended h.0 n answer g)) | inr g ↦ absurd cc ],
    )

begin_pair : (n a id actor : ℕ) (c d : Call) (o p : Option ℕ) → Begin n a c o ≡ Begin id actor d p → (n ≡ id) × (a ≡ actor)
begin_pair n a id actor c d o p e = (cc, cc)

pair_same : (n a id b actor : ℕ) → n ≡ id → a ≡ b → b ≡ actor → ◌≡◌ {A = ℕ × ℕ} (n, a) (id, actor)
pair_same n a id b actor p q r = cc

tied_begin : (es : List Event) (n a : ℕ) (c : Call) (o : Option ℕ) → Tied es → n ≡ begun es → Tied (es ++ Begin n a c o ∷ [])
tied_begin es n a c o t next =
    let e = Begin n a c o in
    let more = begun_push es (Begin n a c o) refl in
    record {
      runs = λ id actor m. begin_runs es n a c o t next id actor (among_push (id, actor) (running es) (n, a) (subst (λ (l : List (ℕ × ℕ)). Among (id, actor) l) (running_push es e) m));
      listed = λ id actor r. subst (λ (l : List (ℕ × ℕ)). Among (id, actor) l) (sym (running_push es e))
          (elim (begins_before es e r.0.0 id r.0.1 r.0.2) [
            | inl b ↦ among_left (running es) ((n, a) ∷ []) (id, actor) (t.listed id actor ((r.0.0, r.0.1, b, r.0.3), λ answer h. r.1 answer (h.0, at_front es (e ∷ []) h.0 _ h.1)))
            | inr s ↦
                let q = begin_pair n a id r.0.1.actor c r.0.1.call o r.0.1.opens s in
                among_right (running es) ((n, a) ∷ []) (id, actor) (inl (sym (pair_same n a id r.0.1.actor actor q.0 q.1 r.0.3)))
          ]);
      known = λ place id op b. elim (begins_before es e place id op b)
          [ inl g ↦ omega (arith, t.known place id op g, more) | inr s ↦ (let q = begin_pair n a id op.actor c op.call o op.opens s in omega (arith, q.0, next, more)) ];
      ended = λ place id answer b. elim (ends_before es e place id answer b) [ inl g ↦ omega (arith, t.ended place id answer g, more) | inr s ↦ absurd cc ];
    }

-- An end.

end_id : (n id : ℕ) (a b : Reply) → End n a ≡ End id b → n ≡ id
end_id n id a b e = cc

clash : (b : Bool) → b ≡ true → not b ≡ true → ⊥
clash true p q = absurd cc
clash false p q = absurd cc

apart : (b : Bool) → (b ≡ true → ⊥) → not b ≡ true
apart true p = absurd (p refl)
apart false p = refl

tied_end : (es : List Event) (n : ℕ) (a : Reply) → Tied es → (x : ℕ) → IsRunning es n x → Tied (es ++ End n a ∷ [])
tied_end es n a t x run =
    let e = End n a in
    let test : ℕ × ℕ → Bool = λ one. not (eqb one.0 n) in
    let same = begun_same es (End n a) refl in
    let n_known = t.known run.0.0 n run.0.1 run.0.2 in
    record {
      runs = λ id actor m.
          (let f = among_filter test (running es) (id, actor) (subst (λ (l : List (ℕ × ℕ)). Among (id, actor) l) (running_push es e) m) in
          let r = t.runs id actor f.0 in (
            (r.0.0, r.0.1, at_front es (e ∷ []) r.0.0 _ r.0.2, r.0.3),
            λ answer h. elim (ends_before es e h.0 id answer h.1) [ inl g ↦ r.1 answer (h.0, g) | inr s ↦ clash (eqb id n) (eq-eqb id n (sym (end_id n id a answer s))) f.1 ],
          ));
      listed = λ id actor r. subst (λ (l : List (ℕ × ℕ)). Among (id, actor) l) (sym (running_push es e))
          (filter_among test (running es) (id, actor)
          (elim (begins_before es e r.0.0 id r.0.1 r.0.2) [
            | inl b ↦ t.listed id actor ((r.0.0, r.0.1, b, r.0.3), λ answer h. r.1 answer (h.0, at_front es (e ∷ []) h.0 _ h.1))
            | inr s ↦ absurd cc
          ])
          (apart (eqb id n) (λ q. r.1 a (length es, subst (λ (i : ℕ). EndsAt (es ++ e ∷ []) (length es) i a) (sym (eqb-true id n q)) (at_seam es [] e)))));
      known = λ place id op b. elim (begins_before es e place id op b) [ inl g ↦ omega (arith, t.known place id op g, same) | inr s ↦ absurd cc ];
      ended = λ place id answer b. elim (ends_before es e place id answer b)
          [ inl g ↦ omega (arith, t.ended place id answer g, same) | inr s ↦ (let q = end_id n id a answer s in omega (arith, q, n_known, same)) ];
    }

pub tied_push : (es : List Event) (e : Event) → Tied es → MayFollow es e → Tied (es ++ e ∷ [])
tied_push es (Begin id actor call opens) t may = tied_begin es id actor call opens t may.0
tied_push es (End id answer) t may = tied_end es id answer t may.0 may.1

-- What is tested of the list says what the history must say.

busy_runs : (es : List Event) (actor : ℕ) → Tied es → (id : ℕ) → IsRunning es id actor → is_busy es actor ≡ true
busy_runs es actor t id r = among_any (λ one. eqb one.1 actor) (id, actor) (running es) (t.listed id actor r) (eq-eqb actor actor refl)

pub begin_may : (es : List Event) (id actor : ℕ) (call : Call) (opens : Option ℕ) → Tied es → id ≡ begun es → is_busy es actor ≡ false → OpensRightly call opens
    → MayFollow es (Begin id actor call opens)
begin_may es id actor call opens t next idle rightly = (next, rightly, λ other r. let b = busy_runs es actor t other r in absurd cc)

pub end_may : (es : List Event) (id : ℕ) (answer : Reply) → Tied es → is_running es id ≡ true → MayFollow es (End id answer)
end_may es id answer t h =
    let f = any_among (λ one. eqb one.0 id) (running es) h in
    (f.0.1, subst (λ (i : ℕ). IsRunning es i f.0.1) (eqb-true f.0.0 id f.2) (t.runs f.0.0 f.0.1 f.1))

not_busy : (b : Bool) → (b ≡ true → ⊥) → b ≡ false
not_busy true p = absurd (p refl)
not_busy false p = refl

pub may_begin : (es : List Event) (id actor : ℕ) (call : Call) (opens : Option ℕ) → Tied es → MayFollow es (Begin id actor call opens) → is_busy es actor ≡ false
may_begin es id actor call opens t may =
    not_busy (is_busy es actor) (λ h. let f = any_among (λ one. eqb one.1 actor) (running es) h in
    may.2 f.0.0 (subst (λ (a : ℕ). IsRunning es f.0.0 a) (eqb-true f.0.1 actor f.2) (t.runs f.0.0 f.0.1 f.1)))

pub may_end : (es : List Event) (id : ℕ) (answer : Reply) → Tied es → MayFollow es (End id answer) → is_running es id ≡ true
may_end es id answer t may = among_any (λ one. eqb one.0 id) (id, may.0) (running es) (t.listed id may.0 may.1) (eq-eqb id id refl)

-- Well-formed histories, event by event.

pub well_nil : IsWellFormed []
well_nil place event e = absurd cc

pub well_next : (es : List Event) (e : Event) (more : List Event) → IsWellFormed (es ++ e ∷ more) → MayFollow es e
well_next es e more well = subst (λ (l : List Event). MayFollow l e) (take-append_seam es (e ∷ more)) (well (length es) e (at_seam es more e))
