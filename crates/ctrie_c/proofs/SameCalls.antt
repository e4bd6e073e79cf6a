-- What tells whether two calls are the same one.
use Rattle.std.proofs.Common.{◌≡◌, ◌==◌, ◌&&◌, Bool, true, false, refl, sym, ap, ◌∙◌, eqb-true, eq-eqb}
use Rattle.std.proofs.lemmas.Bool.{true≢false, and_parts}
use Rattle.history.specs.declared.calls.Call.{Call}
use Rattle.history.specs.declared.calls.Call.TheVariants.{Get, Put, PutIfAbsent, Replace, ReplaceIf, Remove, RemoveIf, Clear, Snapshot, Freeze, Close, Entries, Count}
use Rattle.ctrie_c.specs.SameCalls.{are_same}

both : (p q : Bool) → p ≡ true → q ≡ true → p && q ≡ true
both p q e f = ap (λ b. b && q) e ∙ f

pub same_calls : (a b : Call) → are_same a b ≡ true → a ≡ b
same_calls (Get h k) (Get i l) e = let q1 = and_parts (h == i) (k == l) e in λ t. Get (eqb-true h i q1.0 t) (eqb-true k l q1.1 t)
same_calls (Put h k v) (Put i l w) e =
    let q2 = and_parts ((h == i) && (k == l)) (v == w) e in
    let q1 = and_parts (h == i) (k == l) q2.0 in
    λ t. Put (eqb-true h i q1.0 t) (eqb-true k l q1.1 t) (eqb-true v w q2.1 t)
same_calls (PutIfAbsent h k v) (PutIfAbsent i l w) e =
    let q2 = and_parts ((h == i) && (k == l)) (v == w) e in
    let q1 = and_parts (h == i) (k == l) q2.0 in
    λ t. PutIfAbsent (eqb-true h i q1.0 t) (eqb-true k l q1.1 t) (eqb-true v w q2.1 t)
same_calls (Replace h k v) (Replace i l w) e =
    let q2 = and_parts ((h == i) && (k == l)) (v == w) e in
    let q1 = and_parts (h == i) (k == l) q2.0 in
    λ t. Replace (eqb-true h i q1.0 t) (eqb-true k l q1.1 t) (eqb-true v w q2.1 t)
same_calls (ReplaceIf h k v u) (ReplaceIf i l w x) e =
    let q3 = and_parts ((h == i) && (k == l) && (v == w)) (u == x) e in
    let q2 = and_parts ((h == i) && (k == l)) (v == w) q3.0 in
    let q1 = and_parts (h == i) (k == l) q2.0 in
    λ t. ReplaceIf (eqb-true h i q1.0 t) (eqb-true k l q1.1 t) (eqb-true v w q2.1 t) (eqb-true u x q3.1 t)
same_calls (Remove h k) (Remove i l) e = let q1 = and_parts (h == i) (k == l) e in λ t. Remove (eqb-true h i q1.0 t) (eqb-true k l q1.1 t)
same_calls (RemoveIf h k v) (RemoveIf i l w) e =
    let q2 = and_parts ((h == i) && (k == l)) (v == w) e in
    let q1 = and_parts (h == i) (k == l) q2.0 in
    λ t. RemoveIf (eqb-true h i q1.0 t) (eqb-true k l q1.1 t) (eqb-true v w q2.1 t)
same_calls (Clear h) (Clear i) e = ap Clear (eqb-true h i e)
same_calls (Snapshot h) (Snapshot i) e = ap Snapshot (eqb-true h i e)
same_calls (Freeze h) (Freeze i) e = ap Freeze (eqb-true h i e)
same_calls (Close h) (Close i) e = ap Close (eqb-true h i e)
same_calls (Entries h) (Entries i) e = ap Entries (eqb-true h i e)
same_calls (Count h) (Count i) e = ap Count (eqb-true h i e)
same_calls a b e = absurd (true≢false (sym e))

-- a call is the same as itself
same_itself : (a : Call) → are_same a a ≡ true
same_itself (Get h k) = both (h == h) (k == k) (eq-eqb h h refl) (eq-eqb k k refl)
same_itself (Put h k v) = both ((h == h) && (k == k)) (v == v) (both (h == h) (k == k) (eq-eqb h h refl) (eq-eqb k k refl)) (eq-eqb v v refl)
same_itself (PutIfAbsent h k v) = both ((h == h) && (k == k)) (v == v) (both (h == h) (k == k) (eq-eqb h h refl) (eq-eqb k k refl)) (eq-eqb v v refl)
same_itself (Replace h k v) = both ((h == h) && (k == k)) (v == v) (both (h == h) (k == k) (eq-eqb h h refl) (eq-eqb k k refl)) (eq-eqb v v refl)
same_itself (ReplaceIf h k v u) =
    both ((h == h) && (k == k) && (v == v)) (u == u) (both ((h == h) && (k == k)) (v == v) (both (h == h) (k == k) (eq-eqb h h refl) (eq-eqb k k refl)) (eq-eqb v v refl)) (eq-eqb u u refl)
same_itself (Remove h k) = both (h == h) (k == k) (eq-eqb h h refl) (eq-eqb k k refl)
same_itself (RemoveIf h k v) = both ((h == h) && (k == k)) (v == v) (both (h == h) (k == k) (eq-eqb h h refl) (eq-eqb k k refl)) (eq-eqb v v refl)
same_itself (Clear h) = eq-eqb h h refl
same_itself (Snapshot h) = eq-eqb h h refl
same_itself (Freeze h) = eq-eqb h h refl
same_itself (Close h) = eq-eqb h h refl
same_itself (Entries h) = eq-eqb h h refl
same_itself (Count h) = eq-eqb h h refl

pub other_calls : (a b : Call) → are_same a b ≡ false → a ≡ b → ⊥
other_calls a b e same = true≢false (sym (same_itself a) ∙ ap (are_same a) same ∙ e)
