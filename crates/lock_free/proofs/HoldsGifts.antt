-- Who gives up what it has made holds what these nodes named of others.
use Rattle.history.specs.declared.calls.Call.{Call}
use Rattle.std.proofs.Common.{◌≡◌, ◌≤◌, ◌==◌, ◌&&◌, not, inl, inr, ℕ, zero, suc, Bool, true, false, List, [], ◌∷◌, Contains, cond, count_by, refl, sym, ap, arith, eq-eqb, eqb-true, ne_eqb}
use Rattle.std.proofs.lemmas.Bool.{cases_Bool, true≢false}
use Rattle.std.proofs.lemmas.List.Elements.{Contains-append_right}
use Rattle.std.proofs.lemmas.List.Sums.{sum_by-append, sum_by-cons}
use Rattle.atomic_table.specs.Table as Table
use Rattle.machine_model.specs.Beneath.slot_arena.specs.declared.refs.Ref.{Ref}
use Rattle.machine_model.specs.Beneath.slot_arena.specs.Heaps.{node_at, refs_of_node}
use Rattle.machine_model.specs.declared.lines.Line.{Line}
use Rattle.machine_model.specs.declared.lines.Line.TheVariants as line
use Rattle.machine_model.specs.declared.operations.Operation.{Operation}
use Rattle.machine_model.specs.States.{State}
use Rattle.proof_claims.proofs.Differing.{count_one}
use Rattle.proof_claims.proofs.Lists.{among, found_in}
use Rattle.proof_claims.proofs.NamesOnce.{names_once}
use Rattle.proof_claims.specs.Changes.{given_up}
use Rattle.proof_claims.specs.Held.{Held, gives, is_in, is_owned}
use Rattle.proof_claims.specs.Left.{holds_made, names, takes_at, takes_over, times_made}
use Rattle.proof_commits.specs.Runs.{HasIndirection}
use Rattle.proof_memory.proofs.Claims.Uses.{meets_of, safe_of}
use Rattle.proof_memory.specs.Laws.{IsInUse}
use Rattle.lock_free.specs.declared.accounts.Account.{Account}
use Rattle.lock_free.specs.declared.rules.View.{View}
use Rattle.lock_free.specs.Accounts.{bounds_for, running, state_of}
use Rattle.lock_free.specs.Claims.{held_now, owed_beside}
use Rattle.lock_free.specs.Counts.{how_often}
use Rattle.lock_free.specs.LettingGo.{all_of, names_of, AreOthers, AreOthersOf, HasItself, HoldsGivenUp}
use Rattle.lock_free.specs.Live.{IsLive, from_operation, line_claims, refs_of_claims}
use Rattle.lock_free.specs.Loading.{seen}
use Rattle.lock_free.specs.Owing.{owes_given_up}
use Rattle.lock_free.specs.Rules.{IsKept}
use Rattle.lock_free.proofs.ClaimsThere.{often_has}
use Rattle.lock_free.proofs.Gifts.{times}
use Rattle.lock_free.proofs.NamesStay.{swap_live}
use Rattle.lock_free.proofs.OneStep.Found.{live_used}
use Rattle.lock_free.proofs.Pools.{first_there, more_there}

none_and : (a b : Bool) → b ≡ false → (a && b) ≡ false
none_and true b e = e
none_and false b e = refl

both_so : (a b : Bool) → a ≡ true → b ≡ false → (a && not b) ≡ true
both_so true false p q = refl
both_so true true p q = absurd (true≢false q)
both_so false b p q = absurd (true≢false (sym p))

not_in : (ks : List Ref) (k : Ref) → (Contains ks k → ⊥) → is_in ks k ≡ false
not_in ks k none = elim (cases_Bool (is_in ks k)) [ inl is ↦ absurd (none (among ks k is)) | inr isnt ↦ isnt ]

module _ (v : View) (s : Table.State Call View) (kept : IsKept v.sizes s) (o : Operation) (runs : running v.sizes kept.account v.actor o) where
  abbrev there : Account
  there = kept.account

  abbrev state : State
  state = state_of v.sizes there

  abbrev held : Held
  held = held_now v.sizes there

  -- as it stood then
  abbrev then : View
  then = seen v there

  takes_none : (x k : Ref) (l : Line) → o.line ≡ l → HasItself then l x k → takes_at state held l x k ≡ false
  takes_none x k (line.Swap why w) on (inl other) = ap (λ b. b && takes_over state held w.indirection w.replaced k) (ne_eqb w.fresh x other)
  takes_none x k (line.Swap why w) on (inr (inl shared)) =
      let lives = swap_live v.sizes there kept.bounds v.actor o runs why w on in
      let link : HasIndirection state w.indirection = (live_used v.sizes there kept.bounds w.indirection (safe_of lives.0), meets_of lives.0) in
      let none = kept.held.owns w.indirection w.replaced false link (live_used v.sizes there kept.bounds w.replaced (safe_of lives.1.0)) shared in
      none_and (w.fresh == x) (takes_over state held w.indirection w.replaced k) (ap (λ b. b && names state w.replaced k) none)
  takes_none x k (line.Swap why w) on (inr (inr apart)) =
      let none = not_in (refs_of_node (node_at state.heap w.replaced)) k apart in
      none_and (w.fresh == x) (takes_over state held w.indirection w.replaced k) (none_and (is_owned held w.indirection w.replaced) (names state w.replaced k) none)
  takes_none x k l on itself = refl

  private_lives : (q : Ref) → Contains o.private q → IsLive state q
  private_lives q c = from_operation v.actor o q runs tt (Contains-append_right (refs_of_claims (line_claims state o)) o.private q c)

  -- whose claims are given, one that it names once
  held_by_it : (x k : Ref) → Contains o.private x → (ks : List Ref) → AreOthers then o.private o.line x ks → how_often k ks ≤ cond {A = ℕ} (holds_made state held o x k) 1 0
  held_by_it x k mine ks h = by (how_often k ks) refl
    where
      used : IsInUse state.heap x
      used = live_used v.sizes there kept.bounds x (private_lives x mine)

      by : (n : ℕ) → how_often k ks ≡ n → how_often k ks ≤ cond {A = ℕ} (holds_made state held o x k) 1 0
      by zero e = omega (arith, e)
      by (suc n) e =
          let has = often_has k ks (omega (arith, e)) in
          let most = h.named k in
          let there_too = often_has k (names_of then x) (omega (arith, most, e)) in
          let once = count_one (λ (y : Ref). y == k) (refs_of_node (node_at state.heap x)) (names_once (bounds_for v.sizes there.steps) kept.bounds there.steps kept.keys x used) k there_too
          (eq-eqb k k refl) (λ y c q. eqb-true y k q) in
          let made = both_so (names state x k) (takes_at state held o.line x k) (found_in (refs_of_node (node_at state.heap x)) k there_too)
          (takes_none x k o.line refl (h.itself k has)) in
          let one = ap {B = ℕ} (λ b. cond {A = ℕ} b 1 0) made in
          omega (arith, most, once, one)

  as_given : (k : Ref) (xs : List Ref) (kss : List (List Ref)) → ((x : Ref) → Contains xs x → Contains o.private x) → AreOthersOf then o.private o.line xs kss →
      how_often k (all_of kss) ≤ count_by (λ (x : Ref). holds_made state held o x k) xs
  as_given k [] [] among_them are = omega arith
  as_given k [] (ks ∷ kss) among_them are = absurd are
  as_given k (x ∷ xs) [] among_them are = absurd are
  as_given k (x ∷ xs) (ks ∷ kss) among_them are =
      let first = held_by_it x k (among_them x (first_there x xs)) ks are.0 in
      let rest = as_given k xs kss (λ y c. among_them y (more_there x xs y c)) are.1 in
      let all = sum_by-append (λ (y : Ref). cond {A = ℕ} (y == k) 1 0) ks (all_of kss) in
      let counted = sum_by-cons (λ (y : Ref). cond {A = ℕ} (holds_made state held o y k) 1 0) x xs in
      omega (arith, first, rest, all, counted)

  -- of what it has made itself there is none
  none_own : (k : Ref) → Contains o.private k → (xs : List Ref) (kss : List (List Ref)) → AreOthersOf then o.private o.line xs kss → how_often k (all_of kss) ≡ 0
  none_own k own [] [] are = omega arith
  none_own k own [] (ks ∷ kss) are = absurd are
  none_own k own (x ∷ xs) [] are = absurd are
  none_own k own (x ∷ xs) (ks ∷ kss) are =
      let first = by (how_often k ks) refl in
      let rest = none_own k own xs kss are.1 in
      let all = sum_by-append (λ (y : Ref). cond {A = ℕ} (y == k) 1 0) ks (all_of kss) in
      omega (arith, first, rest, all)
    where
      by : (n : ℕ) → how_often k ks ≡ n → how_often k ks ≡ 0
      by zero e = e
      by (suc n) e = absurd (are.0.apart k (often_has k ks (omega (arith, e))) own)

  pub holds_given_up : HoldsGivenUp (seen v kept.account) o.private o.line (owes_given_up v kept.account o.private)
  holds_given_up kss are k = by (is_in o.private k) refl
    where
      more : how_often k (gives (given_up o.private) held.claims) ≤ how_often k (owes_given_up v there o.private)
      more =
          let all = sum_by-append (λ (y : Ref). cond {A = ℕ} (y == k) 1 0) (gives (given_up o.private) held.claims) (owed_beside o.private v.owed) in omega (arith, all)

      by : (b : Bool) → is_in o.private k ≡ b → how_often k (all_of kss) ≤ how_often k (owes_given_up v there o.private)
      by true e = let none = none_own k (among o.private k e) o.private kss are in omega (arith, none)
      by false e =
          let given = times v.sizes there kept.bounds kept.keys v.actor o runs k in
          let made = ap (λ b. times_made b state held o k) e in
          let most = as_given k o.private kss (λ x c. c) are in
          omega (arith, given, made, most, more)
