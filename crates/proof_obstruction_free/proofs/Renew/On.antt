-- From any of its lines RENEW comes to a SWAP, where one actor alone takes steps.
use Rattle.std.proofs.Common.{◌≡◌, ℕ, suc, ◌+◌, ◌-◌, ◌*◌, ◌≤◌, inl, inr, List, [], ◌∷◌, ◌++◌, length, Some, arith}
use Rattle.std.proofs.lemmas.Nat.{mul-le}
use Rattle.std.proofs.lemmas.List.{length-append}
use Rattle.proof_obstruction_free.specs.Vocabulary.{Ref, entries_of, Read, IsInUse, AMain, Is, done_wants, read_wants}
use Rattle.proof_obstruction_free.specs.Beneath.machine_model.specs.declared.lines.Line.TheVariants as line
use Rattle.proof_obstruction_free.specs.Beneath.machine_model.specs.declared.repairs.RenewLine.TheVariants as renew
use Rattle.proof_obstruction_free.specs.Beneath.proof_memory.proofs.Claims.Uses.{first_hold}
use Rattle.proof_obstruction_free.specs.Alone.{Lone, Stands, Within, IsWeight, node}
use Rattle.proof_obstruction_free.specs.Keys.{IsRenewing, RenewsOn, WasRenewing}
use Rattle.proof_obstruction_free.specs.Machines.{Machines}
use Rattle.proof_obstruction_free.specs.Stepping.{Stepping}
use Rattle.proof_obstruction_free.proofs.Renew.Nodes.{SeesMore, sees_more}
use Rattle.proof_obstruction_free.proofs.Renew.Lines.{GoesOn, link_within, read_on_within}
use Rattle.proof_obstruction_free.proofs.Renew.Comes.{Renews, goes_from, renews_from, renews_branch}
use Rattle.proof_obstruction_free.proofs.Step.Within.{weaken, map, bind, ended}

module _ (a : Lone) (steps : Stepping a) (weight : ℕ → ℕ) (c : ℕ) (heavy : IsWeight a weight) (machines : Machines a weight c) where
  abbrev W : (ℕ → Type 0) → ℕ → ℕ → Type 0
  W = Within a weight

  module _ (g : ℕ) (path : List Ref) (main : Ref) where
    abbrev Comes : ℕ → Type 0
    Comes = WasRenewing a weight c path (Some g)

    comes : (t : ℕ) (done : List Ref) (u : ℕ) → IsRenewing a weight c t g path main (length done) u → Comes u
    comes t done u r = record { main = main; fresh = r.fresh; stands = r.stands }

    from_entry : (done : List Ref) (t : ℕ) → Stands a t (Some g) (line.Renew (renew.Entry path main done)) → SeesMore a steps t main done → W Comes (32 * (c + 2) + 10) t
    from_entry done t s seen =
        let left = length (entries_of (node a main)) - length done in
        let size : length done + left ≡ length (entries_of (node a main)) = omega (arith, seen.more) in
        let few : left * (c + 2) ≤ 32 * (c + 2) = mul-le left (c + 2) 32 (c + 2) (omega (arith, seen.few)) (omega arith) in
        weaken a weight Comes (left * (c + 2) + 2) (32 * (c + 2) + 10) t (omega (arith, few))
        (map a weight (IsRenewing a weight c t g path main (length done)) Comes (left * (c + 2) + 2) t (λ u past within. comes t done u)
        (renews_from a steps weight c heavy machines path main done t g left s size))

    -- after an entry
    on_from : (left : ℕ) (done : List Ref) (t u : ℕ) → length done + suc left ≡ length (entries_of (node a main)) → GoesOn a steps g path main done t u → W Comes (left * (c + 2) + 2) u
    on_from left done t u size (inl x) =
        map a weight (Renews a steps weight c heavy machines g path main (done ++ x.entry ∷ []) u) Comes (left * (c + 2) + 2) u (λ v past within r. comes u (done ++ x.entry ∷ []) v r.to)
        (goes_from a steps weight c heavy machines g path main left (done ++ x.entry ∷ []) u (omega (arith, size, length-append done (x.entry ∷ []))) x.stands)
    on_from left done t u size (inr e) = weaken a weight Comes 1 (left * (c + 2) + 2) u (omega arith) (ended a weight steps Comes u (Some g) e.answer e.stands)

    from_it : (n : ℕ) → n ≤ c + 7 → (done : List Ref) (t : ℕ) → SeesMore a steps t main done → W (GoesOn a steps g path main done t) n t → W Comes (32 * (c + 2) + 10) t
    from_it n low done t seen first =
        let left = length (entries_of (node a main)) - suc (length done) in
        let size : length done + suc left ≡ length (entries_of (node a main)) = omega (arith, seen.more) in
        let few : left * (c + 2) ≤ 31 * (c + 2) = mul-le left (c + 2) 31 (c + 2) (omega (arith, seen.few)) (omega arith) in
        weaken a weight Comes (n + (left * (c + 2) + 2)) (32 * (c + 2) + 10) t (omega (arith, few, low))
        (bind a weight (GoesOn a steps g path main done t) Comes n (left * (c + 2) + 2) t first (λ u past within x. on_from left done t u size x))

    from_read : (done : List Ref) (r : Read) (t : ℕ) → Stands a t (Some g) (line.Renew (renew.Read path main done r)) → W Comes (32 * (c + 2) + 10) t
    from_read done r t s =
        let seen = sees_more a steps t s.until path main done
        (first_hold (IsInUse (a.states t).heap) (a.states t).heap (done_wants path main done) (read_wants r.indirection r.line)
        (steps.wants t (Some g) (line.Renew (renew.Read path main done r)) s)) in
        from_it (c + 7) (omega arith) done t seen (read_on_within a steps g path main done weight c heavy machines r.indirection r.line t s)

    from_link : (done : List Ref) (child : Ref) (t : ℕ) → Stands a t (Some g) (line.Renew (renew.Link path main done child)) → W Comes (32 * (c + 2) + 10) t
    from_link done child t s =
        let seen = sees_more a steps t s.until path main done
        (first_hold (IsInUse (a.states t).heap) (a.states t).heap (done_wants path main done) (Is child AMain ∷ []) (steps.wants t (Some g) (line.Renew (renew.Link path main done child)) s)) in
        from_it 1 (omega arith) done t seen (link_within a steps g path main done weight c heavy machines child t s)

  pub renews_on : RenewsOn a weight c
  renews_on (renew.Entry path main done) t g s =
      from_entry g path main done t s (sees_more a steps t s.until path main done (steps.wants t (Some g) (line.Renew (renew.Entry path main done)) s))
  renews_on (renew.Read path main done r) t g s = from_read g path main done r t s
  renews_on (renew.Link path main done child) t g s = from_link g path main done child t s
  renews_on (renew.Branch path main done) t g s =
      weaken a weight (WasRenewing a weight c path (Some g)) 2 (32 * (c + 2) + 10) t (omega arith)
      (map a weight (IsRenewing a weight c t g path main (length done)) (WasRenewing a weight c path (Some g)) 2 t (λ u past within. comes g path main t done u)
      (renews_branch a steps weight c heavy machines path main done t g s))
