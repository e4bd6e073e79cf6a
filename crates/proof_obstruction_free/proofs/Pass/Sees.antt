-- What the lines of KEY see on the way down, where one actor alone takes steps.
use Rattle.std.proofs.Common.{◌≡◌, ℕ, ◌<◌, ◌≤◌, false, List, Option, get_or, length, refl, sym, ap, ap₂, subst, ◌∙◌, ltb-true}
use Rattle.proof_obstruction_free.specs.Vocabulary.{hash_of, Call, Ref, Node, Indirection, Branch, Single, Tomb, List as Listed, entries_of, no_ref, node_at, flag_of, Line, Bounds, key_of, depth_of}
use Rattle.proof_obstruction_free.specs.Vocabulary.{flag_in, IsInUse}
use Rattle.proof_obstruction_free.specs.Beneath.machine_model.specs.declared.finding.KeyLine.TheVariants as key
use Rattle.proof_obstruction_free.specs.Beneath.machine_model.specs.declared.lines.Line.TheVariants as line
use Rattle.proof_obstruction_free.specs.Beneath.proof_memory.specs.Wants.{is_indirection}
use Rattle.proof_obstruction_free.specs.Beneath.proof_memory.proofs.Safety.AtTimes.{limits_at}
use Rattle.proof_obstruction_free.specs.Beneath.proof_memory.proofs.Claims.Uses.{meets_of}
use Rattle.proof_obstruction_free.specs.Beneath.proof_memory.proofs.Claims.Named.{main_claim, past_place}
use Rattle.proof_obstruction_free.specs.Alone.{Lone, Stands, node}
use Rattle.proof_obstruction_free.specs.Keys.{IsOf, flag_at}
use Rattle.proof_obstruction_free.specs.Stepping.{Stepping}
use Rattle.proof_obstruction_free.proofs.Renew.Nodes.{branch_seen, looks_at}
use Rattle.proof_obstruction_free.proofs.Renew.Nodes.{main_seen as main_there}

module _ (a : Lone) where
  -- the flag of the call's key
  pub flag_is : (t : ℕ) (g : Option ℕ) (l : Line) (s : Stands a t g l) (path : List Ref) → flag_in (a.states t) s.operation path ≡ flag_at a (depth_of path)
  flag_is t g l s path =
      ap₂ (λ (x : Bounds) (call : Call). flag_of (hash_of x.hash (key_of call)) (depth_of path)) (limits_at a.run t s.until) s.call

  module _ (steps : Stepping a) where
    -- a main node at which KEY is
    pub main_seen : (t : ℕ) (g : Option ℕ) (path : List Ref) (main : Ref) → Stands a t g (line.Key (key.Main path main)) → node_at (a.states t).heap main ≡ node a main
    main_seen t g path main s =
        main_there a steps t s.until main (main_claim (steps.wants t g (line.Key (key.Main path main)) s))

    -- the branch and its entry at which KEY is
    pub record SeesEntry (t : ℕ) (main : Ref) (position : ℕ) : Type 0 where
      pub branch : node_at (a.states t).heap main ≡ node a main
      pub within : position < length (entries_of (node a main))
      pub used : IsInUse (a.states t).heap (get_or (entries_of (node a main)) position no_ref)

    pub sees_entry : (t : ℕ) (g : Option ℕ) (path : List Ref) (main : Ref) (position : ℕ) → Stands a t g (line.Key (key.Entry path main position)) → SeesEntry t main position
    sees_entry t g path main position s =
        let claims = steps.wants t g (line.Key (key.Entry path main position)) s in
        let same = branch_seen a steps t s.until main (main_claim claims) in
        record {
          branch = same;
          within = subst (λ n. position < length (entries_of n)) same (ltb-true position _ (meets_of (past_place claims).0));
          used = subst (λ n. IsInUse (a.states t).heap (get_or (entries_of n) position no_ref)) same (looks_at a steps t g (line.Key (key.Entry path main position)) s _ refl);
        }

    -- an indirection that is there has its generation
    pub link_seen : (t : ℕ) → t ≤ a.last → (r : Ref) (g : ℕ) → IsInUse (a.states t).heap r → IsOf a r g → (m : Ref) × (node_at (a.states t).heap r ≡ Indirection g m)
    link_seen t le r g used (m, is) = by (node_at (a.states t).heap r) refl
      where
        plain : (n : Node) → node_at (a.states t).heap r ≡ n → is_indirection n ≡ false → (m : Ref) × (n ≡ Indirection g m)
        plain n e kind = (m, sym e ∙ steps.node_found t r le used (ap is_indirection e ∙ kind) ∙ is)

        by : (n : Node) → node_at (a.states t).heap r ≡ n → (m : Ref) × (n ≡ Indirection g m)
        by (Indirection h w) e = let (x, now) = steps.link_found t r h w le used e in let same : h ≡ g = cc (now, is) in (w, ap (λ k. Indirection k w) same)
        by (Branch b es) e = plain (Branch b es) e refl
        by (Single k v) e = plain (Single k v) e refl
        by (Tomb single) e = plain (Tomb single) e refl
        by (Listed singles) e = plain (Listed singles) e refl
