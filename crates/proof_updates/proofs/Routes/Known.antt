-- The path of an operation that looks for its key: on a writable handle each indirection of it was once on the key's path, on a
-- read-only one it is so in the end.
use Rattle.std.proofs.Common.{◌≡◌, ℕ, zero, suc, ◌-◌, ◌<◌, ◌≤◌, ◌==◌, Bool, true, false, List, [], ◌∷◌, ◌++◌, length, slice_index_or, refl, sym, ap, subst, ◌∙◌, arith, eqb-true, length-append}
use Rattle.std.proofs.lemmas.List.{get_or_append_left}
use Rattle.std.proofs.Math.Seq.{get_or-append_seam}
use Rattle.proof_updates.specs.Vocabulary.{hash_of, Access, Writable, ReadOnly, Ref, no_ref, KeyLine, Line, ReadLine, current, Below, look, Trie, generation, On, Looks, root_is, below_is}
use Rattle.proof_updates.specs.Vocabulary.{build_path, renew_path}
use Rattle.proof_updates.specs.Beneath.machine_model.specs.declared.finding.KeyLine.TheVariants as key
use Rattle.proof_updates.specs.Beneath.machine_model.specs.declared.lines.Purpose.TheVariants as purpose
use Rattle.proof_updates.specs.Beneath.machine_model.specs.declared.lines.Line.TheVariants as line
use Rattle.proof_updates.specs.Beneath.machine_model.specs.declared.reading.ReadLine.TheVariants as read
use Rattle.proof_updates.specs.Beneath.proof_contents.proofs.Nodes.Branches.{differ}
use Rattle.proof_updates.specs.Beneath.proof_contents.specs.Tries.{at_root}
use Rattle.proof_updates.specs.Beneath.proof_contents.specs.Steps.{IsTrie, IsReached}
use Rattle.proof_updates.specs.Beneath.proof_contents.proofs.Values.Paths.{on-depth}
use Rattle.proof_updates.specs.Beneath.proof_contents.proofs.Lines.Readers.{step_down}

-- ---- of one indirection, as far as it is known up to time b

abbrev pub IsOnRoute : Trie → Access → ℕ → ℕ → ℕ → ℕ → Ref → Type 0
IsOnRoute trie Writable g q b depth i = (once : ℕ) × (once ≤ b) × On trie once g q depth i
IsOnRoute trie ReadOnly g q b depth i = IsReached trie g q depth i

-- the main node of an indirection: just behind the moment, or in the end
abbrev pub IsGiven : Trie → Access → ℕ → Ref → Ref → Type 0
IsGiven trie Writable mu i main = trie.main (suc mu) i ≡ main
IsGiven trie ReadOnly mu i main = trie.main trie.last i ≡ main

-- an indirection has the generation, where the handle asks for it
abbrev pub IsOf : Trie → Access → ℕ → Ref → Type 0
IsOf trie Writable g i = generation trie i ≡ g
IsOf trie ReadOnly g i = Unit {0}

pub stands_later : (trie : Trie) (access : Access) (g q b c depth : ℕ) (i : Ref) → b ≤ c → IsOnRoute trie access g q b depth i → IsOnRoute trie access g q c depth i
stands_later trie Writable g q b c depth i le s = (s.0, omega (arith, s.1), s.2)
stands_later trie ReadOnly g q b c depth i le s = s

pub stands_root : (trie : Trie) (access : Access) (g q b : ℕ) (r : Ref) → trie.root g ≡ r → generation trie r ≡ g → IsOnRoute trie access g q b 0 r
stands_root trie Writable g q b r is own = (zero, omega arith, subst (λ i. On trie 0 g q 0 i) is (at_root (ap (generation trie) is ∙ own)))
stands_root trie ReadOnly g q b r is own = subst (λ i. IsReached trie g q 0 i) is root_is

-- ---- of a path

pub record Route (trie : Trie) (access : Access) (g q b : ℕ) (p : List Ref) : Type 0 where
  pub filled : 0 < length p
  pub each : (d : ℕ) → d < length p → IsOnRoute trie access g q b d (slice_index_or p d no_ref)

pub route_later : (trie : Trie) (access : Access) (g q b c : ℕ) (p : List Ref) → b ≤ c → Route trie access g q b p → Route trie access g q c p
route_later trie access g q b c p le r = record {
  filled = r.filled;
  each = λ d lt. stands_later trie access g q b c d (slice_index_or p d no_ref) le (r.each d lt);
}

pub route_root : (trie : Trie) (access : Access) (g q b : ℕ) (r : Ref) → trie.root g ≡ r → generation trie r ≡ g → Route trie access g q b (r ∷ [])
route_root trie access g q b r is own = record { filled = omega arith; each = λ d lt. by_place d lt }
  where
    by_place : (d : ℕ) → d < 1 → IsOnRoute trie access g q b d (slice_index_or (r ∷ []) d no_ref)
    by_place zero lt = stands_root trie access g q b r is own
    by_place (suc d) lt = absurd (omega arith)

-- the last indirection
pub route_end : (trie : Trie) (access : Access) (g q b : ℕ) (p : List Ref) → Route trie access g q b p → IsOnRoute trie access g q b (length p - 1) (current p)
route_end trie access g q b p r = r.each (length p - 1) (omega (arith, r.filled))

pub current-append : (p : List Ref) (r : Ref) → current (p ++ r ∷ []) ≡ r
current-append p r =
    let n : length (p ++ r ∷ []) - 1 ≡ length p = omega (arith, length-append p (r ∷ [])) in
    ap (λ d. slice_index_or (p ++ r ∷ []) d no_ref) n ∙ get_or-append_seam p r [] no_ref

-- one indirection more
pub route_append : (trie : Trie) (access : Access) (g q b : ℕ) (p : List Ref) (r : Ref) → Route trie access g q b p → IsOnRoute trie access g q b (length p) r → Route trie access g q b (p ++ r ∷ [])
route_append trie access g q b p r route below = record { filled = omega (arith, length-append p (r ∷ [])); each = λ d lt. by_place d lt (d == length p) refl }
  where
    by_place : (d : ℕ) → d < length (p ++ r ∷ []) → (t : Bool) → (d == length p) ≡ t → IsOnRoute trie access g q b d (slice_index_or (p ++ r ∷ []) d no_ref)
    by_place d lt true e =
        let at = eqb-true d (length p) e in
        let here : slice_index_or (p ++ r ∷ []) d no_ref ≡ r = ap (λ n. slice_index_or (p ++ r ∷ []) n no_ref) at ∙ get_or-append_seam p r [] no_ref in
        subst (λ i. IsOnRoute trie access g q b d i) (sym here) (subst (λ n. IsOnRoute trie access g q b n r) (sym at) below)
    by_place d lt false e =
        let inside : d < length p = omega (arith, differ d (length p) e, length-append p (r ∷ [])) in
        subst (λ i. IsOnRoute trie access g q b d i) (sym (get_or_append_left p (r ∷ []) no_ref d inside)) (route.each d inside)

-- ---- one step down

module _ (trie : Trie) (ok : IsTrie trie) (g q mu : ℕ) (within : suc mu ≤ trie.last) where
  pub looks_at : (p : List Ref) (main : Ref) → Route trie Writable g q (suc mu) p → IsGiven trie Writable mu (current p) main → Looks trie (suc mu) g q (current p) main
  looks_at p main r given =
      let at = route_end trie Writable g q (suc mu) p r in
      record {
        once = at.0;
        before = at.1;
        in_range = within;
        on = subst (λ d. On trie at.0 g q d (current p)) (sym (on-depth trie ok at.0 g q (length p - 1) (current p) (omega (arith, at.1)) at.2)) at.2;
        given = given;
      }

  goes_down : (access : Access) (p : List Ref) (main below : Ref) → Route trie access g q (suc mu) p → IsGiven trie access mu (current p) main →
      look trie.node (hash_of trie.kind) (length p - 1) q (trie.node main) ≡ Below below → IsOf trie access g below → IsOnRoute trie access g q (suc mu) (suc (length p - 1)) below
  goes_down Writable p main below r given led own =
      let at = route_end trie Writable g q (suc mu) p r in
      let deep = on-depth trie ok at.0 g q (length p - 1) (current p) (omega (arith, at.1)) at.2 in (
        suc mu,
        omega arith,
        subst (λ d. On trie (suc mu) g q (suc d) below) deep
            (step_down trie ok (suc mu) g q (current p) main (looks_at p main r given) below
            (subst (λ d. look trie.node (hash_of trie.kind) d q (trie.node main) ≡ Below below) (sym deep) led) own),
      )
  goes_down ReadOnly p main below r given led own =
      below_is (length p - 1) (current p) below (route_end trie ReadOnly g q (suc mu) p r)
      (ap (λ m. look trie.node (hash_of trie.kind) (length p - 1) q (trie.node m)) given ∙ led)

  pub route_down : (access : Access) (p : List Ref) (main below : Ref) → Route trie access g q (suc mu) p → IsGiven trie access mu (current p) main →
      look trie.node (hash_of trie.kind) (length p - 1) q (trie.node main) ≡ Below below → IsOf trie access g below → Route trie access g q (suc mu) (p ++ below ∷ [])
  route_down access p main below r given led own =
      let deeper : suc (length p - 1) ≡ length p = omega (arith, r.filled) in
      route_append trie access g q (suc mu) p below r (subst (λ d. IsOnRoute trie access g q (suc mu) d below) deeper (goes_down access p main below r given led own))

-- ---- lines

-- from when on a READ counts
abbrev pub since : ℕ → ℕ → ReadLine → ℕ
since t read_at read.Main = t
since t read_at l = read_at

-- what the line of a call on the key q knows of its path before step t, in generation g, by the fields of its operation
pub record IsAt (trie : Trie) (access : Access) (g q t mu : ℕ) (p : List Ref) (main : Ref) : Type 0 where
  pub past : mu < t
  pub route : Route trie access g q (suc mu) p
  pub given : IsGiven trie access mu (current p) main

abbrev pub KeyRoute : Trie → Access → ℕ → ℕ → ℕ → ℕ → ℕ → KeyLine → Type 0
KeyRoute trie access g q t read_at mu (key.Read p r) = Route trie access g q (since t read_at r.line) p × (r.indirection ≡ current p)
KeyRoute trie access g q t read_at mu (key.Main p main) = IsAt trie access g q t mu p main
KeyRoute trie access g q t read_at mu (key.Entry p main position) = IsAt trie access g q t mu p main
KeyRoute trie access g q t read_at mu (key.Listed p main position) = IsAt trie access g q t mu p main
KeyRoute trie access g q t read_at mu (key.Sibling p main position former) = IsAt trie access g q t mu p main

abbrev pub LineRoute : Trie → Access → ℕ → ℕ → ℕ → ℕ → ℕ → Line → Type 0
LineRoute trie access g q t read_at mu (line.Key l) = KeyRoute trie access g q t read_at mu l
LineRoute trie access g q t read_at mu (line.Build l) = Route trie access g q t (build_path l)
LineRoute trie access g q t read_at mu (line.Renew l) = Route trie access g q t (renew_path l)
LineRoute trie access g q t read_at mu (line.Swap (purpose.Update p former) s) = Route trie access g q t p
LineRoute trie access g q t read_at mu (line.Swap (purpose.Renew p) s) = Route trie access g q t p
LineRoute trie access g q t read_at mu l = Unit {0}
