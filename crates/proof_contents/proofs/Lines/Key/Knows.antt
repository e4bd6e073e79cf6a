-- Each line of KEY hands on what it knows.
use Rattle.std.proofs.Common.{◌≡◌, ◌≢◌, ℕ, ◌+◌, ◌-◌, ◌<◌, ◌==◌, ◌&&◌, nat_lt, nat_le, Bool, true, false, List, [], ◌∷◌, length, take, slice_index_or, Option, Some, None, inl}
use Rattle.std.proofs.lemmas.Bool.{and_parts}
use Rattle.std.proofs.Common.{inr, refl, sym, ap, ap₂, subst, ◌∙◌, eqb-true, take_all, ltb-true, ltb-false, leb-false}
use Rattle.std.proofs.lemmas.Grind.{take_at_read}
use Rattle.arrayvec.specs.ArrayVec.{ArrayVec}
use Rattle.proof_contents.specs.Vocabulary.{ReadOnly, Call, Get, Ref, Node, Branch, Single, Tomb, List as Listed, node_at, entry_at, entries_of, no_ref, Line, Operation, KeyLine, Sets, Removes}
use Rattle.proof_contents.specs.Vocabulary.{key_of, inserts, when_found, State, depth_of, is_below_root, found, key_after}
use Rattle.machine_model.specs.declared.finding.KeyLine.TheVariants as key
use Rattle.proof_contents.specs.Nodes.Looking.{Absent, look_among, or_else}
use Rattle.proof_contents.proofs.Nodes.Branches.{differ}
use Rattle.proof_contents.proofs.Nodes.Changes.{look-other}
use Rattle.proof_contents.proofs.Nodes.Lists.{look_among-append}
use Rattle.proof_contents.specs.Lines.Changes.{Known, IsFlagged, no_flag, not_listed, Presence, in_branch, in_list, GoesThrough, IsOther, of_branch, of_list}
use Rattle.proof_contents.specs.Lines.Changes.{KnowsKey, KnowsLine, IsGet, main_of_key}
use Rattle.machine_model.proofs.Edges.Key.{key_edge}
use Rattle.machine_model.specs.Edges.Key.{FoundEdge, sets, asks_sibling, removes, entombs_listed, removes_listed, KeyEdge, reads_on, enters, puts_absent, looks_tombed, looks_listed, finds}
use Rattle.machine_model.specs.Edges.Key.{puts_beside, finds_listed, looks_on, puts_listed, entombs_sibling, keeps_sibling}

not_full : (a b : Bool) → a ≡ true → (a && b) ≡ false → b ≡ false
not_full true b is e = e
not_full false b is e = absurd (let bad : false ≡ true = is in cc)

-- a get sets and removes nothing, and inserts nothing
pub get_answers : (call : Call) (v : ℕ) → IsGet call → (when_found call v ≢ Sets) × (when_found call v ≢ Removes) × (inserts call ≡ false)
get_answers (Get h k) v is = ((λ e. cc), (λ e. cc), refl)
get_answers call v is = absurd is

module _ (state : State) (operation : Operation) (node : Ref → Node) (first : Ref → Ref) where
  abbrev pub known : Known
  known = record { kind = state.limits.hash; node = node; first = first }

  abbrev Call' : Call
  Call' = operation.call

  abbrev Key' : ℕ
  Key' = key_of operation.call

  -- the heap has the main node that is known; a list isn't empty
  pub record Sees (main : Ref) : Type 0 where
    pub main_is : node_at state.heap main ≡ node main
    pub filled : (singles : ArrayVec Ref) → node main ≡ Listed singles → 0 < length singles.items

  -- and the single at a position, if one stands there
  abbrev pub SeesSingle : Ref → ℕ → Type 0
  SeesSingle main position = (k v : ℕ) → node_at state.heap (entry_at state.heap main position) ≡ Single k v → node (entry_at state.heap main position) ≡ Single k v

  -- an operation of KEY on a read-only handle is a get
  abbrev pub OnlyGets : Type 0
  OnlyGets = operation.access ≡ ReadOnly → IsGet operation.call

  module _ (main : Ref) (sees : Sees main) (p : List Ref) where
    -- an entry as the heap has it is that of the node
    pub entry_is : (n : Node) (position : ℕ) → node main ≡ n → entry_at state.heap main position ≡ slice_index_or (entries_of n) position no_ref
    entry_is n position is = ap (λ m. slice_index_or (entries_of m) position no_ref) (sees.main_is ∙ is)

    single_known : (n : Node) (position k v : ℕ) → SeesSingle main position → node main ≡ n → node_at state.heap (entry_at state.heap main position) ≡ Single k v →
        node (slice_index_or (entries_of n) position no_ref) ≡ Single k v
    single_known n position k v single is e = ap node (sym (entry_is n position is)) ∙ single k v e

    -- ---- where the key is found

    sibling_asked : (position v b : ℕ) (es : ArrayVec Ref) → node main ≡ Branch b es → (is_below_root p && (length es.items == 2)) ≡ true → when_found operation.call v ≡ Removes →
        Presence known (depth_of p) Key' main position v → KnowsKey known Call' (key.Sibling p main position v)
    sibling_asked position v b es is both takes (in_branch b' es' f single) =
        let same : Branch b es ≡ Branch b' es' = sym is ∙ f.is in
        let es_is : es ≡ es' = cc in
        (b', es', f, single, ap (λ (l : ArrayVec Ref). length l.items) (sym es_is) ∙ eqb-true (length es.items) 2 ((and_parts (is_below_root p) (length es.items == 2) both).1), takes)
    sibling_asked position v b es is both takes (in_list ss is' lt single) = absurd (let bad : Branch b es ≡ Listed ss = sym is ∙ is' in cc)

    other_listed : (position v : ℕ) (ss : ArrayVec Ref) → node main ≡ Listed ss → length ss.items ≡ 2 → Presence known (depth_of p) Key' main position v →
        IsOther known (depth_of p) Key' main (entry_at state.heap main (1 - position)) v
    other_listed position v ss is two (in_branch b es f single) = absurd (let bad : Listed ss ≡ Branch b es = sym is ∙ f.is in cc)
    other_listed position v ss is two (in_list ss' is' lt single) =
        let same : Listed ss ≡ Listed ss' = sym is ∙ is' in
        let ss_is : ss ≡ ss' = cc in
        of_list position ss' is' lt single (ap (λ (l : ArrayVec Ref). length l.items) (sym ss_is) ∙ two) (entry_is (Listed ss') (1 - position) is')

    found_knows : (position v : ℕ) (next : Line) → Presence known (depth_of p) Key' main position v → FoundEdge state operation p main position v next → KnowsLine known Call' next
    found_knows position v next presence (sets e) = (v, refl, e, presence)
    found_knows position v next presence (asks_sibling takes b es e two) = sibling_asked position v b es (sym sees.main_is ∙ e) two takes presence
    found_knows position v next presence (removes takes b es e others) = (v, refl, takes, presence)
    found_knows position v next presence (entombs_listed takes ss e two) =
        (v, refl, takes, other_listed position v ss (sym sees.main_is ∙ e) (eqb-true (length ss.items) 2 two) presence)
    found_knows position v next presence (removes_listed takes ss e others) = (v, refl, takes, presence)
    found_knows position v next presence edge = tt

    -- ---- line by line

    main_knows : OnlyGets → (next : Line) → KeyEdge state operation (key.Main p main) next → KnowsLine known Call' next
    main_knows gets next (enters route m b es is some) = (b, es, record { is = sym sees.main_is ∙ is; flagged = some; at = refl })
    main_knows gets next (puts_absent route m b es is none ins) = ((refl, ins), no_flag b es (sym sees.main_is ∙ is) none)
    main_knows gets next (looks_tombed route m s is frozen) = inr (s, sym sees.main_is ∙ is, refl, gets frozen)
    main_knows gets next (looks_listed route m ss is) =
        let there : node main ≡ Listed ss = sym sees.main_is ∙ is in inl (ss, record { is = there; within = sees.filled ss there; none = refl })
    main_knows gets next edge = tt

    module _ (position b : ℕ) (es : ArrayVec Ref) (seen : SeesSingle main position) (f : IsFlagged known (depth_of p) Key' main position b es) where
      entry_knows : (next : Line) → KeyEdge state operation (key.Entry p main position) next → KnowsLine known Call' next
      entry_knows next (finds route m q k v n e same found) =
          found_knows position v next (in_branch b es f (single_known (Branch b es) position k v seen f.is e ∙ ap (λ n. Single n v) (eqb-true k Key' same))) found
      entry_knows next (puts_beside route m q k v e apart ins) =
          ((refl, ins), record { bitmap = b; entries = es; branch = f; other = k; own = v; is = single_known (Branch b es) position k v seen f.is e; apart = differ k Key' apart })
      entry_knows next edge = tt

    -- through a list
    module _ (position : ℕ) (ss : ArrayVec Ref) (seen : SeesSingle main position) (go : GoesThrough known Key' main position ss) where
      count : length (entries_of (node_at state.heap main)) ≡ length ss.items
      count = ap (λ n. length (entries_of n)) (sees.main_is ∙ go.is)

      none_more : (k v : ℕ) → node_at state.heap (entry_at state.heap main position) ≡ Single k v → (k == Key') ≡ false → look_among node Key' (take (position + 1) ss.items) ≡ Absent
      none_more k v e apart =
          ap (look_among node Key') (take_at_read ss.items position no_ref go.within).1
          ∙ look_among-append node Key' (take position ss.items) (slice_index_or ss.items position no_ref ∷ [])
          ∙ ap₂ or_else go.none (ap (λ f. or_else f Absent)
          (look-other node Key' k v (slice_index_or ss.items position no_ref) (single_known (Listed ss) position k v seen go.is e) (λ same. differ k Key' apart (sym same))))

      listed_knows : (next : Line) → KeyEdge state operation (key.Listed p main position) next → KnowsLine known Call' next
      listed_knows next (finds_listed route m q k v n e same found) =
          found_knows position v next (in_list ss go.is go.within (single_known (Listed ss) position k v seen go.is e ∙ ap (λ n. Single n v) (eqb-true k Key' same))) found
      listed_knows next (looks_on route m q k v e apart further) =
          inl (ss, record { is = go.is; within = ltb-true (position + 1) (length ss.items) (ap (nat_lt (position + 1)) (sym count) ∙ further); none = none_more k v e apart })
      listed_knows next (puts_listed route m q k v e apart last room ins) =
          let all : take (position + 1) ss.items ≡ ss.items = take_all (position + 1) ss.items (ltb-false (position + 1) (length ss.items) (ap (nat_lt (position + 1)) (sym count) ∙ last)) in (
            (refl, ins),
            not_listed ss go.is (leb-false 32 (length ss.items) (ap (nat_le 32) (sym count) ∙ not_full (inserts operation.call) _ ins room))
                (ap (look_among node Key') (sym all) ∙ none_more k v e apart),
          )
      listed_knows next edge = tt

    -- at a tomb a get alone looks
    module _ (s : Ref) (is : node main ≡ Tomb s) (get : IsGet operation.call) where
      tomb_found : (v : ℕ) (next : Line) → FoundEdge state operation p main 0 v next → KnowsLine known Call' next
      tomb_found v next (sets e) = absurd ((get_answers operation.call v get).0 e)
      tomb_found v next (asks_sibling takes b es e two) = absurd ((get_answers operation.call v get).1 takes)
      tomb_found v next (removes takes b es e others) = absurd ((get_answers operation.call v get).1 takes)
      tomb_found v next (entombs_listed takes ss e two) = absurd ((get_answers operation.call v get).1 takes)
      tomb_found v next (removes_listed takes ss e others) = absurd ((get_answers operation.call v get).1 takes)
      tomb_found v next edge = tt

      tomb_knows : (next : Line) → KeyEdge state operation (key.Listed p main 0) next → KnowsLine known Call' next
      tomb_knows next (finds_listed route m q k v n e same found) = tomb_found v next found
      tomb_knows next (looks_on route m q k v e apart further) =
          let none : false ≡ true = sym (ap (λ n. nat_lt 1 (length (entries_of n))) (sees.main_is ∙ is)) ∙ further in cc
      tomb_knows next (puts_listed route m q k v e apart last room ins) = let bad : true ≡ false = sym ins ∙ (get_answers operation.call v get).2 in cc
      tomb_knows next edge = tt

    -- the other one of two entries
    sibling_knows : (position former b : ℕ) (es : ArrayVec Ref) → SeesSingle main (1 - position) → IsFlagged known (depth_of p) Key' main position b es →
        node (slice_index_or es.items position no_ref) ≡ Single Key' former → length es.items ≡ 2 → when_found operation.call former ≡ Removes →
        (next : Line) → KeyEdge state operation (key.Sibling p main position former) next → KnowsLine known Call' next
    sibling_knows position former b es seen f single two takes next (entombs_sibling route m q old k v e) =
        (former, refl, takes, of_branch b position k v es f single two (entry_is (Branch b es) (1 - position) f.is) (seen k v e))
    sibling_knows position former b es seen f single two takes next (keeps_sibling route m q old g w e) = (former, refl, takes, in_branch b es f single)
    sibling_knows position former b es seen f single two takes next edge = tt

  -- ---- the whole of KEY

  -- the position at which a line looks
  abbrev pub position_in : KeyLine → Option (Ref × ℕ)
  position_in (key.Read p read) = None
  position_in (key.Main p main) = None
  position_in (key.Entry p main position) = Some (main, position)
  position_in (key.Listed p main position) = Some (main, position)
  position_in (key.Sibling p main position former) = Some (main, 1 - position)

  knows_by : (l : KeyLine) → OnlyGets → ((main : Ref) → main_of_key l ≡ Some main → Sees main) →
      ((main : Ref) (position : ℕ) → position_in l ≡ Some (main, position) → SeesSingle main position) → KnowsKey known operation.call l → (next : Line) →
      KeyEdge state operation l next → KnowsLine known operation.call next
  knows_by (key.Read p read) gets sees seen knows next (reads_on route r n e) = tt
  knows_by (key.Read p read) gets sees seen knows next edge = tt
  knows_by (key.Main p main) gets sees seen knows next edge = main_knows main (sees main refl) p gets next edge
  knows_by (key.Entry p main position) gets sees seen (b, es, f) next edge = entry_knows main (sees main refl) p position b es (seen main position refl) f next edge
  knows_by (key.Listed p main position) gets sees seen (inl (ss, go)) next edge = listed_knows main (sees main refl) p position ss (seen main position refl) go next edge
  knows_by (key.Listed p main position) gets sees seen (inr (s, is, at_first, get)) next edge =
      tomb_knows main (sees main refl) p s is get next (subst (λ q. KeyEdge state operation (key.Listed p main q) next) at_first edge)
  knows_by (key.Sibling p main position former) gets sees seen (b, es, f, single, two, takes) next edge =
      sibling_knows main (sees main refl) p position former b es (seen main (1 - position) refl) f single two takes next edge

  pub key_knows : (l : KeyLine) → OnlyGets → ((main : Ref) → main_of_key l ≡ Some main → Sees main) →
      ((main : Ref) (position : ℕ) → position_in l ≡ Some (main, position) → SeesSingle main position) → KnowsKey known operation.call l → KnowsLine known operation.call (key_after state operation l)
  key_knows l gets sees seen knows = knows_by l gets sees seen knows (key_after state operation l) (key_edge state operation l)
