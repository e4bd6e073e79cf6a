-- What becomes of a node's claim by a step.
use Rattle.std.proofs.Common.{◌≡◌, ◌⊎◌, inl, inr, ℕ, ◌==◌, ◌&&◌, ◌||◌, Bool, true, false, List, [], ◌∷◌, Contains, Option, Some, None, cond, refl, sym, ◌∙◌, eqb-true}
use Rattle.std.proofs.lemmas.Bool.{true≢false}
use Rattle.proof_claims.specs.Beneath.slot_arena.specs.declared.nodes.Prev.{Prev}
use Rattle.proof_claims.specs.Beneath.slot_arena.specs.declared.nodes.Prev.TheVariants as prev
use Rattle.proof_claims.specs.Beneath.slot_arena.specs.declared.refs.Ref.{Ref}
use Rattle.proof_claims.specs.Beneath.slot_arena.specs.Heaps.{node_at, prev_at, refs_of_node, refs_of_option}
use Rattle.proof_claims.specs.Beneath.machine_model.specs.declared.actions.Action.TheVariants as act
use Rattle.proof_claims.specs.Beneath.machine_model.specs.declared.copying.CopyLine.TheVariants as copy
use Rattle.proof_claims.specs.Beneath.machine_model.specs.declared.lines.Line.TheVariants as line
use Rattle.proof_claims.specs.Beneath.machine_model.specs.declared.lines.Purpose.{Purpose}
use Rattle.proof_claims.specs.Beneath.machine_model.specs.declared.reading.Swap.{Swap}
use Rattle.proof_claims.specs.Beneath.machine_model.specs.declared.reading.SwapLine.TheVariants as swap
use Rattle.proof_claims.specs.Beneath.machine_model.specs.declared.roots.Complete.{Complete}
use Rattle.proof_claims.specs.Beneath.machine_model.specs.declared.roots.Descriptor.{Descriptor}
use Rattle.proof_claims.specs.Beneath.machine_model.specs.declared.steps.Step.{Step}
use Rattle.proof_claims.specs.Beneath.machine_model.specs.Calls.{handle_of}
use Rattle.proof_claims.specs.Beneath.machine_model.specs.Reading.{Commits, verdict}
use Rattle.proof_claims.specs.Beneath.machine_model.specs.States.{State, word_at}
use Rattle.proof_claims.specs.Beneath.machine_model.specs.Swapping.{is_carried_out}
use Rattle.proof_claims.specs.Changes.{carried, change_of, checks, fate_let_go, finds}
use Rattle.proof_claims.specs.Held.{Change, Claim, Ends, Given, Held, OfNode, Stays, is_in, is_owned}
use Rattle.proof_claims.proofs.ChangeKinds.{Acting, GivesUp, Kind, changes_none, closes, commits, freezes_it, gives, kind, looks, makes_one, offers_it, sees, swaps_in}
use Rattle.proof_claims.proofs.Letting.{the_one}
use Rattle.proof_claims.proofs.Lists.{among, both_true}

-- who looks how its fresh node was decided lets go of what was replaced, or of that node
pub data LookLeaves (state : State) (held : Held) (w : Swap) (j r : Ref) : Type 0 where
  of_replaced : prev_at state.heap w.fresh ≡ prev.None → is_owned held w.indirection w.replaced ≡ true → w.replaced ≡ j → LookLeaves state held w j r
  of_link : prev_at state.heap w.fresh ≡ prev.None → w.indirection ≡ j → w.replaced ≡ r → LookLeaves state held w j r
  of_failed : (prev_at state.heap w.fresh ≡ prev.None → ⊥) → w.fresh ≡ j → LookLeaves state held w j r
  of_failed_link : (prev_at state.heap w.fresh ≡ prev.None → ⊥) → w.indirection ≡ j → w.fresh ≡ r → LookLeaves state held w j r

pub data NodeGoes (state : State) (held : Held) (s : Step) (j r : Ref) : Type 0 where
  stays_held : (change_of state held s).fate (record { by = OfNode j; on = r }) ≡ Stays (OfNode j) → NodeGoes state held s j r
  given_private : (private : List Ref) → GivesUp state s private → Contains private j → NodeGoes state held s j r
  goes_over : (i f p : Ref) (told : Option ℕ) → Acting state s (act.Decide i f p told) → verdict state.heap i f p told ≡ Commits → is_owned held i p ≡ true → p ≡ j →
      Contains (refs_of_node (node_at state.heap f)) r → NodeGoes state held s j r
  left_at_look : (why : Purpose) (w : Swap) (main : Ref) → (a : Acting state s (act.ReadPrev main)) → a.operation.line ≡ line.Swap why w → w.line ≡ swap.Check → LookLeaves state held w j r →
      NodeGoes state held s j r
  taken_back : (offer : Descriptor) (main : Ref) (c : Complete) → (a : Acting state s (act.Complete offer main)) → a.operation.line ≡ line.Copy (copy.Complete c) →
      is_carried_out (word_at state (handle_of a.operation.call)) offer main ≡ false → a.operation.is_marked ≡ false → Contains (offer.successor ∷ refs_of_option offer.second) j →
      NodeGoes state held s j r

pub neither : (a b : Bool) → false ≡ (a || b) → (a ≡ false) × (b ≡ false)
neither true b e = absurd (true≢false (sym e))
neither false b e = (refl, sym e)

not_none_pending : {p : Ref} → prev.Pending p ≡ prev.None → ⊥
not_none_pending e = cc e

not_none_failed : {p : Ref} → prev.Failed p ≡ prev.None → ⊥
not_none_failed e = cc e

module _ (state : State) (held : Held) (s : Step) (j r : Ref) where
  abbrev claim : Claim
  claim = record { by = OfNode j; on = r }

  abbrev Gone : Type 0
  Gone = NodeGoes state held s j r

  abbrev Where : Change → Type 0
  Where change = (change.fate claim ≡ Stays (OfNode j)) ⊎ Gone

  given_where : (private : List Ref) → GivesUp state s private → (b : Bool) → is_in private j ≡ b → (cond b (cond (is_in private r) Ends Given) (Stays (OfNode j)) ≡ Stays (OfNode j)) ⊎ Gone
  given_where private up true e = inr (given_private private up (among private j e))
  given_where private up false e = inl refl

  over_where : (i f p : Ref) (told : Option ℕ) → Acting state s (act.Decide i f p told) → verdict state.heap i f p told ≡ Commits → is_owned held i p ≡ true → (b d : Bool) → is_in (p ∷ []) j ≡ b →
      is_in (refs_of_node (node_at state.heap f)) r ≡ d → (cond (b && d) (Stays (OfNode f)) (Stays (OfNode j)) ≡ Stays (OfNode j)) ⊎ Gone
  over_where i f p told a v own true true is_p names = inr (goes_over i f p told a v own (the_one p j is_p) (among _ r names))
  over_where i f p told a v own true false is_p names = inl refl
  over_where i f p told a v own false d is_p names = inl refl

  -- by what it finds
  module _ (why : Purpose) (w : Swap) (main : Ref) (a : Acting state s (act.ReadPrev main)) (on : a.operation.line ≡ line.Swap why w) (at_check : w.line ≡ swap.Check) where
    leaves : LookLeaves state held w j r → Gone
    leaves l = left_at_look why w main a on at_check l

    left_where : (x : Ref) → (x ≡ j → LookLeaves state held w j r) → (w.indirection ≡ j → x ≡ r → LookLeaves state held w j r) → (b c : Bool) → is_in (x ∷ []) j ≡ b →
        (is_in (w.indirection ∷ []) j && (r == x)) ≡ c → (cond b Given (cond c Ends (Stays (OfNode j))) ≡ Stays (OfNode j)) ⊎ Gone
    left_where x by_node by_link true c is_x on_x = inr (leaves (by_node (the_one x j is_x)))
    left_where x by_node by_link false true is_x on_x =
        let (at_i, same) = both_true (is_in (w.indirection ∷ []) j) (r == x) on_x in inr (leaves (by_link (the_one w.indirection j at_i) (sym (eqb-true r x same))))
    left_where x by_node by_link false false is_x on_x = inl refl

    shared_where : (b : Bool) → (is_in (w.indirection ∷ []) j && (r == w.replaced)) ≡ b → prev_at state.heap w.fresh ≡ prev.None → (fate_let_go b claim ≡ Stays (OfNode j)) ⊎ Gone
    shared_where true e none =
        let (at_i, same) = both_true (is_in (w.indirection ∷ []) j) (r == w.replaced) e in
        inr (leaves (of_link none (the_one w.indirection j at_i) (sym (eqb-true r w.replaced same))))
    shared_where false e none = inl refl

    looked : (own : Bool) (v : Prev) → is_owned held w.indirection w.replaced ≡ own → prev_at state.heap w.fresh ≡ v → ((checks own v w).fate claim ≡ Stays (OfNode j)) ⊎ Gone
    looked true prev.None owns is = left_where w.replaced (λ e. of_replaced is owns e) (λ e f. of_link is e f) _ _ refl refl
    looked false prev.None owns is = shared_where _ refl is
    looked true (prev.Pending p) owns is =
        left_where w.fresh (λ e. of_failed (λ none. not_none_pending (sym is ∙ none)) e) (λ e f. of_failed_link (λ none. not_none_pending (sym is ∙ none)) e f) _ _ refl refl
    looked false (prev.Pending p) owns is =
        left_where w.fresh (λ e. of_failed (λ none. not_none_pending (sym is ∙ none)) e) (λ e f. of_failed_link (λ none. not_none_pending (sym is ∙ none)) e f) _ _ refl refl
    looked true (prev.Failed p) owns is =
        left_where w.fresh (λ e. of_failed (λ none. not_none_failed (sym is ∙ none)) e) (λ e f. of_failed_link (λ none. not_none_failed (sym is ∙ none)) e f) _ _ refl refl
    looked false (prev.Failed p) owns is =
        left_where w.fresh (λ e. of_failed (λ none. not_none_failed (sym is ∙ none)) e) (λ e f. of_failed_link (λ none. not_none_failed (sym is ∙ none)) e f) _ _ refl refl

  -- ---- who offered

  module _ (offer : Descriptor) (main : Ref) (c : Complete) (a : Acting state s (act.Complete offer main)) (on : a.operation.line ≡ line.Copy (copy.Complete c)) where
    back_where : (done : Bool) → done ≡ (is_carried_out (word_at state (handle_of a.operation.call)) offer main || a.operation.is_marked) → (b : Bool) →
        is_in (offer.successor ∷ refs_of_option offer.second) j ≡ b → done ≡ false → (cond b Given (Stays (OfNode j)) ≡ Stays (OfNode j)) ⊎ Gone
    back_where done is true e undone =
        let both = neither (is_carried_out (word_at state (handle_of a.operation.call)) offer main) a.operation.is_marked (sym undone ∙ is) in
        inr (taken_back offer main c a on both.0 both.1 (among (offer.successor ∷ refs_of_option offer.second) j e))
    back_where done is false e undone = inl refl

    carried_where : (handle : ℕ) (second : Option Ref) (opens : Option ℕ) → (carried handle offer second opens).fate claim ≡ Stays (OfNode j)
    carried_where handle (Some q) opens = refl
    carried_where handle None None = refl
    carried_where handle None (Some n) = refl

    seen : (done : Bool) → done ≡ (is_carried_out (word_at state (handle_of a.operation.call)) offer main || a.operation.is_marked) →
        ((finds (handle_of a.operation.call) offer done).fate claim ≡ Stays (OfNode j)) ⊎ Gone
    seen true is = inl (carried_where (handle_of a.operation.call) offer.second offer.opens)
    seen false is = back_where false is _ refl refl

  by_kind : (change : Change) → Kind state held s change → Where change
  by_kind change changes_none = inl refl
  by_kind change (gives private up) = given_where private up (is_in private j) refl
  by_kind change (makes_one node action x a makes_it drawn) = inl refl
  by_kind change (swaps_in i m f a hit) = inl refl
  by_kind change (commits i f p told a v own) = over_where i f p told a v own (is_in (p ∷ []) j) (is_in (refs_of_node (node_at state.heap f)) r) refl refl
  by_kind change (looks why w main a on is) = looked why w main a on is (is_owned held w.indirection w.replaced) (prev_at state.heap w.fresh) refl refl
  by_kind change (closes actor number handle is) = inl refl
  by_kind change (offers_it offer a stands) = inl refl
  by_kind change (freezes_it offer main n a out none opens) = inl refl
  by_kind change (sees offer main c done a on is) = seen offer main c a on done is

  pub node_goes : NodeGoes state held s j r
  node_goes = elim (by_kind (change_of state held s) (kind state held s)) [ inl same ↦ stays_held same | inr gone ↦ gone ]
