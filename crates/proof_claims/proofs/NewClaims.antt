-- Where a claim comes from that stands after a step.
use Rattle.std.proofs.Common.{◌≡◌, ◌⊎◌, inl, inr, ℕ, ◌==◌, ◌&&◌, ◌||◌, Bool, true, false, List, [], ◌∷◌, Contains, Option, Some, None, cond, flat_map, refl, sym, ap, subst, ◌∙◌, eqb-true}
use Rattle.std.proofs.lemmas.Bool.{true≢false}
use Rattle.std.proofs.lemmas.List.Folds.{list_any-append}
use Rattle.std.specs.List.{list_any}
use Rattle.std.proofs.lemmas.List.Elements.{Contains-append_cases}
use Rattle.proof_claims.specs.Beneath.slot_arena.specs.declared.nodes.Node.{Node}
use Rattle.proof_claims.specs.Beneath.slot_arena.specs.declared.nodes.Prev.{Prev}
use Rattle.proof_claims.specs.Beneath.slot_arena.specs.declared.nodes.Prev.TheVariants as prev
use Rattle.proof_claims.specs.Beneath.slot_arena.specs.declared.refs.Ref.{Ref}
use Rattle.proof_claims.specs.Beneath.slot_arena.specs.Heaps.{main_at, next_ref, node_at, prev_at, refs_of_node, refs_of_option}
use Rattle.proof_claims.specs.Beneath.machine_model.specs.declared.actions.Action.{Action}
use Rattle.proof_claims.specs.Beneath.machine_model.specs.declared.actions.Action.TheVariants as act
use Rattle.proof_claims.specs.Beneath.machine_model.specs.declared.building.BuildLine.TheVariants as build
use Rattle.proof_claims.specs.Beneath.machine_model.specs.declared.copying.CopyLine.TheVariants as copy
use Rattle.proof_claims.specs.Beneath.machine_model.specs.declared.lines.Line.{Line}
use Rattle.proof_claims.specs.Beneath.machine_model.specs.declared.lines.Line.TheVariants as line
use Rattle.proof_claims.specs.Beneath.machine_model.specs.declared.reading.Swap.{Swap}
use Rattle.proof_claims.specs.Beneath.machine_model.specs.declared.roots.Descriptor.{Descriptor}
use Rattle.proof_claims.specs.Beneath.machine_model.specs.declared.steps.Step.{Step}
use Rattle.proof_claims.specs.Beneath.machine_model.specs.Calls.{handle_of}
use Rattle.proof_claims.specs.Beneath.machine_model.specs.Reading.{Commits, verdict}
use Rattle.proof_claims.specs.Beneath.machine_model.specs.States.{State, root_of, word_at}
use Rattle.proof_claims.specs.Beneath.machine_model.specs.Swapping.{is_carried_out, is_plain}
use Rattle.proof_claims.specs.Held.{Change, Claim, Ends, Fate, Given, Held, Holder, OfHandle, OfNode, Stays, held_after, is_by_handle, is_by_nodes, is_by_some_handle, is_in, is_owned, kept_by}
use Rattle.proof_claims.specs.Changes.{carried, change_of, checks, claim_of_node, fate_given_up}
use Rattle.proof_claims.specs.Changes.{fate_left, fate_let_go, fate_taken_back, finds, given_up, goal_of, lets_root_go, no_change, over_at, owned_at, second_claims}
use Rattle.proof_claims.specs.Claims.{Has}
use Rattle.proof_claims.proofs.Differing.{from_flat, in_cons, nothing_in}
use Rattle.proof_claims.proofs.Letting.{the_one}
use Rattle.proof_claims.proofs.Lists.{among, both_true}
use Rattle.proof_claims.proofs.ChangeKinds.{Acting, Kind, MakesNode, closes, commits, freezes_it, gives, kind, looks, makes_one, changes_none, offers_it, sees, swaps_in}

pub data Comes (state : State) (held : Held) (s : Step) (change : Change) (by : Holder) (on : Ref) : Type 0 where
  -- it stood before, and stays
  stood : Has held by on → change.fate (record { by = by; on = on }) ≡ Stays by → Comes state held s change by on
  -- by a commit from the main node that was replaced
  moved : (i f p : Ref) (told : Option ℕ) → Acting state s (act.Decide i f p told) → verdict state.heap i f p told ≡ Commits → is_owned held i p ≡ true → by ≡ OfNode f → Has held (OfNode p) on →
      Contains (refs_of_node (node_at state.heap f)) on → Comes state held s change by on
  -- by a freeze that is carried out from its handle
  frozen : (offer : Descriptor) (main : Ref) (n : ℕ) → (a : Acting state s (act.Complete offer main)) → is_carried_out (word_at state (handle_of a.operation.call)) offer main ≡ true →
      offer.second ≡ None → offer.opens ≡ Some n → by ≡ OfHandle n → on ≡ offer.root → Has held (OfHandle (handle_of a.operation.call)) offer.root → Comes state held s change by on
  -- of the node that is made
  made : (node : Node) (action : Action) (x : Ref) → (a : Acting state s action) → MakesNode state node action → next_ref state.heap ≡ Some x → by ≡ OfNode x → Contains (refs_of_node node) on →
      is_in (over_at state held (goal_of a.operation.line)) on ≡ false → Comes state held s change by on
  -- of the indirection at which a node is swapped in
  published : (i m f : Ref) → Acting state s (act.Publish i m f) → main_at state.heap i ≡ m → by ≡ OfNode i → on ≡ f → Comes state held s change by on
  -- of handles on the roots of an offer
  first : (offer : Descriptor) → (a : Acting state s (act.Offer offer)) → is_plain (word_at state (handle_of a.operation.call)) offer.root ≡ true → by ≡ OfHandle (handle_of a.operation.call) →
      on ≡ offer.successor → Comes state held s change by on
  second : (offer : Descriptor) (n : ℕ) → (a : Acting state s (act.Offer offer)) → is_plain (word_at state (handle_of a.operation.call)) offer.root ≡ true → offer.opens ≡ Some n →
      offer.second ≡ Some on → by ≡ OfHandle n → Comes state held s change by on

-- ---- what stays

same_stays : {a b : Holder} → Stays a ≡ Stays b → b ≡ a
same_stays e = cc e

abbrev claim_of : Holder → Ref → Claim
claim_of by on = record { by = by; on = on }

only_claim : (a b : Holder) (r q : Ref) → claim_of a r ≡ claim_of b q → (a ≡ b) × (r ≡ q)
only_claim a b r q e = (ap (λ (c : Claim). c.by) e, ap (λ (c : Claim). c.on) e)

pub kept_is : (f : Fate) (r : Ref) (by : Holder) (on : Ref) → Contains (kept_by f r) (record { by = by; on = on }) → (f ≡ Stays by) × (r ≡ on)
kept_is (Stays to) r by on c = elim (in_cons (record { by = to; on = r }) [] (record { by = by; on = on }) c) [
  | inl same ↦ let both = only_claim to by r on same in (ap Stays both.0, both.1)
  | inr empty ↦ nothing_in _ empty
]
kept_is Given r by on c = nothing_in _ c
kept_is Ends r by on c = nothing_in _ c

-- a claim of another holder before it
pub record From (change : Change) (held : Held) (by : Holder) (on : Ref) : Type 0 where
  pub holder : Holder
  pub had : Has held holder on
  pub fate : change.fate (record { by = holder; on = on }) ≡ Stays by

pub kept_from : (change : Change) (held : Held) (by : Holder) (on : Ref) → Has (held_after change held) by on → From change held by on ⊎ Contains change.added (record { by = by; on = on })
kept_from change held by on h = elim (Contains-append_cases (flat_map (λ (c : Claim). kept_by (change.fate c) c.on) held.claims) change.added (record { by = by; on = on }) h) [
  | inr added ↦ inr added
  | inl kept ↦
      let (c, stands, part) = from_flat (λ (c : Claim). kept_by (change.fate c) c.on) held.claims (record { by = by; on = on }) kept in
      let (stays, same) = kept_is (change.fate c) c.on by on part in
      inl (record {
        holder = c.by;
        had = subst (λ r. Has held c.by r) same stands;
        fate = subst (λ r. change.fate (record { by = c.by; on = r }) ≡ Stays by) same stays;
      })
]

-- ---- changes that move no claim

abbrev pub Unmoving : (Claim → Fate) → Type 0
Unmoving fate = (c : Claim) (to : Holder) → fate c ≡ Stays to → to ≡ c.by

unmoved_if : (b : Bool) (f : Fate) (by to : Holder) → (f ≡ Stays to → to ≡ by) → cond b f (Stays by) ≡ Stays to → to ≡ by
unmoved_if true f by to its e = its e
unmoved_if false f by to its e = same_stays e

given_no : {to : Holder} → Given ≡ Stays to → ⊥
given_no e = cc e

ends_no : {to : Holder} → Ends ≡ Stays to → ⊥
ends_no e = cc e

pub same_unmoving : Unmoving (λ (c : Claim). Stays c.by)
same_unmoving c to e = same_stays e

pub given_up_unmoving : (private : List Ref) → Unmoving (fate_given_up private)
given_up_unmoving private c to e = unmoved_if (is_by_nodes private c.by) _ c.by to (by (is_in private c.on)) e
  where
    by : (b : Bool) → cond b Ends Given ≡ Stays to → to ≡ c.by
    by true e = absurd (ends_no e)
    by false e = absurd (given_no e)

pub let_go_unmoving : (test : Claim → Bool) → Unmoving (λ (c : Claim). fate_let_go (test c) c)
let_go_unmoving test c to e = by (test c) e
  where
    by : (b : Bool) → fate_let_go b c ≡ Stays to → to ≡ c.by
    by true e = absurd (given_no e)
    by false e = same_stays e

pub left_unmoving : (i m : Ref) → Unmoving (fate_left i m)
left_unmoving i m c to e =
    unmoved_if (is_by_nodes (m ∷ []) c.by) Given c.by to (λ e. absurd (given_no e)) (by (is_by_nodes (m ∷ []) c.by) e)
  where
    by : (b : Bool) → cond b Given (cond (is_by_nodes (i ∷ []) c.by && (c.on == m)) Ends (Stays c.by)) ≡ Stays to → cond b Given (Stays c.by) ≡ Stays to
    by true e = e
    by false e = ap Stays (sym (unmoved_if (is_by_nodes (i ∷ []) c.by && (c.on == m)) Ends c.by to (λ e. absurd (ends_no e)) e))

pub taken_back_unmoving : (roots : List Ref) → Unmoving (fate_taken_back roots)
taken_back_unmoving roots c to e =
    unmoved_if (is_by_nodes roots c.by) Given c.by to (λ e. absurd (given_no e)) (by (is_by_nodes roots c.by) e)
  where
    by : (b : Bool) → cond b Given (cond (is_by_some_handle c.by && is_in roots c.on) Ends (Stays c.by)) ≡ Stays to → cond b Given (Stays c.by) ≡ Stays to
    by true e = e
    by false e = ap Stays (sym (unmoved_if (is_by_some_handle c.by && is_in roots c.on) Ends c.by to (λ e. absurd (ends_no e)) e))

-- what moves no claim and adds none
pub record IsPlain (change : Change) : Type 0 where
  pub unmoving : Unmoving change.fate
  pub nothing : change.added ≡ []
  pub none_own : change.owned ≡ []

pub no_change_plain : IsPlain no_change
no_change_plain = record { unmoving = same_unmoving; nothing = refl; none_own = refl }

pub given_up_plain : (private : List Ref) → IsPlain (given_up private)
given_up_plain private = record { unmoving = given_up_unmoving private; nothing = refl; none_own = refl }

pub root_go_plain : (handle : ℕ) (r : Ref) → IsPlain (lets_root_go handle r)
root_go_plain handle r = record { unmoving = let_go_unmoving (λ (c : Claim). is_by_handle handle c.by && (c.on == r)); nothing = refl; none_own = refl }

pub checks_plain : (own : Bool) (v : Prev) (s : Swap) → IsPlain (checks own v s)
checks_plain true prev.None s = record { unmoving = left_unmoving s.indirection s.replaced; nothing = refl; none_own = refl }
checks_plain false prev.None s = record { unmoving = let_go_unmoving (λ (c : Claim). is_by_nodes (s.indirection ∷ []) c.by && (c.on == s.replaced)); nothing = refl; none_own = refl }
checks_plain true (prev.Pending p) s = record { unmoving = left_unmoving s.indirection s.fresh; nothing = refl; none_own = refl }
checks_plain false (prev.Pending p) s = record { unmoving = left_unmoving s.indirection s.fresh; nothing = refl; none_own = refl }
checks_plain true (prev.Failed p) s = record { unmoving = left_unmoving s.indirection s.fresh; nothing = refl; none_own = refl }
checks_plain false (prev.Failed p) s = record { unmoving = left_unmoving s.indirection s.fresh; nothing = refl; none_own = refl }

pub carried_plain : (handle : ℕ) (offer : Descriptor) (second : Option Ref) (opens : Option ℕ) → IsPlain (carried handle offer second opens)
carried_plain handle offer (Some r) opens = root_go_plain handle offer.root
carried_plain handle offer None None = root_go_plain handle offer.root
carried_plain handle offer None (Some n) = no_change_plain

pub finds_plain : (handle : ℕ) (offer : Descriptor) (done : Bool) → IsPlain (finds handle offer done)
finds_plain handle offer true = carried_plain handle offer offer.second offer.opens
finds_plain handle offer false = record { unmoving = taken_back_unmoving (offer.successor ∷ refs_of_option offer.second); nothing = refl; none_own = refl }

-- ---- each step

pub by_one : (p : Ref) (h : Holder) → is_by_nodes (p ∷ []) h ≡ true → h ≡ OfNode p
by_one p (OfHandle n) e = absurd (true≢false (sym e))
by_one p (OfNode j) e = ap OfNode (sym (the_one p j e))

pub by_its_handle : (n : ℕ) (h : Holder) → is_by_handle n h ≡ true → h ≡ OfHandle n
by_its_handle n (OfHandle k) e = ap OfHandle (eqb-true k n e)
by_its_handle n (OfNode j) e = absurd (true≢false (sym e))

module _ (state : State) (held : Held) (by : Holder) (on : Ref) (s : Step) (change : Change) where
  abbrev There : Type 0
  There = Comes state held s change by on

  plain : IsPlain change → Has (held_after change held) by on → There
  plain p h = elim (kept_from change held by on h) [
    | inl from ↦
        let same = p.unmoving (record { by = from.holder; on = on }) by from.fate in
        stood (subst (λ x. Has held x on) (sym same) from.had) (subst (λ x. change.fate (record { by = x; on = on }) ≡ Stays by) (sym same) from.fate)
    | inr added ↦ nothing_in _ (subst (λ l. Contains l (claim_of by on)) p.nothing added)
  ]

  -- where a claim that the change moves is known
  mostly : ((from : From change held by on) → (from.holder ≡ by) ⊎ There) → (Contains change.added (claim_of by on) → There) → Has (held_after change held) by on → There
  mostly moves adds h = elim (kept_from change held by on h) [
    | inl from ↦ elim (moves from) [
      | inl same ↦ stood (subst (λ x. Has held x on) same from.had) (subst (λ x. change.fate (record { by = x; on = on }) ≡ Stays by) same from.fate)
      | inr there ↦ there
    ]
    | inr added ↦ adds added
  ]

module _ (state : State) (held : Held) (by : Holder) (on : Ref) (s : Step) where
  abbrev Here : Change → Type 0
  Here change = Comes state held s change by on

  moves_over : (change : Change) (i f p : Ref) (told : Option ℕ) → Acting state s (act.Decide i f p told) → verdict state.heap i f p told ≡ Commits → is_owned held i p ≡ true → (from : Holder) →
      Has held from on → (b c : Bool) → is_by_nodes (p ∷ []) from ≡ b → is_in (refs_of_node (node_at state.heap f)) on ≡ c → cond (b && c) (Stays (OfNode f)) (Stays from) ≡ Stays by →
      (from ≡ by) ⊎ Here change
  moves_over change i f p told a v own from had true true is_by names e =
      inr (moved i f p told a v own (same_stays e) (subst (λ x. Has held x on) (by_one p from is_by) had) (among _ on names))
  moves_over change i f p told a v own from had true false is_by names e = inl (sym (same_stays e))
  moves_over change i f p told a v own from had false c is_by names e = inl (sym (same_stays e))

  second_by : (change : Change) (offer : Descriptor) → (a : Acting state s (act.Offer offer)) → is_plain (word_at state (handle_of a.operation.call)) offer.root ≡ true →
      (opens : Option ℕ) (second' : Option Ref) →
      offer.opens ≡ opens → offer.second ≡ second' → Contains (second_claims opens second') (claim_of by on) → Here change
  second_by change offer a stands (Some n) (Some r) is_opens is_second c = elim (in_cons (claim_of (OfHandle n) r) [] (claim_of by on) c) [
    | inl same ↦ let both = only_claim (OfHandle n) by r on same in second offer n a stands is_opens (is_second ∙ ap Some both.1) (sym both.0)
    | inr nothing ↦ nothing_in _ nothing
  ]
  second_by change offer a stands None second' is_opens is_second c = nothing_in _ c
  second_by change offer a stands (Some n) None is_opens is_second c = nothing_in _ c

  freezes_over : (change : Change) (offer : Descriptor) (main : Ref) (n : ℕ) → (a : Acting state s (act.Complete offer main)) →
      is_carried_out (word_at state (handle_of a.operation.call)) offer main ≡ true → offer.second ≡ None → offer.opens ≡ Some n → (from : Holder) → Has held from on → (b c : Bool) →
      is_by_handle (handle_of a.operation.call) from ≡ b → (on == offer.root) ≡ c → cond (b && c) (Stays (OfHandle n)) (Stays from) ≡ Stays by → (from ≡ by) ⊎ Here change
  freezes_over change offer main n a out is_second is_opens from had true true is_by names e =
      let here = eqb-true on offer.root names in
      inr (frozen offer main n a out is_second is_opens (same_stays e) here
      (subst (λ r. Has held (OfHandle (handle_of a.operation.call)) r) here (subst (λ x. Has held x on) (by_its_handle (handle_of a.operation.call) from is_by) had)))
  freezes_over change offer main n a out is_second is_opens from had true false is_by names e = inl (sym (same_stays e))
  freezes_over change offer main n a out is_second is_opens from had false c is_by names e = inl (sym (same_stays e))

  added_by : (over names : List Ref) (x : Ref) → Contains (flat_map (claim_of_node over x) names) (claim_of by on) → (by ≡ OfNode x) × Contains names on × (is_in over on ≡ false)
  added_by over names x c = let (k, stands, part) = from_flat (claim_of_node over x) names (claim_of by on) c in of_one k stands (is_in over k) refl part
    where
      of_one : (k : Ref) → Contains names k → (b : Bool) → is_in over k ≡ b → Contains (cond b [] (claim_of (OfNode x) k ∷ [])) (claim_of by on) →
          (by ≡ OfNode x) × Contains names on × (is_in over on ≡ false)
      of_one k stands true e part = nothing_in _ part
      of_one k stands false e part = elim (in_cons (claim_of (OfNode x) k) [] (claim_of by on) part) [
        | inl same ↦ let both = only_claim (OfNode x) by k on same in (sym both.0, subst (Contains names) both.1 stands, subst (λ r. is_in over r ≡ false) both.1 e)
        | inr nothing ↦ nothing_in _ nothing
      ]

  by_kind : (change : Change) → Kind state held s change → Has (held_after change held) by on → Here change
  by_kind change changes_none h = plain state held by on s change no_change_plain h
  by_kind change (gives private up) h = plain state held by on s change (given_up_plain private) h
  by_kind change (looks why w main a line_is is) h = plain state held by on s change (checks_plain (is_owned held w.indirection w.replaced) (prev_at state.heap w.fresh) w) h
  by_kind change (closes actor number handle is) h = plain state held by on s change (root_go_plain handle (root_of (word_at state handle))) h
  by_kind change (sees offer main c done a line_is is) h = plain state held by on s change (finds_plain (handle_of a.operation.call) offer done) h
  by_kind change (makes_one node action x a makes_it drawn) h =
      mostly state held by on s change (λ from. inl (sym (same_unmoving (claim_of from.holder on) by from.fate)))
      (λ added.
      let (its, names, raised) = added_by (over_at state held (goal_of a.operation.line)) (refs_of_node node) x added in
      made node action x a makes_it drawn its names raised) h
  by_kind change (swaps_in i m f a hit) h =
      mostly state held by on s change (λ from. inl (sym (same_unmoving (claim_of from.holder on) by from.fate)))
      (λ added. elim (in_cons (claim_of (OfNode i) f) [] (claim_of by on) added) [
        | inl same ↦ let both = only_claim (OfNode i) by f on same in published i m f a hit (sym both.0) (sym both.1)
        | inr nothing ↦ nothing_in _ nothing
      ]) h
  by_kind change (commits i f p told a v own) h =
      mostly state held by on s change (λ from. moves_over change i f p told a v own from.holder from.had _ _ refl refl from.fate) (λ added. nothing_in _ added) h
  by_kind change (offers_it offer a stands) h =
      mostly state held by on s change (λ from. inl (sym (same_unmoving (claim_of from.holder on) by from.fate)))
      (λ added. elim (in_cons (claim_of (OfHandle (handle_of a.operation.call)) offer.successor) (second_claims offer.opens offer.second) (claim_of by on) added) [
        | inl same ↦ let both = only_claim (OfHandle (handle_of a.operation.call)) by offer.successor on same in first offer a stands (sym both.0) (sym both.1)
        | inr more ↦ second_by change offer a stands offer.opens offer.second refl refl more
      ]) h
  by_kind change (freezes_it offer main n a out is_second is_opens) h =
      mostly state held by on s change (λ from. freezes_over change offer main n a out is_second is_opens from.holder from.had _ _ refl refl from.fate) (λ added. nothing_in _ added) h

  pub came : Has (held_after (change_of state held s) held) by on → Here (change_of state held s)
  came h = by_kind (change_of state held s) (kind state held s) h

-- ---- what is own

-- where a pair comes from
pub data OwnComes (state : State) (held : Held) (s : Step) (i m : Ref) : Type 0 where
  was_own : is_owned held i m ≡ true → OwnComes state held s i m
  swapped_in : (q : Ref) → Acting state s (act.Publish i q m) → main_at state.heap i ≡ q → OwnComes state held s i m
  built_over : (node : Node) (action : Action) → Acting state s action → MakesNode state node action → next_ref state.heap ≡ Some i → OwnComes state held s i m

abbrev IsAmong : List (Ref × Ref) → Ref → Ref → Type 0
IsAmong owned i m = list_any (λ (pair : Ref × Ref). (pair.0 == i) && (pair.1 == m)) owned ≡ true

one_among : (x y i m : Ref) → IsAmong ((x, y) ∷ []) i m → (x ≡ i) × (y ≡ m)
one_among x y i m e = let (a, b) = both_true (x == i) (y == m) (alone _ e) in (eqb-true x i a, eqb-true y m b)
  where
    alone : (b : Bool) → (b || false) ≡ true → b ≡ true
    alone true e = refl
    alone false e = absurd (true≢false (sym e))

module _ (state : State) (held : Held) (s : Step) (i m : Ref) where
  abbrev Own : Type 0
  Own = OwnComes state held s i m

  own_plain : (change : Change) → IsPlain change → IsAmong change.owned i m → Own
  own_plain change p e = absurd (true≢false (sym e ∙ ap (λ l. list_any (λ (pair : Ref × Ref). (pair.0 == i) && (pair.1 == m)) l) p.none_own))

  -- the indirection that is made
  own_made : (l : Line) (x : Ref) → IsAmong (owned_at l x) i m → x ≡ i
  own_made (line.Build (build.Link path main position below depth)) x e = (one_among x below i m e).0
  own_made (line.Copy (copy.Cleared root main branch)) x e = (one_among x branch i m e).0
  own_made l x e = absurd (true≢false (sym e))

  by_own : (change : Change) → Kind state held s change → IsAmong change.owned i m → Own
  by_own change changes_none e = own_plain change no_change_plain e
  by_own change (gives private up) e = own_plain change (given_up_plain private) e
  by_own change (looks why w main a line_is is) e = own_plain change (checks_plain (is_owned held w.indirection w.replaced) (prev_at state.heap w.fresh) w) e
  by_own change (closes actor number handle is) e = own_plain change (root_go_plain handle (root_of (word_at state handle))) e
  by_own change (sees offer main c done a line_is is) e = own_plain change (finds_plain (handle_of a.operation.call) offer done) e
  by_own change (makes_one node action x a makes_it drawn) e = built_over node action a makes_it (drawn ∙ ap Some (own_made a.operation.line x e))
  by_own change (swaps_in j q f a hit) e =
      let (at_i, of_m) = one_among j f i m e in
      subst (λ y. OwnComes state held s y m) at_i (subst (λ y. OwnComes state held s j y) of_m (swapped_in q a hit))
  by_own change (commits j f p told a v own) e = absurd (true≢false (sym e))
  by_own change (offers_it offer a stands) e = absurd (true≢false (sym e))
  by_own change (freezes_it offer main n a out is_second is_opens) e = absurd (true≢false (sym e))

  pub own_came : is_owned (held_after (change_of state held s) held) i m ≡ true → Own
  own_came e = by (is_owned held i m) refl
    where
      by : (b : Bool) → is_owned held i m ≡ b → Own
      by true is = was_own is
      by false is =
          by_own (change_of state held s) (kind state held s)
          (ap (λ b. b || list_any (λ (pair : Ref × Ref). (pair.0 == i) && (pair.1 == m)) (change_of state held s).owned) (sym is) ∙ sym (list_any-append _ held.owned (change_of state held s).owned)
          ∙ e)
