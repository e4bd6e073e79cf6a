-- A main node of whose entries some are counted: references to what these lead to are counted before it is made, and let go of again where it couldn't be.
use Rattle.std.proofs.Common.{◌≡◌, ◌≤◌, ◌∷◌, [], inl, inr, ℕ, Bool, List, Contains, Option, Some, map, refl, sym, ap, subst, ◌∙◌, arith}
use Rattle.trie_words.specs.declared.entries.Entry.{Entry}
use Rattle.trie_words.specs.declared.headers.Previous.{Previous}
use Rattle.trie_words.specs.declared.headers.Shape.{Shape}
use Rattle.machine_model.specs.Beneath.slot_arena.specs.declared.nodes.Node.{Node}
use Rattle.machine_model.specs.Beneath.slot_arena.specs.declared.nodes.Node.TheVariants.{Indirection}
use Rattle.machine_model.specs.Beneath.slot_arena.specs.declared.refs.Ref.{Ref}
use Rattle.machine_model.specs.declared.actions.Action.{Action}
use Rattle.machine_model.specs.declared.actions.Action.TheVariants as act
use Rattle.lock_free.specs.declared.reclaiming.Kind.{Kind}
use Rattle.lock_free.specs.declared.rules.View.{View}
use Rattle.nodes.specs.Builders.{pair}
use Rattle.lock_free.specs.declared.building.Builder.{Builder}
use Rattle.lock_free.specs.Becoming.{HasNew, HasRested}
use Rattle.lock_free.specs.BuildingUp.{MakesPair}
use Rattle.lock_free.specs.Changing.{HasBuilt}
use Rattle.lock_free.specs.Counts.{how_often, without_one}
use Rattle.lock_free.specs.Limbos.{IsLimbo}
use Rattle.lock_free.specs.Loading.{IsAt}
use Rattle.lock_free.specs.Owning.{MayOwn}
use Rattle.lock_free.specs.Owing.{owing, HoldsRaised}
use Rattle.lock_free.specs.Passing.{IsPlaced}
use Rattle.lock_free.specs.Raising.{all_but, HasKept, HasRaisedAll, HasReleasedAll, LeadTo, MayHold, MayHoldOne, MayRelease, OwesOne}
use Rattle.lock_free.specs.SeenEntries.{HasMadeNext, IsAtMain, IsOver}
use Rattle.lock_free.specs.Stocks.{Stocked, IsStock, made_of, own_nodes}
use Rattle.lock_free.proofs.ClaimsThere.{has_often, often_has}
use Rattle.lock_free.proofs.EntryRaises.{kept_both, one_more_of}
use Rattle.lock_free.proofs.LimboStays.{limbo_stays}
use Rattle.lock_free.proofs.Pools.{first_there}
use Rattle.lock_free.proofs.Raisings.{in_slot_owing}
use Rattle.lock_free.proofs.Resting.{rested_kept}

-- ---- the stock is the seat's still

pub stock_kept : (stock next : Stocked) (v : View) (owed : List Ref) (w : View) → IsStock stock v → HasKept v owed w → next ≡ record stock { limbo = next.limbo } → IsLimbo next.limbo w →
    IsStock next w
stock_kept stock next v owed w is h same hangs = record {
  sizes = ap (λ (s : Stocked). s.sizes) same ∙ is.sizes ∙ sym (ap (λ (u : View). u.sizes) h.is);
  pool = ap (λ (s : Stocked). s.pool) same ∙ is.pool ∙ sym (ap (λ (u : View). u.pool) h.is);
  made = ap (λ (s : Stocked). s.made) same ∙ is.made ∙ sym (made_kept v owed w h);
  limbo = hangs;
}
  where
    made_kept : (v : View) (owed : List Ref) (w : View) → HasKept v owed w → map (made_of w) (own_nodes w) ≡ map (made_of v) (own_nodes v)
    made_kept v owed w h = ap (λ (u : View). map (made_of u) (own_nodes u)) h.is

pub raised_stock : (stock : Stocked) (v : View) (owed : List Ref) (w : View) → w ≡ owing v owed → IsStock stock v → IsStock stock w
raised_stock stock v owed w is h =
    subst (IsStock stock) (sym is) (record { sizes = h.sizes; pool = h.pool; made = h.made; limbo = limbo_stays stock.limbo v (owing v owed) refl h.limbo })

pub raised_kept : (v : View) (ks : List Ref) (w : View) → HasRaisedAll v ks w → HasKept v w.owed w
raised_kept v ks w done = subst (λ (u : View). HasKept v u.owed u) (sym done.is) (record { is = refl })

-- ---- once references are counted

at_owing : (v : View) (owed : List Ref) (does : Action) → IsAt v does → IsAt (owing v owed) does
at_owing v owed does h = record { operation = h.operation; runs = h.runs; acts = h.acts }

module _ (v : View) (ks : List Ref) (w : View) (done : HasRaisedAll v ks w) where
  pub raised_main : (shape : Shape) (entries : List Entry) → IsAtMain v shape entries → IsAtMain w shape entries
  raised_main shape entries h = subst (λ u. IsAtMain u shape entries) (sym done.is) (record {
    node = h.node;
    making = at_owing v w.owed (act.Make h.node) h.making;
    own = h.own;
    is_shape = h.is_shape;
    fits = h.fits;
    few = h.few;
    entries_to = h.entries_to;
  })

  pub raised_at : (does : Action) → IsAt v does → IsAt w does
  raised_at does h = subst (λ u. IsAt u does) (sym done.is) (at_owing v w.owed does h)

  pub raised_over : (p : Previous) → IsOver v p → IsOver w p
  raised_over p h = subst (λ u. IsOver u p) (sym done.is) h

  pub raised_pair : (by : Builder) (depth hash : ℕ) (old single : Entry) → MakesPair v by depth hash old single → MakesPair w by depth hash old single
  raised_pair by depth hash old single h = subst (λ u. MakesPair u by depth hash old single) (sym done.is) (record {
    its_old = h.its_old;
    its_single = h.its_single;
    making = at_owing v w.owed (act.Make (pair by.hashes depth hash by.hash h.its_old h.its_single)) h.making;
    old_to = h.old_to;
    single_to = h.single_to;
    over = h.over;
  })

  pub raised_link : (generation : ℕ) (r : Ref) (name : ℕ) (own : Bool) (p : IsAt v (act.Make (Indirection generation r))) → IsPlaced v r name → MayOwn p.operation.line (Indirection generation r) own →
      (q : Ref) × (at : IsAt w (act.Make (Indirection generation q))) × IsPlaced w q name × MayOwn at.operation.line (Indirection generation q) own
  unfolding at_owing
  raised_link generation r name own p placed may =
      subst (λ u. (q : Ref) × (at : IsAt u (act.Make (Indirection generation q))) × IsPlaced u q name × MayOwn at.operation.line (Indirection generation q) own) (sym done.is)
      (r, at_owing v w.owed (act.Make (Indirection generation r)) p, placed, may)

  holds_all : (k : Ref) → how_often k ks ≤ how_often k w.owed
  holds_all k = let all = done.all k in omega (arith, all)

  pub raised_new : (node : Node) (name : ℕ) (y : View) → HasNew w node name y → HasNew v node name y
  raised_new node name y h = from (subst (λ u. HasNew u node name y) done.is h)
    where
      from : HasNew (owing v w.owed) node name y → HasNew v node name y
      from g = record {
        made = g.made;
        placed = g.placed;
        node_is = g.node_is;
        become = record {
          follows = record {
            is = g.become.follows.is;
            places = g.become.follows.places;
            owns = g.become.follows.owns;
            nodes = g.become.follows.nodes;
            goes_on = g.become.follows.goes_on;
          };
          comes = g.become.comes;
        };
      }

  -- it is made
  pub built_new : (name : ℕ) (y : View) → HasMadeNext w (Some name) y → HasBuilt v (Some name) y
  built_new name y made node p = raised_new node name y (made node (raised_at (act.Make node) p))

module _ (v : View) (entries : List Entry) (but : Option ℕ) (h : MayHold v entries but) (w : View) (done : HasRaisedAll v (all_but but h.refs) w) where
  pub raised_holds : HoldsRaised w
  raised_holds = subst ((λ u. ((k : Ref) → how_often k (all_but but h.refs) ≤ how_often k w.owed) → HoldsRaised u)) (sym done.is)
      (λ all operation runs k c. elim (h.names operation runs k c) [
        | inl own ↦ inl own
        | inr rest ↦ elim rest [
          | inl one ↦ (let some = has_often k (all_but but h.refs) one in let most = all k in inr (inl (often_has k w.owed (omega (arith, some, most)))))
          | inr over ↦ inr (inr over)
        ]
      ])
      (holds_all v (all_but but h.refs) w done)

  lead_then : LeadTo w entries but h.refs
  lead_then = subst (λ u. LeadTo u entries but h.refs) (sym done.is) (record { named = h.may.lead.named; used = h.may.lead.used; shared = h.may.lead.shared })

  -- or no slot was had
  pub back_held : (x : View) → x ≡ w → MayRelease x entries but h.refs
  back_held x same = subst (λ u. MayRelease u entries but h.refs) (sym same) (record { lead = lead_then; owed = holds_all v (all_but but h.refs) w done })

  pub back_rested : (x y : View) → x ≡ w → HasReleasedAll x (all_but but h.refs) y → HasRested v y
  back_rested x y same released =
      rested_kept v y.owed y (kept_both v w y w.owed y.owed (raised_kept v (all_but but h.refs) w done) (subst (λ u. HasKept u y.owed y) same released.kept))

-- ---- a single alone

module _ (v : View) (kind : Kind) (class name : ℕ) (h : MayHoldOne v kind class name) (w : View) (raised : w ≡ owing v (h.one ∷ v.owed)) where
  pub one_done : HasRaisedAll v (h.one ∷ []) w
  one_done = subst (HasRaisedAll v (h.one ∷ [])) (sym raised) (record { is = refl; all = λ k. one_more_of k h.one v.owed (h.one ∷ v.owed) refl })

  pub one_holds : HoldsRaised w
  one_holds = subst HoldsRaised (sym raised) (λ operation runs k c. elim (h.names operation runs k c) [
    | inl own ↦ inl own
    | inr same ↦ inr (inl (subst (Contains (h.one ∷ v.owed)) (sym same) (first_there h.one v.owed)))
  ])

  -- no slot was had
  module _ (x : View) (same : x ≡ w) where
    pub one_owes : OwesOne x h.one kind class name
    one_owes =
        subst (λ u. OwesOne u h.one kind class name) (sym (same ∙ raised))
        ((first_there h.one v.owed, in_slot_owing v (h.one ∷ v.owed) h.one class name h.hand.1, h.shared), h.its_kind)

    pub one_back : (y : View) → HasKept x (without_one h.one x.owed) y → HasRested v y
    one_back y kept =
        rested_kept v (without_one h.one x.owed) y
        (kept_both v w y w.owed (without_one h.one x.owed) (raised_kept v (h.one ∷ []) w one_done) (subst (λ u. HasKept u (without_one h.one x.owed) y) same kept))
