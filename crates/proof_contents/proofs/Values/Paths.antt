-- Paths last: what was once reached through a generation alone is so until its main node is a tomb, and a tomb stays.
use Rattle.std.proofs.Common.{◌≡◌, ◌≢◌, ℕ, zero, suc, ◌+◌, ◌*◌, ◌/◌, ◌%◌, ◌^◌, ◌<◌, ◌≤◌, ◌==◌, Bool, true, false, List, ◌∷◌, length, slice_index_or, Option, Some, None, ◌⊎◌, inl}
use Rattle.std.proofs.Common.{inr, ⊎_elim, refl, sym, ap, ap₂, subst, ◌∙◌, arith, eqb-true, add_comm, []}
use Rattle.std.proofs.Math.Nat.{mod-one}
use Rattle.std.proofs.lemmas.Nat.{mod-pow-add}
use Rattle.arrayvec.specs.ArrayVec.{ArrayVec}
use Rattle.proof_contents.specs.Vocabulary.{hash_of, Ref, Node, Branch, Tomb, List as Listed, no_ref, generation_of, entries_from, index_in, renewed}
use Rattle.proof_contents.specs.Nodes.Branches.{standing, HasPlaces, at_place}
use Rattle.proof_contents.specs.Nodes.Looking.{Absent, Has, Below, look_at}
use Rattle.proof_contents.specs.Nodes.Changing.{Changes, look}
use Rattle.proof_contents.proofs.Nodes.Branches.{before, standing_at, differ}
use Rattle.proof_contents.proofs.Nodes.Changes.{look_place, look_branch}
use Rattle.proof_contents.proofs.Nodes.Tombs.{before-lt}
use Rattle.proof_contents.proofs.Nodes.Refilling.{refilled, refilled-places, refilled-none, refilled-some}
use Rattle.proof_contents.specs.Tries.{Trie, generation, node_in, says, assigned, On, at_root, at_below, IsTombed, IsShaped}
use Rattle.proof_contents.specs.Steps.{Stays, kept, renewed_by, untombed, IsRepair, refills, entombs, IsOwnUpdate, branch_inserts, branch_updates, branch_removes, branch_entombs}
use Rattle.proof_contents.specs.Steps.{goes_beside, list_inserts, list_updates, list_removes, list_entombs, Does, nothing, a_repair, an_update, LeavesOthers, IsTrie}
use Rattle.proof_contents.proofs.Values.Found.{assigned-own}
use Rattle.proof_contents.proofs.Shapes.Nodes.{IsBranch, branch_shape, tomb_shape, LeadsBelow, leads_below, below_is, single_ends, leads}
use Rattle.proof_contents.proofs.Changes.Updating.{HasUpdated, changes, beside, IsBeside, has_updated, found_of}

module _ (trie : Trie) (ok : IsTrie trie) where
  -- what leads below before step t
  pub led_below : (t q : ℕ) (i j : Ref) → t ≤ trie.last → says trie t q (trie.depth i) i ≡ Below j → LeadsBelow trie i q (node_in trie t i) j
  led_below t q i j lt e = leads_below trie i q (node_in trie t i) j (ok.shaped t i lt) e

  -- ---- what being on a path gives

  pub on-generation : (t g q depth : ℕ) (i : Ref) → On trie t g q depth i → generation trie i ≡ g
  on-generation t g q depth i (at_root e) = e
  on-generation t g q depth i (at_below depth' above below on leads e) = e

  pub on-depth : (t g q depth : ℕ) (i : Ref) → t ≤ trie.last → On trie t g q depth i → trie.depth i ≡ depth
  on-depth t g q depth i lt (at_root e) = ok.root_depth g
  on-depth t g q depth i lt (at_below depth' above below on leads e) =
      let at = on-depth t g q depth' above lt on in
      (led_below t q above below lt (subst (λ d. says trie t q d above ≡ Below below) (sym at) leads)).child.deeper ∙ ap suc at

  pub on-within : (t g q depth : ℕ) (i : Ref) → t ≤ trie.last → On trie t g q depth i → trie.depth i ≤ 13
  on-within t g q depth i lt (at_root e) = omega (arith, ok.root_depth g)
  on-within t g q depth i lt (at_below depth' above below on leads e) =
      let at = on-depth t g q depth' above lt on in
      (led_below t q above below lt (subst (λ d. says trie t q d above ≡ Below below) (sym at) leads)).deep

  pub on-path : (t g q depth : ℕ) (i : Ref) → t ≤ trie.last → On trie t g q depth i → trie.path i ≡ hash_of trie.kind q % 2 ^ (5 * depth)
  on-path t g q depth i lt (at_root e) = ok.root_path g ∙ sym (mod-one (hash_of trie.kind q))
  on-path t g q depth i lt (at_below depth' above below on leads e) =
      let at = on-depth t g q depth' above lt on in
      let led = (led_below t q above below lt (subst (λ d. says trie t q d above ≡ Below below) (sym at) leads)).child.led in
      let h = hash_of trie.kind q in
      let parts : h % 2 ^ (5 + 5 * depth') ≡ (h / 2 ^ (5 * depth') % 2 ^ 5) * 2 ^ (5 * depth') + h % 2 ^ (5 * depth') = mod-pow-add h 5 (5 * depth') in
      let five : 5 * suc depth' ≡ 5 + 5 * depth' = omega arith in
      led ∙ ap₂ (λ p d. p + (h / 2 ^ (5 * d) % 32) * 2 ^ (5 * d)) (on-path t g q depth' above lt on) at ∙ add_comm (h % 2 ^ (5 * depth')) ((h / 2 ^ (5 * depth') % 32) * 2 ^ (5 * depth'))
      ∙ sym (ap (λ n. h % 2 ^ n) five ∙ parts)

  -- a key of the same hash has the same path
  pub on-alike : (t g q p depth : ℕ) (i : Ref) → t ≤ trie.last → hash_of trie.kind p ≡ hash_of trie.kind q → On trie t g q depth i → On trie t g p depth i
  on-alike t g q p depth i lt same (at_root e) = at_root e
  on-alike t g q p depth i lt same (at_below depth' above below on leads e) =
      let at = on-depth t g q depth' above lt on in
      let led = led_below t q above below lt (subst (λ d. says trie t q d above ≡ Below below) (sym at) leads) in
      at_below depth' above below (on-alike t g q p depth' above lt same on)
      (subst (λ d. says trie t p d above ≡ Below below) at (led.alike p (ap (λ h. index_in h (trie.depth above)) same))) e

  -- ---- one step

  -- a tomb that leads below isn't one
  pub tomb_ends : (t q : ℕ) (i j : Ref) → t ≤ trie.last → IsTombed trie t i → says trie t q (trie.depth i) i ≢ Below j
  tomb_ends t q i j lt (single, is) e =
      let s = tomb_shape trie i (node_in trie t i) single (ok.shaped t i lt) is in
      single_ends trie.node q s.key s.value single j s.is (sym (ap (look trie.node (hash_of trie.kind) (trie.depth i) q) is) ∙ e)

  -- An entry of the generation that stays leads below still, or its main node is a tomb.
  entry_stays : (g t q : ℕ) (entry other j : Ref) → Stays trie g t entry other → look_at q entry (trie.node entry) ≡ Below j → generation trie j ≡ g →
      (look_at q other (trie.node other) ≡ Below j) ⊎ IsTombed trie t j
  entry_stays g t q entry other j (kept same) e own = inl (ap (λ r. look_at q r (trie.node r)) (sym same) ∙ e)
  entry_stays g t q entry other j (renewed_by h word word' is apart fresh main) e own =
      let found = below_is trie.node q entry j e in
      absurd (apart (ap (λ n. generation_of n) (sym is) ∙ ap (generation trie) found.0 ∙ own))
  entry_stays g t q entry other j (untombed h word is tomb) e own =
      let found = below_is trie.node q entry j e in
      inr (other, ap trie.node (sym (assigned-own trie g t j own) ∙ ap (assigned trie g t) (sym found.0)) ∙ tomb)

  -- What is looked up in a branch before and after its entries are refilled: nothing, or an entry and the one that stays for it.
  pub data LooksUp (g t q : ℕ) (i : Ref) (old new : Node) : Type 0 where
    in_none : look trie.node (hash_of trie.kind) (trie.depth i) q old ≡ Absent → look trie.node (hash_of trie.kind) (trie.depth i) q new ≡ Absent → LooksUp g t q i old new
    in_entry : (entry other : Ref) → Stays trie g t entry other → look trie.node (hash_of trie.kind) (trie.depth i) q old ≡ look_at q entry (trie.node entry) →
        look trie.node (hash_of trie.kind) (trie.depth i) q new ≡ look_at q other (trie.node other) → LooksUp g t q i old new

  pub refilled_looks : (g t q : ℕ) (i : Ref) (old new : Node) (bitmap : ℕ) (entries : ArrayVec Ref) (others : List Ref) → IsShaped trie i old → old ≡ Branch bitmap entries →
      new ≡ renewed bitmap others → length others ≡ length entries.items →
      ((n : ℕ) → n < length entries.items → Stays trie g t (slice_index_or entries.items n no_ref) (slice_index_or others n no_ref)) → LooksUp g t q i old new
  refilled_looks g t q i old new bitmap entries others shape o n count stays = by_place (at_place places x) refl
    where
      x : ℕ
      x = index_in (hash_of trie.kind q) (trie.depth i)

      s : IsBranch trie i bitmap entries
      s = branch_shape trie i old bitmap entries shape o

      places : List (Option Ref)
      places = s.places

      whole : length entries.items ≡ length (standing places)
      whole = ap length s.has.stand

      new-has : HasPlaces bitmap (entries_from others).items (refilled places others)
      new-has = refilled-places bitmap entries.items others places s.has count

      old_is : look trie.node (hash_of trie.kind) (trie.depth i) q old ≡ look_place trie.node q (at_place places x)
      old_is = ap (look trie.node (hash_of trie.kind) (trie.depth i) q) o ∙ look_branch trie.node q bitmap x entries places s.has

      new_is : look trie.node (hash_of trie.kind) (trie.depth i) q new ≡ look_place trie.node q (at_place (refilled places others) x)
      new_is = ap (look trie.node (hash_of trie.kind) (trie.depth i) q) n ∙ look_branch trie.node q bitmap x (entries_from others) (refilled places others) new-has

      by_place : (found : Option Ref) → at_place places x ≡ found → LooksUp g t q i old new
      by_place None at = in_none (old_is ∙ ap (look_place trie.node q) at) (new_is ∙ ap (look_place trie.node q) (refilled-none places others x at))
      by_place (Some entry) at =
          let here : slice_index_or entries.items (before places x) no_ref ≡ entry = ap (λ es. slice_index_or es (before places x) no_ref) s.has.stand ∙ standing_at places x entry no_ref at in
          in_entry entry (slice_index_or others (before places x) no_ref)
          (subst (λ e. Stays trie g t e (slice_index_or others (before places x) no_ref)) here (stays (before places x) (omega (arith, before-lt places x entry at, whole))))
          (old_is ∙ ap (look_place trie.node q) at)
          (new_is ∙ ap (look_place trie.node q) (refilled-some places others x entry no_ref (count ∙ whole) at))

  -- what is looked up in a branch of one entry
  pub data LooksUpOne (q : ℕ) (i entry : Ref) (old : Node) : Type 0 where
    one_none : look trie.node (hash_of trie.kind) (trie.depth i) q old ≡ Absent → LooksUpOne q i entry old
    one_entry : look trie.node (hash_of trie.kind) (trie.depth i) q old ≡ look_at q entry (trie.node entry) → LooksUpOne q i entry old

  pub one_looks : (q : ℕ) (i : Ref) (old : Node) (bitmap : ℕ) (entries : ArrayVec Ref) (entry : Ref) → IsShaped trie i old → old ≡ Branch bitmap entries →
      entries.items ≡ entry ∷ [] → LooksUpOne q i entry old
  one_looks q i old bitmap entries entry shape o one = by_place (at_place places x) refl
    where
      x : ℕ
      x = index_in (hash_of trie.kind q) (trie.depth i)

      s : IsBranch trie i bitmap entries
      s = branch_shape trie i old bitmap entries shape o

      places : List (Option Ref)
      places = s.places

      old_is : look trie.node (hash_of trie.kind) (trie.depth i) q old ≡ look_place trie.node q (at_place places x)
      old_is = ap (look trie.node (hash_of trie.kind) (trie.depth i) q) o ∙ look_branch trie.node q bitmap x entries places s.has

      by_place : (found : Option Ref) → at_place places x ≡ found → LooksUpOne q i entry old
      by_place None at = one_none (old_is ∙ ap (look_place trie.node q) at)
      by_place (Some e) at =
          let list : standing places ≡ entry ∷ [] = sym s.has.stand ∙ one in
          let first : before places x ≡ 0 = omega (arith, before-lt places x e at, ap length list) in
          let same : e ≡ entry = sym (standing_at places x e no_ref at) ∙ ap₂ (λ es n. slice_index_or es n no_ref) list first in
          one_entry (old_is ∙ ap (look_place trie.node q) at ∙ ap (λ r. look_at q r (trie.node r)) same)

  -- a repair leaves what leads to the generation, but to tombs
  repair_leads : (g t q : ℕ) (i j : Ref) (old new : Node) → IsShaped trie i old → IsRepair trie g t old new → look trie.node (hash_of trie.kind) (trie.depth i) q old ≡ Below j →
      generation trie j ≡ g → (look trie.node (hash_of trie.kind) (trie.depth i) q new ≡ Below j) ⊎ IsTombed trie t j
  repair_leads g t q i j old new shape (refills bitmap entries others o n count stays) e own = by_look (refilled_looks g t q i old new bitmap entries others shape o n count stays)
    where
      by_look : LooksUp g t q i old new → (look trie.node (hash_of trie.kind) (trie.depth i) q new ≡ Below j) ⊎ IsTombed trie t j
      by_look (in_none a b) = absurd (let bad : Absent ≡ Below j = sym a ∙ e in cc)
      by_look (in_entry entry other stay a b) = ⊎_elim (λ below. inl (b ∙ below)) (λ tomb. inr tomb) (entry_stays g t q entry other j stay (sym a ∙ e) own)
  repair_leads g t q i j old new shape (entombs bitmap entries entry single o one n stay) e own = by_look (one_looks q i old bitmap entries entry shape o one)
    where
      by_look : LooksUpOne q i entry old → (look trie.node (hash_of trie.kind) (trie.depth i) q new ≡ Below j) ⊎ IsTombed trie t j
      by_look (one_none a) = absurd (let bad : Absent ≡ Below j = sym a ∙ e in cc)
      by_look (one_entry a) =
          ⊎_elim (λ below. inl (ap (look trie.node (hash_of trie.kind) (trie.depth i) q) n ∙ below)) (λ tomb. inr tomb) (entry_stays g t q entry single j stay (sym a ∙ e) own)

  -- an own update too
  update_leads : (g t q key : ℕ) (i j : Ref) (old new : Node) (former now : Option ℕ) → IsShaped trie i old → IsOwnUpdate trie g t i key old new former now →
      look trie.node (hash_of trie.kind) (trie.depth i) q old ≡ Below j → look trie.node (hash_of trie.kind) (trie.depth i) q new ≡ Below j
  update_leads g t q key i j old new former now shape u e = by_change (has_updated trie g t i key old new former now shape u)
    where
      value_ends : (o : Option ℕ) → found_of o ≢ Below j
      value_ends None bad = let worse : Absent ≡ Below j = bad in cc
      value_ends (Some v) bad = let worse : Has v ≡ Below j = bad in cc

      index : ℕ → ℕ
      index p = index_in (hash_of trie.kind p) (trie.depth i)

      by_key : Changes trie.node (hash_of trie.kind) (trie.depth i) key old new (found_of former) (found_of now) → (b : Bool) → (q == key) ≡ b →
          look trie.node (hash_of trie.kind) (trie.depth i) q new ≡ Below j
      by_key c true same = absurd (value_ends former (sym c.before ∙ ap (λ k. look trie.node (hash_of trie.kind) (trie.depth i) k old) (sym (eqb-true q key same)) ∙ e))
      by_key c false apart = c.others q (differ q key apart) ∙ e

      by_index : (value : ℕ) → IsBeside trie g t i key old new value → (b : Bool) → (index q == index key) ≡ b → look trie.node (hash_of trie.kind) (trie.depth i) q new ≡ Below j
      by_index value c true same =
          absurd (single_ends trie.node q c.other c.own c.entry j c.entry_is (sym (c.was q (eqb-true (index q) (index key) same)) ∙ e))
      by_index value c false apart = c.elsewhere q (differ (index q) (index key) apart) ∙ e

      by_change : HasUpdated trie g t i key old new former now → look trie.node (hash_of trie.kind) (trie.depth i) q new ≡ Below j
      by_change (changes c) = by_key c (q == key) refl
      by_change (beside value f n c) = by_index value c (index q == index key) refl

  -- a tomb is never updated
  pub update_of_tomb : (g t key : ℕ) (i single : Ref) (old new : Node) (former now : Option ℕ) → IsOwnUpdate trie g t i key old new former now → old ≢ Tomb single
  update_of_tomb g t key i s old new former now (branch_inserts bitmap value entries single o a b c) e = let bad : Branch bitmap entries ≡ Tomb s = sym o ∙ e in cc
  update_of_tomb g t key i s old new former now (branch_updates bitmap was value entries single o a b c d) e = let bad : Branch bitmap entries ≡ Tomb s = sym o ∙ e in cc
  update_of_tomb g t key i s old new former now (branch_removes bitmap was entries o a b c) e = let bad : Branch bitmap entries ≡ Tomb s = sym o ∙ e in cc
  update_of_tomb g t key i s old new former now (branch_entombs bitmap was other value entries o a b c d f) e = let bad : Branch bitmap entries ≡ Tomb s = sym o ∙ e in cc
  update_of_tomb g t key i s old new former now (goes_beside bitmap other value own levels h entries single link word o a b c d f k l m) e =
      let bad : Branch bitmap entries ≡ Tomb s = sym o ∙ e in cc
  update_of_tomb g t key i s old new former now (list_inserts value singles single o a b c d) e = let bad : Listed singles ≡ Tomb s = sym o ∙ e in cc
  update_of_tomb g t key i s old new former now (list_updates p was value singles single o a b c d) e = let bad : Listed singles ≡ Tomb s = sym o ∙ e in cc
  update_of_tomb g t key i s old new former now (list_removes p was singles o a b c) e = let bad : Listed singles ≡ Tomb s = sym o ∙ e in cc
  update_of_tomb g t key i s old new former now (list_entombs p was singles o a b c d) e = let bad : Listed singles ≡ Tomb s = sym o ∙ e in cc

  repair_of_tomb : (g t : ℕ) (single : Ref) (old new : Node) → IsRepair trie g t old new → old ≢ Tomb single
  repair_of_tomb g t s old new (refills bitmap entries others o n count stays) e = let bad : Branch bitmap entries ≡ Tomb s = sym o ∙ e in cc
  repair_of_tomb g t s old new (entombs bitmap entries entry single o one n stays) e = let bad : Branch bitmap entries ≡ Tomb s = sym o ∙ e in cc

  -- a tomb stays
  pub tomb_stays : (t : ℕ) (i single : Ref) → t < trie.last → node_in trie t i ≡ Tomb single → trie.main (suc t) i ≡ trie.main t i
  tomb_stays t i single lt is = by_step (ok.does t lt)
    where
      in_repair : (j : Ref) → LeavesOthers trie t j → IsRepair trie (generation trie j) t (node_in trie t j) (node_in trie (suc t) j) → (b : Bool) → (i == j) ≡ b →
          trie.main (suc t) i ≡ trie.main t i
      in_repair j others r true same = absurd (repair_of_tomb (generation trie j) t single (node_in trie t j) (node_in trie (suc t) j) r (ap (node_in trie t) (sym (eqb-true i j same)) ∙ is))
      in_repair j others r false apart = others i (differ i j apart)

      in_update : (j : Ref) (key : ℕ) (former now : Option ℕ) → LeavesOthers trie t j →
          IsOwnUpdate trie (generation trie j) t j key (node_in trie t j) (node_in trie (suc t) j) former now → (b : Bool) → (i == j) ≡ b → trie.main (suc t) i ≡ trie.main t i
      in_update j key former now others u true same =
          absurd (update_of_tomb (generation trie j) t key j single (node_in trie t j) (node_in trie (suc t) j) former now u (ap (node_in trie t) (sym (eqb-true i j same)) ∙ is))
      in_update j key former now others u false apart = others i (differ i j apart)

      by_step : Does trie t → trie.main (suc t) i ≡ trie.main t i
      by_step (nothing same) = same i
      by_step (a_repair j others r) = in_repair j others r (i == j) refl
      by_step (an_update j key former now others u) = in_update j key former now others u (i == j) refl

  -- what leads to an indirection of its generation does so after a step, or that indirection's main node is a tomb
  leads_on : (t q : ℕ) (i j : Ref) → t < trie.last → says trie t q (trie.depth i) i ≡ Below j → generation trie j ≡ generation trie i →
      (says trie (suc t) q (trie.depth i) i ≡ Below j) ⊎ IsTombed trie (suc t) j
  leads_on t q i j lt e own = by_step (ok.does t lt)
    where
      before_step : t ≤ trie.last
      before_step = omega arith

      same_main : trie.main (suc t) i ≡ trie.main t i → says trie (suc t) q (trie.depth i) i ≡ Below j
      same_main m = ap (λ r. look trie.node (hash_of trie.kind) (trie.depth i) q (trie.node r)) m ∙ e

      tombed_on : IsTombed trie t j → IsTombed trie (suc t) j
      tombed_on (single, is) = (single, ap trie.node (tomb_stays t j single lt is) ∙ is)

      in_repair : (k : Ref) → LeavesOthers trie t k → IsRepair trie (generation trie k) t (node_in trie t k) (node_in trie (suc t) k) → (b : Bool) → (i == k) ≡ b →
          (says trie (suc t) q (trie.depth i) i ≡ Below j) ⊎ IsTombed trie (suc t) j
      in_repair k others r true same =
          ⊎_elim (λ below. inl below) (λ tomb. inr (tombed_on tomb))
          (repair_leads (generation trie i) t q i j (node_in trie t i) (node_in trie (suc t) i) (ok.shaped t i before_step)
          (subst (λ n. IsRepair trie (generation trie n) t (node_in trie t n) (node_in trie (suc t) n)) (sym (eqb-true i k same)) r) e own)
      in_repair k others r false apart = inl (same_main (others i (differ i k apart)))

      in_update : (k : Ref) (key : ℕ) (former now : Option ℕ) → LeavesOthers trie t k →
          IsOwnUpdate trie (generation trie k) t k key (node_in trie t k) (node_in trie (suc t) k) former now → (b : Bool) → (i == k) ≡ b →
          says trie (suc t) q (trie.depth i) i ≡ Below j
      in_update k key former now others u true same =
          update_leads (generation trie i) t q key i j (node_in trie t i) (node_in trie (suc t) i) former now (ok.shaped t i before_step)
          (subst (λ n. IsOwnUpdate trie (generation trie n) t n key (node_in trie t n) (node_in trie (suc t) n) former now) (sym (eqb-true i k same)) u) e
      in_update k key former now others u false apart = same_main (others i (differ i k apart))

      by_step : Does trie t → (says trie (suc t) q (trie.depth i) i ≡ Below j) ⊎ IsTombed trie (suc t) j
      by_step (nothing same) = inl (same_main (same i))
      by_step (a_repair k others r) = in_repair k others r (i == k) refl
      by_step (an_update k key former now others u) = inl (in_update k key former now others u (i == k) refl)

  -- ---- many steps

  on_step : (t g q depth : ℕ) (i : Ref) → t < trie.last → On trie t g q depth i → On trie (suc t) g q depth i ⊎ IsTombed trie (suc t) i
  on_step t g q depth i lt (at_root e) = inl (at_root e)
  on_step t g q depth i lt (at_below depth' above below on led e) = by_link (leads_on t q above below lt at_depth own) (on_step t g q depth' above lt on)
    where
      at : trie.depth above ≡ depth'
      at = on-depth t g q depth' above (omega arith) on

      at_depth : says trie t q (trie.depth above) above ≡ Below below
      at_depth = subst (λ d. says trie t q d above ≡ Below below) (sym at) led

      own : generation trie below ≡ generation trie above
      own = e ∙ sym (on-generation t g q depth' above on)

      by_link : (says trie (suc t) q (trie.depth above) above ≡ Below below) ⊎ IsTombed trie (suc t) below → On trie (suc t) g q depth' above ⊎ IsTombed trie (suc t) above →
          On trie (suc t) g q (suc depth') below ⊎ IsTombed trie (suc t) below
      by_link (inl leads') (inl on') = inl (at_below depth' above below on' (subst (λ d. says trie (suc t) q d above ≡ Below below) at leads') e)
      by_link (inl leads') (inr tomb) = absurd (tomb_ends (suc t) q above below lt tomb leads')
      by_link (inr tomb) rest = inr tomb

  pub path_lasts : (t u g q depth : ℕ) (i : Ref) → t ≤ u → u ≤ trie.last → On trie t g q depth i → On trie u g q depth i ⊎ IsTombed trie u i
  path_lasts t zero g q depth i le lt on = inl (subst (λ n. On trie n g q depth i) (omega arith) on)
  path_lasts t (suc u) g q depth i le lt on = by_time (path_lasts t u g q depth i) (t == suc u) refl
    where
      goes_on : On trie u g q depth i ⊎ IsTombed trie u i → On trie (suc u) g q depth i ⊎ IsTombed trie (suc u) i
      goes_on (inl on') = on_step u g q depth i lt on'
      goes_on (inr (single, is)) = inr (single, ap trie.node (tomb_stays u i single lt is) ∙ is)

      by_time : (t ≤ u → u ≤ trie.last → On trie t g q depth i → On trie u g q depth i ⊎ IsTombed trie u i) → (b : Bool) → (t == suc u) ≡ b →
          On trie (suc u) g q depth i ⊎ IsTombed trie (suc u) i
      by_time rest true same = inl (subst (λ n. On trie n g q depth i) (eqb-true t (suc u) same) on)
      by_time rest false apart = let before = differ t (suc u) apart in goes_on (rest (omega arith) (omega arith) on)
