-- What a line makes, swaps and decides stands at its site.
use Rattle.std.proofs.Common.{◌≡◌, ℕ, ◌-◌, ◌*◌, ◌^◌, ◌<◌, ◌&&◌, true, false, nat_lt, length, refl, sym, ap, subst, ◌∙◌, ltb-true, lt-ltb, leb-true, arith}
use Rattle.std.proofs.lemmas.Bool.{false≢true}
use Rattle.proof_shape.specs.Vocabulary.{HashKind, Ref, Node as SlotNode, Branch, node_at, bitmap_of, no_ref, has_flag, list_depth, Operation, ReadLine, SwapLine, CompleteLine, Descriptor, RootLine}
use Rattle.proof_shape.specs.Vocabulary.{Line, key_of, State, current, above, depth_of, hash_in, is_below_root, action_at, complete_action_at, root_action, leaves_single, line_action, AllHold}
use Rattle.proof_shape.specs.Vocabulary.{line_wants, flags, ReadLevel, CompleteLevel, RootLevel, LineLevel, Known, KnowsLine}
use Rattle.proof_shape.specs.Beneath.machine_model.specs.declared.reading.ReadLine.TheVariants as read
use Rattle.proof_shape.specs.Beneath.machine_model.specs.declared.reading.SwapLine.TheVariants as swap
use Rattle.proof_shape.specs.Beneath.machine_model.specs.declared.roots.CompleteLine.TheVariants as complete
use Rattle.proof_shape.specs.Beneath.machine_model.specs.declared.roots.RootLine.TheVariants as root
use Rattle.proof_shape.specs.Beneath.machine_model.specs.declared.finding.KeyLine.TheVariants as key
use Rattle.proof_shape.specs.Beneath.machine_model.specs.declared.repairs.RenewLine.TheVariants as renew
use Rattle.proof_shape.specs.Beneath.machine_model.specs.declared.repairs.CleanLine.TheVariants as clean
use Rattle.proof_shape.specs.Beneath.machine_model.specs.declared.repairs.ClimbLine.TheVariants as climb
use Rattle.proof_shape.specs.Beneath.machine_model.specs.declared.copying.CopyLine.TheVariants as copy
use Rattle.proof_shape.specs.Beneath.machine_model.specs.declared.walking.WalkLine.TheVariants as walk
use Rattle.proof_shape.specs.Beneath.machine_model.specs.declared.lines.Line.TheVariants as line
use Rattle.proof_shape.specs.Beneath.proof_memory.proofs.Claims.Uses.{safe_of, meets_of, fact_of, all_of}
use Rattle.proof_shape.specs.Beneath.proof_memory.proofs.Claims.Named.{main_claim, done_claim, left_claim, single_claim, past_climb}
use Rattle.proof_shape.specs.Beneath.proof_memory.proofs.Levels.Paths.{current_level}
use Rattle.proof_shape.specs.Beneath.proof_memory.proofs.Levels.Shapes.{LineShape, deep_low}
use Rattle.proof_shape.specs.Beneath.proof_contents.proofs.Shapes.Builders.{empty_shaped}
use Rattle.proof_shape.specs.Sites.Nodes.{depth_at}
use Rattle.proof_shape.specs.Sites.Lines.{Sites, trie_at, ReadSite, SwapSite, SwapLineSite, LineSite}
use Rattle.proof_shape.proofs.Sites.Ways.{on_way}
use Rattle.proof_shape.proofs.Sites.Seen.{Sees, link_seen}
use Rattle.proof_shape.proofs.Sites.Made.{AtSite, ActionSite, read_acts, shaped_inside}
use Rattle.proof_shape.proofs.Sites.Build.{build_makes}
use Rattle.proof_shape.proofs.Sites.Repair.{more_left, link_stands, repair_makes, left_alone, single_is}
use Rattle.proof_shape.proofs.Sites.Climb.{climb_makes}

-- a flag that a branch has
pub flags_bitmap : (flag : ℕ) (n : SlotNode) → flags flag n ≡ true → has_flag (bitmap_of n) flag ≡ true
flags_bitmap flag (Branch b es) e = e
flags_bitmap flag n e = absurd (false≢true e)

module _ (s : Sites) (fits : (i : Ref) → s.path i < 2 ^ (5 * depth_at (s.level i))) where
  -- the path to a root is empty
  pub root_path : (r : Ref) → s.level r ≡ 1 → s.path r ≡ 0
  root_path r e =
      let here : depth_at (s.level r) ≡ 0 = omega (arith, e) in
      let low : s.path r < 1 = subst (λ d. s.path r < 2 ^ (5 * d)) here (fits r) in
      omega (arith, low)

  pub roots_alike : (r q : Ref) → s.level r ≡ 1 → s.level q ≡ 1 → s.path r ≡ s.path q
  roots_alike r q a b = root_path r a ∙ sym (root_path q b)

  -- a READ at a root
  pub root_read : (kind : HashKind) (i : Ref) (l : ReadLine) → s.level i ≡ 1 → ReadLevel s.level i l → ReadSite kind s i l
  root_read kind i read.Main e h = tt
  root_read kind i (read.Prev main) e h = roots_alike main i (h ∙ e) e
  root_read kind i (read.AskRoot main previous) e h = (roots_alike main i (h.0 ∙ e) e, roots_alike previous i (h.1 ∙ e) e)
  root_read kind i (read.Abort main previous offer) e h = (roots_alike main i (h.0.0 ∙ e) e, roots_alike previous i (h.0.1 ∙ e) e)
  root_read kind i (read.Decide main previous told) e h = (roots_alike main i (h.0 ∙ e) e, roots_alike previous i (h.1 ∙ e) e)
  root_read kind i (read.Restore main previous) e h = roots_alike previous i (h ∙ e) e

  complete_acts : (kind : HashKind) (At : Ref → Type 0) (offer : Descriptor) (l : CompleteLine) → CompleteLevel s.level offer l → ActionSite kind s At (complete_action_at offer l)
  complete_acts kind At offer (complete.Reading l) e = read_acts kind s At offer.root l (root_read kind offer.root l e.0.0 e.1)
  complete_acts kind At offer (complete.Swap main) e = tt

  root_acts : (kind : HashKind) (At : Ref → Type 0) (l : RootLine) → RootLevel s.level l → ActionSite kind s At (root_action l)
  root_acts kind At root.Read e = tt
  root_acts kind At (root.Completing c) e = complete_acts kind At c.offer c.line e

  swap_acts : (kind : HashKind) (At : Ref → Type 0) (i replaced fresh : Ref) (l : SwapLine) → SwapSite kind s i replaced fresh → SwapLineSite kind s i l →
      ActionSite kind s At (action_at i replaced fresh l)
  swap_acts kind At i replaced fresh swap.Publish h e = h
  swap_acts kind At i replaced fresh (swap.Deciding l) h e = read_acts kind s At i l e
  swap_acts kind At i replaced fresh swap.Check h e = tt

  module _ (state : State) (operation : Operation) (S : Ref → Type 0) (N : Sees s state S) (first : Ref → Ref) (key_fits : key_of operation.call < 2 ^ 64) where
    abbrev kind : HashKind
    kind = state.limits.hash

    abbrev hash : ℕ
    hash = hash_in state operation

    abbrev K : Known
    K = record { kind = kind; node = s.node; first = first }

    abbrev Wants : Line → Type 0
    Wants l = AllHold S state.heap (line_wants state.limits.hash operation.call operation.access l)

    pub line_acts : (l : Line) → Wants l → LineLevel s.level l → LineShape (list_depth kind) l → LineSite kind s hash l → KnowsLine K operation.call l →
        ActionSite kind s (AtSite s state operation l) (line_action state operation l)
    line_acts (line.Root l) h e g p knows = root_acts kind _ l e
    line_acts (line.Key (key.Read path x)) h e g p knows = read_acts kind s _ x.indirection x.line p.2
    line_acts (line.Key (key.Main path main)) h e g p knows = tt
    line_acts (line.Key (key.Entry path main position)) h e g p knows = tt
    line_acts (line.Key (key.Listed path main position)) h e g p knows = tt
    line_acts (line.Key (key.Sibling path main position former)) h e g p knows = tt
    line_acts (line.Build l) h e g p knows = build_makes s fits state operation S N first key_fits l h e g p knows
    line_acts (line.Swap why w) h e g p knows = swap_acts kind _ w.indirection w.replaced w.fresh w.line p.0 p.1
    line_acts (line.Renew (renew.Entry path main done)) h e g p knows = tt
    line_acts (line.Renew (renew.Read path main done x)) h e g p knows = read_acts kind s _ x.indirection x.line p.2
    line_acts (line.Renew (renew.Link path main done child)) h e g p knows = λ r at.
        let stands = link_stands s fits state operation S N path main done r (safe_of (main_claim h)) (meets_of (main_claim h))
        (more_left s fits state operation S N main done (safe_of (main_claim h)) (meets_of (left_claim h))) p.1.1 e.0.0.1 at.0 at.1 in
        p.2 ∙ sym stands.led
    line_acts (line.Renew (renew.Branch path main done)) h e g p knows = λ r at.
        repair_makes s fits state operation S N false path main done r (main_claim h)
        (leb-true _ (length done) (meets_of (left_claim h))) p e.0.1 at.0 (on_way s kind hash (depth_of path) r at.1)
        (λ single bad. absurd (false≢true bad))
    line_acts (line.Clean (clean.Read path x)) h e g p knows = read_acts kind s _ x.indirection x.line p.2
    line_acts (line.Clean (clean.Main path main)) h e g p knows = tt
    line_acts (line.Clean (clean.Entry path main done)) h e g p knows = tt
    line_acts (line.Clean (clean.Child path main done x)) h e g p knows = read_acts kind s _ x.indirection x.line p.2
    line_acts (line.Clean (clean.Tomb path main done child)) h e g p knows = tt
    line_acts (line.Clean (clean.Contracted path main done)) h e g p knows = λ r at.
        shaped_inside kind s r _
        (repair_makes s fits state operation S N (is_below_root path && leaves_single state done) path main done r (main_claim h)
        (leb-true _ (length done) (meets_of (left_claim h))) p e.0.1 at.0
        (on_way s kind hash (depth_of path) r at.1) (left_alone s fits state operation S N path done (all_of (done_claim h))))
    line_acts (line.Climb (climb.Read c x)) h e g p knows = read_acts kind s _ x.indirection x.line p.2
    line_acts (line.Climb (climb.Main c main)) h e g p knows = tt
    line_acts (line.Climb (climb.Contracted c main)) h e g p knows = λ r at.
        let long = fact_of h.1.0 in
        let some : nat_lt 0 (length c.path) ≡ true = lt-ltb 0 (length c.path) (let two : 1 < length c.path = ltb-true 1 (length c.path) long in omega arith) in
        let last = all_of h.0 (length c.path - 1) no_ref (let pos : 0 < length c.path = ltb-true 0 (length c.path) some in omega arith) in
        shaped_inside kind s r _
        (climb_makes s fits state operation S N c main r h (flags_bitmap _ (node_at state.heap main) (meets_of (past_climb h).1.0))
        (single_is s fits state operation S N c.single (node_at state.heap c.single) refl (safe_of (single_claim h)) (meets_of (single_claim h)))
        (link_seen s state S N (current c.path) last.0 ∙ last.1) (current_level s.level c.path e.0 some) e.1 p
        at.0 (on_way s kind hash (depth_of (above c.path)) r at.1))
    line_acts (line.Climb (climb.Root c l)) h e g p knows = root_acts kind _ l e.1
    line_acts (line.Copy (copy.Read q l)) h e g p knows = read_acts kind s _ l.indirection l.line (root_read kind l.indirection l.line e.1 e.2)
    line_acts (line.Copy (copy.Successor q main)) h e g p knows = λ r at. roots_alike main r e.1 at.0
    line_acts (line.Copy (copy.Second q main successor)) h e g p knows = λ r at. roots_alike main r e.1 at.0
    line_acts (line.Copy (copy.Empty q main)) h e g p knows = λ r at.
        let here : depth_at (s.level r) ≡ 0 = ap depth_at at.0 in
        empty_shaped (trie_at kind s) fits r (omega (arith, here, deep_low kind))
    line_acts (line.Copy (copy.Cleared q main branch)) h e g p knows = λ r at. roots_alike branch r e.2 at.0
    line_acts (line.Copy (copy.Offer offer)) h e g p knows = tt
    line_acts (line.Copy (copy.Complete c)) h e g p knows = complete_acts kind _ c.offer c.line e
    line_acts (line.Walk walk.Root) h e g p knows = tt
    line_acts (line.Walk (walk.Read x todo pairs)) h e g p knows = read_acts kind s _ x.indirection x.line p
    line_acts (line.Walk (walk.Main main todo pairs)) h e g p knows = tt
    line_acts (line.Walk (walk.Entry todo pairs)) h e g p knows = tt
    line_acts (line.End answer) h e g p knows = tt
    line_acts line.Impossible h e g p knows = tt
