-- A step of a READ of an operation that is alone.
use Rattle.std.proofs.Common.{◌≡◌, ℕ, suc, ◌-◌, ◌<◌, ◌≤◌, Option, sym, ap, ◌∙◌, subst, arith}
use Rattle.proof_obstruction_free.specs.Vocabulary.{Ref, Line, After, ReadLine, Descriptor, Plain, Offer, line_action, read_action, read_after}
use Rattle.proof_obstruction_free.specs.Beneath.machine_model.specs.declared.reading.ReadLine.TheVariants as read
use Rattle.proof_obstruction_free.specs.Alone.{Lone, Stands, Keeps, WordStays, IsStill, IsStillWeight, word}
use Rattle.proof_obstruction_free.specs.Machines.{HoldsRead, lead}
use Rattle.proof_obstruction_free.specs.Stepping.{LeavesWords}
use Rattle.proof_obstruction_free.specs.Weighing.{Acts}
use Rattle.proof_obstruction_free.proofs.Step.Within.{Comes, lighter_still, same_stays}
use Rattle.proof_obstruction_free.proofs.Weights.Offers.{stays_plain, taken_back}
use Rattle.proof_obstruction_free.proofs.Weights.NonePending.{IsNoPublish, none_pending}
use Rattle.proof_obstruction_free.proofs.Read.Words.{keeps_unless}
use Rattle.proof_obstruction_free.proofs.Swap.Steps.{read_no_end, read_acts, read_next, same_word}

-- no line of a READ but one writes root words
abbrev IsNoAbort : ReadLine → Type 0
IsNoAbort (read.Abort m q offer) = ⊥
IsNoAbort l = Unit {0}

leaves : (i : Ref) (l : ReadLine) → IsNoAbort l → LeavesWords (read_action i l)
leaves i (read.Abort m q offer) not = not
leaves i read.Main not = tt
leaves i (read.Prev m) not = tt
leaves i (read.AskRoot m q) not = tt
leaves i (read.Decide m q told) not = tt
leaves i (read.Restore m q) not = tt

-- and none swaps a node in
no_publish : (i : Ref) (l : ReadLine) → IsNoPublish (read_action i l)
no_publish i read.Main = tt
no_publish i (read.Prev m) = tt
no_publish i (read.AskRoot m q) = tt
no_publish i (read.Abort m q offer) = tt
no_publish i (read.Decide m q told) = tt
no_publish i (read.Restore m q) = tt

module _ (a : Lone) (wrap : ReadLine → Line) (gives : Ref → Line) (i : Ref) (h : HoldsRead a.own wrap gives i) where
  -- what comes after the line
  abbrev pub out : ℕ → ReadLine → After ReadLine Ref
  out t l = read_after (a.states t).heap a.own.access (word a t) i l

  -- ---- what it leaves

  action : (t : ℕ) (g : Option ℕ) (l : ReadLine) (s : Stands a t g (wrap l)) → line_action (a.states t) s.operation (wrap l) ≡ read_action i l
  action t g l s = h.embedded.acts (a.states t) s.operation l

  pub keeps : (t : ℕ) (g : Option ℕ) (l : ReadLine) → Stands a t g (wrap l) → t < a.last → Keeps a t (suc t)
  keeps t g l s more = keeps_unless a t more (none_pending a t (read_action i l) (no_publish i l) (read_acts a wrap gives i h t g l s more))

  -- to ask for the root leaves it
  pub same_word_at : (t : ℕ) (g : Option ℕ) (m q : Ref) → Stands a t g (wrap (read.AskRoot m q)) → t < a.last → word a (suc t) ≡ word a t
  same_word_at t g m q s more = same_word a wrap gives i h t g (read.AskRoot m q) s more (leaves i (read.AskRoot m q) tt)

  -- a plain root stays
  pub stays : (t : ℕ) (g : Option ℕ) (l : ReadLine) → Stands a t g (wrap l) → t < a.last → WordStays a t (suc t)
  stays t g (read.Abort m q offer) s more =
      stays_plain a t g (wrap (read.Abort m q offer)) s more (read_no_end a wrap gives i h t g (read.Abort m q offer) s more) offer (action t g (read.Abort m q offer) s)
  stays t g l s more = same_stays a t (suc t) (same_word a wrap gives i h t g l s more (leaves i l tt))

  -- an offer that is taken back is off
  pub off : (t : ℕ) (g : Option ℕ) (m q : Ref) (offer : Descriptor) → Stands a t g (wrap (read.Abort m q offer)) → t < a.last → word a t ≡ Offer offer →
      (r : Ref) × (word a (suc t) ≡ Plain r)
  off t g m q offer s more there =
      taken_back a t g (wrap (read.Abort m q offer)) s more (read_no_end a wrap gives i h t g (read.Abort m q offer) s more) offer (action t g (read.Abort m q offer) s) there

  -- ---- put together

  -- what a READ comes to counts from an earlier time too
  pub record Counts (P : ℕ → ℕ → Type 0) : Type 0 where
    pub earlier : (t v u : ℕ) → t ≤ v → Keeps a t v → WordStays a t v → P v u → P t u

  -- a step of a READ
  pub on : (weight : ℕ → ℕ) (P : ℕ → ℕ → Type 0) → Counts P → (b t : ℕ) (g : Option ℕ) (l : ReadLine) → Stands a t g (wrap l) → 1 ≤ b →
      (t < a.last → Stands a (suc t) g (lead wrap gives (out t l)) → Comes a weight (P (suc t)) (b - 1) (suc t)) → Comes a weight (P t) b t
  on weight P c b t g l s some then room =
      let more : t < a.last = omega (arith, some, room) in
      let (u, from, soon, found) = then more (read_next a wrap gives i h t g l s more) (omega (arith, some, room)) in
      (u, omega (arith, from), omega (arith, soon, some), c.earlier t (suc t) u (omega arith) (keeps t g l s more) (stays t g l s more) found)

  -- what its step does
  pub acting : (t : ℕ) (g : Option ℕ) (l : ReadLine) → Stands a t g (wrap l) → t < a.last → Acts a t (read_action i l)
  acting t g l s more = record {
    since = s.since;
    more = more;
    operation = s.operation;
    runs = s.runs;
    is = ap (line_action (a.states t) s.operation) s.line ∙ action t g l s;
  }

  -- a still step adds no weight
  pub light : (weight : ℕ → ℕ) → IsStillWeight a weight → (t : ℕ) (g : Option ℕ) (l : ReadLine) → Stands a t g (wrap l) → t < a.last → IsStill (read_action i l) → weight (suc t) ≤ weight t
  light weight quiet t g l s more is = lighter_still a weight quiet t g (wrap l) s more (subst IsStill (sym (action t g l s)) is)
