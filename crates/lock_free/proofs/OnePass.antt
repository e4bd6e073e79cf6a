-- A pass of a READ, put together.
use Rattle.std.proofs.Common.{◌≡◌, ℕ, sym, subst, ◌∙◌}
use Rattle.history.specs.declared.calls.Access.TheVariants.{Writable}
use Rattle.trie_words.specs.declared.headers.Header.{Header}
use Rattle.trie_words.specs.declared.headers.Previous.TheVariants as previous
use Rattle.trie_words.specs.declared.links.Link.{Link}
use Rattle.trie_words.specs.declared.names.Name.{Name}
use Rattle.machine_model.specs.Beneath.slot_arena.specs.declared.refs.Ref.{Ref}
use Rattle.machine_model.specs.declared.actions.Action.TheVariants as act
use Rattle.machine_model.specs.declared.reading.After.TheVariants.{Goes, Gives}
use Rattle.machine_model.specs.declared.reading.ReadLine.{ReadLine}
use Rattle.machine_model.specs.declared.reading.ReadLine.TheVariants as read
use Rattle.lock_free.specs.declared.reading.Passed.{Passed}
use Rattle.lock_free.specs.declared.reading.Passed.TheVariants as passed
use Rattle.lock_free.specs.declared.reading.ReadFrom.{ReadFrom}
use Rattle.lock_free.specs.declared.reading.ReadFrom.TheVariants as resume
use Rattle.lock_free.specs.declared.reading.Way.{Way}
use Rattle.lock_free.specs.declared.rules.View.{View}
use Rattle.lock_free.specs.Exchanging.{IsNamedOrGone}
use Rattle.lock_free.specs.Loading.{IsSound, IsAtSlot, HasReadHeader, HasReadLink}
use Rattle.lock_free.specs.Passing.{HasCome, IsReading, IsOnWay, KnowsLink, IsPlaced, KnowsMain, KnowsPending, IsFrom, IsPassing, HasGiven, GoesFrom, PassedBy, HasPassed, HasPassedSome}
use Rattle.lock_free.specs.Passing.{pending_line, IsPending, IsFailed}
use Rattle.lock_free.proofs.Comings.{at_read, come_on, reading_one, reading_then, way_then, stays_there}
use Rattle.lock_free.proofs.Laters.{placed_later, link_later}
use Rattle.lock_free.proofs.Passes.{link_come, main_known, none_come, failed_come, pending_come}

-- a READ that passes is in a READ
pub from_reading : (v : View) (i : Ref) (place : ReadFrom) → IsFrom v i place → (x : ReadLine) × IsReading v i x
from_reading v i resume.Start h = (read.Main, h)
from_reading v i (resume.Header link) h = (read.Prev h.0, h.1)
from_reading v i (resume.Asking link header) h = (read.AskRoot h.main h.replaced, h.reading)

goes_on : (u v w : View) (i : Ref) (y : ReadLine) (place : ReadFrom) → HasCome (Goes y) u v → GoesFrom v i place w → GoesFrom u i place w
goes_on u v w i y resume.Start c h = come_on u v w y (Goes read.Main) c h
goes_on u v w i y (resume.Header link) c h = (h.0, come_on u v w y (Goes (read.Prev h.0)) c h.1, h.2)
goes_on u v w i y (resume.Asking link header) c h = record {
  main = h.main;
  replaced = h.replaced;
  come = come_on u v w y (Goes (read.AskRoot h.main h.replaced)) c h.come;
  writable = h.writable;
  link_is = h.link_is;
  header_is = h.header_is;
}

pub passes_on : (u v w : View) (i : Ref) (y : ReadLine) (result : Passed) → HasCome (Goes y) u v → PassedBy v i result w → PassedBy u i result w
passes_on u v w i y (passed.Gives given) c h = record { main = h.main; come = come_on u v w y (Gives h.main) c h.come; link = h.link; header = h.header }
passes_on u v w i y (passed.Again place) c h = goes_on u v w i y place c h

-- the link is read
module _ (n : ℕ) (v : View) (sound : IsSound n v) (name : ℕ) (passing : IsPassing v name resume.Start) (w : View) (then : IsSound n w) (link : Link) (g : HasReadLink v link w) where
  abbrev its : Ref
  its = passing.0

  pub reached : (main : Ref) × HasCome (Goes (read.Prev main)) v w × KnowsLink w its main link
  reached = link_come n n v w sound then its link passing.2 g

  pub reached_passing : IsPassing w name (resume.Header link)
  reached_passing = (its, placed_later v w reached.1.later its name passing.1, (reached.0, reading_then v w its read.Main (read.Prev reached.0) passing.2 reached.1, reached.2))

  pub reached_way : (way : Way) → IsOnWay v way → IsOnWay w way
  reached_way way on = way_then v w its read.Main (Goes (read.Prev reached.0)) way passing.2 reached.1 on

  pub reached_passes : (result : Passed) (x : View) → HasPassed w result x → HasPassed v result x
  unfolding reached_passing reached
  reached_passes result x h j y is =
      subst (λ z. PassedBy v z result x) (reading_one v its j read.Main y passing.2 is).0
      (passes_on v w x its (read.Prev reached.0) result reached.1 (h its (read.Prev reached.0) reached_passing.2.1))

-- the root is asked again
pub asking_pending : (v : View) (name : ℕ) (link : Link) (header : Header) (way : Way) → IsOnWay v way → IsPassing v name (resume.Asking link header) → IsPending v way link header
asking_pending v name link header way on (i, placed, a) =
    let same : way.access ≡ Writable = sym (on a.reading.0 a.reading.1).0 ∙ a.writable a.reading.0 a.reading.1 in
    (i, a.main, a.replaced, subst (λ x. IsReading v i (pending_line x a.main a.replaced)) (sym same) a.reading, a.link_is, a.header_is)

-- the header is read
module _ (before : View) (name : ℕ) (link : Link) (passing : IsPassing before name (resume.Header link)) where
  abbrev i : Ref
  i = passing.0

  abbrev main : Ref
  main = passing.2.0

  reading : IsReading before i (read.Prev main)
  reading = passing.2.1

  pub at_header : IsAtSlot before act.ReadPrev link.main.slot
  at_header = (main, at_read before i (read.Prev main) reading, passing.2.2.is.names.place)

  module _ (n : ℕ) (after : View) (sound : IsSound n before) (then : IsSound n after) (header : Header) (g : HasReadHeader before header after) where
    known : KnowsMain after main header
    known = main_known n n before after sound then i main header reading g

    -- it is decided
    pub gives : header.previous ≡ previous.None → (j : Ref) (y : ReadLine) → IsReading before j y → HasGiven before j (record { link = link; header = header }) after
    gives e j y is =
        let come = none_come n n before after sound then i main header reading g e in
        subst (λ z. HasGiven before z (record { link = link; header = header }) after) (reading_one before i j (read.Prev main) y reading is).0
        (record { main = main; come = come; link = link_later before after come.later i main link passing.2.2; header = known })

    -- it has failed
    module _ (former : Name) (e : header.previous ≡ previous.Failed former) where
      failed : (q : Ref) × HasCome (Goes (read.Restore main q)) before after × IsNamedOrGone after i main q former × IsPlaced after q former.slot
      failed = failed_come n n before after sound then i main header reading g former e

      is_restoring : IsReading after i (read.Restore main failed.0)
      is_restoring = reading_then before after i (read.Prev main) (read.Restore main failed.0) reading failed.1

      pub is_failed : IsFailed after name link former
      is_failed = (
        i,
        main,
        failed.0,
        is_restoring,
        placed_later before after failed.1.later i name passing.1,
        link_later before after failed.1.later i main link passing.2.2,
        failed.2,
        failed.3,
      )

      pub failed_passes : (last : View) (result : Passed) → HasPassed after result last → HasPassed before result last
      failed_passes last result h j y is =
          subst (λ z. PassedBy before z result last) (reading_one before i j (read.Prev main) y reading is).0
          (passes_on before after last i (read.Restore main failed.0) result failed.1 (h i (read.Restore main failed.0) is_restoring))

    -- it is pending
    module _ (way : Way) (on : IsOnWay before way) (name_of : Name) (e : header.previous ≡ previous.Pending name_of) where
      pends : (q : Ref) × HasCome (Goes (pending_line way.access main q)) before after × KnowsPending after i main q header
      pends = pending_come n n before after sound then i main header reading g way on name_of e

      pub on_after : IsOnWay after way
      on_after = way_then before after i (read.Prev main) (Goes (pending_line way.access main pends.0)) way reading pends.1 on

      is_settling : IsReading after i (pending_line way.access main pends.0)
      is_settling = reading_then before after i (read.Prev main) (pending_line way.access main pends.0) reading pends.1

      pub is_pending : IsPending after way link header
      is_pending = (
        i,
        main,
        pends.0,
        is_settling,
        link_later before after pends.1.later i main link passing.2.2,
        pends.2,
      )

      pub pending_passes : (last : View) (result : Passed) → HasPassed after result last → HasPassed before result last
      pending_passes last result h j y is =
          subst (λ z. PassedBy before z result last) (reading_one before i j (read.Prev main) y reading is).0
          (passes_on before after last i (pending_line way.access main pends.0) result pends.1 (h i (pending_line way.access main pends.0) is_settling))

-- ---- many passes

-- a READ that goes on from a line
pub line_from : (v w : View) (i : Ref) (place : ReadFrom) → GoesFrom v i place w → (y : ReadLine) × HasCome (Goes y) v w
line_from v w i resume.Start h = (read.Main, h)
line_from v w i (resume.Header link) h = (read.Prev h.0, h.1)
line_from v w i (resume.Asking link header) h = (read.AskRoot h.main h.replaced, h.come)

stays_from : (v : View) (i : Ref) (place : ReadFrom) → IsFrom v i place → GoesFrom v i place v
stays_from v i resume.Start h = stays_there v i read.Main h
stays_from v i (resume.Header link) h = (h.0, stays_there v i (read.Prev h.0) h.1, h.2)
stays_from v i (resume.Asking link header) h = record {
  main = h.main;
  replaced = h.replaced;
  come = stays_there v i (read.AskRoot h.main h.replaced) h.reading;
  writable = h.writable;
  link_is = h.link_is;
  header_is = h.header_is;
}

pub from_then : (v w : View) (i : Ref) (x : ReadLine) (place : ReadFrom) → IsReading v i x → GoesFrom v i place w → IsFrom w i place
from_then v w i x resume.Start is h = reading_then v w i x read.Main is h
from_then v w i x (resume.Header link) is h = (h.0, reading_then v w i x (read.Prev h.0) is h.1, h.2)
from_then v w i x (resume.Asking link header) is h = record {
  main = h.main;
  replaced = h.replaced;
  reading = reading_then v w i x (read.AskRoot h.main h.replaced) is h.come;
  writable = h.writable;
  link_is = h.link_is;
  header_is = h.header_is;
}

pub none_yet : (words : ℕ) (way : Way) (name : ℕ) (v : View) (place : ReadFrom) → IsSound words v → IsOnWay v way → IsPassing v name place → HasPassedSome words way name v v place
none_yet words way name v place sound on passing = record {
  sound = sound;
  on = on;
  passing = passing;
  passed = λ j y is.
      (let x = from_reading v passing.0 place passing.2 in
      subst (λ z. GoesFrom v z place v) (reading_one v passing.0 j x.0 y x.1 is).0 (stays_from v passing.0 place passing.2));
}

module _ (words : ℕ) (way : Way) (name : ℕ) (start now : View) (next : ReadFrom) (h : HasPassedSome words way name start now next) (after : View) where
  abbrev its_link : Ref
  its_link = h.passing.0

  now_reading : (x : ReadLine) × IsReading now its_link x
  now_reading = from_reading now its_link next h.passing.2

  -- what a pass from there comes to the READ comes to
  pub more : (result : Passed) → HasPassed now result after → HasPassed start result after
  more result p j y is =
      let goes = h.passed j y is in
      let line = line_from start now j next goes in
      let reading = reading_then start now j y line.0 is line.1 in
      passes_on start now after j line.0 result line.1 (p j line.0 reading)

  pub one_more : (place : ReadFrom) → IsSound words after → HasPassed now (passed.Again place) after → HasPassedSome words way name start after place
  one_more place sound p =
      let goes = p its_link now_reading.0 now_reading.1 in
      let line = line_from now after its_link place goes in
      record {
        sound = sound;
        on = way_then now after its_link now_reading.0 (Goes line.0) way now_reading.1 line.1 h.on;
        passing = (its_link, placed_later now after line.1.later its_link name h.passing.1, from_then now after its_link now_reading.0 place now_reading.1 goes);
        passed = more (passed.Again place) p;
      }
