-- An object with the log of its calls: what a log may say, and what a seat finds there and adds to it.
use Rattle.std.specs.Prelude.{◌≡◌, ℕ, ◌-◌, ◌^◌, ◌==◌, ◌⊎◌, min, List, [], ◌∷◌, ◌++◌, filter}
use Rattle.gate.specs.declared.objects.Entry.{Entry}

-- what the object was first, what it is, and the calls between, in their order
pub record Logged (O C A : Type 0) : Type 0 where
  pub first : O
  pub object : O
  pub log : List (Entry C A)

-- a number of calls as 64 bits tell it
abbrev pub saturated : ℕ → ℕ
saturated number = min number (2 ^ 64 - 1)

abbrev pub entry : {C A : Type 0} → ℕ → C → A → Entry C A
entry seat call answer = record { seat = seat; call = call; answer = answer }

-- the calls of this seat among these
abbrev pub calls_of : {C A : Type 0} → ℕ → List (Entry C A) → List (Entry C A)
calls_of seat log = filter (λ e. e.seat == seat) log

-- an object without a call
abbrev pub fresh : {O C A : Type 0} → O → Logged O C A
fresh object = record { first = object; object = object; log = [] }

-- the log has those calls, in their places, and maybe more behind them
abbrev pub LogGoesOn : {O C A : Type 0} → Logged O C A → Logged O C A → Type 0
LogGoesOn {O} {C} {A} seen last = (rest : List (Entry C A)) × (last.log ≡ seen.log ++ rest)

module _ {O C A : Type 0} (answers : ℕ → O → C → A → O → Type 0) where
  -- these calls, in this order, lead from the one object to the other
  abbrev pub Leads : O → List (Entry C A) → O → Type 0
  Leads start [] last = last ≡ start
  Leads start (e ∷ es) last = (next : O) × answers e.seat start e.call e.answer next × Leads next es last

  -- the calls of the log lead from the first object to the one that is there
  abbrev pub IsLegal : Logged O C A → Type 0
  IsLegal board = Leads board.first board.log board.object

  -- the one has become the other by calls of other seats, or by none
  pub record HasFollowed (seat : ℕ) (seen board : Logged O C A) : Type 0 where
    pub first : board.first ≡ seen.first
    pub rest : List (Entry C A)
    pub log : board.log ≡ seen.log ++ rest
    pub others : calls_of seat rest ≡ []
    pub leads : Leads seen.object rest board.object

  -- it has become the other by this call of the seat
  pub record HasCalled (seat : ℕ) (call : C) (answer : A) (board now : Logged O C A) : Type 0 where
    pub first : now.first ≡ board.first
    pub log : now.log ≡ board.log ++ entry seat call answer ∷ []
    pub answered : answers seat board.object call answer now.object

  -- by one call of the seat at most
  abbrev pub HasWorked : ℕ → Logged O C A → Logged O C A → Type 0
  HasWorked seat board now = (now ≡ board) ⊎ ((call : C) × (answer : A) × HasCalled seat call answer board now)
