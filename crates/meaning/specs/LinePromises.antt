-- What is promised of the ideal line, and of whatever keeps demand 3. Each promise is a type here; proofs/ has a proof of each, under the
-- same name in small letters.
use Rattle.std.specs.Prelude.{◌≡◌, Bool, true, List, [], ◌∷◌, ◌++◌, ◌↔◌, ℕ}
use Rattle.std.proofs.Math.Option.{Option, some, none}
use Rattle.meaning.specs.Names.{Name, key}
use Rattle.meaning.specs.Waiting.{Entry}
use Rattle.meaning.specs.Calls.{Call, Exchange, refusal_in}
use Rattle.meaning.specs.Line.{Line, opening, step, talk, after}
use Rattle.meaning.specs.Heard.{Account, granted_names, account}
use Rattle.meaning.specs.Demand.{Demand3}

-- the line that was heard: the names granted, the unfinished terminal, the waiters
abbrev pub unfinished_in : List ℕ → Option ℕ
unfinished_in [] = none
unfinished_in (t ∷ ts) = some t

abbrev pub line_of : Account → Line
line_of a = record { history = granted_names a; running = unfinished_in a.unfinished; waiting = a.waiters }

-- what a test says
abbrev pub Says : {A : Type 0} → (A → Bool) → A → Type 0
Says test x = test x ≡ true

module _ (permitted : List Name → Bool) (known : Name → Bool) where
  -- what calls from an opening show, and the line after them
  abbrev pub heard_of : List Call → Account
  heard_of cs = account (talk permitted known opening cs)

  abbrev pub line_after : List Call → Line
  line_after cs = after permitted known opening cs

  -- what can be seen of it: calls from an opening get these replies, and leave these entries waiting
  pub record IdealSeen (xs : List Exchange) (es : List Entry) : Type 0 where
    pub calls : List Call
    pub replies : talk permitted known opening calls ≡ xs
    pub entries : (line_after calls).waiting ≡ es

  -- what is promised of one line
  pub record KeepsItsPromises : Type 0 where
    -- "a refusal leaves record and list with every cell as before"
    pub refused_changes_nothing : (l : Line) (c : Call) (m : ℕ) → refusal_in (step permitted known l c).0 ≡ some m
        → (step permitted known l c).1 ≡ l
    -- one more call adds one exchange and changes none before it
    pub talk_goes_on : (cs : List Call) (c : Call)
        → talk permitted known opening (cs ++ c ∷ []) ≡ talk permitted known opening cs ++ (step permitted known (line_after cs) c).0 ∷ []
    -- calls and replies show all there is: the line after them holds nothing else, and its list is the waiters
    pub line_is_heard : (cs : List Call) → line_after cs ≡ line_of (heard_of cs)
    -- "the empty history is always permitted"; then the line keeps demand 3
    pub demanded : permitted [] ≡ true → Demand3 IdealSeen (Says permitted) (Says known)

abbrev pub LineKeepsItsPromises : Type 0
LineKeepsItsPromises = (permitted : List Name → Bool) (known : Name → Bool) → KeepsItsPromises permitted known

-- lines with the same permitted histories and the same known names cannot be told apart
abbrev pub SameHistoriesSameLines : Type 0
SameHistoriesSameLines =
    (permitted permitted' : List Name → Bool) (known known' : Name → Bool)
    → ((h : List Name) → permitted h ≡ permitted' h) → ((n : Name) → known n ≡ known' n)
    → (l : Line) (cs : List Call)
    → (talk permitted known l cs ≡ talk permitted' known' l cs) × (after permitted known l cs ≡ after permitted' known' l cs)

-- what demand 3 says does not depend on how it is said what can be seen, what is permitted and what is known
abbrev pub Demand3Carries : Type 1
Demand3Carries =
    (Seen Seen' : List Exchange → List Entry → Type 0) (Permitted Permitted' : List Name → Type 0) (Known Known' : Name → Type 0)
    → ((xs : List Exchange) (es : List Entry) → Seen xs es ↔ Seen' xs es) → ((h : List Name) → Permitted h ↔ Permitted' h)
    → ((k : Name) → Known k ↔ Known' k) → Demand3 Seen Permitted Known → Demand3 Seen' Permitted' Known'

-- and it leaves one line: whatever keeps it, for the same permitted histories and operations, shows the same
abbrev pub Demand3Determined : Type 1
Demand3Determined =
    (Seen Seen' : List Exchange → List Entry → Type 0) (Permitted : List Name → Type 0) (Known : Name → Type 0)
    → Demand3 Seen Permitted Known → Demand3 Seen' Permitted Known → (xs : List Exchange) (es : List Entry) → Seen xs es ↔ Seen' xs es

-- every permitted history can be granted, where its beginnings are permitted and its names are keys of operations
abbrev pub PermittedCanBeGranted : Type 1
PermittedCanBeGranted =
    (Seen : List Exchange → List Entry → Type 0) (Permitted : List Name → Type 0) (Known : Name → Type 0) → Demand3 Seen Permitted Known
    → ((h : List Name) (k : Name) → Permitted (h ++ k ∷ []) → Permitted h × Known k × ((n : Name) × (key n ≡ k)))
    → (h : List Name) → Permitted h → (xs : List Exchange) × (es : List Entry) × Seen xs es × (granted_names (account xs) ≡ h)
