-- What is promised of paths: the language, the position rules, the rewritings. Each promise is a type here; proofs/ has a proof of
-- each, under the same name in small letters.
use Rattle.std.specs.Prelude.{◌≡◌, true, false, ◌↔◌, ◌≢◌, ◌⊎◌, ℕ, ◌≤◌, ◌<◌, ◌^◌, length, get_or}
use mathlib.Core.List.{List, [], ◌∷◌, ◌++◌, map, Memᴰ}
use Rattle.std.specs.Int.Bits.{bit_or, bit_and}
use Rattle.meaning.specs.Names.{Name, key}
use Rattle.meaning.specs.Words.{Expr, Word, Begins, names}
use Rattle.meaning.specs.Words.Expr.{seq, choice}
use Rattle.meaning.specs.Sets.{mem, In, union_of}
use Rattle.meaning.specs.Positions.{size, rows, permission, start}
use Rattle.meaning.specs.Following.{Walk, set_after, permits}
use Rattle.meaning.specs.Rewriting.{Place, fill, Rewritten}

-- the laws of sets: none, single, union, what two share, the union of rows; equal members make equal sets, and below 2 ^ k
-- the first k bits decide; a set that is not 0 has a member
pub record LawsOfSets : Type 0 where
  pub none : (p : ℕ) → mem p 0 ≡ false
  pub single : (p q : ℕ) → In p (2 ^ q) ↔ (p ≡ q)
  pub union : (p a b : ℕ) → In p (bit_or a b) ↔ (In p a ⊎ In p b)
  pub shared : (p a b : ℕ) → In p (bit_and a b) ↔ (In p a × In p b)
  pub union_of_rows : (rs : List ℕ) (s q : ℕ) → In q (union_of rs s) ↔ ((p : ℕ) × (p < length rs) × In p s × In q (get_or rs p 0))
  pub equal : (a b : ℕ) → ((p : ℕ) → mem p a ≡ mem p b) → a ≡ b
  pub equal_below : (k a b : ℕ) → a < 2 ^ k → b < 2 ^ k → ((p : ℕ) → p < k → mem p a ≡ mem p b) → a ≡ b
  pub has_member : (s : ℕ) → s ≢ 0 → (p : ℕ) × In p s

-- "the empty history is always permitted", and so is each beginning of a permitted one
abbrev pub EmptyBegins : Type 0
EmptyBegins = (e : Expr) → Begins e []

abbrev pub BeginningBegins : Type 0
BeginningBegins = (e : Expr) (h g : List Name) → Begins e (h ++ g) → Begins e h

-- a walk through positions spells a history exactly if the history begins a repetition
abbrev pub WalkBegins : Type 0
WalkBegins = (e : Expr) (h : List Name) → Walk (rows e) (permission e) (start e) h ↔ Begins e h

-- the set kept after a history is not empty exactly if the history begins a repetition
abbrev pub SetBegins : Type 0
SetBegins = (e : Expr) (h : List Name) → (set_after (rows e) (permission e) (start e) h ≢ 0) ↔ Begins e h

-- demand 2, of the rules' own table: it permits a history exactly if the history begins a repetition
abbrev pub PermitsBegins : Type 0
PermitsBegins = (e : Expr) (h : List Name) → (permits (rows e) (permission e) (start e) h ≡ true) ↔ Begins e h

-- each name of e ends some permitted history
abbrev pub EveryNameOccurs : Type 0
EveryNameOccurs = (e : Expr) (n : Name) → Memᴰ n (names e) → (h : List Name) × Begins e (h ++ key n ∷ [])

-- and no other name stands in one
abbrev pub NoOtherNameOccurs : Type 0
NoOtherNameOccurs = (e : Expr) (h : List Name) (k : Name) → Begins e h → Memᴰ k h → Memᴰ k (map key (names e))

-- so expressions that permit the same histories have the same names
abbrev pub SameBeginsSameNames : Type 0
SameBeginsSameNames =
    (x y : Expr) → ((h : List Name) → Begins x h ↔ Begins y h)
    → (k : Name) → Memᴰ k (map key (names x)) ↔ Memᴰ k (map key (names y))

-- "positions are the names in the text, numbered .. from the left": there are as many, and an operation's are those at which
-- its name is written
pub record Numbered (e : Expr) : Type 0 where
  pub as_many : size e ≡ length (names e)
  pub from_the_left : (p : ℕ) (k : Name) → In p (permission e k) ↔ ((p < length (names e)) × (key (get_or (names e) p []) ≡ k))

abbrev pub NumberedFromTheLeft : Type 0
NumberedFromTheLeft = (e : Expr) → Numbered e

-- the sets of an expression of at most n positions are n-bit numbers
pub record Fit (n : ℕ) (e : Expr) : Type 0 where
  pub start_fits : start e < 2 ^ n
  pub rows_fit : (p : ℕ) → get_or (rows e) p 0 < 2 ^ n
  pub permissions_fit : (k : Name) → permission e k < 2 ^ n

abbrev pub SetsFit : Type 0
SetsFit = (n : ℕ) (e : Expr) → size e ≤ n → Fit n e

-- the words of a whole depend on the words of its parts only, at any place
abbrev pub WordIsCongruent : Type 0
WordIsCongruent =
    (p : Place) (x y : Expr) → ((w : List Name) → Word x w ↔ Word y w) → (w : List Name) → Word (fill p x) w ↔ Word (fill p y) w

-- the rewritings keep the words, and so the permitted histories
abbrev pub RewritingKeepsWords : Type 0
RewritingKeepsWords = (x y : Expr) → Rewritten x y → (w : List Name) → Word x w ↔ Word y w

abbrev pub RewritingKeepsBegins : Type 0
RewritingKeepsBegins = (x y : Expr) → Rewritten x y → (h : List Name) → Begins x h ↔ Begins y h

-- document 001, section 5: "an example of two equivalent paths", for any parts
--   a(p + q) + b(q + r) + c(p + r) + (a + b)r + (b + c)p + (a + c)q     and     (a + b + c)(p + q + r)
abbrev pub longer : Expr → Expr → Expr → Expr → Expr → Expr → Expr
longer a b c p q r =
    choice (choice (choice (choice (choice
    (seq a (choice p q))
    (seq b (choice q r)))
    (seq c (choice p r)))
    (seq (choice a b) r))
    (seq (choice b c) p))
    (seq (choice a c) q)

abbrev pub shorter : Expr → Expr → Expr → Expr → Expr → Expr → Expr
shorter a b c p q r = seq (choice (choice a b) c) (choice (choice p q) r)

-- "This scheme was used to reduce the longer path expression into the shorter one"; here rules may be used in either direction
abbrev pub LongerRewritten : Type 0
LongerRewritten = (a b c p q r : Expr) → Rewritten (longer a b c p q r) (shorter a b c p q r)
