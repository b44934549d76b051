-- Whether a sequence or a sum goes on behind what was read: where the next factor or sequence starts, the machine has come to, and
-- where there is none, the token behind it ends the sequence or the expression.
use mathlib.Core.Path.{◌≡◌, refl, sym, ap, ◌∙◌}
use mathlib.Core.Bool.{true}
use mathlib.Core.List.{List}
use Prim.Native.Nat.{ℕ, ◌+◌, ◌-◌, ◌≤◌}
use native.Mathlib.Omega.{arith}
use lib.ListN.{length}
use Rattle.meaning.specs.Names.{Name}
use Rattle.meaning.specs.Words.{Expr}
use Rattle.text.specs.Tokens.{next_token}
use Rattle.text.specs.declared.tokens.Token.{Token}
use Rattle.text.specs.declared.tokens.Token.TheVariants.{Semicolon, Plus, Star, Open, Close, Path, End, Name as Named, TextEnd, Bad, Long}
use Rattle.text.specs.declared.tokens.Read.{Read}
use Rattle.text.proofs.Reading.{used_within_text}
use Rattle.grammar.specs.Symbols.Symbol.{semicolon, plus, opening, name}
use Rattle.grammar.specs.Machine.{Left, step_to, want_step, have_step, depth_of, limit_at, names_on, stepped, limited, onward, upward}
use Rattle.grammar.specs.Machine.State.{wanting, having}
use Rattle.compiler.specs.Reading.{Tail, verdict, behind, factor_by, sequence_by, factor_from, sequence_from, ends_factor, ends_sequence, ends_expression}
use Rattle.std.specs.Prelude.{Option, Some as At, None as Ends}
use Rattle.compiler.specs.Reading.{Seen}
use Rattle.compiler.proofs.Tails.{slice, slice_size}
use Rattle.compiler.proofs.Endings.{behind_fits, behind_symbol}
use Rattle.compiler.proofs.Verdicts.{is_semicolon, is_plus, is_opening, is_name}

-- behind the reading q of s the machine goes on at byte j, from a factor that has ended to one that has to come
pub record GoesOn (turn : Left → Expr → Left) (s : List ℕ) (q : Seen) (j : ℕ) : Type 0 where
  pub fits : j ≤ length s
  pub less : length s - j ≤ q.left
  pub on : (text : List ℕ) → Tail text s → (l : Left) (f : Expr) (ks : List Left) (ns : List Name)
      → verdict text q.left (having l f ks) ns ≡ verdict text (length s - j) (wanting (turn l f) ks) ns

abbrev byte_of : Option ℕ → ℕ
byte_of (At j) = j
byte_of Ends = 0

abbrev goes_where : Option ℕ → ℕ
goes_where (At j) = 1
goes_where Ends = 0

never_on : {X : Type 0} (j : ℕ) → Ends ≡ At j → X
never_on j e = let never = ap goes_where e in absurd (omega arith)

never_ends : {X : Type 0} (j : ℕ) → At j ≡ Ends → X
never_ends j e = let never = ap goes_where e in absurd (omega arith)

module _ (s : List ℕ) (q : Seen) (w : q.left ≤ length s) where
  -- the machine turns over a sign, and goes on behind it
  over : (turn : Left → Expr → Left)
      → ((text : List ℕ) → Tail text s → (l : Left) (f : Expr) (ks : List Left) (ns : List Name)
      → verdict text q.left (having l f ks) ns ≡ verdict text (q.left - (behind s q).used) (wanting (turn l f) ks) ns)
      → (j : ℕ) → j ≡ length s - q.left + (behind s q).used → GoesOn turn s q j
  over turn step j is =
      let fits = behind_fits s q w in
      let rest : q.left - (behind s q).used ≡ length s - j = omega arith in
      record {
        fits = omega arith;
        less = omega arith;
        on = λ text h l f ks ns. step text h l f ks ns ∙ ap (λ (i : ℕ). verdict text i (wanting (turn l f) ks) ns) rest;
      }

  over_semicolon : (behind s q).token ≡ Semicolon → (j : ℕ) → j ≡ length s - q.left + (behind s q).used → GoesOn onward s q j
  unfolding step_to have_step depth_of limit_at names_on stepped limited
  over_semicolon e =
      over onward λ text h l f ks ns. behind_symbol s q w text h (having l f ks) ns Semicolon semicolon e (is_semicolon _)

  over_plus : (behind s q).token ≡ Plus → (j : ℕ) → j ≡ length s - q.left + (behind s q).used → GoesOn upward s q j
  unfolding step_to have_step depth_of limit_at names_on stepped limited
  over_plus e = over upward λ text h l f ks ns. behind_symbol s q w text h (having l f ks) ns Plus plus e (is_plus _)

  -- the next factor follows at once: the machine does the same from both states
  at_once : ((text : List ℕ) → Tail text s → (l : Left) (f : Expr) (ks : List Left) (ns : List Name)
      → verdict text q.left (having l f ks) ns ≡ verdict text q.left (wanting (onward l f) ks) ns)
      → (j : ℕ) → j ≡ length s - q.left → GoesOn onward s q j
  at_once same j is =
      let rest : q.left ≡ length s - j = omega arith in
      record {
        fits = omega arith;
        less = omega arith;
        on = λ text h l f ks ns. same text h l f ks ns ∙ ap (λ (i : ℕ). verdict text i (wanting (onward l f) ks) ns) rest;
      }

  before_name : (m : ℕ) → (behind s q).token ≡ Named m → (j : ℕ) → j ≡ length s - q.left → GoesOn onward s q j
  unfolding step_to have_step want_step depth_of limit_at names_on stepped
  before_name m e =
      at_once λ text h l f ks ns.
      behind_symbol s q w text h (having l f ks) ns (Named m) (name _) e (is_name m _)
      ∙ sym (behind_symbol s q w text h (wanting (onward l f) ks) ns (Named m) (name _) e (is_name m _))

  before_open : (behind s q).token ≡ Open → (j : ℕ) → j ≡ length s - q.left → GoesOn onward s q j
  unfolding step_to have_step want_step depth_of limit_at names_on stepped
  before_open e =
      at_once λ text h l f ks ns.
      behind_symbol s q w text h (having l f ks) ns Open opening e (is_opening _)
      ∙ sym (behind_symbol s q w text h (wanting (onward l f) ks) ns Open opening e (is_opening _))

  -- where the program finds another factor, or another sequence
  pub factor_follows : (j : ℕ) → factor_from s q.left ≡ At j → GoesOn onward s q j
  factor_follows j = by (behind s q).token refl
    where
      by : (T : Token) → (behind s q).token ≡ T → factor_by T (length s - q.left) (behind s q).used ≡ At j → GoesOn onward s q j
      by Semicolon is e = over_semicolon is j (sym (ap byte_of e))
      by Plus is e = never_on j e
      by Star is e = never_on j e
      by Open is e = before_open is j (sym (ap byte_of e))
      by Close is e = never_on j e
      by Path is e = never_on j e
      by End is e = never_on j e
      by (Named m) is e = before_name m is j (sym (ap byte_of e))
      by TextEnd is e = never_on j e
      by Bad is e = never_on j e
      by Long is e = never_on j e

  pub sequence_follows : (j : ℕ) → sequence_from s q.left ≡ At j → GoesOn upward s q j
  sequence_follows j = by (behind s q).token refl
    where
      by : (T : Token) → (behind s q).token ≡ T → sequence_by T (length s - q.left) (behind s q).used ≡ At j → GoesOn upward s q j
      by Semicolon is e = never_on j e
      by Plus is e = over_plus is j (sym (ap byte_of e))
      by Star is e = never_on j e
      by Open is e = never_on j e
      by Close is e = never_on j e
      by Path is e = never_on j e
      by End is e = never_on j e
      by (Named m) is e = never_on j e
      by TextEnd is e = never_on j e
      by Bad is e = never_on j e
      by Long is e = never_on j e

-- and where it finds none
pub no_factor_follows : (T : Token) (i u : ℕ) → factor_by T i u ≡ Ends → ends_factor T ≡ true → ends_sequence T ≡ true
no_factor_follows Semicolon i u e h = never_ends (i + u) e
no_factor_follows Plus i u e h = refl
no_factor_follows Star i u e h = h
no_factor_follows Open i u e h = never_ends i e
no_factor_follows Close i u e h = refl
no_factor_follows Path i u e h = refl
no_factor_follows End i u e h = refl
no_factor_follows (Named m) i u e h = never_ends i e
no_factor_follows TextEnd i u e h = refl
no_factor_follows Bad i u e h = refl
no_factor_follows Long i u e h = refl

pub no_sequence_follows : (T : Token) (i u : ℕ) → sequence_by T i u ≡ Ends → ends_sequence T ≡ true → ends_expression T ≡ true
no_sequence_follows Semicolon i u e h = h
no_sequence_follows Plus i u e h = never_ends (i + u) e
no_sequence_follows Star i u e h = h
no_sequence_follows Open i u e h = h
no_sequence_follows Close i u e h = refl
no_sequence_follows Path i u e h = refl
no_sequence_follows End i u e h = refl
no_sequence_follows (Named m) i u e h = h
no_sequence_follows TextEnd i u e h = refl
no_sequence_follows Bad i u e h = refl
no_sequence_follows Long i u e h = refl

-- as the program has it: u is the token that it reads where `left` bytes are unread
module _ (s : List ℕ) (left : ℕ) (u : Read) (told : u ≡ next_token (slice s (length s - left))) where
  pub next_fits : left ≤ length s → length s - left + u.used ≤ length s
  next_fits h =
      omega (arith, ap (λ (v : Read). v.used) told, used_within_text (slice s (length s - left)), slice_size s (length s - left))
