-- What looking through the entries finds: the first entry of the terminal and the first of a wanted operation, as `seek` finds them; and
-- whether each entry is as it may be. All is by induction on the entries, with what was found before.
use mathlib.Core.Path.{◌≡◌, refl, sym, ap, ◌∙◌}
use mathlib.Core.Bool.{Bool, true, false, cond, not, ◌&&◌, and_assoc, and-true}
use mathlib.Core.List.{List, [], ◌∷◌}
use Prim.Native.Nat.{ℕ, suc, ◌+◌}
use native.Mathlib.Nat.{zero-add, add-zero, add-suc, suc-add}
use lib.Bits.{bit_or}
use lib.Dec.{eqb, ltb}
use Rattle.meaning.specs.Sets.{mem}
use Rattle.std.specs.Prelude.{Option, Some, None}
use Rattle.standing.specs.declared.entries.Entry.{Entry}
use Rattle.standing.specs.declared.searches.Search.{Search}
use Rattle.standing.specs.declared.searches.Waiter.{Waiter}
use Rattle.standing.specs.Lists.{behind, seek}
use Rattle.standing.specs.Searching.{bit_of, entry_fits, or_here, examined, looked}

-- the first to pass a test, from place p on, unless one was found before
abbrev onward : (Entry → Bool) → ℕ → Option Waiter → List Entry → Option Waiter
onward test p f [] = f
onward test p f (e ∷ es) = onward test (suc p) (or_here f (test e) p e) es

own_onward : (p : ℕ) (s : Search) (es : List Entry)
    → (looked p s es).own ≡ onward (λ e. eqb e.terminal.0 s.terminal.0) p s.own es
unfolding looked examined
own_onward p s [] = refl
own_onward p s (e ∷ es) = own_onward (suc p) (examined s e p) es

first_onward : (p : ℕ) (s : Search) (es : List Entry)
    → (looked p s es).first ≡ onward (λ e. mem e.operation.0 s.wanted) p s.first es
unfolding looked examined
first_onward p s [] = refl
first_onward p s (e ∷ es) = first_onward (suc p) (examined s e p) es

-- p places further on
abbrev shifted : ℕ → Option Waiter → Option Waiter
shifted p None = None
shifted p (Some w) = Some (record { place = p + w.place; entry = w.entry })

shifted_none : (f : Option Waiter) → shifted 0 f ≡ f
shifted_none None = refl
shifted_none (Some w) = ap (λ (p : ℕ). Some (record { place = p; entry = w.entry })) (zero-add w.place)

shifted_behind : (p : ℕ) (f : Option Waiter) → shifted (suc p) f ≡ shifted p (behind f)
shifted_behind p None = refl
shifted_behind p (Some w) =
    ap (λ (q : ℕ). Some (record { place = q; entry = w.entry })) (suc-add p w.place ∙ sym (add-suc p w.place))

-- what was found stays
onward_stays : (test : Entry → Bool) (p : ℕ) (es : List Entry) (w : Waiter) → onward test p (Some w) es ≡ Some w
onward_stays test p [] w = refl
onward_stays test p (e ∷ es) w = onward_stays test (suc p) es w

onward_here : (test : Entry → Bool) (p : ℕ) (e : Entry) (es : List Entry) (here : Bool) (f : Option Waiter)
    → onward test (suc p) None es ≡ shifted (suc p) f
    → onward test (suc p) (or_here None here p e) es ≡ shifted p (cond here (Some (record { place = 0; entry = e })) (behind f))
onward_here test p e es true f later =
    onward_stays test (suc p) es (record { place = p; entry = e })
    ∙ ap (λ (q : ℕ). Some (record { place = q; entry = e })) (sym (add-zero p))
onward_here test p e es false f later = later ∙ shifted_behind p f

onward_seeks : (test : Entry → Bool) (p : ℕ) (es : List Entry) → onward test p None es ≡ shifted p (seek test es)
unfolding seek
onward_seeks test p [] = refl
onward_seeks test p (e ∷ es) = onward_here test p e es (test e) (seek test es) (onward_seeks test (suc p) es)

module _ (s : Search) (es : List Entry) where
  pub looked_own : s.own ≡ None → (looked 0 s es).own ≡ seek (λ e. eqb e.terminal.0 s.terminal.0) es
  looked_own none =
      own_onward 0 s es
      ∙ ap (λ (f : Option Waiter). onward (λ e. eqb e.terminal.0 s.terminal.0) 0 f es) none
      ∙ onward_seeks _ 0 es
      ∙ shifted_none _

  pub looked_first : s.first ≡ None → (looked 0 s es).first ≡ seek (λ e. mem e.operation.0 s.wanted) es
  looked_first none =
      first_onward 0 s es
      ∙ ap (λ (f : Option Waiter). onward (λ e. mem e.operation.0 s.wanted) 0 f es) none
      ∙ onward_seeks _ 0 es
      ∙ shifted_none _

-- an entry is as it may be, among terminals taken
abbrev pub fits_among : ℕ → ℕ → ℕ → Entry → Bool
fits_among names barred taken e =
    ltb e.terminal.0 64 && not (mem e.terminal.0 taken) && ltb e.operation.0 names && not (mem e.operation.0 barred)

-- and each of them, one after the other
abbrev pub all_fit : ℕ → ℕ → ℕ → List Entry → Bool
all_fit names barred taken [] = true
all_fit names barred taken (e ∷ es) = fits_among names barred taken e && all_fit names barred (bit_or taken (bit_of e.terminal.0)) es

pub looked_fits : (p : ℕ) (s : Search) (es : List Entry)
    → (looked p s es).fits ≡ s.fits && all_fit s.names s.barred s.taken es
unfolding looked examined entry_fits
looked_fits p s [] = sym (and-true s.fits)
looked_fits p s (e ∷ es) =
    looked_fits (suc p) (examined s e p) es
    ∙ and_assoc s.fits (fits_among s.names s.barred s.taken e)
    (all_fit s.names s.barred (bit_or s.taken (bit_of e.terminal.0)) es)
