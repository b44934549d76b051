-- What the limits give: a well formed name has at most 16 bytes, since it is read as one name; and the distinct names of an expression
-- are some of its names.
use mathlib.Core.Path.{◌≡◌, refl}
use mathlib.Core.Bool.{true, ◌&&◌, false≢true, and-eq-true_iff}
use mathlib.Core.List.{Memᴰ}
use Prim.Native.Nat.{ℕ, ◌≤◌}
use native.Mathlib.Omega.{arith}
use borrow.Author.Tests.{eqb-true}
use lib.Dec.{eqb}
use lib.ListN.{length}
use Rattle.meaning.specs.Names.{Name}
use Rattle.meaning.specs.Words.{Expr, names}
use Rattle.meaning.specs.Operations.{distinct}
use Rattle.meaning.proofs.OperationLaws.{distinct_member}
use Rattle.text.specs.Tokens.{next_token, is_name, well_formed}
use Rattle.text.specs.declared.tokens.Token.{Token}
use Rattle.text.specs.declared.tokens.Token.TheVariants as T
use Rattle.text.proofs.Reading.{name_reaches}
use Rattle.table.specs.Promises.{Limited}

-- a token that is a name has a number of bytes
name_bytes : (t : Token) → is_name t ≡ true → (m : ℕ) × (t ≡ T.Name m)
name_bytes T.Semicolon h = absurd (false≢true h)
name_bytes T.Plus h = absurd (false≢true h)
name_bytes T.Star h = absurd (false≢true h)
name_bytes T.Open h = absurd (false≢true h)
name_bytes T.Close h = absurd (false≢true h)
name_bytes T.Path h = absurd (false≢true h)
name_bytes T.End h = absurd (false≢true h)
name_bytes (T.Name m) h = (m, refl)
name_bytes T.TextEnd h = absurd (false≢true h)
name_bytes T.Bad h = absurd (false≢true h)
name_bytes T.Long h = absurd (false≢true h)

pub well_formed_short : (n : Name) → well_formed n ≡ true → length n ≤ 16
unfolding well_formed
well_formed_short n h =
    let r = next_token n in
    let (front, whole) = (and-eq-true_iff (is_name r.token && eqb r.start 0) (eqb r.used (length n))).0 h in
    let (is_name, at_front) = (and-eq-true_iff (is_name r.token) (eqb r.start 0)).0 front in
    let (m, token) = name_bytes r.token is_name in
    omega (arith, name_reaches n m token, eqb-true r.start 0 at_front, eqb-true r.used (length n) whole)

module _ (e : Expr) (limits : Limited e) where
  pub distinct_well_formed : (n : Name) → Memᴰ n (distinct (names e)) → well_formed n ≡ true
  distinct_well_formed n m = limits.well_formed n (distinct_member (names e) n m)

  pub distinct_short : (n : Name) → Memᴰ n (distinct (names e)) → length n ≤ 16
  distinct_short n m = well_formed_short n (distinct_well_formed n m)
