-- How often a name occurs: in two lists together, and in the names of entries with one of them taken out: by induction on the first list.
use mathlib.Core.Path.{◌≡◌}
use mathlib.Core.Bool.{Bool, true, false, cond}
use mathlib.Core.List.{List, [], ◌∷◌, ◌++◌, map-append}
use Prim.Native.Nat.{ℕ, suc, ◌+◌}
use native.Mathlib.Omega.{arith}
use Rattle.meaning.specs.Names.{Name, same}
use Rattle.meaning.specs.Waiting.{Entry, names_of}
use Rattle.meaning.specs.Heard.{count}

one_more : (b : Bool) (x y z : ℕ) → x ≡ y + z → cond b (suc x) x ≡ cond b (suc y) y + z
one_more true x y z e = omega arith
one_more false x y z e = e

pub count_append : (n : Name) (xs ys : List Name) → count n (xs ++ ys) ≡ count n xs + count n ys
unfolding count
count_append n [] ys = omega arith
count_append n (x ∷ xs) ys = one_more (same x n) _ _ _ (count_append n xs ys)

pub count_between : (n : Name) {es : List Entry} (ahead after : List Entry) (e : Entry) → es ≡ ahead ++ e ∷ after
    → count n (names_of es) ≡ count n (e.name ∷ []) + count n (names_of ahead) + count n (names_of after)
count_between n ahead after e l = rw l (simp (map-append, count_append) (omega (arith, count_append n (e.name ∷ []) (names_of after))))
