-- "Operations are the distinct names, numbered 0, 1, .. in order of first appearance."
use Rattle.std.specs.Prelude.{Bool, false, cond, ◌||◌, List, [], ◌∷◌, ◌++◌, ℕ, suc}
use Rattle.meaning.specs.Names.{Name, key, same}

-- a name of key k is among them
unfoldable pub holds : List Name → Name → Bool
holds [] k = false
holds (d ∷ ds) k = same (key d) k || holds ds k

-- n at the end, unless it is there
unfoldable pub added : List Name → Name → List Name
added ds n = cond (holds ds (key n)) ds (ds ++ n ∷ [])

-- ds, and the names after them that are new
unfoldable pub distinct_after : List Name → List Name → List Name
distinct_after ds [] = ds
distinct_after ds (n ∷ ns) = distinct_after (added ds n) ns

-- the distinct names "in order of first appearance", each as it was first written
unfoldable pub distinct : List Name → List Name
distinct ns = distinct_after [] ns

-- the number among them of the name of key k; their count if there is none
unfoldable pub number_of : List Name → Name → ℕ
number_of [] k = 0
number_of (d ∷ ds) k = cond (same (key d) k) 0 (suc (number_of ds k))
