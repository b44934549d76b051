-- Names, and how they are compared.
use Rattle.std.specs.Prelude.{Bool, true, false, ◌&&◌, List, [], ◌∷◌, ℕ, eqb}

-- a name is its bytes
abbrev pub Name : Type 0
Name = List ℕ

-- "compared byte for byte": what of a name counts where names are compared. Words, histories and replies hold keys.
unfoldable pub key : Name → Name
key n = n

-- the two have the same bytes
unfoldable pub same : Name → Name → Bool
same [] [] = true
same [] (b ∷ t) = false
same (a ∷ s) [] = false
same (a ∷ s) (b ∷ t) = eqb a b && same s t
