-- The class rule: "Bytes are blanks (32, 9, 10, 13), letters A-Z and a-z, digits 0-9, and the signs ; + * ( ). Every other byte is
-- bad".
use Rattle.std.specs.Prelude.{◌≡◌, Bool, true, false, cond, ◌&&◌, ◌||◌, List, ℕ, ◌<◌, eqb, leb, get_or}
use Rattle.text.specs.declared.classes.Class.{Class}
use Rattle.text.specs.declared.classes.Class.TheVariants.{Bad, Blank, Letter, Digit, Semicolon, Plus, Asterisk, Open, Close}

abbrev pub is_blank : ℕ → Bool
is_blank b = eqb b 32 || eqb b 9 || eqb b 10 || eqb b 13

abbrev pub is_letter : ℕ → Bool
is_letter b = (leb 65 b && leb b 90) || (leb 97 b && leb b 122)

abbrev pub is_digit : ℕ → Bool
is_digit b = leb 48 b && leb b 57

unfoldable pub class_of : ℕ → Class
class_of b =
    cond (is_blank b) Blank
    (cond (is_letter b) Letter
    (cond (is_digit b) Digit
    (cond (eqb b 59) Semicolon
    (cond (eqb b 43) Plus
    (cond (eqb b 42) Asterisk
    (cond (eqb b 40) Open
    (cond (eqb b 41) Close Bad)))))))

-- what is a blank, what "a letter" and what "letters and digits"
abbrev pub is_blank_class : Class → Bool
is_blank_class Blank = true
is_blank_class _ = false

abbrev pub starts_name : Class → Bool
starts_name Letter = true
starts_name _ = false

abbrev pub is_in_name : Class → Bool
is_in_name Letter = true
is_in_name Digit = true
is_in_name _ = false

-- "the class of each byte below 128 stands in one table"
abbrev pub Tabled : List Class → Type 0
Tabled table = (b : ℕ) → b < 128 → get_or table b Bad ≡ class_of b
