-- "Numbers of refusal", 1 to 7: the number of each fault.
use Rattle.std.specs.Prelude.{ℕ, cond, eqb}
use Rattle.text.specs.declared.faults.Fault.{Fault}
use Rattle.text.specs.declared.faults.Fault.TheVariants.{LongText, BadByte, LongName, Misplaced, OpenParentheses, Positions, Names}

abbrev pub number_of : Fault → ℕ
-- "text above 4,096 bytes"
number_of LongText = 1
-- "bad byte, or digit at a token's start"
number_of BadByte = 2
-- "name of 17 or more bytes"
number_of LongName = 3
-- "no text of the grammar, limits aside, starts with the tokens so far and this one; or the text stops short"
number_of Misplaced = 4
-- "a `(` that would make 17 open at once"
number_of OpenParentheses = 5
-- "65th position"
number_of Positions = 6
-- "33rd distinct name"
number_of Names = 7

-- the fault of each number, for those who reckon with numbers
abbrev pub numbered : ℕ → Fault
numbered n =
    cond (eqb n 1) LongText
    (cond (eqb n 2) BadByte
    (cond (eqb n 3) LongName
    (cond (eqb n 4) Misplaced
    (cond (eqb n 5) OpenParentheses
    (cond (eqb n 6) Positions Names)))))
