-- `Output::put_number` calls itself with a tenth of the number, which is less.
use Rattle.wording.proofs.writing.Output.+put_number.Given as goal

abbrev pub decreases-put_number : goal.decreases-put_number
decreases-put_number l = l.n
