-- `Classes::class` meets its contract: below 128 the table has the class; from 128 up every byte is bad.
use mathlib.Core.Path.{sym}
use Rattle.text.proofs.Bytes.{high_byte_bad}
use Rattle.text.proofs.classes.Classes.class.Goals as goal

pub returns : goal.returns
returns c = sym (high_byte_bad c.args.b c.if-b-lt128.false)
