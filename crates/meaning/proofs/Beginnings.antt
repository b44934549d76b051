-- The empty history and each beginning of a permitted history are permitted: the rest of the history is part of what completes it.
use mathlib.Core.Path.{refl}
use mathlib.Core.List.{[], ◌++◌, append_assoc}
use Rattle.meaning.specs.Words.{Word}
use Rattle.meaning.specs.Words.Repeated.{none}
use Rattle.meaning.specs.Promises.{EmptyBegins, BeginningBegins}

pub empty_begins : EmptyBegins
unfolding Word
empty_begins e = ([], none refl)

pub beginning_begins : BeginningBegins
beginning_begins e h g (w, r) = (g ++ w, rw (append_assoc h g w) at r)
