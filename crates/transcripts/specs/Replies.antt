-- Document 01, "Program": the lines that `linerun` prints.
use Rattle.std.specs.Prelude.{List, [], ◌∷◌, ◌++◌, ℕ, get_or, Ok, Err}
use Rattle.meaning.specs.Calls.{Call}
use Rattle.meaning.specs.Calls.Call.{ask, finish, withdraw}
use Rattle.text.specs.Tokens.{path_word}
use Rattle.table.specs.Cells.{names_of}
use Rattle.table.specs.declared.cells.Table.{Table}
use Rattle.steps.specs.declared.replies.Ask.TheVariants.{Granted, Delayed}
use Rattle.steps.specs.declared.replies.Grant.{Grant}
use Rattle.steps.specs.declared.replies.Next.{Next}
use Rattle.steps.specs.declared.replies.Next.TheVariants.{Granted as Grants, Nobody}
use Rattle.steps.specs.Answers.{AskReply, FinishReply, WithdrawReply, number_of}
use Rattle.simulation.specs.Runs.{ReplyTo}
use Rattle.wording.specs.Lines.{lf, space}
use Rattle.wording.specs.Writing.{decimal}

-- the bytes of `refused`, `at`, `granted`, `delayed`, `finished` and `withdrawn`
abbrev pub refused_word : List ℕ
refused_word = 114 ∷ 101 ∷ 102 ∷ 117 ∷ 115 ∷ 101 ∷ 100 ∷ []

abbrev pub at_word : List ℕ
at_word = 97 ∷ 116 ∷ []

abbrev pub granted_word : List ℕ
granted_word = 103 ∷ 114 ∷ 97 ∷ 110 ∷ 116 ∷ 101 ∷ 100 ∷ []

abbrev pub delayed_word : List ℕ
delayed_word = 100 ∷ 101 ∷ 108 ∷ 97 ∷ 121 ∷ 101 ∷ 100 ∷ []

abbrev pub finished_word : List ℕ
finished_word = 102 ∷ 105 ∷ 110 ∷ 105 ∷ 115 ∷ 104 ∷ 101 ∷ 100 ∷ []

abbrev pub withdrawn_word : List ℕ
withdrawn_word = 119 ∷ 105 ∷ 116 ∷ 104 ∷ 100 ∷ 114 ∷ 97 ∷ 119 ∷ 110 ∷ []

-- a line of some fields: a space between any two, and LF at the end
unfoldable pub line_of : List (List ℕ) → List ℕ
line_of [] = lf ∷ []
line_of (field ∷ []) = field ++ lf ∷ []
line_of (field ∷ next ∷ fields) = field ++ space ∷ line_of (next ∷ fields)

-- "a refused call `refused N`"
unfoldable pub refused_line : ℕ → List ℕ
refused_line n = line_of (refused_word ∷ decimal n ∷ [])

-- "If refused: `refused N at P`"
unfoldable pub refused_path_line : ℕ → ℕ → List ℕ
refused_path_line n place = line_of (refused_word ∷ decimal n ∷ at_word ∷ decimal place ∷ [])

-- "`path` with positions, names and mark"
unfoldable pub path_line : Table → List ℕ
path_line t = line_of (path_word ∷ decimal t.positions ∷ decimal t.names ∷ decimal t.mark ∷ [])

-- "After `delayed`: entries ahead"
unfoldable pub ask_line : AskReply → List ℕ
ask_line (Ok Granted) = line_of (granted_word ∷ [])
ask_line (Ok (Delayed ahead)) = line_of (delayed_word ∷ decimal ahead ∷ [])
ask_line (Err r) = refused_line (number_of r)

-- "then the granted terminal and name", as the table has the name
abbrev pub grant_fields : Table → Grant → List (List ℕ)
grant_fields t g = granted_word ∷ decimal g.terminal.0 ∷ get_or (names_of t) g.operation.0 [] ∷ []

-- "After `finished`: entries examined, then the granted terminal and name"
unfoldable pub finished_line : Table → ℕ → Next → List ℕ
finished_line t examined (Grants g) = line_of (finished_word ∷ decimal examined ∷ grant_fields t g)
finished_line t examined Nobody = line_of (finished_word ∷ decimal examined ∷ [])

unfoldable pub finish_line : Table → FinishReply → List ℕ
finish_line t (Ok f) = finished_line t f.examined f.next
finish_line t (Err r) = refused_line (number_of r)

-- "After `withdrawn`: place"
unfoldable pub withdraw_line : WithdrawReply → List ℕ
withdraw_line (Ok place) = line_of (withdrawn_word ∷ decimal place ∷ [])
withdraw_line (Err r) = refused_line (number_of r)

-- the reply line of a call, over table t
abbrev pub reply_line : Table → (c : Call) → ReplyTo c → List ℕ
reply_line t (ask u n) r = ask_line r
reply_line t (finish u) r = finish_line t r
reply_line t (withdraw u) r = withdraw_line r
