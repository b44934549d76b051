-- The two paths of document 001, section 5, as texts: each is accepted with its expression, by computing what the machine of the grammar
-- says of it, and the longer expression is rewritten into the shorter one.
use mathlib.Core.Path.{◌≡◌, refl}
use Rattle.meaning.specs.Names.{key, same}
use Rattle.meaning.specs.Words.{Expr}
use Rattle.meaning.specs.Words.Expr.{name}
use Rattle.meaning.specs.Operations.{holds, added, distinct, distinct_after}
use Rattle.meaning.specs.Promises.{longer, shorter}
use Rattle.meaning.proofs.Reduction.{longer_rewritten}
use Rattle.text.specs.Classes.{class_of}
use Rattle.text.specs.Tokens.{span, word_token, token_from, next_token}
use Rattle.grammar.specs.Symbols.{items_by, items_within, items_from, items}
use Rattle.grammar.specs.Machine.{want_step, have_step, start_step, step_to, depth_of, limit_at, names_on, at_end, limited, stepped}
use Rattle.grammar.specs.Machine.{judge_item, judge_from, judge}
use Rattle.grammar.specs.Machine.Verdict.{accepted}
use Rattle.grammar.proofs.Judging.{judged_exactly}
use Rattle.compiler.specs.Samples.{bytes}
use Rattle.simulation.specs.Texts.{longer_path, shorter_path, ReportPairToldAlike}
use Rattle.simulation.proofs.TextsDemand.{rewritten_told_alike}

-- the operations a, b, c, p, q and r
abbrev named : (Expr → Expr → Expr → Expr → Expr → Expr → Expr) → Expr
named path = path (name (bytes "a")) (name (bytes "b")) (name (bytes "c")) (name (bytes "p")) (name (bytes "q")) (name (bytes "r"))

-- what the machine says of the two texts
judged : (judge longer_path ≡ accepted (named longer)) × (judge shorter_path ≡ accepted (named shorter))
unfolding judge judge_from judge_item stepped limited at_end names_on limit_at depth_of step_to start_step want_step have_step items items_from items_within items_by next_token token_from span word_token class_of key same holds added distinct distinct_after
judged = (refl, refl)

pub report_pair_told_alike : ReportPairToldAlike
report_pair_told_alike =
    rewritten_told_alike longer_path shorter_path (named longer) (named shorter)
    (((judged_exactly longer_path).accepts (named longer)).0 judged.0)
    (((judged_exactly shorter_path).accepts (named shorter)).0 judged.1)
    (longer_rewritten _ _ _ _ _ _)
