-- The samples read as document 01 says. What the texts come to is computed, in one list, and is what the samples say; and the contract of
-- `compile` leaves no other answer (`compiles_one`).
use mathlib.Core.Path.{◌≡◌, refl, ap, ◌∙◌}
use mathlib.Core.List.{List, [], ◌∷◌, map, Memᴰ}
use Rattle.meaning.specs.Names.{key, same}
use Rattle.meaning.specs.Words.{names}
use Rattle.meaning.specs.Operations.{holds, added, distinct, distinct_after, number_of}
use Rattle.meaning.specs.Sets.{mem}
use Rattle.meaning.specs.Positions.{size, can_be_empty, first, last, follows, row, rows_from, rows, start}
use Rattle.text.specs.Classes.{class_of}
use Rattle.text.specs.Tokens.{span, word_token, token_from, next_token}
use Rattle.grammar.specs.Symbols.{items_by, items_within, items_from, items}
use Rattle.grammar.specs.Machine.{want_step, have_step, start_step, step_to, depth_of, limit_at, names_on, at_end, limited, stepped, judge_item, judge_from, judge}
use Rattle.table.specs.Marks.{among, none_twice, mark_of}
use Rattle.table.specs.Rules.{padded, bytes_of, operations_of, table_of}
use Rattle.compiler.specs.Computed.{compiled}
use Rattle.compiler.specs.Samples.{bytes, Shown, shown, Sample, samples, SamplesReadSo}
use Rattle.compiler.proofs.CompiledTexts.{compiles_one}

-- what the texts of some samples come to, and what the samples say
abbrev computed : List Sample → List Shown
computed ss = map (λ (s : Sample). shown (compiled (bytes s.text))) ss

abbrev said : List Sample → List Shown
said ss = map (λ (s : Sample). s.reads) ss

all_computed : computed samples ≡ said samples
unfolding compiled judge judge_from judge_item stepped limited at_end names_on limit_at depth_of step_to start_step want_step have_step items items_from items_within items_by next_token token_from span word_token class_of key same names holds added distinct distinct_after number_of mem size can_be_empty first last follows row rows_from rows start among none_twice mark_of padded bytes_of operations_of table_of
all_computed = refl

-- equal lists have equal elements
each_computed : (ss : List Sample) → computed ss ≡ said ss → (s : Sample) → Memᴰ s ss → shown (compiled (bytes s.text)) ≡ s.reads
each_computed [] e s m = elim m [ ]
each_computed (x ∷ ss) e s (Memᴰ.head is) = let here : shown (compiled (bytes x.text)) ≡ x.reads = cc in rw is here
each_computed (x ∷ ss) e s (Memᴰ.tail m) = let behind : computed ss ≡ said ss = cc in each_computed ss behind s m

pub samples_read_so : SamplesReadSo
samples_read_so s m r fulfils = ap shown (compiles_one (bytes s.text) r fulfils) ∙ each_computed samples all_computed s m
