-- Worked examples of `next_token`, each computed: the text's bytes in, the token out. A keyword or a name is compared byte for
-- byte, so its examples open `key` with the rest.
use mathlib.Core.Path.{◌≡◌, refl}
use mathlib.Core.List.{[], ◌∷◌}
use lib.ListN.{replicate}
use Rattle.meaning.specs.Names.{key, same}
use Rattle.text.specs.Classes.{class_of}
use Rattle.text.specs.Tokens.{span, word_token, token_from, next_token}
use Rattle.text.specs.declared.tokens.Token.TheVariants.{Semicolon, Path, End, Name, TextEnd, Bad, Long}

-- "path a"
path_a : next_token (112 ∷ 97 ∷ 116 ∷ 104 ∷ 32 ∷ 97 ∷ []) ≡ record { token = Path; start = 0; used = 4 }
unfolding next_token token_from span word_token class_of key same
path_a = refl

-- " end"
blank_end : next_token (32 ∷ 101 ∷ 110 ∷ 100 ∷ []) ≡ record { token = End; start = 1; used = 4 }
unfolding next_token token_from span word_token class_of key same
blank_end = refl

-- "a1b2 ": digits go on with a name
name_with_digits : next_token (97 ∷ 49 ∷ 98 ∷ 50 ∷ 32 ∷ []) ≡ record { token = Name 4; start = 0; used = 4 }
unfolding next_token token_from span word_token class_of key same
name_with_digits = refl

-- 16 letters are a name, and 17 are too long
sixteen_letters : next_token (replicate 16 120) ≡ record { token = Name 16; start = 0; used = 16 }
unfolding next_token token_from span word_token class_of key same
sixteen_letters = refl

seventeen_letters : next_token (replicate 17 120) ≡ record { token = Long; start = 0; used = 17 }
unfolding next_token token_from span word_token class_of key same
seventeen_letters = refl

-- a newline and ";a": a sign takes one byte
newline_semicolon : next_token (10 ∷ 59 ∷ 97 ∷ []) ≡ record { token = Semicolon; start = 1; used = 2 }
unfolding next_token token_from span class_of
newline_semicolon = refl

-- " 3": a digit starts no token
blank_digit : next_token (32 ∷ 51 ∷ []) ≡ record { token = Bad; start = 1; used = 2 }
unfolding next_token token_from span class_of
blank_digit = refl

byte_200 : next_token (200 ∷ []) ≡ record { token = Bad; start = 0; used = 1 }
unfolding next_token token_from span class_of
byte_200 = refl

-- nothing, and blanks alone
empty_text : next_token [] ≡ record { token = TextEnd; start = 0; used = 0 }
unfolding next_token token_from span
empty_text = refl

blanks_alone : next_token (9 ∷ 13 ∷ []) ≡ record { token = TextEnd; start = 2; used = 2 }
unfolding next_token token_from span class_of
blanks_alone = refl
