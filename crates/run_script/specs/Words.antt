-- Kinds of words of a script line.
use Rattle.std.specs.Prelude.{ℕ, Bool, ◌&&◌, ◌||◌, List, is_none, codes}
use Rattle.std.specs.Str.{bytes_eq}
use Rattle.scr_tokens.specs.Words.{keyword_of}
use Rattle.base_script.specs.Words.{is_number}
use Rattle.scr_spec.specs.NameSpace.{is_spelt}

-- a name and no reserved word, of any length
abbrev pub is_plain_name : List ℕ → Bool
is_plain_name word = is_spelt word && is_none (keyword_of word)

-- TRUE or FALSE
abbrev pub is_truth : List ℕ → Bool
is_truth word = bytes_eq word (codes "TRUE") || bytes_eq word (codes "FALSE")

-- TRUE, FALSE, a name or a number
abbrev pub is_value : List ℕ → Bool
is_value word = is_truth word || is_plain_name word || is_number word
