-- The words of conditions.
use Rattle.std.specs.Prelude.{Bool, true, false, if◌then◌else◌, List, [], ◌∷◌, ◌++◌, map}
use Rattle.std.specs.List.{flat_map}
use Rattle.scr_tokens.specs.declared.word.Word.{Word}
use Rattle.scr_tokens.specs.declared.word.Word.TheVariants as w
use Rattle.scr_tokens.specs.declared.word.Sign.TheVariants as s
use Rattle.scr_tokens.specs.declared.word.Keyword.TheVariants as k
use Rattle.scr_tokens.specs.Words.{relation_sign}
use Rattle.scr_spec.specs.Data.{Data}
use Rattle.scr_spec.specs.declared.cond.Cond.{Cond, fold-Cond}
use Rattle.scr_spec.specs.declared.cond.Cond.TheOpen.{Cond-F, Truth, Holds, Compare, Not, And, Or}
use Rattle.scr_printer.specs.declared.cond.Top.{Top}
use Rattle.scr_printer.specs.declared.cond.Top.TheVariants as top
use Rattle.scr_printer.specs.Names.{variable_name}
use Rattle.scr_printer.specs.Sides.{truth_word, side_words}

-- parts with a word between each two
abbrev pub joined : Word → List (List Word) → List Word
joined word [] = []
joined word (part ∷ parts) = part ++ flat_map (λ other. word ∷ other) parts

-- the word before a part that is not the first
abbrev pub between : Bool → Word → List Word
between is_first word = if is_first then [] else word ∷ []

-- ---- parentheses

abbrev pub in_parens : Bool → List Word → List Word
in_parens true words = w.Sign s.OpenParen ∷ (words ++ w.Sign s.CloseParen ∷ [])
in_parens false words = words

-- inside an And they stand round an And and an Or
abbrev pub is_apart_in_and : Top → Bool
is_apart_in_and top.Single = false
is_apart_in_and top.Comparison = false
is_apart_in_and top.Conjunction = true
is_apart_in_and top.Disjunction = true

-- inside an Or, and after WHEN, round an Or
abbrev pub is_apart_in_or : Top → Bool
is_apart_in_or top.Single = false
is_apart_in_or top.Comparison = false
is_apart_in_or top.Conjunction = false
is_apart_in_or top.Disjunction = true

-- after NOT round a comparison, an And and an Or
abbrev pub is_apart_in_not : Top → Bool
is_apart_in_not top.Single = false
is_apart_in_not top.Comparison = true
is_apart_in_not top.Conjunction = true
is_apart_in_not top.Disjunction = true

-- ---- conditions

-- the words of a condition, and what stands at its top
pub record Phrase : Type 0 where
  pub top : Top
  pub words : List Word

abbrev pub phrase : Top → List Word → Phrase
phrase t words = record { top = t; words = words }

abbrev pub in_and : Phrase → List Word
in_and p = in_parens (is_apart_in_and p.top) p.words

abbrev pub in_or : Phrase → List Word
in_or p = in_parens (is_apart_in_or p.top) p.words

abbrev pub in_not : Phrase → List Word
in_not p = in_parens (is_apart_in_not p.top) p.words

-- from the phrases of the parts
abbrev pub phrase_step : Data → Cond-F Phrase → Phrase
phrase_step spec (Truth b) = phrase top.Single (truth_word b ∷ [])
phrase_step spec (Holds v) = phrase top.Single (w.Name (variable_name spec v) ∷ [])
phrase_step spec (Compare l relation m) = phrase top.Comparison (side_words spec l ++ w.Sign (relation_sign relation) ∷ side_words spec m)
phrase_step spec (Not p) = phrase top.Single (w.Reserved k.Not ∷ in_not p)
phrase_step spec (And ps) = phrase top.Conjunction (joined (w.Reserved k.And) (map in_and ps))
phrase_step spec (Or ps) = phrase top.Disjunction (joined (w.Reserved k.Or) (map in_or ps))

abbrev pub phrase_of : Data → Cond → Phrase
phrase_of spec c = fold-Cond Phrase (phrase_step spec) c

abbrev pub cond_words : Data → Cond → List Word
cond_words spec c = (phrase_of spec c).words
