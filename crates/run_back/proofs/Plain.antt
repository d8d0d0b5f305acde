-- A BACK line has two words, so it is none of a plain script.
use Rattle.std.proofs.Common.{◌≡◌, ℕ, true, false, List, [], ◌∷◌, refl}
use Rattle.std.specs.Prelude.{Some, None, Err, if◌then◌else◌}
use Rattle.base.specs.Lines.{body}
use Rattle.scr_spec.specs.Data.{Data}
use Rattle.scr_spec.specs.Meaning.{Codes}
use Rattle.run_script.specs.declared.fault.ScriptFault.TheVariants as fault
use Rattle.base_script.specs.Words.{is_readable, words_of}
use Rattle.run_script.specs.Script.{read_words, read_line}
use Rattle.run_back.specs.StepBack.{words_back, count_back}

words_plain : (spec : Data) (at : Codes) (words : List (List ℕ)) (count : ℕ) → words_back words ≡ Some count → read_words spec at words ≡ Err fault.Syntax
words_plain spec at [] count h = cc
words_plain spec at (a ∷ []) count h = refl
words_plain spec at (a ∷ b ∷ []) count h = refl
words_plain spec at (a ∷ b ∷ c ∷ words) count h = cc

pub plain : (spec : Data) (at : Codes) (line : List ℕ) (count : ℕ) → count_back line ≡ Some count → read_line spec at line ≡ Err fault.Syntax
plain spec at line count h =
    let words = words_of (body line) in
    elim (is_readable line) as (λ t. (if t then words_back words else None) ≡ Some count → (if t then read_words spec at words else Err fault.Syntax) ≡ Err fault.Syntax) [
      | true ↦ λ k. words_plain spec at words count k
      | false ↦ λ k. refl
    ] h
