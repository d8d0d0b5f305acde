-- What the words of a line are, one word at a time.
use Rattle.std.proofs.Common.{◌≡◌, ℕ, Bool, true, false, List, [], ◌∷◌, sym, ap, ◌∙◌}
use Rattle.std.specs.Prelude.{None, Ok, Err, if◌then◌else◌}
use Rattle.scr_spec.specs.Data.{Data}
use Rattle.scr_spec.specs.Meaning.{Codes}
use Rattle.run_script.specs.declared.fault.ScriptFault.TheVariants as fault
use Rattle.run_script.specs.Script.{Reading, read_set, is_set, read_words}

module _ (spec : Data) (at : Codes) where
  pub form_none : (words : List (List ℕ)) → words ≡ [] → Ok None ≡ read_words spec at words
  form_none words e = sym (ap (read_words spec at) e)

  pub form_one : (words rest : List (List ℕ)) (a : List ℕ) → words ≡ a ∷ rest → rest ≡ [] → Err fault.Syntax ≡ read_words spec at words
  form_one words rest a e f = sym (ap (read_words spec at) (e ∙ ap (λ (ws : List (List ℕ)). a ∷ ws) f))

  pub form_two : (words rest more : List (List ℕ)) (a n : List ℕ) → words ≡ a ∷ rest → rest ≡ n ∷ more → more ≡ [] → Err fault.Syntax ≡ read_words spec at words
  form_two words rest more a n e f g = sym (ap (read_words spec at) (e ∙ ap (λ (ws : List (List ℕ)). a ∷ ws) (f ∙ ap (λ (ws : List (List ℕ)). n ∷ ws) g)))

  three : (words rest more last : List (List ℕ)) (a n v : List ℕ) → words ≡ a ∷ rest → rest ≡ n ∷ more → more ≡ v ∷ last → words ≡ a ∷ n ∷ v ∷ last
  three words rest more last a n v e f g = e ∙ ap (λ (ws : List (List ℕ)). a ∷ ws) (f ∙ ap (λ (ws : List (List ℕ)). n ∷ ws) g)

  pub form_more : (words rest more last others : List (List ℕ)) (a n v w : List ℕ) → words ≡ a ∷ rest → rest ≡ n ∷ more → more ≡ v ∷ last → last ≡ w ∷ others → Err fault.Syntax ≡ read_words spec at words
  form_more words rest more last others a n v w e f g h =
      sym (ap (read_words spec at) (three words rest more last a n v e f g ∙ ap (λ (ws : List (List ℕ)). a ∷ n ∷ v ∷ ws) h))

  whole : (words rest more last : List (List ℕ)) (a n v : List ℕ) (b : Bool) → words ≡ a ∷ rest → rest ≡ n ∷ more → more ≡ v ∷ last → last ≡ [] → b ≡ is_set a n v
      → read_words spec at words ≡ (if b then read_set spec at n v else Err fault.Syntax)
  whole words rest more last a n v b e f g h k =
      ap (read_words spec at) (three words rest more last a n v e f g ∙ ap (λ (ws : List (List ℕ)). a ∷ n ∷ v ∷ ws) h) ∙ ap (λ t. if t then read_set spec at n v else Err fault.Syntax) (sym k)

  pub form_set : (words rest more last : List (List ℕ)) (a n v : List ℕ) (r : Reading) → words ≡ a ∷ rest → rest ≡ n ∷ more → more ≡ v ∷ last → last ≡ [] → true ≡ is_set a n v
      → r ≡ read_set spec at n v → r ≡ read_words spec at words
  form_set words rest more last a n v r e f g h k s = s ∙ sym (whole words rest more last a n v true e f g h k)

  pub form_other : (words rest more last : List (List ℕ)) (a n v : List ℕ) → words ≡ a ∷ rest → rest ≡ n ∷ more → more ≡ v ∷ last → last ≡ [] → false ≡ is_set a n v
      → Err fault.Syntax ≡ read_words spec at words
  form_other words rest more last a n v e f g h k = sym (whole words rest more last a n v false e f g h k)

pub ruleset form_laws = (form_none, form_one, form_two, form_more, form_set, form_other)
