-- The lines of the targets that are left.
use Rattle.std.proofs.Common.{◌≡◌, ℕ, ℤ, suc, ◌+◌, ◌<◌, ◌≤◌, List, [], ◌∷◌, ◌++◌, length, drop, get_or, refl, sym, ap, ap₂, ◌∙◌, append_assoc, drop-cons, arith, append-nil}
use Rattle.std.proofs.Math.ListN.{drop_of_length-le}
use Rattle.scr_spec.specs.Data.{Data}
use Rattle.scr_spec.specs.declared.table.Cell.{Cell}
use Rattle.scr_printer.specs.Text.{line_text, lines_text, transition_line, target_lines}
use Rattle.scr_printer.proofs.Written.{more_one}

no_cells : (spec : Data) (v : ℕ) (source : ℤ) (targets : List ℤ) (rest : List Cell) → length rest ≡ 0 → target_lines spec v source targets rest ≡ []
no_cells spec v source [] [] h = refl
no_cells spec v source (t ∷ targets) [] h = refl
no_cells spec v source targets (x ∷ rest) h = absurd (omega arith)

-- no cell is left
pub cells_done : (spec : Data) (v : ℕ) (source : ℤ) (targets : List ℤ) (rest : List Cell) (b total : List ℕ) → length rest ≡ 0
    → b ++ lines_text (target_lines spec v source targets rest) ≡ total → b ≡ total
cells_done spec v source targets rest b total h e = sym (append-nil b) ∙ ap (λ lines. b ++ lines_text lines) (sym (no_cells spec v source targets rest h)) ∙ e

-- no target is left
pub targets_done : (spec : Data) (v : ℕ) (source : ℤ) (targets : List ℤ) (i : ℕ) (rest : List Cell) (b total : List ℕ) → length targets ≤ i
    → b ++ lines_text (target_lines spec v source (drop i targets) rest) ≡ total → b ≡ total
targets_done spec v source targets i rest b total h e =
    sym (append-nil b) ∙ ap (λ ts. b ++ lines_text (target_lines spec v source ts rest)) (sym (drop_of_length-le targets h)) ∙ e

-- one target and its cell
pub targets_step : (spec : Data) (v : ℕ) (source : ℤ) (targets : List ℤ) (i : ℕ) (d : ℤ) (rest more : List Cell) (x : Cell) (b c total : List ℕ) → i < length targets → rest ≡ x ∷ more
    → b ++ lines_text (target_lines spec v source (drop i targets) rest) ≡ total → c ≡ b ++ line_text (transition_line spec v source (get_or targets i d) x)
    → c ++ lines_text (target_lines spec v source (drop (i + 1) targets) more) ≡ total
targets_step spec v source targets i d rest more x b c total h e before here =
    let line = line_text (transition_line spec v source (get_or targets i d) x) in
    let later = lines_text (target_lines spec v source (drop (suc i) targets) more) in
    ap₂ (λ text n. text ++ lines_text (target_lines spec v source (drop n targets) more)) here (more_one i)
    ∙ append_assoc b line later
    ∙ ap₂ (λ ts cells. b ++ lines_text (target_lines spec v source ts cells)) (sym (drop-cons targets i d h)) (sym e) ∙ before
