use Rattle.std.proofs.Common.{◌≡◌, ℕ, List, ◌++◌, append_assoc, ap, ◌∙◌}
use Rattle.std.specs.Prelude.{codes}
use Rattle.cmd_generate.specs.Chain.{rising_line, falling_line, phase_text}
use Rattle.cmd_generate.proofs.table.push_phase.Goals as goal

four_more : (start one two three four a b c d : List ℕ) → one ≡ start ++ a → two ≡ one ++ b → three ≡ two ++ c → four ≡ three ++ d → four ≡ start ++ (a ++ b ++ c ++ d)
four_more start one two three four a b c d h i j k =
    k ∙ ap (λ all. all ++ d) (j ∙ ap (λ all. all ++ c) (i ∙ ap (λ all. all ++ b) h))
    ∙ ap (λ all. all ++ c ++ d) (append_assoc start a b) ∙ ap (λ all. all ++ d) (append_assoc start (a ++ b) c) ∙ append_assoc start (a ++ b ++ c) d

pub returns : goal.returns
unfolding phase_text
returns c =
    four_more _ _ _ _ _ (codes "MODES Phase\n") (rising_line c.args.n) (falling_line c.args.n) (codes "END\n")
    c.in_ok-extend_from_slice.ensures.items c.in_ok-push_rising.ensures c.in_ok-push_falling.ensures c.in_ok-extend_from_slice-2.ensures.items
