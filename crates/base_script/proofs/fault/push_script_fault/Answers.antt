use Rattle.std.proofs.Common.{◌≡◌, ℕ, List, ◌++◌, ◌∙◌, ap, append_assoc, string_bytes, rules}
use Rattle.std.specs.Prelude.{codes, decimal}
use Rattle.base_script.proofs.fault.push_script_fault.Goals as goal

pub returns : goal.returns
returns c =
    let shown : string_bytes c.in_ok-text.text ≡ codes "script line " ++ decimal c.args.line ++ codes ": " ++ c.script_kind_word-word.result.now ++ codes "\n" =
    simp append_assoc c.in_ok-text.ensures.ok in
    let same : c.as_bytes.result.now ≡ string_bytes c.in_ok-text.text = search rules in
    c.in_ok-extend_from_slice.ensures.items
    ∙ ap (λ (t : List ℕ). c.args.out.now.items ++ t)
    (same ∙ shown ∙ ap (λ (w : List ℕ). codes "script line " ++ decimal c.args.line ++ codes ": " ++ w ++ codes "\n") c.script_kind_word-word.ensures)
