use Rattle.std.proofs.Common.{◌≡◌, ℕ, zero, suc, ◌+◌, ◌*◌, List, [], ◌∷◌, ◌++◌, refl, sym, ap, ◌∙◌, arith, append_assoc}
use Rattle.std.proofs.lemmas.List.{append-nil}
use Rattle.std.specs.Prelude.{replicate}
use Rattle.c_print.specs.Marks.{indent}
use Rattle.c_print.proofs.Writing.{one_mark}
use Rattle.c_print.proofs.ink.push_indent.Goals as goal

abbrev blanks : ℕ → List ℕ
blanks n = replicate n 32

abbrev pair : List ℕ
pair = 32 ∷ 32 ∷ []

two_more : (n : ℕ) → blanks n ++ pair ≡ blanks (suc (suc n))
two_more zero = refl
two_more (suc n) = ap (λ xs. 32 ∷ xs) (two_more n)

next_two : (out start : List ℕ) (n : ℕ) → out ≡ start ++ blanks (2 * n) → out ++ pair ≡ start ++ blanks (2 * (n + 1))
next_two out start n e =
    let k : suc (suc (2 * n)) ≡ 2 * (n + 1) = omega arith in
    ap (λ xs. xs ++ pair) e ∙ append_assoc start (blanks (2 * n)) pair ∙ ap (λ xs. start ++ xs) (two_more (2 * n) ∙ ap blanks k)

pub loop-init : goal.loop-init
loop-init c = sym (append-nil c.args.out.now.items)

pub loop-preserved : goal.loop-preserved
loop-preserved c = c.in_ok-extend_from_slice.ensures.items ∙ next_two c.loop.out.items c.args.out.now.items c.loop.counter c.loop.invariant

pub returns : goal.returns
returns c =
    let e : c.loop.counter ≡ c.args.depth = omega arith in
    one_mark (indent c.args.depth) c.loop.invariant (ap (λ n. blanks (2 * n)) e)
