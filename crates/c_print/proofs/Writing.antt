-- What is written piece by piece.
use Rattle.std.proofs.Common.{◌≡◌, ℕ, ℤ, pos, negsuc, List, ◌∷◌, ◌++◌, refl, ap, ◌∙◌, append_assoc}
use Rattle.std.specs.Prelude.{OnOk, Result, Ok, Err}
use Rattle.c_reader.specs.Word as w
use Rattle.c_print.specs.Marks.{Mark, mark_text, ink, text}
use Rattle.c_print.specs.Printed.{Marks, number_marks}
use Rattle.c_print.specs.Appended.{Appends}

-- one mark
pub one_mark : {a b bytes : List ℕ} (mark : Mark) → b ≡ a ++ bytes → bytes ≡ mark_text mark → Appends (λ rest. mark ∷ rest) a b
one_mark {a} mark e f = record { whole = λ rest. ap (λ b. b ++ text rest) (e ∙ ap (λ t. a ++ t) f) ∙ append_assoc a (mark_text mark) (text rest) }

-- a number below 0 is spelt with its sign
same_text : (v : ℤ) (rest : List Mark) → text (ink (w.Constant v) ∷ rest) ≡ text (number_marks v rest)
same_text (pos n) rest = refl
same_text (negsuc n) rest = refl

-- a constant, as the number with its sign
pub signed : {a b : List ℕ} (v u : ℤ) → Appends (λ rest. ink (w.Constant u) ∷ rest) a b → u ≡ v → Appends (number_marks v) a b
signed {a} v u p e = record { whole = λ rest. p.whole rest ∙ ap (λ t. a ++ t) (same_text u rest ∙ ap (λ z. text (number_marks z rest)) e) }

-- one after another
pub both : {a b c : List ℕ} (m n : Marks) → Appends m a b → Appends n b c → Appends (λ rest. m (n rest)) a c
both m n p q = record { whole = λ rest. q.whole rest ∙ p.whole (n rest) }

-- the same marks
pub same_marks : {a b : List ℕ} (m n : Marks) → ((rest : List Mark) → m rest ≡ n rest) → Appends m a b → Appends n a b
same_marks {a} m n h p = record { whole = λ rest. p.whole rest ∙ ap (λ marks. a ++ text marks) (h rest) }

-- nothing
pub nothing : {a b : List ℕ} → b ≡ a → Appends (λ rest. rest) a b
nothing e = record { whole = λ rest. ap (λ b. b ++ text rest) e }

-- what a last call writes
pub last : {T E : Type 0} (a b c : List ℕ) (r : Result T E) (m n k : Marks) → ((rest : List Mark) → m (n rest) ≡ k rest) → Appends m a b → OnOk r (Appends n b c) → OnOk r (Appends k a c)
last a b c (Ok x) m n k h p q = same_marks (λ rest. m (n rest)) k h (both m n p q)
last a b c (Err x) m n k h p q = q

-- likewise, where it writes all
pub alone : {T E : Type 0} (a c : List ℕ) (r : Result T E) (n k : Marks) → ((rest : List Mark) → n rest ≡ k rest) → OnOk r (Appends n a c) → OnOk r (Appends k a c)
alone a c (Ok x) n k h q = same_marks n k h q
alone a c (Err x) n k h q = q
