-- How parts of a line begin, by an equation for each word.
use Rattle.std.proofs.Common.{◌≡◌, ℕ, ℤ, pos, ◌-ℤ◌, List, [], ◌∷◌, refl, ap, subst, ◌∙◌, arith}
use Rattle.std.specs.Prelude.{neg_ℤ, Option, None, Some}
use Rattle.std.proofs.lemmas.Int.{ints}
use Rattle.scr_tokens.specs.declared.word.Word.{Word}
use Rattle.scr_tokens.specs.declared.word.Word.TheVariants as w
use Rattle.scr_tokens.specs.declared.word.Sign.TheVariants as s
use Rattle.scr_tokens.specs.declared.word.Keyword.TheVariants as k
use Rattle.scr_parse.specs.declared.draft.DraftValue.TheVariants as value
use Rattle.scr_parse.specs.Words.{IsNatural, NotAt, NotAtName}
use Rattle.scr_parse.specs.declared.draft.DraftKind.{DraftKind}
use Rattle.scr_parse.specs.declared.draft.DraftValue.{DraftValue}
use Rattle.scr_parse.specs.declared.draft.Statement.TheVariants as st
use Rattle.scr_spec.specs.declared.table.Heading.{Heading}
use Rattle.scr_parse.specs.declared.draft.DraftCell.{DraftCell}
use Rattle.scr_parse.specs.declared.draft.DraftPrim.{DraftPrim}
use Rattle.scr_parse.specs.Events.{Event, Cells}
use Rattle.scr_parse.specs.Forms.{Bounds, bounds, TypeRest, range, labels, ConstRest, constant, Initial, initial, Typed, plain, VariableRest, variable, ClassRest, class, HeadRest, without_class, over_class, RowRest, without_modes, with_modes, FromRest, transition}
use Rattle.scr_parse.specs.Names.{Braced, braced, KindOf, Names, last_name, name_comma, Int, plain_int, minus_int, Value, number_value}

zero-sub : (n : ℤ) → pos 0 -ℤ n ≡ neg_ℤ n
zero-sub n = omega (arith, ints)

pub int_plain : {from rest : List Word} {n v : ℤ} → IsNatural n → from ≡ w.Number n ∷ rest → v ≡ n → Int from v rest
int_plain n e f = rw (e, f) (plain_int n)

pub int_minus : {from mid rest : List Word} {n v : ℤ} → IsNatural n → from ≡ w.Sign s.Minus ∷ mid → mid ≡ w.Number n ∷ rest → v ≡ pos 0 -ℤ n → Int from v rest
int_minus {n = n} i e g f = rw (e, g, f, zero-sub n) (minus_int i)

pub value_number : {from rest : List Word} {n v : ℤ} → Int from n rest → v ≡ n → Value from (value.Number v) rest
value_number i e = rw e (number_value i)

-- ---- lists of names

pub no_names : {from rest : List Word} {all : List (List ℕ)} → NotAtName from → Names from all rest → ⊥
no_names n (last_name {name = name} {rest = rest} e) = n name rest refl
no_names n (name_comma {name = name} {from = from} d) = n name (w.Sign s.Comma ∷ from) refl

-- what a list of names goes on with behind a comma
names_more : {name : List ℕ} {from rest : List Word} {all : List (List ℕ)} → Names (w.Name name ∷ w.Sign s.Comma ∷ from) all rest
    → (more : List (List ℕ)) × Names from more rest
names_more (last_name n) = absurd (n _ refl)
names_more (name_comma {names = names} d) = (names, d)

pub names_behind : {from mid next rest : List Word} {name : List ℕ} {all : List (List ℕ)} → from ≡ w.Name name ∷ mid → mid ≡ w.Sign s.Comma ∷ next
    → Names from all rest → (more : List (List ℕ)) × Names next more rest
names_behind {from} {mid} {next} {rest} {name} {all} e f d = names_more (subst (λ from. Names from all rest) (e ∙ ap (λ mid. w.Name name ∷ mid) f) d)

pub names_with : {from mid next rest : List Word} {name : List ℕ} {names : List (List ℕ)} → from ≡ w.Name name ∷ mid → mid ≡ w.Sign s.Comma ∷ next
    → Names next names rest → Names from (name ∷ names) rest
names_with e f d = rw (e, f) (name_comma d)

pub names_end : {from rest : List Word} {name : List ℕ} → from ≡ w.Name name ∷ rest → NotAt (w.Sign s.Comma) rest → Names from (name ∷ []) rest
names_end e n = rw e (last_name n)

pub braced_at : {a b c d : List Word} {names : List (List ℕ)} → a ≡ w.Sign s.OpenBrace ∷ b → Names b names c → c ≡ w.Sign s.CloseBrace ∷ d → Braced a names d
braced_at {b = b} {names = names} e n f = rw e (braced (subst (λ c. Names b names c) f n))

-- ---- declarations

int_to : {a b c : List Word} {v : ℤ} → b ≡ c → Int a v b → Int a v c
int_to {a} {v = v} e i = subst (λ b. Int a v b) e i

pub bounds_at : {a b c : List Word} {u v x y : ℤ} → Int a u b → b ≡ w.Sign s.Dots ∷ c → Int c v [] → x ≡ u → y ≡ v → Bounds a x y
bounds_at i e j f g = rw (f, g) (bounds (int_to e i) j)

pub range_at : {a b : List Word} {name label : List ℕ} {u v x y : ℤ} → a ≡ w.Name name ∷ w.Sign s.Equal ∷ b → label ≡ name → Bounds b u v → x ≡ u → y ≡ v
    → TypeRest a (st.Range label x y)
range_at e f d g h = rw (e, f, g, h) (range d)

pub labels_at : {a b : List Word} {name label : List ℕ} {names : List (List ℕ)} → a ≡ w.Name name ∷ w.Sign s.Equal ∷ b → label ≡ name → Braced b names []
    → TypeRest a (st.Labels label names)
labels_at e f d = rw (e, f) (labels d)

pub const_at : {a b : List Word} {name : List ℕ} {v x : ℤ} → a ≡ w.Name name ∷ w.Sign s.Equal ∷ b → Int b v [] → x ≡ v → ConstRest a name x
const_at e i f = rw (e, f) (constant i)

pub initial_at : {a b c : List Word} {v : DraftValue} → a ≡ w.Reserved k.Init ∷ b → Value b v c → c ≡ [] → Initial a v
initial_at {b = b} {v = v} e d f = rw e (initial (subst (λ c. Value b v c) f d))

pub plain_at : {a b : List Word} {i : DraftKind} → KindOf a i b → b ≡ [] → Typed a i None
plain_at {a} {i = i} d f = plain (subst (λ b. KindOf a i b) f d)

pub variable_at : {a b : List Word} {name label : List ℕ} {i : DraftKind} {init : Option DraftValue} → a ≡ w.Name name ∷ w.Sign s.Colon ∷ b → label ≡ name
    → Typed b i init → VariableRest a label i init
variable_at e f d = rw (e, f) (variable d)

pub class_at : {a b c : List Word} {name label first mode : List ℕ} {modes members : List (List ℕ)} → a ≡ w.Name name ∷ w.Sign s.Equal ∷ b → label ≡ name
    → Braced b modes c → members ≡ modes → c ≡ w.Reserved k.Init ∷ w.Name first ∷ [] → mode ≡ first → ClassRest a label members mode
class_at {b = b} {modes = modes} e f d i g h = rw (e, f, i, h) (class (subst (λ c. Braced b modes c) g d))

-- ---- tables

pub head_at : {a b : List Word} {name label : List ℕ} → a ≡ w.Name name ∷ b → b ≡ [] → label ≡ name → HeadRest a label None
head_at e f g = rw (e, f, g) without_class

pub head_over_at : {a b : List Word} {name label over class : List ℕ} → a ≡ w.Name name ∷ b → b ≡ w.Reserved k.Over ∷ w.Name over ∷ [] → label ≡ name → class ≡ over
    → HeadRest a label (Some class)
head_over_at e f g h = rw (e, f, g, h) over_class

pub row_at : {heading : Heading} {a b c : List Word} {modes : List (List ℕ)} {cells : List DraftCell} → Names a modes b → b ≡ w.Sign s.Colon ∷ c → Cells heading c cells
    → RowRest heading a modes cells
row_at {a = a} {modes = modes} n e d = with_modes (subst (λ b. Names a modes b) e n) d

pub row_alone_at : {heading : Heading} {a b : List Word} {modes : List (List ℕ)} {cells : List DraftCell} → a ≡ w.Sign s.Colon ∷ b → modes ≡ [] → Cells heading b cells
    → RowRest heading a modes cells
row_alone_at e f d = rw (e, f) (without_modes d)

pub last_event_at : {a b : List Word} {prims : List DraftPrim} → Event a prims b → b ≡ [] → Event a prims []
last_event_at {a} {prims = prims} d e = subst (λ b. Event a prims b) e d

pub from_at : {a b : List Word} {source start target stop : List ℕ} {prims : List DraftPrim}
    → a ≡ w.Name source ∷ w.Reserved k.To ∷ w.Name target ∷ w.Sign s.Colon ∷ b → start ≡ source → stop ≡ target → Event b prims [] → FromRest a start stop prims
from_at e f g d = rw (e, f, g) (transition d)
