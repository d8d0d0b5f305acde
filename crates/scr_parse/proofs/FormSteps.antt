-- How a line has a form, by its place and an equation for its words.
use Rattle.std.proofs.Common.{◌≡◌, ◌≢◌, ℕ, ℤ, List, [], ◌∷◌, refl, subst}
use Rattle.std.specs.Prelude.{true, Option, None, Some}
use Rattle.scr_tokens.specs.declared.word.Word.{Word}
use Rattle.scr_tokens.specs.declared.word.Word.TheVariants as w
use Rattle.scr_tokens.specs.declared.word.Keyword.{Keyword}
use Rattle.scr_tokens.specs.declared.word.Keyword.TheVariants as k
use Rattle.scr_spec.specs.declared.spec.Role.TheVariants as role
use Rattle.scr_spec.specs.declared.table.Heading.TheVariants as h
use Rattle.scr_parse.specs.declared.draft.DraftKind.{DraftKind}
use Rattle.scr_parse.specs.declared.draft.DraftValue.{DraftValue}
use Rattle.scr_parse.specs.declared.draft.Statement.{Statement}
use Rattle.scr_parse.specs.declared.draft.Statement.TheVariants as st
use Rattle.scr_parse.specs.declared.place.Place.{Place}
use Rattle.scr_parse.specs.declared.place.Place.TheVariants as p
use Rattle.scr_spec.specs.declared.table.Heading.{Heading}
use Rattle.scr_parse.specs.declared.draft.DraftPrim.{DraftPrim}
use Rattle.scr_parse.specs.declared.draft.DraftSide.{DraftSide}
use Rattle.scr_parse.specs.Events.{event_of, Sides}
use Rattle.scr_parse.specs.Words.{IsNatural}
use Rattle.scr_parse.proofs.FormsOnce.{variable_once}
use Rattle.scr_parse.specs.Forms.{TypeRest, ConstRest, VariableRest, ClassRest, FromRest, is_between, may_end, expects_row, Form, condition_head, event_head, row, values, from_to, specification, type, const, monitored, mode_class, term, controlled, nat, modes_head, end, finish}

pub specification_at : {place : Place} {words : List Word} {name label : List ℕ} → place ≡ p.Start → words ≡ w.Name name ∷ [] → label ≡ name
    → Form place (w.Reserved k.Specification ∷ words) (st.Specification label) p.Declarations
specification_at e f g = rw (e, f, g) specification

pub type_at : {place : Place} {words : List Word} {statement : Statement} → place ≡ p.Declarations → TypeRest words statement
    → Form place (w.Reserved k.TypeWord ∷ words) statement place
type_at e d = rw e (type d)

pub const_at : {place : Place} {words : List Word} {name label : List ℕ} {value number : ℤ} → place ≡ p.Declarations → ConstRest words name value → label ≡ name
    → number ≡ value → Form place (w.Reserved k.Const ∷ words) (st.Constant label number) place
const_at e d f g = rw (e, f, g) (const d)

pub monitored_at : {place : Place} {words : List Word} {name : List ℕ} {kind : DraftKind} {init : Option DraftValue} {value : DraftValue} → place ≡ p.Declarations
    → init ≡ Some value → VariableRest words name kind init → Form place (w.Reserved k.Monitored ∷ words) (st.Variable role.Monitored name kind (Some value)) place
monitored_at {words = words} {name} {kind} e f d = rw e (monitored (subst (λ init. VariableRest words name kind init) f d))

pub class_at : {place : Place} {words : List Word} {name first : List ℕ} {modes : List (List ℕ)} → place ≡ p.Declarations → ClassRest words name modes first
    → Form place (w.Reserved k.ModeClass ∷ words) (st.Class name modes first) place
class_at e d = rw e (mode_class d)

pub term_at : {place : Place} {words : List Word} {name : List ℕ} {kind : DraftKind} {init : Option DraftValue} → place ≡ p.Declarations
    → VariableRest words name kind init → Form place (w.Reserved k.Term ∷ words) (st.Variable role.Term name kind init) place
term_at e d = rw e (term d)

pub controlled_at : {place : Place} {words : List Word} {name : List ℕ} {kind : DraftKind} {init : Option DraftValue} → place ≡ p.Declarations
    → VariableRest words name kind init → Form place (w.Reserved k.Controlled ∷ words) (st.Variable role.Controlled name kind init) place
controlled_at e d = rw e (controlled d)

pub nat_at : {place : Place} {words : List Word} {name label : List ℕ} {n step : ℤ} → place ≡ p.Declarations → IsNatural n
    → words ≡ w.Name name ∷ w.Reserved k.Step ∷ w.Number n ∷ [] → label ≡ name → step ≡ n → Form place (w.Reserved k.Nat ∷ words) (st.Nat label step) place
nat_at e i f g h = rw (e, f, g, h) (nat i)

pub modes_at : {place : Place} {words : List Word} {name label : List ℕ} → is_between place ≡ true → words ≡ w.Name name ∷ [] → label ≡ name
    → Form place (w.Reserved k.Modes ∷ words) (st.Head h.Modes label None) p.Transitions
modes_at i f g = rw (f, g) (modes_head i)

pub end_at : {place : Place} {words : List Word} → may_end place ≡ true → words ≡ [] → Form place (w.Reserved k.End ∷ words) st.End p.Tables
end_at i f = rw f (end i)

pub finish_at : {place : Place} {words : List Word} → is_between place ≡ true → words ≡ [] → Form place (w.Reserved k.Finish ∷ words) st.Finish p.After
finish_at i f = rw f (finish i)

-- a monitored variable has a value
pub no_monitored : {place next : Place} {words : List Word} {name : List ℕ} {kind : DraftKind} {init : Option DraftValue} {statement : Statement} → init ≡ None
    → VariableRest words name kind init → Form place (w.Reserved k.Monitored ∷ words) statement next → ⊥
no_monitored e d (monitored f) = let same = (variable_once d f).2 in cc

pub values_at : {place : Place} {heading : Heading} {words : List Word} {sides : List DraftSide} → place ≡ p.Rows heading → Sides words sides
    → Form place (w.Reserved k.Values ∷ words) (st.Values sides) p.Closed
values_at e d = rw e (values d)

pub from_to_at : {place : Place} {words : List Word} {source target : List ℕ} {prims : List DraftPrim} → place ≡ p.Transitions → FromRest words source target prims
    → Form place (w.Reserved k.From ∷ words) (st.Transition source target (event_of prims)) place
from_to_at e d = rw e (from_to d)

-- no row where none is expected
pub no_row : {place next : Place} {words : List Word} {statement : Statement} → ((heading : Heading) → expects_row heading place → ⊥)
    → Form place (w.Reserved k.Row ∷ words) statement next → ⊥
no_row h (row {heading = heading} f d) = h heading f

-- no form begins with another word
pub no_other : {place next : Place} {keyword : Keyword} {words : List Word} {statement : Statement} → keyword ≢ k.Specification → keyword ≢ k.TypeWord → keyword ≢ k.Const → keyword ≢ k.Monitored
    → keyword ≢ k.ModeClass → keyword ≢ k.Term → keyword ≢ k.Controlled → keyword ≢ k.Nat
    → keyword ≢ k.Condition → keyword ≢ k.Event → keyword ≢ k.Modes → keyword ≢ k.Row
    → keyword ≢ k.Values → keyword ≢ k.From → keyword ≢ k.End → keyword ≢ k.Finish
    → Form place (w.Reserved keyword ∷ words) statement next → ⊥
no_other a _ _ _ _ _ _ _ _ _ _ _ _ _ _ _ specification = a refl
no_other _ b _ _ _ _ _ _ _ _ _ _ _ _ _ _ (type d) = b refl
no_other _ _ c _ _ _ _ _ _ _ _ _ _ _ _ _ (const d) = c refl
no_other _ _ _ e _ _ _ _ _ _ _ _ _ _ _ _ (monitored d) = e refl
no_other _ _ _ _ f _ _ _ _ _ _ _ _ _ _ _ (mode_class d) = f refl
no_other _ _ _ _ _ g _ _ _ _ _ _ _ _ _ _ (term d) = g refl
no_other _ _ _ _ _ _ j _ _ _ _ _ _ _ _ _ (controlled d) = j refl
no_other _ _ _ _ _ _ _ l _ _ _ _ _ _ _ _ (nat i) = l refl
no_other _ _ _ _ _ _ _ _ m _ _ _ _ _ _ _ (condition_head i d) = m refl
no_other _ _ _ _ _ _ _ _ _ n _ _ _ _ _ _ (event_head i d) = n refl
no_other _ _ _ _ _ _ _ _ _ _ o _ _ _ _ _ (modes_head i) = o refl
no_other _ _ _ _ _ _ _ _ _ _ _ q _ _ _ _ (row i d) = q refl
no_other _ _ _ _ _ _ _ _ _ _ _ _ r _ _ _ (values d) = r refl
no_other _ _ _ _ _ _ _ _ _ _ _ _ _ t _ _ (from_to d) = t refl
no_other _ _ _ _ _ _ _ _ _ _ _ _ _ _ u _ (end i) = u refl
no_other _ _ _ _ _ _ _ _ _ _ _ _ _ _ _ v (finish i) = v refl
