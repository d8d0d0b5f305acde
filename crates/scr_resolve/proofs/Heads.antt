-- What the head of a table gives: its variable is one for such a table, and has none yet.
use Rattle.std.proofs.Common.{◌≡◌, ℕ, Bool, true, false, not, Option, Some, None, refl, sym, ap, ◌∙◌}
use Rattle.std.specs.Prelude.{nat_eq, slice_get, unwrap_or}
use Rattle.std.specs.Option.{option_map_or, option_and_then}
use Rattle.std.proofs.lemmas.Bool.{eq-eqb}
use Rattle.scr_spec.specs.Roles.{is_class_role, is_computed_role}
use Rattle.scr_spec.specs.Tables.{has_table, is_headed, is_head_sound, is_class_at, is_class_sound}
use Rattle.scr_spec.specs.declared.spec.Variable.{Variable}
use Rattle.scr_spec.specs.declared.table.Heading.{Heading}
use Rattle.scr_spec.specs.declared.table.Heading.TheVariants as h
use Rattle.scr_spec.specs.declared.table.Table.{Table}
use Rattle.scr_spec.proofs.Passing.{and_true}
use Rattle.scr_parse.specs.declared.draft.Statement.TheVariants as s
use Rattle.scr_scope.specs.declared.known.Known.{Known}
use Rattle.scr_scope.specs.Names.{Name}
use Rattle.scr_scope.specs.Meanings.{seen, variable_named}
use Rattle.scr_scope.specs.Declarations.{variable_of}
use Rattle.scr_resolve.specs.Tables.{is_head_new, is_computed_named, is_class_named, ill_class, is_init_for, is_head_placed}
use Rattle.scr_resolve.specs.Built.{table_of}
use Rattle.scr_resolve.proofs.Truths.{not_true}
use Rattle.scr_resolve.proofs.Passes.{Passes, first_none, second_none, unless_none}

pub record IsBegun (known : Known) (t : Table) : Type 0 where
  pub head : is_head_sound (seen known) t ≡ true
  pub class : is_class_sound (seen known) t ≡ true
  pub new : has_table known.tables t.variable ≡ false

-- ---- a variable that is named

record IsFound (known : Known) (n : Name) (test : Variable → Bool) : Type 0 where
  number : ℕ
  variable : Variable
  named : variable_named known n ≡ Some number
  there : slice_get known.variables number ≡ Some variable
  right : test variable ≡ true

found_at : (known : Known) (n : Name) (test : Variable → Bool) (v : ℕ) (o : Option Variable) → variable_named known n ≡ Some v → slice_get known.variables v ≡ o
    → option_map_or test o false ≡ true → IsFound known n test
found_at known n test v None e f h = absurd (cc)
found_at known n test v (Some x) e f h = record { number = v; variable = x; named = e; there = f; right = h }

found_named : (known : Known) (n : Name) (test : Variable → Bool) (o : Option ℕ) → variable_named known n ≡ o → option_map_or test (option_and_then (slice_get known.variables) o) false ≡ true
    → IsFound known n test
found_named known n test None e h = absurd (cc)
found_named known n test (Some v) e h = found_at known n test v (slice_get known.variables v) e refl h

found : (known : Known) (n : Name) (test : Variable → Bool) → option_map_or test (variable_of known n) false ≡ true → IsFound known n test
found known n test h = found_named known n test (variable_named known n) refl h

-- the variable itself
of_found : (known : Known) (n : Name) (test : Variable → Bool) (f : IsFound known n test) → variable_of known n ≡ Some f.variable
of_found known n test f = ap (λ o. option_and_then (slice_get known.variables) o) f.named ∙ f.there

number_of : (known : Known) (n : Name) (test : Variable → Bool) (f : IsFound known n test) → unwrap_or (variable_named known n) 0 ≡ f.number
number_of known n test f = ap (λ o. unwrap_or o 0) f.named

-- ---- the head

is_new : (known : Known) (n : Name) (test : Variable → Bool) → IsFound known n test → is_head_new known n ≡ true → has_table known.tables (unwrap_or (variable_named known n) 0) ≡ false
is_new known n test f e =
    ap (has_table known.tables) (number_of known n test f)
    ∙ not_true (has_table known.tables f.number) (sym (ap (λ o. option_map_or (λ v. not (has_table known.tables v)) o true) f.named) ∙ e)

-- the test of the variable of the head
at_head : (known : Known) (n : Name) (test right : Variable → Bool) (f : IsFound known n test) → right f.variable ≡ true
    → option_map_or right (slice_get known.variables (unwrap_or (variable_named known n) 0)) false ≡ true
at_head known n test right f e =
    ap (λ v. option_map_or right (slice_get known.variables v) false) (number_of known n test f) ∙ ap (λ o. option_map_or right o false) f.there ∙ e

init_right : (known : Known) (heading : Heading) (n : Name) (test : Variable → Bool) (f : IsFound known n test) → is_head_placed known heading n ≡ true
    → is_init_for heading f.variable.init ≡ true
init_right known heading n test f e = sym (ap (λ o. option_map_or (λ x. is_init_for heading x.init) o true) (of_found known n test f)) ∙ e

-- the class behind OVER
over_right : (known : Known) (class : Option Name) → ill_class known class ≡ None → option_map_or (is_class_at (seen known)) (option_and_then (variable_named known) class) true ≡ true
over_right known None e = refl
over_right known (Some n) e =
    let f = found known n (λ x. is_class_role x.role) (unless_none (is_class_named known n) n e) in
    ap (λ o. option_map_or (is_class_at (seen known)) o true) f.named ∙ ap (λ o. option_map_or (λ x. is_class_role x.role) o false) f.there ∙ f.right

pub begun : (known : Known) (heading : Heading) (n : Name) (class : Option Name) → Passes known (s.Head heading n class) → IsBegun known (table_of known heading n class)
begun known h.Condition n class p =
    let f = found known n (λ x. is_computed_role x.role) (unless_none (is_computed_named known n) n (first_none _ (ill_class known class) p.ill)) in
    let init = init_right known h.Condition n (λ x. is_computed_role x.role) f (unless_none (is_head_placed known h.Condition n) n p.table) in
    record {
      head = at_head known n (λ x. is_computed_role x.role) (is_headed h.Condition) f (and_true _ _ f.right init);
      class = over_right known class (second_none _ (ill_class known class) p.ill);
      new = is_new known n (λ x. is_computed_role x.role) f (unless_none (is_head_new known n) n p.duplicate);
    }
begun known h.Event n class p =
    let f = found known n (λ x. is_computed_role x.role) (unless_none (is_computed_named known n) n (first_none _ (ill_class known class) p.ill)) in
    let init = init_right known h.Event n (λ x. is_computed_role x.role) f (unless_none (is_head_placed known h.Event n) n p.table) in
    record {
      head = at_head known n (λ x. is_computed_role x.role) (is_headed h.Event) f (and_true _ _ f.right init);
      class = over_right known class (second_none _ (ill_class known class) p.ill);
      new = is_new known n (λ x. is_computed_role x.role) f (unless_none (is_head_new known n) n p.duplicate);
    }
begun known h.Modes n class p =
    let f = found known n (λ x. is_class_role x.role) (unless_none (is_class_named known n) n p.ill) in
    record {
      head = at_head known n (λ x. is_class_role x.role) (is_headed h.Modes) f f.right;
      class =
          ap (λ o. option_map_or (nat_eq (unwrap_or (variable_named known n) 0)) o false) f.named
          ∙ eq-eqb (unwrap_or (variable_named known n) 0) f.number (number_of known n (λ x. is_class_role x.role) f);
      new = is_new known n (λ x. is_class_role x.role) f (unless_none (is_head_new known n) n p.duplicate);
    }
