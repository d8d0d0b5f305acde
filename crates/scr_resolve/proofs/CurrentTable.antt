-- What the rules of a line say of the table whose lines are read now.
use Rattle.std.proofs.Common.{◌≡◌, ℕ, true, false, not, ◌&&◌, List, [], length, Some, None, sym, ap, ◌∙◌}
use Rattle.std.specs.Option.{option_map_or, option_and_then}
use Rattle.std.specs.Str.{bytes_eq}
use Rattle.scr_spec.specs.declared.table.Table.{Table}
use Rattle.scr_parse.specs.declared.draft.DraftCell.{DraftCell}
use Rattle.scr_scope.specs.declared.known.Known.{Known}
use Rattle.scr_scope.specs.Names.{Name}
use Rattle.scr_resolve.specs.Tables.{current_class, current_rows, is_mode, first_bad, bad_mode, bad_change, bad_transition, missing_in, missing_mode, is_count, are_modes_placed, is_row_placed}
use Rattle.scr_resolve.proofs.Truths.{not_true}
use Rattle.scr_resolve.proofs.Passes.{first_none, second_none, unless_none}

-- ---- its class and its rows

pub class_now : (known : Known) (t : Table) → known.current ≡ Some t → current_class known ≡ t.class
class_now known t e = ap (λ o. option_and_then (λ u. u.class) o) e

pub rows_now : (known : Known) (t : Table) → known.current ≡ Some t → current_rows known ≡ t.rows
rows_now known t e = ap (λ o. option_map_or (λ u. u.rows) o []) e

-- ---- rows

pub row_placed : (known : Known) (t : Table) (modes : List Name) (cells : List DraftCell) → known.current ≡ Some t → is_row_placed known modes cells ≡ true
    → (are_modes_placed t.class t.rows modes && is_count t.rows (length cells)) ≡ true
row_placed known t modes cells e h = sym (ap (λ o. option_map_or (λ u. are_modes_placed u.class u.rows modes && is_count u.rows (length cells)) o true) e) ∙ h

pub no_bad : (known : Known) (v : ℕ) (modes : List Name) → current_class known ≡ Some v → bad_mode known modes ≡ None → first_bad known v [] modes ≡ None
no_bad known v modes e h = sym (ap (λ o. option_and_then (λ u. first_bad known u [] modes) o) e) ∙ h

-- ---- transitions

pub record IsChange (known : Known) (v : ℕ) (source target : Name) : Type 0 where
  pub from : is_mode known v source ≡ true
  pub to : is_mode known v target ≡ true
  pub differ : bytes_eq source target ≡ false

change_by : (known : Known) (v : ℕ) (source target : Name) → bad_change known v source target ≡ None → IsChange known v source target
change_by known v source target h =
    let rest = second_none _ _ h in
    record {
      from = unless_none (is_mode known v source) source (first_none _ _ h);
      to = unless_none (is_mode known v target) target (first_none _ _ rest);
      differ = not_true (bytes_eq source target) (unless_none (not (bytes_eq source target)) source (second_none _ _ rest));
    }

pub is_change : (known : Known) (v : ℕ) (source target : Name) → current_class known ≡ Some v → bad_transition known source target ≡ None → IsChange known v source target
is_change known v source target e h = change_by known v source target (sym (ap (λ o. option_and_then (λ u. bad_change known u source target) o) e) ∙ h)

-- ---- END

pub none_missing : (known : Known) (t : Table) → known.current ≡ Some t → missing_mode known ≡ None → missing_in known t.heading t.class t.rows ≡ None
none_missing known t e h = sym (ap (λ o. option_and_then (λ u. missing_in known u.heading u.class u.rows) o) e) ∙ h
