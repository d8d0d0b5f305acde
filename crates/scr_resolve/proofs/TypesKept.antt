-- Types and constants are within the limits.
use Rattle.std.proofs.Common.{◌≡◌, ℕ, ℤ, Bool, true, ◌&&◌, List, length, Option, Some, None}
use Rattle.std.specs.Prelude.{nat_le, int_le}
use Rattle.std.specs.Option.{option_map_or}
use Rattle.std.specs.List.{list_all}
use Rattle.std.proofs.lemmas.Bool.{and_parts, le-leb}
use Rattle.scr_spec.specs.declared.spec.Constant.{Constant}
use Rattle.scr_spec.specs.Types.{is_narrow, is_list_sound, is_type_sound}
use Rattle.scr_spec.specs.NameSpace.{is_name}
use Rattle.scr_spec.proofs.Passing.{and_true}
use Rattle.scr_parse.specs.declared.draft.Statement.TheVariants as s
use Rattle.scr_parse.specs.Readable.{are_some}
use Rattle.scr_scope.proofs.KeptForms.{some_one}
use Rattle.scr_scope.specs.declared.known.Known.{Known}
use Rattle.scr_scope.specs.Meanings.{variable_named}
use Rattle.scr_scope.specs.Declarations.{with_bound_at}
use Rattle.scr_resolve.specs.Lines.{after}
use Rattle.scr_resolve.proofs.Passes.{unless_none}
use Rattle.scr_resolve.proofs.Carried.{Step}
use Rattle.scr_resolve.proofs.Grown.{push_all}

abbrev pub is_constant_narrow : Constant → Bool
is_constant_narrow c = is_narrow c.value

pub record TypesKept (known : Known) : Type 0 where
  pub types : list_all is_type_sound known.types ≡ true
  pub constants : list_all is_constant_narrow known.constants ≡ true

-- from 1 to 64 names
pub list_sound : (names : List (List ℕ)) → are_some is_name names ≡ true → nat_le (length names) 64 ≡ true → is_list_sound names ≡ true
list_sound names h k = and_true _ _ (le-leb 1 (length names) (some_one is_name names h)) k

bound_types : (known : Known) (step : ℤ) (o : Option ℕ) → TypesKept known → TypesKept (option_map_or (with_bound_at known step) o known)
bound_types known step None h = h
bound_types known step (Some v) h = record { types = h.types; constants = h.constants }

pub types_after : Step (λ place counts known. TypesKept known)
unfolding after
types_after place next counts known (s.Specification n) t h = record { types = h.types; constants = h.constants }
types_after place next counts known (s.Range n lo hi) t h =
    let a = and_parts (is_name n && is_narrow lo) (is_narrow hi) t.spelt in
    let b = and_parts (is_name n) (is_narrow lo) (a.0) in
    record {
      types = push_all is_type_sound known.types _ h.types (and_true _ _ (and_true _ _ (and_true _ _ (b.1) (a.1)) (unless_none (int_le lo hi) n t.passes.outside)) t.within);
      constants = h.constants;
    }
types_after place next counts known (s.Labels n labels) t h =
    let a = and_parts (is_name n) (are_some is_name labels) t.spelt in
    record { types = push_all is_type_sound known.types _ h.types (list_sound labels (a.1) t.within); constants = h.constants }
types_after place next counts known (s.Constant n v) t h =
    let a = and_parts (is_name n) (is_narrow v) t.spelt in
    record { types = h.types; constants = push_all is_constant_narrow known.constants _ h.constants (a.1) }
types_after place next counts known (s.Variable r n kind init) t h = record { types = h.types; constants = h.constants }
types_after place next counts known (s.Class n modes init) t h = record { types = h.types; constants = h.constants }
types_after place next counts known (s.Head heading n class) t h = record { types = h.types; constants = h.constants }
types_after place next counts known (s.Nat n step) t h = bound_types known step (variable_named known n) h
types_after place next counts known (s.Row modes cells) t h = record { types = h.types; constants = h.constants }
types_after place next counts known (s.Values sides) t h = record { types = h.types; constants = h.constants }
types_after place next counts known (s.Transition source target e) t h = record { types = h.types; constants = h.constants }
types_after place next counts known s.End t h = record { types = h.types; constants = h.constants }
types_after place next counts known s.Finish t h = h
