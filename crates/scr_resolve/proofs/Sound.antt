-- What lines spell that are read keeps all rules of a specification.
use Rattle.std.proofs.Common.{◌≡◌, Bool, true, List, refl, ap, ◌∙◌, inl, inr}
use Rattle.std.specs.Prelude.{nat_le}
use Rattle.std.specs.List.{list_all}
use Rattle.std.proofs.lemmas.Grind.{merely}
use Rattle.scr_spec.specs.Data.{Data}
use Rattle.scr_spec.specs.declared.spec.TypeDef.{TypeDef}
use Rattle.scr_spec.specs.declared.spec.Variable.{Variable}
use Rattle.scr_spec.specs.declared.table.Table.{Table}
use Rattle.scr_spec.specs.Types.{is_kind_sound, is_bound_sound}
use Rattle.scr_spec.specs.NameSpace.{is_name}
use Rattle.scr_spec.specs.Initial.{is_init_there, is_init_sound, is_kind_of_role}
use Rattle.scr_spec.specs.Typed.{is_cond_typed}
use Rattle.scr_spec.specs.Parts.{sides_pass, conds_pass}
use Rattle.scr_spec.specs.Formed.{is_side_formed, is_side_plain, joins_several}
use Rattle.scr_spec.specs.Depth.{is_shallow}
use Rattle.scr_spec.specs.Cells.{is_table_over}
use Rattle.scr_spec.specs.Tables.{is_head_sound, is_class_sound, are_cells_formed, is_layout_sound}
use Rattle.scr_spec.specs.RowModes.{are_modes_sound, is_complete, are_targets_sound}
use Rattle.scr_spec.specs.Values.{are_values_sound}
use Rattle.scr_spec.specs.Sound.{IsNamed, IsDeclared, IsTabled, IsConditioned, IsSound}
use Rattle.scr_spec.proofs.Passing.{all_imply}
use Rattle.scr_parse.specs.declared.draft.Numbered.{Numbered}
use Rattle.scr_parse.specs.declared.place.Place.{Place}
use Rattle.scr_parse.specs.declared.place.Place.TheVariants as p
use Rattle.scr_parse.specs.declared.place.Counts.{Counts}
use Rattle.scr_parse.specs.Readable.{is_after, IsReadable}
use Rattle.scr_scope.specs.declared.known.Known.{Known}
use Rattle.scr_scope.specs.Meanings.{nothing, seen}
use Rattle.scr_resolve.specs.Draft.{Resolves}
use Rattle.scr_resolve.proofs.Carried.{AtEnd, carried}
use Rattle.scr_resolve.proofs.TypesKept.{TypesKept, types_after}
use Rattle.scr_resolve.proofs.VariablesKept.{IsKept, is_kept, kept_parts, VariablesKept}
use Rattle.scr_resolve.proofs.NamesKept.{IsTitled, title_kept, AreNamed, named_kept, names_are}
use Rattle.scr_resolve.proofs.OnceKept.{AreCounted, counted_kept, once_from}
use Rattle.scr_resolve.proofs.CountsKept.{AreCounts, counts_kept, few_types, few_constants, few_variables}
use Rattle.scr_resolve.proofs.Opened.{core, Base, base_kept}
use Rattle.scr_resolve.proofs.TableRules.{TableRule, AreRuled, no_table, ruled_kept}
use Rattle.scr_resolve.proofs.TabledKept.{AreTabled, tabled_kept, each_tabled}
use Rattle.scr_resolve.proofs.HeadRules.{Nothing, heads_rule, classes_rule}
use Rattle.scr_resolve.proofs.OverRules.{Over, over_rule}
use Rattle.scr_resolve.proofs.CellRules.{Formed, cells_rule}
use Rattle.scr_resolve.proofs.ColumnRules.{LaidOut, layout_rule}
use Rattle.scr_resolve.proofs.ModesRule.{HasModes, modes_rule}
use Rattle.scr_resolve.proofs.CompleteRule.{Untold, complete_rule}
use Rattle.scr_resolve.proofs.TargetsRule.{HasTargets, targets_rule}
use Rattle.scr_resolve.proofs.ValueRules.{Valued, values_rule}
use Rattle.scr_resolve.proofs.CondRules.{Passing, typed_rule, unprimed_rule, sides_rule, joined_rule, shallow_rule}

-- ---- before the first line

start_base : Base p.Start nothing
start_base = record {
  variables = record { names = refl; labels = refl; variables = refl };
  early = λ h. refl;
  outside = λ h. refl;
  inside = λ h. absurd (cc);
}

-- ---- after the last line

base_at : (lines : List Numbered) (last : Known) → Resolves nothing lines last → IsReadable lines → Base p.After last
base_at lines last d r = (carried (λ place counts known. Base place known) base_kept lines last d r start_base).holds

types_at : (lines : List Numbered) (last : Known) → Resolves nothing lines last → IsReadable lines → TypesKept last
types_at lines last d r = (carried (λ place counts known. TypesKept known) types_after lines last d r (record { types = refl; constants = refl })).holds

titled_at : (lines : List Numbered) (last : Known) → Resolves nothing lines last → IsReadable lines → IsTitled p.After last
titled_at lines last d r = (carried (λ place counts known. IsTitled place known) title_kept lines last d r (inl refl)).holds

named_at : (lines : List Numbered) (last : Known) → Resolves nothing lines last → IsReadable lines → AreNamed last
named_at lines last d r = (carried (λ place counts known. AreNamed known) named_kept lines last d r (record { types = refl; constants = refl; variables = refl })).holds

counted_at : (lines : List Numbered) (last : Known) → Resolves nothing lines last → IsReadable lines → AreCounted last
counted_at lines last d r = (carried (λ place counts known. AreCounted known) counted_kept lines last d r (λ q. refl)).holds

counts_at : (lines : List Numbered) (last : Known) → Resolves nothing lines last → IsReadable lines → AtEnd (λ place counts known. AreCounts counts known) last
counts_at lines last d r = carried (λ place counts known. AreCounts counts known) counts_kept lines last d r (record { types = refl; constants = refl; variables = refl; within = refl })

tabled_at : (lines : List Numbered) (last : Known) → Resolves nothing lines last → IsReadable lines → AreTabled p.After last
tabled_at lines last d r =
    (carried (λ place counts known. AreTabled place known) tabled_kept lines last d r (record { base = start_base; once = refl; new = λ t e. no_table refl e; all = λ e. absurd (let f = ap is_after e in cc) })).holds

ruled_at : (R : Data → Table → Bool) (O : Place → Counts → Data → Table → Type 0) → TableRule R O → (lines : List Numbered) (last : Known) → Resolves nothing lines last → IsReadable lines
    → list_all (R (core last)) last.tables ≡ true
ruled_at R O rule lines last d r = (carried (AreRuled R O) (ruled_kept R O rule) lines last d r (record { base = start_base; closed = refl; current = λ t e. no_table refl e })).holds.closed

-- a rule of each variable
each_variable : (q : List TypeDef → Variable → Bool) → ((types : List TypeDef) (x : Variable) → IsKept types x → q types x ≡ true) → (known : Known) → VariablesKept known → list_all (q known.types) known.variables ≡ true
each_variable q f known h = all_imply (is_kept known.types) (q known.types) (λ x k. f known.types x (kept_parts known.types x k)) known.variables h.variables

title_is : (known : Known) → IsTitled p.After known → is_name known.title ≡ true
title_is known (inl e) = absurd (let f = ap is_after e in cc)
title_is known (inr h) = h

-- ---- the rules

named : (lines : List Numbered) (last : Known) → Resolves nothing lines last → IsReadable lines → IsNamed (seen last)
named lines last d r = record {
  title = title_is last (titled_at lines last d r);
  names = names_are last (named_at lines last d r);
  once = once_from last (counted_at lines last d r);
}

declared : (lines : List Numbered) (last : Known) → Resolves nothing lines last → IsReadable lines → IsDeclared (seen last)
declared lines last d r =
    let counts = counts_at lines last d r in
    let variables = (base_at lines last d r).variables in
    record {
      few_types = ap (λ k. nat_le k 64) counts.holds.types ∙ few_types counts.counts counts.holds.within;
      few_constants = ap (λ k. nat_le k 256) counts.holds.constants ∙ few_constants counts.counts counts.holds.within;
      constants = (types_at lines last d r).constants;
      roles = each_variable (λ types x. is_kind_of_role x.role x.kind) (λ types x k. k.role) last variables;
      initial = each_variable (λ types x. is_init_there x) (λ types x k. k.there) last variables;
      initial_within = each_variable is_init_sound (λ types x k. k.init) last variables;
    }

tabled : (lines : List Numbered) (last : Known) → Resolves nothing lines last → IsReadable lines → IsTabled (seen last)
tabled lines last d r =
    let each = tabled_at lines last d r in
    record {
      heads = ruled_at is_head_sound Nothing heads_rule lines last d r;
      one_table = each.once;
      each_tabled = each_tabled last (each.all refl);
      classes = ruled_at is_class_sound Nothing classes_rule lines last d r;
      cells = ruled_at (λ spec. are_cells_formed) Formed cells_rule lines last d r;
      layout = ruled_at (λ spec. is_layout_sound) LaidOut layout_rule lines last d r;
      modes = ruled_at are_modes_sound HasModes modes_rule lines last d r;
      complete = ruled_at is_complete Untold complete_rule lines last d r;
      targets = ruled_at are_targets_sound HasTargets targets_rule lines last d r;
      values = ruled_at are_values_sound Valued values_rule lines last d r;
    }

conditioned : (lines : List Numbered) (last : Known) → Resolves nothing lines last → IsReadable lines → IsConditioned (seen last)
conditioned lines last d r = record {
  typed = ruled_at (λ spec t. conds_pass (is_cond_typed spec) t) (Passing is_cond_typed) typed_rule lines last d r;
  unprimed = ruled_at (λ spec t. conds_pass (sides_pass is_side_plain) t) (Passing (λ spec. sides_pass is_side_plain)) unprimed_rule lines last d r;
  sides = ruled_at (λ spec t. conds_pass (sides_pass is_side_formed) t) (Passing (λ spec. sides_pass is_side_formed)) sides_rule lines last d r;
  joined = ruled_at (λ spec t. conds_pass joins_several t) (Passing (λ spec. joins_several)) joined_rule lines last d r;
  shallow = ruled_at (λ spec t. conds_pass is_shallow t) (Passing (λ spec. is_shallow)) shallow_rule lines last d r;
}

pub sound : (lines : List Numbered) (last : Known) → Resolves nothing lines last → IsReadable lines → IsSound (seen last)
sound lines last d r =
    let counts = counts_at lines last d r in
    let variables = (base_at lines last d r).variables in
    record {
      few = ap (λ k. nat_le k 128) counts.holds.variables ∙ few_variables counts.counts counts.holds.within;
      types = (types_at lines last d r).types;
      kinds = each_variable (λ types x. is_kind_sound types x.kind) (λ types x k. k.kind) last variables;
      bounds = each_variable is_bound_sound (λ types x k. k.bound) last variables;
      tables = ruled_at is_table_over Over over_rule lines last d r;
      rules = merely (record { named = named lines last d r; declared = declared lines last d r; tabled = tabled lines last d r; conditioned = conditioned lines last d r });
    }
