-- Terms and clauses, resolved: their objects and functions go by number.
use Rattle.std.specs.Prelude.{ℕ, List, map, Option}
use Rattle.c_subset.specs.declared.expr.CTerm.{CTerm}
use Rattle.c_subset.specs.declared.stmt.CClause.{CClause}
use Rattle.c_machine.specs.declared.code.Part.{Part}
use Rattle.c_machine.specs.declared.code.Case.{Case}
use Rattle.c_machine.specs.Resolved.{expr_resolved, stmt_resolved}

abbrev pub part_resolved : List (List ℕ) → Option (List ℕ) → CTerm → Part
part_resolved objects parameter t = record { minus = t.minus; value = expr_resolved objects parameter t.value }

abbrev pub case_resolved : List (List ℕ) → List (List ℕ) → Option (List ℕ) → CClause → Case
case_resolved objects functions parameter c =
    record { label = c.label; body = map (stmt_resolved objects functions parameter) c.body; stops = c.stops }
