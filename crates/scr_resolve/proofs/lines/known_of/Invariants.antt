use Rattle.std.proofs.Common.{◌≡◌, ℕ, true, drop, IsTrue}
use Rattle.std.specs.List.{list_all}
use Rattle.scr_parse.specs.Readable.{is_line_readable}
use Rattle.scr_scope.specs.declared.known.Known.{Known}
use Rattle.scr_scope.specs.Meanings.{nothing}
use Rattle.scr_scope.specs.Names.{Name}
use Rattle.scr_scope.specs.Sides.{is_narrow_constant}
use Rattle.scr_resolve.specs.declared.fault.TypeKind.{TypeKind}
use Rattle.scr_resolve.specs.Draft.{Resolves, Refused}
use Rattle.scr_resolve.proofs.lines.known_of.Given as goal

abbrev pub invariant-loop-line : goal.invariant-loop-line
invariant-loop-line l = record {
  readable : list_all is_line_readable (drop l.line-index l.lines) ≡ true;
  constants : IsTrue (list_all is_narrow_constant l.known.constants);
  resolves : (last : Known) → Resolves l.known (drop l.line-index l.lines) last → Resolves nothing l.lines last;
  refused : (n : ℕ) (kind : TypeKind) (name : Name) → Refused l.known (drop l.line-index l.lines) n kind name → Refused nothing l.lines n kind name;
}
