-- What is printed of a unit is read as that unit.
use Rattle.std.proofs.Common.{[], refl, sym, subst}
use Rattle.c_subset.specs.Scope.{no_scope}
use Rattle.c_reader.specs.Units.{Items}
use Rattle.c_print.specs.Printed.{items_marks}
use Rattle.c_print.proofs.Lexing.{lexes}
use Rattle.c_print.proofs.CleanUnit.{Named, items_clean}
use Rattle.c_print.proofs.ReadUnit.{items_read}
use Rattle.c_print.specs.Laws.{ReadsBack}

none_named : Named no_scope
none_named = record { objects = refl; functions = refl }

-- the text of a unit that keeps the rules is a text of it
pub reads_back : ReadsBack
reads_back unit right =
    let l = lexes (items_marks unit.items []) (items_clean no_scope unit.items [] none_named right tt) in
    record { tokens = l.tokens; cut = l.cut; said = subst (λ ws. Items ws unit.items []) (sym l.same) (items_read no_scope unit.items [] right); rules = right }
