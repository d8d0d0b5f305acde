use Rattle.std.proofs.Common.{◌≡◌, ℕ, Result, Err, ap, sym, ◌∙◌}
use Rattle.c_subset.specs.declared.unit.CUnit.{CUnit}
use Rattle.c_reader.specs.declared.fault.CFault.{CFault}
use Rattle.c_reader.specs.declared.fault.CFault.TheVariants.{Refused}
use Rattle.c_reader.specs.Cut.{words_from}
use Rattle.c_reader.specs.Kept.{scope_of}
use Rattle.c_reader.proofs.Places.{start_cut}
use Rattle.c_reader.proofs.UnitSteps.{next_said, next_rules, none_said, none_kept, none_declared, next_like, none_behind, reads_here, refuses_here}
use Rattle.c_reader.proofs.unit.read_unit.Goals as goal

pub items-init : goal.items-init
items-init c =
    record {
      said = none_said _ (words_from c.args.text.now 0) c.new-items.ensures;
      rules = none_kept _ c.new-items.ensures;
      declares = none_declared _ c.new-declared.ensures c.new-items.ensures;
      cut = start_cut c.args.text.now;
    }

pub items-preserved : goal.items-preserved
items-preserved c =
    let got = c.in-Ok in
    record {
      said = next_said c.items.invariant.said c.token_start-start.ensures.same got.ensures.found c.in_ok-push-in-Ok.ensures.ok;
      rules = next_rules (scope_of c.items.declared) c.items.items _ got.item c.items.invariant.declares c.items.invariant.rules got.ensures.kept c.in_ok-push-in-Ok.ensures.ok;
      declares = next_like (scope_of c.items.declared) _ c.items.items _ got.item c.items.invariant.declares c.in_ok-declare-in-Ok.ensures c.in_ok-push-in-Ok.ensures.ok;
      cut = got.ensures.cut;
    }

pub returns-then-start-text-clause-read : goal.returns-then-start-text-clause-read
returns-then-start-text-clause-read c =
    reads_here c.args.text.now c.items.here c.token_start-start.result _ c.items.invariant.said c.token_start-start.ensures.same c.items.invariant.rules c.if-start-text.true

same_line : {a b : ℕ} → (let e : Result CUnit CFault = Err (Refused a) in e) ≡ Err (Refused b) → a ≡ b
same_line e = cc

pub returns-in-Err-Refused-clause-refused : goal.returns-in-Err-Refused-clause-refused
returns-in-Err-Refused-clause-refused c line e =
    let start = c.token_start-start in
    let none = none_behind (scope_of c.items.declared) c.items.items (words_from c.args.text.now start.result) c.items.invariant.declares c.items.invariant.rules
    (c.in-Err-Refused.ensures.refused (ap (λ f. Err f) c.in-Err-Refused.field-0-is)) in
    refuses_here c.args.text.now c.items.here start.result line _ c.items.invariant.said start.ensures.same c.items.invariant.rules start.ensures.cut c.if-start-text.false start.ensures.none
    none (sym (same_line e) ∙ c.line_at.ensures)
