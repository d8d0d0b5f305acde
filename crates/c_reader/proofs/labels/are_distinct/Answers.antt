use Rattle.std.proofs.Common.{◌≡◌, true, false, sym, ◌∙◌}
use Rattle.std.specs.List.{list_any}
use Rattle.std.specs.Ordering.{int_eq}
use Rattle.std.proofs.lemmas.Bool.{not-true, not-false}
use Rattle.c_reader.proofs.RuleLaws.{seen_again, seen_kept, seen_distinct}
use Rattle.c_reader.proofs.labels.are_distinct.Goals as goal

pub returns-then-not-is_new : goal.returns-then-not-is_new
returns-then-not-is_new c =
    let seen : list_any (int_eq c.clause-item.result.label) c.loop-clause.seen.keys ≡ true = not-false _ (sym c.in_ok-is_new.ensures.added ∙ c.if-not-is_new.true) in
    sym (seen_again c.args.clauses.now c.loop-clause.clause-index c.clause-item.result c.loop-clause.seen.keys c.clause-item.is c.loop-clause-test.true c.loop-clause.invariant.kept seen)

pub loop-clause-preserved : goal.loop-clause-preserved
loop-clause-preserved c =
    let fresh : list_any (int_eq c.clause-item.result.label) c.loop-clause.seen.keys ≡ false = not-true _ (sym c.in_ok-is_new.ensures.added ∙ c.if-not-is_new.false) in
    record {
      kept = seen_kept c.args.clauses.now c.loop-clause.clause-index c.clause-item.result c.loop-clause.seen.keys _ c.clause-item.is c.loop-clause-test.true c.loop-clause.invariant.kept fresh c.in_ok-is_new.ensures.keys;
      distinct = seen_distinct c.args.clauses.now c.loop-clause.clause-index c.clause-item.result c.loop-clause.seen.keys c.clause-item.is c.loop-clause-test.true c.loop-clause.invariant.kept fresh c.loop-clause.invariant.distinct;
    }
