use Rattle.std.proofs.Common.{append_assoc}
use Rattle.scr_parse.proofs.PartSteps.{no_names, names_behind, names_with, names_end}
use Rattle.scr_parse.proofs.names.read_names.Goals as goal

pub returns-in_default-clause-refused : goal.returns-in_default-clause-refused
returns-in_default-clause-refused c = λ e all rest d. let left = c.loop-name.invariant.back all rest d in no_names c.in_default.ensures left.1

pub loop-name-preserved : goal.loop-name-preserved
loop-name-preserved c =
    let named = c.in-Some.ensures in
    let comma = c.in-Some-past_sign.ensures in
    record {
      onward = λ more rest d. rw (c.in_ok-push.ensures.ok, c.in_ok-copy.ensures, append_assoc) (c.loop-name.invariant.onward _ rest (names_with named comma d));
      back = λ all rest d. let left = c.loop-name.invariant.back all rest d in names_behind named comma left.1;
    }

pub returns-in-None-clause-found : goal.returns-in-None-clause-found
returns-in-None-clause-found c =
    rw (c.in_ok-push.ensures.ok, c.in_ok-copy.ensures) (c.loop-name.invariant.onward _ _ (names_end c.in-Some.ensures c.in-None.ensures))
