use Rattle.scr_spec.specs.Shown.{data_of}
use Rattle.prove_decide.specs.Levels.{level_domains}
use Rattle.prove_decide.proofs.OneMember.{decided_told}
use Rattle.prove_decide.proofs.alone.decide.Goals as goal

pub returns : goal.returns
returns c =
    decided_told c.args.f.now (level_domains (data_of c.args.spec.now)) c.args.limit c.decide_conjunction.result c.from_ref.result.now c.from_ref.ensures.value c.decide_conjunction.ensures
