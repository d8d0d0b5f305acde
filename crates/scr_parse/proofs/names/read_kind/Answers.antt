use Rattle.scr_parse.specs.Names.{boolean, named_kind}
use Rattle.scr_parse.proofs.names.read_kind.Goals as goal

pub returns-in-Some-clause-found : goal.returns-in-Some-clause-found
returns-in-Some-clause-found c = rw c.in-Some.ensures boolean

pub returns-in_ok-copy-in-Some-take_name-clause-found : goal.returns-in_ok-copy-in-Some-take_name-clause-found
returns-in_ok-copy-in-Some-take_name-clause-found c = rw (c.in-Some-take_name.ensures, c.in_ok-copy-in-Some-take_name.ensures) named_kind
