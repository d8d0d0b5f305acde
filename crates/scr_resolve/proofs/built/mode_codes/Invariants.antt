use Rattle.std.proofs.Common.{◌≡◌, take, map}
use Rattle.scr_resolve.specs.Built.{mode_code}
use Rattle.scr_resolve.proofs.built.mode_codes.Given as goal

abbrev pub invariant-loop-name : goal.invariant-loop-name
invariant-loop-name l = l.codes ≡ map (mode_code l.known) (take l.name-index l.names)
