use Rattle.std.proofs.Common.{refl}
use Rattle.base_io.proofs.OutsideLemmas.{OnOk-any, OnErr-any, ReadConsumes-none}
use Rattle.base_io.proofs.real.FileShelfShelf.TheImpl.Goals as goal

pub begin-tells : goal.begin-tells
begin-tells g c = record {
  begun = OnOk-any c.result;
  nothing_left = OnErr-any c.result;
  cause = c.ensures.cause;
  later = c.ensures.later;
  same_contents = refl;
  steady_on = λ never. never;
  succeeds = λ never. absurd never;
}

pub read-tells : goal.read-tells
read-tells g c = record {
  bound = c.ensures.bound;
  bytes = ReadConsumes-none c.result c.new.buf.now;
  cause = c.ensures.cause;
  later = c.ensures.later;
  same_contents = refl;
  steady_on = λ never. never;
  succeeds = λ never. absurd never;
}
