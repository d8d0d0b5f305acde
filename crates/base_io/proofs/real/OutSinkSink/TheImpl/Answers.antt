use Rattle.base_io.proofs.OutsideLemmas.{WriteAppends-none}
use Rattle.base_io.proofs.real.OutSinkSink.TheImpl.Goals as goal

pub write-tells : goal.write-tells
write-tells g c = record {
  some = c.ensures.some;
  bound = c.ensures.bound;
  bytes = WriteAppends-none c.result c.args.piece.now;
  cause = c.ensures.cause;
  later = c.ensures.later;
}
