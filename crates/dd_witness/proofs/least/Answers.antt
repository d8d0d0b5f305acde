use Rattle.std.proofs.Common.{◌∙◌}
use Rattle.dd_store.proofs.Closed.{IsOrderedFrom-at}
use Rattle.dd_witness.proofs.Descending.{IsValuation-lowest}
use Rattle.dd_witness.proofs.least.Goals as goal

pub descend-requires : goal.descend-requires
descend-requires c = record {
  is_held = c.is_false.ensures.held;
  known = c.requires.known;
  ordered = IsOrderedFrom-at c.args.store.now c.is_false.ensures.held c.args.id;
  possible = c.is_false.ensures.no c.if-is_false.false;
  valuation = IsValuation-lowest c.args.store.now c.is_false.ensures.held c.write_lowest.new.out (c.write_lowest.ensures.long ∙ c.requires.long) c.write_lowest.ensures.lowest;
  lowest = c.write_lowest.ensures.lowest;
}
