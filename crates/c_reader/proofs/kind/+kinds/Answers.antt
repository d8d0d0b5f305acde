use Rattle.c_subset.specs.Rules.{number_names}
use Rattle.c_reader.specs.Kept.{scope_of}
use Rattle.c_reader.proofs.KindLaws.{product_kind, sum_kind, and_kind, or_kind}
use Rattle.c_reader.proofs.kind.+kinds.Goals as goal

pub kind_of-returns-in-Product : goal.kind_of-returns-in-Product
kind_of-returns-in-Product t c =
    product_kind (number_names (scope_of c.args.declared.now) c.args.parameter.now) c.given-in-Product.ensures c.are_numbers.ensures c.as_slice.ensures c.in-Product.is

pub kind_of-returns-in-Sum : goal.kind_of-returns-in-Sum
kind_of-returns-in-Sum t c =
    sum_kind (number_names (scope_of c.args.declared.now) c.args.parameter.now) c.given-in-Sum.ensures c.are_terms.ensures c.as_slice-in-Sum.ensures c.in-Sum.is

pub kind_of-returns-in-And : goal.kind_of-returns-in-And
kind_of-returns-in-And t c =
    and_kind (number_names (scope_of c.args.declared.now) c.args.parameter.now) c.given-in-And.ensures c.are_truths.ensures c.as_slice-in-And.ensures c.in-And.is

pub kind_of-returns-in-Or : goal.kind_of-returns-in-Or
kind_of-returns-in-Or t c =
    or_kind (number_names (scope_of c.args.declared.now) c.args.parameter.now) c.given-in-Or.ensures c.are_truths-in-Or.ensures c.as_slice-in-Or.ensures c.in-Or.is
