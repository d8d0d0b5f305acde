use Rattle.std.proofs.Common.{◌≡◌, true, take}
use Rattle.std.specs.List.{list_all}
use Rattle.c_subset.specs.Rules.{number_names}
use Rattle.c_reader.specs.Kept.{scope_of}
use Rattle.c_subset.specs.Kinds.{is_number, is_truth, kind_of}
use Rattle.c_reader.proofs.kind.+kinds.Given as goal

abbrev pub invariant-are_numbers-loop-x : goal.invariant-are_numbers-loop-x
invariant-are_numbers-loop-x l = list_all (λ x. is_number (kind_of (number_names (scope_of l.declared) l.parameter) x)) (take l.x-index l.xs) ≡ true

abbrev pub invariant-are_truths-loop-x : goal.invariant-are_truths-loop-x
invariant-are_truths-loop-x l = list_all (λ x. is_truth (kind_of (number_names (scope_of l.declared) l.parameter) x)) (take l.x-index l.xs) ≡ true

abbrev pub invariant-are_terms-loop-t : goal.invariant-are_terms-loop-t
invariant-are_terms-loop-t l = list_all (λ t. is_number (kind_of (number_names (scope_of l.declared) l.parameter) t.value)) (take l.t-index l.ts) ≡ true
