use Rattle.std.proofs.Common.{◌≡◌, ℕ, ◌<◌, length}
use Rattle.scr_spec.specs.Shown.{data_of}
use Rattle.scr_spec.specs.Meaning.{code_of}
use Rattle.scr_spec.specs.Domains.{IsWithin, domain_of}
use Rattle.scr_eval.proofs.typed.is_typed.Given as goal

abbrev pub invariant-loop-v : goal.invariant-loop-v
invariant-loop-v l = record {
  same_length : length l.codes ≡ length l.spec.variables;
  within : (k : ℕ) → k < l.v → IsWithin (domain_of (data_of l.spec) k) (code_of l.codes k);
}
