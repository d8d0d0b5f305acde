use Rattle.std.proofs.Common.{◌≡◌, [], take, drop, map}
use Rattle.scr_resolve_asserts.specs.Resolution.{first_fault, assertion_of}
use Rattle.scr_resolve_asserts.proofs.resolve.resolve_over.Given as goal

abbrev pub invariant-loop-draft : goal.invariant-loop-draft
invariant-loop-draft l = record {
  made : l.assertions ≡ map (assertion_of l.known) (take l.draft-index l.drafts);
  left : first_fault l.known (map (λ a. a.name) l.assertions) (drop l.draft-index l.drafts) ≡ first_fault l.known [] l.drafts;
}
