-- Primed names in a condition that joins others, by those in each.
use Rattle.std.proofs.Common.{◌≡◌, Bool, List, sym, ap, ◌∙◌}
use Rattle.std.specs.List.{list_all}
use Rattle.std.proofs.lemmas.List.Folds.{list_all-map}
use Rattle.scr_spec.specs.declared.cond.Cond.{Cond, fold-roll-Cond}
use Rattle.scr_spec.specs.declared.cond.Cond.TheVariants as made
use Rattle.scr_spec.specs.declared.cond.Cond.TheOpen as made_layer
use Rattle.scr_spec.specs.Parts.{sides_pass, sides_step}
use Rattle.scr_spec.specs.Formed.{is_side_plain}
use Rattle.scr_parse.specs.declared.draft.DraftCond.{DraftCond, fold-roll-DraftCond}
use Rattle.scr_parse.specs.declared.draft.DraftCond.TheVariants as draft
use Rattle.scr_parse.specs.declared.draft.DraftCond.TheOpen as draft_layer
use Rattle.scr_resolve_asserts.specs.Primes.{are_primes_compared, compared_step}

pub compared-And : (ds : List DraftCond) → are_primes_compared (draft.And ds) ≡ list_all are_primes_compared ds
compared-And ds =
    ap are_primes_compared (sym (draft.rolls-And ds)) ∙ fold-roll-DraftCond Bool compared_step (draft_layer.And ds) ∙ list_all-map (λ t. t) are_primes_compared ds

pub compared-Or : (ds : List DraftCond) → are_primes_compared (draft.Or ds) ≡ list_all are_primes_compared ds
compared-Or ds =
    ap are_primes_compared (sym (draft.rolls-Or ds)) ∙ fold-roll-DraftCond Bool compared_step (draft_layer.Or ds) ∙ list_all-map (λ t. t) are_primes_compared ds

pub plain-And : (cs : List Cond) → sides_pass is_side_plain (made.And cs) ≡ list_all (sides_pass is_side_plain) cs
plain-And cs =
    ap (sides_pass is_side_plain) (sym (made.rolls-And cs)) ∙ fold-roll-Cond Bool (sides_step is_side_plain) (made_layer.And cs)
    ∙ list_all-map (λ t. t) (sides_pass is_side_plain) cs

pub plain-Or : (cs : List Cond) → sides_pass is_side_plain (made.Or cs) ≡ list_all (sides_pass is_side_plain) cs
plain-Or cs =
    ap (sides_pass is_side_plain) (sym (made.rolls-Or cs)) ∙ fold-roll-Cond Bool (sides_step is_side_plain) (made_layer.Or cs)
    ∙ list_all-map (λ t. t) (sides_pass is_side_plain) cs

pub ruleset compared_laws = (compared-And, compared-Or)

pub ruleset plain_laws = (plain-And, plain-Or)
