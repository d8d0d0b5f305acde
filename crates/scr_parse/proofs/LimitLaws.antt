-- The limits of a condition that joins others, by those of each.
use Rattle.std.specs.Prelude.{◌≡◌, Bool, List}
use Rattle.std.specs.List.{list_all}
use Rattle.std.proofs.Common.{sym, ap, ◌∙◌}
use Rattle.std.proofs.lemmas.List.Folds.{list_all-map}
use Rattle.scr_parse.specs.declared.draft.DraftCond.{DraftCond, fold-roll-DraftCond}
use Rattle.scr_parse.specs.declared.draft.DraftCond.TheVariants.{And, Or, rolls-And, rolls-Or}
use Rattle.scr_parse.specs.declared.draft.DraftCond.TheOpen as layer
use Rattle.scr_parse.specs.Limits.{is_cond_within, within_step}

pub is_cond_within-And : (ds : List DraftCond) → is_cond_within (And ds) ≡ list_all is_cond_within ds
is_cond_within-And ds =
    ap is_cond_within (sym (rolls-And ds)) ∙ fold-roll-DraftCond Bool within_step (layer.And ds) ∙ list_all-map (λ t. t) is_cond_within ds

pub is_cond_within-Or : (ds : List DraftCond) → is_cond_within (Or ds) ≡ list_all is_cond_within ds
is_cond_within-Or ds =
    ap is_cond_within (sym (rolls-Or ds)) ∙ fold-roll-DraftCond Bool within_step (layer.Or ds) ∙ list_all-map (λ t. t) is_cond_within ds

pub ruleset cond_laws = (is_cond_within-And, is_cond_within-Or)
