-- The variables that a condition mentions, one more at a time.
use Rattle.std.proofs.Common.{◌≡◌, ℕ, ◌+◌, true, false, [], ◌∷◌, ◌++◌, refl}
use Rattle.scr_spec.specs.declared.cond.Cond.{Cond}
use Rattle.scr_spec.proofs.Below.{passing_push, passing_kept}
use Rattle.scr_slice.specs.Mentions.{cond_mentions}
use Rattle.run_broken.specs.Slices.{mentioned_below}

pub mentioned_first : (c : Cond) → mentioned_below 0 c ≡ []
unfolding mentioned_below
mentioned_first c = refl

pub mentioned_push : (n : ℕ) (c : Cond) → cond_mentions n c ≡ true → mentioned_below (n + 1) c ≡ mentioned_below n c ++ n ∷ []
unfolding mentioned_below
mentioned_push n c h = passing_push (λ w. cond_mentions w c) n h

pub mentioned_kept : (n : ℕ) (c : Cond) → cond_mentions n c ≡ false → mentioned_below (n + 1) c ≡ mentioned_below n c
unfolding mentioned_below
mentioned_kept n c h = passing_kept (λ w. cond_mentions w c) n h

pub ruleset mentioned_steps = (mentioned_first, mentioned_push, mentioned_kept)
