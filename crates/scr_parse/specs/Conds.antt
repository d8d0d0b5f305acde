-- Conditions. OR binds loosest, then AND, then NOT; parentheses leave no trace but the nesting.
use Rattle.std.specs.Prelude.{Bool, List, [], ◌∷◌}
use Rattle.base.specs.declared.relation.Relation.{Relation}
use Rattle.scr_tokens.specs.declared.word.Word.{Word}
use Rattle.scr_tokens.specs.declared.word.Word.TheVariants as w
use Rattle.scr_tokens.specs.declared.word.Sign.TheVariants as s
use Rattle.scr_tokens.specs.declared.word.Keyword.TheVariants as k
use Rattle.scr_parse.specs.declared.draft.DraftSide.{DraftSide}
use Rattle.scr_parse.specs.declared.draft.DraftCond.{DraftCond}
use Rattle.scr_parse.specs.declared.draft.DraftCond.TheVariants as c
use Rattle.scr_tokens.specs.Words.{relation_sign}
use Rattle.scr_parse.specs.Words.{NotAt, NotAtRelation}
use Rattle.scr_parse.specs.Sides.{Side}

-- one member is itself
abbrev pub all_of : List DraftCond → DraftCond
all_of [] = c.And []
all_of (d ∷ []) = d
all_of (d ∷ e ∷ ds) = c.And (d ∷ e ∷ ds)

abbrev pub any_of : List DraftCond → DraftCond
any_of [] = c.Or []
any_of (d ∷ []) = d
any_of (d ∷ e ∷ ds) = c.Or (d ∷ e ∷ ds)

mutual
  -- NOT lit, a condition in parentheses, or a side, alone or compared with another
  pub data Lit : Bool → List Word → DraftCond → List Word → Type 0 where
    alone : {primes : Bool} {from rest : List Word} {l : DraftSide} → Side primes from l rest → NotAtRelation rest → Lit primes from (c.Alone l) rest
    compare : {primes : Bool} {from mid rest : List Word} {l m : DraftSide} {relation : Relation} → Side primes from l (w.Sign (relation_sign relation) ∷ mid)
        → Side primes mid m rest → Lit primes from (c.Compare l relation m) rest
    negated : {primes : Bool} {from rest : List Word} {d : DraftCond} → Lit primes from d rest → Lit primes (w.Reserved k.Not ∷ from) (c.Not d) rest
    nested : {primes : Bool} {from rest : List Word} {ds : List DraftCond} → Cond primes from ds (w.Sign s.CloseParen ∷ rest)
        → Lit primes (w.Sign s.OpenParen ∷ from) (any_of ds) rest

  -- lit { AND lit }
  pub data Conj : Bool → List Word → List DraftCond → List Word → Type 0 where
    last_lit : {primes : Bool} {from rest : List Word} {d : DraftCond} → Lit primes from d rest → NotAt (w.Reserved k.And) rest → Conj primes from (d ∷ []) rest
    lit_and : {primes : Bool} {from mid rest : List Word} {d : DraftCond} {ds : List DraftCond} → Lit primes from d (w.Reserved k.And ∷ mid)
        → Conj primes mid ds rest → Conj primes from (d ∷ ds) rest

  -- conj { OR conj }
  pub data Cond : Bool → List Word → List DraftCond → List Word → Type 0 where
    last_conj : {primes : Bool} {from rest : List Word} {ds : List DraftCond} → Conj primes from ds rest → NotAt (w.Reserved k.Or) rest
        → Cond primes from (all_of ds ∷ []) rest
    conj_or : {primes : Bool} {from mid rest : List Word} {ds es : List DraftCond} → Conj primes from ds (w.Reserved k.Or ∷ mid) → Cond primes mid es rest
        → Cond primes from (all_of ds ∷ es) rest
