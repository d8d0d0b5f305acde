-- Conditions, one step of reading at a time.
use Rattle.std.proofs.Common.{◌≡◌, Bool, List, ◌∷◌, sym, subst, ◌∙◌}
use Rattle.base.specs.declared.relation.Relation.{Relation}
use Rattle.scr_tokens.specs.declared.word.Word.{Word}
use Rattle.scr_tokens.specs.declared.word.Word.TheVariants as w
use Rattle.scr_tokens.specs.declared.word.Sign.TheVariants as s
use Rattle.scr_tokens.specs.declared.word.Keyword.TheVariants as k
use Rattle.scr_parse.specs.declared.draft.DraftSide.{DraftSide}
use Rattle.scr_parse.specs.declared.draft.DraftCond.{DraftCond}
use Rattle.scr_parse.specs.declared.draft.DraftCond.TheVariants as c
use Rattle.scr_tokens.specs.Words.{relation_sign}
use Rattle.scr_parse.specs.Sides.{Side}
use Rattle.scr_parse.specs.Conds.{any_of, Lit, alone, compare, negated, nested, Conj, last_lit, lit_and, Cond, last_conj, conj_or}
use Rattle.scr_parse.proofs.Once.{no_side_not, no_side_open, behind, side_once, side_from, lit_once, conj_from, conj_once, cond_from}

-- ---- the same part, from or to equal words

pub side_to : {primes : Bool} {from a b : List Word} {l : DraftSide} → Side primes from l a → a ≡ b → Side primes from l b
side_to {primes} {from} {l = l} m e = subst (λ rest. Side primes from l rest) e m

lit_from : {primes : Bool} {a b rest : List Word} {d : DraftCond} → a ≡ b → Lit primes b d rest → Lit primes a d rest
lit_from {primes} {rest = rest} {d = d} e l = subst (λ from. Lit primes from d rest) (sym e) l

pub lit_to : {primes : Bool} {from a b : List Word} {d : DraftCond} → Lit primes from d a → a ≡ b → Lit primes from d b
lit_to {primes} {from} {d = d} l e = subst (λ rest. Lit primes from d rest) e l

pub conj_to : {primes : Bool} {from a b : List Word} {ds : List DraftCond} → Conj primes from ds a → a ≡ b → Conj primes from ds b
conj_to {primes} {from} {ds = ds} l e = subst (λ rest. Conj primes from ds rest) e l

pub cond_to : {primes : Bool} {from a b : List Word} {ds : List DraftCond} → Cond primes from ds a → a ≡ b → Cond primes from ds b
cond_to {primes} {from} {ds = ds} l e = subst (λ rest. Cond primes from ds rest) e l

-- ---- a comparison

pub compare_at : {primes : Bool} {from after next rest : List Word} {l m : DraftSide} {relation : Relation} → Side primes from l after
    → after ≡ w.Sign (relation_sign relation) ∷ next → Side primes next m rest → Lit primes from (c.Compare l relation m) rest
compare_at l e m = compare (side_to l e) m

-- behind a side and a relation there is a side
pub second_side : {primes : Bool} {from after next rest : List Word} {l : DraftSide} (relation : Relation) {d : DraftCond} → Side primes from l after
    → after ≡ w.Sign (relation_sign relation) ∷ next → Lit primes from d rest → (m : DraftSide) × Side primes next m rest
second_side relation l e (alone m g) = let f = side_once l m in absurd (g _ _ (sym f.1 ∙ e))
second_side relation l e (compare m n) = let f = side_once l m in (_, side_from (behind (sym e ∙ f.1)) n)
second_side relation l e (negated m) = absurd (no_side_not l)
second_side relation l e (nested m) = absurd (no_side_open l)

-- ---- a negation, and parentheses

pub negated_at : {primes : Bool} {from next rest : List Word} {d e : DraftCond} → from ≡ w.Reserved k.Not ∷ next → Lit primes next d rest → e ≡ d
    → Lit primes from (c.Not e) rest
negated_at p l f = rw f (lit_from p (negated l))

inner_lit : {primes : Bool} {next rest : List Word} {d : DraftCond} → Lit primes (w.Reserved k.Not ∷ next) d rest → (e : DraftCond) × Lit primes next e rest
inner_lit (alone l h) = absurd (no_side_not l)
inner_lit (compare l m) = absurd (no_side_not l)
inner_lit (negated l) = (_, l)

-- behind NOT there is a literal
pub behind_not : {primes : Bool} {from next rest : List Word} {d : DraftCond} → from ≡ w.Reserved k.Not ∷ next → Lit primes from d rest
    → (e : DraftCond) × Lit primes next e rest
behind_not e l = inner_lit (lit_from (sym e) l)

pub nested_at : {primes : Bool} {from next rest : List Word} {ds : List DraftCond} {d : DraftCond} → from ≡ w.Sign s.OpenParen ∷ next
    → Cond primes next ds (w.Sign s.CloseParen ∷ rest) → d ≡ any_of ds → Lit primes from d rest
nested_at e l g = rw g (lit_from e (nested l))

inner_cond : {primes : Bool} {next rest : List Word} {d : DraftCond} → Lit primes (w.Sign s.OpenParen ∷ next) d rest
    → (ds : List DraftCond) × Cond primes next ds (w.Sign s.CloseParen ∷ rest)
inner_cond (alone l h) = absurd (no_side_open l)
inner_cond (compare l m) = absurd (no_side_open l)
inner_cond (nested l) = (_, l)

-- behind an open parenthesis there is a condition, and behind it a closed one
pub behind_open : {primes : Bool} {from next rest : List Word} {d : DraftCond} → from ≡ w.Sign s.OpenParen ∷ next → Lit primes from d rest
    → (ds : List DraftCond) × Cond primes next ds (w.Sign s.CloseParen ∷ rest)
behind_open e l = inner_cond (lit_from (sym e) l)

-- ---- AND and OR

pub first_lit : {primes : Bool} {from end : List Word} {ds : List DraftCond} → Conj primes from ds end → (d : DraftCond) × (rest : List Word) × Lit primes from d rest
first_lit (last_lit l h) = (_, _, l)
first_lit (lit_and l ls) = (_, _, l)

pub after_and : {primes : Bool} {from after next end : List Word} {d : DraftCond} {ds : List DraftCond} → Lit primes from d after → after ≡ w.Reserved k.And ∷ next
    → Conj primes from ds end → (es : List DraftCond) × Conj primes next es end
after_and l e (last_lit m h) = let f = lit_once l m in absurd (h _ (sym f.1 ∙ e))
after_and l e (lit_and m ms) = let f = lit_once l m in (_, conj_from (behind (sym e ∙ f.1)) ms)

pub first_conj : {primes : Bool} {from end : List Word} {ds : List DraftCond} → Cond primes from ds end → (es : List DraftCond) × (rest : List Word) × Conj primes from es rest
first_conj (last_conj l h) = (_, _, l)
first_conj (conj_or l ls) = (_, _, l)

pub after_or : {primes : Bool} {from after next end : List Word} {ds es : List DraftCond} → Conj primes from ds after → after ≡ w.Reserved k.Or ∷ next
    → Cond primes from es end → (fs : List DraftCond) × Cond primes next fs end
after_or l e (last_conj m h) = let f = conj_once l m in absurd (h _ (sym f.1 ∙ e))
after_or l e (conj_or m ms) = let f = conj_once l m in (_, cond_from (behind (sym e ∙ f.1)) ms)
