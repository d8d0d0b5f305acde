-- The phrase of a condition, by what stands at its top.
use Rattle.std.proofs.Common.{◌≡◌, append_assoc, Bool, List, [], ◌∷◌, ◌++◌, map, sym, ap, ◌∙◌}
use Rattle.base.specs.declared.relation.Relation.{Relation}
use Rattle.scr_tokens.specs.declared.word.Word.TheVariants as w
use Rattle.scr_tokens.specs.declared.word.Keyword.TheVariants as k
use Rattle.scr_tokens.specs.Words.{relation_sign}
use Rattle.scr_spec.specs.Data.{Data}
use Rattle.scr_spec.specs.declared.cond.Expr.{Expr}
use Rattle.scr_spec.specs.declared.cond.Cond.{Cond, fold-roll-Cond}
use Rattle.scr_spec.specs.declared.cond.Cond.TheVariants.{Compare, Not, And, Or, rolls-Compare, rolls-Not, rolls-And, rolls-Or}
use Rattle.scr_spec.specs.declared.cond.Cond.TheOpen as layer
use Rattle.scr_printer.specs.declared.cond.Top.{Top}
use Rattle.scr_printer.specs.declared.cond.Top.TheVariants as top
use Rattle.scr_printer.specs.Sides.{side_words}
use Rattle.scr_printer.specs.Conds.{joined, in_parens, is_apart_in_not, Phrase, phrase, in_and, in_or, phrase_step, phrase_of, cond_words}
use Rattle.scr_printer.proofs.Written.{map_map}

pub phrase-And : (spec : Data) (cs : List Cond) → phrase_of spec (And cs) ≡ phrase top.Conjunction (joined (w.Reserved k.And) (map (λ c. in_and (phrase_of spec c)) cs))
phrase-And spec cs =
    ap (phrase_of spec) (sym (rolls-And cs)) ∙ fold-roll-Cond Phrase (phrase_step spec) (layer.And cs)
    ∙ ap (λ parts. phrase top.Conjunction (joined (w.Reserved k.And) parts)) (map_map in_and (phrase_of spec) cs)

pub phrase-Or : (spec : Data) (cs : List Cond) → phrase_of spec (Or cs) ≡ phrase top.Disjunction (joined (w.Reserved k.Or) (map (λ c. in_or (phrase_of spec c)) cs))
phrase-Or spec cs =
    ap (phrase_of spec) (sym (rolls-Or cs)) ∙ fold-roll-Cond Phrase (phrase_step spec) (layer.Or cs)
    ∙ ap (λ parts. phrase top.Disjunction (joined (w.Reserved k.Or) parts)) (map_map in_or (phrase_of spec) cs)

-- ---- the words of a condition that is built so

pub compared_words : (spec : Data) (d : Cond) (l m : Expr) (relation : Relation) → d ≡ Compare l relation m
    → cond_words spec d ≡ (side_words spec l ++ w.Sign (relation_sign relation) ∷ []) ++ side_words spec m
compared_words spec d l m relation e =
    ap (cond_words spec) (e ∙ sym (rolls-Compare l relation m)) ∙ ap (λ p. p.words) (fold-roll-Cond Phrase (phrase_step spec) (layer.Compare l relation m))
    ∙ sym (append_assoc (side_words spec l) (w.Sign (relation_sign relation) ∷ []) (side_words spec m))

same_part : (spec : Data) (e x y : Cond) (t : Top) (apart : Bool) (test : Top → Bool) → x ≡ e → y ≡ e → t ≡ (phrase_of spec x).top → apart ≡ test t
    → in_parens (test (phrase_of spec e).top) (cond_words spec e) ≡ in_parens apart (cond_words spec y)
same_part spec e x y t apart test f g h i =
    ap (λ b. in_parens b (cond_words spec e)) (sym (i ∙ ap test (h ∙ ap (λ d. (phrase_of spec d).top) f))) ∙ ap (λ d. in_parens apart (cond_words spec d)) (sym g)

pub not_words : (spec : Data) (d e x y : Cond) (t : Top) (apart : Bool) → d ≡ Not e → x ≡ e → y ≡ e → t ≡ (phrase_of spec x).top → apart ≡ is_apart_in_not t
    → cond_words spec d ≡ (w.Reserved k.Not ∷ []) ++ in_parens apart (cond_words spec y)
not_words spec d e x y t apart same f g h i =
    ap (cond_words spec) (same ∙ sym (rolls-Not e)) ∙ ap (λ p. p.words) (fold-roll-Cond Phrase (phrase_step spec) (layer.Not e))
    ∙ ap (λ ws. w.Reserved k.Not ∷ ws) (same_part spec e x y t apart is_apart_in_not f g h i)

pub and_words : (spec : Data) (d : Cond) (cs xs : List Cond) → d ≡ And cs → xs ≡ cs → cond_words spec d ≡ joined (w.Reserved k.And) (map (λ c. in_and (phrase_of spec c)) xs)
and_words spec d cs xs e f = ap (cond_words spec) (e ∙ ap And (sym f)) ∙ ap (λ p. p.words) (phrase-And spec xs)

pub or_words : (spec : Data) (d : Cond) (cs xs : List Cond) → d ≡ Or cs → xs ≡ cs → cond_words spec d ≡ joined (w.Reserved k.Or) (map (λ c. in_or (phrase_of spec c)) xs)
or_words spec d cs xs e f = ap (cond_words spec) (e ∙ ap Or (sym f)) ∙ ap (λ p. p.words) (phrase-Or spec xs)

-- a member with its parentheses
pub member_words : (spec : Data) (x : Cond) (t : Top) (apart : Bool) (test : Top → Bool) → t ≡ (phrase_of spec x).top → apart ≡ test t
    → in_parens apart (cond_words spec x) ≡ in_parens (test (phrase_of spec x).top) (cond_words spec x)
member_words spec x t apart test h i = ap (λ b. in_parens b (cond_words spec x)) (i ∙ ap test h)

pub ruleset phrase_laws = (phrase-And, phrase-Or)
