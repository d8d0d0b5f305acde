-- The words of a condition are read as that condition.
use Rattle.std.proofs.Common.{◌≡◌, pos, suc, Bool, true, false, List, [], ◌∷◌, ◌++◌, length, map, refl, sym, ap, subst, ◌∙◌, append_assoc}
use Rattle.std.specs.Prelude.{nat_le}
use Rattle.std.specs.List.{list_all}
use Rattle.std.proofs.lemmas.Bool.{and_parts}
use Rattle.base.specs.declared.relation.Relation.{Relation}
use Rattle.scr_tokens.specs.declared.word.Word.{Word}
use Rattle.scr_tokens.specs.declared.word.Word.TheVariants as w
use Rattle.scr_tokens.specs.declared.word.Sign.TheVariants as s
use Rattle.scr_tokens.specs.declared.word.Keyword.TheVariants as k
use Rattle.scr_spec.specs.Data.{Data}
use Rattle.scr_spec.specs.declared.cond.Expr.{Expr}
use Rattle.scr_spec.specs.declared.cond.Cond.{Cond, ind-Cond, fold-roll-Cond}
use Rattle.scr_spec.specs.declared.cond.Cond.TheOpen as c
use Rattle.scr_spec.specs.declared.cond.Cond.TheFolds.{map-Cond}
use Rattle.scr_parse.specs.declared.draft.DraftOperand.{DraftOperand}
use Rattle.scr_parse.specs.declared.draft.DraftCond.{DraftCond}
use Rattle.scr_parse.specs.declared.draft.DraftCond.TheVariants as d
use Rattle.scr_tokens.specs.Words.{relation_sign}
use Rattle.scr_parse.specs.Words.{NotAt}
use Rattle.scr_parse.specs.Sides.{item_of, side, Item, reference, plain_name, no_more}
use Rattle.scr_parse.specs.Conds.{all_of, any_of, Lit, alone, compare, negated, nested, Conj, last_lit, lit_and, Cond as Joined, last_conj, conj_or}
use Rattle.scr_printer.specs.declared.cond.Top.{Top}
use Rattle.scr_printer.specs.declared.cond.Top.TheVariants as top
use Rattle.scr_printer.specs.Names.{variable_name}
use Rattle.scr_printer.specs.Sides.{truth_word, side_words}
use Rattle.scr_printer.specs.Conds.{joined, in_parens, is_apart_in_and, is_apart_in_or, is_apart_in_not, Phrase, in_and, in_or, phrase_step, phrase_of}
use Rattle.scr_roundtrip.proofs.Drafts.{draft_side, is_side_good, alone as alone_of, draft_step, draft_cond, good_step, is_cond_good}
use Rattle.scr_roundtrip.proofs.SidesRead.{ends, not_at, not_relation, ends_sum, relation_ends, side_read, truth_read}

-- ---- what the words of a condition are, by what stands at its top

-- a literal, wherever a side may end
abbrev IsLit : List Word → DraftCond → Type 0
IsLit words e = (rest : List Word) → ends rest ≡ true → Lit false (words ++ rest) e rest

-- literals with AND between them, where no AND follows
abbrev IsConj : List Word → DraftCond → Type 0
IsConj words e = (rest : List Word) → ends rest ≡ true → NotAt (w.Reserved k.And) rest → (ds : List DraftCond) × Conj false (words ++ rest) ds rest × (all_of ds ≡ e)

-- conjunctions with OR between them, where neither AND nor OR follows
abbrev IsCond : List Word → DraftCond → Type 0
IsCond words e = (rest : List Word) → ends rest ≡ true → NotAt (w.Reserved k.And) rest → NotAt (w.Reserved k.Or) rest
    → (ds : List DraftCond) × Joined false (words ++ rest) ds rest × (any_of ds ≡ e)

abbrev IsRead : Top → List Word → DraftCond → Type 0
IsRead top.Single words e = IsLit words e
IsRead top.Comparison words e = IsLit words e
IsRead top.Conjunction words e = IsConj words e
IsRead top.Disjunction words e = IsCond words e

lit_conj : (words : List Word) (e : DraftCond) → IsLit words e → IsConj words e
lit_conj words e l rest end no_and = (e ∷ [], last_lit (l rest end) no_and, refl)

conj_cond : (words : List Word) (e : DraftCond) → IsConj words e → IsCond words e
conj_cond words e l rest end no_and no_or = let c = l rest end no_and in (all_of (c.0) ∷ [], last_conj (c.1) no_or, c.2)

-- each is a condition
pub as_cond : (t : Top) (words : List Word) (e : DraftCond) → IsRead t words e → IsCond words e
as_cond top.Single words e l = conj_cond words e (lit_conj words e l)
as_cond top.Comparison words e l = conj_cond words e (lit_conj words e l)
as_cond top.Conjunction words e l = conj_cond words e l
as_cond top.Disjunction words e l = l

-- ---- parentheses

lit_at : {a b rest : List Word} {e : DraftCond} → a ≡ b → Lit false b e rest → Lit false a e rest
lit_at {rest = rest} {e = e} h l = subst (λ from. Lit false from e rest) (sym h) l

lit_as : {a rest : List Word} {e f : DraftCond} → e ≡ f → Lit false a e rest → Lit false a f rest
lit_as {a} {rest} h l = subst (λ e. Lit false a e rest) h l

pub no_and_close : (rest : List Word) → NotAt (w.Reserved k.And) (w.Sign s.CloseParen ∷ rest)
no_and_close rest more e = cc

pub no_or_close : (rest : List Word) → NotAt (w.Reserved k.Or) (w.Sign s.CloseParen ∷ rest)
no_or_close rest more e = cc

-- in parentheses a condition is a literal
in_parens_lit : (words : List Word) (e : DraftCond) → IsCond words e → IsLit (in_parens true words) e
in_parens_lit words e l rest end =
    let c = l (w.Sign s.CloseParen ∷ rest) refl (no_and_close rest) (no_or_close rest) in
    lit_at (ap (λ ws. w.Sign s.OpenParen ∷ ws) (append_assoc words (w.Sign s.CloseParen ∷ []) rest)) (lit_as (c.2) (nested (c.1)))

-- inside an And each member is a literal
and_member : (t : Top) (words : List Word) (e : DraftCond) → IsRead t words e → IsLit (in_parens (is_apart_in_and t) words) e
and_member top.Single words e l = l
and_member top.Comparison words e l = l
and_member top.Conjunction words e l = in_parens_lit words e (as_cond top.Conjunction words e l)
and_member top.Disjunction words e l = in_parens_lit words e l

-- inside an Or, and after WHEN, each is a conjunction
pub or_member : (t : Top) (words : List Word) (e : DraftCond) → IsRead t words e → IsConj (in_parens (is_apart_in_or t) words) e
or_member top.Single words e l = lit_conj words e l
or_member top.Comparison words e l = lit_conj words e l
or_member top.Conjunction words e l = l
or_member top.Disjunction words e l = lit_conj (in_parens true words) e (in_parens_lit words e l)

-- after NOT it is a literal
not_member : (t : Top) (words : List Word) (e : DraftCond) → IsRead t words e → IsLit (in_parens (is_apart_in_not t) words) e
not_member top.Single words e l = l
not_member top.Comparison words e l = in_parens_lit words e (as_cond top.Comparison words e l)
not_member top.Conjunction words e l = in_parens_lit words e (as_cond top.Conjunction words e l)
not_member top.Disjunction words e l = in_parens_lit words e l

negated_lit : (words : List Word) (e : DraftCond) → IsLit words e → IsLit (w.Reserved k.Not ∷ words) (d.Not e)
negated_lit words e l rest end = negated (l rest end)

-- ---- leaves

-- one item alone
leaf_lit : (word : Word) (operand : DraftOperand) → ((rest : List Word) → Item false (word ∷ rest) (item_of (pos 1) operand) rest) → IsLit (word ∷ []) (alone_of operand)
leaf_lit word operand i rest end =
    alone (side (i rest) (no_more (not_at (w.Sign s.Plus) rest end refl) (not_at (w.Sign s.Minus) rest end refl))) (not_relation rest end)

compared_lit : (spec : Data) (l m : Expr) (relation : Relation) → is_side_good false l ≡ true → is_side_good false m ≡ true
    → IsLit (side_words spec l ++ w.Sign (relation_sign relation) ∷ side_words spec m) (d.Compare (draft_side spec l) relation (draft_side spec m))
compared_lit spec l m relation h g rest end =
    lit_at (append_assoc (side_words spec l) (w.Sign (relation_sign relation) ∷ side_words spec m) rest)
    (compare (side_read spec false l (w.Sign (relation_sign relation) ∷ (side_words spec m ++ rest)) h (relation_ends relation (side_words spec m ++ rest))) (side_read spec false m rest g (ends_sum rest end)))

-- ---- members with AND or OR between them

-- each phrase is read as the condition at its place
abbrev Each : (Phrase → DraftCond → Type 0) → List Phrase → List DraftCond → Type 0
Each P [] [] = Unit {0}
Each P [] (e ∷ es) = ⊥
Each P (p ∷ ps) [] = ⊥
Each P (p ∷ ps) (e ∷ es) = P p e × Each P ps es

abbrev IsPhrase : Phrase → DraftCond → Type 0
IsPhrase p e = IsRead p.top p.words e

conj_at : {a b rest : List Word} {es : List DraftCond} → a ≡ b → Conj false b es rest → Conj false a es rest
conj_at {rest = rest} {es = es} h l = subst (λ from. Conj false from es rest) (sym h) l

cond_at : {a b rest : List Word} {es : List DraftCond} → a ≡ b → Joined false b es rest → Joined false a es rest
cond_at {rest = rest} {es = es} h l = subst (λ from. Joined false from es rest) (sym h) l

cond_as : {a rest : List Word} {es fs : List DraftCond} → es ≡ fs → Joined false a es rest → Joined false a fs rest
cond_as {a} {rest} h l = subst (λ es. Joined false a es rest) h l

no_and_or : (rest : List Word) → NotAt (w.Reserved k.And) (w.Reserved k.Or ∷ rest)
no_and_or rest more e = cc

and_more : (p : Phrase) (e : DraftCond) (ps : List Phrase) (es : List DraftCond) (rest : List Word) → IsPhrase p e → Each IsPhrase ps es → ends rest ≡ true
    → NotAt (w.Reserved k.And) rest → Conj false (joined (w.Reserved k.And) (map in_and (p ∷ ps)) ++ rest) (e ∷ es) rest
and_more p e [] [] rest h hs end no_and = conj_at (append_assoc (in_and p) [] rest) (last_lit (and_member p.top p.words e h rest end) no_and)
and_more p e [] (f ∷ es) rest h hs end no_and = absurd hs
and_more p e (q ∷ ps) [] rest h hs end no_and = absurd hs
and_more p e (q ∷ ps) (f ∷ es) rest h hs end no_and =
    let more = joined (w.Reserved k.And) (map in_and (q ∷ ps)) in
    conj_at (append_assoc (in_and p) (w.Reserved k.And ∷ more) rest)
    (lit_and (and_member p.top p.words e h (w.Reserved k.And ∷ (more ++ rest)) refl) (and_more q f ps es rest (hs.0) (hs.1) end no_and))

or_more : (p : Phrase) (e : DraftCond) (ps : List Phrase) (es : List DraftCond) (rest : List Word) → IsPhrase p e → Each IsPhrase ps es → ends rest ≡ true
    → NotAt (w.Reserved k.And) rest → NotAt (w.Reserved k.Or) rest → Joined false (joined (w.Reserved k.Or) (map in_or (p ∷ ps)) ++ rest) (e ∷ es) rest
or_more p e [] [] rest h hs end no_and no_or =
    let c = or_member p.top p.words e h rest end no_and in
    cond_at (append_assoc (in_or p) [] rest) (cond_as (ap (λ e. e ∷ []) (c.2)) (last_conj (c.1) no_or))
or_more p e [] (f ∷ es) rest h hs end no_and no_or = absurd hs
or_more p e (q ∷ ps) [] rest h hs end no_and no_or = absurd hs
or_more p e (q ∷ ps) (f ∷ es) rest h hs end no_and no_or =
    let more = joined (w.Reserved k.Or) (map in_or (q ∷ ps)) in
    let c = or_member p.top p.words e h (w.Reserved k.Or ∷ (more ++ rest)) refl (no_and_or _) in
    cond_at (append_assoc (in_or p) (w.Reserved k.Or ∷ more) rest)
    (cond_as (ap (λ e. e ∷ f ∷ es) (c.2)) (conj_or (c.1) (or_more q f ps es rest (hs.0) (hs.1) end no_and no_or)))

-- a list of at least two is joined
all_joined : (es : List DraftCond) → nat_le 2 (length es) ≡ true → all_of es ≡ d.And es
all_joined [] h = absurd (cc)
all_joined (e ∷ []) h = absurd (cc)
all_joined (e ∷ f ∷ es) h = refl

any_joined : (es : List DraftCond) → nat_le 2 (length es) ≡ true → any_of es ≡ d.Or es
any_joined [] h = absurd (cc)
any_joined (e ∷ []) h = absurd (cc)
any_joined (e ∷ f ∷ es) h = refl

and_read : (ps : List Phrase) (es : List DraftCond) → nat_le 2 (length es) ≡ true → Each IsPhrase ps es → IsConj (joined (w.Reserved k.And) (map in_and ps)) (d.And es)
and_read [] [] h hs rest end no_and = absurd (cc)
and_read [] (e ∷ es) h hs rest end no_and = absurd hs
and_read (p ∷ ps) [] h hs rest end no_and = absurd hs
and_read (p ∷ ps) (e ∷ es) h hs rest end no_and = (e ∷ es, and_more p e ps es rest (hs.0) (hs.1) end no_and, all_joined (e ∷ es) h)

or_read : (ps : List Phrase) (es : List DraftCond) → nat_le 2 (length es) ≡ true → Each IsPhrase ps es → IsCond (joined (w.Reserved k.Or) (map in_or ps)) (d.Or es)
or_read [] [] h hs rest end no_and no_or = absurd (cc)
or_read [] (e ∷ es) h hs rest end no_and no_or = absurd hs
or_read (p ∷ ps) [] h hs rest end no_and no_or = absurd hs
or_read (p ∷ ps) (e ∷ es) h hs rest end no_and no_or = (e ∷ es, or_more p e ps es rest (hs.0) (hs.1) end no_and no_or, any_joined (e ∷ es) h)

-- ---- a condition

-- it is read, where it has a form
abbrev IsGoodRead : Data → Cond → Type 0
IsGoodRead spec e = is_cond_good e ≡ true → IsPhrase (phrase_of spec e) (draft_cond spec e)

length_mapped : {X Y Z : Type 0} (f : X → Y) (g : X → Z) (xs : List X) → length (map f xs) ≡ length (map g xs)
length_mapped f g [] = refl
length_mapped f g (x ∷ xs) = ap suc (length_mapped f g xs)

members_read : (spec : Data) {E : Type 0} (p : E → Cond) → ((e : E) → IsGoodRead spec (p e)) → (es : List E) → list_all (λ t. t) (map is_cond_good (map p es)) ≡ true
    → Each IsPhrase (map (phrase_of spec) (map p es)) (map (draft_cond spec) (map p es))
members_read spec p each [] h = tt
members_read spec p each (e ∷ es) h =
    let parts = and_parts (is_cond_good (p e)) (list_all (λ t. t) (map is_cond_good (map p es))) h in (each e (parts.0), members_read spec p each es (parts.1))

layer_read : (spec : Data) {E : Type 0} (p : E → Cond) → ((e : E) → IsGoodRead spec (p e)) → (y : c.Cond-F E)
    → good_step (map-Cond Cond Bool is_cond_good (map-Cond E Cond p y)) ≡ true
    → IsPhrase (phrase_step spec (map-Cond Cond Phrase (phrase_of spec) (map-Cond E Cond p y))) (draft_step spec (map-Cond Cond DraftCond (draft_cond spec) (map-Cond E Cond p y)))
layer_read spec p each (c.Truth b) h = leaf_lit (truth_word b) _ (truth_read false b)
layer_read spec p each (c.Holds v) h = leaf_lit (w.Name (variable_name spec v)) _ (λ rest. reference plain_name)
layer_read spec p each (c.Compare l relation m) h =
    let parts = and_parts (is_side_good false l) (is_side_good false m) h in compared_lit spec l m relation (parts.0) (parts.1)
layer_read spec p each (c.Not e) h = negated_lit _ _ (not_member _ _ _ (each e h))
layer_read spec p each (c.And es) h =
    let parts = and_parts (nat_le 2 (length (map is_cond_good (map p es)))) (list_all (λ t. t) (map is_cond_good (map p es))) h in
    and_read _ _ (ap (nat_le 2) (length_mapped (draft_cond spec) is_cond_good (map p es)) ∙ parts.0) (members_read spec p each es (parts.1))
layer_read spec p each (c.Or es) h =
    let parts = and_parts (nat_le 2 (length (map is_cond_good (map p es)))) (list_all (λ t. t) (map is_cond_good (map p es))) h in
    or_read _ _ (ap (nat_le 2) (length_mapped (draft_cond spec) is_cond_good (map p es)) ∙ parts.0) (members_read spec p each es (parts.1))

same_read : (p q : Phrase) (e f : DraftCond) (a b : Bool) → p ≡ q → e ≡ f → a ≡ b → (b ≡ true → IsPhrase q f) → a ≡ true → IsPhrase p e
same_read p q e f a b h g i l good = subst (λ p. IsPhrase p e) (sym h) (subst (λ e. IsPhrase q e) (sym g) (l (sym i ∙ good)))

pub cond_read : (spec : Data) (e : Cond) → is_cond_good e ≡ true → IsPhrase (phrase_of spec e) (draft_cond spec e)
cond_read spec e =
    ind-Cond (IsGoodRead spec)
    (λ x y same.
    same_read _ _ _ _ _ _ (fold-roll-Cond Phrase (phrase_step spec) x) (fold-roll-Cond DraftCond (draft_step spec) x) (fold-roll-Cond Bool good_step x)
    (subst (λ z. good_step (map-Cond Cond Bool is_cond_good z) ≡ true
    → IsPhrase (phrase_step spec (map-Cond Cond Phrase (phrase_of spec) z)) (draft_step spec (map-Cond Cond DraftCond (draft_cond spec) z))) same
    (layer_read spec (λ d. d.0) (λ d. d.1) y)))
    e
