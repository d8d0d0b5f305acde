use Rattle.std.proofs.Common.{◌≡◌, ◌∙◌, [], ◌∷◌, ◌++◌, refl, ap}
use Rattle.scr_tokens.specs.declared.word.Word.TheVariants as w
use Rattle.scr_tokens.specs.declared.word.Keyword.TheVariants as k
use Rattle.scr_tokens.specs.Words.{relation_sign}
use Rattle.scr_spec.specs.Shown.{data_of}
use Rattle.scr_printer.specs.Pages.{put, written}
use Rattle.scr_printer.specs.Sides.{side_words}
use Rattle.scr_printer.specs.Conds.{between, is_apart_in_and, is_apart_in_or, in_and, in_or, phrase_of}
use Rattle.scr_printer.proofs.Written.{onward, one_behind, joined_step, no_first}
use Rattle.scr_printer.proofs.Phrases.{compared_words, not_words, and_words, or_words, member_words}
use Rattle.scr_printer.proofs.cond.+conds.Goals as goal

pub put_cond-returns-in_ok-put_sign-in-Compare : goal.put_cond-returns-in_ok-put_sign-in-Compare
put_cond-returns-in_ok-put_sign-in-Compare t c =
    let sign : c.put_sign.new.self ≡ put c.put_side.new.line (w.Sign (relation_sign c.in-Compare.relation)) =
    c.in_ok-put_sign-in-Compare.ensures ∙ ap (λ sign. put c.put_side.new.line (w.Sign sign)) c.sign_of_relation.ensures in
    onward _ _ _ _ (side_words (data_of c.args.spec.now) c.in-Compare.left ++ w.Sign (relation_sign c.in-Compare.relation) ∷ []) _ _ c.put_side-in-Compare.ensures
    (one_behind c.args.line.now c.put_side.new.line c.put_sign.new.self (side_words (data_of c.args.spec.now) c.in-Compare.left) (w.Sign (relation_sign c.in-Compare.relation))
    c.in_ok-put_side-in-Compare.ensures sign)
    (compared_words (data_of c.args.spec.now) _ _ _ _ c.in-Compare.is)

pub put_cond-returns-in_ok-put_keyword-in-Not : goal.put_cond-returns-in_ok-put_keyword-in-Not
put_cond-returns-in_ok-put_keyword-in-Not t c =
    onward _ _ _ _ (w.Reserved k.Not ∷ []) _ _ c.put_part.ensures c.in_ok-put_keyword-in-Not.ensures
    (not_words (data_of c.args.spec.now) _ _ _ _ _ _ c.in-Not.is c.get.ensures c.get-in-Not.ensures (c.top_of.ensures (data_of c.args.spec.now)) c.is_apart_in_not.ensures)

pub put_cond-returns-in-And : goal.put_cond-returns-in-And
put_cond-returns-in-And t c = onward _ _ _ _ [] _ _ c.put_conjunction.ensures refl (and_words (data_of c.args.spec.now) _ _ _ c.in-And.is c.as_slice.ensures)

pub put_cond-returns-in-Or : goal.put_cond-returns-in-Or
put_cond-returns-in-Or t c = onward _ _ _ _ [] _ _ c.put_disjunction.ensures refl (or_words (data_of c.args.spec.now) _ _ _ c.in-Or.is c.as_slice-in-Or.ensures)

pub put_conjunction-loop-cond-preserved : goal.put_conjunction-loop-cond-preserved
put_conjunction-loop-cond-preserved t c = record {
  line = joined_step (w.Reserved k.And) (λ d. in_and (phrase_of (data_of c.args.spec.now) d)) c.args.conds.now c.loop-cond.cond-index c.cond-item.result _ _ _ _ c.loop-cond-test.true c.cond-item.is
      c.loop-cond.invariant.line
      (c.in_ok-put_between.ensures ∙ ap (λ first. written c.loop-cond.line (between first (w.Reserved k.And))) c.loop-cond.invariant.first)
      (c.in_ok-put_part.ensures ∙ ap (written c.put_between.new.line) (member_words (data_of c.args.spec.now) _ _ _ is_apart_in_and (c.top_of.ensures (data_of c.args.spec.now)) c.is_apart_in_and.ensures));
  first = no_first c.loop-cond.cond-index;
}

pub put_disjunction-loop-cond-preserved : goal.put_disjunction-loop-cond-preserved
put_disjunction-loop-cond-preserved t c = record {
  line = joined_step (w.Reserved k.Or) (λ d. in_or (phrase_of (data_of c.args.spec.now) d)) c.args.conds.now c.loop-cond.cond-index c.cond-item.result _ _ _ _ c.loop-cond-test.true c.cond-item.is
      c.loop-cond.invariant.line
      (c.in_ok-put_between.ensures ∙ ap (λ first. written c.loop-cond.line (between first (w.Reserved k.Or))) c.loop-cond.invariant.first)
      (c.in_ok-put_part.ensures ∙ ap (written c.put_between.new.line) (member_words (data_of c.args.spec.now) _ _ _ is_apart_in_or (c.top_of.ensures (data_of c.args.spec.now)) c.is_apart_in_or.ensures));
  first = no_first c.loop-cond.cond-index;
}
