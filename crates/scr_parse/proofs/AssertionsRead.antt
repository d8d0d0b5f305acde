-- The assertions that are read are readable, and no more than may be.
use Rattle.std.proofs.Common.{◌≡◌, ℕ, ◌+◌, ◌≤◌, true, ◌&&◌, List, ◌∷◌, length, refl, arith}
use Rattle.std.specs.List.{list_all}
use Rattle.scr_tokens.specs.declared.word.Token.{Token}
use Rattle.scr_tokens.specs.declared.word.Word.{Word}
use Rattle.scr_tokens.specs.declared.word.Word.TheVariants as w
use Rattle.scr_tokens.specs.declared.word.Sign.TheVariants as s
use Rattle.scr_tokens.specs.Tokens.{IsLexed}
use Rattle.scr_spec.proofs.Passing.{and_true}
use Rattle.scr_spec.specs.NameSpace.{is_name}
use Rattle.scr_parse.specs.declared.draft.DraftCond.{DraftCond}
use Rattle.scr_parse.specs.declared.draft.DraftAssertion.{DraftAssertion}
use Rattle.scr_parse.specs.Words.{words}
use Rattle.scr_parse.specs.Limits.{is_cond_within}
use Rattle.scr_parse.specs.Readable.{is_cond_spelt}
use Rattle.scr_parse.specs.Assertions.{Form, assert, Says, blank, says, Reads, no_line, line_more, is_assertion_readable, AssertsReadable}
use Rattle.scr_parse.proofs.ReadableParts.{AreSmall, first, behind, any_spelt, cond_small}
use Rattle.scr_parse.proofs.ReadableTexts.{tokens_small}

form_small : {n : ℕ} {from : List Word} {name : List ℕ} {cond : DraftCond} → Form from name cond → AreSmall n from → (is_name name ≡ true) × (is_cond_spelt true cond ≡ true)
form_small (assert {name = name} {from = from} {ds = ds} l) k =
    let rest = behind k in
    (first (w.Name name) (w.Sign s.Colon ∷ from) rest, any_spelt true ds (cond_small l (behind (behind rest))).0)

line_readable : {before : ℕ} {line name : List ℕ} {tokens : List Token} {cond : DraftCond} → IsLexed line tokens → Says before (words tokens) name cond
    → (is_name name && is_cond_within cond && is_cond_spelt true cond) ≡ true
line_readable {name = name} {cond = cond} l s =
    let small = form_small s.form (tokens_small l s.line_within) in
    and_true (is_name name && is_cond_within cond) (is_cond_spelt true cond) (and_true (is_name name) (is_cond_within cond) small.0 s.within) small.1

each : {before n : ℕ} {ls : List (List ℕ)} {drafts : List DraftAssertion} → Reads before n ls drafts → list_all is_assertion_readable drafts ≡ true
each no_line = refl
each (line_more (blank l) more) = each more
each (line_more {drafts = drafts} (says {name = name} {cond = cond} l s) more) =
    and_true (is_name name && is_cond_within cond && is_cond_spelt true cond) (list_all is_assertion_readable drafts) (line_readable l s) (each more)

few : {before n : ℕ} {ls : List (List ℕ)} {drafts : List DraftAssertion} → Reads before n ls drafts → before ≤ 64 → before + length drafts ≤ 64
few no_line h = omega (arith, h)
few (line_more (blank l) more) h = let rest = few more (omega (arith, h)) in omega (arith, rest)
few (line_more (says l s) more) h = let rest = few more (omega (arith, s.few)) in omega (arith, rest)

pub asserts_readable : AssertsReadable
asserts_readable = record {
  each = λ text drafts r. each r.lines;
  few = λ text drafts r. let all = few r.lines (omega arith) in omega (arith, all);
}
