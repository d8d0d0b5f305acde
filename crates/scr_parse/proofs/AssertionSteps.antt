-- How a line of assertions is read or refused, and the lines from there.
use Rattle.std.proofs.Common.{◌≡◌, ℕ, Bool, true, List, [], ◌∷◌, sym, subst}
use Rattle.std.specs.Prelude.{Option, None, Some}
use Rattle.scr_tokens.specs.declared.word.Token.{Token}
use Rattle.scr_tokens.specs.declared.word.Word.{Word}
use Rattle.scr_tokens.specs.declared.word.Word.TheVariants as w
use Rattle.scr_tokens.specs.declared.word.Sign.TheVariants as s
use Rattle.scr_tokens.specs.declared.word.Keyword.TheVariants as word
use Rattle.scr_tokens.specs.Tokens.{IsLexed}
use Rattle.scr_parse.specs.declared.draft.DraftCond.{DraftCond}
use Rattle.scr_parse.specs.declared.draft.DraftAssertion.{DraftAssertion}
use Rattle.scr_parse.specs.declared.place.TextKind.{TextKind}
use Rattle.scr_parse.specs.declared.place.LineFault.{LineFault}
use Rattle.scr_parse.specs.declared.place.LineFault.TheVariants as why
use Rattle.scr_parse.specs.Words.{words}
use Rattle.scr_parse.specs.Conds.{any_of, Cond}
use Rattle.scr_parse.specs.Faults.{at_line}
use Rattle.scr_parse.specs.Refusals.{Fails}
use Rattle.scr_parse.specs.Assertions.{Form, assert, Says, LineAsserts, blank, says, LineRefuses, Reads, Refused, here, LinesFail}

-- ---- the form

pub cond_to_end : {primes : Bool} {from rest : List Word} {ds : List DraftCond} → Cond primes from ds rest → rest ≡ [] → Cond primes from ds []
cond_to_end {primes} {from} {ds = ds} l e = subst (λ rest. Cond primes from ds rest) e l

pub assert_at : {from next rest : List Word} {name label : List ℕ} {ds : List DraftCond} {cond : DraftCond} → from ≡ w.Reserved word.Assert ∷ next
    → next ≡ w.Name name ∷ w.Sign s.Colon ∷ rest → label ≡ name → Cond true rest ds [] → cond ≡ any_of ds → Form from label cond
assert_at e f g l h = rw (e, f, g, h) (assert l)

-- ---- a line

pub blank_at : {before n : ℕ} {line : List ℕ} {tokens : List Token} → IsLexed line tokens → tokens ≡ [] → LineAsserts before n line None
blank_at {line = line} l e = blank (subst (λ tokens. IsLexed line tokens) e l)

pub says_at : {before n : ℕ} {line name : List ℕ} {tokens more : List Token} {cond : DraftCond} → IsLexed line tokens → more ≡ tokens → Says before (words more) name cond
    → LineAsserts before n line (Some (record { line = n; name = name; cond = cond }))
says_at {before} {name = name} {cond = cond} l e s = says l (subst (λ tokens. Says before (words tokens) name cond) e s)

-- ---- the lines

pub reads_at : {before n : ℕ} {ls ms : List (List ℕ)} {drafts : List DraftAssertion} → ls ≡ ms → Reads before n ms drafts → Reads before n ls drafts
reads_at {before} {n} {drafts = drafts} e d = subst (λ ls. Reads before n ls drafts) (sym e) d

pub refused_at : {before n m : ℕ} {ls ms : List (List ℕ)} {kind : TextKind} → ls ≡ ms → Refused before n ms m kind → Refused before n ls m kind
refused_at {before} {n} {m} {kind = kind} e d = subst (λ ls. Refused before n ls m kind) (sym e) d

pub reads_behind : {before other n : ℕ} {ls : List (List ℕ)} {drafts : List DraftAssertion} → before ≡ other → Reads before n ls drafts → Reads other n ls drafts
reads_behind {n = n} {ls} {drafts} e d = subst (λ before. Reads before n ls drafts) e d

pub refused_behind : {before other n m : ℕ} {ls : List (List ℕ)} {kind : TextKind} → before ≡ other → Refused before n ls m kind → Refused other n ls m kind
refused_behind {n = n} {m} {ls} {kind} e d = subst (λ before. Refused before n ls m kind) e d

pub asserts_behind : {before other n : ℕ} {line : List ℕ} {said : Option DraftAssertion} → before ≡ other → LineAsserts before n line said → LineAsserts other n line said
asserts_behind {n = n} {line} {said} e d = subst (λ before. LineAsserts before n line said) e d

pub fails_behind : {before other : ℕ} (line : List ℕ) (fault : LineFault) → before ≡ other → Fails (LineRefuses before line) fault → Fails (LineRefuses other line) fault
fails_behind line fault e h = subst (λ before. Fails (LineRefuses before line) fault) e h

-- lines are refused where their first one is
pub fails_at : {before n : ℕ} {line : List ℕ} {ls more all : List (List ℕ)} (fault : LineFault) → Fails (LineRefuses before line) fault → ls ≡ line ∷ more
    → ((m : ℕ) (kind : TextKind) → Refused before n ls m kind → Refused 0 1 all m kind) → LinesFail all (at_line n fault)
fails_at why.NoMemory h e onward = tt
fails_at (why.Refused kind) h e onward = onward _ kind (refused_at e (here h))
