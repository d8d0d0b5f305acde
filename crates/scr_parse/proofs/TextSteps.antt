-- How a line is read or refused, and the lines from there.
use Rattle.std.proofs.Common.{◌≡◌, ℕ, List, [], ◌∷◌, length, ◌==◌, true, eqb-true, refl, sym, subst, arith}
use Rattle.std.specs.Prelude.{Option, None, Some}
use Rattle.scr_tokens.specs.declared.word.Token.{Token}
use Rattle.base.specs.Lines.{lines}
use Rattle.scr_tokens.specs.Tokens.{IsLexed}
use Rattle.scr_parse.specs.declared.draft.Statement.{Statement}
use Rattle.scr_parse.specs.declared.draft.Numbered.{Numbered}
use Rattle.scr_parse.specs.declared.place.Position.{Position}
use Rattle.scr_parse.specs.declared.place.TextKind.{TextKind}
use Rattle.scr_parse.specs.declared.place.LineFault.{LineFault}
use Rattle.scr_parse.specs.declared.place.LineFault.TheVariants as why
use Rattle.scr_parse.specs.Words.{words}
use Rattle.scr_parse.specs.Limits.{is_count_within}
use Rattle.scr_parse.specs.Faults.{at_line}
use Rattle.scr_parse.specs.Refusals.{Fails}
use Rattle.scr_parse.specs.Text.{Says, LineReads, blank, says, LineRefuses, Reads, Refused, here, start, LinesFail}

pub blank_at : {position : Position} {line : List ℕ} {tokens : List Token} → IsLexed line tokens → tokens ≡ [] → LineReads position line None position
blank_at {line = line} l e = blank (subst (λ tokens. IsLexed line tokens) e l)

pub says_at : {position next : Position} {line : List ℕ} {tokens more : List Token} {statement : Statement} → IsLexed line tokens → more ≡ tokens
    → Says position (words more) statement next → LineReads position line (Some statement) next
says_at {position} {next} {statement = statement} l e s = says l (subst (λ tokens. Says position (words tokens) statement next) e s)

-- the counts behind a line that is read are within their limits
pub within_after : {position next : Position} {line : List ℕ} {a : Option Statement} → LineReads position line a next → is_count_within position.counts ≡ true
    → is_count_within next.counts ≡ true
within_after (blank l) h = h
within_after (says l s) h = s.count_within

pub no_bytes : (text : List ℕ) → true ≡ (length text == 0) → lines text ≡ []
no_bytes [] h = refl
no_bytes (b ∷ text) h = let e : length (b ∷ text) ≡ 0 = eqb-true (length (b ∷ text)) 0 (sym h) in absurd (omega arith)

pub reads_at : {position last : Position} {n : ℕ} {ls ms : List (List ℕ)} {draft : List Numbered} → ls ≡ ms → Reads position n ms draft last → Reads position n ls draft last
reads_at {position} {last} {n} {draft = draft} e d = subst (λ ls. Reads position n ls draft last) (sym e) d

pub refused_at : {position : Position} {n m : ℕ} {ls ms : List (List ℕ)} {kind : TextKind} → ls ≡ ms → Refused position n ms m kind → Refused position n ls m kind
refused_at {position} {n} {m} {kind = kind} e d = subst (λ ls. Refused position n ls m kind) (sym e) d

-- lines are refused where their first one is
pub fails_at : {position : Position} {n : ℕ} {line : List ℕ} {ls more all : List (List ℕ)} (fault : LineFault) → Fails (LineRefuses position line) fault → ls ≡ line ∷ more
    → ((m : ℕ) (kind : TextKind) → Refused position n ls m kind → Refused start 1 all m kind) → LinesFail all (at_line n fault)
fails_at why.NoMemory h e onward = tt
fails_at (why.Refused kind) h e onward = onward _ kind (refused_at e (here h))
