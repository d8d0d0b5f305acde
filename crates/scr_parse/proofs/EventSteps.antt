-- Events, one step of reading at a time.
use Rattle.std.proofs.Common.{◌≡◌, ℕ, false, List, ◌∷◌, Some, None, sym, subst, ◌∙◌}
use Rattle.scr_tokens.specs.declared.word.Word.{Word}
use Rattle.scr_tokens.specs.declared.word.Word.TheVariants as w
use Rattle.scr_tokens.specs.declared.word.Sign.TheVariants as s
use Rattle.scr_tokens.specs.declared.word.Keyword.TheVariants as k
use Rattle.scr_parse.specs.declared.draft.DraftCond.{DraftCond}
use Rattle.scr_parse.specs.declared.draft.DraftChange.{DraftChange}
use Rattle.scr_parse.specs.declared.draft.DraftChange.TheVariants as change
use Rattle.scr_parse.specs.declared.draft.DraftPrim.{DraftPrim}
use Rattle.scr_parse.specs.Conds.{all_of, any_of, Conj, Cond}
use Rattle.scr_parse.specs.Events.{prim_of, Change, becomes, ceases, changes, Prim, never, unguarded, guarded, Event, last_prim, prim_or}
use Rattle.scr_parse.proofs.Once.{behind, conj_from, change_once, prim_once, event_from}

change_to : {from a b : List Word} {d : DraftChange} → Change from d a → a ≡ b → Change from d b
change_to {from} {d = d} l e = subst (λ rest. Change from d rest) e l

pub prim_to : {from a b : List Word} {p : DraftPrim} → Prim from p a → a ≡ b → Prim from p b
prim_to {from} {p = p} l e = subst (λ rest. Prim from p rest) e l

-- ---- changes

pub becomes_at : {from after next rest : List Word} {ds : List DraftCond} {d : DraftCond} → from ≡ w.Sign s.AtT ∷ after → after ≡ w.Sign s.OpenParen ∷ next
    → Cond false next ds (w.Sign s.CloseParen ∷ rest) → d ≡ any_of ds → Change from (change.Becomes d) rest
becomes_at e f l g = rw (e, f, g) (becomes l)

pub ceases_at : {from after next rest : List Word} {ds : List DraftCond} {d : DraftCond} → from ≡ w.Sign s.AtF ∷ after → after ≡ w.Sign s.OpenParen ∷ next
    → Cond false next ds (w.Sign s.CloseParen ∷ rest) → d ≡ any_of ds → Change from (change.Ceases d) rest
ceases_at e f l g = rw (e, f, g) (ceases l)

pub changes_at : {from after rest : List Word} {name copied : List ℕ} → from ≡ w.Sign s.AtC ∷ after
    → after ≡ w.Sign s.OpenParen ∷ w.Name name ∷ w.Sign s.CloseParen ∷ rest → copied ≡ name → Change from (change.Changes copied) rest
changes_at e f g = rw (e, f, g) changes

-- ---- primitive events

pub never_at : {from rest : List Word} → from ≡ w.Reserved k.Never ∷ rest → Prim from (prim_of change.Never None) rest
never_at e = rw e never

pub guarded_at : {from after next rest : List Word} {d : DraftChange} {ds : List DraftCond} {guard : DraftCond} → Change from d after → after ≡ w.Reserved k.When ∷ next
    → Conj false next ds rest → guard ≡ all_of ds → Prim from (prim_of d (Some guard)) rest
guarded_at l e m f = rw f (guarded (change_to l e) m)

-- behind a change and WHEN there is a condition
pub behind_when : {from after next rest : List Word} {d : DraftChange} {p : DraftPrim} → Change from d after → after ≡ w.Reserved k.When ∷ next → Prim from p rest
    → (ds : List DraftCond) × Conj false next ds rest
behind_when l e never = elim l [ ]
behind_when l e (unguarded m g) = let f = change_once l m in absurd (g _ (sym f.1 ∙ e))
behind_when l e (guarded m ms) = let f = change_once l m in (_, conj_from (behind (sym e ∙ f.1)) ms)

-- ---- OR

pub first_prim : {from end : List Word} {ps : List DraftPrim} → Event from ps end → (p : DraftPrim) × (rest : List Word) × Prim from p rest
first_prim (last_prim l h) = (_, _, l)
first_prim (prim_or l ls) = (_, _, l)

pub after_prim : {from after next end : List Word} {p : DraftPrim} {ps : List DraftPrim} → Prim from p after → after ≡ w.Reserved k.Or ∷ next → Event from ps end
    → (qs : List DraftPrim) × Event next qs end
after_prim l e (last_prim m h) = let f = prim_once l m in absurd (h _ (sym f.1 ∙ e))
after_prim l e (prim_or m ms) = let f = prim_once l m in (_, event_from (behind (sym e ∙ f.1)) ms)
