-- Functions that go by number do the same as by name.
use Rattle.std.specs.Prelude.{◌≡◌, ℕ, ℤ, suc, ◌+◌, ◌<◌, Bool, true, false, cond, List, [], ◌∷◌, ◌++◌, fold, map, length, Option, Some, None, slice_get, is_some}
use Rattle.std.specs.Option.{option_and_then}
use Rattle.std.specs.Str.{bytes_eq}
use Rattle.std.proofs.Common.{refl, sym, ap, ◌∙◌, arith}
use Rattle.std.proofs.lemmas.List.Sums.{fold-append}
use Rattle.c_subset.specs.declared.stmt.CStmt.{CStmt}
use Rattle.c_subset.specs.declared.unit.CFunction.{CFunction}
use Rattle.c_subset.specs.declared.unit.CUnit.{CUnit}
use Rattle.c_subset.specs.Parts.{functions, object_names}
use Rattle.c_subset.specs.Meaning.{Objects}
use Rattle.c_subset.specs.Statements.{Calls, block_effect, bind, body_effect, with_function, no_calls}
use Rattle.c_subset.specs.Runs.{call_effect}
use Rattle.c_machine.specs.declared.code.Routine.{Routine}
use Rattle.c_machine.specs.Actions.{Reply, reply_at, actions_effect, fits, reply_of, replies_of}
use Rattle.c_machine.specs.declared.code.Resolved.{Resolved}
use Rattle.c_machine.specs.Last.{behind_one, last_place}
use Rattle.c_machine.specs.Resolved.{by_name, stmt_resolved, routine_of, no_routines, with_routine, resolved}
use Rattle.c_machine.proofs.Growing.{one_longer, get_front, get_last}
use Rattle.c_machine.proofs.LastPlace.{last_place-push}
use Rattle.c_machine.proofs.ValueLaw.{names_of}
use Rattle.c_machine.proofs.ActionLaw.{Agree, body_same}

-- ---- one function

reply_same : (calls : Calls) (names : List (List ℕ)) (replies : List Reply) → Agree calls names replies → (objects : List (List ℕ)) (body : List CStmt) (p : Option (List ℕ)) (argument : Option ℤ)
    (row : Objects)
    → cond (fits (is_some p) argument) (actions_effect replies argument (map (stmt_resolved objects names p) body) row) None
    ≡ option_and_then (λ parameter. block_effect (names_of objects parameter) calls body row) (bind p argument)
reply_same calls names replies agree objects body None None row = body_same calls names replies agree objects None body row
reply_same calls names replies agree objects body None (Some z) row = refl
reply_same calls names replies agree objects body (Some p) None row = refl
reply_same calls names replies agree objects body (Some p) (Some z) row = body_same calls names replies agree objects (Some (p, z)) body row

function_same : (calls : Calls) (names : List (List ℕ)) (replies : List Reply) → Agree calls names replies → (objects : List (List ℕ)) (f : CFunction) (argument : Option ℤ) (row : Objects)
    → reply_of replies (routine_of objects names f) argument row ≡ body_effect objects calls f argument row
function_same calls names replies agree objects f argument row = reply_same calls names replies agree objects f.body f.parameter argument row

-- ---- one function more

within_behind : (here : Bool) (n : ℕ) (o : Option ℕ) (k : ℕ) → ((j : ℕ) → o ≡ Some j → j < n) → behind_one here o ≡ Some k → k < suc n
within_behind true n None k h e = let zero_is : 0 ≡ k = cc in omega arith
within_behind false n None k h e = cc
within_behind here n (Some j) k h e = let next : suc j ≡ k = cc in let small : j < n = h j refl in omega arith

last_place_within : (names : List (List ℕ)) (name : List ℕ) (k : ℕ) → last_place names name ≡ Some k → k < length names
last_place_within [] name k e = cc
last_place_within (m ∷ names) name k e = within_behind (bytes_eq m name) (length names) (last_place names name) k (last_place_within names name) e

-- a function that is there stays where it is
earlier_stay : (replies : List Reply) (reply : Reply) (argument : Option ℤ) (row : Objects) (o : Option ℕ) → ((k : ℕ) → o ≡ Some k → k < length replies)
    → option_and_then (λ k. reply_at replies k argument row) o ≡ option_and_then (λ k. reply_at (replies ++ reply ∷ []) k argument row) o
earlier_stay replies reply argument row None h = refl
earlier_stay replies reply argument row (Some k) h =
    ap (λ (r : Option Reply). option_and_then (λ (f : Reply). f argument row) r) (sym (get_front replies (reply ∷ []) k reply (h k refl)))

-- the new one is found last
found_last : (replies : List Reply) (reply : Reply) (argument : Option ℤ) (row : Objects) (n : ℕ) → n ≡ length replies
    → reply argument row ≡ reply_at (replies ++ reply ∷ []) n argument row
found_last replies reply argument row n e =
    ap (λ (r : Option Reply). option_and_then (λ (f : Reply). f argument row) r) (sym (ap (slice_get (replies ++ reply ∷ [])) e ∙ get_last replies reply))

either_way : (replies : List Reply) (reply : Reply) (argument : Option ℤ) (row : Objects) (n : ℕ) (o : Option ℕ) (b : Bool) (body old : Option Objects)
    → n ≡ length replies → ((k : ℕ) → o ≡ Some k → k < length replies) → body ≡ reply argument row → old ≡ option_and_then (λ k. reply_at replies k argument row) o
    → cond b body old ≡ option_and_then (λ k. reply_at (replies ++ reply ∷ []) k argument row) (cond b (Some n) o)
either_way replies reply argument row n o true body old e h here there = here ∙ found_last replies reply argument row n e
either_way replies reply argument row n o false body old e h here there = there ∙ earlier_stay replies reply argument row o h

agree_more : (calls : Calls) (names : List (List ℕ)) (replies : List Reply) (objects : List (List ℕ)) (f : CFunction) → Agree calls names replies → length names ≡ length replies
    → Agree (with_function objects calls f) (names ++ f.name ∷ []) (replies ++ reply_of replies (routine_of objects names f) ∷ [])
agree_more calls names replies objects f agree e name argument row =
    let inside : (k : ℕ) → last_place names name ≡ Some k → k < length replies = λ k h. (let short : k < length names = last_place_within names name k h in omega arith) in
    either_way replies (reply_of replies (routine_of objects names f)) argument row (length names) (last_place names name) (bytes_eq f.name name)
    (body_effect objects calls f argument row) (calls name argument row) e inside (sym (function_same calls names replies agree objects f argument row)) (agree name argument row)
    ∙ ap (option_and_then (λ k. reply_at (replies ++ reply_of replies (routine_of objects names f) ∷ []) k argument row)) (sym (last_place-push names f.name name))

-- ---- all functions

-- calls by name are calls by number, and there is a name for each number
pub record Numbered (calls : Calls) (r : Resolved) : Type 0 where
  pub agree : Agree calls r.names (replies_of r.routines)
  pub same_length : length r.names ≡ length (replies_of r.routines)

replies_push : (routines : List Routine) (routine : Routine) → replies_of (routines ++ routine ∷ []) ≡ replies_of routines ++ reply_of (replies_of routines) routine ∷ []
replies_push routines routine = fold-append (λ replies routine. replies ++ reply_of replies routine ∷ []) [] routines (routine ∷ [])

numbered_more : (objects : List (List ℕ)) (calls : Calls) (r : Resolved) (f : CFunction) → Numbered calls r → Numbered (with_function objects calls f) (with_routine objects r f)
numbered_more objects calls r f h = record {
  agree = λ name argument row.
      agree_more calls r.names (replies_of r.routines) objects f h.agree h.same_length name argument row
      ∙ ap (λ (rs : List Reply). by_name (r.names ++ f.name ∷ []) rs name argument row) (sym (replies_push r.routines (routine_of objects r.names f)));
  same_length =
      one_longer r.names f.name ∙ ap (λ n. n + 1) h.same_length ∙ sym (one_longer (replies_of r.routines) (reply_of (replies_of r.routines) (routine_of objects r.names f)))
      ∙ ap length (sym (replies_push r.routines (routine_of objects r.names f)));
}

numbered_all : (objects : List (List ℕ)) (fs : List CFunction) (calls : Calls) (r : Resolved) → Numbered calls r → Numbered (fold (with_function objects) calls fs) (fold (with_routine objects) r fs)
numbered_all objects [] calls r h = h
numbered_all objects (f ∷ fs) calls r h = numbered_all objects fs (with_function objects calls f) (with_routine objects r f) (numbered_more objects calls r f h)

none_numbered : Numbered no_calls no_routines
none_numbered = record { agree = λ name argument row. refl; same_length = refl }

-- a call by name is one by number
pub call_same : (unit : CUnit) (name : List ℕ) (z : ℤ) (row : Objects)
    → call_effect unit name z row
    ≡ by_name (resolved (object_names unit) (functions unit)).names (replies_of (resolved (object_names unit) (functions unit)).routines) name (Some z) row
call_same unit name z row = (numbered_all (object_names unit) (functions unit) no_calls no_routines none_numbered).agree name (Some z) row
