use Rattle.std.proofs.Common.{Err, ap, List, ℕ, Option}
use Rattle.std.proofs.lemmas.Result.{err_from_is_err_and}
use Rattle.cmd_work.specs.declared.status.Status.{Status}
use Rattle.cmd_work.specs.declared.status.Stop.TheVariants.{NoMemory}
use Rattle.cmd_work.specs.Load.{IsLoaded}
use Rattle.cmd_work.proofs.EndsLemmas.{Stopped-early, Stopped-writing}
use Rattle.cmd_work.proofs.TwoFilesLemmas.{base_answered, base_stopped, holds_second, answered_text}
use Rattle.cmd_work.proofs.two_files.respond_two.Goals as goal

pub returns-in_err-file-clause-stopped : goal.returns-in_err-file-clause-stopped
returns-in_err-file-clause-stopped g c =
    let p = err_from_is_err_and c.from_residual.result c.from_residual.ensures.1 in
    rw (p.1, p.2) (Stopped-early (g.S.Shelf.contents c.args.shelf.now) (g.K.Sink.written c.args.out.now)
    (λ files. g.C.TwoFiles.answers c.args.command.now (files c.args.name.now) (files c.args.second.now)) c.in_err-file.field-0.0
    (λ files. c.most_bytes.ensures.some_answer (files c.args.name.now) (files c.args.second.now)) (λ h. c.in_err-file.ensures.not_write (ap Err h)))

pub returns-in_err-first-clause-stopped : goal.returns-in_err-first-clause-stopped
returns-in_err-first-clause-stopped g c =
    let p = err_from_is_err_and c.from_residual-in_err-first.result c.from_residual-in_err-first.ensures.1 in
    rw (p.1, p.2) (Stopped-early (g.S.Shelf.contents c.args.shelf.now) (g.K.Sink.written c.args.out.now)
    (λ files. g.C.TwoFiles.answers c.args.command.now (files c.args.name.now) (files c.args.second.now)) NoMemory
    (λ files. c.most_bytes.ensures.some_answer (files c.args.name.now) (files c.args.second.now)) (λ h. cc))

pub returns-in_err-put-in-Answer-clause-stopped : goal.returns-in_err-put-in-Answer-clause-stopped
returns-in_err-put-in-Answer-clause-stopped g c =
    let p = err_from_is_err_and c.from_residual-in_err-put-in-Answer.result c.from_residual-in_err-put-in-Answer.ensures.1 in
    let first : (held : Option (List ℕ)) → IsLoaded (g.C.TwoFiles.most_bytes c.args.command.now) held c.in_ok-file.file → (second : Option (List ℕ))
    → g.C.TwoFiles.answers c.args.command.now held second c.in-Answer.text.items c.in-Answer.status =
    rw c.in-Answer.is at c.in_ok-first.ensures.exact in
    rw (p.1, p.2, c.in_err-put-in-Answer.ensures.only) (Stopped-writing (g.S.Shelf.contents c.args.shelf.now) _ _
    (λ files. g.C.TwoFiles.answers c.args.command.now (files c.args.name.now) (files c.args.second.now)) c.as_slice.result.now c.in-Answer.status
    (λ files. IsLoaded (g.C.TwoFiles.most_bytes c.args.command.now) (files c.args.name.now) c.in_ok-file.file) (rw c.most_bytes.ensures.exact at c.in_ok-file.ensures.loaded)
    (λ files loaded. rw c.as_slice.ensures.value (first (files c.args.name.now) loaded (files c.args.second.now))) c.in_err-put-in-Answer.ensures.err)

pub returns-in_ok-put-in-Answer-clause-answered : goal.returns-in_ok-put-in-Answer-clause-answered
returns-in_ok-put-in-Answer-clause-answered g c =
    let first : (held : Option (List ℕ)) → IsLoaded (g.C.TwoFiles.most_bytes c.args.command.now) held c.in_ok-file.file → (second : Option (List ℕ))
    → g.C.TwoFiles.answers c.args.command.now held second c.in-Answer.text.items c.in-Answer.status =
    rw c.in-Answer.is at c.in_ok-first.ensures.exact in
    answered_text (g.S.Shelf.contents c.args.shelf.now) _ _ c.as_slice.result.now c.in-Answer.status
    (λ files. g.C.TwoFiles.answers c.args.command.now (files c.args.name.now) (files c.args.second.now))
    (λ files. IsLoaded (g.C.TwoFiles.most_bytes c.args.command.now) (files c.args.name.now) c.in_ok-file.file) (rw c.most_bytes.ensures.exact at c.in_ok-file.ensures.loaded)
    (λ files loaded. rw c.as_slice.ensures.value (first (files c.args.name.now) loaded (files c.args.second.now))) c.in_ok-put-in-Answer.ensures.ok

pub returns-in-Base-clause-answered : goal.returns-in-Base-clause-answered
returns-in-Base-clause-answered g c =
    let base : (held : Option (List ℕ)) → IsLoaded (g.C.TwoFiles.most_bytes c.args.command.now) held c.in_ok-file.file → g.C.TwoFiles.reaches c.args.command.now held
    × ((second : Option (List ℕ)) (bytes : List ℕ) (status : Status) → g.C.TwoFiles.goes c.args.command.now c.in-Base.base second bytes status
    → g.C.TwoFiles.answers c.args.command.now held second bytes status) =
    rw c.in-Base.is at c.in_ok-first.ensures.exact in
    base_answered c.go_on.result (g.S.Shelf.contents c.args.shelf.now) _ _ c.args.name.now c.args.second.now (g.C.TwoFiles.answers c.args.command.now)
    (g.C.TwoFiles.goes c.args.command.now c.in-Base.base) (λ held. IsLoaded (g.C.TwoFiles.most_bytes c.args.command.now) held c.in_ok-file.file)
    (rw c.most_bytes.ensures.exact at c.in_ok-file.ensures.loaded) (λ held l. (base held l).1) (rw c.in_ok-file.ensures.same_contents at c.go_on.ensures.answered)

pub returns-in-Base-clause-stopped : goal.returns-in-Base-clause-stopped
returns-in-Base-clause-stopped g c =
    let base : (held : Option (List ℕ)) → IsLoaded (g.C.TwoFiles.most_bytes c.args.command.now) held c.in_ok-file.file → g.C.TwoFiles.reaches c.args.command.now held
    × ((second : Option (List ℕ)) (bytes : List ℕ) (status : Status) → g.C.TwoFiles.goes c.args.command.now c.in-Base.base second bytes status
    → g.C.TwoFiles.answers c.args.command.now held second bytes status) =
    rw c.in-Base.is at c.in_ok-first.ensures.exact in
    base_stopped c.go_on.result (g.S.Shelf.contents c.args.shelf.now) _ _ c.args.name.now c.args.second.now (g.C.TwoFiles.answers c.args.command.now)
    (g.C.TwoFiles.goes c.args.command.now c.in-Base.base) (λ held. IsLoaded (g.C.TwoFiles.most_bytes c.args.command.now) held c.in_ok-file.file)
    (rw c.most_bytes.ensures.exact at c.in_ok-file.ensures.loaded) (λ held l. (base held l).1) (rw c.in_ok-file.ensures.same_contents at c.go_on.ensures.stopped)

pub returns-in-Base-clause-succeeds : goal.returns-in-Base-clause-succeeds
returns-in-Base-clause-succeeds g c steady first later =
    let base : (held : Option (List ℕ)) → IsLoaded (g.C.TwoFiles.most_bytes c.args.command.now) held c.in_ok-file.file → g.C.TwoFiles.reaches c.args.command.now held
    × ((second : Option (List ℕ)) (bytes : List ℕ) (status : Status) → g.C.TwoFiles.goes c.args.command.now c.in-Base.base second bytes status
    → g.C.TwoFiles.answers c.args.command.now held second bytes status) =
    rw c.in-Base.is at c.in_ok-first.ensures.exact in
    c.go_on.ensures.succeeds (c.in_ok-file.ensures.steady_on steady)
    (rw c.in_ok-file.ensures.same_contents (holds_second (g.S.Shelf.contents c.args.shelf.now) c.args.name.now c.args.second.now
    (λ held. IsLoaded (g.C.TwoFiles.most_bytes c.args.command.now) held c.in_ok-file.file) (g.C.TwoFiles.reaches c.args.command.now)
    (rw c.most_bytes.ensures.exact at c.in_ok-file.ensures.loaded) (λ held l. (base held l).0) first later))
