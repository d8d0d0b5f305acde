-- What stands while the lines of a file are answered, and how that ends.
use Rattle.std.proofs.Common.{◌≡◌, ℕ, ◌+◌, ◌-◌, ◌<◌, ◌≤◌, List, [], ◌++◌, length, take, drop, Option, None, Some, IfSome, Result, Ok, Err, OnOk, refl, sym, ap, subst, ◌∙◌, arith, length-drop}
use Rattle.std.proofs.Math.Seq.{drop-append_seam}
use Rattle.std.proofs.lemmas.List.{take-append-drop, append_assoc, append-nil, length-append}
use Rattle.std.specs.Io.KnownBytes.{Appends}
use Rattle.std.proofs.KnownBytes.{Appends-nil, Appends-trans}
use Rattle.base_io.specs.Outside.{AppendsPart}
use Rattle.base_io.specs.declared.lines.Piece.{Piece}
use Rattle.base_io.specs.declared.lines.Piece.TheVariants.{Line}
use Rattle.base_io.specs.Line.{LinesState, HandsOut, next_piece}
use Rattle.base.specs.Ends.{line_with_end, without_end}
use Rattle.cmd_work.specs.declared.status.Status.{Status}
use Rattle.cmd_work.specs.declared.status.Stop.{Stop}
use Rattle.cmd_work.specs.declared.status.Stop.TheVariants.{Read, Write, NoMemory}
use Rattle.cmd_work.specs.Ends.{IsFront, HasFront, IsProperFront, IsPart, Answered, Stopped}
use Rattle.cmd_work.specs.Session.{Answering, IsAnswered, GoesOn, IsLast, IsClosed, AnswersLine, behind, first_line}
use Rattle.cmd_work.specs.Walk.{ToCome, Leads, rest_of, room_of, HasGone, HasEnded, IsTurn, MovesOn, IsUnder}

-- ---- one line

-- what is behind the line that was handed out
behind_is : (raw ahead less rest : List ℕ) → raw ≡ line_with_end rest → (raw ++ ahead) ++ less ≡ rest → behind rest ≡ ahead ++ less
behind_is raw ahead less rest first whole =
    let there : drop (length raw) rest ≡ ahead ++ less =
    subst (λ r. drop (length raw) r ≡ ahead ++ less) (sym (append_assoc raw ahead less) ∙ whole) (drop-append_seam raw (ahead ++ less)) in
    rw (sym first) there

leads_on : (old new : Answering) (number : ℕ) (a b : LinesState) (x y : Option (List ℕ)) (line before after : List ℕ)
    → (h : HandsOut a b x y) → IfSome x (λ more. Line ≡ next_piece (a.limit - a.given) (a.ahead ++ more)) → without_end h.raw ≡ line
    → (g : GoesOn old new number line before after)
    → Leads (old number (room_of a)) (new (number + 1) (room_of b)) (rest_of a x) (rest_of b y) g.text
leads_on old new number a b None y line before after h next is g = tt
leads_on old new number a b (Some more) None line before after h next is g = absurd h.rest
leads_on old new number a b (Some more) (Some less) line before after h next is g =
    let rest = a.ahead ++ more in
    let there : behind rest ≡ b.ahead ++ less = behind_is h.raw b.ahead less rest h.first h.rest in
    let room : (a.limit - a.given) - length (line_with_end rest) ≡ b.limit - b.given = rw (sym h.first, h.limit, h.given) (omega arith) in
    λ tail status later. g.leads (a.limit - a.given) rest tail status (sym next) (ap without_end (sym h.first) ∙ is) (rw (there, room) later)

pub gone : (old new : Answering) (number : ℕ) (a b : LinesState) (x y : Option (List ℕ)) (line before after : List ℕ)
    → HandsOut a b x y → IfSome x (λ more. Line ≡ next_piece (a.limit - a.given) (a.ahead ++ more)) → b.line ≡ Some line
    → b.given ≤ b.limit → GoesOn old new number line before after → HasGone old new number a b x y before after
gone old new number a b x y line before after h next held within g =
    let same : Some (without_end h.raw) ≡ Some line = sym h.line ∙ held in
    let is : without_end h.raw ≡ line = cc in
    let some = h.some in
    record {
      text = g.text;
      appended = g.appended;
      leads = leads_on old new number a b x y line before after h next is g;
      some = g.some;
      live = h.live;
      given = rw h.given (omega (arith, some));
      within = within;
      limit = h.limit;
    }

ends_by : (old : Answering) (number : ℕ) (a b : LinesState) (x y : Option (List ℕ)) (line text : List ℕ) (status : Status)
    → (h : HandsOut a b x y) → IfSome x (λ more. Line ≡ next_piece (a.limit - a.given) (a.ahead ++ more)) → without_end h.raw ≡ line
    → ((room : ℕ) (rest : List ℕ) → next_piece room rest ≡ Line → first_line rest ≡ line → old number room rest text status)
    → IfSome (rest_of a x) (λ rest. old number (room_of a) rest text status)
ends_by old number a b None y line text status h next is answers = tt
ends_by old number a b (Some more) y line text status h next is answers =
    answers (a.limit - a.given) (a.ahead ++ more) (sym next) (ap without_end (sym h.first) ∙ is)

pub last : (old : Answering) (number : ℕ) (a b : LinesState) (x y : Option (List ℕ)) (line before after : List ℕ) (status : Status)
    → HandsOut a b x y → IfSome x (λ more. Line ≡ next_piece (a.limit - a.given) (a.ahead ++ more)) → b.line ≡ Some line
    → IsLast old number line before after status → HasEnded old number a x before after status
last old number a b x y line before after status h next held g =
    let same : Some (without_end h.raw) ≡ Some line = sym h.line ∙ held in
    let is : without_end h.raw ≡ line = cc in
    record { text = g.text; appended = g.appended; answers = ends_by old number a b x y line g.text status h next is g.answers; own = g.own }

closes_by : (old : Answering) (number : ℕ) (a : LinesState) (x : Option (List ℕ)) (piece : Piece) (text : List ℕ) (status : Status)
    → IfSome x (λ more. piece ≡ next_piece (a.limit - a.given) (a.ahead ++ more))
    → ((room : ℕ) (rest : List ℕ) → next_piece room rest ≡ piece → old number room rest text status)
    → IfSome (rest_of a x) (λ rest. old number (room_of a) rest text status)
closes_by old number a None piece text status next answers = tt
closes_by old number a (Some more) piece text status next answers = answers (a.limit - a.given) (a.ahead ++ more) (sym next)

pub closed : (old : Answering) (number : ℕ) (a : LinesState) (x : Option (List ℕ)) (piece : Piece) (before after : List ℕ) (status : Status)
    → IfSome x (λ more. piece ≡ next_piece (a.limit - a.given) (a.ahead ++ more)) → IsClosed old number piece before after status
    → HasEnded old number a x before after status
closed old number a x piece before after status next g =
    record { text = g.text; appended = g.appended; answers = closes_by old number a x piece g.text status next g.answers; own = g.own }

pub turned : (old new : Answering) (number : ℕ) (a b : LinesState) (x y : Option (List ℕ)) (line before after : List ℕ) (o : Option Status)
    → HandsOut a b x y → IfSome x (λ more. Line ≡ next_piece (a.limit - a.given) (a.ahead ++ more)) → b.line ≡ Some line → b.given ≤ b.limit
    → AnswersLine old new number line before after o → IsTurn old new number a b x y before after o
turned old new number a b x y line before after None h next held within g = gone old new number a b x y line before after h next held within g
turned old new number a b x y line before after (Some status) h next held within g = last old number a b x y line before after status h next held g

-- ---- many lines

leads_start : (whole : ToCome) (first : Option (List ℕ)) → Leads whole whole first first []
leads_start whole None = tt
leads_start whole (Some rest) = λ more status later. later

pub under_start : (written : Option (List ℕ)) (whole : ToCome) (first : Option (List ℕ)) → IsUnder written written [] whole whole first first
under_start written whole first = record { done = []; appended = Appends-nil written; leads = leads_start whole first }

pub under_moved : (old mid new : Option (List ℕ)) (before after : List ℕ) (whole later : ToCome) (first rest : Option (List ℕ))
    → IsUnder old mid before whole later first rest → MovesOn mid new before after → IsUnder old new after whole later first rest
under_moved old mid new before after whole later first rest u m = record {
  done = u.done ++ m.front;
  appended = Appends-trans old mid new u.done m.front u.appended m.appended;
  leads = subst (Leads whole later first rest) (ap (λ b. u.done ++ b) m.rest ∙ sym (append_assoc u.done m.front after)) u.leads;
}

leads_more : (whole mid later : ToCome) (first rest less : Option (List ℕ)) (bytes text : List ℕ)
    → Leads whole mid first rest bytes → Leads mid later rest less text → Leads whole later first less (bytes ++ text)
leads_more whole mid later None rest less bytes text a b = tt
leads_more whole mid later (Some f) None less bytes text a b = absurd a
leads_more whole mid later (Some f) (Some r) None bytes text a b = absurd b
leads_more whole mid later (Some f) (Some r) (Some l) bytes text a b =
    λ more status h. rw (append_assoc bytes text more) (a (text ++ more) status (b more status h))

pub under_gone : (old now : Option (List ℕ)) (before after : List ℕ) (whole : ToCome) (was is : Answering) (number : ℕ) (a b : LinesState) (x y first : Option (List ℕ))
    → IsUnder old now before whole (was number (room_of a)) first (rest_of a x) → HasGone was is number a b x y before after
    → IsUnder old now after whole (is (number + 1) (room_of b)) first (rest_of b y)
under_gone old now before after whole was is number a b x y first u g = record {
  done = u.done;
  appended = u.appended;
  leads = subst (Leads whole (is (number + 1) (room_of b)) first (rest_of b y))
      (append_assoc u.done before g.text ∙ ap (λ t. u.done ++ t) (sym g.appended))
      (leads_more whole (was number (room_of a)) (is (number + 1) (room_of b)) first (rest_of a x) (rest_of b y) (u.done ++ before) g.text u.leads g.leads);
}

-- where the rest is told, these bytes are the front of an answer to it
abbrev pub IsAhead : ToCome → Option (List ℕ) → List ℕ → Type 0
IsAhead whole first bytes = IfSome first (λ rest. HasFront (whole rest) bytes)

ahead_by : (whole later : ToCome) (first rest : Option (List ℕ)) (bytes : List ℕ) → Leads whole later first rest bytes → ((less : List ℕ) → HasFront (later less) [])
    → IsAhead whole first bytes
ahead_by whole later None rest bytes leads some = tt
ahead_by whole later (Some f) None bytes leads some = absurd leads
ahead_by whole later (Some f) (Some r) bytes leads some =
    let s = some r in
    (s.0, s.1, leads s.0 s.1 s.2)

front_less : (answers : List ℕ → Status → Type 0) (bytes text : List ℕ) → HasFront answers (bytes ++ text) → HasFront answers bytes
front_less answers bytes text front = (text ++ front.0, front.1, rw (sym (append_assoc bytes text front.0)) front.2)

pub front_of : (answers : List ℕ → Status → Type 0) (bytes : List ℕ) → HasFront answers bytes → IsFront answers bytes
front_of answers bytes front none = none front.0 front.1 front.2

pub proper_less : (answers : List ℕ → Status → Type 0) (bytes text : List ℕ) (count : ℕ) → count < length text → HasFront answers (bytes ++ text)
    → IsProperFront answers (bytes ++ take count text)
proper_less answers bytes text count less front =
    let more = front.0 in
    let whole : (bytes ++ take count text) ++ (drop count text ++ more) ≡ (bytes ++ text) ++ more =
    append_assoc bytes (take count text) (drop count text ++ more) ∙ ap (λ t. bytes ++ t) (sym (append_assoc (take count text) (drop count text) more) ∙ ap (λ t. t ++ more) (take-append-drop count text)) ∙ sym (append_assoc bytes text more) in
    (drop count text ++ more, front.1, longer count text more less, rw whole front.2)
  where
    longer : (count : ℕ) (text more : List ℕ) → count < length text → 0 < length (drop count text ++ more)
    longer count text more less = omega (arith, length-drop count text, length-append (drop count text) more)

pub part_of : (answers : List ℕ → Status → Type 0) (stop : Stop) (bytes : List ℕ) → HasFront answers bytes → (stop ≡ Write → ⊥) → IsPart answers stop bytes
part_of answers Read bytes front other = front_of answers bytes front
part_of answers Write bytes front other = absurd (other refl)
part_of answers NoMemory bytes front other = front_of answers bytes front

-- it stopped with nothing more written
pub stopped_ahead : (old new : Option (List ℕ)) (whole : ToCome) (first : Option (List ℕ)) (done pending : List ℕ) (stop : Stop)
    → Appends old new done → IsAhead whole first (done ++ pending) → (stop ≡ Write → ⊥) → Stopped first old new whole stop
stopped_ahead old new whole None done pending stop put ahead other = tt
stopped_ahead old new whole (Some f) done pending stop put ahead other =
    (done, put, part_of (whole f) stop done (front_less (whole f) done pending ahead) other)

pub stopped_writing : (old mid new : Option (List ℕ)) (whole : ToCome) (first : Option (List ℕ)) (done pending : List ℕ)
    → Appends old mid done → AppendsPart mid new pending → IsAhead whole first (done ++ pending) → Stopped first old new whole Write
stopped_writing old mid new whole None done pending put part ahead = tt
stopped_writing old mid new whole (Some f) done pending put part ahead =
    (done ++ take part.count pending, Appends-trans old mid new done (take part.count pending) put part.appended, proper_less (whole f) done pending part.count part.proper ahead)

-- under way
pub under_ahead : (old now : Option (List ℕ)) (pending : List ℕ) (whole : ToCome) (was : Answering) (number room : ℕ) (first rest : Option (List ℕ))
    → (u : IsUnder old now pending whole (was number room) first rest) → IsAnswered was → IsAhead whole first (u.done ++ pending)
under_ahead old now pending whole was number room first rest u some =
    ahead_by whole (was number room) first rest (u.done ++ pending) u.leads (λ less. some number room less)

-- at the end
answer_by : (whole later : ToCome) (first rest : Option (List ℕ)) (bytes text : List ℕ) (status : Status) → Leads whole later first rest bytes
    → IfSome rest (λ r. later r text status) → IfSome first (λ f. whole f (bytes ++ text) status)
answer_by whole later None rest bytes text status leads h = tt
answer_by whole later (Some f) None bytes text status leads h = absurd leads
answer_by whole later (Some f) (Some r) bytes text status leads h = leads text status h

pub under_ended : (old now : Option (List ℕ)) (before after : List ℕ) (whole : ToCome) (was : Answering) (number : ℕ) (a : LinesState) (x first : Option (List ℕ)) (status : Status)
    → (u : IsUnder old now before whole (was number (room_of a)) first (rest_of a x)) → HasEnded was number a x before after status
    → IfSome first (λ f. whole f (u.done ++ after) status)
under_ended old now before after whole was number a x first status u e =
    subst (λ b. IfSome first (λ f. whole f b status)) (append_assoc u.done before e.text ∙ ap (λ t. u.done ++ t) (sym e.appended))
    (answer_by whole (was number (room_of a)) first (rest_of a x) (u.done ++ before) e.text status u.leads e.answers)

ended_ahead : (whole : ToCome) (first : Option (List ℕ)) (bytes : List ℕ) (status : Status) → IfSome first (λ f. whole f bytes status) → IsAhead whole first bytes
ended_ahead whole None bytes status h = tt
ended_ahead whole (Some f) bytes status h = ([], status, rw (append-nil bytes) h)

pub answered : (old mid new : Option (List ℕ)) (whole : ToCome) (first : Option (List ℕ)) (done pending : List ℕ) (status : Status)
    → Appends old mid done → Appends mid new pending → IfSome first (λ f. whole f (done ++ pending) status) → Answered first old new whole status
answered old mid new whole None done pending status put also h = tt
answered old mid new whole (Some f) done pending status put also h = (done ++ pending, Appends-trans old mid new done pending put also, h)

pub ended_writing : (old mid new : Option (List ℕ)) (whole : ToCome) (first : Option (List ℕ)) (done pending : List ℕ) (status : Status)
    → Appends old mid done → AppendsPart mid new pending → IfSome first (λ f. whole f (done ++ pending) status) → Stopped first old new whole Write
ended_writing old mid new whole first done pending status put part h =
    stopped_writing old mid new whole first done pending put part (ended_ahead whole first (done ++ pending) status h)

-- all that was pending was written, or nothing
pub moved_all : {T E : Type 0} (r : Result T E) (old new : Option (List ℕ)) (before after : List ℕ) → OnOk r (Appends old new before) → OnOk r (after ≡ [])
    → OnOk r (MovesOn old new before after)
moved_all (Ok x) old new before after put none = record { front = before; appended = put; rest = sym (ap (λ a. before ++ a) none ∙ append-nil before) }
moved_all (Err e) old new before after put none = tt

pub moved_none : (old : Option (List ℕ)) (before : List ℕ) → MovesOn old old before before
moved_none old before = record { front = []; appended = Appends-nil old; rest = refl }
