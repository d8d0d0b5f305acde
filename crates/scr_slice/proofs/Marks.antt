-- Marks on variables, and what is marked next.
use Rattle.std.proofs.Common.{◌≡◌, ℕ, zero, suc, ◌+◌, ◌<◌, ◌≤◌, Bool, true, false, cond, not, List, [], ◌∷◌, ◌++◌, length, take, get_or, set, refl, sym, ap, subst, arith, inl, inr, ◌∙◌}
use Rattle.std.specs.Prelude.{nat_eq, Some, None, find}
use Rattle.std.specs.Option.{option_map_or}
use Rattle.std.specs.List.{AllPairs}
use Rattle.std.proofs.lemmas.Bool.{cases_eq, cases_lt, false≢true, both_ways, eq-eqb, eqb-true, or_left, or_right, or_cases}
use Rattle.std.proofs.lemmas.List.{get_or_past, get_or-set_same, get_or-set_other, length-set}
use Rattle.std.proofs.lemmas.List.FromFn.{map-range_with_len_more, get_or-map-range_with_len, length-map-range_with_len}
use Rattle.scr_spec.specs.Data.{Data}
use Rattle.scr_spec.specs.declared.table.Table.{Table}
use Rattle.scr_spec.specs.Relations.{table_of}
use Rattle.scr_spec.specs.Sound.{IsSound}
use Rattle.scr_spec.proofs.Below.{passing, passing_push, passing_kept}
use Rattle.scr_depend.specs.Graphs.{is_among}
use Rattle.scr_depend.specs.Marks.{is_marked}
use Rattle.scr_depend.proofs.Count.{count_below, count_below_lt}
use Rattle.scr_depend.proofs.Places.{none_among}
use Rattle.scr_depend.proofs.Numbers.{passing_member, member_passing, passing_rises}
use Rattle.scr_depend.proofs.Rows.{is_marked_past}
use Rattle.scr_slice.specs.Mentions.{table_mentions, mentions_in}
use Rattle.scr_slice.specs.Slices.{AreKept}
use Rattle.scr_slice.specs.Marks.{mentions_below, mention_list, lists_below, mention_lists, list_at, lists_mention, AreWithin, named_below, marked_below, next_of, IsNextMark, IsSpreading, IsSpread}
use Rattle.scr_slice.proofs.Declared.{mentioned_within}

-- ---- lists, one number more at a time

pub mentions_first : (table : Table) → mentions_below 0 table ≡ []
unfolding mentions_below
mentions_first table = refl

pub mentions_push : (n : ℕ) (table : Table) → table_mentions n table ≡ true → mentions_below (n + 1) table ≡ mentions_below n table ++ n ∷ []
unfolding mentions_below
mentions_push n table h = passing_push (λ w. table_mentions w table) n h

pub mentions_kept : (n : ℕ) (table : Table) → table_mentions n table ≡ false → mentions_below (n + 1) table ≡ mentions_below n table
unfolding mentions_below
mentions_kept n table h = passing_kept (λ w. table_mentions w table) n h

pub ruleset mentions_steps = (mentions_first, mentions_push, mentions_kept)

pub lists_first : (spec : Data) → lists_below 0 spec ≡ []
unfolding lists_below
lists_first spec = refl

pub lists_more : (n : ℕ) (spec : Data) → lists_below (n + 1) spec ≡ lists_below n spec ++ mention_list spec n ∷ []
unfolding lists_below
lists_more n spec = map-range_with_len_more (mention_list spec) 0 n n (omega arith)

pub ruleset lists_steps = (lists_first, lists_more)

pub named_first : (names : List ℕ) → named_below 0 names ≡ []
unfolding named_below
named_first names = refl

pub named_more : (n : ℕ) (names : List ℕ) → named_below (n + 1) names ≡ named_below n names ++ is_among names n ∷ []
unfolding named_below
named_more n names = map-range_with_len_more (is_among names) 0 n n (omega arith)

pub ruleset named_steps = (named_first, named_more)

pub marked_first : (marks : List Bool) → marked_below 0 marks ≡ []
unfolding marked_below
marked_first marks = refl

pub marked_push : (n : ℕ) (marks : List Bool) → is_marked marks n ≡ true → marked_below (n + 1) marks ≡ marked_below n marks ++ n ∷ []
unfolding marked_below
marked_push n marks h = passing_push (is_marked marks) n h

pub marked_kept : (n : ℕ) (marks : List Bool) → is_marked marks n ≡ false → marked_below (n + 1) marks ≡ marked_below n marks
unfolding marked_below
marked_kept n marks h = passing_kept (is_marked marks) n h

pub ruleset marked_steps = (marked_first, marked_push, marked_kept)

-- ---- what is marked next

pub marked_within : (marks : List Bool) (v : ℕ) → is_marked marks v ≡ true → v < length marks
marked_within marks v h =
    elim (cases_lt v (length marks)) [
      | inl within ↦ within
      | inr past ↦ absurd (both_ways (is_marked marks v) (is_marked_past marks v past) h)
    ]

pub next_past : (lists : List (List ℕ)) (marks : List Bool) (v : ℕ) → length marks ≤ v → next_of lists marks v ≡ None
unfolding next_of
next_past lists marks v past = ap (λ b. cond b (find (λ w. not (is_marked marks w)) (list_at lists v)) None) (is_marked_past marks v past)

-- the first that passes, as far as the list has been gone through
pub found_here : (p : ℕ → Bool) (xs : List ℕ) (i d : ℕ) → i < length xs → find p (take i xs) ≡ None → p (get_or xs i d) ≡ true → Some (get_or xs i d) ≡ find p xs
found_here p [] i d within none pass = absurd (omega arith)
found_here p (x ∷ xs) zero d within none pass = sym (ap (λ b. cond b (Some x) (find p xs)) pass)
found_here p (x ∷ xs) (suc i) d within none pass =
    elim (p x) as (λ b. cond b (Some x) (find p (take i xs)) ≡ None → Some (get_or xs i d) ≡ cond b (Some x) (find p xs)) [
      | true ↦ λ k. cc
      | false ↦ λ k. found_here p xs i d (omega arith) k pass
    ] none

none_further : (p : ℕ → Bool) (xs : List ℕ) (i d : ℕ) → i < length xs → find p (take i xs) ≡ None → p (get_or xs i d) ≡ false → find p (take (suc i) xs) ≡ None
none_further p [] i d within none fail = absurd (omega arith)
none_further p (x ∷ xs) zero d within none fail = ap (λ b. cond b (Some x) None) fail
none_further p (x ∷ xs) (suc i) d within none fail =
    elim (p x) as (λ b. cond b (Some x) (find p (take i xs)) ≡ None → cond b (Some x) (find p (take (suc i) xs)) ≡ None) [
      | true ↦ λ k. k
      | false ↦ λ k. none_further p xs i d (omega arith) k fail
    ] none

pub none_more : (p : ℕ → Bool) (xs : List ℕ) (i d : ℕ) → i < length xs → find p (take i xs) ≡ None → p (get_or xs i d) ≡ false → find p (take (i + 1) xs) ≡ None
none_more p xs i d within none fail = let more : i + 1 ≡ suc i = omega arith in ap (λ n. find p (take n xs)) more ∙ none_further p xs i d within none fail

-- one that is found unmarked is in the list
record Unmarked (marks : List Bool) (list : List ℕ) (w : ℕ) : Type 0 where
  among : is_among list w ≡ true
  unmarked : is_marked marks w ≡ false

found_unmarked : (marks : List Bool) (list : List ℕ) (w : ℕ) → find (λ u. not (is_marked marks u)) list ≡ Some w → Unmarked marks list w
unfolding is_among
found_unmarked marks [] w e = cc
found_unmarked marks (u ∷ us) w e =
    elim (is_marked marks u) as (λ b. is_marked marks u ≡ b → cond (not b) (Some u) (find (λ x. not (is_marked marks x)) us) ≡ Some w → Unmarked marks (u ∷ us) w) [
      | true ↦ λ m k. let rest = found_unmarked marks us w k in record { among = or_right (nat_eq u w) (is_among us w) rest.among; unmarked = rest.unmarked }
      | false ↦ λ m k. let same : u ≡ w = cc in record { among = or_left (nat_eq u w) (is_among us w) (eq-eqb u w same); unmarked = subst (λ (x : ℕ). is_marked marks x ≡ false) same m }
    ] refl e

-- where none is found, each in the list is marked
none_unmarked : (marks : List Bool) (list : List ℕ) (w : ℕ) → find (λ u. not (is_marked marks u)) list ≡ None → is_among list w ≡ true → is_marked marks w ≡ true
unfolding is_among
none_unmarked marks [] w e among = absurd (false≢true among)
none_unmarked marks (u ∷ us) w e among =
    elim (is_marked marks u) as (λ b. is_marked marks u ≡ b → cond (not b) (Some u) (find (λ x. not (is_marked marks x)) us) ≡ None → is_marked marks w ≡ true) [
      | true ↦ λ m k.
          elim (or_cases (nat_eq u w) (is_among us w) among) [
            | inl here ↦ subst (λ (x : ℕ). is_marked marks x ≡ true) (eqb-true u w here) m
            | inr rest ↦ none_unmarked marks us w k rest
          ]
      | false ↦ λ m k. cc
    ] refl e

-- the next one is mentioned for a marked one and is not marked
record Next (lists : List (List ℕ)) (marks : List Bool) (w : ℕ) : Type 0 where
  by : ℕ
  marked : is_marked marks by ≡ true
  there : Unmarked marks (list_at lists by) w

next_told : (lists : List (List ℕ)) (marks : List Bool) (w : ℕ) → IsNextMark lists marks w → Next lists marks w
unfolding next_of
next_told lists marks w next =
    elim (is_marked marks next.by) as (λ b. is_marked marks next.by ≡ b → cond b (find (λ u. not (is_marked marks u)) (list_at lists next.by)) None ≡ Some w → Next lists marks w) [
      | true ↦ λ m k. record { by = next.by; marked = m; there = found_unmarked marks (list_at lists next.by) w k }
      | false ↦ λ m k. cc
    ] refl next.is

pub next_within : (lists : List (List ℕ)) (marks : List Bool) (n w : ℕ) → AreWithin lists n → IsNextMark lists marks w → w < n
next_within lists marks n w within next = let told = next_told lists marks w next in within told.by w told.there.among

closed_at : (lists : List (List ℕ)) (marks : List Bool) → ((v : ℕ) → next_of lists marks v ≡ None) → (v w : ℕ) → is_marked marks v ≡ true → lists_mention lists v w ≡ true → is_marked marks w ≡ true
unfolding next_of
closed_at lists marks none v w marked mentioned =
    none_unmarked marks (list_at lists v) w (sym (ap (λ b. cond b (find (λ u. not (is_marked marks u)) (list_at lists v)) None) marked) ∙ none v) mentioned

-- ---- one mark more

marked_self : (marks : List Bool) (w : ℕ) → w < length marks → is_marked (set marks w true) w ≡ true
unfolding is_marked
marked_self marks w within = get_or-set_same marks w true false within

marked_other : (marks : List Bool) (w v : ℕ) → (v ≡ w → ⊥) → is_marked (set marks w true) v ≡ is_marked marks v
unfolding is_marked
marked_other marks w v other = get_or-set_other marks w v true false other

stays_marked : (marks : List Bool) (w v : ℕ) → is_marked marks v ≡ true → is_marked (set marks w true) v ≡ true
stays_marked marks w v h =
    elim (cases_eq v w) [
      | inl same ↦
          let here : is_marked marks w ≡ true = subst (λ (x : ℕ). is_marked marks x ≡ true) same h in
          subst (λ (x : ℕ). is_marked (set marks w true) x ≡ true) (sym same) (marked_self marks w (marked_within marks w here))
      | inr other ↦ marked_other marks w v other ∙ h
    ]

pub spreading_none : (lists : List (List ℕ)) (marks : List Bool) → IsSpreading lists marks marks
spreading_none lists marks = record { long = refl; kept = λ v h. h; least = λ holds named closed v h. named v h }

pub spreading_more : (lists : List (List ℕ)) (first marks : List Bool) (w : ℕ) → IsSpreading lists first marks → IsNextMark lists marks w → IsSpreading lists first (set marks w true)
spreading_more lists first marks w is next =
    let told = next_told lists marks w next in
    record {
      long = length-set marks w true ∙ is.long;
      kept = λ v h. stays_marked marks w v (is.kept v h);
      least = λ holds named closed v h.
          elim (cases_eq v w) [
            | inl same ↦ subst (λ (x : ℕ). holds x ≡ true) (sym same) (closed told.by w (is.least holds named closed told.by told.marked) told.there.among)
            | inr other ↦ is.least holds named closed v (sym (marked_other marks w v other) ∙ h)
          ];
    }

pub spread_whole : (lists : List (List ℕ)) (first marks : List Bool) → IsSpreading lists first marks → ((v : ℕ) → next_of lists marks v ≡ None) → IsSpread lists first marks
spread_whole lists first marks is none = record { so_far = is; closed = closed_at lists marks none }

-- how many are not marked
abbrev pub unmarked : List Bool → ℕ
unmarked marks = count_below (λ v. not (is_marked marks v)) (length marks)

pub unmarked_less : (lists : List (List ℕ)) (marks : List Bool) (w : ℕ) → w < length marks → IsNextMark lists marks w → unmarked (set marks w true) < unmarked marks
unmarked_less lists marks w within next =
    let told = next_told lists marks w next in
    let long : length (set marks w true) ≡ length marks = length-set marks w true in
    let fewer : count_below (λ v. not (is_marked (set marks w true) v)) (length marks) < unmarked marks =
    count_below_lt (λ v. not (is_marked marks v)) (λ v. not (is_marked (set marks w true) v)) (length marks) w
    (λ v h. still_unmarked (is_marked marks v) (is_marked (set marks w true) v) (stays_marked marks w v) h)
    within (ap not told.there.unmarked) (ap not (marked_self marks w within)) in
    subst (λ (n : ℕ). count_below (λ v. not (is_marked (set marks w true) v)) n < unmarked marks) (sym long) fewer
  where
    still_unmarked : (a b : Bool) → (a ≡ true → b ≡ true) → not b ≡ true → not a ≡ true
    still_unmarked false b stays h = refl
    still_unmarked true b stays h = sym (ap not (stays refl)) ∙ h

-- ---- the kept variables

module _ (spec : Data) where
  among_list : (v w : ℕ) → is_among (mention_list spec v) w ≡ true → (w < length spec.variables) × (mentions_in spec v w ≡ true)
  unfolding mention_list mentions_below
  among_list v w among =
      elim (table_of spec v) as (λ o. is_among (option_map_or (λ t. passing (λ u. table_mentions u t) (length spec.variables)) o []) w ≡ true
      → (w < length spec.variables) × (option_map_or (table_mentions w) o false ≡ true)) [
        | None ↦ λ h. absurd (none_among w h)
        | Some t ↦ λ h. passing_member (λ u. table_mentions u t) (length spec.variables) w h
      ] among

  list_among : (v w : ℕ) → w < length spec.variables → mentions_in spec v w ≡ true → is_among (mention_list spec v) w ≡ true
  unfolding mention_list mentions_below
  list_among v w within mentioned =
      elim (table_of spec v) as (λ o. option_map_or (table_mentions w) o false ≡ true → is_among (option_map_or (λ t. passing (λ u. table_mentions u t) (length spec.variables)) o []) w ≡ true) [
        | None ↦ λ h. absurd (false≢true h)
        | Some t ↦ λ h. member_passing (λ u. table_mentions u t) (length spec.variables) w within h
      ] mentioned

  list_within : (v : ℕ) → v < length spec.variables → list_at (mention_lists spec) v ≡ mention_list spec v
  unfolding list_at lists_below
  list_within v within = get_or-map-range_with_len (mention_list spec) 0 (length spec.variables) v v [] within (omega arith)

  list_past : (v : ℕ) → length spec.variables ≤ v → list_at (mention_lists spec) v ≡ []
  unfolding list_at lists_below
  list_past v past = get_or_past (mention_lists spec) v [] (omega (arith, length-map-range_with_len (mention_list spec) 0 (length spec.variables)))

  told : (v w : ℕ) → lists_mention (mention_lists spec) v w ≡ true → (w < length spec.variables) × (mentions_in spec v w ≡ true)
  told v w h =
      elim (cases_lt v (length spec.variables)) [
        | inl within ↦ among_list v w (ap (λ xs. is_among xs w) (sym (list_within v within)) ∙ h)
        | inr past ↦ absurd (none_among w (ap (λ xs. is_among xs w) (sym (list_past v past)) ∙ h))
      ]

  pub lists_within : AreWithin (mention_lists spec) (length spec.variables)
  lists_within v w h = (told v w h).0

  named_at : (names : List ℕ) (v : ℕ) → v < length spec.variables → is_marked (named_below (length spec.variables) names) v ≡ is_among names v
  unfolding is_marked named_below
  named_at names v within = get_or-map-range_with_len (is_among names) 0 (length spec.variables) v v false within (omega arith)

  pub named_long : (names : List ℕ) → length (named_below (length spec.variables) names) ≡ length spec.variables
  unfolding named_below
  named_long names = length-map-range_with_len (is_among names) 0 (length spec.variables)

  among_marked : (marks : List Bool) (v : ℕ) → is_among (marked_below (length marks) marks) v ≡ true → is_marked marks v ≡ true
  unfolding marked_below
  among_marked marks v h = (passing_member (is_marked marks) (length marks) v h).1

  marked_among : (marks : List Bool) (v : ℕ) → is_marked marks v ≡ true → is_among (marked_below (length marks) marks) v ≡ true
  unfolding marked_below
  marked_among marks v h = member_passing (is_marked marks) (length marks) v (marked_within marks v h) h

  marked_rises : (marks : List Bool) → AllPairs (λ v w. v < w) (marked_below (length marks) marks)
  unfolding marked_below
  marked_rises marks = passing_rises (is_marked marks) (length marks)

  pub kept_told : IsSound spec → (names : List ℕ) (marks : List Bool) → ((v : ℕ) → is_among names v ≡ true → v < length spec.variables)
      → IsSpread (mention_lists spec) (named_below (length spec.variables) names) marks → AreKept spec names (marked_below (length marks) marks)
  kept_told sound names marks declared is =
      let n = length spec.variables in
      let long : length marks ≡ n = is.so_far.long ∙ named_long names in
      record {
        named = λ v h. marked_among marks v (is.so_far.kept v (named_at names v (declared v h) ∙ h));
        closed = λ v w h mentioned.
            let marked = among_marked marks v h in
            let below : v < n = subst (λ (k : ℕ). v < k) long (marked_within marks v marked) in
            let within : w < n = mentioned_within spec w sound v mentioned in
            marked_among marks w (is.closed v w marked (ap (λ xs. is_among xs w) (list_within v below) ∙ list_among v w within mentioned));
        least = λ holds named closed v h.
            is.so_far.least holds
            (λ u m.
            let below : u < n = subst (λ (k : ℕ). u < k) (named_long names) (marked_within (named_below n names) u m) in
            named u (sym (named_at names u below) ∙ m))
            (λ u w held mentioned. closed u w held (told u w mentioned).1)
            v (among_marked marks v h);
        in_order = marked_rises marks;
      }
