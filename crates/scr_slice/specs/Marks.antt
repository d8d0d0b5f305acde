-- Marks on variables, and what is marked next. No contract of a public call mentions them.
use Rattle.std.specs.Prelude.{ℕ, ◌≡◌, ◌<◌, Bool, not, if◌then◌else◌, List, [], length, map, Option, Some, None, find, slice_index_or, IsTrue}
use Rattle.std.specs.Option.{option_map_or}
use Rattle.std.specs.List.{filter, range_with_len}
use Rattle.scr_spec.specs.Data.{Data}
use Rattle.scr_spec.specs.declared.table.Table.{Table}
use Rattle.scr_spec.specs.Relations.{table_of}
use Rattle.scr_depend.specs.Graphs.{is_among}
use Rattle.scr_depend.specs.Marks.{is_marked}
use Rattle.scr_slice.specs.Mentions.{table_mentions}

-- ---- what tables mention

-- which of the first n variables the table mentions, in order of declaration
unfoldable pub mentions_below : ℕ → Table → List ℕ
mentions_below n table = filter (λ w. table_mentions w table) (range_with_len 0 n)

-- what the table of v mentions; without a table that is nothing
unfoldable pub mention_list : Data → ℕ → List ℕ
mention_list spec v = option_map_or (mentions_below (length spec.variables)) (table_of spec v) []

-- what the table of each of the first n variables mentions
unfoldable pub lists_below : ℕ → Data → List (List ℕ)
lists_below n spec = map (mention_list spec) (range_with_len 0 n)

abbrev pub mention_lists : Data → List (List ℕ)
mention_lists spec = lists_below (length spec.variables) spec

-- the list with this number; behind the last one it is empty
unfoldable pub list_at : List (List ℕ) → ℕ → List ℕ
list_at lists v = slice_index_or lists v []

abbrev pub lists_mention : List (List ℕ) → ℕ → ℕ → Bool
lists_mention lists v w = is_among (list_at lists v) w

-- all that is mentioned is below n
abbrev pub AreWithin : List (List ℕ) → ℕ → Type 0
AreWithin lists n = (v w : ℕ) → IsTrue (lists_mention lists v w) → w < n

-- ---- marks

-- the first n variables, those marked that are named
unfoldable pub named_below : ℕ → List ℕ → List Bool
named_below n names = map (is_among names) (range_with_len 0 n)

-- which of the first n variables are marked, in order of declaration
unfoldable pub marked_below : ℕ → List Bool → List ℕ
marked_below n marks = filter (is_marked marks) (range_with_len 0 n)

-- where v is marked, the first that is mentioned for it and not marked
unfoldable pub next_of : List (List ℕ) → List Bool → ℕ → Option ℕ
next_of lists marks v = if is_marked marks v then find (λ w. not (is_marked marks w)) (list_at lists v) else None

pub record IsNextMark (lists : List (List ℕ)) (marks : List Bool) (w : ℕ) : Type 0 where
  pub by : ℕ
  pub is : next_of lists marks by ≡ Some w

-- more marks: none but such as every set holds that holds the first ones and, with each number, what is mentioned for it
pub record IsSpreading (lists : List (List ℕ)) (first marks : List Bool) : Type 0 where
  pub long : length marks ≡ length first
  pub kept : (v : ℕ) → IsTrue (is_marked first v) → IsTrue (is_marked marks v)
  pub least : (holds : ℕ → Bool) → ((v : ℕ) → IsTrue (is_marked first v) → IsTrue (holds v)) → ((v w : ℕ) → IsTrue (holds v) → IsTrue (lists_mention lists v w) → IsTrue (holds w))
      → (v : ℕ) → IsTrue (is_marked marks v) → IsTrue (holds v)

-- and the marked ones are such a set
pub record IsSpread (lists : List (List ℕ)) (first marks : List Bool) : Type 0 where
  pub so_far : IsSpreading lists first marks
  pub closed : (v w : ℕ) → IsTrue (is_marked marks v) → IsTrue (lists_mention lists v w) → IsTrue (is_marked marks w)
