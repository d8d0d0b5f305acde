-- What the fields of `Lines` keep.
use Rattle.std.specs.Prelude.{◌+◌, ◌^◌, ◌<◌, ◌≤◌, vec_len, vec_capacity}
use Rattle.std.specs.Option.{ForSome}
use Rattle.base_io.specs.declared.first_line.TheConstants.{LINE_ROOM}
use Rattle.base_io.specs.declared.lines.Lines.TheInside.{Inside}

-- the line lies in the bytes that were handed out, and no more than the limit and one byte are taken
pub record AreKept (a : Inside) : Type 0 where
  pub line : ForSome a.line (λ n. n ≤ a.handed)
  pub handed : a.handed ≤ vec_len a.buf
  pub given : a.given ≤ a.limit
  pub taken : a.given + vec_len a.buf ≤ a.limit + 1 + a.handed
  pub small : a.limit < 2 ^ 32
  pub capacity : LINE_ROOM ≤ vec_capacity a.buf
