use Rattle.std.proofs.Common.{◌≡◌}
use Rattle.run_back.specs.Kept.{kept}
use Rattle.run_back.specs.Replays.{GoesBack}
use Rattle.run_back.proofs.history.History.go_back.Given as goal

abbrev pub invariant-loop : goal.invariant-loop
invariant-loop l =
    (l.self.checked.now ≡ l.fn.self.checked.now)
    × GoesBack l.counter (kept l.fn.self.earlier.items l.fn.self.state.codes l.fn.self.number) (kept l.self.earlier.items l.self.state.codes l.self.number)
