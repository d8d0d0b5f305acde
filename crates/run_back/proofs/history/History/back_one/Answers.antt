use Rattle.std.proofs.Common.{◌≡◌, ◌-◌, ◌+◌, length, ap, ◌∙◌, arith}
use Rattle.scr_spec.specs.declared.state.State.{State}
use Rattle.scr_spec.specs.Shown.{data_of}
use Rattle.run_back.specs.Kept.{kept}
use Rattle.run_back.proofs.Cuts.{of_back, of_depth}
use Rattle.run_back.proofs.Moves.{goes_back, returned, places}
use Rattle.run_back.proofs.history.History.back_one.Goals as goal

pub overflow_sub-self : goal.overflow_sub-self
overflow_sub-self c =
    let s = c.args.self.now in
    let depth = of_depth (data_of s.checked.now.spec) (kept s.earlier.items s.state.codes s.number) s.of_run in
    omega (arith, depth, c.requires)

pub returns-clause-goes_back : goal.returns-clause-goes_back
returns-clause-goes_back c =
    let s = c.args.self.now in
    let depth = of_depth (data_of s.checked.now.spec) (kept s.earlier.items s.state.codes s.number) s.of_run in
    let one : s.number ≡ s.number - 1 + 1 = omega (arith, depth, c.requires) in
    goes_back s.earlier c.pop_back.new.self c.in-Some.codes s.state.codes c.replace-later.new.dest.codes s.number (s.number - 1) c.in-Some.ensures.value c.in-Some.ensures.items
    (ap (λ (x : State). x.codes) c.replace-later.ensures.after) one

pub invariant_of-self : goal.invariant_of-self
invariant_of-self c =
    let s = c.args.self.now in
    let spec = data_of s.checked.now.spec in
    let k = kept s.earlier.items s.state.codes s.number in
    let depth = of_depth spec k s.of_run in
    let one : s.number ≡ s.number - 1 + 1 = omega (arith, depth, c.requires) in
    let goes = goes_back s.earlier c.pop_back.new.self c.in-Some.codes s.state.codes c.replace-later.new.dest.codes s.number (s.number - 1) c.in-Some.ensures.value c.in-Some.ensures.items
    (ap (λ (x : State). x.codes) c.replace-later.ensures.after) one in
    let long : length c.replace-later.result.codes ≡ length spec.variables = ap (λ (x : State). length x.codes) c.replace-later.ensures.value ∙ places spec k s.checked.now.spec.sound s.of_run in
    let r = returned (length spec.variables) s.earlier s.spares c.pop_back.new.self c.push_back.new.self c.in-Some.codes c.replace-later.result.codes s.room s.earlier_capacity s.spares_capacity
    s.earlier_length s.spares_length c.in-Some.ensures.value c.in-Some.ensures.items c.push_back.ensures.items long in
    record {
      of_run = of_back spec 1 k (kept c.pop_back.new.self.items c.replace-later.new.dest.codes (s.number - 1)) s.of_run goes;
      room = r.room;
      earlier_capacity = r.left_capacity;
      spares_capacity = r.more_capacity;
      earlier_length = r.left_long;
      spares_length = r.more_long;
    }
