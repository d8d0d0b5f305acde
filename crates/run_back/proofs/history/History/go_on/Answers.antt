use Rattle.std.proofs.Common.{◌≡◌, ◌+◌, [], ◌∷◌, ◌++◌, length, sym, ap, subst, ◌∙◌, refl}
use Rattle.circular_buffer.specs.Buffer.{keep_last}
use Rattle.scr_spec.specs.declared.state.State.{State}
use Rattle.scr_spec.specs.Shown.{data_of}
use Rattle.run_step.specs.Runs.{IsStep}
use Rattle.run_back.specs.Kept.{kept}
use Rattle.run_back.specs.Replays.{GoesOn}
use Rattle.run_back.proofs.Cuts.{of_consistent, of_on}
use Rattle.run_back.proofs.Moves.{room_long, pushed, pushed_long, places}
use Rattle.run_back.proofs.history.History.go_on.Goals as goal

pub step_into-requires-clause-consistent : goal.step_into-requires-clause-consistent
step_into-requires-clause-consistent c =
    let s = c.args.self.now in
    of_consistent (data_of s.checked.now.spec) (kept s.earlier.items s.state.codes s.number) s.checked.now.spec.sound s.of_run

pub step_into-requires-clause-places : goal.step_into-requires-clause-places
step_into-requires-clause-places c =
    let s = c.args.self.now in
    (room_long (length s.checked.now.spec.variables) s.earlier s.spares c.take_room-room.new.earlier c.take_room-room.new.spares c.take_room-room.result c.take_room-room.ensures s.earlier_length s.spares_length).room

pub returns-clause-goes_on : goal.returns-clause-goes_on
returns-clause-goes_on c =
    let s = c.args.self.now in
    let spec = data_of s.checked.now.spec in
    let p = pushed s.earlier s.spares c.take_room-room.new.earlier c.take_room-room.new.spares c.push_back.new.self c.take_room-room.result c.replace-old.result.codes c.take_room-room.ensures
    s.room s.earlier_capacity s.spares_capacity c.push_back.ensures.items in
    record {
      step = subst (λ (x : State). IsStep spec s.state.codes c.args.input x.codes) (sym c.replace-old.ensures.after) c.step_into.ensures;
      earlier = p.all ∙ ap (λ (x : State). keep_last 256 (s.earlier.items ++ x.codes ∷ [])) c.replace-old.ensures.value;
      number = refl;
    }

pub invariant_of-self : goal.invariant_of-self
invariant_of-self c =
    let s = c.args.self.now in
    let spec = data_of s.checked.now.spec in
    let k = kept s.earlier.items s.state.codes s.number in
    let p = pushed s.earlier s.spares c.take_room-room.new.earlier c.take_room-room.new.spares c.push_back.new.self c.take_room-room.result c.replace-old.result.codes c.take_room-room.ensures
    s.room s.earlier_capacity s.spares_capacity c.push_back.ensures.items in
    let l = room_long (length spec.variables) s.earlier s.spares c.take_room-room.new.earlier c.take_room-room.new.spares c.take_room-room.result c.take_room-room.ensures s.earlier_length s.spares_length in
    let long : length c.replace-old.result.codes ≡ length spec.variables = ap (λ (x : State). length x.codes) c.replace-old.ensures.value ∙ places spec k s.checked.now.spec.sound s.of_run in
    let new = kept c.push_back.new.self.items c.replace-old.new.dest.codes (s.number + 1) in
    let goes : GoesOn spec k c.args.input new = record {
      step = subst (λ (x : State). IsStep spec s.state.codes c.args.input x.codes) (sym c.replace-old.ensures.after) c.step_into.ensures;
      earlier = p.all ∙ ap (λ (x : State). keep_last 256 (s.earlier.items ++ x.codes ∷ [])) c.replace-old.ensures.value;
      number = refl;
    } in
    record {
      of_run = of_on spec k c.args.input new s.of_run goes;
      room = p.room;
      earlier_capacity = p.more_capacity;
      spares_capacity = p.rest_capacity;
      earlier_length = pushed_long (length spec.variables) c.take_room-room.new.earlier c.push_back.new.self c.replace-old.result.codes c.push_back.ensures.items l.left_long long;
      spares_length = l.rest_long;
    }
