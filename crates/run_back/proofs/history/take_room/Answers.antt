use Rattle.run_back.proofs.Moves.{takes_spare, takes_oldest}
use Rattle.run_back.proofs.history.take_room.Goals as goal

pub returns-in-Some : goal.returns-in-Some
returns-in-Some c = takes_spare c.args.earlier.now c.args.spares.now c.pop_back.new.self c.in-Some.codes c.in-Some.ensures.value c.in-Some.ensures.items

pub returns-in-Some-pop_front : goal.returns-in-Some-pop_front
returns-in-Some-pop_front c =
    takes_oldest c.args.earlier.now c.args.spares.now c.pop_front.new.self c.pop_back.new.self c.in-Some-pop_front.codes c.in-None.ensures.value c.in-None.ensures.items
    c.in-Some-pop_front.ensures.value c.in-Some-pop_front.ensures.items
