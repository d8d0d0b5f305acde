use Rattle.std.proofs.Common.{◌≡◌, ◌+◌, ◌++◌, refl, rules}
use Rattle.base_script.specs.Faults.{script_fault}
use Rattle.cmd_runc.specs.Lines.{taken_of, read_line}
use Rattle.cmd_runc.specs.Texts.{objects_text, overflow_text}
use Rattle.cmd_runc.specs.declared.call.Taken.TheVariants.{Nothing, Called, Faulty, Overflow}
use Rattle.cmd_runc.proofs.Steps.{called_line, passed_line, faulty_line, overflow_line}
use Rattle.cmd_runc.proofs.calls.CallsSession.line.Goals as goal

pub returns-in-Nothing-clause-exact : goal.returns-in-Nothing-clause-exact
returns-in-Nothing-clause-exact c =
    let m = c.args.self.now.machine in
    let taken : Nothing ≡ taken_of m (read_line m.unit c.args.line.now) = rw c.in-Nothing.is at c.take_line.ensures.taken in
    passed_line m c.args.self.now.count c.args.number c.args.line.now c.args.out.now.items c.take_line.new.machine taken c.take_line.ensures.after

pub returns-in_ok-push_objects-in-Called-clause-exact : goal.returns-in_ok-push_objects-in-Called-clause-exact
returns-in_ok-push_objects-in-Called-clause-exact c =
    let m = c.args.self.now.machine in
    let taken : Called ≡ taken_of m (read_line m.unit c.args.line.now) = rw c.in-Called.is at c.take_line.ensures.taken in
    let said : c.push_objects.new.out.items ≡ c.args.out.now.items ++ objects_text c.args.self.now.unit.now (c.args.self.now.count + 1) c.take_line.new.machine.objects = search rules in
    called_line m c.args.self.now.count c.args.number c.args.line.now c.args.out.now.items c.take_line.new.machine (c.args.self.now.count + 1) c.args.self.now.unit.now c.push_objects.new.out.items
    taken c.take_line.ensures.after refl c.requires.same said

pub returns-in_ok-push_script_fault-in-Faulty-clause-exact : goal.returns-in_ok-push_script_fault-in-Faulty-clause-exact
returns-in_ok-push_script_fault-in-Faulty-clause-exact c =
    let m = c.args.self.now.machine in
    let taken : Faulty c.in-Faulty.kind ≡ taken_of m (read_line m.unit c.args.line.now) = rw c.in-Faulty.is at c.take_line.ensures.taken in
    let said : c.push_script_fault.new.out.items ≡ c.args.out.now.items ++ script_fault c.args.number c.in-Faulty.kind = search rules in
    faulty_line m c.args.self.now.count c.args.number c.args.line.now c.args.out.now.items c.in-Faulty.kind c.push_script_fault.new.out.items taken said

pub returns-in_ok-push_overflow-in-Overflow-clause-exact : goal.returns-in_ok-push_overflow-in-Overflow-clause-exact
returns-in_ok-push_overflow-in-Overflow-clause-exact c =
    let m = c.args.self.now.machine in
    let taken : Overflow ≡ taken_of m (read_line m.unit c.args.line.now) = rw c.in-Overflow.is at c.take_line.ensures.taken in
    let said : c.push_overflow.new.out.items ≡ c.args.out.now.items ++ overflow_text (c.args.self.now.count + 1) = search rules in
    overflow_line m c.args.self.now.count c.args.number c.args.line.now c.args.out.now.items c.push_overflow.new.out.items taken said
