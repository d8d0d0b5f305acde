use Rattle.std.proofs.Common.{length}
use Rattle.base_io.specs.Files.{bytes_at}
use Rattle.base_io.proofs.FilesLemmas.{given_out}
use Rattle.base_io.proofs.memory_shelf.MemoryShelfShelf.read.Goals as goal

pub returns-clause-bytes : goal.returns-clause-bytes
returns-clause-bytes c =
    let given = given_out (bytes_at c.self.inside.files.items c.self.inside.begun) c.left_at.result.now c.give-n.new.buf c.self.inside.taken
    c.give-n.result c.self.inside.chunk (length c.args.buf.now)
    (rw (← c.deref.ensures.value) c.left_at.ensures) c.self.invariant c.give-n.ensures.count (cc) c.give-n.ensures.copied in
    rw (← c.self.view_is) given
