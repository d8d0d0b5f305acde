use Rattle.std.proofs.Common.{◌≡◌, ◌∷◌, ◌+◌, [], drop, arith}
use Rattle.std.proofs.lemmas.Grind.{common_steps}
use Rattle.scr_parse.specs.Readable.{is_line_readable}
use Rattle.scr_resolve.specs.Draft as spec
use Rattle.scr_resolve.proofs.Small.{small_after}
use Rattle.scr_resolve.proofs.Steps.{tested_on, resolves_on, refused_on, refused_here}
use Rattle.scr_resolve.proofs.lines.known_of.Goals as goal

pub returns-in-Err : goal.returns-in-Err
returns-in-Err c =
    let next : drop c.loop-line.line-index c.args.lines.now ≡ c.line-item.result ∷ drop (c.loop-line.line-index + 1) c.args.lines.now = grind (arith, common_steps) in
    refused_here c.loop-line.known c.line-item.result c.args.lines.now _ _ c.in-Err.fault next c.loop-line.invariant.refused c.in-Err.ensures.refused

pub loop-line-preserved : goal.loop-line-preserved
loop-line-preserved c =
    let next : drop c.loop-line.line-index c.args.lines.now ≡ c.line-item.result ∷ drop (c.loop-line.line-index + 1) c.args.lines.now = grind (arith, common_steps) in
    let readable = tested_on is_line_readable c.line-item.result _ _ next c.loop-line.invariant.readable in
    record {
      readable = readable.1;
      constants = small_after c.loop-line.known c.take.new.known c.line-item.result.statement c.in-Ok.ensures.taken readable.0 c.loop-line.invariant.constants;
      resolves = λ last r. c.loop-line.invariant.resolves last (resolves_on next c.in-Ok.ensures.passed c.in-Ok.ensures.taken r);
      refused = λ n kind name d. c.loop-line.invariant.refused n kind name (refused_on next c.in-Ok.ensures.passed c.in-Ok.ensures.taken d);
    }

pub returns : goal.returns
returns c = let none : drop c.loop-line.line-index c.args.lines.now ≡ [] = grind (arith, common_steps) in c.loop-line.invariant.resolves _ (rw none spec.no_more)
