-- The layout settles, or is refused; then the tries. Assumes nothing.
use mathlib.Core.Path.{refl}
use lib.ListN.{length}
use Rattle.std.proofs.lemmas.Result.{err_from_is_err_and}
use Rattle.walk.specs.Walk.{origin}
use Rattle.layout.specs.Layout.{layout_of}
use Rattle.layout.proofs.Settling.{settled_refused, settled_after}
use Rattle.builds.specs.Build.{built}
use Rattle.builder.proofs.Builds.{left_laid, laid_refused, left_refused}
use Rattle.builder.proofs.build_laid.Goals as goal

pub returns-in_err-settled : goal.returns-in_err-settled
returns-in_err-settled c =
    let args = c.args in
    let tape = args.tape.now in
    let nodes = args.nodes.now in
    let out = err_from_is_err_and c.from_residual.result c.from_residual.ensures.1 in
    let refuses = settled_refused (layout_of tape args.initial (length nodes)) c.in_err-settled.ensures.0 in
    let stopped = laid_refused tape nodes args.initial c.requires.1 c.requires.4 refuses in
    rw (out.1, out.2)
    (left_refused args.image.now args.list.now (built tape (origin args.initial)) stopped refl, c.lay_out.auto.nodes)

pub returns : goal.returns
returns c =
    let args = c.args in
    let tape = args.tape.now in
    let nodes = args.nodes.now in
    let found = settled_after (layout_of tape args.initial (length nodes)) c.in_ok-settled.ensures.0 in (
      left_laid tape nodes args.initial c.requires.1 c.requires.4 c.requires.0 found c.in_ok-settled.ensures.1
          args.image.now c.requires.2 args.list.now c.requires.3 c.finish.ensures,
      c.lay_out.auto.nodes,
    )
