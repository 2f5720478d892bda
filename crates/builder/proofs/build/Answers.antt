-- The list made zero, the build, and the work memory made zero. Assumes nothing.
use mathlib.Core.Path.{ap, ◌∙◌}
use Prim.Native.Nat.{ℕ}
use lib.IntN.{pos}
use lib.ListN.{replicate}
use Rattle.refusals.proofs.Pick.{granted, at_true}
use Rattle.walk.specs.Walk.{origin}
use Rattle.builds.specs.Build as Build
use Rattle.builder.specs.Call.{memory, left, build_of}
use Rattle.builder.proofs.Arguments.{allowed}
use Rattle.builder.proofs.Builds.{left_all}
use Rattle.builder.proofs.build.Goals as goal

pub build_laid-built-requires : goal.build_laid-built-requires
build_laid-built-requires c =
    let fine = allowed _ _ _ _ _ (granted c.is_allowed.ensures c.if-not-is_allowed.false) in
    (fine.tape, fine.initial, fine.image, c.clear.ensures ∙ ap (λ (n : ℕ). replicate n (pos 0)) fine.list, fine.work)

pub returns : goal.returns
unfolding build_of
returns c =
    let args = c.args in
    let is = granted c.is_allowed.ensures c.if-not-is_allowed.false in
    let fine = allowed _ _ _ _ _ is in
    let told = c.build_laid-built.ensures in
    let m = memory args.image.now args.numbers.now args.work.now in
    let zero = c.clear.ensures ∙ ap (λ (n : ℕ). replicate n (pos 0)) fine.list in
    let work = c.clear-2.ensures ∙ ap (λ (n : ℕ). replicate n 0) (told.1 ∙ fine.work) in
    left_all m _ zero (Build.built args.tape.now (origin args.initial)) told.0 work
    ∙ at_true (left m (Build.built args.tape.now (origin args.initial))) _ is
