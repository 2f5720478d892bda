-- What is laid so far, then the bytes of the rest of the text behind the digit before it, is the whole. Assumes nothing.
use mathlib.Core.Path.{◌≡◌}
use Prim.Native.Nat.{◌<◌}
use lib.ListN.{drop}
use Rattle.std.specs.Prelude.{IfSome}
use Rattle.page.specs.Page.{laid, bytes_behind, bytes_in}
use Rattle.page.proofs.put_hex.Given as goal

abbrev pub invariant-loop-letter : goal.invariant-loop-letter
invariant-loop-letter l = record {
  small : IfSome l.high (λ d. d < 16);
  whole : laid l.bytes l.at (bytes_behind l.high (drop l.letter-index l.text)) ≡ laid l.initial.bytes l.from (bytes_in l.text);
}
