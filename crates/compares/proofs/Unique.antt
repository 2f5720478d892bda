-- Each public call allows one answer: the law of `refusals`, applied to each call's own contract. Assumes nothing.
use Rattle.refusals.proofs.Unique.{OneResult, same}
use Rattle.compares.proofs.plain.Reads as plain
use Rattle.compares.proofs.builder.Reads as builder
use Rattle.compares.proofs.checker.Reads as checker

pub plain_one : OneResult plain.Post
plain_one k a x y e f p q = same p q

pub builder_one : OneResult builder.Post
builder_one k a x y e f p q = same p q

pub checker_one : OneResult checker.Post
checker_one k a x y e f p q = same p q
