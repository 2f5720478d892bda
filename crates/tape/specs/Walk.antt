-- A reading of a tape: it comes byte by byte, and each record is handed to a step as soon as its last byte has come. What is
-- carried from byte to byte is a state of the step's own and the bytes of an unfinished record. So nothing depends on how a tape
-- is cut into parts, and what a step does is one's own affair. Assumes nothing: these are definitions.
use Rattle.std.specs.Prelude.{ℕ, ◌+◌, List, [], ◌∷◌, ◌++◌, leb, eqb, length, get_or}
use Rattle.refusals.specs.Answer.{pick}
use Rattle.refusals.specs.Table.{cut_short}
use Rattle.tape.specs.Kinds.{size_of}

-- what a record does to a state: a new one; the last one, at the end of the tape; or a refusal
pub data Out (S : Type 0) : Type 0 where
  Go : S → Out S
  Stop : S → Out S
  No : ℕ → Out S

-- where a reading is: between two records, at an offset; within the record that began there; behind the end record; refused
pub data Walk (S : Type 0) : Type 0 where
  Between : S → ℕ → Walk S
  Within : S → ℕ → List ℕ → Walk S
  Ended : S → ℕ → Walk S
  Bad : ℕ → ℕ → Walk S

-- behind a record r that began at an offset
abbrev pub land : {S : Type 0} → Out S → ℕ → List ℕ → Walk S
land (Go s) at r = Between s (at + length r)
land (Stop s) at r = Ended s (at + length r)
land (No n) at r = Bad n at

-- head: the refusal that a kind brings before its body has come, or 0; step: what a whole record does, and it began at an offset
module _ (S : Type 0) (head : S → ℕ → ℕ) (step : S → ℕ → List ℕ → Out S) where
  -- with the bytes bs of a record, of which the first is its kind: "a body whose length the kind fixes"
  abbrev pub opened : S → ℕ → List ℕ → Walk S
  opened s at bs = pick (leb (size_of (get_or bs 0 0)) (length bs)) (land (step s at bs) at bs) (Within s at bs)

  -- one byte more; behind the end record, "7 at the first"
  abbrev pub feed : Walk S → ℕ → Walk S
  feed (Between s at) b = pick (eqb (head s b) 0) (opened s at (b ∷ [])) (Bad (head s b) at)
  feed (Within s at bs) b = opened s at (bs ++ b ∷ [])
  feed (Ended s at) b = Bad cut_short at
  feed (Bad n at) b = Bad n at

  -- several bytes more
  abbrev pub run : Walk S → List ℕ → Walk S
  run w [] = w
  run w (b ∷ bs) = run (feed w b) bs

-- ---- a reading seen through a function of its state

abbrev pub map_out : {S T : Type 0} → (T → S) → Out T → Out S
map_out f (Go t) = Go (f t)
map_out f (Stop t) = Stop (f t)
map_out f (No n) = No n

abbrev pub map_walk : {S T : Type 0} → (T → S) → Walk T → Walk S
map_walk f (Between t at) = Between (f t) at
map_walk f (Within t at bs) = Within (f t) at bs
map_walk f (Ended t at) = Ended (f t) at
map_walk f (Bad n at) = Bad n at
