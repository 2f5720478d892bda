-- What a call answers, in document 01's terms: its value, or a refusal's number. Each crate says of every case of its own
-- answer enum which of these it is; promises are stated through that, so no definition depends on the shape of an enum.
-- Assumes nothing: these are definitions.
use Rattle.std.specs.Prelude.{ℕ, Bool, true, false}

pub data Answer (A : Type 0) : Type 0 where
  Done : A → Answer A
  Refused : ℕ → Answer A

-- the first where the test holds, else the second
abbrev pub pick : {A : Type 0} → Bool → A → A → A
pick true a b = a
pick false a b = b

-- an answer whose value is handed over in another form
abbrev pub mapped : {A B : Type 0} → (A → B) → Answer A → Answer B
mapped f (Done a) = Done (f a)
mapped f (Refused n) = Refused n

-- what a further call makes of a value; a refusal stays
abbrev pub and_then : {A B : Type 0} → Answer A → (A → Answer B) → Answer B
and_then (Done a) f = f a
and_then (Refused n) f = Refused n

-- that it was done, or the refusal; the value is left out
abbrev pub outcome : {A : Type 0} → Answer A → Answer (Unit {0})
outcome (Done a) = Done tt
outcome (Refused n) = Refused n

-- "Refused calls leave table, map, pen, image and query_all's list unchanged": the first where a call is done, else the second
abbrev pub if_done : {A B : Type 0} → Answer A → B → B → B
if_done (Done a) x y = x
if_done (Refused n) x y = y
