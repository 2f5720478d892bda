-- How the private functions of this crate keep what is pending, and what they ask. No promise of a public function rests on these.
-- Assumes nothing: these are definitions.
use Rattle.std.specs.Prelude.{ℕ, ◌≤◌, ◌<◌, List, [], ◌∷◌, ◌≡◌, length, drop, Option, Some, None, Result, Ok, Err}
use Rattle.refusals.specs.declared.Refusal.{Refusal}
use Rattle.refusals.specs.Says.{number_of}
use Rattle.tape.specs.Walk.{Out, Go, Stop, No}
use Rattle.form.specs.declared.State.{State}
use Rattle.form.specs.Form.{Pending, pending, top, max_tape, max_depth}

-- the depths are those from the place `from` of the array on
abbrev pub view : State → Pending
view s = pending s.scopes (drop s.from s.depths)

-- the length of the array: depth 65 and one place more
abbrev pub places : ℕ
places = 66

-- what every state keeps
pub record Fit (s : State) : Type 0 where
  pub within : s.from ≤ places
  pub size : length s.depths ≡ places

-- each depth is above 0, and at least the number of those behind it
abbrev pub Room : List ℕ → Type 0
Room [] = Unit {0}
Room (d ∷ ds) = (0 < d) × (length ds ≤ d) × Room ds

-- where a record may be stepped over: there is room, the next depth is in range, and the scopes are few
pub record Ready (s : State) : Type 0 where
  pub fit : Fit s
  pub room : 0 < s.from
  pub shallow : top (view s).depths ≤ max_depth
  pub few : s.scopes < max_tape

-- what the code's answer to a record says: of the end record that the state s is the last
abbrev pub says_stepped : State → Result (Option State) Refusal → Out Pending
says_stepped s (Ok (Some t)) = Go (view t)
says_stepped s (Ok None) = Stop (view s)
says_stepped s (Err e) = No (number_of e)

-- the state behind it, if there is one, keeps what every state keeps
abbrev pub FitBehind : Result (Option State) Refusal → Type 0
FitBehind (Ok (Some t)) = Fit t
FitBehind (Ok None) = Unit {0}
FitBehind (Err e) = Unit {0}
