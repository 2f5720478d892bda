-- What a try compares with the number list, and by which refusal. Assumes nothing: these are definitions.
use Rattle.std.specs.Prelude.{Some, None}
use Rattle.refusals.specs.declared.Refusal.TheVariants as why
use Rattle.compares.specs.declared.Compares.{Compares}

-- demand 3 compares nothing in a try: it says of labels and constants itself what their numbers are
abbrev pub plain : Compares
plain = record { label = None; constant = None }

-- a build: 13, "a label's place at the last walk is not its settled number"
abbrev pub builder : Compares
builder = record { label = Some why.Moved; constant = None }

-- a check: "with 17, for a constant's number too, in place of 13"
abbrev pub checker : Compares
checker = record { label = Some why.NumberDiffers; constant = Some why.NumberDiffers }
