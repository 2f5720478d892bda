-- What each case of the crate's answers says, in document 01's terms. Assumes nothing: these are definitions.
use Rattle.std.specs.Prelude.{List, [], ◌∷◌}
use Rattle.opcodes.specs.declared.Form.{Form}
use Rattle.opcodes.specs.declared.Forms as Fs
use Rattle.opcodes.specs.declared.Forms.TheVariants as forms

abbrev pub listed : Fs.Forms → List Form
listed forms.None = []
listed (forms.One f) = f ∷ []
listed (forms.Two f g) = f ∷ g ∷ []
