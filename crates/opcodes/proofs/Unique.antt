-- Each public call allows one answer: the law of `refusals`, applied to each call's own contract. Assumes nothing.
use mathlib.Core.Path.{◌≡◌, refl}
use mathlib.Core.List.{List, [], ◌∷◌}
use Rattle.refusals.specs.Says.{says}
use Rattle.refusals.proofs.Unique.{OneResult, same, told_apart}
use Rattle.refusals.proofs.One.{back, back_says}
use Rattle.opcodes.specs.declared.Form.{Form}
use Rattle.opcodes.specs.declared.Forms as Fs
use Rattle.opcodes.specs.declared.Forms.TheVariants as forms
use Rattle.opcodes.specs.Says.{listed}
use Rattle.opcodes.proofs.in_range.Reads as in_range_lem
use Rattle.opcodes.proofs.forms_of.Reads as forms-of
use Rattle.opcodes.proofs.is_branch.Reads as is-branch
use Rattle.opcodes.proofs.length.Reads as length
use Rattle.opcodes.proofs.takes.Reads as takes
use Rattle.opcodes.proofs.encode.Reads as encode

-- ---- the case that lists these forms

abbrev unlisted : List Form → Fs.Forms
unlisted [] = forms.None
unlisted (f ∷ []) = forms.One f
unlisted (f ∷ g ∷ fs) = forms.Two f g

unlisted_listed : (x : Fs.Forms) → unlisted (listed x) ≡ x
unlisted_listed forms.None = refl
unlisted_listed (forms.One f) = refl
unlisted_listed (forms.Two f g) = refl

-- ---- the calls

pub in_range_one : OneResult in_range_lem.Post
in_range_one k a x y e f p q = same p q

pub forms_of_one : OneResult forms-of.Post
forms_of_one k a x y e f p q = told_apart listed unlisted unlisted_listed p q

pub is_branch_one : OneResult is-branch.Post
is_branch_one k a x y e f p q = same p q

pub length_one : OneResult length.Post
length_one k a x y e f p q = same p q

pub takes_one : OneResult takes.Post
takes_one k a x y e f p q = same p q

pub encode_one : OneResult encode.Post
encode_one k a x y e f p q = told_apart says back back_says p q
