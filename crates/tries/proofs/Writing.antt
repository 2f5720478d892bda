-- The public call: its arguments, and what it leaves in the lent image. Assumes nothing.
use Rattle.std.specs.Prelude.{Option}
use mathlib.Core.Bool.{true, false}
use mathlib.Core.List.{List}
use mathlib.Core.Path.{◌≡◌, refl, sym, ap, ◌∙◌}
use Prim.Native.Nat.{ℕ, ◌≤◌, ◌<◌}
use lib.IntN.{ℤ}
use lib.ListN.{length}
use borrow.Author.Tests.{eq-eqb, ne_eqb, le-leb, lt-leb}
use Rattle.refusals.specs.AnswerAt as At
use Rattle.refusals.specs.AnswerAt.{AnswerAt, Fine, Fault}
use Rattle.refusals.specs.Table.{argument}
use Rattle.refusals.proofs.Never.{never}
use Rattle.refusals.proofs.Pick.{at_true, at_false}
use Rattle.form.specs.Form.{max_tape}
use Rattle.walk.specs.Numbers.{numbers_in}
use Rattle.compares.specs.declared.Compares.{Compares}
use Rattle.tries.specs.Tries.{Trying}
use Rattle.tries.specs.Write.{is_allowed, tried_all, write_of, range_of, image_or}
use Rattle.tries.proofs.Walking.{all}

fault_range : (y : AnswerAt Trying) (m i : ℕ) → Fault m i ≡ At.mapped range_of y → y ≡ Fault m i
fault_range (Fine t) m i e = never (cc)
fault_range (Fault n j) m i e = cc

-- where all is fine, the image is that of the last statement, whatever was lent
fine_image : (y : AnswerAt Trying) {x : ℕ × ℕ} (a b : List ℕ) → Fine x ≡ At.mapped range_of y → image_or a y ≡ image_or b y
fine_image (Fine t) a b e = refl
fine_image (Fault n i) a b e = never (cc)

module _ (tape nodes : List ℕ) (numbers : List (Option ℤ)) (initial : ℕ) (c : Compares) (image : List ℕ) where
  abbrev result : AnswerAt Trying
  result = write_of tape nodes numbers initial c (length image)

  -- what the call answers, and the image at exit
  abbrev Wrote : AnswerAt (ℕ × ℕ) → List ℕ → Type 0
  Wrote a exit = (a ≡ At.mapped range_of result) × (exit ≡ image_or image result)

  faulted : (m i : ℕ) → result ≡ Fault m i → {a : AnswerAt (ℕ × ℕ)} → a ≡ Fault m i → Wrote a image
  faulted m i e h = (h ∙ sym (ap (At.mapped range_of) e), sym (ap (image_or image) e))

  -- ---- an argument out of its range

  not_allowed : is_allowed tape initial (length image) ≡ false → {a : AnswerAt (ℕ × ℕ)} → a ≡ Fault argument 0 → Wrote a image
  unfolding write_of
  not_allowed e h = faulted argument 0 (sym (at_false _ _ e)) h

  pub too_long : max_tape < length tape → {a : AnswerAt (ℕ × ℕ)} → a ≡ Fault argument 0 → Wrote a image
  unfolding is_allowed
  too_long l h = not_allowed (rw (lt-leb (length tape) max_tape l)) h

  module _ (fits : length tape ≤ max_tape) where
    pub too_high : 65536 < initial → {a : AnswerAt (ℕ × ℕ)} → a ≡ Fault argument 0 → Wrote a image
    unfolding is_allowed
    too_high l h = not_allowed (rw (le-leb (length tape) max_tape fits, lt-leb initial 65536 l)) h

    module _ (low : initial ≤ 65536) where
      pub wrong_size : (length image ≡ 65536 → ⊥) → {a : AnswerAt (ℕ × ℕ)} → a ≡ Fault argument 0 → Wrote a image
      unfolding is_allowed
      wrong_size l h = not_allowed (rw (le-leb (length tape) max_tape fits, le-leb initial 65536 low, ne_eqb (length image) 65536 l)) h

      -- ---- every statement is tried

      module _ (whole : length image ≡ 65536) where
        abbrev tries_all : AnswerAt Trying
        tries_all = all tape nodes (numbers_in numbers) c initial

        allowed : is_allowed tape initial (length image) ≡ true
        unfolding is_allowed
        allowed = rw (le-leb (length tape) max_tape fits, le-leb initial 65536 low, eq-eqb (length image) 65536 whole)

        tried : tries_all ≡ result
        unfolding write_of tried_all
        tried = at_true _ _ allowed

        pub write_refused : {m i : ℕ} → Fault m i ≡ At.mapped range_of tries_all → Wrote (Fault m i) image
        write_refused {m} {i} e = faulted m i (sym tried ∙ fault_range tries_all m i e) refl

        -- scratch: what is drawn
        pub write_range : {x : ℕ × ℕ} → Fine x ≡ At.mapped range_of tries_all → (scratch : List ℕ) → scratch ≡ image_or scratch tries_all
            → {exit : List ℕ} → exit ≡ scratch → Wrote (Fine x) exit
        write_range fine scratch h p =
            (fine ∙ ap (At.mapped range_of) tried, p ∙ h ∙ fine_image tries_all scratch image fine ∙ ap (image_or image) tried)
