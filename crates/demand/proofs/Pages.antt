-- A page holds what the records before a record write: the blank page, and from one record to the next where there is room. What a page
-- holds is what is asked for, and nothing else is. Assumes nothing.
use mathlib.Core.Bool.{Bool, true, false}
use mathlib.Core.List.{List, [], ◌∷◌}
use mathlib.Core.Path.{◌≡◌, refl, sym, ap, subst, ◌∙◌}
use Prim.Native.Nat.{ℕ, suc, ◌+◌, ◌-◌, ◌≤◌, ◌<◌, min, max}
use native.Mathlib.Decide.{dec_lt, dec_le}
use native.Mathlib.Omega.{arith}
use lib.ListN.{length, get_or, drop, replicate, length-replicate, length-drop}
use lib.Seq.{length-take-le, get_or-take, get_or-drop, ext_get_or}
use Rattle.refusals.specs.Answer.{Done, pick}
use Rattle.refusals.proofs.Memory.{length_over, get_or_over, over_before, over_at, get_or_zeros}
use Rattle.refusals.proofs.Never.{never}
use Rattle.refusals.proofs.Pick.{done_value}
use Rattle.pen.specs.Pens.{size, begun}
use Rattle.segment.specs.Segment.{widened, ground}
use Rattle.pen.proofs.Laws.{Sound}
use Rattle.walk.specs.Walk.{Origin}
use Rattle.tries.specs.Tries.{Page, blank, drawn}
use Rattle.verdict.specs.Verdict.{covered}
use Rattle.demand.specs.Demand.{Write, until, Covers, ByteAt, Writing, Spans}
use Rattle.demand.proofs.Painted.{byte_blank, byte_over, byte_kept, byte_same, writing_more, writing_fewer}
use Rattle.demand.proofs.Painted.{spans_blank, spans_kept, spans_wider, spans_first, spans_same}
use Rattle.demand.proofs.Drawing.{with_bytes, drawn_room, drawn_is, drawn_sound}

-- of n records, record i writes f i
module _ (f : ℕ → Write) (o : Origin) where
  pub record Holds (n : ℕ) (p : Page) : Type 0 where
    pub sound : Sound p.pen
    pub long : length p.image ≡ size
    pub byte : (a : ℕ) → ByteAt n f a (get_or p.image a 0)
    pub range : Spans n f o.initial p.pen.start p.pen.end
    -- the pen knows whether one of them wrote
    pub none : p.pen.emitted ≡ false → (i : ℕ) → ¬ Writing n f i
    pub some : p.pen.emitted ≡ true → (i : ℕ) × Writing n f i

  -- no record yet
  pub holds_blank : o.initial ≤ size → Holds 0 (blank o)
  unfolding begun
  holds_blank low =
      record {
        sound = record { place = low; initial = low; target = low; start = omega arith; end = low };
        long = length-replicate {A = ℕ} size 0;
        byte = λ a. subst (ByteAt 0 f a) (sym (get_or_zeros size a)) (byte_blank f a);
        range = spans_blank f o.initial;
        none = λ e i w. omega (arith, w.known);
        some = λ e. never (cc);
      }

  -- ---- one record more

  module _ (n : ℕ) (p : Page) (h : Holds n p) where
    -- it writes no byte
    holds_kept : length (f n).bytes ≡ 0 → Holds (suc n) p
    holds_kept empty =
        record {
          sound = h.sound;
          long = h.long;
          byte = λ a. byte_kept n f a _ (λ c. omega (arith, empty, c.from, c.until)) (h.byte a);
          range = spans_kept n f o.initial _ _ h.range empty;
          none = λ e i w. h.none e i (writing_fewer n f empty i w);
          some = λ e. let (i, w) = h.some e in (i, writing_more n f i w);
        }

    -- what the bytes are laid over: an image that is cleared was zero
    abbrev under : List ℕ
    under = ground p.pen.emitted p.image

    under_same : (a : ℕ) → get_or under a 0 ≡ get_or p.image a 0
    unfolding ground
    under_same a = go p.pen.emitted refl
      where
        go : (t : Bool) → p.pen.emitted ≡ t → get_or (pick t p.image (replicate (length p.image) 0)) a 0 ≡ get_or p.image a 0
        go true e = refl
        go false e =
            let clear = (h.byte a).none (λ i c. h.none e i (record { known = c.known; some = omega (arith, c.from, c.until) })) in
            get_or_zeros (length p.image) a ∙ sym clear

    under_long : length under ≡ size
    unfolding ground
    under_long = go p.pen.emitted
      where
        go : (t : Bool) → length (pick t p.image (replicate (length p.image) 0)) ≡ size
        go true = h.long
        go false = length-replicate (length p.image) 0 ∙ h.long

    -- it writes, and has room
    module _ (mine : Writing (suc n) f n) (room : until (f n) ≤ size) where
      abbrev after : Page
      after = with_bytes p (f n).from (f n).bytes

      byte_more : (a : ℕ) → ByteAt (suc n) f a (get_or after.image a 0)
      byte_more a =
          elim (dec_le (f n).from a) [
            | yes l ↦ elim (dec_lt a (until (f n))) [ yes m ↦ inside l m | no m ↦ outside (λ c. m c.until) (behind (omega arith)) ]
            | no l ↦ outside (λ c. l c.from) (before (omega arith))
          ]
        where
          before : a < (f n).from → get_or after.image a 0 ≡ get_or under a 0
          before l = over_before under (f n).from (f n).bytes (omega (arith, under_long, room)) a l

          behind : until (f n) ≤ a → get_or after.image a 0 ≡ get_or under a 0
          behind l = get_or_over under (f n).from (f n).bytes (omega (arith, under_long, room)) a l

          outside : ¬ Covers (suc n) f n a → get_or after.image a 0 ≡ get_or under a 0 → ByteAt (suc n) f a (get_or after.image a 0)
          outside c e = subst (ByteAt (suc n) f a) (sym (e ∙ under_same a)) (byte_kept n f a _ c (h.byte a))

          inside : (f n).from ≤ a → a < until (f n) → ByteAt (suc n) f a (get_or after.image a 0)
          inside l m =
              let k = a - (f n).from in
              let there : (f n).from + k ≡ a = omega arith in
              let is = over_at under (f n).from (f n).bytes (omega (arith, under_long, room)) k (omega arith) in
              let now : get_or after.image a 0 ≡ get_or (f n).bytes k 0 = rw there at is in
              subst (ByteAt (suc n) f a) (sym now) (byte_over n f a (record { known = omega arith; from = l; until = m }))

      range_more : Spans (suc n) f o.initial after.pen.start after.pen.end
      unfolding widened
      range_more = go p.pen.emitted refl
        where
          go : (t : Bool) → p.pen.emitted ≡ t
              → Spans (suc n) f o.initial (pick t (min p.pen.start (f n).from) (f n).from)
              (pick t (max p.pen.end (until (f n))) (until (f n)))
          go true e = let (i, w) = h.some e in spans_wider n f o.initial _ _ h.range mine i w
          go false e = spans_first n f o.initial mine (h.none e)

      holds_more : Holds (suc n) after
      unfolding widened
      holds_more =
          record {
            sound = drawn_sound p (f n).from h.sound h.long (f n).bytes mine.some room;
            long = length_over under (f n).from (f n).bytes (omega (arith, under_long, room)) ∙ under_long;
            byte = byte_more;
            range = range_more;
            none = λ e. never (cc);
            some = λ e. (n, mine);
          }

    -- its bytes are drawn where they have room
    pub draws : (0 < length (f n).bytes → until (f n) ≤ size) → (q : Page) × (drawn p (f n).from (f n).bytes ≡ Done q)
    draws = go (f n).bytes
      where
        go : (bs : List ℕ) → (0 < length bs → (f n).from + length bs ≤ size) → (q : Page) × (drawn p (f n).from bs ≡ Done q)
        go [] room = (p, refl)
        go (b ∷ bs) room = (with_bytes p (f n).from (b ∷ bs), drawn_is p (f n).from h.sound h.long b bs (room (omega arith)))

    -- and only there; and then the page holds what it writes too
    pub drew : (q : Page) → drawn p (f n).from (f n).bytes ≡ Done q → (0 < length (f n).bytes → until (f n) ≤ size) × Holds (suc n) q
    drew q e = go (f n).bytes refl e
      where
        go : (bs : List ℕ) → (f n).bytes ≡ bs → drawn p (f n).from bs ≡ Done q
            → (0 < length (f n).bytes → until (f n) ≤ size) × Holds (suc n) q
        go [] is e = (λ l. absurd (omega (arith, ap length is)), subst (Holds (suc n)) (done_value e) (holds_kept (ap length is)))
        go (b ∷ bs) is e =
            let fits = drawn_room p (f n).from b bs q e in
            let room : until (f n) ≤ size = rw is fits in
            let mine : Writing (suc n) f n = record { known = omega arith; some = rw is (omega arith) } in
            let same = done_value (sym (drawn_is p (f n).from h.sound h.long b bs fits) ∙ e) in
            (λ l. room, subst (Holds (suc n)) (ap (with_bytes p (f n).from) is ∙ same) (holds_more mine room))

  -- ---- a start and bytes that are asked for are those that the page holds

  module _ (n : ℕ) (p : Page) (h : Holds n p) (start : ℕ) (bytes : List ℕ) where
    -- the bytes of its range
    abbrev held : List ℕ
    held = covered p.pen.start p.pen.end p.image

    abbrev Asked : Type 0
    Asked = Spans n f o.initial start (start + length bytes) × ((k : ℕ) → k < length bytes → ByteAt n f (start + k) (get_or bytes k 0))

    -- it is as long as the range, and has the image's bytes
    covered_long : length held ≡ p.pen.end - p.pen.start
    covered_long =
        length-take-le (p.pen.end - p.pen.start) (drop p.pen.start p.image)
        (omega (arith, length-drop p.pen.start p.image, h.long, h.sound.end))

    covered_at : (k : ℕ) → k < p.pen.end - p.pen.start → get_or held k 0 ≡ get_or p.image (p.pen.start + k) 0
    covered_at k l =
        get_or-take (p.pen.end - p.pen.start) (drop p.pen.start p.image) k 0 l ∙ get_or-drop p.pen.start p.image k 0

    -- what the page holds is asked for
    pub held_asked : start ≡ p.pen.start → bytes ≡ held → Asked
    held_asked s b = (rw (s, whole) h.range, at)
      where
        long : length bytes ≡ p.pen.end - p.pen.start
        long = ap length b ∙ covered_long

        whole : p.pen.start + length bytes ≡ p.pen.end
        whole = omega (arith, long, h.sound.start)

        at : (k : ℕ) → k < length bytes → ByteAt n f (start + k) (get_or bytes k 0)
        at k l =
            let is = ap (λ (x : List ℕ). get_or x k 0) b ∙ covered_at k (omega (arith, long, l)) in
            rw (s, is) (h.byte (p.pen.start + k))

    -- and what is asked for, it holds
    pub asked_held : Asked → (start ≡ p.pen.start) × (bytes ≡ held)
    asked_held (s, w) = (same.0, ext_get_or 0 bytes held long at)
      where
        same : (start ≡ p.pen.start) × (start + length bytes ≡ p.pen.end)
        same = spans_same f n o.initial _ _ _ _ s h.range

        long : length bytes ≡ length held
        long = omega (arith, covered_long, same.0, same.1)

        at : (k : ℕ) → k < length bytes → get_or bytes k 0 ≡ get_or held k 0
        at k l =
            let there : p.pen.start + k ≡ start + k = omega (arith, same.0) in
            byte_same f n (start + k) _ _ (w k l) (rw there at (h.byte (p.pen.start + k)))
            ∙ sym (rw there at (covered_at k (omega (arith, same.0, same.1, l))))
