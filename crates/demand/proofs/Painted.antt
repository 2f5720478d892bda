-- What records write: one byte at each address, and one range; and what one record more makes of them. Assumes nothing.
use mathlib.Core.Logic.{◌⊎◌, inl, inr}
use mathlib.Core.Path.{◌≡◌, refl, sym, subst, ◌∙◌}
use Prim.Native.Nat.{ℕ, zero, suc, ◌-◌, ◌≤◌, ◌<◌, min, max}
use native.Mathlib.Decide.{dec_lt, dec_le}
use native.Mathlib.Omega.{arith}
use lib.ListN.{length, get_or}
use Rattle.demand.specs.Demand.{Write, until, Covers, ByteAt, Writing, Spans}

-- ---- no record: no byte, and the initial place

module _ (f : ℕ → Write) where
  pub byte_blank : (a : ℕ) → ByteAt 0 f a 0
  byte_blank a = record { last = λ i c later. absurd (omega (arith, c.known)); none = λ no_one. refl }

  pub spans_blank : (initial : ℕ) → Spans 0 f initial initial initial
  spans_blank initial =
      record {
        inside = λ i w. absurd (omega (arith, w.known));
        first = λ i w. absurd (omega (arith, w.known));
        last = λ i w. absurd (omega (arith, w.known));
        none = λ no_one. (refl, refl);
      }

-- ---- n records, and one more

-- one of them is the last, or among the first n
last_or : (n i : ℕ) → i < suc n → (i ≡ n) ⊎ (i < n)
last_or n i h = elim (dec_lt i n) [ yes l ↦ inr l | no l ↦ inl (omega arith) ]

module _ (n : ℕ) (f : ℕ → Write) where
  -- what the first n do, they do among one more
  covers_more : (i a : ℕ) → Covers n f i a → Covers (suc n) f i a
  covers_more i a c = record { known = omega (arith, c.known); from = c.from; until = c.until }

  pub writing_more : (i : ℕ) → Writing n f i → Writing (suc n) f i
  writing_more i w = record { known = omega (arith, w.known); some = w.some }

  -- and what the last does not do, the first n do
  covers_fewer : (a : ℕ) → ¬ Covers (suc n) f n a → (i : ℕ) → Covers (suc n) f i a → Covers n f i a
  covers_fewer a not_last i c = go (last_or n i c.known)
    where
      go : (i ≡ n) ⊎ (i < n) → Covers n f i a
      go (inl e) = absurd (not_last (subst (λ (k : ℕ). Covers (suc n) f k a) e c))
      go (inr l) = record { known = l; from = c.from; until = c.until }

  pub writing_fewer : length (f n).bytes ≡ 0 → (i : ℕ) → Writing (suc n) f i → Writing n f i
  writing_fewer empty i w = go (last_or n i w.known)
    where
      go : (i ≡ n) ⊎ (i < n) → Writing n f i
      go (inl e) = let none : length (f i).bytes ≡ 0 = rw e empty in absurd (omega (arith, none, w.some))
      go (inr l) = record { known = l; some = w.some }

  -- ---- the byte at an address

  module _ (a : ℕ) where
    -- the last record covers it: its byte
    pub byte_over : Covers (suc n) f n a → ByteAt (suc n) f a (get_or (f n).bytes (a - (f n).from) 0)
    byte_over c = record { last = λ i d later. mine i later (last_or n i d.known); none = λ no_one. absurd (no_one n c) }
      where
        mine : (i : ℕ) → ((j : ℕ) → i < j → ¬ Covers (suc n) f j a) → (i ≡ n) ⊎ (i < n)
            → get_or (f n).bytes (a - (f n).from) 0 ≡ get_or (f i).bytes (a - (f i).from) 0
        mine i later (inl e) = rw e
        mine i later (inr l) = absurd (later n l c)

    -- it does not: the byte stays
    pub byte_kept : (b : ℕ) → ¬ Covers (suc n) f n a → ByteAt n f a b → ByteAt (suc n) f a b
    byte_kept b not_last h =
        record {
          last = λ i d later. h.last i (covers_fewer a not_last i d) (λ j x c. later j x (covers_more j a c));
          none = λ no_one. h.none (λ i c. no_one i (covers_more i a c));
        }

  -- ---- the range

  module _ (initial start end : ℕ) (s : Spans n f initial start end) where
    -- the last record writes no byte: the range stays
    pub spans_kept : length (f n).bytes ≡ 0 → Spans (suc n) f initial start end
    spans_kept empty =
        record {
          inside = λ i w. s.inside i (writing_fewer empty i w);
          first = λ i w. let (k, x, e) = s.first i (writing_fewer empty i w) in (k, writing_more k x, e);
          last = λ i w. let (k, x, e) = s.last i (writing_fewer empty i w) in (k, writing_more k x, e);
          none = λ no_one. s.none (λ i w. no_one i (writing_more i w));
        }

    -- it writes, and so did another: the range is widened
    pub spans_wider : Writing (suc n) f n → (i : ℕ) → Writing n f i
        → Spans (suc n) f initial (min start (f n).from) (max end (until (f n)))
    spans_wider mine i w =
        record {
          inside = λ j x. within j x (last_or n j x.known);
          first = λ j x. elim (dec_le start (f n).from) [
            | yes l ↦ let (k, y, e) = s.first i w in (k, writing_more k y, omega (arith, e, l))
            | no l ↦ (n, mine, omega arith)
          ];
          last = λ j x. elim (dec_le (until (f n)) end) [
            | yes l ↦ let (k, y, e) = s.last i w in (k, writing_more k y, omega (arith, e, l))
            | no l ↦ (n, mine, omega arith)
          ];
          none = λ no_one. absurd (no_one n mine);
        }
      where
        within : (j : ℕ) → Writing (suc n) f j → (j ≡ n) ⊎ (j < n)
            → (min start (f n).from ≤ (f j).from) × (until (f j) ≤ max end (until (f n)))
        within j x (inl e) = rw e (omega arith, omega arith)
        within j x (inr l) =
            let h = s.inside j (record { known = l; some = x.some }) in
            (omega (arith, h.0), omega (arith, h.1))

  -- it is the first that writes: the range is its own
  pub spans_first : (initial : ℕ) → Writing (suc n) f n → ((i : ℕ) → ¬ Writing n f i) → Spans (suc n) f initial (f n).from (until (f n))
  spans_first initial mine no_one =
      record {
        inside = λ j x. within j x (last_or n j x.known);
        first = λ j x. (n, mine, refl);
        last = λ j x. (n, mine, refl);
        none = λ none. absurd (none n mine);
      }
    where
      within : (j : ℕ) → Writing (suc n) f j → (j ≡ n) ⊎ (j < n) → ((f n).from ≤ (f j).from) × (until (f j) ≤ until (f n))
      within j x (inl e) = rw e (omega arith, omega arith)
      within j x (inr l) = absurd (no_one j (record { known = l; some = x.some }))

-- ---- there is one byte, and one range

module _ (f : ℕ → Write) where
  -- a last record covers an address, or none does
  abbrev Last : ℕ → ℕ → Type 0
  Last n a = ((i : ℕ) × Covers n f i a × ((j : ℕ) → i < j → ¬ Covers n f j a)) ⊎ ((i : ℕ) → ¬ Covers n f i a)

  -- one record more that does not cover it
  last_more : (n a : ℕ) → ¬ Covers (suc n) f n a → Last n a → Last (suc n) a
  last_more n a not_last (inl (i, c, later)) = inl (i, covers_more n f i a c, λ j x d. later j x (covers_fewer n f a not_last j d))
  last_more n a not_last (inr no_one) = inr (λ i c. no_one i (covers_fewer n f a not_last i c))

  last_of : (n a : ℕ) → Last n a
  last_of zero a = inr (λ i c. omega (arith, c.known))
  last_of (suc n) a =
      elim (dec_le (f n).from a) [
        | yes l ↦ elim (dec_lt a (until (f n))) [
          | yes m ↦ inl (n, record { known = omega arith; from = l; until = m }, λ j x c. omega (arith, x, c.known))
          | no m ↦ last_more n a (λ c. m c.until) (last_of n a)
        ]
        | no l ↦ last_more n a (λ c. l c.from) (last_of n a)
      ]

  pub byte_same : (n a b b' : ℕ) → ByteAt n f a b → ByteAt n f a b' → b ≡ b'
  byte_same n a b b' x y = go (last_of n a)
    where
      go : Last n a → b ≡ b'
      go (inl (i, c, later)) = x.last i c later ∙ sym (y.last i c later)
      go (inr no_one) = x.none no_one ∙ sym (y.none no_one)

  -- some record writes, or none does
  abbrev Any : ℕ → Type 0
  Any n = ((i : ℕ) × Writing n f i) ⊎ ((i : ℕ) → ¬ Writing n f i)

  any_of : (n : ℕ) → Any n
  any_of zero = inr (λ i w. omega (arith, w.known))
  any_of (suc n) =
      elim (dec_lt 0 (length (f n).bytes)) [
        | yes l ↦ inl (n, record { known = omega arith; some = l })
        | no l ↦ go (omega arith) (any_of n)
      ]
    where
      go : length (f n).bytes ≡ 0 → Any n → Any (suc n)
      go empty (inl (i, w)) = inl (i, writing_more n f i w)
      go empty (inr no_one) = inr (λ i w. no_one i (writing_fewer n f empty i w))

  pub spans_same : (n initial s e s' e' : ℕ) → Spans n f initial s e → Spans n f initial s' e' → (s ≡ s') × (e ≡ e')
  spans_same n initial s e s' e' x y = go (any_of n)
    where
      go : Any n → (s ≡ s') × (e ≡ e')
      go (inl (i, w)) =
          let (a, wa, ea) = x.first i w in
          let (b, wb, eb) = y.first i w in
          let (c, wc, ec) = x.last i w in
          let (d, wd, ed) = y.last i w in (
            omega (arith, ea, eb, (y.inside a wa).0, (x.inside b wb).0),
            omega (arith, ec, ed, (y.inside c wc).1, (x.inside d wd).1),
          )
      go (inr no_one) = let p = x.none no_one in let q = y.none no_one in (p.0 ∙ sym q.0, p.1 ∙ sym q.1)
