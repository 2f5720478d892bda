-- Laws of a reading: cut anywhere, a kind out of its place, a record cut short, a whole record; and a reading seen through a
-- function of its state. Assumes nothing.
use mathlib.Core.Bool.{Bool, true, false}
use mathlib.Core.List.{List, [], ◌∷◌, ◌++◌, append-nil}
use mathlib.Core.Path.{◌≡◌, refl, ap, ◌∙◌}
use Prim.Native.Nat.{ℕ, zero, suc, ◌+◌, ◌≤◌, ◌<◌}
use native.Mathlib.Nat.{le_of_suc-le-suc, not-suc-le-zero}
use native.Mathlib.Omega.{arith}
use lib.Dec.{leb, eqb}
use lib.ListN.{length, get_or, take, drop, length-append, length-drop, get_or-append}
use lib.Seq.{append_snoc, drop-cons, drop-drop, length-take-le}
use borrow.Author.Tests.{le-leb, lt-leb, eq-eqb, ne_eqb}
use Rattle.refusals.specs.Answer.{pick}
use Rattle.tape.specs.Kinds.{size_of}
use Rattle.tape.specs.Record.{bytes_at}
use Rattle.tape.specs.Walk.{Out, Go, Stop, No, Walk, Between, Within, Ended, Bad, land, opened, feed, run, map_out, map_walk}
use Rattle.tape.proofs.Records.{record_none, record_some}

module _ (S : Type 0) (head : S → ℕ → ℕ) (step : S → ℕ → List ℕ → Out S) where
  abbrev reads : Walk S → List ℕ → Walk S
  reads w l = run S head step w l

  -- with the first bytes of a record; and behind a whole one
  abbrev begun : S → ℕ → List ℕ → Walk S
  begun s at bs = opened S head step s at bs

  abbrev behind : S → ℕ → List ℕ → Walk S
  behind s at r = land (step s at r) at r

  -- ---- bytes

  -- in two parts
  pub run_append : (w : Walk S) (a b : List ℕ) → reads w (a ++ b) ≡ reads (reads w a) b
  run_append w [] b = refl
  run_append w (x ∷ a) b = run_append (feed S head step w x) a b

  -- a refusal stays
  pub run_bad : (n at : ℕ) (l : List ℕ) → reads (Bad n at) l ≡ Bad n at
  run_bad n at [] = refl
  run_bad n at (x ∷ l) = run_bad n at l

  -- one byte more of a record
  one_more_lem : (bs : List ℕ) (b : ℕ) → length (bs ++ b ∷ []) ≡ length bs + 1
  one_more_lem bs b = length-append bs (b ∷ [])

  same_kind : (bs : List ℕ) (b : ℕ) → 0 < length bs → size_of (get_or (bs ++ b ∷ []) 0 0) ≡ size_of (get_or bs 0 0)
  same_kind bs b p = ap size_of (get_or-append bs (b ∷ []) 0 0 p)

  -- m bytes are missing of the record that began with bs, and they come
  complete : (m : ℕ) (s : S) (at : ℕ) (bs l : List ℕ) → size_of (get_or bs 0 0) ≡ length bs + m → 0 < length bs → m ≤ length l
      → reads (begun s at bs) l ≡ reads (behind s at (bs ++ take m l)) (drop m l)
  complete zero s at bs l e p h = rw (append-nil, le-leb (size_of (get_or bs 0 0)) (length bs) (omega arith))
  complete (suc m) s at bs [] e p h = absurd (not-suc-le-zero h)
  complete (suc m) s at bs (b ∷ l) e p h =
      rw (lt-leb (size_of (get_or bs 0 0)) (length bs) (omega arith), ← append_snoc bs b (take m l))
      (complete m s at (bs ++ b ∷ []) l (omega (arith, one_more_lem bs b, same_kind bs b p)) (omega (arith, one_more_lem bs b)) (le_of_suc-le-suc h))

  -- they do not come
  short : (s : S) (at : ℕ) (bs l : List ℕ) → length bs + length l < size_of (get_or bs 0 0) → 0 < length bs
      → reads (begun s at bs) l ≡ Within s at (bs ++ l)
  short s at bs [] h p = rw (append-nil, lt-leb (size_of (get_or bs 0 0)) (length bs) (omega arith))
  short s at bs (b ∷ l) h p =
      rw (lt-leb (size_of (get_or bs 0 0)) (length bs) (omega arith), ← append_snoc bs b l)
      (short s at (bs ++ b ∷ []) l (omega (arith, one_more_lem bs b, same_kind bs b p)) (omega (arith, one_more_lem bs b)))

  -- ---- one record

  -- a whole one, whose kind is in its place
  pub run_record : (s : S) (at k : ℕ) (l : List ℕ) → head s k ≡ 0 → (size_of k ≡ 0 → ⊥) → size_of k ≤ length (k ∷ l)
      → reads (Between s at) (k ∷ l) ≡ reads (behind s at (take (size_of k) (k ∷ l))) (drop (size_of k) (k ∷ l))
  run_record s at k l z p h = rw (eq-eqb (head s k) 0 z) (go (size_of k) refl p h)
    where
      go : (n : ℕ) → size_of k ≡ n → (n ≡ 0 → ⊥) → n ≤ length (k ∷ l)
          → reads (begun s at (k ∷ [])) l ≡ reads (behind s at (take n (k ∷ l))) (drop n (k ∷ l))
      go zero e q b = absurd (q refl)
      go (suc m) e q b = complete m s at (k ∷ []) l (omega arith) (omega arith) (le_of_suc-le-suc b)

  -- one that is cut short
  pub run_short : (s : S) (at k : ℕ) (l : List ℕ) → head s k ≡ 0 → length (k ∷ l) < size_of k
      → reads (Between s at) (k ∷ l) ≡ Within s at (k ∷ l)
  run_short s at k l z h = rw (eq-eqb (head s k) 0 z) (short s at (k ∷ []) l (omega arith) (omega arith))

  -- a kind out of its place
  pub run_head : (s : S) (at k : ℕ) (l : List ℕ) → (head s k ≡ 0 → ⊥) → reads (Between s at) (k ∷ l) ≡ Bad (head s k) at
  run_head s at k l z = rw (ne_eqb (head s k) 0 z) (run_bad (head s k) at l)

  -- ---- the same in a tape, at an offset within it: the three turns of a loop over records

  module _ (tape : List ℕ) (at : ℕ) (s : S) (inside : at < length tape) where
    abbrev kind : ℕ
    kind = get_or tape at 0

    abbrev here : List ℕ
    here = bytes_at tape at

    -- what is left of the tape begins with the kind
    begins : drop at tape ≡ kind ∷ drop (suc at) tape
    begins = drop-cons tape at 0 inside

    pub walk_head : (head s kind ≡ 0 → ⊥) → reads (Between s at) (drop at tape) ≡ Bad (head s kind) at
    walk_head z = rw begins (run_head s at kind (drop (suc at) tape) z)

    module _ (good : head s kind ≡ 0) (known : size_of kind ≡ 0 → ⊥) where
      pub walk_short : length here ≡ 0 → reads (Between s at) (drop at tape) ≡ Within s at (drop at tape)
      walk_short z = go (drop at tape) begins (rw (length-drop at tape) (record_none tape at inside known z))
        where
          go : (l : List ℕ) → l ≡ kind ∷ drop (suc at) tape → length l < size_of kind → reads (Between s at) l ≡ Within s at l
          go l e h = rw e (run_short s at kind (drop (suc at) tape) good (rw e at h))

      pub walk_record : (length here ≡ 0 → ⊥)
          → reads (Between s at) (drop at tape) ≡ reads (behind s at here) (drop (at + length here) tape)
      walk_record z =
          let w = record_some tape at inside known z in
          let b : size_of kind ≤ length (drop at tape) = rw (length-drop at tape) w.1 in
          let n : length here ≡ size_of kind = ap length w.0 ∙ length-take-le (size_of kind) (drop at tape) b in
          go (drop at tape) begins b ∙ rw (n, w.0, drop-drop (size_of kind) at tape)
        where
          go : (l : List ℕ) → l ≡ kind ∷ drop (suc at) tape → size_of kind ≤ length l
              → reads (Between s at) l ≡ reads (behind s at (take (size_of kind) l)) (drop (size_of kind) l)
          go l e h = rw e (run_record s at kind (drop (suc at) tape) good known (rw e at h))

-- ---- a reading T that adds to the state of a reading S, and refuses as S does, is S seen through f

module _ (S T : Type 0) (head : S → ℕ → ℕ) (step : S → ℕ → List ℕ → Out S) (head₂ : T → ℕ → ℕ) (step₂ : T → ℕ → List ℕ → Out T) (f : T → S)
    (heads : (t : T) (b : ℕ) → head₂ t b ≡ head (f t) b)
    (steps : (t : T) (at : ℕ) (r : List ℕ) → map_out f (step₂ t at r) ≡ step (f t) at r) where
  map_land : (o : Out T) (at : ℕ) (r : List ℕ) → map_walk f (land o at r) ≡ land (map_out f o) at r
  map_land (Go t) at r = refl
  map_land (Stop t) at r = refl
  map_land (No n) at r = refl

  map_pick : (c : Bool) (a b : Walk T) → map_walk f (pick c a b) ≡ pick c (map_walk f a) (map_walk f b)
  map_pick true a b = refl
  map_pick false a b = refl

  map_opened : (t : T) (at : ℕ) (bs : List ℕ) → map_walk f (opened T head₂ step₂ t at bs) ≡ opened S head step (f t) at bs
  map_opened t at bs = map_pick (leb (size_of (get_or bs 0 0)) (length bs)) _ _ ∙ rw (map_land (step₂ t at bs) at bs, steps t at bs)

  map_feed : (w : Walk T) (b : ℕ) → map_walk f (feed T head₂ step₂ w b) ≡ feed S head step (map_walk f w) b
  map_feed (Between t at) b = map_pick (eqb (head₂ t b) 0) _ _ ∙ rw (map_opened t at (b ∷ []), heads t b)
  map_feed (Within t at bs) b = map_opened t at (bs ++ b ∷ [])
  map_feed (Ended t at) b = refl
  map_feed (Bad n at) b = refl

  pub map_run : (w : Walk T) (l : List ℕ) → map_walk f (run T head₂ step₂ w l) ≡ run S head step (map_walk f w) l
  map_run w [] = refl
  map_run w (b ∷ l) = map_run (feed T head₂ step₂ w b) l ∙ ap (λ (x : Walk S). run S head step x l) (map_feed w b)
